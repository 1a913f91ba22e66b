-- What a link delivers, and what it holds, was put on it.
use Rattle.std.proofs.Common.{◌≡◌, ℕ, ◌+◌, ◌==◌, inl, inr, ⊎_elim, Bool, true, false, cond, List, [], ◌∷◌, ◌++◌, length, take, drop, Option, Some, None, sym, ap, subst}
use Rattle.std.specs.Prelude.{◌⊎◌, not, filter}
use Rattle.list_core.specs.Members.{In}
use Rattle.list_core.proofs.Members.{In_left, In_right, In_either, In_take, In_drop, In_from_map, In_from_filter, In_from_flat_map}
use Rattle.dc_talk.specs.declared.sent.Sent.{Sent}
use Rattle.dc_talk.specs.declared.links.LinkFault.{LinkFault}
use Rattle.dc_talk.specs.declared.links.LinkFault.TheVariants.{Clean, Drop, Twice, Hold, Cut, Bend}
use Rattle.dc_talk.specs.declared.links.FrameFault.{FrameFault}
use Rattle.dc_talk.specs.declared.links.Arrival.{Arrival}
use Rattle.dc_talk.specs.declared.links.Arrival.TheVariants.{Whole, Spoilt}
use Rattle.script_core.specs.declared.rounds.TheConstants.{MOST_MAILED}
use Rattle.script_core.specs.Links.{is_nth, spoils, read_with, all_left_by, wholes, numbered_on, swapped, through, passed, behind_first, Inlet, arrivals, arrived_count}
use Rattle.script_core.specs.Mail.{Post, post_put, taken_in_round, due_in_round, post_after_round, due_at_close, post_closed, post_set, lying}

module _ {X : Type 0} where
  -- a numbered item is an item
  numbered_among : (before : ℕ) (items : List X) (it : ℕ × X) → In it (numbered_on before items) → In it.1 items
  numbered_among before [] it there = absurd there
  numbered_among before (x ∷ xs) it (inl same) = inl (λ i. (same i).1)
  numbered_among before (x ∷ xs) it (inr later) = inr (numbered_among (before + 1) xs it later)

  -- items that change places are among the items
  swapped_among : (every before : ℕ) (items : List X) (x : X) → In x (swapped every before items) → In x items
  swapped_among every before [] x there = there
  swapped_among every before (y ∷ []) x there = there
  swapped_among every before (y ∷ z ∷ rest) x there = go (is_nth every (before + 1)) there (swapped_among every (before + 2) rest x) (swapped_among every (before + 1) (z ∷ rest) x)
    where
      go : (test : Bool) → In x (cond test (z ∷ y ∷ swapped every (before + 2) rest) (y ∷ swapped every (before + 1) (z ∷ rest))) → (In x (swapped every (before + 2) rest) → In x rest) → (In x (swapped every (before + 1) (z ∷ rest)) → In x (z ∷ rest)) → In x (y ∷ z ∷ rest)
      go true (inl same) short long = inr (inl same)
      go true (inr (inl same)) short long = inl same
      go true (inr (inr later)) short long = inr (inr (short later))
      go false (inl same) short long = inl same
      go false (inr later) short long = inr (long later)

  -- so is what a fault lets through
  through_among : (fault : LinkFault) (before : ℕ) (items : List X) (x : X) → In x (through fault before items) → In x items
  through_among Clean before items x there = there
  through_among (Drop every) before items x there =
      let from = In_from_map (λ (it : ℕ × X). it.1) (filter (λ (it : ℕ × X). not (is_nth every it.0)) (numbered_on before items)) x there in
      let kept = In_from_filter (λ (it : ℕ × X). not (is_nth every it.0)) (numbered_on before items) from.0 from.1 in
      subst (λ y. In y items) (sym from.2) (numbered_among before items from.0 kept.0)
  through_among (Twice every) before items x there =
      let from = In_from_flat_map (λ (it : ℕ × X). cond (is_nth every it.0) (it.1 ∷ it.1 ∷ []) (it.1 ∷ [])) (numbered_on before items) x there in
      go from.0 (is_nth every from.0.0) (numbered_among before items from.0 from.1) from.2
    where
      go : (it : ℕ × X) (test : Bool) → In it.1 items → In x (cond test (it.1 ∷ it.1 ∷ []) (it.1 ∷ [])) → In x items
      go it true is (inl same) = subst (λ y. In y items) (sym same) is
      go it true is (inr (inl same)) = subst (λ y. In y items) (sym same) is
      go it true is (inr (inr none)) = absurd none
      go it false is (inl same) = subst (λ y. In y items) (sym same) is
      go it false is (inr none) = absurd none
  through_among (Hold every) before items x there = go (every == 1) there
    where
      go : (test : Bool) → In x (cond test items (swapped every before items)) → In x items
      go true is = is
      go false is = swapped_among every before items x is
  through_among (Cut every) before items x there = there
  through_among (Bend every) before items x there = there

  -- so is what comes behind what was held
  behind_among : (fault : LinkFault) (before : ℕ) (held items : List X) (x : X) → In x (behind_first fault before held items) → In x items ⊎ In x held
  behind_among fault before held [] x there = inr there
  behind_among fault before held (first ∷ rest) x there =
      let all : List X = through fault before (first ∷ rest) in
      let place : ℕ = length (passed fault before (first ∷ [])) in
      let own : In x all → In x (first ∷ rest) ⊎ In x held = λ among. inl (through_among fault before (first ∷ rest) x among) in
      ⊎_elim
      (λ front. ⊎_elim
      (λ early. own (In_take place all x early))
      (λ late. inr late)
      (In_either (take place all) held x front))
      (λ back. own (In_drop place all x back))
      (In_either (take place all ++ held) (drop place all) x there)

-- ---- items as they were left

module _ {X : Type 0} where
  -- a whole one is what was put
  one_left : (why : Option FrameFault) (number : ℕ) (x y : X) → Whole x ≡ read_with why number y → x ≡ y
  one_left None number x y same = ap (λ (a : Arrival X). whole_or y a) same
    where
      whole_or : X → Arrival X → X
      whole_or y (Whole x) = x
      whole_or y (Spoilt number why) = y
  one_left (Some why) number x y same = absurd (subst is_whole same tt)
    where
      is_whole : Arrival X → Type 0
      is_whole (Whole x) = Unit {0}
      is_whole (Spoilt number why) = ⊥

  left_among : (fault : LinkFault) (before : ℕ) (items : List X) (x : X) → In (Whole x) (all_left_by fault before items) → In x items
  left_among fault before [] x there = absurd there
  left_among fault before (y ∷ ys) x (inl same) = inl (one_left (spoils fault (before + 1)) (before + 1) x y same)
  left_among fault before (y ∷ ys) x (inr later) = inr (left_among fault (before + 1) ys x later)

  -- what was read is one of the whole ones
  pub wholes_from : (all : List (Arrival X)) (x : X) → In x (wholes all) → In (Whole x) all
  wholes_from [] x there = absurd there
  wholes_from (Whole y ∷ all) x (inl same) = inl (ap Whole same)
  wholes_from (Whole y ∷ all) x (inr later) = inr (wholes_from all x later)
  wholes_from (Spoilt number why ∷ all) x there = inr (wholes_from all x there)

  pub to_wholes : (all : List (Arrival X)) (x : X) → In (Whole x) all → In x (wholes all)
  to_wholes [] x there = absurd there
  to_wholes (Whole y ∷ all) x (inl same) = inl (one_left None 0 x y same)
  to_wholes (Whole y ∷ all) x (inr later) = inr (to_wholes all x later)
  to_wholes (Spoilt number why ∷ all) x (inl same) = absurd (one_spoilt same)
    where
      is_whole : Arrival X → Type 0
      is_whole (Whole x) = Unit {0}
      is_whole (Spoilt number why) = ⊥

      one_spoilt : Whole x ≡ Spoilt number why → ⊥
      one_spoilt same = subst is_whole same tt
  to_wholes (Spoilt number why ∷ all) x (inr later) = to_wholes all x later

  -- what arrives whole was taken or held
  pub arrivals_among : (inlet : Inlet X) (items : List X) (x : X) → In (Whole x) (arrivals inlet items) → In x (items ++ wholes inlet.held)
  arrivals_among inlet items x there = ⊎_elim
      (λ taken. In_left items (wholes inlet.held) x (left_among inlet.fault inlet.before items x taken))
      (λ held. In_right items (wholes inlet.held) x (to_wholes inlet.held x held))
      (behind_among inlet.fault inlet.before inlet.held (all_left_by inlet.fault inlet.before items) (Whole x) there)

-- what lies of a part of what waits
part_lies : (post : Post) (part : List Sent) → ((item : Sent) → In item part → In item post.waits) → (item : Sent) → In item (part ++ wholes post.inlet.held) → In item (lying post)
part_lies post part among item there = ⊎_elim
    (λ waits. In_left post.waits (wholes post.inlet.held) item (among item waits))
    (λ held. In_right post.waits (wholes post.inlet.held) item held)
    (In_either part (wholes post.inlet.held) item there)

-- what a round takes, with what is held, lay there
taken_lies : (post : Post) (item : Sent) → In (Whole item) (arrivals post.inlet (taken_in_round post)) → In item (lying post)
taken_lies post item there = part_lies post (taken_in_round post) (λ item among. In_take MOST_MAILED post.waits item among) item (arrivals_among post.inlet (taken_in_round post) item there)

-- what is due in a round lies on the link
pub due_lies : (post : Post) (item : Sent) → In (Whole item) (due_in_round post) → In item (lying post)
due_lies post item there = taken_lies post item (In_take (arrived_count post.inlet (taken_in_round post)) (arrivals post.inlet (taken_in_round post)) (Whole item) there)

-- so does what is due at the close
pub close_lies : (post : Post) (item : Sent) → In (Whole item) (due_at_close post) → In item (lying post)
close_lies post item there = arrivals_among post.inlet post.waits item there

-- what lies there behind a round lay there before
pub after_round_lies : (post : Post) (item : Sent) → In item (lying (post_after_round post)) → In item (lying post)
after_round_lies post item there =
    let all : List (Arrival Sent) = arrivals post.inlet (taken_in_round post) in
    let count : ℕ = arrived_count post.inlet (taken_in_round post) in
    ⊎_elim
    (λ waits. In_left post.waits (wholes post.inlet.held) item (In_drop MOST_MAILED post.waits item waits))
    (λ held. taken_lies post item (In_drop count all (Whole item) (wholes_from (drop count all) item held)))
    (In_either (drop MOST_MAILED post.waits) (wholes (drop count all)) item there)

-- behind the close nothing lies there
pub closed_lies : (post : Post) (item : Sent) → In item (lying (post_closed post)) → In item (lying post)
closed_lies post item there = absurd there

-- more that is put lies there with what did
pub put_lies : (items : List Sent) (post : Post) (item : Sent) → In item (lying (post_put items post)) → In item items ⊎ In item (lying post)
put_lies items post item there = ⊎_elim
    (λ waits. ⊎_elim (λ old. inr (In_left post.waits (wholes post.inlet.held) item old)) (λ new. inl new) (In_either post.waits items item waits))
    (λ held. inr (In_right post.waits (wholes post.inlet.held) item held))
    (In_either (post.waits ++ items) (wholes post.inlet.held) item there)

-- with another fault the same lies there
pub set_lies : (fault : LinkFault) (post : Post) (item : Sent) → In item (lying (post_set fault post)) → In item (lying post)
set_lies fault post item there = there
