-- What is delivered of items, item by item.
use Rattle.std.proofs.Common.{◌≡◌, ◌≤◌, ℕ, zero, suc, ◌+◌, ◌-◌, ◌%◌, ◌==◌, Bool, true, false, true≢false, cond, not, List, [], ◌∷◌, ◌++◌, map, filter, length, take, drop, refl, sym, ap, ◌∙◌, arith}
use Rattle.std.proofs.lemmas.Bool.{eqb-true, eq-eqb}
use Rattle.std.proofs.lemmas.List.{append-nil, take-append-drop, length-append}
use Rattle.std.proofs.Math.Seq.{take-length, take-append_seam, drop-append_seam, take-append-add, drop-append-add}
use Rattle.std.proofs.Math.Nat.{sub-zero, mod-add-mod, mod-eq_of_lt, mod-zero, mod-one}
use Rattle.dc_talk.specs.declared.links.Arrival.{Arrival}
use Rattle.dc_talk.specs.declared.links.Arrival.TheVariants.{Whole}
use Rattle.dc_talk.specs.declared.links.LinkFault.{LinkFault}
use Rattle.dc_talk.specs.declared.links.LinkFault.TheVariants.{Clean, Drop, Twice, Hold, Cut, Bend}
use Rattle.script_core.specs.Steps.{IsFault}
use Rattle.script_core.specs.Links.{Inlet, is_nth, is_held, left_by, all_left_by, numbered_on, swapped, through, passed, behind_first, arrivals, still_held, arrived, inlet_after}
use Rattle.dc_worker.specs.Inlets.{HasCount, at_once, comes, stays}

-- a choice between the same
same_both : {Y : Type 0} (test : Bool) (y : Y) → cond test y y ≡ y
same_both true y = refl
same_both false y = refl

-- a script's fault counts to at least 1
pub fault_counts : (fault : LinkFault) → IsFault fault → HasCount fault
fault_counts Clean is = tt
fault_counts (Drop every) is = is.0
fault_counts (Twice every) is = is.0
fault_counts (Hold every) is = is.0
fault_counts (Cut every) is = is.0
fault_counts (Bend every) is = is.0

-- two multiples in a row are so of 1 alone
nth_twice : (every number : ℕ) → is_nth every number ≡ true → is_nth every (number + 1) ≡ true → every ≡ 1
nth_twice zero number first next = let none : number + 1 ≡ 0 = sym (mod-zero (number + 1)) ∙ eqb-true _ _ next in omega (arith, none)
nth_twice (suc zero) number first next = refl
nth_twice (suc (suc e)) number first next =
    let rest : number % suc (suc e) ≡ 0 = eqb-true _ _ first in
    let one : (0 + 1) % suc (suc e) ≡ 0 = ap (λ r. (r + 1) % suc (suc e)) (sym rest) ∙ (mod-add-mod number (suc (suc e)) 1 ∙ eqb-true _ _ next) in
    let small : 1 % suc (suc e) ≡ 1 = mod-eq_of_lt (omega arith) in
    omega (arith, one, small)

-- ---- items as they were left
module _ {Y : Type 0} where
  -- ---- what passes of items where nothing was held before

  through_none : (fault : LinkFault) (before : ℕ) → through {X = Y} fault before [] ≡ []
  through_none Clean before = refl
  through_none (Drop every) before = refl
  through_none (Twice every) before = refl
  through_none (Hold every) before = same_both (every == 1) []
  through_none (Cut every) before = refl
  through_none (Bend every) before = refl

  -- an item that is not held goes on, and changes places with none that comes later
  swapped_on : (every before : ℕ) (x : Y) (xs : List Y) → is_nth every (before + 1) ≡ false → swapped every before (x ∷ xs) ≡ x ∷ swapped every (before + 1) xs
  swapped_on every before x [] free = refl
  swapped_on every before x (y ∷ ys) free = ap (λ test. cond test (y ∷ x ∷ swapped every (before + 2) ys) (x ∷ swapped every (before + 1) (y ∷ ys))) free

  through_on : (fault : LinkFault) (before : ℕ) (x : Y) (xs : List Y) → is_held fault (before + 1) ≡ false → through fault before (x ∷ xs) ≡ at_once fault (before + 1) x ++ through fault (before + 1) xs
  through_on Clean before x xs free = refl
  through_on (Drop every) before x xs free = go (is_nth every (before + 1))
    where
      rest : List (ℕ × Y)
      rest = filter (λ it. not (is_nth every it.0)) (numbered_on (before + 1) xs)

      go : (test : Bool) → map (λ (it : ℕ × Y). it.1) (cond (not test) ((before + 1, x) ∷ rest) rest) ≡ cond test [] (x ∷ []) ++ map (λ it. it.1) rest
      go true = refl
      go false = refl
  through_on (Twice every) before x xs free = refl
  through_on (Hold every) before x xs free = go (every == 1) ∙ ap (λ test. cond test [] (x ∷ []) ++ through (Hold every) (before + 1) xs) (sym free)
    where
      go : (test : Bool) → cond test (x ∷ xs) (swapped every before (x ∷ xs)) ≡ x ∷ cond test xs (swapped every (before + 1) xs)
      go true = refl
      go false = swapped_on every before x xs free
  through_on (Cut every) before x xs free = refl
  through_on (Bend every) before x xs free = refl

  through_first : (fault : LinkFault) (before : ℕ) (x : Y) → is_held fault (before + 1) ≡ false → through fault before (x ∷ []) ≡ at_once fault (before + 1) x
  through_first fault before x free = through_on fault before x [] free ∙ (ap (λ more. at_once fault (before + 1) x ++ more) (through_none fault (before + 1)) ∙ append-nil (at_once fault (before + 1) x))

  -- an item that is held, by itself
  through_held : (every before : ℕ) (x : Y) → through (Hold every) before (x ∷ []) ≡ x ∷ []
  through_held every before x = same_both (every == 1) (x ∷ [])

  -- an item that is held, where the next one is held too
  through_held_both : (every before : ℕ) (x y : Y) (ys : List Y) → is_nth every (before + 1) ≡ true → is_nth every (before + 2) ≡ true → through (Hold every) before (x ∷ y ∷ ys) ≡ x ∷ through (Hold every) (before + 1) (y ∷ ys)
  through_held_both every before x y ys first next =
      let next : is_nth every ((before + 1) + 1) ≡ true = ap (is_nth every) (omega arith) ∙ next in
      ap (λ e. through (Hold e) before (x ∷ y ∷ ys)) one ∙ ap (λ e. x ∷ through (Hold e) (before + 1) (y ∷ ys)) (sym one)
    where
      one : every ≡ 1
      one = nth_twice every (before + 1) first (ap (is_nth every) (omega arith) ∙ next)

  -- an item that is held goes directly behind the next one, where that is not held
  through_held_free : (every before : ℕ) (x y : Y) (ys : List Y) → is_nth every (before + 1) ≡ true → is_nth every (before + 2) ≡ false → through (Hold every) before (x ∷ y ∷ ys) ≡ y ∷ x ∷ through (Hold every) (before + 2) ys
  through_held_free every before x y ys first free = go (every == 1) refl
    where
      go : (test : Bool) → (every == 1) ≡ test → cond test (x ∷ y ∷ ys) (swapped every before (x ∷ y ∷ ys)) ≡ y ∷ x ∷ cond test ys (swapped every (before + 2) ys)
      go true one = absurd (true≢false (sym (ap (λ e. is_nth e (before + 2)) (eqb-true every 1 one) ∙ eq-eqb ((before + 2) % 1) 0 (mod-one (before + 2))) ∙ free))
      go false other = ap (λ test. cond test (y ∷ x ∷ swapped every (before + 2) ys) (x ∷ swapped every (before + 1) (y ∷ ys))) first

  -- ---- what passes of an item, and what was held comes behind it

  -- where nothing is held
  behind_nothing : (fault : LinkFault) (before : ℕ) (xs : List Y) → behind_first fault before [] xs ≡ through fault before xs
  behind_nothing fault before [] = sym (through_none fault before)
  behind_nothing fault before (x ∷ xs) =
      let place : ℕ = length (passed fault before (x ∷ [])) in
      let all : List Y = through fault before (x ∷ xs) in
      ap (λ front. front ++ drop place all) (append-nil (take place all)) ∙ take-append-drop place all

  -- an item that is not held passes
  passed_free : (fault : LinkFault) (before : ℕ) (x : Y) → is_held fault (before + 1) ≡ false → passed fault before (x ∷ []) ≡ at_once fault (before + 1) x
  passed_free fault before x free =
      let all : List Y = through fault before (x ∷ []) in
      ap (λ test. take (length all - cond test 1 0) all) free ∙ (ap (λ n. take n all) (sub-zero (length all)) ∙ (take-length all ∙ through_first fault before x free))

  behind_free : (fault : LinkFault) (before : ℕ) (held : List Y) (x : Y) (xs : List Y) → is_held fault (before + 1) ≡ false → behind_first fault before held (x ∷ xs) ≡ (at_once fault (before + 1) x ++ held) ++ through fault (before + 1) xs
  behind_free fault before held x xs free =
      let first : List Y = at_once fault (before + 1) x in
      let rest : List Y = through fault (before + 1) xs in
      let place : ℕ = length (passed fault before (x ∷ [])) in
      ap (λ all. (take place all ++ held) ++ drop place all) (through_on fault before x xs free)
      ∙ (ap (λ n. (take n (first ++ rest) ++ held) ++ drop n (first ++ rest)) (ap (λ (xs : List Y). length xs) (passed_free fault before x free))
      ∙ (ap (λ front. (front ++ held) ++ drop (length first) (first ++ rest)) (take-append_seam first rest)
      ∙ ap (λ back. (first ++ held) ++ back) (drop-append_seam first rest)))

  -- one that is held is not
  passed_held : (every before : ℕ) (x : Y) → is_nth every (before + 1) ≡ true → passed (Hold every) before (x ∷ []) ≡ []
  passed_held every before x is =
      let all : List Y = through (Hold every) before (x ∷ []) in
      ap (λ test. take (length all - cond test 1 0) all) is ∙ ap (λ (all : List Y). take (length all - 1) all) (through_held every before x)

  behind_held : (every before : ℕ) (held : List Y) (x : Y) (xs : List Y) → is_nth every (before + 1) ≡ true → behind_first (Hold every) before held (x ∷ xs) ≡ held ++ through (Hold every) before (x ∷ xs)
  behind_held every before held x xs is =
      let all : List Y = through (Hold every) before (x ∷ xs) in
      ap (λ n. (take n all ++ held) ++ drop n all) (ap (λ (xs : List Y). length xs) (passed_held every before x is))

  -- where an item was held, the others come as if it were the first of them
  behind_kept : (every before : ℕ) (x : Y) (xs : List Y) → is_nth every (before + 1) ≡ true → behind_first (Hold every) (before + 1) (x ∷ []) xs ≡ through (Hold every) before (x ∷ xs)
  behind_kept every before x [] is = sym (through_held every before x)
  behind_kept every before x (y ∷ ys) is = go (is_nth every ((before + 1) + 1)) refl
    where
      two : (before + 1) + 1 ≡ before + 2
      two = omega arith

      go : (test : Bool) → is_nth every ((before + 1) + 1) ≡ test → behind_first (Hold every) (before + 1) (x ∷ []) (y ∷ ys) ≡ through (Hold every) before (x ∷ y ∷ ys)
      go true next = behind_held every (before + 1) (x ∷ []) y ys next ∙ sym (through_held_both every before x y ys is (ap (is_nth every) (sym two) ∙ next))
      go false free =
          behind_free (Hold every) (before + 1) (x ∷ []) y ys free
          ∙ (ap (λ test. (cond test [] (y ∷ []) ++ x ∷ []) ++ through (Hold every) ((before + 1) + 1) ys) free
          ∙ (ap (λ n. y ∷ x ∷ through (Hold every) n ys) two
          ∙ sym (through_held_free every before x y ys is (ap (is_nth every) (sym two) ∙ free))))

  -- nothing is left behind as many as there are
  drop_all : (xs : List Y) → drop (length xs) xs ≡ []
  drop_all [] = refl
  drop_all (x ∷ xs) = drop_all xs

-- ---- items as they arrive
module _ {X : Type 0} where
  -- an end of a link with this fault, behind so many items, which holds these
  abbrev inlet : LinkFault → ℕ → List (Arrival X) → Inlet X
  inlet fault before held = record { fault = fault; before = before; held = held }

  -- ---- one item

  -- what is delivered of it, and what is held then
  record IsOne (fault : LinkFault) (before : ℕ) (held : List (Arrival X)) (x : X) : Type 0 where
    pub comes_first : arrived (inlet fault before held) (x ∷ []) ≡ comes fault (before + 1) x ++ held
    pub stays_then : inlet_after (inlet fault before held) (x ∷ []) ≡ inlet fault (before + 1) (stays fault (before + 1) x)
    pub others : (xs : List X) → arrivals (inlet fault before held) (x ∷ xs) ≡ (comes fault (before + 1) x ++ held) ++ arrivals (inlet fault (before + 1) (stays fault (before + 1) x)) xs

  one_free : (fault : LinkFault) (before : ℕ) (held : List (Arrival X)) (x : X) → is_held fault (before + 1) ≡ false → IsOne fault before held x
  one_free fault before held x free = record {
    comes_first = ap (λ test. take (length all - cond test 1 0) all) free ∙ (ap (λ n. take n all) (sub-zero (length all)) ∙ (take-length all ∙ whole));
    stays_then = ap (λ held. inlet fault (before + 1) held) (ap (λ test. drop (length all - cond test 1 0) all) free ∙ (ap (λ n. drop n all) (sub-zero (length all)) ∙ (drop_all all ∙ none)));
    others = λ xs.
        behind_free fault before held (left_by fault (before + 1) x) (all_left_by fault (before + 1) xs) free
        ∙ (ap (λ rest. (comes fault (before + 1) x ++ held) ++ rest) (sym (behind_nothing fault (before + 1) (all_left_by fault (before + 1) xs)))
        ∙ ap (λ held'. (comes fault (before + 1) x ++ held) ++ arrivals (inlet fault (before + 1) held') xs) none);
  }
    where
      all : List (Arrival X)
      all = arrivals (inlet fault before held) (x ∷ [])

      none : [] ≡ stays fault (before + 1) x
      none = ap (λ test. cond test (left_by fault (before + 1) x ∷ []) []) (sym free)

      whole : all ≡ comes fault (before + 1) x ++ held
      whole = behind_free fault before held (left_by fault (before + 1) x) [] free ∙ (ap (λ more. (comes fault (before + 1) x ++ held) ++ more) (through_none fault (before + 1)) ∙ append-nil (comes fault (before + 1) x ++ held))

  one_held : (every before : ℕ) (held : List (Arrival X)) (x : X) → is_nth every (before + 1) ≡ true → IsOne (Hold every) before held x
  one_held every before held x is = record {
    comes_first = ap (λ test. take (length all - cond test 1 0) all) is ∙ (ap (λ (all : List (Arrival X)). take (length all - 1) all) whole ∙ (ap (λ n. take n (held ++ Whole x ∷ [])) few ∙ (take-append_seam held (Whole x ∷ []) ∙ ap (λ front. front ++ held) nothing)));
    stays_then = ap (λ held. inlet (Hold every) (before + 1) held) (ap (λ test. drop (length all - cond test 1 0) all) is ∙ (ap (λ (all : List (Arrival X)). drop (length all - 1) all) whole ∙ (ap (λ n. drop n (held ++ Whole x ∷ [])) few ∙ (drop-append_seam held (Whole x ∷ []) ∙ kept))));
    others = λ xs.
        behind_held every before held (Whole x) (all_left_by (Hold every) (before + 1) xs) is
        ∙ (ap (λ rest. held ++ rest) (sym (behind_kept every before (Whole x) (all_left_by (Hold every) (before + 1) xs) is))
        ∙ (ap (λ front. (front ++ held) ++ arrivals (inlet (Hold every) (before + 1) (Whole x ∷ [])) xs) nothing
        ∙ ap (λ held'. (comes (Hold every) (before + 1) x ++ held) ++ arrivals (inlet (Hold every) (before + 1) held') xs) kept));
  }
    where
      all : List (Arrival X)
      all = arrivals (inlet (Hold every) before held) (x ∷ [])

      nothing : [] ≡ comes (Hold every) (before + 1) x
      nothing = ap (λ test. cond test [] (Whole x ∷ [])) (sym is)

      kept : Whole x ∷ [] ≡ stays (Hold every) (before + 1) x
      kept = ap (λ test. cond test (Whole x ∷ []) []) (sym is)

      whole : all ≡ held ++ Whole x ∷ []
      whole = behind_held every before held (Whole x) [] is ∙ ap (λ more. held ++ more) (through_held every before (Whole x))

      few : length (held ++ Whole x ∷ []) - 1 ≡ length held
      few = omega (arith, length-append held (Whole x ∷ []))

  one_item : (fault : LinkFault) (before : ℕ) (held : List (Arrival X)) (x : X) → IsOne fault before held x
  one_item Clean before held x = one_free Clean before held x refl
  one_item (Drop every) before held x = one_free (Drop every) before held x refl
  one_item (Twice every) before held x = one_free (Twice every) before held x refl
  one_item (Hold every) before held x = go (is_nth every (before + 1)) refl
    where
      go : (test : Bool) → is_nth every (before + 1) ≡ test → IsOne (Hold every) before held x
      go true is = one_held every before held x is
      go false free = one_free (Hold every) before held x free
  one_item (Cut every) before held x = one_free (Cut every) before held x refl
  one_item (Bend every) before held x = one_free (Bend every) before held x refl

  pub arrived_one : (fault : LinkFault) (before : ℕ) (held : List (Arrival X)) (x : X) → arrived (inlet fault before held) (x ∷ []) ≡ comes fault (before + 1) x ++ held
  arrived_one fault before held x = (one_item fault before held x).comes_first

  pub after_one : (fault : LinkFault) (before : ℕ) (held : List (Arrival X)) (x : X) → inlet_after (inlet fault before held) (x ∷ []) ≡ inlet fault (before + 1) (stays fault (before + 1) x)
  after_one fault before held x = (one_item fault before held x).stays_then

  -- ---- an item, and then others

  -- as many are held behind all as behind the others
  still_next : (fault : LinkFault) (before : ℕ) (held : List (Arrival X)) (x : X) (xs : List X) → still_held (inlet fault before held) (x ∷ xs) ≡ still_held (inlet fault (before + 1) (stays fault (before + 1) x)) xs
  still_next fault before held x [] = go (is_held fault (before + 1))
    where
      go : (test : Bool) → cond test 1 0 ≡ length (cond test (left_by fault (before + 1) x ∷ []) [])
      go true = refl
      go false = refl
  still_next fault before held x (y ∷ ys) =
      let same : before + length (x ∷ y ∷ ys) ≡ (before + 1) + length (y ∷ ys) = omega arith in
      ap (λ n. cond (is_held fault n) 1 0) same

  -- no more are held than come when no more are taken
  still_few : (fault : LinkFault) (before : ℕ) (held : List (Arrival X)) (xs : List X) → still_held (inlet fault before held) xs ≤ length (arrivals (inlet fault before held) xs)
  still_few fault before held [] = omega arith
  still_few fault before held (x ∷ xs) =
      let front : List (Arrival X) = comes fault (before + 1) x ++ held in
      let rest : List (Arrival X) = arrivals (inlet fault (before + 1) (stays fault (before + 1) x)) xs in
      let few : still_held (inlet fault (before + 1) (stays fault (before + 1) x)) xs ≤ length rest = still_few fault (before + 1) (stays fault (before + 1) x) xs in
      let same = still_next fault before held x xs in
      let long : length (arrivals (inlet fault before held) (x ∷ xs)) ≡ length front + length rest = ap (λ (xs : List (Arrival X)). length xs) ((one_item fault before held x).others xs) ∙ length-append front rest in
      omega (arith, few, same, long)

  -- what is delivered of all while more may come, and what is held
  record IsNext (fault : LinkFault) (before : ℕ) (held : List (Arrival X)) (x : X) (xs : List X) : Type 0 where
    pub front : arrived (inlet fault before held) (x ∷ xs) ≡ (comes fault (before + 1) x ++ held) ++ arrived (inlet fault (before + 1) (stays fault (before + 1) x)) xs
    pub behind : inlet_after (inlet fault before held) (x ∷ xs) ≡ inlet_after (inlet fault (before + 1) (stays fault (before + 1) x)) xs

  next_item : (fault : LinkFault) (before : ℕ) (held : List (Arrival X)) (x : X) (xs : List X) → IsNext fault before held x xs
  next_item fault before held x xs = record {
    front = ap (λ n. take (length all - n) all) still ∙ (ap (λ (all : List (Arrival X)). take (length all - left) all) whole ∙ (ap (λ n. take n (first ++ rest)) count ∙ take-append-add first rest (length rest - left)));
    behind =
        ap (λ n. inlet fault n (drop (length all - still_held (inlet fault before held) (x ∷ xs)) all)) (omega arith)
        ∙ ap (λ held. inlet fault ((before + 1) + length xs) held) (ap (λ n. drop (length all - n) all) still ∙ (ap (λ (all : List (Arrival X)). drop (length all - left) all) whole ∙ (ap (λ n. drop n (first ++ rest)) count ∙ drop-append-add first rest (length rest - left))));
  }
    where
      all : List (Arrival X)
      all = arrivals (inlet fault before held) (x ∷ xs)

      first : List (Arrival X)
      first = comes fault (before + 1) x ++ held

      rest : List (Arrival X)
      rest = arrivals (inlet fault (before + 1) (stays fault (before + 1) x)) xs

      left : ℕ
      left = still_held (inlet fault (before + 1) (stays fault (before + 1) x)) xs

      still : still_held (inlet fault before held) (x ∷ xs) ≡ left
      still = still_next fault before held x xs

      whole : all ≡ first ++ rest
      whole = (one_item fault before held x).others xs

      few : left ≤ length rest
      few = still_few fault (before + 1) (stays fault (before + 1) x) xs

      count : length (first ++ rest) - left ≡ length first + (length rest - left)
      count = omega (arith, length-append first rest, few)

  pub arrivals_next : (i : Inlet X) (x : X) (xs : List X) → arrivals i (x ∷ xs) ≡ arrived i (x ∷ []) ++ arrivals (inlet_after i (x ∷ [])) xs
  arrivals_next i x xs =
      let one = one_item i.fault i.before i.held x in
      one.others xs ∙ (ap (λ front. front ++ arrivals (inlet i.fault (i.before + 1) (stays i.fault (i.before + 1) x)) xs) (sym one.comes_first) ∙ ap (λ i'. arrived i (x ∷ []) ++ arrivals i' xs) (sym one.stays_then))

  pub arrived_next : (i : Inlet X) (x : X) (xs : List X) → arrived i (x ∷ xs) ≡ arrived i (x ∷ []) ++ arrived (inlet_after i (x ∷ [])) xs
  arrived_next i x xs =
      let one = one_item i.fault i.before i.held x in
      (next_item i.fault i.before i.held x xs).front ∙ (ap (λ front. front ++ arrived (inlet i.fault (i.before + 1) (stays i.fault (i.before + 1) x)) xs) (sym one.comes_first) ∙ ap (λ i'. arrived i (x ∷ []) ++ arrived i' xs) (sym one.stays_then))

  pub after_next : (i : Inlet X) (x : X) (xs : List X) → inlet_after i (x ∷ xs) ≡ inlet_after (inlet_after i (x ∷ [])) xs
  after_next i x xs =
      let one = one_item i.fault i.before i.held x in
      (next_item i.fault i.before i.held x xs).behind ∙ ap (λ i'. inlet_after i' xs) (sym one.stays_then)
