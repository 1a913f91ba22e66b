-- Two files stand for one state, and how long the live one is.
use Rattle.std.proofs.Common.{◌≡◌, ◌<◌, ◌≤◌, ◌+◌, ◌*◌, ◌⊎◌, inl, inr, ℕ, List, [], ◌++◌, length, map, refl, sym, ◌∙◌, ap, subst, arith, length-append}
use Rattle.std.proofs.lemmas.List.{map-append}
use Rattle.journal_disk.specs.declared.disk.Moment.{Moment}
use Rattle.journal_disk.specs.Disk.{seen, MayLeave}
use Rattle.journal_file.specs.Journal.{opened}
use Rattle.journal_file.proofs.Items.{at_file}
use Rattle.journal_pair.specs.declared.mark.Mark.{Mark}
use Rattle.journal_pair.specs.declared.entry.Entry.{Entry}
use Rattle.journal_pair.specs.declared.entry.Entry.TheVariants.{Behind}
use Rattle.journal_pair.specs.Marks.{number_of}
use Rattle.journal_pair.specs.Entries.{entry_bytes, generation, IsBefore, ArePair}
use Rattle.journal_pair.specs.Files.{AreAt, PairOf, size_of}
use Rattle.journal_pair.proofs.Taking.{one_generation, generation_more, opened_append, entries_length}
use Rattle.journal_pair.proofs.Pairs.{live_first}

module _ {T : Type 0} where
  -- a generation that stands before another has a lower number
  pub before_less : (n m : Mark) (ys : List (Entry T)) (kept later : List T) → ys ≡ generation n kept later → IsBefore m ys → number_of n < number_of m
  before_less n m ys kept later is (inl none) = absurd (cc (sym none ∙ is))
  before_less n m ys kept later is (inr old) = subst (λ o. number_of o < number_of m) (one_generation old.0 n old.1.0 old.1.1.0 kept later (sym old.1.1.1.1 ∙ is)).mark old.1.1.1.0

  -- one of them alone is the later
  never_both : (m n : Mark) (xs ys : List (Entry T)) (checkpoint behind kept later : List T) → xs ≡ generation m checkpoint behind → IsBefore m ys → ys ≡ generation n kept later → IsBefore n xs → ⊥
  never_both m n xs ys checkpoint behind kept later x before y other =
      let low : number_of n < number_of m = before_less n m ys kept later y before in
      let high : number_of m < number_of n = before_less m n xs checkpoint behind x other in
      omega (arith, low, high)

  pub one_state : (xs ys : List (Entry T)) (checkpoint behind kept later : List T) → ArePair checkpoint behind xs ys → ArePair kept later xs ys → (checkpoint ≡ kept) × (behind ≡ later)
  one_state xs ys checkpoint behind kept later (m, inl a) (n, inl b) = let one = one_generation m n checkpoint behind kept later (sym a.0 ∙ b.0) in (one.checkpoints, one.behinds)
  one_state xs ys checkpoint behind kept later (m, inl a) (n, inr b) = absurd (never_both m n xs ys checkpoint behind kept later a.0 a.1 b.0 b.1)
  one_state xs ys checkpoint behind kept later (m, inr a) (n, inl b) = absurd (never_both m n ys xs checkpoint behind kept later a.0 a.1 b.0 b.1)
  one_state xs ys checkpoint behind kept later (m, inr a) (n, inr b) = let one = one_generation m n checkpoint behind kept later (sym a.0 ∙ b.0) in (one.checkpoints, one.behinds)

  module _ (spelled : T → List ℕ) (mark : Mark) (end other_end size : ℕ) (h k : List Moment) (checkpoint behind : List T) (at : AreAt spelled mark end other_end size h k checkpoint behind) where
    -- what a crash leaves, and what a read gives
    pub pair_left : (x y : List ℕ) → MayLeave h x → MayLeave k y → PairOf spelled checkpoint behind x y
    pair_left x y live other = live_first spelled mark checkpoint behind at.earlier at.before x y (at_file (entry_bytes spelled) other_end k at.earlier y at.other (at.other.settled.only y other))
        (at_file (entry_bytes spelled) end h (generation mark checkpoint behind) x at.live (at.live.settled.only x live))

    pub pair_seen : PairOf spelled checkpoint behind (seen h) (seen k)
    pair_seen = live_first spelled mark checkpoint behind at.earlier at.before (seen h) (seen k) (at_file (entry_bytes spelled) other_end k at.earlier (seen k) at.other refl)
        (at_file (entry_bytes spelled) end h (generation mark checkpoint behind) (seen h) at.live refl)

    pub live_long : end + 1 ≡ size + size_of spelled (map Behind behind)
    live_long =
        let begun = generation mark checkpoint [] in
        let whole : length at.live.front ≡ size_of spelled (generation mark checkpoint behind) = entries_length (entry_bytes spelled) (generation mark checkpoint behind) at.live.front at.live.entries in
        let split : size_of spelled (generation mark checkpoint behind) ≡ length (opened (entry_bytes spelled) begun ++ opened (entry_bytes spelled) (map Behind behind)) =
        ap (size_of spelled) (sym (generation_more mark checkpoint [] behind)) ∙ ap length (opened_append (entry_bytes spelled) begun (map Behind behind)) in
        omega (arith, at.live.place, whole, split, at.size_is, length-append (opened (entry_bytes spelled) begun) (opened (entry_bytes spelled) (map Behind behind)))

  module _ (spelled : T → List ℕ) (mark : Mark) (end other_end size next : ℕ) (h k l : List Moment) (checkpoint behind items : List T) where
    more_long : AreAt spelled mark end other_end size h k checkpoint behind → AreAt spelled mark next other_end size l k checkpoint (behind ++ items) → next + 1 ≡ (end + 1) + size_of spelled (map Behind items)
    more_long at later =
        let old : end + 1 ≡ size + size_of spelled (map Behind behind) = live_long spelled mark end other_end size h k checkpoint behind at in
        let new : next + 1 ≡ size + size_of spelled (map Behind (behind ++ items)) = live_long spelled mark next other_end size l k checkpoint (behind ++ items) later in
        let split : size_of spelled (map Behind (behind ++ items)) ≡ length (opened (entry_bytes spelled) (map Behind behind) ++ opened (entry_bytes spelled) (map Behind items)) =
        ap (size_of spelled) (map-append Behind behind items) ∙ ap length (opened_append (entry_bytes spelled) (map Behind behind) (map Behind items)) in
        omega (arith, old, new, split, length-append (opened (entry_bytes spelled) (map Behind behind)) (opened (entry_bytes spelled) (map Behind items)))

    pub most_long : (floor : ℕ) → AreAt spelled mark end other_end size h k checkpoint behind → AreAt spelled mark next other_end size l k checkpoint (behind ++ items) → (end + 1 ≤ floor) ⊎ (end + 1 ≤ 2 * size)
        → (next + 1 ≤ floor + size_of spelled (map Behind items)) ⊎ (next + 1 ≤ 2 * size + size_of spelled (map Behind items))
    most_long floor at later (inl most) = inl (omega (arith, more_long at later, most))
    most_long floor at later (inr most) = inr (omega (arith, more_long at later, most))
