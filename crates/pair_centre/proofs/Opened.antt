-- A centre with its journal in two files is opened.
use Rattle.std.proofs.Common.{◌≡◌, ◌⊎◌, inl, inr, ℕ, List, refl, sym, ◌∙◌, ap, subst}
use Rattle.journal_disk.specs.declared.disk.Disk.{Ghosts}
use Rattle.journal_disk.specs.declared.disk.Moment.{Moment}
use Rattle.journal_disk.specs.Disk.{seen, MayLeave}
use Rattle.journal_disk.proofs.Histories.{ran_weaker}
use Rattle.journal_pair.specs.declared.entry.Entry as pair
use Rattle.journal_pair.specs.declared.faults.Side.{Side}
use Rattle.journal_pair.specs.declared.faults.Side.TheVariants.{First, Second}
use Rattle.journal_pair.specs.declared.faults.PairFault.{PairFault}
use Rattle.journal_pair.specs.declared.faults.PairFault.TheVariants.{NoMemory}
use Rattle.journal_pair.specs.Causes as pair_causes
use Rattle.journal_pair.specs.Choices.{at_side, beside}
use Rattle.journal_pair.specs.Entries.{ArePair}
use Rattle.journal_pair.specs.Files.{RanBoth, PairOf, FoundBoth}
use Rattle.journal_pair.specs.Pairs as pairs
use Rattle.dc_talk.specs.declared.settings.Settings.{Settings}
use Rattle.dc_talk.specs.Answers.{History}
use Rattle.dc_talk.specs.Entries.{Entry}
use Rattle.dc_centre.specs.Centre.{StandsFor}
use Rattle.pair_centre.specs.declared.item.PairItem.{PairItem}
use Rattle.pair_centre.specs.declared.faults.CentreFault.{CentreFault}
use Rattle.pair_centre.specs.declared.faults.CentreFault.TheVariants.{Pair, BadCheckpoint, BadAsk}
use Rattle.pair_centre.specs.declared.pair_centre.PairCentre.{PairCentre}
use Rattle.pair_centre.specs.Causes.{HasFault, HasCauseIn}
use Rattle.pair_centre.specs.Faults.{IsBadCentre}
use Rattle.pair_centre.specs.Items.{item_bytes}
use Rattle.pair_centre.specs.Open.{centre_of, settings_of, live_disk, other_disk, IsPairOf}
use Rattle.pair_centre.specs.States.{IsStateOf, IsFoundPair}
use Rattle.pair_centre.proofs.Starting.{no_fault}

-- what follows for two disks that went on
pub both_weaker : (one two : List Moment → Type 0) (h k : List Moment) (P R : List ℕ → List ℕ → Type 0) (Q S : List Moment → List Moment → Type 0) → ((x y : List ℕ) → P x y → R x y) → ((l m : List Moment) → Q l m → S l m) → RanBoth one two h k P Q → RanBoth one two h k R S
both_weaker one two h k P R Q S files ends ran =
    ran_weaker one h (λ x. (y : List ℕ) → MayLeave k y → P x y) (λ x. (y : List ℕ) → MayLeave k y → R x y) _ _ (λ x is y left. files x y (is y left))
    (λ l later. ran_weaker two k (λ y. (x : List ℕ) → MayLeave l x → P x y) (λ y. (x : List ℕ) → MayLeave l x → R x y) (λ m. Q l m) (λ m. S l m) (λ y is x left. files x y (is x left)) (λ m q. ends l m q) later) ran

-- both of two are honest, in whichever order they were given
pub honest_both : {D : Type 0} (honest : D → Type 0) (side : Side) (live other : D) → honest (at_side side live other) → honest (beside side live other) → (honest live) × (honest other)
honest_both honest First live other one two = (one, two)
honest_both honest Second live other one two = (two, one)

-- a fault in the items of two files is one of the files
pub cause_of : (s : Settings) (why : CentreFault) (checkpoint behind : List PairItem) (x y : List ℕ) → PairOf item_bytes checkpoint behind x y → HasFault s why checkpoint behind → HasCauseIn s why x y
cause_of s (Pair why) checkpoint behind x y files fault = subst (λ w. pair_causes.HasCauseIn item_bytes w x y) (sym fault) (files.0, (files.1.0, (files.1.1.1.0, (files.1.1.1.1, tt))))
cause_of s BadCheckpoint checkpoint behind x y files fault = (checkpoint, (behind, (files, fault)))
cause_of s (BadAsk place) checkpoint behind x y files fault = (checkpoint, (behind, (files, fault)))

module _ (s : Settings) (h k : List Moment) (trail : List Entry) (checkpoint behind : List PairItem) (state : IsStateOf s trail checkpoint behind) (xs ys : List (pair.Entry PairItem)) (are : ArePair checkpoint behind xs ys) where
  -- what was found of them
  pub found : (x y : List ℕ) → FoundBoth item_bytes xs ys h k x y → IsFoundPair s trail h k x y
  found x y both = (checkpoint, (behind, (xs, (ys, (state, are, both)))))

  -- the files of a trail are not bad
  pub not_bad : {D : Type 0} (on : D → List Moment → Type 0) (first second a b : D) (Q : List Moment → List Moment → Type 0) (why told : CentreFault) → first ≡ a → second ≡ b → told ≡ why → HasFault s why checkpoint behind → History s trail
      → RanBoth (on a) (on b) h k (FoundBoth item_bytes xs ys h k) Q → RanBoth (on first) (on second) h k (IsFoundPair s trail h k) (λ _ _. IsBadCentre told → ⊥)
  not_bad on first second a b Q why told first_is second_is told_is fault history ran =
      let never : IsBadCentre told → ⊥ = λ bad. no_fault s why checkpoint behind trail fault history state (subst IsBadCentre told_is bad) in
      subst (λ d. RanBoth (on d) (on second) h k (IsFoundPair s trail h k) (λ _ _. IsBadCentre told → ⊥)) (sym first_is)
      (subst (λ d. RanBoth (on a) (on d) h k (IsFoundPair s trail h k) (λ _ _. IsBadCentre told → ⊥)) (sym second_is)
      (both_weaker (on a) (on b) h k (FoundBoth item_bytes xs ys h k) (IsFoundPair s trail h k) Q (λ _ _. IsBadCentre told → ⊥) found (λ l m q. never) ran))

  module _ {D : Type 0} {disk : Ghosts D} (p : PairCentre D disk) (same : settings_of p ≡ s) (history : History s trail) (stands : StandsFor (centre_of p) trail) where
    -- the centre stands for the trail
    pub is_open : (l m : List Moment) → pairs.Has item_bytes p.pair l m checkpoint behind → IsPairOf p l m trail
    is_open l m files = record {
      history = subst (λ (g : Settings). History g trail) (sym same) history;
      centre = stands;
      checkpoint = checkpoint;
      behind = behind;
      state = subst (λ (g : Settings). IsStateOf g trail checkpoint behind) (sym same) state;
      files = files;
    }

    -- whichever of its disks was given first
    pub either_side : (on : D → List Moment → Type 0) (side : Side)
        → RanBoth (on (at_side side (live_disk p) (other_disk p))) (on (beside side (live_disk p) (other_disk p))) h k (FoundBoth item_bytes xs ys h k) (λ l m. pairs.Has item_bytes p.pair (at_side side l m) (beside side l m) checkpoint behind)
        → (RanBoth (on (live_disk p)) (on (other_disk p)) h k (IsFoundPair s trail h k) (λ l m. IsPairOf p l m trail))
        ⊎ (RanBoth (on (other_disk p)) (on (live_disk p)) h k (IsFoundPair s trail h k) (λ l m. IsPairOf p m l trail))
    either_side on First ran = inl (both_weaker (on (live_disk p)) (on (other_disk p)) h k (FoundBoth item_bytes xs ys h k) (IsFoundPair s trail h k) (λ l m. pairs.Has item_bytes p.pair l m checkpoint behind) (λ l m. IsPairOf p l m trail) found is_open ran)
    either_side on Second ran = inr (both_weaker (on (other_disk p)) (on (live_disk p)) h k (FoundBoth item_bytes xs ys h k) (IsFoundPair s trail h k) (λ l m. pairs.Has item_bytes p.pair m l checkpoint behind) (λ l m. IsPairOf p m l trail) found (λ l m. is_open m l) ran)
