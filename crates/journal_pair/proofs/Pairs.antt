-- Two files, of which one goes on while the other stays.
use Rattle.std.proofs.Common.{◌≡◌, ◌<◌, ◌+◌, ◌⊎◌, inl, inr, ℕ, Bool, true, false, ◌||◌, List, [], ◌∷◌, ◌++◌, map, Result, Ok, Err, MatchResult, OnOk, OnErr, IfOk, IfErr, refl, sym, ◌∙◌, ap, subst, arith}
use Rattle.journal_disk.specs.declared.disk.Moment.{Moment}
use Rattle.journal_disk.specs.Disk.{MayLeave, Always, Ran}
use Rattle.journal_disk.proofs.Histories.{ran_none, ran_weaker, always_weaker}
use Rattle.journal_file.specs.Journal.{IsAt, IsEither, FileOf, Found}
use Rattle.journal_file.proofs.Items.{at_file}
use Rattle.journal_file.proofs.Bytes.{on_ok_more}
use Rattle.journal_pair.specs.declared.mark.Mark.{Mark}
use Rattle.journal_pair.specs.declared.entry.Entry.{Entry}
use Rattle.journal_pair.specs.declared.entry.Entry.TheVariants.{Behind}
use Rattle.journal_pair.specs.Marks.{number_of}
use Rattle.journal_pair.specs.Entries.{entry_bytes, generation, IsBefore}
use Rattle.journal_pair.specs.Files.{HasEntries, PairOf, IsEitherPair, FoundBoth, AreAt, RanBeside, RanBoth}
use Rattle.journal_pair.proofs.Taking.{generation_more, entries_length}

-- what follows from either answer
pub on_match : {A E : Type 0} (P Q : A → Type 0) (B C : E → Type 0) (r : Result A E) → ((x : A) → P x → Q x) → ((e : E) → B e → C e) → MatchResult r P B → MatchResult r Q C
on_match P Q B C (Ok x) ok err m = ok x m
on_match P Q B C (Err e) ok err m = err e m

-- what holds whatever was answered
pub on_err_any : {A E : Type 0} (X : Type 0) (r : Result A E) → X → OnErr r X
on_err_any X (Ok x) v = tt
on_err_any X (Err e) v = v

-- neither of two
pub neither : (a b : Bool) → (a || b) ≡ false → (a ≡ false) × (b ≡ false)
neither false false is = (refl, refl)
neither false true is = absurd (cc is)
neither true b is = absurd (cc is)

-- what a crash leaves at the end of a run
pub always_last : (P : List ℕ → Type 0) (later h : List Moment) → Always P later h → (c : List ℕ) → MayLeave (later ++ h) c → P c
always_last P [] h always = always
always_last P (m ∷ later) h always = always.0

module _ {T : Type 0} (spelled : T → List ℕ) where
  module _ (mark : Mark) (checkpoint behind : List T) (earlier : List (Entry T)) (before : IsBefore mark earlier) (x y : List ℕ) (other : HasEntries spelled earlier y) where
    pub live_first : HasEntries spelled (generation mark checkpoint behind) x → PairOf spelled checkpoint behind x y
    live_first live = (generation mark checkpoint behind, (earlier, ((mark, inl (refl, before)), (live, other))))

    pub live_second : HasEntries spelled (generation mark checkpoint behind) x → PairOf spelled checkpoint behind y x
    live_second live = (earlier, (generation mark checkpoint behind, ((mark, inr (refl, before)), (other, live))))

  module _ (mark : Mark) (end other_end size : ℕ) (h k : List Moment) (checkpoint behind : List T) (at : AreAt spelled mark end other_end size h k checkpoint behind) where
    live_left : (x : List ℕ) → MayLeave h x → HasEntries spelled (generation mark checkpoint behind) x
    live_left x left = at_file (entry_bytes spelled) end h (generation mark checkpoint behind) x at.live (at.live.settled.only x left)

    other_left : (y : List ℕ) → MayLeave k y → HasEntries spelled at.earlier y
    other_left y left = at_file (entry_bytes spelled) other_end k at.earlier y at.other (at.other.settled.only y left)

    -- nothing was done
    pub left_as_is : (next later : List T) (x : List ℕ) → MayLeave h x → (y : List ℕ) → MayLeave k y → IsEitherPair spelled checkpoint behind next later x y
    left_as_is next later x live y other = inl (live_first mark checkpoint behind at.earlier at.before x y (other_left y other) (live_left x live))

    -- no call of a disk was made
    pub live_none : (stands : List Moment → Type 0) (next later : List T) (Q : List Moment → Type 0) → stands h → Q h → RanBeside stands h k (IsEitherPair spelled checkpoint behind next later) Q
    live_none stands next later Q s q = ran_none stands h (λ x. (y : List ℕ) → MayLeave k y → IsEitherPair spelled checkpoint behind next later x y) (left_as_is next later) Q s q

    pub other_none : (stands : List Moment → Type 0) (next later : List T) (Q : List Moment → Type 0) → stands k → Q k → RanBeside stands k h (λ y x. IsEitherPair spelled checkpoint behind next later x y) Q
    other_none stands next later Q s q = ran_none stands k (λ y. (x : List ℕ) → MayLeave h x → IsEitherPair spelled checkpoint behind next later x y) (λ y other x live. left_as_is next later x live y other) Q s q

    -- items were put behind
    module _ (items : List T) (put : List (Entry T)) (put_is : put ≡ map Behind items) where
      abbrev Now : List (Entry T)
      Now = generation mark checkpoint behind

      more : Now ++ put ≡ generation mark checkpoint (behind ++ items)
      more = ap (λ l. Now ++ l) put_is ∙ generation_more mark checkpoint behind items

      appended_file : (x : List ℕ) → IsEither (entry_bytes spelled) Now (Now ++ put) x → (y : List ℕ) → MayLeave k y → IsEitherPair spelled checkpoint behind checkpoint (behind ++ items) x y
      appended_file x (inl live) y left = inl (live_first mark checkpoint behind at.earlier at.before x y (other_left y left) live)
      appended_file x (inr live) y left = inr (live_first mark checkpoint (behind ++ items) at.earlier at.before x y (other_left y left) (subst (λ l. HasEntries spelled l x) more live))

      appended_at : (next : ℕ) (l : List Moment) → IsAt (entry_bytes spelled) next l (Now ++ put) → AreAt spelled mark next other_end size l k checkpoint (behind ++ items)
      appended_at next l live = record { earlier = at.earlier; live = subst (IsAt (entry_bytes spelled) next l) more live; other = at.other; before = at.before; size_is = at.size_is }

      same_at : (next : ℕ) (l : List Moment) → IsAt (entry_bytes spelled) next l Now → AreAt spelled mark next other_end size l k checkpoint behind
      same_at next l live = record { earlier = at.earlier; live = live; other = at.other; before = at.before; size_is = at.size_is }

      pub appended : {E : Type 0} (stands : List Moment → Type 0) (next : ℕ) (r : Result (Unit {0}) E) (one whole : Bool) → (whole ≡ false → one ≡ false)
          → Ran stands h (IsEither (entry_bytes spelled) Now (Now ++ put)) (λ l. MatchResult r (λ _. IsAt (entry_bytes spelled) next l (Now ++ put)) (λ _. one ≡ false → IsAt (entry_bytes spelled) next l Now))
          → RanBeside stands h k (IsEitherPair spelled checkpoint behind checkpoint (behind ++ items)) (λ l. MatchResult r (λ _. AreAt spelled mark next other_end size l k checkpoint (behind ++ items)) (λ _. whole ≡ false → AreAt spelled mark next other_end size l k checkpoint behind))
      appended stands next r one whole each ran =
          ran_weaker stands h (IsEither (entry_bytes spelled) Now (Now ++ put)) (λ x. (y : List ℕ) → MayLeave k y → IsEitherPair spelled checkpoint behind checkpoint (behind ++ items) x y) _ _ appended_file
          (λ l. on_match _ _ _ _ r (λ _ live. appended_at next l live) (λ _ live unshut. same_at next l (live (each unshut)))) ran

      -- with their memory found before
      pub put_there : {E : Type 0} (stands : List Moment → Type 0) (next : ℕ) (r : Result (Unit {0}) E)
          → Ran stands h (IsEither (entry_bytes spelled) Now (Now ++ put)) (λ l. OnOk r (IsAt (entry_bytes spelled) next l (Now ++ put)))
          → RanBeside stands h k (IsEitherPair spelled checkpoint behind checkpoint (behind ++ items)) (λ l. OnOk r (AreAt spelled mark next other_end size l k checkpoint (behind ++ items)))
      put_there stands next r ran =
          ran_weaker stands h (IsEither (entry_bytes spelled) Now (Now ++ put)) (λ x. (y : List ℕ) → MayLeave k y → IsEitherPair spelled checkpoint behind checkpoint (behind ++ items) x y) _ _ appended_file
          (λ l. on_ok_more _ _ r (appended_at next l)) ran

    -- the other file was replaced by the next generation
    module _ (next : Mark) (later : number_of mark < number_of next) (kept : List T) (made : List (Entry T)) (made_is : made ≡ generation next kept []) where
      now_before : IsBefore next (generation mark checkpoint behind)
      now_before = inr (mark, (checkpoint, (behind, (later, refl))))

      abbrev Left : List ℕ → Type 0
      Left y = (FileOf (entry_bytes spelled) at.earlier y) ⊎ (IsEither (entry_bytes spelled) [] made y)

      replaced_file : (y : List ℕ) → Left y → (x : List ℕ) → MayLeave h x → IsEitherPair spelled checkpoint behind kept [] x y
      replaced_file y (inl other) x left = inl (live_first mark checkpoint behind at.earlier at.before x y other (live_left x left))
      replaced_file y (inr (inl other)) x left = inl (live_first mark checkpoint behind [] (inl refl) x y other (live_left x left))
      replaced_file y (inr (inr file)) x left = inr (live_second next kept [] (generation mark checkpoint behind) now_before y x (live_left x left) (subst (λ l. HasEntries spelled l y) made_is file))

      pub replaced : (stands : List Moment → Type 0) (Q S : List Moment → Type 0) → ((l : List Moment) → Q l → S l) → Ran stands k (λ y. (FileOf (entry_bytes spelled) at.earlier y) ⊎ (IsEither (entry_bytes spelled) [] made y)) Q
          → RanBeside stands k h (λ y x. IsEitherPair spelled checkpoint behind kept [] x y) S
      replaced stands Q S ends ran = ran_weaker stands k (λ y. (FileOf (entry_bytes spelled) at.earlier y) ⊎ (IsEither (entry_bytes spelled) [] made y)) (λ y. (x : List ℕ) → MayLeave h x → IsEitherPair spelled checkpoint behind kept [] x y) Q S replaced_file ends ran

      -- it is the live one now
      pub made_at : (last long : ℕ) (l : List Moment) → long ≡ last + 1 → IsAt (entry_bytes spelled) last l made → AreAt spelled next last end long l h kept []
      made_at last long l is file =
          let live : IsAt (entry_bytes spelled) last l (generation next kept []) = subst (IsAt (entry_bytes spelled) last l) made_is file in
          record {
            earlier = generation mark checkpoint behind;
            live = live;
            other = at.live;
            before = now_before;
            size_is = omega (arith, is, live.place, entries_length (entry_bytes spelled) (generation next kept []) live.front live.entries);
          }

      -- it is not
      pub kept_at : (last : ℕ) (l : List Moment) → IsAt (entry_bytes spelled) last l at.earlier → AreAt spelled mark end last size h l checkpoint behind
      kept_at last l other = record { earlier = at.earlier; live = at.live; other = other; before = at.before; size_is = at.size_is }

  -- one disk was opened, and then the other
  module _ (xs ys : List (Entry T)) (h k : List Moment) where
    found_first : (x : List ℕ) → Found (entry_bytes spelled) xs h x → (y : List ℕ) → MayLeave k y → FoundBoth spelled xs ys h k x y
    found_first x found y left = (found, inl left)

    pub found_both : (one two : List Moment → Type 0) (Q R : List Moment → Type 0) (S : List Moment → List Moment → Type 0) → ((l m : List Moment) → Q l → R m → S l m)
        → Ran one h (Found (entry_bytes spelled) xs h) Q → Ran two k (Found (entry_bytes spelled) ys k) R → RanBoth one two h k (FoundBoth spelled xs ys h k) S
    found_both one two Q R S ends first second = record {
      later = first.later;
      stands_for = first.stands_for;
      always = always_weaker (Found (entry_bytes spelled) xs h) (λ x. (y : List ℕ) → MayLeave k y → FoundBoth spelled xs ys h k x y) first.later h found_first first.always;
      ends = ran_weaker two k (Found (entry_bytes spelled) ys k) (λ y. (x : List ℕ) → MayLeave (first.later ++ h) x → FoundBoth spelled xs ys h k x y) R (λ m. S (first.later ++ h) m)
          (λ y found x left. (always_last (Found (entry_bytes spelled) xs h) first.later h first.always x left, found)) (λ m r. ends (first.later ++ h) m first.ends r) second;
    }

    -- one alone
    pub found_one : (one two : List Moment → Type 0) (Q : List Moment → Type 0) (S : List Moment → List Moment → Type 0) → two k → ((l : List Moment) → Q l → S l k)
        → Ran one h (Found (entry_bytes spelled) xs h) Q → RanBoth one two h k (FoundBoth spelled xs ys h k) S
    found_one one two Q S stands ends first = found_both one two Q (λ m. m ≡ k) S (λ l m q is. subst (S l) (sym is) (ends l q)) first
        (ran_none two k (Found (entry_bytes spelled) ys k) (λ c left. inl left) (λ m. m ≡ k) stands refl)

-- the one was begun, and the other one was made
pub created : (live other : List Moment → Type 0) (h k : List Moment) (Q R : List Moment → Type 0) (S : List Moment → List Moment → Type 0) → ((l m : List Moment) → Q l → R m → S l m)
    → Ran live h (λ _. Unit {0}) Q → Ran other k (λ _. Unit {0}) R → RanBoth live other h k (λ _ _. Unit {0}) S
created live other h k Q R S ends first second = record {
  later = first.later;
  stands_for = first.stands_for;
  always = always_weaker (λ _. Unit {0}) (λ x. (y : List ℕ) → MayLeave k y → Unit {0}) first.later h (λ c _ y _. tt) first.always;
  ends = ran_weaker other k (λ _. Unit {0}) (λ y. (x : List ℕ) → MayLeave (first.later ++ h) x → Unit {0}) R (λ m. S (first.later ++ h) m) (λ c _ x _. tt) (λ m made. ends (first.later ++ h) m first.ends made) second;
}

-- the first generation was begun
pub started : {T : Type 0} (spelled : T → List ℕ) (mark : Mark) (last other_end long : ℕ) (l k : List Moment) → long ≡ last + 1
    → IsAt (entry_bytes spelled) last l (generation mark [] []) → IsAt (entry_bytes spelled) other_end k [] → AreAt spelled mark last other_end long l k [] []
started spelled mark last other_end long l k is live other = record {
  earlier = [];
  live = live;
  other = other;
  before = inl refl;
  size_is = omega (arith, is, live.place, entries_length (entry_bytes spelled) (generation mark [] []) live.front live.entries);
}

-- what an answer has has what follows
pub on_if_ok : {A E : Type 0} (P Q : A → Type 0) (r : Result A E) → ((x : A) → P x → Q x) → IfOk r P → IfOk r Q
on_if_ok P Q (Ok x) on p = on x p
on_if_ok P Q (Err e) on p = tt

pub on_if_err : {A E : Type 0} (P Q : E → Type 0) (r : Result A E) → ((e : E) → P e → Q e) → IfErr r P → IfErr r Q
on_if_err P Q (Ok x) on p = tt
on_if_err P Q (Err e) on p = on e p
