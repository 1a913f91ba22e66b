-- A file is settled, emptied and begun with the first generation.
use Rattle.std.proofs.Common.{◌≡◌, ◌⊎◌, ℕ, zero, suc, ◌+◌, ◌≤◌, ◌-◌, List, [], ◌∷◌, ◌++◌, length, drop, Result, Ok, Err, OnOk, IfOk, refl, sym, ◌∙◌, ap, subst, arith, length-append}
use Rattle.std.proofs.lemmas.List.{append-nil}
use Rattle.journal_disk.specs.declared.disk.Moment.{Moment}
use Rattle.journal_disk.specs.Disk.{seen, MayLeave, Between, Shortens, Torn, Holds, IsSettled, Ran}
use Rattle.journal_disk.proofs.Histories.{ran_more, ran_weaker}
use Rattle.journal_file.specs.Journal.{EndsAt, FileOf, IsAt, opened}
use Rattle.journal_file.proofs.Beginning.{settling}
use Rattle.journal_file.proofs.Bytes.{on_ok_more}
use Rattle.journal_file.proofs.Items.{opened_entries}

abbrev Any : List ℕ → Type 0
Any c = Unit {0}

abbrev the_none : List ℕ
the_none = []

drop-nil : (m : ℕ) → drop m (the_none) ≡ []
drop-nil zero = refl
drop-nil (suc m) = refl

-- what an empty file holds after a write at its start
held_all : (bytes old new : List ℕ) → old ≡ [] → Holds old 0 bytes new → new ≡ bytes
held_all bytes old new empty holds =
    let whole : Holds [] 0 bytes new = subst (λ (f : List ℕ). Holds f 0 bytes new) empty holds in
    whole ∙ ap (λ (l : List ℕ). bytes ++ l) (drop-nil (0 + length bytes)) ∙ append-nil bytes

module _ (h : List Moment) (bytes : List ℕ) where
  pub writing : {T E : Type 0} (mid next stands : List Moment → Type 0) (r : Result T E) → Ran mid h (λ c. (MayLeave h c) ⊎ (c ≡ seen h)) (λ l. (IsSettled l) × (seen l ≡ seen h))
      → ((h1 : List Moment) → mid h1 → IsSettled h1 → 0 ≤ length (seen h1) → Ran next h1 (Between 0 (seen h1)) (λ l. (IsSettled l) × (Shortens 0 (seen h1) (seen l))))
      → ((h2 : List Moment) → next h2 → IsSettled h2 → 0 ≤ length (seen h2) → Ran stands h2 (Torn 0 (length bytes) (seen h2)) (λ l. OnOk r ((IsSettled l) × (Holds (seen h2) 0 bytes (seen l)))))
      → Ran stands h (λ _. Unit {0}) (λ l. OnOk r ((IsSettled l) × (seen l ≡ bytes)))
  writing mid next stands r first second third = ran_more mid stands h Any (λ l. (IsSettled l) × (seen l ≡ seen h)) Done (settling h mid _ _ (λ l q. q) first) after
    where
      Done : List Moment → Type 0
      Done l = OnOk r ((IsSettled l) × (seen l ≡ bytes))

      Empty : List Moment → Type 0
      Empty l = (IsSettled l) × (seen l ≡ [])

      last : (h2 : List Moment) → next h2 → Empty h2 → Ran stands h2 Any Done
      last h2 s q = ran_weaker stands h2 (Torn 0 (length bytes) (seen h2)) Any _ Done (λ c _. tt)
          (λ l. on_ok_more _ _ r (λ w. (w.0, held_all bytes (seen h2) (seen l) q.1 w.1))) (third h2 s q.0 (omega arith))

      after : (h1 : List Moment) → mid h1 → (IsSettled h1) × (seen h1 ≡ seen h) → Ran stands h1 Any Done
      after h1 s q = ran_more next stands h1 Any Empty Done (ran_weaker next h1 (Between 0 (seen h1)) Any _ Empty (λ c _. tt) (λ l w. (w.0, w.1)) (second h1 s q.0 (omega arith))) last

-- a file of entries and a closed gate
module _ {T : Type 0} (spelled : T → List ℕ) (xs : List T) (out : List ℕ) (is : out ≡ opened spelled xs ++ 0 ∷ []) where
  pub opened_long : (len : ℕ) → len ≡ length out → (len - 1) + 1 ≡ length out
  opened_long len long = omega (arith, long, ap length is, length-append (opened spelled xs) (0 ∷ []))

  opened_ends : (end : ℕ) (file : List ℕ) → end + 1 ≡ length out → file ≡ out → EndsAt spelled xs end file
  opened_ends end file long same = record {
    front = opened spelled xs;
    tail = [];
    entries = opened_entries spelled xs;
    file_is = same ∙ is;
    place = omega (arith, long, ap length is, length-append (opened spelled xs) (0 ∷ []));
  }

  -- it was written, and then cut behind that gate
  pub begun_at : (mid stands : List Moment → Type 0) (h : List Moment) (end last : ℕ) → end + 1 ≡ length out → last ≡ end → Ran mid h (λ _. Unit {0}) (λ l. (IsSettled l) × (seen l ≡ out))
      → ((h1 : List Moment) (ys : List T) → mid h1 → IsSettled h1 → EndsAt spelled ys end (seen h1) → Ran stands h1 (FileOf spelled ys) (λ l. IsAt spelled end l ys))
      → Ran stands h (λ _. Unit {0}) (λ l. IsAt spelled last l xs)
  begun_at mid stands h end last long same first second = ran_more mid stands h Any (λ l. (IsSettled l) × (seen l ≡ out)) (λ l. IsAt spelled last l xs) first
      (λ h1 s q. ran_weaker stands h1 (FileOf spelled xs) Any (λ l. IsAt spelled end l xs) (λ l. IsAt spelled last l xs) (λ c _. tt) (λ l at. subst (λ e. IsAt spelled e l xs) (sym same) at)
      (second h1 xs s q.0 (opened_ends end (seen h1) long q.1)))

-- what follows from two things that an answer has
pub on_if_ok_both : {A E : Type 0} (P Q R : A → Type 0) (r : Result A E) → ((x : A) → P x → Q x → R x) → IfOk r P → IfOk r Q → IfOk r R
on_if_ok_both P Q R (Ok x) on p q = on x p q
on_if_ok_both P Q R (Err e) on p q = tt
