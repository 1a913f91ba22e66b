-- What a write and a cut leave of a file, whole or cut short.
use Rattle.std.proofs.Common.{◌≡◌, ℕ, ◌+◌, ◌-◌, ◌≤◌, min, List, ◌++◌, ◌∷◌, length, take, drop, sym, ◌∙◌, ap, subst, arith, append_assoc, length-append, length-take, length-drop}
use Rattle.std.proofs.lemmas.List.{take_min, take-take, take_at, drop_at, take_rest, length-take-le}
use Rattle.journal_disk.specs.declared.disk.Moment.{Moment}
use Rattle.journal_disk.specs.declared.disk.Step.TheVariants.{Wrote, Cut}
use Rattle.journal_disk.specs.Disk.{moment, seen, MayLeave, IsSettled, Holds, Shortens, Torn, Between}

-- nothing was written
pub torn_same : (at n : ℕ) (file : List ℕ) → Torn at n file file
torn_same at n file = record { front = take_min at file; back = take_rest file (at + n); no_shorter = omega arith; no_longer = omega arith }

pub between_same : (to : ℕ) (file : List ℕ) → Between to file file
between_same to file = record { front = take_min to file; no_longer = omega arith }

-- all was written
pub torn_whole : (old : List ℕ) (at : ℕ) (bytes new : List ℕ) → at ≤ length old → Holds old at bytes new → Torn at (length bytes) old new
torn_whole old at bytes new within holds =
    let k = at + length bytes in
    let front_length : length (take at old) ≡ at = length-take-le at old within in
    let split : new ≡ take at old ++ (bytes ++ drop k old) = holds ∙ append_assoc (take at old) bytes (drop k old) in
    let long : length (take at old ++ bytes) ≡ k = omega (arith, length-append (take at old) bytes, front_length) in
    let at_min : min at (length old) ≡ at = omega arith in
    let tail : drop k new ≡ drop k old = ap (drop k) holds ∙ drop_at (take at old ++ bytes) (drop k old) k long in
    let whole : length new ≡ k + (length old - k) = ap length holds ∙ omega (arith, length-append (take at old ++ bytes) (drop k old), long, length-drop k old) in
    record {
      front = ap (λ (m : ℕ). take m new) at_min ∙ ap (take at) split ∙ take_at (take at old) (bytes ++ drop k old) at front_length;
      back = ap (take (length old - k)) tail ∙ take_rest old k;
      no_shorter = omega (arith, whole);
      no_longer = omega (arith, whole);
    }

pub between_whole : (to : ℕ) (old new : List ℕ) → Shortens to old new → Between to old new
between_whole to old new is = record {
  front = ap (take (min to (length old))) is ∙ take-take (min to (length old)) to old (omega arith) ∙ take_min to old;
  no_longer = omega (arith, ap length is, length-take to old);
}

-- what a crash leaves of a settled file where a write or a cut follows
module _ (h : List Moment) (settled : IsSettled h) where
  pub torn_base : (at n : ℕ) (c : List ℕ) → MayLeave h c → Torn at n (seen h) c
  torn_base at n c left = subst (Torn at n (seen h)) (sym (settled.only c left)) (torn_same at n (seen h))

  pub torn_write : (at n : ℕ) (file c : List ℕ) → MayLeave (moment (Wrote at n) file ∷ h) c → Torn at n (seen h) c
  torn_write at n file c left = subst (λ (d : List ℕ). Torn at n d c) (settled.only left.0 left.1.0) left.1.1

  pub between_base : (to : ℕ) (c : List ℕ) → MayLeave h c → Between to (seen h) c
  between_base to c left = subst (Between to (seen h)) (sym (settled.only c left)) (between_same to (seen h))

  pub between_cut : (to : ℕ) (file c : List ℕ) → MayLeave (moment (Cut to) file ∷ h) c → Between to (seen h) c
  between_cut to file c left = subst (λ (d : List ℕ). Between to d c) (settled.only left.0 left.1.0) left.1.1
