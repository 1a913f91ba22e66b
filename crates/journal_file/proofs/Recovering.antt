-- A file is settled, read and cut behind its closed gate.
use Rattle.std.proofs.Common.{◌≡◌, ◌⊎◌, inl, inr, ℕ, ◌+◌, ◌≤◌, min, List, [], ◌∷◌, ◌++◌, length, take, drop, Result, Ok, Err, OnOk, IfErr, IsErrAnd, MatchResult, sym, ◌∙◌, ap, subst, arith, append_assoc, length-append, take-append-drop}
use Rattle.std.proofs.lemmas.List.{take_at}
use Rattle.journal_disk.specs.declared.disk.DiskFault.{DiskFault}
use Rattle.journal_disk.specs.declared.disk.DiskFault.TheVariants.{Failed, NoMemory}
use Rattle.journal_disk.specs.declared.disk.Moment.{Moment}
use Rattle.journal_disk.specs.Disk.{seen, MayLeave, Between, Shortens, IsSettled, Ran}
use Rattle.journal_disk.proofs.Histories.{ran_more, ran_weaker}
use Rattle.journal_file.specs.declared.faults.OpenFault.{OpenFault}
use Rattle.journal_file.specs.declared.faults.OpenFault.TheVariants.{Bad}
use Rattle.journal_file.specs.Faults.{IsBad, open_fault}
use Rattle.journal_file.specs.Journal.{EndsAt, FileOf, Found, IsAt}
use Rattle.journal_file.proofs.Bytes.{on_ok_more}
use Rattle.journal_file.proofs.Protocol.{ran_stands}

-- a fault of the disk is no bad gate
pub disk_not_bad : (fault : DiskFault) (e : OpenFault) → e ≡ open_fault fault → IsBad e → ⊥
disk_not_bad Failed e is bad = subst IsBad is bad
disk_not_bad NoMemory e is bad = subst IsBad is bad

pub disk_no_place : (fault : DiskFault) (e : OpenFault) (place : ℕ) → e ≡ open_fault fault → e ≡ Bad place → ⊥
disk_no_place Failed e place is bad = cc (sym is ∙ bad)
disk_no_place NoMemory e place is bad = cc (sym is ∙ bad)

pub on_if_err : {T E : Type 0} (B Q : E → Type 0) (r : Result T E) → IsErrAnd r Q → ((e : E) → Q e → B e) → IfErr r B
on_if_err B Q (Ok x) err b = tt
on_if_err B Q (Err e) err b = b e err

pub on_match_err_and : {T E : Type 0} (A : T → Type 0) (B Q : E → Type 0) (r : Result T E) → IsErrAnd r Q → ((e : E) → Q e → B e) → MatchResult r A B
on_match_err_and A B Q (Ok x) err b = absurd err
on_match_err_and A B Q (Err e) err b = b e err

module _ {T : Type 0} (spelled : T → List ℕ) (h : List Moment) (xs : List T) where
  Settling : List ℕ → Type 0
  Settling c = (MayLeave h c) ⊎ (c ≡ seen h)

  found : FileOf spelled xs (seen h) → (c : List ℕ) → (MayLeave h c) ⊎ (c ≡ seen h) → Found spelled xs h c
  found file c (inl left) = inl left
  found file c (inr is) = inr (subst (FileOf spelled xs) (sym is) file)

  -- where the settled file was only read
  pub only_read : (mid stands : List Moment → Type 0) (Q S : List Moment → Type 0) → FileOf spelled xs (seen h) → ((l : List Moment) → mid l → stands l) → ((l : List Moment) → Q l → S l) → Ran mid h (λ c. (MayLeave h c) ⊎ (c ≡ seen h)) Q → Ran stands h (Found spelled xs h) S
  only_read mid stands Q S file on ends ran = ran_weaker stands h (λ c. (MayLeave h c) ⊎ (c ≡ seen h)) (Found spelled xs h) Q S (found file) ends (ran_stands mid stands h _ Q on ran)

  module _ (end : ℕ) (f : List ℕ) (e : EndsAt spelled xs end f) where
    front_long : length (e.front ++ 0 ∷ []) ≡ end + 1
    front_long = omega (arith, e.place, length-append e.front (0 ∷ []))

    split : f ≡ (e.front ++ 0 ∷ []) ++ e.tail
    split = e.file_is ∙ sym (append_assoc e.front (0 ∷ []) e.tail)

    pub cut_within : end + 1 ≤ length f
    cut_within = omega (arith, front_long, ap length split, length-append (e.front ++ 0 ∷ []) e.tail)

    kept : take (end + 1) f ≡ e.front ++ 0 ∷ []
    kept = ap (take (end + 1)) split ∙ take_at (e.front ++ 0 ∷ []) e.tail (end + 1) front_long

    -- the closed gate stands in each outcome of the cut
    pub cut_file : (c : List ℕ) → Between (end + 1) f c → FileOf spelled xs c
    cut_file c between =
        let least : end + 1 ≡ min (end + 1) (length f) = omega (arith, cut_within) in
        let front_is : take (end + 1) c ≡ e.front ++ 0 ∷ [] = ap (λ (k : ℕ). take k c) least ∙ between.front ∙ kept in
        let whole : c ≡ e.front ++ 0 ∷ drop (end + 1) c = sym (take-append-drop (end + 1) c) ∙ ap (λ (l : List ℕ). l ++ drop (end + 1) c) front_is ∙ append_assoc e.front (0 ∷ []) (drop (end + 1) c) in
        (end, record { front = e.front; tail = drop (end + 1) c; entries = e.entries; file_is = whole; place = e.place })

    pub cut_at : (l : List Moment) → IsSettled l → Shortens (end + 1) f (seen l) → IsAt spelled end l xs
    cut_at l settled is = record { settled = settled; front = e.front; entries = e.entries; file_is = is ∙ kept; place = e.place }

  -- where it was cut too
  pub recovered : {A E : Type 0} (mid next stands : List Moment → Type 0) (end : ℕ) (r : Result A E) (S : List Moment → Type 0) → EndsAt spelled xs end (seen h)
      → Ran mid h (λ c. (MayLeave h c) ⊎ (c ≡ seen h)) (λ l. (IsSettled l) × (seen l ≡ seen h)) → ((l : List Moment) → mid l → next l)
      → ((h1 : List Moment) → next h1 → IsSettled h1 → end + 1 ≤ length (seen h1) → Ran stands h1 (Between (end + 1) (seen h1)) (λ l. OnOk r ((IsSettled l) × (Shortens (end + 1) (seen h1) (seen l)))))
      → ((l : List Moment) → OnOk r (IsAt spelled end l xs) → S l) → Ran stands h (Found spelled xs h) S
  recovered mid next stands end r S ends first on second then =
      ran_more next stands h (Found spelled xs h) same S (only_read mid next same same (end, ends) on (λ l q. q) first) after
    where
      same : List Moment → Type 0
      same l = (IsSettled l) × (seen l ≡ seen h)

      after : (h1 : List Moment) → next h1 → same h1 → Ran stands h1 (Found spelled xs h) S
      after h1 s q =
          let e : EndsAt spelled xs end (seen h1) = subst (EndsAt spelled xs end) (sym q.1) ends in
          let Q : List Moment → Type 0 = λ l. OnOk r ((IsSettled l) × (Shortens (end + 1) (seen h1) (seen l))) in
          ran_weaker stands h1 (Between (end + 1) (seen h1)) (Found spelled xs h) Q S (λ c between. inr (cut_file end (seen h1) e c between))
          (λ l q2. then l (on_ok_more _ _ r (λ w. cut_at end (seen h1) e l w.0 w.1) q2)) (second h1 s q.0 (cut_within end (seen h1) e))

  -- a settled file was cut
  pub resumed : {A E : Type 0} (stands : List Moment → Type 0) (end : ℕ) (r : Result A E) (S : List Moment → Type 0) → (e : EndsAt spelled xs end (seen h))
      → Ran stands h (Between (end + 1) (seen h)) (λ l. OnOk r ((IsSettled l) × (Shortens (end + 1) (seen h) (seen l)))) → ((l : List Moment) → OnOk r (IsAt spelled end l xs) → S l) → Ran stands h (FileOf spelled xs) S
  resumed stands end r S e ran then =
      let Q : List Moment → Type 0 = λ l. OnOk r ((IsSettled l) × (Shortens (end + 1) (seen h) (seen l))) in
      ran_weaker stands h (Between (end + 1) (seen h)) (FileOf spelled xs) Q S (λ c between. cut_file end (seen h) e c between) (λ l q. then l (on_ok_more _ _ r (λ w. cut_at end (seen h) e l w.0 w.1) q)) ran
