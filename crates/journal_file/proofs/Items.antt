-- Entries one behind the other, and what a file of entries stands for.
use Rattle.std.proofs.Common.{◌≡◌, ◌≢◌, inl, inr, ℕ, ◌+◌, ◌-◌, ◌<◌, List, [], ◌∷◌, ◌++◌, length, drop, refl, sym, ◌∙◌, ap, subst, arith, append_assoc, length-append}
use Rattle.std.proofs.lemmas.Bool.{cases_eq}
use Rattle.std.proofs.lemmas.List.{append-nil}
use Rattle.journal_disk.specs.declared.disk.Moment.{Moment}
use Rattle.journal_disk.specs.Disk.{seen, MayLeave, IsSettled}
use Rattle.journal_file.specs.Journal.{Entries, FileOf, IsEither, opened, IsAt, Published}

module _ {T : Type 0} (spelled : T → List ℕ) where
  pub entries_more : (xs ys : List T) (a b : List ℕ) → Entries spelled xs a → Entries spelled ys b → Entries spelled (xs ++ ys) (a ++ b)
  entries_more [] ys a b none more = subst (λ (l : List ℕ). Entries spelled ys (l ++ b)) (sym none) more
  entries_more (x ∷ xs) ys a b some more =
      let gate = some.0 in
      let rest = some.1.0 in
      (gate, (rest ++ b, (some.1.1.0, (ap (λ (l : List ℕ). l ++ b) some.1.1.1.0 ∙ ap (λ (l : List ℕ). gate ∷ l) (append_assoc (spelled x) rest b), entries_more xs ys rest b some.1.1.1.1 more))))

  pub opened_entries : (ys : List T) → Entries spelled ys (opened spelled ys)
  opened_entries [] = refl
  opened_entries (y ∷ ys) = (1, (opened spelled ys, ((omega arith), (refl, opened_entries ys))))

  -- entries behind a first gate of any kind but a closed one
  pub gated : (y : T) (ys : List T) (gate : ℕ) → gate ≢ 0 → Entries spelled (y ∷ ys) (gate ∷ (spelled y ++ opened spelled ys))
  gated y ys gate unshut = (gate, (opened spelled ys, (unshut, (refl, opened_entries ys))))

  pub opened-push : (xs : List T) (x : T) → opened spelled (xs ++ x ∷ []) ≡ opened spelled xs ++ (1 ∷ []) ++ spelled x
  opened-push [] x = ap (λ (l : List ℕ). 1 ∷ l) (append-nil (spelled x))
  opened-push (y ∷ xs) x =
      ap (λ (l : List ℕ). 1 ∷ (spelled y ++ l)) (opened-push xs x)
      ∙ ap (λ (l : List ℕ). 1 ∷ (spelled y ++ l)) (append_assoc (opened spelled xs) (1 ∷ []) (spelled x))
      ∙ ap (λ (l : List ℕ). 1 ∷ l) (sym (append_assoc (spelled y) (opened spelled xs) (1 ∷ spelled x)))
      ∙ sym (append_assoc (1 ∷ (spelled y ++ opened spelled xs)) (1 ∷ []) (spelled x))

  -- a closed gate ends the file
  pub closed_file : (xs : List T) (front tail file : List ℕ) → Entries spelled xs front → file ≡ front ++ 0 ∷ tail → FileOf spelled xs file
  closed_file xs front tail file entries is = (length front, record { front = front; tail = tail; entries = entries; file_is = is; place = refl })

  pub at_file : (end : ℕ) (h : List Moment) (xs : List T) (c : List ℕ) → IsAt spelled end h xs → c ≡ seen h → FileOf spelled xs c
  at_file end h xs c at is = closed_file xs at.front [] c at.entries (is ∙ at.file_is)

  -- what a crash leaves where nothing was done
  pub at_left : (end : ℕ) (h : List Moment) (xs ys : List T) (c : List ℕ) → IsAt spelled end h xs → MayLeave h c → IsEither spelled xs ys c
  at_left end h xs ys c at left = inl (at_file end h xs c at (at.settled.only c left))

  module _ (xs : List T) (front : List ℕ) (entries : Entries spelled xs front) where
    -- what entries behind any gate stand for
    pub published : (items : List T) (out c : List ℕ) → 0 < length items → out ≡ opened spelled items ++ 0 ∷ [] → Published front (drop 1 out) c → IsEither spelled xs (xs ++ items) c
    published items out c some is (inl closed) = inl (closed_file xs front closed.0 c entries closed.1)
    published [] out c some is (inr gate) = absurd (omega (arith, some))
    published (y ∷ ys) out c some is (inr went) = elim (cases_eq went.0 0) [
      | inl closed ↦ inl (closed_file xs front (drop 1 out) c entries (went.1 ∙ ap (λ (k : ℕ). front ++ k ∷ drop 1 out) closed))
      | inr unshut ↦
          let whole : c ≡ (front ++ went.0 ∷ (spelled y ++ opened spelled ys)) ++ 0 ∷ [] =
          went.1 ∙ ap (λ (l : List ℕ). front ++ went.0 ∷ drop 1 l) is ∙ sym (append_assoc front (went.0 ∷ (spelled y ++ opened spelled ys)) (0 ∷ [])) in
          inr (closed_file (xs ++ y ∷ ys) (front ++ went.0 ∷ (spelled y ++ opened spelled ys)) [] c (entries_more xs (y ∷ ys) front (went.0 ∷ (spelled y ++ opened spelled ys)) entries (gated y ys went.0 unshut)) whole)
    ]

    -- and once the gate is open
    pub at_more : (items : List T) (out : List ℕ) (end next : ℕ) (h : List Moment) → 0 < length items → out ≡ opened spelled items ++ 0 ∷ [] → IsSettled h → seen h ≡ front ++ 1 ∷ drop 1 out → end ≡ length front → next ≡ end + (length out - 1) → IsAt spelled next h (xs ++ items)
    at_more [] out end next h some is settled file place next_is = absurd (omega (arith, some))
    at_more (y ∷ ys) out end next h some is settled file place next_is = record {
      settled = settled;
      front = front ++ opened spelled (y ∷ ys);
      entries = entries_more xs (y ∷ ys) front (opened spelled (y ∷ ys)) entries (opened_entries (y ∷ ys));
      file_is = file ∙ ap (λ (l : List ℕ). front ++ 1 ∷ drop 1 l) is ∙ sym (append_assoc front (opened spelled (y ∷ ys)) (0 ∷ []));
      place = omega (arith, next_is, place, ap length is, length-append (opened spelled (y ∷ ys)) (0 ∷ []), length-append front (opened spelled (y ∷ ys)));
    }

  -- nothing was appended
  pub at_none : (xs ys : List T) (end : ℕ) (h : List Moment) → length ys ≡ 0 → IsAt spelled end h xs → IsAt spelled end h (xs ++ ys)
  at_none xs [] end h none at = subst (IsAt spelled end h) (sym (append-nil xs)) at
  at_none xs (y ∷ ys) end h none at = absurd (omega (arith, none))
