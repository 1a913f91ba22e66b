-- A first gate is closed, and the file cut behind it.
use Rattle.std.proofs.Common.{◌≡◌, ◌⊎◌, inl, inr, ⊎_elim, ℕ, ◌+◌, ◌-◌, ◌<◌, ◌≤◌, min, List, [], ◌∷◌, ◌++◌, length, get_or, take, Result, Ok, Err, OnOk, MatchResult, refl, sym, ◌∙◌, ap, subst, arith}
use Rattle.std.proofs.lemmas.Bool.{cases_eq}
use Rattle.std.proofs.lemmas.List.{take_all}
use Rattle.journal_disk.specs.declared.disk.Moment.{Moment}
use Rattle.journal_disk.specs.Disk.{seen, Between, Shortens, Torn, Holds, IsSettled, Ran}
use Rattle.journal_disk.proofs.Histories.{ran_more, ran_weaker}
use Rattle.journal_file.specs.Journal.{Entries, FileOf, IsEither, IsAt, IsWiped}
use Rattle.journal_file.proofs.Bytes.{on_ok_more}
use Rattle.journal_file.proofs.Items.{closed_file}

torn_first : (gate : ℕ) (rest c : List ℕ) → Torn 0 1 (gate ∷ rest) c → (g : ℕ) × (c ≡ g ∷ rest)
torn_first gate rest [] torn = absurd (omega (arith, torn.no_shorter))
torn_first gate rest (g ∷ t) torn =
    let same : length t ≡ length rest = omega (arith, torn.no_shorter, torn.no_longer) in
    let count : length (gate ∷ rest) - (0 + 1) ≡ length rest = omega arith in
    let whole : t ≡ rest = sym (take_all (length rest) t (omega (arith, same))) ∙ ap (λ (k : ℕ). take k t) (sym count) ∙ torn.back in
    (g, ap (λ (l : List ℕ). g ∷ l) whole)

cut_first : (rest c : List ℕ) → Between 1 (0 ∷ rest) c → (tail : List ℕ) × (c ≡ 0 ∷ tail)
cut_first rest c between = go c (ap (λ (k : ℕ). take k c) (sym least) ∙ between.front)
  where
    least : min 1 (length (0 ∷ rest)) ≡ 1
    least = omega arith

    go : (f : List ℕ) → take 1 f ≡ 0 ∷ [] → (tail : List ℕ) × (f ≡ 0 ∷ tail)
    go [] is = absurd (cc is)
    go (x ∷ t) is = (t, ap (λ (g : ℕ). g ∷ t) (ap (λ (l : List ℕ). get_or l 0 1) is))

module _ (h : List Moment) (gate : ℕ) (rest : List ℕ) (is : seen h ≡ gate ∷ rest) where
  pub wiped_first : (stands : List Moment → Type 0) (Q S : List Moment → Type 0) → ((l : List Moment) → Q l → S l) → Ran stands h (Torn 0 1 (seen h)) Q → Ran stands h (IsWiped rest) S
  wiped_first stands Q S ends ran = ran_weaker stands h (Torn 0 1 (seen h)) (IsWiped rest) Q S (λ c torn. inl (torn_first gate rest c (subst (λ (f : List ℕ). Torn 0 1 f c) is torn))) ends ran

  pub wiped_both : {T E : Type 0} (mid stands : List Moment → Type 0) (r : Result T E) → Ran mid h (Torn 0 1 (seen h)) (λ l. (IsSettled l) × (Holds (seen h) 0 (0 ∷ []) (seen l)))
      → ((h1 : List Moment) → mid h1 → IsSettled h1 → 1 ≤ length (seen h1) → Ran stands h1 (Between 1 (seen h1)) (λ l. OnOk r ((IsSettled l) × (Shortens 1 (seen h1) (seen l)))))
      → Ran stands h (IsWiped rest) (λ l. OnOk r ((IsSettled l) × (seen l ≡ 0 ∷ [])))
  wiped_both mid stands r first second = ran_more mid stands h (IsWiped rest) Closed Done (wiped_first mid _ Closed closed first) after
    where
      Closed : List Moment → Type 0
      Closed l = (IsSettled l) × (seen l ≡ 0 ∷ rest)

      Done : List Moment → Type 0
      Done l = OnOk r ((IsSettled l) × (seen l ≡ 0 ∷ []))

      closed : (l : List Moment) → (IsSettled l) × (Holds (seen h) 0 (0 ∷ []) (seen l)) → Closed l
      closed l q = (q.0, subst (λ (f : List ℕ). Holds f 0 (0 ∷ []) (seen l)) is q.1)

      after : (h1 : List Moment) → mid h1 → Closed h1 → Ran stands h1 (IsWiped rest) Done
      after h1 s q = ran_weaker stands h1 (Between 1 (seen h1)) (IsWiped rest) _ Done (λ c between. inr (cut_first rest c (subst (λ (f : List ℕ). Between 1 f c) q.1 between)))
          (λ l. on_ok_more _ _ r (λ w. (w.0, subst (λ (f : List ℕ). Shortens 1 f (seen l)) q.1 w.1))) (second h1 s q.0 (omega (arith, ap length q.1)))

-- What it stands for meanwhile, where it had items.
module _ {T : Type 0} (spelled : T → List ℕ) where
  pub record Split (xs : List T) (file : List ℕ) : Type 0 where
    pub gate : ℕ
    pub rest : List ℕ
    pub is : file ≡ gate ∷ rest
    pub keeps : (c : List ℕ) → IsWiped rest c → (FileOf spelled xs c) ⊎ (FileOf spelled [] c)

  pub split : (xs : List T) (end : ℕ) (h : List Moment) → IsAt spelled end h xs → 0 < end → Split xs (seen h)
  split [] end h at some = absurd (omega (arith, some, at.place, ap length at.entries))
  split (x ∷ xs) end h at some = record { gate = e.0; rest = rest; is = is; keeps = keeps }
    where
      e : Entries spelled (x ∷ xs) at.front
      e = at.entries

      body : List ℕ
      body = spelled x ++ e.1.0

      rest : List ℕ
      rest = body ++ 0 ∷ []

      is : seen h ≡ e.0 ∷ rest
      is = at.file_is ∙ ap (λ (l : List ℕ). l ++ 0 ∷ []) e.1.1.1.0

      keeps : (c : List ℕ) → IsWiped rest c → (FileOf spelled (x ∷ xs) c) ⊎ (FileOf spelled [] c)
      keeps c (inr shut) = inr (closed_file spelled [] [] shut.0 c refl shut.1)
      keeps c (inl went) = elim (cases_eq went.0 0) [
        | inl closed ↦ inr (closed_file spelled [] [] rest c refl (went.1 ∙ ap (λ (g : ℕ). g ∷ rest) closed))
        | inr unshut ↦ inl (closed_file spelled (x ∷ xs) (went.0 ∷ body) [] c (went.0, (e.1.0, (unshut, (refl, e.1.1.1.1)))) went.1)
      ]

  -- no items where the gate stands first
  pub none : (xs : List T) (h : List Moment) → IsAt spelled 0 h xs → xs ≡ []
  none [] h at = refl
  none (x ∷ xs) h at = absurd (omega (arith, at.place, ap length at.entries.1.1.1.0))

  pub wiped_at : (h : List Moment) → IsSettled h → seen h ≡ 0 ∷ [] → IsAt spelled 0 h []
  wiped_at h settled is = record { settled = settled; front = []; entries = refl; file_is = is; place = refl }

  -- an append to no items, in place of some
  pub replaced : {A E : Type 0} (B : List Moment → E → Type 0) (stands : List Moment → Type 0) (h : List Moment) (xs ys items : List T) (next : ℕ) (r : Result A E) → ys ≡ []
      → Ran stands h (IsEither spelled ys (ys ++ items)) (λ l. MatchResult r (λ _. IsAt spelled next l (ys ++ items)) (B l))
      → Ran stands h (λ c. (FileOf spelled xs c) ⊎ (IsEither spelled [] items c)) (λ l. MatchResult r (λ _. IsAt spelled next l items) (B l))
  replaced {A = A} {E = E} B stands h xs ys items next r e ran = ran_weaker stands h (IsEither spelled ys (ys ++ items)) _ _ _ files ends ran
    where
      files : (c : List ℕ) → IsEither spelled ys (ys ++ items) c → (FileOf spelled xs c) ⊎ (IsEither spelled [] items c)
      files c (inl f) = inr (inl (subst (λ (zs : List T). FileOf spelled zs c) e f))
      files c (inr f) = inr (inr (subst (λ (zs : List T). FileOf spelled (zs ++ items) c) e f))

      ends : (l : List Moment) → MatchResult r (λ _. IsAt spelled next l (ys ++ items)) (B l) → MatchResult r (λ _. IsAt spelled next l items) (B l)
      ends l = go r
        where
          go : (q : Result A E) → MatchResult q (λ _. IsAt spelled next l (ys ++ items)) (B l) → MatchResult q (λ _. IsAt spelled next l items) (B l)
          go (Ok x) at = subst (λ (zs : List T). IsAt spelled next l (zs ++ items)) e at
          go (Err x) b = b

  pub wiped_files : (stands : List Moment → Type 0) (end : ℕ) (h : List Moment) (xs items : List T) (at : IsAt spelled end h xs) (some : 0 < end) (Q S : List Moment → Type 0) → ((l : List Moment) → Q l → S l)
      → Ran stands h (IsWiped (split xs end h at some).rest) Q → Ran stands h (λ c. (FileOf spelled xs c) ⊎ (IsEither spelled [] items c)) S
  wiped_files stands end h xs items at some Q S ends ran = ran_weaker stands h (IsWiped (split xs end h at some).rest) _ Q S
      (λ c wiped. ⊎_elim (λ f. inl f) (λ f. inr (inl f)) ((split xs end h at some).keeps c wiped)) ends ran
