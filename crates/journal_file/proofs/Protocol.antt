-- The two writes of an append with their syncs.
use Rattle.std.proofs.Common.{◌≡◌, inl, inr, Bool, true, false, ℕ, ◌+◌, ◌<◌, ◌≤◌, List, [], ◌∷◌, ◌++◌, length, drop, Result, Ok, Err, OnOk, IsErr, MatchResult, refl, sym, ◌∙◌, ap, subst, arith}
use Rattle.journal_disk.specs.declared.disk.Moment.{Moment}
use Rattle.journal_disk.specs.Disk.{seen, IsSettled, Ran, Holds, Torn}
use Rattle.journal_disk.proofs.Histories.{ran_none, ran_more, ran_weaker}
use Rattle.journal_file.specs.Journal.{Published, IsAt, IsEither, opened}
use Rattle.journal_file.proofs.Items.{at_left, published}
use Rattle.journal_file.proofs.Bytes.{on_ok_more, length-staged, torn_behind, held_behind, torn_gate, held_gate}

module _ (h : List Moment) (front body : List ℕ) (end : ℕ) (place : length front ≡ end) (is : seen h ≡ front ++ 0 ∷ []) where
  -- the first leaves a closed gate
  pub published_closed : (stands : List Moment → Type 0) (n : ℕ) (Q S : List Moment → Type 0) → ((l : List Moment) → Q l → S l) → Ran stands h (Torn (end + 1) n (seen h)) Q → Ran stands h (Published front body) S
  published_closed stands n Q S ends ran =
      let P : List ℕ → Type 0 = Torn (end + 1) n (seen h) in
      ran_weaker stands h P (Published front body) Q S (λ c torn. inl (torn_behind front end place n c (subst (λ (l : List ℕ). Torn (end + 1) n l c) is torn))) ends ran

  -- and then the second some gate
  pub published_both : {T E : Type 0} (mid stands : List Moment → Type 0) (n : ℕ) (piece : List ℕ) (r : Result T E) → piece ≡ body
      → Ran mid h (Torn (end + 1) n (seen h)) (λ later. (IsSettled later) × (Holds (seen h) (end + 1) piece (seen later)))
      → ((h1 : List Moment) → mid h1 → IsSettled h1 → end ≤ length (seen h1) → Ran stands h1 (Torn end 1 (seen h1)) (λ later. OnOk r ((IsSettled later) × (Holds (seen h1) end (1 ∷ []) (seen later)))))
      → Ran stands h (Published front body) (λ later. OnOk r ((IsSettled later) × (seen later ≡ front ++ 1 ∷ body)))
  published_both mid stands n piece r same first second = ran_more mid stands h (Published front body) staged Q (published_closed mid n _ staged staged_is first) next
    where
      staged : List Moment → Type 0
      staged later = (IsSettled later) × (seen later ≡ front ++ 0 ∷ body)

      Q : List Moment → Type 0
      Q later = OnOk r ((IsSettled later) × (seen later ≡ front ++ 1 ∷ body))

      staged_is : (l : List Moment) → (IsSettled l) × (Holds (seen h) (end + 1) piece (seen l)) → staged l
      staged_is l q = (q.0, held_behind front end place piece (seen l) (subst (λ (f : List ℕ). Holds f (end + 1) piece (seen l)) is q.1) ∙ ap (λ (b : List ℕ). front ++ 0 ∷ b) same)

      next : (h1 : List Moment) → mid h1 → staged h1 → Ran stands h1 (Published front body) Q
      next h1 s q =
          let within : end ≤ length (seen h1) = omega (arith, ap length q.1, length-staged front end place body) in
          let ends : (l : List Moment) → OnOk r ((IsSettled l) × (Holds (seen h1) end (1 ∷ []) (seen l))) → Q l =
          λ l. on_ok_more _ _ r (λ w. (w.0, held_gate front end place body (seen l) (subst (λ (f : List ℕ). Holds f end (1 ∷ []) (seen l)) q.1 w.1))) in
          let P : List ℕ → Type 0 = Torn end 1 (seen h1) in
          ran_weaker stands h1 P (Published front body) _ Q (λ c torn. inr (torn_gate front end place body c (subst (λ (l : List ℕ). Torn end 1 l c) q.1 torn))) ends (second h1 s q.0 within)

module _ {T : Type 0} (spelled : T → List ℕ) (stands : List Moment → Type 0) (end : ℕ) (h : List Moment) (xs items : List T) (at : IsAt spelled end h xs) where
  -- no call of the disk was made
  pub untouched : (Q : List Moment → Type 0) → stands h → Q h → Ran stands h (IsEither spelled xs (xs ++ items)) Q
  untouched Q s q = ran_none stands h (IsEither spelled xs (xs ++ items)) (λ c left. at_left spelled end h xs (xs ++ items) c at left) Q s q

  -- the items were written, whole or cut short
  pub appended : (out : List ℕ) (Q S : List Moment → Type 0) → 0 < length items → out ≡ opened spelled items ++ 0 ∷ [] → ((l : List Moment) → Q l → S l) → Ran stands h (Published at.front (drop 1 out)) Q → Ran stands h (IsEither spelled xs (xs ++ items)) S
  appended out Q S some is ends ran = ran_weaker stands h (Published at.front (drop 1 out)) (IsEither spelled xs (xs ++ items)) Q S (λ c p. published spelled xs at.front at.entries items out c some is p) ends ran

-- the same run, of a disk that stands for the same
pub ran_stands : (mid stands : List Moment → Type 0) (h : List Moment) (P : List ℕ → Type 0) (Q : List Moment → Type 0) → ((l : List Moment) → mid l → stands l) → Ran mid h P Q → Ran stands h P Q
ran_stands mid stands h P Q on ran = record { later = ran.later; stands_for = on (ran.later ++ h) ran.stands_for; always = ran.always; ends = ran.ends }

-- a call that shuts the journal where it fails
pub ran_shuts : {T E : Type 0} (stands : List Moment → Type 0) (h : List Moment) (P : List ℕ → Type 0) (A B : List Moment → Type 0) (r : Result T E) (shut : Bool) → (IsErr r → shut ≡ true) → Ran stands h P (λ l. OnOk r (A l))
    → Ran stands h P (λ l. MatchResult r (λ _. A l) (λ _. shut ≡ false → B l))
ran_shuts {T = T} {E = E} stands h P A B r shut closes ran = ran_weaker stands h P P (λ l. OnOk r (A l)) (λ l. MatchResult r (λ _. A l) (λ _. shut ≡ false → B l)) (λ c p. p) (λ l. go l r closes) ran
  where
    go : (l : List Moment) (q : Result T E) → (IsErr q → shut ≡ true) → OnOk q (A l) → MatchResult q (λ _. A l) (λ _. shut ≡ false → B l)
    go l (Ok x) closes a = a
    go l (Err e) closes a = λ unshut. absurd (cc (sym (closes refl) ∙ unshut))

-- what a failed call gives
pub on_match_err : {T E : Type 0} (A : T → Type 0) (B : E → Type 0) (r : Result T E) → IsErr r → ((e : E) → B e) → MatchResult r A B
on_match_err A B (Ok x) err b = absurd (cc err)
on_match_err A B (Err e) err b = b e
