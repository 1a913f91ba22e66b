-- A file is settled, emptied and begun.
use Rattle.std.proofs.Common.{◌≡◌, ◌⊎◌, ℕ, ◌≤◌, List, [], ◌∷◌, length, Result, OnOk, subst, arith}
use Rattle.journal_disk.specs.declared.disk.Moment.{Moment}
use Rattle.journal_disk.specs.Disk.{seen, MayLeave, Between, Shortens, Torn, Holds, IsSettled, Ran}
use Rattle.journal_disk.proofs.Histories.{ran_more, ran_weaker}
use Rattle.journal_file.proofs.Bytes.{on_ok_more}

abbrev Any : List ℕ → Type 0
Any c = Unit {0}

module _ (h : List Moment) where
  pub settling : (stands : List Moment → Type 0) (Q S : List Moment → Type 0) → ((l : List Moment) → Q l → S l) → Ran stands h (λ c. (MayLeave h c) ⊎ (c ≡ seen h)) Q → Ran stands h (λ _. Unit {0}) S
  settling stands Q S ends ran = ran_weaker stands h (λ c. (MayLeave h c) ⊎ (c ≡ seen h)) Any Q S (λ c _. tt) ends ran

  pub cutting : (mid stands : List Moment → Type 0) (Q S : List Moment → Type 0) → ((l : List Moment) → Q l → S l) → Ran mid h (λ c. (MayLeave h c) ⊎ (c ≡ seen h)) (λ l. (IsSettled l) × (seen l ≡ seen h))
      → ((h1 : List Moment) → mid h1 → IsSettled h1 → 0 ≤ length (seen h1) → Ran stands h1 (Between 0 (seen h1)) Q) → Ran stands h (λ _. Unit {0}) S
  cutting mid stands Q S ends first second = ran_more mid stands h Any (λ l. (IsSettled l) × (seen l ≡ seen h)) S (settling mid _ _ (λ l q. q) first)
      (λ h1 s q. ran_weaker stands h1 (Between 0 (seen h1)) Any Q S (λ c _. tt) ends (second h1 s q.0 (omega arith)))

  pub writing : {T E : Type 0} (mid next stands : List Moment → Type 0) (r : Result T E) → Ran mid h (λ c. (MayLeave h c) ⊎ (c ≡ seen h)) (λ l. (IsSettled l) × (seen l ≡ seen h))
      → ((h1 : List Moment) → mid h1 → IsSettled h1 → 0 ≤ length (seen h1) → Ran next h1 (Between 0 (seen h1)) (λ l. (IsSettled l) × (Shortens 0 (seen h1) (seen l))))
      → ((h2 : List Moment) → next h2 → IsSettled h2 → 0 ≤ length (seen h2) → Ran stands h2 (Torn 0 1 (seen h2)) (λ l. OnOk r ((IsSettled l) × (Holds (seen h2) 0 (0 ∷ []) (seen l)))))
      → Ran stands h (λ _. Unit {0}) (λ l. OnOk r ((IsSettled l) × (seen l ≡ 0 ∷ [])))
  writing mid next stands r first second third = ran_more mid stands h Any (λ l. (IsSettled l) × (seen l ≡ seen h)) Done (settling mid _ _ (λ l q. q) first) after
    where
      Done : List Moment → Type 0
      Done l = OnOk r ((IsSettled l) × (seen l ≡ 0 ∷ []))

      Empty : List Moment → Type 0
      Empty l = (IsSettled l) × (seen l ≡ [])

      last : (h2 : List Moment) → next h2 → Empty h2 → Ran stands h2 Any Done
      last h2 s q = ran_weaker stands h2 (Torn 0 1 (seen h2)) Any _ Done (λ c _. tt)
          (λ l. on_ok_more _ _ r (λ w. (w.0, subst (λ (f : List ℕ). Holds f 0 (0 ∷ []) (seen l)) q.1 w.1))) (third h2 s q.0 (omega arith))

      after : (h1 : List Moment) → mid h1 → (IsSettled h1) × (seen h1 ≡ seen h) → Ran stands h1 Any Done
      after h1 s q = ran_more next stands h1 Any Empty Done (ran_weaker next h1 (Between 0 (seen h1)) Any _ Empty (λ c _. tt) (λ l w. (w.0, w.1)) (second h1 s q.0 (omega arith))) last
