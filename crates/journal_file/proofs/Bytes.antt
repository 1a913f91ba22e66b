-- What the two writes of an append leave of a file, whole or cut short.
use Rattle.std.proofs.Common.{◌≡◌, ℕ, ◌+◌, ◌-◌, min, List, [], ◌∷◌, ◌++◌, length, get_or, take, drop, Result, Ok, Err, OnOk, sym, ◌∙◌, ap, arith, append_assoc, length-append, take-append-drop}
use Rattle.std.proofs.lemmas.List.{take_at, drop_at, drop_more, take_all, drop_all, take_rest, append-nil}
use Rattle.journal_disk.specs.Disk.{Holds, Torn}

pub on_ok_more : {T E : Type 0} (A B : Type 0) (r : Result T E) → (A → B) → OnOk r A → OnOk r B
on_ok_more A B (Ok x) f a = f a
on_ok_more A B (Err e) f a = tt

module _ (front : List ℕ) (end : ℕ) (place : length front ≡ end) where
  pub length-closed : length (front ++ 0 ∷ []) ≡ end + 1
  length-closed = omega (arith, place, length-append front (0 ∷ []))

  -- the closed gate stands in each outcome of the first write
  pub torn_behind : (n : ℕ) (c : List ℕ) → Torn (end + 1) n (front ++ 0 ∷ []) c → (tail : List ℕ) × (c ≡ front ++ 0 ∷ tail)
  torn_behind n c torn =
      let least : end + 1 ≡ min (end + 1) (length (front ++ 0 ∷ [])) = omega (arith, length-closed) in
      let whole : take (end + 1) c ≡ front ++ 0 ∷ [] = ap (λ (k : ℕ). take k c) least ∙ torn.front ∙ take_all (end + 1) (front ++ 0 ∷ []) (omega (arith, length-closed)) in
      (drop (end + 1) c, sym (take-append-drop (end + 1) c) ∙ ap (λ (l : List ℕ). l ++ drop (end + 1) c) whole ∙ append_assoc front (0 ∷ []) (drop (end + 1) c))

  pub held_behind : (body new : List ℕ) → Holds (front ++ 0 ∷ []) (end + 1) body new → new ≡ front ++ 0 ∷ body
  held_behind body new holds =
      let old = front ++ 0 ∷ [] in
      holds
      ∙ ap (λ (l : List ℕ). l ++ body ++ drop (end + 1 + length body) old) (take_all (end + 1) old (omega (arith, length-closed)))
      ∙ ap (λ (l : List ℕ). old ++ body ++ l) (drop_all (end + 1 + length body) old (omega (arith, length-closed)))
      ∙ append-nil (old ++ body)
      ∙ append_assoc front (0 ∷ []) body

  module _ (body : List ℕ) where
    pub length-staged : length (front ++ 0 ∷ body) ≡ end + 1 + length body
    length-staged = omega (arith, place, length-append front (0 ∷ body))

    behind : drop (end + 1) (front ++ 0 ∷ body) ≡ body
    behind = ap (drop (end + 1)) (sym (append_assoc front (0 ∷ []) body)) ∙ drop_at (front ++ 0 ∷ []) body (end + 1) length-closed

    -- the entries stand whole in each outcome of the second write
    pub torn_gate : (c : List ℕ) → Torn end 1 (front ++ 0 ∷ body) c → (gate : ℕ) × (c ≡ front ++ gate ∷ body)
    torn_gate c torn =
        let old = front ++ 0 ∷ body in
        let least : end ≡ min end (length old) = omega (arith, length-staged) in
        let same : length c ≡ length old = omega (arith, torn.no_shorter, torn.no_longer, length-staged) in
        let front_is : take end c ≡ front = ap (λ (k : ℕ). take k c) least ∙ torn.front ∙ take_at front (0 ∷ body) end place in
        let back : drop (end + 1) c ≡ body = sym (take_rest c (end + 1)) ∙ ap (λ (k : ℕ). take (k - (end + 1)) (drop (end + 1) c)) same ∙ torn.back ∙ behind in
        let gate = get_or c end 0 in
        let rest : drop end c ≡ gate ∷ body = drop_more c end 0 (omega (arith, same, length-staged)) ∙ ap (λ (l : List ℕ). gate ∷ l) back in
        (gate, sym (take-append-drop end c) ∙ ap (λ (l : List ℕ). l ++ drop end c) front_is ∙ ap (λ (l : List ℕ). front ++ l) rest)

    pub held_gate : (new : List ℕ) → Holds (front ++ 0 ∷ body) end (1 ∷ []) new → new ≡ front ++ 1 ∷ body
    held_gate new holds =
        holds
        ∙ ap (λ (l : List ℕ). l ++ (1 ∷ []) ++ drop (end + 1) (front ++ 0 ∷ body)) (take_at front (0 ∷ body) end place)
        ∙ ap (λ (l : List ℕ). front ++ (1 ∷ []) ++ l) behind
        ∙ append_assoc front (1 ∷ []) body
