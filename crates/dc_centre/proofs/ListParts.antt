-- Parts of a list of own records.
use Rattle.std.proofs.Common.{◌≡◌, ◌≤◌, ◌<◌, ℕ, suc, ◌+◌, ◌-◌, List, [], ◌∷◌, ◌++◌, length, take, drop, get_or, sym, ap, ◌∙◌, arith}
use Rattle.std.proofs.Math.Seq.{take-suc}
use Rattle.std.proofs.lemmas.List.{get_or-drop, length-drop, drop-drop}

-- a part with the next element is the longer part
pub part_more : {X : Type 0} (xs part : List X) (start place : ℕ) (x : X) → start ≤ place → place < length xs → part ≡ take (place - start) (drop start xs) → x ≡ get_or xs place x → part ++ x ∷ [] ≡ take (place + 1 - start) (drop start xs)
part_more xs part start place x low high is next =
    let j = place - start in
    let more : place + 1 - start ≡ suc j = omega (arith, low) in
    let there : get_or (drop start xs) j x ≡ x = get_or-drop start xs j x ∙ (ap (λ (k : ℕ). get_or xs k x) (let same : start + j ≡ place = omega (arith, low) in same) ∙ sym next) in
    let long : j < length (drop start xs) = let count = length-drop start xs in omega (arith, low, high, count) in
    ap (λ l. l ++ x ∷ []) is
    ∙ (ap (λ y. take j (drop start xs) ++ y ∷ []) (sym there)
    ∙ (sym (take-suc (drop start xs) j x long) ∙ ap (λ (k : ℕ). take k (drop start xs)) (sym more)))

-- what is asked of the own records past the first ones stands past as many fewer in what is kept of them
pub kept_past : {X : Type 0} (xs : List X) (gone after : ℕ) → gone ≤ after → drop (after - gone) (drop gone xs) ≡ drop after xs
kept_past xs gone after le = drop-drop (after - gone) gone xs ∙ ap (λ (k : ℕ). drop k xs) (let same : gone + (after - gone) ≡ after = omega (arith, le) in same)
