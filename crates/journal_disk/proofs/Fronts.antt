-- The front of a file grows by a part that was read.
use Rattle.std.proofs.Common.{◌≡◌, ℕ, ◌<◌, List, [], ◌∷◌, ◌++◌, length, take, drop, refl, sym, ◌∙◌, ap, arith, append_assoc, length-append, take-append-drop}
use Rattle.std.proofs.lemmas.List.{drop_at, append-nil}
use Rattle.journal_disk.specs.Disk.{IsPart}

-- these bytes are a front of the file
abbrev pub IsFront : List ℕ → List ℕ → Type 0
IsFront bytes file = (rest : List ℕ) × (file ≡ bytes ++ rest)

pub front_grows : (bytes file : List ℕ) (n : ℕ) (piece : List ℕ) → IsFront bytes file → IsPart file (length bytes) n piece → IsFront (bytes ++ take n piece) file
front_grows bytes file n piece front part =
    let left : drop (length bytes) file ≡ front.0 = ap (drop (length bytes)) front.1 ∙ drop_at bytes front.0 (length bytes) refl in
    let same : take n piece ≡ take n front.0 = part.0 ∙ ap (take n) left in
    (drop n front.0, front.1 ∙ ap (λ (l : List ℕ). bytes ++ l) (sym (take-append-drop n front.0)) ∙ sym (append_assoc bytes (take n front.0) (drop n front.0)) ∙ ap (λ (l : List ℕ). bytes ++ l ++ drop n front.0) (sym same))

no_rest : (rest : List ℕ) → length rest ≡ 0 → rest ≡ []
no_rest [] none = refl
no_rest (x ∷ rest) none = absurd (omega arith)

pub front_whole : (bytes file : List ℕ) (n : ℕ) (piece : List ℕ) → IsFront bytes file → IsPart file (length bytes) n piece → n ≡ 0 → 0 < length piece → bytes ≡ file
front_whole bytes file n piece front part none room =
    let ended = part.1 none room in
    let empty : front.0 ≡ [] = no_rest front.0 (omega (arith, ended, ap length front.1, length-append bytes front.0)) in
    sym (front.1 ∙ ap (λ (l : List ℕ). bytes ++ l) empty ∙ append-nil bytes)
