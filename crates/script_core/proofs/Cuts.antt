-- The first line of a text.
use Rattle.std.proofs.Common.{◌≡◌, ◌≢◌, ◌<◌, ◌-◌, ℕ, List, [], ◌∷◌, ◌++◌, length, take, drop, refl, ap, sym, ◌∙◌, arith}
use Rattle.std.specs.Prelude.{All}
use Rattle.std.proofs.lemmas.List.Elements.{All-head, All-tail}
use Rattle.std.proofs.Math.Seq.{drop-length, take-nil}
use Rattle.script_core.specs.Lines.{lines_of, onto_first}

-- a byte that is no line feed stands in the first line
first_byte : (b : ℕ) (more : List ℕ) → b ≢ 10 → lines_of (b ∷ more) ≡ onto_first b (lines_of more)
first_byte b more plain = grind arith

-- a line that a line feed ends
pub first_line : (line rest : List ℕ) → All (λ b. b ≢ 10) line → lines_of (line ++ 10 ∷ rest) ≡ line ∷ lines_of rest
first_line [] rest plain = refl
first_line (b ∷ bs) rest plain = first_byte b (bs ++ 10 ∷ rest) (All-head (λ x. x ≢ 10) b bs plain) ∙ ap (onto_first b) (first_line bs rest (All-tail (λ x. x ≢ 10) b bs plain))

-- a last line that none ends
pub last_line : (line : List ℕ) → All (λ x. x ≢ 10) line → 0 < length line → lines_of line ≡ line ∷ []
last_line [] plain some = absurd (omega arith)
last_line (b ∷ []) plain some = first_byte b [] (All-head (λ x. x ≢ 10) b [] plain)
last_line (b ∷ d ∷ bs) plain some = first_byte b (d ∷ bs) (All-head (λ x. x ≢ 10) b (d ∷ bs) plain) ∙ ap (onto_first b) (last_line (d ∷ bs) (All-tail (λ x. x ≢ 10) b (d ∷ bs) plain) (omega arith))

-- a last line, and what stands behind it
pub only_line : (line : List ℕ) → All (λ x. x ≢ 10) line → 0 < length line → lines_of line ≡ line ∷ lines_of (take (length line - length line) (drop (length line) line))
only_line line plain some = last_line line plain some ∙ ap (λ xs. line ∷ lines_of xs) (sym (ap (take (length line - length line)) (drop-length line) ∙ take-nil (length line - length line)))
