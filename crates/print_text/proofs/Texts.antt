-- Texts with a byte between them.
use Rattle.std.specs.Prelude.{◌≡◌, ℕ, ◌≤◌, List, [], ◌∷◌, ◌++◌, map}
use Rattle.std.specs.List.{join_with_byte}
use Rattle.std.proofs.Common.{ap, sym, ◌∙◌, arith, append-nil, append_assoc, take_all, length, get_or, take, drop, ◌-◌}
use Rattle.std.proofs.lemmas.List.{map-id}
use Rattle.print_text.specs.Text.{later}

-- texts with a byte between them are the first one and the later ones, each behind the byte
joined_parts : (byte : ℕ) (first : List ℕ) (rest : List (List ℕ)) → join_with_byte byte (first ∷ rest) ≡ first ++ later byte rest
joined_parts byte first [] = sym (append-nil first)
joined_parts byte first (second ∷ rest) = ap (λ texts. first ++ byte ∷ texts) (joined_parts byte second rest)

-- what is written is the first of the texts and then the later ones: so it is all of them, with the
-- byte between them
pub joined_written : {T : Type 0} (byte : ℕ) (form : T → List ℕ) (other : T) (old mid new : List ℕ) (items : List T) → 1 ≤ length items → mid ≡ old ++ form (get_or items 0 other) → new ≡ mid ++ later byte (map form (take (length items - 1) (drop 1 items))) → new ≡ old ++ join_with_byte byte (map form items)
joined_written byte form other old mid new [] some first rest = absurd (omega arith)
joined_written byte form other old mid new (item ∷ items) some first rest =
    let all : take (length (item ∷ items) - 1) items ≡ items = take_all (length (item ∷ items) - 1) items (omega arith) in
    rest
    ∙ ap (λ left. mid ++ later byte (map form left)) all
    ∙ ap (λ written. written ++ later byte (map form items)) first
    ∙ append_assoc old (form item) _
    ∙ ap (λ written. old ++ written) (sym (joined_parts byte (form item) (map form items)))

-- the same of texts that are written as they stand
pub words_written : (byte : ℕ) (other old mid new : List ℕ) (words : List (List ℕ)) → 1 ≤ length words → mid ≡ old ++ get_or words 0 other → new ≡ mid ++ later byte (take (length words - 1) (drop 1 words)) → new ≡ old ++ join_with_byte byte words
words_written byte other old mid new words some first rest =
    joined_written byte (λ word. word) other old mid new words some first (rest ∙ ap (λ left. mid ++ later byte left) (sym (map-id (take (length words - 1) (drop 1 words)))))
    ∙ ap (λ texts. old ++ join_with_byte byte texts) (map-id words)
