-- Texts past the limits, as they grow.
use Rattle.std.proofs.Common.{◌≡◌, ◌≢◌, ◌<◌, ◌≤◌, ℕ, ◌+◌, List, [], ◌∷◌, ◌++◌, length, refl, ap, sym, ◌∙◌, inl, inr, append_assoc, arith, ◌⊎◌, length-append}
use Rattle.std.specs.Prelude.{Some}
use Rattle.std.proofs.lemmas.List.{append-nil, length_push}
use Rattle.std.proofs.lemmas.List.Elements.{All-pop, All-push}
use Rattle.script_core.specs.Limits.{line_feeds, IsOfOneLine, PassesLimits}
use Rattle.script_core.specs.declared.limits.TheConstants.{MAX_LINE, MAX_LINES}

-- a text that ends in a byte, in two parts: the byte ends the second, or that one is empty
pub ends : (a b s : List ℕ) (x : ℕ) → a ++ b ≡ s ++ x ∷ [] → ((b ≡ []) × (a ≡ s ++ x ∷ [])) ⊎ ((b' : List ℕ) × (b ≡ b' ++ x ∷ []) × (s ≡ a ++ b'))
ends [] b s x e = inr (s, e, refl)
ends (y ∷ []) [] [] x e = inl (refl, e)
ends (y ∷ []) (b ∷ bs) [] x e = absurd (let h : b ∷ bs ≡ [] = cc in cc)
ends (y ∷ z ∷ a) b [] x e = absurd (let h : z ∷ (a ++ b) ≡ [] = cc in cc)
ends (y ∷ a) b (z ∷ s) x e =
    let rest : a ++ b ≡ s ++ x ∷ [] = cc in
    let first : y ≡ z = cc in
    elim (ends a b s x rest) [
      | inl h ↦ inl (h.0, let all : a ≡ s ++ x ∷ [] = h.1 in cc)
      | inr h ↦ inr (h.0, h.1, let all : s ≡ a ++ h.0 = h.2 in cc)
    ]

-- what passes the limits does so with more behind it
pub passes_more : (bytes more : List ℕ) → PassesLimits bytes → PassesLimits (bytes ++ more)
passes_more bytes more (inl h) = inl (record {
  before = h.before;
  line = h.line;
  rest = h.rest ++ more;
  parts = ap (λ xs. xs ++ more) h.parts ∙ (append_assoc h.before (h.line ++ h.rest) more ∙ ap (λ xs. h.before ++ xs) (append_assoc h.line h.rest more));
  one_line = h.one_line;
  long = h.long;
})
passes_more bytes more (inr h) = inr (record {
  before = h.before;
  byte = h.byte;
  rest = h.rest ++ more;
  parts = ap (λ xs. xs ++ more) h.parts ∙ append_assoc h.before (h.byte ∷ h.rest) more;
  many = h.many;
})

-- no byte passes none
pub none_passes : PassesLimits [] → ⊥
none_passes (inl h) = let e : 0 ≡ length (h.before ++ (h.line ++ h.rest)) = ap length h.parts in let long : MAX_LINE < length h.line = h.long in omega (arith, length-append h.before (h.line ++ h.rest), length-append h.line h.rest)
none_passes (inr h) = let e : 0 ≡ length (h.before ++ h.byte ∷ h.rest) = ap length h.parts in omega (arith, length-append h.before (h.byte ∷ h.rest))

-- no ending within one line is longer
abbrev pub IsLongest : ℕ → List ℕ → Type 0
IsLongest column bytes = (front tail : List ℕ) → bytes ≡ front ++ tail → IsOfOneLine tail → length tail ≤ column

pub longest_none : IsLongest 0 []
longest_none front tail e one = let n : 0 ≡ length (front ++ tail) = ap length e in omega (arith, length-append front tail)

pub longest_byte : (bytes : List ℕ) (column b : ℕ) → IsLongest column bytes → IsLongest (column + 1) (bytes ++ b ∷ [])
longest_byte bytes column b longest front tail e one =
    elim (ends front tail bytes b (sym e)) [
      | inl h ↦ let none : length tail ≡ 0 = ap length h.0 in omega arith
      | inr h ↦
          let few : length h.0 ≤ column = longest front h.0 h.2 (All-pop (λ x. x ≢ 10) tail h.0 (Some b) h.1 one).0 in
          let n : length tail ≡ length (h.0 ++ b ∷ []) = ap length h.1 in
          omega (arith, length_push h.0 b)
    ]

pub longest_feed : (bytes : List ℕ) (b : ℕ) → b ≡ 10 → IsLongest 0 (bytes ++ b ∷ [])
longest_feed bytes b feed front tail e one =
    elim (ends front tail bytes b (sym e)) [
      | inl h ↦ let none : length tail ≡ 0 = ap length h.0 in omega arith
      | inr h ↦ absurd ((All-pop (λ x. x ≢ 10) tail h.0 (Some b) h.1 one).1 feed)
    ]

-- one more byte does not pass the limits, with few line feeds before it and none of the lines long
pub within_more : (bytes : List ℕ) (b column : ℕ) → (PassesLimits bytes → ⊥) → line_feeds bytes < MAX_LINES → IsLongest column (bytes ++ b ∷ []) → column ≤ MAX_LINE → PassesLimits (bytes ++ b ∷ []) → ⊥
within_more bytes b column within few longest short (inl h) =
    elim (ends (h.before ++ h.line) h.rest bytes b (append_assoc h.before h.line h.rest ∙ sym h.parts)) [
      | inl p ↦
          let most : length h.line ≤ column = longest h.before h.line (sym p.1) h.one_line in
          let long : MAX_LINE < length h.line = h.long in
          omega arith
      | inr p ↦ within (inl (record {
        before = h.before;
        line = h.line;
        rest = p.0;
        parts = p.2 ∙ append_assoc h.before h.line p.0;
        one_line = h.one_line;
        long = h.long;
      }))
    ]
within_more bytes b column within few longest short (inr h) =
    elim (ends h.before (h.byte ∷ h.rest) bytes b (sym h.parts)) [
      | inl p ↦ absurd (let no : h.byte ∷ h.rest ≡ [] = p.0 in cc)
      | inr p ↦ many_before p.0 p.2
    ]
  where
    many_before : (seen : List ℕ) → bytes ≡ h.before ++ seen → ⊥
    many_before [] e =
        let same : line_feeds bytes ≡ line_feeds h.before = ap line_feeds (e ∙ append-nil h.before) in
        let many : MAX_LINES ≤ line_feeds h.before = h.many in
        omega arith
    many_before (x ∷ xs) e = within (inr (record { before = h.before; byte = x; rest = xs; parts = e; many = h.many }))

-- a byte that makes the last line too long
pub long_more : (bytes before line : List ℕ) (b : ℕ) → bytes ≡ before ++ line → IsOfOneLine line → b ≢ 10 → MAX_LINE ≤ length line → PassesLimits (bytes ++ b ∷ [])
long_more bytes before line b parts one plain full = inl (record {
  before = before;
  line = line ++ b ∷ [];
  rest = [];
  parts = ap (λ xs. xs ++ b ∷ []) parts ∙ (append_assoc before line (b ∷ []) ∙ ap (λ xs. before ++ xs) (sym (append-nil (line ++ b ∷ []))));
  one_line = All-push (λ x. x ≢ 10) line b one plain;
  long = omega (arith, length_push line b);
})

-- a byte behind the last line feed that may stand
pub many_more : (bytes : List ℕ) (b : ℕ) → MAX_LINES ≤ line_feeds bytes → PassesLimits (bytes ++ b ∷ [])
many_more bytes b many = inr (record { before = bytes; byte = b; rest = []; parts = refl; many = many })
