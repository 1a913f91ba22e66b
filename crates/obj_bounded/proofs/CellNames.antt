-- Cells have names, and those with one name are one.
use Rattle.std.proofs.Common.{◌≡◌, ℕ, zero, suc, ◌+◌, ◌≤◌, ◌==◌, inl, inr, ⊎_elim, true, false, not, List, [], ◌∷◌, ◌++◌, length, take, drop, refl, sym, ap, ◌∙◌, arith}
use Rattle.std.specs.Prelude.{codes, All, Result, Ok, Err, IsErr}
use Rattle.std.specs.Result.{is_ok}
use Rattle.std.specs.List.{range_with_len}
use Rattle.std.proofs.Math.Seq.{take-append_seam, drop-append_seam}
use Rattle.std.proofs.lemmas.List.{length-append, append_cancel_left}
use Rattle.std.proofs.lemmas.List.Elements.{All-nil, All-cons, All-append}
use Rattle.std.proofs.lemmas.Bool.{eq-eqb, false≢true}
use Rattle.list_core.specs.Members.{In}
use Rattle.list_core.specs.Apart.{Apart}
use Rattle.list_core.proofs.Members.{In_from_map, In_from_filter, In_more}
use Rattle.list_core.proofs.Ranges.{In_from_range}
use Rattle.list_core.proofs.Apart.{apart_append, apart_filter, apart_map}
use Rattle.ids_core.specs.Name.{IsName, IsNameByte}
use Rattle.obj_bounded.specs.CellNames.{digit, cell_ending, cell_name, IsCell, other_holders, gain_names, loss_names, cell_names}

-- ---- names

long : (name : List ℕ) (from to : ℕ) → length (cell_name name from to) ≡ length name + 7
long name from to =
    let four : length (cell_ending from to) ≡ 4 = refl in
    let rest : length (name ++ cell_ending from to) ≡ length name + length (cell_ending from to) = length-append name (cell_ending from to) in
    let whole : length (cell_name name from to) ≡ 3 + length (name ++ cell_ending from to) = length-append (codes "bc_") (name ++ cell_ending from to) in
    omega (arith, four, rest, whole)

-- the digits are bytes of names
digit_byte : (number : ℕ) → number ≤ 8 → IsNameByte (digit number)
digit_byte number few = inr (inl (omega arith, omega (arith, few)))

ending_bytes : (from to : ℕ) → from ≤ 8 → to ≤ 8 → All IsNameByte (cell_ending from to)
ending_bytes from to low high =
    All-cons IsNameByte 95 (digit from ∷ 95 ∷ digit to ∷ []) (inr (inr refl))
    (All-cons IsNameByte (digit from) (95 ∷ digit to ∷ []) (digit_byte from low)
    (All-cons IsNameByte 95 (digit to ∷ []) (inr (inr refl))
    (All-cons IsNameByte (digit to) [] (digit_byte to high) (All-nil IsNameByte))))

front_bytes : All IsNameByte (codes "bc_")
front_bytes =
    All-cons IsNameByte 98 (99 ∷ 95 ∷ []) (inl (omega arith, omega arith))
    (All-cons IsNameByte 99 (95 ∷ []) (inl (omega arith, omega arith))
    (All-cons IsNameByte 95 [] (inr (inr refl)) (All-nil IsNameByte)))

-- each cell has a name
pub cell_is_name : (name : List ℕ) (from to : ℕ) → IsName name → IsCell name from to → IsName (cell_name name from to)
cell_is_name name from to is cell =
    let count = long name from to in
    record {
      some = omega (arith, count);
      most = omega (arith, count, cell.few);
      each = All-append IsNameByte (codes "bc_") (name ++ cell_ending from to) front_bytes (All-append IsNameByte name (cell_ending from to) is.each (ending_bytes from to cell.from_there.1 cell.to_there));
    }

-- an answer that is not taken is an error
pub err_from : {T E : Type 0} (answer : Result T E) → is_ok answer ≡ false → IsErr answer
err_from (Ok value) is = absurd (false≢true (sym is))
err_from (Err why) is = refl

-- ---- one name

-- the digits of an ending
abbrev giver_in : List ℕ → ℕ
giver_in (a ∷ b ∷ l) = b
giver_in _ = 0

abbrev taker_in : List ℕ → ℕ
taker_in (a ∷ b ∷ c ∷ d ∷ l) = d
taker_in _ = 0

-- cells with one name are one
pub one_cell : (name other : List ℕ) (from to giver taker : ℕ) → cell_name name from to ≡ cell_name other giver taker → (name ≡ other) × (from ≡ giver) × (to ≡ taker)
one_cell name other from to giver taker is =
    let behind : name ++ cell_ending from to ≡ other ++ cell_ending giver taker = append_cancel_left (codes "bc_") (name ++ cell_ending from to) (other ++ cell_ending giver taker) is in
    let four : length (cell_ending from to) ≡ 4 = refl in
    let as_many : length (cell_ending giver taker) ≡ 4 = refl in
    let left : length (name ++ cell_ending from to) ≡ length name + length (cell_ending from to) = length-append name (cell_ending from to) in
    let right : length (other ++ cell_ending giver taker) ≡ length other + length (cell_ending giver taker) = length-append other (cell_ending giver taker) in
    let both : length (name ++ cell_ending from to) ≡ length (other ++ cell_ending giver taker) = ap length behind in
    let lengths : length name ≡ length other = omega (arith, both, left, right, four, as_many) in
    let names : name ≡ other = sym (take-append_seam name (cell_ending from to)) ∙ (ap (take (length name)) behind ∙ (ap (λ n. take n (other ++ cell_ending giver taker)) lengths ∙ take-append_seam other (cell_ending giver taker))) in
    let ends : cell_ending from to ≡ cell_ending giver taker = sym (drop-append_seam name (cell_ending from to)) ∙ (ap (drop (length name)) behind ∙ (ap (λ n. drop n (other ++ cell_ending giver taker)) lengths ∙ drop-append_seam other (cell_ending giver taker))) in
    let first : digit from ≡ digit giver = ap giver_in ends in
    let last : digit to ≡ digit taker = ap taker_in ends in
    (names, omega (arith, first), omega (arith, last))

-- ---- a holder's cells

-- a range has each number once
range_apart : (from count : ℕ) → Apart (λ (number : ℕ). number) (range_with_len from count)
range_apart from zero = tt
range_apart from (suc count) = (λ number i same. absurd (omega (arith, (In_from_range (from + 1) count number i).0, same)), range_apart (from + 1) count)

-- different keys of different images
apart_along : {X K : Type 0} (key : X → K) (xs : List X) → ((x y : X) → key x ≡ key y → x ≡ y) → Apart (λ (x : X). x) xs → Apart key xs
apart_along key [] tells apart = tt
apart_along key (x ∷ xs) tells apart = (λ y i same. apart.0 y i (tells x y same), apart_along key xs tells apart.1)

module _ (name : List ℕ) (holder holders : ℕ) where
  gains_apart : Apart (λ (cell : List ℕ). cell) (gain_names name holder holders)
  gains_apart = apart_map (λ from. cell_name name from holder) (λ (cell : List ℕ). cell) (range_with_len 1 holders) (apart_along (λ from. cell_name name from holder) (range_with_len 1 holders) (λ from giver same. (one_cell name name from holder giver holder same).1) (range_apart 1 holders))

  -- what is given to is another holder, or 0
  given_to : (to : ℕ) → In to (other_holders holder holders ++ 0 ∷ []) → (to ≡ holder) → to ≡ 0
  given_to to i same = ⊎_elim (λ j. absurd (other (In_from_filter (λ other. not (other == holder)) (range_with_len 1 holders) to j).1)) (λ none. none) (In_more (other_holders holder holders) 0 to i)
    where
      other : not (to == holder) ≡ true → ⊥
      other is = absurd (false≢true (sym (ap not (eq-eqb to holder same)) ∙ is))

  losses_apart : Apart (λ (cell : List ℕ). cell) (loss_names name holder holders)
  losses_apart = apart_map (cell_name name holder) (λ (cell : List ℕ). cell) numbers (apart_along (cell_name name holder) numbers (λ to taker same. (one_cell name name holder to holder taker same).2) numbers_apart)
    where
      numbers : List ℕ
      numbers = other_holders holder holders ++ 0 ∷ []

      numbers_apart : Apart (λ (number : ℕ). number) numbers
      numbers_apart = apart_append (λ (number : ℕ). number) (other_holders holder holders) (0 ∷ []) (apart_filter (λ (number : ℕ). number) (λ other. not (other == holder)) (range_with_len 1 holders) (range_apart 1 holders)) ((λ number i. absurd i), tt) (λ number zero i j same. ⊎_elim (λ none. absurd (omega (arith, (In_from_range 1 holders number (In_from_filter (λ other. not (other == holder)) (range_with_len 1 holders) number i).0).0, same, none))) (λ k. absurd k) j)

  -- they are all different
  pub cells_apart : Apart (λ (cell : List ℕ). cell) (cell_names name holder holders)
  cells_apart = apart_append (λ (cell : List ℕ). cell) (gain_names name holder holders) (loss_names name holder holders) gains_apart losses_apart differ
    where
      differ : (gain loss : List ℕ) → In gain (gain_names name holder holders) → In loss (loss_names name holder holders) → gain ≡ loss → ⊥
      differ gain loss i j same =
          let g = In_from_map (λ from. cell_name name from holder) (range_with_len 1 holders) gain i in
          let l = In_from_map (cell_name name holder) (other_holders holder holders ++ 0 ∷ []) loss j in
          let one = one_cell name name g.0 holder holder l.0 (sym g.2 ∙ (same ∙ l.2)) in
          let none = given_to l.0 l.1 (sym one.2) in
          omega (arith, (In_from_range 1 holders g.0 g.1).0, one.1, one.2, none)
