-- What a table is once a row of it is written.
use Rattle.std.proofs.Common.{◌≡◌, ◌≢◌, ◌≤◌, ◌↔◌, IsTrue, ℕ, zero, suc, ◌+◌, ◌-◌, Bool, List, [], length, get_or, set, take, refl, sym, ap, ◌∙◌, subst, arith, get_or-set_same, get_or-set_other}
use Rattle.std.proofs.Math.Seq.{take-set-lt}
use Rattle.std.proofs.lemmas.List.{length-set, get_or_default, get_or-take}
use Rattle.std.proofs.lemmas.List.Elements.{All-set, All-get_or}
use Rattle.vv_core.specs.Vectors.{Covers, join_of}
use Rattle.vv_core.proofs.Entrywise.{same_vectors, length-join_of, at-join_of}
use Rattle.vv_core.proofs.Covering.{Covers-join_right}
use Rattle.k_stable.specs.Tables.{Table, IsTable, Learns, table_in, told_by}

-- a vector that covers another is their join
pub join_of-covered : (v w : List ℕ) → length v ≡ length w → Covers v w → join_of v w ≡ v
join_of-covered v w len covers = same_vectors (join_of v w) v (omega (arith, len, length-join_of v w)) (λ e one few. omega (arith, at-join_of v w e, covers.holds e))

-- a join with what is not covered is another vector
pub join_of-uncovered : (v w : List ℕ) → (Covers v w → ⊥) → join_of v w ≢ v
join_of-uncovered v w not same = not (subst (λ u. Covers u w) same (Covers-join_right v w))

-- the table with another row at a place, counted from 0
abbrev written : Table → ℕ → List ℕ → Table
written t i row = record t { rows = set t.rows i row }

-- a table with another row of the same width is a table
written_is : (t : Table) (i : ℕ) (row : List ℕ) → IsTable t → length row ≡ t.n → IsTable (written t i row)
written_is t i row is wide = record {
  centre = is.centre;
  few = is.few;
  known = is.known;
  count = length-set t.rows i row ∙ is.count;
  wide = All-set (λ row. length row ≡ t.n) t.rows i row wide is.wide;
}

-- the row that was written is read at its centre
told_by-written : (t : Table) (i from : ℕ) (row : List ℕ) → IsTable t → i + 1 ≡ from → from ≤ t.n → told_by (written t i row) from ≡ row
told_by-written t i zero row is place few = absurd (omega arith)
told_by-written t i (suc j) row is place few =
    let same : i ≡ j = omega (arith, place) in
    ap (λ i. get_or (set t.rows i row) j []) same ∙ get_or-set_same t.rows j row [] (omega (arith, few, is.count))

-- and the others as before
told_by-written_other : (t : Table) (i from : ℕ) (row : List ℕ) → i + 1 ≡ from → (j : ℕ) → j ≢ from → told_by (written t i row) j ≡ told_by t j
told_by-written_other t i from row place zero other = refl
told_by-written_other t i from row place (suc j) other = get_or-set_other t.rows i j row [] (λ same. other (omega (arith, same, place)))

-- it has learned the vector where that row is the join
written_learns : (t : Table) (i from : ℕ) (vector row : List ℕ) → IsTable t → from ≢ t.me → i + 1 ≡ from → from ≤ t.n → row ≡ join_of (told_by t from) vector → Learns t (written t i row) from vector
written_learns t i from vector row is other place few join = record {
  same = (refl, refl, refl);
  own = λ mine. absurd (other mine);
  told = λ not. told_by-written t i from row is place few ∙ join;
  others = told_by-written_other t i from row place;
}

-- a row that is there is as wide as there are centres
length-told_by : (t : Table) (from : ℕ) → IsTable t → 1 ≤ from → from ≤ t.n → length (told_by t from) ≡ t.n
length-told_by t zero is one few = absurd (omega arith)
length-told_by t (suc i) is one few = All-get_or (λ row. length row ≡ t.n) t.rows i [] (omega (arith, few, is.count)) is.wide

-- ---- the same of rows that stand first in a place for more

module _ (me n k : ℕ) (places : List (List ℕ)) (is : IsTable (table_in me n k places)) (i from : ℕ) (place : i ≡ from - 1) (one : 1 ≤ from) (few : from ≤ n) where
  -- the place comes before the centre's number
  next : i + 1 ≡ from
  next = omega (arith, place, one)

  -- what is read at the place is the centre's row
  told_by-place : (d : List ℕ) → told_by (table_in me n k places) from ≡ get_or places i d
  told_by-place d = there from next few
    where
      there : (f : ℕ) → i + 1 ≡ f → f ≤ n → told_by (table_in me n k places) f ≡ get_or places i d
      there zero is' le = absurd (omega arith)
      there (suc j) is' le =
          let same : j ≡ i = omega (arith, is') in
          get_or_default (take n places) j [] d (omega (arith, le, is.count)) ∙ (get_or-take n places j d (omega (arith, le)) ∙ ap (λ j. get_or places j d) same)

  -- what is written at the place is written in the table
  table_in-set : (row : List ℕ) → table_in me n k (set places i row) ≡ written (table_in me n k places) i row
  table_in-set row = ap (λ rows. record { me = me; n = n; k = k; rows = rows }) (take-set-lt n places i row (omega (arith, next, few)))

  -- and what is written there is the centre's row then
  told_by-set : (row : List ℕ) → told_by (table_in me n k (set places i row)) from ≡ row
  told_by-set row = ap (λ t. told_by t from) (table_in-set row) ∙ told_by-written (table_in me n k places) i from row is next few

  module _ (d vector row : List ℕ) (join : row ≡ join_of (get_or places i d) vector) where
    -- the row that is written is the join of the table's
    joined : row ≡ join_of (told_by (table_in me n k places) from) vector
    joined = join ∙ ap (λ r. join_of r vector) (sym (told_by-place d))

    -- the table is one with it
    pub place_is : length vector ≡ n → IsTable (table_in me n k (set places i row))
    place_is wide =
        let len : length row ≡ n = omega (arith, wide, ap length joined, length-join_of (told_by (table_in me n k places) from) vector, length-told_by (table_in me n k places) from is one few) in
        subst IsTable (sym (table_in-set row)) (written_is (table_in me n k places) i row is len)

    -- and has learned the vector
    pub place_learns : from ≢ me → Learns (table_in me n k places) (table_in me n k (set places i row)) from vector
    place_learns other =
        subst (λ t. Learns (table_in me n k places) t from vector) (sym (table_in-set row))
        (written_learns (table_in me n k places) i from vector row is other next few joined)

    -- the centre's row changes exactly where the one at the place does
    pub place_changes : (r : Bool) → (IsTrue r ↔ (row ≢ get_or places i d)) → IsTrue r ↔ (told_by (table_in me n k (set places i row)) from ≢ told_by (table_in me n k places) from)
    place_changes r test = (
      λ yes same. test.0 yes (sym (told_by-set row) ∙ (same ∙ told_by-place d)),
      λ other. test.1 (λ same. other (told_by-set row ∙ (same ∙ sym (told_by-place d)))),
    )
