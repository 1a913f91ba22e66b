-- The cells of a share, by their names, and how many there are.
use Rattle.std.proofs.Common.{◌≡◌, ℕ, zero, suc, ◌+◌, ◌*◌, ◌<◌, ◌≤◌, ◌==◌, Bool, true, false, not, cond, List, [], ◌∷◌, ◌++◌, length, map, filter, refl, sym, ap, ◌∙◌, arith, length-append}
use Rattle.std.specs.List.{range_with_len}
use Rattle.std.proofs.lemmas.Bool.{eqb-true, eq-eqb, false≢true}
use Rattle.std.proofs.lemmas.List.{length-map, map-append}
use Rattle.std.proofs.lemmas.List.FromFn.{length-range_with_len}
use Rattle.obj_bounded.specs.CellNames.{cell_name, cell_names, counter_of, gain_names, loss_names, other_holders}
use Rattle.script_core.specs.declared.steps.Share.{Share}
use Rattle.script_core.specs.Deeds.{share_cells}
use Rattle.script_core.specs.Steps.{IsShare}

-- the cells are the counters of their names
pub named_cells : (share : Share) → map counter_of (cell_names share.name share.holder share.holders) ≡ share_cells share
named_cells share = map-append counter_of (gain_names share.name share.holder share.holders) (loss_names share.name share.holder share.holders)

-- no number of a range that begins behind a holder is the holder's
others_all : (holder first count : ℕ) → holder < first → length (filter (λ other. not (other == holder)) (range_with_len first count)) ≡ count
others_all holder first zero low = refl
others_all holder first (suc count) low = go (others_all holder (first + 1) count (omega (arith, low))) (first == holder) refl
  where
    rest : List ℕ
    rest = filter (λ other. not (other == holder)) (range_with_len (first + 1) count)

    go : length rest ≡ count → (test : Bool) → (first == holder) ≡ test → length (cond (not (first == holder)) (first ∷ rest) rest) ≡ suc count
    go more true e = absurd (omega (arith, low, eqb-true first holder e))
    go more false e = rw e (ap suc more)

-- one number of a range that the holder's is in is the holder's
others_but_one : (holder first count : ℕ) → first ≤ holder → holder < first + count → length (filter (λ other. not (other == holder)) (range_with_len first count)) + 1 ≡ count
others_but_one holder first zero low high = absurd (omega (arith, low, high))
others_but_one holder first (suc count) low high = go (λ above. others_but_one holder (first + 1) count above (omega (arith, high))) (first == holder) refl
  where
    rest : List ℕ
    rest = filter (λ other. not (other == holder)) (range_with_len (first + 1) count)

    go : (first + 1 ≤ holder → length rest + 1 ≡ count) → (test : Bool) → (first == holder) ≡ test → length (cond (not (first == holder)) (first ∷ rest) rest) + 1 ≡ suc count
    go more true e =
        let same : first ≡ holder = eqb-true first holder e in
        let all : length rest ≡ count = others_all holder (first + 1) count (omega (arith, same)) in
        rw e (omega (arith, all))
    go more false e =
        let other : first ≡ holder → ⊥ = λ same. false≢true (sym e ∙ eq-eqb first holder same) in
        let left : length rest + 1 ≡ count = more (omega (arith, low, other)) in
        rw e (omega (arith, left))

-- two for each holder
pub cells_count : (share : Share) → IsShare share → length (share_cells share) ≡ 2 * share.holders
cells_count share is =
    let n : ℕ = share.holders in
    let gains : length (gain_names share.name share.holder n) ≡ n = length-map (range_with_len 1 n) (λ from. cell_name share.name from share.holder) ∙ length-range_with_len 1 n in
    let others : length (other_holders share.holder n) + 1 ≡ n = others_but_one share.holder 1 n is.holder.low (omega (arith, is.holder.high)) in
    let losses : length (loss_names share.name share.holder n) ≡ length (other_holders share.holder n ++ 0 ∷ []) = length-map (other_holders share.holder n ++ 0 ∷ []) (cell_name share.name share.holder) in
    let given : length (other_holders share.holder n ++ 0 ∷ []) ≡ length (other_holders share.holder n) + 1 = length-append (other_holders share.holder n) (0 ∷ []) in
    let names : length (cell_names share.name share.holder n) ≡ length (gain_names share.name share.holder n) + length (loss_names share.name share.holder n) = length-append (gain_names share.name share.holder n) (loss_names share.name share.holder n) in
    let cells : length (share_cells share) ≡ length (cell_names share.name share.holder n) = ap length (sym (named_cells share)) ∙ length-map (cell_names share.name share.holder n) counter_of in
    omega (arith, gains, others, losses, given, names, cells)
