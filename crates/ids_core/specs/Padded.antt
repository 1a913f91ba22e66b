-- The bytes of a name in a place for 32, with 0 behind them.
use Rattle.std.specs.Prelude.{◌≡◌, ◌≤◌, ℕ, ◌-◌, List, ◌++◌, length, take, drop, replicate}
use Rattle.std.proofs.Common.{ap, sym, ◌∙◌, arith, subst}
use Rattle.std.proofs.Math.Seq.{take-append_seam, drop-append_seam}
use Rattle.std.proofs.lemmas.List.{drop-replicate, length-replicate, length-append}
use Rattle.list_core.specs.Padded.{IsPadded}
use Rattle.ids_core.specs.Name.{IsName}

-- the first bytes of the place are a name, and all behind them is 0
pub record IsPaddedName (bytes : List ℕ) (len : ℕ) : Type 0 where
  pub name : IsName (take len bytes)
  pub padded : IsPadded 32 bytes len

-- a name put in front of zeros
pub padded_of : (bytes kept place : List ℕ) → IsName bytes → kept ≡ bytes → place ≡ replicate 32 0 → IsPaddedName (kept ++ drop (length bytes) place) (length bytes)
padded_of bytes kept place name same empty =
    let len : length kept ≡ length bytes = ap length same in
    let front : take (length bytes) (kept ++ drop (length bytes) place) ≡ bytes = ap (λ n. take n (kept ++ drop (length bytes) place)) (sym len) ∙ (take-append_seam kept (drop (length bytes) place) ∙ same) in
    let most : length bytes ≤ 32 = name.most in
    let rest : drop (length bytes) place ≡ replicate (32 - length bytes) 0 = ap (drop (length bytes)) empty ∙ drop-replicate (length bytes) 32 0 in
    let room : length (drop (length bytes) place) ≡ 32 - length bytes = ap length rest ∙ length-replicate (32 - length bytes) 0 in
    record {
      name = subst IsName (sym front) name;
      padded = record {
        few = most;
        long = length-append kept (drop (length bytes) place) ∙ omega arith;
        behind = ap (λ n. drop n (kept ++ drop (length bytes) place)) (sym len) ∙ (drop-append_seam kept (drop (length bytes) place) ∙ rest);
      };
    }
