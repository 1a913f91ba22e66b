use Rattle.std.proofs.Common.{◌≡◌, ℕ, List, [], ◌∷◌, length, sym, ap, ◌∙◌, subst}
use Rattle.std.specs.Prelude.{All}
use Rattle.phase_play.specs.declared.gathering.Swap.{Swap}
use Rattle.phase_play.specs.Swaps.{swapped_back, IsWithin}
use Rattle.phase_play.proofs.Swapping.{as_many, all_front, back_last}
use Rattle.phase_play.proofs.gathering.put_back.Goals as goal

pub swaps-preserved : goal.swaps-preserved
swaps-preserved c =
    let before = c.swaps.players.items in
    let after = c.swap.new.self.items in
    let s : Swap = c.in-Some.swap in
    let front : List Swap = c.pop.new.self.items in
    let long : length after ≡ length before = ap length c.swap.ensures.items ∙ as_many before s in
    let within : All (IsWithin (length before)) front = all_front (IsWithin (length before)) front (s ∷ []) (subst (All (IsWithin (length before))) c.in-Some.ensures.items c.swaps.invariant.within) in
    record {
      within = subst (λ (n : ℕ). All (IsWithin n) front) (sym long) within;
      back = ap (λ xs. swapped_back xs front) c.swap.ensures.items ∙ (sym (back_last before front s) ∙ (ap (swapped_back before) (sym c.in-Some.ensures.items) ∙ c.swaps.invariant.back));
    }
