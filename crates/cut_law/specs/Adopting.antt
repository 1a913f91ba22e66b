-- When a centre may adopt a bundle, and what it goes on from.
use Rattle.std.specs.Prelude.{◌≡◌, ◌<◌, ℕ, zero, suc, false, cond, ◌==◌, map, List, [], length, slice_index_or}
use Rattle.list_core.specs.Moments.{Each}
use Rattle.vv_core.specs.Vectors.{at, centres, meet_of, kth_largest, Covers}
use Rattle.tx_core.specs.declared.tx.Record.{Record}
use Rattle.join_bundle.specs.declared.condition.TheConstants.{MOST_DEPTH}
use Rattle.join_bundle.specs.declared.part.BundleParts.{BundleParts}
use Rattle.join_bundle.specs.Bundles.{IsBundle}
use Rattle.dc_talk.specs.declared.settings.Settings.{Settings}
use Rattle.dc_talk.specs.Sents.{with_hops}
use Rattle.dc_talk.specs.Laws.{IsInOrder}
use Rattle.cut_law.specs.Parts.{Parts}
use Rattle.cut_law.specs.Cuts.{IsCut}

-- the row of a centre, counted from 1
abbrev pub row_at : List (List ℕ) → ℕ → List ℕ
row_at rows zero = []
row_at rows (suc j) = slice_index_or rows j []

-- what is stable by the rows of a bundle, at the centre that adopts it
abbrev pub stable_by : Settings → BundleParts → List ℕ
stable_by s b = meet_of (kth_largest s.k (map (λ j. cond (j == s.me) b.vector (row_at b.rows j)) (centres s.n))) b.vector

-- the centre may adopt the bundle: it is of as many centres, through few donors, and of another centre that has nothing
-- of this one, and its mark is stable here
pub record CanAdopt (s : Settings) (b : BundleParts) : Type 0 where
  pub bundle : IsBundle b
  pub width : length b.vector ≡ s.n
  pub depth : b.depth < MOST_DEPTH
  pub other : b.donor ≡ s.me → ⊥
  pub none : at b.vector s.me ≡ 0
  pub stable : Covers (stable_by s b) b.mark

-- the records A may be those that the centre starts from: they are in order, and the bundle is their cut
pub record MayStart (s : Settings) (b : BundleParts) (A : List Record) : Type 0 where
  pub order : Each (IsInOrder s) A
  pub cut : IsCut s.n A b

-- what a centre goes on from that adopted the bundle, where it starts from the records A. All of them are let go, so none
-- is ever handed on, and their hops do not matter
abbrev pub adopted : BundleParts → List Record → Parts
adopted b A = record {
  carried = map (λ r. with_hops r 0) A;
  told = row_at b.rows;
  horizon = record { base = b.base; mark = b.mark; trimmed = b.vector };
  stopped = false;
}
