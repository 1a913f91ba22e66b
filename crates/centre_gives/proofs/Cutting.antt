-- What a centre gives is the cut of each trail that it stands for.
use Rattle.std.proofs.Common.{◌≡◌, ℕ, List, refl, sym, ap, ◌∙◌, subst}
use Rattle.k_stable.specs.Tables.{rows_of}
use Rattle.tx_core.specs.declared.tx.Record.{Record}
use Rattle.join_bundle.specs.declared.part.BundleParts.{BundleParts}
use Rattle.dc_talk.specs.declared.settings.Settings.{Settings}
use Rattle.dc_talk.specs.Entries.{Entry}
use Rattle.dc_talk.specs.Records.{vector}
use Rattle.dc_talk.specs.Trails.{Horizon, applied}
use Rattle.dc_talk.specs.Answers.{count_inside}
use Rattle.centre_parts.specs.declared.condition.Condition.TheVariants.{Notes, PointObjects}
use Rattle.centre_parts.specs.declared.part.CentreParts.{CentreParts}
use Rattle.centre_parts.specs.Conditions.{table_of, MeetsAll}
use Rattle.cut_law.specs.Parts.{rows_over, parts_of}
use Rattle.cut_law.specs.Cuts.{rest_of, AreClientsOf, AreStatesOf, IsCutOf}
use Rattle.dc_centre.specs.Applied.{IsApplied}
use Rattle.dc_centre.specs.Centre.{CentreView, StandsFor}
use Rattle.dc_centre.specs.Parts.{ArePartsOf}
use Rattle.centre_gives.specs.Parts.{client_parts, given_of}
use Rattle.centre_gives.specs.Giving.{IsMadeOf}
use Rattle.centre_gives.proofs.Base.{folded_there, state_there, mine_there, rest_there}
use Rattle.centre_gives.proofs.ClientParts.{clients_given}
use Rattle.centre_gives.proofs.ToldRows.{table_with, rows_told}
use Rattle.centre_gives.proofs.States.{states_given}
use Rattle.centre_gives.proofs.Touched.{object_known}

module _ (c : CentreView) (trail : List Entry) (p : CentreParts) (are : ArePartsOf c p) (met : MeetsAll p) (stands : StandsFor c trail) where
  -- the records that the centre applied
  abbrev A : List Record
  A = applied c.settings.n trail

  -- what it keeps is as it is after them
  kept : IsApplied c.settings.n c.applied A
  kept = stands.holds.applied

  -- the base of its parts is that of its point
  base_is : p.applied.point.vector ≡ c.applied.point.vector
  base_is = are.applied.point.vector

  own : p.applied.vector ≡ vector c.settings.n A
  own = are.applied.vector ∙ kept.counted

  rows_given : rows_of (table_of p) p.applied.vector ≡ rows_over c.settings (parts_of c.settings trail)
  rows_given =
      ap (λ (s : Settings). rows_of (table_with s p.rows) p.applied.vector) are.settings
      ∙ (ap (rows_of (table_with c.settings p.rows)) own
      ∙ rows_told c.settings c.told p.rows trail (vector c.settings.n A) are.rows stands.told)

  clients : AreClientsOf A p.applied.point.vector (client_parts p.applied.notes p.applied.point.numbers)
  clients = subst (λ (v : List ℕ). AreClientsOf A v (client_parts p.applied.notes p.applied.point.numbers)) (sym base_is)
      (clients_given A c.applied.point c.applied.lasts p.applied.notes p.applied.point.numbers kept.guarded (mine_there A c.applied.point c.applied.log kept.stored) (met.meets Notes) are.applied.notes are.applied.point.numbers)

  states : AreStatesOf A p.applied.point.vector p.applied.point.states
  states = subst (λ (v : List ℕ). AreStatesOf A v p.applied.point.states) (sym base_is)
      (states_given A c.applied.point p.applied.point.states (state_there A c.applied.point c.applied.log kept.stored) (met.meets PointObjects) are.applied.point.states (object_known A c.applied.point c.applied.log kept.stored))

  -- so the bundle is the cut
  pub cut : IsCutOf c.settings trail (given_of p)
  cut = record {
    depth = refl;
    given = record {
      donor = ap (λ (s : Settings). s.me) are.settings;
      base = base_is ∙ ap (λ (h : Horizon). h.base) stands.pruned;
      mark = are.mark ∙ ap (λ (h : Horizon). h.mark) stands.pruned;
      rows = rows_given;
      cut = record {
        vector = own;
        folded = are.applied.point.folded ∙ (folded_there A c.applied.point c.applied.log kept.stored ∙ ap (count_inside A) (sym base_is));
        top = are.applied.top ∙ kept.ranked;
        clients = clients;
        states = states;
        rest = are.applied.rest ∙ (rest_there A c.applied.point c.applied.log kept.stored ∙ ap (rest_of A) (sym base_is));
      };
    };
  }

pub cut_made : (c : CentreView) (b : BundleParts) → IsMadeOf c b → (trail : List Entry) → StandsFor c trail → IsCutOf c.settings trail b
cut_made c b made trail stands = subst (λ (b : BundleParts). IsCutOf c.settings trail b) (sym made.is) (cut c trail made.parts made.are made.met stands)
