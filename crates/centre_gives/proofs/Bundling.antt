-- What a centre that stands for a history gives is a bundle.
use Rattle.std.proofs.Common.{◌≡◌, ◌≤◌, List, length, sym, ap, ◌∙◌, arith, ne_eqb}
use Rattle.std.specs.Prelude.{◌==◌}
use Rattle.list_core.specs.Members.{In}
use Rattle.list_core.proofs.Members.{filter_none}
use Rattle.tx_core.specs.declared.tx.Record.{Record}
use Rattle.join_bundle.specs.declared.part.BundleParts.{BundleParts}
use Rattle.join_bundle.specs.Bundles.{IsBundle}
use Rattle.dc_talk.specs.declared.settings.Settings.{Settings}
use Rattle.dc_talk.specs.Entries.{Entry}
use Rattle.dc_talk.specs.Records.{count}
use Rattle.dc_talk.specs.Trails.{applied}
use Rattle.dc_talk.specs.Laws.{IsCentreHistory}
use Rattle.dc_talk.proofs.Counts.{own_length}
use Rattle.centre_parts.specs.declared.condition.Condition.TheVariants.{Known}
use Rattle.cut_law.proofs.Given.{can_adopt_given}
use Rattle.dc_centre.specs.Centre.{CentreView, StandsFor}
use Rattle.centre_gives.specs.Giving.{IsMadeOf}
use Rattle.centre_gives.proofs.Cutting.{cut_made}

-- no record is stamped by a centre 0
none_of_zero : (A : List Record) → ((r : Record) → In r A → 1 ≤ r.stamp.centre) → count 0 A ≡ 0
none_of_zero A low = sym (own_length 0 A) ∙ ap length (filter_none (λ (r : Record). r.stamp.centre == 0) A (λ r i. let least = low r i in ne_eqb r.stamp.centre 0 (λ same. absurd (omega (arith, least, same)))))

-- so another one could adopt what is given, and it is a bundle
pub bundle_made : (c : CentreView) (b : BundleParts) → IsMadeOf c b → (trail : List Entry) → StandsFor c trail → IsCentreHistory c.settings trail → IsBundle b
bundle_made c b made trail stands history =
    let low = (made.met.meets Known).0 in
    let same : made.parts.settings.k ≡ c.settings.k = ap (λ (s : Settings). s.k) made.are.settings in
    (can_adopt_given c.settings trail b 0 0 history (omega (arith, low, same)) (cut_made c b made trail stands)
    (λ zero. let first = history.centre.0 in absurd (omega (arith, first, zero)))
    (none_of_zero (applied c.settings.n trail) (λ r i. (stands.holds.applied.ranged r i).centre.low))).bundle
