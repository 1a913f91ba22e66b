use Rattle.std.proofs.Common.{◌≡◌, ◌+◌, [], ◌∷◌, sym, ap, ◌∙◌, subst, arith}
use Rattle.std.specs.Prelude.{All}
use Rattle.std.proofs.lemmas.List.Elements.{All-nil, All-cons, All-append}
use Rattle.dc_centre.specs.Centre.{CentreView}
use Rattle.dc_door.specs.Centres.{all_seen, IsKeptCentre}
use Rattle.dc_door.proofs.NewCentres.{centres_more, is_new, number_of_all}
use Rattle.dc_door.proofs.centres.centres_of.Goals as goal

pub centres-preserved : goal.centres-preserved
centres-preserved c =
    let one = c.new-in-centres.result in
    let settings = ap (λ (centre : CentreView). centre.settings) c.new-in-centres.ensures.machine ∙ c.in_ok-centre.ensures.settings in
    let new = is_new c.args.n c.args.k c.args.limit c.centres.me one settings c.new-in-centres.ensures.trail in (
      ap all_seen c.in_ok-push.ensures.items ∙ centres_more c.args.n c.args.k c.args.limit c.centres.me c.centres.kept.items one c.centres.auto.me c.centres.invariant.0 new,
      subst (All IsKeptCentre) (sym c.in_ok-push.ensures.items)
          (All-append IsKeptCentre c.centres.kept.items (one ∷ []) c.centres.invariant.1 (All-cons IsKeptCentre one [] c.new-in-centres.ensures.kept (All-nil IsKeptCentre))),
    )

pub returns-clause-number : goal.returns-clause-number
returns-clause-number c =
    let last : c.centres.me ≡ c.args.n + 1 = omega arith in
    number_of_all c.args.n c.args.k c.args.limit c.centres.me c.centres.kept.items last c.centres.invariant.0
