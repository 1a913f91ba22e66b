use Rattle.std.proofs.Common.{◌≡◌, List, Result, Ok, Err, IfOk, IfErr, sym, subst}
use Rattle.join_bundle.specs.declared.bundle.Cause.{Cause}
use Rattle.join_bundle.specs.declared.bundle.Cause.TheVariants.{OutOfMemory}
use Rattle.join_bundle.specs.declared.part.BundleParts.{BundleParts}
use Rattle.join_bundle.specs.Bundles.{IsBundle}
use Rattle.dc_talk.specs.Entries.{Entry}
use Rattle.dc_talk.specs.Laws.{IsCentreHistory}
use Rattle.cut_law.specs.Cuts.{IsCutOf}
use Rattle.dc_centre.specs.Centre.{CentreView, StandsFor}
use Rattle.centre_gives.specs.Giving.{IsMadeOf}
use Rattle.centre_gives.proofs.Bundling.{bundle_made}
use Rattle.centre_gives.proofs.Cutting.{cut_made}
use Rattle.centre_gives.proofs.giving.give.Goals as goal

-- a bundle with the parts that are made of the centre, or why there is none
module _ (c : CentreView) (parts : BundleParts) (made : IsMadeOf c parts) where
  taken : (r : Result BundleParts Cause) → IfOk r (λ bundle. bundle ≡ parts) → IfOk r (λ bundle. (trail : List Entry) → StandsFor c trail → IsCutOf c.settings trail bundle)
  taken (Ok bundle) is = λ trail stands. subst (IsCutOf c.settings trail) (sym is) (cut_made c parts made trail stands)
  taken (Err cause) is = tt

  refused : (r : Result BundleParts Cause) → IfErr r (λ cause. IsBundle parts → cause ≡ OutOfMemory) → IfErr r (λ cause. (trail : List Entry) → StandsFor c trail → IsCentreHistory c.settings trail → cause ≡ OutOfMemory)
  refused (Ok bundle) is = tt
  refused (Err cause) is = λ trail stands history. is (bundle_made c parts made trail stands history)

pub returns-in-Ok-clause-cut : goal.returns-in-Ok-clause-cut
returns-in-Ok-clause-cut c = taken c.args.centre.now c.in-Ok.parts c.in-Ok.ensures c.bundle_of.result c.bundle_of.ensures.taken

pub returns-in-Ok-clause-err : goal.returns-in-Ok-clause-err
returns-in-Ok-clause-err c = refused c.args.centre.now c.in-Ok.parts c.in-Ok.ensures c.bundle_of.result c.bundle_of.ensures.err
