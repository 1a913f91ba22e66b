use Rattle.std.proofs.Common.{rules, ◌≡◌, ◌+◌, [], ◌∷◌, ◌++◌, List, suc, take, drop, refl, sym, ap, ◌∙◌, subst}
use Rattle.std.proofs.lemmas.List.{take_more}
use Rattle.ids_core.specs.declared.object.ObjectId.{ObjectId}
use Rattle.tx_core.specs.declared.state.State.{State}
use Rattle.dc_talk.specs.Acting.{acting, IsCutShort}
use Rattle.dc_talk.proofs.Acting.{cut_behind}
use Rattle.dc_worker.specs.Work.{AddsSuch}
use Rattle.dc_worker.proofs.Work.{cut_then}
use Rattle.dc_worker.specs.declared.feeds.Fetched.{Fetched}
use Rattle.dc_worker.specs.declared.feeds.Fetched.TheVariants as fetch
use Rattle.script_core.specs.Feeds.{FetchesAll}
use Rattle.dc_worker.specs.Feeds.{HasFetched}
use Rattle.dc_worker.proofs.Feeding.{fetched_none, fetched_more, fetched_last, parted}
use Rattle.dc_worker.proofs.feeds.fetch_all.Goals as goal

pub objects-init : goal.objects-init
objects-init g c =
    let start = acting (g.D.Door.shown c.args.door.now) c.args.log.now in
    let none : AddsSuch (FetchesAll c.args.centre c.args.at [] []) start start = fetched_none c.args.centre c.args.at start in
    record { place = refl; fetched = subst (λ (states : List State). AddsSuch (FetchesAll c.args.centre c.args.at [] states) start start) (sym c.new-states.ensures) none }

pub returns-in_err-state-clause-short : goal.returns-in_err-state-clause-short
returns-in_err-state-clause-short g c =
    let start = acting (g.D.Door.shown c.args.door.now) c.args.log.now in
    let mid = acting (g.D.Door.shown c.objects.door) c.objects.log in
    let end = acting (g.D.Door.shown c.fetch.new.door) c.fetch.new.log in
    let before = c.objects.invariant.fetched in
    let cut : IsCutShort start end = cut_then start mid end before.deeds before.adds c.in_err-state.ensures.short in
    search rules

pub returns-in_err-push-in-Got-clause-short : goal.returns-in_err-push-in-Got-clause-short
returns-in_err-push-in-Got-clause-short g c =
    let start = acting (g.D.Door.shown c.args.door.now) c.args.log.now in
    let mid = acting (g.D.Door.shown c.objects.door) c.objects.log in
    let end = acting (g.D.Door.shown c.fetch.new.door) c.fetch.new.log in
    let before = c.objects.invariant.fetched in
    let cut : IsCutShort start end = cut_then start mid end before.deeds before.adds (cut_behind mid end _ c.in_ok-state.ensures.fetched.adds.leaves) in
    search rules

pub returns-in-Ended-clause-fetches : goal.returns-in-Ended-clause-fetches
returns-in-Ended-clause-fetches g c =
    let start = acting (g.D.Door.shown c.args.door.now) c.args.log.now in
    let mid = acting (g.D.Door.shown c.objects.door) c.objects.log in
    let end = acting (g.D.Door.shown c.fetch.new.door) c.fetch.new.log in
    let place = c.objects.object-index in
    let object = c.object-item.result in
    let objects = c.args.objects.now in
    let last : HasFetched c.args.centre c.args.at object (fetch.Ended c.in-Ended.fed) mid end = subst (λ (it : Fetched). HasFetched c.args.centre c.args.at object it mid end) c.in-Ended.is c.in_ok-state.ensures.fetched in
    fetched_last c.args.centre c.args.at objects (take place objects) object (drop (suc place) objects) c.objects.states c.in-Ended.fed start mid end (parted objects place object c.objects-test.true c.object-item.is) c.objects.invariant.fetched last

pub objects-preserved : goal.objects-preserved
objects-preserved g c =
    let start = acting (g.D.Door.shown c.args.door.now) c.args.log.now in
    let mid = acting (g.D.Door.shown c.objects.door) c.objects.log in
    let end = acting (g.D.Door.shown c.fetch.new.door) c.fetch.new.log in
    let place = c.objects.object-index in
    let object = c.object-item.result in
    let objects = c.args.objects.now in
    let one : HasFetched c.args.centre c.args.at object (fetch.Got c.in-Got.state) mid end = subst (λ (it : Fetched). HasFetched c.args.centre c.args.at object it mid end) c.in-Got.is c.in_ok-state.ensures.fetched in
    let more : take (place + 1) objects ≡ take place objects ++ object ∷ [] = take_more objects place object c.objects-test.true ∙ ap (λ (o : ObjectId). take place objects ++ o ∷ []) (sym c.object-item.is) in
    record {
      place = search rules;
      fetched = subst (λ (front : List ObjectId). AddsSuch (FetchesAll c.args.centre c.args.at front c.push.new.self) start end) (sym more)
          (fetched_more c.args.centre c.args.at (take place objects) object c.objects.states c.push.new.self c.in-Got.state start mid end c.in_ok-push-in-Got.ensures.ok c.objects.invariant.fetched one);
    }
