use Rattle.std.proofs.Common.{◌≡◌, Some, sym, ap, ◌∙◌, subst}
use Rattle.std.specs.Prelude.{slice_get}
use Rattle.dc_talk.specs.declared.ask.Ask.{Ask}
use Rattle.dc_talk.specs.declared.ask.Ask.TheVariants.{Hello, Refresh, Fetch, Delta, Commit}
use Rattle.dc_talk.specs.declared.say.Say.TheVariants.{Object}
use Rattle.dc_talk.specs.Rule.{takes}
use Rattle.run_book.specs.declared.book.Book.{Book}
use Rattle.run_book.specs.Setups.{Setup}
use Rattle.run_book.specs.Parts.{trail_of}
use Rattle.run_book.specs.Graphs.{client_at}
use Rattle.run_book.specs.Refusals.{Exchange, Makes}
use Rattle.run_book.proofs.Causal.Deliveries.{no_orphan, no_misfit_delivery, no_misfit_lesson}
use Rattle.run_book.proofs.Causal.Links.{linked}
use Rattle.run_book.proofs.Causal.FitCommits.{commits_fit}
use Rattle.run_book.proofs.Causal.ClientAsks.{push, refresh, fetch, delta, delta_taken, hello, object}
use Rattle.run_book.proofs.Causal.TimelySnapshots.{takes_snapshots}
use Rattle.run_book.proofs.laws.law_refusals.Goals as goal

pub returns-clause-orphan : goal.returns-clause-orphan
returns-clause-orphan c setup i number have entry fit stands = no_orphan c.args.book.now setup fit i entry stands number have

pub returns-clause-deliver : goal.returns-clause-deliver
returns-clause-deliver c setup i entry item hops fit stands = no_misfit_delivery c.args.book.now setup fit i entry stands item hops

pub returns-clause-learn : goal.returns-clause-learn
returns-clause-learn c setup i from entry news fit stands = no_misfit_lesson c.args.book.now setup fit i entry stands from news

pub returns-clause-fit : goal.returns-clause-fit
returns-clause-fit c setup a m tx fit client = commits_fit c.args.book.now setup fit a m tx client

pub returns-clause-linked : goal.returns-clause-linked
returns-clause-linked c setup a m link fit client = linked c.args.book.now setup fit a client m link

-- an exchange whose ask is this one
asked : (b : Book) (setup : Setup) (x : Exchange) (ask : Ask) → Makes b setup x → x.ask ≡ ask → Makes b setup (record { actor = x.actor; place = x.place; centre = x.centre; ask = ask; answer = x.answer })
asked b setup x ask made is = subst (λ ask. Makes b setup (record { actor = x.actor; place = x.place; centre = x.centre; ask = ask; answer = x.answer })) is made

pub returns-clause-push : goal.returns-clause-push
returns-clause-push c setup x tx fit made is = push c.args.book.now setup fit x.actor x.place made.client x.centre tx x.answer (asked c.args.book.now setup x (Commit tx) made is)

pub returns-clause-refresh : goal.returns-clause-refresh
returns-clause-refresh c setup x client here fit made is = refresh c.args.book.now setup fit x.actor x.place made.client x.centre client here x.answer (asked c.args.book.now setup x (Refresh client here) made is)

pub returns-clause-fetch : goal.returns-clause-fetch
returns-clause-fetch c setup x o here fit made is =
    let b = c.args.book.now in
    let f = fetch b setup fit x.actor x.place made.client x.centre o here x.answer (asked b setup x (Fetch o here) made is) in
    record { place = f.place; there = subst (λ ask. slice_get (trail_of b x.centre) f.place ≡ Some (record { caller = x.actor; ask = ask; say = x.answer })) (sym is) f.there; answer = f.answer }

pub returns-clause-delta : goal.returns-clause-delta
returns-clause-delta c setup x o from here fit made is =
    let b = c.args.book.now in
    let f = delta b setup fit x.actor x.place made.client x.centre o from here x.answer (asked b setup x (Delta o from here) made is) in
    record { place = f.place; there = subst (λ ask. slice_get (trail_of b x.centre) f.place ≡ Some (record { caller = x.actor; ask = ask; say = x.answer })) (sym is) f.there; answer = f.answer }

pub returns-clause-delta_taken : goal.returns-clause-delta_taken
returns-clause-delta_taken c setup x o from here fit made is up =
    let b = c.args.book.now in
    ap (λ ask. takes (client_at b setup x.actor x.place) x.centre ask x.answer) is
    ∙ delta_taken b setup fit x.actor x.place made.client x.centre o from here x.answer (asked b setup x (Delta o from here) made is) up

pub returns-clause-hello : goal.returns-clause-hello
returns-clause-hello c setup x client need fit made is = hello c.args.book.now setup fit x.actor x.place made.client x.centre client need x.answer (asked c.args.book.now setup x (Hello client need) made is)

pub returns-clause-object : goal.returns-clause-object
returns-clause-object c setup x o here state fit made is answered =
    let b = c.args.book.now in
    let s = client_at b setup x.actor x.place in
    let told : Makes b setup (record { actor = x.actor; place = x.place; centre = x.centre; ask = Fetch o here; answer = Object state }) = subst (λ answer. Makes b setup (record { actor = x.actor; place = x.place; centre = x.centre; ask = Fetch o here; answer = answer })) answered (asked b setup x (Fetch o here) made is) in
    ap (λ ask. takes s x.centre ask x.answer) is
    ∙ (ap (takes s x.centre (Fetch o here)) answered ∙ object b setup fit x.actor x.place made.client x.centre o here state told)

pub returns-clause-snap : goal.returns-clause-snap
returns-clause-snap c = takes_snapshots c.args.book.now
