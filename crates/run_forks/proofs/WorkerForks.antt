-- The deeds of a worker's round are the same, or part at an answer.
use Rattle.std.proofs.Common.{◌≡◌, ℕ, inl, Bool, true, false, cond, List, [], ◌∷◌, Option, refl, sym, ap, ◌∙◌, subst}
use Rattle.vv_core.specs.Vectors.{at}
use Rattle.dc_talk.specs.declared.sent.Sent.{Sent}
use Rattle.dc_talk.specs.declared.ask.Ask.TheVariants.{Send, Deliver, Report, Prune}
use Rattle.dc_talk.specs.declared.say.Say.{Say}
use Rattle.dc_talk.specs.declared.say.Say.TheVariants.{Vector}
use Rattle.dc_talk.specs.declared.log.Deed.{Deed}
use Rattle.dc_talk.specs.declared.log.Deed.TheVariants.{Spoilt}
use Rattle.dc_talk.specs.declared.line.Line.{Line}
use Rattle.dc_talk.specs.declared.links.Arrival.{Arrival}
use Rattle.dc_talk.specs.declared.links.Arrival.TheVariants as arrival
use Rattle.script_core.specs.declared.rounds.TheConstants.{MOST_MAILED}
use Rattle.script_core.specs.Carrying.{Route, route, Tells}
use Rattle.script_core.specs.Orders.{Orders}
use Rattle.script_core.specs.Rounds.{others, records_in, AfterNeeded, Mails, SenderDeeds, Brings, ReceiverDeeds, ReporterDeeds, is_prune_round, PrunerDeeds}
use Rattle.run_forks.specs.Forks.{AreOneOrFork}
use Rattle.run_forks.proofs.Forks.{OneWith, Same, with_as, with_cons, one_or_fork, both_are}
use Rattle.run_forks.proofs.OperatorForks.{nothing, begun, tells_fork, plain, turns_fork, orders_fork}

-- what follows the same report to a sender
after_needed_fork : (r : Route) (say : Say) (ds es : List Deed) (items again : List Sent) → AfterNeeded r say ds items → AfterNeeded r say es again → OneWith ds es (items ≡ again)
after_needed_fork r (Vector vector) ds es items again one two =
    begun r.from (Send (at vector r.from) MOST_MAILED) one.0 two.0 ds es [] [] (items ≡ again) one.1 two.1
    (λ same. inl (refl, one.2 ∙ (ap records_in same ∙ sym two.2)))
after_needed_fork r say ds es items again one two = nothing ds es items again [] one two

-- the asks of a sender over one route
mails_fork : (r : Route) (ds es : List Deed) (items again : List Sent) → Mails r ds items → Mails r es again → OneWith ds es (items ≡ again)
mails_fork r ds es items again one two =
    begun r.to Report one.say two.say ds es one.later two.later (items ≡ again) one.whole two.whole
    (λ same. after_needed_fork r one.say one.later two.later items again one.follows (subst (λ say. AfterNeeded r say two.later again) (sym same) two.follows))

-- a round of a sender
pub sender_fork : (n i : ℕ) (ds es : List Deed) → SenderDeeds n i ds → SenderDeeds n i es → AreOneOrFork ds es
sender_fork n i ds es one two = one_or_fork ds es (Unit {0})
    (turns_fork (λ to deeds. (items : List Sent) × Mails (route i to) deeds items) (λ to ds es does again. plain ds es (does.0 ≡ again.0) (mails_fork (route i to) ds es does.0 again.0 does.1 again.1)) (others n i) ds es one two)

-- what comes of the same items: of a record whatever is answered, of a spoilt one the same note
brings_fork : (r : Route) (items : List (Arrival Sent)) (ds es : List Deed) → Brings r items ds → Brings r items es → Same ds es
brings_fork r [] ds es one two = both_are ds es [] one two
brings_fork r (item ∷ items) [] es one two = absurd one
brings_fork r (item ∷ items) (d ∷ ds) [] one two = absurd two
brings_fork r (arrival.Whole item ∷ items) (d ∷ ds) (e ∷ es) one two =
    begun r.to (Deliver item.item item.hops) one.0.0 two.0.0 (d ∷ ds) (e ∷ es) ds es (Unit {0}) (ap (λ deed. deed ∷ ds) one.0.1) (ap (λ deed. deed ∷ es) two.0.1)
    (λ same. brings_fork r items ds es one.1 two.1)
brings_fork r (arrival.Spoilt number why ∷ items) (d ∷ ds) (e ∷ es) one two =
    let note : Deed = Spoilt r.from number why in
    with_as (note ∷ ds) (note ∷ es) (d ∷ ds) (e ∷ es) (Unit {0}) (ap (λ deed. deed ∷ ds) one.0) (ap (λ deed. deed ∷ es) two.0)
    (with_cons note ds es (Unit {0}) (brings_fork r items ds es one.1 two.1))

-- a round of a receiver to which the same items are due
pub receiver_fork : (n j : ℕ) (due : ℕ → List (Arrival Sent)) (ds es : List Deed) → ReceiverDeeds n j due ds → ReceiverDeeds n j due es → AreOneOrFork ds es
receiver_fork n j due ds es one two = one_or_fork ds es (Unit {0})
    (turns_fork (λ from deeds. Brings (route from j) (due from) deeds) (λ from ds es does again. brings_fork (route from j) (due from) ds es does again) (others n j) ds es one two)

-- a round of a reporter
pub reporter_fork : (n i : ℕ) (ds es : List Deed) → ReporterDeeds n i ds → ReporterDeeds n i es → AreOneOrFork ds es
reporter_fork n i ds es one two = one_or_fork ds es (Unit {0})
    (turns_fork (λ to deeds. (line : Option Line) × Tells (route i to) deeds line) (λ to ds es does again. plain ds es (does.0 ≡ again.0) (tells_fork (route i to) ds es does.0 again.0 does.1 again.1)) (others n i) ds es one two)

-- a round of a pruner
pub pruner_fork : (i round : ℕ) (ds es : List Deed) → PrunerDeeds i round ds → PrunerDeeds i round es → AreOneOrFork ds es
pruner_fork i round ds es one two = one_or_fork ds es (Unit {0}) (go (is_prune_round round) one two)
  where
    go : (test : Bool) → cond test (Orders i Prune ds) (ds ≡ []) → cond test (Orders i Prune es) (es ≡ []) → Same ds es
    go true first later = orders_fork i Prune ds es first later
    go false first later = both_are ds es [] first later
