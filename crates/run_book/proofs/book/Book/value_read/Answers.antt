use Rattle.std.proofs.Common.{◌≡◌, Some, sym, ◌∙◌, ap, subst}
use Rattle.std.specs.Prelude.{slice_get}
use Rattle.run_book.specs.Parts.{idle_log, log_of}
use Rattle.run_book.specs.Graphs.{client_at}
use Rattle.run_book.specs.Causal.{IsValueAt}
use Rattle.run_book.specs.Replay.{Shows}
use Rattle.run_book.specs.ReadValues.{read_of}
use Rattle.run_book.proofs.Bases.{log_there}
use Rattle.run_book.proofs.ReadValues.{last_there, read_there, same_value}
use Rattle.run_book.proofs.book.Book.value_read.Goals as goal

pub returns-in_ok-value-in-Some-object_read-clause-value : goal.returns-in_ok-value-in-Some-object_read-clause-value
returns-in_ok-value-in-Some-object_read-clause-value c = λ setup read fit r actor place.
    let b = c.args.self.now in
    let log : c.in-Some.log.now ≡ log_of b read.actor = log_there b c.as_slice.result.now c.args.log c.in-Some.log.now c.as_slice.ensures (c.in-Some.ensures.lookup.3.1 (idle_log 0)) ∙ ap (log_of b) (sym actor) in
    let shows : Shows c.in_ok-replay-in-Some-object_read.replay (client_at b setup read.actor read.place) = subst (λ m. Shows c.in_ok-replay-in-Some-object_read.replay (client_at b setup read.actor m)) (sym place) (c.in_ok-replay-in-Some-object_read.ensures read.actor setup fit r.client log) in
    let last = last_there b setup fit read.actor read.place c.in_ok-replay-in-Some-object_read.replay c.in_ok-last-in-Some-object_read.last r.client shows c.in_ok-last-in-Some-object_read.ensures in
    let object = read_there b setup fit read c.in-Some-object_read.object c.in-Some.log.now r log (subst (λ m. Some c.in-Some-object_read.object ≡ read_of (slice_get c.in-Some.log.now.notes m)) (sym place) c.in-Some-object_read.ensures) in
    subst (λ o. IsValueAt b setup (record { actor = read.actor; place = read.place; object = o; value = c.in_ok-value-in-Some-object_read.value })) object
    (c.in_ok-value-in-Some-object_read.ensures setup read.actor read.place fit r.client last)

pub returns-in_ok-value-in-Some-object_read-clause-same : goal.returns-in_ok-value-in-Some-object_read-clause-same
returns-in_ok-value-in-Some-object_read-clause-same c = λ setup read fit r actor place.
    same_value c.args.self.now setup fit read c.in_ok-value-in-Some-object_read.value r (returns-in_ok-value-in-Some-object_read-clause-value c setup read fit r actor place)
