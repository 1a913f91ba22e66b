use Rattle.std.proofs.Common.{◌≡◌, ◌-◌, length, take, Some, refl, ap, ◌∙◌, subst, arith}
use Rattle.std.specs.Prelude.{slice_get}
use Rattle.std.proofs.lemmas.Option.{slice_get_read}
use Rattle.std.proofs.lemmas.List.{take_all}
use Rattle.dc_talk.specs.Logs.{Logged}
use Rattle.dc_talk.specs.Rule.{client_after}
use Rattle.run_book.specs.Parts.{notes_of}
use Rattle.run_book.specs.Replay.{Shows}
use Rattle.run_book.proofs.Replays.{shows_more, front_follows}
use Rattle.run_book.proofs.book.Book.replay.Goals as goal

pub loop-note-preserved : goal.loop-note-preserved
loop-note-preserved c = λ a setup fit client is.
    let b = c.args.self.now in
    let notes = c.first_notes-notes.result.now in
    let there : slice_get notes c.loop-note.note-index ≡ Some c.note-item.result = slice_get_read notes (length notes) c.loop-note.note-index c.note-item.result refl (omega arith) c.note-item.is in
    shows_more b.n (a - 1) setup.capacity c.loop-note.note-index notes c.note-item.result c.loop-note.replay c.go_on.new.self (front_follows b setup a c.args.many notes c.args.log.now fit client is c.first_notes-notes.ensures) there c.in_ok-go_on.ensures.ok (c.loop-note.invariant a setup fit client is)

pub returns : goal.returns
returns c = λ a setup fit client is.
    let b = c.args.self.now in
    let notes = c.first_notes-notes.result.now in
    let whole : take c.loop-note.note-index notes ≡ take c.args.many (notes_of b a) = take_all c.loop-note.note-index notes (omega arith) ∙ (c.first_notes-notes.ensures ∙ ap (λ (l : Logged). take c.args.many l.notes) is) in
    subst (λ ns. Shows c.loop-note.replay (client_after b.n (a - 1) setup.capacity ns)) whole (c.loop-note.invariant a setup fit client is)
