use Rattle.std.proofs.Common.{◌≡◌, length, map, Some, refl, ap, ◌∙◌, subst, arith}
use Rattle.std.specs.Prelude.{slice_get}
use Rattle.std.proofs.lemmas.Option.{slice_get_read}
use Rattle.dc_talk.specs.Logs.{Logged}
use Rattle.run_book.specs.Graphs.{basis_at}
use Rattle.run_book.specs.Parts.{notes_of}
use Rattle.run_book.specs.ReadBases.{in_order}
use Rattle.run_book.proofs.ReadBases.{reads_before, tells_none, tells_more}
use Rattle.run_book.proofs.book.Book.log_bases.Goals as goal

pub loop-note-init : goal.loop-note-init
loop-note-init c = tells_none c.args.self.now c.args.stamped.now c.args.log.now c.new-bases.result.items c.first_replay-replay.result c.new-bases.ensures.items c.first_replay-replay.ensures

pub loop-note-preserved : goal.loop-note-preserved
loop-note-preserved c =
    let m = c.loop-note.note-index in
    let notes = c.as_slice-notes.result.now in
    let here : slice_get notes m ≡ Some c.note-item.result = slice_get_read notes (length notes) m c.note-item.result refl (omega arith) c.note-item.is in
    let there : slice_get c.args.log.now.notes m ≡ Some c.note-item.result = subst (λ ns. slice_get ns m ≡ Some c.note-item.result) c.as_slice-notes.ensures here in
    tells_more c.args.self.now c.args.stamped.now c.args.log.now c.loop-note.bases.items c.push_basis.new.bases.items c.loop-note.replay c.go_on.new.self m c.note-item.result there c.loop-note.invariant c.in_ok-push_basis.ensures c.in_ok-go_on.ensures.ok

pub returns : goal.returns
returns c = λ a setup fit client is lists.
    let b = c.args.self.now in
    let whole : c.loop-note.note-index ≡ length (notes_of b a) = omega (arith, ap length c.as_slice-notes.ensures, ap (λ (l : Logged). length l.notes) is) in
    c.loop-note.invariant.are a setup fit client is lists ∙ ap (λ m. map (λ m. in_order (basis_at b setup a m)) (reads_before b a m)) whole
