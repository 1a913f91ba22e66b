use Rattle.std.proofs.Common.{◌≡◌, ◌++◌, ◌-◌, length, take, map, Some, refl, sym, ap, ◌∙◌, subst, arith}
use Rattle.std.specs.Prelude.{slice_get}
use Rattle.std.proofs.lemmas.Option.{slice_get_read}
use Rattle.std.proofs.lemmas.List.{append-nil, take_all}
use Rattle.dc_talk.specs.Logs.{Logged}
use Rattle.dc_talk.specs.Rule.{commits_of}
use Rattle.run_book.specs.Parts.{notes_of}
use Rattle.run_book.specs.Graphs.{node_of}
use Rattle.run_book.specs.BareNodes.{bare_node}
use Rattle.run_book.proofs.BareNodes.{gathers_more}
use Rattle.run_book.proofs.book.Book.push_log.Goals as goal

pub loop-note-init : goal.loop-note-init
loop-note-init c = record { shows = c.first_replay-replay.ensures; are = λ a setup fit client is. sym (append-nil c.args.nodes.now.items) }

pub loop-note-preserved : goal.loop-note-preserved
loop-note-preserved c =
    let m = c.loop-note.note-index in
    let notes = c.as_slice-notes.result.now in
    let here : slice_get notes m ≡ Some c.note-item.result = slice_get_read notes (length notes) m c.note-item.result refl (omega arith) c.note-item.is in
    let there : slice_get c.args.log.now.notes m ≡ Some c.note-item.result = subst (λ ns. slice_get ns m ≡ Some c.note-item.result) c.as_slice-notes.ensures here in
    gathers_more c.args.self.now c.args.log.now c.args.nodes.now.items c.loop-note.nodes.items c.push_commit.new.nodes.items c.loop-note.replay c.go_on.new.self m c.note-item.result there c.loop-note.invariant c.in_ok-push_commit.ensures c.in_ok-go_on.ensures.ok

pub returns : goal.returns
returns c = λ a setup fit client is.
    let b = c.args.self.now in
    let m = c.loop-note.note-index in
    let whole : take m c.args.log.now.notes ≡ notes_of b a = take_all m c.args.log.now.notes (omega (arith, ap length c.as_slice-notes.ensures)) ∙ ap (λ (l : Logged). l.notes) is in
    c.loop-note.invariant.are a setup fit client is ∙ ap (λ ns. c.args.nodes.now.items ++ map bare_node (map (node_of b) (commits_of b.n (a - 1) setup.capacity ns))) whole
