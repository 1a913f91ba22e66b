use Rattle.std.proofs.Common.{◌≡◌, [], ◌∷◌, ◌++◌, refl, ap, ◌∙◌, arith, rules}
use Rattle.std.specs.Prelude.{FitsSigned}
use Rattle.std.specs.Int.{w128}
use Rattle.std.proofs.lemmas.Int.{to_z-of_z}
use Rattle.dc_talk.specs.Acting.{acting}
use Rattle.dc_talk.proofs.Acting.{cut_none}
use Rattle.client_stub.specs.Playing.{beside}
use Rattle.client_stub.proofs.Growth.{on_err, cut_grown}
use Rattle.client_stub.proofs.CellReads.{names_all, names_end, names_more, names_none}
use Rattle.client_stub.proofs.stub.Stub.read_cells.Goals as goal

pub returns-in_err-names-clause-short : goal.returns-in_err-names-clause-short
returns-in_err-names-clause-short g c = on_err _ (cut_none _ _ _ refl)

pub returns-in_err-numbers-clause-short : goal.returns-in_err-numbers-clause-short
returns-in_err-numbers-clause-short g c = on_err _ (cut_none _ _ _ refl)

pub cells-init : goal.cells-init
cells-init g c = record {
  place = refl;
  reads = names_none c.args.word c.args.share.now (beside c.args.self.now (g.D.Door.shown c.args.door.now) c.args.log.now) c.in_ok-numbers.numbers.items c.in_ok-numbers.ensures.items;
  linked = c.requires.behind;
}

pub returns-in_err-number-clause-short : goal.returns-in_err-number-clause-short
returns-in_err-number-clause-short g c =
    let p = beside c.args.self.now (g.D.Door.shown c.args.door.now) c.args.log.now in
    let q = beside c.cells.self (g.D.Door.shown c.cells.door) c.cells.log in
    let end = acting (g.D.Door.shown c.read_cell.new.door) c.read_cell.new.log in
    on_err _ (cut_grown p q end c.cells.invariant.reads.deeds c.cells.invariant.reads.grows c.in_err-number.ensures.short)

pub returns-in_err-push-in-Some-clause-short : goal.returns-in_err-push-in-Some-clause-short
returns-in_err-push-in-Some-clause-short g c =
    let p = beside c.args.self.now (g.D.Door.shown c.args.door.now) c.args.log.now in
    let q = beside c.cells.self (g.D.Door.shown c.cells.door) c.cells.log in
    let r = beside c.read_cell.new.self (g.D.Door.shown c.read_cell.new.door) c.read_cell.new.log in
    let end = acting r.door r.log in
    on_err _ (cut_grown p q end c.cells.invariant.reads.deeds c.cells.invariant.reads.grows (cut_grown q r end c.in_ok-number.ensures.gets.deeds c.in_ok-number.ensures.gets.grows (cut_none r.door r.log r.log refl)))

pub returns-in-None-clause-reads : goal.returns-in-None-clause-reads
returns-in-None-clause-reads g c =
    let p = beside c.args.self.now (g.D.Door.shown c.args.door.now) c.args.log.now in
    let q = beside c.cells.self (g.D.Door.shown c.cells.door) c.cells.log in
    let r = beside c.read_cell.new.self (g.D.Door.shown c.read_cell.new.door) c.read_cell.new.log in
    names_end c.args.word c.args.share.now p q r c.deref-name-items.result.now c.cells.name-index c.name-item.result c.cell_read-on.result c.in_ok-number.field-0 c.cells.numbers.items (c.deref-name-items.ensures.value ∙ c.in_ok-names.ensures) (omega (arith, c.cells-test.true)) c.name-item.is c.cell_read-on.ensures c.in-None.is c.cells.invariant.reads c.in_ok-number.ensures.gets

pub cells-preserved : goal.cells-preserved
cells-preserved g c =
    let p = beside c.args.self.now (g.D.Door.shown c.args.door.now) c.args.log.now in
    let q = beside c.cells.self (g.D.Door.shown c.cells.door) c.cells.log in
    let r = beside c.read_cell.new.self (g.D.Door.shown c.read_cell.new.door) c.read_cell.new.log in
    let fits : FitsSigned w128 c.in-Some.number = search rules in
    let pushed : c.push.new.self.items ≡ c.cells.numbers.items ++ c.in-Some.number ∷ [] = c.in_ok-push-in-Some.ensures.items ∙ ap (λ number. c.cells.numbers.items ++ number ∷ []) (to_z-of_z w128 c.in-Some.number fits) in
    record {
      place = c.in_ok-number.ensures.place ∙ c.cells.invariant.place;
      reads = names_more c.args.word c.args.share.now p q r c.deref-name-items.result.now c.cells.name-index c.name-item.result c.cell_read-on.result c.in_ok-number.field-0 c.in-Some.number c.cells.numbers.items c.push.new.self.items (omega (arith, c.cells-test.true)) c.name-item.is c.cell_read-on.ensures c.in-Some.is pushed c.cells.invariant.reads c.in_ok-number.ensures.gets;
      linked = c.in_ok-number.ensures.linked;
    }

pub returns-clause-reads : goal.returns-clause-reads
returns-clause-reads g c =
    let p = beside c.args.self.now (g.D.Door.shown c.args.door.now) c.args.log.now in
    let q = beside c.cells.self (g.D.Door.shown c.cells.door) c.cells.log in
    names_all c.args.word c.args.share.now p q c.deref-name-items.result.now c.cells.name-index c.cells.numbers.items (c.deref-name-items.ensures.value ∙ c.in_ok-names.ensures) (omega (arith, c.cells-test.false)) c.cells.invariant.reads
