use Rattle.std.proofs.Common.{ap, ◌∙◌, length, Some, rules, subst}
use Rattle.std.specs.Prelude.{FitsSigned}
use Rattle.std.specs.Int.{w128}
use Rattle.std.proofs.lemmas.Int.{to_z-of_z}
use Rattle.std.specs.Option.{option_map}
use Rattle.script_core.specs.Deeds.{rights_got}
use Rattle.client_stub.specs.BoundedSteps.{HasReadCells}
use Rattle.client_stub.specs.Playing.{beside}
use Rattle.client_stub.proofs.CellReads.{got_count}
use Rattle.client_stub.proofs.stub.Stub.read_rights.Goals as goal

pub rights-requires-clause-each : goal.rights-requires-clause-each
rights-requires-clause-each g c =
    let p = beside c.args.self.now (g.D.Door.shown c.args.door.now) c.args.log.now in
    let q = beside c.read_cells.new.self (g.D.Door.shown c.read_cells.new.door) c.read_cells.new.log in
    let reads : HasReadCells c.args.word c.args.share.now (Some c.in-Some.numbers.items) p q = subst (λ numbers. HasReadCells c.args.word c.args.share.now (option_map (λ numbers. numbers.items) numbers) p q) c.in-Some.is c.in_ok-numbers.ensures.reads in
    ap length c.as_slice.ensures.value ∙ got_count c.args.word c.args.share.now p q c.in-Some.numbers.items c.requires.share reads

pub returns-in-Some-clause-reads : goal.returns-in-Some-clause-reads
returns-in-Some-clause-reads g c =
    let p = beside c.args.self.now (g.D.Door.shown c.args.door.now) c.args.log.now in
    let q = beside c.read_cells.new.self (g.D.Door.shown c.read_cells.new.door) c.read_cells.new.log in
    let reads : HasReadCells c.args.word c.args.share.now (Some c.in-Some.numbers.items) p q = subst (λ numbers. HasReadCells c.args.word c.args.share.now (option_map (λ numbers. numbers.items) numbers) p q) c.in-Some.is c.in_ok-numbers.ensures.reads in
    let fits : FitsSigned w128 c.rights.result = search rules in
    (c.in-Some.numbers.items, to_z-of_z w128 c.rights.result fits ∙ (c.rights.ensures ∙ ap (rights_got c.args.share.now) c.as_slice.ensures.value), reads)

pub returns-in-None-clause-reads : goal.returns-in-None-clause-reads
returns-in-None-clause-reads g c =
    let p = beside c.args.self.now (g.D.Door.shown c.args.door.now) c.args.log.now in
    let q = beside c.read_cells.new.self (g.D.Door.shown c.read_cells.new.door) c.read_cells.new.log in
    subst (λ numbers. HasReadCells c.args.word c.args.share.now (option_map (λ numbers. numbers.items) numbers) p q) c.in-None.is c.in_ok-numbers.ensures.reads
