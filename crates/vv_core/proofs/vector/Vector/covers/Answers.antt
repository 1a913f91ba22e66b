use Rattle.std.proofs.Common.{◌≡◌, sym, ◌∙◌}
use Rattle.vv_core.specs.Vectors.{covers}
use Rattle.vv_core.proofs.Covering.{is_covers, covers-true, covers_from}
use Rattle.vv_core.proofs.vector.Vector.covers.Goals as goal

pub returns-clause-test : goal.returns-clause-test
returns-clause-test c = is_covers c.args.self.now c.args.other.now c.covers_entries.result (rw (← c.as_slice.ensures.value, ← c.as_slice-2.ensures.value) c.covers_entries.ensures)

pub returns-clause-entries : goal.returns-clause-entries
returns-clause-entries c =
    let test : c.covers_entries.result ≡ covers c.args.self.now c.args.other.now = returns-clause-test c in
    (λ is. covers-true c.args.self.now c.args.other.now (sym test ∙ is), λ h. test ∙ covers_from c.args.self.now c.args.other.now h)
