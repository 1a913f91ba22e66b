use Rattle.std.proofs.Common.{◌≡◌, ◌≢◌, ◌↔◌, IsTrue, set, sym, ap, ◌∙◌, subst, arith}
use Rattle.k_stable.specs.Tables.{Table, Learns, table_in, told_by}
use Rattle.k_stable.proofs.Learning.{place_is, place_learns, place_changes}
use Rattle.k_stable.proofs.told.Told.learn.Goals as goal

pub invariant_of-self : goal.invariant_of-self
invariant_of-self c =
    let s = c.self.inside in
    let n : s.n ≡ c.args.self.now.n = ap (λ (t : Table). t.n) c.self.view_is in
    place_is s.me s.n s.k s.rows c.self.invariant c.from.result c.args.from c.from.ensures c.requires.from.0 (omega (arith, c.requires.from, n)) c.index-self-from.result c.args.vector.now c.join_into.new.row c.join_into.ensures.row (c.requires.width ∙ sym n)

pub returns-clause-table : goal.returns-clause-table
returns-clause-table c = invariant_of-self c

pub returns-clause-row : goal.returns-clause-row
returns-clause-row c =
    let s = c.self.inside in
    let n : s.n ≡ c.args.self.now.n = ap (λ (t : Table). t.n) c.self.view_is in
    subst (λ (t : Table). Learns t (table_in s.me s.n s.k (set s.rows c.from.result c.join_into.new.row)) c.args.from c.args.vector.now) c.self.view_is
    (place_learns s.me s.n s.k s.rows c.self.invariant c.from.result c.args.from c.from.ensures c.requires.from.0 (omega (arith, c.requires.from, n)) c.index-self-from.result c.args.vector.now c.join_into.new.row c.join_into.ensures.row c.if-from-self.false)

pub returns-clause-answer : goal.returns-clause-answer
returns-clause-answer c =
    let s = c.self.inside in
    let n : s.n ≡ c.args.self.now.n = ap (λ (t : Table). t.n) c.self.view_is in
    subst (λ (t : Table). IsTrue c.join_into.result ↔ (told_by (table_in s.me s.n s.k (set s.rows c.from.result c.join_into.new.row)) c.args.from ≢ told_by t c.args.from)) c.self.view_is
    (place_changes s.me s.n s.k s.rows c.self.invariant c.from.result c.args.from c.from.ensures c.requires.from.0 (omega (arith, c.requires.from, n)) c.index-self-from.result c.args.vector.now c.join_into.new.row c.join_into.ensures.row c.join_into.result c.join_into.ensures.answer)
