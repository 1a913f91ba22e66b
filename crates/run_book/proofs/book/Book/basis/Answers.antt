use Rattle.std.proofs.Common.{◌≡◌, ◌+◌, sym, subst, ◌∙◌}
use Rattle.std.specs.List.Sorted.{IsStrictlySortedBy}
use Rattle.list_core.specs.Members.{In}
use Rattle.ids_core.specs.Orders.{dot_cmp}
use Rattle.run_book.specs.Parts.{idle_log}
use Rattle.run_book.specs.Graphs.{basis_at}
use Rattle.run_book.proofs.Bases.{log_there, read_basis}
use Rattle.run_book.proofs.book.Book.basis.Goals as goal

pub returns-in-None-clause-ascending : goal.returns-in-None-clause-ascending
unfolding IsStrictlySortedBy
returns-in-None-clause-ascending c = subst (IsStrictlySortedBy dot_cmp) (sym c.new.ensures.items) tt

pub returns-in_ok-dots-in-Some-clause-members : goal.returns-in_ok-dots-in-Some-clause-members
returns-in_ok-dots-in-Some-clause-members c = λ setup fit client d.
    let b = c.args.self.now in
    let found = c.in-Some.ensures.lookup.3.1 (idle_log 0) in
    let shows = c.in_ok-replay-in-Some.ensures (c.args.log + 1) setup fit client (log_there b c.as_slice.result.now c.args.log c.in-Some.log.now c.as_slice.ensures found) in
    let is : c.in_ok-dots-in-Some.dots.items ≡ basis_at b setup (c.args.log + 1) c.args.note = c.in_ok-dots-in-Some.ensures ∙ read_basis b setup fit (c.args.log + 1) c.args.note c.in_ok-replay-in-Some.replay shows in
    let same = c.sort_once.ensures.members d in
    (λ i. subst (λ l. In d l) is (same.0 i), λ i. same.1 (subst (λ l. In d l) (sym is) i))
