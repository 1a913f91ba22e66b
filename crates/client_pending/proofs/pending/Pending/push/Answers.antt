use Rattle.std.proofs.Common.{[], ◌∷◌, ◌++◌, sym, ap, ◌∙◌}
use Rattle.object_lists.proofs.Ops.{no_error, some_error}
use Rattle.client_pending.proofs.Indexes.{stands_same, stands_more}
use Rattle.client_pending.proofs.pending.Pending.push.Goals as goal

pub invariant_of-self-then-is_err-2 : goal.invariant_of-self-then-is_err-2
invariant_of-self-then-is_err-2 c = stands_same c.self.inside.index c.put.new.index c.self.inside.txs.items c.reserve.new.self.items c.self.invariant c.reserve.ensures.items (some_error c.put.result (sym c.is_err-else-is_err.ensures.value ∙ c.if-is_err-2.true) c.put.ensures.err)

pub invariant_of-self-2 : goal.invariant_of-self-2
invariant_of-self-2 c = stands_more c.self.inside.index c.put.new.index c.self.inside.txs.items c.push_reserved.new.self.items c.self.invariant c.args.tx (c.push_reserved.ensures.items ∙ ap (λ l. l ++ c.args.tx ∷ []) c.reserve.ensures.items) c.requires (no_error c.put.result (sym c.is_err-else-is_err.ensures.value ∙ c.if-is_err-2.false) c.put.ensures.ok)
