use Rattle.std.proofs.lemmas.Result.{on_ok_weaker}
use Rattle.load_maker.specs.Made.{blocks, body}
use Rattle.load_maker.proofs.Blocks.{makes_append, makes_then}
use Rattle.load_maker.proofs.maker.Maker.script.Goals as goal

pub returns : goal.returns
unfolding blocks body
returns c =
    on_ok_weaker c.last_reads.result
    (λ rest. makes_then _ _ _ _ _ c.in_ok-put.ensures
    (makes_append _ _ _ _ _ c.in_ok-phases.ensures (makes_append _ _ _ _ _ (makes_then _ _ _ _ _ c.in_ok-put-2.ensures c.in_ok-flushes.ensures) (makes_then _ _ _ _ _ c.in_ok-put-3.ensures rest))))
    c.last_reads.ensures
