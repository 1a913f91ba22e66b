use Rattle.std.proofs.Common.{◌≤◌, ◌+◌, length, drop, ap, arith}
use Rattle.std.proofs.lemmas.List.{take_rest}
use Rattle.journal_disk.specs.Disk.{seen}
use Rattle.journal_disk.proofs.Histories.{on_err}
use Rattle.journal_file.proofs.Bytes.{length-closed}
use Rattle.journal_file.proofs.Protocol.{published_closed, published_both}
use Rattle.journal_file.proofs.append.publish.Goals as goal

pub returns-in_err-store-clause-moments : goal.returns-in_err-store-clause-moments
returns-in_err-store-clause-moments g c = λ h front stands settled is place.
    let within : c.args.end + 1 ≤ length (seen h) = omega (arith, ap length is, length-closed front c.args.end place) in
    published_closed h front (drop 1 c.args.out.now) c.args.end place is _ _ _ _ (λ later q. on_err _ _ c.from_residual.ensures.0) (c.in_err-store.ensures.stands h stands settled within)

pub returns-clause-moments : goal.returns-clause-moments
returns-clause-moments g c = λ h front stands settled is place.
    let within : c.args.end + 1 ≤ length (seen h) = omega (arith, ap length is, length-closed front c.args.end place) in
    published_both h front (drop 1 c.args.out.now) c.args.end place is _ _ _ _ c.store-2.result (take_rest c.args.out.now 1) (c.in_ok-store.ensures.stands h stands settled within) c.store-2.ensures.stands
