use Rattle.std.proofs.Common.{◌≡◌, map, ◌∙◌}
use Rattle.journal_file.proofs.Protocol.{on_match_err}
use Rattle.journal_pair.specs.declared.entry.Entry.TheVariants.{Behind}
use Rattle.journal_pair.specs.Entries.{generation}
use Rattle.journal_pair.proofs.Pairs.{neither, live_none, appended}
use Rattle.journal_pair.proofs.pair.Pair.append.Goals as goal

pub returns-in_err-entries-clause-moments : goal.returns-in_err-entries-clause-moments
returns-in_err-entries-clause-moments g c = λ h k checkpoint behind unshut one two has.
    let p = c.args.self.now in
    (live_none g.T.Item.spelled p.mark p.live.end p.other.end p.size h k checkpoint behind has (g.D.Disk.stands p.live.disk) checkpoint _ _ one (on_match_err _ _ c.from_residual.result c.from_residual.ensures.0 (λ _ _. has)), two)

pub returns-clause-moments : goal.returns-clause-moments
returns-clause-moments g c = λ h k checkpoint behind unshut one two has.
    let p = c.args.self.now in
    let r = c.append.new.self in
    let put_is : c.deref.result.now ≡ map Behind c.args.items.items = c.deref.ensures.value ∙ c.in_ok-entries.ensures in
    let each = neither p.live.shut p.other.shut unshut in (
      appended g.T.Item.spelled p.mark p.live.end p.other.end p.size h k checkpoint behind has c.args.items.items c.deref.result.now put_is (g.D.Disk.stands r.disk) r.end c.append.result r.shut _ (λ still. (neither r.shut p.other.shut still).0)
          (c.append.ensures.moments h (generation p.mark checkpoint behind) each.0 one has.live),
      two,
    )
