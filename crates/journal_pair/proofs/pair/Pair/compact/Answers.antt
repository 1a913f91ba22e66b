use Rattle.std.proofs.Common.{◌≡◌, ◌<◌, ◌+◌, [], sym, ◌∙◌, ap, subst, arith}
use Rattle.journal_file.proofs.Protocol.{ran_stands}
use Rattle.journal_pair.specs.Marks.{number_of}
use Rattle.journal_pair.specs.Entries.{generation}
use Rattle.journal_pair.specs.Files.{AreAt}
use Rattle.journal_pair.proofs.Pairs.{neither, on_err_any, other_none, replaced, made_at, kept_at}
use Rattle.journal_pair.proofs.pair.Pair.compact.Goals as goal

pub returns-in_default-clause-kept : goal.returns-in_default-clause-kept
returns-in_default-clause-kept g c = λ h k old behind unshut one two has.
    let p = c.args.self.now in
    (other_none g.T.Item.spelled p.mark p.live.end p.other.end p.size h k old behind has (g.D.Disk.stands p.other.disk) c.args.checkpoint.items [] _ two (λ _. has), one)

pub returns-in_err-entries-clause-kept : goal.returns-in_err-entries-clause-kept
returns-in_err-entries-clause-kept g c = on_err_any _ c.from_residual.result (λ h k old behind unshut one two has.
    let p = c.args.self.now in
    (other_none g.T.Item.spelled p.mark p.live.end p.other.end p.size h k old behind has (g.D.Disk.stands p.other.disk) c.args.checkpoint.items [] _ two (λ _. has), one))

pub returns-in_err-replace-clause-kept : goal.returns-in_err-replace-clause-kept
returns-in_err-replace-clause-kept g c = on_err_any _ c.from_residual-in_err-replace.result (λ h k old behind unshut one two has.
    let p = c.args.self.now in
    let spelled = g.T.Item.spelled in
    let next = c.in-Some.mark in
    let items = c.args.checkpoint.items in
    let later : number_of p.mark < number_of next = omega (arith, c.in-Some.ensures) in
    let made_is : c.deref.result.now ≡ generation next items [] = c.deref.ensures.value ∙ c.in_ok-entries.ensures in
    let each = neither p.live.shut p.other.shut unshut in (
      replaced spelled p.mark p.live.end p.other.end p.size h k old behind has next later items c.deref.result.now made_is (g.D.Disk.stands c.replace.new.self.disk) _ _
          (λ l other still. kept_at spelled p.mark p.live.end p.other.end p.size h k old behind has next later items c.deref.result.now made_is c.replace.new.self.end l (other (neither p.live.shut c.replace.new.self.shut still).1))
          (c.in_err-replace.ensures.moments k has.earlier each.1 two has.other),
      one,
    ))

pub returns-clause-done : goal.returns-clause-done
returns-clause-done g c = λ h k old behind unshut one two has.
    let p = c.args.self.now in
    let spelled = g.T.Item.spelled in
    let next = c.in-Some.mark in
    let items = c.args.checkpoint.items in
    let r = c.replace.new.self in
    let x = c.swap.new.x in
    let y = c.swap.new.y in
    let later : number_of p.mark < number_of next = omega (arith, c.in-Some.ensures) in
    let made_is : c.deref.result.now ≡ generation next items [] = c.deref.ensures.value ∙ c.in_ok-entries.ensures in
    let each = neither p.live.shut p.other.shut unshut in
    let x_is : x ≡ r = c.swap.ensures.x_after in
    let y_is : y ≡ p.live = c.swap.ensures.y_after in
    let x_end : x.end ≡ r.end = ap (λ j. j.end) x_is in
    let y_end : y.end ≡ p.live.end = ap (λ j. j.end) y_is in
    let long : c.size-self.result ≡ r.end + 1 = omega (arith, c.size-self.ensures, x_end) in (
      replaced spelled p.mark p.live.end p.other.end p.size h k old behind has next later items c.deref.result.now made_is (g.D.Disk.stands x.disk) _ _
          (λ l made. subst (λ e. AreAt spelled next x.end e c.size-self.result l h items []) (sym y_end)
          (subst (λ e. AreAt spelled next e p.live.end c.size-self.result l h items []) (sym x_end)
          (made_at spelled p.mark p.live.end p.other.end p.size h k old behind has next later items c.deref.result.now made_is r.end c.size-self.result l long made)))
          (ran_stands (g.D.Disk.stands r.disk) (g.D.Disk.stands x.disk) k _ _ (λ l s. subst (λ j. g.D.Disk.stands j.disk l) (sym x_is) s)
          (c.in_ok-replace.ensures.moments k has.earlier each.1 two has.other)),
      subst (λ j. g.D.Disk.stands j.disk h) (sym y_is) one,
    )
