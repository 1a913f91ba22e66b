use Rattle.std.proofs.Common.{rules, arith, ◌≡◌, ◌∷◌, [], Some, sym, subst, length, refl, List, Option}
use Rattle.machine_trail.specs.declared.machine.Kept.{Kept}
use Rattle.host_lock.specs.Law.{maker, Holds}
use Rattle.atomic_table.specs.Table.{opening}
use Rattle.host_lock.proofs.Steps.{starts}
use Rattle.host_lock.proofs.host.lay.Goals as goal

pub new-requires : goal.new-requires
new-requires g c =
    let m = g.M.Machine in let kept = c.args.kept in let key : c.of.result.value ≡ kept = search rules in
    let slots : c.push.new.self.items ≡ Some kept ∷ [] = search rules in
    let long : c.len-length.result ≡ length kept.trail.entries = search rules in
    let K : Type 0 = Kept g.row.M.Denot g.row.M-Ask.Denot g.row.M-Say.Denot g.row.M-Settings.Denot in
    subst (λ (x : K × List (Option K)). Holds m.reply m.stands m.settings (m.settings x.0.machine) x.0.trail.entries c.args.callers (opening (c.len-length.result ∷ 0 ∷ 0 ∷ []) x.1 (maker (Some (m.settings x.0.machine)) x.0.trail.entries c.args.callers)))
    (λ i. (sym key i, sym slots i))
    (starts m.reply m.stands m.settings (m.settings kept.machine) kept.trail.entries c.args.callers c.len-length.result kept long (omega arith) c.requires.callers (record { trail = refl; machine = c.requires.kept; same = refl }) c.requires.kept.history)
