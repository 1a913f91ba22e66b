use Rattle.std.proofs.Common.{ℕ, List, length, sym, ap, ◌∙◌, subst}
use Rattle.vv_core.specs.Vectors.{join_of}
use Rattle.k_stable.specs.Tables.{stable_of, all_known_of}
use Rattle.tx_core.specs.declared.tx.Record.{Record}
use Rattle.dc_talk.specs.declared.ask.Ask.TheVariants.{Prune}
use Rattle.dc_talk.specs.declared.say.Say.TheVariants.{Base}
use Rattle.dc_centre.specs.Applied.{IsApplied}
use Rattle.dc_centre.specs.Outboxes.{HasTrimmed}
use Rattle.dc_centre.specs.Centre.{CentreView, Goes}
use Rattle.dc_centre.proofs.Going.{mark_here, centre_pruned, goes_pruned}
use Rattle.dc_centre.proofs.centre.Centre.prune.Goals as goal

pub prune-requires-clause-here : goal.prune-requires-clause-here
prune-requires-clause-here c = let s = c.self.inside in mark_here s.settings s.applied s.told s.mark s.trimmed c.self.invariant

pub invariant_of-self-2 : goal.invariant_of-self-2
invariant_of-self-2 c =
    let s = c.self.inside in
    centre_pruned s.settings s.applied c.prune.new.self s.told s.mark s.trimmed c.stable-self-inside.result c.join-gone.result c.self.invariant c.prune.ensures.counts c.in_ok-prune.ensures.base
    (c.stable-self-inside.ensures.entries ∙ ap (stable_of s.told) c.vector-here.ensures)
    (c.stable-self-inside.ensures.width ∙ c.self.invariant.same.1)
    (c.join-gone.ensures.entries ∙ ap (join_of s.trimmed) (c.all_known-known.ensures.entries ∙ ap (all_known_of s.told) c.vector-here.ensures))
    (c.join-gone.ensures.width ∙ c.self.invariant.let_go)

pub returns-clause-goes : goal.returns-clause-goes
returns-clause-goes c =
    let s = c.self.inside in
    let old : CentreView = record { settings = c.self.inside.settings; applied = c.self.inside.applied; told = c.self.inside.told; mark = c.self.inside.mark; trimmed = c.self.inside.trimmed; outbox = c.self.inside.outbox.rows; down = c.self.inside.stopped } in
    let new : CentreView = record old { applied = c.prune.new.self; mark = c.stable-self-inside.result; trimmed = c.join-gone.result; outbox = c.trim.new.self.rows } in
    let same : (A : List Record) → IsApplied s.settings.n s.applied A → IsApplied s.settings.n c.prune.new.self A = λ A h. subst (λ n. IsApplied n c.prune.new.self A) c.self.invariant.width (c.in_ok-prune.ensures.same A (subst (λ n. IsApplied n s.applied A) (sym c.self.invariant.width) h)) in
    let went : HasTrimmed s.settings.n s.trimmed c.join-gone.result s.outbox.rows c.trim.new.self.rows =
    subst (λ (n : ℕ). HasTrimmed n s.trimmed c.join-gone.result s.outbox.rows c.trim.new.self.rows) c.self.invariant.let_go
    (subst (λ (l : List ℕ). HasTrimmed (length l) l c.join-gone.result s.outbox.rows c.trim.new.self.rows) c.as_slice.ensures.value
    (subst (λ (h : List ℕ). HasTrimmed (length c.as_slice.result.now) c.as_slice.result.now h s.outbox.rows c.trim.new.self.rows) c.as_slice-2.ensures.value c.trim.ensures)) in
    subst (λ (c' : CentreView). Goes c' new Prune (Base s.mark c.folded-folded.result c.get-trimmed.result)) c.self.view_is
    (subst (λ (t : ℕ). Goes old new Prune (Base s.mark c.folded-folded.result t)) (sym c.get-trimmed.ensures)
    (goes_pruned old c.prune.new.self c.stable-self-inside.result c.trim.new.self.rows c.join-gone.result c.folded-folded.result c.self.invariant same c.in_ok-prune.ensures.base
    (c.stable-self-inside.ensures.entries ∙ ap (stable_of s.told) c.vector-here.ensures)
    (c.join-gone.ensures.entries ∙ ap (join_of s.trimmed) (c.all_known-known.ensures.entries ∙ ap (all_known_of s.told) c.vector-here.ensures))
    went))
