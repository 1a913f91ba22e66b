use Rattle.std.proofs.Common.{◌≡◌, ◌≤◌, refl, sym, ◌∙◌, subst, arith}
use Rattle.ids_core.specs.declared.limits.TheConstants.{MOST_CENTRES}
use Rattle.script_core.specs.declared.script.Script.{Script}
use Rattle.run_table.specs.Tables.{new_stubs}
use Rattle.run_table.specs.Taps.{new_taps}
use Rattle.world_core.proofs.Making.{played_none}
use Rattle.world_core.proofs.Sectioning.{section_at, next_played}
use Rattle.world_core.proofs.sections.play_all.Goals as goal

pub sections-init : goal.sections-init
sections-init g c =
    let world = c.in_ok-world.world in
    let stubs : world.stubs ≡ new_stubs world.script.n world.script.cache world.script.clients = subst (λ (script : Script). world.stubs ≡ new_stubs script.n script.cache script.clients) (sym c.in_ok-world.ensures.script) c.in_ok-world.ensures.stubs in
    let taps : world.taps ≡ new_taps world.script.n world.script.taps = subst (λ (script : Script). world.taps ≡ new_taps script.n script.taps) (sym c.in_ok-world.ensures.script) c.in_ok-world.ensures.taps in
    let few : world.script.n ≤ MOST_CENTRES = subst (λ (script : Script). script.n ≤ MOST_CENTRES) (sym c.in_ok-world.ensures.script) c.requires.header.n.1 in
    record { number = refl; script = c.in_ok-world.ensures.script; fresh = c.in_ok-world.ensures.fresh; played = played_none world few c.in_ok-world.ensures.empty c.in_ok-world.ensures.posts taps stubs }

pub play_section-requires-clause-section : goal.play_section-requires-clause-section
play_section-requires-clause-section g c = section_at c.args.script.now c.sections.world c.as_slice-sections.result.now c.sections.section-index c.section-item.result c.as_slice-sections.ensures c.sections.invariant.script (omega (arith, c.sections-test.true)) c.section-item.is c.requires.sections

pub sections-preserved : goal.sections-preserved
sections-preserved g c =
    let makes = c.in_ok-play_section.ensures in
    record {
      number = omega (arith, c.sections.invariant.number);
      script = makes.script ∙ c.sections.invariant.script;
      fresh = makes.spent ∙ c.sections.invariant.fresh;
      played = next_played c.args.script.now c.sections.world c.as_slice-sections.result.now c.sections.section-index c.section-item.result c.as_slice-sections.ensures c.sections.invariant.script (omega (arith, c.sections-test.true)) c.section-item.is c.requires.sections c.sections.number c.play_section.new.world c.sections.invariant.number c.sections.invariant.played makes;
    }
