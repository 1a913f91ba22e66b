use Rattle.std.proofs.Common.{◌≡◌, ◌+◌, refl, subst, arith}
use Rattle.thread_run.specs.Tables.{HasPlayed}
use Rattle.thread_run.proofs.Joining.{none_run, run_linked, run_numbered, run_wide, section_at, run_next}
use Rattle.thread_run.proofs.sections.play_all.Goals as goal

pub sections-init : goal.sections-init
sections-init g c = record { number = refl; run = none_run c.args.script.now c.in_ok-table.table c.in_ok-table.ensures }

pub play_section-requires-clause-section : goal.play_section-requires-clause-section
play_section-requires-clause-section g c κs within = section_at c.args.script.now c.as_slice-sections.result.now c.sections.section-index c.section-item.result c.as_slice-sections.ensures (omega (arith, c.sections-test.true)) c.section-item.is c.requires

pub play_section-requires-clause-linked : goal.play_section-requires-clause-linked
play_section-requires-clause-linked g c κs within = run_linked c.args.script.now _ c.sections.table c.sections.invariant.run

pub play_section-requires-clause-numbered : goal.play_section-requires-clause-numbered
play_section-requires-clause-numbered g c κs within = run_numbered c.args.script.now _ c.sections.table c.sections.invariant.run

pub play_section-requires-clause-wide : goal.play_section-requires-clause-wide
play_section-requires-clause-wide g c κs within = run_wide c.args.script.now _ c.sections.table c.sections.invariant.run

pub sections-preserved : goal.sections-preserved
sections-preserved g c =
    let script = c.args.script.now in
    let number : c.sections.number + 1 ≡ c.sections.section-index + 1 = omega (arith, c.sections.invariant.number) in
    record {
      number = number;
      run = run_next script c.as_slice-sections.result.now c.sections.section-index c.section-item.result c.sections.table c.in_ok-table-2.table c.as_slice-sections.ensures (omega (arith, c.sections-test.true)) c.section-item.is c.requires c.sections.invariant.run
          (subst (λ number. HasPlayed script number c.section-item.result c.sections.table c.in_ok-table-2.table) number c.in_ok-table-2.ensures);
    }
