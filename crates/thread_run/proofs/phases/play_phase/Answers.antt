use Rattle.std.proofs.Common.{◌≡◌, List, take, rules, refl, sym, ap, subst}
use Rattle.std.specs.Prelude.{All}
use Rattle.dc_door.specs.Centres.{all_seen}
use Rattle.dc_door.specs.KeptDoors.{KeptView}
use Rattle.thread_run.proofs.Beginning.{begun_of, rows_dealt, is_scene, is_cast, is_open, threads_some}
use Rattle.thread_run.proofs.Ending.{crews_are, centres_are, clients_are, readers_are, giver_rows, taker_rows, rows_back, inlets_count, inlets_each, kept_few, kept_is}
use Rattle.thread_run.proofs.PlayedPhases.{phase_played}
use Rattle.script_core.specs.declared.taps.TapState.{TapState}
use Rattle.thread_run.specs.Taps.{IsWide}
use Rattle.thread_run.proofs.PhaseTaps.{wide_first_ones}
use Rattle.thread_run.proofs.phases.play_phase.Goals as goal

pub cast_of-requires-clause-rows : goal.cast_of-requires-clause-rows
cast_of-requires-clause-rows g c =
    let same : c.from.result ≡ c.args.script.now.n = search rules in
    rows_dealt c.args.script.now c.in_ok-hosts.hosts.hosts c.from.result c.in_ok-hosts.rows.items same c.in_ok-hosts.ensures.passes

pub open_taps-requires-clause-wide : goal.open_taps-requires-clause-wide
open_taps-requires-clause-wide g c =
    subst (λ (taps : List TapState). All IsWide (take c.args.script.now.n taps)) (sym c.as_slice-shown.ensures.value) (wide_first_ones c.args.script.now.n c.args.table.taps.items (λ i range. c.requires.wide i range))

pub open_taps-requires-clause-threads : goal.open_taps-requires-clause-threads
open_taps-requires-clause-threads g c = threads_some c.args.script.now c.min-threads.result c.requires.range c.min-threads.ensures

pub play_in_threads-requires-clause-scene : goal.play_in_threads-requires-clause-scene
play_in_threads-requires-clause-scene g c κs within =
    let same : c.from.result ≡ c.args.script.now.n = search rules in
    is_scene _ c.args.table (begun_of _ c.args.table (all_seen c.part.result.items) c.from.result (record { rows = c.in_ok-hosts.rows; logs = c.args.table.logs; stubs = c.args.table.stubs; givers = c.in_ok-links.field-0.givers; takers = c.in_ok-links.field-0.takers; inlets = c.in_ok-inlets.inlets }) c.in_ok-cast.cast c.in_ok-cast.ensures same c.requires.range c.requires.phase c.in_ok-dealt.ensures c.requires.table c.requires.linked c.requires.numbered c.part.ensures.centres c.in_ok-hosts.ensures.hosts c.in_ok-hosts.ensures.callers c.in_ok-hosts.ensures.each c.in_ok-hosts.ensures.passes c.in_ok-links.ensures.number c.in_ok-links.ensures.givers c.in_ok-links.ensures.takers c.in_ok-links.ensures.put c.in_ok-links.ensures.taken c.in_ok-inlets.ensures refl refl c.as_slice-shown.ensures.value c.min-threads.result c.in_ok-opened.opened.feeders.items c.in_ok-opened.opened.rows.items c.min-threads.ensures c.in_ok-opened.ensures)

pub play_in_threads-requires-clause-cast : goal.play_in_threads-requires-clause-cast
play_in_threads-requires-clause-cast g c κs within =
    let same : c.from.result ≡ c.args.script.now.n = search rules in
    is_cast _ c.args.table (begun_of _ c.args.table (all_seen c.part.result.items) c.from.result (record { rows = c.in_ok-hosts.rows; logs = c.args.table.logs; stubs = c.args.table.stubs; givers = c.in_ok-links.field-0.givers; takers = c.in_ok-links.field-0.takers; inlets = c.in_ok-inlets.inlets }) c.in_ok-cast.cast c.in_ok-cast.ensures same c.requires.range c.requires.phase c.in_ok-dealt.ensures c.requires.table c.requires.linked c.requires.numbered c.part.ensures.centres c.in_ok-hosts.ensures.hosts c.in_ok-hosts.ensures.callers c.in_ok-hosts.ensures.each c.in_ok-hosts.ensures.passes c.in_ok-links.ensures.number c.in_ok-links.ensures.givers c.in_ok-links.ensures.takers c.in_ok-links.ensures.put c.in_ok-links.ensures.taken c.in_ok-inlets.ensures refl refl c.as_slice-shown.ensures.value c.min-threads.result c.in_ok-opened.opened.feeders.items c.in_ok-opened.opened.rows.items c.min-threads.ensures c.in_ok-opened.ensures)

pub play_in_threads-requires-clause-opened : goal.play_in_threads-requires-clause-opened
play_in_threads-requires-clause-opened g c κs within =
    let same : c.from.result ≡ c.args.script.now.n = search rules in
    is_open _ c.args.table (begun_of _ c.args.table (all_seen c.part.result.items) c.from.result (record { rows = c.in_ok-hosts.rows; logs = c.args.table.logs; stubs = c.args.table.stubs; givers = c.in_ok-links.field-0.givers; takers = c.in_ok-links.field-0.takers; inlets = c.in_ok-inlets.inlets }) c.in_ok-cast.cast c.in_ok-cast.ensures same c.requires.range c.requires.phase c.in_ok-dealt.ensures c.requires.table c.requires.linked c.requires.numbered c.part.ensures.centres c.in_ok-hosts.ensures.hosts c.in_ok-hosts.ensures.callers c.in_ok-hosts.ensures.each c.in_ok-hosts.ensures.passes c.in_ok-links.ensures.number c.in_ok-links.ensures.givers c.in_ok-links.ensures.takers c.in_ok-links.ensures.put c.in_ok-links.ensures.taken c.in_ok-inlets.ensures refl refl c.as_slice-shown.ensures.value c.min-threads.result c.in_ok-opened.opened.feeders.items c.in_ok-opened.opened.rows.items c.min-threads.ensures c.in_ok-opened.ensures)

pub close_and_part-requires-clause-scene : goal.close_and_part-requires-clause-scene
close_and_part-requires-clause-scene g c κs within =
    let same : c.from.result ≡ c.args.script.now.n = search rules in
    is_scene _ c.args.table (begun_of _ c.args.table (all_seen c.part.result.items) c.from.result (record { rows = c.in_ok-hosts.rows; logs = c.args.table.logs; stubs = c.args.table.stubs; givers = c.in_ok-links.field-0.givers; takers = c.in_ok-links.field-0.takers; inlets = c.in_ok-inlets.inlets }) c.in_ok-cast.cast c.in_ok-cast.ensures same c.requires.range c.requires.phase c.in_ok-dealt.ensures c.requires.table c.requires.linked c.requires.numbered c.part.ensures.centres c.in_ok-hosts.ensures.hosts c.in_ok-hosts.ensures.callers c.in_ok-hosts.ensures.each c.in_ok-hosts.ensures.passes c.in_ok-links.ensures.number c.in_ok-links.ensures.givers c.in_ok-links.ensures.takers c.in_ok-links.ensures.put c.in_ok-links.ensures.taken c.in_ok-inlets.ensures refl refl c.as_slice-shown.ensures.value c.min-threads.result c.in_ok-opened.opened.feeders.items c.in_ok-opened.opened.rows.items c.min-threads.ensures c.in_ok-opened.ensures)

pub close_and_part-requires-clause-crews : goal.close_and_part-requires-clause-crews
close_and_part-requires-clause-crews g c κs within =
    let same : c.from.result ≡ c.args.script.now.n = search rules in
    crews_are _ c.args.table (begun_of _ c.args.table (all_seen c.part.result.items) c.from.result (record { rows = c.in_ok-hosts.rows; logs = c.args.table.logs; stubs = c.args.table.stubs; givers = c.in_ok-links.field-0.givers; takers = c.in_ok-links.field-0.takers; inlets = c.in_ok-inlets.inlets }) c.in_ok-cast.cast c.in_ok-cast.ensures same c.requires.range c.requires.phase c.in_ok-dealt.ensures c.requires.table c.requires.linked c.requires.numbered c.part.ensures.centres c.in_ok-hosts.ensures.hosts c.in_ok-hosts.ensures.callers c.in_ok-hosts.ensures.each c.in_ok-hosts.ensures.passes c.in_ok-links.ensures.number c.in_ok-links.ensures.givers c.in_ok-links.ensures.takers c.in_ok-links.ensures.put c.in_ok-links.ensures.taken c.in_ok-inlets.ensures refl refl c.as_slice-shown.ensures.value c.min-threads.result c.in_ok-opened.opened.feeders.items c.in_ok-opened.opened.rows.items c.min-threads.ensures c.in_ok-opened.ensures) c.in_ok-cast-2.cast c.in_ok-cast-2.opened.feeders.items c.in_ok-cast-2.opened.rows.items c.in_ok-cast-2.ensures

pub close_and_part-requires-clause-centres : goal.close_and_part-requires-clause-centres
close_and_part-requires-clause-centres g c κs within =
    let same : c.from.result ≡ c.args.script.now.n = search rules in
    centres_are _ c.args.table (begun_of _ c.args.table (all_seen c.part.result.items) c.from.result (record { rows = c.in_ok-hosts.rows; logs = c.args.table.logs; stubs = c.args.table.stubs; givers = c.in_ok-links.field-0.givers; takers = c.in_ok-links.field-0.takers; inlets = c.in_ok-inlets.inlets }) c.in_ok-cast.cast c.in_ok-cast.ensures same c.requires.range c.requires.phase c.in_ok-dealt.ensures c.requires.table c.requires.linked c.requires.numbered c.part.ensures.centres c.in_ok-hosts.ensures.hosts c.in_ok-hosts.ensures.callers c.in_ok-hosts.ensures.each c.in_ok-hosts.ensures.passes c.in_ok-links.ensures.number c.in_ok-links.ensures.givers c.in_ok-links.ensures.takers c.in_ok-links.ensures.put c.in_ok-links.ensures.taken c.in_ok-inlets.ensures refl refl c.as_slice-shown.ensures.value c.min-threads.result c.in_ok-opened.opened.feeders.items c.in_ok-opened.opened.rows.items c.min-threads.ensures c.in_ok-opened.ensures) c.in_ok-cast-2.cast c.in_ok-cast-2.opened.feeders.items c.in_ok-cast-2.opened.rows.items c.in_ok-cast-2.ensures

pub close_and_part-requires-clause-clients : goal.close_and_part-requires-clause-clients
close_and_part-requires-clause-clients g c κs within =
    let same : c.from.result ≡ c.args.script.now.n = search rules in
    clients_are _ c.args.table (begun_of _ c.args.table (all_seen c.part.result.items) c.from.result (record { rows = c.in_ok-hosts.rows; logs = c.args.table.logs; stubs = c.args.table.stubs; givers = c.in_ok-links.field-0.givers; takers = c.in_ok-links.field-0.takers; inlets = c.in_ok-inlets.inlets }) c.in_ok-cast.cast c.in_ok-cast.ensures same c.requires.range c.requires.phase c.in_ok-dealt.ensures c.requires.table c.requires.linked c.requires.numbered c.part.ensures.centres c.in_ok-hosts.ensures.hosts c.in_ok-hosts.ensures.callers c.in_ok-hosts.ensures.each c.in_ok-hosts.ensures.passes c.in_ok-links.ensures.number c.in_ok-links.ensures.givers c.in_ok-links.ensures.takers c.in_ok-links.ensures.put c.in_ok-links.ensures.taken c.in_ok-inlets.ensures refl refl c.as_slice-shown.ensures.value c.min-threads.result c.in_ok-opened.opened.feeders.items c.in_ok-opened.opened.rows.items c.min-threads.ensures c.in_ok-opened.ensures) c.in_ok-cast-2.cast c.in_ok-cast-2.opened.feeders.items c.in_ok-cast-2.opened.rows.items c.in_ok-cast-2.ensures

pub close_taps-requires : goal.close_taps-requires
close_taps-requires g c =
    let same : c.from.result ≡ c.args.script.now.n = search rules in
    readers_are _ c.args.table (begun_of _ c.args.table (all_seen c.part.result.items) c.from.result (record { rows = c.in_ok-hosts.rows; logs = c.args.table.logs; stubs = c.args.table.stubs; givers = c.in_ok-links.field-0.givers; takers = c.in_ok-links.field-0.takers; inlets = c.in_ok-inlets.inlets }) c.in_ok-cast.cast c.in_ok-cast.ensures same c.requires.range c.requires.phase c.in_ok-dealt.ensures c.requires.table c.requires.linked c.requires.numbered c.part.ensures.centres c.in_ok-hosts.ensures.hosts c.in_ok-hosts.ensures.callers c.in_ok-hosts.ensures.each c.in_ok-hosts.ensures.passes c.in_ok-links.ensures.number c.in_ok-links.ensures.givers c.in_ok-links.ensures.takers c.in_ok-links.ensures.put c.in_ok-links.ensures.taken c.in_ok-inlets.ensures refl refl c.as_slice-shown.ensures.value c.min-threads.result c.in_ok-opened.opened.feeders.items c.in_ok-opened.opened.rows.items c.min-threads.ensures c.in_ok-opened.ensures) c.in_ok-cast-2.cast c.in_ok-cast-2.opened.feeders.items c.in_ok-cast-2.opened.rows.items c.in_ok-cast-2.ensures

pub close-requires-clause-givers : goal.close-requires-clause-givers
close-requires-clause-givers g c =
    let same : c.from.result ≡ c.args.script.now.n = search rules in
    giver_rows _ c.args.table (record { begun = begun_of _ c.args.table (all_seen c.part.result.items) c.from.result (record { rows = c.in_ok-hosts.rows; logs = c.args.table.logs; stubs = c.args.table.stubs; givers = c.in_ok-links.field-0.givers; takers = c.in_ok-links.field-0.takers; inlets = c.in_ok-inlets.inlets }) c.in_ok-cast.cast c.in_ok-cast.ensures same c.requires.range c.requires.phase c.in_ok-dealt.ensures c.requires.table c.requires.linked c.requires.numbered c.part.ensures.centres c.in_ok-hosts.ensures.hosts c.in_ok-hosts.ensures.callers c.in_ok-hosts.ensures.each c.in_ok-hosts.ensures.passes c.in_ok-links.ensures.number c.in_ok-links.ensures.givers c.in_ok-links.ensures.takers c.in_ok-links.ensures.put c.in_ok-links.ensures.taken c.in_ok-inlets.ensures refl refl c.as_slice-shown.ensures.value c.min-threads.result c.in_ok-opened.opened.feeders.items c.in_ok-opened.opened.rows.items c.min-threads.ensures c.in_ok-opened.ensures; acted = c.in_ok-cast-2.cast; fed = c.in_ok-cast-2.opened.feeders.items; seen = c.in_ok-cast-2.opened.rows.items; played = c.in_ok-cast-2.ensures; later = c.in_ok-parts.parts; parted = c.in_ok-parts.ensures })

pub close-requires-clause-takers : goal.close-requires-clause-takers
close-requires-clause-takers g c =
    let same : c.from.result ≡ c.args.script.now.n = search rules in
    taker_rows _ c.args.table (record { begun = begun_of _ c.args.table (all_seen c.part.result.items) c.from.result (record { rows = c.in_ok-hosts.rows; logs = c.args.table.logs; stubs = c.args.table.stubs; givers = c.in_ok-links.field-0.givers; takers = c.in_ok-links.field-0.takers; inlets = c.in_ok-inlets.inlets }) c.in_ok-cast.cast c.in_ok-cast.ensures same c.requires.range c.requires.phase c.in_ok-dealt.ensures c.requires.table c.requires.linked c.requires.numbered c.part.ensures.centres c.in_ok-hosts.ensures.hosts c.in_ok-hosts.ensures.callers c.in_ok-hosts.ensures.each c.in_ok-hosts.ensures.passes c.in_ok-links.ensures.number c.in_ok-links.ensures.givers c.in_ok-links.ensures.takers c.in_ok-links.ensures.put c.in_ok-links.ensures.taken c.in_ok-inlets.ensures refl refl c.as_slice-shown.ensures.value c.min-threads.result c.in_ok-opened.opened.feeders.items c.in_ok-opened.opened.rows.items c.min-threads.ensures c.in_ok-opened.ensures; acted = c.in_ok-cast-2.cast; fed = c.in_ok-cast-2.opened.feeders.items; seen = c.in_ok-cast-2.opened.rows.items; played = c.in_ok-cast-2.ensures; later = c.in_ok-parts.parts; parted = c.in_ok-parts.ensures })

pub close-requires-2 : goal.close-requires-2
close-requires-2 g c =
    let same : c.from.result ≡ c.args.script.now.n = search rules in
    rows_back _ c.args.table (record { begun = begun_of _ c.args.table (all_seen c.part.result.items) c.from.result (record { rows = c.in_ok-hosts.rows; logs = c.args.table.logs; stubs = c.args.table.stubs; givers = c.in_ok-links.field-0.givers; takers = c.in_ok-links.field-0.takers; inlets = c.in_ok-inlets.inlets }) c.in_ok-cast.cast c.in_ok-cast.ensures same c.requires.range c.requires.phase c.in_ok-dealt.ensures c.requires.table c.requires.linked c.requires.numbered c.part.ensures.centres c.in_ok-hosts.ensures.hosts c.in_ok-hosts.ensures.callers c.in_ok-hosts.ensures.each c.in_ok-hosts.ensures.passes c.in_ok-links.ensures.number c.in_ok-links.ensures.givers c.in_ok-links.ensures.takers c.in_ok-links.ensures.put c.in_ok-links.ensures.taken c.in_ok-inlets.ensures refl refl c.as_slice-shown.ensures.value c.min-threads.result c.in_ok-opened.opened.feeders.items c.in_ok-opened.opened.rows.items c.min-threads.ensures c.in_ok-opened.ensures; acted = c.in_ok-cast-2.cast; fed = c.in_ok-cast-2.opened.feeders.items; seen = c.in_ok-cast-2.opened.rows.items; played = c.in_ok-cast-2.ensures; later = c.in_ok-parts.parts; parted = c.in_ok-parts.ensures })

pub give_all-requires-clause-rows : goal.give_all-requires-clause-rows
give_all-requires-clause-rows g c =
    let same : c.from.result ≡ c.args.script.now.n = search rules in
    inlets_count _ c.args.table (record { begun = begun_of _ c.args.table (all_seen c.part.result.items) c.from.result (record { rows = c.in_ok-hosts.rows; logs = c.args.table.logs; stubs = c.args.table.stubs; givers = c.in_ok-links.field-0.givers; takers = c.in_ok-links.field-0.takers; inlets = c.in_ok-inlets.inlets }) c.in_ok-cast.cast c.in_ok-cast.ensures same c.requires.range c.requires.phase c.in_ok-dealt.ensures c.requires.table c.requires.linked c.requires.numbered c.part.ensures.centres c.in_ok-hosts.ensures.hosts c.in_ok-hosts.ensures.callers c.in_ok-hosts.ensures.each c.in_ok-hosts.ensures.passes c.in_ok-links.ensures.number c.in_ok-links.ensures.givers c.in_ok-links.ensures.takers c.in_ok-links.ensures.put c.in_ok-links.ensures.taken c.in_ok-inlets.ensures refl refl c.as_slice-shown.ensures.value c.min-threads.result c.in_ok-opened.opened.feeders.items c.in_ok-opened.opened.rows.items c.min-threads.ensures c.in_ok-opened.ensures; acted = c.in_ok-cast-2.cast; fed = c.in_ok-cast-2.opened.feeders.items; seen = c.in_ok-cast-2.opened.rows.items; played = c.in_ok-cast-2.ensures; later = c.in_ok-parts.parts; parted = c.in_ok-parts.ensures })

pub give_all-requires-clause-each : goal.give_all-requires-clause-each
give_all-requires-clause-each g c =
    let same : c.from.result ≡ c.args.script.now.n = search rules in
    inlets_each _ c.args.table (record { begun = begun_of _ c.args.table (all_seen c.part.result.items) c.from.result (record { rows = c.in_ok-hosts.rows; logs = c.args.table.logs; stubs = c.args.table.stubs; givers = c.in_ok-links.field-0.givers; takers = c.in_ok-links.field-0.takers; inlets = c.in_ok-inlets.inlets }) c.in_ok-cast.cast c.in_ok-cast.ensures same c.requires.range c.requires.phase c.in_ok-dealt.ensures c.requires.table c.requires.linked c.requires.numbered c.part.ensures.centres c.in_ok-hosts.ensures.hosts c.in_ok-hosts.ensures.callers c.in_ok-hosts.ensures.each c.in_ok-hosts.ensures.passes c.in_ok-links.ensures.number c.in_ok-links.ensures.givers c.in_ok-links.ensures.takers c.in_ok-links.ensures.put c.in_ok-links.ensures.taken c.in_ok-inlets.ensures refl refl c.as_slice-shown.ensures.value c.min-threads.result c.in_ok-opened.opened.feeders.items c.in_ok-opened.opened.rows.items c.min-threads.ensures c.in_ok-opened.ensures; acted = c.in_ok-cast-2.cast; fed = c.in_ok-cast-2.opened.feeders.items; seen = c.in_ok-cast-2.opened.rows.items; played = c.in_ok-cast-2.ensures; later = c.in_ok-parts.parts; parted = c.in_ok-parts.ensures })

pub new-requires-3-clause-number : goal.new-requires-3-clause-number
new-requires-3-clause-number g c =
    let same : c.from.result ≡ c.args.script.now.n = search rules in
    kept_few _ c.args.table (record { begun = begun_of _ c.args.table (all_seen c.part.result.items) c.from.result (record { rows = c.in_ok-hosts.rows; logs = c.args.table.logs; stubs = c.args.table.stubs; givers = c.in_ok-links.field-0.givers; takers = c.in_ok-links.field-0.takers; inlets = c.in_ok-inlets.inlets }) c.in_ok-cast.cast c.in_ok-cast.ensures same c.requires.range c.requires.phase c.in_ok-dealt.ensures c.requires.table c.requires.linked c.requires.numbered c.part.ensures.centres c.in_ok-hosts.ensures.hosts c.in_ok-hosts.ensures.callers c.in_ok-hosts.ensures.each c.in_ok-hosts.ensures.passes c.in_ok-links.ensures.number c.in_ok-links.ensures.givers c.in_ok-links.ensures.takers c.in_ok-links.ensures.put c.in_ok-links.ensures.taken c.in_ok-inlets.ensures refl refl c.as_slice-shown.ensures.value c.min-threads.result c.in_ok-opened.opened.feeders.items c.in_ok-opened.opened.rows.items c.min-threads.ensures c.in_ok-opened.ensures; acted = c.in_ok-cast-2.cast; fed = c.in_ok-cast-2.opened.feeders.items; seen = c.in_ok-cast-2.opened.rows.items; played = c.in_ok-cast-2.ensures; later = c.in_ok-parts.parts; parted = c.in_ok-parts.ensures }) c.in_ok-kept.kept.items c.in_ok-kept.ensures

pub new-requires-3-clause-kept : goal.new-requires-3-clause-kept
new-requires-3-clause-kept g c =
    let same : c.from.result ≡ c.args.script.now.n = search rules in
    kept_is _ c.args.table (record { begun = begun_of _ c.args.table (all_seen c.part.result.items) c.from.result (record { rows = c.in_ok-hosts.rows; logs = c.args.table.logs; stubs = c.args.table.stubs; givers = c.in_ok-links.field-0.givers; takers = c.in_ok-links.field-0.takers; inlets = c.in_ok-inlets.inlets }) c.in_ok-cast.cast c.in_ok-cast.ensures same c.requires.range c.requires.phase c.in_ok-dealt.ensures c.requires.table c.requires.linked c.requires.numbered c.part.ensures.centres c.in_ok-hosts.ensures.hosts c.in_ok-hosts.ensures.callers c.in_ok-hosts.ensures.each c.in_ok-hosts.ensures.passes c.in_ok-links.ensures.number c.in_ok-links.ensures.givers c.in_ok-links.ensures.takers c.in_ok-links.ensures.put c.in_ok-links.ensures.taken c.in_ok-inlets.ensures refl refl c.as_slice-shown.ensures.value c.min-threads.result c.in_ok-opened.opened.feeders.items c.in_ok-opened.opened.rows.items c.min-threads.ensures c.in_ok-opened.ensures; acted = c.in_ok-cast-2.cast; fed = c.in_ok-cast-2.opened.feeders.items; seen = c.in_ok-cast-2.opened.rows.items; played = c.in_ok-cast-2.ensures; later = c.in_ok-parts.parts; parted = c.in_ok-parts.ensures }) c.in_ok-kept.kept.items c.in_ok-kept.ensures

pub returns : goal.returns
returns g c =
    let same : c.from.result ≡ c.args.script.now.n = search rules in
    phase_played _ c.args.table _ (record { run = record { begun = begun_of _ c.args.table (all_seen c.part.result.items) c.from.result (record { rows = c.in_ok-hosts.rows; logs = c.args.table.logs; stubs = c.args.table.stubs; givers = c.in_ok-links.field-0.givers; takers = c.in_ok-links.field-0.takers; inlets = c.in_ok-inlets.inlets }) c.in_ok-cast.cast c.in_ok-cast.ensures same c.requires.range c.requires.phase c.in_ok-dealt.ensures c.requires.table c.requires.linked c.requires.numbered c.part.ensures.centres c.in_ok-hosts.ensures.hosts c.in_ok-hosts.ensures.callers c.in_ok-hosts.ensures.each c.in_ok-hosts.ensures.passes c.in_ok-links.ensures.number c.in_ok-links.ensures.givers c.in_ok-links.ensures.takers c.in_ok-links.ensures.put c.in_ok-links.ensures.taken c.in_ok-inlets.ensures refl refl c.as_slice-shown.ensures.value c.min-threads.result c.in_ok-opened.opened.feeders.items c.in_ok-opened.opened.rows.items c.min-threads.ensures c.in_ok-opened.ensures; acted = c.in_ok-cast-2.cast; fed = c.in_ok-cast-2.opened.feeders.items; seen = c.in_ok-cast-2.opened.rows.items; played = c.in_ok-cast-2.ensures; later = c.in_ok-parts.parts; parted = c.in_ok-parts.ensures }; drained = c.close.ensures.all; kept = c.in_ok-kept.kept.items; closed = c.in_ok-kept.ensures; given = c.give_all.ensures; door_is = ap (λ (door : KeptView). door.centres) c.new-3.ensures.door; stubs_new = refl; logs_new = refl; taps_closed = c.in_ok-taps.ensures })
