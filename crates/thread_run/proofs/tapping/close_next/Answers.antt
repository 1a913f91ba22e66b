use Rattle.std.proofs.Common.{rules, ◌≡◌, ◌<◌, List, ◌∷◌, length, vec_len, sym, ◌∙◌, subst}
use Rattle.std.specs.Prelude.{All}
use Rattle.std.proofs.lemmas.Bool.{eqb-true}
use Rattle.std.proofs.lemmas.List.{nil_from_length}
use Rattle.read_tap.specs.Shows.{FeederView}
use Rattle.thread_run.specs.Taps.{row_lists, ReadsOf, AreReadsOf}
use Rattle.thread_run.proofs.PhaseTaps.{first_off, first_reads, next_stays, next_closed}
use Rattle.thread_run.proofs.tapping.close_next.Goals as goal

pub returns-then-is_empty : goal.returns-then-is_empty
returns-then-is_empty g c =
    let feeders = c.args.opened.feeders in
    let none : length feeders.items ≡ 0 = sym feeders.ok.0 ∙ eqb-true (vec_len feeders) 0 (sym c.is_empty.ensures ∙ c.if-is_empty.true) in
    next_stays c.args.tap feeders.items (row_lists c.args.opened.rows.items) (nil_from_length feeders.items none) c.requires

pub close_one-requires : goal.close_one-requires
close_one-requires g c =
    let some : 0 < length c.args.opened.feeders.items = search rules in
    let split : c.args.opened.feeders.items ≡ c.remove-feeder.result ∷ c.remove-feeder.new.self.items = first_off c.args.opened.feeders.items c.remove-feeder.new.self.items c.remove-feeder.result some c.remove-feeder.ensures.value c.remove-feeder.ensures.by_index.2 in
    subst (All (ReadsOf c.remove-feeder.result)) (sym c.in_ok-parts.ensures.first) (first_reads c.remove-feeder.result c.remove-feeder.new.self.items (row_lists c.args.opened.rows.items) (subst (λ (feeders : List FeederView). All (AreReadsOf feeders) (row_lists c.args.opened.rows.items)) split c.requires))

pub returns : goal.returns
returns g c =
    let some : 0 < length c.args.opened.feeders.items = search rules in
    let split : c.args.opened.feeders.items ≡ c.remove-feeder.result ∷ c.remove-feeder.new.self.items = first_off c.args.opened.feeders.items c.remove-feeder.new.self.items c.remove-feeder.result some c.remove-feeder.ensures.value c.remove-feeder.ensures.by_index.2 in
    next_closed c.args.tap c.args.opened.feeders.items (row_lists c.args.opened.rows.items) c.in_ok-later.later c.remove-feeder.result c.remove-feeder.new.self.items c.in_ok-parts.parts.first.items (row_lists c.in_ok-parts.parts.rest.items) split c.in_ok-parts.ensures.first c.in_ok-parts.ensures.rest c.requires c.in_ok-later.ensures
