use Rattle.std.proofs.Common.{length, refl, sym, ◌∙◌, subst}
use Rattle.std.specs.Prelude.{All}
use Rattle.std.proofs.lemmas.List.{take_all}
use Rattle.std.proofs.lemmas.List.Elements.{All-more}
use Rattle.list_core.proofs.Gets.{get_In}
use Rattle.read_tap.specs.Shows.{ShowsView, IsFront}
use Rattle.read_tap.proofs.Fronts.{read_at, longer}
use Rattle.read_tap.proofs.tap.are_fronts.Goals as goal

pub returns-then-not-is_front_of-clause-more : goal.returns-then-not-is_front_of-clause-more
returns-then-not-is_front_of-clause-more c =
    let readers = c.args.readers.now in
    let reader = c.reader-item.result in
    record {
      reader = reader;
      there = get_In readers c.readers.reader-index reader (read_at readers c.readers.reader-index reader c.readers-test.true c.reader-item.is);
      more = longer (length reader.shows) (length c.args.shows.now.shows) (sym c.is_front_of.ensures.longer ∙ c.if-not-is_front_of.true);
    }

pub readers-preserved : goal.readers-preserved
readers-preserved c =
    let readers = c.args.readers.now in
    let reader = c.reader-item.result in
    let shows = c.args.shows.now.shows in
    let front : IsFront reader.shows shows = c.if-not-is_front_of.ensures.front refl in
    All-more (λ (r : ShowsView). IsFront r.shows shows) readers c.readers.reader-index reader c.readers-test.true c.readers.invariant (subst (λ (r : ShowsView). IsFront r.shows shows) c.reader-item.is front)

pub returns-clause-fronts : goal.returns-clause-fronts
returns-clause-fronts c is =
    let readers = c.args.readers.now in
    subst (All (λ (r : ShowsView). IsFront r.shows c.args.shows.now.shows)) (take_all c.readers.reader-index readers c.readers-test.false) c.readers.invariant
