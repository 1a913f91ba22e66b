use Rattle.std.proofs.Common.{[], ◌∷◌, length, sym, ap, ◌∙◌}
use Rattle.std.proofs.lemmas.List.{length-replicate}
use Rattle.thread_run.specs.Taps.{reader_of}
use Rattle.thread_run.proofs.PhaseTaps.{opened_more}
use Rattle.thread_run.proofs.tapping.open_one.Goals as goal

pub add_readers-requires : goal.add_readers-requires
add_readers-requires g c = ap length c.in_ok-feeder.ensures.readers ∙ (length-replicate c.args.threads (reader_of c.in_ok-feeder.feeder) ∙ sym c.requires.rows)

pub returns : goal.returns
returns g c = λ taps were.
    let feeder = c.in_ok-feeder.feeder in
    opened_more taps c.args.threads c.args.opened.now.feeders.items c.push.new.self.items c.args.opened.now.rows.items c.add_readers.new.rows.items c.args.tap.now feeder c.in_ok-feeder.readers.items were
    (record {
      objects = c.in_ok-feeder.ensures.objects ∙ c.in_ok-copy.ensures;
      wide = c.in_ok-feeder.ensures.width ∙ ap length c.in_ok-copy.ensures;
      shows = c.in_ok-feeder.ensures.shows ∙ ap (λ show. show ∷ []) c.in_ok-show_again.ensures;
    })
    c.in_ok-feeder.ensures.readers c.in_ok-push.ensures.items c.in_ok-add_readers.ensures
