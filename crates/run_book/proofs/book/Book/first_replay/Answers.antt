use Rattle.std.proofs.Common.{ap, ◌∙◌, ◌-◌}
use Rattle.run_book.proofs.Replays.{shows_first}
use Rattle.run_book.proofs.book.Book.first_replay.Goals as goal

pub returns : goal.returns
returns c = λ a setup fit client is.
    shows_first c.args.self.now setup a c.clamp.result c.saturating_sub.result c.args.log.now c.new.result fit client is c.clamp.ensures (c.saturating_sub.ensures ∙ ap (λ actor. actor - 1) c.actor.ensures) c.new.ensures
