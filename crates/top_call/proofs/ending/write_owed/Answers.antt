use Rattle.std.proofs.Common.{refl, sym, subst, ◌∙◌}
use Rattle.io_edge.specs.Streams.{TookFront, puts_behind}
use Rattle.top_call.proofs.Owing.{front_ends, short_ends, wrote_ends}
use Rattle.top_call.proofs.ending.write_owed.Goals as goal

pub returns-in-Ok-clause-ends : goal.returns-in-Ok-clause-ends
returns-in-Ok-clause-ends g c given taken kind = wrote_ends given c.args.owed _ _ kind refl refl refl refl refl (c.in-Ok.ensures.all ∙ λ i. puts_behind (c.deref.ensures.value i) (sym taken i))

pub returns-in-Err-Failed-clause-ends : goal.returns-in-Err-Failed-clause-ends
returns-in-Err-Failed-clause-ends g c given taken kind =
    front_ends given c.args.owed _ _ kind refl refl refl refl refl
    (subst (λ old. TookFront c.args.owed.text.items old (g.W.Sink.taken c.write_all.new.sink)) (sym taken)
    (subst (λ text. TookFront text (g.W.Sink.taken c.args.sink.now) (g.W.Sink.taken c.write_all.new.sink)) c.deref.ensures.value c.in-Err-Failed.ensures.front))

pub returns-in-Err-NoMemory-clause-ends : goal.returns-in-Err-NoMemory-clause-ends
returns-in-Err-NoMemory-clause-ends g c given taken kind =
    short_ends given c.args.owed _ _ kind c.ended_empty.ensures.status c.ended_empty.ensures.script c.ended_empty.ensures.book c.ended_empty.ensures.disks c.ended_empty.ensures.sound
    (subst (λ old. TookFront c.args.owed.text.items old (g.W.Sink.taken c.write_all.new.sink)) (sym taken)
    (subst (λ text. TookFront text (g.W.Sink.taken c.args.sink.now) (g.W.Sink.taken c.write_all.new.sink)) c.deref.ensures.value c.in-Err-NoMemory.ensures.front))
