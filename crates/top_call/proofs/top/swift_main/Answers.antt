use Rattle.std.proofs.Common.{refl, subst}
use Rattle.top_call.specs.Runs.{IsThreadedForm, given_by, texts}
use Rattle.top_call.proofs.Owing.{ends_causal, ends_complete, ends_input, ends_run, ends_taps, play_known, read_of, threaded_plays}
use Rattle.top_call.proofs.top.swift_main.Goals as goal

pub returns-in-Ok-Some-clause-statuses : goal.returns-in-Ok-Some-clause-statuses
returns-in-Ok-Some-clause-statuses g c = (let ends = c.run_with_threads.ensures.ends (given_by c.args.words.now (g.S.Source.left c.args.source.now) (g.W.Sink.taken c.args.sink.now)) (subst (IsThreadedForm (texts c.args.words.now)) c.in-Ok-Some.field-0-is c.in-Ok-Some.ensures).1 refl refl in ends.statuses)

pub returns-in-Ok-Some-clause-success : goal.returns-in-Ok-Some-clause-success
returns-in-Ok-Some-clause-success g c = (let ends = c.run_with_threads.ensures.ends (given_by c.args.words.now (g.S.Source.left c.args.source.now) (g.W.Sink.taken c.args.sink.now)) (subst (IsThreadedForm (texts c.args.words.now)) c.in-Ok-Some.field-0-is c.in-Ok-Some.ensures).1 refl refl in ends.done)

pub returns-in-Ok-Some-clause-read_to_end : goal.returns-in-Ok-Some-clause-read_to_end
returns-in-Ok-Some-clause-read_to_end g c = λ zero reads. c.run_with_threads.ensures.end zero (read_of (texts c.args.words.now) c.in-Ok-Some.form (play_known c.in-Ok-Some.form (threaded_plays c.in-Ok-Some.form (subst (IsThreadedForm (texts c.args.words.now)) c.in-Ok-Some.field-0-is c.in-Ok-Some.ensures).0)) (subst (IsThreadedForm (texts c.args.words.now)) c.in-Ok-Some.field-0-is c.in-Ok-Some.ensures).1 reads)

pub returns-in-Ok-Some-clause-unread : goal.returns-in-Ok-Some-clause-unread
returns-in-Ok-Some-clause-unread g c = λ none. c.run_with_threads.ensures.unread (λ read. none (record { asked = c.in-Ok-Some.form; reads = read; form = (subst (IsThreadedForm (texts c.args.words.now)) c.in-Ok-Some.field-0-is c.in-Ok-Some.ensures).1 }))

pub returns-in-Ok-Some-clause-causal : goal.returns-in-Ok-Some-clause-causal
returns-in-Ok-Some-clause-causal g c = ends_causal _ _ _ (c.run_with_threads.ensures.ends (given_by c.args.words.now (g.S.Source.left c.args.source.now) (g.W.Sink.taken c.args.sink.now)) (subst (IsThreadedForm (texts c.args.words.now)) c.in-Ok-Some.field-0-is c.in-Ok-Some.ensures).1 refl refl)

pub returns-in-Ok-Some-clause-run : goal.returns-in-Ok-Some-clause-run
returns-in-Ok-Some-clause-run g c = ends_run _ _ _ (c.run_with_threads.ensures.ends (given_by c.args.words.now (g.S.Source.left c.args.source.now) (g.W.Sink.taken c.args.sink.now)) (subst (IsThreadedForm (texts c.args.words.now)) c.in-Ok-Some.field-0-is c.in-Ok-Some.ensures).1 refl refl)

pub returns-in-Ok-Some-clause-taps : goal.returns-in-Ok-Some-clause-taps
returns-in-Ok-Some-clause-taps g c = ends_taps _ _ _ (c.run_with_threads.ensures.ends (given_by c.args.words.now (g.S.Source.left c.args.source.now) (g.W.Sink.taken c.args.sink.now)) (subst (IsThreadedForm (texts c.args.words.now)) c.in-Ok-Some.field-0-is c.in-Ok-Some.ensures).1 refl refl)

pub returns-in-Ok-Some-clause-input : goal.returns-in-Ok-Some-clause-input
returns-in-Ok-Some-clause-input g c = ends_input _ _ _ (c.run_with_threads.ensures.ends (given_by c.args.words.now (g.S.Source.left c.args.source.now) (g.W.Sink.taken c.args.sink.now)) (subst (IsThreadedForm (texts c.args.words.now)) c.in-Ok-Some.field-0-is c.in-Ok-Some.ensures).1 refl refl)

pub returns-in-Ok-Some-clause-words : goal.returns-in-Ok-Some-clause-words
returns-in-Ok-Some-clause-words g c = (let ends = c.run_with_threads.ensures.ends (given_by c.args.words.now (g.S.Source.left c.args.source.now) (g.W.Sink.taken c.args.sink.now)) (subst (IsThreadedForm (texts c.args.words.now)) c.in-Ok-Some.field-0-is c.in-Ok-Some.ensures).1 refl refl in ends.misused)

pub returns-in-Ok-Some-clause-refused : goal.returns-in-Ok-Some-clause-refused
returns-in-Ok-Some-clause-refused g c = (let ends = c.run_with_threads.ensures.ends (given_by c.args.words.now (g.S.Source.left c.args.source.now) (g.W.Sink.taken c.args.sink.now)) (subst (IsThreadedForm (texts c.args.words.now)) c.in-Ok-Some.field-0-is c.in-Ok-Some.ensures).1 refl refl in ends.refused)

pub returns-in-Ok-Some-clause-completeness : goal.returns-in-Ok-Some-clause-completeness
returns-in-Ok-Some-clause-completeness g c = λ playable read write. ends_complete _ _ _ playable (λ e. read (c.run_with_threads.ensures.read e)) (λ e. write (c.run_with_threads.ensures.write e)) (c.run_with_threads.ensures.ends (given_by c.args.words.now (g.S.Source.left c.args.source.now) (g.W.Sink.taken c.args.sink.now)) (subst (IsThreadedForm (texts c.args.words.now)) c.in-Ok-Some.field-0-is c.in-Ok-Some.ensures).1 refl refl)

pub returns-in-Ok-Some-clause-failed_read : goal.returns-in-Ok-Some-clause-failed_read
returns-in-Ok-Some-clause-failed_read g c = (let ends = c.run_with_threads.ensures.ends (given_by c.args.words.now (g.S.Source.left c.args.source.now) (g.W.Sink.taken c.args.sink.now)) (subst (IsThreadedForm (texts c.args.words.now)) c.in-Ok-Some.field-0-is c.in-Ok-Some.ensures).1 refl refl in ends.read_failed)

pub returns-in-Ok-Some-clause-failed_write : goal.returns-in-Ok-Some-clause-failed_write
returns-in-Ok-Some-clause-failed_write g c = (let ends = c.run_with_threads.ensures.ends (given_by c.args.words.now (g.S.Source.left c.args.source.now) (g.W.Sink.taken c.args.sink.now)) (subst (IsThreadedForm (texts c.args.words.now)) c.in-Ok-Some.field-0-is c.in-Ok-Some.ensures).1 refl refl in ends.write_failed)

pub returns-in-Ok-Some-clause-no_memory : goal.returns-in-Ok-Some-clause-no_memory
returns-in-Ok-Some-clause-no_memory g c = (let ends = c.run_with_threads.ensures.ends (given_by c.args.words.now (g.S.Source.left c.args.source.now) (g.W.Sink.taken c.args.sink.now)) (subst (IsThreadedForm (texts c.args.words.now)) c.in-Ok-Some.field-0-is c.in-Ok-Some.ensures).1 refl refl in ends.no_memory)

pub returns-in-Ok-Some-clause-sound : goal.returns-in-Ok-Some-clause-sound
returns-in-Ok-Some-clause-sound g c = (let ends = c.run_with_threads.ensures.ends (given_by c.args.words.now (g.S.Source.left c.args.source.now) (g.W.Sink.taken c.args.sink.now)) (subst (IsThreadedForm (texts c.args.words.now)) c.in-Ok-Some.field-0-is c.in-Ok-Some.ensures).1 refl refl in ends.sound)
