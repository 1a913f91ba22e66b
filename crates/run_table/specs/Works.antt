-- What a worker of a centre does, and what is left where it came to an early end.
use Rattle.std.specs.Prelude.{◌≡◌, ℕ, List}
use Rattle.dc_talk.specs.Acting.{Acting, IsCutShort}
use Rattle.script_core.specs.declared.rounds.Role.TheVariants.{Sender, Receiver, Reporter, Pruner}
use Rattle.script_core.specs.Mail.{Post, due_in_round, post_after_round, due_at_close, post_closed}
use Rattle.dc_mail.specs.Rounds.{SentPart, ReceivedPart}
use Rattle.run_table.specs.declared.works.Work.{Work}
use Rattle.run_table.specs.declared.works.Work.TheVariants.{Round, Close}
use Rattle.run_book.specs.Moves.{Does, worker_does, closes}

-- the work of a centre, as a move
abbrev pub work_of : ℕ → Work → Does
work_of centre (Round role) = worker_does centre role
work_of centre Close = closes centre

-- the work of a centre among n, over links and through a door, came to an early end: it was done over the links of some first
-- centres, and over that of the next one in part; a reporter and a pruner change no link
abbrev pub HasWorkedPart : ℕ → ℕ → Work → List Post → List Post → Acting → Acting → Type 0
HasWorkedPart n i (Round Sender) old new a b = SentPart n i old new a b
HasWorkedPart n i (Round Receiver) old new a b = ReceivedPart due_in_round post_after_round n i old new a b
HasWorkedPart n i (Round Reporter) old new a b = (new ≡ old) × IsCutShort a b
HasWorkedPart n i (Round Pruner) old new a b = (new ≡ old) × IsCutShort a b
HasWorkedPart n i Close old new a b = ReceivedPart due_at_close post_closed n i old new a b
