-- What moves leave, one after another.
use Rattle.std.specs.Prelude.{◌≡◌, ℕ, ◌==◌, ◌&&◌, not, cond, map, All, List, [], ◌∷◌, ◌++◌, None}
use Rattle.dc_talk.specs.declared.log.Deed.{Deed}
use Rattle.dc_talk.specs.declared.log.Note.{Note}
use Rattle.dc_talk.specs.Clients.{new_client}
use Rattle.script_core.specs.declared.script.Script.{Script}
use Rattle.script_core.specs.declared.steps.OperatorStep.TheVariants.{Link}
use Rattle.script_core.specs.declared.rounds.Role.TheVariants.{Sender, Receiver, Reporter, Pruner}
use Rattle.script_core.specs.Deeds.{Progress, StepDeeds, stepped}
use Rattle.script_core.specs.declared.taps.TapState.{TapState}
use Rattle.script_core.specs.Taps.{first_tap, FeedsSo, taps_then, LooksSo}
use Rattle.script_core.specs.Orders.{OperatorDeeds}
use Rattle.script_core.specs.Mail.{Post, new_post, post_put, due_in_round, post_after_round, due_at_close, post_closed, post_set}
use Rattle.script_core.specs.Rounds.{SenderDeeds, mailed, ReceiverDeeds, ReporterDeeds, PrunerDeeds}
use Rattle.run_book.specs.Happenings.{Happened, happening}
use Rattle.run_book.specs.Moves.{Does, client_does, operator_does, worker_does, closes, Move, actor_of}

-- how far each client has come, what lies on the link from one centre to another, and what each centre's tap shows
pub record Stage : Type 0 where
  pub come : ℕ → Progress
  pub posts : ℕ → ℕ → Post
  pub taps : ℕ → TapState

-- a client among n centres, at first: no fault is armed, and its log is empty
abbrev pub new_progress : ℕ → ℕ → ℕ → Progress
new_progress n client capacity = record { client = new_client n client capacity; armed = None; notes = [] }

-- a script's stage at first
abbrev pub first_stage : Script → Stage
first_stage script = record { come = λ client. new_progress script.n client script.cache; posts = λ from to. new_post; taps = first_tap script.n script.taps }

-- the deeds are those of what is done next among n centres, in a step or round of this number
abbrev pub DoesSo : ℕ → Stage → ℕ → Does → List Deed → Type 0
DoesSo n stage number (client_does client step) deeds = StepDeeds (stage.come client) step deeds
DoesSo n stage number (operator_does step) deeds = OperatorDeeds n step deeds
DoesSo n stage number (worker_does i Sender) deeds = SenderDeeds n i deeds
DoesSo n stage number (worker_does i Receiver) deeds = ReceiverDeeds n i (λ from. due_in_round (stage.posts from i)) deeds
DoesSo n stage number (worker_does i Reporter) deeds = ReporterDeeds n i deeds
DoesSo n stage number (worker_does i Pruner) deeds = PrunerDeeds i number deeds
DoesSo n stage number (closes i) deeds = ReceiverDeeds n i (λ from. due_at_close (stage.posts from i)) deeds

-- how far a client has come when that was noted
abbrev pub come_after : Does → List Note → (ℕ → Progress) → ℕ → Progress
come_after (client_does client step) notes come other = cond (other == client) (stepped (come client) step notes) (come other)
come_after does notes come other = come other

-- what lies on a link then
abbrev pub post_after : Does → List Deed → ℕ → ℕ → Post → Post
post_after (operator_does (Link i j fault)) deeds from to post = cond (from == i && to == j) (post_set fault post) post
post_after (worker_does i Sender) deeds from to post = cond (from == i && not (to == i)) (post_put (mailed to deeds) post) post
post_after (worker_does i Receiver) deeds from to post = cond (to == i && not (from == i)) (post_after_round post) post
post_after (closes i) deeds from to post = cond (to == i && not (from == i)) (post_closed post) post
post_after does deeds from to post = post

-- on each link
abbrev pub posts_after : Does → List Deed → (ℕ → ℕ → Post) → ℕ → ℕ → Post
posts_after does deeds posts from to = post_after does deeds from to (posts from to)

-- the deeds of feeds and looks are those of the taps that stand there
abbrev pub TapsSo : (ℕ → TapState) → Does → List Deed → Type 0
TapsSo taps (client_does client step) deeds = LooksSo taps client step deeds
TapsSo taps (operator_does step) deeds = FeedsSo taps step deeds
TapsSo taps does deeds = Unit {0}

-- what each tap shows then
abbrev pub taps_after : Does → List Deed → (ℕ → TapState) → ℕ → TapState
taps_after (operator_does step) deeds taps = taps_then step deeds taps
taps_after does deeds taps = taps

-- the stage then
abbrev pub stage_after : Does → List Note → Stage → Stage
stage_after does notes stage = record { come = come_after does notes stage.come; posts = posts_after does (map (λ note. note.deed) notes) stage.posts; taps = taps_after does (map (λ note. note.deed) notes) stage.taps }

-- the note is of this section and step
pub record IsAt (section step : ℕ) (note : Note) : Type 0 where
  pub section_is : note.section ≡ section
  pub step_is : note.step ≡ step

-- this happened, one after another, as these moves were made from a stage on, among n centres with so many clients
pub data Plays (n clients : ℕ) : Stage → List Move → List Happened → Type 0 where
  no_moves : {stage : Stage} → Plays n clients stage [] []
  next_move : {stage : Stage} {move : Move} {moves : List Move} {all : List Happened} (mine : List Note) (later : List Happened) → all ≡ happening (actor_of clients move.does) mine ++ later → All (IsAt move.section move.step) mine → DoesSo n stage move.step move.does (map (λ note. note.deed) mine) → TapsSo stage.taps move.does (map (λ note. note.deed) mine) → Plays n clients (stage_after move.does mine stage) moves later → Plays n clients stage (move ∷ moves) all

-- by these moves of a script it came to a stage: what is played from there on goes on with what happened
pub record HavePlayed (script : Script) (moves : List Move) (all : List Happened) (stage : Stage) : Type 0 where
  pub goes_on : (more : List Move) (later : List Happened) → Plays script.n script.clients stage more later → Plays script.n script.clients (first_stage script) (moves ++ more) (all ++ later)
