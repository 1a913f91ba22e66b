-- What workers of a phase that have begun give at their end.
use Rattle.std.specs.Prelude.{◌≡◌, ℕ, Result, IfOk}
use Rattle.ids_core.specs.declared.memory.NoMemory.{NoMemory}
use Rattle.phase_actors.specs.Actors.{HasSent, HasReceived, HasReported, HasPruned}
use Rattle.phase_actors.specs.declared.scene.Scene.{Scene}
use Rattle.phase_actors.specs.declared.callers.Caller.{Caller}
use Rattle.phase_actors.specs.declared.senders.SenderEnd.{SenderEnd}
use Rattle.phase_actors.specs.declared.receivers.ReceiverEnd.{ReceiverEnd}
use Rattle.phase_play.specs.declared.begun.Begun.{Begun}
use Rattle.phase_play.specs.declared.begun.Begun.TheVariants.{There, Over}
use Rattle.phase_play.specs.declared.begun.SenderOf.{SenderOf}
use Rattle.phase_play.specs.declared.begun.ReceiverOf.{ReceiverOf}
use Rattle.phase_play.specs.declared.begun.ReporterOf.{ReporterOf}
use Rattle.phase_play.specs.declared.begun.PrunerOf.{PrunerOf}

-- the sender of a centre: it is in a thread that promises its rounds, or has made them
abbrev pub WillSend : Scene → ℕ → SenderEnd → Begun (Result SenderEnd NoMemory) SenderOf → Type 0
WillSend scene centre old (There h) = (h.promise.scene ≡ scene) × (h.promise.centre ≡ centre) × (h.promise.sender.value ≡ old)
WillSend scene centre old (Over given) = IfOk given (HasSent scene centre old)

-- so it is of its receiver
abbrev pub WillReceive : Scene → ℕ → ReceiverEnd → Begun (Result ReceiverEnd NoMemory) ReceiverOf → Type 0
WillReceive scene centre old (There h) = (h.promise.scene ≡ scene) × (h.promise.centre ≡ centre) × (h.promise.receiver.value ≡ old)
WillReceive scene centre old (Over given) = IfOk given (HasReceived scene centre old)

-- of its reporter
abbrev pub WillReport : Scene → ℕ → Caller → Begun (Result Caller NoMemory) ReporterOf → Type 0
WillReport scene centre old (There h) = (h.promise.scene ≡ scene) × (h.promise.centre ≡ centre) × (h.promise.reporter.value ≡ old)
WillReport scene centre old (Over given) = IfOk given (HasReported scene centre old)

-- and of its pruner
abbrev pub WillPrune : Scene → ℕ → Caller → Begun (Result Caller NoMemory) PrunerOf → Type 0
WillPrune scene centre old (There h) = (h.promise.scene ≡ scene) × (h.promise.centre ≡ centre) × (h.promise.pruner.value ≡ old)
WillPrune scene centre old (Over given) = IfOk given (HasPruned scene centre old)
