-- Asks and answers as words.
use Rattle.std.specs.Prelude.{ℕ, length, List, ◌++◌, codes, decimal, if◌then◌else◌}
use Rattle.ids_core.specs.declared.ids.Dot.{Dot}
use Rattle.dc_talk.specs.declared.ask.Ask.{Ask}
use Rattle.dc_talk.specs.declared.ask.Ask.TheVariants.{Hello, Refresh, Fetch, Delta, Commit, Send, Deliver, Relay, Report, Learn, Prune, Stop, Start}
use Rattle.dc_talk.specs.declared.say.Say.{Say}
use Rattle.dc_talk.specs.declared.say.Say.TheVariants.{Misfit, Down, Lacks, Welcome, Snap, Pruned, Object, Changes, Known, OutOfOrder, Full, Stamped, Trimmed, Records, Old, Gap, Waits, Orphan, Applied, Vector, Learned, Base, Stopped, Started}
use Rattle.script_core.specs.Steps.{object_text}
use Rattle.print_text.specs.Text.{lacking_text, stamp_text, vector_text}

-- a dot: the client and the number, with a full stop between them
abbrev pub dot_text : Dot → List ℕ
dot_text dot = decimal dot.client ++ codes "." ++ decimal dot.number

-- an ask: its word, and what it is about
abbrev pub ask_text : Ask → List ℕ
ask_text (Hello client need) = codes "hello"
ask_text (Refresh client here) = codes "refresh"
ask_text (Fetch object here) = codes "fetch " ++ object_text object
ask_text (Delta object from here) = codes "delta " ++ object_text object
ask_text (Commit tx) = codes "commit " ++ dot_text tx.dot
ask_text (Send after most) = codes "send " ++ decimal after
ask_text (Deliver item hops) = codes "deliver " ++ stamp_text item.stamp
ask_text (Relay origin after most) = codes "relay " ++ decimal origin ++ codes " " ++ decimal after
ask_text Report = codes "report"
ask_text (Learn from vector) = codes "learn " ++ decimal from
ask_text Prune = codes "prune"
ask_text Stop = codes "stop"
ask_text Start = codes "start"

-- an answer: its word, and what it says
abbrev pub say_text : Say → List ℕ
say_text Misfit = codes "misfit"
say_text Down = codes "down"
say_text (Lacks centre need have) = lacking_text (codes "lacks ") (record { centre = centre; need = need; have = have })
say_text (Welcome through) = codes "welcome " ++ decimal through
say_text (Snap vector mine top) = codes "snap " ++ vector_text vector ++ codes " own " ++ decimal mine ++ codes " top " ++ decimal top
say_text (Pruned centre base here) = codes "pruned " ++ decimal centre ++ codes ":" ++ decimal base ++ codes " at " ++ decimal here
say_text (Object state) = codes "object"
say_text (Changes tail) = codes "changes " ++ decimal (length tail)
say_text (Known through) = codes "known " ++ decimal through
say_text (OutOfOrder have) = codes "order " ++ decimal have
say_text (Full limit) = codes "full " ++ decimal limit
say_text (Stamped stamp) = codes "stamped " ++ stamp_text stamp
say_text (Trimmed from) = codes "trimmed " ++ decimal from
say_text (Records list) = codes "records " ++ decimal (length list)
say_text (Old have) = codes "old " ++ decimal have
say_text (Gap have) = codes "gap " ++ decimal have
say_text (Waits centre need have) = lacking_text (codes "waits ") (record { centre = centre; need = need; have = have })
say_text (Orphan number have) = codes "orphan " ++ decimal number ++ codes " has " ++ decimal have
say_text (Applied fresh) = if fresh then codes "applied" else codes "alias"
say_text (Vector vector) = codes "vector " ++ vector_text vector
say_text (Learned fresh) = if fresh then codes "learned yes" else codes "learned no"
say_text (Base vector folded trimmed) = codes "base " ++ vector_text vector ++ codes " folded " ++ decimal folded ++ codes " trimmed " ++ decimal trimmed
say_text Stopped = codes "stopped"
say_text Started = codes "started"
