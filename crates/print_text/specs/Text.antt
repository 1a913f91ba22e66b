-- The text of a book.
use Rattle.std.specs.Prelude.{ℕ, ◌==◌, List, [], ◌∷◌, ◌++◌, Option, Some, None, map, filter, flat_map, codes, decimal}
use Rattle.std.specs.List.{join_with_byte, range_with_len}
use Rattle.std.specs.Fmt.{signed_decimal}
use Rattle.ids_core.specs.declared.object.ObjectId.{ObjectId}
use Rattle.vv_core.specs.declared.stamp.Lack.{Lack}
use Rattle.vv_core.specs.declared.stamp.Stamp.{Stamp}
use Rattle.vv_core.specs.Vectors.{most}
use Rattle.tx_core.specs.declared.state.Value.{Value}
use Rattle.tx_core.specs.declared.state.Value.TheVariants.{Number, Word, Words, Pairs}
use Rattle.dc_talk.specs.declared.line.Line.{Line}
use Rattle.dc_talk.specs.declared.line.Line.TheVariants.{At, Refused, ConnectMissed, BeginOpen, BeginClock, Closed, ManyUpdates, ManyTags, Unconnected, FetchMissed, FetchLacks, FetchPruned, FetchIgnored, ReadValue, Short, RightsValue, CommitNumber, CommitNone, CommitClosed, CommitPending, AbortClosed, PushUnconnected, PushNone, Push, AgainNone, Again, Flushed, Sees, RefreshUnconnected, RefreshOpen, RefreshLacks, RefreshMissed, RefreshIgnored, Ship, Relay, ToldDown, ToldMisfit, Based, BaseDown, Feed, Look}
use Rattle.dc_talk.specs.declared.line.Miss.{Miss}
use Rattle.dc_talk.specs.declared.line.Miss.TheVariants.{Unreachable, Lost, Misfit}
use Rattle.dc_talk.specs.declared.line.PushEnd.{PushEnd}
use Rattle.dc_talk.specs.declared.line.PushEnd.TheVariants.{Stamped, Known, Full, Order, Lacks, Missed}
use Rattle.dc_talk.specs.declared.line.ShipEnd.{ShipEnd}
use Rattle.dc_talk.specs.declared.line.ShipEnd.TheVariants.{Absent, Applied, Alias, Old, Gap, Waits, Orphan, Trimmed, Down, Misfit as Undelivered}
use Rattle.dc_talk.specs.declared.line.StepWord.{StepWord}
use Rattle.dc_talk.specs.declared.line.StepWord.TheVariants.{Read, Rights}
use Rattle.dc_talk.specs.declared.seen.Fed.{Fed}
use Rattle.dc_talk.specs.declared.seen.Fed.TheVariants.{Shown, Down as FedDown, Pruned, Refused as FedRefused}
use Rattle.dc_talk.specs.declared.seen.Seen.{Seen}
use Rattle.dc_talk.specs.declared.log.Deed.{Deed}
use Rattle.dc_talk.specs.declared.log.Deed.TheVariants.{Told}
use Rattle.dc_talk.specs.declared.log.Note.{Note}
use Rattle.dc_talk.specs.Logs.{Logged}
use Rattle.script_core.specs.Steps.{object_text, shown_text, word_text}

-- a client: `c1`
abbrev pub client_text : ℕ → List ℕ
client_text client = codes "c" ++ decimal client

-- a vector: its entries with commas between them
abbrev pub vector_text : List ℕ → List ℕ
vector_text vector = join_with_byte 44 (map decimal vector)

-- texts behind a first one, each behind this byte
abbrev pub later : ℕ → List (List ℕ) → List ℕ
later byte texts = flat_map (λ text. byte ∷ text) texts

-- a stamp: the centre and the number, with a colon between them
abbrev pub stamp_text : Stamp → List ℕ
stamp_text stamp = decimal stamp.centre ++ codes ":" ++ decimal stamp.seq

-- a word of a register, and `-` where none was written
abbrev pub word_or_none : Option (List ℕ) → List ℕ
word_or_none None = codes "-"
word_or_none (Some word) = word

-- words in braces, with one space between them
abbrev pub braced : List (List ℕ) → List ℕ
braced words = codes "{" ++ join_with_byte 32 words ++ codes "}"

-- a key of a map and its word: `key=word`
abbrev pub pair_text : (List ℕ × List ℕ) → List ℕ
pair_text pair = pair.0 ++ codes "=" ++ pair.1

-- a value: the sum of a counter, with `-` where it is negative; the word of a register; the words of a
-- set; the keys of a map with their words
abbrev pub value_text : Value → List ℕ
value_text (Number sum) = signed_decimal sum
value_text (Word word) = word_or_none word
value_text (Words words) = braced words
value_text (Pairs pairs) = braced (map pair_text pairs)

-- what is lacked, behind a word: the entry that is needed and the one that is there
abbrev pub lacking_text : List ℕ → Lack → List ℕ
lacking_text word lack = word ++ decimal lack.centre ++ codes ":" ++ decimal lack.need ++ codes " has " ++ decimal lack.have

-- what an answering centre lacks
abbrev pub lack_text : Lack → List ℕ
lack_text lack = lacking_text (codes "lacks ") lack

-- why an ask has no reply that counts
abbrev pub miss_text : Miss → List ℕ
miss_text Unreachable = codes "unreachable"
miss_text Lost = codes "lost"
miss_text Misfit = codes "misfit"

-- a client's step on an object, or on a bounded counter
abbrev pub step_text : ℕ → StepWord → ObjectId → List ℕ
step_text client word object = client_text client ++ codes " " ++ word_text word ++ codes " " ++ shown_text word object

-- how a push ended
abbrev pub end_text : PushEnd → List ℕ
end_text (Stamped stamp) = codes "stamp " ++ stamp_text stamp
end_text (Known through) = codes "known " ++ decimal through
end_text (Full limit) = codes "full " ++ decimal limit
end_text (Order have) = codes "order " ++ decimal have
end_text (Lacks lack) = lack_text lack
end_text (Missed miss) = miss_text miss

-- how a delivery by hand ended
abbrev pub ship_end_text : ShipEnd → List ℕ
ship_end_text (Absent seq) = codes "none " ++ decimal seq
ship_end_text (Applied seq) = codes "applied " ++ decimal seq
ship_end_text (Alias seq) = codes "alias " ++ decimal seq
ship_end_text (Old have) = codes "old " ++ decimal have
ship_end_text (Gap have) = codes "gap " ++ decimal have
ship_end_text (Waits lack) = lacking_text (codes "waits ") lack
ship_end_text (Orphan number have) = codes "orphan " ++ decimal number ++ codes " has " ++ decimal have
ship_end_text (Trimmed low) = codes "trimmed " ++ decimal low
ship_end_text (Down centre) = codes "down " ++ decimal centre
ship_end_text Undelivered = codes "misfit"

-- a centre, and another one behind a word: `2 from 1`
abbrev pub centres_text : ℕ → List ℕ → ℕ → List ℕ
centres_text to word from = decimal to ++ word ++ decimal from

-- how a feed ended
abbrev pub fed_text : Fed → List ℕ
fed_text (Shown vector) = codes "fed " ++ vector_text vector
fed_text FedDown = codes "feed down"
fed_text Pruned = codes "feed pruned"
fed_text FedRefused = codes "feed refused"

-- what a look sees: the vector, and the value there
abbrev pub seen_text : Seen → List ℕ
seen_text seen = vector_text seen.vector ++ codes " " ++ value_text seen.value

-- a line, without its line feed
abbrev pub line_text : Line → List ℕ
line_text (At client centre) = client_text client ++ codes " at " ++ decimal centre
line_text (Refused client centre lack) = client_text client ++ codes " refused " ++ decimal centre ++ codes " " ++ lack_text lack
line_text (ConnectMissed client centre miss) = client_text client ++ codes " connect " ++ decimal centre ++ codes " " ++ miss_text miss
line_text (BeginOpen client) = client_text client ++ codes " begin open"
line_text (BeginClock client) = client_text client ++ codes " begin clock"
line_text (Closed client word object) = step_text client word object ++ codes " closed"
line_text (ManyUpdates client word object) = step_text client word object ++ codes " many 256"
line_text (ManyTags client word object count) = step_text client word object ++ codes " tags " ++ decimal count
line_text (Unconnected client word object) = step_text client word object ++ codes " unconnected"
line_text (FetchMissed client word object miss) = step_text client word object ++ codes " " ++ miss_text miss
line_text (FetchLacks client word object lack) = step_text client word object ++ codes " " ++ lack_text lack
line_text (FetchPruned client word object centre base at) = step_text client word object ++ codes " pruned " ++ decimal centre ++ codes ":" ++ decimal base ++ codes " at " ++ decimal at
line_text (FetchIgnored client word object) = step_text client word object ++ codes " ignored"
line_text (ReadValue client object value) = step_text client Read object ++ codes " " ++ value_text value
line_text (Short client word object rights) = step_text client word object ++ codes " short " ++ signed_decimal rights
line_text (RightsValue client object rights) = step_text client Rights object ++ codes " " ++ signed_decimal rights
line_text (CommitNumber client number) = client_text client ++ codes " commit " ++ decimal number
line_text (CommitNone client) = client_text client ++ codes " commit none"
line_text (CommitClosed client) = client_text client ++ codes " commit closed"
line_text (CommitPending client) = client_text client ++ codes " commit pending 1024"
line_text (AbortClosed client) = client_text client ++ codes " abort closed"
line_text (PushUnconnected client) = client_text client ++ codes " push unconnected"
line_text (PushNone client) = client_text client ++ codes " push none"
line_text (Push client number end) = client_text client ++ codes " push " ++ decimal number ++ codes " " ++ end_text end
line_text (AgainNone client centre number) = client_text client ++ codes " again " ++ decimal centre ++ codes " " ++ decimal number ++ codes " none"
line_text (Again client centre number end) = client_text client ++ codes " again " ++ decimal centre ++ codes " " ++ decimal number ++ codes " " ++ end_text end
line_text (Flushed client own) = client_text client ++ codes " flushed " ++ decimal own
line_text (Sees client vector mine) = client_text client ++ codes " sees " ++ vector_text vector ++ codes " own " ++ decimal mine
line_text (RefreshUnconnected client) = client_text client ++ codes " refresh unconnected"
line_text (RefreshOpen client) = client_text client ++ codes " refresh open"
line_text (RefreshLacks client lack) = client_text client ++ codes " refresh " ++ lack_text lack
line_text (RefreshMissed client miss) = client_text client ++ codes " refresh " ++ miss_text miss
line_text (RefreshIgnored client) = client_text client ++ codes " refresh ignored"
line_text (Ship from to end) = centres_text to (codes " from ") from ++ codes " " ++ ship_end_text end
line_text (Relay from origin to end) = centres_text to (codes " from ") from ++ codes " of " ++ decimal origin ++ codes " " ++ ship_end_text end
line_text (ToldDown from to centre) = centres_text to (codes " told ") from ++ codes " down " ++ decimal centre
line_text (ToldMisfit from to) = centres_text to (codes " told ") from ++ codes " misfit"
line_text (Based centre vector folded trimmed) = decimal centre ++ codes " base " ++ vector_text vector ++ codes " folded " ++ decimal folded ++ codes " trimmed " ++ decimal trimmed
line_text (BaseDown centre) = decimal centre ++ codes " base down"
line_text (Feed centre fed) = decimal centre ++ codes " " ++ fed_text fed
line_text (Look client centre object seen) = client_text client ++ codes " tap " ++ decimal centre ++ codes " " ++ object_text object ++ codes " at " ++ seen_text seen

-- the line that a deed tells, with its line feed, and nothing of the other deeds
abbrev pub told_text : Deed → List ℕ
told_text (Told line) = line_text line ++ codes "\n"
told_text _ = []

-- the lines of the notes, in their order
abbrev pub notes_text : List Note → List ℕ
notes_text notes = flat_map (λ note. told_text note.deed) notes

-- the notes of a section
abbrev pub notes_in : ℕ → List Note → List Note
notes_in section notes = filter (λ note. note.section == section) notes

-- the lines of a section's notes
abbrev pub section_text : ℕ → List Note → List ℕ
section_text section notes = notes_text (notes_in section notes)

-- the logs with the first one, the operator's, behind all others
abbrev pub operator_last : List Logged → List Logged
operator_last [] = []
operator_last (operator ∷ others) = others ++ operator ∷ []

-- the greatest section of the notes of the logs, and 0 where there are none
abbrev pub last_section : List Logged → ℕ
last_section logs = most (map (λ note. note.section) (flat_map (λ log. log.notes) logs))

-- the lines of a section in logs, one log behind the other
abbrev pub lines_in : List Logged → ℕ → List ℕ
lines_in logs section = flat_map (λ log. section_text section log.notes) logs

-- the text of the logs of all actors: section by section the lines of the clients, in the order of
-- the clients, and those of the operator last
abbrev pub text_of : List Logged → List ℕ
text_of logs = flat_map (lines_in (operator_last logs)) (range_with_len 1 (last_section logs))
