-- The forms of lines, and what the words of each have to be.
use Rattle.std.specs.Prelude.{◌==◌, ◌&&◌, ℕ, Bool, true, cond, nat_lt, List, [], ◌∷◌, length, drop, slice_index, find, Option, Some, None, Result, Ok, Err, codes, bytes_eq}
use Rattle.std.specs.List.{list_all, list_any}
use Rattle.ids_core.specs.declared.limits.TheConstants.{MOST_CACHED, MOST_CLIENTS}
use Rattle.script_core.specs.declared.script.TheConstants.{MOST_THREADS, MOST_ROUNDS}
use Rattle.script_reader.specs.declared.fault.Cause.{Cause}
use Rattle.script_reader.specs.declared.fault.Cause.TheVariants as cause
use Rattle.script_reader.specs.declared.form.TheConstants.{MOST_COUNTED}
use Rattle.script_reader.specs.declared.form.Word.{Word}
use Rattle.script_reader.specs.declared.form.Word.TheVariants as word
use Rattle.script_reader.specs.declared.form.Part.{Part}
use Rattle.script_reader.specs.declared.form.Part.TheVariants.{Fixed, Client, Holder, OtherHolder, Centre, Other, Third, Centres, Stable, Count, Commit, Delta, Object, Summand, Bounded, Amount, Key, Name}
use Rattle.script_reader.specs.declared.form.Form.{Form}
use Rattle.script_reader.specs.declared.form.Form.TheVariants as form
use Rattle.script_reader.specs.Numbers.{is_digit}

-- the bytes of a word
abbrev pub word_text : Word → List ℕ
word_text word.Centres = codes "centres"
word_text word.K = codes "k"
word_text word.Clients = codes "clients"
word_text word.Cache = codes "cache"
word_text word.Limit = codes "limit"
word_text word.Threads = codes "threads"
word_text word.Rounds = codes "rounds"
word_text word.Tap = codes "tap"
word_text word.Connect = codes "connect"
word_text word.Begin = codes "begin"
word_text word.Inc = codes "inc"
word_text word.Set = codes "set"
word_text word.Add = codes "add"
word_text word.Del = codes "del"
word_text word.Put = codes "put"
word_text word.Drop = codes "drop"
word_text word.Read = codes "read"
word_text word.Grant = codes "grant"
word_text word.Give = codes "give"
word_text word.Take = codes "take"
word_text word.Rights = codes "rights"
word_text word.Commit = codes "commit"
word_text word.Abort = codes "abort"
word_text word.Push = codes "push"
word_text word.Flush = codes "flush"
word_text word.Refresh = codes "refresh"
word_text word.Again = codes "again"
word_text word.Lose = codes "lose"
word_text word.Ask = codes "ask"
word_text word.Reply = codes "reply"
word_text word.Twice = codes "twice"
word_text word.Down = codes "down"
word_text word.Up = codes "up"
word_text word.Ship = codes "ship"
word_text word.Relay = codes "relay"
word_text word.Tell = codes "tell"
word_text word.Prune = codes "prune"
word_text word.Feed = codes "feed"
word_text word.Link = codes "link"
word_text word.Hold = codes "hold"
word_text word.Cut = codes "cut"
word_text word.Bend = codes "bend"
word_text word.Clean = codes "clean"
word_text word.Settle = codes "settle"
word_text word.Phase = codes "phase"
word_text word.End = codes "end"

-- the forms of lines, each with what its words have to be
abbrev pub parts_of : Form → List Part
parts_of form.Centres = Fixed word.Centres ∷ Centres ∷ Fixed word.K ∷ Stable ∷ []
parts_of form.Clients = Fixed word.Clients ∷ Count 1 MOST_CLIENTS ∷ []
parts_of form.Cache = Fixed word.Cache ∷ Count 1 MOST_CACHED ∷ []
parts_of form.Limit = Fixed word.Limit ∷ Count 1 MOST_COUNTED ∷ []
parts_of form.Threads = Fixed word.Threads ∷ Count 1 MOST_THREADS ∷ []
parts_of form.Rounds = Fixed word.Rounds ∷ Count 0 MOST_ROUNDS ∷ []
parts_of form.Tap = Fixed word.Tap ∷ Centre ∷ Object ∷ []
parts_of form.Connect = Client ∷ Fixed word.Connect ∷ Centre ∷ []
parts_of form.Begin = Client ∷ Fixed word.Begin ∷ []
parts_of form.Inc = Client ∷ Fixed word.Inc ∷ Summand ∷ Delta ∷ []
parts_of form.Set = Client ∷ Fixed word.Set ∷ Object ∷ Name ∷ []
parts_of form.Add = Client ∷ Fixed word.Add ∷ Object ∷ Name ∷ []
parts_of form.Del = Client ∷ Fixed word.Del ∷ Object ∷ Name ∷ []
parts_of form.Put = Client ∷ Fixed word.Put ∷ Object ∷ Key ∷ Name ∷ []
parts_of form.Drop = Client ∷ Fixed word.Drop ∷ Object ∷ Key ∷ []
parts_of form.Read = Client ∷ Fixed word.Read ∷ Object ∷ []
parts_of form.Grant = Holder ∷ Fixed word.Grant ∷ Bounded ∷ Amount ∷ []
parts_of form.Give = Holder ∷ Fixed word.Give ∷ Bounded ∷ OtherHolder ∷ Amount ∷ []
parts_of form.Take = Holder ∷ Fixed word.Take ∷ Bounded ∷ Amount ∷ []
parts_of form.Rights = Holder ∷ Fixed word.Rights ∷ Bounded ∷ []
parts_of form.Commit = Client ∷ Fixed word.Commit ∷ []
parts_of form.Abort = Client ∷ Fixed word.Abort ∷ []
parts_of form.Push = Client ∷ Fixed word.Push ∷ []
parts_of form.Flush = Client ∷ Fixed word.Flush ∷ []
parts_of form.Refresh = Client ∷ Fixed word.Refresh ∷ []
parts_of form.Again = Client ∷ Fixed word.Again ∷ Centre ∷ Commit ∷ []
parts_of form.LoseAsk = Client ∷ Fixed word.Lose ∷ Fixed word.Ask ∷ []
parts_of form.LoseReply = Client ∷ Fixed word.Lose ∷ Fixed word.Reply ∷ []
parts_of form.AskTwice = Client ∷ Fixed word.Twice ∷ []
parts_of form.Look = Client ∷ Fixed word.Tap ∷ Centre ∷ Object ∷ []
parts_of form.Down = Fixed word.Down ∷ Centre ∷ []
parts_of form.Up = Fixed word.Up ∷ Centre ∷ []
parts_of form.ShipOne = Fixed word.Ship ∷ Centre ∷ Other ∷ Count 1 MOST_COUNTED ∷ []
parts_of form.Ship = Fixed word.Ship ∷ Centre ∷ Other ∷ []
parts_of form.Relay = Fixed word.Relay ∷ Centre ∷ Other ∷ Third ∷ []
parts_of form.Tell = Fixed word.Tell ∷ Centre ∷ Other ∷ []
parts_of form.Prune = Fixed word.Prune ∷ Centre ∷ []
parts_of form.Feed = Fixed word.Feed ∷ Centre ∷ []
parts_of form.LinkDrop = Fixed word.Link ∷ Centre ∷ Other ∷ Fixed word.Drop ∷ Count 1 MOST_COUNTED ∷ []
parts_of form.LinkTwice = Fixed word.Link ∷ Centre ∷ Other ∷ Fixed word.Twice ∷ Count 1 MOST_COUNTED ∷ []
parts_of form.LinkHold = Fixed word.Link ∷ Centre ∷ Other ∷ Fixed word.Hold ∷ Count 1 MOST_COUNTED ∷ []
parts_of form.LinkCut = Fixed word.Link ∷ Centre ∷ Other ∷ Fixed word.Cut ∷ Count 1 MOST_COUNTED ∷ []
parts_of form.LinkBend = Fixed word.Link ∷ Centre ∷ Other ∷ Fixed word.Bend ∷ Count 1 MOST_COUNTED ∷ []
parts_of form.LinkClean = Fixed word.Link ∷ Centre ∷ Other ∷ Fixed word.Clean ∷ []
parts_of form.Settle = Fixed word.Settle ∷ []
parts_of form.Phase = Fixed word.Phase ∷ []
parts_of form.End = Fixed word.End ∷ []

-- all forms
abbrev pub forms : List Form
forms = form.Centres ∷ form.Clients ∷ form.Cache ∷ form.Limit ∷ form.Threads ∷ form.Rounds ∷ form.Tap ∷ form.Connect ∷ form.Begin ∷ form.Inc ∷ form.Set ∷ form.Add ∷ form.Del ∷ form.Put ∷ form.Drop ∷ form.Read ∷ form.Grant ∷ form.Give ∷ form.Take ∷ form.Rights ∷ form.Commit ∷ form.Abort ∷ form.Push ∷ form.Flush ∷ form.Refresh ∷ form.Again ∷ form.LoseAsk ∷ form.LoseReply ∷ form.AskTwice ∷ form.Look ∷ form.Down ∷ form.Up ∷ form.ShipOne ∷ form.Ship ∷ form.Relay ∷ form.Tell ∷ form.Prune ∷ form.Feed ∷ form.LinkDrop ∷ form.LinkTwice ∷ form.LinkHold ∷ form.LinkCut ∷ form.LinkBend ∷ form.LinkClean ∷ form.Settle ∷ form.Phase ∷ form.End ∷ []

-- a `c` and digits
abbrev pub is_client_word : List ℕ → Bool
is_client_word text = slice_index text 0 == 99 && (nat_lt 1 (length text) && list_all is_digit (drop 1 text))

-- a word may stand in the place of a part, whatever it says there: a fixed word stands in its own place alone
abbrev pub may_be : Part → List ℕ → Bool
may_be (Fixed own) text = bytes_eq text (word_text own)
may_be Client text = is_client_word text
may_be Holder text = is_client_word text
may_be _ text = true

-- the fixed words stand in their places, as far as there are words
abbrev pub agrees : List Part → List (List ℕ) → Bool
agrees [] texts = true
agrees (part ∷ parts) [] = true
agrees (part ∷ parts) (text ∷ texts) = may_be part text && agrees parts texts

-- and there are as many words as parts
abbrev pub fits : List Part → List (List ℕ) → Bool
fits parts texts = length parts == length texts && agrees parts texts

-- the form that was found, or why there is none
abbrev pub found : Option Form → Bool → Result Form Cause
found (Some one) some = Ok one
found None some = Err (cond some cause.Count cause.Word)

-- the one of these forms whose fixed words stand in their places and that has as many words. Where there is none,
-- the words of one may stand in their places, and are too few or too many
unfoldable pub form_among : List Form → List (List ℕ) → Result Form Cause
form_among some texts = found (find (λ one. fits (parts_of one) texts) some) (list_any (λ one. agrees (parts_of one) texts) some)

-- the form of the words of a line
abbrev pub form_of : List (List ℕ) → Result Form Cause
form_of texts = form_among forms texts
