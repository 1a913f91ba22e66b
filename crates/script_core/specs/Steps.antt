-- The steps of a script, and how objects and the words of steps are spelled.
use Rattle.std.specs.Prelude.{◌≡◌, ◌≢◌, ◌≤◌, ℕ, ℤ, IsTrue, Bool, not, min, take, length, List, ◌++◌, codes, bytes_eq}
use Rattle.ids_core.specs.declared.limits.TheConstants.{MOST_CENTRES, MOST_CLIENTS, MOST_DELTA, MOST_NUMBER, MOST_RECORDS}
use Rattle.ids_core.specs.Name.{IsName}
use Rattle.ids_core.specs.declared.object.ObjectId.{ObjectId}
use Rattle.ids_core.specs.declared.object.Sort.{Sort}
use Rattle.ids_core.specs.declared.object.Sort.TheVariants.{Counter, Register, Set, Map}
use Rattle.obj_bounded.specs.declared.cell_names.TheConstants.{MOST_BOUNDED_NAME, MOST_HOLDERS}
use Rattle.obj_bounded.specs.CellNames.{IsHolder}
use Rattle.tx_core.specs.Checks.{is_small_delta}
use Rattle.dc_talk.specs.declared.calls.Change.{Change as ChangeOf}
use Rattle.dc_talk.specs.declared.calls.Change.TheVariants.{Inc, Write, Add, Remove, Put, Erase}
use Rattle.dc_talk.specs.Calls.{sort_of_change}
use Rattle.dc_talk.specs.declared.line.StepWord.{StepWord}
use Rattle.dc_talk.specs.declared.line.StepWord.TheVariants.{Inc as IncWord, Set as SetWord, Add as AddWord, Del as DelWord, Put as PutWord, Drop as DropWord, Read as ReadWord, Grant as GrantWord, Give as GiveWord, Take as TakeWord, Rights as RightsWord}
use Rattle.dc_talk.specs.declared.links.LinkFault.{LinkFault}
use Rattle.dc_talk.specs.declared.links.LinkFault.TheVariants.{Clean, Drop, Twice, Hold, Cut, Bend}
use Rattle.script_core.specs.declared.rounds.TheConstants.{MOST_EVERY}
use Rattle.script_core.specs.declared.script.Header.{Header}
use Rattle.script_core.specs.declared.steps.ClientStep.{ClientStep}
use Rattle.script_core.specs.declared.steps.ClientStep.TheVariants.{Connect, Begin, Change, Read, Grant, Give, Take, Rights, Commit, Abort, Push, Flush, Refresh, Again, Arm, Look}
use Rattle.script_core.specs.declared.steps.Share.{Share}
use Rattle.script_core.specs.declared.steps.OperatorStep.{OperatorStep}
use Rattle.script_core.specs.declared.steps.OperatorStep.TheVariants.{Down, Up, ShipOne, Ship, Relay, Tell, Prune, Link, Settle, Feed}
use Rattle.script_core.specs.declared.steps.Step.{Step}
use Rattle.script_core.specs.declared.steps.Step.TheVariants.{Client, Operator}

-- what stands before the name of an object of this sort: the letter of its kind, and a full stop
abbrev pub mark_of : Sort → List ℕ
mark_of Counter = codes "c."
mark_of Register = codes "r."
mark_of Set = codes "s."
mark_of Map = codes "m."

-- an object as scripts and lines name it
abbrev pub object_text : ObjectId → List ℕ
object_text object = mark_of object.sort ++ object.name

-- the word of a step that reads or changes an object
abbrev pub word_text : StepWord → List ℕ
word_text IncWord = codes "inc"
word_text SetWord = codes "set"
word_text AddWord = codes "add"
word_text DelWord = codes "del"
word_text PutWord = codes "put"
word_text DropWord = codes "drop"
word_text ReadWord = codes "read"
word_text GrantWord = codes "grant"
word_text GiveWord = codes "give"
word_text TakeWord = codes "take"
word_text RightsWord = codes "rights"

-- an object as the lines of a step with this word name it: the step of a bounded counter with a `b` before its name
abbrev pub shown_text : StepWord → ObjectId → List ℕ
shown_text GrantWord object = codes "b." ++ object.name
shown_text GiveWord object = codes "b." ++ object.name
shown_text TakeWord object = codes "b." ++ object.name
shown_text RightsWord object = codes "b." ++ object.name
shown_text _ object = object_text object

-- no further from 0 than a delta may be
abbrev pub IsDelta : ℤ → Type 0
IsDelta delta = IsTrue (is_small_delta delta)

-- the delta of a change is in range, and its words and keys are names
abbrev pub IsSound : ChangeOf → Type 0
IsSound (Inc delta) = IsDelta delta
IsSound (Write word) = IsName word
IsSound (Add word) = IsName word
IsSound (Remove word) = IsName word
IsSound (Put key word) = IsName key × IsName word
IsSound (Erase key) = IsName key

-- from 1 to a most
abbrev pub IsCount : ℕ → ℕ → Type 0
IsCount most n = (1 ≤ n) × (n ≤ most)

-- numbers of centres, of those that make an update stable, and of clients, that a script may have
pub record IsHeader (header : Header) : Type 0 where
  pub n : IsCount MOST_CENTRES header.n
  pub k : IsCount header.n header.k
  pub clients : IsCount MOST_CLIENTS header.clients

-- ---- bounded counters

-- how many holders each bounded counter has among so many clients
abbrev pub holders_of : ℕ → ℕ
holders_of clients = min clients MOST_HOLDERS

-- a share of one of the holders, in a counter with a name that is short enough for those of its cells
pub record IsShare (share : Share) : Type 0 where
  pub named : IsName share.name
  pub short : length share.name ≤ MOST_BOUNDED_NAME
  pub holder : IsHolder share.holders share.holder

-- another one of the holders
abbrev pub IsOtherHolder : Share → ℕ → Type 0
IsOtherHolder share to = IsCount share.holders to × (to ≢ share.holder)

-- an amount that may be granted, given or taken
abbrev pub IsAmount : ℕ → Type 0
IsAmount amount = IsCount MOST_DELTA amount

-- a name that begins as those of the cells of bounded counters do
abbrev pub is_cell_name : List ℕ → Bool
is_cell_name name = bytes_eq (take 3 name) (codes "bc_")

-- a change adds to no counter that may be a cell
abbrev pub SparesCells : ObjectId → ChangeOf → Type 0
SparesCells object (Inc delta) = IsTrue (not (is_cell_name object.name))
SparesCells object _ = Unit {0}

-- ---- steps

-- what a client may do in a script of n centres: its centre is one of these, its object has a name, its change is sound,
-- one of the object's sort, and of no cell, its share is one, its amount and the number of a commit are in range
abbrev pub IsStep : ℕ → ClientStep → Type 0
IsStep n (Connect centre) = IsCount n centre
IsStep n Begin = Unit {0}
IsStep n (Change object change) = (object.sort ≡ sort_of_change change) × IsName object.name × IsSound change × SparesCells object change
IsStep n (Read object) = IsName object.name
IsStep n (Grant share amount) = IsShare share × IsAmount amount
IsStep n (Give share to amount) = IsShare share × IsOtherHolder share to × IsAmount amount
IsStep n (Take share amount) = IsShare share × IsAmount amount
IsStep n (Rights share) = IsShare share
IsStep n Commit = Unit {0}
IsStep n Abort = Unit {0}
IsStep n Push = Unit {0}
IsStep n Flush = Unit {0}
IsStep n Refresh = Unit {0}
IsStep n (Again centre number) = IsCount n centre × IsCount MOST_NUMBER number
IsStep n (Arm fault) = Unit {0}
IsStep n (Look centre object) = IsCount n centre × IsName object.name

-- two of n centres
pub record IsRoute (n from to : ℕ) : Type 0 where
  pub from_there : IsCount n from
  pub to_there : IsCount n to
  pub apart : from ≢ to

-- three of n centres
pub record IsDetour (n from origin to : ℕ) : Type 0 where
  pub from_there : IsCount n from
  pub origin_there : IsCount n origin
  pub to_there : IsCount n to
  pub other_origin : from ≢ origin
  pub apart : from ≢ to
  pub away : origin ≢ to

-- a fault of a link acts on each so-many-th item, from each one to each millionth
abbrev pub IsFault : LinkFault → Type 0
IsFault Clean = Unit {0}
IsFault (Drop every) = IsCount MOST_EVERY every
IsFault (Twice every) = IsCount MOST_EVERY every
IsFault (Hold every) = IsCount MOST_EVERY every
IsFault (Cut every) = IsCount MOST_EVERY every
IsFault (Bend every) = IsCount MOST_EVERY every

-- what the operator may do in a script of n centres
abbrev pub IsOperatorStep : ℕ → OperatorStep → Type 0
IsOperatorStep n (Down centre) = IsCount n centre
IsOperatorStep n (Up centre) = IsCount n centre
IsOperatorStep n (ShipOne from to seq) = IsRoute n from to × IsCount MOST_RECORDS seq
IsOperatorStep n (Ship from to) = IsRoute n from to
IsOperatorStep n (Relay from origin to) = IsDetour n from origin to
IsOperatorStep n (Tell from to) = IsRoute n from to
IsOperatorStep n (Prune centre) = IsCount n centre
IsOperatorStep n (Link from to fault) = IsRoute n from to × IsFault fault
IsOperatorStep n Settle = Unit {0}
IsOperatorStep n (Feed centre) = IsCount n centre

-- the share of a client, where there are so many
abbrev pub IsShareOf : ℕ → ℕ → Share → Type 0
IsShareOf clients client share = (share.holder ≡ client) × (share.holders ≡ holders_of clients)

-- a share in a client's step is its own
abbrev pub IsOwn : ℕ → ℕ → ClientStep → Type 0
IsOwn clients client (Grant share amount) = IsShareOf clients client share
IsOwn clients client (Give share to amount) = IsShareOf clients client share
IsOwn clients client (Take share amount) = IsShareOf clients client share
IsOwn clients client (Rights share) = IsShareOf clients client share
IsOwn clients client _ = Unit {0}

-- a step of one of the clients, or of the operator
abbrev pub IsStepOf : Header → Step → Type 0
IsStepOf header (Client client step) = IsCount header.clients client × IsStep header.n step × IsOwn header.clients client step
IsStepOf header (Operator step) = IsOperatorStep header.n step
