-- What acts give that nothing takes out which sees them, and the last of marked words.
use Rattle.std.specs.Prelude.{◌≡◌, ℕ, Bool, true, false, not, ◌&&◌, List, [], map, Option, Some, None, IsTrue}
use Rattle.std.specs.Option.{option_map, option_and_then}
use Rattle.std.specs.List.{filter_map}
use Rattle.std.specs.Ordering.{is_lt, is_le}
use Rattle.std.specs.Str.{bytes_eq}
use Rattle.list_core.specs.Members.{In}
use Rattle.list_core.specs.Choices.{when}
use Rattle.ids_core.specs.declared.ids.Mark.{Mark}
use Rattle.ids_core.specs.Orders.{mark_cmp}
use Rattle.tally_core.specs.Sees.{any}
use Rattle.dc_talk.specs.declared.calls.Change.{Change}
use Rattle.dc_talk.specs.declared.calls.Change.TheVariants.{Write, Add, Remove, Put, Erase}
use Rattle.tx_graph.specs.declared.unseen.UnseenPut.{UnseenPut}
use Rattle.tx_graph.specs.Values.{Act, change_of, sees}

-- ---- what changes give and take out

-- the word that a change adds, and the one that it removes
abbrev pub added : Change → Option (List ℕ)
added (Add word) = Some word
added _ = None

abbrev pub removed : Change → Option (List ℕ)
removed (Remove word) = Some word
removed _ = None

-- the key and the word of a put, and the key of an erase
abbrev pub put : Change → Option (List ℕ × List ℕ)
put (Put key word) = Some (key, word)
put _ = None

abbrev pub erased : Change → Option (List ℕ)
erased (Erase key) = Some key
erased _ = None

-- ---- what nothing takes out

-- a name is there, and it is this one
abbrev pub is_name : Option (List ℕ) → List ℕ → Bool
is_name None name = false
is_name (Some other) name = bytes_eq other name

-- some act that takes out the name sees the act
abbrev pub is_taken : (Change → Option (List ℕ)) → List Act → List ℕ → Act → Bool
is_taken takes acts name act = any (λ other. is_name (takes (change_of other.op)) name && sees other act) acts

-- what an act gives under a name, where no act that takes out the name sees it
abbrev pub unseen : {Y : Type 0} → (Change → Option Y) → (Y → List ℕ) → (Change → Option (List ℕ)) → List Act → Act → Option Y
unseen gives name takes acts act = option_and_then (λ y. when (not (is_taken takes acts (name y) act)) y) (gives (change_of act.op))

-- the word of an add that no remove of it sees
abbrev pub unseen_add : List Act → Act → Option (List ℕ)
unseen_add = unseen added (λ word. word) removed

-- a put that no erase of its key sees, with the mark of its act
abbrev pub unseen_put : List Act → Act → Option UnseenPut
unseen_put acts act = option_map (λ put. record { mark = act.mark; key = put.0; word = put.1 }) (unseen put (λ put. put.0) erased acts act)

-- ---- marked words

-- the word that a change writes
abbrev pub written : Change → Option (List ℕ)
written (Write word) = Some word
written _ = None

-- a write with its mark
abbrev pub marked_write : Act → Option (Mark × List ℕ)
marked_write act = option_map (λ word. (act.mark, word)) (written (change_of act.op))

-- the word of a put of the key, with its mark
abbrev pub word_under : List ℕ → UnseenPut → Option (Mark × List ℕ)
word_under key put = when (bytes_eq put.key key) (put.mark, put.word)

-- one of the marked words, and none of them has a greater mark
pub record IsLast (words : List (Mark × List ℕ)) (last : Mark × List ℕ) : Type 0 where
  pub there : In last words
  pub above : (other : Mark × List ℕ) → In other words → IsTrue (is_le (mark_cmp other.0 last.0))

-- the last of the marked words, where there are any
abbrev pub IsLastOf : List (Mark × List ℕ) → Option (Mark × List ℕ) → Type 0
IsLastOf words None = words ≡ []
IsLastOf words (Some last) = IsLast words last

-- the mark is above that of the last, where there is one
abbrev pub is_later : Mark → Option (Mark × List ℕ) → Bool
is_later mark None = true
is_later mark (Some last) = is_lt (mark_cmp last.0 mark)

-- a pair for each key, with the last word under it
pub record ArePairsOf (puts : List UnseenPut) (keys : List (List ℕ)) (pairs : List (List ℕ × List ℕ)) : Type 0 where
  pub keys_are : map (λ pair. pair.0) pairs ≡ keys
  pub words : (key word : List ℕ) → In (key, word) pairs → (mark : Mark) × IsLast (filter_map (word_under key) puts) (mark, word)
