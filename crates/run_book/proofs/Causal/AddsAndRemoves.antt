-- What the operations of sets and maps add and take out.
use Rattle.std.proofs.Common.{◌≡◌, ℕ, true, false, List, Option, Some, None, refl, ap, ◌∙◌}
use Rattle.std.proofs.lemmas.Option.{same_Some}
use Rattle.ids_core.specs.declared.ids.OpId.{OpId}
use Rattle.ids_core.specs.declared.object.Sort.TheVariants as sort
use Rattle.tx_core.specs.declared.op.Op.{Op}
use Rattle.tx_core.specs.declared.op.Op.TheVariants.{Add, Remove, Put, Erase}
use Rattle.tx_core.specs.Ops.{sort_of_op, name_of, is_add}
use Rattle.dc_talk.specs.declared.calls.Change.{Change}
use Rattle.dc_talk.specs.declared.calls.Change.TheVariants as change
use Rattle.tx_graph.specs.Values.{change_of}

-- ---- changes

-- the name that a change is under, where it has one
abbrev named : Change → Option (List ℕ)
named (change.Add word) = Some word
named (change.Remove word) = Some word
named (change.Put key word) = Some key
named (change.Erase key) = Some key
named _ = None

-- the word that a change puts, where it does
abbrev worded : Change → Option (List ℕ)
worded (change.Put key word) = Some word
worded _ = None

-- ---- sets

-- an operation of a set that adds under a word adds the word
pub add_of : (op : Op) (word : List ℕ) → sort_of_op op ≡ sort.Set → name_of op ≡ Some word → is_add op ≡ true → change_of op ≡ change.Add word
add_of (Add w ids) word kind name add = ap change.Add (same_Some w word name)
add_of _ word kind name add = cc

-- one that does not removes the word
pub remove_of : (op : Op) (word : List ℕ) → sort_of_op op ≡ sort.Set → name_of op ≡ Some word → is_add op ≡ false → change_of op ≡ change.Remove word
remove_of (Remove w ids) word kind name add = ap change.Remove (same_Some w word name)
remove_of _ word kind name add = cc

-- what adds a word is under it, and adds
pub of_add : (op : Op) (word : List ℕ) → change_of op ≡ change.Add word → (name_of op ≡ Some word) × (is_add op ≡ true)
of_add (Add w ids) word is = (ap named is, refl)
of_add _ word is = cc

-- what removes a word is under it, and does not add
pub of_remove : (op : Op) (word : List ℕ) → change_of op ≡ change.Remove word → (name_of op ≡ Some word) × (is_add op ≡ false)
of_remove (Remove w ids) word is = (ap named is, refl)
of_remove _ word is = cc

-- ---- maps

-- an operation of a map that adds under a key puts a word under the key
pub put_of : (op : Op) (key : List ℕ) → sort_of_op op ≡ sort.Map → name_of op ≡ Some key → is_add op ≡ true → (word : List ℕ) × (change_of op ≡ change.Put key word)
put_of (Put k w ids) key kind name add = (w, ap (λ k. change.Put k w) (same_Some k key name))
put_of _ key kind name add = cc

-- one that does not erases the key
pub erase_of : (op : Op) (key : List ℕ) → sort_of_op op ≡ sort.Map → name_of op ≡ Some key → is_add op ≡ false → change_of op ≡ change.Erase key
erase_of (Erase k ids) key kind name add = ap change.Erase (same_Some k key name)
erase_of _ key kind name add = cc

-- an operation is a put of the word under the key
pub record IsPut (op : Op) (key word : List ℕ) : Type 0 where
  pub ids : List OpId
  pub is : op ≡ Put key word ids

-- what puts a word under a key is one
pub of_put : (op : Op) (key word : List ℕ) → change_of op ≡ change.Put key word → IsPut op key word
of_put (Put k w ids) key word is =
    let key_is = same_Some k key (ap named is) in
    let word_is = same_Some w word (ap worded is) in
    record { ids = ids; is = ap (λ k. Put k w ids) key_is ∙ ap (λ w. Put key w ids) word_is }
of_put _ key word is = cc

-- what erases a key is under it, and does not add
pub of_erase : (op : Op) (key : List ℕ) → change_of op ≡ change.Erase key → (name_of op ≡ Some key) × (is_add op ≡ false)
of_erase (Erase k ids) key is = (ap named is, refl)
of_erase _ key is = cc
