-- What the log keeps so that it is not searched.
use Rattle.std.specs.Prelude.{◌≡◌, ◌≤◌, ◌<◌, ◌^◌, ◌⊎◌, ℕ, Bool, ◌&&◌, ◌==◌, not, List, [], ◌∷◌, Some, All, length}
use Rattle.std.specs.List.{list_any, filter_map}
use Rattle.std.specs.Ordering.{nat_cmp}
use Rattle.std.specs.Map.{lookup, values_of}
use Rattle.std.specs.BTreeMap.{is_at}
use Rattle.list_core.specs.Members.{In}
use Rattle.ids_core.specs.declared.limits.TheConstants.{MOST_UPDATES}
use Rattle.ids_core.specs.declared.ids.Dot.{Dot}
use Rattle.ids_core.specs.declared.object.ObjectId.{ObjectId}
use Rattle.ids_core.specs.Ids.{same_dot}
use Rattle.ids_core.specs.Orders.{dot_cmp}
use Rattle.object_lists.specs.Listed.{listed}
use Rattle.op_log.specs.declared.chains.Cell.{Cell}
use Rattle.op_log.specs.declared.logged.Logged.{Logged}
use Rattle.stamp_index.specs.declared.places.Place.{Place}
use Rattle.op_log.specs.Logs.{is_inside, is_inside_at, chain_of, left_of}
use Rattle.stamp_index.specs.Places.{HasFitNumbers}
use Rattle.op_log.specs.Places.{IsPlaced}

-- for each object its chain is listed
abbrev pub Finds : List (ObjectId × List Cell) → List Logged → Type 0
Finds chains items = (o : ObjectId) → listed chains o ≡ chain_of o items

-- the numbers ascend
abbrev pub Rises : List Logged → Type 0
Rises [] = Unit {0}
Rises (x ∷ items) = ((y : Logged) → In y items → x.number < y.number) × Rises items

-- each transaction stands at its number
abbrev pub IsKeyed : List (ℕ × Logged) → Type 0
IsKeyed slots = All (λ e. e.0 ≡ e.1.number) slots

-- the transactions that are found at the numbers
abbrev pub found_of : List (ℕ × Logged) → List ℕ → List Logged
found_of slots numbers = filter_map (λ n. lookup (is_at (nat_cmp n)) slots) numbers

-- each transaction is found by its dot
abbrev pub Names : List (Dot × ℕ) → List Logged → Type 0
Names dots items = (x : Logged) → In x items → lookup (is_at (dot_cmp x.tx.dot)) dots ≡ Some x.number

-- their dots' numbers are numbers of a program
abbrev pub HasFits : List Logged → Type 0
HasFits items = (x : Logged) → In x items → x.tx.dot.number < 2 ^ 64

-- whether the transaction of a number has the dot and a stamp within the vector
abbrev pub is_own_inside : List ℕ → Dot → ℕ → List Logged → Bool
is_own_inside w d number items = list_any (λ x. (x.number == number) && (same_dot x.tx.dot d && is_inside w x)) items

-- whether the operation stays, when those of the transactions with a stamp within the vector go
abbrev pub stays : List ℕ → List Logged → Cell → Bool
stays w items c = not (is_inside_at w c.tx items)

-- the numbers of the operations' transactions do not fall
abbrev pub Ascends : List Cell → Type 0
Ascends [] = Unit {0}
Ascends (c ∷ chain) = ((d : Cell) → In d chain → c.tx ≤ d.tx) × Ascends chain

-- no operation is of the transaction of the number
abbrev pub Lacks : ℕ → List Cell → Type 0
Lacks number chain = (c : Cell) → In c chain → c.tx ≡ number → ⊥

-- an operation on the object is of the transaction of the number
pub record HasCell (items : List Logged) (o : ObjectId) (number : ℕ) : Type 0 where
  pub cell : Cell
  pub there : In cell (chain_of o items)
  pub is : cell.tx ≡ number

-- the chain of the object has what it is to have once the transactions with a stamp within the vector are gone
abbrev pub IsSwept : List ℕ → List Logged → List (ObjectId × List Cell) → ObjectId → Type 0
IsSwept w items chains o = listed chains o ≡ chain_of o (left_of w items)

-- so has each chain, or it is whole
abbrev pub MaySwept : List ℕ → List Logged → List (ObjectId × List Cell) → Type 0
MaySwept w items chains = (o : ObjectId) → (listed chains o ≡ chain_of o items) ⊎ IsSwept w items chains o

-- what was swept is so later
abbrev pub StaysSwept : List ℕ → List Logged → List (ObjectId × List Cell) → List (ObjectId × List Cell) → Type 0
StaysSwept w items chains later = (o : ObjectId) → IsSwept w items chains o → IsSwept w items later o

-- the transactions, their dots and their places stand for one another
pub record IsTable (slots : List (ℕ × Logged)) (dots : List (Dot × ℕ)) (places : List Place) : Type 0 where
  pub keyed : IsKeyed slots
  pub rises : Rises (values_of slots)
  pub names : Names dots (values_of slots)
  pub placed : IsPlaced places (values_of slots)
  pub fit : HasFitNumbers places

-- all that is kept is as it is for the transactions
pub record IsLog (appended : ℕ) (slots : List (ℕ × Logged)) (dots : List (Dot × ℕ)) (chains : List (ObjectId × List Cell)) (places : List Place) : Type 0 where
  pub table : IsTable slots dots places
  pub below : (x : Logged) → In x (values_of slots) → x.number < appended
  pub finds : Finds chains (values_of slots)
  pub fits : HasFits (values_of slots)
  pub few : (x : Logged) → In x (values_of slots) → length x.tx.updates ≤ MOST_UPDATES
