-- Accounts that many may pay into and one takes from, over transactions that each depend on a set of earlier ones.
use Rattle.std.specs.Prelude.{◌≡◌, ℕ, ◌<◌, ℤ, pos, ◌+ℤ◌, ◌≤ℤ◌, ◌<ℤ◌, Bool, true, false, cond, List, [], ◌∷◌, ◌++◌, Some, slice_get}
use Rattle.list_core.specs.Members.{In}
use Rattle.ids_core.specs.declared.ids.Dot.{Dot}
use Rattle.obj_counter.specs.Counter.{total}

-- a transaction as an account sees it: which transactions it depends on, and what each of its updates adds to the
-- account, in order; what takes from it adds less than 0
pub record AccountTx : Type 0 where
  pub dot : Dot
  pub deps : Dot → Bool
  pub amounts : List ℤ

-- the sum of a number for each element
abbrev pub sum_over : {X : Type 0} → (X → ℤ) → List X → ℤ
sum_over f [] = pos 0
sum_over f (x ∷ xs) = f x +ℤ sum_over f xs

-- a number that counts where a test holds
abbrev pub counted_if : Bool → ℤ → ℤ
counted_if test number = cond test number (pos 0)

-- what is in the account over the transactions of a set
abbrev pub balance : (Dot → Bool) → List AccountTx → ℤ
balance inside all = sum_over (λ t. counted_if (inside t.dot) (total t.amounts)) all

-- the set has with a transaction each that this one depends on
abbrev pub IsClosedOver : List AccountTx → (Dot → Bool) → Type 0
IsClosedOver all inside = (t u : AccountTx) → In t all → In u all → inside t.dot ≡ true → t.deps u.dot ≡ true → inside u.dot ≡ true

-- all transactions of a store, with an account of an owner: their dots differ; none depends on itself, and each on all
-- earlier ones of its client; only the owner takes; and it takes no more than there is over what the transaction depends
-- on and by the updates before it there
pub record IsCheckedAccount (owner : ℕ) (all : List AccountTx) : Type 0 where
  pub unique : (p q : ℕ) (t u : AccountTx) → slice_get all p ≡ Some t → slice_get all q ≡ Some u → t.dot ≡ u.dot → p ≡ q
  pub forward : (t : AccountTx) → In t all → t.deps t.dot ≡ false
  pub own : (t u : AccountTx) → In t all → In u all → u.dot.client ≡ t.dot.client → u.dot.number < t.dot.number → t.deps u.dot ≡ true
  pub owned : (t : AccountTx) (amount : ℤ) → In t all → In amount t.amounts → amount <ℤ pos 0 → t.dot.client ≡ owner
  pub checked : (t : AccountTx) (before later : List ℤ) (amount : ℤ) → In t all → t.amounts ≡ before ++ amount ∷ later → amount <ℤ pos 0 → pos 0 ≤ℤ (balance t.deps all +ℤ (total before +ℤ amount))
