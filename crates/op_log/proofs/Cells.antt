-- The operations of transactions in the chain of an object.
use Rattle.std.proofs.Common.{◌≡◌, ℕ, Bool, true, false, cond, inl, inr, List, [], ◌∷◌, ◌++◌, refl, ap, ◌∙◌}
use Rattle.std.specs.Prelude.{filter}
use Rattle.std.proofs.lemmas.List.Elements.{filter-append}
use Rattle.list_core.specs.Members.{In}
use Rattle.list_core.proofs.Members.{filter_all, filter_none, In_from_map}
use Rattle.ids_core.specs.declared.object.ObjectId.{ObjectId}
use Rattle.tx_core.specs.Operations.{ops_of}
use Rattle.op_log.specs.declared.chains.Cell.{Cell}
use Rattle.op_log.specs.declared.logged.Logged.{Logged}
use Rattle.op_log.specs.Logs.{cell, cells_of, chain_of}

-- the operations of a transaction have its number
pub cells_number : (o : ObjectId) (x : Logged) (c : Cell) → In c (cells_of o x) → c.tx ≡ x.number
cells_number o x c i = ap (λ (c : Cell). c.tx) (In_from_map (cell x.number) (ops_of o x.tx) c i).2

module _ (test : ℕ → Bool) (passes : Logged → Bool) (o : ObjectId) where
  -- of one transaction all operations pass, or none does
  cells_passing : (x : Logged) → test x.number ≡ passes x → filter (λ c. test c.tx) (cells_of o x) ≡ cond (passes x) (cells_of o x) []
  cells_passing x is = at (passes x) (λ c i. ap test (cells_number o x c i) ∙ is)
    where
      at : (b : Bool) → ((c : Cell) → In c (cells_of o x) → test c.tx ≡ b) → filter (λ c. test c.tx) (cells_of o x) ≡ cond b (cells_of o x) []
      at true all = filter_all (λ (c : Cell). test c.tx) (cells_of o x) all
      at false none = filter_none (λ (c : Cell). test c.tx) (cells_of o x) none

  -- those of all that pass are the chain of the transactions that do
  pub chain_passing : (items : List Logged) → ((x : Logged) → In x items → test x.number ≡ passes x) → filter (λ c. test c.tx) (chain_of o items) ≡ chain_of o (filter passes items)
  chain_passing [] is = refl
  chain_passing (x ∷ items) is = filter-append (λ (c : Cell). test c.tx) (cells_of o x) (chain_of o items) ∙ (ap (λ l. l ++ filter (λ c. test c.tx) (chain_of o items)) (cells_passing x (is x (inl refl))) ∙ (ap (λ l. cond (passes x) (cells_of o x) [] ++ l) (chain_passing items (λ y i. is y (inr i))) ∙ at (passes x)))
    where
      at : (b : Bool) → cond b (cells_of o x) [] ++ chain_of o (filter passes items) ≡ chain_of o (cond b (x ∷ filter passes items) (filter passes items))
      at true = refl
      at false = refl
