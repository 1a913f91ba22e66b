-- What is listed of transactions, as they join and go.
use Rattle.std.proofs.Common.{◌≡◌, ◌≤◌, List, [], ◌∷◌, ◌++◌, length, drop, sym, ap, ◌∙◌, subst}
use Rattle.std.specs.Prelude.{All, flat_map}
use Rattle.std.proofs.lemmas.Grind.{flat_map-append}
use Rattle.std.proofs.lemmas.List.{append-nil, drop_at}
use Rattle.std.proofs.lemmas.List.Concat.{flat_map-cons}
use Rattle.std.proofs.lemmas.List.Elements.{All-push}
use Rattle.ids_core.specs.declared.ids.Mark.{Mark}
use Rattle.ids_core.specs.declared.limits.TheConstants.{MOST_UPDATES}
use Rattle.ids_core.specs.declared.object.ObjectId.{ObjectId}
use Rattle.tx_core.specs.declared.op.Op.{Op}
use Rattle.tx_core.specs.declared.tx.Tx.{Tx}
use Rattle.tx_core.specs.Operations.{ops_of}
use Rattle.object_lists.specs.Listed.{listed, counted}
use Rattle.object_lists.proofs.Ops.{length-ops_from}
use Rattle.client_pending.specs.Indexes.{Finds}

-- the operations of the transactions are listed, and none of these is long
abbrev Stands : List (ObjectId × List (Mark × Op)) → List Tx → Type 0
Stands index txs = Finds index txs × All (λ tx. length tx.updates ≤ MOST_UPDATES) txs

module _ (i j : List (ObjectId × List (Mark × Op))) (txs us : List Tx) (stands : Stands i txs) where
  -- the transactions are the same, and so is what is listed
  pub stands_same : us ≡ txs → ((o : ObjectId) → listed j o ≡ listed i o) → Stands j us
  stands_same same found = subst (λ l. Stands j l) (sym same) ((λ o. found o ∙ stands.0 o), stands.1)

  -- one more has its operations behind all others
  pub stands_more : (tx : Tx) → us ≡ txs ++ tx ∷ [] → length tx.updates ≤ MOST_UPDATES → ((o : ObjectId) → listed j o ≡ listed i o ++ ops_of o tx) → Stands j us
  stands_more tx more few found = subst (λ l. Stands j l) (sym more) (
    (λ o. found o ∙ ap (λ l. l ++ ops_of o tx) (stands.0 o) ∙ sym (flat_map-append (ops_of o) txs (tx ∷ []) ∙ ap (λ l. flat_map (ops_of o) txs ++ l) (append-nil (ops_of o tx)))),
    All-push (λ tx. length tx.updates ≤ MOST_UPDATES) txs tx stands.1 few,
  )

-- the operations of the first are taken away
pub first_gone : (o : ObjectId) (tx : Tx) (rest : List Tx) (m n : List (Mark × Op)) → m ≡ flat_map (ops_of o) (tx ∷ rest) → n ≡ drop (counted o tx.updates) m → n ≡ flat_map (ops_of o) rest
first_gone o tx rest m n was is = is ∙ ap (drop (counted o tx.updates)) (was ∙ flat_map-cons (ops_of o) tx rest) ∙ drop_at (ops_of o tx) (flat_map (ops_of o) rest) (counted o tx.updates) (length-ops_from o tx.rank tx.dot 0 tx.updates)
