-- Transactions that stand in the order of their first records stay so.
use Rattle.std.proofs.Common.{◌≡◌, Bool, true, false, cond, List, [], ◌∷◌, ◌++◌, map, ℕ, refl, sym, ap, ◌∙◌}
use Rattle.std.specs.Prelude.{not, filter}
use Rattle.std.proofs.lemmas.Bool.{false≢true}
use Rattle.std.proofs.lemmas.List.{append-nil, map-append}
use Rattle.std.proofs.lemmas.List.Elements.{filter-append}
use Rattle.vv_core.specs.Vectors.{within, Covers}
use Rattle.tx_core.specs.declared.tx.Tx.{Tx}
use Rattle.tx_core.specs.declared.tx.Record.{Record}
use Rattle.dc_talk.specs.Records.{has, firsts}
use Rattle.dc_talk.specs.Dots.{dots_of}
use Rattle.dc_talk.proofs.Firsts.{firsts_more}
use Rattle.point_log.specs.Splits.{first_txs, is_inside}
use Rattle.point_log.specs.LogSplits.{rest_txs}
use Rattle.point_log.proofs.Growth.{inside_known, inside_stays}
use Rattle.point_log.proofs.Inside.{inside_grows}

-- a filter after one that passes more
filter_within : {X : Type 0} (p q : X → Bool) (xs : List X) → ((x : X) → q x ≡ false → p x ≡ false) → filter p (filter q xs) ≡ filter p xs
filter_within p q [] less = refl
filter_within {X} p q (x ∷ xs) less = go (q x) refl (p x) refl (filter_within p q xs less)
  where
    go : (b : Bool) → q x ≡ b → (c : Bool) → p x ≡ c → filter p (filter q xs) ≡ filter p xs → filter p (cond b (x ∷ filter q xs) (filter q xs)) ≡ cond c (x ∷ filter p xs) (filter p xs)
    go true is c own rest = ap (λ d. cond d (x ∷ filter p (filter q xs)) (filter p (filter q xs))) own ∙ ap (λ l. cond c (x ∷ l) l) rest
    go false is true own rest = absurd (false≢true (sym (less x is) ∙ own))
    go false is false own rest = rest

-- a transaction that is not outside is inside
inside_from : (b : Bool) → not b ≡ false → b ≡ true
inside_from true is = refl
inside_from false is = absurd (false≢true (sym is))

module _ (A : List Record) (base : List ℕ) (kept : List Tx) (order : kept ≡ rest_txs A base) where
  -- with the first record of a dot
  pub order_first : (r : Record) → within r.stamp base ≡ false → has r.tx.dot (dots_of A) ≡ false → kept ++ r.tx ∷ [] ≡ rest_txs (A ++ r ∷ []) base
  order_first r out new =
      ap (λ l. l ++ r.tx ∷ []) order
      ∙ ap (λ b. rest_txs A base ++ cond (not b) (r.tx ∷ []) []) (sym (inside_known A base r.tx.dot new))
      ∙ sym (filter-append (λ (tx : Tx). not (is_inside A base tx)) (first_txs A) (r.tx ∷ []))
      ∙ ap (filter (λ (tx : Tx). not (is_inside A base tx))) (sym txs)
      ∙ ap (λ D. filter (λ (tx : Tx). not (has tx.dot D)) (first_txs (A ++ r ∷ []))) (sym (inside_stays A base r out))
    where
      txs : first_txs (A ++ r ∷ []) ≡ first_txs A ++ r.tx ∷ []
      txs = ap (map (λ (r : Record). r.tx)) (firsts_more A r ∙ ap (λ b. firsts A ++ cond b [] (r ∷ [])) new) ∙ map-append (λ (r : Record). r.tx) (firsts A) (r ∷ [])

  -- with another record of one
  pub order_again : (r : Record) → within r.stamp base ≡ false → has r.tx.dot (dots_of A) ≡ true → kept ≡ rest_txs (A ++ r ∷ []) base
  order_again r out known =
      order
      ∙ ap (filter (λ (tx : Tx). not (is_inside A base tx))) (sym txs)
      ∙ ap (λ D. filter (λ (tx : Tx). not (has tx.dot D)) (first_txs (A ++ r ∷ []))) (sym (inside_stays A base r out))
    where
      txs : first_txs (A ++ r ∷ []) ≡ first_txs A
      txs = ap (map (λ (r : Record). r.tx)) (firsts_more A r ∙ ap (λ b. firsts A ++ cond b [] (r ∷ [])) known ∙ append-nil (firsts A))

  -- once those within a later base are taken out
  pub order_on : (to : List ℕ) → Covers to base → filter (λ tx. not (is_inside A to tx)) kept ≡ rest_txs A to
  order_on to covers =
      ap (filter (λ tx. not (is_inside A to tx))) order
      ∙ filter_within (λ tx. not (is_inside A to tx)) (λ tx. not (is_inside A base tx)) (first_txs A) (λ tx is. ap not (inside_grows A to base tx.dot covers (inside_from (is_inside A base tx) is)))
