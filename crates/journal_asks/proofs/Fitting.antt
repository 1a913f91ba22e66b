-- An ask that fits has numbers in range: with names and tags it has bytes in a journal.
use Rattle.std.proofs.Common.{◌≡◌, ◌≤◌, ℕ, true, List, [], ◌∷◌, length, refl, sym, ◌∙◌, subst, arith}
use Rattle.std.specs.Prelude.{nat_le, is_none, ◌==◌, ◌&&◌, All}
use Rattle.std.proofs.lemmas.Bool.{and_parts, leb-true}
use Rattle.std.proofs.lemmas.List.{length-replicate}
use Rattle.std.proofs.lemmas.List.Elements.{All-nil, All-cons, All-replicate}
use Rattle.list_core.proofs.Choices.{is_none_true}
use Rattle.ids_core.specs.declared.limits.TheConstants.{MOST_CENTRES, MOST_RECORDS}
use Rattle.vv_core.specs.Vectors.{zeros}
use Rattle.tx_core.specs.declared.tx.Tx.{Tx}
use Rattle.tx_core.specs.declared.tx.Record.{Record}
use Rattle.tx_core.specs.Checks.{is_within, fault_of, IsFit, IsFitUpdate}
use Rattle.tx_core.proofs.Fits.{fault_of-none}
use Rattle.dc_talk.specs.declared.ask.TheConstants.{MOST_HOPS}
use Rattle.dc_talk.specs.declared.ask.Ask.TheVariants.{Commit, Deliver}
use Rattle.dc_talk.specs.Answers.{are_modest, is_fit_item, fits}
use Rattle.dc_talk.proofs.PeerAnswers.{item_fits}
use Rattle.wire_codec.specs.Spelling.{AreEntries, IsSpelledUpdate, IsSpelledTx}
use Rattle.journal_asks.specs.Spellings.{IsSpelledAsk}

-- small numbers
small_entries : (v : List ℕ) → are_modest v ≡ true → AreEntries v
small_entries [] is = All-nil (λ entry. entry ≤ MOST_RECORDS)
small_entries (x ∷ v) is =
    let both = and_parts (nat_le x MOST_RECORDS) (are_modest v) is in
    All-cons (λ entry. entry ≤ MOST_RECORDS) x v (leb-true x MOST_RECORDS both.0) (small_entries v both.1)

-- a transaction
spelled_tx : (n : ℕ) (tx : Tx) → IsFit n tx → All IsSpelledUpdate tx.updates → IsSpelledTx n tx
spelled_tx n tx fit updates = record {
  client = fit.client;
  number = fit.number;
  rank = fit.rank;
  wide = fit.width;
  snap = fit.snap;
  count = (fit.some, fit.few);
  updates = updates;
}

module _ (n : ℕ) (few : n ≤ MOST_CENTRES) where
  -- a transaction that is fit has fit updates
  pub commit_updates : (tx : Tx) → fits n (Commit tx) ≡ true → All IsFitUpdate tx.updates
  commit_updates tx is = (fault_of-none n tx (is_none_true (fault_of n tx) is)).updates

  -- so has a record
  pub deliver_updates : (item : Record) (hops : ℕ) → fits n (Deliver item hops) ≡ true → All IsFitUpdate item.tx.updates
  deliver_updates item hops is = (item_fits n item (and_parts (is_fit_item n item) (nat_le hops MOST_HOPS) is).0).fit.updates

  -- a commit
  pub spelled_commit : (me : ℕ) (tx : Tx) → (1 ≤ me) × (me ≤ n) → fits n (Commit tx) ≡ true → All IsSpelledUpdate tx.updates → IsSpelledAsk me (Commit tx)
  spelled_commit me tx centre is updates =
      let fit = fault_of-none n tx (is_none_true (fault_of n tx) is) in
      let wide : length (zeros (length tx.snap)) ≡ length tx.snap = length-replicate (length tx.snap) 0 in
      let low = centre.0 in
      let high = centre.1 in
      record {
        kind = refl;
        own = refl;
        frame = record {
          known = (omega arith, omega arith);
          fields = record {
            way = (omega arith, λ e. refl);
            seq = (omega arith, omega arith);
            deps = record { there = (low, omega (arith, high, wide, fit.width)); few = omega (arith, few, wide, fit.width); entries = All-replicate (λ entry. entry ≤ MOST_RECORDS) (length tx.snap) 0 (omega arith) };
            tx = subst (λ w. IsSpelledTx w tx) (sym (wide ∙ fit.width)) (spelled_tx n tx fit updates);
          };
        };
      }

  -- a delivery
  pub spelled_deliver : (item : Record) (hops : ℕ) → fits n (Deliver item hops) ≡ true → All IsSpelledUpdate item.tx.updates → IsSpelledAsk 0 (Deliver item hops)
  spelled_deliver item hops is updates =
      let both = and_parts (is_fit_item n item) (nat_le hops MOST_HOPS) is in
      let f = item_fits n item both.0 in
      let rest = and_parts (is_within 1 n item.stamp.centre && is_within 1 MOST_RECORDS item.stamp.seq && (length item.deps == n) && are_modest item.deps) (is_none (fault_of n item.tx)) both.0 in
      let modest = and_parts (is_within 1 n item.stamp.centre && is_within 1 MOST_RECORDS item.stamp.seq && (length item.deps == n)) (are_modest item.deps) rest.0 in
      let low = f.centre.0 in
      let high = f.centre.1 in
      let near : hops ≤ MOST_HOPS = leb-true hops MOST_HOPS both.1 in
      record {
        kind = refl;
        own = refl;
        frame = record {
          known = (omega arith, omega arith);
          fields = record {
            way = (omega (arith, near), λ e. absurd (omega (arith, e)));
            seq = f.seq;
            deps = record { there = (low, omega (arith, high, f.width)); few = omega (arith, few, f.width); entries = small_entries item.deps modest.1 };
            tx = subst (λ w. IsSpelledTx w item.tx) (sym f.width) (spelled_tx n item.tx f.fit updates);
          };
        };
      }
