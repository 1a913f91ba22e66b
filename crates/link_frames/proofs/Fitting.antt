-- A record has a frame exactly where it can be delivered, once its names and tags are known to be such.
use Rattle.std.proofs.Common.{◌≡◌, ◌≤◌, ℕ, true, List, [], ◌∷◌, length, refl, arith}
use Rattle.std.specs.Prelude.{nat_le, is_none, ◌==◌, ◌&&◌, All, IsTrue}
use Rattle.std.proofs.lemmas.Bool.{and_parts, and_from, leb-true, le-leb}
use Rattle.std.proofs.lemmas.List.Elements.{All-nil, All-cons, All-head, All-tail}
use Rattle.ids_core.specs.declared.limits.TheConstants.{MOST_CENTRES, MOST_TAGS, MOST_RECORDS}
use Rattle.tx_core.specs.declared.op.Op.{Op}
use Rattle.tx_core.specs.declared.op.Op.TheVariants.{Inc, Write, Add, Remove, Put, Erase}
use Rattle.tx_core.specs.declared.tx.Update.{Update}
use Rattle.tx_core.specs.declared.tx.Tx.{Tx}
use Rattle.tx_core.specs.Ops.{over_of}
use Rattle.tx_core.specs.Checks.{is_within, is_small, fault_of, IsTag, IsFit, IsFitUpdate}
use Rattle.dc_talk.specs.declared.ask.TheConstants.{MOST_HOPS}
use Rattle.dc_talk.specs.declared.sent.Sent.{Sent}
use Rattle.dc_talk.specs.Answers.{are_modest, is_fit_item}
use Rattle.dc_talk.proofs.PeerAnswers.{IsFitItem, item_fits, fits_item}
use Rattle.wire_codec.specs.Spelling.{AreEntries, IsSpelledOp, IsSpelledUpdate, IsSpelledTx}
use Rattle.link_frames.specs.Frames.{HasFrame, is_deliverable}

-- ---- a record with a frame can be delivered

-- what has a spelling is small, and over few tags that are in range
small_op : (op : Op) → IsSpelledOp op → IsTrue (is_small op) × (length (over_of op) ≤ MOST_TAGS) × All IsTag (over_of op)
small_op (Inc delta) h = (h, omega arith, All-nil IsTag)
small_op (Write word) h = (refl, omega arith, All-nil IsTag)
small_op (Add word over) h = (refl, h.1.few, h.1.each)
small_op (Remove word over) h = (refl, h.1.few, h.1.each)
small_op (Put key word over) h = (refl, h.2.few, h.2.each)
small_op (Erase key over) h = (refl, h.1.few, h.1.each)

-- so its update is fit
fit_update : (update : Update) → IsSpelledUpdate update → IsFitUpdate update
fit_update update h =
    let small = small_op update.op h.op in
    record { kind = h.kind; delta = small.0; tags = small.1; over = small.2 }

-- and its transaction
fit_tx : (width : ℕ) (tx : Tx) → IsSpelledTx width tx → IsFit width tx
fit_tx width tx h = record {
  some = h.count.0;
  few = h.count.1;
  client = h.client;
  number = h.number;
  rank = h.rank;
  width = h.wide;
  snap = h.snap;
  updates = λ k d lt. fit_update _ (h.updates k d lt);
}

-- small entries pass the test
modest_entries : (v : List ℕ) → AreEntries v → are_modest v ≡ true
modest_entries [] h = refl
modest_entries (x ∷ v) h =
    and_from (nat_le x MOST_RECORDS) (are_modest v) (le-leb x MOST_RECORDS (All-head (λ entry. entry ≤ MOST_RECORDS) x v h)) (modest_entries v (All-tail (λ entry. entry ≤ MOST_RECORDS) x v h))

-- so it can be delivered
pub delivered_from : (sent : Sent) → HasFrame sent → is_deliverable sent ≡ true
delivered_from sent h =
    let item = sent.item in
    let n = length item.deps in
    let fit : IsFitItem n item = record { centre = h.fields.deps.there; seq = h.fields.seq; width = refl; fit = fit_tx n item.tx h.fields.tx } in
    let few = h.fields.way.0 in
    and_from (is_fit_item n item) (nat_le sent.hops MOST_HOPS) (fits_item n item fit (modest_entries item.deps h.fields.deps.entries)) (le-leb sent.hops MOST_HOPS (omega (arith, few)))

-- ---- a record that can be delivered has a frame

-- entries that pass the test are small
small_entries : (v : List ℕ) → are_modest v ≡ true → AreEntries v
small_entries [] is = All-nil (λ entry. entry ≤ MOST_RECORDS)
small_entries (x ∷ v) is =
    let both = and_parts (nat_le x MOST_RECORDS) (are_modest v) is in
    All-cons (λ entry. entry ≤ MOST_RECORDS) x v (leb-true x MOST_RECORDS both.0) (small_entries v both.1)

-- its updates are fit
pub fit_updates : (sent : Sent) → is_deliverable sent ≡ true → All IsFitUpdate sent.item.tx.updates
fit_updates sent is =
    let n = length sent.item.deps in
    (item_fits n sent.item (and_parts (is_fit_item n sent.item) (nat_le sent.hops MOST_HOPS) is).0).fit.updates

-- with updates that have a spelling it has a frame
pub frame_from : (sent : Sent) → is_deliverable sent ≡ true → length sent.item.deps ≤ MOST_CENTRES → All IsSpelledUpdate sent.item.tx.updates → HasFrame sent
frame_from sent is few updates =
    let item = sent.item in
    let n = length item.deps in
    let both = and_parts (is_fit_item n item) (nat_le sent.hops MOST_HOPS) is in
    let f = item_fits n item both.0 in
    let stamp_and_width = is_within 1 n item.stamp.centre && is_within 1 MOST_RECORDS item.stamp.seq && (length item.deps == n) in
    let all_but_tx = and_parts (stamp_and_width && are_modest item.deps) (is_none (fault_of n item.tx)) both.0 in
    let modest = and_parts stamp_and_width (are_modest item.deps) all_but_tx.0 in
    let near : sent.hops ≤ MOST_HOPS = leb-true sent.hops MOST_HOPS both.1 in
    record {
      known = (omega arith, omega arith);
      fields = record {
        way = (omega (arith, near), λ e. absurd (omega (arith, e)));
        seq = f.seq;
        deps = record { there = f.centre; few = few; entries = small_entries item.deps modest.1 };
        tx = record {
          client = f.fit.client;
          number = f.fit.number;
          rank = f.fit.rank;
          wide = f.fit.width;
          snap = f.fit.snap;
          count = (f.fit.some, f.fit.few);
          updates = updates;
        };
      };
    }
