-- What a centre keeps of applied records, made again of its parts: it is well kept, and stands for the same records.
use Rattle.std.proofs.Common.{◌≡◌, ◌<◌, ◌≤◌, ℕ, ◌+◌, ◌==◌, Bool, true, false, cond, Option, Some, None, inl, inr, List, [], ◌∷◌, length, map, refl, sym, ap, ◌∙◌, subst, arith, ne_eqb}
use Rattle.std.specs.Prelude.{is_some, unwrap_or}
use Rattle.std.specs.Option.{option_map}
use Rattle.list_core.specs.Members.{In}
use Rattle.list_core.specs.Apart.{Apart}
use Rattle.list_core.proofs.Members.{All-In, In-All, In_map, In_from_map}
use Rattle.std.proofs.lemmas.Bool.{eq-eqb}
use Rattle.ids_core.specs.declared.limits.TheConstants.{MOST_CENTRES, MOST_UPDATES}
use Rattle.ids_core.specs.declared.object.ObjectId.{ObjectId}
use Rattle.vv_core.specs.declared.stamp.Stamp.{Stamp}
use Rattle.vv_core.specs.Vectors.{Covers}
use Rattle.dup_guard.specs.declared.guard.Last.{Last}
use Rattle.dup_guard.specs.declared.noted.Noted.{Noted}
use Rattle.dup_guard.specs.Notes.{number_of, stamp_of}
use Rattle.dup_guard.specs.Parts as guard
use Rattle.tx_core.specs.declared.tx.Tx.{Tx}
use Rattle.tx_core.specs.declared.tx.Record.{Record}
use Rattle.tx_core.specs.States.{empty_of}
use Rattle.tx_core.specs.declared.part.RestPart.{RestPart}
use Rattle.dc_talk.specs.Dots.{stamps_of}
use Rattle.op_log.specs.declared.logged.Logged.{Logged}
use Rattle.op_log.specs.Logs.{LogView}
use Rattle.op_log.specs.RestParts as log
use Rattle.check_point.specs.Points.{IsPointOf, HasFewUpdates}
use Rattle.check_point.specs.PointParts as point
use Rattle.point_log.specs.LogSplits.{txs_of, rest_txs, IsLogSplit}
use Rattle.point_log.specs.Splits.{IsSplit}
use Rattle.point_log.specs.KeptLogs.{IsKeptLog}
use Rattle.point_log.specs.Served.{ServedEntries}
use Rattle.point_log.specs.Mines.{MineEntries}
use Rattle.point_log.proofs.Serving.{none_served}
use Rattle.point_log.proofs.Telling.{none_mines}
use Rattle.object_delta.specs.Passed.{PassedEntries}
use Rattle.object_delta.proofs.Passing.{none_passed}
use Rattle.centre_parts.specs.declared.part.AppliedParts.{AppliedParts}
use Rattle.centre_parts.specs.Conditions.{noted}
use Rattle.centre_parts.proofs.Guards.{number_at, number_is, noted_of}
use Rattle.dc_centre.specs.Applied.{AppliedView, IsCentreOf, IsGuard, IsApplied, IsKept}
use Rattle.dc_centre.specs.Parts.{AreAppliedPartsOf, AreAppliedParts}

-- ---- a log of parts

-- the numbers of a log of parts are its places
numbered : (n : ℕ) (parts : List RestPart) (x : Logged) → In x (log.logged_from n parts) → (n ≤ x.number) × (x.number < n + length parts)
numbered n [] x i = absurd i
numbered n (p ∷ parts) x (inl same) = let is : x.number ≡ n = ap (λ (x : Logged). x.number) same in (omega (arith, is), omega (arith, is))
numbered n (p ∷ parts) x (inr i) = let rest = numbered (n + 1) parts x i in (omega (arith, rest), omega (arith, rest))

-- they differ
numbers_apart : (n : ℕ) (parts : List RestPart) → Apart (λ (x : Logged). x.number) (log.logged_from n parts)
numbers_apart n [] = tt
numbers_apart n (p ∷ parts) = (λ y i same. let above = numbered (n + 1) parts y i in let is : n ≡ y.number = same in absurd (omega (arith, above, is)), numbers_apart (n + 1) parts)

-- a transaction of it is that of a part
part_there : (n : ℕ) (parts : List RestPart) (x : Logged) → In x (log.logged_from n parts) → In (log.rest_part x) parts
part_there n [] x i = absurd i
part_there n (p ∷ parts) x (inl same) = inl (ap log.rest_part same)
part_there n (p ∷ parts) x (inr i) = inr (part_there (n + 1) parts x i)

-- the dots differ as those of the parts do
dots_apart : (n : ℕ) (parts : List RestPart) → Apart (λ (p : RestPart). p.tx.dot) parts → Apart (λ (x : Logged). x.tx.dot) (log.logged_from n parts)
dots_apart n [] h = tt
dots_apart n (p ∷ parts) h = (λ y i same. h.0 (log.rest_part y) (part_there (n + 1) parts y i) same, dots_apart (n + 1) parts h.1)

-- so it can be folded on
pub kept_log : (l : LogView) (parts : List RestPart) → l ≡ log.log_of parts → Apart (λ (p : RestPart). p.tx.dot) parts → IsKeptLog l
kept_log l parts is h = subst IsKeptLog (sym is) (record {
  apart = numbers_apart 0 parts;
  below = λ x i. let range = numbered 0 parts x i in omega (arith, range);
  dots = dots_apart 0 parts h;
})

-- ---- the notes of a guard

-- the stamp of a part
abbrev stamp_at : Option Noted → Option Stamp
stamp_at n = option_map (λ (n : Noted). n.stamp) n

stamp_is : (lasts : List Last) (client : ℕ) → stamp_of lasts client ≡ stamp_at (guard.note_of lasts client)
stamp_is lasts client = by (stamp_of lasts client)
  where
    by : (s : Option Stamp) → s ≡ stamp_at (option_map (λ stamp. record { client = client; number = number_of lasts client; stamp = stamp }) s)
    by None = refl
    by (Some s) = refl

-- a part that is found is there
part_in : (parts : List Noted) (client : ℕ) (n : Noted) → guard.part_of parts client ≡ Some n → In n parts
part_in [] client n is = cc
part_in (p ∷ parts) client n is = by (p.client == client) is (part_in parts client n)
  where
    by : (t : Bool) → cond t (Some p) (guard.part_of parts client) ≡ Some n → (guard.part_of parts client ≡ Some n → In n parts) → In n (p ∷ parts)
    by true here rest = let same : p ≡ n = cc in inl (sym same)
    by false there rest = inr (rest there)

-- ---- what is made of parts is well kept

module _ (x : AppliedView) (p : AppliedParts) (met : AreAppliedParts p) (are : AreAppliedPartsOf x p) where
  -- the widths
  wide : length x.counts ≡ length p.vector
  wide = ap length (sym are.vector)

  -- each stamp is of a centre
  stamps_kept : (client : ℕ) (s : Stamp) → stamp_of x.lasts client ≡ Some s → IsCentreOf (length x.counts) s
  stamps_kept client s is =
      let note : Noted = record { client = client; number = number_of x.lasts client; stamp = s } in
      let found : guard.part_of p.notes client ≡ Some note = are.notes client ∙ ap (option_map (λ stamp. record { client = client; number = number_of x.lasts client; stamp = stamp })) is in
      subst (λ (n : ℕ). IsCentreOf n s) (sym wide) (All-In (λ c. IsCentreOf (length p.vector) c.stamp) p.notes note met.stamps (part_in p.notes client note found))

  -- a transaction of the log is a part
  rest_there : (l : Logged) → In l x.log.items → In (log.rest_part l) p.rest
  rest_there l i = subst (λ parts. In (log.rest_part l) parts) (sym are.rest) (In_map log.rest_part x.log.items l i)

  -- no number is above what is noted
  numbers_kept : (l : Logged) → In l x.log.items → l.tx.dot.number ≤ number_of x.lasts l.tx.dot.client
  numbers_kept l i = subst (λ (n : ℕ). l.tx.dot.number ≤ n) (noted_of x.lasts p.notes are.notes l.tx.dot.client) (All-In (λ r. r.tx.dot.number ≤ noted p.notes r.tx.dot.client) p.rest (log.rest_part l) met.numbers (rest_there l i))

  pub kept_made : (served : ServedEntries) (mines : MineEntries) (passed : PassedEntries) → IsKeptLog x.log → served ≡ [] → mines ≡ [] → passed ≡ [] → IsKept x served mines passed
  kept_made served mines passed logged none untold unknown = record {
    width = subst (λ (n : ℕ). (1 ≤ n) × (n ≤ MOST_CENTRES)) (sym wide) met.width;
    based = ap length (sym are.point.vector) ∙ (met.based ∙ sym wide);
    within = subst (λ (v : List ℕ). Covers v x.point.vector) are.vector (subst (λ (v : List ℕ). Covers p.vector v) are.point.vector met.within);
    stamps = stamps_kept;
    numbers = numbers_kept;
    updates = In-All (λ (l : Logged). HasFewUpdates l.tx) x.log.items (λ l i. record { few = All-In (λ r. length r.tx.updates ≤ MOST_UPDATES) p.rest (log.rest_part l) met.rest.few (rest_there l i) });
    logged = logged;
    states = none_served x.counts x.point x.log served none;
    told = none_mines x.counts x.point x.log mines untold;
    passed = none_passed (length x.counts) x.log passed unknown;
  }

-- ---- the parts of what is well kept

pub parts_kept : (x : AppliedView) (p : AppliedParts) (served : ServedEntries) (mines : MineEntries) (passed : PassedEntries) → IsKept x served mines passed → AreAppliedPartsOf x p → guard.AreParts p.notes → point.AreParts p.point → log.AreParts p.rest → AreAppliedParts p
parts_kept x p served mines passed kept are notes points rest = record {
  width = subst (λ (n : ℕ). (1 ≤ n) × (n ≤ MOST_CENTRES)) (sym wide) kept.width;
  based = ap length are.point.vector ∙ (kept.based ∙ sym wide);
  within = subst (λ (v : List ℕ). Covers v p.point.vector) (sym are.vector) (subst (λ (v : List ℕ). Covers x.counts v) (sym are.point.vector) kept.within);
  notes = notes;
  stamps = In-All (λ c. IsCentreOf (length p.vector) c.stamp) p.notes (λ c i. subst (λ (n : ℕ). IsCentreOf n c.stamp) (sym wide) (kept.stamps c.client c.stamp (stamp_is x.lasts c.client ∙ (ap stamp_at (sym (are.notes c.client)) ∙ ap stamp_at (part_found p.notes c notes.ascends i)))));
  point = points;
  rest = rest;
  numbers = In-All (λ r. r.tx.dot.number ≤ noted p.notes r.tx.dot.client) p.rest (λ r i.
      let m = In_from_map log.rest_part x.log.items r (subst (λ parts. In r parts) are.rest i) in
      let low : r.tx.dot.number ≤ number_of x.lasts r.tx.dot.client = subst (λ (q : RestPart). q.tx.dot.number ≤ number_of x.lasts q.tx.dot.client) (sym m.2) (kept.numbers m.0 m.1) in
      subst (λ (n : ℕ). r.tx.dot.number ≤ n) (sym (noted_of x.lasts p.notes are.notes r.tx.dot.client)) low);
}
  where
    wide : length p.vector ≡ length x.counts
    wide = ap length are.vector

    part_found : (parts : List Noted) (c : Noted) → guard.Ascends parts → In c parts → guard.part_of parts c.client ≡ Some c
    part_found [] c up i = absurd i
    part_found (q ∷ parts) c up (inl same) = ap (λ b. cond b (Some q) (guard.part_of parts c.client)) (eq-eqb q.client c.client (ap (λ (n : Noted). n.client) (sym same))) ∙ ap Some (sym same)
    part_found (q ∷ parts) c up (inr i) =
        let below = up.0 c i in
        ap (λ b. cond b (Some q) (guard.part_of parts c.client)) (ne_eqb q.client c.client (λ same. absurd (omega (arith, below, same)))) ∙ part_found parts c up.1 i

-- ---- the same records

-- what the log has, over its parts
txs_parts : (items : List Logged) → txs_of items ≡ map (λ (p : RestPart). p.tx) (log.parts_of items)
txs_parts [] = refl
txs_parts (x ∷ items) = ap (λ txs. x.tx ∷ txs) (txs_parts items)

-- two of one parts
module _ (x y : AppliedView) (p : AppliedParts) (was : AreAppliedPartsOf x p) (are : AreAppliedPartsOf y p) where
  counts : x.counts ≡ y.counts
  counts = sym was.vector ∙ are.vector

  base : x.point.vector ≡ y.point.vector
  base = sym was.point.vector ∙ are.point.vector

  rests : log.parts_of y.log.items ≡ log.parts_of x.log.items
  rests = sym are.rest ∙ was.rest

  notes : (client : ℕ) → guard.note_of y.lasts client ≡ guard.note_of x.lasts client
  notes client = sym (are.notes client) ∙ was.notes client

  -- the guards note the same
  guards : (A : List Record) → IsGuard A x.lasts → IsGuard A y.lasts
  guards A h = record {
    numbers = λ client. number_is y.lasts client ∙ (ap number_at (notes client) ∙ (sym (number_is x.lasts client) ∙ h.numbers client));
    stamps = λ client some. stamp_is y.lasts client ∙ (ap stamp_at (notes client) ∙ (sym (stamp_is x.lasts client) ∙ h.stamps client some));
  }

  -- the points are of the same transactions
  points : (txs : List Tx) → IsPointOf x.point txs → IsPointOf y.point txs
  points txs h = record {
    states = λ (o : ObjectId). ap (λ found. unwrap_or found (empty_of o.sort)) (sym (are.point.states o) ∙ was.point.states o) ∙ h.states o;
    numbers = λ client. ap (λ found. unwrap_or found 0) (sym (are.point.numbers client) ∙ was.point.numbers client) ∙ h.numbers client;
    folded = sym are.point.folded ∙ (was.point.folded ∙ h.folded);
    known = λ (o : ObjectId). ap is_some (sym (are.point.states o) ∙ was.point.states o) ∙ h.known o;
  }

  -- the logs have the same transactions
  txs : txs_of y.log.items ≡ txs_of x.log.items
  txs = txs_parts y.log.items ∙ (ap (map (λ (p : RestPart). p.tx)) rests ∙ sym (txs_parts x.log.items))

  logs : (A : List Record) (folded : List Tx) → IsKeptLog y.log → IsLogSplit A x.point.vector folded x.log → IsLogSplit A y.point.vector folded y.log
  logs A folded kept h = record {
    split = subst (λ (v : List ℕ). IsSplit A v folded (txs_of y.log.items)) base (subst (λ (l : List Tx). IsSplit A x.point.vector folded l) (sym txs) h.split);
    order = txs ∙ (h.order ∙ ap (λ (v : List ℕ). rest_txs A v) base);
    stamps = λ l i.
        let m = In_from_map log.rest_part x.log.items (log.rest_part l) (subst (λ parts. In (log.rest_part l) parts) rests (In_map log.rest_part y.log.items l i)) in
        subst (λ (q : RestPart). q.stamps ≡ stamps_of q.tx.dot A) (sym m.2) (h.stamps m.0 m.1);
    apart = kept.apart;
    below = kept.below;
  }

  -- so they stand for the same records
  pub applied_again : (n : ℕ) (A : List Record) → IsKeptLog y.log → IsApplied n x A → IsApplied n y A
  applied_again n A kept h = record {
    width = h.width;
    wide = ap length (sym counts) ∙ h.wide;
    based = ap length (sym base) ∙ h.based;
    counted = sym counts ∙ h.counted;
    guarded = guards A h.guarded;
    ranked = sym are.top ∙ (was.top ∙ h.ranked);
    stored = record { folded = h.stored.folded; at_point = points h.stored.folded h.stored.at_point; in_log = logs A h.stored.folded kept h.stored.in_log };
    within = subst (λ (v : List ℕ). Covers v y.point.vector) counts (subst (λ (v : List ℕ). Covers x.counts v) base h.within);
    there = h.there;
    updates = h.updates;
    placed = h.placed;
    ranged = h.ranged;
  }
