-- A centre taken apart and made again of its parts: they meet all conditions, and it stands for the same trails.
use Rattle.std.proofs.Common.{◌≡◌, ◌≤◌, ℕ, zero, suc, List, [], length, get_or, refl, sym, ap, ◌∙◌, subst, arith}
use Rattle.list_core.proofs.Members.{All-In, In-All}
use Rattle.ids_core.specs.declared.limits.TheConstants.{MOST_CENTRES}
use Rattle.vv_core.specs.Vectors.{at, Covers, kth_largest}
use Rattle.vv_core.proofs.Covering.{Covers_trans, Covers-meet_right}
use Rattle.vv_core.proofs.Entrywise.{length-meet_of, length-tabulate}
use Rattle.k_stable.specs.Tables.{Table, IsTable, told_by, rows_of, stable_of, all_known_of}
use Rattle.k_stable.proofs.Rows.{width_of-rows_of}
use Rattle.dc_talk.specs.declared.sent.Sent.{Sent}
use Rattle.dc_talk.specs.declared.settings.Settings.{Settings}
use Rattle.dc_talk.specs.Entries.{Entry}
use Rattle.dc_talk.specs.Sents.{items}
use Rattle.dc_talk.specs.Trails.{carried, told, horizon}
use Rattle.point_log.specs.KeptLogs.{IsKeptLog}
use Rattle.centre_parts.specs.declared.condition.Condition.{Condition}
use Rattle.centre_parts.specs.declared.condition.Condition.TheVariants.{Centre, Known, Limit, Widths, Rows, Outbox, Room, MarkOverBase, StableOverMark, KnownOverTrimmed, Notes, NoteStamps, PointClients, PointObjects, RestUpdates, RestDots, RestNumbers}
use Rattle.centre_parts.specs.declared.part.CentreParts.{CentreParts}
use Rattle.centre_parts.specs.Conditions.{IsTold, AreWide, table_of, Meets, MeetsAll}
use Rattle.dc_centre.specs.Applied.{AppliedView, IsCentreOf, IsApplied}
use Rattle.dc_centre.specs.Outboxes.{Keeps}
use Rattle.dc_centre.specs.Centre.{CentreView, StandsFor, IsCentre}
use Rattle.dc_centre.specs.Parts.{AreAppliedParts, AreAppliedPartsOf, ArePartsOf}
use Rattle.dc_centre.proofs.AppliedParts.{applied_again}

-- ---- what parts that meet all conditions are

-- the rows make a told table
pub table_met : (p : CentreParts) → MeetsAll p → IsTable (table_of p)
table_met p met = (met.meets StableOverMark).0.table

-- of them what is kept of applied records can be made
pub applied_met : (p : CentreParts) → MeetsAll p → AreAppliedParts p.applied
applied_met p met = record {
  width = let few = met.meets Centre in (omega (arith, few, wide), omega (arith, few, wide));
  based = widths.base ∙ sym wide;
  within = Covers_trans v p.mark p.applied.point.vector (Covers_trans v (stable_of (table_of p) v) p.mark (Covers-meet_right (kth_largest p.settings.k (rows_of (table_of p) v)) v) (met.meets StableOverMark).1.covers) (met.meets MarkOverBase).covers;
  notes = met.meets Notes;
  stamps = In-All (λ c. IsCentreOf (length v) c.stamp) p.applied.notes (λ c i.
      let range = All-In (λ c. (1 ≤ c.stamp.centre) × (c.stamp.centre ≤ p.settings.n)) p.applied.notes c (met.meets NoteStamps) i in
      record { low = range.0; high = omega (arith, range, wide) });
  point = record { clients = met.meets PointClients; objects = met.meets PointObjects };
  rest = record { apart = met.meets RestDots; few = met.meets RestUpdates };
  numbers = (met.meets RestNumbers).1;
}
  where
    v : List ℕ
    v = p.applied.vector

    widths : AreWide p
    widths = met.meets Widths

    wide : length v ≡ p.settings.n
    wide = widths.vector

-- a centre that is made of them is one as it may be
pub centre_met : (p : CentreParts) (x : AppliedView) (t : Table) → MeetsAll p → AreAppliedPartsOf x p.applied → t ≡ table_of p → IsCentre p.settings x t p.mark p.trimmed
centre_met p x t met are is = subst (λ (u : Table). IsCentre p.settings x u p.mark p.trimmed) (sym is) (record {
  centre = (met.meets Centre).0;
  few = (met.meets Centre).1;
  known = met.meets Known;
  most = met.meets Limit;
  width = ap length (sym are.vector) ∙ widths.vector;
  table = table_met p met;
  same = (refl, refl, refl);
  room = subst (λ (v : List ℕ). at v p.settings.me ≤ p.settings.limit) are.vector (met.meets Room);
  marked = widths.mark;
  ahead = subst (λ (v : List ℕ). Covers p.mark v) are.point.vector (met.meets MarkOverBase).covers;
  stable = subst (λ (v : List ℕ). Covers (stable_of (table_of p) v) p.mark) are.vector (met.meets StableOverMark).1.covers;
  let_go = widths.trimmed;
  gone = subst (λ (v : List ℕ). Covers (all_known_of (table_of p) v) p.trimmed) are.vector (met.meets KnownOverTrimmed).1.covers;
})
  where
    widths : AreWide p
    widths = met.meets Widths

-- ---- the parts of a centre meet all conditions

-- a stable vector is as wide as there are centres
wide_stable : (t : Table) (own : List ℕ) → IsTable t → length own ≡ t.n → length (stable_of t own) ≡ t.n
wide_stable t own is wide =
    let both = length-meet_of (kth_largest t.k (rows_of t own)) own in
    let first : length (kth_largest t.k (rows_of t own)) ≡ t.n = length-tabulate _ _ ∙ width_of-rows_of t own is wide in
    omega (arith, both, first, wide)

-- parts whose settings and vectors are those of a centre
module _ (p : CentreParts) (x : AppliedView) (are : AreAppliedPartsOf x p.applied) (applied : AreAppliedParts p.applied) (h : IsCentre p.settings x (table_of p) p.mark p.trimmed) (many : length p.outbox ≡ MOST_CENTRES) where
  wide : length p.applied.vector ≡ p.settings.n
  wide = ap length are.vector ∙ h.width

  is_told : IsTold p
  is_told = record { table = h.table; width = wide }

  meets_each : (condition : Condition) → Meets condition p
  meets_each Centre = (h.centre, h.few)
  meets_each Known = h.known
  meets_each Limit = h.most
  meets_each Widths = record { vector = wide; base = applied.based ∙ wide; mark = h.marked; trimmed = h.let_go }
  meets_each Rows = (h.table.count, h.table.wide)
  meets_each Outbox = many
  meets_each Room = subst (λ (v : List ℕ). at v p.settings.me ≤ p.settings.limit) (sym are.vector) h.room
  meets_each MarkOverBase = record { width = h.marked ∙ sym (applied.based ∙ wide); covers = subst (λ (v : List ℕ). Covers p.mark v) (sym are.point.vector) h.ahead }
  meets_each StableOverMark = (is_told, record { width = wide_stable (table_of p) p.applied.vector h.table wide ∙ sym h.marked; covers = subst (λ (v : List ℕ). Covers (stable_of (table_of p) v) p.mark) (sym are.vector) h.stable })
  meets_each KnownOverTrimmed = (is_told, record { width = length-tabulate _ _ ∙ sym h.let_go; covers = subst (λ (v : List ℕ). Covers (all_known_of (table_of p) v) p.trimmed) (sym are.vector) h.gone })
  meets_each Notes = applied.notes
  meets_each NoteStamps = In-All (λ c. (1 ≤ c.stamp.centre) × (c.stamp.centre ≤ p.settings.n)) p.applied.notes (λ c i. let of = All-In (λ c. IsCentreOf (length p.applied.vector) c.stamp) p.applied.notes c applied.stamps i in let high = of.high in (of.low, omega (arith, high, wide)))
  meets_each PointClients = applied.point.clients
  meets_each PointObjects = applied.point.objects
  meets_each RestUpdates = applied.rest.few
  meets_each RestDots = applied.rest.apart
  meets_each RestNumbers = (applied.notes, applied.numbers)

pub parts_meet : (c : CentreView) (p : CentreParts) → IsCentre c.settings c.applied c.told c.mark c.trimmed → ArePartsOf c p → AreAppliedParts p.applied → length c.outbox ≡ MOST_CENTRES → MeetsAll p
parts_meet c p h are applied many = record { meets = meets_each p c.applied are.applied applied seen (ap length are.outbox ∙ many) }
  where
    table : c.told ≡ record { me = c.settings.me; n = c.settings.n; k = c.settings.k; rows = p.rows }
    table = λ i. record { me = h.same.0 i; n = h.same.1 i; k = h.same.2 i; rows = sym are.rows i }

    seen : IsCentre p.settings c.applied (table_of p) p.mark p.trimmed
    seen =
        subst (λ (s : Settings). IsCentre s c.applied (record { me = s.me; n = s.n; k = s.k; rows = p.rows }) p.mark p.trimmed) (sym are.settings)
        (subst (λ (t : Table). IsCentre c.settings c.applied t p.mark p.trimmed) table
        (subst (λ (v : List ℕ). IsCentre c.settings c.applied c.told v p.trimmed) (sym are.mark)
        (subst (λ (v : List ℕ). IsCentre c.settings c.applied c.told c.mark v) (sym are.trimmed) h)))

-- and no others are its parts
pub parts_only : (c : CentreView) (p others : CentreParts) → ArePartsOf c p → ArePartsOf c others → others.applied ≡ p.applied → others ≡ p
parts_only c p others are also applied =
    let settings = also.settings ∙ sym are.settings in
    let rows = also.rows ∙ sym are.rows in
    let mark = also.mark ∙ sym are.mark in
    let trimmed = also.trimmed ∙ sym are.trimmed in
    let outbox = also.outbox ∙ sym are.outbox in
    let stopped = also.stopped ∙ sym are.stopped in
    λ i. record { settings = settings i; applied = applied i; rows = rows i; mark = mark i; trimmed = trimmed i; outbox = outbox i; stopped = stopped i }

-- ---- the same trails

-- what was told stands in the rows
told_rows : (t u : Table) → t.rows ≡ u.rows → (j : ℕ) → told_by t j ≡ told_by u j
told_rows t u is zero = refl
told_rows t u is (suc i) = ap (λ (rows : List (List ℕ)). get_or rows i []) is

-- a centre stands for each trail for which another one with its parts stands
pub stands_again : (c old : CentreView) (p : CentreParts) (trail : List Entry) → ArePartsOf c p → ArePartsOf old p → IsKeptLog c.applied.log → StandsFor old trail → StandsFor c trail
stands_again c old p trail are was kept stands = record {
  holds = record { applied = applied; outbox = outbox };
  told = λ j other low high.
      told_rows c.told old.told (sym are.rows ∙ was.rows) j
      ∙ (stands.told j (λ same. other (same ∙ ap (λ (s : Settings). s.me) settings)) low (subst (λ (s : Settings). j ≤ s.n) (sym settings) high)
      ∙ ap (λ (s : Settings). told s.n j trail) settings);
  pruned = (λ i. record { base = base i; mark = mark i; trimmed = trimmed i }) ∙ (stands.pruned ∙ ap (λ (s : Settings). horizon s trail) settings);
  down = sym are.stopped ∙ (was.stopped ∙ stands.down);
}
  where
    settings : old.settings ≡ c.settings
    settings = sym was.settings ∙ are.settings

    base : c.applied.point.vector ≡ old.applied.point.vector
    base = sym are.applied.point.vector ∙ was.applied.point.vector

    mark : c.mark ≡ old.mark
    mark = sym are.mark ∙ was.mark

    trimmed : c.trimmed ≡ old.trimmed
    trimmed = sym are.trimmed ∙ was.trimmed

    rows : c.outbox ≡ old.outbox
    rows = sym are.outbox ∙ was.outbox

    applied : IsApplied c.settings.n c.applied (items (carried c.settings.n trail))
    applied = subst (λ (s : Settings). IsApplied s.n c.applied (items (carried s.n trail))) settings (applied_again old.applied c.applied p.applied was.applied are.applied old.settings.n (items (carried old.settings.n trail)) kept stands.holds.applied)

    outbox : Keeps c.settings.n c.outbox c.trimmed (carried c.settings.n trail)
    outbox =
        subst (λ (s : Settings). Keeps s.n c.outbox c.trimmed (carried s.n trail)) settings
        (subst (λ (r : List (List Sent)). Keeps old.settings.n r c.trimmed (carried old.settings.n trail)) (sym rows)
        (subst (λ (v : List ℕ). Keeps old.settings.n old.outbox v (carried old.settings.n trail)) (sym trimmed) stands.holds.outbox))
