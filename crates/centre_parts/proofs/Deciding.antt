-- Each test tells whether its condition is met.
use Rattle.std.proofs.Common.{◌≡◌, ◌≤◌, ◌<◌, ℕ, nat_le, ◌==◌, cond, inl, inr, List, [], ◌∷◌, length, map, All, refl, sym, ap}
use Rattle.std.specs.Bool.{Decides}
use Rattle.std.specs.Cmp.{nat_cmp_total, ranked}
use Rattle.std.specs.List.{list_all, AllByRecursion}
use Rattle.std.specs.List.Sorted.{IsStrictlySortedBy}
use Rattle.std.specs.Ordering.{nat_cmp}
use Rattle.std.specs.declared.cmp.Ordering.TheVariants.{Less, Equal, Greater}
use Rattle.std.proofs.lemmas.Bool.{lt-ltb}
use Rattle.std.proofs.lemmas.Bool.Decides.{Decides-eqb, Decides-and}
use Rattle.std.proofs.lemmas.List.Elements.{All-from_recursion}
use Rattle.std.proofs.lemmas.Map.Keys.{sorted_head, sorted_tail}
use Rattle.list_core.specs.Members.{In}
use Rattle.list_core.proofs.Members.{All-In, In_map}
use Rattle.ids_core.specs.declared.limits.TheConstants.{MOST_CENTRES, MOST_CLIENTS, MOST_RECORDS, MOST_UPDATES}
use Rattle.ids_core.specs.Orders.{object_cmp_total}
use Rattle.vv_core.specs.Vectors.{at}
use Rattle.tx_core.specs.Checks.{is_within}
use Rattle.dc_talk.specs.declared.settings.Settings.{Settings}
use Rattle.dup_guard.specs.declared.noted.Noted.{Noted}
use Rattle.dup_guard.specs.Parts.{Ascends, AreParts}
use Rattle.k_stable.specs.Tables.{stable_of, all_known_of}
use Rattle.join_bundle.specs.Conditions.{IsCentre}
use Rattle.join_bundle.specs.Tests.{ascends, is_centre, is_over}
use Rattle.join_bundle.proofs.Deciding.{each_of, at_most, in_range, over, ascending, apart}
use Rattle.centre_parts.specs.declared.condition.Condition.{Condition}
use Rattle.centre_parts.specs.declared.condition.Condition.TheVariants.{Centre, Known, Limit, Widths, Rows, Outbox, Room, MarkOverBase, StableOverMark, KnownOverTrimmed, Notes, NoteStamps, PointClients, PointObjects, RestUpdates, RestDots, RestNumbers}
use Rattle.centre_parts.specs.declared.part.CentreParts.{CentreParts}
use Rattle.centre_parts.specs.Conditions.{IsMember, AreWide, AreRows, IsTold, table_of, noted, Meets}
use Rattle.centre_parts.specs.Tests.{is_member, are_wide, are_rows, is_told, are_notes, passes}

-- one of its centres
member : (s : Settings) → Decides (is_member s) (IsMember s)
member s = Decides-and (is_centre s.n s.me) (nat_le s.n MOST_CENTRES) (in_range 1 s.n s.me) (at_most s.n MOST_CENTRES)

-- equal numbers
same : (a b : ℕ) → Decides (a == b) (a ≡ b)
same a b = Decides-eqb a b

-- the widths
wide : (p : CentreParts) → Decides (are_wide p) (AreWide p)
wide p = (λ h. let t = four.0 h in record { vector = t.0; base = t.1.0; mark = t.1.1.0; trimmed = t.1.1.1 }, λ w. four.1 (w.vector, (w.base, (w.mark, w.trimmed))))
  where
    n : ℕ
    n = p.settings.n

    four : Decides (are_wide p) ((length p.applied.vector ≡ n) × ((length p.applied.point.vector ≡ n) × ((length p.mark ≡ n) × (length p.trimmed ≡ n))))
    four =
        Decides-and (length p.applied.vector == n) _ (same (length p.applied.vector) n)
        (Decides-and (length p.applied.point.vector == n) _ (same (length p.applied.point.vector) n)
        (Decides-and (length p.mark == n) _ (same (length p.mark) n) (same (length p.trimmed) n)))

-- the rows
rows_told : (n : ℕ) (rows : List (List ℕ)) → Decides (are_rows n rows) (AreRows n rows)
rows_told n rows = Decides-and (length rows == n) (list_all (λ row. length row == n) rows) (same (length rows) n) (each_of (λ row. length row == n) (λ row. length row ≡ n) (λ row. same (length row) n) rows)

-- the told table
pub told : (p : CentreParts) → Decides (is_told p) (IsTold p)
told p = (
  λ h. let t = four.0 h in record { table = record { centre = t.0.0; few = t.0.1; known = t.1.0; count = t.1.1.0.0; wide = t.1.1.0.1 }; width = t.1.1.1 },
  λ t. four.1 ((t.table.centre, t.table.few), (t.table.known, ((t.table.count, t.table.wide), t.width))),
)
  where
    n : ℕ
    n = p.settings.n

    four : Decides (is_told p) (IsMember p.settings × (IsCentre n p.settings.k × (AreRows n p.rows × (length p.applied.vector ≡ n))))
    four =
        Decides-and (is_member p.settings) _ (member p.settings)
        (Decides-and (is_centre n p.settings.k) _ (in_range 1 n p.settings.k)
        (Decides-and (are_rows n p.rows) _ (rows_told n p.rows) (same (length p.applied.vector) n)))

-- clients that ascend are below those behind them
below_others : (n : Noted) (ns : List Noted) → IsStrictlySortedBy nat_cmp (map (λ c. c.client) (n ∷ ns)) → (m : Noted) → In m ns → n.client < m.client
below_others n ns sorted m i =
    let above = All-from_recursion (λ k. nat_cmp n.client k ≡ Less) (map (λ c. c.client) ns) (sorted_head nat_cmp n.client (map (λ c. c.client) ns) sorted) in
    ranked n.client m.client Less (sym (All-In (λ k. nat_cmp n.client k ≡ Less) (map (λ c. c.client) ns) m.client above (In_map (λ (c : Noted). c.client) ns m i)))

-- sorted clients ascend
ascend : (ns : List Noted) → IsStrictlySortedBy nat_cmp (map (λ c. c.client) ns) → Ascends ns
ascend [] sorted = tt
ascend (n ∷ ns) sorted = (below_others n ns sorted, ascend ns (sorted_tail nat_cmp n.client (map (λ c. c.client) ns) sorted))

-- a lesser number
less : (x y : ℕ) → x < y → nat_cmp x y ≡ Less
less x y lt = ap (λ b. cond b Less (cond (x == y) Equal Greater)) (lt-ltb x y lt)

-- those behind are above
above_first : (client : ℕ) (ns : List Noted) → ((m : Noted) → In m ns → client < m.client) → AllByRecursion (λ k. nat_cmp client k ≡ Less) (map (λ c. c.client) ns)
above_first client [] below = tt
above_first client (m ∷ ns) below = (less client m.client (below m (inl refl)), above_first client ns (λ k i. below k (inr i)))

-- clients that ascend are sorted
sorted : (ns : List Noted) → Ascends ns → IsStrictlySortedBy nat_cmp (map (λ c. c.client) ns)
unfolding IsStrictlySortedBy
sorted [] h = tt
sorted (n ∷ ns) h = (above_first n.client ns h.0, sorted ns h.1)

-- the notes of a guard
pub notes : (ns : List Noted) → Decides (are_notes ns) (AreParts ns)
notes ns = (
  λ h. let t = three.0 h in record { ascends = ascend ns t.0; clients = t.1.0; numbers = t.1.1 },
  λ p. three.1 (sorted ns p.ascends, (p.clients, p.numbers)),
)
  where
    three : Decides (are_notes ns) (IsStrictlySortedBy nat_cmp (map (λ c. c.client) ns) × (All (λ c. (1 ≤ c.client) × (c.client ≤ MOST_CLIENTS)) ns × All (λ c. 1 ≤ c.number) ns))
    three =
        Decides-and (ascends nat_cmp (map (λ c. c.client) ns)) _ (ascending nat_cmp_total (map (λ c. c.client) ns))
        (Decides-and (list_all (λ c. is_within 1 MOST_CLIENTS c.client) ns) (list_all (λ c. nat_le 1 c.number) ns)
        (each_of (λ c. is_within 1 MOST_CLIENTS c.client) (λ c. (1 ≤ c.client) × (c.client ≤ MOST_CLIENTS)) (λ c. in_range 1 MOST_CLIENTS c.client) ns)
        (each_of (λ c. nat_le 1 c.number) (λ c. 1 ≤ c.number) (λ c. at_most 1 c.number) ns))

-- each test tells whether its condition is met
pub tells : (condition : Condition) (p : CentreParts) → Decides (passes condition p) (Meets condition p)
tells Centre p = member p.settings
tells Known p = in_range 1 p.settings.n p.settings.k
tells Limit p = at_most p.settings.limit MOST_RECORDS
tells Widths p = wide p
tells Rows p = rows_told p.settings.n p.rows
tells Outbox p = same (length p.outbox) MOST_CENTRES
tells Room p = at_most (at p.applied.vector p.settings.me) p.settings.limit
tells MarkOverBase p = over p.mark p.applied.point.vector
tells StableOverMark p = Decides-and (is_told p) (is_over (stable_of (table_of p) p.applied.vector) p.mark) (told p) (over (stable_of (table_of p) p.applied.vector) p.mark)
tells KnownOverTrimmed p = Decides-and (is_told p) (is_over (all_known_of (table_of p) p.applied.vector) p.trimmed) (told p) (over (all_known_of (table_of p) p.applied.vector) p.trimmed)
tells Notes p = notes p.applied.notes
tells NoteStamps p = each_of (λ c. is_centre p.settings.n c.stamp.centre) (λ c. IsCentre p.settings.n c.stamp.centre) (λ c. in_range 1 p.settings.n c.stamp.centre) p.applied.notes
tells PointClients p = ascending nat_cmp_total (map (λ c. c.client) p.applied.point.numbers)
tells PointObjects p = ascending object_cmp_total (map (λ s. s.object) p.applied.point.states)
tells RestUpdates p = each_of (λ r. nat_le (length r.tx.updates) MOST_UPDATES) (λ r. length r.tx.updates ≤ MOST_UPDATES) (λ r. at_most (length r.tx.updates) MOST_UPDATES) p.applied.rest
tells RestDots p = apart p.applied.rest
tells RestNumbers p =
    Decides-and (are_notes p.applied.notes) (list_all (λ r. nat_le r.tx.dot.number (noted p.applied.notes r.tx.dot.client)) p.applied.rest) (notes p.applied.notes)
    (each_of (λ r. nat_le r.tx.dot.number (noted p.applied.notes r.tx.dot.client)) (λ r. r.tx.dot.number ≤ noted p.applied.notes r.tx.dot.client) (λ r. at_most r.tx.dot.number (noted p.applied.notes r.tx.dot.client)) p.applied.rest)
