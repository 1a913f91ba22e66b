-- What a vector covers: records of the own lists. A sound vector that covers a client's number covers its
-- lower numbers.
use Rattle.std.proofs.Common.{◌≡◌, ℕ, zero, suc, ◌+◌, ◌-◌, ◌≤◌, ◌<◌, List, take, map, Some, refl, sym, ap, ◌∙◌, subst, arith}
use Rattle.std.specs.Prelude.{slice_get}
use Rattle.std.specs.Option.{option_map}
use Rattle.list_core.specs.Members.{In}
use Rattle.list_core.proofs.Members.{In_map, In_from_map, In_flat_map, In_from_flat_map, In_take}
use Rattle.list_core.proofs.Gets.{In_get, get_In_take, In_take_get}
use Rattle.list_core.proofs.Ranges.{In_range, In_from_range}
use Rattle.ids_core.specs.declared.ids.Dot.{Dot}
use Rattle.vv_core.specs.declared.stamp.Stamp.{Stamp}
use Rattle.vv_core.specs.Vectors.{at, centres, Covers}
use Rattle.tx_core.specs.declared.tx.Record.{Record}
use Rattle.dc_talk.specs.Records.{first_stamp}
use Rattle.dc_talk.specs.Laws.{IsStampedAfter}
use Rattle.dc_talk.proofs.Firsts.{first_stamp_is}
use Rattle.dc_talk.proofs.Places.{own_at}
use Rattle.run_book.specs.Setups.{Setup, centre_settings}
use Rattle.run_book.specs.declared.book.Book.{Book}
use Rattle.run_book.specs.Parts.{applied_by_end}
use Rattle.run_book.specs.Fit.{FitsWith}
use Rattle.run_book.specs.Graphs.{own_list, cover}
use Rattle.run_book.specs.Sound.{deps_in, IsSound}
use Rattle.run_book.proofs.Held.{dot_at}
use Rattle.run_book.proofs.Causal.Origins.{whole_each, agreement_whole}

-- ---- a covered record

-- a record of an own list, with its place there, within the vector
pub record Covered (b : Book) (v : List ℕ) (d : Dot) : Type 0 where
  pub centre : ℕ
  pub low : 1 ≤ centre
  pub high : centre ≤ b.n
  pub place : ℕ
  pub item : Record
  pub there : slice_get (own_list b centre) place ≡ Some item
  pub within : place < at v centre
  pub dot : item.tx.dot ≡ d

-- what the vector covers is the dot of such a record
pub cover_in : (b : Book) (v : List ℕ) (d : Dot) → In d (cover b v) → Covered b v d
cover_in b v d here =
    let c = In_from_flat_map (λ e. map (λ (r : Record). r.tx.dot) (take (at v e) (own_list b e))) (centres b.n) d here in
    let g = In_from_range 1 b.n c.0 c.1 in
    let r = In_from_map (λ (r : Record). r.tx.dot) (take (at v c.0) (own_list b c.0)) d c.2 in
    let q = In_take_get (at v c.0) (own_list b c.0) r.0 r.1 in
    record { centre = c.0; low = g.0; high = omega (arith, g.1); place = q.0; item = r.0; there = q.2; within = q.1; dot = sym r.2 }

-- the dot of such a record is covered
pub in_cover : (b : Book) (v : List ℕ) (d : Dot) → Covered b v d → In d (cover b v)
in_cover b v d x =
    let list = take (at v x.centre) (own_list b x.centre) in
    let here : In x.item.tx.dot (map (λ (r : Record). r.tx.dot) list) = In_map (λ (r : Record). r.tx.dot) list x.item (get_In_take (at v x.centre) (own_list b x.centre) x.place x.item x.within x.there) in
    In_flat_map (λ e. map (λ (r : Record). r.tx.dot) (take (at v e) (own_list b e))) (centres b.n) x.centre d (In_range 1 b.n x.centre x.low (omega (arith, x.high))) (subst (λ d. In d (map (λ (r : Record). r.tx.dot) list)) x.dot here)

-- what a vector covers, a greater one covers
pub cover_more : (b : Book) (v w : List ℕ) (d : Dot) → Covers v w → In d (cover b w) → In d (cover b v)
cover_more b v w d more i =
    let x = cover_in b w d i in
    in_cover b v d (record { centre = x.centre; low = x.low; high = x.high; place = x.place; item = x.item; there = x.there; within = omega (arith, x.within, more.holds x.centre); dot = x.dot })

-- a sound vector covers the dependency vector of each record that it covers
pub covered_deps : (b : Book) (v : List ℕ) (d : Dot) → IsSound b v → (x : Covered b v d) → Covers v x.item.deps
covered_deps b v d sound x =
    let one_less : suc x.place - 1 ≡ x.place = omega arith in
    let table : deps_in b x.centre (suc x.place) ≡ Some x.item.deps = ap (option_map (λ (r : Record). r.deps)) (subst (λ n. slice_get (own_list b x.centre) n ≡ Some x.item) (sym one_less) x.there) in
    sound.deps.holds x.centre (suc x.place) x.item.deps (omega arith) (omega (arith, x.within)) table

-- ---- a client's lower numbers

module _ (b : Book) (setup : Setup) (fit : FitsWith b setup) where
  -- a record that a centre has applied is covered where its stamp is within the vector
  pub applied_covered : (i : ℕ) → 1 ≤ i → i ≤ b.n → (r : Record) → In r (applied_by_end b i) → (v : List ℕ) → r.stamp.seq ≤ at v r.stamp.centre → Covered b v r.tx.dot
  applied_covered i low high r here v within =
      let g = In_get (applied_by_end b i) r here in
      let placed = (whole_each b setup fit i low high).holds g.0 r g.1 in
      record {
        centre = r.stamp.centre;
        low = placed.centre.0;
        high = placed.centre.1;
        place = r.stamp.seq - 1;
        item = r;
        there = agreement_whole b setup fit i low high r here;
        within = omega (arith, within, placed.number);
        dot = refl;
      }

  -- the number before a covered one is covered: its origin had stamped it, and its first stamp is one of
  -- those on which the record depends
  before : (v : List ℕ) (client number : ℕ) → IsSound b v → 1 ≤ number → Covered b v (dot_at client (suc number)) → Covered b v (dot_at client number)
  before v client number sound low x = first (made.before (omega (arith, which, low)))
    where
      A : List Record
      A = applied_by_end b x.centre

      own : In x.item A × (x.item.stamp ≡ record { centre = x.centre; seq = x.place + 1 })
      own = own_at (centre_settings b setup x.centre) x.centre A (whole_each b setup fit x.centre x.low x.high) x.place x.item x.there

      place : (p : ℕ) × (slice_get A p ≡ Some x.item)
      place = In_get A x.item own.0

      made : IsStampedAfter (take place.0 A) x.item
      made = ((whole_each b setup fit x.centre x.low x.high).holds place.0 x.item place.1).made (ap (λ (s : Stamp). s.centre) own.1)

      which : x.item.tx.dot.number ≡ suc number
      which = ap (λ (d : Dot). d.number) x.dot

      last : x.item.tx.dot.number - 1 ≡ number
      last = omega (arith, which)

      first : (s : Stamp) × (first_stamp (dot_at x.item.tx.dot.client (x.item.tx.dot.number - 1)) (take place.0 A) ≡ Some s) × (s.seq ≤ at x.item.deps s.centre) → Covered b v (dot_at client number)
      first (s, is, needed) = there (first_stamp_is (dot_at x.item.tx.dot.client (x.item.tx.dot.number - 1)) (take place.0 A) s is)
        where
          reach : s.seq ≤ at v s.centre
          reach = omega (arith, needed, (covered_deps b v (dot_at client (suc number)) sound x).holds s.centre)

          there : (r : Record) × In r (take place.0 A) × (r.stamp ≡ s) × (r.tx.dot ≡ dot_at x.item.tx.dot.client (x.item.tx.dot.number - 1)) → Covered b v (dot_at client number)
          there (r, here, stamp, dot) =
              subst (λ d. Covered b v d) (dot ∙ (λ i. dot_at (x.dot i).client (last i)))
              (applied_covered x.centre x.low x.high r (In_take place.0 A r here) v (subst (λ (s : Stamp). s.seq ≤ at v s.centre) (sym stamp) reach))

  -- so is each lower one
  down : (v : List ℕ) (client more number high : ℕ) → IsSound b v → 1 ≤ number → high ≡ more + number → Covered b v (dot_at client high) → Covered b v (dot_at client number)
  down v client zero number high sound low is x =
      let same : high ≡ number = omega (arith, is) in
      subst (λ n. Covered b v (dot_at client n)) same x
  down v client (suc more) number high sound low is x =
      let same : high ≡ suc (more + number) = omega (arith, is) in
      down v client more number (more + number) sound low refl (before v client (more + number) sound (omega (arith, low)) (subst (λ n. Covered b v (dot_at client n)) same x))

  -- a sound vector that covers a client's number covers its lower ones
  pub cover_down : (v : List ℕ) (client number lower : ℕ) → IsSound b v → 1 ≤ lower → lower ≤ number → In (dot_at client number) (cover b v) → In (dot_at client lower) (cover b v)
  cover_down v client number lower sound low le i = in_cover b v (dot_at client lower) (down v client (number - lower) lower number sound low (omega (arith, le)) (cover_in b v (dot_at client number) i))
