-- All centres have one list of each centre's records: what a centre has within a vector that it can serve is
-- what the vector covers, and what it has of another centre's records is the front of their list.
use Rattle.std.proofs.Common.{◌≡◌, ℕ, suc, ◌-◌, ◌≤◌, true, List, take, Some, sym, ap, ◌∙◌, subst, arith}
use Rattle.std.specs.Prelude.{slice_get, filter}
use Rattle.std.proofs.lemmas.Bool.{leb-true, le-leb}
use Rattle.list_core.specs.Members.{In}
use Rattle.list_core.proofs.Members.{In_map, In_from_map, In_filter, In_from_filter}
use Rattle.list_core.proofs.Gets.{is_front}
use Rattle.ids_core.specs.declared.ids.Dot.{Dot}
use Rattle.vv_core.specs.declared.stamp.Stamp.{Stamp}
use Rattle.vv_core.specs.Vectors.{at, within, Covers}
use Rattle.vv_core.proofs.Entrywise.{at-tabulate_le}
use Rattle.tx_core.specs.declared.tx.Record.{Record}
use Rattle.dc_talk.specs.Records.{vector, count, own, inside}
use Rattle.dc_talk.proofs.Counts.{own_length}
use Rattle.dc_talk.proofs.Places.{own_at}
use Rattle.dc_talk.proofs.Growth.{applied_later}
use Rattle.run_book.specs.Setups.{Setup, centre_settings}
use Rattle.run_book.specs.declared.book.Book.{Book}
use Rattle.run_book.specs.Parts.{trail_of, applied_at}
use Rattle.run_book.specs.Fit.{FitsWith}
use Rattle.run_book.specs.Graphs.{own_list, cover}
use Rattle.run_book.proofs.Causal.Origins.{each_at, agreement, applied_there}
use Rattle.run_book.proofs.Causal.Cover.{cover_in, in_cover, applied_covered}

module _ (b : Book) (setup : Setup) (fit : FitsWith b setup) (i p : ℕ) (low : 1 ≤ i) (high : i ≤ b.n) where
  -- what a centre has within a vector, the vector covers
  pub inside_covered : (w : List ℕ) (d : Dot) → In d (inside (applied_at b i p) w) → In d (cover b w)
  inside_covered w d here =
      let A = applied_at b i p in
      let m = In_from_map (λ (r : Record). r.tx.dot) (filter (λ (r : Record). within r.stamp w) A) d here in
      let f = In_from_filter (λ (r : Record). within r.stamp w) A m.0 m.1 in
      let covered = applied_covered b setup fit i low high m.0 (applied_later b.n (trail_of b i) p m.0 f.0) w (leb-true m.0.stamp.seq (at w m.0.stamp.centre) f.1) in
      subst (λ d. In d (cover b w)) (sym m.2) (in_cover b w m.0.tx.dot covered)

  -- what a vector covers that a centre can serve, the centre has within it
  pub covered_inside : (w : List ℕ) (d : Dot) → Covers (vector b.n (applied_at b i p)) w → In d (cover b w) → In d (inside (applied_at b i p) w)
  covered_inside w d le here =
      let A = applied_at b i p in
      let x = cover_in b w d here in
      let q = applied_there b setup fit i p x.centre x.place x.item low high (omega (arith, x.within, le.holds x.centre, at-tabulate_le b.n x.centre (λ e. count e A))) x.there in
      let inside_it : within x.item.stamp w ≡ true = subst (λ (s : Stamp). within s w ≡ true) (sym q.1) (le-leb (suc x.place) (at w x.centre) (omega (arith, x.within))) in
      subst (λ d. In d (inside A w)) x.dot (In_map (λ (r : Record). r.tx.dot) (filter (λ (r : Record). within r.stamp w) A) x.item (In_filter (λ (r : Record). within r.stamp w) A x.item q.0 inside_it))

  -- what a centre has applied of a centre's records is the front of that centre's list
  pub front : (e : ℕ) → own e (applied_at b i p) ≡ take (count e (applied_at b i p)) (own_list b e)
  front e = is_front (own e A) (own_list b e) stands ∙ ap (λ k. take k (own_list b e)) (own_length e A)
    where
      A : List Record
      A = applied_at b i p

      stands : (k : ℕ) (r : Record) → slice_get (own e (applied_at b i p)) k ≡ Some r → slice_get (own_list b e) k ≡ Some r
      stands k r there =
          let o = own_at (centre_settings b setup i) e A (each_at b setup fit i p low high) k r there in
          let number : r.stamp.seq - 1 ≡ k = omega (arith, ap (λ (s : Stamp). s.seq) o.1) in
          subst (λ q. slice_get (own_list b e) q ≡ Some r) number (subst (λ c. slice_get (own_list b c) (r.stamp.seq - 1) ≡ Some r) (ap (λ (s : Stamp). s.centre) o.1) (agreement b setup fit i p low high r o.0))
