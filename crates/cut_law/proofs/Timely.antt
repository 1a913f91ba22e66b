-- What a centre will fold is stable, and stays so.
use Rattle.std.proofs.Common.{◌≡◌, ◌≤◌, ◌<◌, ℕ, zero, suc, ◌+◌, Bool, true, false, cond, leb, ◌⊎◌, inl, inr, ⊎_elim, List, [], ◌∷◌, ◌++◌, length, map, Option, Some, None, refl, sym, ap, subst, arith}
use Rattle.std.specs.Prelude.{◌==◌, count_by}
use Rattle.std.proofs.lemmas.Bool.{cases_lt, leb-true, le-leb}
use Rattle.std.proofs.lemmas.List.{append-nil, map_push}
use Rattle.list_core.proofs.Ranges.{In_from_range}
use Rattle.vv_core.specs.Vectors.{at, centres, column, reach, kth_largest, meet_of, join_of, width_of, Covers}
use Rattle.vv_core.proofs.Covering.{Covers_refl, Covers_trans, Covers-join_left}
use Rattle.vv_core.proofs.Entrywise.{at-tabulate_le, at-tabulate_past, at-meet_of, length-tabulate, length-join_of}
use Rattle.vv_core.proofs.Reaching.{count_by-map, count_by_grows}
use Rattle.vv_core.proofs.Sound.{reached_by_rows, kth_largest_least}
use Rattle.tx_core.specs.declared.tx.Record.{Record}
use Rattle.join_bundle.specs.Conditions.{IsCentre}
use Rattle.dc_talk.specs.declared.ask.Ask.{Ask}
use Rattle.dc_talk.specs.declared.ask.Ask.TheVariants.{Commit, Deliver, Prune}
use Rattle.dc_talk.specs.declared.say.Say.{Say}
use Rattle.dc_talk.specs.declared.say.Say.TheVariants.{Stamped, Applied, Base}
use Rattle.dc_talk.specs.declared.sent.Sent.{Sent}
use Rattle.dc_talk.specs.declared.settings.Settings.{Settings}
use Rattle.dc_talk.specs.Records.{count, vector, deps_of}
use Rattle.dc_talk.specs.Sents.{with_hops, items}
use Rattle.dc_talk.specs.Trails.{carried_on, taught, taught_in}
use Rattle.dc_talk.proofs.Counts.{count_front, vector_front}
use Rattle.cut_law.specs.Parts.{Parts, list, rows_over, stable_over, parts_then}

-- ---- what rows make stable

-- as many rows reach a number at a centre, where each reaches it that did among others
reach_more : (f g : ℕ → List ℕ) (n e m : ℕ) → ((j : ℕ) → IsCentre n j → m ≤ at (f j) e → m ≤ at (g j) e) → count_by (λ row. leb m (at row e)) (map f (centres n)) ≤ reach m (column e (map g (centres n)))
reach_more f g n e m each =
    let before = count_by-map (λ (row : List ℕ). leb m (at row e)) f (centres n) in
    let after = count_by-map (λ (row : List ℕ). leb m (at row e)) g (centres n) in
    let there = count_by-map (leb m) (λ (row : List ℕ). at row e) (map g (centres n)) in
    let grows = count_by_grows (λ j. leb m (at (f j) e)) (λ j. leb m (at (g j) e)) (centres n) (λ j i is. let c = In_from_range 1 n j i in le-leb m (at (g j) e) (each j (omega (arith, c.0), omega (arith, c.1)) (leb-true m (at (f j) e) is))) in
    omega (arith, before, after, there, grows)

-- rows that are wide enough
wide_rows : (g : ℕ → List ℕ) (n few : ℕ) → 1 ≤ n → few ≤ length (g 1) → few ≤ width_of (map g (centres n))
wide_rows g zero few low le = absurd (omega (arith, low))
wide_rows g (suc n) few low le = le

-- what is stable by some rows, and is had, is stable by others that reach it where the first do
pub stable_reached : (n k : ℕ) (f g : ℕ → List ℕ) (v w : List ℕ) → 1 ≤ k → ((e : ℕ) → n < e → at v e ≡ 0) → n ≤ length (g 1) → (e m : ℕ) → ((j : ℕ) → IsCentre n j → m ≤ at (f j) e → m ≤ at (g j) e)
    → m ≤ at (meet_of (kth_largest k (map f (centres n))) v) e → m ≤ at w e → m ≤ at (meet_of (kth_largest k (map g (centres n))) w) e
stable_reached n k f g v w some short wide e m each low have = go e refl (cases_lt 0 m)
  where
    both : (m ≤ at (kth_largest k (map f (centres n))) e) × (m ≤ at v e)
    both = let meet = at-meet_of (kth_largest k (map f (centres n))) v e in (omega (arith, meet, low), omega (arith, meet, low))

    go : (d : ℕ) → e ≡ d → (0 < m) ⊎ (m ≤ 0) → m ≤ at (meet_of (kth_largest k (map g (centres n))) w) e
    go d is (inr none) = omega (arith, none)
    go zero is (inl lt) = absurd (let le = both.1 in let nought : at v e ≡ 0 = ap (at v) is in omega (arith, le, nought, lt))
    go (suc d) is (inl lt) =
        let here : e ≤ n = ⊎_elim (λ past. absurd (let le = both.1 in let nought = short e past in omega (arith, le, nought, lt))) (λ le. le) (cases_lt n e) in
        let enough = reached_by_rows k e m (map f (centres n)) (omega (arith, lt)) both.0 in
        let more = reach_more f g n e m each in
        let wider = wide_rows g n n (omega (arith, here, is)) wide in
        let kth = kth_largest_least k e m (map g (centres n)) some (omega (arith, is)) (omega (arith, here, wider)) (omega (arith, enough, more)) in
        let meet = at-meet_of (kth_largest k (map g (centres n))) w e in
        omega (arith, kth, meet, have)

-- ---- one entry more

-- an entry puts at most one record behind the others
pub grown_front : (n : ℕ) (C : List Sent) (ask : Ask) (say : Say) → (Z : List Record) × (items (carried_on n C ask say) ≡ items C ++ Z)
grown_front n C (Commit tx) (Stamped stamp) = (record { stamp = stamp; deps = deps_of n (items C) tx; tx = tx } ∷ [], map_push (λ (x : Sent). x.item) C (with_hops (record { stamp = stamp; deps = deps_of n (items C) tx; tx = tx }) 0))
grown_front n C (Deliver item hops) (Applied fresh) = (item ∷ [], map_push (λ (x : Sent). x.item) C (with_hops item (hops + 1)))
grown_front n C _ _ = ([], sym (append-nil (items C)))

-- a row is no less once more was taught
pub record IsLaterRow (old new : List ℕ) : Type 0 where
  pub covers : Covers new old
  pub long : length old ≤ length new

pub taught_later : (j : ℕ) (row : List ℕ) (news : Option (ℕ × List ℕ)) → IsLaterRow row (taught j row news)
taught_later j row None = record { covers = Covers_refl row; long = omega arith }
taught_later j row (Some news) = go (news.0 == j)
  where
    go : (b : Bool) → IsLaterRow row (cond b (join_of row news.1) row)
    go true = record { covers = Covers-join_left row news.1; long = let long = length-join_of row news.1 in omega (arith, long) }
    go false = record { covers = Covers_refl row; long = omega arith }

-- the mark covers the base, the list holds it, and it is stable; the first told row is wide enough
pub record IsTimely (s : Settings) (P : Parts) : Type 0 where
  pub wide : s.n ≤ length (P.told 1)
  pub ahead : Covers P.horizon.mark P.horizon.base
  pub marked : (e : ℕ) → at P.horizon.mark e ≤ count e (list P)
  pub steady : Covers (stable_over s P) P.horizon.mark

-- what is stable is counted
pub stable_counted : (s : Settings) (P : Parts) (e : ℕ) → at (stable_over s P) e ≤ count e (list P)
stable_counted s P e = let meet = at-meet_of (kth_largest s.k (rows_over s P)) (vector s.n (list P)) e in let counts = at-tabulate_le s.n e (λ e. count e (list P)) in omega (arith, meet, counts)

module _ (s : Settings) (P : Parts) (known : 1 ≤ s.k) (h : IsTimely s P) where
  -- the vector grows
  vector_later : (ask : Ask) (say : Say) → Covers (vector s.n (list (parts_then s P ask say))) (vector s.n (list P))
  vector_later ask say = let front = grown_front s.n P.carried ask say in subst (λ (l : List Record). Covers (vector s.n l) (vector s.n (list P))) (sym front.1) (vector_front s.n (list P) front.0)

  -- so does each row
  row_later : (ask : Ask) (say : Say) (j : ℕ) → Covers (cond (j == s.me) (vector s.n (list (parts_then s P ask say))) ((parts_then s P ask say).told j)) (cond (j == s.me) (vector s.n (list P)) (P.told j))
  row_later ask say j = go (j == s.me)
    where
      go : (b : Bool) → Covers (cond b (vector s.n (list (parts_then s P ask say))) ((parts_then s P ask say).told j)) (cond b (vector s.n (list P)) (P.told j))
      go true = vector_later ask say
      go false = (taught_later j (P.told j) (taught_in ask say)).covers

  wide_later : (ask : Ask) (say : Say) → s.n ≤ length ((parts_then s P ask say).told 1)
  wide_later ask say = let long = (taught_later 1 (P.told 1) (taught_in ask say)).long in let wide = h.wide in omega (arith, long, wide)

  row_wide : (ask : Ask) (say : Say) (b : Bool) → s.n ≤ length (cond b (vector s.n (list (parts_then s P ask say))) ((parts_then s P ask say).told 1))
  row_wide ask say true = let long = length-tabulate s.n (λ e. count e (list (parts_then s P ask say))) in omega (arith, long)
  row_wide ask say false = wide_later ask say

  -- so what is stable only grows
  stable_later : (ask : Ask) (say : Say) → Covers (stable_over s (parts_then s P ask say)) (stable_over s P)
  stable_later ask say = record { holds = holds }
    where
      holds : (e : ℕ) → at (stable_over s P) e ≤ at (stable_over s (parts_then s P ask say)) e
      holds e = stable_reached s.n s.k
          (λ j. cond (j == s.me) (vector s.n (list P)) (P.told j)) (λ j. cond (j == s.me) (vector s.n (list (parts_then s P ask say))) ((parts_then s P ask say).told j))
          (vector s.n (list P)) (vector s.n (list (parts_then s P ask say))) known (λ e lt. at-tabulate_past s.n e (λ e. count e (list P)) lt) (row_wide ask say (1 == s.me)) e (at (stable_over s P) e)
          (λ j centre le. let row = (row_later ask say j).holds e in omega (arith, le, row)) (omega arith)
          (let meet = at-meet_of (kth_largest s.k (rows_over s P)) (vector s.n (list P)) e in let more = (vector_later ask say).holds e in omega (arith, meet, more))

  counted_later : (ask : Ask) (say : Say) (e : ℕ) → at P.horizon.mark e ≤ count e (list (parts_then s P ask say))
  counted_later ask say e =
      let front = grown_front s.n P.carried ask say in
      subst (λ (l : List Record). at P.horizon.mark e ≤ count e l) (sym front.1) (let marked = h.marked e in let more = count_front e (list P) front.0 in omega (arith, marked, more))

  -- an entry leaves it so
  pub timely_then : (ask : Ask) (say : Say) → IsTimely s (parts_then s P ask say)
  timely_then Prune (Base v folded trimmed) = record {
    wide = h.wide;
    ahead = h.steady;
    marked = stable_counted s P;
    steady = Covers_refl (stable_over s P);
  }
  timely_then ask say = record {
    wide = wide_later ask say;
    ahead = h.ahead;
    marked = counted_later ask say;
    steady = Covers_trans _ _ _ (stable_later ask say) h.steady;
  }
