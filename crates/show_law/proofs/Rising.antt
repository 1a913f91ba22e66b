-- What a centre knows K centres to have only grows, and so does what it has folded.
use Rattle.std.proofs.Common.{◌≡◌, ℕ, zero, suc, ◌≤◌, Bool, true, false, cond, ⊎_elim, List, [], ◌∷◌, ◌++◌, map, fold, length, take, drop, Option, Some, None, sym, ap, subst, arith}
use Rattle.std.specs.Prelude.{◌==◌, nat_le, filter}
use Rattle.std.proofs.Math.Seq.{take-append_seam}
use Rattle.std.proofs.lemmas.Bool.{cases_lt, leb-true, le-leb}
use Rattle.std.proofs.lemmas.List.{append-nil, append_assoc, take-append-drop, take-take, length-append, take_all}
use Rattle.std.proofs.lemmas.List.Sums.{fold-append}
use Rattle.std.proofs.lemmas.Simd.{map-map}
use Rattle.list_core.proofs.Members.{In_map, In_from_map, In_filter}
use Rattle.list_core.proofs.Moments.{by_steps}
use Rattle.vv_core.specs.Vectors.{at, zeros, centres, column, reach, kth_of, width_of, kth_largest, join_of, Covers}
use Rattle.vv_core.proofs.Covering.{Covers_refl, Covers_trans, Covers-join_left, Covers-meet_right}
use Rattle.vv_core.proofs.Entrywise.{at-zeros, at-tabulate, at-tabulate_past, at-meet_of, length-join_of, length-tabulate}
use Rattle.vv_core.proofs.Reaching.{count_by-map, count_by_grows, In-most, kth_of_in, kth_of_reached_some, reached_kth_of}
use Rattle.dc_talk.specs.declared.ask.Ask.{Ask}
use Rattle.dc_talk.specs.declared.ask.Ask.TheVariants.{Prune}
use Rattle.dc_talk.specs.declared.say.Say.{Say}
use Rattle.dc_talk.specs.declared.say.Say.TheVariants.{Base}
use Rattle.dc_talk.specs.declared.settings.Settings.{Settings}
use Rattle.dc_talk.specs.Entries.{Entry}
use Rattle.dc_talk.specs.Records.{count, vector}
use Rattle.dc_talk.specs.Trails.{applied, taught_in, taught, told, rows, stable, Horizon, horizon_after, horizon}
use Rattle.dc_talk.proofs.Growth.{later_covers}
use Rattle.dc_talk.proofs.Horizons.{horizon_more}

-- ---- one row

-- a vector is as wide as another or wider, and covers it
record Outgrows (v w : List ℕ) : Type 0 where
  wide : length w ≤ length v
  covers : Covers v w

outgrows_self : (v : List ℕ) → Outgrows v v
outgrows_self v = record { wide = omega arith; covers = Covers_refl v }

-- what a row is taught, it has beside what it had
taught_grows : (j : ℕ) (row : List ℕ) (news : Option (ℕ × List ℕ)) → Outgrows (taught j row news) row
taught_grows j row None = outgrows_self row
taught_grows j row (Some news) = go (news.0 == j)
  where
    go : (t : Bool) → Outgrows (cond t (join_of row news.1) row) row
    go true = record { wide = let long = length-join_of row news.1 in omega (arith, long); covers = Covers-join_left row news.1 }
    go false = outgrows_self row

-- so it does behind more entries
told_more : (j : ℕ) (row : List ℕ) (later : List Entry) → Outgrows (fold (λ row (entry : Entry). taught j row (taught_in entry.ask entry.say)) row later) row
told_more j row [] = outgrows_self row
told_more j row (entry ∷ later) =
    let next = taught_grows j row (taught_in entry.ask entry.say) in
    let rest = told_more j (taught j row (taught_in entry.ask entry.say)) later in
    record { wide = omega (arith, next.wide, rest.wide); covers = Covers_trans _ _ _ rest.covers next.covers }

told_grows : (n j : ℕ) (trail later : List Entry) → Outgrows (told n j (trail ++ later)) (told n j trail)
told_grows n j trail later = subst (λ row. Outgrows row (told n j trail)) (sym (fold-append (λ row (entry : Entry). taught j row (taught_in entry.ask entry.say)) (zeros n) trail later)) (told_more j (told n j trail) later)

-- a centre has what it had
vector_grows : (n : ℕ) (trail later : List Entry) → Covers (vector n (applied n (trail ++ later))) (vector n (applied n trail))
vector_grows n trail later =
    let long = length-append trail later in
    let all = take_all (length (trail ++ later)) (trail ++ later) (omega arith) in
    let covers = later_covers n (trail ++ later) (length trail) (length (trail ++ later)) (omega (arith, long)) in
    subst (λ X. Covers (vector n (applied n (trail ++ later))) (vector n (applied n X))) (take-append_seam trail later)
    (subst (λ X. Covers (vector n (applied n X)) (vector n (applied n (take (length trail) (trail ++ later))))) all covers)

-- the row of a centre
abbrev row_of : Settings → List Entry → ℕ → List ℕ
row_of s trail j = cond (j == s.me) (vector s.n (applied s.n trail)) (told s.n j trail)

row_grows : (s : Settings) (trail later : List Entry) (j : ℕ) → Outgrows (row_of s (trail ++ later) j) (row_of s trail j)
row_grows s trail later j = go (j == s.me)
  where
    go : (own : Bool) → Outgrows (cond own (vector s.n (applied s.n (trail ++ later))) (told s.n j (trail ++ later))) (cond own (vector s.n (applied s.n trail)) (told s.n j trail))
    go true = record {
      wide =
          let old = length-tabulate s.n (λ e. count e (applied s.n trail)) in
          let new = length-tabulate s.n (λ e. count e (applied s.n (trail ++ later))) in
          omega (arith, old, new);
      covers = vector_grows s.n trail later;
    }
    go false = told_grows s.n j trail later

-- ---- the K-th largest of all rows

-- greater numbers reach what lesser ones do
reach_grows : {X : Type 0} (f g : X → ℕ) (m : ℕ) (xs : List X) → ((x : X) → f x ≤ g x) → reach m (map f xs) ≤ reach m (map g xs)
reach_grows {X} f g m xs le =
    let old = count_by-map (λ y. nat_le m y) f xs in
    let new = count_by-map (λ y. nat_le m y) g xs in
    let more = count_by_grows (λ x. nat_le m (f x)) (λ x. nat_le m (g x)) xs (λ x i is. let low = leb-true m (f x) is in let high = le x in le-leb m (g x) (omega (arith, low, high))) in
    omega (arith, old, new, more)

-- the K-th largest of greater numbers is no less
kth_grows : {X : Type 0} (f g : X → ℕ) (k : ℕ) (xs : List X) → ((x : X) → f x ≤ g x) → kth_of k (map f xs) ≤ kth_of k (map g xs)
kth_grows {X} f g k xs le = ⊎_elim (λ none. omega (arith, none)) (λ some. go k some) (cases_lt (kth_of k (map f xs)) 1)
  where
    go : (k : ℕ) → 1 ≤ kth_of k (map f xs) → kth_of k (map f xs) ≤ kth_of k (map g xs)
    go zero some =
        let m = In_from_map f xs (kth_of zero (map f xs)) (kth_of_in zero (map f xs) some) in
        let passes : nat_le 0 (reach (g m.0) (map g xs)) ≡ true = le-leb 0 (reach (g m.0) (map g xs)) (omega arith) in
        let there = In_filter (λ (x : ℕ). nat_le 0 (reach x (map g xs))) (map g xs) (g m.0) (In_map g xs m.0 m.1) passes in
        let below = In-most (filter (λ (x : ℕ). nat_le 0 (reach x (map g xs))) (map g xs)) (g m.0) there in
        let high = le m.0 in
        omega (arith, m.2, below, high)
    go (suc k) some =
        let low = kth_of_reached_some (suc k) (kth_of (suc k) (map f xs)) (map f xs) some (omega arith) in
        let more = reach_grows f g (kth_of (suc k) (map f xs)) xs le in
        reached_kth_of (suc k) (kth_of (suc k) (map f xs)) (map g xs) (omega arith) (omega (arith, low, more))

-- the first of wider rows is wider
width_grows : (r q : ℕ → List ℕ) (js : List ℕ) → ((j : ℕ) → length (r j) ≤ length (q j)) → width_of (map r js) ≤ width_of (map q js)
width_grows r q [] le = omega arith
width_grows r q (j ∷ js) le = le j

-- the K-th largest of rows that outgrow others covers theirs
kth_largest_grows : (k : ℕ) (r q : ℕ → List ℕ) (js : List ℕ) → ((j : ℕ) → Outgrows (q j) (r j)) → Covers (kth_largest k (map q js)) (kth_largest k (map r js))
kth_largest_grows k r q js grows = record { holds = entry }
  where
    old : ℕ
    old = width_of (map r js)

    new : ℕ
    new = width_of (map q js)

    wide : old ≤ new
    wide = width_grows r q js (λ j. (grows j).wide)

    number : (e : ℕ) → kth_of k (column e (map r js)) ≤ kth_of k (column e (map q js))
    number e =
        let less = ap (kth_of k) (map-map (λ (row : List ℕ). at row e) r js) in
        let more = ap (kth_of k) (map-map (λ (row : List ℕ). at row e) q js) in
        let between = kth_grows (λ j. at (r j) e) (λ j. at (q j) e) k js (λ j. (grows j).covers.holds e) in
        omega (arith, less, more, between)

    entry : (e : ℕ) → at (kth_largest k (map r js)) e ≤ at (kth_largest k (map q js)) e
    entry zero = omega arith
    entry (suc e) = ⊎_elim
        (λ past. let none = at-tabulate_past old (suc e) (λ e. kth_of k (column e (map r js))) past in omega (arith, none))
        (λ inner.
        let less = at-tabulate old (suc e) (λ e. kth_of k (column e (map r js))) (omega arith) inner in
        let more = at-tabulate new (suc e) (λ e. kth_of k (column e (map q js))) (omega arith) (omega (arith, inner, wide)) in
        omega (arith, less, more, number (suc e)))
        (cases_lt old (suc e))

-- ---- what is stable

-- what is stable stays so
pub stable_grows : (s : Settings) (trail later : List Entry) → Covers (stable s (trail ++ later)) (stable s trail)
stable_grows s trail later = record { holds = entry }
  where
    entry : (e : ℕ) → at (stable s trail) e ≤ at (stable s (trail ++ later)) e
    entry e =
        let less = at-meet_of (kth_largest s.k (rows s trail)) (vector s.n (applied s.n trail)) e in
        let more = at-meet_of (kth_largest s.k (rows s (trail ++ later))) (vector s.n (applied s.n (trail ++ later))) e in
        let kth = (kth_largest_grows s.k (row_of s trail) (row_of s (trail ++ later)) (centres s.n) (row_grows s trail later)).holds e in
        let own = (vector_grows s.n trail later).holds e in
        omega (arith, less, more, kth, own)

-- ---- base and mark

-- the mark covers the base, and what is stable after the trail covers the mark
pub record AreStaged (s : Settings) (trail : List Entry) (h : Horizon) : Type 0 where
  pub mark : Covers (stable s trail) h.mark
  pub base : Covers h.mark h.base

-- so it is behind one more entry
staged_more : (s : Settings) (trail : List Entry) (h : Horizon) (entry : Entry) → AreStaged s trail h → AreStaged s (trail ++ entry ∷ []) (horizon_after s trail h entry.ask entry.say)
staged_more s trail h entry staged = go entry.ask entry.say
  where
    go : (ask : Ask) (say : Say) → AreStaged s (trail ++ entry ∷ []) (horizon_after s trail h ask say)
    go Prune (Base vector folded trimmed) = record { mark = stable_grows s trail (entry ∷ []); base = staged.mark }
    go _ _ = record { mark = Covers_trans _ _ _ (stable_grows s trail (entry ∷ [])) staged.mark; base = staged.base }

-- every vector covers the vector 0
pub covers_zeros : (v : List ℕ) (n : ℕ) → Covers v (zeros n)
covers_zeros v n = record { holds = λ e. omega (arith, at-zeros n e) }

-- and after every trail
pub staged : (s : Settings) (trail : List Entry) → AreStaged s trail (horizon s trail)
staged s trail = by_steps (λ X. AreStaged s X (horizon s X)) trail
    (record { mark = covers_zeros (stable s []) s.n; base = covers_zeros (zeros s.n) s.n })
    (λ p entry there h. subst (AreStaged s (take p trail ++ entry ∷ [])) (sym (horizon_more s (take p trail) entry)) (staged_more s (take p trail) (horizon s (take p trail)) entry h))

-- one more entry leaves a base that covers the one before it
base_more : (s : Settings) (trail : List Entry) (entry : Entry) → Covers (horizon s (trail ++ entry ∷ [])).base (horizon s trail).base
base_more s trail entry = subst (λ (h : Horizon). Covers h.base (horizon s trail).base) (sym (horizon_more s trail entry)) (go entry.ask entry.say)
  where
    go : (ask : Ask) (say : Say) → Covers (horizon_after s trail (horizon s trail) ask say).base (horizon s trail).base
    go Prune (Base vector folded trimmed) = (staged s trail).base
    go _ _ = Covers_refl (horizon s trail).base

-- so do more entries
base_grows : (s : Settings) (trail later : List Entry) → Covers (horizon s (trail ++ later)).base (horizon s trail).base
base_grows s trail [] = subst (λ X. Covers (horizon s X).base (horizon s trail).base) (sym (append-nil trail)) (Covers_refl (horizon s trail).base)
base_grows s trail (entry ∷ later) = Covers_trans _ _ _
    (subst (λ X. Covers (horizon s X).base (horizon s (trail ++ entry ∷ [])).base) (append_assoc trail (entry ∷ []) later) (base_grows s (trail ++ entry ∷ []) later))
    (base_more s trail entry)

-- the base at a later moment covers that at an earlier one
pub base_rises : (s : Settings) (trail : List Entry) (p q : ℕ) → p ≤ q → Covers (horizon s (take q trail)).base (horizon s (take p trail)).base
base_rises s trail p q le =
    let whole = take-append-drop p (take q trail) in
    let front = take-take p q trail le in
    subst (λ X. Covers (horizon s (take q trail)).base (horizon s X).base) front (subst (λ X. Covers (horizon s X).base (horizon s (take p (take q trail))).base) whole (base_grows s (take p (take q trail)) (drop p (take q trail))))

-- what is stable covers the base
pub base_stable : (s : Settings) (trail : List Entry) → Covers (stable s trail) (horizon s trail).base
base_stable s trail = Covers_trans _ _ _ (staged s trail).mark (staged s trail).base

-- and what it covers, the centre has
pub stable_held : (s : Settings) (trail : List Entry) (v : List ℕ) → Covers (stable s trail) v → Covers (vector s.n (applied s.n trail)) v
stable_held s trail v covers = Covers_trans _ _ _ (Covers-meet_right (kth_largest s.k (rows s trail)) (vector s.n (applied s.n trail))) covers
