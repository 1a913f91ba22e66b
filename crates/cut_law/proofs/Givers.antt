-- What holds of the parts of a donor after its trail.
use Rattle.std.proofs.Common.{◌≡◌, ◌≤◌, ℕ, Bool, true, false, cond, List, [], ◌∷◌, ◌++◌, length, take, Some, sym, ◌∙◌, subst, arith}
use Rattle.std.specs.Prelude.{◌==◌, ◌&&◌, slice_get}
use Rattle.std.proofs.lemmas.Bool.{and_parts, eqb-true}
use Rattle.list_core.specs.Moments.{Each}
use Rattle.list_core.proofs.Moments.{by_moments, by_prefixes}
use Rattle.vv_core.specs.Vectors.{zeros, join_of, kth_largest}
use Rattle.vv_core.proofs.Covering.{Covers_refl}
use Rattle.vv_core.proofs.Entrywise.{at-zeros, length-tabulate, length-zeros, length-join_of, length-meet_of, length-kth_largest, width_of-rows}
use Rattle.tx_core.specs.Checks.{is_within}
use Rattle.join_bundle.specs.Conditions.{IsCentre}
use Rattle.dc_talk.specs.declared.ask.Ask.{Ask}
use Rattle.dc_talk.specs.declared.ask.Ask.TheVariants.{Learn, Prune}
use Rattle.dc_talk.specs.declared.say.Say.{Say}
use Rattle.dc_talk.specs.declared.say.Say.TheVariants.{Learned, Base}
use Rattle.dc_talk.specs.declared.settings.Settings.{Settings}
use Rattle.dc_talk.specs.Entries.{Entry}
use Rattle.dc_talk.specs.Records.{count, vector}
use Rattle.dc_talk.specs.Trails.{taught}
use Rattle.dc_talk.specs.Answers.{are_modest}
use Rattle.dc_talk.specs.Laws.{IsCentreHistory, IsInOrder}
use Rattle.dc_talk.proofs.Applied.{in_order}
use Rattle.cut_law.specs.Parts.{Parts, list, rows_over, stable_over, answer_over, parts_then, parts_of}
use Rattle.cut_law.proofs.Trails.{answer_parts, parts_more}
use Rattle.cut_law.proofs.Timely.{IsTimely, timely_then}
use Rattle.cut_law.proofs.Steps.{running}

-- rows, base and mark have an entry for each centre
pub record IsEven (n : ℕ) (P : Parts) : Type 0 where
  pub rows : (j : ℕ) → length (P.told j) ≡ n
  pub base : length P.horizon.base ≡ n
  pub mark : length P.horizon.mark ≡ n

-- a row keeps its width as more is taught
taught_even : (n j : ℕ) (row : List ℕ) (from : ℕ) (news : List ℕ) → length row ≡ n → length news ≡ n → length (taught j row (Some (from, news))) ≡ n
taught_even n j row from news old new = go (from == j)
  where
    go : (b : Bool) → length (cond b (join_of row news) row) ≡ n
    go true = let both = length-join_of row news in omega (arith, both, old, new)
    go false = old

module _ (s : Settings) (P : Parts) (centre : IsCentre s.n s.me) (h : IsEven s.n P) where
  -- each row has an entry for each centre
  pub row_even : (j : ℕ) → length (cond (j == s.me) (vector s.n (list P)) (P.told j)) ≡ s.n
  row_even j = go (j == s.me)
    where
      go : (b : Bool) → length (cond b (vector s.n (list P)) (P.told j)) ≡ s.n
      go true = length-tabulate s.n (λ e. count e (list P))
      go false = h.rows j

  -- so has what is stable
  stable_even : length (stable_over s P) ≡ s.n
  stable_even =
      let low = centre.0 in
      let high = centre.1 in
      let meet = length-meet_of (kth_largest s.k (rows_over s P)) (vector s.n (list P)) in
      let kth = length-kth_largest s.k (rows_over s P) in
      let wide = width_of-rows (λ j. cond (j == s.me) (vector s.n (list P)) (P.told j)) s.n s.n (omega (arith, low, high)) row_even in
      let own = length-tabulate s.n (λ e. count e (list P)) in
      omega (arith, meet, kth, wide, own)

  -- an entry that has the answer leaves it so
  even_then : (ask : Ask) (say : Say) → say ≡ answer_over s P ask → IsEven s.n (parts_then s P ask say)
  even_then (Learn from news) (Learned fresh) says =
      let fit = (running s P (Learn from news) (Learned fresh) says (λ e. cc) (λ e. cc)).0 in
      let width = (and_parts (is_within 1 s.n from) (length news == s.n) (and_parts (is_within 1 s.n from && (length news == s.n)) (are_modest news) fit).0).1 in
      record { rows = λ j. taught_even s.n j (P.told j) from news (h.rows j) (eqb-true (length news) s.n width); base = h.base; mark = h.mark }
  even_then Prune (Base v folded trimmed) says = record { rows = h.rows; base = h.mark; mark = stable_even }
  even_then ask say says = record { rows = h.rows; base = h.base; mark = h.mark }

-- a centre with these parts is one of the centres, has its records in order, and gives in time what is even
pub record IsGiver (s : Settings) (P : Parts) : Type 0 where
  pub centre : IsCentre s.n s.me
  pub order : Each (IsInOrder s) (list P)
  pub timely : IsTimely s P
  pub even : IsEven s.n P

module _ (s : Settings) (trail : List Entry) (history : IsCentreHistory s trail) (known : 1 ≤ s.k) where
  -- at first nothing is folded
  timely_first : IsTimely s (parts_of s [])
  timely_first = record {
    wide = let long = length-zeros s.n in omega (arith, long);
    ahead = Covers_refl (zeros s.n);
    marked = λ e. let none = at-zeros s.n e in omega (arith, none);
    steady = record { holds = λ e. let none = at-zeros s.n e in omega (arith, none) };
  }

  even_first : IsEven s.n (parts_of s [])
  even_first = record { rows = λ j. length-zeros s.n; base = length-zeros s.n; mark = length-zeros s.n }

  both_at : (p : ℕ) → IsTimely s (parts_of s (take p trail)) × IsEven s.n (parts_of s (take p trail))
  both_at = by_moments (λ X. IsTimely s (parts_of s X) × IsEven s.n (parts_of s X)) trail (timely_first, even_first) step
    where
      step : (p : ℕ) (e : Entry) → slice_get trail p ≡ Some e → IsTimely s (parts_of s (take p trail)) × IsEven s.n (parts_of s (take p trail)) → IsTimely s (parts_of s (take p trail ++ e ∷ [])) × IsEven s.n (parts_of s (take p trail ++ e ∷ []))
      step p e there h = subst (λ (P : Parts). IsTimely s P × IsEven s.n P) (sym (parts_more s (take p trail) e))
          (timely_then s (parts_of s (take p trail)) known h.0 e.ask e.say, even_then s (parts_of s (take p trail)) history.centre h.1 e.ask e.say (history.history.holds p e there ∙ answer_parts s (take p trail) e.ask))

  -- so it is in the end
  pub giver_of : IsGiver s (parts_of s trail)
  giver_of =
      let both = by_prefixes (λ X. IsTimely s (parts_of s X) × IsEven s.n (parts_of s X)) trail both_at in
      record { centre = history.centre; order = in_order s trail history; timely = both.0; even = both.1 }
