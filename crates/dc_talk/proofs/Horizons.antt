-- How far a centre has pruned, entry by entry and at each moment.
use Rattle.std.proofs.Common.{◌≡◌, ◌≤◌, ℕ, ◌⊎◌, inl, inr, ⊎_elim, List, [], ◌∷◌, ◌++◌, take, Some, sym, ap, ◌∙◌, subst, arith}
use Rattle.std.specs.Prelude.{slice_get}
use Rattle.std.proofs.lemmas.Bool.{cases_lt}
use Rattle.std.proofs.lemmas.List.{append-nil, append_assoc}
use Rattle.list_core.specs.Members.{In}
use Rattle.list_core.proofs.Members.{In_map}
use Rattle.list_core.proofs.Moments.{by_moments}
use Rattle.vv_core.specs.Vectors.{at, column, least}
use Rattle.vv_core.proofs.Entrywise.{at-tabulate_le, at-join_of}
use Rattle.vv_core.proofs.Least.{least_below}
use Rattle.dc_talk.specs.declared.ask.Ask.{Ask}
use Rattle.dc_talk.specs.declared.ask.Ask.TheVariants.{Prune}
use Rattle.dc_talk.specs.declared.say.Say.{Say}
use Rattle.dc_talk.specs.declared.say.Say.TheVariants.{Base}
use Rattle.dc_talk.specs.declared.settings.Settings.{Settings}
use Rattle.dc_talk.specs.Entries.{Entry}
use Rattle.dc_talk.specs.Trails.{rows, all_known, Horizon, horizon_at_first, pruned, horizon_after, horizon_past, horizon}

-- past more entries, the last one comes last
pub horizon_past_more : (s : Settings) (trail : List Entry) (h : Horizon) (later : List Entry) (e : Entry)
    → horizon_past s trail h (later ++ e ∷ []) ≡ horizon_after s (trail ++ later) (horizon_past s trail h later) e.ask e.say
horizon_past_more s trail h [] e = ap (λ l. horizon_after s l h e.ask e.say) (sym (append-nil trail))
horizon_past_more s trail h (x ∷ later) e =
    horizon_past_more s (trail ++ x ∷ []) (horizon_after s trail h x.ask x.say) later e
    ∙ ap (λ l. horizon_after s l (horizon_past s (trail ++ x ∷ []) (horizon_after s trail h x.ask x.say) later) e.ask e.say) (append_assoc trail (x ∷ []) later)

-- the horizon after one more entry is the one before it, moved by that entry
pub horizon_more : (s : Settings) (trail : List Entry) (e : Entry) → horizon s (trail ++ e ∷ []) ≡ horizon_after s trail (horizon s trail) e.ask e.say
horizon_more s trail e = horizon_past_more s [] (horizon_at_first s.n) trail e

-- what holds of the first horizon, and still holds of the next one at a moment of the trail, holds at each moment
pub by_prunes : (s : Settings) (trail : List Entry) (Q : Horizon → Type 0) → Q (horizon_at_first s.n) → ((p : ℕ) → Q (horizon s (take p trail)) → Q (pruned s (take p trail) (horizon s (take p trail)))) → (p : ℕ) → Q (horizon s (take p trail))
by_prunes s trail Q first next = by_moments (λ X. Q (horizon s X)) trail first step
  where
    step : (p : ℕ) (entry : Entry) → slice_get trail p ≡ Some entry → Q (horizon s (take p trail)) → Q (horizon s (take p trail ++ entry ∷ []))
    step p entry there h = subst Q (sym (horizon_more s (take p trail) entry)) (go entry.ask entry.say)
      where
        go : (ask : Ask) (say : Say) → Q (horizon_after s (take p trail) (horizon s (take p trail)) ask say)
        go Prune (Base vector folded trimmed) = next p h
        go _ _ = h

-- what a prune lets go was let go before, or every centre is known to have it
pub let_go_either : (s : Settings) (trail : List Entry) (h : Horizon) (e number : ℕ) → number ≤ at (pruned s trail h).trimmed e → (number ≤ at h.trimmed e) ⊎ (number ≤ at (all_known s trail) e)
let_go_either s trail h e number le = ⊎_elim
    (λ less. inr (let joined = at-join_of h.trimmed (all_known s trail) e in omega (arith, joined, less, le)))
    (λ old. inl old)
    (cases_lt (at h.trimmed e) number)

-- what every centre is known to have, each row has
pub all_known_below : (s : Settings) (trail : List Entry) (e : ℕ) (row : List ℕ) → In row (rows s trail) → at (all_known s trail) e ≤ at row e
all_known_below s trail e row there =
    let R = rows s trail in
    omega (arith, at-tabulate_le s.n e (λ e. least (column e R)), least_below (column e R) (at row e) (In_map (λ (row : List ℕ). at row e) R row there))
