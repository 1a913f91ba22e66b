-- What a centre has after a trail: the list of the records that it applied, what the other centres told it, and how far
-- it has pruned.
use Rattle.std.specs.Prelude.{ℕ, ◌+◌, Bool, true, false, cond, ◌==◌, List, [], ◌∷◌, ◌++◌, map, fold, Option, Some, None}
use Rattle.std.specs.Option.{unwrap_or}
use Rattle.vv_core.specs.Vectors.{zeros, centres, tabulate, column, least, join_of, meet_of, kth_largest}
use Rattle.tx_core.specs.declared.tx.Record.{Record}
use Rattle.dc_talk.specs.declared.ask.Ask.{Ask}
use Rattle.dc_talk.specs.declared.ask.Ask.TheVariants.{Commit, Deliver, Learn, Prune, Stop, Start}
use Rattle.dc_talk.specs.declared.say.Say.{Say}
use Rattle.dc_talk.specs.declared.say.Say.TheVariants.{Stamped, Applied, Learned, Base, Stopped, Started}
use Rattle.dc_talk.specs.declared.sent.Sent.{Sent}
use Rattle.dc_talk.specs.declared.settings.Settings.{Settings}
use Rattle.dc_talk.specs.Entries.{Entry}
use Rattle.dc_talk.specs.Records.{vector, deps_of}
use Rattle.dc_talk.specs.Sents.{with_hops, items}

-- the vector that an ask taught, with the centre that it is of
abbrev pub taught_in : Ask → Say → Option (ℕ × List ℕ)
taught_in (Learn from news) (Learned fresh) = Some (from, news)
taught_in _ _ = None

-- whether the centre is stopped from then on, where an ask stopped or started it
abbrev pub switched_in : Ask → Say → Option Bool
switched_in Stop Stopped = Some true
switched_in Start Started = Some false
switched_in _ _ = None

-- the records A after one more ask that was answered so: with that of a transaction that got a stamp, or
-- with one that was delivered and applied
abbrev pub grown : ℕ → List Record → Ask → Say → List Record
grown n A (Commit tx) (Stamped stamp) = A ++ record { stamp = stamp; deps = deps_of n A tx; tx = tx } ∷ []
grown n A (Deliver item hops) (Applied fresh) = A ++ item ∷ []
grown n A _ _ = A

-- the records C with their hops after one more ask that was answered so: one that got a stamp has no hops, and one that
-- was delivered and applied has one more than its delivery
abbrev pub carried_on : ℕ → List Sent → Ask → Say → List Sent
carried_on n C (Commit tx) (Stamped stamp) = C ++ with_hops (record { stamp = stamp; deps = deps_of n (items C) tx; tx = tx }) 0 ∷ []
carried_on n C (Deliver item hops) (Applied fresh) = C ++ with_hops item (hops + 1) ∷ []
carried_on n C _ _ = C

-- the applied list of a trail, with hops: the records that its centre stamped and those that were delivered and
-- applied, in order
abbrev pub carried : ℕ → List Entry → List Sent
carried n trail = fold (λ C entry. carried_on n C entry.ask entry.say) [] trail

-- the applied list of a trail: these records without their hops
abbrev pub applied : ℕ → List Entry → List Record
applied n trail = items (carried n trail)

-- whether the centre is stopped: whether the last stop or start was a stop
abbrev pub stopped : List Entry → Bool
stopped trail = fold (λ down entry. unwrap_or (switched_in entry.ask entry.say) down) false trail

-- a row of the told table after a vector of centre e was taught
abbrev pub taught : ℕ → List ℕ → Option (ℕ × List ℕ) → List ℕ
taught j row None = row
taught j row (Some news) = cond (news.0 == j) (join_of row news.1) row

-- the told row of centre j: the join of all vectors learned from it
abbrev pub told : ℕ → ℕ → List Entry → List ℕ
told n j trail = fold (λ row entry. taught j row (taught_in entry.ask entry.say)) (zeros n) trail

-- what a centre knows each centre to have: its own vector, and the told rows of the others
abbrev pub rows : Settings → List Entry → List (List ℕ)
rows s trail = map (λ j. cond (j == s.me) (vector s.n (applied s.n trail)) (told s.n j trail)) (centres s.n)

-- the stable vector: what at least k centres are known to have, and this centre has
abbrev pub stable : Settings → List Entry → List ℕ
stable s trail = meet_of (kth_largest s.k (rows s trail)) (vector s.n (applied s.n trail))

-- the all-known vector: what every centre is known to have
abbrev pub all_known : Settings → List Entry → List ℕ
all_known s trail = tabulate s.n (λ e. least (column e (rows s trail)))

-- how far a centre has pruned: the vector up to which transactions are folded into states, the vector up to which the
-- next prune folds, and the vector up to which records were let go
pub record Horizon : Type 0 where
  pub base : List ℕ
  pub mark : List ℕ
  pub trimmed : List ℕ

-- nothing is folded or let go
abbrev pub horizon_at_first : ℕ → Horizon
horizon_at_first n = record { base = zeros n; mark = zeros n; trimmed = zeros n }

-- the next horizon, after a trail: the mark becomes the base, what is stable becomes the mark, and the records
-- that all centres are known to have are let go, beside those that were
abbrev pub pruned : Settings → List Entry → Horizon → Horizon
pruned s trail h = record { base = h.mark; mark = stable s trail; trimmed = join_of h.trimmed (all_known s trail) }

-- the horizon after one more ask behind the trail, that was answered so
abbrev pub horizon_after : Settings → List Entry → Horizon → Ask → Say → Horizon
horizon_after s trail h Prune (Base vector folded trimmed) = pruned s trail h
horizon_after s trail h _ _ = h

-- the horizon after more entries behind the trail
abbrev pub horizon_past : Settings → List Entry → Horizon → List Entry → Horizon
horizon_past s trail h [] = h
horizon_past s trail h (entry ∷ later) = horizon_past s (trail ++ entry ∷ []) (horizon_after s trail h entry.ask entry.say) later

-- the horizon after a trail
abbrev pub horizon : Settings → List Entry → Horizon
horizon s trail = horizon_past s [] (horizon_at_first s.n) trail
