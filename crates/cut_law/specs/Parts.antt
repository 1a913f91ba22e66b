-- The answer of a centre by the parts that it depends on, which one entry after another moves on. Where the parts are
-- those of a trail this is the answer after that trail; a centre that joined goes on from other parts.
use Rattle.std.specs.Prelude.{◌≡◌, ℕ, Bool, ◌&&◌, not, cond, ◌==◌, map, fold, List}
use Rattle.std.specs.Option.{unwrap_or}
use Rattle.list_core.specs.Moments.{Each}
use Rattle.vv_core.specs.Vectors.{at, centres, tabulate, column, least, join_of, meet_of, kth_largest}
use Rattle.tx_core.specs.declared.tx.Record.{Record}
use Rattle.dc_talk.specs.declared.ask.Ask.{Ask}
use Rattle.dc_talk.specs.declared.ask.Ask.TheVariants.{Hello, Refresh, Fetch, Delta, Commit, Send, Deliver, Relay, Report, Learn, Prune, Stop, Start}
use Rattle.dc_talk.specs.declared.say.Say.{Say}
use Rattle.dc_talk.specs.declared.say.Say.TheVariants.{Misfit, Down, Vector, Learned, Base, Stopped, Started}
use Rattle.dc_talk.specs.declared.sent.Sent.{Sent}
use Rattle.dc_talk.specs.declared.settings.Settings.{Settings}
use Rattle.dc_talk.specs.Entries.{Entry}
use Rattle.dc_talk.specs.Records.{count, vector, guard}
use Rattle.dc_talk.specs.Sents.{items}
use Rattle.dc_talk.specs.Objects.{state_at, ops_since}
use Rattle.dc_talk.specs.Trails.{Horizon, carried, carried_on, told, taught, taught_in, horizon, stopped, switched_in}
use Rattle.dc_talk.specs.Answers.{fits, is_switch, hello_answer, refresh_answer, fetch_answer, told_of, delta_answer, commit_answer, send_answer, deliver_answer, snap_at, part_of, count_inside, tells}

-- what the answers of a centre depend on: the records that it applied, with their hops, what it was told of each centre,
-- how far it has pruned, and whether it is stopped
pub record Parts : Type 0 where
  pub carried : List Sent
  pub told : ℕ → List ℕ
  pub horizon : Horizon
  pub stopped : Bool

-- the records that it applied, without their hops
abbrev pub list : Parts → List Record
list P = items P.carried

-- what it knows each centre to have: its own vector, and the told rows of the others
abbrev pub rows_over : Settings → Parts → List (List ℕ)
rows_over s P = map (λ j. cond (j == s.me) (vector s.n (list P)) (P.told j)) (centres s.n)

-- the stable vector: what at least k centres are known to have, and this centre has
abbrev pub stable_over : Settings → Parts → List ℕ
stable_over s P = meet_of (kth_largest s.k (rows_over s P)) (vector s.n (list P))

-- the all-known vector: what every centre is known to have
abbrev pub all_known_over : Settings → Parts → List ℕ
all_known_over s P = tabulate s.n (λ e. least (column e (rows_over s P)))

-- the next horizon
abbrev pub pruned_over : Settings → Parts → Horizon
pruned_over s P = record { base = P.horizon.mark; mark = stable_over s P; trimmed = join_of P.horizon.trimmed (all_known_over s P) }

-- to an ask that fits, of a running centre
abbrev pub row_over : Settings → Parts → Ask → Say
row_over s P (Hello client need) = hello_answer (vector s.n (list P)) (guard client (list P)) need
row_over s P (Refresh client here) = refresh_answer (vector s.n (list P)) (snap_at (list P) client (join_of here (stable_over s P))) here
row_over s P (Fetch object here) = fetch_answer (vector s.n (list P)) P.horizon.base (state_at object (list P) here) here
row_over s P (Delta object from here) = delta_answer (vector s.n (list P)) P.horizon.base (told_of (ops_since object (list P) from here) (state_at object (list P) here)) from here
row_over s P (Commit tx) = commit_answer s (vector s.n (list P)) (guard tx.dot.client (list P)) (count s.me (list P)) tx
row_over s P (Send after most) = send_answer (at P.horizon.trimmed s.me) (part_of s.me P.carried after most) after
row_over s P (Deliver item hops) = deliver_answer s (vector s.n (list P)) (count item.stamp.centre (list P)) (guard item.tx.dot.client (list P)) item
row_over s P (Relay origin after most) = send_answer (at P.horizon.trimmed origin) (part_of origin P.carried after most) after
row_over s P Report = Vector (vector s.n (list P))
row_over s P (Learn from news) = Learned (tells s.me (P.told from) from news)
row_over s P Prune = Base P.horizon.mark (count_inside (list P) P.horizon.mark) (at (pruned_over s P).trimmed s.me)
row_over s P Stop = Stopped
row_over s P Start = Started

-- the answer of a centre with these parts
abbrev pub answer_over : Settings → Parts → Ask → Say
answer_over s P ask = cond (fits s.n ask) (cond (P.stopped && not (is_switch ask)) Down (row_over s P ask)) Misfit

-- how far it has pruned after an ask that was answered so
abbrev pub horizon_then : Settings → Parts → Ask → Say → Horizon
horizon_then s P Prune (Base vector folded trimmed) = pruned_over s P
horizon_then s P _ _ = P.horizon

-- the parts after an ask that was answered so
abbrev pub parts_then : Settings → Parts → Ask → Say → Parts
parts_then s P ask say = record {
  carried = carried_on s.n P.carried ask say;
  told = λ j. taught j (P.told j) (taught_in ask say);
  horizon = horizon_then s P ask say;
  stopped = unwrap_or (switched_in ask say) P.stopped;
}

-- the parts after more entries
abbrev pub parts_past : Settings → Parts → List Entry → Parts
parts_past s P later = fold (λ (P : Parts) (entry : Entry). parts_then s P entry.ask entry.say) P later

-- the parts of a centre after a trail
abbrev pub parts_of : Settings → List Entry → Parts
parts_of s trail = record { carried = carried s.n trail; told = λ j. told s.n j trail; horizon = horizon s trail; stopped = stopped trail }

-- a history of a centre that goes on from these parts: each answer is that over the parts before it
abbrev pub GoesOn : Settings → Parts → List Entry → Type 0
GoesOn s P later = Each (λ before (entry : Entry). entry.say ≡ answer_over s (parts_past s P before) entry.ask) later
