-- The answer after a trail is that over the trail's parts.
use Rattle.std.proofs.Common.{◌≡◌, cond, false, List, [], ◌∷◌, ◌++◌, refl, sym, ap, ◌∙◌, append_assoc, append-nil}
use Rattle.std.specs.Prelude.{not, ◌&&◌}
use Rattle.std.specs.Option.{unwrap_or}
use Rattle.std.proofs.lemmas.List.Sums.{fold_push}
use Rattle.vv_core.specs.Vectors.{zeros}
use Rattle.dc_talk.specs.declared.ask.Ask.{Ask}
use Rattle.dc_talk.specs.declared.ask.Ask.TheVariants.{Hello, Refresh, Fetch, Delta, Commit, Send, Deliver, Relay, Report, Learn, Prune, Stop, Start}
use Rattle.dc_talk.specs.declared.say.Say.{Say}
use Rattle.dc_talk.specs.declared.say.Say.TheVariants.{Misfit, Down, Base}
use Rattle.dc_talk.specs.declared.settings.Settings.{Settings}
use Rattle.dc_talk.specs.Entries.{Entry}
use Rattle.dc_talk.specs.Trails.{taught, taught_in, switched_in, horizon, horizon_after, stopped}
use Rattle.dc_talk.specs.Answers.{fits, is_switch, row, answer}
use Rattle.dc_talk.proofs.Growth.{carried_push}
use Rattle.dc_talk.proofs.Horizons.{horizon_more}
use Rattle.cut_law.specs.Parts.{Parts, row_over, answer_over, horizon_then, parts_then, parts_past, parts_of}

-- to an ask that fits, of a running centre
row_parts : (s : Settings) (trail : List Entry) (ask : Ask) → row s trail ask ≡ row_over s (parts_of s trail) ask
row_parts s trail (Hello client need) = refl
row_parts s trail (Refresh client here) = refl
row_parts s trail (Fetch object here) = refl
row_parts s trail (Delta object from here) = refl
row_parts s trail (Commit tx) = refl
row_parts s trail (Send after most) = refl
row_parts s trail (Deliver item hops) = refl
row_parts s trail (Relay origin after most) = refl
row_parts s trail Report = refl
row_parts s trail (Learn from news) = refl
row_parts s trail Prune = refl
row_parts s trail Stop = refl
row_parts s trail Start = refl

-- to each ask
pub answer_parts : (s : Settings) (trail : List Entry) (ask : Ask) → answer s trail ask ≡ answer_over s (parts_of s trail) ask
unfolding answer
answer_parts s trail ask = ap (λ say. cond (fits s.n ask) (cond (stopped trail && not (is_switch ask)) Down say) Misfit) (row_parts s trail ask)

-- one entry moves the horizon on by the parts before it
horizon_parts : (s : Settings) (trail : List Entry) (ask : Ask) (say : Say) → horizon_after s trail (horizon s trail) ask say ≡ horizon_then s (parts_of s trail) ask say
horizon_parts s trail Prune (Base vector folded trimmed) = refl
horizon_parts s trail _ _ = refl

-- with one entry more the parts move on
pub parts_more : (s : Settings) (trail : List Entry) (e : Entry) → parts_of s (trail ++ e ∷ []) ≡ parts_then s (parts_of s trail) e.ask e.say
parts_more s trail e = λ i. record {
  carried = carried_push s.n trail e i;
  told = λ j. fold_push (λ row (entry : Entry). taught j row (taught_in entry.ask entry.say)) (zeros s.n) trail e i;
  horizon = (horizon_more s trail e ∙ horizon_parts s trail e.ask e.say) i;
  stopped = fold_push (λ down (entry : Entry). unwrap_or (switched_in entry.ask entry.say) down) false trail e i;
}

pub past_more : (s : Settings) (P : Parts) (later : List Entry) (e : Entry) → parts_past s P (later ++ e ∷ []) ≡ parts_then s (parts_past s P later) e.ask e.say
past_more s P later e = fold_push (λ (P : Parts) (entry : Entry). parts_then s P entry.ask entry.say) P later e

-- so do they with several
pub parts_later : (s : Settings) (trail later : List Entry) → parts_of s (trail ++ later) ≡ parts_past s (parts_of s trail) later
parts_later s trail [] = ap (parts_of s) (append-nil trail)
parts_later s trail (e ∷ later) =
    ap (parts_of s) (sym (append_assoc trail (e ∷ []) later))
    ∙ (parts_later s (trail ++ e ∷ []) later
    ∙ ap (λ (P : Parts). parts_past s P later) (parts_more s trail e))

-- the answer after a trail and more entries
pub answer_later : (s : Settings) (trail later : List Entry) (ask : Ask) → answer s (trail ++ later) ask ≡ answer_over s (parts_past s (parts_of s trail) later) ask
answer_later s trail later ask = answer_parts s (trail ++ later) ask ∙ ap (λ (P : Parts). answer_over s P ask) (parts_later s trail later)
