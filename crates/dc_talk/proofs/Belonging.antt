-- Each answer of a centre belongs to its ask.
use Rattle.std.proofs.Common.{◌≡◌, Bool, true, false, ◌&&◌, not, cond, List, refl}
use Rattle.list_core.proofs.Choices.{when_holds}
use Rattle.dc_talk.specs.declared.ask.Ask.{Ask}
use Rattle.dc_talk.specs.declared.ask.Ask.TheVariants.{Hello, Refresh, Fetch, Delta, Commit, Send, Deliver, Relay, Report, Learn, Prune, Stop, Start}
use Rattle.dc_talk.specs.declared.say.Say.{Say}
use Rattle.dc_talk.specs.declared.say.Say.TheVariants.{Misfit, Down, Lacks, Waits}
use Rattle.dc_talk.specs.declared.settings.Settings.{Settings}
use Rattle.vv_core.specs.Vectors.{at}
use Rattle.dc_talk.specs.Entries.{Entry}
use Rattle.dc_talk.specs.Records.{count, vector, guard}
use Rattle.dc_talk.specs.Trails.{applied, horizon, stopped}
use Rattle.dc_talk.specs.Answers.{fits, row, is_switch, answer}
use Rattle.dc_talk.specs.Doors.{belongs}
use Rattle.dc_talk.proofs.Answers.{lack_holds, unless_lacking, fetch_holds, delta_holds, commit_holds, send_holds, deliver_holds}

-- the answer of a running centre to an ask that fits belongs to it
row_belongs : (s : Settings) (trail : List Entry) (ask : Ask) → belongs ask (row s trail ask) ≡ true
row_belongs s trail (Hello client need) = unless_lacking (λ say. belongs (Hello client need) say ≡ true) (vector s.n (applied s.n trail)) need _ (λ c m h. refl) (λ covered. refl)
row_belongs s trail (Refresh client here) = unless_lacking (λ say. belongs (Refresh client here) say ≡ true) (vector s.n (applied s.n trail)) here _ (λ c m h. refl) (λ covered. refl)
row_belongs s trail (Fetch object here) = fetch_holds (λ say. belongs (Fetch object here) say ≡ true) (vector s.n (applied s.n trail)) (horizon s trail).base _ here (λ c m h. refl) (λ c m h. refl) (λ covered kept. refl)
row_belongs s trail (Delta object from here) = delta_holds (λ say. belongs (Delta object from here) say ≡ true) (vector s.n (applied s.n trail)) (horizon s trail).base _ _ from here (λ c m h. refl) (λ c m h. refl) (λ covered kept. refl) (λ covered kept. refl)
row_belongs s trail (Commit tx) = commit_holds (λ say. belongs (Commit tx) say ≡ true) s (vector s.n (applied s.n trail)) (guard tx.dot.client (applied s.n trail)) (count s.me (applied s.n trail)) tx
    (when_holds _ _ _ (λ t. refl), λ z. (when_holds _ _ _ (λ t. refl), λ z. (lack_holds _ Lacks (λ c m h. refl) (vector s.n (applied s.n trail)) tx.snap, λ z. (when_holds _ _ _ (λ t. refl), λ z. refl))))
row_belongs s trail (Send after most) = send_holds (λ say. belongs (Send after most) say ≡ true) (at (horizon s trail).trimmed s.me) _ after refl refl
row_belongs s trail (Deliver item hops) = deliver_holds (λ say. belongs (Deliver item hops) say ≡ true) s (vector s.n (applied s.n trail)) (count item.stamp.centre (applied s.n trail)) (guard item.tx.dot.client (applied s.n trail)) item
    (when_holds _ _ _ (λ t. refl), λ z. (when_holds _ _ _ (λ t. refl), λ z. (lack_holds _ Waits (λ c m h. refl) (vector s.n (applied s.n trail)) item.deps, λ z. (when_holds _ _ _ (λ t. refl), λ z. refl))))
row_belongs s trail (Relay origin after most) = send_holds (λ say. belongs (Relay origin after most) say ≡ true) (at (horizon s trail).trimmed origin) _ after refl refl
row_belongs s trail Report = refl
row_belongs s trail (Learn from news) = refl
row_belongs s trail Prune = refl
row_belongs s trail Stop = refl
row_belongs s trail Start = refl

-- a misfit belongs to every ask
misfit_belongs : (ask : Ask) → belongs ask Misfit ≡ true
misfit_belongs _ = refl

-- so does the answer of a stopped centre
pub down_belongs : (ask : Ask) → belongs ask Down ≡ true
down_belongs _ = refl

-- of two answers that belong to an ask, so does the one that a test allows
one_belongs : (ask : Ask) (x y : Say) (test : Bool) → belongs ask x ≡ true → belongs ask y ≡ true → belongs ask (cond test x y) ≡ true
one_belongs ask x y true first second = first
one_belongs ask x y false first second = second

-- each answer of a centre, over whatever trail, belongs to its ask
pub answer_belongs : (s : Settings) (trail : List Entry) (ask : Ask) → belongs ask (answer s trail ask) ≡ true
unfolding answer
answer_belongs s trail ask =
    one_belongs ask (cond (stopped trail && not (is_switch ask)) Down (row s trail ask)) Misfit (fits s.n ask)
    (one_belongs ask Down (row s trail ask) (stopped trail && not (is_switch ask)) (down_belongs ask) (row_belongs s trail ask))
    (misfit_belongs ask)
