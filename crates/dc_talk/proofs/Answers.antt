-- Which answers there are to each ask, and what holds of the answer.
use Rattle.std.proofs.Common.{◌≡◌, ℕ, ◌+◌, Bool, true, false, cond, ◌||◌, List, [], ◌∷◌, length, Option, Some, None, refl, sym, ap, ◌∙◌, subst}
use Rattle.std.specs.Prelude.{nat_le, not, ◌==◌, ◌&&◌}
use Rattle.std.specs.Option.{option_map}
use Rattle.std.proofs.lemmas.Bool.{false≢true}
use Rattle.std.proofs.lemmas.Option.{none-some, same_Some}
use Rattle.list_core.specs.Choices.{when, first_of}
use Rattle.list_core.proofs.Choices.{EachChoice, first_of_holds, when_holds}
use Rattle.ids_core.specs.declared.ids.Mark.{Mark}
use Rattle.vv_core.specs.declared.stamp.Lack.{Lack}
use Rattle.vv_core.specs.Vectors.{at, Covers, lack_of, IsFirstLack}
use Rattle.vv_core.proofs.Covering.{lack_of-none, lack_of-some, lack_of_covered, covers-true, covers_from}
use Rattle.tx_core.specs.declared.op.Op.{Op}
use Rattle.tx_core.specs.declared.tx.Tx.{Tx}
use Rattle.tx_core.specs.declared.tx.Record.{Record}
use Rattle.tx_core.specs.declared.state.State.{State}
use Rattle.dc_talk.specs.declared.ask.TheConstants.{MOST_CHANGES}
use Rattle.dc_talk.specs.declared.ask.Ask.{Ask}
use Rattle.dc_talk.specs.declared.ask.Ask.TheVariants.{Hello, Refresh, Fetch, Delta, Commit, Send, Deliver, Relay, Report, Learn, Prune, Stop, Start}
use Rattle.dc_talk.specs.declared.say.Say.{Say}
use Rattle.dc_talk.specs.declared.say.Say.TheVariants.{Misfit, Down, Lacks, Welcome, Snap, Pruned, Object, Changes, Known, OutOfOrder, Full, Stamped, Trimmed, Records, Old, Gap, Waits, Orphan, Applied, Vector, Learned, Base, Stopped, Started}
use Rattle.dc_talk.specs.declared.sent.Sent.{Sent}
use Rattle.dc_talk.specs.declared.settings.Settings.{Settings}
use Rattle.dc_talk.specs.Entries.{Entry}
use Rattle.dc_talk.specs.Records.{count, vector, guard}
use Rattle.dc_talk.specs.Trails.{applied, horizon, stopped}
use Rattle.dc_talk.specs.Answers.{fits, lacking, fetch_answer, told_of, delta_answer, commit_answer, send_answer, deliver_answer, is_switch, row, answer}

-- ---- refusals for what is lacking

-- what holds of each such refusal, holds of this one
pub lack_holds : (P : Say → Type 0) (refuse : ℕ → ℕ → ℕ → Say) → ((centre need have : ℕ) → P (refuse centre need have)) → (have need : List ℕ) (say : Say) → lacking refuse have need ≡ Some say → P say
lack_holds P refuse each have need say is = go (lack_of have need) is
  where
    go : (o : Option Lack) → option_map (λ (lack : Lack). refuse lack.centre lack.need lack.have) o ≡ Some say → P say
    go None is = absurd (none-some say is)
    go (Some lack) is = subst P (same_Some (refuse lack.centre lack.need lack.have) say is) (each lack.centre lack.need lack.have)

-- what holds of the refusal for a first lack, holds of this one
pub lack_first : (P : Say → Type 0) (refuse : ℕ → ℕ → ℕ → Say) (have need : List ℕ) → ((lack : Lack) → IsFirstLack have need lack → P (refuse lack.centre lack.need lack.have)) → (say : Say) → lacking refuse have need ≡ Some say → P say
lack_first P refuse have need each say is = go (lack_of have need) refl is
  where
    go : (o : Option Lack) → lack_of have need ≡ o → option_map (λ (lack : Lack). refuse lack.centre lack.need lack.have) o ≡ Some say → P say
    go None found is = absurd (none-some say is)
    go (Some lack) found is = subst P (same_Some (refuse lack.centre lack.need lack.have) say is) (each lack (lack_of-some have need lack found))

-- where there is none, all is covered
pub lack_none : (refuse : ℕ → ℕ → ℕ → Say) (have need : List ℕ) → lacking refuse have need ≡ None → Covers have need
lack_none refuse have need is = covers-true have need (lack_of-none have need (go (lack_of have need) is))
  where
    go : (o : Option Lack) → option_map (λ (lack : Lack). refuse lack.centre lack.need lack.have) o ≡ None → o ≡ None
    go None is = refl
    go (Some lack) is = absurd (none-some _ (sym is))

-- where all is covered there is none, and everything holds of it
pub lack_fails : (P : Say → Type 0) (refuse : ℕ → ℕ → ℕ → Say) (have need : List ℕ) → Covers have need → (say : Say) → lacking refuse have need ≡ Some say → P say
lack_fails P refuse have need le say is = absurd (none-some say (sym (ap (option_map (λ (lack : Lack). refuse lack.centre lack.need lack.have)) (lack_of_covered have need (covers_from have need le))) ∙ is))

-- ---- the answers of a running centre

-- the refusals of a commit, in the order in which they are tried
abbrev pub commit_choices : Settings → List ℕ → ℕ → ℕ → Tx → List (Option Say)
commit_choices s have through stamped tx =
    when (nat_le tx.dot.number through) (Known through)
    ∷ when (nat_le (through + 2) tx.dot.number) (OutOfOrder through)
    ∷ lacking Lacks have tx.snap
    ∷ when (nat_le s.limit stamped) (Full s.limit)
    ∷ []

-- what holds of each of them, and of a stamp, holds of the answer to a commit
pub commit_holds : (P : Say → Type 0) (s : Settings) (have : List ℕ) (through stamped : ℕ) (tx : Tx) → EachChoice P (commit_choices s have through stamped tx) (Stamped (record { centre = s.me; seq = stamped + 1 })) → P (commit_answer s have through stamped tx)
commit_holds P s have through stamped tx each = first_of_holds P (commit_choices s have through stamped tx) (Stamped (record { centre = s.me; seq = stamped + 1 })) each

-- the refusals of a delivery, in the order in which they are tried
abbrev pub deliver_choices : Settings → List ℕ → ℕ → ℕ → Record → List (Option Say)
deliver_choices s have counted through item =
    when (nat_le item.stamp.seq counted) (Old counted)
    ∷ when (nat_le (counted + 2) item.stamp.seq || (item.stamp.centre == s.me)) (Gap counted)
    ∷ lacking Waits have item.deps
    ∷ when (nat_le (through + 2) item.tx.dot.number) (Orphan item.tx.dot.number through)
    ∷ []

-- what holds of each of them, and of a record that is applied, holds of the answer to a delivery
pub deliver_holds : (P : Say → Type 0) (s : Settings) (have : List ℕ) (counted through : ℕ) (item : Record) → EachChoice P (deliver_choices s have counted through item) (Applied (item.tx.dot.number == through + 1)) → P (deliver_answer s have counted through item)
deliver_holds P s have counted through item each = first_of_holds P (deliver_choices s have counted through item) (Applied (item.tx.dot.number == through + 1)) each

-- what holds of a refusal for what is lacking, and of the last resort where nothing is, holds of the first of the two
pub unless_lacking : (P : Say → Type 0) (have need : List ℕ) (last : Say) → ((centre n h : ℕ) → P (Lacks centre n h)) → (Covers have need → P last) → P (first_of (lacking Lacks have need ∷ []) last)
unless_lacking P have need last lacks covered = first_of_holds P (lacking Lacks have need ∷ []) last (lack_holds P Lacks lacks have need, λ none. covered (lack_none Lacks have need none))

-- what holds of each refusal of a fetch, and of a state where nothing is lacking or pruned, holds of the answer
pub fetch_holds : (P : Say → Type 0) (have base : List ℕ) (state : State) (here : List ℕ) → ((centre n h : ℕ) → P (Lacks centre n h)) → ((centre n h : ℕ) → P (Pruned centre n h)) → (Covers have here → Covers here base → P (Object state)) → P (fetch_answer have base state here)
fetch_holds P have base state here lacks pruned covered = first_of_holds P (lacking Lacks have here ∷ lacking Pruned here base ∷ []) (Object state)
    (lack_holds P Lacks lacks have here, λ none. (lack_holds P Pruned pruned here base, λ kept. covered (lack_none Lacks have here none) (lack_none Pruned here base kept)))

-- what holds of each refusal of a delta, and of few operations and of a state where nothing is lacking or pruned, holds of
-- the answer
pub delta_holds : (P : Say → Type 0) (have base : List ℕ) (ops : List (Mark × Op)) (state : State) (from here : List ℕ) → ((centre n h : ℕ) → P (Lacks centre n h)) → ((centre n h : ℕ) → P (Pruned centre n h)) → (Covers have here → Covers from base → P (Changes ops)) → (Covers have here → Covers from base → P (Object state)) → P (delta_answer have base (told_of ops state) from here)
delta_holds P have base ops state from here lacks pruned few many = first_of_holds P (lacking Lacks have here ∷ lacking Pruned from base ∷ []) (told_of ops state)
    (lack_holds P Lacks lacks have here, λ none. (lack_holds P Pruned pruned from base, λ kept. told (lack_none Lacks have here none) (lack_none Pruned from base kept) (nat_le (length ops) MOST_CHANGES)))
  where
    told : Covers have here → Covers from base → (b : Bool) → P (cond b (Changes ops) (Object state))
    told covered kept true = few covered kept
    told covered kept false = many covered kept

-- what holds of a refusal of a send, and of the records that are asked for where they were not let go, holds of the answer
pub send_holds : (P : Say → Type 0) (trimmed : ℕ) (asked : List Sent) (after : ℕ) → P (Trimmed trimmed) → P (Records asked) → P (send_answer trimmed asked after)
send_holds P trimmed asked after refused given = first_of_holds P (when (nat_le (after + 1) trimmed) (Trimmed trimmed) ∷ []) (Records asked) (when_holds _ _ _ (λ t. refused), λ z. given)

-- the answers that a running centre may give to an ask that fits
abbrev pub may_answer : Ask → Say → Bool
may_answer (Hello client need) (Lacks centre n h) = true
may_answer (Hello client need) (Welcome through) = true
may_answer (Refresh client here) (Lacks centre n h) = true
may_answer (Refresh client here) (Snap vector mine top) = true
may_answer (Fetch object here) (Lacks centre n h) = true
may_answer (Fetch object here) (Pruned centre base low) = true
may_answer (Fetch object here) (Object state) = true
may_answer (Delta object from here) (Lacks centre n h) = true
may_answer (Delta object from here) (Pruned centre base low) = true
may_answer (Delta object from here) (Object state) = true
may_answer (Delta object from here) (Changes tail) = true
may_answer (Commit tx) (Known through) = true
may_answer (Commit tx) (OutOfOrder have) = true
may_answer (Commit tx) (Lacks centre n h) = true
may_answer (Commit tx) (Full limit) = true
may_answer (Commit tx) (Stamped stamp) = true
may_answer (Send after most) (Trimmed from) = true
may_answer (Send after most) (Records list) = true
may_answer (Deliver item hops) (Old have) = true
may_answer (Deliver item hops) (Gap have) = true
may_answer (Deliver item hops) (Waits centre n h) = true
may_answer (Deliver item hops) (Orphan number have) = true
may_answer (Deliver item hops) (Applied fresh) = true
may_answer (Relay origin after most) (Trimmed from) = true
may_answer (Relay origin after most) (Records list) = true
may_answer Report (Vector vector) = true
may_answer (Learn from news) (Learned fresh) = true
may_answer Prune (Base vector folded trimmed) = true
may_answer Stop Stopped = true
may_answer Start Started = true
may_answer _ _ = false

-- it gives one of these
pub row_answers : (s : Settings) (trail : List Entry) (ask : Ask) → may_answer ask (row s trail ask) ≡ true
row_answers s trail (Hello client need) = unless_lacking (λ say. may_answer (Hello client need) say ≡ true) (vector s.n (applied s.n trail)) need _ (λ c m h. refl) (λ covered. refl)
row_answers s trail (Refresh client here) = unless_lacking (λ say. may_answer (Refresh client here) say ≡ true) (vector s.n (applied s.n trail)) here _ (λ c m h. refl) (λ covered. refl)
row_answers s trail (Fetch object here) = fetch_holds (λ say. may_answer (Fetch object here) say ≡ true) (vector s.n (applied s.n trail)) (horizon s trail).base _ here (λ c m h. refl) (λ c m h. refl) (λ covered kept. refl)
row_answers s trail (Delta object from here) = delta_holds (λ say. may_answer (Delta object from here) say ≡ true) (vector s.n (applied s.n trail)) (horizon s trail).base _ _ from here (λ c m h. refl) (λ c m h. refl) (λ covered kept. refl) (λ covered kept. refl)
row_answers s trail (Commit tx) = commit_holds (λ say. may_answer (Commit tx) say ≡ true) s (vector s.n (applied s.n trail)) (guard tx.dot.client (applied s.n trail)) (count s.me (applied s.n trail)) tx
    (when_holds _ _ _ (λ t. refl), λ z. (when_holds _ _ _ (λ t. refl), λ z. (lack_holds _ Lacks (λ c m h. refl) (vector s.n (applied s.n trail)) tx.snap, λ z. (when_holds _ _ _ (λ t. refl), λ z. refl))))
row_answers s trail (Send after most) = send_holds (λ say. may_answer (Send after most) say ≡ true) (at (horizon s trail).trimmed s.me) _ after refl refl
row_answers s trail (Deliver item hops) = deliver_holds (λ say. may_answer (Deliver item hops) say ≡ true) s (vector s.n (applied s.n trail)) (count item.stamp.centre (applied s.n trail)) (guard item.tx.dot.client (applied s.n trail)) item
    (when_holds _ _ _ (λ t. refl), λ z. (when_holds _ _ _ (λ t. refl), λ z. (lack_holds _ Waits (λ c m h. refl) (vector s.n (applied s.n trail)) item.deps, λ z. (when_holds _ _ _ (λ t. refl), λ z. refl))))
row_answers s trail (Relay origin after most) = send_holds (λ say. may_answer (Relay origin after most) say ≡ true) (at (horizon s trail).trimmed origin) _ after refl refl
row_answers s trail Report = refl
row_answers s trail (Learn from news) = refl
row_answers s trail Prune = refl
row_answers s trail Stop = refl
row_answers s trail Start = refl

-- ---- the answer

-- the answer to an ask that fits is that of a running centre, or of a stopped one
pub answer_holds : (P : Say → Type 0) (s : Settings) (trail : List Entry) (ask : Ask) → fits s.n ask ≡ true → P Down → P (row s trail ask) → P (answer s trail ask)
unfolding answer
answer_holds P s trail ask fit down up = subst (λ t. P (cond t (cond (stopped trail && not (is_switch ask)) Down (row s trail ask)) Misfit)) (sym fit) (go (stopped trail && not (is_switch ask)))
  where
    go : (t : Bool) → P (cond t Down (row s trail ask))
    go true = down
    go false = up

-- an answer other than a misfit or a refusal of a stopped centre is that of a running one, to an ask that fits
pub fitting : (s : Settings) (trail : List Entry) (ask : Ask) (say : Say) → say ≡ answer s trail ask → (say ≡ Misfit → ⊥) → (say ≡ Down → ⊥) → (fits s.n ask ≡ true) × (say ≡ row s trail ask)
unfolding answer
fitting s trail ask say is fits_not down_not = go (fits s.n ask) refl is
  where
    up : (b : Bool) → say ≡ cond b Down (row s trail ask) → say ≡ row s trail ask
    up true is = absurd (down_not is)
    up false is = is

    go : (b : Bool) → fits s.n ask ≡ b → say ≡ cond b (cond (stopped trail && not (is_switch ask)) Down (row s trail ask)) Misfit → (fits s.n ask ≡ true) × (say ≡ row s trail ask)
    go true fit is = (fit, up (stopped trail && not (is_switch ask)) is)
    go false fit is = absurd (fits_not is)

-- an ask that does not fit is answered by a misfit
pub misfit : (s : Settings) (trail : List Entry) (ask : Ask) → fits s.n ask ≡ false → answer s trail ask ≡ Misfit
unfolding answer
misfit s trail ask fit = ap (λ t. cond t (cond (stopped trail && not (is_switch ask)) Down (row s trail ask)) Misfit) fit

-- so it is one that a running centre may give
pub answers_it : (s : Settings) (trail : List Entry) (ask : Ask) (say : Say) → say ≡ answer s trail ask → (say ≡ Misfit → ⊥) → (say ≡ Down → ⊥) → may_answer ask say ≡ true
answers_it s trail ask say is fits_not down_not = ap (may_answer ask) (fitting s trail ask say is fits_not down_not).1 ∙ row_answers s trail ask

-- an ask that fits is not answered by a misfit
pub no_misfit : (s : Settings) (trail : List Entry) (ask : Ask) → fits s.n ask ≡ true → answer s trail ask ≡ Misfit → ⊥
no_misfit s trail ask fit = answer_holds (λ say. say ≡ Misfit → ⊥) s trail ask fit (λ e. cc)
    (λ e. false≢true (sym (none ask) ∙ (ap (may_answer ask) (sym e) ∙ row_answers s trail ask)))
  where
    none : (ask : Ask) → may_answer ask Misfit ≡ false
    none (Hello client need) = refl
    none _ = refl
