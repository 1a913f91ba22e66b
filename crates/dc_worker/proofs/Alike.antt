-- Trails that leave a centre alike, and what it answers after them.
use Rattle.std.proofs.Common.{◌≡◌, ◌≢◌, ℕ, Bool, true, false, not, ◌&&◌, cond, ◌==◌, List, [], ◌∷◌, ◌++◌, refl, sym, ap, ◌∙◌, subst}
use Rattle.std.specs.Option.{unwrap_or}
use Rattle.std.proofs.lemmas.Bool.{eqb-true, ne_eqb, false≢true}
use Rattle.std.proofs.lemmas.List.Sums.{fold_push}
use Rattle.vv_core.specs.Vectors.{at, zeros, join_of}
use Rattle.dc_talk.specs.declared.sent.Sent.{Sent}
use Rattle.dc_talk.specs.declared.settings.Settings.{Settings}
use Rattle.dc_talk.specs.declared.ask.Ask.{Ask}
use Rattle.dc_talk.specs.declared.ask.Ask.TheVariants.{Hello, Refresh, Fetch, Delta, Commit, Send, Deliver, Relay, Report, Learn, Prune, Stop, Start}
use Rattle.dc_talk.specs.declared.say.Say.{Say}
use Rattle.dc_talk.specs.declared.say.Say.TheVariants.{Misfit, Down, Applied, Vector, Learned}
use Rattle.dc_talk.specs.declared.log.Fate.TheVariants.{Unheard}
use Rattle.dc_talk.specs.declared.log.Deed.TheVariants.{Asked}
use Rattle.dc_talk.specs.Entries.{Entry}
use Rattle.dc_talk.specs.Records.{count, vector, guard}
use Rattle.dc_talk.specs.Sents.{items}
use Rattle.dc_talk.specs.Clients.{same_vector}
use Rattle.dc_talk.specs.Trails.{carried_on, carried, taught_in, taught, told, switched_in, stopped, Horizon, horizon, horizon_after}
use Rattle.dc_talk.specs.Answers.{fits, part_of, send_answer, deliver_answer, tells, answer}
use Rattle.dc_talk.proofs.Vectors.{same_vector-true}
use Rattle.dc_talk.proofs.Growth.{carried_push}
use Rattle.dc_talk.proofs.Horizons.{horizon_more}
use Rattle.script_core.specs.Carrying.{is_news}
use Rattle.dc_worker.specs.Settled.{IsAlike}

pub alike_self : (s : Settings) (x : List Entry) → IsAlike s x x
alike_self s x = record { lists = refl; rows = λ j other. refl; horizons = refl; switch = refl }

pub alike_then : (s : Settings) (x y z : List Entry) → IsAlike s x y → IsAlike s y z → IsAlike s x z
alike_then s x y z first more = record { lists = first.lists ∙ more.lists; rows = λ j other. first.rows j other ∙ more.rows j other; horizons = first.horizons ∙ more.horizons; switch = first.switch ∙ more.switch }

-- an ask of this centre by one who carries
abbrev pub IsCarried : ℕ → Ask → Type 0
IsCarried me (Send after most) = Unit {0}
IsCarried me (Deliver item hops) = Unit {0}
IsCarried me (Relay origin after most) = Unit {0}
IsCarried me Report = Unit {0}
IsCarried me (Learn from news) = from ≢ me
IsCarried me _ = ⊥

-- ---- answers

-- a reply by the same switch and the same row is the same
same_reply : (fit down off by : Bool) (a b : Say) → down ≡ off → a ≡ b → cond fit (cond (down && by) Down a) Misfit ≡ cond fit (cond (off && by) Down b) Misfit
same_reply fit down off by a b switch same = ap (λ down. cond fit (cond (down && by) Down a) Misfit) switch ∙ ap (λ say. cond fit (cond (off && by) Down say) Misfit) same

-- it hands on the records of an origin alike
alike_part : (s : Settings) (x y : List Entry) (origin after most : ℕ) → IsAlike s x y → send_answer (at (horizon s x).trimmed origin) (part_of origin (carried s.n x) after most) after ≡ send_answer (at (horizon s y).trimmed origin) (part_of origin (carried s.n y) after most) after
alike_part s x y origin after most alike =
    ap (λ (h : Horizon). send_answer (at h.trimmed origin) (part_of origin (carried s.n x) after most) after) alike.horizons
    ∙ ap (λ C. send_answer (at (horizon s y).trimmed origin) (part_of origin C after most) after) alike.lists

-- the centre answers a carried ask alike
pub alike_answer : (s : Settings) (x y : List Entry) (ask : Ask) → IsAlike s x y → IsCarried s.me ask → answer s x ask ≡ answer s y ask
unfolding answer
alike_answer s x y (Send after most) alike is = same_reply (fits s.n (Send after most)) (stopped x) (stopped y) true _ _ alike.switch (alike_part s x y s.me after most alike)
alike_answer s x y (Deliver item hops) alike is = same_reply (fits s.n (Deliver item hops)) (stopped x) (stopped y) true _ _ alike.switch (ap (λ C. deliver_answer s (vector s.n (items C)) (count item.stamp.centre (items C)) (guard item.tx.dot.client (items C)) item) alike.lists)
alike_answer s x y (Relay origin after most) alike is = same_reply (fits s.n (Relay origin after most)) (stopped x) (stopped y) true _ _ alike.switch (alike_part s x y origin after most alike)
alike_answer s x y Report alike is = same_reply (fits s.n Report) (stopped x) (stopped y) true _ _ alike.switch (ap (λ C. Vector (vector s.n (items C))) alike.lists)
alike_answer s x y (Learn from news) alike is = same_reply (fits s.n (Learn from news)) (stopped x) (stopped y) true _ _ alike.switch (ap (λ row. Learned (tells s.me row from news)) (alike.rows from is))
alike_answer s x y (Hello client need) alike is = absurd is
alike_answer s x y (Refresh client here) alike is = absurd is
alike_answer s x y (Fetch object here) alike is = absurd is
alike_answer s x y (Delta object from here) alike is = absurd is
alike_answer s x y (Commit tx) alike is = absurd is
alike_answer s x y Prune alike is = absurd is
alike_answer s x y Stop alike is = absurd is
alike_answer s x y Start alike is = absurd is

-- ---- one entry more that is not news

-- a carried ask that is not news leaves the applied list
quiet_carried : (n me i : ℕ) (C : List Sent) (ask : Ask) (say : Say) → IsCarried me ask → is_news (Asked i ask (Unheard say)) ≡ false → carried_on n C ask say ≡ C
quiet_carried n me i C (Send after most) say is quiet = refl
quiet_carried n me i C (Deliver item hops) (Applied fresh) is quiet = absurd (false≢true (sym quiet))
quiet_carried n me i C (Deliver item hops) say is quiet = refl
quiet_carried n me i C (Relay origin after most) say is quiet = refl
quiet_carried n me i C Report say is quiet = refl
quiet_carried n me i C (Learn from news) say is quiet = refl
quiet_carried n me i C (Hello client need) say is quiet = absurd is
quiet_carried n me i C (Refresh client here) say is quiet = absurd is
quiet_carried n me i C (Fetch object here) say is quiet = absurd is
quiet_carried n me i C (Delta object from here) say is quiet = absurd is
quiet_carried n me i C (Commit tx) say is quiet = absurd is
quiet_carried n me i C Prune say is quiet = absurd is
quiet_carried n me i C Stop say is quiet = absurd is
quiet_carried n me i C Start say is quiet = absurd is

-- it leaves the switch
quiet_switch : (me : ℕ) (down : Bool) (ask : Ask) (say : Say) → IsCarried me ask → unwrap_or (switched_in ask say) down ≡ down
quiet_switch me down (Send after most) say is = refl
quiet_switch me down (Deliver item hops) say is = refl
quiet_switch me down (Relay origin after most) say is = refl
quiet_switch me down Report say is = refl
quiet_switch me down (Learn from news) say is = refl
quiet_switch me down (Hello client need) say is = absurd is
quiet_switch me down (Refresh client here) say is = absurd is
quiet_switch me down (Fetch object here) say is = absurd is
quiet_switch me down (Delta object from here) say is = absurd is
quiet_switch me down (Commit tx) say is = absurd is
quiet_switch me down Prune say is = absurd is
quiet_switch me down Stop say is = absurd is
quiet_switch me down Start say is = absurd is

-- it leaves the horizon
quiet_horizon : (s : Settings) (x : List Entry) (h : Horizon) (ask : Ask) (say : Say) → IsCarried s.me ask → horizon_after s x h ask say ≡ h
quiet_horizon s x h (Send after most) say is = refl
quiet_horizon s x h (Deliver item hops) say is = refl
quiet_horizon s x h (Relay origin after most) say is = refl
quiet_horizon s x h Report say is = refl
quiet_horizon s x h (Learn from news) say is = refl
quiet_horizon s x h (Hello client need) say is = absurd is
quiet_horizon s x h (Refresh client here) say is = absurd is
quiet_horizon s x h (Fetch object here) say is = absurd is
quiet_horizon s x h (Delta object from here) say is = absurd is
quiet_horizon s x h (Commit tx) say is = absurd is
quiet_horizon s x h Prune say is = absurd is
quiet_horizon s x h Stop say is = absurd is
quiet_horizon s x h Start say is = absurd is

-- a centre that learns says whether it was told more
learned_by : (s : Settings) (x : List Entry) (from : ℕ) (news : List ℕ) (fresh : Bool) → Learned fresh ≡ answer s x (Learn from news) → fresh ≡ tells s.me (told s.n from x) from news
unfolding answer
learned_by s x from news fresh is = go (fits s.n (Learn from news)) (stopped x) is
  where
    go : (fit down : Bool) → Learned fresh ≡ cond fit (cond (down && true) Down (Learned (tells s.me (told s.n from x) from news))) Misfit → fresh ≡ tells s.me (told s.n from x) from news
    go true false is = cc
    go true true is = cc
    go false down is = cc

-- a vector that told nothing of another centre leaves its row
told_nothing : (me from : ℕ) (row news : List ℕ) → from ≢ me → tells me row from news ≡ false → join_of row news ≡ row
told_nothing me from row news other none = go (from == me) (ne_eqb from me other) (same_vector (join_of row news) row) refl none
  where
    go : (self : Bool) → self ≡ false → (same : Bool) → same_vector (join_of row news) row ≡ same → not self && not same ≡ false → join_of row news ≡ row
    go self apart true is none = same_vector-true (join_of row news) row is
    go true apart false is none = absurd (false≢true (sym apart))
    go false apart false is none = absurd (false≢true (sym none))

-- it leaves the rows of the others
quiet_taught : (s : Settings) (x : List Entry) (i j : ℕ) (ask : Ask) (say : Say) → IsCarried s.me ask → is_news (Asked i ask (Unheard say)) ≡ false → say ≡ answer s x ask → taught j (told s.n j x) (taught_in ask say) ≡ told s.n j x
quiet_taught s x i j (Learn from news) (Learned fresh) is quiet by = go (from == j) refl
  where
    none : tells s.me (told s.n from x) from news ≡ false
    none = sym (learned_by s x from news fresh by) ∙ quiet

    go : (here : Bool) → (from == j) ≡ here → cond here (join_of (told s.n j x) news) (told s.n j x) ≡ told s.n j x
    go true here = subst (λ k. join_of (told s.n k x) news ≡ told s.n k x) (eqb-true from j here) (told_nothing s.me from (told s.n from x) news is none)
    go false there = refl
quiet_taught s x i j (Learn from news) say is quiet by = refl
quiet_taught s x i j (Send after most) say is quiet by = refl
quiet_taught s x i j (Deliver item hops) say is quiet by = refl
quiet_taught s x i j (Relay origin after most) say is quiet by = refl
quiet_taught s x i j Report say is quiet by = refl
quiet_taught s x i j (Hello client need) say is quiet by = absurd is
quiet_taught s x i j (Refresh client here) say is quiet by = absurd is
quiet_taught s x i j (Fetch object here) say is quiet by = absurd is
quiet_taught s x i j (Delta object from here) say is quiet by = absurd is
quiet_taught s x i j (Commit tx) say is quiet by = absurd is
quiet_taught s x i j Prune say is quiet by = absurd is
quiet_taught s x i j Stop say is quiet by = absurd is
quiet_taught s x i j Start say is quiet by = absurd is

-- with a carried ask more that is not news the centre is left alike
pub alike_more : (s : Settings) (x : List Entry) (e : Entry) → IsCarried s.me e.ask → is_news (Asked s.me e.ask (Unheard e.say)) ≡ false → e.say ≡ answer s x e.ask → IsAlike s (x ++ e ∷ []) x
alike_more s x e is quiet by = record {
  lists = carried_push s.n x e ∙ quiet_carried s.n s.me s.me (carried s.n x) e.ask e.say is quiet;
  rows = λ j other. fold_push (λ row (entry : Entry). taught j row (taught_in entry.ask entry.say)) (zeros s.n) x e ∙ quiet_taught s x s.me j e.ask e.say is quiet by;
  horizons = horizon_more s x e ∙ quiet_horizon s x (horizon s x) e.ask e.say is;
  switch = fold_push (λ down (entry : Entry). unwrap_or (switched_in entry.ask entry.say) down) false x e ∙ quiet_switch s.me (stopped x) e.ask e.say is;
}
