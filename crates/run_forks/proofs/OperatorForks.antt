-- The deeds of an operator's step are the same, or part at an answer.
use Rattle.std.proofs.Common.{◌≡◌, ℕ, ◌-◌, inl, inr, Bool, true, false, List, [], ◌∷◌, ◌++◌, Option, Some, None, refl, sym, ap, ◌∙◌, subst}
use Rattle.std.specs.Prelude.{MatchBool}
use Rattle.std.specs.List.{list_any}
use Rattle.std.proofs.lemmas.Bool.{false≢true}
use Rattle.std.proofs.lemmas.List.{append-nil}
use Rattle.dc_talk.specs.declared.sent.Sent.{Sent}
use Rattle.dc_talk.specs.declared.ask.Ask.{Ask}
use Rattle.dc_talk.specs.declared.ask.Ask.TheVariants.{Send, Deliver, Report, Learn, Prune as PruneAsk, Stop, Start}
use Rattle.dc_talk.specs.declared.say.Say.{Say}
use Rattle.dc_talk.specs.declared.say.Say.TheVariants.{Records, Vector}
use Rattle.dc_talk.specs.declared.log.Fate.TheVariants.{Unheard}
use Rattle.dc_talk.specs.declared.log.Deed.{Deed}
use Rattle.dc_talk.specs.declared.log.Deed.TheVariants.{Asked}
use Rattle.dc_talk.specs.declared.line.Line.{Line}
use Rattle.dc_talk.specs.declared.line.ShipEnd.{ShipEnd}
use Rattle.dc_talk.specs.declared.line.ShipEnd.TheVariants.{Absent}
use Rattle.script_core.specs.declared.taps.TapState.{TapState}
use Rattle.script_core.specs.declared.steps.OperatorStep.{OperatorStep}
use Rattle.script_core.specs.declared.steps.OperatorStep.TheVariants.{Down, Up, ShipOne, Ship, Relay, Tell, Prune, Link, Settle, Feed}
use Rattle.script_core.specs.Deeds.{told}
use Rattle.script_core.specs.Carrying.{Route, route, detour, is_there, delivery_end, send_end, stopped_end, ship_line, relay_line, tell_line, Delivers, AfterSend, Sends, AfterReport, Supplies, own_need, origin_need, Ships, Relays, AfterTold, Tells, routes, detours, InTurn, no_turn, next_turn, Passes, is_news, Settles, last_pass, one_pass}
use Rattle.script_core.specs.Orders.{Orders, base_line, OperatorDeeds}
use Rattle.script_core.specs.Taps.{FeedsSo}
use Rattle.run_forks.specs.Forks.{IsFork, AreOneOrFork}
use Rattle.run_forks.proofs.Forks.{OneWith, Same, fork_as, fork_front, with_as, with_then, one_or_fork, both_are, by_unheard}
use Rattle.run_forks.proofs.FeedForks.{feed_fork}

-- nothing of both, and both end the same
pub nothing : {E : Type 0} (ds es : List Deed) (end again last : E) → (ds ≡ []) × (end ≡ last) → (es ≡ []) × (again ≡ last) → OneWith ds es (end ≡ again)
nothing ds es end again last one two = inl (one.0 ∙ sym two.0, one.1 ∙ sym two.1)

-- an ask that begins both, and what follows it
pub begun : (i : ℕ) (ask : Ask) (say again : Say) (ds es xs ys : List Deed) (Q : Type 0) → ds ≡ Asked i ask (Unheard say) ∷ xs → es ≡ Asked i ask (Unheard again) ∷ ys → (say ≡ again → OneWith xs ys Q) → OneWith ds es Q
begun i ask say again ds es xs ys Q one two on = with_as (Asked i ask (Unheard say) ∷ xs) (Asked i ask (Unheard again) ∷ ys) ds es Q one two (by_unheard i ask say again xs ys Q on)

-- ---- records

-- deliveries of the same records
delivers_fork : (to : ℕ) (items : List Sent) (last : Option ShipEnd) (ds es : List Deed) (end again : Option ShipEnd) → Delivers to items last ds end → Delivers to items last es again → OneWith ds es (end ≡ again)
delivers_fork to [] last ds es end again one two = nothing ds es end again last one two
delivers_fork to (item ∷ items) last [] es end again one two = absurd one
delivers_fork to (item ∷ items) last (d ∷ ds) [] end again one two = absurd two
delivers_fork to (item ∷ items) last (d ∷ ds) (e ∷ es) end again one two =
    begun to (Deliver item.item item.hops) one.0 two.0 (d ∷ ds) (e ∷ es) ds es (end ≡ again) (ap (λ deed. deed ∷ ds) one.1) (ap (λ deed. deed ∷ es) two.1)
    (λ same. go (is_there one.0) one.2 (subst (λ say. Follow (is_there say) say es again) (sym same) two.2) (λ first later. delivers_fork to items (delivery_end to item.item one.0) ds es end again first later))
  where
    Follow : Bool → Say → List Deed → Option ShipEnd → Type 0
    Follow test say deeds end = MatchBool test (Delivers to items (delivery_end to item.item say) deeds end) ((deeds ≡ []) × (end ≡ delivery_end to item.item say))

    go : (test : Bool) → Follow test one.0 ds end → Follow test one.0 es again → (Delivers to items (delivery_end to item.item one.0) ds end → Delivers to items (delivery_end to item.item one.0) es again → OneWith ds es (end ≡ again)) → OneWith ds es (end ≡ again)
    go true first later on = on first later
    go false first later on = nothing ds es end again (delivery_end to item.item one.0) first later

-- what follows the same answer to a send
after_send_fork : (r : Route) (last : Option ShipEnd) (say : Say) (ds es : List Deed) (end again : Option ShipEnd) → AfterSend r last say ds end → AfterSend r last say es again → OneWith ds es (end ≡ again)
after_send_fork r last (Records list) ds es end again one two = delivers_fork r.to list last ds es end again one two
after_send_fork r last say ds es end again one two = nothing ds es end again (send_end r.from say) one two

-- sends
sends_fork : (r : Route) (last : Option ShipEnd) (ask : Ask) (ds es : List Deed) (end again : Option ShipEnd) → Sends r last ask ds end → Sends r last ask es again → OneWith ds es (end ≡ again)
sends_fork r last ask ds es end again one two =
    begun r.from ask one.say two.say ds es one.later two.later (end ≡ again) one.whole two.whole
    (λ same. after_send_fork r last one.say one.later two.later end again one.follows (subst (λ say. AfterSend r last say two.later again) (sym same) two.follows))

-- what follows the same report
after_report_fork : (r : Route) (need : List ℕ → Ask) (say : Say) (ds es : List Deed) (end again : Option ShipEnd) → AfterReport r need say ds end → AfterReport r need say es again → OneWith ds es (end ≡ again)
after_report_fork r need (Vector vector) ds es end again one two = sends_fork r None (need vector) ds es end again one two
after_report_fork r need say ds es end again one two = nothing ds es end again (stopped_end r.to say) one two

-- deliveries of what a centre lacks
supplies_fork : (r : Route) (need : List ℕ → Ask) (ds es : List Deed) (end again : Option ShipEnd) → Supplies r need ds end → Supplies r need es again → OneWith ds es (end ≡ again)
supplies_fork r need ds es end again one two =
    begun r.to Report one.say two.say ds es one.later two.later (end ≡ again) one.whole two.whole
    (λ same. after_report_fork r need one.say one.later two.later end again one.follows (subst (λ say. AfterReport r need say two.later again) (sym same) two.follows))

-- ---- vectors

-- what follows the same report that is told
after_told_fork : (r : Route) (say : Say) (ds es : List Deed) (line again : Option Line) → AfterTold r say ds line → AfterTold r say es again → OneWith ds es (line ≡ again)
after_told_fork r (Vector vector) ds es line again one two =
    begun r.to (Learn r.from vector) one.0 two.0 ds es [] [] (line ≡ again) one.1 two.1
    (λ same. inl (refl, one.2 ∙ (ap (tell_line r r.to) same ∙ sym two.2)))
after_told_fork r say ds es line again one two = nothing ds es line again (tell_line r r.from say) one two

-- tells
pub tells_fork : (r : Route) (ds es : List Deed) (line again : Option Line) → Tells r ds line → Tells r es again → OneWith ds es (line ≡ again)
tells_fork r ds es line again one two =
    begun r.from Report one.say two.say ds es one.later two.later (line ≡ again) one.whole two.whole
    (λ same. after_told_fork r one.say one.later two.later line again one.follows (subst (λ say. AfterTold r say two.later again) (sym same) two.follows))

-- ---- steps

-- asks, and the line of how they ended
with_line : {E : Type 0} (ds es asks more : List Deed) (end again : E) (line : E → Option Line) → ds ≡ asks ++ told (line end) → es ≡ more ++ told (line again) → OneWith asks more (end ≡ again) → Same ds es
with_line ds es asks more end again line one two is =
    with_as (asks ++ told (line end)) (more ++ told (line again)) ds es (Unit {0}) one two
    (with_then asks more (told (line end)) (told (line again)) (end ≡ again) (Unit {0}) is (λ same. inl (ap (λ e. told (line e)) same, tt)))

-- without how they ended
pub plain : (ds es : List Deed) (Q : Type 0) → OneWith ds es Q → Same ds es
plain ds es Q (inl one) = inl (one.0, tt)
plain ds es Q (inr f) = inr f

-- what is done in turn
pub turns_fork : {X : Type 0} (Does : X → List Deed → Type 0) → ((x : X) (ds es : List Deed) → Does x ds → Does x es → Same ds es) → (xs : List X) (ds es : List Deed) → InTurn Does xs ds → InTurn Does xs es → Same ds es
turns_fork Does each [] ds es no_turn no_turn = inl (refl, tt)
turns_fork Does each (x ∷ xs) ds es (next_turn first later is does rest) (next_turn fore hind was again more) =
    with_as (first ++ later) (fore ++ hind) ds es (Unit {0}) is was
    (with_then first fore later hind (Unit {0}) (Unit {0}) (each x first fore does again) (λ _. turns_fork Does each xs later hind rest more))

-- passes
passes_fork : (n : ℕ) (ds es : List Deed) → Passes n ds → Passes n es → Same ds es
passes_fork n ds es one two =
    with_as (one.ships ++ (one.relays ++ one.tells)) (two.ships ++ (two.relays ++ two.tells)) ds es (Unit {0}) one.whole two.whole
    (with_then one.ships two.ships (one.relays ++ one.tells) (two.relays ++ two.tells) (Unit {0}) (Unit {0})
    (turns_fork (λ r deeds. (end : Option ShipEnd) × Ships r deeds end) (λ r ds es does again. plain ds es (does.0 ≡ again.0) (supplies_fork r (own_need r) ds es does.0 again.0 does.1 again.1)) (routes n) one.ships two.ships one.shipped two.shipped)
    (λ _. with_then one.relays two.relays one.tells two.tells (Unit {0}) (Unit {0})
    (turns_fork (λ t deeds. (end : Option ShipEnd) × Relays t deeds end) (λ t ds es does again. plain ds es (does.0 ≡ again.0) (supplies_fork (route t.from t.to) (origin_need t) ds es does.0 again.0 does.1 again.1)) (detours n) one.relays two.relays one.relayed two.relayed)
    (λ _. turns_fork (λ r deeds. (line : Option Line) × Tells r deeds line) (λ r ds es does again. plain ds es (does.0 ≡ again.0) (tells_fork r ds es does.0 again.0 does.1 again.1)) (routes n) one.tells two.tells one.told_all two.told_all)))

-- one has news and the other none, so they part
news_fork : (n : ℕ) (ds es : List Deed) → Passes n ds → Passes n es → list_any is_news ds ≡ false → list_any is_news es ≡ true → IsFork ds es
news_fork n ds es one two quiet loud = go (passes_fork n ds es one two)
  where
    go : Same ds es → IsFork ds es
    go (inl same) = absurd (false≢true (sym quiet ∙ (ap (list_any is_news) same.0 ∙ loud)))
    go (inr f) = f

-- and so the other way round
quiet_fork : (n : ℕ) (ds es : List Deed) → Passes n ds → Passes n es → list_any is_news ds ≡ true → list_any is_news es ≡ false → IsFork ds es
quiet_fork n ds es one two loud quiet = go (passes_fork n ds es one two)
  where
    go : Same ds es → IsFork ds es
    go (inl same) = absurd (false≢true (sym quiet ∙ (ap (list_any is_news) (sym same.0) ∙ loud)))
    go (inr f) = f

-- settling
settles_fork : (n : ℕ) (ds es : List Deed) → Settles n ds → Settles n es → Same ds es
settles_fork n ds es (last_pass one quiet) (last_pass two none) = passes_fork n ds es one two
settles_fork n ds es (last_pass one quiet) (one_pass fore hind was two loud more) = inr (fork_as (ds ++ []) (fore ++ hind) ds es (sym (append-nil ds)) was (fork_front ds fore [] hind (news_fork n ds fore one two quiet loud)))
settles_fork n ds es (one_pass first later is one loud rest) (last_pass two quiet) = inr (fork_as (first ++ later) (es ++ []) ds es is (sym (append-nil es)) (fork_front first es later [] (quiet_fork n first es one two loud quiet)))
settles_fork n ds es (one_pass first later is one loud rest) (one_pass fore hind was two news more) =
    with_as (first ++ later) (fore ++ hind) ds es (Unit {0}) is was
    (with_then first fore later hind (Unit {0}) (Unit {0}) (passes_fork n first fore one two) (λ _. settles_fork n later hind rest more))

-- an ask of the operator
pub orders_fork : (centre : ℕ) (ask : Ask) (ds es : List Deed) → Orders centre ask ds → Orders centre ask es → Same ds es
orders_fork centre ask ds es one two = begun centre ask one.0 two.0 ds es [] [] (Unit {0}) one.1 two.1 (λ same. inl (refl, tt))

-- each step
order_same : (taps : ℕ → TapState) (n : ℕ) (step : OperatorStep) (ds es : List Deed) → OperatorDeeds n step ds → OperatorDeeds n step es → FeedsSo taps step ds → FeedsSo taps step es → Same ds es
order_same taps n (Down centre) ds es one two feed other = orders_fork centre Stop ds es one two
order_same taps n (Up centre) ds es one two feed other = orders_fork centre Start ds es one two
order_same taps n (ShipOne from to seq) ds es one two feed other =
    with_line ds es one.asks two.asks one.end two.end (ship_line (route from to)) one.whole two.whole
    (sends_fork (route from to) (Some (Absent seq)) (Send (seq - 1) 1) one.asks two.asks one.end two.end one.sends two.sends)
order_same taps n (Ship from to) ds es one two feed other =
    with_line ds es one.asks two.asks one.end two.end (ship_line (route from to)) one.whole two.whole
    (supplies_fork (route from to) (own_need (route from to)) one.asks two.asks one.end two.end one.ships two.ships)
order_same taps n (Relay from origin to) ds es one two feed other =
    with_line ds es one.asks two.asks one.end two.end (relay_line (detour from origin to)) one.whole two.whole
    (supplies_fork (route from to) (origin_need (detour from origin to)) one.asks two.asks one.end two.end one.relays two.relays)
order_same taps n (Tell from to) ds es one two feed other =
    with_line ds es one.asks two.asks one.line two.line (λ line. line) one.whole two.whole
    (tells_fork (route from to) one.asks two.asks one.line two.line one.tells two.tells)
order_same taps n (Prune centre) ds es one two feed other =
    begun centre PruneAsk one.answer two.answer ds es (told (base_line centre one.answer)) (told (base_line centre two.answer)) (Unit {0}) one.whole two.whole
    (λ same. inl (ap (λ say. told (base_line centre say)) same, tt))
order_same taps n (Link from to fault) ds es one two feed other = both_are ds es [] one two
order_same taps n Settle ds es one two feed other = settles_fork n ds es one two
order_same taps n (Feed centre) ds es one two feed other = feed_fork centre (taps centre).objects ds es feed other

-- the deeds of an operator's step, which feeds the objects of taps, are the same, or part at an answer
pub order_fork : (taps : ℕ → TapState) (n : ℕ) (step : OperatorStep) (ds es : List Deed) → OperatorDeeds n step ds → OperatorDeeds n step es → FeedsSo taps step ds → FeedsSo taps step es → AreOneOrFork ds es
order_fork taps n step ds es one two feed other = one_or_fork ds es (Unit {0}) (order_same taps n step ds es one two feed other)
