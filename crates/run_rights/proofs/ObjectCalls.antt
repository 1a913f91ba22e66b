-- What holds of each end of a call on an object, of each fetch and each delta of the object, and of each line that tells no
-- rights, holds of each deed of the call.
use Rattle.std.proofs.Common.{◌≡◌, ℕ, Bool, true, false, cond, List, [], ◌++◌, Option, Some, None, refl, sym, subst}
use Rattle.std.specs.Prelude.{All}
use Rattle.std.proofs.lemmas.List.Elements.{All-nil, All-cons, All-append}
use Rattle.dc_talk.specs.declared.ask.Ask.TheVariants.{Fetch, Delta}
use Rattle.dc_talk.specs.declared.say.Say.{Say}
use Rattle.dc_talk.specs.declared.calls.Connection.{Connection}
use Rattle.dc_talk.specs.declared.calls.Refusal.TheVariants.{NeedsFetch}
use Rattle.dc_talk.specs.declared.calls.Outcome.{Outcome}
use Rattle.dc_talk.specs.declared.calls.Outcome.TheVariants.{Refused}
use Rattle.dc_talk.specs.declared.log.Deed.{Deed}
use Rattle.dc_talk.specs.declared.log.Deed.TheVariants.{Did, Asked, Told}
use Rattle.dc_talk.specs.declared.log.Fate.{Fate}
use Rattle.dc_talk.specs.declared.log.Fate.TheVariants.{Unheard}
use Rattle.dc_talk.specs.declared.line.Line.{Line}
use Rattle.dc_talk.specs.declared.line.Line.TheVariants as line
use Rattle.dc_talk.specs.Clients.{Client}
use Rattle.dc_talk.specs.Calls.{outcome_of}
use Rattle.dc_talk.specs.Rule.{after, fetch_of}
use Rattle.script_core.specs.declared.object_call.ObjectCall.{ObjectCall}
use Rattle.script_core.specs.declared.steps.AskFault.{AskFault}
use Rattle.script_core.specs.declared.steps.AskFault.TheVariants.{LoseAsk, LoseReply, Twice}
use Rattle.script_core.specs.Deeds.{Progress, Asks, OrTells, Fetches, FetchDeeds, CallDeeds, after_fetch, let_go, calls_on, copies, fate_of, fetch_line, line_on, told, took}
use Rattle.run_book.proofs.Fetches.{fetches_hold}
use Rattle.run_book.proofs.ObjectAsks.{object_ask}
use Rattle.run_rights.proofs.RightsLines.{IsPlainOr, rights_told, plain_fetch, plain_on}

-- of a line that tells no rights, where there is a line
pub told_each : (P : Deed → Type 0) → ((l : Line) → rights_told l ≡ None → P (Told l)) → (o : Option Line) → IsPlainOr o → All P (told o)
told_each P tells None plain = All-nil P
told_each P tells (Some l) plain = All-cons P (Told l) [] (tells l plain) (All-nil P)

module _ (P : Deed → Type 0) (tells : (l : Line) → rights_told l ≡ None → P (Told l)) (c : ObjectCall) (did : (outcome : Outcome) → P (Did c.call outcome)) where
  -- of a call and its line
  pub on_each : (s : Client) → All P (calls_on s c)
  on_each s =
      let outcome = outcome_of s c.call in
      All-cons P (Did c.call outcome) (told (line_on s.client c outcome)) (did outcome) (told_each P tells (line_on s.client c outcome) (plain_on s.client c outcome))

  module _ (fetched : (i : ℕ) (here : List ℕ) (fate : Fate) → P (Asked i (Fetch c.object here) fate)) (changed : (i : ℕ) (from here : List ℕ) (fate : Fate) → P (Asked i (Delta c.object from here) fate)) where
    -- of an ask for the object
    ask_each : (s : Client) (i : ℕ) (fate : Fate) → P (Asked i (fetch_of s c.object) fate)
    ask_each s i fate = object_ask (λ ask. P (Asked i ask fate)) s c.object (λ here. fetched i here fate) (λ from here. changed i from here fate)

    -- of its second copy
    copies_each : (armed : Option AskFault) (i : ℕ) (s : Client) (say : Say) → All P (copies armed i (fetch_of s c.object) say)
    copies_each (Some Twice) i s say = All-cons P (Asked i (fetch_of s c.object) (Unheard say)) [] (ask_each s i (Unheard say)) (All-nil P)
    copies_each (Some LoseAsk) i s say = All-nil P
    copies_each (Some LoseReply) i s say = All-nil P
    copies_each None i s say = All-nil P

    -- of what follows the last one
    after_each : (s : Client) (i : ℕ) (fate : Fate) → All P (after_fetch s i c fate)
    after_each s i fate = go (took s i (fetch_of s c.object) fate)
      where
        go : (b : Bool) → All P (cond b (calls_on (after s (Asked i (fetch_of s c.object) fate)) c) (told (fetch_line s.client c fate)))
        go true = on_each (after s (Asked i (fetch_of s c.object) fate))
        go false = told_each P tells (fetch_line s.client c fate) (plain_fetch s.client c fate)

    -- of an ask with its copies, and what follows
    asks_each : (s : Client) (armed : Option AskFault) (i : ℕ) (following : Fate → List Deed) (deeds : List Deed) → ((fate : Fate) → All P (following fate)) → Asks armed i (fetch_of s c.object) following deeds → All P deeds
    asks_each s armed i following deeds rest asks =
        let fate = fate_of armed asks.say in
        let second = copies armed i (fetch_of s c.object) asks.again in
        subst (All P) (sym asks.whole)
        (All-cons P (Asked i (fetch_of s c.object) fate) (second ++ following fate) (ask_each s i fate)
        (All-append P second (following fate) (copies_each armed i s asks.again) (rest fate)))

    -- of a fetch
    fetch_each : (p : Progress) (deeds : List Deed) → FetchDeeds p c deeds → All P deeds
    fetch_each p deeds fetch = go p.client.link fetch
      where
        go : (link : Option Connection) → OrTells link (line.Unconnected p.client.client c.word c.shown) (Fetches p c) deeds → All P deeds
        go None are = subst (All P) (sym are) (told_each P tells (Some (line.Unconnected p.client.client c.word c.shown)) refl)
        go (Some link) fetches = fetches_hold (All P) (All-append P) p c link deeds
            (λ first asks. asks_each p.client p.armed link.centre (λ fate. []) first (λ fate. All-nil P) asks)
            (λ last asks. asks_each p.client p.armed link.centre (after_fetch p.client link.centre c) last (after_each p.client link.centre) asks)
            (λ say last asks. asks_each (let_go p link c say) None link.centre (after_fetch (let_go p link c say) link.centre c) last (after_each (let_go p link c say) link.centre) asks) fetches

    -- of all that a call on an object does
    pub object_each : (p : Progress) (outcome : Outcome) (deeds : List Deed) → CallDeeds p c outcome deeds → All P deeds
    object_each p (Refused (NeedsFetch o)) deeds r = subst (All P) (sym r.whole) (All-cons P (Did c.call (outcome_of p.client c.call)) r.rest (did (outcome_of p.client c.call)) (fetch_each p r.rest r.fetch))
    object_each p _ deeds are = subst (All P) (sym are) (on_each p.client)
