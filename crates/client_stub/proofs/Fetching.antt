-- Fetches for calls, as growth.
use Rattle.std.proofs.Common.{◌≡◌, inl, inr, ℕ, Bool, true, false, ◌&&◌, cond, not, List, [], ◌∷◌, ◌++◌, Option, Some, None, Ok, Err, refl, sym, ap, ◌∙◌, subst}
use Rattle.std.proofs.lemmas.List.{append-nil}
use Rattle.ids_core.specs.declared.object.ObjectId.{ObjectId}
use Rattle.vv_core.specs.Vectors.{covers}
use Rattle.dc_talk.specs.declared.ask.Ask.{Ask}
use Rattle.dc_talk.specs.declared.ask.Ask.TheVariants.{Fetch, Delta}
use Rattle.dc_talk.specs.declared.say.Say.{Say}
use Rattle.dc_talk.specs.declared.say.Say.TheVariants.{Object, Changes, Pruned}
use Rattle.dc_talk.specs.declared.calls.Cached.{Cached}
use Rattle.dc_talk.specs.declared.calls.Connection.{Connection}
use Rattle.dc_talk.specs.declared.calls.Refusal.{Refusal}
use Rattle.dc_talk.specs.declared.log.Fate.{Fate}
use Rattle.dc_talk.specs.declared.log.Fate.TheVariants.{Heard}
use Rattle.dc_talk.specs.declared.log.Deed.{Deed}
use Rattle.dc_talk.specs.declared.log.Deed.TheVariants.{Asked, Told}
use Rattle.dc_talk.specs.declared.line.Line.{Line}
use Rattle.dc_talk.specs.declared.line.Line.TheVariants as line
use Rattle.dc_talk.specs.Logs.{Logged}
use Rattle.dc_talk.specs.Acting.{Acting, IsCutShort, acting, noted_all}
use Rattle.dc_talk.specs.Clients.{Client, same_vector, entry_of}
use Rattle.dc_talk.specs.Rule.{after, ask_over, fetch_of, takes, taken}
use Rattle.client_session.specs.SessionAnswers.{fetch_ask}
use Rattle.script_core.specs.declared.object_call.ObjectCall.{ObjectCall}
use Rattle.script_core.specs.declared.steps.AskFault.{AskFault}
use Rattle.script_core.specs.declared.steps.AskFault.TheVariants.{LoseAsk, LoseReply, Twice}
use Rattle.script_core.specs.Deeds.{Asks, FetchDeeds, Fetches, OrTells, after_all, after_fetch, asks_on, calls_on, copies, fate_of, is_pruned, told, took}
use Rattle.client_stub.specs.declared.purpose.Purpose.TheVariants as purpose
use Rattle.client_stub.specs.declared.purpose.Next.{Next}
use Rattle.client_stub.specs.declared.purpose.Next.TheVariants.{Done, GoesOn, AsksOn}
use Rattle.client_stub.specs.Playing.{Playing, Grows, progress}
use Rattle.client_stub.specs.Purposes.{next_where, is_more}
use Rattle.client_stub.specs.Errands.{GrowsBy, MakesCall, Runs, line_of, used_by}
use Rattle.client_stub.specs.Fetches.{AsksOnce, StateDeeds, Seeks, fetch_errand}
use Rattle.client_stub.proofs.Growth.{cut_grown, grows_then}
use Rattle.client_stub.proofs.Calling.{used_then}
use Rattle.client_stub.proofs.SessionAsks.{fetch_asks, fetch_refused}
use Rattle.client_stub.proofs.Stepping.{errand, grows_line, over_some, over_none}

-- ---- the link, which an ask for an object leaves as it is

module _ (s : Client) (i : ℕ) where
  -- an answer that is taken changes the cache alone
  fetch_taken : (o : ObjectId) (w : List ℕ) (say : Say) → (taken s i (Fetch o w) say).link ≡ s.link
  fetch_taken o w (Object state) = refl
  fetch_taken o w _ = refl

  delta_taken : (o : ObjectId) (from w : List ℕ) (say : Say) → (taken s i (Delta o from w) say).link ≡ s.link
  delta_taken o from w (Object state) = refl
  delta_taken o from w (Changes tail) = refl
  delta_taken o from w (Pruned centre base low) = refl
  delta_taken o from w _ = refl

  -- so what became of the ask leaves the link
  link_after : (ask : Ask) → ((say : Say) → (taken s i ask say).link ≡ s.link) → (fate : Fate) → (after s (Asked i ask fate)).link ≡ s.link
  link_after ask same (Heard say) = by_test (takes s i ask say)
    where
      by_test : (test : Bool) → (cond test (taken s i ask say) s).link ≡ s.link
      by_test true = same say
      by_test false = refl
  link_after ask same _ = refl

  -- whatever was asked for the object
  link_sought : (o : ObjectId) (fate : Fate) → (after s (Asked i (fetch_of s o) fate)).link ≡ s.link
  link_sought o fate = by (entry_of o s.cache)
    where
      by_test : (from : List ℕ) (test : Bool) → (after s (Asked i (cond test (Delta o from s.vector) (Fetch o s.vector)) fate)).link ≡ s.link
      by_test from true = link_after (Delta o from s.vector) (delta_taken o from s.vector) fate
      by_test from false = link_after (Fetch o s.vector) (fetch_taken o s.vector) fate

      by : (found : Option Cached) → (after s (Asked i (ask_over o s.vector found) fate)).link ≡ s.link
      by None = link_after (Fetch o s.vector) (fetch_taken o s.vector) fate
      by (Some entry) = by_test entry.vector (covers s.vector entry.vector && not (same_vector entry.vector s.vector))

-- ---- what the step does after an ask

-- the step has come to its end where the session took nothing
done_where : (t p : Bool) → Done ≡ cond (t && p) AsksOn (next_where t) → t ≡ false
done_where true true is = cc
done_where true false is = cc
done_where false p is = refl

-- it goes on where the session took what does not say that the centre has pruned it
goes_where : (t p : Bool) → GoesOn ≡ cond (t && p) AsksOn (next_where t) → (t ≡ true) × (t && p ≡ false)
goes_where true true is = cc
goes_where true false is = (refl, refl)
goes_where false p is = cc

-- it asks on where the session took what does
asks_where : (t p : Bool) → AsksOn ≡ cond (t && p) AsksOn (next_where t) → (t ≡ true) × (t && p ≡ true)
asks_where true true is = (refl, refl)
asks_where true false is = cc
asks_where false p is = cc

-- it goes on in any way where the session took anything
more_where : (t p : Bool) → is_more (cond (t && p) AsksOn (next_where t)) ≡ t
more_where true true = refl
more_where true false = refl
more_where false p = refl

-- ---- the deeds of one ask

-- an ask that the session took nothing of is followed by its line
missed : (s : Client) (c : ObjectCall) (link : Connection) (fate : Fate) → took s link.centre (fetch_of s c.object) fate ≡ false → told (line_of s (fetch_errand s c link) fate) ≡ after_fetch s link.centre c fate
missed s c link fate t = rw t refl

-- one that it took an answer to has no line
silent : (s : Client) (c : ObjectCall) (link : Connection) (fate : Fate) → took s link.centre (fetch_of s c.object) fate ≡ true → line_of s (fetch_errand s c link) fate ≡ None
silent s c link fate t = rw t refl

-- what follows it is the call
fetched : (s : Client) (i : ℕ) (c : ObjectCall) (fate : Fate) → took s i (fetch_of s c.object) fate ≡ true → calls_on (after s (Asked i (fetch_of s c.object) fate)) c ≡ after_fetch s i c fate
fetched s i c fate t = rw t refl

-- a second copy changes no client
after_copies : (s : Client) (armed : Option AskFault) (i : ℕ) (ask : Ask) (say : Say) → after_all s (copies armed i ask say ++ []) ≡ s
after_copies s (Some Twice) i ask say = refl
after_copies s (Some LoseAsk) i ask say = refl
after_copies s (Some LoseReply) i ask say = refl
after_copies s None i ask say = refl

-- a client that grows by one ask for the object of a call, which was answered so, and by what follows it
record Comes (p r : Playing) (c : ObjectCall) (link : Connection) (say : Say) : Type 0 where
  deeds : List Deed
  asks : AsksOnce (progress p) c link deeds
  said : asks.say ≡ say
  grows : Grows p r deeds
  armed : r.armed ≡ used_by p.armed deeds

module _ (p q : Playing) (c : ObjectCall) (link : Connection) (next : Next) (run : Runs (fetch_errand p.client c link) p q next) where
  -- the ask, and what became of it
  abbrev the_ask : Ask
  the_ask = fetch_of p.client c.object

  abbrev fate : Fate
  fate = fate_of p.armed run.asks.say

  abbrev takes_it : Bool
  takes_it = took p.client link.centre the_ask fate

  -- the session took nothing
  comes_missed : takes_it ≡ false → Comes p q c link run.asks.say
  comes_missed t = record {
    deeds = run.deeds;
    asks = record {
      say = run.asks.say;
      again = run.asks.again;
      whole = run.asks.whole ∙ ap (λ ds. Asked link.centre the_ask fate ∷ (copies p.armed link.centre the_ask run.asks.again ++ ds)) (missed p.client c link fate t);
    };
    said = refl;
    grows = run.grows;
    armed = run.armed ∙ sym (ap (used_by p.armed) run.asks.whole);
  }

  -- it took something, and there is no line
  bare : takes_it ≡ true → run.deeds ≡ Asked link.centre the_ask fate ∷ (copies p.armed link.centre the_ask run.asks.again ++ [])
  bare t = run.asks.whole ∙ ap (λ (l : Option Line). Asked link.centre the_ask fate ∷ (copies p.armed link.centre the_ask run.asks.again ++ told l)) (silent p.client c link fate t)

  -- the client is the one behind the ask
  behind_it : takes_it ≡ true → q.client ≡ after p.client (Asked link.centre the_ask fate)
  behind_it t = run.grows.client ∙ (ap (after_all p.client) (bare t) ∙ after_copies (after p.client (Asked link.centre the_ask fate)) p.armed link.centre the_ask run.asks.again)

  -- the call is made again
  comes_called : (r : Playing) (needs : Bool) → takes_it ≡ true → MakesCall c q r needs → Comes p r c link run.asks.say
  comes_called r needs t calling =
      let i : ℕ = link.centre in
      let cs : List Deed = copies p.armed i the_ask run.asks.again in
      let later : List Deed = calls_on (after p.client (Asked i the_ask fate)) c in
      let more : Grows q r later = subst (λ s. Grows q r (calls_on s c)) (behind_it t) calling.grows in
      let all : run.deeds ++ later ≡ Asked i the_ask fate ∷ (cs ++ later) = ap (λ ds. ds ++ later) (bare t) ∙ ap (λ ds. Asked i the_ask fate ∷ (ds ++ later)) (append-nil cs) in
      record {
        deeds = run.deeds ++ later;
        asks = record {
          say = run.asks.say;
          again = run.asks.again;
          whole = all ∙ ap (λ ds. Asked i the_ask fate ∷ (cs ++ ds)) (fetched p.client i c fate t);
        };
        said = refl;
        grows = grows_then p q r run.deeds later run.grows more;
        armed = calling.armed ∙ (run.armed ∙ sym (ap (used_by p.armed) all));
      }

-- ---- one ask

module _ (p r : Playing) (c : ObjectCall) (link : Connection) (say : Say) where
  -- it is all that comes, where there is no more to ask for
  once_by : p.client.link ≡ Some link → asks_on p.client link.centre (fetch_of p.client c.object) (fate_of p.armed say) ≡ false → Comes p r c link say → GrowsBy (FetchDeeds (progress p) c) p r
  once_by linked last comes = record {
    deeds = comes.deeds;
    such = over_some p.client.link link (line.Unconnected p.client.client c.word c.shown) (Fetches (progress p) c) comes.deeds linked
        (inl (record { asks = comes.asks; last = ap (λ say. asks_on p.client link.centre (fetch_of p.client c.object) (fate_of p.armed say)) comes.said ∙ last }));
    grows = comes.grows;
    armed = comes.armed;
  }

  -- or the state was asked for
  state_by : p.client.link ≡ Some link → Comes p r c link say → GrowsBy (StateDeeds (progress p) c) p r
  state_by linked comes = record {
    deeds = comes.deeds;
    such = over_some p.client.link link (line.Unconnected p.client.client c.word c.shown) (AsksOnce (progress p) c) comes.deeds linked comes.asks;
    grows = comes.grows;
    armed = comes.armed;
  }

-- ---- the ask for the object of a call

-- it goes over the link
pub sought : (p q : Playing) (c : ObjectCall) (i : ℕ) (ask : Ask) (next : Next) → fetch_ask p.client c.object ≡ Ok (i, ask) → Runs (errand (purpose.Fetch c) i ask) p q next → Seeks c p.client.link p q next
sought p q c i ask next asked runs =
    let a = fetch_asks p.client c.object i ask asked in
    let run : Runs (fetch_errand p.client c a.link) p q next = subst (λ ask. Runs (errand (purpose.Fetch c) a.link.centre ask) p q next) a.asks (subst (λ i. Runs (errand (purpose.Fetch c) i ask) p q next) a.centre runs) in
    subst (λ link. Seeks c link p q next) (sym a.linked) run

-- where there is none, the line says so
pub unlinked : (p : Playing) (later : Logged) (c : ObjectCall) (client : ℕ) (r : Refusal) → fetch_ask p.client c.object ≡ Err r → client ≡ p.client.client → later ≡ noted_all p.log (told (Some (line.Unconnected client c.word c.shown))) → Seeks c p.client.link p (record p { log = later }) Done
unlinked p later c client r asked same is =
    let line_is : line.Unconnected client c.word c.shown ≡ line.Unconnected p.client.client c.word c.shown = ap (λ n. line.Unconnected n c.word c.shown) same in
    let by : GrowsBy (λ deeds. deeds ≡ Told (line.Unconnected p.client.client c.word c.shown) ∷ []) p (record p { log = later }) = grows_line (λ deeds. deeds ≡ Told (line.Unconnected p.client.client c.word c.shown) ∷ []) p later (line.Unconnected client c.word c.shown) (line.Unconnected p.client.client c.word c.shown) is line_is refl in
    subst (λ link. Seeks c link p (record p { log = later }) Done) (sym (fetch_refused p.client c.object r asked)) (refl, by)

-- an early end behind it
pub cut_sought : (p q : Playing) (c : ObjectCall) (next : Next) (b : Acting) → Seeks c p.client.link p q next → IsCutShort (acting q.door q.log) b → IsCutShort (acting p.door p.log) b
cut_sought p q c next b seeks later = by p.client.link seeks
  where
    by : (link : Option Connection) → Seeks c link p q next → IsCutShort (acting p.door p.log) b
    by None told = cut_grown p q b told.1.deeds told.1.grows later
    by (Some link) run = cut_grown p q b run.deeds run.grows later

-- ---- one ask with what follows it

-- it has come to its end
pub state_done : (p q : Playing) (c : ObjectCall) (next : Next) → is_more next ≡ false → Seeks c p.client.link p q next → GrowsBy (StateDeeds (progress p) c) p q
state_done p q c next stops seeks = by p.client.link refl seeks
  where
    by : (link : Option Connection) → p.client.link ≡ link → Seeks c link p q next → GrowsBy (StateDeeds (progress p) c) p q
    by None linked told = record {
      deeds = told.1.deeds;
      such = subst (λ link. OrTells link (line.Unconnected p.client.client c.word c.shown) (AsksOnce (progress p) c) told.1.deeds) (sym linked) told.1.such;
      grows = told.1.grows;
      armed = told.1.armed;
    }
    by (Some link) linked run =
        let fate : Fate = fate_of p.armed run.asks.say in
        let t : took p.client link.centre (fetch_of p.client c.object) fate ≡ false = sym (more_where (took p.client link.centre (fetch_of p.client c.object) fate) (is_pruned fate)) ∙ (sym (ap is_more run.goes) ∙ stops) in
        state_by p q c link run.asks.say linked (comes_missed p q c link next run t)

-- the call is made again
pub state_called : (p q r : Playing) (c : ObjectCall) (next : Next) (needs : Bool) → is_more next ≡ true → Seeks c p.client.link p q next → MakesCall c q r needs → GrowsBy (StateDeeds (progress p) c) p r
state_called p q r c next needs goes seeks calling = by p.client.link refl seeks
  where
    by : (link : Option Connection) → p.client.link ≡ link → Seeks c link p q next → GrowsBy (StateDeeds (progress p) c) p r
    by None linked told = let no : false ≡ true = sym (ap is_more told.0) ∙ goes in cc
    by (Some link) linked run =
        let fate : Fate = fate_of p.armed run.asks.say in
        let t : took p.client link.centre (fetch_of p.client c.object) fate ≡ true = sym (more_where (took p.client link.centre (fetch_of p.client c.object) fate) (is_pruned fate)) ∙ (sym (ap is_more run.goes) ∙ goes) in
        state_by p r c link run.asks.say linked (comes_called p q c link next run r needs t calling)

-- ---- a fetch

-- it has come to its end
pub fetch_done : (p q : Playing) (c : ObjectCall) (next : Next) → next ≡ Done → Seeks c p.client.link p q next → GrowsBy (FetchDeeds (progress p) c) p q
fetch_done p q c next is seeks = by p.client.link refl seeks
  where
    by : (link : Option Connection) → p.client.link ≡ link → Seeks c link p q next → GrowsBy (FetchDeeds (progress p) c) p q
    by None linked told = record {
      deeds = told.1.deeds;
      such = subst (λ link. OrTells link (line.Unconnected p.client.client c.word c.shown) (Fetches (progress p) c) told.1.deeds) (sym linked) told.1.such;
      grows = told.1.grows;
      armed = told.1.armed;
    }
    by (Some link) linked run =
        let fate : Fate = fate_of p.armed run.asks.say in
        let t = done_where (took p.client link.centre (fetch_of p.client c.object) fate) (is_pruned fate) (sym is ∙ run.goes) in
        once_by p q c link run.asks.say linked (ap (λ t. t && is_pruned fate) t) (comes_missed p q c link next run t)

-- the call is made again
pub fetch_called : (p q r : Playing) (c : ObjectCall) (next : Next) (needs : Bool) → next ≡ GoesOn → Seeks c p.client.link p q next → MakesCall c q r needs → GrowsBy (FetchDeeds (progress p) c) p r
fetch_called p q r c next needs is seeks calling = by p.client.link refl seeks
  where
    by : (link : Option Connection) → p.client.link ≡ link → Seeks c link p q next → GrowsBy (FetchDeeds (progress p) c) p r
    by None linked told = let no : GoesOn ≡ Done = sym is ∙ told.0 in cc
    by (Some link) linked run =
        let fate : Fate = fate_of p.armed run.asks.say in
        let t = goes_where (took p.client link.centre (fetch_of p.client c.object) fate) (is_pruned fate) (sym is ∙ run.goes) in
        once_by p r c link run.asks.say linked t.1 (comes_called p q c link next run r needs t.0 calling)

-- the state is asked for behind it
twice_by : (p q r : Playing) (c : ObjectCall) (link : Connection) (next : Next) → next ≡ AsksOn → p.client.link ≡ Some link → Runs (fetch_errand p.client c link) p q next → GrowsBy (StateDeeds (progress q) c) q r → GrowsBy (FetchDeeds (progress p) c) p r
twice_by p q r c link next is linked run state =
    let s = p.client in
    let i : ℕ = link.centre in
    let ask : Ask = fetch_of s c.object in
    let fate : Fate = fate_of p.armed run.asks.say in
    let t = asks_where (took s i ask fate) (is_pruned fate) (sym is ∙ run.goes) in
    let it : run.deeds ≡ Asked i ask fate ∷ (copies p.armed i ask run.asks.again ++ []) = bare p q c link next run t.0 in
    let gone : Client = after s (Asked i ask fate) in
    let same : q.client ≡ gone = behind_it p q c link next run t.0 in
    let still : gone.link ≡ Some link = link_sought s i c.object fate ∙ linked in
    let unarmed : StateDeeds (record { client = q.client; armed = None; notes = q.log.notes }) c state.deeds = subst (λ (armed : Option AskFault). StateDeeds (record { client = q.client; armed = armed; notes = q.log.notes }) c state.deeds) run.armed state.such in
    let moved : StateDeeds (record { client = gone; armed = None; notes = q.log.notes }) c state.deeds = subst (λ (s : Client). StateDeeds (record { client = s; armed = None; notes = q.log.notes }) c state.deeds) same unarmed in
    let over : AsksOnce (record { client = gone; armed = None; notes = q.log.notes }) c link state.deeds = subst (λ link. OrTells link (line.Unconnected gone.client c.word c.shown) (AsksOnce (record { client = gone; armed = None; notes = q.log.notes }) c) state.deeds) still moved in
    record {
      deeds = run.deeds ++ state.deeds;
      such = over_some s.link link (line.Unconnected s.client c.word c.shown) (Fetches (progress p) c) (run.deeds ++ state.deeds) linked (inr (record {
        first = run.deeds;
        rest = state.deeds;
        whole = refl;
        asks = record { say = run.asks.say; again = run.asks.again; whole = it };
        on = t.1;
        then = over;
      }));
      grows = grows_then p q r run.deeds state.deeds run.grows state.grows;
      armed = state.armed ∙ used_then p.armed q.armed run.deeds state.deeds (run.armed ∙ sym (ap (used_by p.armed) run.asks.whole));
    }

pub fetch_again : (p q r : Playing) (c : ObjectCall) (next : Next) → next ≡ AsksOn → Seeks c p.client.link p q next → GrowsBy (StateDeeds (progress q) c) q r → GrowsBy (FetchDeeds (progress p) c) p r
fetch_again p q r c next is seeks state = by p.client.link refl seeks
  where
    by : (link : Option Connection) → p.client.link ≡ link → Seeks c link p q next → GrowsBy (FetchDeeds (progress p) c) p r
    by None linked told = let no : AsksOn ≡ Done = sym is ∙ told.0 in cc
    by (Some link) linked run = twice_by p q r c link next is linked run state
