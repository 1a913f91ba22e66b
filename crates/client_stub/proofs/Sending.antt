-- An ask under the fault that is armed, its second copy and its line, as growth.
use Rattle.std.proofs.Common.{◌≡◌, ◌≢◌, ◌<◌, ◌^◌, ℕ, Bool, inl, inr, List, [], ◌∷◌, ◌++◌, length, Option, Some, None, refl, sym, ap, ◌∙◌, subst}
use Rattle.std.proofs.lemmas.Bool.{eq-eqb}
use Rattle.std.proofs.lemmas.List.Elements.{All-nil, All-cons}
use Rattle.dc_talk.specs.declared.ask.Ask.{Ask}
use Rattle.dc_talk.specs.declared.say.Say.{Say}
use Rattle.dc_talk.specs.declared.say.Say.TheVariants.{Misfit}
use Rattle.dc_talk.specs.declared.log.Fate.{Fate}
use Rattle.dc_talk.specs.declared.log.Fate.TheVariants.{AskLost, Heard, Unheard}
use Rattle.dc_talk.specs.declared.log.Deed.{Deed}
use Rattle.dc_talk.specs.declared.log.Deed.TheVariants.{Asked}
use Rattle.dc_talk.specs.declared.line.Line.{Line}
use Rattle.dc_talk.specs.Logs.{Logged, marked, noted, entry_for, entries_made}
use Rattle.dc_talk.specs.Doors.{DoorView, IsBehind, HasDone}
use Rattle.dc_talk.specs.Rule.{after, Gives}
use Rattle.script_core.specs.declared.steps.AskFault.{AskFault}
use Rattle.script_core.specs.declared.steps.AskFault.TheVariants.{LoseAsk, LoseReply, Twice}
use Rattle.script_core.specs.Deeds.{copies, fate_of, told, took}
use Rattle.client_stub.specs.declared.purpose.Errand.{Errand}
use Rattle.client_stub.specs.declared.purpose.Next.{Next}
use Rattle.client_stub.specs.Purposes.{line_after, next_after}
use Rattle.dc_talk.specs.Acting.{Acting, Leaves, IsAskBehind, IsCutShort, acting, noted_all}
use Rattle.dc_talk.proofs.Doors.{made_one}
use Rattle.script_core.specs.Orders.{Orders}
use Rattle.dc_worker.specs.Work.{AddsSuch}
use Rattle.client_stub.specs.Playing.{Playing, StubView, Grows, beside}
use Rattle.client_stub.specs.Errands.{AsksAgain, HasAskedFor, Runs, copied, line_of, next_of, second_of}
use Rattle.dc_talk.proofs.Acting.{leaves_none}
use Rattle.client_stub.proofs.Growth.{grows_leaves, grows_then, grows_told, cut_grown}

-- what became of an ask under the fault that is armed, and whether the session took it
pub record HasReached (e : Errand) (old : Playing) (new : StubView) (later : DoorView) (it : Fate × Bool) : Type 0 where
  pub fate : (say : Say) × (it.0 ≡ fate_of old.armed say)
  pub took : it.1 ≡ took old.client e.centre e.ask it.0
  pub stub : new ≡ record { client = after old.client (Asked e.centre e.ask it.0); armed = None }
  pub door : HasDone old.door later (Asked e.centre e.ask it.0 ∷ [])
  pub room : it.0 ≢ AskLost → length (later.made e.centre) < 2 ^ 62

-- its note
pub asked_for : (e : Errand) (p : Playing) (stub : StubView) (door : DoorView) (it : Fate × Bool) (later : Logged) (client : ℕ) (told : Option Line × Next) → Gives p.client e.centre e.ask → IsBehind p.door e.centre → HasReached e p stub door it → later ≡ noted p.log (Asked e.centre e.ask it.0) → client ≡ p.client.client → told.0 ≡ line_after e.purpose client it.1 it.0 → told.1 ≡ next_after e.purpose it.1 it.0 → HasAskedFor e p (beside stub door later) told
asked_for e p stub door it later client told gives behind reached same who line next = record {
  say = reached.fate.0;
  fate = it.0;
  became = reached.fate.1;
  grows = record {
    log = same;
    client = ap (λ (s : StubView). s.client) reached.stub;
    door = reached.door;
    allowed = (inl gives, tt);
    behind = All-cons (IsAskBehind p.door) (Asked e.centre e.ask it.0) [] behind (All-nil (IsAskBehind p.door));
  };
  armed = ap (λ (s : StubView). s.armed) reached.stub;
  line = line ∙ (ap (λ n. line_after e.purpose n it.1 it.0) who ∙ ap (λ took. line_after e.purpose p.client.client took it.0) reached.took);
  next = next ∙ ap (λ took. next_after e.purpose took it.0) reached.took;
  short = reached.room;
}

-- an early end behind it
pub cut_asked_for : (e : Errand) (p q : Playing) (it : Option Line × Next) (b : Acting) → HasAskedFor e p q it → IsCutShort (acting q.door q.log) b → IsCutShort (acting p.door p.log) b
cut_asked_for e p q it b asked later = cut_grown p q b (Asked e.centre e.ask asked.fate ∷ []) asked.grows later

-- no second copy
pub again_none : (i : ℕ) (copy : Option Ask) (a : Acting) → copy ≡ None → AsksAgain i copy a a
again_none i copy a none = subst (λ copy. AsksAgain i copy a a) (sym none) (record { say = Misfit; leaves = leaves_none a; short = λ few. few })

-- a second copy that was asked
pub again_one : (i : ℕ) (copy : Option Ask) (ask : Ask) (a b : Acting) → copy ≡ Some ask → AddsSuch (Orders i ask) a b → AsksAgain i copy a b
again_one i copy ask a b is asked =
    let say : Say = asked.such.0 in
    let actor = a.door.actor in
    let made : entries_made actor i asked.deeds ≡ entry_for actor (ask, say) ∷ [] = ap (entries_made actor i) asked.such.1 ∙ made_one actor i i ask (Unheard say) say (eq-eqb i i refl) refl in
    subst (λ copy. AsksAgain i copy a b) (sym is) (record {
      say = say;
      leaves = subst (λ deeds. Leaves a b deeds) asked.such.1 asked.adds.leaves;
      short = λ few. asked.adds.short i (λ none. let empty : entry_for actor (ask, say) ∷ [] ≡ [] = sym made ∙ none in cc);
    })

-- a second copy, right behind the ask that it is of
second_grows : (armed : Option AskFault) (q : Playing) (a : Acting) (i : ℕ) (ask : Ask) (say again : Say) (before : Logged) → q.log ≡ noted before (Asked i ask (fate_of armed say)) → Leaves (acting q.door q.log) a (copied i (second_of armed ask) again) → Grows q (record q { door = a.door; log = a.log }) (copies armed i ask again)
second_grows (Some Twice) q a i ask say again before last leaves = grows_leaves q a (Asked i ask (Unheard again) ∷ []) leaves refl (
  inr (inr (record {
    say = again;
    unheard = refl;
    earlier = before.notes;
    last = marked before.section before.step (Asked i ask (Heard say));
    there = ap (λ (log : Logged). log.notes) last;
    first = say;
    same = refl;
  })),
  tt,
)
second_grows (Some LoseAsk) q a i ask say again before last leaves = grows_leaves q a [] leaves refl tt
second_grows (Some LoseReply) q a i ask say again before last leaves = grows_leaves q a [] leaves refl tt
second_grows None q a i ask say again before last leaves = grows_leaves q a [] leaves refl tt

-- an errand: its ask, the second copy, and its line
pub runs : (e : Errand) (p q : Playing) (a : Acting) (later : Logged) (copy : Option Ask) (it : Option Line × Next) → HasAskedFor e p q it → copy ≡ second_of p.armed e.ask → AsksAgain e.centre copy (acting q.door q.log) a → later ≡ noted_all a.log (told it.0) → Runs e p (record q { door = a.door; log = later }) it.1
runs e p q a later copy it asked copy_is again is =
    let third : Playing = record q { door = a.door; log = a.log } in
    let cs : List Deed = copies p.armed e.centre e.ask again.say in
    let first_log : q.log ≡ noted p.log (Asked e.centre e.ask (fate_of p.armed asked.say)) = asked.grows.log ∙ ap (λ fate. noted p.log (Asked e.centre e.ask fate)) asked.became in
    let second : Grows q third cs = second_grows p.armed q a e.centre e.ask asked.say again.say p.log first_log (subst (λ copy. Leaves (acting q.door q.log) a (copied e.centre copy again.say)) copy_is again.leaves) in
    let last : Grows third (record q { door = a.door; log = later }) (told it.0) = subst (λ (log : Logged). Grows third (record q { door = a.door; log = log }) (told it.0)) (sym is) (grows_told third it.0) in
    let s = p.client in
    record {
      deeds = Asked e.centre e.ask asked.fate ∷ (cs ++ told it.0);
      asks = record {
        say = asked.say;
        again = again.say;
        whole = ap (λ line. Asked e.centre e.ask asked.fate ∷ (cs ++ told line)) asked.line ∙ ap (λ fate. Asked e.centre e.ask fate ∷ (cs ++ told (line_of s e fate))) asked.became;
      };
      grows = grows_then p q (record q { door = a.door; log = later }) (Asked e.centre e.ask asked.fate ∷ []) (cs ++ told it.0) asked.grows (grows_then q third (record q { door = a.door; log = later }) cs (told it.0) second last);
      armed = asked.armed;
      goes = asked.next ∙ ap (next_of s e) asked.became;
      short = λ reached. again.short (asked.short (λ lost. reached (sym asked.became ∙ lost)));
    }
