-- A flush pushes while commits are left, and each push that it goes on after leaves less room at the door.
use Rattle.std.proofs.Common.{◌≡◌, ◌≢◌, ◌<◌, ℕ, ◌-◌, ◌^◌, Bool, true, false, cond, List, [], ◌∷◌, ◌++◌, length, Option, Some, None, Ok, refl, sym, ap, ◌∙◌, subst, append_assoc, arith}
use Rattle.std.proofs.lemmas.List.{append-nil}
use Rattle.tx_core.specs.declared.tx.Tx.{Tx}
use Rattle.dc_talk.specs.declared.ask.Ask.{Ask}
use Rattle.dc_talk.specs.declared.ask.Ask.TheVariants.{Commit as CommitAsk}
use Rattle.dc_talk.specs.declared.say.Say.{Say}
use Rattle.dc_talk.specs.declared.say.Say.TheVariants.{Known, Stamped}
use Rattle.dc_talk.specs.declared.calls.Connection.{Connection}
use Rattle.dc_talk.specs.declared.log.Deed.{Deed}
use Rattle.dc_talk.specs.declared.log.Deed.TheVariants.{Asked}
use Rattle.dc_talk.specs.declared.log.Fate.{Fate}
use Rattle.dc_talk.specs.declared.log.Fate.TheVariants.{AskLost, ReplyLost, Heard, Unheard}
use Rattle.dc_talk.specs.declared.line.Line.TheVariants as line
use Rattle.dc_talk.specs.Logs.{Logged, answered}
use Rattle.dc_talk.specs.Clients.{Client}
use Rattle.dc_talk.specs.Doors.{DoorView}
use Rattle.dc_talk.specs.Rule.{after, heard, takes, taken}
use Rattle.dc_talk.proofs.Doors.{done_longer}
use Rattle.client_session.specs.SessionAnswers.{commit_ask}
use Rattle.script_core.specs.declared.steps.AskFault.{AskFault}
use Rattle.script_core.specs.declared.steps.AskFault.TheVariants.{LoseAsk, LoseReply, Twice}
use Rattle.script_core.specs.declared.steps.ClientStep.TheVariants.{Flush as FlushStep}
use Rattle.script_core.specs.Deeds.{FlushDeeds, FlushEnds, Progress, Pushes, PushesOn, after_all, copies, fate_of, goes_on, push_line, told, flush_ends, flush_goes}
use Rattle.client_stub.specs.declared.purpose.Purpose.TheVariants as purpose
use Rattle.client_stub.specs.declared.purpose.Next.{Next}
use Rattle.dc_talk.specs.Acting.{noted_all}
use Rattle.client_stub.specs.Playing.{Playing, Grows, Takes, progress}
use Rattle.client_stub.specs.Purposes.{is_more, next_where}
use Rattle.client_stub.specs.Errands.{FlushesOn, GrowsBy, HasPushedOn, Runs, number_in, room, room_over, used_by}
use Rattle.client_stub.proofs.Growth.{grows_then, grows_none}
use Rattle.client_stub.proofs.Calling.{used_then}
use Rattle.client_stub.proofs.SessionAsks.{PushAsks, push_asks, push_idle}
use Rattle.client_stub.proofs.Stepping.{errand, grows_line, next_errand, next_there, next_idle, next_unlinked, takes_by}

-- ---- the room that a push leaves

-- what became of a commit ask leaves the client at its centre
room_taken : (door : DoorView) (s : Client) (link : Connection) (i : ℕ) (tx : Tx) (say : Say) → s.link ≡ Some link → room_over door (taken s i (CommitAsk tx) say).link ≡ room_over door (Some link)
room_taken door s link i tx (Stamped stamp) linked = rw linked refl
room_taken door s link i tx (Known through) linked = rw linked refl
room_taken door s link i tx _ linked = ap (room_over door) linked

-- so does hearing an answer, taken or not
room_heard : (door : DoorView) (s : Client) (link : Connection) (i : ℕ) (tx : Tx) (say : Say) → s.link ≡ Some link → room_over door (heard s i (CommitAsk tx) say).link ≡ room_over door (Some link)
room_heard door s link i tx say linked = by_test (takes s i (CommitAsk tx) say)
  where
    by_test : (test : Bool) → room_over door (cond test (taken s i (CommitAsk tx) say) s).link ≡ room_over door (Some link)
    by_test true = room_taken door s link i tx say linked
    by_test false = ap (room_over door) linked

-- and so whatever became of the ask
room_after : (door : DoorView) (s : Client) (link : Connection) (i : ℕ) (tx : Tx) (fate : Fate) → s.link ≡ Some link → room_over door (after s (Asked i (CommitAsk tx) fate)).link ≡ room_over door (Some link)
room_after door s link i tx (Heard say) linked = room_heard door s link i tx say linked
room_after door s link i tx _ linked = ap (room_over door) linked

-- nor does a second copy move it
copies_still : (s : Client) (armed : Option AskFault) (i : ℕ) (ask : Ask) (say : Say) → after_all s (copies armed i ask say) ≡ s
copies_still s (Some Twice) i ask say = refl
copies_still s (Some LoseAsk) i ask say = refl
copies_still s (Some LoseReply) i ask say = refl
copies_still s None i ask say = refl

-- a push after which a flush goes on reached its centre
on_answered : (fate : Fate) → goes_on fate ≡ true → (say : Say) × (answered fate ≡ Some say)
on_answered (Heard say) on = (say, refl)
on_answered (ReplyLost say) on = cc
on_answered (Unheard say) on = cc
on_answered AskLost on = cc

-- so it was not lost
on_reached : (fate : Fate) → goes_on fate ≡ true → fate ≢ AskLost
on_reached fate on lost = let no : goes_on AskLost ≡ true = subst (λ fate. goes_on fate ≡ true) lost on in cc

-- what is left falls as a number below a bound rises
falls : (most a b : ℕ) → a < b → b < most → most - b < most - a
falls most a b more short = omega arith

-- so less room is left
pushed_fewer : (p q : Playing) (link : Connection) (tx : Tx) (fate : Fate) (again : Say) → p.client.link ≡ Some link → goes_on fate ≡ true → Grows p q (Asked link.centre (CommitAsk tx) fate ∷ copies p.armed link.centre (CommitAsk tx) again) → length (q.door.made link.centre) < 2 ^ 62 → room q < room p
pushed_fewer p q link tx fate again linked on grows short =
    let s = p.client in
    let i : ℕ = link.centre in
    let ask : Ask = CommitAsk tx in
    let got = on_answered fate on in
    let longer : length (p.door.made i) < length (q.door.made i) = done_longer p.door q.door i ask fate got.0 (copies p.armed i ask again) got.1 grows.door in
    let client : q.client ≡ after s (Asked i ask fate) = grows.client ∙ copies_still (after s (Asked i ask fate)) p.armed i ask again in
    let before : room p ≡ room_over p.door (Some link) = ap (room_over p.door) linked in
    let behind : room q ≡ room_over q.door (Some link) = ap (λ (s : Client). room_over q.door s.link) client ∙ room_after q.door s link i tx fate linked in
    subst (λ n. n < room p) (sym behind) (subst (λ n. room_over q.door (Some link) < n) (sym before) (falls (2 ^ 62) (length (p.door.made i)) (length (q.door.made i)) longer short))

-- ---- one push of a flush

-- the end of a flush by a push
abbrev EndsSo : Progress → Connection → Tx → List Deed → Type 0
EndsSo p link tx deeds = (push : Pushes p link tx deeds) × (goes_on (fate_of p.armed push.say) ≡ false)

-- a push of a commit, by whether the flush goes on
pushes_so : (p q : Playing) (i : ℕ) (ask : Ask) (a : PushAsks p.client i ask) (say again : Say) (ds : List Deed) (test : Bool) → goes_on (fate_of p.armed say) ≡ test → ds ≡ Asked a.link.centre (CommitAsk a.tx) (fate_of p.armed say) ∷ (copies p.armed a.link.centre (CommitAsk a.tx) again ++ told (cond test None (push_line p.client.client a.tx.dot.number (fate_of p.armed say)))) → Grows p q ds → q.armed ≡ None → (fate_of p.armed say ≢ AskLost → length (q.door.made a.link.centre) < 2 ^ 62) → FlushesOn p q test
pushes_so p q i ask a say again ds true on whole grows armed short =
    let fate : Fate = fate_of p.armed say in
    let bare : ds ≡ Asked a.link.centre (CommitAsk a.tx) fate ∷ copies p.armed a.link.centre (CommitAsk a.tx) again = whole ∙ ap (λ ds. Asked a.link.centre (CommitAsk a.tx) fate ∷ ds) (append-nil (copies p.armed a.link.centre (CommitAsk a.tx) again)) in
    record {
      deeds = ds;
      pushes = record { link = a.link; linked = a.linked; tx = a.tx; next = a.next; say = say; again = again; on = on; asked = bare };
      grows = grows;
      armed = armed;
      fewer = pushed_fewer p q a.link a.tx fate again a.linked on (subst (λ ds. Grows p q ds) bare grows) (short (on_reached fate on));
    }
pushes_so p q i ask a say again ds false stops whole grows armed short = record {
  deeds = ds;
  such = next_there p.client (line.Flushed p.client.client p.client.own) (EndsSo (progress p)) i ask a ds (record { say = say; again = again; whole = whole }, stops);
  grows = grows;
  armed = armed ∙ sym (ap (used_by p.armed) whole);
}

-- it goes on where the push says so
more_where : (goes : Bool) → is_more (next_where goes) ≡ goes
more_where true = refl
more_where false = refl

-- a push of a commit
pub flush_pushes : (p q : Playing) (i : ℕ) (ask : Ask) (number : ℕ) (next : Next) (more : Bool) → commit_ask p.client ≡ Ok (Some (i, ask)) → number ≡ number_in ask → more ≡ is_more next → Runs (errand (purpose.Flush number) i ask) p q next → FlushesOn p q more
flush_pushes p q i ask number next more asked is goes runs =
    let a = push_asks p.client i ask asked in
    let r = next_errand (λ n. purpose.Flush n) p q i ask number next a is runs in
    subst (FlushesOn p q) (sym (goes ∙ (ap is_more r.goes ∙ more_where (goes_on (fate_of p.armed r.asks.say))))) (pushes_so p q i ask a r.asks.say r.asks.again r.deeds (goes_on (fate_of p.armed r.asks.say)) refl r.asks.whole r.grows r.armed r.short)

-- no commit is left
pub flush_done : (p : Playing) (later : Logged) (client own : ℕ) → commit_ask p.client ≡ Ok None → client ≡ p.client.client → own ≡ p.client.own → later ≡ noted_all p.log (told (Some (line.Flushed client own))) → FlushesOn p (record p { log = later }) false
flush_done p later client own asked same all is =
    let s = p.client in
    grows_line (FlushEnds (progress p)) p later (line.Flushed client own) (line.Flushed s.client s.own) is (ap (λ n. line.Flushed n own) same ∙ ap (line.Flushed s.client) all) (next_idle s (line.Flushed s.client s.own) (EndsSo (progress p)) (push_idle s asked))

-- no centre is connected
pub flush_unlinked : (p : Playing) (later : Logged) (client : ℕ) → p.client.link ≡ None → client ≡ p.client.client → later ≡ noted_all p.log (told (Some (line.PushUnconnected client))) → FlushesOn p (record p { log = later }) false
flush_unlinked p later client none same is =
    let s = p.client in
    grows_line (FlushEnds (progress p)) p later (line.PushUnconnected client) (line.PushUnconnected s.client) is (ap line.PushUnconnected same) (next_unlinked s (line.Flushed s.client s.own) (EndsSo (progress p)) none)

-- ---- a whole flush

-- how far a flush is from where it began
abbrev pub reached : Playing → Playing → Progress
reached p q = record { client = q.client; armed = q.armed; notes = p.log.notes }

-- a flush that has come so far: whatever ends it there ends it whole
pub record HasFlushed (p q : Playing) : Type 0 where
  pub deeds : List Deed
  pub ends : (later : List Deed) → FlushDeeds (reached p q) later → FlushDeeds (progress p) (deeds ++ later)
  pub grows : Grows p q deeds
  pub armed : q.armed ≡ used_by p.armed deeds

-- no push yet
pub flush_begins : (p : Playing) → HasFlushed p p
flush_begins p = record { deeds = []; ends = λ later f. f; grows = grows_none p; armed = refl }

-- the notes from which a push goes on tell nothing of it
pushes_from : (p q : Playing) (ds : List Deed) → PushesOn (progress q) ds → PushesOn (reached p q) ds
pushes_from p q ds on = record { link = on.link; linked = on.linked; tx = on.tx; next = on.next; say = on.say; again = on.again; on = on.on; asked = on.asked }

-- what ends a flush behind a push ends it before
flush_on : (p q r : Playing) (on : HasPushedOn q r) (later : List Deed) → FlushDeeds (reached p r) later → FlushDeeds (reached p q) (on.deeds ++ later)
flush_on p q r on later f =
    let from : FlushDeeds (record { client = after_all q.client on.deeds; armed = None; notes = p.log.notes }) later =
    subst (λ (s : Client). FlushDeeds (record { client = s; armed = None; notes = p.log.notes }) later) on.grows.client
    (subst (λ (armed : Option AskFault). FlushDeeds (record { client = r.client; armed = armed; notes = p.log.notes }) later) on.armed f) in
    flush_goes on.deeds later refl (pushes_from p q on.deeds on.pushes) from

-- a push uses the fault that is armed
pushed_uses : (armed : Option AskFault) (s : Progress) (ds : List Deed) → PushesOn s ds → used_by armed ds ≡ None
pushed_uses armed s ds on = ap (used_by armed) on.asked

-- one more push
pub flush_more : (p q r : Playing) → HasFlushed p q → HasPushedOn q r → HasFlushed p r
flush_more p q r h on = record {
  deeds = h.deeds ++ on.deeds;
  ends = λ later f. subst (FlushDeeds (progress p)) (sym (append_assoc h.deeds on.deeds later)) (h.ends (on.deeds ++ later) (flush_on p q r on later f));
  grows = grows_then p q r h.deeds on.deeds h.grows on.grows;
  armed = on.armed ∙ (sym (pushed_uses q.armed (progress q) on.deeds on.pushes) ∙ used_then p.armed q.armed h.deeds on.deeds h.armed);
}

-- the end of a flush
pub flush_last : (p q r : Playing) → HasFlushed p q → GrowsBy (FlushEnds (progress q)) q r → Takes FlushStep p r
flush_last p q r h last = takes_by FlushStep p r (λ deeds. refl) (record {
  deeds = h.deeds ++ last.deeds;
  such = h.ends last.deeds (flush_ends last.such);
  grows = grows_then p q r h.deeds last.deeds h.grows last.grows;
  armed = last.armed ∙ used_then p.armed q.armed h.deeds last.deeds h.armed;
})
