-- What may be asked outside of the script: a late copy of a commit, and a delivery of a record.
use Rattle.std.proofs.Common.{◌≡◌, ◌≤◌, ℕ, ◌+◌, Bool, true, false, inl, inr, List, Option, Some, None, refl, sym, ap, ◌∙◌, subst, arith}
use Rattle.std.specs.Prelude.{nat_le, ◌&&◌, slice_get}
use Rattle.std.specs.Option.{option_map, option_and_then}
use Rattle.std.proofs.lemmas.Bool.{leb-true}
use Rattle.std.proofs.lemmas.Option.{none-some, same_Some}
use Rattle.list_core.specs.Choices.{when}
use Rattle.list_core.proofs.Gets.{get_In}
use Rattle.tx_core.specs.declared.tx.Tx.{Tx}
use Rattle.dc_talk.specs.declared.sent.Sent.{Sent}
use Rattle.dc_talk.specs.declared.ask.Ask.{Ask}
use Rattle.dc_talk.specs.declared.ask.Ask.TheVariants as ask
use Rattle.dc_talk.specs.declared.say.Say.{Say}
use Rattle.dc_talk.specs.declared.say.Say.TheVariants.{Records}
use Rattle.dc_talk.specs.declared.log.Fate.{Fate}
use Rattle.dc_talk.specs.declared.log.Fate.TheVariants.{Unheard}
use Rattle.dc_talk.specs.declared.log.Deed.{Deed}
use Rattle.dc_talk.specs.declared.log.Deed.TheVariants.{Asked}
use Rattle.dc_talk.specs.declared.log.Note.{Note}
use Rattle.dc_talk.specs.Entries.{Entry}
use Rattle.dc_talk.specs.Logs.{marked}
use Rattle.dc_door.specs.KeptDoors.{trail_at}
use Rattle.run_book.specs.Setups.{setup_of}
use Rattle.run_book.specs.Parts.{IsClient}
use Rattle.run_book.specs.Happenings.{notes_by, trail_in, HasAnswer, Happens}
use Rattle.run_book.proofs.Happenings.Places.{noted, commits}
use Rattle.run_book.proofs.Happenings.Sending.{sent_before}
use Rattle.run_book.proofs.Happenings.More.{operator_carries}
use Rattle.run_table.specs.Tables.{log_at}
use Rattle.world_core.specs.Worlds.{WorldView}
use Rattle.world_core.specs.Events.{commit_of, commit_named, records_of, record_named, delivery_of, if_centre, MayAsk}
use Rattle.world_core.proofs.Naming.{comes}

-- ---- what is named

-- a centre that is one of the world's
pub record IsThere {X : Type 0} (w : WorldView) (centre : ℕ) (o : Option X) (x : X) : Type 0 where
  pub range : (1 ≤ centre) × (centre ≤ w.script.n)
  pub is : o ≡ Some x

is_there : {X : Type 0} (w : WorldView) (centre : ℕ) (o : Option X) (x : X) → if_centre w centre o ≡ Some x → IsThere w centre o x
is_there w centre o x named = go (nat_le 1 centre) (nat_le centre w.script.n) refl refl named
  where
    go : (low high : Bool) → nat_le 1 centre ≡ low → nat_le centre w.script.n ≡ high → option_and_then (λ there. o) (when (low && high) centre) ≡ Some x → IsThere w centre o x
    go true true low high is = record { range = (leb-true 1 centre low, leb-true centre w.script.n high); is = is }
    go true false low high is = absurd (none-some x is)
    go false high low is_high is = absurd (none-some x is)

-- an ask that was made of what is named
pub record IsMadeOf {X : Type 0} (make : X → Ask) (o : Option X) (it : Ask) : Type 0 where
  pub from : X
  pub there : o ≡ Some from
  pub is : make from ≡ it

made_of : {X : Type 0} (make : X → Ask) (o : Option X) (it : Ask) → Some it ≡ option_map make o → IsMadeOf make o it
made_of make None it is = absurd (none-some it (sym is))
made_of make (Some x) it is = record { from = x; there = refl; is = same_Some (make x) it (sym is) }

-- a deed that has this transaction is a commit ask
pub record IsCommit (deed : Deed) (tx : Tx) : Type 0 where
  pub centre : ℕ
  pub fate : Fate
  pub is : deed ≡ Asked centre (ask.Commit tx) fate

is_commit : (deed : Deed) (tx : Tx) → commit_of deed ≡ Some tx → IsCommit deed tx
is_commit (Asked i (ask.Commit sent) fate) tx is = record { centre = i; fate = fate; is = ap (λ tx. Asked i (ask.Commit tx) fate) (same_Some sent tx is) }
is_commit _ tx is = absurd (none-some tx is)

-- an answer that has these records
says_records : (say : Say) (list : List Sent) → records_of say ≡ Some list → say ≡ Records list
says_records (Records sent) list is = ap Records (same_Some sent list is)
says_records _ list is = absurd (none-some list is)

-- ---- late copies

-- a client may send a late copy of a commit ask of its log
pub late_may : (w : WorldView) (client note centre : ℕ) (it : Ask) → Some it ≡ option_map ask.Commit (if_centre w centre (commit_named w client note)) → MayAsk (client + 1) centre it w
late_may w client place centre it named all world say =
    let of = made_of ask.Commit (if_centre w centre (commit_named w client place)) it named in
    let at = is_there w centre (commit_named w client place) of.from of.there in
    let note = comes (λ (note : Note). commit_of note.deed) (slice_get (log_at w.logs (client + 1)).notes place) of.from at.is in
    let commit = is_commit note.from.deed of.from note.gives in
    let there : slice_get (notes_by (client + 1) all) place ≡ Some note.from = subst (λ ns. slice_get ns place ≡ Some note.from) (world.notes (client + 1)) note.there in
    let h = noted w.script.n w.script.k (setup_of w.script) all world.together (client + 1) place note.from there in
    let mine : IsClient (setup_of w.script) (client + 1) = subst (IsClient (setup_of w.script)) h.actor (commits w.script.n w.script.k (setup_of w.script) all world.together h.place h.it commit.centre of.from commit.fate h.there (ap (λ (note : Note). note.deed) h.note_is ∙ commit.is)) in
    record {
      reach = at.range;
      by = inl (record {
        client = client;
        range = (omega (arith, mine.low), omega (arith, mine.high));
        actor = refl;
        allowed = inr (inl (record {
          say = say;
          unheard = refl;
          tx = of.from;
          commit = sym of.is;
          place = place;
          note = note.from;
          there = there;
          centre = commit.centre;
          end = commit.fate;
          same = commit.is ∙ ap (λ it. Asked commit.centre it commit.fate) of.is;
        }));
      });
    }

-- ---- deliveries

-- the operator may deliver a record of an answer
pub carry_may : (w : WorldView) (from entry index to : ℕ) (it : Ask) → Some it ≡ option_map delivery_of (if_centre w to (record_named w from entry index)) → MayAsk 1 to it w
carry_may w from place index to it named all world say =
    let of = made_of delivery_of (if_centre w to (record_named w from place index)) it named in
    let at = is_there w to (record_named w from place index) of.from of.there in
    let list = comes (λ (list : List Sent). slice_get list index) (option_and_then (λ (entry : Entry). records_of entry.say) (slice_get (trail_at w.centres from) place)) of.from at.is in
    let entry = comes (λ (entry : Entry). records_of entry.say) (slice_get (trail_at w.centres from) place) list.from list.there in
    let there : slice_get (trail_in from all) place ≡ Some entry.from = subst (λ es. slice_get es place ≡ Some entry.from) (world.trails from) entry.there in
    let answer : HasAnswer (trail_in from all) (Records list.from) = record { entry = entry.from; there = get_In (trail_in from all) place entry.from there; says = says_records entry.from.say list.from entry.gives } in
    let sent = sent_before all from list.from of.from answer (get_In list.from index of.from list.gives) in
    subst (λ it. Happens w.script.n (setup_of w.script) all (record { actor = 1; note = marked 0 0 (Asked to it (Unheard say)) })) of.is
    (record { reach = at.range; by = inr (record { carrier = operator_carries w.script.n w.script.clients; allowed = sent }) })
