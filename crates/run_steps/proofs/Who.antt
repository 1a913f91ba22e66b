-- What a client does leaves its number.
use Rattle.std.proofs.Common.{◌≡◌, ℕ, Bool, true, false, cond, List, [], ◌∷◌, fold, refl, sym, ◌∙◌}
use Rattle.std.specs.Prelude.{◌==◌}
use Rattle.std.proofs.lemmas.Bool.{eqb-true}
use Rattle.dc_talk.specs.declared.ask.Ask.{Ask}
use Rattle.dc_talk.specs.declared.ask.Ask.TheVariants.{Hello, Refresh, Fetch, Delta, Commit as CommitAsk}
use Rattle.dc_talk.specs.declared.say.Say.{Say}
use Rattle.dc_talk.specs.declared.say.Say.TheVariants.{Welcome, Snap, Pruned, Object, Changes, Known, Stamped}
use Rattle.dc_talk.specs.declared.calls.Call.{Call}
use Rattle.dc_talk.specs.declared.calls.Call.TheVariants.{Begin, Change as ChangeCall, Read, Commit, Abort}
use Rattle.dc_talk.specs.declared.calls.Outcome.{Outcome}
use Rattle.dc_talk.specs.declared.calls.Outcome.TheVariants.{Fine, Got, Number, Nothing, Refused}
use Rattle.dc_talk.specs.declared.calls.Refusal.TheVariants.{TooManyTags}
use Rattle.dc_talk.specs.declared.log.Fate.TheVariants.{Heard}
use Rattle.dc_talk.specs.declared.log.Deed.{Deed}
use Rattle.dc_talk.specs.declared.log.Deed.TheVariants.{Did, Asked, Told, Spoilt}
use Rattle.dc_talk.specs.declared.log.Note.{Note}
use Rattle.dc_talk.specs.Clients.{Client}
use Rattle.dc_talk.specs.Calls.{did}
use Rattle.dc_talk.specs.Rule.{after, heard, takes, taken}
use Rattle.script_core.specs.Deeds.{Progress, stepped}
use Rattle.run_book.specs.Moves.{Does, client_does, operator_does, worker_does, closes}
use Rattle.run_book.specs.Played.{come_after}

-- ---- a client

-- a call leaves it
did_who : (s : Client) (call : Call) (outcome : Outcome) → (did s call outcome).client ≡ s.client
did_who s Begin Fine = refl
did_who s (ChangeCall o change) Fine = refl
did_who s (ChangeCall o change) (Refused (TooManyTags count)) = refl
did_who s (Read o) (Got value) = refl
did_who s Commit (Number number) = refl
did_who s Commit Nothing = refl
did_who s Abort Fine = refl
did_who s _ _ = refl

-- so does an answer that is taken
taken_who : (s : Client) (i : ℕ) (ask : Ask) (say : Say) → (taken s i ask say).client ≡ s.client
taken_who s i (Hello client need) (Welcome through) = refl
taken_who s i (Refresh client here) (Snap vector mine top) = refl
taken_who s i (Fetch o here) (Object state) = refl
taken_who s i (Delta o from here) (Object state) = refl
taken_who s i (Delta o from here) (Changes tail) = refl
taken_who s i (Delta o from here) (Pruned centre base low) = refl
taken_who s i (CommitAsk tx) (Stamped stamp) = refl
taken_who s i (CommitAsk tx) (Known through) = refl
taken_who s i _ _ = refl

-- and one that is heard
heard_who : (s : Client) (i : ℕ) (ask : Ask) (say : Say) → (heard s i ask say).client ≡ s.client
heard_who s i ask say = go (takes s i ask say)
  where
    go : (b : Bool) → (cond b (taken s i ask say) s).client ≡ s.client
    go true = taken_who s i ask say
    go false = refl

-- and each deed
pub after_who : (s : Client) (deed : Deed) → (after s deed).client ≡ s.client
after_who s (Did call outcome) = did_who s call outcome
after_who s (Asked i ask (Heard say)) = heard_who s i ask say
after_who s (Asked i ask _) = refl
after_who s (Told line) = refl
after_who s (Spoilt from item why) = refl

-- so do notes, one after another
pub behind_who : (s : Client) (notes : List Note) → (fold (λ s note. after s note.deed) s notes).client ≡ s.client
behind_who s [] = refl
behind_who s (note ∷ notes) = behind_who (after s note.deed) notes ∙ after_who s note.deed

-- ---- all clients

-- each of them has its own number, whatever is done
pub come_who : (does : Does) (notes : List Note) (come : ℕ → Progress) → ((client : ℕ) → (come client).client.client ≡ client) → (other : ℕ) → (come_after does notes come other).client.client ≡ other
come_who (client_does client step) notes come are other = go (other == client) refl
  where
    go : (b : Bool) → (other == client) ≡ b → (cond b (stepped (come client) step notes) (come other)).client.client ≡ other
    go true is = behind_who (come client).client notes ∙ (are client ∙ sym (eqb-true other client is))
    go false is = are other
come_who (operator_does step) notes come are other = are other
come_who (worker_does i role) notes come are other = are other
come_who (closes i) notes come are other = are other
