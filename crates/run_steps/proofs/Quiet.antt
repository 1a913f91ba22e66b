-- Quiet deeds leave what a session stands on, and its open transaction.
use Rattle.std.proofs.Common.{◌≡◌, ℕ, zero, suc, ◌+◌, ◌≤◌, ◌<◌, Bool, true, false, cond, List, length, take, Some, refl, sym, ◌∙◌, subst, arith}
use Rattle.std.specs.Prelude.{slice_get}
use Rattle.list_core.proofs.Gets.{get_within}
use Rattle.ids_core.specs.declared.object.ObjectId.{ObjectId}
use Rattle.dc_talk.specs.declared.ask.Ask.{Ask}
use Rattle.dc_talk.specs.declared.ask.Ask.TheVariants.{Fetch, Delta}
use Rattle.dc_talk.specs.declared.say.Say.{Say}
use Rattle.dc_talk.specs.declared.say.Say.TheVariants.{Pruned, Object, Changes}
use Rattle.dc_talk.specs.declared.calls.Call.TheVariants.{Read}
use Rattle.dc_talk.specs.declared.calls.Outcome.TheVariants.{Got}
use Rattle.dc_talk.specs.declared.calls.Cached.{Cached}
use Rattle.dc_talk.specs.declared.log.Fate.TheVariants.{Heard}
use Rattle.dc_talk.specs.declared.log.Deed.{Deed}
use Rattle.dc_talk.specs.declared.log.Deed.TheVariants.{Did, Asked, Told}
use Rattle.dc_talk.specs.declared.log.Note.{Note}
use Rattle.dc_talk.specs.Clients.{Client}
use Rattle.dc_talk.specs.Rule.{after, heard, takes, taken, client_after}
use Rattle.run_book.proofs.Sessions.{after_more}
use Rattle.run_steps.specs.Quiet.{IsQuiet, StandAlike}

-- a state stands like itself
alike_itself : (s : Client) → StandAlike s s
alike_itself s = record { client = refl; own = refl; clock = refl; vector = refl; draft = refl }

alike_through : (s t u : Client) → StandAlike s t → StandAlike t u → StandAlike s u
alike_through s t u a b = record { client = a.client ∙ b.client; own = a.own ∙ b.own; clock = a.clock ∙ b.clock; vector = a.vector ∙ b.vector; draft = a.draft ∙ b.draft }

-- and like itself with another cache
alike_cache : (s : Client) (cache : List Cached) → StandAlike s (record s { cache = cache })
alike_cache s cache = record { client = refl; own = refl; clock = refl; vector = refl; draft = refl }

-- an answer to a fetch that is taken leaves it
quiet_fetched : (s : Client) (i : ℕ) (o : ObjectId) (here : List ℕ) (say : Say) → StandAlike s (taken s i (Fetch o here) say)
quiet_fetched s i o here (Object state) = alike_cache s _
quiet_fetched s i o here _ = alike_itself s

-- so does one to a delta
quiet_told : (s : Client) (i : ℕ) (o : ObjectId) (from here : List ℕ) (say : Say) → StandAlike s (taken s i (Delta o from here) say)
quiet_told s i o from here (Object state) = alike_cache s _
quiet_told s i o from here (Changes tail) = alike_cache s _
quiet_told s i o from here (Pruned centre base low) = alike_cache s _
quiet_told s i o from here _ = alike_itself s

-- taken or not
quiet_heard : (s : Client) (i : ℕ) (ask : Ask) (say : Say) → StandAlike s (taken s i ask say) → StandAlike s (heard s i ask say)
quiet_heard s i ask say alike = go (takes s i ask say)
  where
    go : (b : Bool) → StandAlike s (cond b (taken s i ask say) s)
    go true = alike
    go false = alike_itself s

-- so does each quiet deed
quiet_deed : (s : Client) (deed : Deed) → IsQuiet deed → StandAlike s (after s deed)
quiet_deed s (Did (Read o) (Got value)) quiet = record { client = refl; own = refl; clock = refl; vector = refl; draft = refl }
quiet_deed s (Did (Read o) _) quiet = alike_itself s
quiet_deed s (Asked i (Fetch o here) (Heard say)) quiet = quiet_heard s i (Fetch o here) say (quiet_fetched s i o here say)
quiet_deed s (Asked i (Fetch o here) _) quiet = alike_itself s
quiet_deed s (Asked i (Delta o from here) (Heard say)) quiet = quiet_heard s i (Delta o from here) say (quiet_told s i o from here say)
quiet_deed s (Asked i (Delta o from here) _) quiet = alike_itself s
quiet_deed s (Told line) quiet = alike_itself s
quiet_deed s _ quiet = absurd quiet

-- so do all quiet notes between two places
pub between : (n client capacity : ℕ) (notes : List Note) (q k : ℕ) → ((p : ℕ) (note : Note) → q ≤ p → p < q + k → slice_get notes p ≡ Some note → IsQuiet note.deed) → q + k ≤ length notes → StandAlike (client_after n client capacity (take q notes)) (client_after n client capacity (take (q + k) notes))
between n client capacity notes q zero quiet few =
    let same : q ≡ q + zero = omega arith in
    subst (λ p. StandAlike (client_after n client capacity (take q notes)) (client_after n client capacity (take p notes))) same (alike_itself (client_after n client capacity (take q notes)))
between n client capacity notes q (suc k) quiet few =
    let m : ℕ = q + k in
    let g = get_within notes m (omega (arith, few)) in
    let front = between n client capacity notes q k (λ p note low high. quiet p note low (omega (arith, high))) (omega (arith, few)) in
    let last = quiet_deed (client_after n client capacity (take m notes)) g.0.deed (quiet m g.0 (omega arith) (omega arith) g.1) in
    let more = after_more n client capacity m notes g.0 g.1 in
    let same : suc m ≡ q + suc k = omega arith in
    subst (λ p. StandAlike (client_after n client capacity (take q notes)) (client_after n client capacity (take p notes))) same
    (subst (λ s. StandAlike (client_after n client capacity (take q notes)) s) (sym more)
    (alike_through (client_after n client capacity (take q notes)) (client_after n client capacity (take m notes)) (after (client_after n client capacity (take m notes)) g.0.deed) front last))
