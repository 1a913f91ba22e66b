-- What a replay shows of its client, deed by deed.
use Rattle.std.proofs.Common.{◌≡◌, ℕ, ◌+◌, ◌-◌, min, max, Bool, true, false, cond, List, take, Option, Some, None, refl, sym, ap, ◌∙◌, subst, arith, add-one}
use Rattle.std.specs.Prelude.{slice_get}
use Rattle.std.specs.Option.{option_map}
use Rattle.list_core.proofs.Moments.{each_take}
use Rattle.dc_talk.specs.declared.ask.Ask.{Ask}
use Rattle.dc_talk.specs.declared.ask.Ask.TheVariants.{Hello, Refresh, Fetch, Delta, Commit}
use Rattle.dc_talk.specs.declared.say.Say.{Say}
use Rattle.dc_talk.specs.declared.say.Say.TheVariants.{Pruned, Object, Changes, Known, Stamped}
use Rattle.dc_talk.specs.declared.calls.Connection.{Connection}
use Rattle.dc_talk.specs.declared.log.Note.{Note}
use Rattle.dc_talk.specs.Clients.{Client, new_client}
use Rattle.dc_talk.specs.Logs.{Logged}
use Rattle.dc_talk.specs.Rule.{heard, takes, taken, sent_through, after, client_after, Allows, Follows}
use Rattle.run_book.specs.Setups.{Setup}
use Rattle.run_book.specs.declared.book.Book.{Book}
use Rattle.run_book.specs.declared.replay.Replay.{Replay}
use Rattle.run_book.specs.Parts.{log_of, notes_of, IsClient}
use Rattle.run_book.specs.Fit.{FitsWith}
use Rattle.run_book.specs.Replay.{Shows, IsInRange}
use Rattle.run_book.proofs.Sessions.{after_more}
use Rattle.run_book.proofs.Growth.{numbers}

-- what is sent changes no centre
sent_same : (number own : ℕ) (link : Option Connection) → option_map (λ (l : Connection). l.centre) link ≡ option_map (λ (l : Connection). l.centre) (sent_through number own link)
sent_same number own None = refl
sent_same number own (Some link) = refl

-- the client with another link to the same centre
shows_link : (r : Replay) (s : Client) (link : Option Connection) → option_map (λ (l : Connection). l.centre) s.link ≡ option_map (λ (l : Connection). l.centre) link → Shows r s → Shows r (record s { link = link })
shows_link r s link same h = record { client = h.client; vector = h.vector; own = h.own; mine = h.mine; clock = h.clock; centre = h.centre ∙ same; open_edits = h.open_edits }

-- the client with another cache
shows_cache : (r : Replay) (s : Client) (cache : _) → Shows r s → Shows r (record s { cache = cache })
shows_cache r s cache h = record { client = h.client; vector = h.vector; own = h.own; mine = h.mine; clock = h.clock; centre = h.centre; open_edits = h.open_edits }

-- an answer to another ask than a hello or a refresh, taken
other_taken : (r : Replay) (s : Client) (i : ℕ) (ask : Ask) (say : Say) → ((client : ℕ) (here : List ℕ) → ask ≡ Refresh client here → ⊥) → ((client : ℕ) (need : List ℕ) → ask ≡ Hello client need → ⊥) → Shows r s → Shows r (taken s i ask say)
other_taken r s i (Hello client need) say no_refresh no_hello h = absurd (no_hello client need refl)
other_taken r s i (Refresh client here) say no_refresh no_hello h = absurd (no_refresh client here refl)
other_taken r s i (Fetch o here) (Object state) no_refresh no_hello h = shows_cache r s _ h
other_taken r s i (Delta o from here) (Object state) no_refresh no_hello h = shows_cache r s _ h
other_taken r s i (Delta o from here) (Changes tail) no_refresh no_hello h = shows_cache r s _ h
other_taken r s i (Delta o from here) (Pruned centre base low) no_refresh no_hello h = shows_cache r s _ h
other_taken r s i (Commit tx) (Stamped stamp) no_refresh no_hello h = shows_link r s _ (sent_same tx.dot.number s.own s.link) h
other_taken r s i (Commit tx) (Known through) no_refresh no_hello h = shows_link r s _ (sent_same through s.own s.link) h
other_taken r s i _ _ no_refresh no_hello h = h

-- an answer to another ask than a hello or a refresh changes nothing that is shown
pub other_heard : (r : Replay) (s : Client) (i : ℕ) (ask : Ask) (say : Say) → ((client : ℕ) (here : List ℕ) → ask ≡ Refresh client here → ⊥) → ((client : ℕ) (need : List ℕ) → ask ≡ Hello client need → ⊥) → Shows r s → Shows r (heard s i ask say)
other_heard r s i ask say no_refresh no_hello h = go (takes s i ask say)
  where
    go : (b : Bool) → Shows r (cond b (taken s i ask say) s)
    go true = other_taken r s i ask say no_refresh no_hello h
    go false = h

-- a client's numbers are in range at each moment of a log that follows the rule
pub in_range_at : (n client capacity m : ℕ) (notes : List Note) → Follows n client capacity notes → IsInRange (client_after n client capacity (take m notes))
in_range_at n client capacity m notes follows =
    let h = numbers n client capacity notes follows m in
    record { own = omega (arith, h.clock.0, h.clock.1); clock = h.clock.1 }

-- a replay that goes on by the next note shows the client after it
pub shows_more : (n client capacity m : ℕ) (notes : List Note) (note : Note) (old new : Replay) → Follows n client capacity notes → slice_get notes m ≡ Some note → ((s : Client) → Shows old s → IsInRange s → Shows new (after s note.deed)) → Shows old (client_after n client capacity (take m notes)) → Shows new (client_after n client capacity (take (m + 1) notes))
shows_more n client capacity m notes note old new follows there goes_on shows =
    subst (λ s. Shows new s) (sym (rw add-one (after_more n client capacity m notes note there)))
    (goes_on (client_after n client capacity (take m notes)) shows (in_range_at n client capacity m notes follows))

-- the replay of a client's log before its first note
pub shows_first : (b : Book) (setup : Setup) (a n client : ℕ) (log : Logged) (r : Replay) → FitsWith b setup → IsClient setup a → log ≡ log_of b a → n ≡ max 1 (min b.n 8) → client ≡ log.actor - 1 → ((capacity : ℕ) → Shows r (new_client n client capacity)) → Shows r (new_client b.n (a - 1) setup.capacity)
shows_first b setup a n client log r fit is_client is many who shows =
    let n_is : n ≡ b.n = omega (arith, many, fit.form.n.0, fit.form.n.1) in
    let actor : log.actor ≡ a = ap (λ (l : Logged). l.actor) is ∙ fit.form.actors a (omega (arith, is_client.low)) (omega (arith, is_client.high, fit.form.logs)) in
    let who_is : client ≡ a - 1 = who ∙ ap (λ a. a - 1) actor in
    subst (λ n. Shows r (new_client n (a - 1) setup.capacity)) n_is (subst (λ c. Shows r (new_client n c setup.capacity)) who_is (shows setup.capacity))

-- the first notes of a client's log follow the rule
pub front_follows : (b : Book) (setup : Setup) (a many : ℕ) (notes : List Note) (log : Logged) → FitsWith b setup → IsClient setup a → log ≡ log_of b a → notes ≡ take many log.notes → Follows b.n (a - 1) setup.capacity notes
front_follows b setup a many notes log fit is_client is front =
    subst (λ ns. Follows b.n (a - 1) setup.capacity ns) (sym (front ∙ ap (λ (l : Logged). take many l.notes) is))
    (each_take (λ before (note : Note). Allows (client_after b.n (a - 1) setup.capacity before) before note.deed) (notes_of b a) many (fit.follows a is_client))
