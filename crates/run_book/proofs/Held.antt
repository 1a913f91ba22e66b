-- A session at each moment of its log, by the log alone: the numbers, the pending commits, the clock.
use Rattle.std.proofs.Common.{◌≡◌, ℕ, ◌+◌, ◌-◌, ◌≤◌, ◌<◌, max, Bool, true, false, cond, ◌&&◌, ⊎_elim, List, [], ◌∷◌, ◌++◌, length, take, drop, Option, Some, None, refl, sym, ap, ◌∙◌, subst, arith}
use Rattle.std.specs.Prelude.{slice_get, ◌==◌, is_none}
use Rattle.std.proofs.lemmas.Bool.{and_parts, leb-true, eqb-true}
use Rattle.std.proofs.lemmas.Option.{none-some, same_Some}
use Rattle.std.proofs.lemmas.List.{append-nil, drop-drop, drop-append-le, length-append}
use Rattle.list_core.proofs.Gets.{get_last}
use Rattle.ids_core.specs.declared.ids.Dot.{Dot}
use Rattle.ids_core.specs.declared.object.ObjectId.{ObjectId}
use Rattle.tx_core.specs.declared.tx.Update.{Update}
use Rattle.tx_core.specs.declared.tx.Tx.{Tx}
use Rattle.dc_talk.specs.declared.ask.Ask.{Ask}
use Rattle.dc_talk.specs.declared.ask.Ask.TheVariants.{Hello, Refresh, Fetch, Delta, Commit as CommitAsk}
use Rattle.dc_talk.specs.declared.say.Say.{Say}
use Rattle.dc_talk.specs.declared.say.Say.TheVariants.{Welcome, Snap, Pruned, Object, Changes, Known, Stamped}
use Rattle.dc_talk.specs.declared.calls.Change.{Change}
use Rattle.dc_talk.specs.declared.calls.Call.{Call}
use Rattle.dc_talk.specs.declared.calls.Call.TheVariants.{Begin, Change as ChangeCall, Read, Commit, Abort}
use Rattle.dc_talk.specs.declared.calls.Outcome.{Outcome}
use Rattle.dc_talk.specs.declared.calls.Outcome.TheVariants.{Fine, Got, Number, Nothing, Refused}
use Rattle.dc_talk.specs.declared.calls.Refusal.TheVariants.{TooManyTags}
use Rattle.dc_talk.specs.declared.calls.Connection.{Connection}
use Rattle.dc_talk.specs.declared.calls.Cached.{Cached}
use Rattle.dc_talk.specs.declared.log.Fate.TheVariants.{Heard}
use Rattle.dc_talk.specs.declared.log.Deed.{Deed}
use Rattle.dc_talk.specs.declared.log.Deed.TheVariants.{Did, Asked, Told, Spoilt}
use Rattle.dc_talk.specs.declared.log.Note.{Note}
use Rattle.dc_talk.specs.Clients.{Client, new_client, next_tx, next_dot, draft_updates}
use Rattle.dc_talk.specs.Calls.{op_of, over, looked_up, outcome_of, did, committed}
use Rattle.dc_talk.specs.Rule.{after, heard, takes, taken, is_linked, can_follow, client_after, commit_in, commits_of, Allows, Follows}
use Rattle.run_book.proofs.Numbered.{Numbered, numbered_more}
use Rattle.run_book.proofs.Sessions.{IsModest, modest_none, modest_more, begin_fine, ChangeFine, change_fine, commit_number, CanFollow, can_follow-true, by_notes, small_delta}
use Rattle.ids_core.specs.declared.limits.TheConstants.{MOST_NUMBER}

-- the dot of a client's k-th transaction
abbrev pub dot_at : ℕ → ℕ → Dot
dot_at client k = record { client = client; number = k }

-- a client that committed the transactions C, each with its number, with ascending ranks
pub record Held (client : ℕ) (s : Client) (C : List Tx) : Type 0 where
  pub who : s.client ≡ client
  pub number : length C ≡ s.own
  pub below : s.mine ≤ s.own
  pub waiting : s.pending ≡ drop s.mine C
  pub dots : Numbered (λ t. t.dot) (dot_at client) 1 C
  pub ranks : (p : ℕ) (t : Tx) → slice_get C p ≡ Some t → t.rank ≤ s.clock
  pub ascend : (p q : ℕ) (t u : Tx) → p < q → slice_get C p ≡ Some t → slice_get C q ≡ Some u → t.rank < u.rank
  pub modest : (p : ℕ) (t : Tx) → slice_get C p ≡ Some t → IsModest t.updates
  pub paid : s.own ≤ s.clock
  pub ranked : s.clock ≤ MOST_NUMBER
  pub open_ranked : (updates : List Update) → s.draft ≡ Some updates → s.clock < MOST_NUMBER
  pub draft : IsModest (draft_updates s)

-- ---- what changes no number

-- another link
held_link : (client : ℕ) (s : Client) (C : List Tx) (link : Option Connection) → Held client s C → Held client (record s { link = link }) C
held_link client s C link h = record { who = h.who; number = h.number; below = h.below; waiting = h.waiting; dots = h.dots; ranks = h.ranks; ascend = h.ascend; modest = h.modest; paid = h.paid; ranked = h.ranked; open_ranked = h.open_ranked; draft = h.draft }

-- another cache
held_cache : (client : ℕ) (s : Client) (C : List Tx) (cache : List Cached) → Held client s C → Held client (record s { cache = cache }) C
held_cache client s C cache h = record { who = h.who; number = h.number; below = h.below; waiting = h.waiting; dots = h.dots; ranks = h.ranks; ascend = h.ascend; modest = h.modest; paid = h.paid; ranked = h.ranked; open_ranked = h.open_ranked; draft = h.draft }

-- the draft is another, begun below the greatest rank
held_draft : (client : ℕ) (s : Client) (C : List Tx) (updates : List Update) → s.clock < MOST_NUMBER → IsModest updates → Held client s C → Held client (record s { draft = Some updates }) C
held_draft client s C updates low modest h = record { who = h.who; number = h.number; below = h.below; waiting = h.waiting; dots = h.dots; ranks = h.ranks; ascend = h.ascend; modest = h.modest; paid = h.paid; ranked = h.ranked; open_ranked = λ us is. low; draft = modest }

-- no transaction is open any more
held_closed : (client : ℕ) (s : Client) (C : List Tx) → Held client s C → Held client (record s { draft = None }) C
held_closed client s C h = record { who = h.who; number = h.number; below = h.below; waiting = h.waiting; dots = h.dots; ranks = h.ranks; ascend = h.ascend; modest = h.modest; paid = h.paid; ranked = h.ranked; open_ranked = λ us is. absurd (none-some us is); draft = modest_none }

-- ---- a commit

-- a commit that gets its number
held_committed : (client : ℕ) (s : Client) (C : List Tx) → s.clock < MOST_NUMBER → Held client s C → Held client (committed s) (C ++ next_tx s (draft_updates s) ∷ [])
held_committed client s C low h = record {
  who = h.who;
  number = omega (arith, length-append C (tx ∷ []), h.number);
  below = omega (arith, h.below);
  waiting = ap (λ l. l ++ tx ∷ []) h.waiting ∙ sym (drop-append-le s.mine C (tx ∷ []) (omega (arith, h.below, h.number)));
  dots = numbered_more (λ t. t.dot) (dot_at client) 1 C tx h.dots dot;
  ranks = λ p t there. ⊎_elim (λ before. omega (arith, h.ranks p t before)) (λ last. omega (arith, ap (λ (t : Tx). t.rank) last.0)) (get_last C tx t p there);
  ascend = ascend;
  modest = λ p t there. ⊎_elim (λ before. h.modest p t before) (λ last. subst (λ (t : Tx). IsModest t.updates) last.0 h.draft) (get_last C tx t p there);
  paid = omega (arith, h.paid);
  ranked = omega (arith, low);
  open_ranked = λ us is. absurd (none-some us is);
  draft = modest_none;
}
  where
    tx : Tx
    tx = next_tx s (draft_updates s)

    dot : next_dot s ≡ dot_at client (1 + length C)
    dot = ap (λ c. dot_at c (s.own + 1)) h.who ∙ ap (dot_at client) (omega (arith, h.number))

    ascend : (p q : ℕ) (t u : Tx) → p < q → slice_get (C ++ tx ∷ []) p ≡ Some t → slice_get (C ++ tx ∷ []) q ≡ Some u → t.rank < u.rank
    ascend p q t u lt here there =
        ⊎_elim
        (λ before. ⊎_elim
        (λ first. h.ascend p q t u lt first before)
        (λ last. absurd (omega (arith, lt, last.1, Rattle.std.proofs.lemmas.Option.slice_get_within C q u before)))
        (get_last C tx t p here))
        (λ last. ⊎_elim
        (λ first. omega (arith, h.ranks p t first, ap (λ (t : Tx). t.rank) last.0))
        (λ both. absurd (omega (arith, lt, last.1, both.1)))
        (get_last C tx t p here))
        (get_last C tx u q there)

-- ---- an answer that is taken

-- a snapshot that is taken
held_snap : (client : ℕ) (s : Client) (C : List Tx) (vector : List ℕ) (mine top : ℕ) → CanFollow s vector mine top → Held client s C → Held client (record s { vector = vector; mine = mine; clock = max s.clock top; pending = drop (mine - s.mine) s.pending }) C
held_snap client s C vector mine top can h = record {
  who = h.who;
  number = h.number;
  below = can.made;
  waiting = ap (drop (mine - s.mine)) h.waiting ∙ (drop-drop (mine - s.mine) s.mine C ∙ ap (λ n. drop n C) (omega (arith, can.grows)));
  dots = h.dots;
  ranks = λ p t there. omega (arith, h.ranks p t there);
  ascend = h.ascend;
  modest = h.modest;
  paid = omega (arith, h.paid);
  ranked = omega (arith, h.ranked, can.ranked);
  open_ranked = λ us is. absurd (none-some us (sym can.closed ∙ is));
  draft = h.draft;
}

-- an answer that is taken
held_taken : (client : ℕ) (s : Client) (C : List Tx) (i : ℕ) (ask : Ask) (say : Say) → takes s i ask say ≡ true → Held client s C → Held client (taken s i ask say) C
held_taken client s C i (Hello c need) (Welcome through) is h = held_link client s C _ h
held_taken client s C i (Refresh c here) (Snap vector mine top) is h =
    let parts = and_parts ((c == s.client) && is_linked i s.link) (can_follow s vector mine top) is in
    held_snap client s C vector mine top (can_follow-true s vector mine top parts.1) h
held_taken client s C i (Fetch o here) (Object state) is h = held_cache client s C _ h
held_taken client s C i (Delta o from here) (Object state) is h = held_cache client s C _ h
held_taken client s C i (Delta o from here) (Changes tail) is h = held_cache client s C _ h
held_taken client s C i (Delta o from here) (Pruned centre base low) is h = held_cache client s C _ h
held_taken client s C i (CommitAsk tx) (Stamped stamp) is h = held_link client s C _ h
held_taken client s C i (CommitAsk tx) (Known through) is h = held_link client s C _ h
held_taken client s C i _ _ is h = h

-- an answer that is heard, taken or not
held_heard : (client : ℕ) (s : Client) (C : List Tx) (i : ℕ) (ask : Ask) (say : Say) → Held client s C → Held client (heard s i ask say) C
held_heard client s C i ask say h = go (takes s i ask say) refl
  where
    go : (b : Bool) → takes s i ask say ≡ b → Held client (cond b (taken s i ask say) s) C
    go true is = held_taken client s C i ask say is h
    go false is = h

-- ---- a call

-- nothing is committed
unchanged : (client : ℕ) (s : Client) (C : List Tx) → Held client s C → Held client s (C ++ [])
unchanged client s C h = subst (λ C. Held client s C) (sym (append-nil C)) h

-- the open transaction has one update more
held_change : (client : ℕ) (s : Client) (C : List Tx) (o : ObjectId) (change : Change) → ChangeFine s o change → Held client s C → Held client (record s { draft = Some (draft_updates s ++ record { object = o; op = op_of change (over s o change) } ∷ []) }) C
held_change client s C o change fine h = go s.draft refl
  where
    go : (draft : Option (List Update)) → s.draft ≡ draft → Held client (record s { draft = Some (draft_updates s ++ record { object = o; op = op_of change (over s o change) } ∷ []) }) C
    go None is = absurd (Rattle.std.proofs.lemmas.Bool.false≢true (sym fine.opened ∙ ap (λ d. is_none d) is))
    go (Some updates) is = held_draft client s C _ (h.open_ranked updates is) (modest_more (draft_updates s) (record { object = o; op = op_of change (over s o change) }) h.draft fine.room (small_delta change (over s o change) fine.small)) h

-- a call that ends as it does for the client
held_did : (client : ℕ) (s : Client) (C : List Tx) (call : Call) (outcome : Outcome) → outcome ≡ outcome_of s call → Held client s C → Held client (did s call outcome) (C ++ commit_in s (Did call outcome))
held_did client s C Begin Fine is h = unchanged client _ C (held_draft client s C [] (begin_fine s is) modest_none h)
held_did client s C (ChangeCall o change) Fine is h = unchanged client _ C (held_cache client _ C (looked_up s o change) (held_change client s C o change (change_fine s o change is) h))
held_did client s C (ChangeCall o change) (Refused (TooManyTags count)) is h = unchanged client _ C (held_cache client s C _ h)
held_did client s C (Read o) (Got value) is h = unchanged client _ C (held_cache client s C _ h)
held_did client s C Commit (Number number) is h =
    let open_now = commit_number s number s.draft is in
    held_committed client s C (h.open_ranked open_now.0 open_now.1) h
held_did client s C Commit Nothing is h = unchanged client _ C (held_closed client s C h)
held_did client s C Abort Fine is h = unchanged client _ C (held_closed client s C h)
held_did client s C _ _ is h = unchanged client s C h

-- ---- at each moment

-- a deed that the rule allows
held_deed : (client : ℕ) (s : Client) (C : List Tx) (before : List Note) (deed : Deed) → Allows s before deed → Held client s C → Held client (after s deed) (C ++ commit_in s deed)
held_deed client s C before (Did call outcome) allowed h = held_did client s C call outcome allowed h
held_deed client s C before (Asked i ask (Heard say)) allowed h = unchanged client (heard s i ask say) C (held_heard client s C i ask say h)
held_deed client s C before (Asked i ask _) allowed h = unchanged client s C h
held_deed client s C before (Told line) allowed h = unchanged client s C h
held_deed client s C before (Spoilt from item why) allowed h = absurd allowed

-- a client at first
held_new : (n client capacity : ℕ) → Held client (new_client n client capacity) []
held_new n client capacity = record {
  who = refl;
  number = refl;
  below = omega arith;
  waiting = refl;
  dots = tt;
  ranks = λ p t there. absurd (none-some t there);
  ascend = λ p q t u lt there. absurd (none-some t there);
  modest = λ p t there. absurd (none-some t there);
  paid = omega arith;
  ranked = omega arith;
  open_ranked = λ us is. absurd (none-some us is);
  draft = modest_none;
}

-- a client after the first m notes of a log that follows the rule
pub held_after : (n client capacity : ℕ) (notes : List Note) → Follows n client capacity notes → (m : ℕ) → Held client (client_after n client capacity (take m notes)) (commits_of n client capacity (take m notes))
held_after n client capacity notes follows = by_notes n client capacity notes (Held client) (held_new n client capacity) (λ p note there h.
    let X = take p notes in
    held_deed client (client_after n client capacity X) (commits_of n client capacity X) X note.deed (follows.holds p note there) h)
