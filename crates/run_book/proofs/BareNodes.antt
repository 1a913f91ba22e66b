-- The nodes of a book, as they are computed from replays.
use Rattle.std.proofs.Common.{◌≡◌, ℕ, ◌+◌, ◌-◌, ◌≤◌, true, take, subst, add-one, List, [], ◌∷◌, ◌++◌, length, map, Some, refl, sym, ap, ◌∙◌, arith}
use Rattle.std.specs.Prelude.{flat_map, slice_get}
use Rattle.std.specs.List.{range_with_len}
use Rattle.std.proofs.lemmas.Bool.{false≢true}
use Rattle.std.proofs.lemmas.List.{append_assoc, map-append}
use Rattle.list_core.proofs.Moments.{take_one_more}
use Rattle.ids_core.specs.declared.ids.Dot.{Dot}
use Rattle.tx_core.specs.declared.tx.Tx.{Tx}
use Rattle.dc_talk.specs.declared.calls.Call.TheVariants.{Commit}
use Rattle.dc_talk.specs.declared.calls.Outcome.TheVariants.{Number}
use Rattle.dc_talk.specs.declared.log.Deed.{Deed}
use Rattle.dc_talk.specs.declared.log.Deed.TheVariants.{Did}
use Rattle.dc_talk.specs.declared.log.Note.{Note}
use Rattle.dc_talk.specs.Logs.{Logged}
use Rattle.dc_talk.specs.Clients.{Client, next_dot, next_tx, draft_updates}
use Rattle.dc_talk.specs.Rule.{after, client_after, commit_in, commits_of, Follows}
use Rattle.run_book.specs.Setups.{Setup}
use Rattle.run_book.specs.declared.book.Book.{Book}
use Rattle.run_book.specs.declared.edits.Edit.{Edit}
use Rattle.run_book.specs.declared.replay.Replay.{Replay}
use Rattle.run_book.specs.declared.bare_nodes.BareNode.{BareNode}
use Rattle.run_book.specs.Parts.{log_of, IsClient}
use Rattle.run_book.specs.Fit.{FitsWith}
use Rattle.run_book.specs.Graphs.{cover, own_dots, node_of, basis, open_node}
use Rattle.run_book.specs.Edits.{edits_of}
use Rattle.run_book.specs.Replay.{Shows, IsInRange}
use Rattle.run_book.specs.Basis.{basis_of}
use Rattle.run_book.specs.BareNodes.{bare_node, is_commit}
use Rattle.run_book.proofs.Sessions.{commits_of_more}
use Rattle.list_core.proofs.Ranges.{joined_more}
use Rattle.run_book.proofs.Replays.{in_range_at, shows_more}
use Rattle.run_book.proofs.Growth.{wide_after}
use Rattle.run_book.proofs.Bases.{shows_basis}

-- the node of a client's open transaction, by its replay
pub next_is : (b : Book) (setup : Setup) (r : Replay) (s : Client) (number rank : ℕ) (deps : List Dot) (edits : List Edit) → FitsWith b setup → Shows r s → length s.vector ≡ b.n → number ≡ s.own + 1 → rank ≡ s.clock + 1 → deps ≡ basis_of b r → edits ≡ edits_of (draft_updates s) → record { dot = record { client = r.client; number = number }; deps = deps; rank = rank; edits = edits } ≡ bare_node (open_node b s)
next_is b setup r s number rank deps edits fit h wide number_is rank_is deps_is edits_is =
    let all : deps ≡ basis b s = deps_is ∙ shows_basis b setup fit r s h wide in
    λ i. record { dot = record { client = h.client i; number = number_is i }; deps = all i; rank = rank_is i; edits = edits_is i }

-- it is that of the transaction which is committed next
pub open_is : (b : Book) (s : Client) → open_node b s ≡ node_of b (next_tx s (draft_updates s))
open_is b s =
    let fewer : s.own ≡ s.own + 1 - 1 = omega arith in
    λ i. record { dot = next_dot s; deps = cover b s.vector ++ own_dots s.client (fewer i); rank = s.clock + 1; updates = draft_updates s }

-- a commit that got a number commits the open transaction
pub commit_is : (s : Client) (deed : Deed) → is_commit deed ≡ true → commit_in s deed ≡ next_tx s (draft_updates s) ∷ []
commit_is s (Did Commit (Number number)) is = refl
commit_is s _ is = absurd (false≢true is)

-- the nodes of the first notes of a log, behind others, and the replay of its client there
pub record Gathers (b : Book) (log : Logged) (first nodes : List BareNode) (r : Replay) (m : ℕ) : Type 0 where
  pub shows : (a : ℕ) (setup : Setup) → FitsWith b setup → IsClient setup a → log ≡ log_of b a → Shows r (client_after b.n (a - 1) setup.capacity (take m log.notes))
  pub are : (a : ℕ) (setup : Setup) → FitsWith b setup → IsClient setup a → log ≡ log_of b a → nodes ≡ first ++ map bare_node (map (node_of b) (commits_of b.n (a - 1) setup.capacity (take m log.notes)))

-- with one note more
pub gathers_more : (b : Book) (log : Logged) (first nodes more : List BareNode) (old new : Replay) (m : ℕ) (note : Note) → slice_get log.notes m ≡ Some note → Gathers b log first nodes old m → ((setup : Setup) (s : Client) → FitsWith b setup → Shows old s → IsInRange s → length s.vector ≡ b.n → more ≡ nodes ++ map bare_node (map (node_of b) (commit_in s note.deed))) → ((s : Client) → Shows old s → IsInRange s → Shows new (after s note.deed)) → Gathers b log first more new (m + 1)
gathers_more b log first nodes more old new m note there before pushed goes_on = record { shows = shows; are = are }
  where
    follows : (a : ℕ) (setup : Setup) → FitsWith b setup → IsClient setup a → log ≡ log_of b a → Follows b.n (a - 1) setup.capacity log.notes
    follows a setup fit client is = subst (λ (l : Logged). Follows b.n (a - 1) setup.capacity l.notes) (sym is) (fit.follows a client)

    shows : (a : ℕ) (setup : Setup) → FitsWith b setup → IsClient setup a → log ≡ log_of b a → Shows new (client_after b.n (a - 1) setup.capacity (take (m + 1) log.notes))
    shows a setup fit client is = shows_more b.n (a - 1) setup.capacity m log.notes note old new (follows a setup fit client is) there goes_on (before.shows a setup fit client is)

    are : (a : ℕ) (setup : Setup) → FitsWith b setup → IsClient setup a → log ≡ log_of b a → more ≡ first ++ map bare_node (map (node_of b) (commits_of b.n (a - 1) setup.capacity (take (m + 1) log.notes)))
    are a setup fit client is =
        let s = client_after b.n (a - 1) setup.capacity (take m log.notes) in
        let C = commits_of b.n (a - 1) setup.capacity (take m log.notes) in
        let D = commit_in s note.deed in
        let longer : commits_of b.n (a - 1) setup.capacity (take (m + 1) log.notes) ≡ C ++ D = rw add-one (ap (commits_of b.n (a - 1) setup.capacity) (take_one_more log.notes m note there) ∙ commits_of_more b.n (a - 1) setup.capacity (take m log.notes) note) in
        pushed setup s fit (before.shows a setup fit client is) (in_range_at b.n (a - 1) setup.capacity m log.notes (follows a setup fit client is)) (wide_after b.n (a - 1) setup.capacity (take m log.notes))
        ∙ (ap (λ l. l ++ map bare_node (map (node_of b) D)) (before.are a setup fit client is)
        ∙ (append_assoc first (map bare_node (map (node_of b) C)) (map bare_node (map (node_of b) D))
        ∙ ap (λ l. first ++ l) (sym (map-append bare_node (map (node_of b) C) (map (node_of b) D)) ∙ (ap (map bare_node) (sym (map-append (node_of b) C D)) ∙ ap (λ txs. map bare_node (map (node_of b) txs)) (sym longer)))))

-- the nodes of one client more
pub client_more : (b : Book) (f : ℕ → List Tx) (client : ℕ) (nodes more : List BareNode) → 1 ≤ client → nodes ≡ map bare_node (map (node_of b) (flat_map f (range_with_len 1 (client - 1)))) → more ≡ nodes ++ map bare_node (map (node_of b) (f client)) → more ≡ map bare_node (map (node_of b) (flat_map f (range_with_len 1 (client + 1 - 1))))
client_more b f client nodes more low before pushed =
    let C = flat_map f (range_with_len 1 (client - 1)) in
    pushed
    ∙ (ap (λ l. l ++ map bare_node (map (node_of b) (f client))) before
    ∙ (sym (map-append bare_node (map (node_of b) C) (map (node_of b) (f client)))
    ∙ ap (map bare_node) (sym (map-append (node_of b) C (f client)) ∙ ap (map (node_of b)) (joined_more f client low))))
