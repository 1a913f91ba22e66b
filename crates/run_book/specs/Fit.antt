-- When the trails and the logs of a book belong together.
use Rattle.std.specs.Prelude.{◌≡◌, ℕ, ◌+◌, ◌-◌, ◌*◌, ◌≤◌, length, List, Some, slice_get}
use Rattle.list_core.specs.Members.{In}
use Rattle.ids_core.specs.declared.limits.TheConstants.{MOST_CENTRES, MOST_CLIENTS, MOST_RECORDS}
use Rattle.tx_core.specs.declared.tx.Tx.{Tx}
use Rattle.tx_core.specs.declared.tx.Record.{Record}
use Rattle.dc_talk.specs.declared.ask.Ask.{Ask}
use Rattle.dc_talk.specs.declared.ask.Ask.TheVariants.{Refresh, Commit, Deliver, Learn}
use Rattle.dc_talk.specs.declared.say.Say.TheVariants.{Records, Vector}
use Rattle.dc_talk.specs.declared.calls.Call.{Call}
use Rattle.dc_talk.specs.declared.calls.Outcome.{Outcome}
use Rattle.dc_talk.specs.declared.log.Fate.{Fate}
use Rattle.dc_talk.specs.declared.log.Deed.TheVariants.{Did, Asked}
use Rattle.dc_talk.specs.declared.log.Note.{Note}
use Rattle.dc_talk.specs.declared.sent.Sent.{Sent}
use Rattle.dc_talk.specs.Entries.{Entry}
use Rattle.dc_talk.specs.Sents.{with_hops}
use Rattle.dc_talk.specs.Answers.{History}
use Rattle.dc_talk.specs.Rule.{Follows}
use Rattle.run_book.specs.declared.book.Book.{Book}
use Rattle.run_book.specs.Setups.{Setup, centre_settings}
use Rattle.run_book.specs.Parts.{trail_of, log_of, notes_of, entries_by, exchanged, IsClient}
use Rattle.run_book.specs.Graphs.{commits_at}

-- a book in form: its numbers are in range, there is a trail for each centre and a log for each
-- actor, callers are actors, asks go to centres, and calls stand in clients' logs
pub record InForm (b : Book) (setup : Setup) : Type 0 where
  pub n : (1 ≤ b.n) × (b.n ≤ MOST_CENTRES)
  pub k : (1 ≤ b.k) × (b.k ≤ b.n)
  pub clients_range : (1 ≤ setup.clients) × (setup.clients ≤ MOST_CLIENTS)
  pub trails : length b.trails ≡ b.n
  pub logs : length b.logs ≡ 1 + setup.clients + 4 * b.n
  pub actors : (a : ℕ) → 1 ≤ a → a ≤ length b.logs → (log_of b a).actor ≡ a
  pub callers : (i p : ℕ) (entry : Entry) → slice_get (trail_of b i) p ≡ Some entry → (1 ≤ entry.caller) × (entry.caller ≤ length b.logs)
  pub centres : (a m : ℕ) (note : Note) (i : ℕ) (ask : Ask) (fate : Fate) → slice_get (notes_of b a) m ≡ Some note → note.deed ≡ Asked i ask fate → (1 ≤ i) × (i ≤ b.n)
  pub calls : (a m : ℕ) (note : Note) (call : Call) (outcome : Outcome) → slice_get (notes_of b a) m ≡ Some note → note.deed ≡ Did call outcome → IsClient setup a

-- the record stands with these hops in an answer of some centre to a send or a relay
pub record IsHandedOn (b : Book) (item : Record) (hops : ℕ) : Type 0 where
  pub centre : ℕ
  pub range : (1 ≤ centre) × (centre ≤ b.n)
  pub place : ℕ
  pub entry : Entry
  pub there : slice_get (trail_of b centre) place ≡ Some entry
  pub list : List Sent
  pub says : entry.say ≡ Records list
  pub has : In (with_hops item hops) list

-- the vector stands in an answer of its centre to a report
pub record IsReported (b : Book) (from : ℕ) (news : List ℕ) : Type 0 where
  pub origin : (1 ≤ from) × (from ≤ b.n)
  pub place : ℕ
  pub entry : Entry
  pub there : slice_get (trail_of b from) place ≡ Some entry
  pub says : entry.say ≡ Vector news

-- a book fits a setup: each trail is a history of its centre; each caller's entries are what its log
-- exchanged there; what is delivered or learned comes from where it says; the clients' logs follow the
-- session rule; only clients commit, each what it had committed before, and only clients refresh
pub record FitsWith (b : Book) (setup : Setup) : Type 0 where
  pub form : InForm b setup
  pub limit_range : (1 ≤ setup.limit) × (setup.limit ≤ MOST_RECORDS)
  pub capacity_range : 1 ≤ setup.capacity
  pub histories : (i : ℕ) → 1 ≤ i → i ≤ b.n → History (centre_settings b setup i) (trail_of b i)
  pub paired : (i a : ℕ) → 1 ≤ i → i ≤ b.n → 1 ≤ a → a ≤ length b.logs → entries_by a (trail_of b i) ≡ exchanged i (notes_of b a)
  pub delivered : (i p : ℕ) (entry : Entry) (item : Record) (hops : ℕ) → slice_get (trail_of b i) p ≡ Some entry → entry.ask ≡ Deliver item hops → IsHandedOn b item hops
  pub learned : (i p : ℕ) (entry : Entry) (from : ℕ) (news : List ℕ) → slice_get (trail_of b i) p ≡ Some entry → entry.ask ≡ Learn from news → IsReported b from news
  pub follows : (a : ℕ) → IsClient setup a → Follows b.n (a - 1) setup.capacity (notes_of b a)
  pub commits_home : (a m : ℕ) (note : Note) (i : ℕ) (tx : Tx) (fate : Fate) → slice_get (notes_of b a) m ≡ Some note → note.deed ≡ Asked i (Commit tx) fate → IsClient setup a × In tx (commits_at b setup a m)
  pub refresh_home : (a m : ℕ) (note : Note) (i client : ℕ) (here : List ℕ) (fate : Fate) → slice_get (notes_of b a) m ≡ Some note → note.deed ≡ Asked i (Refresh client here) fate → IsClient setup a
