-- Each commit of a book stands in its client's log at some moment.
use Rattle.std.proofs.Common.{◌≡◌, ℕ, ◌+◌, ◌-◌, length, take, sym, ap, ◌∙◌, subst, arith}
use Rattle.std.proofs.Math.Seq.{take-length}
use Rattle.list_core.specs.Members.{In}
use Rattle.list_core.proofs.Gets.{In_get}
use Rattle.tx_core.specs.declared.tx.Tx.{Tx}
use Rattle.dc_talk.specs.Rule.{commits_of}
use Rattle.run_book.specs.Setups.{Setup}
use Rattle.run_book.specs.declared.book.Book.{Book}
use Rattle.run_book.specs.Parts.{notes_of, IsClient}
use Rattle.run_book.specs.Fit.{FitsWith}
use Rattle.run_book.specs.Graphs.{committed, commits_at}
use Rattle.run_book.proofs.Sessions.{IsModest}
use Rattle.run_book.proofs.Causal.Commits.{committed_is}
use Rattle.run_book.proofs.Causal.Closure.{session_held}

-- all commits of a client are those by the end of its log
pub all_commits : (b : Book) (setup : Setup) (client : ℕ) → commits_at b setup (client + 1) (length (notes_of b (client + 1))) ≡ commits_of b.n client setup.capacity (notes_of b (client + 1))
all_commits b setup client =
    let notes = notes_of b (client + 1) in
    let which : client + 1 - 1 ≡ client = omega arith in
    ap (λ client. commits_of b.n client setup.capacity (take (length notes) notes)) which ∙ ap (commits_of b.n client setup.capacity) (take-length notes)

-- a client committed the transaction by a moment of its log
pub record IsCommitAt (b : Book) (setup : Setup) (t : Tx) : Type 0 where
  pub actor : ℕ
  pub client : IsClient setup actor
  pub moment : ℕ
  pub there : In t (commits_at b setup actor moment)

module _ (b : Book) (setup : Setup) (fit : FitsWith b setup) where
  -- so it is with each transaction that was committed
  pub commit_at : (t : Tx) → In t (committed b setup) → IsCommitAt b setup t
  commit_at t i =
      let c = committed_is b setup fit t i in
      record {
        actor = t.dot.client + 1;
        client = record { low = omega (arith, c.low); high = omega (arith, c.high) };
        moment = length (notes_of b (t.dot.client + 1));
        there = subst (λ l. In t l) (sym (all_commits b setup t.dot.client)) c.there;
      }

  -- its updates are modest
  pub commit_modest : (t : Tx) → In t (committed b setup) → IsModest t.updates
  commit_modest t i =
      let c = commit_at t i in
      let g = In_get (commits_at b setup c.actor c.moment) t c.there in
      (session_held b setup fit c.actor c.moment c.client).modest g.0 t g.1
