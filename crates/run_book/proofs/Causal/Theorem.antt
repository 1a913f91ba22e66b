-- The laws of a book that fits, and that it is causal.
use Rattle.std.proofs.Common.{ℕ, ◌+◌, ◌-◌, List, take, sym, ap, ◌∙◌, subst, arith}
use Rattle.std.proofs.lemmas.Option.{slice_get_within}
use Rattle.list_core.specs.Members.{In}
use Rattle.list_core.proofs.Members.{In_right}
use Rattle.list_core.proofs.Gets.{In_get}
use Rattle.tx_core.specs.declared.tx.Tx.{Tx}
use Rattle.run_book.specs.Setups.{Setup, centre_settings}
use Rattle.run_book.specs.declared.book.Book.{Book}
use Rattle.tx_graph.specs.Nodes.{Node, Within}
use Rattle.run_book.specs.Parts.{trail_of, IsClient}
use Rattle.run_book.specs.Fit.{FitsWith}
use Rattle.run_book.specs.Graphs.{cover, own_dots, graph, basis_at, client_at, open_node, commits_at}
use Rattle.run_book.specs.Causal.{IsCausal}
use Rattle.run_book.specs.Laws.{HasSoundVectors, HasOneList, HasClosedBases, KeepsSessions, HasKnownBases, HasValues, Agrees, KnowsPruned}
use Rattle.run_book.proofs.Numbered.{numbered_at}
use Rattle.run_book.proofs.Held.{dot_at}
use Rattle.run_book.proofs.Dots.{are_own_dots}
use Rattle.run_book.proofs.Causal.CentreVectors.{vector_sound, told_sound, stable_sound}
use Rattle.run_book.proofs.Causal.SessionVectors.{session_sound, snap_sound}
use Rattle.run_book.proofs.Causal.OneList.{front, inside_covered, covered_inside}
use Rattle.run_book.proofs.Causal.KnownToK.{basis_known}
use Rattle.run_book.proofs.Causal.Moments.{moment}
use Rattle.run_book.proofs.Causal.Pruned.{base_held, base_known, horizon_sound, trimmed_known, refused, refused_delta, send_misfit, send, relay_misfit, relay, prune}
use Rattle.run_book.proofs.Causal.Commits.{one_tx, applied_commit}
use Rattle.run_book.proofs.Causal.SessionStates.{standing}
use Rattle.run_book.proofs.Causal.Closure.{made, closed_basis, basis_grows, session_held}
use Rattle.run_book.proofs.Causal.InView.{ops_in}
use Rattle.run_book.proofs.Causal.Views.{well_issued, open_over}
use Rattle.run_book.proofs.Causal.FoldedValues.{folded}
use Rattle.run_book.proofs.Causal.Reads.{read_over, reads_agree}
use Rattle.run_book.proofs.Causal.OneValue.{unique_marks, unique_marks_in, one_value}
use Rattle.run_book.proofs.Causal.ClosedSetValues.{over_set}
use Rattle.run_book.proofs.Causal.Acts.{acts_with}
use Rattle.tx_graph.specs.Values.{acts_over}

module _ (b : Book) (setup : Setup) (fit : FitsWith b setup) where
  -- the vectors are sound at each moment
  pub sound_vectors : HasSoundVectors b setup
  sound_vectors = record {
    centres = vector_sound b setup fit;
    told_rows = λ i j p low high. told_sound b setup fit i j p;
    stable_vectors = stable_sound b setup fit;
    bases = λ i p low high. (horizon_sound b setup fit i p low high).base;
    marks = λ i p low high. (horizon_sound b setup fit i p low high).mark;
    snapshots = snap_sound b setup fit;
    sessions = λ a m client. session_sound b setup fit a client m;
  }

  -- all centres have one list of each centre's records
  pub one_list : HasOneList b
  one_list = record {
    fronts = λ i p e low high. front b setup fit i p low high e;
    served = λ i p w d low high le. (inside_covered b setup fit i p low high w d, covered_inside b setup fit i p low high w d le);
    carried = λ i p j q r s i_low i_high j_low j_high here there same. one_tx b setup fit r.tx s.tx (applied_commit b setup fit i p i_low i_high r here) (applied_commit b setup fit j q j_low j_high s there) same;
  }

  -- the graph is well made, and bases are closed
  pub closed_bases : HasClosedBases b setup
  closed_bases = record {
    made = made b setup fit;
    bases = λ read r. closed_basis b setup fit read.actor read.place r.client;
  }

  -- what a session committed is in its basis
  commits_in : (a m : ℕ) (t : Tx) → IsClient setup a → In t (commits_at b setup a m) → In t.dot (basis_at b setup a m)
  commits_in a m t client i =
      let s = client_at b setup a m in
      let held = session_held b setup fit a m client in
      let g = In_get (commits_at b setup a m) t i in
      let dot = numbered_at (λ (t : Tx). t.dot) (dot_at (a - 1)) 1 (commits_at b setup a m) g.0 t held.dots g.1 in
      let within = slice_get_within (commits_at b setup a m) g.0 t g.1 in
      In_right (cover b s.vector) (own_dots s.client s.own) t.dot (are_own_dots s.client s.own t.dot (record { number = 1 + g.0; low = omega arith; high = omega (arith, within, held.number); is = dot ∙ ap (λ c. dot_at c (1 + g.0)) (sym held.who) }))

  -- the basis of a read holds those of earlier reads, and all own commits
  pub keeps_sessions : KeepsSessions b setup
  keeps_sessions = record {
    earlier = λ read later r later_r same le. subst (λ a. Within (basis_at b setup read.actor read.place) (basis_at b setup a later.place)) same (basis_grows b setup fit read.actor read.place later.place r.client le);
    commits = commits_in;
    own_numbers = λ a m number client. let h = standing b setup fit a client m in (λ i. h.own_in number i, λ r. h.own_all number r.0 r.1);
  }

  -- what is not the session's own is known to K, and who is counted has it
  pub known_bases : HasKnownBases b setup
  known_bases = record {
    bases = λ read d r i other. basis_known b setup fit read.actor r.client read.place d i other;
    moments = moment b setup fit;
  }

  -- the values of reads and of closed sets
  pub values : HasValues b setup
  values = record {
    reads = read_over b setup fit;
    one = λ read other client first second.
        let set = basis_at b setup read.actor read.place in
        let last = open_node b (client_at b setup read.actor read.place) in
        let o = read.object in
        one_value o.sort (acts_with nodes set last o) read.value other (unique_marks nodes set last (well_issued b setup fit) (open_over b setup fit read.actor read.place client) o) first second;
    over_sets = λ set o closed. (folded o (ops_in nodes set o), over_set b setup fit set closed o);
    one_over_sets = λ set o value other first second. one_value o.sort (acts_over nodes set o) value other (unique_marks_in nodes set (made b setup fit) o) first second;
  }
    where
      nodes : List Node
      nodes = graph b setup

  -- reads over equal bases give one value
  pub agrees : Agrees b setup
  agrees = record { reads = reads_agree b setup fit }

  -- what is pruned is known
  pub pruned : KnowsPruned b setup
  pruned = record {
    folded = λ i p stamp low high. base_known (centre_settings b setup i) (take p (trail_of b i)) stamp;
    held = λ i p low high. base_held (centre_settings b setup i) (take p (trail_of b i));
    let_go = trimmed_known b setup fit;
    refused = λ i o here centre high low entry stands. refused b setup fit i entry stands o here centre high low;
    refused_deltas = λ i o from here centre high low entry stands. refused_delta b setup fit i entry stands o from here centre high low;
    sends = λ i after most entry stands. send b setup fit i entry stands after most;
    misfits = λ i after most entry stands. send_misfit b setup fit i entry stands after most;
    relays = λ i origin after most entry stands. relay b setup fit i entry stands origin after most;
    relay_misfits = λ i origin after most entry stands. relay_misfit b setup fit i entry stands origin after most;
    prunes = λ i entry stands. prune b setup fit i entry stands;
  }

  -- a book that fits is causal
  pub causal : IsCausal b setup
  causal = record {
    made = made b setup fit;
    reads = λ read r. record {
      closed = closed_basis b setup fit read.actor read.place r.client;
      own = λ t i. commits_in read.actor read.place t r.client i;
      earlier = λ other earlier same le. subst (λ a. Within (basis_at b setup other.actor other.place) (basis_at b setup a read.place)) same (basis_grows b setup fit other.actor other.place read.place earlier.client le);
      known = λ d i other. basis_known b setup fit read.actor r.client read.place d i other;
      value_is = read_over b setup fit read r;
    };
  }
