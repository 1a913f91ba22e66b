-- Each value that was read is that over the basis of the read and the open updates.
use Rattle.std.proofs.Common.{◌≡◌, ◌+◌, List, [], ◌++◌, take, sym, ap, ◌∙◌, subst}
use Rattle.std.specs.Prelude.{flat_map}
use Rattle.std.proofs.lemmas.List.{append-nil}
use Rattle.list_core.proofs.Members.{filter-agree}
use Rattle.ids_core.specs.declared.ids.Dot.{Dot}
use Rattle.tx_core.specs.States.{value_of}
use Rattle.tx_core.specs.Operations.{ops_from}
use Rattle.dc_talk.specs.Records.{has}
use Rattle.dc_talk.specs.Clients.{next_dot, draft_updates}
use Rattle.dc_talk.specs.Rule.{Allows}
use Rattle.dc_talk.proofs.Dots.{has_In, In_has, has_is}
use Rattle.run_book.specs.Setups.{Setup}
use Rattle.run_book.specs.declared.book.Book.{Book}
use Rattle.run_book.specs.Parts.{notes_of}
use Rattle.run_book.specs.Fit.{FitsWith}
use Rattle.tx_graph.specs.Nodes.{Node, Within}
use Rattle.tx_graph.specs.Values.{nodes_in, IsValueBy}
use Rattle.run_book.specs.Graphs.{graph, basis_at, client_at, open_node}
use Rattle.run_book.specs.Causal.{Reads, ValueRead, IsValueAt}
use Rattle.run_book.proofs.Served.{read_got}
use Rattle.run_book.proofs.Causal.Closure.{session_held}
use Rattle.run_book.proofs.Causal.InView.{node_ops, ops_in}
use Rattle.run_book.proofs.Causal.Sums.{sum_fits}
use Rattle.run_book.proofs.Causal.FoldedValues.{folded, folded_over}
use Rattle.run_book.proofs.Causal.Views.{now, view_now, well_issued, open_over}
use Rattle.run_book.proofs.Causal.Acts.{acts_with}

-- sets with the same members have the same nodes
same_nodes : (nodes : List Node) (X Y : List Dot) → Within X Y → Within Y X → nodes_in nodes X ≡ nodes_in nodes Y
same_nodes nodes X Y there back = filter-agree (λ (t : Node). has t.dot X) (λ (t : Node). has t.dot Y) nodes (λ t i. has_is t.dot X (has t.dot Y) (λ j. In_has t.dot Y (there.each t.dot j)) (λ is. back.each t.dot (has_In t.dot Y is)))

module _ (b : Book) (setup : Setup) (fit : FitsWith b setup) where
  -- a value that was read is the fold of all operations of the basis and of the open ones
  read_folded : (read : ValueRead) (r : Reads b setup read) → read.value ≡ folded read.object (now b setup fit read.actor read.place r.client read.object)
  read_folded read r =
      let a = read.actor in
      let m = read.place in
      let s = client_at b setup a m in
      let allowed = (fit.follows a r.client).holds m r.note r.there in
      let got = read_got s read.object read.value (subst (λ deed. Allows s (take m (notes_of b a)) deed) r.deed_is allowed) in
      got.is ∙ ap value_of (view_now b setup fit a m r.client read.object got.state got.found)

  -- so it is the value over the basis and the open updates
  pub read_over : (read : ValueRead) → Reads b setup read → IsValueAt b setup read
  read_over read r =
      let set = basis_at b setup read.actor read.place in
      let last = open_node b (client_at b setup read.actor read.place) in
      let modest = (session_held b setup fit read.actor read.place r.client).draft in
      subst (IsValueBy read.object.sort (acts_with (graph b setup) set last read.object)) (sym (read_folded read r))
      (folded_over (graph b setup) set last (well_issued b setup fit) (open_over b setup fit read.actor read.place r.client) read.object (sum_fits b setup fit set last read.object modest))

  -- where nothing is open, it is the fold of the operations of the basis
  read_closed : (read : ValueRead) → Reads b setup read → draft_updates (client_at b setup read.actor read.place) ≡ [] → read.value ≡ folded read.object (ops_in (graph b setup) (basis_at b setup read.actor read.place) read.object)
  read_closed read r none =
      let o = read.object in
      let s = client_at b setup read.actor read.place in
      let based = ops_in (graph b setup) (basis_at b setup read.actor read.place) o in
      read_folded read r ∙ ap (folded o) (ap (λ us. based ++ ops_from o (s.clock + 1) (next_dot s) 0 us) none ∙ append-nil based)

  -- so two reads of an object over equal bases give one value, where nothing is open
  pub reads_agree : (read other : ValueRead) → Reads b setup read → Reads b setup other → read.object ≡ other.object → Within (basis_at b setup read.actor read.place) (basis_at b setup other.actor other.place) → Within (basis_at b setup other.actor other.place) (basis_at b setup read.actor read.place) → draft_updates (client_at b setup read.actor read.place) ≡ [] → draft_updates (client_at b setup other.actor other.place) ≡ [] → read.value ≡ other.value
  reads_agree read other r t object there back none_here none_there =
      let same = same_nodes (graph b setup) (basis_at b setup read.actor read.place) (basis_at b setup other.actor other.place) there back in
      read_closed read r none_here
      ∙ (ap (λ o. folded o (ops_in (graph b setup) (basis_at b setup read.actor read.place) o)) object
      ∙ (ap (λ ts. folded other.object (flat_map (node_ops other.object) ts)) same ∙ sym (read_closed other t none_there)))
