-- A centre gives one bundle after a trail: what the parts of clients and of objects tell, and their order, fix the lists.
use Rattle.std.proofs.Common.{◌≡◌, ◌≤◌, ℕ, List, sym, ap, ◌∙◌, subst}
use Rattle.std.specs.Cmp.{nat_cmp_total}
use Rattle.std.proofs.lemmas.Option.{same_Some}
use Rattle.list_core.specs.Members.{In}
use Rattle.ids_core.specs.Orders.{object_cmp_total}
use Rattle.ids_core.proofs.Ascending.{one_ascending}
use Rattle.tx_core.specs.declared.tx.Record.{Record}
use Rattle.tx_core.specs.declared.part.StatePart.{StatePart}
use Rattle.join_bundle.specs.declared.part.ClientPart.{ClientPart}
use Rattle.join_bundle.specs.declared.part.BundleParts.{BundleParts}
use Rattle.dc_talk.specs.declared.settings.Settings.{Settings}
use Rattle.dc_talk.specs.Entries.{Entry}
use Rattle.dc_talk.specs.Records.{guard, first_stamp, inside, mine}
use Rattle.dc_talk.specs.Objects.{state_at}
use Rattle.dc_talk.specs.Answers.{count_inside}
use Rattle.cut_law.specs.Parts.{Parts, list, parts_of}
use Rattle.cut_law.specs.Cuts.{rest_of, IsClientOf, AreClientsOf, IsStateOf, AreStatesOf, IsCutOver, IsCutOf}

module _ (A : List Record) (base : List ℕ) where
  -- two parts of one client are one
  one_client : (p q : ClientPart) → p.client ≡ q.client → IsClientOf A base p → IsClientOf A base q → p ≡ q
  one_client p q same one two = λ i. record { client = same i; number = number i; stamp = stamp i; folded = folded i }
    where
      number : p.number ≡ q.number
      number = one.number ∙ (ap (λ c. guard c A) same ∙ sym two.number)

      stamp : p.stamp ≡ q.stamp
      stamp = same_Some p.stamp q.stamp (sym one.stamp ∙ ((λ i. first_stamp (record { client = same i; number = number i }) A) ∙ two.stamp))

      folded : p.folded ≡ q.folded
      folded = one.folded ∙ (ap (λ c. mine c (inside A base)) same ∙ sym two.folded)

  -- a part of the one list is one of the other
  client_too : (parts others : List ClientPart) → AreClientsOf A base parts → AreClientsOf A base others → (p : ClientPart) → In p parts → In p others
  client_too parts others one two p i =
      let is = one.each p i in
      let q = two.all p.client (subst (λ m. 1 ≤ m) is.number is.some) in
      subst (λ q. In q others) (one_client q.0 p q.2 (two.each q.0 q.1) is) q.1

  one_clients : (parts others : List ClientPart) → AreClientsOf A base parts → AreClientsOf A base others → parts ≡ others
  one_clients parts others one two = one_ascending nat_cmp_total (λ (p : ClientPart). p.client) parts others one.order two.order (client_too parts others one two) (client_too others parts two one)

  -- so it is with objects
  one_state : (p q : StatePart) → p.object ≡ q.object → IsStateOf A base p → IsStateOf A base q → p ≡ q
  one_state p q same one two = λ i. record { object = same i; state = state i }
    where
      state : p.state ≡ q.state
      state = one.state ∙ (ap (λ o. state_at o A base) same ∙ sym two.state)

  state_too : (parts others : List StatePart) → AreStatesOf A base parts → AreStatesOf A base others → (p : StatePart) → In p parts → In p others
  state_too parts others one two p i =
      let is = one.each p i in
      let q = two.all p.object is.some in
      subst (λ q. In q others) (one_state q.0 p q.2 (two.each q.0 q.1) is) q.1

  one_states : (parts others : List StatePart) → AreStatesOf A base parts → AreStatesOf A base others → parts ≡ others
  one_states parts others one two = one_ascending object_cmp_total (λ (p : StatePart). p.object) parts others one.order two.order (state_too parts others one two) (state_too others parts two one)

-- two bundles of one centre with these parts are one
pub one_cut : (s : Settings) (P : Parts) (b c : BundleParts) → b.depth ≡ c.depth → IsCutOver s P b → IsCutOver s P c → b ≡ c
one_cut s P b c depth one two = λ i. record {
  donor = (one.donor ∙ sym two.donor) i;
  depth = depth i;
  vector = (one.cut.vector ∙ sym two.cut.vector) i;
  rows = (one.rows ∙ sym two.rows) i;
  base = base i;
  mark = (one.mark ∙ sym two.mark) i;
  folded = (one.cut.folded ∙ (ap (λ v. count_inside (list P) v) base ∙ sym two.cut.folded)) i;
  top = (one.cut.top ∙ sym two.cut.top) i;
  clients = one_clients (list P) c.base b.clients c.clients (subst (λ v. AreClientsOf (list P) v b.clients) base one.cut.clients) two.cut.clients i;
  states = one_states (list P) c.base b.states c.states (subst (λ v. AreStatesOf (list P) v b.states) base one.cut.states) two.cut.states i;
  rest = (one.cut.rest ∙ (ap (rest_of (list P)) base ∙ sym two.cut.rest)) i;
}
  where
    base : b.base ≡ c.base
    base = one.base ∙ sym two.base

-- a centre gives one bundle after its trail
pub one_cut_of : (s : Settings) (trail : List Entry) (b c : BundleParts) → IsCutOf s trail b → IsCutOf s trail c → b ≡ c
one_cut_of s trail b c one two = one_cut s (parts_of s trail) b c (one.depth ∙ sym two.depth) one.given two.given
