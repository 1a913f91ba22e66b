-- The rights of a holder are an account that is checked before each taking.
use Rattle.std.proofs.Common.{◌≡◌, ℕ, ◌<◌, ◌⊎◌, inl, inr, ⊎_elim, ℤ, Bool, true, false, List, [], ◌∷◌, ◌++◌, map, refl, sym, ap, ◌∙◌, subst, arith}
use Rattle.std.specs.Prelude.{pos, ◌+ℤ◌, ◌≤ℤ◌, ◌<ℤ◌}
use Rattle.std.proofs.lemmas.Int.{ints}
use Rattle.list_core.specs.Members.{In}
use Rattle.list_core.specs.Apart.{Apart}
use Rattle.list_core.proofs.Members.{In_right, In_from_map}
use Rattle.ids_core.specs.declared.ids.Dot.{Dot}
use Rattle.ids_core.specs.declared.object.ObjectId.{ObjectId}
use Rattle.ids_core.specs.Ids.{same_object}
use Rattle.ids_core.specs.Same.{same_object-true}
use Rattle.obj_counter.specs.Counter.{total}
use Rattle.tx_core.specs.declared.tx.Update.{Update}
use Rattle.dc_talk.specs.Records.{has}
use Rattle.dc_talk.proofs.Dots.{has_In, In_has}
use Rattle.tx_graph.specs.Nodes.{Node, Closed, WellMade}
use Rattle.graph_rights.specs.Accounts.{AccountTx, sum_over, counted_if, balance, IsClosedOver, IsCheckedAccount}
use Rattle.graph_rights.specs.Rights.{amount_in, amount_at, rights_by, rights_over, rights_in, IsGuarded}
use Rattle.graph_rights.proofs.Images.{get_unmap, map_parts}
use Rattle.graph_rights.proofs.Accounts.{never_below, sum_at_least}
use Rattle.graph_rights.proofs.Sums.{rights_are, rights_of_sum, sum_over-map, total-map}

-- ---- what an update is worth

module _ (owner : ℕ) (gains losses : List ObjectId) (nodes : List Node) (apart : Apart (λ (o : ObjectId). o) losses) (guarded : IsGuarded owner gains losses nodes) where
  -- what an update adds to the rights
  abbrev worth : Update → ℤ
  worth u = rights_by gains losses (amount_at u)

  -- a node as the account sees it
  abbrev account_tx : Node → AccountTx
  account_tx t = record { dot = t.dot; deps = λ d. has d t.deps; amounts = map worth t.updates }

  -- an update of a cell of these
  record Hits (cells : List ObjectId) (u : Update) : Type 0 where
    cell : ObjectId
    there : In cell cells
    is : same_object u.object cell ≡ true

  -- an update of no cell of these
  abbrev Misses : List ObjectId → Update → Type 0
  Misses cells u = (o : ObjectId) → In o cells → same_object u.object o ≡ false

  hits_or_misses : (cells : List ObjectId) (u : Update) → Misses cells u ⊎ Hits cells u
  hits_or_misses [] u = inl (λ o i. absurd i)
  hits_or_misses (cell ∷ cells) u = go (same_object u.object cell) refl (hits_or_misses cells u)
    where
      go : (b : Bool) → same_object u.object cell ≡ b → Misses cells u ⊎ Hits cells u → Misses (cell ∷ cells) u ⊎ Hits (cell ∷ cells) u
      go true is rest = inr (record { cell = cell; there = inl refl; is = is })
      go false is (inr hit) = inr (record { cell = hit.cell; there = inr hit.there; is = hit.is })
      go false is (inl miss) = inl (λ o i. ⊎_elim (λ same. subst (λ o. same_object u.object o ≡ false) (sym same) is) (miss o) i)

  -- what it adds to cells that it misses
  missed : (cells : List ObjectId) (u : Update) → Misses cells u → sum_over (amount_at u) cells ≡ pos 0
  missed [] u miss = refl
  missed (cell ∷ cells) u miss =
      let rest = missed cells u (λ o i. miss o (inr i)) in
      let here : amount_at u cell ≡ pos 0 = ap (λ b. counted_if b (amount_in u)) (miss cell (inl refl)) in
      omega (arith, ints, rest, here)

  -- and to different cells, where it is no less than 0
  added_once : (cells : List ObjectId) (u : Update) → Apart (λ (o : ObjectId). o) cells → pos 0 ≤ℤ amount_in u → sum_over (amount_at u) cells ≤ℤ amount_in u
  added_once [] u apart paid = paid
  added_once (cell ∷ cells) u apart paid = go (same_object u.object cell) refl (added_once cells u apart.1 paid)
    where
      go : (b : Bool) → same_object u.object cell ≡ b → sum_over (amount_at u) cells ≤ℤ amount_in u → (counted_if b (amount_in u) +ℤ sum_over (amount_at u) cells) ≤ℤ amount_in u
      go true is rest =
          let elsewhere = missed cells u (λ o i. other o i (same_object u.object o) refl) in
          omega (arith, ints, elsewhere)
        where
          other : (o : ObjectId) → In o cells → (b : Bool) → same_object u.object o ≡ b → same_object u.object o ≡ false
          other o i true so = absurd (apart.0 o i (sym (same_object-true u.object cell is) ∙ same_object-true u.object o so))
          other o i false so = so
      go false is rest = omega (arith, ints, rest)

  -- what it adds to cells is no less than 0
  added_some : (t : Node) (u : Update) (cells : List ObjectId) → In t nodes → In u t.updates → ((o : ObjectId) → In o cells → In o gains ⊎ In o losses) → pos 0 ≤ℤ sum_over (amount_at u) cells
  added_some t u cells i j among = sum_at_least (amount_at u) cells (λ o k. go o k (same_object u.object o) refl)
    where
      go : (o : ObjectId) → In o cells → (b : Bool) → same_object u.object o ≡ b → pos 0 ≤ℤ counted_if b (amount_in u)
      go o k true is = guarded.paid t u o i j (among o k) is
      go o k false is = omega (arith, ints)

  -- one that takes hits a cell that counts against the owner
  hit_by : (t : Node) (u : Update) → In t nodes → In u t.updates → worth u <ℤ pos 0 → Hits losses u
  hit_by t u i j takes =
      ⊎_elim
      (λ miss.
      let plus = added_some t u gains i j (λ o k. inl k) in
      let minus = missed losses u miss in
      absurd (omega (arith, ints, plus, minus, takes)))
      (λ hit. hit)
      (hits_or_misses losses u)

  -- ---- the account

  -- the account over a set is the rights
  balance_is : (set : List Dot) → balance (λ d. has d set) (map account_tx nodes) ≡ rights_over gains losses nodes set
  balance_is set =
      sum_over-map (λ (t : AccountTx). counted_if (has t.dot set) (total t.amounts)) account_tx nodes
      ∙ (ap (λ f. sum_over f nodes) (λ i t. counted_if (has t.dot set) ((total-map worth t.updates ∙ sym (rights_of_sum gains losses (λ u o. amount_at u o) t.updates)) i))
      ∙ sym (rights_are gains losses nodes set))

  module _ (made : WellMade nodes) where
    account : IsCheckedAccount owner (map account_tx nodes)
    account = record {
      unique = λ p q t u here there same.
          let a = get_unmap account_tx nodes p t here in
          let b = get_unmap account_tx nodes q u there in
          made.unique p q a.0 b.0 a.1 b.1 (ap (λ (t : AccountTx). t.dot) a.2 ∙ (same ∙ ap (λ (t : AccountTx). t.dot) (sym b.2)));
      forward = λ t i. let m = In_from_map account_tx nodes t i in subst (λ (t : AccountTx). t.deps t.dot ≡ false) (sym m.2) (forward m.0 m.1 (has m.0.dot m.0.deps) refl);
      own = λ t u i j who less. own t u (In_from_map account_tx nodes t i) (In_from_map account_tx nodes u j) who less;
      owned = λ t w i j takes. owned t w (In_from_map account_tx nodes t i) j takes;
      checked = λ t before later w i whole takes. checked t before later w (In_from_map account_tx nodes t i) whole takes;
    }
      where
        forward : (t : Node) → In t nodes → (b : Bool) → has t.dot t.deps ≡ b → has t.dot t.deps ≡ false
        forward t i true is = absurd (omega (arith, made.ranks t t i i (has_In t.dot t.deps is)))
        forward t i false is = is

        own : (t u : AccountTx) → (m : Node) × In m nodes × (t ≡ account_tx m) → (n : Node) × In n nodes × (u ≡ account_tx n) → u.dot.client ≡ t.dot.client → u.dot.number < t.dot.number → t.deps u.dot ≡ true
        own t u m n who less =
            let dot_t : t.dot ≡ m.0.dot = ap (λ (t : AccountTx). t.dot) m.2 in
            let dot_u : u.dot ≡ n.0.dot = ap (λ (t : AccountTx). t.dot) n.2 in
            let same : n.0.dot.client ≡ m.0.dot.client = ap (λ (d : Dot). d.client) (sym dot_u) ∙ (who ∙ ap (λ (d : Dot). d.client) dot_t) in
            let lower : n.0.dot.number < m.0.dot.number = omega (arith, less, ap (λ (d : Dot). d.number) dot_t, ap (λ (d : Dot). d.number) dot_u) in
            let within : has n.0.dot m.0.deps ≡ true = In_has n.0.dot m.0.deps (guarded.own m.0 n.0 m.1 n.1 same lower) in
            subst (λ (t : AccountTx). t.deps u.dot ≡ true) (sym m.2) (subst (λ d. has d m.0.deps ≡ true) (sym dot_u) within)

        owned : (t : AccountTx) (w : ℤ) → (m : Node) × In m nodes × (t ≡ account_tx m) → In w t.amounts → w <ℤ pos 0 → t.dot.client ≡ owner
        owned t w m j takes =
            let k : In w (map worth m.0.updates) = subst (λ (t : AccountTx). In w t.amounts) m.2 j in
            let u = In_from_map worth m.0.updates w k in
            let hit = hit_by m.0 u.0 m.1 u.1 (subst (λ w. w <ℤ pos 0) u.2 takes) in
            ap (λ (t : AccountTx). t.dot.client) m.2 ∙ guarded.taken m.0 u.0 hit.cell m.1 u.1 hit.there hit.is

        checked : (t : AccountTx) (before later : List ℤ) (w : ℤ) → (m : Node) × In m nodes × (t ≡ account_tx m) → t.amounts ≡ before ++ w ∷ later → w <ℤ pos 0 → pos 0 ≤ℤ (balance t.deps (map account_tx nodes) +ℤ (total before +ℤ w))
        checked t before later w m whole takes =
            let parts = map_parts worth m.0.updates before w later (sym (ap (λ (t : AccountTx). t.amounts) m.2) ∙ whole) in
            let u = parts.one in
            let j : In u m.0.updates = subst (λ l. In u l) (sym parts.whole) (In_right parts.before (u ∷ parts.later) u (inl refl)) in
            let hit = hit_by m.0 u m.1 j (subst (λ w. w <ℤ pos 0) (sym parts.here) takes) in
            let paid = guarded.paid m.0 u hit.cell m.1 j (inr hit.there) hit.is in
            let plus = added_some m.0 u gains m.1 j (λ o k. inl k) in
            let minus = added_once losses u apart paid in
            let enough = guarded.checked m.0 parts.before parts.later u hit.cell m.1 parts.whole hit.there hit.is in
            let over : balance t.deps (map account_tx nodes) ≡ rights_over gains losses nodes m.0.deps = ap (λ (t : AccountTx). balance t.deps (map account_tx nodes)) m.2 ∙ balance_is m.0.deps in
            let front : total before ≡ rights_in gains losses parts.before = ap total (sym parts.front) ∙ (total-map worth parts.before ∙ sym (rights_of_sum gains losses (λ u o. amount_at u o) parts.before)) in
            let here : worth u ≡ w = parts.here in
            omega (arith, ints, plus, minus, enough, over, front, here)

    -- over a closed set no holder's rights are below 0
    pub rights_never_below : (set : List Dot) → Closed nodes set → pos 0 ≤ℤ rights_over gains losses nodes set
    rights_never_below set closed = subst (λ z. pos 0 ≤ℤ z) (balance_is set) (never_below owner (map account_tx nodes) (λ d. has d set) account is_closed)
      where
        is_closed : IsClosedOver (map account_tx nodes) (λ d. has d set)
        is_closed t u i j within dep =
            let m = In_from_map account_tx nodes t i in
            let dot_t : t.dot ≡ m.0.dot = ap (λ (t : AccountTx). t.dot) m.2 in
            let inside : In m.0.dot set = has_In m.0.dot set (subst (λ d. has d set ≡ true) dot_t within) in
            let dep2 : has u.dot m.0.deps ≡ true = subst (λ (t : AccountTx). t.deps u.dot ≡ true) m.2 dep in
            In_has u.dot set ((closed.dependencies m.0 m.1 inside).each u.dot (has_In u.dot m.0.deps dep2))
