-- Two lists of records with one cut are alike, and so all later answers are the same.
use Rattle.std.proofs.Common.{◌≡◌, ◌≤◌, ℕ, cond, inl, ⊎_elim, List, [], ◌∷◌, ◌++◌, length, take, drop, map, Some, refl, sym, ap, ◌∙◌, subst, arith}
use Rattle.std.specs.Prelude.{◌==◌, slice_get}
use Rattle.std.proofs.Math.ListN.{drop_of_length-le}
use Rattle.std.proofs.lemmas.Bool.{cases_lt}
use Rattle.list_core.specs.Members.{In}
use Rattle.list_core.proofs.Members.{All-In}
use Rattle.list_core.proofs.Moments.{by_moments, by_prefixes}
use Rattle.ids_core.specs.declared.ids.Mark.{Mark}
use Rattle.ids_core.specs.declared.object.ObjectId.{ObjectId}
use Rattle.vv_core.specs.Vectors.{at, centres, meet_of, kth_largest, Covers}
use Rattle.vv_core.proofs.Entrywise.{at-tabulate, at-tabulate_le}
use Rattle.tx_core.specs.declared.op.Op.{Op}
use Rattle.tx_core.specs.declared.tx.Record.{Record}
use Rattle.tx_core.specs.declared.part.StatePart.{StatePart}
use Rattle.tx_core.specs.States.{empty_of, fold_of}
use Rattle.join_bundle.specs.declared.condition.Condition.TheVariants.{RowCount, RowWidths, MarkOverBase, VectorOverMark}
use Rattle.join_bundle.specs.declared.part.ClientPart.{ClientPart}
use Rattle.join_bundle.specs.declared.part.BundleParts.{BundleParts}
use Rattle.join_bundle.specs.Conditions.{IsCentre, IsOver}
use Rattle.dc_talk.specs.declared.ask.Ask.{Ask}
use Rattle.dc_talk.specs.declared.settings.Settings.{Settings}
use Rattle.dc_talk.specs.Entries.{Entry}
use Rattle.dc_talk.specs.Records.{count, vector, guard, first_stamp, inside, mine}
use Rattle.dc_talk.specs.Sents.{with_hops, items, of_origin}
use Rattle.dc_talk.specs.Objects.{state_at}
use Rattle.dc_talk.proofs.Places.{numbers_below}
use Rattle.cut_law.specs.Parts.{Parts, list, stable_over, answer_over, parts_then, parts_past, GoesOn}
use Rattle.cut_law.specs.Cuts.{ops_inside, IsClientOf, AreClientsOf, AreStatesOf}
use Rattle.cut_law.specs.Adopting.{row_at, stable_by, CanAdopt, MayStart, adopted}
use Rattle.cut_law.proofs.Trails.{past_more}
use Rattle.cut_law.proofs.Inside.{mine_guarded}
use Rattle.cut_law.proofs.Lists.{AreAlike, last_dot}
use Rattle.cut_law.proofs.Timely.{IsTimely}
use Rattle.cut_law.proofs.Steps.{AreParts, origin_count, answer_alike, then_alike}

-- ---- clients

module _ (A B : List Record) (base : List ℕ) (parts : List ClientPart) (one : AreClientsOf A base parts) (two : AreClientsOf B base parts) where
  -- a client of the first list has a part, which tells of both
  record InBoth (client : ℕ) : Type 0 where
    part : ClientPart
    here : IsClientOf A base part
    there : IsClientOf B base part
    client_is : part.client ≡ client

  in_both : (client : ℕ) → 1 ≤ guard client A → InBoth client
  in_both client some = let p = one.all client some in record { part = p.0; here = one.each p.0 p.1; there = two.each p.0 p.1; client_is = p.2 }

  pub guard_first : (client : ℕ) → 1 ≤ guard client A → guard client A ≡ guard client B
  guard_first client some =
      let p = in_both client some in
      ap (λ c. guard c A) (sym p.client_is) ∙ (sym p.here.number ∙ (p.there.number ∙ ap (λ c. guard c B) p.client_is))

  pub stamp_first : (client : ℕ) → 1 ≤ guard client A → first_stamp (last_dot client A) A ≡ first_stamp (last_dot client A) B
  stamp_first client some =
      let p = in_both client some in
      let number : guard client A ≡ p.part.number = ap (λ c. guard c A) (sym p.client_is) ∙ sym p.here.number in
      (λ i. first_stamp (record { client = sym p.client_is i; number = number i }) A)
      ∙ (p.here.stamp ∙ (sym p.there.stamp
      ∙ (λ i. first_stamp (record { client = p.client_is i; number = sym number i }) B)))

  pub mine_first : (client : ℕ) → 1 ≤ guard client A → mine client (inside A base) ≡ mine client (inside B base)
  mine_first client some =
      let p = in_both client some in
      ap (λ c. mine c (inside A base)) (sym p.client_is) ∙ (sym p.here.folded ∙ (p.there.folded ∙ ap (λ c. mine c (inside B base)) p.client_is))

module _ (A B : List Record) (base : List ℕ) (parts : List ClientPart) (one : AreClientsOf A base parts) (two : AreClientsOf B base parts) where
  guards_alike : (client : ℕ) → guard client A ≡ guard client B
  guards_alike client = ⊎_elim
      (λ lt. guard_first A B base parts one two client (omega (arith, lt)))
      (λ none. ⊎_elim (λ lt. sym (guard_first B A base parts two one client (omega (arith, lt)))) (λ nought. omega (arith, none, nought)) (cases_lt 0 (guard client B)))
      (cases_lt 0 (guard client A))

  mines_alike : (client : ℕ) → mine client (inside A base) ≡ mine client (inside B base)
  mines_alike client = ⊎_elim
      (λ lt. mine_first A B base parts one two client (omega (arith, lt)))
      (λ none. let same = guards_alike client in let here = mine_guarded A base client in let there = mine_guarded B base client in omega (arith, none, same, here, there))
      (cases_lt 0 (guard client A))

-- ---- states

module _ (A B : List Record) (base : List ℕ) (parts : List StatePart) (one : AreStatesOf A base parts) (two : AreStatesOf B base parts) where
  -- a part tells of both lists
  by_part : (o : ObjectId) → (p : StatePart) × In p parts × (p.object ≡ o) → state_at o A base ≡ state_at o B base
  by_part o p = subst (λ o. state_at o A base ≡ state_at o B base) p.2 (sym (one.each p.0 p.1).state ∙ (two.each p.0 p.1).state)

  states_alike : (o : ObjectId) → state_at o A base ≡ state_at o B base
  states_alike o = go (ops_inside o A base) refl (ops_inside o B base) refl
    where
      go : (ops : List (Mark × Op)) → ops_inside o A base ≡ ops → (others : List (Mark × Op)) → ops_inside o B base ≡ others → state_at o A base ≡ state_at o B base
      go [] here [] there = ap (fold_of (empty_of o.sort)) (here ∙ sym there)
      go (op ∷ ops) here _ there = by_part o (one.all o (λ none. absurd (omega (arith, ap length (sym here ∙ none)))))
      go [] here (op ∷ others) there = by_part o (two.all o (λ none. absurd (omega (arith, ap length (sym there ∙ none)))))

-- ---- alike by a cut

-- what a centre starts from are the records that it was given
pub list_adopted : (A : List Record) → items (map (λ (r : Record). with_hops r 0) A) ≡ A
list_adopted [] = refl
list_adopted (r ∷ A) = ap (λ l. r ∷ l) (list_adopted A)

module _ (s : Settings) (b : BundleParts) (can : CanAdopt s b) (A : List Record) (start : MayStart s b A) where
  -- the bundle's vector counts them
  pub counted : (e : ℕ) → IsCentre s.n e → count e A ≡ at b.vector e
  counted e centre = sym (at-tabulate s.n e (λ e. count e A) centre.0 centre.1) ∙ ap (λ v. at v e) (sym start.cut.vector)

  marked : (e : ℕ) → at b.mark e ≤ count e A
  marked e =
      let over : IsOver b.vector b.mark = can.bundle.meets VectorOverMark in
      let le = over.covers.holds e in
      let vector : at b.vector e ≡ at (vector s.n A) e = ap (λ v. at v e) start.cut.vector in
      let counts = at-tabulate_le s.n e (λ e. count e A) in
      omega (arith, le, vector, counts)

  ahead : Covers b.mark b.base
  ahead = let over : IsOver b.mark b.base = can.bundle.meets MarkOverBase in over.covers

  -- all that the centre starts from is let go
  none_kept : (e : ℕ) → IsCentre s.n e → drop (at b.vector e) (of_origin e (map (λ (r : Record). with_hops r 0) A)) ≡ []
  none_kept e centre =
      let long = origin_count e (map (λ (r : Record). with_hops r 0) A) in
      let same : count e (items (map (λ (r : Record). with_hops r 0) A)) ≡ count e A = ap (count e) (list_adopted A) in
      let all = counted e centre in
      drop_of_length-le (of_origin e (map (λ (r : Record). with_hops r 0) A)) (omega (arith, long, same, all))

  -- its mark is stable by the rows of the bundle
  stable_adopted : stable_over s (adopted b A) ≡ stable_by s b
  stable_adopted i = meet_of (kth_largest s.k (map (λ j. cond (j == s.me) (have i) (row_at b.rows j)) (centres s.n))) (have i)
    where
      have : vector s.n (list (adopted b A)) ≡ b.vector
      have = ap (vector s.n) (list_adopted A) ∙ sym start.cut.vector

  -- the first row of the bundle is wide enough
  first_wide : (rows : List (List ℕ)) → length rows ≡ length b.vector → ((row : List ℕ) → In row rows → length row ≡ length b.vector) → s.n ≤ length (row_at rows 1)
  first_wide [] long wide = let width = can.width in omega (arith, long, width)
  first_wide (row ∷ rows) long wide = let width = can.width in let here = wide row (inl refl) in omega (arith, width, here)

  timely_adopted : IsTimely s (adopted b A)
  timely_adopted = record {
    wide = first_wide b.rows (can.bundle.meets RowCount) (λ row i. All-In (λ (row : List ℕ). length row ≡ length b.vector) b.rows row (can.bundle.meets RowWidths) i);
    ahead = ahead;
    marked = λ e. subst (λ (l : List Record). at b.mark e ≤ count e l) (sym (list_adopted A)) (marked e);
    steady = subst (λ v. Covers v b.mark) (sym stable_adopted) can.stable;
  }

module _ (s : Settings) (b : BundleParts) (can : CanAdopt s b) (A B : List Record) (one : MayStart s b A) (two : MayStart s b B) where
  -- the records are alike at the base of the bundle
  cut_alike : AreAlike s.n b.base A B
  cut_alike = record {
    counts = λ e centre. counted s b can A one e centre ∙ sym (counted s b can B two e centre);
    guards = guards_alike A B b.base b.clients one.cut.clients two.cut.clients;
    stamps = stamp_first A B b.base b.clients one.cut.clients two.cut.clients;
    tops = sym one.cut.top ∙ two.cut.top;
    states = states_alike A B b.base b.states one.cut.states two.cut.states;
    numbers = mines_alike A B b.base b.clients one.cut.clients two.cut.clients;
    folded = sym one.cut.folded ∙ two.cut.folded;
    rests = sym one.cut.rest ∙ two.cut.rest;
    held = λ e. let le = (ahead s b can A one).holds e in let marked = marked s b can A one e in omega (arith, le, marked);
    all_one = numbers_below s A one.order;
    all_two = numbers_below s B two.order;
  }

  -- so is what a centre goes on from over the one and over the other
  adopted_alike : AreParts s (adopted b A) (adopted b B)
  adopted_alike = record {
    carried = record {
      lists = subst (λ (l : List Record). AreAlike s.n b.base l (list (adopted b B))) (sym (list_adopted A)) (subst (λ (l : List Record). AreAlike s.n b.base A l) (sym (list_adopted B)) cut_alike);
      kept = λ e centre. none_kept s b can A one e centre ∙ sym (none_kept s b can B two e centre);
    };
    told = λ j. refl;
    horizon = refl;
    stopped = refl;
    timely = timely_adopted s b can A one;
  }

-- ---- all later entries

module _ (s : Settings) (P Q : Parts) (me : IsCentre s.n s.me) (known : 1 ≤ s.k) (later : List Entry) (start : AreParts s P Q) (goes : GoesOn s P later) where
  -- at each moment the parts are alike
  alike_at : (p : ℕ) → AreParts s (parts_past s P (take p later)) (parts_past s Q (take p later))
  alike_at = by_moments (λ X. AreParts s (parts_past s P X) (parts_past s Q X)) later start step
    where
      step : (p : ℕ) (e : Entry) → slice_get later p ≡ Some e → AreParts s (parts_past s P (take p later)) (parts_past s Q (take p later)) → AreParts s (parts_past s P (take p later ++ e ∷ [])) (parts_past s Q (take p later ++ e ∷ []))
      step p e there h =
          subst (λ (R : Parts). AreParts s R (parts_past s Q (take p later ++ e ∷ []))) (sym (past_more s P (take p later) e))
          (subst (λ (R : Parts). AreParts s (parts_then s (parts_past s P (take p later)) e.ask e.say) R) (sym (past_more s Q (take p later) e))
          (then_alike s (parts_past s P (take p later)) (parts_past s Q (take p later)) me known h e.ask e.say (goes.holds p e there)))

  -- so each answer is the same
  pub goes_alike : GoesOn s Q later
  goes_alike = record { holds = λ p e there. goes.holds p e there ∙ answer_alike s (parts_past s P (take p later)) (parts_past s Q (take p later)) me (alike_at p) e.ask }

  pub later_alike : (ask : Ask) → answer_over s (parts_past s P later) ask ≡ answer_over s (parts_past s Q later) ask
  later_alike = by_prefixes (λ X. (ask : Ask) → answer_over s (parts_past s P X) ask ≡ answer_over s (parts_past s Q X) ask) later (λ p. answer_alike s (parts_past s P (take p later)) (parts_past s Q (take p later)) me (alike_at p))

-- where two lists have one cut, a centre that adopted it goes on over the one as over the other
pub same_history : (s : Settings) (b : BundleParts) (A B : List Record) (later : List Entry) → IsCentre s.n s.me → 1 ≤ s.k → CanAdopt s b → MayStart s b A → MayStart s b B → GoesOn s (adopted b A) later → GoesOn s (adopted b B) later
same_history s b A B later me known can one two goes = goes_alike s (adopted b A) (adopted b B) me known later (adopted_alike s b can A B one two) goes

pub same_answers : (s : Settings) (b : BundleParts) (A B : List Record) (later : List Entry) (ask : Ask) → IsCentre s.n s.me → 1 ≤ s.k → CanAdopt s b → MayStart s b A → MayStart s b B → GoesOn s (adopted b A) later → answer_over s (parts_past s (adopted b A) later) ask ≡ answer_over s (parts_past s (adopted b B) later) ask
same_answers s b A B later ask me known can one two goes = later_alike s (adopted b A) (adopted b B) me known later (adopted_alike s b can A B one two) goes ask
