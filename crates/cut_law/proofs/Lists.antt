-- Lists of records that are alike at a base: of which a later vector tells the same, and which stay so.
use Rattle.std.proofs.Common.{◌≡◌, ◌≤◌, ◌<◌, ℕ, ◌+◌, max, Bool, true, false, cond, ◌⊎◌, inl, inr, ⊎_elim, List, [], ◌∷◌, ◌++◌, length, Option, Some, None, refl, sym, ap, ◌∙◌, subst, arith}
use Rattle.std.specs.Prelude.{◌==◌, map, flat_map}
use Rattle.std.proofs.lemmas.Bool.{cases_Bool, cases_lt, leb-true, eqb-true, false≢true}
use Rattle.list_core.specs.Members.{In}
use Rattle.list_core.proofs.Choices.{not_true}
use Rattle.list_core.proofs.Members.{In_left, In_right, In_map, In_from_map}
use Rattle.ids_core.specs.declared.ids.Dot.{Dot}
use Rattle.ids_core.specs.declared.object.ObjectId.{ObjectId}
use Rattle.ids_core.specs.Ids.{same_dot}
use Rattle.vv_core.specs.declared.stamp.Stamp.{Stamp}
use Rattle.vv_core.specs.Vectors.{at, within, Covers}
use Rattle.tx_core.specs.declared.tx.Record.{Record}
use Rattle.tx_core.specs.declared.part.RestPart.{RestPart}
use Rattle.tx_core.specs.States.{empty_of, fold_of}
use Rattle.tx_core.specs.Operations.{ops_of}
use Rattle.join_bundle.specs.Conditions.{IsCentre}
use Rattle.dc_talk.specs.Records.{count, guard, first_stamp, top, has, inside, mine}
use Rattle.dc_talk.specs.Dots.{dots_of}
use Rattle.dc_talk.specs.Objects.{state_at, ops_since}
use Rattle.dc_talk.specs.Answers.{count_inside}
use Rattle.dc_talk.specs.Laws.{HasNumber, HasNumbersBelow}
use Rattle.dc_talk.proofs.Counts.{count_more, guard_more, guard_front, in_guard}
use Rattle.dc_talk.proofs.Dots.{In_has, has_is}
use Rattle.dc_talk.proofs.Firsts.{first_stamp_is}
use Rattle.cut_law.specs.Cuts.{rest_of}
use Rattle.cut_law.proofs.Inside.{inside_stays, firsts_inside}
use Rattle.cut_law.proofs.Rests.{rest_within, rest_beyond, rest_with, ops_later, state_later, mine_later, count_later, rest_later, rest_more}

-- the last number of a client, as a dot
abbrev pub last_dot : ℕ → List Record → Dot
last_dot client A = record { client = client; number = guard client A }

-- two lists of records tell the same at a base, among n centres, and each number of a client up to its greatest is in both
pub record AreAlike (n : ℕ) (base : List ℕ) (A B : List Record) : Type 0 where
  pub counts : (e : ℕ) → IsCentre n e → count e A ≡ count e B
  pub guards : (client : ℕ) → guard client A ≡ guard client B
  pub stamps : (client : ℕ) → 1 ≤ guard client A → first_stamp (last_dot client A) A ≡ first_stamp (last_dot client A) B
  pub tops : top A ≡ top B
  pub states : (o : ObjectId) → state_at o A base ≡ state_at o B base
  pub numbers : (client : ℕ) → mine client (inside A base) ≡ mine client (inside B base)
  pub folded : count_inside A base ≡ count_inside B base
  pub rests : rest_of A base ≡ rest_of B base
  pub held : (e : ℕ) → at base e ≤ count e A
  pub all_one : HasNumbersBelow A
  pub all_two : HasNumbersBelow B

-- ---- a later vector

module _ (n : ℕ) (base : List ℕ) (A B : List Record) (h : AreAlike n base A B) (w : List ℕ) (covers : Covers w base) where
  -- tells the same state of an object
  pub state_alike : (o : ObjectId) → state_at o A w ≡ state_at o B w
  state_alike o =
      state_later A base w covers o
      ∙ ((λ i. fold_of (h.states o i) (flat_map (λ (x : RestPart). ops_of o x.tx) (rest_within (h.rests i) w)))
      ∙ sym (state_later B base w covers o))

  -- the same greatest number of a client
  pub mine_alike : (client : ℕ) → mine client (inside A w) ≡ mine client (inside B w)
  mine_alike client =
      mine_later A base w covers client
      ∙ ((λ i. max (h.numbers client i) (mine client (map (λ (x : RestPart). x.tx.dot) (rest_within (h.rests i) w))))
      ∙ sym (mine_later B base w covers client))

  -- and as many transactions
  pub count_alike : count_inside A w ≡ count_inside B w
  count_alike =
      count_later A base w covers
      ∙ ((λ i. h.folded i + length (rest_within (h.rests i) w))
      ∙ sym (count_later B base w covers))

  -- the rest beside it is the same
  rests_alike : rest_of A w ≡ rest_of B w
  rests_alike = rest_later A base w covers ∙ ((λ i. rest_beyond (h.rests i) w) ∙ sym (rest_later B base w covers))

  -- so the same operations came to an object between it and one that covers it
  pub ops_alike : (later : List ℕ) → Covers later w → (o : ObjectId) → ops_since o A w later ≡ ops_since o B w later
  ops_alike later more o =
      ops_later A w later more o
      ∙ ((λ i. flat_map (λ (x : RestPart). ops_of o x.tx) (rest_within (rests_alike i) later))
      ∙ sym (ops_later B w later more o))

  -- so the lists are alike there, where the first list holds what is within
  pub alike_on : ((e : ℕ) → at w e ≤ count e A) → AreAlike n w A B
  alike_on held = record {
    counts = h.counts;
    guards = h.guards;
    stamps = h.stamps;
    tops = h.tops;
    states = state_alike;
    numbers = mine_alike;
    folded = count_alike;
    rests = rests_alike;
    held = held;
    all_one = h.all_one;
    all_two = h.all_two;
  }

-- ---- one record more of one list

-- the greatest rank
top_more : (A : List Record) (r : Record) → top (A ++ r ∷ []) ≡ max (top A) r.tx.rank
top_more [] r = omega arith
top_more (q ∷ A) r = let rest = top_more A r in omega (arith, rest)

-- the first stamp of a dot is the one that was there, or else that of the record
abbrev first_or : Option Stamp → Bool → Stamp → Option Stamp
first_or None test stamp = cond test (Some stamp) None
first_or (Some first) test stamp = Some first

first_more : (d : Dot) (A : List Record) (r : Record) → first_stamp d (A ++ r ∷ []) ≡ first_or (first_stamp d A) (same_dot r.tx.dot d) r.stamp
first_more d [] r = refl
first_more d (q ∷ A) r = go (same_dot q.tx.dot d) (first_more d A r)
  where
    go : (b : Bool) → first_stamp d (A ++ r ∷ []) ≡ first_or (first_stamp d A) (same_dot r.tx.dot d) r.stamp → cond b (Some q.stamp) (first_stamp d (A ++ r ∷ [])) ≡ first_or (cond b (Some q.stamp) (first_stamp d A)) (same_dot r.tx.dot d) r.stamp
    go true rest = refl
    go false rest = rest

-- a number above all of its client's has no record
above_none : (d : Dot) (A : List Record) → guard d.client A < d.number → (r : Record) → In r A → r.tx.dot ≡ d → ⊥
above_none d A lt r i same =
    let le = in_guard A r i in
    let number : r.tx.dot.number ≡ d.number = ap (λ (d : Dot). d.number) same in
    let client : guard r.tx.dot.client A ≡ guard d.client A = ap (λ (d : Dot). guard d.client A) same in
    omega (arith, lt, le, number, client)

-- so it is not there, and has no first stamp
above_absent : (d : Dot) (A : List Record) → guard d.client A < d.number → has d (dots_of A) ≡ false
above_absent d A lt = has_is d (dots_of A) false (λ i. let m = In_from_map (λ (r : Record). r.tx.dot) A d i in absurd (above_none d A lt m.0 m.1 (sym m.2))) (λ e. absurd (false≢true e))

above_unstamped : (d : Dot) (A : List Record) → guard d.client A < d.number → first_stamp d A ≡ None
above_unstamped d A lt = go (first_stamp d A) refl
  where
    go : (o : Option Stamp) → first_stamp d A ≡ o → o ≡ None
    go None is = refl
    go (Some s) is = let f = first_stamp_is d A s is in absurd (above_none d A lt f.0 f.1 f.3)

-- each other number is there
pub number_there : (d : Dot) (A : List Record) → HasNumbersBelow A → 1 ≤ d.number → d.number ≤ guard d.client A → has d (dots_of A) ≡ true
number_there d A all low high =
    let h = all d.client d.number low high in
    In_has d (dots_of A) (subst (λ (e : Dot). In e (dots_of A)) (λ i. record { client = h.client_is i; number = h.number_is i }) (In_map (λ (r : Record). r.tx.dot) A h.item h.there))

-- each number up to the greatest is there with a record more, that is the next of its client or one that is there
numbers_more : (A : List Record) (r : Record) → r.tx.dot.number ≤ guard r.tx.dot.client A + 1 → HasNumbersBelow A → HasNumbersBelow (A ++ r ∷ [])
numbers_more A r next all client number low high = go (cases_lt (guard client A) number) (cases_Bool (r.tx.dot.client == client))
  where
    before : number ≤ guard client A → HasNumber (A ++ r ∷ []) client number
    before le = let h = all client number low le in record { item = h.item; there = In_left A (r ∷ []) h.item h.there; client_is = h.client_is; number_is = h.number_is }

    go : (guard client A < number) ⊎ (number ≤ guard client A) → ((r.tx.dot.client == client) ≡ true) ⊎ ((r.tx.dot.client == client) ≡ false) → HasNumber (A ++ r ∷ []) client number
    go (inr le) _ = before le
    go (inl lt) (inl t) =
        let more : guard client (A ++ r ∷ []) ≡ max (guard client A) r.tx.dot.number = guard_more client A r ∙ ap (λ b. max (guard client A) (cond b r.tx.dot.number 0)) t in
        let own : r.tx.dot.client ≡ client = eqb-true _ _ t in
        let greatest : guard r.tx.dot.client A ≡ guard client A = ap (λ c. guard c A) own in
        record { item = r; there = In_right A (r ∷ []) r (inl refl); client_is = own; number_is = omega (arith, more, lt, high, greatest, next) }
    go (inl lt) (inr f) =
        let more : guard client (A ++ r ∷ []) ≡ max (guard client A) 0 = guard_more client A r ∙ ap (λ b. max (guard client A) (cond b r.tx.dot.number 0)) f in
        absurd (omega (arith, more, lt, high))

-- a stamp above the count is not within what the list holds
next_beyond : (base : List ℕ) (A : List Record) (r : Record) → ((e : ℕ) → at base e ≤ count e A) → r.stamp.seq ≡ count r.stamp.centre A + 1 → within r.stamp base ≡ false
next_beyond base A r held seq = not_true (within r.stamp base) (λ t. let low = leb-true r.stamp.seq (at base r.stamp.centre) t in let le = held r.stamp.centre in omega (arith, low, le, seq))

-- ---- one record more of both

module _ (n : ℕ) (base : List ℕ) (A B : List Record) (r : Record) (h : AreAlike n base A B) (seq : r.stamp.seq ≡ count r.stamp.centre A + 1) (low : 1 ≤ r.tx.dot.number) (next : r.tx.dot.number ≤ guard r.tx.dot.client A + 1) where
  out : within r.stamp base ≡ false
  out = next_beyond base A r h.held seq

  -- its transaction is in both or in none
  known : has r.tx.dot (dots_of A) ≡ has r.tx.dot (dots_of B)
  known = ⊎_elim
      (λ lt. above_absent r.tx.dot A lt ∙ sym (above_absent r.tx.dot B (let same = h.guards r.tx.dot.client in omega (arith, lt, same))))
      (λ le. number_there r.tx.dot A h.all_one low le ∙ sym (number_there r.tx.dot B h.all_two low (let same = h.guards r.tx.dot.client in omega (arith, le, same))))
      (cases_lt (guard r.tx.dot.client A) r.tx.dot.number)

  guards_more : (client : ℕ) → guard client (A ++ r ∷ []) ≡ guard client (B ++ r ∷ [])
  guards_more client = guard_more client A r ∙ ((λ i. max (h.guards client i) (cond (r.tx.dot.client == client) r.tx.dot.number 0)) ∙ sym (guard_more client B r))

  -- the first stamps of a number that is there in both or in none
  stamps_of_last : (client number : ℕ) → guard client A ≤ number → 1 ≤ number → first_stamp (record { client = client; number = number }) A ≡ first_stamp (record { client = client; number = number }) B
  stamps_of_last client number le some = ⊎_elim
      (λ lt. above_unstamped (record { client = client; number = number }) A lt ∙ sym (above_unstamped (record { client = client; number = number }) B (let same = h.guards client in omega (arith, lt, same))))
      (λ back.
      let same : guard client A ≡ number = omega (arith, le, back) in
      (λ i. first_stamp (record { client = client; number = sym same i }) A) ∙ (h.stamps client (omega (arith, same, some)) ∙ (λ i. first_stamp (record { client = client; number = same i }) B)))
      (cases_lt (guard client A) number)

  stamps_more_alike : (client : ℕ) → 1 ≤ guard client (A ++ r ∷ []) → first_stamp (last_dot client (A ++ r ∷ [])) (A ++ r ∷ []) ≡ first_stamp (last_dot client (A ++ r ∷ [])) (B ++ r ∷ [])
  stamps_more_alike client some =
      let d = last_dot client (A ++ r ∷ []) in
      first_more (last_dot client (A ++ r ∷ [])) A r
      ∙ (ap (λ o. first_or o (same_dot r.tx.dot (last_dot client (A ++ r ∷ []))) r.stamp) (stamps_of_last client (guard client (A ++ r ∷ [])) (guard_front client A (r ∷ [])) some)
      ∙ sym (first_more (last_dot client (A ++ r ∷ [])) B r))

  -- within the base nothing changes
  state_stays : (X : List Record) (o : ObjectId) → state_at o (X ++ r ∷ []) base ≡ state_at o X base
  state_stays X o = ap (λ (l : List Record). fold_of (empty_of o.sort) (flat_map (λ (q : Record). ops_of o q.tx) l)) (firsts_inside X base r out)

  mine_stays : (X : List Record) (client : ℕ) → mine client (inside (X ++ r ∷ []) base) ≡ mine client (inside X base)
  mine_stays X client = ap (mine client) (inside_stays X base r out)

  count_stays : (X : List Record) → count_inside (X ++ r ∷ []) base ≡ count_inside X base
  count_stays X = ap length (firsts_inside X base r out)

  -- so they are alike with it
  pub alike_more : AreAlike n base (A ++ r ∷ []) (B ++ r ∷ [])
  alike_more = record {
    counts = λ e centre. count_more e A r ∙ ((λ i. h.counts e centre i + cond (r.stamp.centre == e) 1 0) ∙ sym (count_more e B r));
    guards = guards_more;
    stamps = stamps_more_alike;
    tops = top_more A r ∙ ((λ i. max (h.tops i) r.tx.rank) ∙ sym (top_more B r));
    states = λ o. state_stays A o ∙ (h.states o ∙ sym (state_stays B o));
    numbers = λ client. mine_stays A client ∙ (h.numbers client ∙ sym (mine_stays B client));
    folded = count_stays A ∙ (h.folded ∙ sym (count_stays B));
    rests = rest_more A base r out ∙ ((λ i. rest_with (h.rests i) r (known i)) ∙ sym (rest_more B base r out));
    held = λ e. let held = h.held e in let more = count_more e A r in omega (arith, held, more);
    all_one = numbers_more A r next h.all_one;
    all_two = numbers_more B r (let same = h.guards r.tx.dot.client in omega (arith, next, same)) h.all_two;
  }
