-- The applied list of a history: where its records come from, and that each is in order after those before it.
use Rattle.std.proofs.Common.{◌≡◌, ℕ, ◌+◌, ◌-◌, ◌≤◌, Bool, true, false, cond, ◌⊎◌, inl, inr, ⊎_elim, List, [], ◌∷◌, ◌++◌, length, take, Some, refl, sym, ap, ◌∙◌, subst, arith}
use Rattle.std.specs.Prelude.{slice_get, nat_le, ◌==◌}
use Rattle.std.proofs.lemmas.Bool.{cases_Bool, leb-true, leb-false, eqb-true, eq-eqb, false≢true}
use Rattle.std.proofs.lemmas.List.{map_push}
use Rattle.std.proofs.lemmas.List.Sums.{fold_push}
use Rattle.list_core.specs.Moments.{Each}
use Rattle.list_core.specs.Members.{In}
use Rattle.list_core.proofs.Gets.{In_get}
use Rattle.list_core.proofs.Members.{In_more}
use Rattle.list_core.proofs.Moments.{each_none, each_more, by_moments, by_prefixes}
use Rattle.ids_core.specs.declared.ids.Dot.{Dot}
use Rattle.vv_core.specs.declared.stamp.Stamp.{Stamp}
use Rattle.vv_core.specs.Vectors.{at, join_of, only, Covers}
use Rattle.vv_core.proofs.Entrywise.{at-join_of, at-only_same, at-only_other, at-tabulate_le, length-join_of, length-only}
use Rattle.tx_core.specs.declared.tx.Tx.{Tx}
use Rattle.tx_core.specs.declared.tx.Record.{Record}
use Rattle.dc_talk.specs.declared.ask.Ask.{Ask}
use Rattle.dc_talk.specs.declared.ask.Ask.TheVariants.{Commit, Deliver}
use Rattle.dc_talk.specs.declared.say.Say.{Say}
use Rattle.dc_talk.specs.declared.say.Say.TheVariants.{Stamped, Applied}
use Rattle.dc_talk.specs.declared.sent.Sent.{Sent}
use Rattle.dc_talk.specs.declared.settings.Settings.{Settings}
use Rattle.dc_talk.specs.Entries.{Entry}
use Rattle.dc_talk.specs.Records.{count, guard, first_stamp, joined, deps_of}
use Rattle.dc_talk.specs.Sents.{with_hops, items}
use Rattle.dc_talk.specs.Trails.{carried_on, carried, applied}
use Rattle.dc_talk.specs.Answers.{answer, History}
use Rattle.dc_talk.specs.Laws.{IsCentreHistory, IsInOrder}
use Rattle.dc_talk.proofs.Counts.{stamp_counted}
use Rattle.dc_talk.proofs.Firsts.{first_stamp_is, first_there}
use Rattle.dc_talk.proofs.ClientAnswers.{StampedBy, stamped_by}
use Rattle.dc_talk.proofs.PeerAnswers.{AppliedBy, applied_by}

-- ---- where records come from

-- the record of a transaction that is stamped after the records A
abbrev pub new_record : ℕ → List Record → Tx → Stamp → Record
new_record n A tx stamp = record { stamp = stamp; deps = deps_of n A tx; tx = tx }

-- what holds of no record, and still holds with one more that was stamped or came, holds of the applied list with hops
-- at each moment
pub by_sents : (s : Settings) (trail : List Entry) (Q : List Sent → Type 0) → History s trail → Q []
    → ((p : ℕ) (entry : Entry) (tx : Tx) (stamp : Stamp) → slice_get trail p ≡ Some entry → entry.ask ≡ Commit tx → StampedBy s (applied s.n (take p trail)) tx stamp → Q (carried s.n (take p trail)) → Q (carried s.n (take p trail) ++ with_hops (new_record s.n (applied s.n (take p trail)) tx stamp) 0 ∷ []))
    → ((p : ℕ) (entry : Entry) (item : Record) (hops : ℕ) (fresh : Bool) → slice_get trail p ≡ Some entry → entry.ask ≡ Deliver item hops → AppliedBy s (applied s.n (take p trail)) item fresh → Q (carried s.n (take p trail)) → Q (carried s.n (take p trail) ++ with_hops item (hops + 1) ∷ []))
    → (p : ℕ) → Q (carried s.n (take p trail))
by_sents s trail Q history start made came = by_moments (λ X. Q (carried s.n X)) trail start step
  where
    step : (p : ℕ) (entry : Entry) → slice_get trail p ≡ Some entry → Q (carried s.n (take p trail)) → Q (carried s.n (take p trail ++ entry ∷ []))
    step p entry there h = subst Q (sym (fold_push (λ C (entry : Entry). carried_on s.n C entry.ask entry.say) [] (take p trail) entry)) (go entry.ask refl entry.say refl)
      where
        go : (ask : Ask) → entry.ask ≡ ask → (say : Say) → entry.say ≡ say → Q (carried_on s.n (carried s.n (take p trail)) ask say)
        go (Commit tx) asks (Stamped stamp) says = made p entry tx stamp there asks (stamped_by s (take p trail) tx stamp (sym says ∙ (history.holds p entry there ∙ ap (answer s (take p trail)) asks))) h
        go (Deliver item hops) asks (Applied fresh) says = came p entry item hops fresh there asks (applied_by s (take p trail) item hops fresh (sym says ∙ (history.holds p entry there ∙ ap (answer s (take p trail)) asks))) h
        go _ asks _ says = h

-- the same of the applied list without hops
pub by_records : (s : Settings) (trail : List Entry) (Q : List Record → Type 0) → History s trail → Q []
    → ((p : ℕ) (entry : Entry) (tx : Tx) (stamp : Stamp) → slice_get trail p ≡ Some entry → entry.ask ≡ Commit tx → StampedBy s (applied s.n (take p trail)) tx stamp → Q (applied s.n (take p trail)) → Q (applied s.n (take p trail) ++ new_record s.n (applied s.n (take p trail)) tx stamp ∷ []))
    → ((p : ℕ) (entry : Entry) (item : Record) (hops : ℕ) (fresh : Bool) → slice_get trail p ≡ Some entry → entry.ask ≡ Deliver item hops → AppliedBy s (applied s.n (take p trail)) item fresh → Q (applied s.n (take p trail)) → Q (applied s.n (take p trail) ++ item ∷ []))
    → (p : ℕ) → Q (applied s.n (take p trail))
by_records s trail Q history start made came = by_sents s trail (λ C. Q (items C)) history start
    (λ p entry tx stamp there asks by h. subst Q (sym (map_push (λ (x : Sent). x.item) (carried s.n (take p trail)) (with_hops (new_record s.n (applied s.n (take p trail)) tx stamp) 0))) (made p entry tx stamp there asks by h))
    (λ p entry item hops fresh there asks by h. subst Q (sym (map_push (λ (x : Sent). x.item) (carried s.n (take p trail)) (with_hops item (hops + 1)))) (came p entry item hops fresh there asks by h))

-- centre me stamped the record for a commit that stands in its trail
pub record WasStamped (me : ℕ) (trail : List Entry) (r : Record) : Type 0 where
  pub place : ℕ
  pub entry : Entry
  pub there : slice_get trail place ≡ Some entry
  pub asks : entry.ask ≡ Commit r.tx
  pub own : r.stamp.centre ≡ me

-- the record is another centre's, and was delivered to centre me with these hops
pub record WasDelivered (me : ℕ) (trail : List Entry) (r : Record) (hops : ℕ) : Type 0 where
  pub place : ℕ
  pub entry : Entry
  pub there : slice_get trail place ≡ Some entry
  pub asks : entry.ask ≡ Deliver r hops
  pub other : r.stamp.centre ≡ me → ⊥

-- how a record came to centre me with its hops: it was stamped there and has none, or it was delivered with one less
abbrev pub Came : ℕ → List Entry → Sent → Type 0
Came me trail x = ((x.hops ≡ 0) × WasStamped me trail x.item) ⊎ ((hops : ℕ) × (x.hops ≡ hops + 1) × WasDelivered me trail x.item hops)

-- each record of an applied list came so
pub came_by : (s : Settings) (trail : List Entry) → History s trail → (p : ℕ) (x : Sent) → In x (carried s.n (take p trail)) → Came s.me trail x
came_by s trail history = by_sents s trail (λ C. (x : Sent) → In x C → Came s.me trail x) history (λ x i. absurd i)
    (λ p entry tx stamp there asks by rest x i. ⊎_elim (rest x)
    (λ same. subst (Came s.me trail) (sym same) (inl (refl, record { place = p; entry = entry; there = there; asks = asks; own = ap (λ (s : Stamp). s.centre) by.is })))
    (In_more (carried s.n (take p trail)) (with_hops (new_record s.n (applied s.n (take p trail)) tx stamp) 0) x i))
    (λ p entry item hops fresh there asks by rest x i. ⊎_elim (rest x)
    (λ same. subst (Came s.me trail) (sym same) (inr (hops, refl, record { place = p; entry = entry; there = there; asks = asks; other = by.other })))
    (In_more (carried s.n (take p trail)) (with_hops item (hops + 1)) x i))

-- ---- each record is in order

module _ (s : Settings) (trail : List Entry) (history : IsCentreHistory s trail) where
  -- a record that came
  came : (A : List Record) (item : Record) (fresh : Bool) → Each (IsInOrder s) A → AppliedBy s A item fresh → IsInOrder s A item
  came A item fresh each by = record {
    centre = by.fit.centre;
    number = by.number;
    few = by.fit.seq.1;
    width = by.fit.width;
    waited = λ e. let over = by.covered.holds e in let counts = at-tabulate_le s.n e (λ e. count e A) in omega (arith, over, counts);
    fit = by.fit.fit;
    next = by.next;
    made = λ same. absurd (by.other same);
  }

  -- the dependency vector of a transaction: within the counts, over the snapshot, and over the first stamp of the one before
  record IsDeps (A : List Record) (tx : Tx) (deps : List ℕ) : Type 0 where
    width : length deps ≡ s.n
    waited : (e : ℕ) → at deps e ≤ count e A
    snap : Covers deps tx.snap
    before : 2 ≤ tx.dot.number → (first : Stamp) × (first_stamp (record { client = tx.dot.client; number = tx.dot.number - 1 }) A ≡ Some first) × (first.seq ≤ at deps first.centre)

  -- the snapshot lies within the counts
  snap_counted : (A : List Record) (tx : Tx) (stamp : Stamp) → StampedBy s A tx stamp → (e : ℕ) → at tx.snap e ≤ count e A
  snap_counted A tx stamp by e = let over = by.covered.holds e in let counts = at-tabulate_le s.n e (λ e. count e A) in omega (arith, over, counts)

  -- with the first stamp of a transaction that is there
  with_first : (A : List Record) (tx : Tx) (stamp one : Stamp) (r : Record) → Each (IsInOrder s) A → StampedBy s A tx stamp → In r A → r.stamp ≡ one → first_stamp (record { client = tx.dot.client; number = tx.dot.number - 1 }) A ≡ Some one → IsDeps A tx (join_of tx.snap (only s.n one))
  with_first A tx stamp one r each by there same is = record {
    width = let wide = length-join_of tx.snap (only s.n one) in let single = length-only s.n one in let snap = by.fit.width in omega (arith, wide, single, snap);
    waited = λ e. let both = at-join_of tx.snap (only s.n one) e in let snap = snap_counted A tx stamp by e in let single = only_counted e in omega (arith, both, snap, single);
    snap = record { holds = λ e. let both = at-join_of tx.snap (only s.n one) e in omega (arith, both) };
    before = λ two. (one, is, (let both = at-join_of tx.snap (only s.n one) one.centre in let single = at-only_same s.n one low high in omega (arith, both, single)));
  }
    where
      place : IsInOrder s (take (In_get A r there).0 A) r
      place = each.holds (In_get A r there).0 r (In_get A r there).1

      low : 1 ≤ one.centre
      low = subst (λ (at : Stamp). 1 ≤ at.centre) same place.centre.0

      high : one.centre ≤ s.n
      high = subst (λ (at : Stamp). at.centre ≤ s.n) same place.centre.1

      counted : one.seq ≤ count one.centre A
      counted = subst (λ (at : Stamp). at.seq ≤ count at.centre A) same (stamp_counted s A r each there)

      only_counted : (e : ℕ) → at (only s.n one) e ≤ count e A
      only_counted e = go (cases_Bool (e == one.centre))
        where
          go : ((e == one.centre) ≡ true) ⊎ ((e == one.centre) ≡ false) → at (only s.n one) e ≤ count e A
          go (inl t) = subst (λ e. at (only s.n one) e ≤ count e A) (sym (eqb-true _ _ t)) (let single = at-only_same s.n one low high in omega (arith, single, counted))
          go (inr f) = let none = at-only_other s.n e one (λ same. false≢true (sym f ∙ eq-eqb e one.centre same)) in omega (arith, none)

  -- the dependency vector that a centre gives
  deps_are : (A : List Record) (tx : Tx) (stamp : Stamp) → Each (IsInOrder s) A → StampedBy s A tx stamp → IsDeps A tx (deps_of s.n A tx)
  deps_are A tx stamp each by = go (cases_Bool (nat_le 2 tx.dot.number))
    where
      last : Dot
      last = record { client = tx.dot.client; number = guard tx.dot.client A }

      previous : Dot
      previous = record { client = tx.dot.client; number = tx.dot.number - 1 }

      same_number : guard tx.dot.client A ≡ tx.dot.number - 1
      same_number = let number = by.number in omega (arith, number)

      first : 2 ≤ tx.dot.number → (first : Stamp) × (first_stamp previous A ≡ Some first)
      first two = first_there tx.dot.client (tx.dot.number - 1) A (omega (arith, two)) (sym same_number)

      go : (nat_le 2 tx.dot.number ≡ true) ⊎ (nat_le 2 tx.dot.number ≡ false) → IsDeps A tx (deps_of s.n A tx)
      go (inl t) =
          let f = first (leb-true 2 tx.dot.number t) in
          let r = first_stamp_is previous A f.0 f.1 in
          let known : first_stamp last A ≡ Some f.0 = ap (λ m. first_stamp (record { client = tx.dot.client; number = m }) A) same_number ∙ f.1 in
          let is : deps_of s.n A tx ≡ join_of tx.snap (only s.n f.0) = ap (λ b. cond b (joined s.n tx.snap (first_stamp last A)) tx.snap) t ∙ ap (joined s.n tx.snap) known in
          subst (λ d. IsDeps A tx d) (sym is) (with_first A tx stamp f.0 r.0 each by r.1 r.2 f.1)
      go (inr f) =
          let is : deps_of s.n A tx ≡ tx.snap = ap (λ b. cond b (joined s.n tx.snap (first_stamp last A)) tx.snap) f in
          let one = leb-false 2 tx.dot.number f in
          subst (λ d. IsDeps A tx d) (sym is) (record {
            width = by.fit.width;
            waited = snap_counted A tx stamp by;
            snap = record { holds = λ e. omega arith };
            before = λ two. absurd (omega (arith, one, two));
          })

  -- a record that was stamped
  made : (A : List Record) (tx : Tx) (stamp : Stamp) → Each (IsInOrder s) A → StampedBy s A tx stamp → IsInOrder s A (new_record s.n A tx stamp)
  made A tx stamp each by =
      let d = deps_are A tx stamp each by in
      let centre : stamp.centre ≡ s.me = ap (λ (at : Stamp). at.centre) by.is in
      let seq : stamp.seq ≡ count s.me A + 1 = ap (λ (at : Stamp). at.seq) by.is in
      let counts : count stamp.centre A ≡ count s.me A = ap (λ e. count e A) centre in
      let room = by.room in
      let number = by.number in
      let low = history.centre.0 in
      let high = history.centre.1 in
      record {
        centre = (omega (arith, low, centre), omega (arith, high, centre));
        number = omega (arith, seq, counts);
        few = omega (arith, seq, room, history.few);
        width = d.width;
        waited = d.waited;
        fit = by.fit;
        next = omega (arith, number);
        made = λ own. record { snap = d.snap; fresh = number; before = d.before };
      }

  -- each record of the applied list is in order, at each moment
  pub in_order_at : (p : ℕ) → Each (IsInOrder s) (applied s.n (take p trail))
  in_order_at = by_records s trail (λ A. Each (IsInOrder s) A) history.history (each_none (IsInOrder s))
      (λ p entry tx stamp there asks by each. each_more (IsInOrder s) (applied s.n (take p trail)) (new_record s.n (applied s.n (take p trail)) tx stamp) each (made (applied s.n (take p trail)) tx stamp each by))
      (λ p entry item hops fresh there asks by each. each_more (IsInOrder s) (applied s.n (take p trail)) item each (came (applied s.n (take p trail)) item fresh each by))

  -- and in the end
  pub in_order : Each (IsInOrder s) (applied s.n trail)
  in_order = by_prefixes (λ X. Each (IsInOrder s) (applied s.n X)) trail in_order_at
