-- What is kept of applied records, at first, with one record more, and once more of them is folded.
use Rattle.std.proofs.Common.{◌≡◌, ◌≢◌, ◌≤◌, ◌<◌, ℕ, ◌+◌, max, Bool, true, false, cond, ◌⊎◌, inl, inr, ⊎_elim, List, [], ◌∷◌, ◌++◌, length, Some, refl, sym, ap, ◌∙◌, subst, arith}
use Rattle.std.specs.Prelude.{not, IsTrue, ◌↔◌, ◌==◌}
use Rattle.std.proofs.lemmas.Bool.{cases_Bool, cases_lt, false≢true, eq-eqb, eqb-true, leb-true, false_from_ne_true}
use Rattle.std.proofs.lemmas.Bool.Decides.{Decides-eqb}
use Rattle.std.proofs.lemmas.List.Elements.{All-nil, All-push}
use Rattle.list_core.specs.Members.{In}
use Rattle.list_core.proofs.Members.{In_left, In_right, In_either}
use Rattle.ids_core.specs.declared.limits.TheConstants.{MOST_CENTRES, MOST_CLIENTS, MOST_UPDATES}
use Rattle.ids_core.specs.declared.ids.Dot.{Dot}
use Rattle.ids_core.specs.Ids.{same_dot}
use Rattle.ids_core.specs.Same.{same_dot-true, same_dot-same}
use Rattle.vv_core.specs.declared.stamp.Stamp.{Stamp}
use Rattle.vv_core.specs.Vectors.{zeros, at, raised, within, Covers}
use Rattle.vv_core.proofs.Covering.{Covers_refl, Covers_trans, Covers-join_left}
use Rattle.vv_core.proofs.Entrywise.{length-zeros, is_tabulate, at-tabulate, at-zeros, raised-tabulate, same_tabulate, length-raised}
use Rattle.dup_guard.specs.declared.guard.Last.{Last}
use Rattle.dup_guard.specs.Notes.{number_of, stamp_of}
use Rattle.tx_core.specs.declared.tx.Record.{Record}
use Rattle.op_log.specs.Logs.{LogView}
use Rattle.check_point.specs.Points.{IsPointOf, HasFewUpdates}
use Rattle.point_log.specs.StandFor.{StandFor, with_one}
use Rattle.point_log.proofs.StandingFor.{none_stand, kept_stands}
use Rattle.dc_talk.specs.Records.{count, vector, guard, first_stamp, top, has}
use Rattle.dc_talk.specs.Dots.{dots_of}
use Rattle.dc_talk.proofs.Counts.{count_more, guard_more}
use Rattle.dc_centre.specs.Applied.{AppliedView, IsNext, is_fresh, IsGuard, IsRanged, IsPlaced, IsApplied}
use Rattle.dc_centre.proofs.Firsts.{new_dot, has_before, has_last, first_had, first_new}

-- ---- at first

zeros_count : (n : ℕ) → zeros n ≡ vector n []
zeros_count n = is_tabulate (zeros n) n (λ e. count e []) (length-zeros n) (λ e low high. at-zeros n e)

-- what is kept with nothing applied
pub record IsNothing (n : ℕ) (x : AppliedView) : Type 0 where
  pub counts : x.counts ≡ zeros n
  pub numbers : (client : ℕ) → number_of x.lasts client ≡ 0
  pub greatest : x.greatest ≡ 0
  pub base : x.point.vector ≡ zeros n
  pub point : IsPointOf x.point []
  pub log : x.log ≡ record { appended = 0; items = [] }

pub applied_none : (n : ℕ) (x : AppliedView) → (1 ≤ n) × (n ≤ MOST_CENTRES) → IsNothing n x → IsApplied n x []
applied_none n x width h = record {
  width = width;
  wide = ap (λ (v : List ℕ). length v) h.counts ∙ length-zeros n;
  based = ap (λ (v : List ℕ). length v) h.base ∙ length-zeros n;
  counted = h.counts ∙ zeros_count n;
  guarded = record { numbers = h.numbers; stamps = λ client low. absurd (omega arith) };
  ranked = h.greatest;
  stored = subst (λ (l : LogView). StandFor [] x.point l) (sym h.log) (none_stand x.point h.point);
  within = subst (λ (v : List ℕ). Covers x.counts v) (h.counts ∙ sym h.base) (Covers_refl x.counts);
  there = λ d low high. absurd (omega arith);
  updates = All-nil (λ (r : Record). HasFewUpdates r.tx);
  placed = λ e k low high. absurd (omega (arith, low, high));
  ranged = λ r i. absurd i;
}

-- ---- with one record more

-- a vector's entries are its counts
pub at-vector : (n e : ℕ) (counts : List ℕ) (A : List Record) → counts ≡ vector n A → 1 ≤ e → e ≤ n → at counts e ≡ count e A
at-vector n e counts A is low high = ap (λ v. at v e) is ∙ at-tabulate n e (λ e. count e A) low high

-- the vector with one record more
pub counted_more : (n : ℕ) (counts : List ℕ) (A : List Record) (r : Record) → counts ≡ vector n A → r.stamp.seq ≡ count r.stamp.centre A + 1 → raised counts r.stamp ≡ vector n (A ++ r ∷ [])
counted_more n counts A r is seq = ap (λ v. raised v r.stamp) is ∙ (raised-tabulate n (λ e. count e A) r.stamp ∙ same_tabulate n _ (λ e. count e (A ++ r ∷ [])) (λ e low high. one e (cases_Bool (e == r.stamp.centre))))
  where
    one : (e : ℕ) → ((e == r.stamp.centre) ≡ true) ⊎ ((e == r.stamp.centre) ≡ false) → cond (e == r.stamp.centre) (max (count e A) r.stamp.seq) (count e A) ≡ count e (A ++ r ∷ [])
    one e (inl t) =
        let same : e ≡ r.stamp.centre = (Decides-eqb e r.stamp.centre).0 t in
        let here : (r.stamp.centre == e) ≡ true = (Decides-eqb r.stamp.centre e).1 (sym same) in
        let counts : count e A ≡ count r.stamp.centre A = ap (λ e. count e A) same in
        let more : count e (A ++ r ∷ []) ≡ count e A + 1 = count_more e A r ∙ ap (λ b. count e A + cond b 1 0) here in
        rw t (omega arith)
    one e (inr f) =
        let other : (r.stamp.centre == e) ≡ false = ⊎_elim (λ t. absurd (false≢true (sym f ∙ (Decides-eqb e r.stamp.centre).1 (sym ((Decides-eqb r.stamp.centre e).0 t))))) (λ g. g) (cases_Bool (r.stamp.centre == e)) in
        let more : count e (A ++ r ∷ []) ≡ count e A + 0 = count_more e A r ∙ ap (λ b. count e A + cond b 1 0) other in
        rw f (omega arith)

pub guard_same : (c : ℕ) (A : List Record) (r : Record) → r.tx.dot.client ≡ c → guard c (A ++ r ∷ []) ≡ max (guard c A) r.tx.dot.number
guard_same c A r is = guard_more c A r ∙ ap (λ b. max (guard c A) (cond b r.tx.dot.number 0)) (eq-eqb r.tx.dot.client c is)

pub guard_other : (c : ℕ) (A : List Record) (r : Record) → (r.tx.dot.client == c) ≡ false → guard c (A ++ r ∷ []) ≡ guard c A
guard_other c A r is =
    let more : guard c (A ++ r ∷ []) ≡ max (guard c A) 0 = guard_more c A r ∙ ap (λ b. max (guard c A) (cond b r.tx.dot.number 0)) is in
    omega (arith, more)

pub top_more : (A : List Record) (r : Record) → top (A ++ r ∷ []) ≡ max (top A) r.tx.rank
top_more [] r = omega arith
top_more (q ∷ A) r = let rest = top_more A r in omega (arith, rest)

eqb_turn : (a b : ℕ) → (a == b) ≡ (b == a)
eqb_turn a b = go (cases_Bool (a == b)) (cases_Bool (b == a))
  where
    go : ((a == b) ≡ true) ⊎ ((a == b) ≡ false) → ((b == a) ≡ true) ⊎ ((b == a) ≡ false) → (a == b) ≡ (b == a)
    go (inl t) _ = t ∙ sym (eq-eqb b a (sym (eqb-true a b t)))
    go (inr f) (inl t) = eq-eqb a b (sym (eqb-true b a t)) ∙ sym t
    go (inr f) (inr g) = f ∙ sym g

-- what the filter of duplicates becomes
pub record Noted (r : Record) (fresh : Bool) (old new : List Last) : Type 0 where
  pub numbers : (client : ℕ) → number_of new client ≡ max (number_of old client) (cond (client == r.tx.dot.client) r.tx.dot.number 0)
  pub stamp : fresh ≡ true → stamp_of new r.tx.dot.client ≡ Some r.stamp
  pub others : (client : ℕ) → (fresh ≡ true → client ≢ r.tx.dot.client) → stamp_of new client ≡ stamp_of old client

dot_is : (c m : ℕ) (d : Dot) → c ≡ d.client → m ≡ d.number → same_dot d (record { client = c; number = m }) ≡ true
dot_is c m d p q = same_dot-same d (record { client = c; number = m }) (λ i. record { client = sym p i; number = sym q i })

-- the record can be applied next, after the records A of n centres
pub record IsAfter (n : ℕ) (A : List Record) (r : Record) : Type 0 where
  pub centre : (1 ≤ r.stamp.centre) × (r.stamp.centre ≤ n)
  pub seq : r.stamp.seq ≡ count r.stamp.centre A + 1
  pub client : (1 ≤ r.tx.dot.client) × (r.tx.dot.client ≤ MOST_CLIENTS)
  pub low : 1 ≤ r.tx.dot.number
  pub next : r.tx.dot.number ≤ guard r.tx.dot.client A + 1
  pub few : length r.tx.updates ≤ MOST_UPDATES

-- whether the record is of a new transaction, after the records A
abbrev pub is_new : List Record → Record → Bool
is_new A r = r.tx.dot.number == guard r.tx.dot.client A + 1

-- what is kept tells which record can be next
pub next_after : (n : ℕ) (x : AppliedView) (A : List Record) (r : Record) → IsApplied n x A → IsNext x r → IsAfter n A r
next_after n x A r h next =
    let wide = h.wide in
    let high = next.centre.1 in
    let here : r.stamp.centre ≤ n = omega (arith, wide, high) in
    record {
      centre = (next.centre.0, here);
      seq = next.seq ∙ ap (λ m. m + 1) (at-vector n r.stamp.centre x.counts A h.counted next.centre.0 here);
      client = next.client;
      low = next.low;
      next = let number = h.guarded.numbers r.tx.dot.client in let le = next.next in omega (arith, number, le);
      few = next.few;
    }

-- and which is new
pub fresh_after : (n : ℕ) (x : AppliedView) (A : List Record) (r : Record) → IsApplied n x A → is_fresh x r ≡ is_new A r
fresh_after n x A r h = ap (λ m. r.tx.dot.number == m + 1) (h.guarded.numbers r.tx.dot.client)

module _ (n : ℕ) (A : List Record) (r : Record) (next : IsAfter n A r) (there : (d : Dot) → 1 ≤ d.number → d.number ≤ guard d.client A → has d (dots_of A) ≡ true) where
  -- the dot of a record that is not new is there
  known_dot : (fresh : Bool) → fresh ≡ is_new A r → fresh ≡ false → has r.tx.dot (dots_of A) ≡ true
  known_dot fresh is f =
      let apart : r.tx.dot.number ≢ guard r.tx.dot.client A + 1 = λ e. false≢true (sym f ∙ (is ∙ eq-eqb _ _ e)) in
      there r.tx.dot next.low (let le = next.next in omega (arith, apart, le))

  fresh_number : (fresh : Bool) → fresh ≡ is_new A r → fresh ≡ true → r.tx.dot.number ≡ guard r.tx.dot.client A + 1
  fresh_number fresh is t = eqb-true _ _ (sym is ∙ t)

  -- the dot of a new one is not
  fresh_dot : (fresh : Bool) → fresh ≡ is_new A r → fresh ≡ true → has r.tx.dot (dots_of A) ≡ false
  fresh_dot fresh is t = new_dot r.tx.dot A (let e = fresh_number fresh is t in omega (arith, e))

  low_number : (fresh : Bool) → fresh ≡ is_new A r → fresh ≡ false → r.tx.dot.number ≤ guard r.tx.dot.client A
  low_number fresh is f =
      let apart : r.tx.dot.number ≢ guard r.tx.dot.client A + 1 = λ e. false≢true (sym f ∙ (is ∙ eq-eqb _ _ e)) in
      let le = next.next in omega (arith, apart, le)

  there_more : (d : Dot) → 1 ≤ d.number → d.number ≤ guard d.client (A ++ r ∷ []) → has d (dots_of (A ++ r ∷ [])) ≡ true
  there_more d low high = go (cases_Bool (r.tx.dot.client == d.client))
    where
      before : d.number ≤ guard d.client A → has d (dots_of (A ++ r ∷ [])) ≡ true
      before le = has_before d A r (there d low le)

      last : r.tx.dot.client ≡ d.client → d.number ≤ max (guard d.client A) r.tx.dot.number → (d.number ≤ guard d.client A) ⊎ (guard d.client A < d.number) → has d (dots_of (A ++ r ∷ [])) ≡ true
      last is le (inl b) = before b
      last is le (inr a) =
          let g : guard r.tx.dot.client A ≡ guard d.client A = ap (λ c. guard c A) is in
          let top = next.next in
          let number : d.number ≡ r.tx.dot.number = omega (arith, le, a, g, top) in
          has_last d A r (same_dot-same d r.tx.dot (λ i. record { client = sym is i; number = number i }))

      go : ((r.tx.dot.client == d.client) ≡ true) ⊎ ((r.tx.dot.client == d.client) ≡ false) → has d (dots_of (A ++ r ∷ [])) ≡ true
      go (inl t) =
          let is : r.tx.dot.client ≡ d.client = eqb-true _ _ t in
          last is (subst (λ g. d.number ≤ g) (guard_same d.client A r is) high) (⊎_elim (λ lt. inr lt) (λ le. inl le) (cases_lt (guard d.client A) d.number))
      go (inr f) = before (subst (λ g. d.number ≤ g) (guard_other d.client A r f) high)

  guarded_more : (fresh : Bool) (old new : List Last) → fresh ≡ is_new A r → IsGuard A old → Noted r fresh old new → IsGuard (A ++ r ∷ []) new
  guarded_more fresh old new is g h = record { numbers = numbers; stamps = λ c low. stamps c low (cases_Bool fresh) (cases_Bool (r.tx.dot.client == c)) }
    where
      numbers : (c : ℕ) → number_of new c ≡ guard c (A ++ r ∷ [])
      numbers c =
          let is = h.numbers c in
          let was = g.numbers c in
          let turn : cond (c == r.tx.dot.client) r.tx.dot.number 0 ≡ cond (r.tx.dot.client == c) r.tx.dot.number 0 = ap (λ b. cond b r.tx.dot.number 0) (eqb_turn c r.tx.dot.client) in
          let more = guard_more c A r in
          omega (arith, is, was, turn, more)

      kept : (c : ℕ) → guard c (A ++ r ∷ []) ≡ guard c A → 1 ≤ guard c (A ++ r ∷ []) → stamp_of new c ≡ stamp_of old c → stamp_of new c ≡ first_stamp (record { client = c; number = guard c (A ++ r ∷ []) }) (A ++ r ∷ [])
      kept c same low stamp =
          let low_before : 1 ≤ guard c A = omega (arith, same, low) in
          let d : Dot = record { client = c; number = guard c A } in
          let le : guard c A ≤ guard c A = omega arith in
          stamp ∙ (g.stamps c low_before ∙ (sym (first_had d A r (there d low_before le)) ∙ ap (λ m. first_stamp (record { client = c; number = m }) (A ++ r ∷ [])) (sym same)))

      stamps : (c : ℕ) → 1 ≤ guard c (A ++ r ∷ []) → (fresh ≡ true) ⊎ (fresh ≡ false) → ((r.tx.dot.client == c) ≡ true) ⊎ ((r.tx.dot.client == c) ≡ false) → stamp_of new c ≡ first_stamp (record { client = c; number = guard c (A ++ r ∷ []) }) (A ++ r ∷ [])
      stamps c low (inl t) (inl here) =
          let same : r.tx.dot.client ≡ c = eqb-true _ _ here in
          let number = fresh_number fresh is t in
          let more = guard_same c A r same in
          let g : guard r.tx.dot.client A ≡ guard c A = ap (λ c. guard c A) same in
          let all : guard c (A ++ r ∷ []) ≡ r.tx.dot.number = omega (arith, number, more, g) in
          let d : Dot = record { client = c; number = guard c (A ++ r ∷ []) } in
          let dot : same_dot r.tx.dot d ≡ true = dot_is c (guard c (A ++ r ∷ [])) r.tx.dot (sym same) all in
          let new_one : has d (dots_of A) ≡ false = ap (λ (e : Dot). has e (dots_of A)) (sym (same_dot-true r.tx.dot d dot)) ∙ fresh_dot fresh is t in
          ap (λ c. stamp_of new c) (sym same) ∙ (h.stamp t ∙ sym (first_new d A r new_one dot))
      stamps c low (inl t) (inr else) = kept c (guard_other c A r else) low (h.others c (λ _ e. false≢true (sym else ∙ eq-eqb r.tx.dot.client c (sym e))))
      stamps c low (inr f) (inl here) =
          let same : r.tx.dot.client ≡ c = eqb-true _ _ here in
          let le = low_number fresh is f in
          let more = guard_same c A r same in
          let g : guard r.tx.dot.client A ≡ guard c A = ap (λ c. guard c A) same in
          kept c (omega (arith, le, more, g)) low (h.others c (λ t. absurd (false≢true (sym f ∙ t))))
      stamps c low (inr f) (inr else) = kept c (guard_other c A r else) low (h.others c (λ t. absurd (false≢true (sym f ∙ t))))

count_grows : (e : ℕ) (A : List Record) (r : Record) → count e A ≤ count e (A ++ r ∷ [])
count_grows e A r = let more = count_more e A r in omega (arith, more)

-- each stamp up to the counts is there
placed_more : (n : ℕ) (A : List Record) (r : Record) → IsAfter n A r → ((e k : ℕ) → 1 ≤ k → k ≤ count e A → IsPlaced A e k) → (e k : ℕ) → 1 ≤ k → k ≤ count e (A ++ r ∷ []) → IsPlaced (A ++ r ∷ []) e k
placed_more n A r next placed e k low high = go (cases_lt (count e A) k) (cases_Bool (r.stamp.centre == e))
  where
    go : (count e A < k) ⊎ (k ≤ count e A) → ((r.stamp.centre == e) ≡ true) ⊎ ((r.stamp.centre == e) ≡ false) → IsPlaced (A ++ r ∷ []) e k
    go (inr le) _ = let p = placed e k low le in record { item = p.item; there = In_left A (r ∷ []) p.item p.there; stamp_is = p.stamp_is }
    go (inl lt) (inl t) =
        let more : count e (A ++ r ∷ []) ≡ count e A + 1 = count_more e A r ∙ ap (λ b. count e A + cond b 1 0) t in
        let same : r.stamp.centre ≡ e = eqb-true _ _ t in
        let counts : count r.stamp.centre A ≡ count e A = ap (λ e. count e A) same in
        let seq = next.seq in
        let number : r.stamp.seq ≡ k = omega (arith, more, lt, high, counts, seq) in
        record { item = r; there = In_right A (r ∷ []) r (inl refl); stamp_is = λ i. record { centre = same i; seq = number i } }
    go (inl lt) (inr f) =
        let more : count e (A ++ r ∷ []) ≡ count e A + 0 = count_more e A r ∙ ap (λ b. count e A + cond b 1 0) f in
        absurd (omega (arith, more, lt, high))

-- and no other
ranged_more : (n : ℕ) (A : List Record) (r : Record) → IsAfter n A r → ((q : Record) → In q A → IsRanged n A q) → (q : Record) → In q (A ++ r ∷ []) → IsRanged n (A ++ r ∷ []) q
ranged_more n A r next ranged q i = ⊎_elim before (λ here. ⊎_elim last (λ none. absurd none) here) (In_either A (r ∷ []) q i)
  where
    before : In q A → IsRanged n (A ++ r ∷ []) q
    before b = let h = ranged q b in record { centre = h.centre; low = h.low; high = let le = h.high in let grows = count_grows q.stamp.centre A r in omega (arith, le, grows) }

    own : IsRanged n (A ++ r ∷ []) r
    own =
        let seq = next.seq in
        let more : count r.stamp.centre (A ++ r ∷ []) ≡ count r.stamp.centre A + 1 = count_more r.stamp.centre A r ∙ ap (λ b. count r.stamp.centre A + cond b 1 0) (eq-eqb r.stamp.centre r.stamp.centre refl) in
        record { centre = record { low = next.centre.0; high = next.centre.1 }; low = omega (arith, seq); high = omega (arith, seq, more) }

    last : q ≡ r → IsRanged n (A ++ r ∷ []) q
    last same = subst (λ q. IsRanged n (A ++ r ∷ []) q) (sym same) own

-- ---- what is kept with one record more

-- a stamp past the counts is past what they cover
pub stamp_out : (counts base : List ℕ) (s : Stamp) → Covers counts base → s.seq ≡ at counts s.centre + 1 → within s base ≡ false
stamp_out counts base s covers seq = false_from_ne_true (within s base) (λ t. let le = leb-true s.seq (at base s.centre) t in let high = covers.holds s.centre in absurd (omega (arith, le, high, seq)))

-- what is kept, with a record more
abbrev pub more_kept : AppliedView → Record → Bool → List Last → AppliedView
more_kept x r fresh lasts = record { counts = raised x.counts r.stamp; lasts = lasts; greatest = max r.tx.rank x.greatest; point = x.point; log = with_one x.log r fresh }

-- it is what is to be kept then
pub applied_more : (n : ℕ) (x : AppliedView) (lasts : List Last) (A : List Record) (r : Record) → IsApplied n x A → IsNext x r → Noted r (is_fresh x r) x.lasts lasts → IsApplied n (more_kept x r (is_fresh x r) lasts) (A ++ r ∷ [])
applied_more n x lasts A r h is noted =
    let next = next_after n x A r h is in
    let fresh = fresh_after n x A r h in
    record {
      width = h.width;
      wide = length-raised x.counts r.stamp ∙ h.wide;
      based = h.based;
      counted = counted_more n x.counts A r h.counted next.seq;
      guarded = guarded_more n A r next h.there (is_fresh x r) x.lasts lasts fresh h.guarded noted;
      ranked = let t = top_more A r in let g = h.ranked in omega (arith, t, g);
      stored = kept_stands A x.point x.log h.stored r (is_fresh x r) (stamp_out x.counts x.point.vector r.stamp h.within is.seq) (λ t. fresh_dot n A r next h.there (is_fresh x r) fresh t) (λ f. known_dot n A r next h.there (is_fresh x r) fresh f);
      within = Covers_trans (raised x.counts r.stamp) x.counts x.point.vector (Covers-join_left x.counts _) h.within;
      there = there_more n A r next h.there;
      updates = All-push (λ (q : Record). HasFewUpdates q.tx) A r h.updates (record { few = next.few });
      placed = placed_more n A r next h.placed;
      ranged = ranged_more n A r next h.ranged;
    }

-- ---- stamps

-- a stamp is there exactly where it is within the counts
pub has_within : (n : ℕ) (x : AppliedView) (A : List Record) (s : Stamp) → IsApplied n x A → 1 ≤ s.centre → s.centre ≤ length x.counts → 1 ≤ s.seq → s.seq ≤ at x.counts s.centre → (r : Record) × In r A × (r.stamp ≡ s)
has_within n x A s h low high one le =
    let wide = h.wide in
    let is = at-vector n s.centre x.counts A h.counted low (omega (arith, wide, high)) in
    let p = h.placed s.centre s.seq one (omega (arith, le, is)) in
    (p.item, p.there, p.stamp_is)

pub within_has : (n : ℕ) (x : AppliedView) (A : List Record) (s : Stamp) → IsApplied n x A → (r : Record) × In r A × (r.stamp ≡ s) → (1 ≤ s.centre) × (s.centre ≤ length x.counts) × (1 ≤ s.seq) × (s.seq ≤ at x.counts s.centre)
within_has n x A s h there =
    let p = h.ranged there.0 there.1 in
    let q : (1 ≤ s.centre) × (s.centre ≤ n) × (1 ≤ s.seq) × (s.seq ≤ count s.centre A) = subst (λ s. (1 ≤ s.centre) × (s.centre ≤ n) × (1 ≤ s.seq) × (s.seq ≤ count s.centre A)) there.2 (p.centre.low, p.centre.high, p.low, p.high) in
    let is = at-vector n s.centre x.counts A h.counted q.0 q.1 in
    let wide = h.wide in
    (q.0, (let high = q.1 in omega (arith, wide, high)), q.2, (let le = q.3 in omega (arith, le, is)))

-- where every number is known or the next, one that was not seen is the next
pub fresh_is : (seen : Bool) (x : AppliedView) (r : Record) → (IsTrue seen ↔ (r.tx.dot.number ≤ number_of x.lasts r.tx.dot.client)) → r.tx.dot.number ≤ number_of x.lasts r.tx.dot.client + 1 → not seen ≡ is_fresh x r
fresh_is true x r seen next = go (cases_Bool (is_fresh x r))
  where
    go : (is_fresh x r ≡ true) ⊎ (is_fresh x r ≡ false) → false ≡ is_fresh x r
    go (inl t) = let same = eqb-true r.tx.dot.number (number_of x.lasts r.tx.dot.client + 1) t in let le = seen.0 refl in absurd (omega (arith, le, same))
    go (inr f) = sym f
fresh_is false x r seen next = go (cases_lt (number_of x.lasts r.tx.dot.client) r.tx.dot.number)
  where
    go : (number_of x.lasts r.tx.dot.client < r.tx.dot.number) ⊎ (r.tx.dot.number ≤ number_of x.lasts r.tx.dot.client) → true ≡ is_fresh x r
    go (inl lt) = sym (eq-eqb r.tx.dot.number (number_of x.lasts r.tx.dot.client + 1) (omega (arith, lt, next)))
    go (inr le) = absurd (false≢true (seen.1 le))
