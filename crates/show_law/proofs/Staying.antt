-- The state of an object at a vector that a centre has stays as the applied list grows.
use Rattle.std.proofs.Common.{◌≡◌, ℕ, ◌+◌, ◌≤◌, Bool, true, false, cond, List, [], ◌∷◌, ◌++◌, map, length, take, Some, refl, sym, ap, ◌∙◌, subst, arith}
use Rattle.std.specs.Prelude.{slice_get, filter, flat_map}
use Rattle.std.proofs.Math.Seq.{take-append_seam, take-append-add, drop-append_seam}
use Rattle.std.proofs.lemmas.Bool.{lt-leb, false≢true, false_from_ne_true}
use Rattle.std.proofs.lemmas.List.{append-nil, append_assoc, length-append, take_all}
use Rattle.std.proofs.lemmas.List.Elements.{filter-append}
use Rattle.list_core.specs.Moments.{Each}
use Rattle.list_core.specs.Members.{In}
use Rattle.list_core.proofs.Gets.{In_get, get_in_drop}
use Rattle.list_core.proofs.Members.{In_map, In_left, In_from_map, In_from_filter, filter_none}
use Rattle.list_core.proofs.Moments.{each_none, each_more, by_steps}
use Rattle.ids_core.specs.declared.ids.Dot.{Dot}
use Rattle.ids_core.specs.declared.object.ObjectId.{ObjectId}
use Rattle.vv_core.specs.declared.stamp.Stamp.{Stamp}
use Rattle.vv_core.specs.Vectors.{at, zeros, within, Covers}
use Rattle.vv_core.proofs.Entrywise.{at-tabulate_le, at-zeros}
use Rattle.tx_core.specs.declared.tx.Record.{Record}
use Rattle.tx_core.specs.States.{empty_of, fold_of}
use Rattle.tx_core.specs.Operations.{ops_of}
use Rattle.dc_talk.specs.declared.settings.Settings.{Settings}
use Rattle.dc_talk.specs.Entries.{Entry}
use Rattle.dc_talk.specs.Records.{count, vector, has, inside, firsts}
use Rattle.dc_talk.specs.Dots.{dots_of}
use Rattle.dc_talk.specs.Objects.{state_at}
use Rattle.dc_talk.specs.Trails.{applied}
use Rattle.dc_talk.specs.Answers.{History}
use Rattle.dc_talk.proofs.Applied.{new_record, by_records}
use Rattle.dc_talk.proofs.Counts.{count_front}
use Rattle.dc_talk.proofs.Dots.{has_In, In_has}
use Rattle.dc_talk.proofs.Firsts.{firsts_more}
use Rattle.dc_talk.proofs.Growth.{applied_grows}

-- ---- stamps

-- the record has the next stamp of its centre, behind these records
abbrev IsNext : List Record → Record → Type 0
IsNext X r = r.stamp.seq ≡ count r.stamp.centre X + 1

-- so has each record of an applied list, at each moment
next_at : (s : Settings) (trail : List Entry) → History s trail → (p : ℕ) → Each IsNext (applied s.n (take p trail))
next_at s trail history = by_records s trail (λ A. Each IsNext A) history (each_none IsNext)
    (λ p entry tx stamp there asks by each. each_more IsNext (applied s.n (take p trail)) (new_record s.n (applied s.n (take p trail)) tx stamp) each (subst (λ (at : Stamp). at.seq ≡ count at.centre (applied s.n (take p trail)) + 1) (sym by.is) refl))
    (λ p entry item hops fresh there asks by each. each_more IsNext (applied s.n (take p trail)) item each by.number)

-- ---- records behind those that a vector counts

module _ (n : ℕ) (A Z : List Record) (v : List ℕ) (each : Each IsNext (A ++ Z)) (covered : Covers (vector n A) v) where
  -- none of them lies within the vector
  beyond : (r : Record) → In r Z → within r.stamp v ≡ false
  beyond r i =
      let place = In_get Z r i in
      let stands = get_in_drop (length A) (A ++ Z) place.0 r (subst (λ l. slice_get l place.0 ≡ Some r) (sym (drop-append_seam A Z)) place.1) in
      let next : r.stamp.seq ≡ count r.stamp.centre (A ++ take place.0 Z) + 1 = subst (λ l. r.stamp.seq ≡ count r.stamp.centre l + 1) (take-append-add A Z place.0) (each.holds (length A + place.0) r stands) in
      let more = count_front r.stamp.centre A (take place.0 Z) in
      let over = covered.holds r.stamp.centre in
      let counts = at-tabulate_le n r.stamp.centre (λ e. count e A) in
      lt-leb r.stamp.seq (at v r.stamp.centre) (omega (arith, next, more, over, counts))

  -- so the same dots do
  same_inside : inside (A ++ Z) v ≡ inside A v
  same_inside = ap (map (λ (r : Record). r.tx.dot)) (filter-append (λ (r : Record). within r.stamp v) A Z ∙ (ap (λ l. filter (λ (r : Record). within r.stamp v) A ++ l) (filter_none (λ (r : Record). within r.stamp v) Z beyond) ∙ append-nil (filter (λ (r : Record). within r.stamp v) A)))

-- ---- first records

-- a dot of no record lies within no vector
unknown_outside : (A : List Record) (v : List ℕ) (d : Dot) (X : List Record) → has d (dots_of (A ++ X)) ≡ false → has d (inside A v) ≡ false
unknown_outside A v d X none = false_from_ne_true (has d (inside A v)) (λ is.
    let m = In_from_map (λ (r : Record). r.tx.dot) (filter (λ (r : Record). within r.stamp v) A) d (has_In d (inside A v) is) in
    let here = In_from_filter (λ (r : Record). within r.stamp v) A m.0 m.1 in
    let known = In_map (λ (r : Record). r.tx.dot) (A ++ X) m.0 (In_left A X m.0 here.0) in
    false≢true (sym none ∙ In_has d (dots_of (A ++ X)) (subst (λ d. In d (dots_of (A ++ X))) (sym m.2) known)))

module _ (A : List Record) (v : List ℕ) where
  -- the first records of the dots that lie within the vector
  abbrev within_it : List Record → List Record
  within_it X = filter (λ (r : Record). has r.tx.dot (inside A v)) (firsts X)

  -- one more record behind these is none of them
  same_more : (X : List Record) (r : Record) → within_it ((A ++ X) ++ r ∷ []) ≡ within_it (A ++ X)
  same_more X r =
      ap (filter passes) (firsts_more (A ++ X) r)
      ∙ (filter-append passes (firsts (A ++ X)) (cond (has r.tx.dot (dots_of (A ++ X))) [] (r ∷ []))
      ∙ (ap (λ l. within_it (A ++ X) ++ l) (go (has r.tx.dot (dots_of (A ++ X))) refl) ∙ append-nil (within_it (A ++ X))))
    where
      passes : Record → Bool
      passes r = has r.tx.dot (inside A v)

      go : (known : Bool) → has r.tx.dot (dots_of (A ++ X)) ≡ known → filter (λ (r : Record). has r.tx.dot (inside A v)) (cond known [] (r ∷ [])) ≡ []
      go true is = refl
      go false is = ap (λ t. cond t (r ∷ []) []) (unknown_outside A v r.tx.dot X is)

  -- nor are several
  same_firsts : (Z : List Record) → within_it (A ++ Z) ≡ within_it A
  same_firsts Z = by_steps (λ Z. within_it (A ++ Z) ≡ within_it A) Z (ap within_it (append-nil A))
      (λ p r there h. ap within_it (sym (append_assoc A (take p Z) (r ∷ []))) ∙ (same_more (take p Z) r ∙ h))

-- ---- states

-- the state at a vector that earlier records cover is theirs
same_state : (n : ℕ) (A Z : List Record) (v : List ℕ) (o : ObjectId) → Each IsNext (A ++ Z) → Covers (vector n A) v → state_at o (A ++ Z) v ≡ state_at o A v
same_state n A Z v o each covered =
    ap (λ D. fold_of (empty_of o.sort) (flat_map (λ (r : Record). ops_of o r.tx) (filter (λ (r : Record). has r.tx.dot D) (firsts (A ++ Z))))) (same_inside n A Z v each covered)
    ∙ ap (λ F. fold_of (empty_of o.sort) (flat_map (λ (r : Record). ops_of o r.tx) F)) (same_firsts A v Z)

-- so it is at each later moment what it was at an earlier one that covers the vector
pub stays_at : (s : Settings) (trail : List Entry) → History s trail → (p q : ℕ) → p ≤ q → (v : List ℕ) (o : ObjectId) → Covers (vector s.n (applied s.n (take p trail))) v → state_at o (applied s.n (take q trail)) v ≡ state_at o (applied s.n (take p trail)) v
stays_at s trail history p q le v o covered =
    let grows = applied_grows s.n trail p q le in
    ap (λ A. state_at o A v) grows.1 ∙ same_state s.n (applied s.n (take p trail)) grows.0 v o (subst (λ A. Each IsNext A) grows.1 (next_at s trail history q)) covered

-- and in the end
pub stays : (s : Settings) (before later : List Entry) (v : List ℕ) (o : ObjectId) → History s (before ++ later) → Covers (vector s.n (applied s.n before)) v → state_at o (applied s.n (before ++ later)) v ≡ state_at o (applied s.n before) v
stays s before later v o history covered =
    let front = take-append_seam before later in
    let all = take_all (length (before ++ later)) (before ++ later) (omega arith) in
    let long = length-append before later in
    let same = stays_at s (before ++ later) history (length before) (length (before ++ later)) (omega (arith, long)) v o (subst (λ X. Covers (vector s.n (applied s.n X)) v) (sym front) covered) in
    subst (λ X. state_at o (applied s.n X) v ≡ state_at o (applied s.n before) v) all (same ∙ ap (λ X. state_at o (applied s.n X) v) front)

-- at the vector 0 it is empty
pub empty_at : (s : Settings) (trail : List Entry) (o : ObjectId) → History s trail → state_at o (applied s.n trail) (zeros s.n) ≡ empty_of o.sort
empty_at s trail o history = stays s [] trail (zeros s.n) o history (record { holds = λ e. omega (arith, at-zeros s.n e) })
