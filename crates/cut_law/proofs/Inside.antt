-- What lies within a vector, of the records and of their transactions.
use Rattle.std.proofs.Common.{◌≡◌, ◌≤◌, ℕ, Bool, true, false, cond, List, [], ◌∷◌, ◌++◌, map, refl, sym, ap, subst, ◌∙◌, arith}
use Rattle.std.specs.Prelude.{not, filter}
use Rattle.std.proofs.lemmas.Bool.{leb-true, le-leb}
use Rattle.std.proofs.lemmas.List.{append-nil}
use Rattle.std.proofs.lemmas.List.Elements.{filter-append}
use Rattle.list_core.specs.Members.{In}
use Rattle.list_core.proofs.Members.{In_map, In_from_map, In_filter, In_from_filter}
use Rattle.ids_core.specs.declared.ids.Dot.{Dot}
use Rattle.vv_core.specs.declared.stamp.Stamp.{Stamp}
use Rattle.vv_core.specs.Vectors.{at, within, Covers}
use Rattle.vv_core.specs.Stamps.{is_any_within}
use Rattle.tx_core.specs.declared.tx.Record.{Record}
use Rattle.dc_talk.specs.Records.{guard, has, inside, firsts, mine}
use Rattle.dc_talk.specs.Dots.{dots_of}
use Rattle.dc_talk.proofs.Counts.{in_guard}
use Rattle.dc_talk.proofs.Dots.{has_In, In_has, mine_bound}
use Rattle.dc_talk.proofs.Firsts.{firsts_more}
use Rattle.dc_talk.proofs.Stamps.{any_inside, stamps_none}

-- a dot that lies within a vector is that of a record whose stamp does
pub record IsInside (A : List Record) (w : List ℕ) (d : Dot) : Type 0 where
  pub item : Record
  pub there : In item A
  pub stamp : within item.stamp w ≡ true
  pub dot_is : d ≡ item.tx.dot

pub inside_from : (A : List Record) (w : List ℕ) (d : Dot) → In d (inside A w) → IsInside A w d
inside_from A w d i =
    let m = In_from_map (λ (r : Record). r.tx.dot) (filter (λ r. within r.stamp w) A) d i in
    let f = In_from_filter (λ (r : Record). within r.stamp w) A m.0 m.1 in
    record { item = m.0; there = f.0; stamp = f.1; dot_is = m.2 }

-- a stamp within a vector is within each that covers it
within_grows : (w base : List ℕ) (s : Stamp) → Covers w base → within s base ≡ true → within s w ≡ true
within_grows w base s covers is = le-leb s.seq (at w s.centre) (let low = leb-true s.seq (at base s.centre) is in let le = covers.holds s.centre in omega (arith, low, le))

-- so is a dot
pub inside_grows : (A : List Record) (w base : List ℕ) (d : Dot) → Covers w base → In d (inside A base) → In d (inside A w)
inside_grows A w base d covers i =
    let h = inside_from A base d i in
    subst (λ d. In d (inside A w)) (sym h.dot_is) (In_map (λ (r : Record). r.tx.dot) (filter (λ r. within r.stamp w) A) h.item (In_filter (λ (r : Record). within r.stamp w) A h.item h.there (within_grows w base h.item.stamp covers h.stamp)))

pub has_grows : (A : List Record) (w base : List ℕ) (d : Dot) → Covers w base → has d (inside A base) ≡ true → has d (inside A w) ≡ true
has_grows A w base d covers is = In_has d (inside A w) (inside_grows A w base d covers (has_In d (inside A base) is))

-- what no record has lies within no vector
pub none_inside : (A : List Record) (w : List ℕ) (d : Dot) → has d (dots_of A) ≡ false → has d (inside A w) ≡ false
none_inside A w d new = sym (any_inside w d A) ∙ ap (is_any_within w) (stamps_none d A new)

-- a client's numbers within a vector are at most its greatest
pub mine_guarded : (A : List Record) (w : List ℕ) (client : ℕ) → mine client (inside A w) ≤ guard client A
mine_guarded A w client = mine_bound client (inside A w) (guard client A) each
  where
    each : (d : Dot) → In d (inside A w) → d.client ≡ client → d.number ≤ guard client A
    each d i own =
        let h = inside_from A w d i in
        let number : d.number ≡ h.item.tx.dot.number = ap (λ (d : Dot). d.number) h.dot_is in
        let le = in_guard A h.item h.there in
        let same : guard h.item.tx.dot.client A ≡ guard client A = ap (λ c. guard c A) (ap (λ (d : Dot). d.client) (sym h.dot_is) ∙ own) in
        omega (arith, number, le, same)

-- ---- one record more, that is not within the vector

module _ (A : List Record) (w : List ℕ) (r : Record) (out : within r.stamp w ≡ false) where
  -- the same dots lie within it
  pub inside_stays : inside (A ++ r ∷ []) w ≡ inside A w
  inside_stays = ap (map (λ (r : Record). r.tx.dot)) (filter-append (λ (r : Record). within r.stamp w) A (r ∷ []) ∙ ap (λ b. filter (λ (r : Record). within r.stamp w) A ++ cond b (r ∷ []) []) out ∙ append-nil (filter (λ (r : Record). within r.stamp w) A))

  -- the first records within it, and those that are not
  pub firsts_inside : filter (λ (q : Record). has q.tx.dot (inside (A ++ r ∷ []) w)) (firsts (A ++ r ∷ [])) ≡ filter (λ (q : Record). has q.tx.dot (inside A w)) (firsts A)
  firsts_inside =
      (λ i. filter (λ (q : Record). has q.tx.dot (inside_stays i)) (firsts_more A r i))
      ∙ (filter-append (λ (q : Record). has q.tx.dot (inside A w)) (firsts A) (cond (has r.tx.dot (dots_of A)) [] (r ∷ []))
      ∙ (ap (λ l. filter (λ (q : Record). has q.tx.dot (inside A w)) (firsts A) ++ l) (last (has r.tx.dot (dots_of A)) refl)
      ∙ append-nil (filter (λ (q : Record). has q.tx.dot (inside A w)) (firsts A))))
    where
      last : (b : Bool) → has r.tx.dot (dots_of A) ≡ b → filter (λ (q : Record). has q.tx.dot (inside A w)) (cond b [] (r ∷ [])) ≡ []
      last true is = refl
      last false is = ap (λ b. cond b (r ∷ []) []) (none_inside A w r.tx.dot is)

  pub firsts_outside : filter (λ (q : Record). not (has q.tx.dot (inside (A ++ r ∷ []) w))) (firsts (A ++ r ∷ [])) ≡ filter (λ (q : Record). not (has q.tx.dot (inside A w))) (firsts A) ++ cond (has r.tx.dot (dots_of A)) [] (r ∷ [])
  firsts_outside =
      (λ i. filter (λ (q : Record). not (has q.tx.dot (inside_stays i))) (firsts_more A r i))
      ∙ (filter-append (λ (q : Record). not (has q.tx.dot (inside A w))) (firsts A) (cond (has r.tx.dot (dots_of A)) [] (r ∷ []))
      ∙ ap (λ l. filter (λ (q : Record). not (has q.tx.dot (inside A w))) (firsts A) ++ l) (last (has r.tx.dot (dots_of A)) refl))
    where
      last : (b : Bool) → has r.tx.dot (dots_of A) ≡ b → filter (λ (q : Record). not (has q.tx.dot (inside A w))) (cond b [] (r ∷ [])) ≡ cond b [] (r ∷ [])
      last true is = refl
      last false is = ap (λ b. cond (not b) (r ∷ []) []) (none_inside A w r.tx.dot is)
