-- What a running centre answers where it hands on what another one lacks, and where it is delivered what it lacks.
use Rattle.std.proofs.Common.{◌≡◌, ◌≢◌, ℕ, zero, suc, ◌+◌, ◌-◌, ◌≤◌, true, false, cond, ◌||◌, ◌&&◌, List, [], ◌∷◌, take, drop, Some, refl, sym, ap, ◌∙◌, arith}
use Rattle.std.specs.Prelude.{◌==◌, nat_le, not, length, map, slice_get}
use Rattle.std.specs.Option.{option_map}
use Rattle.std.proofs.lemmas.Bool.{lt-leb, ne_eqb, and_from}
use Rattle.std.proofs.lemmas.Option.{none-some, same_Some, slice_get-map}
use Rattle.std.proofs.lemmas.List.{length-map}
use Rattle.list_core.specs.Members.{In}
use Rattle.list_core.specs.Moments.{Each}
use Rattle.list_core.specs.Choices.{when}
use Rattle.list_core.proofs.Choices.{when_fails, first_of_holds}
use Rattle.list_core.proofs.Gets.{In_get, get_within}
use Rattle.list_core.proofs.Images.{filter-map}
use Rattle.vv_core.specs.Vectors.{Covers}
use Rattle.tx_core.specs.declared.tx.Record.{Record}
use Rattle.dc_talk.specs.declared.ask.TheConstants.{MOST_HOPS}
use Rattle.dc_talk.specs.declared.ask.Ask.{Ask}
use Rattle.dc_talk.specs.declared.ask.Ask.TheVariants.{Deliver}
use Rattle.dc_talk.specs.declared.say.Say.TheVariants.{Down, Misfit, Trimmed, Records, Waits, Applied}
use Rattle.dc_talk.specs.declared.sent.Sent.{Sent}
use Rattle.dc_talk.specs.declared.settings.Settings.{Settings}
use Rattle.dc_talk.specs.Entries.{Entry}
use Rattle.dc_talk.specs.Records.{count, vector, guard, own}
use Rattle.dc_talk.specs.Sents.{with_hops, items, of_origin}
use Rattle.dc_talk.specs.Trails.{applied, stopped}
use Rattle.dc_talk.specs.Answers.{fits, is_fit_item, part_of, send_answer, is_switch, row, answer}
use Rattle.dc_talk.specs.Laws.{IsInOrder}
use Rattle.dc_talk.proofs.Answers.{lack_fails, deliver_holds}
use Rattle.dc_talk.proofs.Counts.{own_length, stamp_counted}
use Rattle.dc_talk.proofs.Places.{own_at, one_record}

-- a running centre answers an ask that fits by its row
pub running_row : (s : Settings) (trail : List Entry) (ask : Ask) → fits s.n ask ≡ true → stopped trail ≡ false → answer s trail ask ≡ row s trail ask
unfolding answer
running_row s trail ask fit runs =
    ap (λ t. cond t (cond (stopped trail && not (is_switch ask)) Down (row s trail ask)) Misfit) fit
    ∙ ap (λ t. cond (t && not (is_switch ask)) Down (row s trail ask)) runs

-- ---- what is handed on

-- a centre that let go no more than the other one has hands on what is asked for
pub given : (trimmed : ℕ) (asked : List Sent) (after : ℕ) → trimmed ≤ after → send_answer trimmed asked after ≡ Records asked
given trimmed asked after kept = first_of_holds (λ say. say ≡ Records asked) (when (nat_le (after + 1) trimmed) (Trimmed trimmed) ∷ []) (Records asked) (when_fails _ _ _ (lt-leb (after + 1) trimmed (omega (arith, kept))), λ none. refl)

-- a part begins with what stands behind the others
part_begins : (xs : List Sent) (after most : ℕ) (x : Sent) → 1 ≤ most → slice_get xs after ≡ Some x → (rest : List Sent) × (take most (drop after xs) ≡ x ∷ rest)
part_begins [] after most x some there = absurd (none-some x there)
part_begins (y ∷ xs) zero zero x some there = absurd (omega (arith, some))
part_begins (y ∷ xs) zero (suc most) x some there = (take most xs, ap (λ y. y ∷ take most xs) (same_Some y x there))
part_begins (y ∷ xs) (suc after) most x some there = part_begins xs after most x some there

-- a record that is handed on first, with its hops
pub record IsFirst (C : List Sent) (r : Record) (most : ℕ) : Type 0 where
  pub hops : ℕ
  pub rest : List Sent
  pub is : part_of r.stamp.centre C (r.stamp.seq - 1) most ≡ with_hops r hops ∷ rest

-- a record that is there is the first of its origin's behind those before it
pub first_behind : (g : Settings) (C : List Sent) (r : Record) (most : ℕ) → Each (IsInOrder g) (items C) → In r (items C) → 1 ≤ most → IsFirst C r most
first_behind g C r most each here some = record { hops = found.0.hops; rest = begins.0; is = begins.1 ∙ ap (λ item. with_hops item found.0.hops ∷ begins.0) same }
  where
    o : ℕ
    o = r.stamp.centre

    own_is : own o (items C) ≡ map (λ (x : Sent). x.item) (of_origin o C)
    own_is = filter-map (λ (r : Record). r.stamp.centre == o) (λ (x : Sent). x.item) C

    long : length (of_origin o C) ≡ count o (items C)
    long = sym (length-map (of_origin o C) (λ (x : Sent). x.item)) ∙ (ap length (sym own_is) ∙ own_length o (items C))

    place : (p : ℕ) × (slice_get (items C) p ≡ Some r)
    place = In_get (items C) r here

    number : r.stamp.seq ≡ count o (take place.0 (items C)) + 1
    number = (each.holds place.0 r place.1).number

    counted : r.stamp.seq ≤ count o (items C)
    counted = stamp_counted g (items C) r each here

    found : (x : Sent) × (slice_get (of_origin o C) (r.stamp.seq - 1) ≡ Some x)
    found = get_within (of_origin o C) (r.stamp.seq - 1) (omega (arith, number, counted, long))

    there : slice_get (own o (items C)) (r.stamp.seq - 1) ≡ Some found.0.item
    there = ap (λ l. slice_get l (r.stamp.seq - 1)) own_is ∙ (slice_get-map (λ (x : Sent). x.item) (of_origin o C) (r.stamp.seq - 1) ∙ ap (option_map (λ (x : Sent). x.item)) found.1)

    stands : In found.0.item (items C) × (found.0.item.stamp ≡ record { centre = o; seq = r.stamp.seq - 1 + 1 })
    stands = own_at g o (items C) each (r.stamp.seq - 1) found.0.item there

    back : r.stamp.seq - 1 + 1 ≡ r.stamp.seq
    back = omega (arith, number)

    same : found.0.item ≡ r
    same = one_record g (items C) each found.0.item r stands.0 here (stands.1 ∙ (λ i. record { centre = o; seq = back i }))

    begins : (rest : List Sent) × (part_of o C (r.stamp.seq - 1) most ≡ found.0 ∷ rest)
    begins = part_begins (of_origin o C) (r.stamp.seq - 1) most found.0 some found.1

-- ---- what is delivered

-- the record is the next of its origin, which is another centre, and what it depends on is there
pub record IsNext (s : Settings) (A : List Record) (item : Record) : Type 0 where
  pub number : item.stamp.seq ≡ count item.stamp.centre A + 1
  pub other : item.stamp.centre ≢ s.me
  pub covered : Covers (vector s.n A) item.deps
  pub next : item.tx.dot.number ≤ guard item.tx.dot.client A + 1

-- a running centre applies such a record, where it fits
pub applies : (s : Settings) (trail : List Entry) (item : Record) (hops : ℕ) → is_fit_item s.n item ≡ true → nat_le hops MOST_HOPS ≡ true → stopped trail ≡ false → IsNext s (applied s.n trail) item → answer s trail (Deliver item hops) ≡ Applied (item.tx.dot.number == guard item.tx.dot.client (applied s.n trail) + 1)
applies s trail item hops fit few runs next =
    running_row s trail (Deliver item hops) (and_from (is_fit_item s.n item) (nat_le hops MOST_HOPS) fit few) runs
    ∙ deliver_holds (λ say. say ≡ Applied (item.tx.dot.number == guard item.tx.dot.client A + 1)) s (vector s.n A) (count item.stamp.centre A) (guard item.tx.dot.client A) item (
      when_fails _ _ _ (lt-leb item.stamp.seq (count item.stamp.centre A) (let number = next.number in omega (arith, number))),
      λ old. (
        when_fails _ _ _ gap,
        λ none. (
          lack_fails _ Waits (vector s.n A) item.deps next.covered,
          λ waits. (
            when_fails _ _ _ (lt-leb (guard item.tx.dot.client A + 2) item.tx.dot.number (let number = next.next in omega (arith, number))),
            λ orphan. refl,
          ),
        ),
      ),
    )
  where
    A : List Record
    A = applied s.n trail

    gap : nat_le (count item.stamp.centre A + 2) item.stamp.seq || (item.stamp.centre == s.me) ≡ false
    gap =
        ap (λ t. t || (item.stamp.centre == s.me)) (lt-leb (count item.stamp.centre A + 2) item.stamp.seq (let number = next.number in omega (arith, number)))
        ∙ ne_eqb item.stamp.centre s.me next.other
