-- The parts of a guard: they are in order, each is what is noted of its client, and no other list is that.
use Rattle.std.proofs.Common.{◌≡◌, ◌≤◌, ◌<◌, ℕ, zero, suc, ◌+◌, Bool, true, false, cond, inl, inr, ⊎_elim, List, [], ◌∷◌, length, get_or, drop, drop-cons, Option, Some, None, refl, sym, ap, ◌∙◌, subst, arith}
use Rattle.std.specs.Prelude.{◌==◌, ◌≢◌, slice_get}
use Rattle.std.specs.Option.{option_or, option_map}
use Rattle.std.proofs.lemmas.Bool.{cases_Bool, cases_lt, false≢true, eq-eqb, eqb-true}
use Rattle.std.proofs.lemmas.Option.{none-some}
use Rattle.list_core.specs.Members.{In}
use Rattle.list_core.proofs.Members.{In-All}
use Rattle.ids_core.specs.declared.limits.TheConstants.{MOST_CLIENTS}
use Rattle.dup_guard.specs.declared.guard.Last.{Last}
use Rattle.dup_guard.specs.declared.noted.Noted.{Noted}
use Rattle.dup_guard.specs.Notes.{number_in, stamp_in}
use Rattle.dup_guard.specs.Parts.{part_of, Ascends, AreParts, ArePartsOf, noted_from}

-- a number is another one
apart_false : (a b : ℕ) → a ≢ b → (a == b) ≡ false
apart_false a b apart = ⊎_elim (λ t. absurd (apart (eqb-true a b t))) (λ f. f) (cases_Bool (a == b))

-- no part has the client
pub part_none : (parts : List Noted) (client : ℕ) → ((p : Noted) → In p parts → p.client ≢ client) → part_of parts client ≡ None
part_none [] client none = refl
part_none (p ∷ parts) client none = ap (λ b. cond b (Some p) (part_of parts client)) (apart_false p.client client (none p (inl refl))) ∙ part_none parts client (λ q i. none q (inr i))

-- ---- what is noted from a client on

-- each part is of that client or a later one, and has a number
pub from_within : (c : ℕ) (lasts : List Last) (p : Noted) → In p (noted_from c lasts) → (c ≤ p.client) × (p.client < c + length lasts) × (1 ≤ p.number)
from_within c [] p i = absurd i
from_within c (l ∷ lasts) p i = go (l.number == 0) refl (λ j. from_within (c + 1) lasts p j) i
  where
    -- what is within the rest is within all
    more : (c + 1 ≤ p.client) × (p.client < (c + 1) + length lasts) × (1 ≤ p.number) → (c ≤ p.client) × (p.client < c + length (l ∷ lasts)) × (1 ≤ p.number)
    more r = let low = r.0 in let high = r.1 in (omega (arith, low), omega (arith, high), r.2)

    go : (b : Bool) → (l.number == 0) ≡ b → (In p (noted_from (c + 1) lasts) → (c + 1 ≤ p.client) × (p.client < (c + 1) + length lasts) × (1 ≤ p.number)) → In p (cond b (noted_from (c + 1) lasts) (record { client = c; number = l.number; stamp = l.stamp } ∷ noted_from (c + 1) lasts)) → (c ≤ p.client) × (p.client < c + length (l ∷ lasts)) × (1 ≤ p.number)
    go true is later j = more (later j)
    go false is later (inl same) =
        let client : p.client ≡ c = ap (λ (p : Noted). p.client) same in
        let number : p.number ≡ l.number = ap (λ (p : Noted). p.number) same in
        let some : l.number ≢ 0 = λ e. false≢true (sym is ∙ eq-eqb l.number 0 e) in
        (omega (arith, client), omega (arith, client), omega (arith, number, some))
    go false is later (inr j) = more (later j)

from_ascends : (c : ℕ) (lasts : List Last) → Ascends (noted_from c lasts)
from_ascends c [] = tt
from_ascends c (l ∷ lasts) = go (l.number == 0) (from_ascends (c + 1) lasts)
  where
    go : (b : Bool) → Ascends (noted_from (c + 1) lasts) → Ascends (cond b (noted_from (c + 1) lasts) (record { client = c; number = l.number; stamp = l.stamp } ∷ noted_from (c + 1) lasts))
    go true rest = rest
    go false rest = (λ q i. let low = (from_within (c + 1) lasts q i).0 in omega (arith, low), rest)

-- what is noted of a client is a place
abbrev note_in : ℕ → Option Last → Option Noted
note_in client last = option_map (λ stamp. record { client = client; number = number_in last; stamp = stamp }) (stamp_in last)

from_part : (c i client : ℕ) (lasts : List Last) → client ≡ c + i → part_of (noted_from c lasts) client ≡ note_in client (slice_get lasts i)
from_part c i client [] is = refl
from_part c zero client (l ∷ lasts) is = go (l.number == 0) refl
  where
    same : c ≡ client
    same = omega (arith, is)

    go : (b : Bool) → (l.number == 0) ≡ b → part_of (cond b (noted_from (c + 1) lasts) (record { client = c; number = l.number; stamp = l.stamp } ∷ noted_from (c + 1) lasts)) client ≡ option_map (λ stamp. record { client = client; number = l.number; stamp = stamp }) (cond b None (Some l.stamp))
    go true e = part_none (noted_from (c + 1) lasts) client (λ p j at. let low = (from_within (c + 1) lasts p j).0 in omega (arith, low, at, same))
    go false e = ap (λ b. cond b (Some (record { client = c; number = l.number; stamp = l.stamp })) (part_of (noted_from (c + 1) lasts) client)) (eq-eqb c client same) ∙ ap (λ (n : ℕ). Some (record { client = n; number = l.number; stamp = l.stamp })) same
from_part c (suc i) client (l ∷ lasts) is = go (l.number == 0) (from_part (c + 1) i client lasts (omega (arith, is)))
  where
    go : (b : Bool) → part_of (noted_from (c + 1) lasts) client ≡ note_in client (slice_get lasts i) → part_of (cond b (noted_from (c + 1) lasts) (record { client = c; number = l.number; stamp = l.stamp } ∷ noted_from (c + 1) lasts)) client ≡ note_in client (slice_get lasts i)
    go true rest = rest
    go false rest = ap (λ b. cond b (Some (record { client = c; number = l.number; stamp = l.stamp })) (part_of (noted_from (c + 1) lasts) client)) (apart_false c client (λ e. let at = is in omega (arith, e, at))) ∙ rest

-- those from the first client on are parts
pub noted_parts : (lasts : List Last) → length lasts ≡ MOST_CLIENTS → AreParts (noted_from 1 lasts)
noted_parts lasts long = record {
  ascends = from_ascends 1 lasts;
  clients = In-All (λ (p : Noted). (1 ≤ p.client) × (p.client ≤ MOST_CLIENTS)) (noted_from 1 lasts) (λ p i. let r = from_within 1 lasts p i in let high = r.1 in (r.0, omega (arith, high, long)));
  numbers = In-All (λ (p : Noted). 1 ≤ p.number) (noted_from 1 lasts) (λ p i. (from_within 1 lasts p i).2);
}

-- and those of the guard
pub noted_of : (lasts : List Last) → ArePartsOf lasts (noted_from 1 lasts)
noted_of lasts zero = part_none (noted_from 1 lasts) 0 (λ p i e. let low = (from_within 1 lasts p i).0 in omega (arith, low, e))
noted_of lasts (suc i) = from_part 1 i (suc i) lasts (omega arith)

-- ---- no other list

same_part : (p q : Noted) → Some p ≡ Some q → p ≡ q
same_part p q e = ap (λ (o : Option Noted). elim o as (λ o. Noted) [ None ↦ p | Some r ↦ r ]) e

pub one_list : (ps qs : List Noted) → Ascends ps → Ascends qs → ((client : ℕ) → part_of ps client ≡ part_of qs client) → ps ≡ qs
one_list [] [] up rise same = refl
one_list [] (q ∷ qs) up rise same = absurd (none-some q (same q.client ∙ ap (λ b. cond b (Some q) (part_of qs q.client)) (eq-eqb q.client q.client refl)))
one_list (p ∷ ps) [] up rise same = absurd (none-some p (sym (same p.client) ∙ ap (λ b. cond b (Some p) (part_of ps p.client)) (eq-eqb p.client p.client refl)))
one_list (p ∷ ps) (q ∷ qs) up rise same = ap (λ r. r ∷ ps) first ∙ ap (λ l. q ∷ l) (one_list ps qs up.1 rise.1 rest)
  where
    own : (r : Noted) (rs : List Noted) → part_of (r ∷ rs) r.client ≡ Some r
    own r rs = ap (λ b. cond b (Some r) (part_of rs r.client)) (eq-eqb r.client r.client refl)

    -- a client below the first of an ascending list has no part
    below : (r : Noted) (rs : List Noted) (client : ℕ) → ((s : Noted) → In s rs → r.client < s.client) → client < r.client → part_of (r ∷ rs) client ≡ None
    below r rs client above lt = part_none (r ∷ rs) client (λ s i e. ⊎_elim (λ is. let at : s.client ≡ r.client = ap (λ (s : Noted). s.client) is in omega (arith, e, at, lt)) (λ j. let more = above s j in omega (arith, e, more, lt)) i)

    client : p.client ≡ q.client
    client = ⊎_elim
        (λ lt. absurd (none-some p (sym (below q qs p.client rise.0 lt) ∙ sym (same p.client) ∙ own p ps)))
        (λ le. ⊎_elim (λ lt. absurd (none-some q (sym (below p ps q.client up.0 lt) ∙ same q.client ∙ own q qs))) (λ ge. omega (arith, le, ge)) (cases_lt q.client p.client))
        (cases_lt p.client q.client)

    first : p ≡ q
    first = same_part p q (sym (own p ps) ∙ same p.client ∙ ap (λ (n : ℕ). part_of (q ∷ qs) n) client ∙ own q qs)

    rest : (n : ℕ) → part_of ps n ≡ part_of qs n
    rest n = go (p.client == n) refl (q.client == n) refl
      where
        none : (r : Noted) (rs : List Noted) → ((s : Noted) → In s rs → r.client < s.client) → r.client ≡ n → part_of rs n ≡ None
        none r rs above at = part_none rs n (λ s i e. let more = above s i in omega (arith, more, e, at))

        go : (b : Bool) → (p.client == n) ≡ b → (d : Bool) → (q.client == n) ≡ d → part_of ps n ≡ part_of qs n
        go true e _ _ = let at = eqb-true p.client n e in none p ps up.0 at ∙ sym (none q qs rise.0 (sym client ∙ at))
        go false e true f = absurd (false≢true (sym e ∙ eq-eqb p.client n (client ∙ eqb-true q.client n f)))
        go false e false f = sym (ap (λ b. cond b (Some p) (part_of ps n)) e) ∙ same n ∙ ap (λ b. cond b (Some q) (part_of qs n)) f

-- ---- a part that is put in

pub ascends_drop : (n : ℕ) (ps : List Noted) → Ascends ps → Ascends (drop n ps)
ascends_drop zero ps up = up
ascends_drop (suc n) [] up = tt
ascends_drop (suc n) (p ∷ ps) up = ascends_drop n ps up.1

-- what is noted, and the parts that are left, once one more was put in
pub put_more : (p : Noted) (left rest : List Noted) (old new : Option Noted) (client : ℕ) → left ≡ p ∷ rest → Ascends left → new ≡ cond (p.client == client) (Some p) old → option_or (part_of rest client) new ≡ option_or (part_of left client) old
put_more p left rest old new client is up more = go (p.client == client) refl ∙ ap (λ l. option_or (part_of l client) old) (sym is)
  where
    up_here : Ascends (p ∷ rest)
    up_here = subst Ascends is up

    go : (b : Bool) → (p.client == client) ≡ b → option_or (part_of rest client) new ≡ option_or (part_of (p ∷ rest) client) old
    go true e =
        ap (λ o. option_or o new) (part_none rest client (λ q i same. let above = up_here.0 q i in let at = eqb-true p.client client e in omega (arith, above, at, same)))
        ∙ more ∙ ap (λ b. cond b (Some p) old) e
        ∙ sym (ap (λ b. option_or (cond b (Some p) (part_of rest client)) old) e)
    go false e =
        ap (option_or (part_of rest client)) (more ∙ ap (λ b. cond b (Some p) old) e)
        ∙ sym (ap (λ b. option_or (cond b (Some p) (part_of rest client)) old) e)

-- what is left begins with the part at its place
pub left_is : (parts : List Noted) (i : ℕ) (d : Noted) → i < length parts → drop i parts ≡ get_or parts i d ∷ drop (i + 1) parts
left_is parts i d small = let next : suc i ≡ i + 1 = omega arith in drop-cons parts i d small ∙ ap (λ (n : ℕ). get_or parts i d ∷ drop n parts) next

-- ---- what is told of a guard

-- the parts are in order and those of the guard, and no other list is that
pub record AreOnly (lasts : List Last) (parts : List Noted) : Type 0 where
  pub parts_are : AreParts parts
  pub noted : ArePartsOf lasts parts
  pub only : (others : List Noted) → AreParts others → ArePartsOf lasts others → others ≡ parts

pub only_noted : (lasts told : List Last) (parts : List Noted) → told ≡ lasts → length told ≡ MOST_CLIENTS → parts ≡ noted_from 1 told → AreOnly lasts parts
only_noted lasts told parts is long made = subst (AreOnly lasts) (sym made) (subst (λ (l : List Last). AreOnly l (noted_from 1 told)) is (record {
  parts_are = noted_parts told long;
  noted = noted_of told;
  only = λ others are of. one_list others (noted_from 1 told) are.ascends (noted_parts told long).ascends (λ client. of client ∙ sym (noted_of told client));
}))
