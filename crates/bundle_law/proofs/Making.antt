-- The parts that a bundle has are such as a guard and a point are made of.
use Rattle.std.proofs.Common.{◌≡◌, ◌≤◌, ◌<◌, ℕ, Bool, true, false, ◌==◌, cond, max, inl, inr, Some, List, [], ◌∷◌, map, refl, sym, ap, ◌∙◌, arith}
use Rattle.std.specs.Cmp.{ranked}
use Rattle.std.specs.List.{AllByRecursion}
use Rattle.std.specs.List.Sorted.{IsStrictlySortedBy}
use Rattle.std.specs.Ordering.{nat_cmp}
use Rattle.std.specs.declared.cmp.Ordering.TheVariants.{Less}
use Rattle.std.proofs.lemmas.Bool.Decides.{Decides-eqb, nat_tests}
use Rattle.std.proofs.lemmas.List.Elements.{All-map, All-from_recursion}
use Rattle.std.proofs.lemmas.Map.Keys.{sorted_head, sorted_tail}
use Rattle.list_core.specs.Members.{In}
use Rattle.list_core.proofs.Members.{All-In, In_map, In_from_map}
use Rattle.dup_guard.specs.declared.noted.Noted.{Noted}
use Rattle.dup_guard.specs.Parts as guard
use Rattle.check_point.specs.PointParts as point
use Rattle.ids_core.specs.declared.limits.TheConstants.{MOST_CLIENTS}
use Rattle.op_log.specs.RestParts as log
use Rattle.join_bundle.specs.declared.condition.Condition.TheVariants.{ClientOrder, ClientRange, ClientNumbers, ObjectOrder, RestFit, RestDots}
use Rattle.join_bundle.specs.declared.part.ClientPart.{ClientPart}
use Rattle.join_bundle.specs.declared.part.BundleParts.{BundleParts}
use Rattle.join_bundle.specs.Bundles.{IsBundle}
use Rattle.join_bundle.specs.Conditions.{noted}
use Rattle.bundle_law.specs.Made.{note_of, guard_parts, folded_numbers, point_parts, number_in}

-- clients that ascend
abbrev Rises : List ClientPart → Type 0
Rises clients = IsStrictlySortedBy nat_cmp (map (λ c. c.client) clients)

-- the first client is below the others
first_below : (c : ClientPart) (clients : List ClientPart) → Rises (c ∷ clients) → (d : ClientPart) → In d clients → c.client < d.client
first_below c clients rises d i =
    let above = All-from_recursion (λ k. nat_cmp c.client k ≡ Less) (map (λ c. c.client) clients) (sorted_head nat_cmp c.client (map (λ c. c.client) clients) rises) in
    ranked c.client d.client Less (sym (All-In (λ k. nat_cmp c.client k ≡ Less) (map (λ c. c.client) clients) d.client above (In_map (λ (c : ClientPart). c.client) clients d i)))

-- so is its note
note_below : (c : ClientPart) (clients : List ClientPart) → Rises (c ∷ clients) → (q : Noted) → In q (map note_of clients) → c.client < q.client
note_below c clients rises q i =
    let from = In_from_map note_of clients q i in
    let below = first_below c clients rises from.0 from.1 in
    let same : q.client ≡ from.0.client = ap (λ (n : Noted). n.client) from.2 in
    omega (arith, below, same)

-- what is noted of them ascends
notes_ascend : (clients : List ClientPart) → Rises clients → guard.Ascends (map note_of clients)
notes_ascend [] rises = tt
notes_ascend (c ∷ clients) rises = (note_below c clients rises, notes_ascend clients (sorted_tail nat_cmp c.client (map (λ c. c.client) clients) rises))

-- a guard can be made
pub guard_made : (p : BundleParts) → IsBundle p → guard.AreParts (guard_parts p)
guard_made p is = record {
  ascends = notes_ascend p.clients (is.meets ClientOrder);
  clients = All-map (λ n. (1 ≤ n.client) × (n.client ≤ MOST_CLIENTS)) note_of p.clients (is.meets ClientRange);
  numbers = All-map (λ n. 1 ≤ n.number) note_of p.clients (is.meets ClientNumbers);
}

-- what holds of all clients holds of those of which one is folded
folded_too : (P : ℕ → Type 0) (clients : List ClientPart) → AllByRecursion P (map (λ c. c.client) clients) → AllByRecursion P (map (λ f. f.client) (folded_numbers clients))
folded_too P [] h = tt
folded_too P (c ∷ clients) h = by (c.folded == 0) (folded_too P clients h.1)
  where
    by : (t : Bool) → AllByRecursion P (map (λ f. f.client) (folded_numbers clients)) → AllByRecursion P (map (λ f. f.client) (cond t (folded_numbers clients) (record { client = c.client; number = c.folded } ∷ folded_numbers clients)))
    by true rest = rest
    by false rest = (h.0, rest)

-- they ascend
folded_ascend : (clients : List ClientPart) → Rises clients → point.AscendByClient (folded_numbers clients)
unfolding IsStrictlySortedBy
folded_ascend [] rises = tt
folded_ascend (c ∷ clients) rises = by (c.folded == 0) (folded_ascend clients rises.1)
  where
    by : (t : Bool) → point.AscendByClient (folded_numbers clients) → point.AscendByClient (cond t (folded_numbers clients) (record { client = c.client; number = c.folded } ∷ folded_numbers clients))
    by true rest = rest
    by false rest = (folded_too (λ k. nat_cmp c.client k ≡ Less) clients rises.0, rest)

-- a point can be made
pub point_made : (p : BundleParts) → IsBundle p → point.AreParts (point_parts p)
point_made p is = record { clients = folded_ascend p.clients (is.meets ClientOrder); objects = is.meets ObjectOrder }

-- a log can be made
pub log_made : (p : BundleParts) → IsBundle p → log.AreParts p.rest
log_made p is = record { apart = is.meets RestDots; few = λ k d below. (is.meets RestFit k d below).few }

-- no number is noted of a client behind those that ascend
none_noted : (clients : List ClientPart) (client : ℕ) → ((d : ClientPart) → In d clients → client < d.client) → noted clients client ≡ 0
none_noted [] client above = refl
none_noted (c ∷ clients) client above =
    let rest = none_noted clients client (λ d i. above d (inr i)) in
    let low : client < c.client = above c (inl refl) in
    grind (arith, nat_tests)

-- the number of the part is the greatest that is noted
pub number_noted : (clients : List ClientPart) (client : ℕ) → Rises clients → number_in (guard.part_of (map note_of clients) client) ≡ noted clients client
number_noted [] client rises = refl
number_noted (c ∷ clients) client rises = by (c.client == client) refl (number_noted clients client (sorted_tail nat_cmp c.client (map (λ c. c.client) clients) rises))
  where
    by : (t : Bool) → (c.client == client) ≡ t → number_in (guard.part_of (map note_of clients) client) ≡ noted clients client → number_in (cond t (Some (note_of c)) (guard.part_of (map note_of clients) client)) ≡ max (cond t c.number 0) (noted clients client)
    by true is rest =
        let same : c.client ≡ client = (Decides-eqb c.client client).0 is in
        let none = none_noted clients client (λ d i. let below = first_below c clients rises d i in omega (arith, below, same)) in
        omega (arith, none)
    by false is rest = rest ∙ omega arith
