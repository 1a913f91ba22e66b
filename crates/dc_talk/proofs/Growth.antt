-- How the applied list of a trail grows: a later one begins with an earlier one.
use Rattle.std.proofs.Common.{◌≡◌, ℕ, ◌+◌, ◌≤◌, List, [], ◌∷◌, ◌++◌, take, drop, fold, refl, sym, ap, ◌∙◌, subst}
use Rattle.std.proofs.lemmas.List.{append-nil, append_assoc, take-append-drop, take-take, map-append, map_push}
use Rattle.std.proofs.lemmas.List.Sums.{fold-append, fold_push}
use Rattle.list_core.specs.Members.{In}
use Rattle.list_core.proofs.Members.{In_left}
use Rattle.vv_core.specs.Vectors.{Covers}
use Rattle.tx_core.specs.declared.tx.Record.{Record}
use Rattle.dc_talk.specs.declared.ask.Ask.{Ask}
use Rattle.dc_talk.specs.declared.ask.Ask.TheVariants.{Commit, Deliver}
use Rattle.dc_talk.specs.declared.say.Say.{Say}
use Rattle.dc_talk.specs.declared.say.Say.TheVariants.{Stamped, Applied}
use Rattle.dc_talk.specs.declared.sent.Sent.{Sent}
use Rattle.dc_talk.specs.Entries.{Entry}
use Rattle.dc_talk.specs.Records.{vector, guard, deps_of}
use Rattle.dc_talk.specs.Sents.{with_hops, items}
use Rattle.dc_talk.specs.Trails.{grown, carried_on, carried, applied}
use Rattle.dc_talk.proofs.Counts.{vector_front, guard_front}

-- ---- one entry more

-- the applied records after one more entry are those before it with what it brought, with and without hops
carried_grown : (n : ℕ) (C : List Sent) (ask : Ask) (say : Say) → items (carried_on n C ask say) ≡ grown n (items C) ask say
carried_grown n C (Commit tx) (Stamped stamp) = map_push (λ (x : Sent). x.item) C (with_hops (record { stamp = stamp; deps = deps_of n (items C) tx; tx = tx }) 0)
carried_grown n C (Deliver item hops) (Applied fresh) = map_push (λ (x : Sent). x.item) C (with_hops item (hops + 1))
carried_grown n C _ _ = refl

pub carried_push : (n : ℕ) (trail : List Entry) (entry : Entry) → carried n (trail ++ entry ∷ []) ≡ carried_on n (carried n trail) entry.ask entry.say
carried_push n trail entry = fold_push (λ C (entry : Entry). carried_on n C entry.ask entry.say) [] trail entry

pub applied_push : (n : ℕ) (trail : List Entry) (entry : Entry) → applied n (trail ++ entry ∷ []) ≡ grown n (applied n trail) entry.ask entry.say
applied_push n trail entry = ap items (carried_push n trail entry) ∙ carried_grown n (carried n trail) entry.ask entry.say

-- ---- more entries

-- one entry puts at most one record behind the others
carried_more : (n : ℕ) (C : List Sent) (ask : Ask) (say : Say) → (Z : List Sent) × (carried_on n C ask say ≡ C ++ Z)
carried_more n C (Commit tx) (Stamped stamp) = (with_hops (record { stamp = stamp; deps = deps_of n (items C) tx; tx = tx }) 0 ∷ [], refl)
carried_more n C (Deliver item hops) (Applied fresh) = (with_hops item (hops + 1) ∷ [], refl)
carried_more n C _ _ = ([], sym (append-nil C))

-- the applied list after one more entry
abbrev step : ℕ → List Sent → Entry → List Sent
step n C entry = carried_on n C entry.ask entry.say

-- so do several
carried_by : (n : ℕ) (C : List Sent) (trail : List Entry) → (Z : List Sent) × (fold (step n) C trail ≡ C ++ Z)
carried_by n C [] = ([], sym (append-nil C))
carried_by n C (entry ∷ trail) =
    let first = carried_more n C entry.ask entry.say in
    let rest = carried_by n (step n C entry) trail in
    (first.0 ++ rest.0, rest.1 ∙ (ap (λ l. l ++ rest.0) first.1 ∙ append_assoc C first.0 rest.0))

-- the applied list of a trail begins with that of a prefix, with and without hops
pub carried_front : (n : ℕ) (trail : List Entry) (p : ℕ) → (Z : List Sent) × (carried n trail ≡ carried n (take p trail) ++ Z)
carried_front n trail p =
    let rest = carried_by n (carried n (take p trail)) (drop p trail) in
    (rest.0, ap (carried n) (sym (take-append-drop p trail)) ∙ (fold-append (step n) [] (take p trail) (drop p trail) ∙ rest.1))

pub applied_front : (n : ℕ) (trail : List Entry) (p : ℕ) → (Z : List Record) × (applied n trail ≡ applied n (take p trail) ++ Z)
applied_front n trail p =
    let front = carried_front n trail p in
    (items front.0, ap items front.1 ∙ map-append (λ (x : Sent). x.item) (carried n (take p trail)) front.0)

-- what is applied by a moment is applied in the end, with its hops
pub carried_later : (n : ℕ) (trail : List Entry) (p : ℕ) (x : Sent) → In x (carried n (take p trail)) → In x (carried n trail)
carried_later n trail p x i = let front = carried_front n trail p in subst (λ C. In x C) (sym front.1) (In_left (carried n (take p trail)) front.0 x i)

-- that of a longer prefix with that of a shorter one
pub applied_grows : (n : ℕ) (trail : List Entry) (p q : ℕ) → p ≤ q → (Z : List Record) × (applied n (take q trail) ≡ applied n (take p trail) ++ Z)
applied_grows n trail p q le =
    let front = applied_front n (take q trail) p in
    (front.0, front.1 ∙ ap (λ l. applied n l ++ front.0) (take-take p q trail le))

-- what is applied by a moment is applied in the end
pub applied_later : (n : ℕ) (trail : List Entry) (p : ℕ) (r : Record) → In r (applied n (take p trail)) → In r (applied n trail)
applied_later n trail p r i = let front = applied_front n trail p in subst (λ A. In r A) (sym front.1) (In_left (applied n (take p trail)) front.0 r i)

-- a centre's vector only grows
pub later_covers : (n : ℕ) (trail : List Entry) (p q : ℕ) → p ≤ q → Covers (vector n (applied n (take q trail))) (vector n (applied n (take p trail)))
later_covers n trail p q le = let g = applied_grows n trail p q le in subst (λ A. Covers (vector n A) (vector n (applied n (take p trail)))) (sym g.1) (vector_front n (applied n (take p trail)) g.0)

-- so does the greatest number that it has of a client
pub later_guard : (n c : ℕ) (trail : List Entry) (p q : ℕ) → p ≤ q → guard c (applied n (take p trail)) ≤ guard c (applied n (take q trail))
later_guard n c trail p q le = let g = applied_grows n trail p q le in subst (λ A. guard c (applied n (take p trail)) ≤ guard c A) (sym g.1) (guard_front c (applied n (take p trail)) g.0)
