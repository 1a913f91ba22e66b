-- The parts of a log, and the log that is made of parts.
use Rattle.std.proofs.Common.{◌≡◌, ◌+◌, ◌≤◌, ℕ, false, inl, inr, List, [], ◌∷◌, ◌++◌, length, refl, sym, ap, ◌∙◌, subst, arith}
use Rattle.std.specs.Map.{lookup, values_of}
use Rattle.std.specs.BTreeMap.{is_at}
use Rattle.std.proofs.lemmas.List.{append-nil}
use Rattle.std.proofs.lemmas.Option.{same_Some}
use Rattle.list_core.specs.Members.{In}
use Rattle.list_core.specs.Apart.{Apart}
use Rattle.list_core.proofs.Apart.{apart_map}
use Rattle.list_core.proofs.Members.{In-All, In_right, In_from_map}
use Rattle.ids_core.specs.declared.limits.TheConstants.{MOST_UPDATES}
use Rattle.ids_core.specs.declared.ids.Dot.{Dot}
use Rattle.ids_core.specs.declared.object.ObjectId.{ObjectId}
use Rattle.ids_core.specs.Orders.{dot_cmp}
use Rattle.ids_core.specs.Ids.{same_dot}
use Rattle.ids_core.specs.Same.{same_dot-true}
use Rattle.stamp_index.specs.declared.places.Place.{Place}
use Rattle.stamp_index.proofs.Finds.{finds_none}
use Rattle.tx_core.specs.declared.part.RestPart.{RestPart}
use Rattle.op_log.specs.declared.chains.Cell.{Cell}
use Rattle.op_log.specs.declared.logged.Logged.{Logged}
use Rattle.op_log.specs.Logs.{has_dot}
use Rattle.op_log.specs.RestParts.{rest_part, parts_of, logged_part, logged_from, AreParts}
use Rattle.op_log.specs.Tables.{Rises, Names, IsLog}

-- ---- taken apart

-- where transactions are found by their dots, those differ
pub dots_apart : (dots : List (Dot × ℕ)) (items : List Logged) → Rises items → Names dots items → Apart (λ (x : Logged). x.tx.dot) items
dots_apart dots [] rises names = tt
dots_apart dots (x ∷ items) rises names = (
  λ y i same.
      let lt = rises.0 y i in
      let one : x.number ≡ y.number = same_Some x.number y.number (sym (names x (inl refl)) ∙ ap (λ (d : Dot). lookup (is_at (dot_cmp d)) dots) same ∙ names y (inr i)) in
      absurd (omega (arith, lt, one)),
  dots_apart dots items rises.1 (λ y i. names y (inr i)),
)

-- so the parts of a log are parts of which one can be made
pub log_parts : (n : ℕ) (es : List (ℕ × Logged)) (ds : List (Dot × ℕ)) (cs : List (ObjectId × List Cell)) (ps : List Place) → IsLog n es ds cs ps → AreParts (parts_of (values_of es))
log_parts n es ds cs ps log = record {
  apart = apart_map rest_part (λ (p : RestPart). p.tx.dot) (values_of es) (dots_apart ds (values_of es) log.table.rises log.table.names);
  few = In-All (λ (p : RestPart). length p.tx.updates ≤ MOST_UPDATES) (parts_of (values_of es)) (λ p i. let m = In_from_map rest_part (values_of es) p i in subst (λ (p : RestPart). length p.tx.updates ≤ MOST_UPDATES) (sym m.2) (log.few m.0 m.1));
}

-- ---- made of parts

-- the parts of what is made of parts are those
pub parts_logged : (n : ℕ) (parts : List RestPart) → parts_of (logged_from n parts) ≡ parts
parts_logged n [] = refl
parts_logged n (p ∷ parts) = ap (λ l. p ∷ l) (parts_logged (n + 1) parts)

-- once all were put in
pub parts_back : (n : ℕ) (items : List Logged) (left parts : List RestPart) → items ++ logged_from n left ≡ logged_from 0 parts → left ≡ [] → parts_of items ≡ parts
parts_back n items left parts is none = ap parts_of (sym (ap (λ l. items ++ logged_from n l) none ∙ append-nil items) ∙ is) ∙ parts_logged 0 parts

-- a transaction of what is made is that of a part
logged_of : (n : ℕ) (parts : List RestPart) (x : Logged) → In x (logged_from n parts) → (p : RestPart) × In p parts × (x.tx ≡ p.tx)
logged_of n [] x i = absurd i
logged_of n (p ∷ parts) x (inl same) = (p, inl refl, ap (λ (x : Logged). x.tx) same)
logged_of n (p ∷ parts) x (inr i) = let r = logged_of (n + 1) parts x i in (r.0, inr r.1, r.2)

-- where the dots of parts differ, so do those of what is made of them
logged_apart : (n : ℕ) (parts : List RestPart) → Apart (λ (p : RestPart). p.tx.dot) parts → Apart (λ (x : Logged). x.tx.dot) (logged_from n parts)
logged_apart n [] apart = tt
logged_apart n (p ∷ parts) apart = (λ y i same. let r = logged_of (n + 1) parts y i in apart.0 r.0 r.1 (same ∙ ap (λ t. t.dot) r.2), logged_apart (n + 1) parts apart.1)

-- of two lists behind one another
apart_both : {X K : Type 0} (key : X → K) (xs ys : List X) (x y : X) → Apart key (xs ++ ys) → In x xs → In y ys → key x ≡ key y → ⊥
apart_both key [] ys x y apart i j same = absurd i
apart_both key (z ∷ xs) ys x y apart (inl here) j same = apart.0 y (In_right xs ys y j) (sym (ap key here) ∙ same)
apart_both key (z ∷ xs) ys x y apart (inr i) j same = apart_both key xs ys x y apart.1 i j same

-- the dot of the next part is not in the log
pub next_new : (n : ℕ) (items : List Logged) (left rest parts : List RestPart) (p : RestPart) → items ++ logged_from n left ≡ logged_from 0 parts → left ≡ p ∷ rest → Apart (λ (p : RestPart). p.tx.dot) parts → has_dot p.tx.dot items ≡ false
next_new n items left rest parts p is next apart = finds_none (λ x. same_dot x.tx.dot p.tx.dot) items (λ x i same. apart_both (λ (x : Logged). x.tx.dot) items (logged_from n (p ∷ rest)) x (logged_part n p) all i (inl refl) (same_dot-true x.tx.dot p.tx.dot same))
  where
    all : Apart (λ (x : Logged). x.tx.dot) (items ++ logged_from n (p ∷ rest))
    all = subst (Apart (λ (x : Logged). x.tx.dot)) (sym (ap (λ l. items ++ logged_from n l) (sym next) ∙ is)) (logged_apart 0 parts apart)
