-- The first condition that parts do not pass is the first that they break.
use Rattle.std.proofs.Common.{◌≡◌, Bool, true, false, not, cond, inl, inr, ⊎_elim, Some, None, List, [], ◌∷◌, ◌++◌, All, refl, sym, ap, ◌∙◌, subst}
use Rattle.std.specs.Bool.{Decides}
use Rattle.std.proofs.lemmas.Bool.{false≢true}
use Rattle.std.proofs.lemmas.List.Elements.{All-nil, All-cons, All-head, All-tail}
use Rattle.list_core.specs.Members.{In}
use Rattle.list_core.specs.Firsts.{first_that}
use Rattle.join_bundle.specs.declared.condition.Condition.{Condition}
use Rattle.join_bundle.specs.declared.condition.Condition.TheVariants.{BaseWidth, MarkWidth, RowCount, RowWidths, Donor, Depth, MarkOverBase, VectorOverMark, ClientOrder, ClientRange, ClientNumbers, ClientStamps, ObjectOrder, StateSorts, RestFit, RestNumbers, RestDots, RestStamps}
use Rattle.join_bundle.specs.declared.part.BundleParts.{BundleParts}
use Rattle.join_bundle.specs.Conditions.{order, Meets, IsFirstBroken}
use Rattle.join_bundle.specs.Tests.{passes, first_failed}
use Rattle.join_bundle.specs.Bundles.{IsBundle}
use Rattle.join_bundle.proofs.Deciding.{tells}

module _ {X : Type 0} (test : X → Bool) (P : X → Type 0) (tell : (x : X) → Decides (test x) (P x)) where
  -- where none fails, each holds
  pub none_fails : (xs : List X) → first_that (λ x. not (test x)) xs ≡ None → (x : X) → In x xs → P x
  none_fails [] none x i = absurd i
  none_fails (y ∷ ys) none x i = by (test y) refl none (λ h. none_fails ys h x)
    where
      by : (t : Bool) → test y ≡ t → cond (not t) (Some y) (first_that (λ x. not (test x)) ys) ≡ None → (first_that (λ x. not (test x)) ys ≡ None → In x ys → P x) → P x
      by true is h rest = ⊎_elim (λ same. subst P (sym same) ((tell y).0 is)) (rest h) i
      by false is h rest = cc

  -- the first that fails, with what stands before it
  pub record Failed (xs : List X) (x : X) : Type 0 where
    pub before : List X
    pub after : List X
    pub place : xs ≡ before ++ x ∷ after
    pub met : All P before
    pub broken : P x → ⊥

  -- what stands before it holds
  pub first_fails : (xs : List X) (x : X) → first_that (λ x. not (test x)) xs ≡ Some x → Failed xs x
  first_fails [] x some = cc
  first_fails (y ∷ ys) x some = by (test y) refl some (first_fails ys x)
    where
      by : (t : Bool) → test y ≡ t → cond (not t) (Some y) (first_that (λ x. not (test x)) ys) ≡ Some x → (first_that (λ x. not (test x)) ys ≡ Some x → Failed ys x) → Failed (y ∷ ys) x
      by true is h more =
          let rest = more h in
          record { before = y ∷ rest.before; after = rest.after; place = ap (λ l. y ∷ l) rest.place; met = All-cons P y rest.before ((tell y).0 is) rest.met; broken = rest.broken }
      by false is h more =
          let same : y ≡ x = cc in
          record { before = []; after = ys; place = ap (λ z. z ∷ ys) same; met = All-nil P; broken = λ holds. false≢true (sym is ∙ (tell y).1 (subst P (sym same) holds)) }

-- each condition has its place
listed : (condition : Condition) → In condition order
listed BaseWidth = inl refl
listed MarkWidth = inr (inl refl)
listed RowCount = inr (inr (inl refl))
listed RowWidths = inr (inr (inr (inl refl)))
listed Donor = inr (inr (inr (inr (inl refl))))
listed Depth = inr (inr (inr (inr (inr (inl refl)))))
listed MarkOverBase = inr (inr (inr (inr (inr (inr (inl refl))))))
listed VectorOverMark = inr (inr (inr (inr (inr (inr (inr (inl refl)))))))
listed ClientOrder = inr (inr (inr (inr (inr (inr (inr (inr (inl refl))))))))
listed ClientRange = inr (inr (inr (inr (inr (inr (inr (inr (inr (inl refl)))))))))
listed ClientNumbers = inr (inr (inr (inr (inr (inr (inr (inr (inr (inr (inl refl))))))))))
listed ClientStamps = inr (inr (inr (inr (inr (inr (inr (inr (inr (inr (inr (inl refl)))))))))))
listed ObjectOrder = inr (inr (inr (inr (inr (inr (inr (inr (inr (inr (inr (inr (inl refl))))))))))))
listed StateSorts = inr (inr (inr (inr (inr (inr (inr (inr (inr (inr (inr (inr (inr (inl refl)))))))))))))
listed RestFit = inr (inr (inr (inr (inr (inr (inr (inr (inr (inr (inr (inr (inr (inr (inl refl))))))))))))))
listed RestNumbers = inr (inr (inr (inr (inr (inr (inr (inr (inr (inr (inr (inr (inr (inr (inr (inl refl)))))))))))))))
listed RestDots = inr (inr (inr (inr (inr (inr (inr (inr (inr (inr (inr (inr (inr (inr (inr (inr (inl refl))))))))))))))))
listed RestStamps = inr (inr (inr (inr (inr (inr (inr (inr (inr (inr (inr (inr (inr (inr (inr (inr (inr (inl refl)))))))))))))))))

-- parts that fail no test make a bundle
pub bundle_of : (p : BundleParts) → first_failed p ≡ None → IsBundle p
bundle_of p none = record { meets = λ condition. none_fails (λ c. passes c p) (λ c. Meets c p) (λ c. tells c p) order none condition (listed condition) }

-- the first test that they fail is of the first condition that they break
pub broken_of : (p : BundleParts) (condition : Condition) → first_failed p ≡ Some condition → IsFirstBroken p condition
broken_of p condition some =
    let f = first_fails (λ c. passes c p) (λ c. Meets c p) (λ c. tells c p) order condition some in
    record { before = f.before; after = f.after; place = f.place; met = f.met; broken = f.broken }

-- in one list, two elements that do not hold, behind elements that do, are the same
pub one_first : {X : Type 0} (P : X → Type 0) (before others after rest : List X) (x y : X) → before ++ x ∷ after ≡ others ++ y ∷ rest → All P before → (P x → ⊥) → All P others → (P y → ⊥) → x ≡ y
one_first P [] [] after rest x y is met broken also fails = cc
one_first P [] (z ∷ others) after rest x y is met broken also fails = let same : x ≡ z = cc in absurd (broken (subst P (sym same) (All-head P z others also)))
one_first P (z ∷ before) [] after rest x y is met broken also fails = let same : z ≡ y = cc in absurd (fails (subst P same (All-head P z before met)))
one_first P (z ∷ before) (w ∷ others) after rest x y is met broken also fails =
    let behind : before ++ x ∷ after ≡ others ++ y ∷ rest = cc in
    one_first P before others after rest x y behind (All-tail P z before met) broken (All-tail P w others also) fails

-- parts break one condition first
pub one_broken : (p : BundleParts) (condition other : Condition) → IsFirstBroken p condition → IsFirstBroken p other → condition ≡ other
one_broken p condition other a b = one_first (λ c. Meets c p) a.before b.before a.after b.after condition other (sym a.place ∙ b.place) a.met a.broken b.met b.broken
