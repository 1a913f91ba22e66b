-- What comes of several that have begun, one after another.
use Rattle.std.proofs.Common.{◌≡◌, List, [], ◌∷◌, ◌++◌, refl, sym, ap, subst}
use Rattle.std.specs.List.{AllZip}

module _ {X Y : Type 0} (R : X → Y → Type 0) where
  -- one more of both
  pub zip_push : (xs : List X) (ys : List Y) (x : X) (y : Y) → AllZip R xs ys → R x y → AllZip R (xs ++ x ∷ []) (ys ++ y ∷ [])
  zip_push [] [] x y zip is = (is, tt)
  zip_push [] (z ∷ ys) x y zip is = absurd zip
  zip_push (w ∷ xs) [] x y zip is = absurd zip
  zip_push (w ∷ xs) (z ∷ ys) x y zip is = (zip.0, zip_push xs ys x y zip.1 is)

  -- the last ones belong together, and so do those before them
  zip_last : (xs : List X) (ys : List Y) (y : Y) → AllZip R xs (ys ++ y ∷ []) → (front : List X) × (last : X) × (xs ≡ front ++ last ∷ []) × AllZip R front ys × R last y
  zip_last [] [] y zip = absurd zip
  zip_last [] (z ∷ ys) y zip = absurd zip
  zip_last (x ∷ []) [] y zip = ([], x, refl, tt, zip.0)
  zip_last (x ∷ w ∷ xs) [] y zip = absurd zip.1
  zip_last (x ∷ xs) (z ∷ ys) y zip = let rest = zip_last xs ys y zip.1 in (x ∷ rest.0, rest.1, ap (λ (l : List X). x ∷ l) rest.2, (zip.0, rest.3), rest.4)

module _ {X B Y : Type 0} (R : X → B → Type 0) (S : X → Y → Type 0) where
  -- where nothing began, nothing came of it
  pub none_came : (xs : List X) → AllZip R xs [] → AllZip S xs []
  none_came [] zip = tt
  none_came (x ∷ xs) zip = absurd zip

  -- one more
  pub one_more_came : (bs : List B) (b : B) (ys : List Y) (y : Y) → ((xs : List X) → AllZip R xs bs → AllZip S xs ys) → ((x : X) → R x b → S x y) → (xs : List X) → AllZip R xs (bs ++ b ∷ []) → AllZip S xs (ys ++ y ∷ [])
  one_more_came bs b ys y all one xs zip = let split = zip_last R xs bs b zip in subst (λ (l : List X). AllZip S l (ys ++ y ∷ [])) (sym split.2) (zip_push S split.0 ys split.1 y (all split.0 split.3) (one split.1 split.4))
