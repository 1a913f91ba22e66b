-- Links by their places.
use Rattle.std.proofs.Common.{◌≡◌, ◌≢◌, ◌<◌, ◌⊎◌, inl, inr, ℕ, ◌*◌, ◌==◌, true, false, cond, List, length, get_or, sym, ap, ◌∙◌, subst, arith}
use Rattle.std.specs.Prelude.{◌&&◌, slice_set}
use Rattle.std.proofs.lemmas.Bool.{cases_eq, eq-eqb, ne_eqb}
use Rattle.std.proofs.lemmas.List.{get_or-set_same, get_or-set_other, set-get_or}
use Rattle.ids_core.specs.declared.limits.TheConstants.{MOST_CENTRES}
use Rattle.script_core.specs.Carrying.{route}
use Rattle.script_core.specs.Mail.{Post, new_post}
use Rattle.dc_talk.specs.Acting.{Acting}
use Rattle.dc_mail.specs.Posts.{place_of, post_at, IsCentre, HasSet, PostPart, PostsPart}

-- a place is one of as many as there are pairs of centres
pub place_within : (from to : ℕ) → IsCentre from → IsCentre to → place_of from to < MOST_CENTRES * MOST_CENTRES
place_within from to f t = omega (arith, f, t)

-- links to other centres, or from others, have other places
places_apart : (from to i j : ℕ) → IsCentre from → IsCentre to → IsCentre i → IsCentre j → (from ≢ i) ⊎ (to ≢ j) → place_of from to ≢ place_of i j
places_apart from to i j f t g h (inl other) = λ same. other (omega (arith, same, f, t, g, h))
places_apart from to i j f t g h (inr other) = λ same. other (omega (arith, same, f, t, g, h))

-- a place that is set to what is there
pub set_again : (posts : List Post) (k : ℕ) (post new : Post) → post ≡ get_or posts k post → new ≡ post → slice_set posts k new ≡ posts
set_again posts k post new there same = ap (slice_set posts k) (same ∙ there) ∙ set-get_or posts k post

module _ (posts : List Post) (many : length posts ≡ MOST_CENTRES * MOST_CENTRES) (i j : ℕ) (g : IsCentre i) (h : IsCentre j) (post : Post) where
  -- a link that was changed is as it was made
  pub post_here : post_at (slice_set posts (place_of i j) post) i j ≡ post
  post_here = let within = place_within i j g h in get_or-set_same posts (place_of i j) post new_post (omega (arith, within, many))

  -- the others are as they were
  pub post_else : (from to : ℕ) → IsCentre from → IsCentre to → (from ≢ i) ⊎ (to ≢ j) → post_at (slice_set posts (place_of i j) post) from to ≡ post_at posts from to
  post_else from to f t other = get_or-set_other posts (place_of i j) (place_of from to) post new_post (places_apart from to i j f t g h other)

  -- either
  post_set_at : (from to : ℕ) → IsCentre from → IsCentre to → post_at (slice_set posts (place_of i j) post) from to ≡ cond (from == i && to == j) post (post_at posts from to)
  post_set_at from to f t = go (cases_eq from i) (cases_eq to j)
    where
      go : (from ≡ i) ⊎ (from ≢ i) → (to ≡ j) ⊎ (to ≢ j) → post_at (slice_set posts (place_of i j) post) from to ≡ cond (from == i && to == j) post (post_at posts from to)
      go (inl one) (inl two) =
          let whole : (from == i && to == j) ≡ true = λ k. eq-eqb from i one k && eq-eqb to j two k in
          (λ k. post_at (slice_set posts (place_of i j) post) (one k) (two k)) ∙ (post_here ∙ ap (λ test. cond test post (post_at posts from to)) (sym whole))
      go (inr one) two =
          let whole : (from == i && to == j) ≡ false = ap (λ test. test && to == j) (ne_eqb from i one) in
          post_else from to f t (inl one) ∙ ap (λ test. cond test post (post_at posts from to)) (sym whole)
      go (inl one) (inr two) =
          let whole : (from == i && to == j) ≡ false = λ k. eq-eqb from i one k && ne_eqb to j two k in
          post_else from to f t (inr two) ∙ ap (λ test. cond test post (post_at posts from to)) (sym whole)

  -- so that one alone was set
  pub has_set : (new : List Post) → new ≡ slice_set posts (place_of i j) post → HasSet i j post posts new
  has_set new is = record { each = λ from to f t. ap (λ posts. post_at posts from to) is ∙ post_set_at from to f t }

  -- where some of it is taken
  pub posts_part : (was : Post) (new : List Post) (a b : Acting) → was ≡ post_at posts i j → new ≡ slice_set posts (place_of i j) post → PostPart (route i j) was post a b → PostsPart i j posts new a b
  posts_part was new a b there is got =
      let here : post_at new i j ≡ post = ap (λ posts. post_at posts i j) is ∙ post_here in
      record {
        set = subst (λ post. HasSet i j post posts new) (sym here) (has_set new is);
        part = subst (λ post. PostPart (route i j) (post_at posts i j) post a b) (sym here) (subst (λ was. PostPart (route i j) was post a b) there got);
      }
