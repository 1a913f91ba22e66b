-- What lies on the links between centres.
use Rattle.std.specs.Prelude.{◌≡◌, ◌≤◌, ℕ, ◌+◌, ◌-◌, ◌*◌, ◌==◌, ◌&&◌, cond, List, ◌++◌, replicate, slice_index_or}
use Rattle.ids_core.specs.declared.limits.TheConstants.{MOST_CENTRES}
use Rattle.dc_talk.specs.declared.sent.Sent.{Sent}
use Rattle.dc_talk.specs.Acting.{Acting}
use Rattle.script_core.specs.Carrying.{Route, route}
use Rattle.script_core.specs.Mail.{Post, new_post}
use Rattle.dc_worker.specs.Brings.{BringsPart}

-- the place of the link from one centre to another
abbrev pub place_of : ℕ → ℕ → ℕ
place_of from to = (from - 1) * MOST_CENTRES + (to - 1)

-- what lies on it
abbrev pub post_at : List Post → ℕ → ℕ → Post
post_at posts from to = slice_index_or posts (place_of from to) new_post

-- the number of a centre
abbrev pub IsCentre : ℕ → Type 0
IsCentre i = (1 ≤ i) × (i ≤ MOST_CENTRES)

-- nothing lies anywhere
abbrev pub new_posts : List Post
new_posts = replicate (MOST_CENTRES * MOST_CENTRES) new_post

-- what lies on one link is this, and on the others what lay there
pub record HasSet (i j : ℕ) (post : Post) (old new : List Post) : Type 0 where
  pub each : (from to : ℕ) → IsCentre from → IsCentre to → post_at new from to ≡ cond (from == i && to == j) post (post_at old from to)

-- some first ones of the records that lay on the link over a route are off it; of these some first ones were taken, and what
-- comes of them was delivered, before that came to an early end
pub record PostPart (r : Route) (old new : Post) (a b : Acting) : Type 0 where
  pub off : List Sent
  pub waits : old.waits ≡ off ++ new.waits
  pub brings : BringsPart r off old.inlet new.inlet a b

-- so it is of the link from one centre to another, and on the others lies what lay there
pub record PostsPart (from to : ℕ) (old new : List Post) (a b : Acting) : Type 0 where
  pub set : HasSet from to (post_at new from to) old new
  pub part : PostPart (route from to) (post_at old from to) (post_at new from to) a b
