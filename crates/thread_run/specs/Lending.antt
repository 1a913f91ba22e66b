-- The ends of links that are lent to receivers, and given back.
use Rattle.std.specs.Prelude.{◌≡◌, ◌≢◌, ℕ, ◌-◌, length, List, [], slice_index_or, map}
use Rattle.std.specs.Global.{Vec}
use Rattle.dc_talk.specs.declared.sent.Sent.{Sent}
use Rattle.script_core.specs.Links.{Inlet}
use Rattle.script_core.specs.Mail.{Post}
use Rattle.script_core.specs.Steps.{IsCount}
use Rattle.dc_mail.specs.Posts.{IsCentre, post_at}
use Rattle.dc_links.specs.Links.{inlet_from}

-- the ends of a receiver's row
abbrev pub row_inlet : List (Vec (Inlet Sent)) → ℕ → ℕ → Inlet Sent
row_inlet rows from to = inlet_from (slice_index_or (map (λ (row : Vec (Inlet Sent)). row.items) rows) (to - 1) []) from

-- these are the ends of the links to a centre from the first n; no other link changed
pub record AreInletsTo (old : List Post) (n to : ℕ) (inlets : List (Inlet Sent)) (new : List Post) : Type 0 where
  pub number : length inlets ≡ n
  pub each : (from : ℕ) → IsCount n from → inlet_from inlets from ≡ (post_at old from to).inlet
  pub others : (i j : ℕ) → IsCentre i → IsCentre j → j ≢ to → post_at new i j ≡ post_at old i j

-- these are the ends of the links between the first n centres
pub record AreInlets (old : List Post) (n : ℕ) (rows : List (Vec (Inlet Sent))) : Type 0 where
  pub number : length rows ≡ n
  pub rows_are : (to : ℕ) → IsCount n to → length (slice_index_or (map (λ (row : Vec (Inlet Sent)). row.items) rows) (to - 1) []) ≡ n
  pub each : (from to : ℕ) → IsCount n from → IsCount n to → row_inlet rows from to ≡ (post_at old from to).inlet

-- the links to a centre have these ends; no other link changed
pub record HaveInletsTo (old : List Post) (to : ℕ) (inlets : List (Inlet Sent)) (new : List Post) : Type 0 where
  pub each : (from : ℕ) → IsCount (length inlets) from → (post_at new from to).inlet ≡ inlet_from inlets from
  pub others : (i j : ℕ) → IsCentre i → IsCentre j → j ≢ to → post_at new i j ≡ post_at old i j

-- the links between the first n centres have these ends
pub record HaveInlets (n : ℕ) (rows : List (Vec (Inlet Sent))) (new : List Post) : Type 0 where
  pub each : (from to : ℕ) → IsCount n from → IsCount n to → (post_at new from to).inlet ≡ row_inlet rows from to
