-- The centres of a system, each under a lock, and the passes of all callers: a row of passes for each caller, with one
-- for each host, in order.
use Rattle.std.specs.Prelude.{◌≡◌, ℕ, List, [], ◌∷◌, ◌++◌, map, length, drop, Some, slice_get, All}
use Rattle.std.specs.List.{AllZip, filter_map, range_with_len}
use Rattle.std.specs.Global.{Vec}
use Rattle.host_lock.specs.Hosts.{fresh, InOrder, IsWhole}
use Rattle.dc_talk.specs.Answers.{IsAnswer}
use Rattle.dc_host.specs.declared.columns.Column.{Column}
use Rattle.dc_host.specs.declared.hosts.Opened.{Opened}
use Rattle.dc_door.specs.Centres.{KeptCentre, CentreTrail, IsKeptCentre}
use Rattle.dc_host.specs.HostDoors.{CentreHost, CentrePass, bare}

-- the hosts of the centres in order, and how many callers each has
pub record HostsView : Type 0 where
  pub hosts : List CentreHost
  pub callers : ℕ

-- each host has so many callers
abbrev pub AreFor : ℕ → List CentreHost → Type 0
AreFor callers hosts = All (λ host. host.callers ≡ callers) hosts

-- what is seen of rows of passes
abbrev pub rows_of : List (Vec CentrePass) → List (List CentrePass)
rows_of rows = map (λ (row : Vec CentrePass). row.items) rows

-- the host opened over this centre with its trail
pub record IsHostOf (centre : CentreTrail) (host : CentreHost) : Type 0 where
  pub settings : host.settings ≡ Some centre.settings
  pub opening : host.opening ≡ centre.entries

-- the passes of a caller that has made no call
abbrev pub new_row : List CentreHost → ℕ → List CentrePass
new_row hosts caller = map (λ (host : CentreHost). fresh host caller) hosts

-- the rows of so many callers in order, the first of which has this number
abbrev pub new_rows : List CentreHost → ℕ → ℕ → List (List CentrePass)
new_rows hosts first count = map (new_row hosts) (range_with_len first count)

-- the passes of each caller as they were before any call
abbrev pub bare_rows : List (List CentrePass) → List (List CentrePass)
bare_rows rows = map (map bare) rows

-- the passes of the host at a place, counted from 0
abbrev pub column : ℕ → List (List CentrePass) → List CentrePass
column place rows = filter_map (λ row. slice_get row place) rows

-- the rows, each with its pass of a column behind, as far as the column goes
abbrev pub widened : List (List CentrePass) → List CentrePass → List (List CentrePass)
widened [] passes = []
widened (row ∷ rows) [] = row ∷ rows
widened (row ∷ rows) (pass ∷ passes) = (row ++ pass ∷ []) ∷ widened rows passes

-- the rows without the passes of the first host
abbrev pub tails : List (List CentrePass) → List (List CentrePass)
tails rows = map (λ row. drop 1 row) rows

-- the passes of the first host, and what is left of the rows
pub record IsColumnOf (rows : List (List CentrePass)) (c : Column) : Type 0 where
  pub first : c.first.items ≡ column 0 rows
  pub rest : rows_of c.rest.items ≡ tails rows

-- a row more
pub record HasRow (old : Column) (row : List CentrePass) (new : Column) : Type 0 where
  pub first : new.first.items ≡ old.first.items ++ column 0 (row ∷ [])
  pub rest : rows_of new.rest.items ≡ rows_of old.rest.items ++ drop 1 row ∷ []

-- the hosts that were opened, and the new passes of all callers
pub record AreOpened (callers : ℕ) (centres : List CentreTrail) (o : Opened) : Type 0 where
  pub hosts : AllZip IsHostOf centres o.hosts.items
  pub callers_of : AreFor callers o.hosts.items
  pub rows : rows_of o.rows.items ≡ new_rows o.hosts.items 1 callers

-- one host more, of which each caller has its pass
pub record HasHost (old : Opened) (host : CentreHost) (passes : List CentrePass) (new : Opened) : Type 0 where
  pub hosts : new.hosts.items ≡ old.hosts.items ++ host ∷ []
  pub rows : rows_of new.rows.items ≡ widened (rows_of old.rows.items) passes

-- each host finds all its passes in the column at its place, in order
pub record MayClose (hosts : List CentreHost) (rows : List (List CentrePass)) : Type 0 where
  pub each : (i : ℕ) (host : CentreHost) → slice_get hosts i ≡ Some host → InOrder host 1 (column i rows) × (length (column i rows) ≡ host.callers)

-- what came out of a host with these passes: a centre that stands for its trail, the host's whole history
pub record IsClosed (host : CentreHost) (passes : List CentrePass) (kept : KeptCentre) : Type 0 where
  pub whole : IsWhole IsAnswer host passes kept.trail.entries
  pub kept_at : IsKeptCentre kept
  pub settings : host.settings ≡ Some kept.machine.settings

-- so it is of each host, with its column of passes
pub record AreClosed (hosts : List CentreHost) (rows : List (List CentrePass)) (kept : List KeptCentre) : Type 0 where
  pub number : length kept ≡ length hosts
  pub each : (i : ℕ) (host : CentreHost) (one : KeptCentre) → slice_get hosts i ≡ Some host → slice_get kept i ≡ Some one → IsClosed host (column i rows) one
