-- How rows of links and their ends grow.
use Rattle.std.specs.Prelude.{◌≡◌, ◌≤◌, ℕ, List, [], ◌∷◌, ◌++◌, map, length, All}
use Rattle.atomic_blocks.specs.Laid.{WebId}
use Rattle.dc_talk.specs.declared.sent.Sent.{Sent}
use Rattle.mail_link.specs.Ends.{GiverView, TakerView}
use Rattle.dc_links.specs.Links.{row_of, column_of}

-- nothing was put by these ends
abbrev pub AreUnput : List (GiverView Sent) → Type 0
AreUnput givers = All (λ (giver : GiverView Sent). giver.put ≡ []) givers

-- nothing was taken by these ends
abbrev pub AreUntaken : List (TakerView Sent) → Type 0
AreUntaken takers = All (λ (taker : TakerView Sent). taker.taken ≡ []) takers

-- the links of ends that put
abbrev pub giver_links : List (GiverView Sent) → List WebId
giver_links givers = map (λ (giver : GiverView Sent). giver.link) givers

-- the links of ends that take
abbrev pub taker_links : List (TakerView Sent) → List WebId
taker_links takers = map (λ (taker : TakerView Sent). taker.link) takers

-- links from a centre with their ends that put, and the ends of one receiver
pub record Ends : Type 0 where
  pub row : List WebId
  pub givers : List (GiverView Sent)
  pub takers : List (TakerView Sent)

-- both by their lists
abbrev pub ends : List WebId → List (GiverView Sent) → List (TakerView Sent) → Ends
ends row givers takers = record { row = row; givers = givers; takers = takers }

-- one link more, with its ends, on which nothing was put
pub record HasLink (old new : Ends) : Type 0 where
  pub link : WebId
  pub giver : GiverView Sent
  pub taker : TakerView Sent
  pub of : (giver.link ≡ link) × (taker.link ≡ link)
  pub unused : (giver.put ≡ []) × (taker.taken ≡ [])
  pub row : new.row ≡ old.row ++ link ∷ []
  pub givers : new.givers ≡ old.givers ++ giver ∷ []
  pub takers : new.takers ≡ old.takers ++ taker ∷ []

-- links from one centre more: its ends, and one for each of the first receivers behind those that it had
pub record LaysRow (row : List WebId) (givers : List (GiverView Sent)) (old new : List (List (TakerView Sent))) : Type 0 where
  pub givers_of : giver_links givers ≡ row
  pub put : AreUnput givers
  pub number : length new ≡ length old
  pub takers_of : (j : ℕ) → 1 ≤ j → taker_links (row_of new j) ≡ taker_links (row_of old j) ++ column_of (row ∷ []) j
  pub taken : (j : ℕ) → AreUntaken (row_of old j) → AreUntaken (row_of new j)

-- links from some centres to each of n, with their ends
pub record Lays (n : ℕ) (links : List (List WebId)) (givers : List (List (GiverView Sent))) (takers : List (List (TakerView Sent))) : Type 0 where
  pub square : All (λ (row : List WebId). length row ≡ n) links
  pub givers_of : map giver_links givers ≡ links
  pub put : All AreUnput givers
  pub number : length takers ≡ n
  pub takers_of : (j : ℕ) → 1 ≤ j → taker_links (row_of takers j) ≡ column_of links j
  pub taken : (j : ℕ) → AreUntaken (row_of takers j)
