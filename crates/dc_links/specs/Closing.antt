-- What is known of links as they are taken out of use.
use Rattle.std.specs.Prelude.{◌≡◌, ◌<◌, ℕ, List, length, drop}
use Rattle.dc_talk.specs.declared.sent.Sent.{Sent}
use Rattle.mail_link.specs.Ends.{GiverView, TakerView}
use Rattle.dc_links.specs.Links.{IsMore, row_of, IsAmong, put_to, put_between, taken_from, taken_between}

-- the links from a centre to the first k were taken out of use, each with the first end of its receiver's row
pub record ClosesRow (k : ℕ) (givers : List (GiverView Sent)) (old new : List (List (TakerView Sent))) : Type 0 where
  pub number : length new ≡ length old
  pub more : (j : ℕ) → IsAmong k j → IsMore (taken_from (row_of old j) 1) (put_to givers j)
  pub rest : (j : ℕ) → IsAmong k j → row_of new j ≡ drop 1 (row_of old j)
  pub same : (j : ℕ) → k < j → row_of new j ≡ row_of old j

-- the links from the first k centres to n were taken out of use
pub record ClosesRows (n k : ℕ) (givers : List (List (GiverView Sent))) (old new : List (List (TakerView Sent))) : Type 0 where
  pub number : length new ≡ length old
  pub more : (i j : ℕ) → IsAmong k i → IsAmong n j → IsMore (taken_between old i j) (put_between givers i j)
  pub rest : (j : ℕ) → IsAmong n j → row_of new j ≡ drop k (row_of old j)
