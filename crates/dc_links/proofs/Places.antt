-- Ends and links by their places.
use Rattle.std.proofs.Common.{◌≡◌, ◌≢◌, ◌≤◌, ◌<◌, ℕ, zero, suc, ◌-◌, List, [], ◌∷◌, map, length, get_or, set, length-set, Some, refl, sym, ap, ◌∙◌, arith}
use Rattle.std.specs.Prelude.{All, slice_get}
use Rattle.std.specs.List.{cons_option}
use Rattle.std.specs.Global.{Vec}
use Rattle.std.proofs.Math.Seq.{map-set_same}
use Rattle.std.proofs.lemmas.List.{get_or-map, length-map}
use Rattle.std.proofs.lemmas.List.Elements.{All-head, All-tail}
use Rattle.std.specs.Prelude.{option_map}
use Rattle.std.proofs.lemmas.Option.{get_or_from_slice_get, slice_get_read, slice_get-map}
use Rattle.list_core.proofs.Gets.{get_within, all_get}
use Rattle.atomic_blocks.specs.Laid.{WebId}
use Rattle.dc_talk.specs.declared.sent.Sent.{Sent}
use Rattle.mail_link.specs.Ends.{GiverView, TakerView}
use Rattle.dc_links.specs.Links.{rows_of, row_of, column_of, AreSquare, put_to, put_between, AreGivers, AreTakers}

-- ---- what is seen of an element

module _ {X Y : Type 0} (f : X → Y) (d : Y) where
  -- of the element at a place
  pub seen_at : (xs : List X) (k : ℕ) (x : X) → k < length xs → x ≡ get_or xs k x → get_or (map f xs) k d ≡ f x
  seen_at xs k x lt is = get_or-map f xs k x d lt ∙ ap f (sym is)

  -- of one that was put there
  pub seen_here : (xs : List X) (k : ℕ) (y : X) → k < length xs → get_or (map f (set xs k y)) k d ≡ f y
  seen_here [] k y lt = absurd (omega (arith, lt))
  seen_here (x ∷ xs) zero y lt = refl
  seen_here (x ∷ xs) (suc k) y lt = seen_here xs k y (omega (arith, lt))

  -- of those at other places
  pub seen_else : (xs : List X) (k j : ℕ) (y : X) → j ≢ k → get_or (map f (set xs k y)) j d ≡ get_or (map f xs) j d
  seen_else [] k j y other = refl
  seen_else (x ∷ xs) zero zero y other = absurd (other refl)
  seen_else (x ∷ xs) zero (suc j) y other = refl
  seen_else (x ∷ xs) (suc k) zero y other = refl
  seen_else (x ∷ xs) (suc k) (suc j) y other = seen_else xs k j y (λ same. other (ap suc same))

-- the numbers of two centres are two places
pub places_apart : (i j : ℕ) → 1 ≤ i → 1 ≤ j → j ≢ i → j - 1 ≢ i - 1
places_apart i j low least other = λ same. other (omega (arith, same, low, least))

-- ---- columns

-- what a column has at the place of a row is what that row has at the place of the column
pub column_at : {X : Type 0} (rows : List (List X)) (n i j : ℕ) → All (λ (row : List X). length row ≡ n) rows → j - 1 < n → i < length rows → slice_get (column_of rows j) i ≡ slice_get (get_or rows i []) (j - 1)
column_at [] n i j all low lt = absurd (omega (arith, lt))
column_at {X} (row ∷ rows) n zero j all low lt =
    let long = All-head (λ (row : List X). length row ≡ n) row rows all in
    let one = get_within row (j - 1) (omega (arith, long, low)) in
    ap (λ o. slice_get (cons_option o (column_of rows j)) 0) one.1 ∙ sym one.1
column_at {X} (row ∷ rows) n (suc i) j all low lt =
    let long = All-head (λ (row : List X). length row ≡ n) row rows all in
    let one = get_within row (j - 1) (omega (arith, long, low)) in
    ap (λ o. slice_get (cons_option o (column_of rows j)) (suc i)) one.1 ∙ column_at rows n i j (All-tail (λ (row : List X). length row ≡ n) row rows all) low (omega (arith, lt))

-- ---- rows of links

module _ (rows : List (Vec WebId)) (square : AreSquare (rows_of rows)) (k : ℕ) (row : Vec WebId) (lt : k < length rows) (is : row ≡ get_or rows k row) where
  -- there are as many links in a row as there are rows
  pub row_long : length row.items ≡ length rows
  row_long =
      let there : slice_get (rows_of rows) k ≡ Some row.items = slice_get-map (λ (row : Vec WebId). row.items) rows k ∙ ap (option_map (λ (row : Vec WebId). row.items)) (slice_get_read rows (length rows) k row refl lt is) in
      all_get (λ (row : List WebId). length row ≡ length (rows_of rows)) (rows_of rows) k row.items square there ∙ length-map rows (λ (row : Vec WebId). row.items)

  module _ (i j : ℕ) (here : i - 1 ≡ k) (link : WebId) (low : j - 1 < length rows) (at : link ≡ get_or row.items (j - 1) link) where
    -- a link by its row
    pub link_in_row : slice_get (row_of (rows_of rows) i) (j - 1) ≡ Some link
    link_in_row =
        ap (λ k. slice_get (get_or (rows_of rows) k []) (j - 1)) here
        ∙ (ap (λ (row : List WebId). slice_get row (j - 1)) (seen_at (λ (row : Vec WebId). row.items) [] rows k row lt is)
        ∙ slice_get_read row.items (length rows) (j - 1) link (sym row_long) low at)

    -- and by its column
    pub link_in_column : slice_get (column_of (rows_of rows) j) (i - 1) ≡ Some link
    link_in_column =
        let many = length-map rows (λ (row : Vec WebId). row.items) in
        column_at (rows_of rows) (length (rows_of rows)) (i - 1) j square (omega (arith, many, low)) (omega (arith, many, here, lt)) ∙ link_in_row

module _ (rows : List (Vec (GiverView Sent))) (i : ℕ) (row : Vec (GiverView Sent)) (lt : i - 1 < length rows) (is : row ≡ get_or rows (i - 1) row) where
  -- the row of a sender
  pub givers_there : row_of (rows_of rows) i ≡ row.items
  givers_there = seen_at (λ (row : Vec (GiverView Sent)). row.items) [] rows (i - 1) row lt is

  -- what was put on a link, by the end that puts
  pub put_there : (j : ℕ) (giver : GiverView Sent) → j - 1 < length row.items → giver ≡ get_or row.items (j - 1) giver → put_between (rows_of rows) i j ≡ giver.put
  put_there j giver low at = ap (λ (givers : List (GiverView Sent)). put_to givers j) givers_there ∙ seen_at (λ (giver : GiverView Sent). giver.put) [] row.items (j - 1) giver low at

-- ---- a link

module _ (links : List (List WebId)) (link : WebId) where
  -- an end that puts is of the link at its place
  pub giver_link : (i k : ℕ) (givers : List (GiverView Sent)) (giver : GiverView Sent) → AreGivers links i givers → k < length givers → giver ≡ get_or givers k giver → slice_get (row_of links i) k ≡ Some link → giver.link ≡ link
  giver_link i k givers giver are lt is at =
      sym (seen_at (λ (giver : GiverView Sent). giver.link) link givers k giver lt is)
      ∙ (ap (λ (row : List WebId). get_or row k link) are.each ∙ get_or_from_slice_get (row_of links i) k link link at)

  -- so is one that takes
  pub taker_link : (j k : ℕ) (takers : List (TakerView Sent)) (taker : TakerView Sent) → AreTakers links j takers → k < length takers → taker ≡ get_or takers k taker → slice_get (column_of links j) k ≡ Some link → taker.link ≡ link
  taker_link j k takers taker are lt is at =
      sym (seen_at (λ (taker : TakerView Sent). taker.link) link takers k taker lt is)
      ∙ (ap (λ (column : List WebId). get_or column k link) are.each ∙ get_or_from_slice_get (column_of links j) k link link at)

  -- the ends are as they were where one of them changes and stays of its link
  pub givers_stay : (i k : ℕ) (givers : List (GiverView Sent)) (giver new : GiverView Sent) → AreGivers links i givers → k < length givers → giver ≡ get_or givers k giver → giver.link ≡ link → new.link ≡ link → AreGivers links i (set givers k new)
  givers_stay i k givers giver new are lt is was now = record {
    number = length-set givers k new ∙ are.number;
    each = map-set_same (λ (giver : GiverView Sent). giver.link) givers k new giver (now ∙ (sym was ∙ ap (λ (giver : GiverView Sent). giver.link) is)) ∙ are.each;
  }

  -- so it is of those that take
  pub takers_stay : (j k : ℕ) (takers : List (TakerView Sent)) (taker new : TakerView Sent) → AreTakers links j takers → k < length takers → taker ≡ get_or takers k taker → taker.link ≡ link → new.link ≡ link → AreTakers links j (set takers k new)
  takers_stay j k takers taker new are lt is was now = record {
    number = length-set takers k new ∙ are.number;
    each = map-set_same (λ (taker : TakerView Sent). taker.link) takers k new taker (now ∙ (sym was ∙ ap (λ (taker : TakerView Sent). taker.link) is)) ∙ are.each;
  }
