-- Links as they are taken out of use.
use Rattle.std.proofs.Common.{◌≡◌, ◌≢◌, ◌<◌, ◌⊎◌, inl, inr, ℕ, zero, suc, ◌+◌, ◌-◌, List, [], ◌∷◌, ◌++◌, map, length, drop, get_or, set, length-set, Some, refl, sym, ap, ◌∙◌, subst, arith}
use Rattle.std.specs.Prelude.{slice_get, remove}
use Rattle.std.specs.Global.{Vec}
use Rattle.std.proofs.lemmas.Bool.{cases_eq}
use Rattle.std.proofs.lemmas.List.{append-nil, length-map, length-append, drop-map, get_or-drop}
use Rattle.std.proofs.lemmas.Option.{slice_get_read}
use Rattle.atomic_blocks.specs.Laid.{WebId}
use Rattle.dc_talk.specs.declared.sent.Sent.{Sent}
use Rattle.mail_link.specs.Ends.{GiverView, TakerView}
use Rattle.dc_links.specs.Links.{IsMore, rows_of, row_of, column_of, IsAmong, AreSquare, put_to, put_between, taken_from, taken_between, AreGiverRows, AreTakerRows}
use Rattle.dc_links.specs.Laying.{giver_links, taker_links}
use Rattle.dc_links.specs.Closing.{ClosesRow, ClosesRows}
use Rattle.dc_links.proofs.Places.{seen_at, seen_here, seen_else, column_at, row_long}

-- ---- lists

-- what is left without its first element
first_removed : {X : Type 0} (xs : List X) (k : ℕ) → remove (drop k xs) 0 ≡ drop (suc k) xs
first_removed [] zero = refl
first_removed [] (suc k) = refl
first_removed (x ∷ xs) zero = refl
first_removed (x ∷ xs) (suc k) = first_removed xs k

-- the same where that one is dropped
first_dropped : {X : Type 0} (xs : List X) (k : ℕ) → drop 1 (drop k xs) ≡ drop (suc k) xs
first_dropped [] zero = refl
first_dropped [] (suc k) = refl
first_dropped (x ∷ xs) zero = refl
first_dropped (x ∷ xs) (suc k) = first_dropped xs k

-- its first element
first_left : {X : Type 0} (xs : List X) (k : ℕ) → slice_get (drop k xs) 0 ≡ slice_get xs k
first_left [] zero = refl
first_left [] (suc k) = refl
first_left (x ∷ xs) zero = refl
first_left (x ∷ xs) (suc k) = first_left xs k

-- the first element of what is left, taken off
module _ {X : Type 0} (xs ys : List X) (k : ℕ) (left : ys ≡ drop k xs) where
  -- is the next one of all
  pub next_is : (x : X) → x ≡ get_or ys 0 x → x ≡ get_or xs k x
  next_is x is =
      let place : k + 0 ≡ k = omega arith in
      is ∙ (ap (λ l. get_or l 0 x) left ∙ (get_or-drop k xs 0 x ∙ ap (λ i. get_or xs i x) place))

  -- and what is left then is one shorter
  pub next_left : (zs : List X) → zs ≡ remove ys 0 → zs ≡ drop (k + 1) xs
  next_left zs is =
      let next : suc k ≡ k + 1 = omega arith in
      is ∙ (ap (λ l. remove l 0) left ∙ (first_removed xs k ∙ ap (λ i. drop i xs) next))

-- a list that has grown and is no longer is as it was
pub same_all : (old new : List Sent) → IsMore old new → length old ≡ length new → new ≡ old
same_all old new more same = none more.0 (let long = length-append old more.0 in let is = ap length more.1 in omega (arith, long, is, same)) more.1
  where
    none : (rest : List Sent) → length rest ≡ 0 → new ≡ old ++ rest → new ≡ old
    none [] empty is = is ∙ append-nil old
    none (x ∷ rest) empty is = absurd (omega (arith, empty))

-- ---- a row

module _ (row : List WebId) (givers : List (GiverView Sent)) (old : List (List (TakerView Sent))) (rows : List (Vec (TakerView Sent))) (k : ℕ) (own : Vec (TakerView Sent)) (lt : k < length rows) (is : own ≡ get_or rows k own) (before : ClosesRow k givers old (rows_of rows)) where
  -- the row of the next receiver is as it was
  own_row : (j : ℕ) → j - 1 ≡ k → k < j → row_of old j ≡ own.items
  own_row j here high = sym (before.same j high) ∙ (ap (λ i. get_or (rows_of rows) i []) here ∙ seen_at (λ (row : Vec (TakerView Sent)). row.items) [] rows k own lt is)

  -- its first end is of the next link
  pub next_taker : (link : WebId) → ((j : ℕ) → IsAmong (length row) j → slice_get (taker_links (row_of old j)) 0 ≡ slice_get row (j - 1)) → k < length row → link ≡ get_or row k link → slice_get (taker_links own.items) 0 ≡ Some link
  next_taker link are low at =
      let here : k + 1 - 1 ≡ k = omega arith in
      ap (λ (takers : List (TakerView Sent)). slice_get (taker_links takers) 0) (sym (own_row (k + 1) here (omega arith)))
      ∙ (are (k + 1) (omega arith, omega (arith, low)) ∙ (ap (slice_get row) here ∙ slice_get_read row (length row) k link refl low at))

  -- one link more
  module _ (own' : Vec (TakerView Sent)) (giver : GiverView Sent) (low : k < length givers) (at : giver ≡ get_or givers k giver) (rest : own'.items ≡ drop 1 own.items) (more : IsMore (taken_from own.items 1) giver.put) where
    -- the row of its receiver is without its first end
    row_now : (j : ℕ) → j - 1 ≡ k → k < j → row_of (rows_of (set rows k own')) j ≡ drop 1 (row_of old j)
    row_now j here high =
        ap (λ i. get_or (rows_of (set rows k own')) i []) here
        ∙ (seen_here (λ (row : Vec (TakerView Sent)). row.items) [] rows k own' lt ∙ (rest ∙ ap (λ (takers : List (TakerView Sent)). drop 1 takers) (sym (own_row j here high))))

    -- the others are as they were
    row_still : (j : ℕ) → j - 1 ≢ k → row_of (rows_of (set rows k own')) j ≡ row_of (rows_of rows) j
    row_still j else = seen_else (λ (row : Vec (TakerView Sent)). row.items) [] rows k (j - 1) own' else

    -- what is known of each link so far
    more_each : (j : ℕ) → IsAmong (k + 1) j → (j - 1 ≡ k) ⊎ (j - 1 ≢ k) → IsMore (taken_from (row_of old j) 1) (put_to givers j)
    more_each j among (inl here) =
        let put : put_to givers j ≡ giver.put = ap (λ i. get_or (map (λ (giver : GiverView Sent). giver.put) givers) i []) here ∙ seen_at (λ (giver : GiverView Sent). giver.put) [] givers k giver low at in
        let takers : row_of old j ≡ own.items = own_row j here (omega (arith, here, among.0)) in
        subst (λ (put : List Sent). IsMore (taken_from (row_of old j) 1) put) (sym put) (subst (λ (takers : List (TakerView Sent)). IsMore (taken_from takers 1) giver.put) (sym takers) more)
    more_each j among (inr else) = before.more j (among.0, omega (arith, among.0, among.1, else))

    -- and of the row of each receiver
    rest_each : (j : ℕ) → IsAmong (k + 1) j → (j - 1 ≡ k) ⊎ (j - 1 ≢ k) → row_of (rows_of (set rows k own')) j ≡ drop 1 (row_of old j)
    rest_each j among (inl here) = row_now j here (omega (arith, here, among.0))
    rest_each j among (inr else) = row_still j else ∙ before.rest j (among.0, omega (arith, among.0, among.1, else))

    -- all together
    pub closes_more : ClosesRow (k + 1) givers old (rows_of (set rows k own'))
    closes_more = record {
      number = length-map (set rows k own') (λ (row : Vec (TakerView Sent)). row.items) ∙ (length-set rows k own' ∙ (sym (length-map rows (λ (row : Vec (TakerView Sent)). row.items)) ∙ before.number));
      more = λ j among. more_each j among (cases_eq (j - 1) k);
      rest = λ j among. rest_each j among (cases_eq (j - 1) k);
      same = λ j high. row_still j (λ same. omega (arith, same, high)) ∙ before.same j (omega (arith, high));
    }

-- ---- all rows

-- each row of links has a row of ends that put
pub row_low : (rows : List (Vec WebId)) (givers : List (Vec (GiverView Sent))) (k : ℕ) → AreGiverRows (rows_of rows) (rows_of givers) → k < length rows → k < length givers
row_low rows givers k give lt =
    let many = length-map rows (λ (row : Vec WebId). row.items) in
    let own = length-map givers (λ (row : Vec (GiverView Sent)). row.items) in
    let number = give.number in
    omega (arith, lt, many, own, number)

module _ (rows : List (Vec WebId)) (givers : List (Vec (GiverView Sent))) (takers mid : List (List (TakerView Sent))) (k : ℕ) (square : AreSquare (rows_of rows)) (are : AreTakerRows (rows_of rows) takers) (row : Vec WebId) (lt : k < length rows) (is : row ≡ get_or rows k row) (before : ClosesRows (length rows) k (rows_of givers) takers mid) where
  -- there are as many rows of ends that take as links in the next row
  pub row_number : length mid ≡ length row.items
  row_number = before.number ∙ (are.number ∙ (length-map rows (λ (row : Vec WebId). row.items) ∙ sym (row_long rows square k row lt is)))

  -- the first end of each is of the link in the next row
  pub row_takers : (j : ℕ) → IsAmong (length row.items) j → slice_get (taker_links (row_of mid j)) 0 ≡ slice_get row.items (j - 1)
  row_takers j among =
      let long = row_long rows square k row lt is in
      let many = length-map rows (λ (row : Vec WebId). row.items) in
      ap (λ (takers : List (TakerView Sent)). slice_get (taker_links takers) 0) (before.rest j (among.0, omega (arith, among.1, long)))
      ∙ (ap (λ (links : List WebId). slice_get links 0) (sym (drop-map (λ (taker : TakerView Sent). taker.link) k (row_of takers j)))
      ∙ (ap (λ (links : List WebId). slice_get (drop k links) 0) (are.each j (among.0, omega (arith, among.1, long, many))).each
      ∙ (first_left (column_of (rows_of rows) j) k
      ∙ (column_at (rows_of rows) (length (rows_of rows)) k j square (omega (arith, among.0, among.1, long, many)) (omega (arith, lt, many))
      ∙ ap (λ (row : List WebId). slice_get row (j - 1)) (seen_at (λ (row : Vec WebId). row.items) [] rows k row lt is)))))

  module _ (own : Vec (GiverView Sent)) (low : k < length givers) (at : own ≡ get_or givers k own) where
    -- the ends that put are of these links too
    pub row_givers : AreGiverRows (rows_of rows) (rows_of givers) → giver_links own.items ≡ row.items
    row_givers give =
        let here : k + 1 - 1 ≡ k = omega arith in
        let many = length-map rows (λ (row : Vec WebId). row.items) in
        ap giver_links (sym (seen_at (λ (row : Vec (GiverView Sent)). row.items) [] givers k own low at) ∙ ap (λ i. get_or (rows_of givers) i []) (sym here))
        ∙ ((give.each (k + 1) (omega arith, omega (arith, lt, many))).each
        ∙ (ap (λ i. get_or (rows_of rows) i []) here ∙ seen_at (λ (row : Vec WebId). row.items) [] rows k row lt is))

    module _ (new : List (List (TakerView Sent))) (one : ClosesRow (length row.items) own.items mid new) where
      -- what is known of each link of the rows so far
      row_more : (i j : ℕ) → IsAmong (k + 1) i → IsAmong (length rows) j → (i - 1 ≡ k) ⊎ (i - 1 ≢ k) → IsMore (taken_between takers i j) (put_between (rows_of givers) i j)
      row_more i j among wide (inl here) =
          let long = row_long rows square k row lt is in
          let put : row_of (rows_of givers) i ≡ own.items = ap (λ i. get_or (rows_of givers) i []) here ∙ seen_at (λ (row : Vec (GiverView Sent)). row.items) [] givers k own low at in
          let place : k + 0 ≡ i - 1 = omega (arith, here) in
          let taken : taken_from (row_of mid j) 1 ≡ taken_between takers i j =
          ap (λ (takers : List (TakerView Sent)). taken_from takers 1) (before.rest j wide)
          ∙ (ap (λ (all : List (List Sent)). get_or all 0 []) (sym (drop-map (λ (taker : TakerView Sent). taker.taken) k (row_of takers j)))
          ∙ (get_or-drop k (map (λ (taker : TakerView Sent). taker.taken) (row_of takers j)) 0 []
          ∙ ap (λ i. get_or (map (λ (taker : TakerView Sent). taker.taken) (row_of takers j)) i []) place)) in
          subst (λ (taken : List Sent). IsMore taken (put_between (rows_of givers) i j)) taken
          (subst (λ (row : List (GiverView Sent)). IsMore (taken_from (row_of mid j) 1) (put_to row j)) (sym put) (one.more j (wide.0, omega (arith, wide.1, long))))
      row_more i j among wide (inr else) = before.more i j (among.0, omega (arith, among.0, among.1, else)) wide

      -- one row more
      pub rows_close : ClosesRows (length rows) (k + 1) (rows_of givers) takers new
      rows_close =
          let long = row_long rows square k row lt is in
          let next : suc k ≡ k + 1 = omega arith in
          record {
            number = one.number ∙ before.number;
            more = λ i j among wide. row_more i j among wide (cases_eq (i - 1) k);
            rest = λ j wide.
                one.rest j (wide.0, omega (arith, wide.1, long))
                ∙ (ap (λ (takers : List (TakerView Sent)). drop 1 takers) (before.rest j wide) ∙ (first_dropped (row_of takers j) k ∙ ap (λ i. drop i (row_of takers j)) next));
          }
