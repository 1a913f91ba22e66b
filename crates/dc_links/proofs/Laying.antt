-- Rows of links and their ends, as they grow.
use Rattle.std.proofs.Common.{◌≡◌, ◌≢◌, ◌≤◌, ◌<◌, ◌⊎◌, inl, inr, ℕ, zero, suc, ◌+◌, ◌-◌, List, [], ◌∷◌, ◌++◌, map, length, get_or, set, length-set, refl, sym, ap, ◌∙◌, subst, arith}
use Rattle.std.specs.Prelude.{All, slice_get, replicate}
use Rattle.std.specs.List.{cons_option}
use Rattle.std.specs.Global.{Vec}
use Rattle.std.proofs.lemmas.Bool.{cases_eq}
use Rattle.std.proofs.lemmas.List.{append-nil, length-map, map-append, length-replicate, replicate_more}
use Rattle.std.proofs.lemmas.List.Elements.{All-nil, All-head, All-tail, All-push, All-get_or, filter_map-append}
use Rattle.std.proofs.lemmas.Option.{slice_get_past}
use Rattle.list_core.proofs.Gets.{get_within, get_seam}
use Rattle.atomic_blocks.specs.Laid.{WebId}
use Rattle.dc_talk.specs.declared.sent.Sent.{Sent}
use Rattle.mail_link.specs.Ends.{GiverView, TakerView}
use Rattle.dc_links.specs.Links.{rows_of, row_of, column_of, AreSquare, put_between, taken_between, AreGiverRows, AreTakerRows}
use Rattle.dc_links.specs.Laying.{AreUnput, AreUntaken, giver_links, taker_links, ends, HasLink, LaysRow, Lays}
use Rattle.dc_links.proofs.Places.{seen_at, seen_here, seen_else}

-- ---- lists

-- a list with one more element has what it had at each other place
get_else : {X : Type 0} (xs : List X) (x : X) (k : ℕ) → k ≢ length xs → slice_get (xs ++ x ∷ []) k ≡ slice_get xs k
get_else [] x zero other = absurd (other refl)
get_else [] x (suc k) other = refl
get_else (y ∷ xs) x zero other = refl
get_else (y ∷ xs) x (suc k) other = get_else xs x k (λ same. other (ap suc same))

-- an empty row at each place
empty_row : {X : Type 0} (n k : ℕ) → get_or {A = List X} (replicate n []) k [] ≡ []
empty_row zero k = refl
empty_row (suc n) zero = refl
empty_row (suc n) (suc k) = empty_row n k

-- one empty row more
pub rows_more : (rows : List (Vec (TakerView Sent))) (row : Vec (TakerView Sent)) (n : ℕ) → rows_of rows ≡ replicate n [] → row.items ≡ [] → rows_of (rows ++ row ∷ []) ≡ replicate (n + 1) []
rows_more rows row n are is =
    map-append (λ (row : Vec (TakerView Sent)). row.items) rows (row ∷ []) ∙ ((λ i. are i ++ is i ∷ []) ∙ replicate_more n [])

-- ---- a row

-- no link
pub laid_none : (takers : List (List (TakerView Sent))) → LaysRow [] [] takers takers
laid_none takers = record {
  givers_of = refl;
  put = All-nil (λ (giver : GiverView Sent). giver.put ≡ []);
  number = refl;
  takers_of = λ j low. sym (append-nil (taker_links (row_of takers j)));
  taken = λ j are. are;
}

module _ (row row' : List WebId) (givers givers' : List (GiverView Sent)) (old : List (List (TakerView Sent))) (rows : List (Vec (TakerView Sent))) (k : ℕ) (own own' : Vec (TakerView Sent)) (long : length row ≡ k) (lt : k < length rows) (is : own ≡ get_or rows k own) (has : HasLink (ends row givers own.items) (ends row' givers' own'.items)) (before : LaysRow row givers old (rows_of rows)) where
  -- the row of the receiver of the link, and the others
  row_here : (j : ℕ) → j - 1 ≡ k → row_of (rows_of (set rows k own')) j ≡ row_of (rows_of rows) j ++ has.taker ∷ []
  row_here j here =
      ap (λ i. get_or (rows_of (set rows k own')) i []) here
      ∙ (seen_here (λ (row : Vec (TakerView Sent)). row.items) [] rows k own' lt
      ∙ (has.takers
      ∙ ap (λ (takers : List (TakerView Sent)). takers ++ has.taker ∷ []) (sym (seen_at (λ (row : Vec (TakerView Sent)). row.items) [] rows k own lt is) ∙ ap (λ i. get_or (rows_of rows) i []) (sym here))))

  -- the others are as they were
  row_else : (j : ℕ) → j - 1 ≢ k → row_of (rows_of (set rows k own')) j ≡ row_of (rows_of rows) j
  row_else j else = seen_else (λ (row : Vec (TakerView Sent)). row.items) [] rows k (j - 1) own' else

  -- the links of the ends of each receiver
  takers_each : (j : ℕ) → 1 ≤ j → (j - 1 ≡ k) ⊎ (j - 1 ≢ k) → taker_links (row_of (rows_of (set rows k own')) j) ≡ taker_links (row_of old j) ++ column_of (row' ∷ []) j
  takers_each j low (inl here) =
      let none : column_of (row ∷ []) j ≡ [] = ap (λ o. cons_option o []) (slice_get_past row (j - 1) (omega (arith, here, long))) in
      let one : column_of (row' ∷ []) j ≡ has.link ∷ [] = ap (λ (row : List WebId). column_of (row ∷ []) j) has.row ∙ ap (λ o. cons_option o []) (ap (slice_get (row ++ has.link ∷ [])) (here ∙ sym long) ∙ get_seam row has.link []) in
      ap taker_links (row_here j here)
      ∙ (map-append (λ (taker : TakerView Sent). taker.link) (row_of (rows_of rows) j) (has.taker ∷ [])
      ∙ (λ i. (before.takers_of j low ∙ (ap (λ more. taker_links (row_of old j) ++ more) none ∙ append-nil (taker_links (row_of old j)))) i ++ (ap (λ (link : WebId). link ∷ []) has.of.1 ∙ sym one) i))
  takers_each j low (inr else) =
      let same : column_of (row' ∷ []) j ≡ column_of (row ∷ []) j = ap (λ (row : List WebId). column_of (row ∷ []) j) has.row ∙ ap (λ o. cons_option o []) (get_else row has.link (j - 1) (λ same. else (same ∙ long))) in
      ap taker_links (row_else j else) ∙ (before.takers_of j low ∙ ap (λ more. taker_links (row_of old j) ++ more) (sym same))

  -- nothing was taken by them
  taken_each : (j : ℕ) → AreUntaken (row_of old j) → (j - 1 ≡ k) ⊎ (j - 1 ≢ k) → AreUntaken (row_of (rows_of (set rows k own')) j)
  taken_each j are (inl here) = subst AreUntaken (sym (row_here j here)) (All-push (λ (taker : TakerView Sent). taker.taken ≡ []) (row_of (rows_of rows) j) has.taker (before.taken j are) has.unused.1)
  taken_each j are (inr else) = subst AreUntaken (sym (row_else j else)) (before.taken j are)

  -- one link more
  pub laid_more : LaysRow row' givers' old (rows_of (set rows k own'))
  laid_more = record {
    givers_of =
        ap giver_links has.givers
        ∙ (map-append (λ (giver : GiverView Sent). giver.link) givers (has.giver ∷ []) ∙ ((λ i. before.givers_of i ++ has.of.0 i ∷ []) ∙ sym has.row));
    put = subst AreUnput (sym has.givers) (All-push (λ (giver : GiverView Sent). giver.put ≡ []) givers has.giver before.put has.unused.0);
    number = length-map (set rows k own') (λ (row : Vec (TakerView Sent)). row.items) ∙ (length-set rows k own' ∙ (sym (length-map rows (λ (row : Vec (TakerView Sent)). row.items)) ∙ before.number));
    takers_of = λ j low. takers_each j low (cases_eq (j - 1) k);
    taken = λ j are. taken_each j are (cases_eq (j - 1) k);
  }

-- ---- all rows

-- no rows
pub lays_none : (n : ℕ) → Lays n [] [] (replicate n [])
lays_none n = record {
  square = All-nil (λ (row : List WebId). length row ≡ n);
  givers_of = refl;
  put = All-nil AreUnput;
  number = length-replicate n [];
  takers_of = λ j low. ap taker_links (empty_row n (j - 1));
  taken = λ j. subst AreUntaken (sym (empty_row n (j - 1))) (All-nil (λ (taker : TakerView Sent). taker.taken ≡ []));
}

-- one row more
pub lays_more : (n : ℕ) (links : List (List WebId)) (givers : List (List (GiverView Sent))) (old new : List (List (TakerView Sent))) (row : List WebId) (own : List (GiverView Sent)) → length row ≡ n → LaysRow row own old new → Lays n links givers old → Lays n (links ++ row ∷ []) (givers ++ own ∷ []) new
lays_more n links givers old new row own long laid before = record {
  square = All-push (λ (row : List WebId). length row ≡ n) links row before.square long;
  givers_of = map-append giver_links givers (own ∷ []) ∙ (λ i. before.givers_of i ++ laid.givers_of i ∷ []);
  put = All-push AreUnput givers own before.put laid.put;
  number = laid.number ∙ before.number;
  takers_of = λ j low. laid.takers_of j low ∙ ((λ i. before.takers_of j low i ++ column_of (row ∷ []) j) ∙ sym (filter_map-append (λ (row : List WebId). slice_get row (j - 1)) links (row ∷ [])));
  taken = λ j. laid.taken j (before.taken j);
}

-- ---- all links, with their ends

-- a column is as long as there are rows
column_long : (rows : List (List WebId)) (n j : ℕ) → All (λ (row : List WebId). length row ≡ n) rows → j - 1 < n → length (column_of rows j) ≡ length rows
column_long [] n j all low = refl
column_long (row ∷ rows) n j all low =
    let long = All-head (λ (row : List WebId). length row ≡ n) row rows all in
    let one = get_within row (j - 1) (omega (arith, long, low)) in
    ap (λ o. length (cons_option o (column_of rows j))) one.1 ∙ ap suc (column_long rows n j (All-tail (λ (row : List WebId). length row ≡ n) row rows all) low)

-- nothing was put by an end at a place
unput : (givers : List (GiverView Sent)) (k : ℕ) → AreUnput givers → get_or (map (λ (giver : GiverView Sent). giver.put) givers) k [] ≡ []
unput [] k are = refl
unput (giver ∷ givers) zero are = All-head (λ (giver : GiverView Sent). giver.put ≡ []) giver givers are
unput (giver ∷ givers) (suc k) are = unput givers k (All-tail (λ (giver : GiverView Sent). giver.put ≡ []) giver givers are)

-- nor taken
untaken : (takers : List (TakerView Sent)) (k : ℕ) → AreUntaken takers → get_or (map (λ (taker : TakerView Sent). taker.taken) takers) k [] ≡ []
untaken [] k are = refl
untaken (taker ∷ takers) zero are = All-head (λ (taker : TakerView Sent). taker.taken ≡ []) taker takers are
untaken (taker ∷ takers) (suc k) are = untaken takers k (All-tail (λ (taker : TakerView Sent). taker.taken ≡ []) taker takers are)

-- nor by one of a row
unput_row : (rows : List (List (GiverView Sent))) (k : ℕ) → All AreUnput rows → AreUnput (get_or rows k [])
unput_row [] k are = All-nil (λ (giver : GiverView Sent). giver.put ≡ [])
unput_row (row ∷ rows) zero are = All-head AreUnput row rows are
unput_row (row ∷ rows) (suc k) are = unput_row rows k (All-tail AreUnput row rows are)

module _ (n : ℕ) (links : List (List WebId)) (givers : List (List (GiverView Sent))) (takers : List (List (TakerView Sent))) (many : length links ≡ n) (lays : Lays n links givers takers) where
  -- there are as many links in each row as there are rows
  pub laid_square : AreSquare links
  laid_square = subst (λ n. All (λ (row : List WebId). length row ≡ n) links) (sym many) lays.square

  -- the ends that put are of their links
  pub laid_givers : AreGiverRows links givers
  laid_givers = record {
    number = sym (length-map givers giver_links) ∙ ap length lays.givers_of;
    each = λ i among.
        let its : giver_links (row_of givers i) ≡ row_of links i = row_links givers (i - 1) ∙ ap (λ (rows : List (List WebId)). row_of rows i) lays.givers_of in
        let wide = All-get_or (λ (row : List WebId). length row ≡ length links) links (i - 1) [] (omega (arith, among.0, among.1)) laid_square in
        record { number = sym (length-map (row_of givers i) (λ (giver : GiverView Sent). giver.link)) ∙ (ap length its ∙ wide); each = its };
  }
    where
      row_links : (rows : List (List (GiverView Sent))) (k : ℕ) → giver_links (get_or rows k []) ≡ get_or (map giver_links rows) k []
      row_links [] k = refl
      row_links (row ∷ rows) zero = refl
      row_links (row ∷ rows) (suc k) = row_links rows k

  -- so are those that take
  pub laid_takers : AreTakerRows links takers
  laid_takers = record {
    number = lays.number ∙ sym many;
    each = λ j among.
        let its = lays.takers_of j among.0 in
        let low : j - 1 < length links = omega (arith, among.0, among.1) in
        record { number = sym (length-map (row_of takers j) (λ (taker : TakerView Sent). taker.link)) ∙ (ap length its ∙ column_long links (length links) j laid_square low); each = its };
  }

  -- nothing was put on any link
  pub laid_put : (from to : ℕ) → put_between givers from to ≡ []
  laid_put from to = unput (row_of givers from) (to - 1) (unput_row givers (from - 1) lays.put)

  -- nor taken from one
  pub laid_taken : (from to : ℕ) → taken_between takers from to ≡ []
  laid_taken from to = untaken (row_of takers to) (from - 1) (lays.taken to)
