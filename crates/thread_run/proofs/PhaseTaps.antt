-- The taps of a phase, opened before it and closed behind it.
use Rattle.std.proofs.Common.{◌≡◌, ◌≤◌, ◌<◌, ⊎_elim, inl, inr, ℕ, zero, suc, ◌+◌, ◌-◌, List, [], ◌∷◌, ◌++◌, map, length, length-set, take, drop, get_or, Option, Some, None, refl, sym, ap, ◌∙◌, subst, append_assoc, arith}
use Rattle.std.specs.Prelude.{All, replicate, slice_get, slice_set, slice_index_or}
use Rattle.std.specs.List.{AllZip, filter_map}
use Rattle.std.specs.Global.{Vec}
use Rattle.std.proofs.lemmas.Bool.{cases_lt}
use Rattle.std.proofs.lemmas.List.{length-map, map-append, length-replicate, map-set, get_or-map}
use Rattle.std.proofs.lemmas.List.Elements.{All-nil, All-cons, All-head, All-tail, All-weaker, filter_map-append}
use Rattle.std.proofs.lemmas.Option.{none-some, same_Some, slice_get_within, get_or_from_slice_get}
use Rattle.std.proofs.lemmas.Slice.Zip.{AllZip-long}
use Rattle.list_core.specs.Members.{In}
use Rattle.list_core.proofs.Members.{All-In, In-All}
use Rattle.list_core.proofs.Gets.{get_within, get_in_take, get_In_take, In_take_get, past_end}
use Rattle.script_core.specs.declared.taps.Show.{Show}
use Rattle.script_core.specs.declared.taps.TapState.{TapState}
use Rattle.script_core.specs.Steps.{IsCount}
use Rattle.script_core.specs.Taps.{fed_tap}
use Rattle.dc_host.proofs.Rows.{zip_more}
use Rattle.run_table.specs.Taps.{no_tap, taps_of}
use Rattle.run_sections.specs.Taps.{shows_at, tap_behind}
use Rattle.read_tap.specs.Shows.{IsFront, ShowsView, FeederView, width}
use Rattle.phase_actors.specs.Taps.{IsReader, AreReaders, HasRead, HaveRead, shows_read, AreFeeders, HaveFed, shows_kept}
use Rattle.phase_actors.proofs.Among.{zip_at, zip_then, among_there, among_past, among_grows}
use Rattle.phase_actors.proofs.Feeders.{kept_grows}
use Rattle.phase_play.specs.Casts.{HasReadRow}
use Rattle.thread_run.specs.declared.tapping.FirstReaders.{FirstReaders}
use Rattle.thread_run.specs.Taps.{row_lists, widened, firsts, rests, IsFirstOf, HasRow, IsWide, IsOpened, reader_of, AreOpened, AreOpenFor, ReadsOf, AreReadsOf, AreFrontsOf, IsClosed, HaveClosed, HasClosedNext}

-- ---- rows that get readers

-- before the first reader
pub widened_none : (rows : List (List ShowsView)) → widened rows [] ≡ rows
widened_none [] = refl
widened_none (row ∷ rows) = refl

-- one reader more
widened_more : (rows : List (List ShowsView)) (readers : List ShowsView) (reader : ShowsView) (row : List ShowsView) → length readers < length rows → row ≡ get_or (widened rows readers) (length readers) row → slice_set (widened rows readers) (length readers) (row ++ reader ∷ []) ≡ widened rows (readers ++ reader ∷ [])
widened_more [] readers reader row lt is = absurd (omega (arith, lt))
widened_more (first ∷ rows) [] reader row lt is = λ i. (is i ++ reader ∷ []) ∷ sym (widened_none rows) i
widened_more (first ∷ rows) (one ∷ readers) reader row lt is = ap (λ (l : List (List ShowsView)). (first ++ one ∷ []) ∷ l) (widened_more rows readers reader row (omega (arith, lt)) is)

-- a row of some rows has its reader
pub reader_more : (first : List (List ShowsView)) (readers : List ShowsView) (reader : ShowsView) (rows longer : List (Vec ShowsView)) (row wider : Vec ShowsView) (place : ℕ) → place ≡ length readers → place < length rows → length rows ≡ length first → row_lists rows ≡ widened first readers → row ≡ get_or rows place row → wider.items ≡ row.items ++ reader ∷ [] → longer ≡ slice_set rows place wider → row_lists longer ≡ widened first (readers ++ reader ∷ [])
reader_more first readers reader rows longer row wider place at inside long are is more set =
    let within : length readers < length first = omega (arith, at, inside, long) in
    let read : row.items ≡ get_or (widened first readers) (length readers) row.items =
    ap (λ (row : Vec ShowsView). row.items) is
    ∙ (sym (get_or-map (λ (row : Vec ShowsView). row.items) rows place row row.items inside)
    ∙ (λ i. get_or (are i) (at i) row.items)) in
    ap row_lists set
    ∙ (map-set (λ (row : Vec ShowsView). row.items) rows place wider
    ∙ ((λ i. slice_set (are i) (at i) (more i))
    ∙ widened_more first readers reader row.items within read))

-- where all rows are the same, and all readers are
pub widened_same : (count : ℕ) (row : List ShowsView) (reader : ShowsView) → widened (replicate count row) (replicate count reader) ≡ replicate count (row ++ reader ∷ [])
widened_same zero row reader = refl
widened_same (suc count) row reader = ap (λ rows. (row ++ reader ∷ []) ∷ rows) (widened_same count row reader)

-- a tap more was opened
pub opened_more : (taps : List TapState) (threads : ℕ) (feeders more : List FeederView) (rows later : List (Vec ShowsView)) (tap : TapState) (feeder : FeederView) (readers : List ShowsView) → AreOpened taps threads feeders rows → IsOpened tap feeder → readers ≡ replicate threads (reader_of feeder) → more ≡ feeders ++ feeder ∷ [] → row_lists later ≡ widened (row_lists rows) readers → AreOpened (taps ++ tap ∷ []) threads more later
opened_more taps threads feeders more rows later tap feeder readers were one same is wide = record {
  feeders_are = subst (AllZip IsOpened (taps ++ tap ∷ [])) (sym is) (zip_more IsOpened taps feeders tap feeder were.feeders_are one);
  rows_are =
      wide
      ∙ ((λ k. widened (were.rows_are k) (same k))
      ∙ (widened_same threads (map reader_of feeders) (reader_of feeder)
      ∙ ap (λ row. replicate threads row) (sym (map-append reader_of feeders (feeder ∷ [])) ∙ ap (map reader_of) (sym is))));
}

-- the first taps of n centres are wide where each of theirs is
pub wide_first_ones : (n : ℕ) (taps : List TapState) → ((i : ℕ) → IsCount n i → IsWide (taps_of taps i)) → All IsWide (take n taps)
wide_first_ones n taps each = In-All IsWide (take n taps) (λ tap there.
    let at = In_take_get n taps tap there in
    subst IsWide (get_or_from_slice_get taps at.0 tap no_tap at.2) (each (suc at.0) (omega arith, omega (arith, at.1))))

-- ---- taps that were opened

-- an element among the first ones
take_get : {X : Type 0} (xs : List X) (n place : ℕ) → place < n → slice_get (take n xs) place ≡ slice_get xs place
take_get [] zero place lt = refl
take_get [] (suc n) place lt = refl
take_get (x ∷ xs) zero place lt = absurd (omega (arith, lt))
take_get (x ∷ xs) (suc n) zero lt = refl
take_get (x ∷ xs) (suc n) (suc place) lt = take_get xs n place (omega (arith, lt))

-- no more are taken than there are
take_few : {X : Type 0} (n : ℕ) (xs : List X) → length (take n xs) ≤ length xs
take_few zero [] = omega arith
take_few zero (x ∷ xs) = omega arith
take_few (suc n) [] = omega arith
take_few (suc n) (x ∷ xs) = omega (arith, take_few n xs)

module _ (n threads : ℕ) (taps : List TapState) (feeders : List FeederView) (rows : List (Vec ShowsView)) (o : AreOpenFor n threads taps feeders rows) where
  -- the feeder of a tap was opened with it
  pub opened_at : (place : ℕ) (feeder : FeederView) → slice_get feeders place ≡ Some feeder → IsOpened (taps_of taps (suc place)) feeder
  opened_at place feeder there =
      let found = zip_at IsOpened o.those feeders place feeder o.opened.feeders_are there in
      subst (λ (tap : TapState). IsOpened tap feeder) (sym (get_or_from_slice_get taps place found.0 no_tap (⊎_elim
      (λ same. get_in_take taps n place found.0 (subst (λ taps. slice_get taps place ≡ Some found.0) same found.1))
      (λ none. absurd (none-some found.0 (subst (λ taps. slice_get taps place ≡ Some found.0) none.0 found.1)))
      o.all))) found.2

  -- no more were opened than there are
  pub opened_few : length feeders ≤ length taps
  opened_few = ⊎_elim
      (λ same. omega (arith, AllZip-long IsOpened o.those feeders o.opened.feeders_are, ap length same, take_few n taps))
      (λ none. omega (arith, AllZip-long IsOpened o.those feeders o.opened.feeders_are, ap length none.0))
      o.all

  -- a tap that was not opened has no object
  closed_empty : (place : ℕ) → length feeders ≤ place → place < n → (taps_of taps (suc place)).objects ≡ []
  closed_empty place past within = ⊎_elim
      (λ inside.
      let tap = get_within taps place inside in
      let is : taps_of taps (suc place) ≡ tap.0 = get_or_from_slice_get taps place tap.0 no_tap tap.1 in
      ⊎_elim
      (λ same.
      let there : slice_get o.those place ≡ Some tap.0 = ap (λ taps. slice_get taps place) same ∙ (take_get taps n place within ∙ tap.1) in
      absurd (omega (arith, past, slice_get_within o.those place tap.0 there, AllZip-long IsOpened o.those feeders o.opened.feeders_are)))
      (λ none. ap (λ (tap : TapState). tap.objects) is ∙ All-In (λ (tap : TapState). tap.objects ≡ []) (take n taps) tap.0 none.1 (get_In_take n taps place tap.0 within tap.1))
      o.all)
      (λ outside. ap (λ (tap : TapState). tap.objects) (past_end taps place no_tap outside))
      (cases_lt place (length taps))

  -- these are feeders of the taps
  pub feeders_open : AreFeeders n taps feeders
  feeders_open = record { each = λ place feeder there. (opened_at place feeder there).objects; none = closed_empty }

  -- readers as they were opened are readers of the taps
  row_open : AreReaders taps (map reader_of feeders)
  row_open = record {
    few = omega (arith, opened_few, length-map feeders reader_of);
    each = λ place reader there.
        let from = of_feeder feeders place reader there in
        let is : IsOpened (taps_of taps (suc place)) from.0 = opened_at place from.0 from.1 in
        subst (IsReader (taps_of taps (suc place))) (sym from.2) (record { wide = is.wide; some = omega (arith, ap length is.shows) });
  }
    where
      of_feeder : (feeders : List FeederView) (place : ℕ) (reader : ShowsView) → slice_get (map reader_of feeders) place ≡ Some reader → (feeder : FeederView) × (slice_get feeders place ≡ Some feeder) × (reader ≡ reader_of feeder)
      of_feeder [] place reader there = absurd (none-some reader there)
      of_feeder (feeder ∷ feeders) zero reader there = (feeder, refl, sym (same_Some (reader_of feeder) reader there))
      of_feeder (feeder ∷ feeders) (suc place) reader there = of_feeder feeders place reader there

  -- so are those of each row
  pub rows_open : All (λ (row : Vec ShowsView). AreReaders taps row.items) rows
  rows_open = go rows threads o.opened.rows_are
    where
      go : (rows : List (Vec ShowsView)) (count : ℕ) → row_lists rows ≡ replicate count (map reader_of feeders) → All (λ (row : Vec ShowsView). AreReaders taps row.items) rows
      go [] count are = All-nil (λ (row : Vec ShowsView). AreReaders taps row.items)
      go (row ∷ rows) zero are = absurd (omega (arith, ap length are))
      go (row ∷ rows) (suc count) are =
          let first : row.items ≡ map reader_of feeders = same_Some row.items (map reader_of feeders) (ap (λ rows. slice_get rows 0) are) in
          All-cons (λ (row : Vec ShowsView). AreReaders taps row.items) row rows (subst (AreReaders taps) (sym first) row_open) (go rows count (ap (drop 1) are))

  -- there is a row for each thread
  pub rows_many : length rows ≡ threads
  rows_many = sym (length-map rows (λ (row : Vec ShowsView). row.items)) ∙ (ap length o.opened.rows_are ∙ length-replicate threads (map reader_of feeders))

  -- each feeder keeps what its tap shows
  pub kept_one : (centre : ℕ) → shows_kept taps feeders centre ≡ shows_at (taps_of taps) centre
  kept_one zero = refl
  kept_one (suc place) = ⊎_elim
      (λ within.
      let feeder = get_within feeders place within in
      among_there taps (λ (feeder : FeederView). feeder.shows) feeders place feeder.0 feeder.1 ∙ (opened_at place feeder.0 feeder.1).shows)
      (λ past. among_past taps (λ (feeder : FeederView). feeder.shows) feeders place past)
      (cases_lt place (length feeders))

  pub kept_first : shows_kept taps feeders ≡ shows_at (taps_of taps)
  kept_first = λ k centre. kept_one centre k

  -- behind the phase each reader is still one of its feeder's tap
  pub rows_behind : (later : List FeederView) (seen : List (Vec ShowsView)) → HaveFed feeders later → AllZip HasReadRow rows seen → All (AreReadsOf later) (row_lists seen)
  rows_behind later seen fed read = go rows seen threads o.opened.rows_are read
    where
      one : (feeders later : List FeederView) (row : List ShowsView) → HaveFed feeders later → HaveRead (map reader_of feeders) row → AllZip (λ (reader : ShowsView) (feeder : FeederView). ReadsOf feeder reader) row later
      one [] [] [] fed read = tt
      one [] [] (r ∷ row) fed read = absurd read
      one [] (g ∷ later) row fed read = absurd fed
      one (f ∷ feeders) [] row fed read = absurd fed
      one (f ∷ feeders) (g ∷ later) [] fed read = absurd read
      one (f ∷ feeders) (g ∷ later) (r ∷ row) fed read = (read.0.0 ∙ sym fed.0.table, one feeders later row fed.1 read.1)

      go : (rows seen : List (Vec ShowsView)) (count : ℕ) → row_lists rows ≡ replicate count (map reader_of feeders) → AllZip HasReadRow rows seen → All (AreReadsOf later) (row_lists seen)
      go [] [] count are read = All-nil (AreReadsOf later)
      go [] (s ∷ seen) count are read = absurd read
      go (row ∷ rows) [] count are read = absurd read
      go (row ∷ rows) (s ∷ seen) zero are read = absurd (omega (arith, ap length are))
      go (row ∷ rows) (s ∷ seen) (suc count) are read =
          let first : row.items ≡ map reader_of feeders = same_Some row.items (map reader_of feeders) (ap (λ rows. slice_get rows 0) are) in
          All-cons (AreReadsOf later) s.items (row_lists seen) (one feeders later s.items fed (subst (λ old. HaveRead old s.items) first read.0)) (go rows seen count (ap (drop 1) are) read.1)

-- ---- rows that are cut

-- the first readers of rows with one more
pub first_more : (vs : List (Vec ShowsView)) (v : Vec ShowsView) (c d : FirstReaders) → IsFirstOf (row_lists vs) c → HasRow c v.items d → IsFirstOf (row_lists (vs ++ v ∷ [])) d
first_more vs v c d is has =
    subst (λ (rows : List (List ShowsView)). IsFirstOf rows d) (sym (map-append (λ (row : Vec ShowsView). row.items) vs (v ∷ []))) (record {
      first = has.first ∙ (ap (λ (l : List ShowsView). l ++ firsts (v.items ∷ [])) is.first ∙ sym (filter_map-append (λ (row : List ShowsView). slice_get row 0) (row_lists vs) (v.items ∷ [])));
      rest = has.rest ∙ (ap (λ (l : List (List ShowsView)). l ++ drop 1 v.items ∷ []) is.rest ∙ sym (map-append (λ (row : List ShowsView). drop 1 row) (row_lists vs) (v.items ∷ [])));
    })

-- ---- taps that were closed

-- a list is its first element and the others
pub first_off : {X : Type 0} (xs ys : List X) (x : X) → 0 < length xs → x ≡ slice_index_or xs 0 x → ys ≡ take 0 xs ++ drop (0 + 1) xs → xs ≡ x ∷ ys
first_off [] ys x some is rest = absurd (omega (arith, some))
first_off (y ∷ xs) ys x some is rest = λ k. sym is k ∷ sym rest k

module _ (feeder : FeederView) (feeders : List FeederView) where
  -- the first ones are of the first feeder
  pub first_reads : (rows : List (List ShowsView)) → All (AreReadsOf (feeder ∷ feeders)) rows → All (ReadsOf feeder) (firsts rows)
  first_reads [] all = All-nil (ReadsOf feeder)
  first_reads ([] ∷ rows) all = absurd (All-head (AreReadsOf (feeder ∷ feeders)) [] rows all)
  first_reads ((reader ∷ row) ∷ rows) all = All-cons (ReadsOf feeder) reader (firsts rows) (All-head (AreReadsOf (feeder ∷ feeders)) (reader ∷ row) rows all).0 (first_reads rows (All-tail (AreReadsOf (feeder ∷ feeders)) (reader ∷ row) rows all))

  -- and the others of the others
  pub rest_reads : (rows : List (List ShowsView)) → All (AreReadsOf (feeder ∷ feeders)) rows → All (AreReadsOf feeders) (rests rows)
  rest_reads [] all = All-nil (AreReadsOf feeders)
  rest_reads ([] ∷ rows) all = absurd (All-head (AreReadsOf (feeder ∷ feeders)) [] rows all)
  rest_reads ((reader ∷ row) ∷ rows) all = All-cons (AreReadsOf feeders) row (rests rows) (All-head (AreReadsOf (feeder ∷ feeders)) (reader ∷ row) rows all).1 (rest_reads rows (All-tail (AreReadsOf (feeder ∷ feeders)) (reader ∷ row) rows all))

  -- what the first ones and the others have seen, all of them have seen
  join_fronts : (rows : List (List ShowsView)) → All (AreReadsOf (feeder ∷ feeders)) rows → All (λ (reader : ShowsView). IsFront reader.shows feeder.shows) (firsts rows) → All (AreFrontsOf feeders) (rests rows) → All (AreFrontsOf (feeder ∷ feeders)) rows
  join_fronts [] all first rest = All-nil (AreFrontsOf (feeder ∷ feeders))
  join_fronts ([] ∷ rows) all first rest = absurd (All-head (AreReadsOf (feeder ∷ feeders)) [] rows all)
  join_fronts ((reader ∷ row) ∷ rows) all first rest =
      let Front : ShowsView → Type 0 = λ (reader : ShowsView). IsFront reader.shows feeder.shows in
      All-cons (AreFrontsOf (feeder ∷ feeders)) (reader ∷ row) rows
      (All-head Front reader (firsts rows) first, All-head (AreFrontsOf feeders) row (rests rows) rest)
      (join_fronts rows (All-tail (AreReadsOf (feeder ∷ feeders)) (reader ∷ row) rows all) (All-tail Front reader (firsts rows) first) (All-tail (AreFrontsOf feeders) row (rests rows) rest))

-- where no feeder is left a tap stays
pub next_stays : (tap : TapState) (feeders : List FeederView) (rows : List (List ShowsView)) → feeders ≡ [] → All (AreReadsOf feeders) rows → HasClosedNext tap feeders rows tap feeders rows
next_stays tap feeders rows none reads = record {
  reads = reads;
  closed = λ taps all closed.
      subst (λ (feeders : List FeederView). HaveClosed (tap ∷ taps) feeders rows (tap ∷ all)) (sym none)
      (refl, subst (λ (feeders : List FeederView). HaveClosed taps feeders rows all) none closed);
}

-- where one is left it was closed
pub next_closed : (tap : TapState) (feeders : List FeederView) (rows : List (List ShowsView)) (later : TapState) (feeder : FeederView) (left : List FeederView) (readers : List ShowsView) (rest : List (List ShowsView)) → feeders ≡ feeder ∷ left → readers ≡ firsts rows → rest ≡ rests rows → All (AreReadsOf feeders) rows → IsClosed tap feeder readers later → HasClosedNext tap feeders rows later left rest
next_closed tap feeders rows later feeder left readers rest are first others reads one = record {
  reads = subst (All (AreReadsOf left)) (sym others) (rest_reads feeder left rows (subst (λ (feeders : List FeederView). All (AreReadsOf feeders) rows) are reads));
  closed = λ taps all closed.
      subst (λ (feeders : List FeederView). HaveClosed (tap ∷ taps) feeders rows (later ∷ all)) (sym are)
      (subst (λ (readers : List ShowsView). IsClosed tap feeder readers later) first one, subst (λ (rows : List (List ShowsView)). HaveClosed taps left rows all) others closed);
}

-- each reader has seen the first shows of its feeder
pub closed_fronts : (taps : List TapState) (feeders : List FeederView) (rows : List (List ShowsView)) (all : List TapState) → length feeders ≤ length taps → All (AreReadsOf feeders) rows → HaveClosed taps feeders rows all → All (AreFrontsOf feeders) rows
closed_fronts taps [] rows all few reads closed = All-weaker (AreReadsOf []) (AreFrontsOf []) none rows reads
  where
    none : (row : List ShowsView) → AllZip (λ (reader : ShowsView) (feeder : FeederView). ReadsOf feeder reader) row [] → AllZip (λ (reader : ShowsView) (feeder : FeederView). IsFront reader.shows feeder.shows) row []
    none [] zip = tt
    none (reader ∷ row) zip = absurd zip
closed_fronts [] (feeder ∷ feeders) rows all few reads closed = absurd (omega (arith, few))
closed_fronts (tap ∷ taps) (feeder ∷ feeders) rows [] few reads closed = absurd closed
closed_fronts (tap ∷ taps) (feeder ∷ feeders) rows (later ∷ all) few reads closed = join_fronts feeder feeders rows reads closed.0.fronts (closed_fronts taps feeders (rests rows) all (omega (arith, few)) (rest_reads feeder feeders rows reads) closed.1)

-- a tap behind shows has the last one
behind_at : (tap : TapState) (shows : List Show) (place : ℕ) (show : Show) → suc place ≡ length shows → slice_get shows place ≡ Some show → tap_behind tap shows ≡ fed_tap (Some show) tap
behind_at tap [] place show long there = absurd (none-some show there)
behind_at tap (first ∷ []) zero show long there = ap (λ (show : Show). fed_tap (Some show) tap) (same_Some first show there)
behind_at tap (first ∷ []) (suc place) show long there = absurd (none-some show there)
behind_at tap (first ∷ next ∷ shows) zero show long there = absurd (omega (arith, long))
behind_at tap (first ∷ next ∷ shows) (suc place) show long there = behind_at (fed_tap (Some first) tap) (next ∷ shows) place show (omega (arith, long)) there

-- each tap is behind the shows of its feeder
pub closed_taps : (taps : List TapState) (feeders : List FeederView) (rows : List (List ShowsView)) (all : List TapState) → length feeders ≤ length taps → HaveClosed taps feeders rows all → (place : ℕ) → taps_of all (suc place) ≡ tap_behind (taps_of taps (suc place)) (shows_kept taps feeders (suc place))
closed_taps [] [] rows [] few closed place = refl
closed_taps [] [] rows (later ∷ all) few closed place = absurd closed
closed_taps [] (feeder ∷ feeders) rows all few closed place = absurd (omega (arith, few))
closed_taps (tap ∷ taps) feeders rows [] few closed place = absurd closed
closed_taps (tap ∷ taps) [] rows (later ∷ all) few closed zero = closed.0
closed_taps (tap ∷ taps) [] rows (later ∷ all) few closed (suc place) = closed_taps taps [] rows all (omega arith) closed.1 place
closed_taps (tap ∷ taps) (feeder ∷ feeders) rows (later ∷ all) few closed zero =
    let one : IsClosed tap feeder (firsts rows) later = closed.0 in
    let some : 0 < length feeder.shows = omega (arith, slice_get_within feeder.shows (length feeder.shows - 1) later.show one.last) in
    let place : suc (length feeder.shows - 1) ≡ length feeder.shows = omega (arith, some) in
    let same : later ≡ fed_tap (Some later.show) tap = λ k. record { objects = one.objects k; show = later.show } in
    same ∙ sym (behind_at tap feeder.shows (length feeder.shows - 1) later.show place one.last)
closed_taps (tap ∷ taps) (feeder ∷ feeders) rows (later ∷ all) few closed (suc place) = closed_taps taps feeders (rests rows) all (omega (arith, few)) closed.1 place

-- ---- what was seen

-- what a row of readers has seen are first shows of the feeders, be it an empty one
pub row_fronts : (taps : List TapState) (feeders : List FeederView) (rows : List (Vec ShowsView)) (row : List ShowsView) → ((centre : ℕ) → IsFront (shows_at (taps_of taps) centre) (shows_kept taps feeders centre)) → All (AreFrontsOf feeders) (row_lists rows) → In row ([] ∷ row_lists rows) → (centre : ℕ) → IsFront (shows_read taps row centre) (shows_kept taps feeders centre)
row_fronts taps feeders rows row first all (inl none) centre = subst (λ row. IsFront (shows_read taps row centre) (shows_kept taps feeders centre)) (sym none) (empty centre)
  where
    empty : (centre : ℕ) → IsFront (shows_read taps [] centre) (shows_kept taps feeders centre)
    empty zero = first zero
    empty (suc place) = first (suc place)
row_fronts taps feeders rows row first all (inr there) centre =
    among_grows (λ (reader : ShowsView). reader.shows) (λ (feeder : FeederView). feeder.shows) taps row feeders
    (All-In (AreFrontsOf feeders) (row_lists rows) row all there) centre
