-- What the reads of a client stand on whose values its log tells, in order, and as it is computed along the log.
use Rattle.std.proofs.Common.{◌≡◌, ℕ, suc, ◌+◌, ◌-◌, ◌≤◌, ◌<◌, ◌⊎◌, inl, inr, ⊎_elim, cond, List, [], ◌∷◌, ◌++◌, length, take, map, Bool, true, false, Some, None, refl, sym, ap, ◌∙◌, subst, arith, get_or, add-one}
use Rattle.std.specs.Prelude.{Option, filter, flat_map, slice_get}
use Rattle.std.specs.List.{range_with_len, AllByRecursion, cons_option}
use Rattle.std.specs.List.Sorted.{IsStrictlySortedBy}
use Rattle.std.specs.Ordering.{ordering_reverse}
use Rattle.std.specs.declared.cmp.Ordering.{Ordering}
use Rattle.std.specs.declared.cmp.Ordering.TheVariants.{Less, Equal, Greater}
use Rattle.std.proofs.lemmas.List.{map-id, map-append}
use Rattle.std.proofs.lemmas.Option.{none-some, slice_get_read}
use Rattle.std.proofs.lemmas.List.Elements.{filter-append, filter_map-append}
use Rattle.std.proofs.lemmas.List.FromFn.{map-range_with_len_more, get_or-map-range_with_len}
use Rattle.list_core.specs.Members.{In}
use Rattle.list_core.proofs.Images.{flat_map-agree}
use Rattle.list_core.proofs.Moments.{take_one_more}
use Rattle.list_core.proofs.Ranges.{In_from_range}
use Rattle.ids_core.specs.declared.ids.Dot.{Dot}
use Rattle.ids_core.specs.declared.object.ObjectId.{ObjectId}
use Rattle.ids_core.specs.Orders.{dot_cmp, dot_cmp_total, dot_cmp_same}
use Rattle.ids_core.proofs.Ascending.{one_ascending}
use Rattle.vv_core.specs.Vectors.{at, centres}
use Rattle.dc_talk.specs.declared.calls.Call.TheVariants.{Read}
use Rattle.dc_talk.specs.declared.calls.Outcome.TheVariants.{Got}
use Rattle.dc_talk.specs.declared.log.Deed.{Deed}
use Rattle.dc_talk.specs.declared.log.Deed.TheVariants.{Did}
use Rattle.dc_talk.specs.declared.log.Note.{Note}
use Rattle.dc_talk.specs.Entries.{Entry}
use Rattle.dc_talk.specs.Logs.{Logged}
use Rattle.dc_talk.specs.Clients.{Client}
use Rattle.dc_talk.specs.Rule.{after}
use Rattle.run_book.specs.Setups.{Setup}
use Rattle.run_book.specs.declared.book.Book.{Book}
use Rattle.run_book.specs.declared.replay.Replay.{Replay}
use Rattle.run_book.specs.Parts.{trail_of, log_of, notes_of, IsClient}
use Rattle.run_book.specs.Fit.{FitsWith}
use Rattle.run_book.specs.Graphs.{own_dots, basis, basis_at, client_at}
use Rattle.run_book.specs.Replay.{Shows, IsInRange}
use Rattle.run_book.specs.Basis.{dot_stamped, stamped_dots, stamped_cover}
use Rattle.run_book.specs.ReadValues.{read_in, read_of, object_read}
use Rattle.run_book.specs.ReadBases.{in_place, in_order, note_tells, stamped_lists, stamped_at, basis_by, basis_told}
use Rattle.run_book.proofs.Bases.{shows_basis}
use Rattle.run_book.proofs.Growth.{wide_after}
use Rattle.run_book.proofs.Replays.{shows_more}
use Rattle.run_book.proofs.Sessions.{after_more}

-- ---- dots in order

-- what follows from a fact that holds of each of dots holds of each
all_weaker : (P Q : Dot → Type 0) (dots : List Dot) → ((d : Dot) → P d → Q d) → AllByRecursion P dots → AllByRecursion Q dots
all_weaker P Q [] weaker all = tt
all_weaker P Q (d ∷ dots) weaker all = (weaker d all.0, all_weaker P Q dots weaker all.1)

-- what holds of a dot and of each of others holds of each of these with it
all_in_place : (P : Dot → Type 0) (dot : Dot) (dots : List Dot) → P dot → AllByRecursion P dots → AllByRecursion P (in_place dot dots)
all_in_place P dot [] here all = (here, tt)
all_in_place P dot (first ∷ rest) here all = go (dot_cmp dot first) (all_in_place P dot rest here all.1)
  where
    go : (o : Ordering) → AllByRecursion P (in_place dot rest) → AllByRecursion P (elim o [ Less ↦ dot ∷ first ∷ rest | Equal ↦ first ∷ rest | Greater ↦ first ∷ in_place dot rest ])
    go Less later = (here, all)
    go Equal later = all
    go Greater later = (all.0, later)

-- dots in strict order stay so
ascends_in_place : (dot : Dot) (dots : List Dot) → IsStrictlySortedBy dot_cmp dots → IsStrictlySortedBy dot_cmp (in_place dot dots)
unfolding IsStrictlySortedBy
ascends_in_place dot [] ascends = (tt, tt)
ascends_in_place dot (first ∷ rest) ascends = go (dot_cmp dot first) refl (ascends_in_place dot rest ascends.1)
  where
    go : (o : Ordering) → dot_cmp dot first ≡ o → IsStrictlySortedBy dot_cmp (in_place dot rest) → IsStrictlySortedBy dot_cmp (elim o [ Less ↦ dot ∷ first ∷ rest | Equal ↦ first ∷ rest | Greater ↦ first ∷ in_place dot rest ])
    go Less is later = ((is, all_weaker (λ y. dot_cmp first y ≡ Less) (λ y. dot_cmp dot y ≡ Less) rest (λ y below. dot_cmp_total.trans dot first y is below) ascends.0), ascends)
    go Equal is later = ascends
    go Greater is later = (all_in_place (λ y. dot_cmp first y ≡ Less) dot rest (dot_cmp_total.antisymm first dot ∙ ap ordering_reverse is) ascends.0, later)

-- the dot is among them
In_in_place : (dot : Dot) (dots : List Dot) → In dot (in_place dot dots)
In_in_place dot [] = inl refl
In_in_place dot (first ∷ rest) = go (dot_cmp dot first) refl (In_in_place dot rest)
  where
    go : (o : Ordering) → dot_cmp dot first ≡ o → In dot (in_place dot rest) → In dot (elim o [ Less ↦ dot ∷ first ∷ rest | Equal ↦ first ∷ rest | Greater ↦ first ∷ in_place dot rest ])
    go Less is later = inl refl
    go Equal is later = inl (dot_cmp_same dot first is)
    go Greater is later = inr later

-- so are the others
In_to_place : (dot : Dot) (dots : List Dot) (d : Dot) → In d dots → In d (in_place dot dots)
In_to_place dot [] d i = absurd i
In_to_place dot (first ∷ rest) d i = go (dot_cmp dot first) (In_to_place dot rest d)
  where
    go : (o : Ordering) → (In d rest → In d (in_place dot rest)) → In d (elim o [ Less ↦ dot ∷ first ∷ rest | Equal ↦ first ∷ rest | Greater ↦ first ∷ in_place dot rest ])
    go Less later = inr i
    go Equal later = i
    go Greater later = ⊎_elim (λ same. inl same) (λ j. inr (later j)) i

-- and no more
In_from_place : (dot : Dot) (dots : List Dot) (d : Dot) → In d (in_place dot dots) → (d ≡ dot) ⊎ In d dots
In_from_place dot [] d i = i
In_from_place dot (first ∷ rest) d i = go (dot_cmp dot first) (In_from_place dot rest d) i
  where
    go : (o : Ordering) → (In d (in_place dot rest) → (d ≡ dot) ⊎ In d rest) → In d (elim o [ Less ↦ dot ∷ first ∷ rest | Equal ↦ first ∷ rest | Greater ↦ first ∷ in_place dot rest ]) → (d ≡ dot) ⊎ In d (first ∷ rest)
    go Less later j = j
    go Equal later j = inr j
    go Greater later j = ⊎_elim (λ same. inr (inl same)) (λ k. ⊎_elim (λ same. inl same) (λ l. inr (inr l)) (later k)) j

-- dots in order ascend
order_ascends : (dots : List Dot) → IsStrictlySortedBy dot_cmp (in_order dots)
unfolding IsStrictlySortedBy
order_ascends [] = tt
order_ascends (dot ∷ dots) = ascends_in_place dot (in_order dots) (order_ascends dots)

-- they are the same dots
In_order : (dots : List Dot) (d : Dot) → In d dots → In d (in_order dots)
In_order [] d i = absurd i
In_order (dot ∷ dots) d i = ⊎_elim (λ same. subst (λ d. In d (in_place dot (in_order dots))) (sym same) (In_in_place dot (in_order dots))) (λ j. In_to_place dot (in_order dots) d (In_order dots d j)) i

In_from_order : (dots : List Dot) (d : Dot) → In d (in_order dots) → In d dots
In_from_order [] d i = absurd i
In_from_order (dot ∷ dots) d i = ⊎_elim (λ same. inl same) (λ j. inr (In_from_order dots d j)) (In_from_place dot (in_order dots) d i)

-- the dots of a list in strict order are its dots in order
pub ordered_is : (dots once : List Dot) → IsStrictlySortedBy dot_cmp once → ((d : Dot) → (In d once → In d dots) × (In d dots → In d once)) → once ≡ in_order dots
ordered_is dots once ascends same =
    one_ascending dot_cmp_total (λ d. d) once (in_order dots)
    (subst (IsStrictlySortedBy dot_cmp) (sym (map-id once)) ascends)
    (subst (IsStrictlySortedBy dot_cmp) (sym (map-id (in_order dots))) (order_ascends dots))
    (λ d i. In_order dots d ((same d).0 i))
    (λ d i. (same d).1 (In_from_order dots d i))

-- ---- what is covered

-- those that the centres stamped are what a vector covers
stamped_same : (b : Book) (vector : List ℕ) → length vector ≡ b.n → flat_map (λ e. take (at vector e) (stamped_at (stamped_lists b) e)) (centres (length vector)) ≡ stamped_cover b vector
stamped_same b vector wide = flat_map-agree _ _ (centres (length vector)) (λ e i. ap (take (at vector e)) (same e (In_from_range 1 (length vector) e i)))
  where
    same : (e : ℕ) → (1 ≤ e) × (e < 1 + length vector) → stamped_at (stamped_lists b) e ≡ stamped_dots (trail_of b e)
    same e range = get_or-map-range_with_len (λ e. stamped_dots (trail_of b e)) 1 b.n (e - 1) e [] (omega (arith, range.0, range.1, wide)) (omega (arith, range.0))

-- a replay stands on what its client stands on
pub stamped_basis : (b : Book) (setup : Setup) (stamped : List (List Dot)) (r : Replay) (s : Client) → FitsWith b setup → Shows r s → length s.vector ≡ b.n → stamped ≡ stamped_lists b → basis_by stamped r ≡ basis b s
stamped_basis b setup stamped r s fit shows wide is =
    ap (λ lists. basis_by lists r) is
    ∙ ap (λ dots. dots ++ own_dots r.client r.own) (stamped_same b r.vector (ap length shows.vector ∙ wide))
    ∙ shows_basis b setup fit r s shows wide

-- ---- what a centre stamped

-- the dots that a centre stamped in its first entries, with the entry that comes next
pub stamped_more : (trail : List Entry) (index : ℕ) (entry : Entry) (dots more : List Dot) (found : Option Dot) → index < length trail → entry ≡ get_or trail index entry → dots ≡ stamped_dots (take index trail) → found ≡ dot_stamped entry.ask entry.say → more ≡ dots ++ cons_option found [] → more ≡ stamped_dots (take (index + 1) trail)
stamped_more trail index entry dots more found lt is before stamped grown =
    let there : slice_get trail index ≡ Some entry = slice_get_read trail (length trail) index entry refl lt is in
    let longer : take (index + 1) trail ≡ take index trail ++ entry ∷ [] = rw add-one (take_one_more trail index entry there) in
    grown
    ∙ ap (λ front. front ++ cons_option found []) before
    ∙ ap (λ found. stamped_dots (take index trail) ++ cons_option found []) stamped
    ∙ sym (filter_map-append (λ (e : Entry). dot_stamped e.ask e.say) (take index trail) (entry ∷ []))
    ∙ ap stamped_dots (sym longer)

-- ---- where a value is told

-- a read that got a value leaves what its client stands on
read_stands : (b : Book) (s : Client) (deed : Deed) (o : ObjectId) → read_in deed ≡ Some o → basis b (after s deed) ≡ basis b s
read_stands b s (Did (Read read) (Got value)) o is = refl
read_stands b s deed o is = absurd (none-some o is)

-- so behind it, where its value is told, the client stands as it did there
pub told_stands : (b : Book) (setup : Setup) (a m : ℕ) (o : ObjectId) → object_read b a m ≡ Some o → basis_at b setup a (m + 1) ≡ basis_at b setup a m
told_stands b setup a m o is = go (slice_get (notes_of b a) m) refl is
  where
    go : (found : Option Note) → slice_get (notes_of b a) m ≡ found → read_of found ≡ Some o → basis_at b setup a (m + 1) ≡ basis_at b setup a m
    go None there is = absurd (none-some o is)
    go (Some note) there is =
        let next : m + 1 ≡ suc m = omega arith in
        ap (basis_at b setup a) next
        ∙ ap (basis b) (after_more b.n (a - 1) setup.capacity m (notes_of b a) note there)
        ∙ read_stands b (client_at b setup a m) note.deed o is

-- ---- along a log

-- a range with one number more
range_next : (first count next : ℕ) → next ≡ first + count → range_with_len first (count + 1) ≡ range_with_len first count ++ next ∷ []
range_next first count next is =
    sym (map-id (range_with_len first (count + 1)))
    ∙ map-range_with_len_more (λ n. n) first count next (sym is)
    ∙ ap (λ l. l ++ next ∷ []) (map-id (range_with_len first count))

-- those of the first notes of an actor that tell the value of a read
abbrev pub reads_before : Book → ℕ → ℕ → List ℕ
reads_before b a many = filter (λ m. note_tells (slice_get (notes_of b a) m)) (range_with_len 0 many)

-- the bases of the first notes of a log, and the replay of its client there
pub record Tells (b : Book) (stamped : List (List Dot)) (log : Logged) (bases : List (List Dot)) (r : Replay) (m : ℕ) : Type 0 where
  pub shows : (a : ℕ) (setup : Setup) → FitsWith b setup → IsClient setup a → log ≡ log_of b a → Shows r (client_at b setup a m)
  pub are : (a : ℕ) (setup : Setup) → FitsWith b setup → IsClient setup a → log ≡ log_of b a → stamped ≡ stamped_lists b → bases ≡ map (λ m. in_order (basis_at b setup a m)) (reads_before b a m)

-- before the first note
pub tells_none : (b : Book) (stamped : List (List Dot)) (log : Logged) (bases : List (List Dot)) (r : Replay) → bases ≡ [] → ((a : ℕ) (setup : Setup) → FitsWith b setup → IsClient setup a → log ≡ log_of b a → Shows r (client_at b setup a 0)) → Tells b stamped log bases r 0
tells_none b stamped log bases r none shows = record { shows = shows; are = λ a setup fit client is lists. none }

-- with one note more
pub tells_more : (b : Book) (stamped : List (List Dot)) (log : Logged) (bases more : List (List Dot)) (old new : Replay) (m : ℕ) (note : Note) → slice_get log.notes m ≡ Some note → Tells b stamped log bases old m → ((setup : Setup) (s : Client) → FitsWith b setup → Shows old s → length s.vector ≡ b.n → stamped ≡ stamped_lists b → more ≡ bases ++ basis_told b s note.deed) → ((s : Client) → Shows old s → IsInRange s → Shows new (after s note.deed)) → Tells b stamped log more new (m + 1)
tells_more b stamped log bases more old new m note there before pushed goes_on = record { shows = shows; are = are }
  where
    here : (a : ℕ) → log ≡ log_of b a → slice_get (notes_of b a) m ≡ Some note
    here a is = ap (λ (l : Logged). slice_get l.notes m) (sym is) ∙ there

    shows : (a : ℕ) (setup : Setup) → FitsWith b setup → IsClient setup a → log ≡ log_of b a → Shows new (client_at b setup a (m + 1))
    shows a setup fit client is = shows_more b.n (a - 1) setup.capacity m (notes_of b a) note old new (fit.follows a client) (here a is) goes_on (before.shows a setup fit client is)

    are : (a : ℕ) (setup : Setup) → FitsWith b setup → IsClient setup a → log ≡ log_of b a → stamped ≡ stamped_lists b → more ≡ map (λ m. in_order (basis_at b setup a m)) (reads_before b a (m + 1))
    are a setup fit client is lists =
        let tell : ℕ → List Dot = λ m. in_order (basis_at b setup a m) in
        let test : ℕ → Bool = λ m. note_tells (slice_get (notes_of b a) m) in
        pushed setup (client_at b setup a m) fit (before.shows a setup fit client is) (wide_after b.n (a - 1) setup.capacity (take m (notes_of b a))) lists
        ∙ ap (λ l. l ++ basis_told b (client_at b setup a m) note.deed) (before.are a setup fit client is lists)
        ∙ ap (λ l. map tell (reads_before b a m) ++ l) (told a setup is)
        ∙ sym (map-append tell (reads_before b a m) (filter test (m ∷ [])))
        ∙ ap (map tell) (sym (filter-append test (range_with_len 0 m) (m ∷ [])))
        ∙ ap (λ l. map tell (filter test l)) (sym (range_next 0 m m (omega arith)))
      where
        told : (a : ℕ) (setup : Setup) → log ≡ log_of b a → basis_told b (client_at b setup a m) note.deed ≡ map (λ m. in_order (basis_at b setup a m)) (filter (λ m. note_tells (slice_get (notes_of b a) m)) (m ∷ []))
        told a setup is = ap (λ found. cond (note_tells found) (in_order (basis_at b setup a m) ∷ []) []) (sym (here a is)) ∙ go (note_tells (slice_get (notes_of b a) m))
          where
            go : (some : Bool) → cond some (in_order (basis_at b setup a m) ∷ []) [] ≡ map (λ m. in_order (basis_at b setup a m)) (cond some (m ∷ []) [])
            go true = refl
            go false = refl
