-- Rows of passes: widened by the passes of each host, and cut into columns again at the end.
use Rattle.std.proofs.Common.{◌≡◌, ◌<◌, ℕ, zero, suc, ◌+◌, List, [], ◌∷◌, ◌++◌, map, length, drop, get_or, Option, Some, refl, sym, ap, ◌∙◌, subst, arith}
use Rattle.std.specs.Prelude.{All, slice_get, slice_set, remove}
use Rattle.std.specs.List.{AllZip, cons_option, range_with_len}
use Rattle.std.specs.Global.{Vec}
use Rattle.std.proofs.lemmas.List.{length-map, map-append, map-set, get_or-map}
use Rattle.std.proofs.lemmas.List.FromFn.{map-range_with_len_more, length-map-range_with_len}
use Rattle.std.proofs.lemmas.List.Elements.{All-nil, All-cons, All-map, All-push, filter_map-append}
use Rattle.std.proofs.lemmas.Option.{none-some, same_Some}
use Rattle.list_core.proofs.Gets.{all_get}
use Rattle.host_lock.specs.Hosts.{IsOf, fresh, fresh_passes, InOrder}
use Rattle.dc_host.specs.declared.columns.Column.{Column}
use Rattle.dc_host.specs.declared.hosts.Opened.{Opened}
use Rattle.dc_door.specs.Centres.{CentreTrail, KeptCentre, seen_of, all_seen}
use Rattle.dc_host.specs.HostDoors.{CentreHost, CentrePass, bare, ArePasses}
use Rattle.dc_host.specs.Hosts.{AreFor, rows_of, IsHostOf, new_row, new_rows, bare_rows, column, widened, tails, IsColumnOf, HasRow, AreOpened, HasHost, MayClose, IsClosed, AreClosed}

-- ---- columns

-- what is seen of rows with one more
rows_more : (vs : List (Vec CentrePass)) (v : Vec CentrePass) → rows_of (vs ++ v ∷ []) ≡ rows_of vs ++ v.items ∷ []
rows_more vs v = map-append (λ (x : Vec CentrePass). x.items) vs (v ∷ [])

-- the first column of rows with one more
pub column_more : (vs : List (Vec CentrePass)) (v : Vec CentrePass) (c d : Column) → IsColumnOf (rows_of vs) c → HasRow c v.items d → IsColumnOf (rows_of (vs ++ v ∷ [])) d
column_more vs v c d is has =
    subst (λ (l : List (List CentrePass)). IsColumnOf l d) (sym (rows_more vs v)) (record {
      first = has.first ∙ (ap (λ (l : List CentrePass). l ++ column 0 (v.items ∷ [])) is.first ∙ sym (filter_map-append (λ (row : List CentrePass). slice_get row 0) (rows_of vs) (v.items ∷ [])));
      rest = has.rest ∙ (ap (λ (l : List (List CentrePass)). l ++ drop 1 v.items ∷ []) is.rest ∙ sym (map-append (λ (row : List CentrePass). drop 1 row) (rows_of vs) (v.items ∷ [])));
    })

-- a row without its first pass has the others one place before
after_first : (row : List CentrePass) (i : ℕ) → slice_get (drop 1 row) i ≡ slice_get row (suc i)
after_first [] i = refl
after_first (p ∷ row) i = refl

-- so have the columns
column_tails : (rows : List (List CentrePass)) (i : ℕ) → column i (tails rows) ≡ column (suc i) rows
column_tails [] i = refl
column_tails (row ∷ rows) i = λ j. cons_option (after_first row i j) (column_tails rows i j)

-- ---- each caller has its pass of one host more

-- one caller more has none yet
pub empty_more : (rows longer : List (Vec CentrePass)) (row : Vec CentrePass) (n : ℕ) → rows_of rows ≡ new_rows [] 1 n → longer ≡ rows ++ row ∷ [] → row.items ≡ [] → rows_of longer ≡ new_rows [] 1 (n + 1)
empty_more rows longer row n are more none =
    ap rows_of more ∙ (rows_more rows row ∙ ((λ i. are i ++ none i ∷ []) ∙ sym (map-range_with_len_more (new_row []) 1 n (n + 1) (omega arith))))

-- a column without a pass
pub widened_none : (rows : List (List CentrePass)) → widened rows [] ≡ rows
widened_none [] = refl
widened_none (row ∷ rows) = refl

-- one pass more
widened_more : (rows : List (List CentrePass)) (passes : List CentrePass) (pass : CentrePass) (row : List CentrePass) → length passes < length rows → row ≡ get_or (widened rows passes) (length passes) row → slice_set (widened rows passes) (length passes) (row ++ pass ∷ []) ≡ widened rows (passes ++ pass ∷ [])
widened_more [] passes pass row lt is = absurd (omega (arith, lt))
widened_more (first ∷ rows) [] pass row lt is = λ i. (is i ++ pass ∷ []) ∷ sym (widened_none rows) i
widened_more (first ∷ rows) (one ∷ passes) pass row lt is = ap (λ (l : List (List CentrePass)). (first ++ one ∷ []) ∷ l) (widened_more rows passes pass row (omega (arith, lt)) is)

-- a row of some rows has its pass
pub pass_more : (first : List (List CentrePass)) (passes : List CentrePass) (pass : CentrePass) (rows longer : List (Vec CentrePass)) (row wider : Vec CentrePass) (place : ℕ) → place ≡ length passes → place < length rows → length rows ≡ length first → rows_of rows ≡ widened first passes → row ≡ get_or rows place row → wider.items ≡ row.items ++ pass ∷ [] → longer ≡ slice_set rows place wider → rows_of longer ≡ widened first (passes ++ pass ∷ [])
pass_more first passes pass rows longer row wider place at inside long are is more set =
    let within : length passes < length first = omega (arith, at, inside, long) in
    let read : row.items ≡ get_or (widened first passes) (length passes) row.items =
    ap (λ (row : Vec CentrePass). row.items) is
    ∙ (sym (get_or-map (λ (row : Vec CentrePass). row.items) rows place row row.items inside)
    ∙ (λ i. get_or (are i) (at i) row.items)) in
    ap rows_of set
    ∙ (map-set (λ (row : Vec CentrePass). row.items) rows place wider
    ∙ ((λ i. slice_set (are i) (at i) (more i))
    ∙ widened_more first passes pass row.items within read))

-- the new passes of a host, by their numbers
fresh_all : (h : CentreHost) (n : ℕ) → fresh_passes h n ≡ map (fresh h) (range_with_len 1 n)
fresh_all h zero = refl
fresh_all h (suc n) =
    let more : map (fresh h) (range_with_len 1 (n + 1)) ≡ map (fresh h) (range_with_len 1 n) ++ fresh h (suc n) ∷ [] = map-range_with_len_more (fresh h) 1 n (suc n) (omega arith) in
    let next : n + 1 ≡ suc n = omega arith in
    ap (λ (l : List CentrePass). l ++ fresh h (suc n) ∷ []) (fresh_all h n) ∙ (sym more ∙ ap (λ k. map (fresh h) (range_with_len 1 k)) next)

-- the new rows with the new passes of a host more
rows_wider : (hosts : List CentreHost) (h : CentreHost) (first n : ℕ) → widened (new_rows hosts first n) (map (fresh h) (range_with_len first n)) ≡ new_rows (hosts ++ h ∷ []) first n
rows_wider hosts h first zero = refl
rows_wider hosts h first (suc n) = λ i. sym (map-append (λ (host : CentreHost). fresh host first) hosts (h ∷ [])) i ∷ rows_wider hosts h (first + 1) n i

-- ---- hosts are opened one by one

module _ {X Y : Type 0} (R : X → Y → Type 0) where
  -- one of both more
  pub zip_more : (xs : List X) (ys : List Y) (x : X) (y : Y) → AllZip R xs ys → R x y → AllZip R (xs ++ x ∷ []) (ys ++ y ∷ [])
  zip_more [] [] x y z r = (r, tt)
  zip_more [] (b ∷ ys) x y z r = absurd z
  zip_more (a ∷ xs) [] x y z r = absurd z
  zip_more (a ∷ xs) (b ∷ ys) x y z r = (z.0, zip_more xs ys x y z.1 r)

-- one host more
pub opened_more : (n : ℕ) (kept : List KeptCentre) (one : KeptCentre) (o p : Opened) (h : CentreHost) (ps : List CentrePass) → AreOpened n (all_seen kept) o → IsHostOf (seen_of one) h → h.callers ≡ n → ps ≡ fresh_passes h n → HasHost o h ps p → AreOpened n (all_seen (kept ++ one ∷ [])) p
opened_more n kept one o p h ps are is count new has =
    subst (λ (centres : List CentreTrail). AreOpened n centres p) (sym (map-append seen_of kept (one ∷ []))) (record {
      hosts = subst (AllZip IsHostOf (all_seen kept ++ seen_of one ∷ [])) (sym has.hosts) (zip_more IsHostOf (all_seen kept) o.hosts.items (seen_of one) h are.hosts is);
      callers_of = subst (AreFor n) (sym has.hosts) (All-push (λ (host : CentreHost). host.callers ≡ n) o.hosts.items h are.callers_of count);
      rows = has.rows ∙ ((λ i. widened (are.rows i) ((new ∙ fresh_all h n) i)) ∙ (rows_wider o.hosts.items h 1 n ∙ sym (ap (λ (hosts : List CentreHost). new_rows hosts 1 n) has.hosts)));
    })

-- so many new passes of it as there are rows
pub passes_for : (n : ℕ) (centres : List CentreTrail) (o : Opened) (h : CentreHost) (ps : List CentrePass) → AreOpened n centres o → ps ≡ fresh_passes h n → length ps ≡ length o.rows.items
passes_for n centres o h ps are new =
    let of_host : length ps ≡ n = ap (λ (l : List CentrePass). length l) (new ∙ fresh_all h n) ∙ length-map-range_with_len (fresh h) 1 n in
    let of_rows : length (rows_of o.rows.items) ≡ n = ap (λ (l : List (List CentrePass)). length l) are.rows ∙ length-map-range_with_len (new_row o.hosts.items) 1 n in
    of_host ∙ (sym of_rows ∙ length-map o.rows.items (λ (row : Vec CentrePass). row.items))

-- ---- the passes of a caller

-- the row of a caller has one pass of each host, with the caller's number
pub are_dealt : (hosts : List CentreHost) (caller : ℕ) (row : List CentrePass) → row ≡ new_row hosts caller → ArePasses hosts caller row
are_dealt hosts caller row is = subst (ArePasses hosts caller) (sym is) (record { each = of_hosts hosts; numbered = All-map (λ (p : CentrePass). p.number ≡ caller) (λ (h : CentreHost). fresh h caller) hosts (each_numbered hosts) })
  where
    of_hosts : (hosts : List CentreHost) → AllZip IsOf hosts (new_row hosts caller)
    of_hosts [] = tt
    of_hosts (h ∷ hosts) = ((refl, refl, refl), of_hosts hosts)

    each_numbered : (hosts : List CentreHost) → All (λ (h : CentreHost). caller ≡ caller) hosts
    each_numbered [] = All-nil (λ (h : CentreHost). caller ≡ caller)
    each_numbered (h ∷ hosts) = All-cons (λ (h : CentreHost). caller ≡ caller) h hosts refl (each_numbered hosts)

-- nothing was done with the passes of a new row
pub bare_new : (hosts : List CentreHost) (caller : ℕ) → map bare (new_row hosts caller) ≡ new_row hosts caller
bare_new [] caller = refl
bare_new (h ∷ hosts) caller = ap (λ (row : List CentrePass). fresh h caller ∷ row) (bare_new hosts caller)

-- ---- passes are sorted by host

-- a pass that was one of this host before any call
was_fresh : (h : CentreHost) (p : CentrePass) (k : ℕ) → bare p ≡ fresh h k → IsOf h p × (p.number ≡ k)
was_fresh h p k was = ((ap (λ (x : CentrePass). x.table) was, ap (λ (x : CentrePass). x.settings) was, ap (λ (x : CentrePass). x.opening) was), ap (λ (x : CentrePass). x.number) was)

-- the pass of a host in a row
in_row : (hosts : List CentreHost) (row : List CentrePass) (k i : ℕ) (h : CentreHost) → map bare row ≡ new_row hosts k → slice_get hosts i ≡ Some h → (p : CentrePass) × (slice_get row i ≡ Some p) × (bare p ≡ fresh h k)
in_row [] row k i h are at = absurd (none-some h at)
in_row (g ∷ hosts) [] k i h are at = absurd (none-some (fresh g k) (ap (λ (l : List CentrePass). slice_get l 0) are))
in_row (g ∷ hosts) (p ∷ row) k zero h are at = (p, refl, same_Some (bare p) (fresh g k) (ap (λ (l : List CentrePass). slice_get l 0) are) ∙ ap (λ (x : CentreHost). fresh x k) (same_Some g h at))
in_row (g ∷ hosts) (p ∷ row) k (suc i) h are at = in_row hosts row k i h (ap (drop 1) are) at

-- a host finds all its passes in its column, in order
in_column : (hosts : List CentreHost) (rows : List (List CentrePass)) (k n i : ℕ) (h : CentreHost) → bare_rows rows ≡ new_rows hosts k n → slice_get hosts i ≡ Some h → InOrder h k (column i rows) × (length (column i rows) ≡ n)
in_column hosts [] k zero i h are at = (tt, refl)
in_column hosts [] k (suc n) i h are at = absurd (none-some (new_row hosts k) (ap (λ (l : List (List CentrePass)). slice_get l 0) are))
in_column hosts (row ∷ rows) k zero i h are at = absurd (none-some (map bare row) (sym (ap (λ (l : List (List CentrePass)). slice_get l 0) are)))
in_column hosts (row ∷ rows) k (suc n) i h are at =
    let one = in_row hosts row k i h (same_Some (map bare row) (new_row hosts k) (ap (λ (l : List (List CentrePass)). slice_get l 0) are)) at in
    let rest = in_column hosts rows (k + 1) n i h (ap (drop 1) are) at in
    let is : column i (row ∷ rows) ≡ one.0 ∷ column i rows = ap (λ (o : Option CentrePass). cons_option o (column i rows)) one.1 in
    subst (λ (l : List CentrePass). InOrder h k l × (length l ≡ suc n)) (sym is) ((was_fresh h one.0 k one.2, rest.0), ap suc rest.1)

-- so it is of all hosts
pub may_close : (hosts : List CentreHost) (rows : List (List CentrePass)) (n : ℕ) → AreFor n hosts → bare_rows rows ≡ new_rows hosts 1 n → MayClose hosts rows
may_close hosts rows n for are = record {
  each = λ i h at. let its = in_column hosts rows 1 n i h are at in (its.0, its.1 ∙ sym (all_get (λ (host : CentreHost). host.callers ≡ n) hosts i h for at));
}

-- ---- hosts are closed one by one

-- the first element, taken off
pub taken_off : {X : Type 0} (xs ys : List X) (x : X) → 0 < length xs → x ≡ get_or xs 0 x → ys ≡ remove xs 0 → xs ≡ x ∷ ys
taken_off [] ys x lt is rest = absurd (omega (arith, lt))
taken_off (z ∷ zs) ys x lt is rest = λ i. (sym is i) ∷ (sym rest i)

-- the others find their passes in what is left
pub may_close_rest : (hosts : List CentreHost) (h : CentreHost) (hs : List CentreHost) (rows left : List (List CentrePass)) → hosts ≡ h ∷ hs → left ≡ tails rows → MayClose hosts rows → MayClose hs left
may_close_rest hosts h hs rows left is cut may = subst (MayClose hs) (sym cut) (record {
  each = λ i host at.
      let its = may.each (suc i) host (ap (λ (l : List CentreHost). slice_get l (suc i)) is ∙ at) in
      subst (λ (l : List CentrePass). InOrder host 1 l × (length l ≡ host.callers)) (sym (column_tails rows i)) its;
})

-- the first finds them in the first column
pub may_close_first : (hosts : List CentreHost) (h : CentreHost) (hs : List CentreHost) (rows : List (List CentrePass)) (first : List CentrePass) → hosts ≡ h ∷ hs → first ≡ column 0 rows → MayClose hosts rows → InOrder h 1 first × (length first ≡ h.callers)
may_close_first hosts h hs rows first is cut may = subst (λ (l : List CentrePass). InOrder h 1 l × (length l ≡ h.callers)) (sym cut) (may.each 0 h (ap (λ (l : List CentreHost). slice_get l 0) is))

-- one host more, in front
pub closed_more : (hosts : List CentreHost) (h : CentreHost) (hs : List CentreHost) (rows left : List (List CentrePass)) (first : List CentrePass) (one : KeptCentre) (kept all : List KeptCentre) → hosts ≡ h ∷ hs → first ≡ column 0 rows → left ≡ tails rows → all ≡ one ∷ kept → IsClosed h first one → AreClosed hs left kept → AreClosed hosts rows all
closed_more hosts h hs rows left first one kept all is cut rest more here others = record {
  number = ap length more ∙ (ap suc others.number ∙ sym (ap length is));
  each = λ i host k at there. go i host k (sym (ap (λ (l : List CentreHost). slice_get l i) is) ∙ at) (sym (ap (λ (l : List KeptCentre). slice_get l i) more) ∙ there);
}
  where
    go : (i : ℕ) (host : CentreHost) (k : KeptCentre) → slice_get (h ∷ hs) i ≡ Some host → slice_get (one ∷ kept) i ≡ Some k → IsClosed host (column i rows) k
    go zero host k at there = subst (λ (x : KeptCentre). IsClosed host (column 0 rows) x) (same_Some one k there) (subst (λ (x : CentreHost). IsClosed x (column 0 rows) one) (same_Some h host at) (subst (λ (l : List CentrePass). IsClosed h l one) cut here))
    go (suc i) host k at there = subst (λ (l : List CentrePass). IsClosed host l k) (ap (column i) rest ∙ column_tails rows i) (others.each i host k at there)
