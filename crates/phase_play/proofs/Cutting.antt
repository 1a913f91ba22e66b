-- Clients are cut into even blocks, and what was done to each of several, in blocks or one by one.
use Rattle.std.proofs.Common.{◌≡◌, ℕ, zero, suc, ◌+◌, ◌-◌, ◌*◌, ◌/◌, ◌%◌, ◌<◌, ◌≤◌, min, List, [], ◌∷◌, ◌++◌, length, take, drop, map, flat_map, Ok, Err, IfOk, sym, ap, ◌∙◌, subst, zero-mul, arith}
use Rattle.std.specs.Prelude.{All, Result, slice_index_or}
use Rattle.std.specs.List.{AllZip}
use Rattle.std.specs.Global.{Vec}
use Rattle.std.proofs.Math.Nat.{div-add-mod, div-eq-sub-div, suc-mul}
use Rattle.std.proofs.lemmas.List.{append_assoc, take-append-drop, flat_map_more}
use Rattle.std.proofs.lemmas.List.Elements.{All-nil, All-cons, All-head, All-tail}

module _ {X : Type 0} where
  -- what is in some blocks
  abbrev pub in_blocks : List (Vec X) → List X
  in_blocks blocks = flat_map (λ (block : Vec X). block.items) blocks

  -- what all of them are, all of a block are
  pub block_all : (R : X → Type 0) (blocks : List (Vec X)) (place : ℕ) (block : Vec X) → All R (in_blocks blocks) → place < length blocks → block ≡ slice_index_or blocks place block → All R block.items
  block_all R [] place block all within is = absurd (omega (arith, within))
  block_all R (first ∷ blocks) zero block all within is = subst (λ (block : Vec X). All R block.items) (sym is) (front first.items all)
    where
      front : (xs : List X) → All R (xs ++ in_blocks blocks) → All R xs
      front [] all = All-nil R
      front (x ∷ xs) all = All-cons R x xs (All-head R x (xs ++ in_blocks blocks) all) (front xs (All-tail R x (xs ++ in_blocks blocks) all))
  block_all R (first ∷ blocks) (suc place) block all within is = block_all R blocks place block (behind first.items all) (omega (arith, within)) is
    where
      behind : (xs : List X) → All R (xs ++ in_blocks blocks) → All R (in_blocks blocks)
      behind [] all = all
      behind (x ∷ xs) all = behind xs (All-tail R x (xs ++ in_blocks blocks) all)

  -- what belongs together block by block belongs together
  pub blocks_zip : (R : X → X → Type 0) (blocks later : List (Vec X)) → AllZip (λ (block after : Vec X). AllZip R block.items after.items) blocks later → AllZip R (in_blocks blocks) (in_blocks later)
  blocks_zip R [] [] zip = tt
  blocks_zip R [] (after ∷ later) zip = absurd zip
  blocks_zip R (block ∷ blocks) [] zip = absurd zip
  blocks_zip R (block ∷ blocks) (after ∷ later) zip = then block.items after.items zip.0 (blocks_zip R blocks later zip.1)
    where
      then : (xs ys : List X) → AllZip R xs ys → AllZip R (in_blocks blocks) (in_blocks later) → AllZip R (xs ++ in_blocks blocks) (ys ++ in_blocks later)
      then [] [] both rest = rest
      then [] (y ∷ ys) both rest = absurd both
      then (x ∷ xs) [] both rest = absurd both
      then (x ∷ xs) (y ∷ ys) both rest = (both.0, then xs ys both.1 rest)

  -- what is cut off the rest is a block more, and no element is lost
  pub block_more : (blocks : List (Vec X)) (block : Vec X) (k : ℕ) (rest later all : List X) → block.items ≡ take k rest → later ≡ drop k rest → in_blocks blocks ++ rest ≡ all → in_blocks (blocks ++ block ∷ []) ++ later ≡ all
  block_more blocks block k rest later all front behind before =
      ap (λ (xs : List X). xs ++ later) (sym (flat_map_more (λ (b : Vec X). b.items) [] blocks block))
      ∙ (append_assoc (in_blocks blocks) block.items later ∙ (ap (λ (xs : List X). in_blocks blocks ++ xs) ((λ i. front i ++ behind i) ∙ take-append-drop k rest) ∙ before))

-- ---- even blocks

-- all elements, as so many blocks, some of them with one more
pub all_of_blocks : (n count : ℕ) → n ≡ (count - 0) * (n / count) + (n % count - 0)
all_of_blocks n count =
    let blocks : count - 0 ≡ count = omega arith in
    let more : n % count - 0 ≡ n % count = omega arith in
    sym ((λ i. blocks i * (n / count) + more i) ∙ div-add-mod n count)

-- the shortest block is not empty
pub some_in_block : (n count : ℕ) → 1 ≤ count → count ≤ n → 1 ≤ n / count
some_in_block n count low enough =
    let least : n / count ≡ (n - count) / count + 1 = div-eq-sub-div (omega (arith, low)) enough in
    omega (arith, least)

-- some blocks more, of which one is cut off
one_off : (all others size more : ℕ) → all ≡ others + size → (size + min 1 more ≤ all + more) × (all + more - (size + min 1 more) ≡ others + (more - 1))
one_off all others size more is = (omega (arith, is), omega (arith, is))

-- what is left then
pub block_off : (count place size longer left : ℕ) → place < count → left ≡ (count - place) * size + (longer - place) → (size + min 1 (longer - place) ≤ left) × (left - (size + min 1 (longer - place)) ≡ (count - (place + 1)) * size + (longer - (place + 1)))
block_off count place size longer left within is =
    let next : count - place ≡ suc (count - (place + 1)) = omega (arith, within) in
    let all : (count - place) * size ≡ (count - (place + 1)) * size + size = ap (λ k. k * size) next ∙ suc-mul (count - (place + 1)) size in
    let off = one_off ((count - place) * size) ((count - (place + 1)) * size) size (longer - place) all in
    let more : longer - place - 1 ≡ longer - (place + 1) = omega arith in (
      subst (λ left. size + min 1 (longer - place) ≤ left) (sym is) off.0,
      ap (λ left. left - (size + min 1 (longer - place))) is ∙ (off.1 ∙ ap (λ more. (count - (place + 1)) * size + more) more),
    )

-- nothing is left behind the last block
pub none_left : (count place size longer left : ℕ) → count ≤ place → longer ≤ count → left ≡ (count - place) * size + (longer - place) → left ≡ 0
none_left count place size longer left past few is =
    let blocks : count - place ≡ 0 = omega (arith, past) in
    let more : longer - place ≡ 0 = omega (arith, past, few) in
    let none : (count - place) * size ≡ 0 = ap (λ k. k * size) blocks ∙ zero-mul size in
    omega (arith, is, none, more)

module _ {J X E : Type 0} (R : J → X → Type 0) where
  -- each result that is one belongs to the job at its place
  abbrev pub GivesAll : List J → List (Result X E) → Type 0
  GivesAll jobs results = (place : ℕ) (other : Result X E) → place < length jobs → (job : J) × ((any : J) → slice_index_or jobs place any ≡ job) × IfOk (slice_index_or results place other) (R job)

  given : (jobs : List J) (xs : List X) → length (map {B = Result X E} Ok xs) ≡ length jobs → GivesAll jobs (map Ok xs) → AllZip R jobs xs
  given [] [] long gives = tt
  given [] (x ∷ xs) long gives = absurd (omega (arith, long))
  given (job ∷ jobs) [] long gives = absurd (omega (arith, long))
  given (job ∷ jobs) (x ∷ xs) long gives =
      let here = gives 0 (Ok x) (omega arith) in
      (subst (λ (job : J). R job x) (sym (here.1 job)) here.2, given jobs xs (omega (arith, long)) (λ place other within. gives (suc place) other (omega (arith, within))))

  -- where all are
  pub all_given : (jobs : List J) (results : List (Result X E)) (xs : List X) → length results ≡ length jobs → map Ok xs ≡ results → GivesAll jobs results → AllZip R jobs xs
  all_given jobs results xs long are gives = given jobs xs (ap length are ∙ long) (subst (GivesAll jobs) (sym are) gives)

  -- where they are asked for
  pub all_given_then : (jobs : List J) (results : List (Result X E)) (all : Result (Vec X) E) → length results ≡ length jobs → GivesAll jobs results → IfOk all (λ all. map Ok all.items ≡ results) → IfOk all (λ all. AllZip R jobs all.items)
  all_given_then jobs results (Ok all) long gives are = all_given jobs results all.items long are gives
  all_given_then jobs results (Err e) long gives are = tt
