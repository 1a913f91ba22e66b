-- What words say is in range.
use Rattle.std.proofs.Common.{◌≡◌, ◌≢◌, ◌≤◌, ℕ, zero, suc, Bool, true, false, List, [], ◌∷◌, length, refl, ap, sym, ◌∙◌, subst, arith, leb-true, le-leb}
use Rattle.std.specs.Prelude.{◌==◌, ◌&&◌, ◌||◌, ℤ, pos, neg_ℤ, nat_le, cond, drop, slice_index, Option, Some, None, Result, Ok, Err, IfSome, MatchOption}
use Rattle.std.specs.Option.{option_or}
use Rattle.std.specs.List.{AllByRecursion}
use Rattle.std.proofs.lemmas.Bool.{eqb-false}
use Rattle.ids_core.specs.Name.{IsName}
use Rattle.ids_core.specs.declared.limits.TheConstants.{MOST_CENTRES, MOST_NUMBER, MOST_DELTA}
use Rattle.ids_core.specs.declared.object.ObjectId.{ObjectId}
use Rattle.ids_core.specs.declared.object.Sort.{Sort}
use Rattle.obj_bounded.specs.declared.cell_names.TheConstants.{MOST_BOUNDED_NAME}
use Rattle.obj_bounded.specs.CellNames.{IsHolder}
use Rattle.script_core.specs.Steps.{IsAmount, IsCount, IsDelta, IsHeader, IsOtherHolder, IsShare, IsShareOf, holders_of}
use Rattle.script_core.specs.declared.script.Header.{Header}
use Rattle.script_reader.specs.declared.fault.Cause.{Cause}
use Rattle.script_reader.specs.declared.fault.Cause.TheVariants as cause
use Rattle.script_reader.specs.declared.form.Word.{Word}
use Rattle.script_reader.specs.declared.form.Part.{Part}
use Rattle.script_reader.specs.declared.form.Part.TheVariants.{Fixed, Client, Holder, OtherHolder, Centre, Other, Third, Centres, Stable, Count, Commit, Delta, Object, Summand, Bounded, Amount, Key, Name}
use Rattle.script_reader.specs.declared.said.Said.{Said}
use Rattle.script_reader.specs.Numbers.{is_number, number_of, number_in, delta_in, below_zero, from_zero}
use Rattle.script_reader.specs.Names.{is_name, sort_marked, object_named}
use Rattle.script_reader.specs.Shares.{bounded_in, is_cell, summand_in, unless_cell}
use Rattle.script_reader.specs.Said.{unsaid, with_said, with_name, with_object, with_holder, with_counter, to_said, other_said, third_said, said_word, said_words}
use Rattle.script_reader.proofs.NameTests.{name_from_test}

-- ---- numbers, deltas and objects

-- a number that is taken is in its range
number_within : (least most : ℕ) (text : List ℕ) (n : ℕ) → number_in least most text ≡ Ok n → (least ≤ n) × (n ≤ most)
unfolding number_in
number_within least most text n taken = go (is_number text) (nat_le least (number_of text)) refl (nat_le (number_of text) most) refl taken
  where
    go : (spelled low : Bool) → nat_le least (number_of text) ≡ low → (high : Bool) → nat_le (number_of text) most ≡ high → cond spelled (cond (low && high) (Ok (number_of text)) (Err cause.Range)) (Err cause.Number) ≡ Ok n → (least ≤ n) × (n ≤ most)
    go false low l high h e = absurd (cc)
    go true false l high h e = absurd (cc)
    go true true l false h e = absurd (cc)
    go true true l true h e = let same : number_of text ≡ n = cc in (let a = leb-true least _ l in omega arith, let b = leb-true _ most h in omega arith)

below_delta : (r : Result ℕ Cause) (d : ℤ) → ((n : ℕ) → r ≡ Ok n → n ≤ MOST_DELTA) → below_zero r ≡ Ok d → IsDelta d
below_delta (Err why) d within e = absurd (cc)
below_delta (Ok n) d within e = go (n == 0) e
  where
    small : (m : ℕ) → m ≤ MOST_DELTA → IsDelta (neg_ℤ (pos m))
    small zero few = refl
    small (suc m) few = le-leb (suc m) MOST_DELTA few

    go : (none : Bool) → cond none (Err cause.Number) (Ok (neg_ℤ (pos n))) ≡ Ok d → IsDelta d
    go true bad = absurd (cc)
    go false is = subst IsDelta (let same : neg_ℤ (pos n) ≡ d = cc in same) (small n (within n refl))

from_delta : (r : Result ℕ Cause) (d : ℤ) → ((n : ℕ) → r ≡ Ok n → n ≤ MOST_DELTA) → from_zero r ≡ Ok d → IsDelta d
from_delta (Err why) d within e = absurd (cc)
from_delta (Ok n) d within e = subst IsDelta (let same : pos n ≡ d = cc in same) (le-leb n MOST_DELTA (within n refl))

-- a delta that is taken is in range
delta_within : (text : List ℕ) (d : ℤ) → delta_in text ≡ Ok d → IsDelta d
unfolding delta_in
delta_within text d taken = go (slice_index text 0 == 45) taken
  where
    go : (minus : Bool) → cond minus (below_zero (number_in 0 MOST_DELTA (drop 1 text))) (from_zero (number_in 0 MOST_DELTA text)) ≡ Ok d → IsDelta d
    go true e = below_delta (number_in 0 MOST_DELTA (drop 1 text)) d (λ n is. (number_within 0 MOST_DELTA (drop 1 text) n is).1) e
    go false e = from_delta (number_in 0 MOST_DELTA text) d (λ n is. (number_within 0 MOST_DELTA text n is).1) e

-- an object that is named has a name
object_within : (text : List ℕ) (object : ObjectId) → object_named text ≡ Some object → IsName object.name
unfolding object_named
object_within text object named = go (slice_index text 1 == 46) (is_name (drop 2 text)) refl (sort_marked (slice_index text 0)) named
  where
    go : (dot name : Bool) → is_name (drop 2 text) ≡ name → (sort : Option Sort) → cond (dot && name) (elim sort [ Some s ↦ Some (record { sort = s; name = drop 2 text }) | None ↦ None ]) None ≡ Some object → IsName object.name
    go false name is sort e = absurd (cc)
    go true false is sort e = absurd (cc)
    go true true is None e = absurd (cc)
    go true true is (Some s) e = subst IsName (let same : ◌≡◌ {A = ObjectId} (record { sort = s; name = drop 2 text }) object = cc in ap (λ (o : ObjectId). o.name) same) (name_from_test (drop 2 text) is)

-- ---- bounded counters and their cells

-- a name that is short enough for those of the cells of a bounded counter
pub record IsBoundedName (name : List ℕ) : Type 0 where
  pub named : IsName name
  pub short : length name ≤ MOST_BOUNDED_NAME

-- a bounded counter that is named has such a name
bounded_within : (text name : List ℕ) → bounded_in text ≡ Ok name → IsBoundedName name
unfolding bounded_in
bounded_within text name named = go (slice_index text 0 == 98) (slice_index text 1 == 46) (nat_le (length (drop 2 text)) MOST_BOUNDED_NAME) refl (is_name (drop 2 text)) refl named
  where
    go : (mark dot short : Bool) → nat_le (length (drop 2 text)) MOST_BOUNDED_NAME ≡ short → (word : Bool) → is_name (drop 2 text) ≡ word → cond (mark && (dot && (short && word))) (Ok (drop 2 text)) (Err cause.Name) ≡ Ok name → IsBoundedName name
    go false dot short few word is e = absurd (cc)
    go true false short few word is e = absurd (cc)
    go true true false few word is e = absurd (cc)
    go true true true few false is e = absurd (cc)
    go true true true few true is e = subst IsBoundedName (let same : drop 2 text ≡ name = cc in same) (record { named = name_from_test (drop 2 text) is; short = leb-true _ _ few })

-- an object with a name that may not be a cell of a bounded counter
pub record IsSummand (object : ObjectId) : Type 0 where
  pub named : IsName object.name
  pub spares : is_cell object ≡ false

-- one that is named to be added to is such
summand_within : (text : List ℕ) (object : ObjectId) → summand_in text ≡ Ok object → IsSummand object
summand_within text object named = go (object_named text) refl named
  where
    spared : (one : ObjectId) (cell : Bool) → is_cell one ≡ cell → object_named text ≡ Some one → cond cell (Err cause.Name) (Ok one) ≡ Ok object → IsSummand object
    spared one true is found e = absurd (cc)
    spared one false is found e = subst IsSummand (let same : one ≡ object = cc in same) (record { named = object_within text one found; spares = is })

    go : (found : Option ObjectId) → object_named text ≡ found → unless_cell found ≡ Ok object → IsSummand object
    go None found e = absurd (cc)
    go (Some one) found e = spared one (is_cell one) refl found e

-- one of the holders among clients is one of the clients
holder_client : (clients n : ℕ) → IsCount (holders_of clients) n → IsCount clients n
holder_client clients n is = (is.0, let high = is.1 in omega arith)

-- and one of the holders, of whom there are few
holder_within : (clients n : ℕ) → IsCount (holders_of clients) n → IsHolder (holders_of clients) n
holder_within clients n is = record { low = is.0; high = is.1; most = omega arith }

-- ---- one word

-- what a word changes that stands in the place of a part, and in which range
abbrev pub SaysSo : Option Header → Part → Said → Said → Type 0
SaysSo header (Fixed own) said more = more ≡ said
SaysSo header Client said more = MatchOption header (more ≡ said) (λ h. (n : ℕ) × (more ≡ record said { client = n }) × IsCount h.clients n)
SaysSo header Holder said more = MatchOption header (more ≡ said) (λ h. (n : ℕ) × (more ≡ with_holder said (holders_of h.clients) n) × IsCount (holders_of h.clients) n)
SaysSo header OtherHolder said more = MatchOption header (more ≡ said) (λ h. (n : ℕ) × (more ≡ record said { to = n }) × IsOtherHolder said.share n)
SaysSo header Centre said more = MatchOption header (more ≡ said) (λ h. (n : ℕ) × (more ≡ record said { centre = n }) × IsCount h.n n)
SaysSo header Other said more = MatchOption header (more ≡ said) (λ h. (n : ℕ) × (more ≡ record said { other = n }) × IsCount h.n n × (said.centre ≢ n))
SaysSo header Third said more = MatchOption header (more ≡ said) (λ h. (n : ℕ) × (more ≡ record said { third = n }) × IsCount h.n n × (said.centre ≢ n) × (said.other ≢ n))
SaysSo header Centres said more = (n : ℕ) × (more ≡ record said { n = n; k = 1 }) × IsCount MOST_CENTRES n
SaysSo header Stable said more = (n : ℕ) × (more ≡ record said { k = n }) × IsCount said.n n
SaysSo header (Count least most) said more = (n : ℕ) × (more ≡ record said { count = n }) × ((least ≤ n) × (n ≤ most))
SaysSo header Commit said more = (n : ℕ) × (more ≡ record said { number = n }) × IsCount MOST_NUMBER n
SaysSo header Delta said more = (d : ℤ) × (more ≡ record said { delta = d }) × IsDelta d
SaysSo header Object said more = (o : ObjectId) × (more ≡ record said { object = o }) × IsName o.name
SaysSo header Summand said more = (o : ObjectId) × (more ≡ record said { summand = o }) × IsSummand o
SaysSo header Bounded said more = (name : List ℕ) × (more ≡ with_counter said name) × IsBoundedName name
SaysSo header Amount said more = (n : ℕ) × (more ≡ record said { amount = n }) × IsAmount n
SaysSo header Key said more = (name : List ℕ) × (more ≡ record said { key = name }) × IsName name
SaysSo header Name said more = (name : List ℕ) × (more ≡ record said { word = name }) × IsName name

-- what was said was read
put_of : {X : Type 0} (put : X → Said) (r : Result X Cause) (more : Said) → with_said put r ≡ Ok more → (x : X) × (more ≡ put x) × (r ≡ Ok x)
put_of put (Ok x) more e = (x, (let same : put x ≡ more = cc in sym same), refl)
put_of put (Err why) more e = absurd (cc)

number_put : (put : ℕ → Said) (least most : ℕ) (text : List ℕ) (more : Said) → with_said put (number_in least most text) ≡ Ok more → (n : ℕ) × (more ≡ put n) × ((least ≤ n) × (n ≤ most))
number_put put least most text more e = let p = put_of put (number_in least most text) more e in (p.0, p.1, number_within least most text p.0 p.2)

early_same : (said more : Said) (text : List ℕ) → cond (is_number text) (Ok said) (Err cause.Number) ≡ Ok more → more ≡ said
early_same said more text e = go (is_number text) e
  where
    go : (number : Bool) → cond number (Ok said) (Err cause.Number) ≡ Ok more → more ≡ said
    go true e = let same : said ≡ more = cc in sym same
    go false e = absurd (cc)

other_put : (said more : Said) (most : ℕ) (r : Result ℕ Cause) → ((n : ℕ) → r ≡ Ok n → IsCount most n) → other_said said r ≡ Ok more → (n : ℕ) × (more ≡ record said { other = n }) × IsCount most n × (said.centre ≢ n)
other_put said more most (Err why) within e = absurd (cc)
other_put said more most (Ok n) within e = go (n == said.centre) refl e
  where
    go : (same : Bool) → (n == said.centre) ≡ same → cond same (Err cause.Range) (Ok (record said { other = n })) ≡ Ok more → (m : ℕ) × (more ≡ record said { other = m }) × IsCount most m × (said.centre ≢ m)
    go true is bad = absurd (cc)
    go false is put = (n, (let same : record said { other = n } ≡ more = cc in sym same), within n refl, λ e. eqb-false n said.centre is (sym e))

-- another holder is one of those that there are
to_put : (said more : Said) (r : Result ℕ Cause) → ((n : ℕ) → r ≡ Ok n → IsCount said.share.holders n) → to_said said r ≡ Ok more → (n : ℕ) × (more ≡ record said { to = n }) × IsOtherHolder said.share n
to_put said more (Err why) within e = absurd (cc)
to_put said more (Ok n) within e = go (n == said.share.holder) refl e
  where
    go : (same : Bool) → (n == said.share.holder) ≡ same → cond same (Err cause.Range) (Ok (record said { to = n })) ≡ Ok more → (m : ℕ) × (more ≡ record said { to = m }) × IsOtherHolder said.share m
    go true is bad = absurd (cc)
    go false is put = (n, (let same : record said { to = n } ≡ more = cc in sym same), (within n refl, eqb-false n said.share.holder is))

third_put : (said more : Said) (most : ℕ) (r : Result ℕ Cause) → ((n : ℕ) → r ≡ Ok n → IsCount most n) → third_said said r ≡ Ok more → (n : ℕ) × (more ≡ record said { third = n }) × IsCount most n × (said.centre ≢ n) × (said.other ≢ n)
third_put said more most (Err why) within e = absurd (cc)
third_put said more most (Ok n) within e = go (n == said.centre) refl (n == said.other) refl e
  where
    go : (first : Bool) → (n == said.centre) ≡ first → (second : Bool) → (n == said.other) ≡ second → cond (first || second) (Err cause.Range) (Ok (record said { third = n })) ≡ Ok more → (m : ℕ) × (more ≡ record said { third = m }) × IsCount most m × (said.centre ≢ m) × (said.other ≢ m)
    go true a second b bad = absurd (cc)
    go false a true b bad = absurd (cc)
    go false a false b put = (n, (let same : record said { third = n } ≡ more = cc in sym same), within n refl, (λ e. eqb-false n said.centre a (sym e)), λ e. eqb-false n said.other b (sym e))

object_put : (put : ObjectId → Said) (r : Option ObjectId) (more : Said) → ((o : ObjectId) → r ≡ Some o → IsName o.name) → with_object put r ≡ Ok more → (o : ObjectId) × (more ≡ put o) × IsName o.name
object_put put None more within e = absurd (cc)
object_put put (Some o) more within e = (o, (let same : put o ≡ more = cc in sym same), within o refl)

name_put : (put : List ℕ → Said) (text : List ℕ) (more : Said) → with_name put text ≡ Ok more → (name : List ℕ) × (more ≡ put name) × IsName name
name_put put text more e = go (is_name text) refl e
  where
    go : (name : Bool) → is_name text ≡ name → cond name (Ok (put text)) (Err cause.Name) ≡ Ok more → (word : List ℕ) × (more ≡ put word) × IsName word
    go true is e = (text, (let same : put text ≡ more = cc in sym same), name_from_test text is)
    go false is e = absurd (cc)

pub says_so : (header : Option Header) (part : Part) (text : List ℕ) (said more : Said) → said_word header part text said ≡ Ok more → SaysSo header part said more
unfolding said_word
says_so header (Fixed own) text said more e = let same : said ≡ more = cc in sym same
says_so None Client text said more e = early_same said more (drop 1 text) e
says_so (Some h) Client text said more e = number_put (λ n. record said { client = n }) 1 h.clients (drop 1 text) more e
says_so None Holder text said more e = early_same said more (drop 1 text) e
says_so (Some h) Holder text said more e = number_put (with_holder said (holders_of h.clients)) 1 (holders_of h.clients) (drop 1 text) more e
says_so None OtherHolder text said more e = early_same said more text e
says_so (Some h) OtherHolder text said more e = to_put said more (number_in 1 said.share.holders text) (number_within 1 said.share.holders text) e
says_so None Centre text said more e = early_same said more text e
says_so (Some h) Centre text said more e = number_put (λ n. record said { centre = n }) 1 h.n text more e
says_so None Other text said more e = early_same said more text e
says_so (Some h) Other text said more e = other_put said more h.n (number_in 1 h.n text) (number_within 1 h.n text) e
says_so None Third text said more e = early_same said more text e
says_so (Some h) Third text said more e = third_put said more h.n (number_in 1 h.n text) (number_within 1 h.n text) e
says_so header Centres text said more e = number_put (λ n. record said { n = n; k = 1 }) 1 MOST_CENTRES text more e
says_so header Stable text said more e = number_put (λ n. record said { k = n }) 1 said.n text more e
says_so header (Count least most) text said more e = number_put (λ n. record said { count = n }) least most text more e
says_so header Commit text said more e = number_put (λ n. record said { number = n }) 1 MOST_NUMBER text more e
says_so header Delta text said more e = let p = put_of (λ d. record said { delta = d }) (delta_in text) more e in (p.0, p.1, delta_within text p.0 p.2)
says_so header Object text said more e = object_put (λ o. record said { object = o }) (object_named text) more (object_within text) e
says_so header Summand text said more e = let p = put_of (λ o. record said { summand = o }) (summand_in text) more e in (p.0, p.1, summand_within text p.0 p.2)
says_so header Bounded text said more e = let p = put_of (with_counter said) (bounded_in text) more e in (p.0, p.1, bounded_within text p.0 p.2)
says_so header Amount text said more e = number_put (λ n. record said { amount = n }) 1 MOST_DELTA text more e
says_so header Key text said more e = name_put (λ name. record said { key = name }) text more e
says_so header Name text said more e = name_put (λ name. record said { word = name }) text more e

-- ---- all words

-- what is said is in range, whatever form it is of
pub record IsSaid (header : Option Header) (said : Said) : Type 0 where
  pub client : IfSome header (λ h. IsCount h.clients said.client)
  pub share : IsShare said.share
  pub centre : IfSome header (λ h. IsCount h.n said.centre)
  pub n : IsCount MOST_CENTRES said.n
  pub k : IsCount said.n said.k
  pub number : IsCount MOST_NUMBER said.number
  pub amount : IsAmount said.amount
  pub delta : IsDelta said.delta
  pub object : IsName said.object.name
  pub summand : IsSummand said.summand
  pub key : IsName said.key
  pub word : IsName said.word

-- one more word is too
said_more : (header : Option Header) (part : Part) (said more : Said) → SaysSo header part said more → IsSaid header said → IsSaid header more
said_more header (Fixed own) said more says is = subst (IsSaid header) (sym says) is
said_more None Client said more says is = subst (IsSaid None) (sym says) is
said_more (Some h) Client said more says is = subst (IsSaid (Some h)) (sym says.1) (record { client = says.2; share = is.share; centre = is.centre; n = is.n; k = is.k; number = is.number; amount = is.amount; delta = is.delta; object = is.object; summand = is.summand; key = is.key; word = is.word })
said_more None Holder said more says is = subst (IsSaid None) (sym says) is
said_more (Some h) Holder said more says is = subst (IsSaid (Some h)) (sym says.1) (record { client = holder_client h.clients says.0 says.2; share = record { named = is.share.named; short = is.share.short; holder = holder_within h.clients says.0 says.2 }; centre = is.centre; n = is.n; k = is.k; number = is.number; amount = is.amount; delta = is.delta; object = is.object; summand = is.summand; key = is.key; word = is.word })
said_more None OtherHolder said more says is = subst (IsSaid None) (sym says) is
said_more (Some h) OtherHolder said more says is = subst (IsSaid (Some h)) (sym says.1) (record { client = is.client; share = is.share; centre = is.centre; n = is.n; k = is.k; number = is.number; amount = is.amount; delta = is.delta; object = is.object; summand = is.summand; key = is.key; word = is.word })
said_more None Centre said more says is = subst (IsSaid None) (sym says) is
said_more (Some h) Centre said more says is = subst (IsSaid (Some h)) (sym says.1) (record { client = is.client; share = is.share; centre = says.2; n = is.n; k = is.k; number = is.number; amount = is.amount; delta = is.delta; object = is.object; summand = is.summand; key = is.key; word = is.word })
said_more None Other said more says is = subst (IsSaid None) (sym says) is
said_more (Some h) Other said more says is = subst (IsSaid (Some h)) (sym says.1) (record { client = is.client; share = is.share; centre = is.centre; n = is.n; k = is.k; number = is.number; amount = is.amount; delta = is.delta; object = is.object; summand = is.summand; key = is.key; word = is.word })
said_more None Third said more says is = subst (IsSaid None) (sym says) is
said_more (Some h) Third said more says is = subst (IsSaid (Some h)) (sym says.1) (record { client = is.client; share = is.share; centre = is.centre; n = is.n; k = is.k; number = is.number; amount = is.amount; delta = is.delta; object = is.object; summand = is.summand; key = is.key; word = is.word })
said_more header Centres said more says is = subst (IsSaid header) (sym says.1) (record { client = is.client; share = is.share; centre = is.centre; n = says.2; k = (omega arith, says.2.0); number = is.number; amount = is.amount; delta = is.delta; object = is.object; summand = is.summand; key = is.key; word = is.word })
said_more header Stable said more says is = subst (IsSaid header) (sym says.1) (record { client = is.client; share = is.share; centre = is.centre; n = is.n; k = says.2; number = is.number; amount = is.amount; delta = is.delta; object = is.object; summand = is.summand; key = is.key; word = is.word })
said_more header (Count least most) said more says is = subst (IsSaid header) (sym says.1) (record { client = is.client; share = is.share; centre = is.centre; n = is.n; k = is.k; number = is.number; amount = is.amount; delta = is.delta; object = is.object; summand = is.summand; key = is.key; word = is.word })
said_more header Commit said more says is = subst (IsSaid header) (sym says.1) (record { client = is.client; share = is.share; centre = is.centre; n = is.n; k = is.k; number = says.2; amount = is.amount; delta = is.delta; object = is.object; summand = is.summand; key = is.key; word = is.word })
said_more header Delta said more says is = subst (IsSaid header) (sym says.1) (record { client = is.client; share = is.share; centre = is.centre; n = is.n; k = is.k; number = is.number; amount = is.amount; delta = says.2; object = is.object; summand = is.summand; key = is.key; word = is.word })
said_more header Object said more says is = subst (IsSaid header) (sym says.1) (record { client = is.client; share = is.share; centre = is.centre; n = is.n; k = is.k; number = is.number; amount = is.amount; delta = is.delta; object = says.2; summand = is.summand; key = is.key; word = is.word })
said_more header Summand said more says is = subst (IsSaid header) (sym says.1) (record { client = is.client; share = is.share; centre = is.centre; n = is.n; k = is.k; number = is.number; amount = is.amount; delta = is.delta; object = is.object; summand = says.2; key = is.key; word = is.word })
said_more header Bounded said more says is = subst (IsSaid header) (sym says.1) (record { client = is.client; share = record { named = says.2.named; short = says.2.short; holder = is.share.holder }; centre = is.centre; n = is.n; k = is.k; number = is.number; amount = is.amount; delta = is.delta; object = is.object; summand = is.summand; key = is.key; word = is.word })
said_more header Amount said more says is = subst (IsSaid header) (sym says.1) (record { client = is.client; share = is.share; centre = is.centre; n = is.n; k = is.k; number = is.number; amount = says.2; delta = is.delta; object = is.object; summand = is.summand; key = is.key; word = is.word })
said_more header Key said more says is = subst (IsSaid header) (sym says.1) (record { client = is.client; share = is.share; centre = is.centre; n = is.n; k = is.k; number = is.number; amount = is.amount; delta = is.delta; object = is.object; summand = is.summand; key = says.2; word = is.word })
said_more header Name said more says is = subst (IsSaid header) (sym says.1) (record { client = is.client; share = is.share; centre = is.centre; n = is.n; k = is.k; number = is.number; amount = is.amount; delta = is.delta; object = is.object; summand = is.summand; key = is.key; word = says.2 })

a_name : IsName (97 ∷ [])
a_name = name_from_test (97 ∷ []) refl

-- the share of a holder alone
a_share : IsShare (record { name = 97 ∷ []; holder = 1; holders = 1 })
a_share = record { named = a_name; short = omega arith; holder = record { low = omega arith; high = omega arith; most = omega arith } }

-- before the first word
pub unsaid_in_range : (header : Option Header) → IfSome header IsHeader → IsSaid header unsaid
unsaid_in_range None is = record { client = tt; share = a_share; centre = tt; n = (omega arith, omega arith); k = (omega arith, omega arith); number = (omega arith, omega arith); amount = (omega arith, omega arith); delta = refl; object = a_name; summand = record { named = a_name; spares = refl }; key = a_name; word = a_name }
unsaid_in_range (Some h) is = record { client = (omega arith, is.clients.0); share = a_share; centre = (omega arith, is.n.0); n = (omega arith, omega arith); k = (omega arith, omega arith); number = (omega arith, omega arith); amount = (omega arith, omega arith); delta = refl; object = a_name; summand = record { named = a_name; spares = refl }; key = a_name; word = a_name }

-- one word was said, and then the others
record SaidFirst (header : Option Header) (part : Part) (parts : List Part) (texts : List (List ℕ)) (said more : Said) : Type 0 where
  mid : Said
  says : SaysSo header part said mid
  later : said_words header parts texts mid ≡ Ok more

-- what follows a word
abbrev later_said : Option Header → List Part → List (List ℕ) → Result Said Cause → Result Said Cause
later_said header parts texts (Ok mid) = said_words header parts texts mid
later_said header parts texts (Err why) = Err why

said_first : (header : Option Header) (part : Part) (parts : List Part) (text : List ℕ) (texts : List (List ℕ)) (said more : Said) → said_words header (part ∷ parts) (text ∷ texts) said ≡ Ok more → SaidFirst header part parts texts said more
said_first header part parts text texts said more e = go (said_word header part text said) refl e
  where
    go : (r : Result Said Cause) → said_word header part text said ≡ r → later_said header parts texts r ≡ Ok more → SaidFirst header part parts texts said more
    go (Ok mid) is later = record { mid = mid; says = says_so header part text said mid is; later = later }
    go (Err why) is later = absurd (cc)

pub words_in_range : (header : Option Header) (parts : List Part) (texts : List (List ℕ)) (said more : Said) → said_words header parts texts said ≡ Ok more → IsSaid header said → IsSaid header more
words_in_range header [] texts said more e is = subst (IsSaid header) (let same : said ≡ more = cc in same) is
words_in_range header (part ∷ parts) [] said more e is = subst (IsSaid header) (let same : said ≡ more = cc in same) is
words_in_range header (part ∷ parts) (text ∷ texts) said more e is =
    let first = said_first header part parts text texts said more e in
    words_in_range header parts texts first.mid more first.later (said_more header part said first.mid first.says is)

-- ---- the number of a form

-- the range of the last number of a form that has a range of its own
abbrev pub count_of : List Part → Option (ℕ × ℕ)
count_of [] = None
count_of (Count least most ∷ parts) = option_or (count_of parts) (Some (least, most))
count_of (part ∷ parts) = count_of parts

-- the number is in it
abbrev pub IsCounted : Option (ℕ × ℕ) → Said → Said → Type 0
IsCounted None said more = more.count ≡ said.count
IsCounted (Some range) said more = (range.0 ≤ more.count) × (more.count ≤ range.1)

-- a word that is no such number leaves it
counted_same : (range : Option (ℕ × ℕ)) (said mid more : Said) → mid.count ≡ said.count → IsCounted range mid more → IsCounted range said more
counted_same None said mid more same is = is ∙ same
counted_same (Some range) said mid more same is = is

counted_more : (header : Option Header) (part : Part) (parts : List Part) (said mid more : Said) → SaysSo header part said mid → IsCounted (count_of parts) mid more → IsCounted (count_of (part ∷ parts)) said more
counted_more header (Fixed own) parts said mid more says is = counted_same (count_of parts) said mid more (ap (λ (s : Said). s.count) says) is
counted_more None Client parts said mid more says is = counted_same (count_of parts) said mid more (ap (λ (s : Said). s.count) says) is
counted_more (Some h) Client parts said mid more says is = counted_same (count_of parts) said mid more (ap (λ (s : Said). s.count) says.1) is
counted_more None Holder parts said mid more says is = counted_same (count_of parts) said mid more (ap (λ (s : Said). s.count) says) is
counted_more (Some h) Holder parts said mid more says is = counted_same (count_of parts) said mid more (ap (λ (s : Said). s.count) says.1) is
counted_more None OtherHolder parts said mid more says is = counted_same (count_of parts) said mid more (ap (λ (s : Said). s.count) says) is
counted_more (Some h) OtherHolder parts said mid more says is = counted_same (count_of parts) said mid more (ap (λ (s : Said). s.count) says.1) is
counted_more None Centre parts said mid more says is = counted_same (count_of parts) said mid more (ap (λ (s : Said). s.count) says) is
counted_more (Some h) Centre parts said mid more says is = counted_same (count_of parts) said mid more (ap (λ (s : Said). s.count) says.1) is
counted_more None Other parts said mid more says is = counted_same (count_of parts) said mid more (ap (λ (s : Said). s.count) says) is
counted_more (Some h) Other parts said mid more says is = counted_same (count_of parts) said mid more (ap (λ (s : Said). s.count) says.1) is
counted_more None Third parts said mid more says is = counted_same (count_of parts) said mid more (ap (λ (s : Said). s.count) says) is
counted_more (Some h) Third parts said mid more says is = counted_same (count_of parts) said mid more (ap (λ (s : Said). s.count) says.1) is
counted_more header Centres parts said mid more says is = counted_same (count_of parts) said mid more (ap (λ (s : Said). s.count) says.1) is
counted_more header Stable parts said mid more says is = counted_same (count_of parts) said mid more (ap (λ (s : Said). s.count) says.1) is
counted_more header (Count least most) parts said mid more says is = go (count_of parts) is
  where
    go : (range : Option (ℕ × ℕ)) → IsCounted range mid more → IsCounted (option_or range (Some (least, most))) said more
    go None same = let now : mid.count ≡ says.0 = ap (λ (s : Said). s.count) says.1 in let low = says.2.0 in let high = says.2.1 in (omega arith, omega arith)
    go (Some range) within = within
counted_more header Commit parts said mid more says is = counted_same (count_of parts) said mid more (ap (λ (s : Said). s.count) says.1) is
counted_more header Delta parts said mid more says is = counted_same (count_of parts) said mid more (ap (λ (s : Said). s.count) says.1) is
counted_more header Object parts said mid more says is = counted_same (count_of parts) said mid more (ap (λ (s : Said). s.count) says.1) is
counted_more header Summand parts said mid more says is = counted_same (count_of parts) said mid more (ap (λ (s : Said). s.count) says.1) is
counted_more header Bounded parts said mid more says is = counted_same (count_of parts) said mid more (ap (λ (s : Said). s.count) says.1) is
counted_more header Amount parts said mid more says is = counted_same (count_of parts) said mid more (ap (λ (s : Said). s.count) says.1) is
counted_more header Key parts said mid more says is = counted_same (count_of parts) said mid more (ap (λ (s : Said). s.count) says.1) is
counted_more header Name parts said mid more says is = counted_same (count_of parts) said mid more (ap (λ (s : Said). s.count) says.1) is

pub counted_in_range : (header : Option Header) (parts : List Part) (texts : List (List ℕ)) (said more : Said) → length parts ≡ length texts → said_words header parts texts said ≡ Ok more → IsCounted (count_of parts) said more
counted_in_range header [] texts said more same e = let is : said ≡ more = cc in ap (λ (s : Said). s.count) (sym is)
counted_in_range header (part ∷ parts) [] said more same e = absurd (omega arith)
counted_in_range header (part ∷ parts) (text ∷ texts) said more same e =
    let first = said_first header part parts text texts said more e in
    counted_more header part parts said first.mid more first.says (counted_in_range header parts texts first.mid more (omega arith) first.later)

-- ---- two centres

-- one of n centres, and not the one before
abbrev pub IsOther : ℕ → Said → Type 0
IsOther n said = IsCount n said.other × (said.centre ≢ said.other)

other_kept : (n : ℕ) (said more : Said) → more.centre ≡ said.centre → more.other ≡ said.other → IsOther n said → IsOther n more
other_kept n said more centre other is = (let low = is.0.0 in let high = is.0.1 in (omega arith, omega arith), λ e. is.1 (sym centre ∙ (e ∙ other)))

other_put_in : (h : Header) (said more : Said) → SaysSo (Some h) Other said more → IsOther h.n more
other_put_in h said more says =
    subst (IsOther h.n) (sym says.1) (says.2, says.3)

-- a part says nothing of centres
abbrev pub SaysNoCentre : Part → Type 0
SaysNoCentre (Fixed own) = Unit {0}
SaysNoCentre (Count least most) = Unit {0}
SaysNoCentre _ = ⊥

-- such words leave the two centres
route_kept : (h : Header) (parts : List Part) (texts : List (List ℕ)) (said more : Said) → AllByRecursion SaysNoCentre parts → said_words (Some h) parts texts said ≡ Ok more → IsOther h.n said → IsOther h.n more
route_kept h [] texts said more none e is = subst (IsOther h.n) (let same : said ≡ more = cc in same) is
route_kept h (part ∷ parts) [] said more none e is = subst (IsOther h.n) (let same : said ≡ more = cc in same) is
route_kept h (Fixed own ∷ parts) (text ∷ texts) said more none e is =
    let first = said_first (Some h) (Fixed own) parts text texts said more e in
    route_kept h parts texts first.mid more none.1 first.later (subst (IsOther h.n) (sym first.says) is)
route_kept h (Count least most ∷ parts) (text ∷ texts) said more none e is =
    let first = said_first (Some h) (Count least most) parts text texts said more e in
    route_kept h parts texts first.mid more none.1 first.later (other_kept h.n said first.mid (ap (λ (s : Said). s.centre) first.says.1) (ap (λ (s : Said). s.other) first.says.1) is)
route_kept h (part ∷ parts) (text ∷ texts) said more none e is = absurd none.0

-- two centres behind a word, and such words behind them
pub route_said : (h : Header) (own : Word) (parts : List Part) (texts : List (List ℕ)) (said more : Said) → 3 ≤ length texts → AllByRecursion SaysNoCentre parts → said_words (Some h) (Fixed own ∷ Centre ∷ Other ∷ parts) texts said ≡ Ok more → IsOther h.n more
route_said h own parts (a ∷ b ∷ c ∷ texts) said more long none e =
    let first = said_first (Some h) (Fixed own) (Centre ∷ Other ∷ parts) a (b ∷ c ∷ texts) said more e in
    let second = said_first (Some h) Centre (Other ∷ parts) b (c ∷ texts) first.mid more first.later in
    let third = said_first (Some h) Other parts c texts second.mid more second.later in
    route_kept h parts texts third.mid more none third.later (other_put_in h second.mid third.mid third.says)
route_said h own parts [] said more long none e = absurd (omega arith)
route_said h own parts (a ∷ []) said more long none e = absurd (omega arith)
route_said h own parts (a ∷ b ∷ []) said more long none e = absurd (omega arith)

-- ---- three centres

-- another one of n centres than the one before, and a third one
pub record IsThird (n : ℕ) (said : Said) : Type 0 where
  pub other : IsOther n said
  pub third : IsCount n said.third
  pub apart : said.centre ≢ said.third
  pub away : said.other ≢ said.third

third_put_in : (h : Header) (said more : Said) → SaysSo (Some h) Third said more → IsOther h.n said → IsThird h.n more
third_put_in h said more says other = subst (IsThird h.n) (sym says.1) (record { other = other; third = says.2; apart = says.3; away = says.4 })

-- three centres behind a word
pub detour_said : (h : Header) (own : Word) (texts : List (List ℕ)) (said more : Said) → length texts ≡ 4 → said_words (Some h) (Fixed own ∷ Centre ∷ Other ∷ Third ∷ []) texts said ≡ Ok more → IsThird h.n more
detour_said h own (a ∷ b ∷ c ∷ d ∷ texts) said more long e =
    let first = said_first (Some h) (Fixed own) (Centre ∷ Other ∷ Third ∷ []) a (b ∷ c ∷ d ∷ texts) said more e in
    let second = said_first (Some h) Centre (Other ∷ Third ∷ []) b (c ∷ d ∷ texts) first.mid more first.later in
    let third = said_first (Some h) Other (Third ∷ []) c (d ∷ texts) second.mid more second.later in
    let fourth = said_first (Some h) Third [] d texts third.mid more third.later in
    subst (IsThird h.n) (let same : fourth.mid ≡ more = fourth_is fourth.mid more texts fourth.later in same) (third_put_in h third.mid fourth.mid fourth.says (other_put_in h second.mid third.mid third.says))
  where
    fourth_is : (mid more : Said) (texts : List (List ℕ)) → said_words (Some h) [] texts mid ≡ Ok more → mid ≡ more
    fourth_is mid more texts e = cc
detour_said h own [] said more long e = absurd (omega arith)
detour_said h own (a ∷ []) said more long e = absurd (omega arith)
detour_said h own (a ∷ b ∷ []) said more long e = absurd (omega arith)
detour_said h own (a ∷ b ∷ c ∷ []) said more long e = absurd (omega arith)

-- ---- holders

-- a part leaves the client and its share, but for the counter's name
abbrev pub KeepsHolder : Part → Type 0
KeepsHolder (Fixed own) = Unit {0}
KeepsHolder OtherHolder = Unit {0}
KeepsHolder Bounded = Unit {0}
KeepsHolder Amount = Unit {0}
KeepsHolder _ = ⊥

-- what is said has the share of the client that it names
abbrev pub HasOwn : Header → Said → Type 0
HasOwn h said = IsShareOf h.clients said.client said.share

-- such a word leaves it
own_more : (h : Header) (part : Part) (said more : Said) → KeepsHolder part → SaysSo (Some h) part said more → HasOwn h said → HasOwn h more
own_more h (Fixed own) said more keeps says is = subst (HasOwn h) (sym says) is
own_more h OtherHolder said more keeps says is = subst (HasOwn h) (sym says.1) is
own_more h Bounded said more keeps says is = subst (HasOwn h) (sym says.1) is
own_more h Amount said more keeps says is = subst (HasOwn h) (sym says.1) is
own_more h part said more keeps says is = absurd keeps

-- and so do such words
own_kept : (h : Header) (parts : List Part) (texts : List (List ℕ)) (said more : Said) → AllByRecursion KeepsHolder parts → said_words (Some h) parts texts said ≡ Ok more → HasOwn h said → HasOwn h more
own_kept h [] texts said more keep e is = subst (HasOwn h) (let same : said ≡ more = cc in same) is
own_kept h (part ∷ parts) [] said more keep e is = subst (HasOwn h) (let same : said ≡ more = cc in same) is
own_kept h (part ∷ parts) (text ∷ texts) said more keep e is =
    let first = said_first (Some h) part parts text texts said more e in
    own_kept h parts texts first.mid more keep.1 first.later (own_more h part said first.mid keep.0 first.says is)

-- a holder, and such words behind it
pub own_said : (h : Header) (parts : List Part) (texts : List (List ℕ)) (said more : Said) → 1 ≤ length texts → AllByRecursion KeepsHolder parts → said_words (Some h) (Holder ∷ parts) texts said ≡ Ok more → HasOwn h more
own_said h parts [] said more long keep e = absurd (omega arith)
own_said h parts (text ∷ texts) said more long keep e =
    let first = said_first (Some h) Holder parts text texts said more e in
    own_kept h parts texts first.mid more keep first.later (subst (HasOwn h) (sym first.says.1) (refl, refl))

-- another holder than the one before
abbrev pub HasOther : Said → Type 0
HasOther said = IsOtherHolder said.share said.to

-- another holder, and an amount behind it
other_said_last : (h : Header) (texts : List (List ℕ)) (said more : Said) → length texts ≡ 2 → said_words (Some h) (OtherHolder ∷ Amount ∷ []) texts said ≡ Ok more → HasOther more
other_said_last h (a ∷ b ∷ texts) said more long e =
    let first = said_first (Some h) OtherHolder (Amount ∷ []) a (b ∷ texts) said more e in
    let second = said_first (Some h) Amount [] b texts first.mid more first.later in
    let put : HasOther first.mid = subst HasOther (sym first.says.1) first.says.2 in
    let kept : HasOther second.mid = subst HasOther (sym second.says.1) put in
    subst HasOther (last_is second.mid texts second.later) kept
  where
    last_is : (mid : Said) (texts : List (List ℕ)) → said_words (Some h) [] texts mid ≡ Ok more → mid ≡ more
    last_is mid texts e = cc
other_said_last h [] said more long e = absurd (omega arith)
other_said_last h (a ∷ []) said more long e = absurd (omega arith)

-- the words of a gift name another holder
pub gift_said : (h : Header) (own : Word) (texts : List (List ℕ)) (said more : Said) → length texts ≡ 5 → said_words (Some h) (Holder ∷ Fixed own ∷ Bounded ∷ OtherHolder ∷ Amount ∷ []) texts said ≡ Ok more → HasOther more
gift_said h own (a ∷ b ∷ c ∷ texts) said more long e =
    let first = said_first (Some h) Holder (Fixed own ∷ Bounded ∷ OtherHolder ∷ Amount ∷ []) a (b ∷ c ∷ texts) said more e in
    let second = said_first (Some h) (Fixed own) (Bounded ∷ OtherHolder ∷ Amount ∷ []) b (c ∷ texts) first.mid more first.later in
    let third = said_first (Some h) Bounded (OtherHolder ∷ Amount ∷ []) c texts second.mid more second.later in
    other_said_last h texts third.mid more (omega arith) third.later
gift_said h own [] said more long e = absurd (omega arith)
gift_said h own (a ∷ []) said more long e = absurd (omega arith)
gift_said h own (a ∷ b ∷ []) said more long e = absurd (omega arith)
