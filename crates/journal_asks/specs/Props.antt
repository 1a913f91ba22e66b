-- A frame has a spelling in one way.
use Rattle.std.specs.Prelude.{◌≡◌, ◌≤◌, ◌⊎◌, ℕ, zero, suc, refl, Bool, true, List, length, All, slice_index_or, Option, Some, None, IfSome}
use Rattle.std.proofs.Common.{inl, inr, arith}
use Rattle.std.specs.Coded.{code_by, Coded-set, coded_ℕ, coded_bool, ×_prop, le_prop, Unit-prop}
use Rattle.ids_core.specs.Name.{IsNameByte, IsName}
use Rattle.ids_core.specs.declared.limits.TheConstants.{MOST_RECORDS}
use Rattle.ids_core.specs.declared.ids.OpId.{OpId}
use Rattle.ids_core.specs.declared.object.Sort.{Sort}
use Rattle.ids_core.specs.declared.object.Sort.TheVariants.{Counter, Register, Set, Map}
use Rattle.ids_core.specs.Orders.{sort_number}
use Rattle.ids_core.specs.Ascending.{ascends}
use Rattle.tx_core.specs.declared.op.Op.{Op}
use Rattle.tx_core.specs.declared.op.Op.TheVariants.{Inc, Write, Add, Remove, Put, Erase}
use Rattle.tx_core.specs.declared.tx.Update.{Update}
use Rattle.tx_core.specs.declared.tx.Tx.{Tx}
use Rattle.tx_core.specs.declared.tx.Record.{Record}
use Rattle.tx_core.specs.Ops.{sort_of_op}
use Rattle.tx_core.specs.Checks.{is_small_delta, IsTag}
use Rattle.wire_codec.specs.declared.item.Item.{Item}
use Rattle.wire_codec.specs.declared.item.Item.TheVariants.{Rec, Rep}
use Rattle.wire_codec.specs.declared.item.TheConstants.{VERSION}
use Rattle.wire_codec.specs.Spelling.{AreEntries, AreTags, IsSpelledOp, IsSpelledUpdate, IsSpelledTx, IsVectorOf, AreHops, IsSpelledRecord, HasFields, IsSpelled}

-- a test comes out true in one way
pub kind-prop : (b : Bool) → IsProp (b ≡ true)
kind-prop b = Coded-set coded_bool b true

-- numbers are equal in one way
pub by-prop : (a b : ℕ) → IsProp (a ≡ b)
by-prop a b = Coded-set coded_ℕ a b

-- two bounds
within-prop : {a b c d : ℕ} → IsProp ((a ≤ b) × (c ≤ d))
within-prop = ×_prop le_prop le_prop

-- one of two facts, which never hold both
⊎-prop : {A B : Type 0} → IsProp A → IsProp B → (A → B → ⊥) → IsProp (A ⊎ B)
⊎-prop pa pb not_both (inl a) (inl b) = (λ i. inl (pa a b i))
⊎-prop pa pb not_both (inl a) (inr b) = absurd (not_both a b)
⊎-prop pa pb not_both (inr a) (inl b) = absurd (not_both b a)
⊎-prop pa pb not_both (inr a) (inr b) = (λ i. inr (pb a b i))

-- a fact of each element
All-prop : {X : Type 0} (P : X → Type 0) → ((x : X) → IsProp (P x)) → (xs : List X) → IsProp (All P xs)
All-prop P prop xs = λ a b. (λ i. λ k d h. prop (slice_index_or xs k d) (a k d h) (b k d h) i)

-- a byte of a name
letter-prop : (b : ℕ) → IsProp (IsNameByte b)
letter-prop b = ⊎-prop within-prop (⊎-prop within-prop (by-prop b 95) (λ x e. omega (arith, x.1, e))) other
  where
    other : (97 ≤ b) × (b ≤ 122) → ((48 ≤ b) × (b ≤ 57)) ⊎ (b ≡ 95) → ⊥
    other x (inl y) = omega (arith, x.0, y.1)
    other x (inr e) = omega (arith, x.0, e)

-- a name
name-prop : (name : List ℕ) → IsProp (IsName name)
name-prop name = λ a b. (λ i. record { some = le_prop a.some b.some i; most = le_prop a.most b.most i; each = All-prop IsNameByte letter-prop name a.each b.each i })

-- a tag
tag-prop : (id : OpId) → IsProp (IsTag id)
tag-prop id = λ a b. (λ i. record { client = within-prop a.client b.client i; number = within-prop a.number b.number i; place = le_prop a.place b.place i })

-- tags
tags-prop : (over : List OpId) → IsProp (AreTags over)
tags-prop over = λ a b. (λ i. record { few = le_prop a.few b.few i; each = All-prop IsTag tag-prop over a.each b.each i; ascending = kind-prop (ascends over) a.ascending b.ascending i })

-- what an operation carries
op-prop : (op : Op) → IsProp (IsSpelledOp op)
op-prop (Inc delta) = kind-prop (is_small_delta delta)
op-prop (Write word) = name-prop word
op-prop (Add word over) = ×_prop (name-prop word) (tags-prop over)
op-prop (Remove word over) = ×_prop (name-prop word) (tags-prop over)
op-prop (Put key word over) = λ a b. (λ i. (name-prop key a.0 b.0 i, name-prop word a.1 b.1 i, tags-prop over a.2 b.2 i))
op-prop (Erase key over) = ×_prop (name-prop key) (tags-prop over)

-- a kind of objects by its place
to_sort : ℕ → Sort
to_sort zero = Counter
to_sort (suc zero) = Register
to_sort (suc (suc zero)) = Set
to_sort (suc (suc (suc n))) = Map

-- which it is
sort_back : (sort : Sort) → to_sort (sort_number sort) ≡ sort
unfolding to_sort
sort_back Counter = refl
sort_back Register = refl
sort_back Set = refl
sort_back Map = refl

-- kinds of objects are equal in one way
sort-prop : (a b : Sort) → IsProp (a ≡ b)
sort-prop a b = Coded-set (code_by ℕ coded_ℕ sort_number to_sort sort_back) a b

-- an update
update-prop : (update : Update) → IsProp (IsSpelledUpdate update)
update-prop update = λ a b. (λ i. record { name = name-prop update.object.name a.name b.name i; kind = sort-prop (sort_of_op update.op) update.object.sort a.kind b.kind i; op = op-prop update.op a.op b.op i })

-- the entries of a vector
entries-prop : (entries : List ℕ) → IsProp (AreEntries entries)
entries-prop entries = All-prop (λ entry. entry ≤ MOST_RECORDS) (λ entry. le_prop {n = entry} {m = MOST_RECORDS}) entries

-- a transaction
tx-prop : (width : ℕ) (tx : Tx) → IsProp (IsSpelledTx width tx)
tx-prop width tx = λ a b. (λ i. record {
  client = within-prop a.client b.client i;
  number = within-prop a.number b.number i;
  rank = within-prop a.rank b.rank i;
  wide = by-prop (length tx.snap) width a.wide b.wide i;
  snap = entries-prop tx.snap a.snap b.snap i;
  count = within-prop a.count b.count i;
  updates = All-prop IsSpelledUpdate update-prop tx.updates a.updates b.updates i;
})

-- a vector with an entry for a centre
vector-prop : (centre : ℕ) (vector : List ℕ) → IsProp (IsVectorOf centre vector)
vector-prop centre vector = λ a b. (λ i. record { there = within-prop a.there b.there i; few = le_prop a.few b.few i; entries = entries-prop vector a.entries b.entries i })

-- hops
hops-prop : (version hops : ℕ) → IsProp (AreHops version hops)
hops-prop version hops = λ a b. (λ i. (le_prop a.0 b.0 i, λ e. by-prop hops 0 (a.1 e) (b.1 e) i))

-- a record
record-prop : (version : ℕ) (item : Record) (hops : ℕ) → IsProp (IsSpelledRecord version item hops)
record-prop version item hops = λ a b. (λ i. record {
  way = hops-prop version hops a.way b.way i;
  seq = within-prop a.seq b.seq i;
  deps = vector-prop item.stamp.centre item.deps a.deps b.deps i;
  tx = tx-prop (length item.deps) item.tx a.tx b.tx i;
})

-- what the kind of a frame has
fields-prop : (version : ℕ) (item : Item) → IsProp (HasFields version item)
fields-prop version (Rec item hops) = record-prop version item hops
fields-prop version (Rep centre vector) = vector-prop centre vector

-- a frame
frame-prop : (version : ℕ) (item : Item) → IsProp (IsSpelled version item)
frame-prop version item = λ a b. (λ i. record { known = within-prop a.known b.known i; fields = fields-prop version item a.fields b.fields i })

-- a frame that is there
pub some_frame-prop : (frame : Option Item) → IsProp (IfSome frame (IsSpelled VERSION))
some_frame-prop None = Unit-prop
some_frame-prop (Some frame) = frame-prop VERSION frame
