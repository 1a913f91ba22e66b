-- The bytes of updates, transactions, records, reports and frames, and what reading them tells.
use Rattle.std.proofs.Common.{◌≡◌, ℕ, ◌+◌, ◌-◌, ◌^◌, ◌<◌, ◌≤◌, Bool, true, false, cond, eqb, List, [], ◌∷◌, ◌++◌, length, refl, sym, ap, ◌∙◌, subst, append_assoc, append-nil, arith}
use Rattle.std.specs.Prelude.{All}
use Rattle.std.specs.Int.{w8, w64, cast_signed, cast_unsigned}
use Rattle.std.specs.List.{flat_map}
use Rattle.std.proofs.lemmas.Bool.{leb-true, eqb-true, eqb-false}
use Rattle.std.proofs.lemmas.Int.{of_z-to_z, to_z-of_z, fits_signed_from_abs}
use Rattle.std.proofs.Math.Facts.{Fits-of_z, Fits-lt-pow}
use Rattle.ids_core.specs.declared.object.Sort.{Sort}
use Rattle.ids_core.specs.declared.object.Sort.TheVariants.{Counter, Register, Set, Map}
use Rattle.ids_core.specs.declared.limits.TheConstants.{MOST_CLIENTS, MOST_CENTRES, MOST_UPDATES, MOST_RECORDS, MOST_NUMBER, MOST_DELTA}
use Rattle.ids_core.specs.Name.{IsName}
use Rattle.ids_core.specs.Orders.{sort_number}
use Rattle.tx_core.specs.declared.op.Op.{Op}
use Rattle.tx_core.specs.declared.op.Op.TheVariants.{Inc, Write, Add, Remove, Put, Erase}
use Rattle.tx_core.specs.declared.tx.Update.{Update}
use Rattle.tx_core.specs.declared.tx.Tx.{Tx}
use Rattle.tx_core.specs.Ops.{sort_of_op, over_of}
use Rattle.tx_core.specs.Checks.{is_within, is_small_delta}
use Rattle.wire_codec.specs.declared.item.Item.{Item}
use Rattle.wire_codec.specs.declared.item.Item.TheVariants.{Rec, Rep}
use Rattle.wire_codec.specs.declared.item.TheConstants.{SIGN, OLDEST_VERSION, VERSION}
use Rattle.wire_codec.specs.Fields.{Fields, End, number}
use Rattle.wire_codec.specs.Grammar.{sort_of, first_code, last_code, is_delta, inc, write, add, remove, put, erase, op_of, update, tx, hops_of, record_of, report_of, frame}
use Rattle.wire_codec.specs.Spelling.{u16_bytes, u32_bytes, u64_bytes, name_bytes, tags_bytes, delta_bytes, op_bytes, update_bytes, entries_bytes, tx_bytes, hops_bytes, record_bytes, spelled, IsSpelledOp, IsSpelledUpdate, IsSpelledTx, AreEntries, AreHops, AreTags, HasFields, IsSpelled}
use Rattle.wire_codec.proofs.Spells.{Spells, ends, seq, fit, times_spell}
use Rattle.wire_codec.proofs.FieldsSpelled.{within_is, is_within_from, in_1, in_2, in_4, in_8, name_spells, tags_spell, entries_spell, three}

-- ---- operations

-- the code of an operation
abbrev code_of : Op → ℕ
code_of (Inc delta) = 1
code_of (Write word) = 2
code_of (Add word over) = 3
code_of (Remove word over) = 4
code_of (Put key word over) = 5
code_of (Erase key over) = 6

-- what follows it
abbrev behind_code : Op → List ℕ
behind_code (Inc delta) = delta_bytes delta
behind_code (Write word) = name_bytes word
behind_code (Add word over) = name_bytes word ++ tags_bytes over
behind_code (Remove word over) = name_bytes word ++ tags_bytes over
behind_code (Put key word over) = name_bytes key ++ name_bytes word ++ tags_bytes over
behind_code (Erase key over) = name_bytes key ++ tags_bytes over

op_bytes_are : (op : Op) → op_bytes op ≡ code_of op ∷ behind_code op
op_bytes_are (Inc delta) = refl
op_bytes_are (Write word) = refl
op_bytes_are (Add word over) = refl
op_bytes_are (Remove word over) = refl
op_bytes_are (Put key word over) = refl
op_bytes_are (Erase key over) = refl

-- an operation of that code that has a spelling
abbrev IsCoded : ℕ → Op → Type 0
IsCoded code op = (code_of op ≡ code) × IsSpelledOp op

-- its parts, where it has them
abbrev bits : Op → ℕ
bits (Inc delta) = cast_unsigned w64 delta
bits _ = 0

abbrev key_in : Op → List ℕ
key_in (Put key word over) = key
key_in (Erase key over) = key
key_in _ = []

abbrev word_in : Op → List ℕ
word_in (Write word) = word
word_in (Add word over) = word
word_in (Remove word over) = word
word_in (Put key word over) = word
word_in _ = []

-- one piece and nothing
one : (a : List ℕ) → a ++ [] ≡ a
one a = append-nil a

-- two
two : (a b : List ℕ) → a ++ (b ++ []) ≡ a ++ b
two a b = ap (λ c. a ++ c) (append-nil b)

inc_spells : Spells inc (IsCoded 1) behind_code
unfolding inc
inc_spells = fit (seq bits (in_8 is_delta) (λ n is. ends (Inc (cast_signed w64 n))) (λ n op is h. ap bits h ∙ of_z-to_z w64 n is.0)) to from same
  where
    to : (op : Op) → ((bits op < 2 ^ 64) × (is_delta (bits op) ≡ true)) × (op ≡ Inc (cast_signed w64 (bits op))) → IsCoded 1 op
    to op h = subst (IsCoded 1) (sym h.1) (refl, h.0.1)

    from : (op : Op) → IsCoded 1 op → ((bits op < 2 ^ 64) × (is_delta (bits op) ≡ true)) × (op ≡ Inc (cast_signed w64 (bits op)))
    from (Inc delta) h =
        let fits = fits_signed_from_abs w64 delta (omega (arith, leb-true _ MOST_DELTA h.1)) in
        let back : cast_signed w64 (cast_unsigned w64 delta) ≡ delta = to_z-of_z w64 delta fits in
        ((Fits-lt-pow {w = w64} (Fits-of_z {w = w64} fits), ap is_small_delta back ∙ h.1), ap Inc (sym back))
    from _ h = absurd (omega (arith, h.0))

    same : (op : Op) → IsCoded 1 op → u64_bytes (bits op) ++ [] ≡ behind_code op
    same (Inc delta) h = one (delta_bytes delta)
    same _ h = absurd (omega (arith, h.0))

write_spells : Spells write (IsCoded 2) behind_code
unfolding write
write_spells = fit (seq word_in name_spells (λ word is. ends (Write word)) (λ word op is h. ap word_in h)) to from same
  where
    to : (op : Op) → IsName (word_in op) × (op ≡ Write (word_in op)) → IsCoded 2 op
    to op h = subst (IsCoded 2) (sym h.1) (refl, h.0)

    from : (op : Op) → IsCoded 2 op → IsName (word_in op) × (op ≡ Write (word_in op))
    from (Write word) h = (h.1, refl)
    from _ h = absurd (omega (arith, h.0))

    same : (op : Op) → IsCoded 2 op → name_bytes (word_in op) ++ [] ≡ behind_code op
    same (Write word) h = one (name_bytes word)
    same _ h = absurd (omega (arith, h.0))

add_spells : Spells add (IsCoded 3) behind_code
unfolding add
add_spells = fit (seq word_in name_spells (λ word w. seq over_of tags_spell (λ over o. ends (Add word over)) (λ over op is h. ap over_of h)) (λ word op is h. ap word_in h.1)) to from same
  where
    to : (op : Op) → IsName (word_in op) × (AreTags (over_of op) × (op ≡ Add (word_in op) (over_of op))) → IsCoded 3 op
    to op h = subst (IsCoded 3) (sym h.1.1) (refl, (h.0, h.1.0))

    from : (op : Op) → IsCoded 3 op → IsName (word_in op) × (AreTags (over_of op) × (op ≡ Add (word_in op) (over_of op)))
    from (Add word over) h = (h.1.0, (h.1.1, refl))
    from _ h = absurd (omega (arith, h.0))

    same : (op : Op) → IsCoded 3 op → name_bytes (word_in op) ++ (tags_bytes (over_of op) ++ []) ≡ behind_code op
    same (Add word over) h = two (name_bytes word) (tags_bytes over)
    same _ h = absurd (omega (arith, h.0))

remove_spells : Spells remove (IsCoded 4) behind_code
unfolding remove
remove_spells = fit (seq word_in name_spells (λ word w. seq over_of tags_spell (λ over o. ends (Remove word over)) (λ over op is h. ap over_of h)) (λ word op is h. ap word_in h.1)) to from same
  where
    to : (op : Op) → IsName (word_in op) × (AreTags (over_of op) × (op ≡ Remove (word_in op) (over_of op))) → IsCoded 4 op
    to op h = subst (IsCoded 4) (sym h.1.1) (refl, (h.0, h.1.0))

    from : (op : Op) → IsCoded 4 op → IsName (word_in op) × (AreTags (over_of op) × (op ≡ Remove (word_in op) (over_of op)))
    from (Remove word over) h = (h.1.0, (h.1.1, refl))
    from _ h = absurd (omega (arith, h.0))

    same : (op : Op) → IsCoded 4 op → name_bytes (word_in op) ++ (tags_bytes (over_of op) ++ []) ≡ behind_code op
    same (Remove word over) h = two (name_bytes word) (tags_bytes over)
    same _ h = absurd (omega (arith, h.0))

put_spells : Spells put (IsCoded 5) behind_code
unfolding put
put_spells =
    fit (seq key_in name_spells (λ key k.
    seq word_in name_spells (λ word w.
    seq over_of tags_spell (λ over o. ends (Put key word over))
    (λ over op is h. ap over_of h))
    (λ word op is h. ap word_in h.1))
    (λ key op is h. ap key_in h.1.1))
    to from same
  where
    to : (op : Op) → IsName (key_in op) × (IsName (word_in op) × (AreTags (over_of op) × (op ≡ Put (key_in op) (word_in op) (over_of op)))) → IsCoded 5 op
    to op h = subst (IsCoded 5) (sym h.1.1.1) (refl, (h.0, h.1.0, h.1.1.0))

    from : (op : Op) → IsCoded 5 op → IsName (key_in op) × (IsName (word_in op) × (AreTags (over_of op) × (op ≡ Put (key_in op) (word_in op) (over_of op))))
    from (Put key word over) h = (h.1.0, (h.1.1, (h.1.2, refl)))
    from _ h = absurd (omega (arith, h.0))

    same : (op : Op) → IsCoded 5 op → name_bytes (key_in op) ++ (name_bytes (word_in op) ++ (tags_bytes (over_of op) ++ [])) ≡ behind_code op
    same (Put key word over) h = three (name_bytes key) (name_bytes word) (tags_bytes over)
    same _ h = absurd (omega (arith, h.0))

erase_spells : Spells erase (IsCoded 6) behind_code
unfolding erase
erase_spells = fit (seq key_in name_spells (λ key k. seq over_of tags_spell (λ over o. ends (Erase key over)) (λ over op is h. ap over_of h)) (λ key op is h. ap key_in h.1)) to from same
  where
    to : (op : Op) → IsName (key_in op) × (AreTags (over_of op) × (op ≡ Erase (key_in op) (over_of op))) → IsCoded 6 op
    to op h = subst (IsCoded 6) (sym h.1.1) (refl, (h.0, h.1.0))

    from : (op : Op) → IsCoded 6 op → IsName (key_in op) × (AreTags (over_of op) × (op ≡ Erase (key_in op) (over_of op)))
    from (Erase key over) h = (h.1.0, (h.1.1, refl))
    from _ h = absurd (omega (arith, h.0))

    same : (op : Op) → IsCoded 6 op → name_bytes (key_in op) ++ (tags_bytes (over_of op) ++ []) ≡ behind_code op
    same (Erase key over) h = two (name_bytes key) (tags_bytes over)
    same _ h = absurd (omega (arith, h.0))

op_spells : (code : ℕ) → 1 ≤ code → code ≤ 6 → Spells (op_of code) (IsCoded code) behind_code
unfolding op_of
op_spells code low high = by_code (eqb code 1) (eqb code 2) (eqb code 3) (eqb code 4) (eqb code 5) refl refl refl refl refl
  where
    at : {n : ℕ} {f : Fields Op} → code ≡ n → Spells f (IsCoded n) behind_code → Spells f (IsCoded code) behind_code
    at {n} {f} e s = subst (λ m. Spells f (IsCoded m) behind_code) (sym e) s

    by_code : (a b c d e : Bool) → eqb code 1 ≡ a → eqb code 2 ≡ b → eqb code 3 ≡ c → eqb code 4 ≡ d → eqb code 5 ≡ e → Spells (cond a inc (cond b write (cond c add (cond d remove (cond e put erase))))) (IsCoded code) behind_code
    by_code true b c d e at_1 at_2 at_3 at_4 at_5 = at (eqb-true code 1 at_1) inc_spells
    by_code false true c d e at_1 at_2 at_3 at_4 at_5 = at (eqb-true code 2 at_2) write_spells
    by_code false false true d e at_1 at_2 at_3 at_4 at_5 = at (eqb-true code 3 at_3) add_spells
    by_code false false false true e at_1 at_2 at_3 at_4 at_5 = at (eqb-true code 4 at_4) remove_spells
    by_code false false false false true at_1 at_2 at_3 at_4 at_5 = at (eqb-true code 5 at_5) put_spells
    by_code false false false false false at_1 at_2 at_3 at_4 at_5 =
        at (last (eqb-false code 1 at_1) (eqb-false code 2 at_2) (eqb-false code 3 at_3) (eqb-false code 4 at_4) (eqb-false code 5 at_5)) erase_spells
      where
        last : (code ≡ 1 → ⊥) → (code ≡ 2 → ⊥) → (code ≡ 3 → ⊥) → (code ≡ 4 → ⊥) → (code ≡ 5 → ⊥) → code ≡ 6
        last p q r s t = omega arith

-- ---- updates

-- the kind of a byte, and the byte of a kind
sort_back : (n : ℕ) → 1 ≤ n → n ≤ 4 → sort_number (sort_of n) + 1 ≡ n
sort_back n low high = by_number (eqb n 1) (eqb n 2) (eqb n 3) refl refl refl
  where
    by_number : (a b c : Bool) → eqb n 1 ≡ a → eqb n 2 ≡ b → eqb n 3 ≡ c → sort_number (cond a Counter (cond b Register (cond c Set Map))) + 1 ≡ n
    by_number true b c p q r = sym (eqb-true n 1 p)
    by_number false true c p q r = sym (eqb-true n 2 q)
    by_number false false true p q r = sym (eqb-true n 3 r)
    by_number false false false p q r = last (eqb-false n 1 p) (eqb-false n 2 q) (eqb-false n 3 r)
      where
        last : (n ≡ 1 → ⊥) → (n ≡ 2 → ⊥) → (n ≡ 3 → ⊥) → 4 ≡ n
        last p q r = omega arith

sort_again : (sort : Sort) → sort_of (sort_number sort + 1) ≡ sort
sort_again Counter = refl
sort_again Register = refl
sort_again Set = refl
sort_again Map = refl

-- the codes of a kind are those of its operations
codes_within : (sort : Sort) → (1 ≤ first_code sort) × (last_code sort ≤ 6)
codes_within Counter = (omega arith, omega arith)
codes_within Register = (omega arith, omega arith)
codes_within Set = (omega arith, omega arith)
codes_within Map = (omega arith, omega arith)

kind_from : (sort : Sort) (op : Op) → first_code sort ≤ code_of op → code_of op ≤ last_code sort → sort_of_op op ≡ sort
kind_from Counter (Inc delta) low high = refl
kind_from Register (Write word) low high = refl
kind_from Set (Add word over) low high = refl
kind_from Set (Remove word over) low high = refl
kind_from Map (Put key word over) low high = refl
kind_from Map (Erase key over) low high = refl
kind_from _ _ low high = absurd (omega (arith, low, high))

kind_codes : (op : Op) → (first_code (sort_of_op op) ≤ code_of op) × (code_of op ≤ last_code (sort_of_op op))
kind_codes (Inc delta) = (omega arith, omega arith)
kind_codes (Write word) = (omega arith, omega arith)
kind_codes (Add word over) = (omega arith, omega arith)
kind_codes (Remove word over) = (omega arith, omega arith)
kind_codes (Put key word over) = (omega arith, omega arith)
kind_codes (Erase key over) = (omega arith, omega arith)

-- the byte of an object's kind
abbrev sort_byte : Update → ℕ
sort_byte u = sort_number u.object.sort + 1

-- what the fields of an update tell of it
abbrev UpdateFields : Update → Type 0
UpdateFields u =
    (is_within 1 4 (sort_byte u) ≡ true)
    × (IsName u.object.name
    × ((is_within (first_code (sort_of (sort_byte u))) (last_code (sort_of (sort_byte u))) (code_of u.op) ≡ true)
    × (IsCoded (code_of u.op) u.op × (u ≡ record { object = record { sort = sort_of (sort_byte u); name = u.object.name }; op = u.op }))))

update_spells : Spells update IsSpelledUpdate update_bytes
unfolding update
update_spells =
    fit (seq sort_byte (in_1 (is_within 1 4)) (λ sort s.
    seq (λ (u : Update). u.object.name) name_spells (λ named n.
    seq (λ (u : Update). code_of u.op) (in_1 (is_within (first_code (sort_of sort)) (last_code (sort_of sort)))) (λ code c.
    seq (λ (u : Update). u.op) (coded sort code c) (λ op o. ends (record { object = record { sort = sort_of sort; name = named }; op = op }))
    (λ op u is h. ap (λ (v : Update). v.op) h))
    (λ code u is h. h.0.0))
    (λ named u is h. ap (λ (v : Update). v.object.name) h.1.1))
    (λ sort u is h. ap sort_byte h.1.1.1 ∙ sort_back sort (within_is 1 4 sort is).0 (within_is 1 4 sort is).1))
    to from same
  where
    coded : (sort code : ℕ) → is_within (first_code (sort_of sort)) (last_code (sort_of sort)) code ≡ true → Spells (op_of code) (IsCoded code) behind_code
    coded sort code h =
        let ends = codes_within (sort_of sort) in
        let in_it = within_is (first_code (sort_of sort)) (last_code (sort_of sort)) code h in
        op_spells code (omega (arith, ends, in_it)) (omega (arith, ends, in_it))

    to : (u : Update) → UpdateFields u → IsSpelledUpdate u
    to u h =
        let code = within_is (first_code (sort_of (sort_byte u))) (last_code (sort_of (sort_byte u))) (code_of u.op) h.1.1.0 in
        record { name = h.1.0; kind = kind_from (sort_of (sort_byte u)) u.op code.0 code.1 ∙ sort_again u.object.sort; op = h.1.1.1.0.1 }

    from : (u : Update) → IsSpelledUpdate u → UpdateFields u
    from u h =
        let again : sort_of (sort_byte u) ≡ u.object.sort = sort_again u.object.sort in
        let codes : (first_code (sort_of (sort_byte u)) ≤ code_of u.op) × (code_of u.op ≤ last_code (sort_of (sort_byte u))) = subst (λ (s : Sort). (first_code s ≤ code_of u.op) × (code_of u.op ≤ last_code s)) (h.kind ∙ sym again) (kind_codes u.op) in (
          sort_there u.object.sort,
          (h.name, (is_within_from _ _ (code_of u.op) codes.0 codes.1, ((refl, h.op), λ i. record { object = record { sort = sym again i; name = u.object.name }; op = u.op }))),
        )
      where
        sort_there : (s : Sort) → is_within 1 4 (sort_number s + 1) ≡ true
        sort_there Counter = refl
        sort_there Register = refl
        sort_there Set = refl
        sort_there Map = refl

    same : (u : Update) → IsSpelledUpdate u → sort_byte u ∷ (name_bytes u.object.name ++ (code_of u.op ∷ (behind_code u.op ++ []))) ≡ update_bytes u
    same u h = ap (λ bytes. sort_byte u ∷ (name_bytes u.object.name ++ bytes)) (ap (λ bytes. code_of u.op ∷ bytes) (append-nil (behind_code u.op)) ∙ sym (op_bytes_are u.op))

-- ---- transactions

-- the pieces of a transaction
six : (a b c d e f : List ℕ) → a ++ (b ++ (c ++ (d ++ (e ++ (f ++ []))))) ≡ a ++ b ++ c ++ d ++ e ++ f
six a b c d e f =
    ap (λ r. a ++ (b ++ (c ++ (d ++ (e ++ r))))) (append-nil f)
    ∙ sym (append_assoc (a ++ b ++ c ++ d) e f ∙ append_assoc (a ++ b ++ c) d (e ++ f) ∙ append_assoc (a ++ b) c (d ++ (e ++ f)) ∙ append_assoc a b (c ++ (d ++ (e ++ f))))

-- what the fields of a transaction tell of it
abbrev TxFields : ℕ → Tx → Type 0
TxFields width t =
    ((t.dot.client < 2 ^ 32) × (is_within 1 MOST_CLIENTS t.dot.client ≡ true))
    × (((t.dot.number < 2 ^ 64) × (is_within 1 MOST_NUMBER t.dot.number ≡ true))
    × (((t.rank < 2 ^ 64) × (is_within 1 MOST_NUMBER t.rank ≡ true))
    × (((length t.snap ≡ width) × AreEntries t.snap)
    × (((length t.updates < 2 ^ 16) × (is_within 1 MOST_UPDATES (length t.updates) ≡ true))
    × (((length t.updates ≡ length t.updates) × All IsSpelledUpdate t.updates)
    × (t ≡ record { dot = record { client = t.dot.client; number = t.dot.number }; rank = t.rank; snap = t.snap; updates = t.updates }))))))

tx_spells : (width : ℕ) → Spells (tx width) (IsSpelledTx width) tx_bytes
unfolding tx
tx_spells width =
    fit (seq (λ (t : Tx). t.dot.client) (in_4 (is_within 1 MOST_CLIENTS)) (λ client c.
    seq (λ (t : Tx). t.dot.number) (in_8 (is_within 1 MOST_NUMBER)) (λ count n.
    seq (λ (t : Tx). t.rank) (in_8 (is_within 1 MOST_NUMBER)) (λ rank r.
    seq (λ (t : Tx). t.snap) (entries_spell width) (λ snap s.
    seq (λ (t : Tx). length t.updates) (in_2 (is_within 1 MOST_UPDATES)) (λ updates u.
    seq (λ (t : Tx). t.updates) (times_spell update_spells updates) (λ list l. ends (record { dot = record { client = client; number = count }; rank = rank; snap = snap; updates = list }))
    (λ list t is h. ap (λ (x : Tx). x.updates) h))
    (λ updates t is h. h.0.0))
    (λ snap t is h. ap (λ (x : Tx). x.snap) h.1.1))
    (λ rank t is h. ap (λ (x : Tx). x.rank) h.1.1.1))
    (λ count t is h. ap (λ (x : Tx). x.dot.number) h.1.1.1.1))
    (λ client t is h. ap (λ (x : Tx). x.dot.client) h.1.1.1.1.1))
    to from (λ t h. six (u32_bytes t.dot.client) (u64_bytes t.dot.number) (u64_bytes t.rank) (entries_bytes t.snap) (u16_bytes (length t.updates)) (flat_map update_bytes t.updates))
  where
    to : (t : Tx) → TxFields width t → IsSpelledTx width t
    to t h = record {
      client = within_is 1 MOST_CLIENTS t.dot.client h.0.1;
      number = within_is 1 MOST_NUMBER t.dot.number h.1.0.1;
      rank = within_is 1 MOST_NUMBER t.rank h.1.1.0.1;
      wide = h.1.1.1.0.0;
      snap = h.1.1.1.0.1;
      count = within_is 1 MOST_UPDATES (length t.updates) h.1.1.1.1.0.1;
      updates = h.1.1.1.1.1.0.1;
    }

    from : (t : Tx) → IsSpelledTx width t → TxFields width t
    from t h = (
      (omega (arith, h.client), is_within_from 1 MOST_CLIENTS t.dot.client h.client.0 h.client.1),
      (
        (omega (arith, h.number), is_within_from 1 MOST_NUMBER t.dot.number h.number.0 h.number.1),
        (
          (omega (arith, h.rank), is_within_from 1 MOST_NUMBER t.rank h.rank.0 h.rank.1),
          ((h.wide, h.snap), ((omega (arith, h.count), is_within_from 1 MOST_UPDATES (length t.updates) h.count.0 h.count.1), ((refl, h.updates), refl))),
        ),
      ),
    )

-- ---- records and reports

hops_spell : (version : ℕ) → Spells (hops_of version) (AreHops version) (hops_bytes version)
unfolding hops_of
hops_spell version = by_version (eqb version OLDEST_VERSION) refl
  where
    by_version : (t : Bool) → eqb version OLDEST_VERSION ≡ t → Spells (cond t (End 0) (number w8 0 (MOST_CENTRES - 1))) (AreHops version) (λ hops. cond t [] (hops ∷ []))
    by_version true e = fit (ends 0) (λ hops h. (omega (arith, h), λ is. h)) (λ hops h. h.1 (eqb-true version OLDEST_VERSION e)) (λ hops h. refl)
    by_version false e = fit (in_1 (is_within 0 (MOST_CENTRES - 1)))
        (λ hops h. ((within_is 0 (MOST_CENTRES - 1) hops h).1, λ is. absurd (eqb-false version OLDEST_VERSION e is)))
        (λ hops h. is_within_from 0 (MOST_CENTRES - 1) hops (omega arith) h.0)
        (λ hops h. refl)

-- the parts of an item, where it has them
abbrev hops_in : Item → ℕ
hops_in (Rec item hops) = hops
hops_in (Rep centre vector) = 0

abbrev seq_in : Item → ℕ
seq_in (Rec item hops) = item.stamp.seq
seq_in (Rep centre vector) = 0

abbrev vector_in : Item → List ℕ
vector_in (Rec item hops) = item.deps
vector_in (Rep centre vector) = vector

abbrev tx_in : Item → Tx
tx_in (Rec item hops) = item.tx
tx_in (Rep centre vector) = record { dot = record { client = 0; number = 0 }; rank = 0; snap = []; updates = [] }

abbrev centre_in : Item → ℕ
centre_in (Rec item hops) = item.stamp.centre
centre_in (Rep centre vector) = centre

abbrev kind_in : Item → ℕ
kind_in (Rec item hops) = 1
kind_in (Rep centre vector) = 2

-- what stands behind the centre
abbrev behind_centre : ℕ → Item → List ℕ
behind_centre version (Rec item hops) = record_bytes version item hops
behind_centre version (Rep centre vector) = length vector ∷ entries_bytes vector

-- an item of that kind and centre that has a spelling
abbrev IsItem : ℕ → ℕ → ℕ → Item → Type 0
IsItem version kind centre item = (kind_in item ≡ kind) × ((centre_in item ≡ centre) × HasFields version item)

-- a width from the centre on, and so many entries
abbrev HasWidth : ℕ → Item → Type 0
HasWidth centre item = is_within centre MOST_CENTRES (length (vector_in item)) ≡ true

-- what the fields of a record tell of it
abbrev RecordFields : ℕ → ℕ → Item → Type 0
RecordFields version centre item =
    AreHops version (hops_in item)
    × (((seq_in item < 2 ^ 64) × (is_within 1 MOST_RECORDS (seq_in item) ≡ true))
    × (HasWidth centre item
    × (((length (vector_in item) ≡ length (vector_in item)) × AreEntries (vector_in item))
    × (IsSpelledTx (length (vector_in item)) (tx_in item)
    × (item ≡ Rec (record { stamp = record { centre = centre; seq = seq_in item }; deps = vector_in item; tx = tx_in item }) (hops_in item))))))

-- the pieces of a record
five : (a b : List ℕ) (n : ℕ) (c d : List ℕ) → a ++ (b ++ (n ∷ (c ++ (d ++ [])))) ≡ a ++ b ++ (n ∷ (c ++ d))
five a b n c d = ap (λ r. a ++ (b ++ (n ∷ (c ++ r)))) (append-nil d) ∙ sym (append_assoc a b (n ∷ (c ++ d)))

record_spells : (version centre : ℕ) → 1 ≤ centre → Spells (record_of version centre) (IsItem version 1 centre) (behind_centre version)
unfolding record_of
record_spells version centre some =
    fit (seq hops_in (hops_spell version) (λ hops h.
    seq seq_in (in_8 (is_within 1 MOST_RECORDS)) (λ number s.
    seq (λ (item : Item). length (vector_in item)) (in_1 (is_within centre MOST_CENTRES)) (λ width w.
    seq vector_in (entries_spell width) (λ deps d.
    seq tx_in (tx_spells width) (λ taken t. ends (Rec (record { stamp = record { centre = centre; seq = number }; deps = deps; tx = taken }) hops))
    (λ taken item is h. ap tx_in h))
    (λ deps item is h. ap vector_in h.1))
    (λ width item is h. h.0.0))
    (λ number item is h. ap seq_in h.1.1.1))
    (λ hops item is h. ap hops_in h.1.1.1.1))
    to from same
  where
    to : (item : Item) → RecordFields version centre item → IsItem version 1 centre item
    to item h =
        let width = within_is centre MOST_CENTRES (length (vector_in item)) h.1.1.0 in
        subst (IsItem version 1 centre) (sym h.1.1.1.1.1) (
          refl,
          (
            refl,
            record {
              way = h.0;
              seq = within_is 1 MOST_RECORDS (seq_in item) h.1.0.1;
              deps = record { there = (some, width.0); few = width.1; entries = h.1.1.1.0.1 };
              tx = h.1.1.1.1.0;
            },
          ),
        )

    from : (item : Item) → IsItem version 1 centre item → RecordFields version centre item
    from (Rec item hops) h =
        let fields = h.1.1 in
        let wide : centre ≤ length item.deps = omega (arith, h.1.0, fields.deps.there) in (
          fields.way,
          (
            (omega (arith, fields.seq), is_within_from 1 MOST_RECORDS item.stamp.seq fields.seq.0 fields.seq.1),
            (is_within_from centre MOST_CENTRES (length item.deps) wide fields.deps.few, ((refl, fields.deps.entries), (fields.tx, λ i. Rec (record { stamp = record { centre = h.1.0 i; seq = item.stamp.seq }; deps = item.deps; tx = item.tx }) hops))),
          ),
        )
    from (Rep centre vector) h = absurd (omega (arith, h.0))

    same : (item : Item) → IsItem version 1 centre item → hops_bytes version (hops_in item) ++ (u64_bytes (seq_in item) ++ (length (vector_in item) ∷ (entries_bytes (vector_in item) ++ (tx_bytes (tx_in item) ++ [])))) ≡ behind_centre version item
    same (Rec item hops) h = five (hops_bytes version hops) (u64_bytes item.stamp.seq) (length item.deps) (entries_bytes item.deps) (tx_bytes item.tx)
    same (Rep centre vector) h = absurd (omega (arith, h.0))

-- what the fields of a report tell of it
abbrev ReportFields : ℕ → Item → Type 0
ReportFields centre item = HasWidth centre item × (((length (vector_in item) ≡ length (vector_in item)) × AreEntries (vector_in item)) × (item ≡ Rep centre (vector_in item)))

report_spells : (version centre : ℕ) → 1 ≤ centre → Spells (report_of centre) (IsItem version 2 centre) (behind_centre version)
unfolding report_of
report_spells version centre some =
    fit (seq (λ (item : Item). length (vector_in item)) (in_1 (is_within centre MOST_CENTRES)) (λ width w.
    seq vector_in (entries_spell width) (λ vector v. ends (Rep centre vector))
    (λ vector item is h. ap vector_in h))
    (λ width item is h. h.0.0))
    to from same
  where
    to : (item : Item) → ReportFields centre item → IsItem version 2 centre item
    to item h =
        let width = within_is centre MOST_CENTRES (length (vector_in item)) h.0 in
        subst (IsItem version 2 centre) (sym h.1.1) (refl, (refl, record { there = (some, width.0); few = width.1; entries = h.1.0.1 }))

    from : (item : Item) → IsItem version 2 centre item → ReportFields centre item
    from (Rec item hops) h = absurd (omega (arith, h.0))
    from (Rep of_centre vector) h =
        let fields = h.1.1 in
        (is_within_from centre MOST_CENTRES (length vector) (omega (arith, h.1.0, fields.there)) fields.few, ((refl, fields.entries), λ i. Rep (h.1.0 i) vector))

    same : (item : Item) → IsItem version 2 centre item → length (vector_in item) ∷ (entries_bytes (vector_in item) ++ []) ≡ behind_centre version item
    same (Rec item hops) h = absurd (omega (arith, h.0))
    same (Rep of_centre vector) h = ap (λ bytes. length vector ∷ bytes) (append-nil (entries_bytes vector))

-- ---- frames

item_spells : (version kind centre : ℕ) → 1 ≤ kind → kind ≤ 2 → 1 ≤ centre → Spells (cond (eqb kind 1) (record_of version centre) (report_of centre)) (IsItem version kind centre) (behind_centre version)
item_spells version kind centre low high some = by_kind (eqb kind 1) refl
  where
    by_kind : (t : Bool) → eqb kind 1 ≡ t → Spells (cond t (record_of version centre) (report_of centre)) (IsItem version kind centre) (behind_centre version)
    by_kind true e = subst (λ n. Spells (record_of version centre) (IsItem version n centre) (behind_centre version)) (sym (eqb-true kind 1 e)) (record_spells version centre some)
    by_kind false e = subst (λ n. Spells (report_of centre) (IsItem version n centre) (behind_centre version)) (other (eqb-false kind 1 e)) (report_spells version centre some)
      where
        other : (kind ≡ 1 → ⊥) → 2 ≡ kind
        other not_one = omega arith

-- the bytes of a frame
spelled_as : (version : ℕ) (item : Item) → spelled version item ≡ SIGN ∷ version ∷ kind_in item ∷ centre_in item ∷ behind_centre version item
spelled_as version (Rec item hops) = refl
spelled_as version (Rep centre vector) = refl

-- what the fields of a frame tell of it
abbrev FrameFields : ℕ × Item → Type 0
FrameFields x =
    (is_within SIGN SIGN SIGN ≡ true)
    × ((is_within OLDEST_VERSION VERSION x.0 ≡ true)
    × ((is_within 1 2 (kind_in x.1) ≡ true)
    × ((is_within 1 MOST_CENTRES (centre_in x.1) ≡ true)
    × (IsItem x.0 (kind_in x.1) (centre_in x.1) x.1 × (x ≡ (x.0, x.1))))))

-- an item that has a spelling is of a centre
is_centre : (version : ℕ) (item : Item) → HasFields version item → (1 ≤ centre_in item) × (centre_in item ≤ MOST_CENTRES)
is_centre version (Rec item hops) h = (h.deps.there.0, omega (arith, h.deps.there, h.deps.few))
is_centre version (Rep centre vector) h = (h.there.0, omega (arith, h.there, h.few))

is_kind : (item : Item) → is_within 1 2 (kind_in item) ≡ true
is_kind (Rec item hops) = refl
is_kind (Rep centre vector) = refl

pub frame_spells : Spells frame (λ x. IsSpelled x.0 x.1) (λ x. spelled x.0 x.1)
unfolding frame
frame_spells =
    fit (seq (λ (x : ℕ × Item). SIGN) (in_1 (is_within SIGN SIGN)) (λ sign s.
    seq (λ (x : ℕ × Item). x.0) (in_1 (is_within OLDEST_VERSION VERSION)) (λ version v.
    seq (λ (x : ℕ × Item). kind_in x.1) (in_1 (is_within 1 2)) (λ kind k.
    seq (λ (x : ℕ × Item). centre_in x.1) (in_1 (is_within 1 MOST_CENTRES)) (λ centre c.
    seq (λ (x : ℕ × Item). x.1) (item_spells version kind centre (within_is 1 2 kind k).0 (within_is 1 2 kind k).1 (within_is 1 MOST_CENTRES centre c).0) (λ item i. told version item)
    (λ item x is h. ap (λ (y : ℕ × Item). y.1) h))
    (λ centre x is h. h.0.1.0))
    (λ kind x is h. h.1.0.0))
    (λ version x is h. ap (λ (y : ℕ × Item). y.0) h.1.1.1))
    (λ sign x is h. only sign is))
    to from same
  where
    told : (version : ℕ) (item : Item) → Spells (End (version, item)) (λ (y : ℕ × Item). y ≡ (version, item)) (λ y. [])
    told version item = ends (version, item)

    only : (sign : ℕ) → is_within SIGN SIGN sign ≡ true → SIGN ≡ sign
    only sign is = omega (arith, within_is SIGN SIGN sign is)

    to : (x : ℕ × Item) → FrameFields x → IsSpelled x.0 x.1
    to x h = record { known = within_is OLDEST_VERSION VERSION x.0 h.1.0; fields = h.1.1.1.1.0.1.1 }

    from : (x : ℕ × Item) → IsSpelled x.0 x.1 → FrameFields x
    from x h =
        let centre = is_centre x.0 x.1 h.fields in
        (refl, (is_within_from OLDEST_VERSION VERSION x.0 h.known.0 h.known.1, (is_kind x.1, (is_within_from 1 MOST_CENTRES (centre_in x.1) centre.0 centre.1, ((refl, (refl, h.fields)), refl)))))

    same : (x : ℕ × Item) → IsSpelled x.0 x.1 → SIGN ∷ x.0 ∷ kind_in x.1 ∷ centre_in x.1 ∷ (behind_centre x.0 x.1 ++ []) ≡ spelled x.0 x.1
    same x h = ap (λ bytes. SIGN ∷ x.0 ∷ kind_in x.1 ∷ centre_in x.1 ∷ bytes) (append-nil (behind_centre x.0 x.1)) ∙ sym (spelled_as x.0 x.1)
