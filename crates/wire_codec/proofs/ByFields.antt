-- Reading field by field, as the functions of this crate do it, reads the fields of the grammar.
use Rattle.std.proofs.Common.{◌≡◌, ℕ, zero, suc, ◌-◌, Bool, true, false, cond, eqb, List, [], ◌∷◌, Option, Some, None, Ok, Err, refl, ◌∙◌}
use Rattle.std.specs.Int.{w8, w16, w32, w64, cast_signed}
use Rattle.ids_core.specs.declared.ids.OpId.{OpId}
use Rattle.ids_core.specs.declared.limits.TheConstants.{MOST_CLIENTS, MOST_CENTRES, MOST_UPDATES, MOST_TAGS, MOST_RECORDS, MOST_NUMBER}
use Rattle.tx_core.specs.declared.op.Op.TheVariants.{Inc, Write, Add, Remove, Put, Erase}
use Rattle.wire_codec.specs.declared.item.Item.TheVariants.{Rec, Rep}
use Rattle.wire_codec.specs.declared.item.TheConstants.{SIGN, OLDEST_VERSION, VERSION}
use Rattle.wire_codec.specs.Fields.{Fields, End, joined, read, number, number_where, bytes_where, times}
use Rattle.wire_codec.specs.Grammar.{name, are_name_bytes, tag, tags_after, tags, op_id, is_place, is_delta, inc, write, add, remove, put, erase, op_of, update, entries, tx, hops_of, record_of, report_of, frame, sort_of, first_code, last_code}
use Rattle.wire_codec.specs.Reading.{◌>>=◌, Reading, name_at, tag_at, tags_after_at, tags_at, inc_at, write_at, add_at, remove_at, put_at, erase_at, op_at, update_at, updates_at, entries_at, tx_at, hops_at, record_at, report_at, item_at, frame_at}
use Rattle.wire_codec.proofs.Joining.{read_joined}

-- a way to read gives what the fields give
record Gives {A : Type 0} (fields : Fields A) (way : List ℕ → Reading A) : Type 0 where
  same : (bytes : List ℕ) → read fields bytes ≡ way bytes

-- the fields themselves
plain : {A : Type 0} (fields : Fields A) → Gives fields (read fields)
plain fields = record { same = λ bytes. refl }

-- no field
told : {A : Type 0} (x : A) → Gives (End x) (λ bytes. Ok (x, bytes))
told x = record { same = λ bytes. refl }

-- equal first steps, and second steps that are equal at each value
bind_same : {A B : Type 0} (r s : Reading A) (f g : A × List ℕ → Reading B) → r ≡ s → ((x : A × List ℕ) → f x ≡ g x) → (r >>= f) ≡ (s >>= g)
bind_same r (Ok x) f g e h = rw e (h x)
bind_same r (Err fault) f g e h = rw e refl

-- one way behind another
both : {A B : Type 0} {f : Fields A} {g : A → Fields B} {first : List ℕ → Reading A} {next : A → List ℕ → Reading B} → Gives f first → ((x : A) → Gives (g x) (next x)) → Gives (joined f g) (λ bytes. first bytes >>= λ x. next x.0 x.1)
both {f = f} {g = g} {first = first} {next = next} a b = record {
  same = λ bytes. read_joined f g bytes ∙ bind_same (read f bytes) (first bytes) (λ x. read (g x.0) x.1) (λ x. next x.0 x.1) (a.same bytes) (λ x. (b x.0).same x.1);
}

-- ---- names and tags

name_gives : Gives name name_at
unfolding name name_at
name_gives = both (plain (number w8 1 32)) (λ len. plain (bytes_where len are_name_bytes))

tag_gives : (last : Option OpId) → Gives (tag last) (tag_at last)
unfolding tag tag_at
tag_gives last = both (plain (number w32 1 MOST_CLIENTS)) (λ client. both (plain (number w64 1 MOST_NUMBER)) (λ count. both (plain (number_where w16 (is_place last client count))) (λ place. told (op_id client count place))))

tags_after_give : (n : ℕ) (last : Option OpId) → Gives (tags_after n last) (tags_after_at n last)
unfolding tags_after tags_after_at
tags_after_give zero last = told []
tags_after_give (suc n) last = both (tag_gives last) (λ id. both (tags_after_give n (Some id)) (λ ids. told (id ∷ ids)))

tags_give : Gives tags tags_at
unfolding tags tags_at
tags_give = both (plain (number w16 0 MOST_TAGS)) (λ count. tags_after_give count None)

-- ---- operations

inc_gives : Gives inc inc_at
unfolding inc inc_at
inc_gives = both (plain (number_where w64 is_delta)) (λ n. told (Inc (cast_signed w64 n)))

write_gives : Gives write write_at
unfolding write write_at
write_gives = both name_gives (λ word. told (Write word))

add_gives : Gives add add_at
unfolding add add_at
add_gives = both name_gives (λ word. both tags_give (λ over. told (Add word over)))

remove_gives : Gives remove remove_at
unfolding remove remove_at
remove_gives = both name_gives (λ word. both tags_give (λ over. told (Remove word over)))

put_gives : Gives put put_at
unfolding put put_at
put_gives = both name_gives (λ key. both name_gives (λ word. both tags_give (λ over. told (Put key word over))))

erase_gives : Gives erase erase_at
unfolding erase erase_at
erase_gives = both name_gives (λ key. both tags_give (λ over. told (Erase key over)))

-- a choice between two ways
choice : {A : Type 0} (test : Bool) {f g : Fields A} {first other : List ℕ → Reading A} → Gives f first → Gives g other → Gives (cond test f g) (λ bytes. cond test (first bytes) (other bytes))
choice true a b = a
choice false a b = b

op_gives : (code : ℕ) → Gives (op_of code) (op_at code)
unfolding op_of op_at
op_gives code =
    choice (eqb code 1) inc_gives (choice (eqb code 2) write_gives (choice (eqb code 3) add_gives (choice (eqb code 4) remove_gives (choice (eqb code 5) put_gives erase_gives))))

-- ---- updates and transactions

update_gives : Gives update update_at
unfolding update update_at
update_gives =
    both (plain (number w8 1 4)) (λ sort.
    both name_gives (λ named.
    both (plain (number w8 (first_code (sort_of sort)) (last_code (sort_of sort)))) (λ code.
    both (op_gives code) (λ op. told (record { object = record { sort = sort_of sort; name = named }; op = op })))))

updates_give : (n : ℕ) → Gives (times n update) (updates_at n)
unfolding updates_at
updates_give zero = told []
updates_give (suc n) = both update_gives (λ u. both (updates_give n) (λ us. told (u ∷ us)))

entries_give : (n : ℕ) → Gives (entries n) (entries_at n)
unfolding entries entries_at
entries_give zero = told []
entries_give (suc n) = both (plain (number w64 0 MOST_RECORDS)) (λ entry. both (entries_give n) (λ others. told (entry ∷ others)))

tx_gives : (width : ℕ) → Gives (tx width) (tx_at width)
unfolding tx tx_at
tx_gives width =
    both (plain (number w32 1 MOST_CLIENTS)) (λ client.
    both (plain (number w64 1 MOST_NUMBER)) (λ count.
    both (plain (number w64 1 MOST_NUMBER)) (λ rank.
    both (entries_give width) (λ snap.
    both (plain (number w16 1 MOST_UPDATES)) (λ updates.
    both (updates_give updates) (λ list. told (record { dot = record { client = client; number = count }; rank = rank; snap = snap; updates = list })))))))

-- ---- records, reports and frames

hops_give : (version : ℕ) → Gives (hops_of version) (hops_at version)
unfolding hops_of hops_at
hops_give version = choice (eqb version OLDEST_VERSION) (told 0) (plain (number w8 0 (MOST_CENTRES - 1)))

record_gives : (version centre : ℕ) → Gives (record_of version centre) (record_at version centre)
unfolding record_of record_at
record_gives version centre =
    both (hops_give version) (λ hops.
    both (plain (number w64 1 MOST_RECORDS)) (λ seq.
    both (plain (number w8 centre MOST_CENTRES)) (λ width.
    both (entries_give width) (λ deps.
    both (tx_gives width) (λ taken. told (Rec (record { stamp = record { centre = centre; seq = seq }; deps = deps; tx = taken }) hops))))))

report_gives : (centre : ℕ) → Gives (report_of centre) (report_at centre)
unfolding report_of report_at
report_gives centre = both (plain (number w8 centre MOST_CENTRES)) (λ width. both (entries_give width) (λ vector. told (Rep centre vector)))

item_gives : (version kind centre : ℕ) → Gives (cond (eqb kind 1) (record_of version centre) (report_of centre)) (item_at version kind centre)
unfolding item_at
item_gives version kind centre = choice (eqb kind 1) (record_gives version centre) (report_gives centre)

frame_gives : Gives frame frame_at
unfolding frame frame_at
frame_gives =
    both (plain (number w8 SIGN SIGN)) (λ sign.
    both (plain (number w8 OLDEST_VERSION VERSION)) (λ version.
    both (plain (number w8 1 2)) (λ kind.
    both (plain (number w8 1 MOST_CENTRES)) (λ centre.
    both (item_gives version kind centre) (λ item. told (version, item))))))

-- the functions read frames
pub frames_read : (bytes : List ℕ) → read frame bytes ≡ frame_at bytes
frames_read bytes = frame_gives.same bytes

-- and so many tags
pub tags_after_read : (n : ℕ) (last : Option OpId) (bytes : List ℕ) → read (tags_after n last) bytes ≡ tags_after_at n last bytes
tags_after_read n last bytes = (tags_after_give n last).same bytes
