-- What reading a frame tells of bytes is the answer, and the only one.
use Rattle.std.proofs.Common.{◌≡◌, ◌≢◌, ℕ, ◌+◌, ◌-◌, ◌<◌, ◌≤◌, Bool, false, List, [], ◌∷◌, ◌++◌, length, take, get_or, Fits, Some, None, Result, Ok, Err, refl, sym, ap, ◌∙◌, subst, append_assoc, append-nil, arith, inl, inr}
use Rattle.std.specs.Prelude.{IfOk}
use Rattle.std.specs.Int.{w8, w16}
use Rattle.std.proofs.Math.Facts.{Fits-lt-pow}
use Rattle.std.proofs.lemmas.List.Elements.{All-from_get_or}
use Rattle.ids_core.specs.declared.ids.OpId.{OpId}
use Rattle.ids_core.specs.declared.memory.NoMemory.{NoMemory}
use Rattle.ids_core.specs.declared.limits.TheConstants.{MOST_TAGS}
use Rattle.ids_core.specs.Ascending.{IsAscending}
use Rattle.std.specs.List.{concat}
use Rattle.std.proofs.lemmas.Bool.{lt-ltb, le-ltb}
use Rattle.std.proofs.lemmas.List.{take-append-le, length-append}
use Rattle.wire_codec.specs.declared.fault.Fault.{Fault}
use Rattle.wire_codec.specs.declared.fault.Fault.TheVariants.{Short, Bad}
use Rattle.wire_codec.specs.declared.fault.Stop.{Stop}
use Rattle.wire_codec.specs.declared.fault.Stop.TheVariants as stops
use Rattle.wire_codec.specs.declared.item.Item.{Item}
use Rattle.wire_codec.specs.declared.item.Decoded.{Decoded}
use Rattle.wire_codec.specs.declared.item.Decoded.TheVariants as decoded
use Rattle.wire_codec.specs.Fields.{Fields, End, Field, EndsEarly, IsFirstFault, after, read, number}
use Rattle.wire_codec.specs.Grammar.{frame}
use Rattle.wire_codec.specs.Spelling.{spelled, IsSpelled}
use Rattle.wire_codec.specs.Answers.{IsAnswer, told}
use Rattle.wire_codec.specs.Reading.{Reading, Fails, frame_at, tags_after_at}
use Rattle.wire_codec.proofs.Stopping.{read_through, IsStop, Stops, stop_of}
use Rattle.wire_codec.proofs.Spells.{AreBytes, ok_same, bytes_behind}
use Rattle.wire_codec.proofs.FieldsSpelled.{ascending_read}
use Rattle.wire_codec.proofs.ByFields.{frames_read, tags_after_read}
use Rattle.wire_codec.proofs.FramesSpelled.{frame_spells}

-- ---- where reading stops, it says so

-- reading stops by a field that is not whole
stops_short : {A : Type 0} (size : ℕ) (allowed : List ℕ → Bool) (next : List ℕ → Fields A) (rest : List ℕ) → length rest < size → read (Field size allowed next) rest ≡ Err Short
stops_short size allowed next rest few = rw (lt-ltb (length rest) size few) refl

-- reading stops by a field that is not allowed
stops_bad : {A : Type 0} (size : ℕ) (allowed : List ℕ → Bool) (next : List ℕ → Fields A) (rest : List ℕ) → size ≤ length rest → allowed (take size rest) ≡ false → read (Field size allowed next) rest ≡ Err (Bad (length rest))
stops_bad size allowed next rest whole bad = rw (le-ltb (length rest) size whole, bad) refl

-- bytes that end early are read as too few
short_read : {A : Type 0} (fields : Fields A) (bytes : List ℕ) → EndsEarly fields bytes → read fields bytes ≡ Err Short
short_read fields bytes h =
    ap (read fields) h.begins.are ∙ read_through h.begins.whole fields (Field h.size h.allowed h.begins.next) h.rest h.begins.left ∙ stops_short h.size h.allowed h.begins.next h.rest h.few

-- the first fault is found
bad_read : {A : Type 0} (fields : Fields A) (bytes : List ℕ) (place : ℕ) → IsFirstFault fields bytes place → (left : ℕ) × (read fields bytes ≡ Err (Bad left)) × (length bytes ≡ place + left)
bad_read fields bytes place h =
    (length h.rest, ap (read fields) h.begins.are ∙ read_through h.begins.whole fields (Field h.size h.allowed h.begins.next) h.rest h.begins.left ∙ stops_bad h.size h.allowed h.begins.next h.rest h.whole h.bad, h.there)

-- ---- what reading says of where it stopped

-- reading gives what it gives where it stopped
seen : {A : Type 0} (fields : Fields A) (bytes : List ℕ) (s : Stops fields bytes) → read fields bytes ≡ read s.left s.rest
seen fields bytes s = ap (read fields) s.are ∙ read_through s.whole fields s.left s.rest s.comes

-- too few bytes: they end early
early_from : {A : Type 0} (fields : Fields A) (bytes : List ℕ) → read fields bytes ≡ Err Short → EndsEarly fields bytes
early_from {A} fields bytes h = by_left s.left s.comes s.stop (sym (seen fields bytes s) ∙ h)
  where
    s : Stops fields bytes
    s = stop_of fields bytes

    by_left : (left : Fields A) → after fields s.whole ≡ Some left → IsStop left s.rest → read left s.rest ≡ Err Short → EndsEarly fields bytes
    by_left (End x) comes stop e = absurd cc
    by_left (Field size allowed next) comes (inl few) e = record { rest = s.rest; size = size; allowed = allowed; begins = record { whole = s.whole; next = next; left = comes; are = s.are }; few = few }
    by_left (Field size allowed next) comes (inr bad) e =
        let other = sym (stops_bad size allowed next s.rest bad.0 bad.1) ∙ e in
        absurd cc

-- a fault: it is the first one, and at this place
fault_from : {A : Type 0} (fields : Fields A) (bytes : List ℕ) (left : ℕ) → read fields bytes ≡ Err (Bad left) → IsFirstFault fields bytes (length bytes - left) × (left ≤ length bytes)
fault_from {A} fields bytes behind h = by_left s.left s.comes s.stop (sym (seen fields bytes s) ∙ h)
  where
    s : Stops fields bytes
    s = stop_of fields bytes

    by_left : (left : Fields A) → after fields s.whole ≡ Some left → IsStop left s.rest → read left s.rest ≡ Err (Bad behind) → IsFirstFault fields bytes (length bytes - behind) × (behind ≤ length bytes)
    by_left (End x) comes stop e = absurd cc
    by_left (Field size allowed next) comes (inl few) e =
        let other = sym (stops_short size allowed next s.rest few) ∙ e in
        absurd cc
    by_left (Field size allowed next) comes (inr bad) e =
        let same = sym (stops_bad size allowed next s.rest bad.0 bad.1) ∙ e in
        let count : length s.rest ≡ behind = cc in
        let all : length bytes ≡ length (concat s.whole) + length s.rest = ap length s.are ∙ length-append (concat s.whole) s.rest in
        (record { rest = s.rest; size = size; allowed = allowed; begins = record { whole = s.whole; next = next; left = comes; are = s.are }; whole = bad.0; bad = bad.1; there = omega (arith, count, all) }, omega (arith, count, all))

-- a value: the bytes are whole fields that tell it, and then the rest
pub whole_from : {A : Type 0} (fields : Fields A) (bytes : List ℕ) (x : A) (rest : List ℕ) → read fields bytes ≡ Ok (x, rest) → (whole : List (List ℕ)) × (after fields whole ≡ Some (End x)) × (bytes ≡ concat whole ++ rest)
whole_from {A} fields bytes x rest h = by_left s.left s.comes s.stop (sym (seen fields bytes s) ∙ h)
  where
    s : Stops fields bytes
    s = stop_of fields bytes

    by_left : (left : Fields A) → after fields s.whole ≡ Some left → IsStop left s.rest → read left s.rest ≡ Ok (x, rest) → (whole : List (List ℕ)) × (after fields whole ≡ Some (End x)) × (bytes ≡ concat whole ++ rest)
    by_left (End y) comes stop e =
        let same = ok_same y x s.rest rest e in
        (s.whole, comes ∙ ap (λ z. Some (End z)) same.0, s.are ∙ ap (λ behind. concat s.whole ++ behind) same.1)
    by_left (Field size allowed next) comes (inl few) e =
        let other = sym (stops_short size allowed next s.rest few) ∙ e in
        absurd cc
    by_left (Field size allowed next) comes (inr bad) e =
        let other = sym (stops_bad size allowed next s.rest bad.0 bad.1) ∙ e in
        absurd cc

-- ---- frames

-- a spelling is read back
pub frame_read : (version : ℕ) (item : Item) (rest : List ℕ) → IsSpelled version item → read frame (spelled version item ++ rest) ≡ Ok ((version, item), rest)
frame_read version item rest h = frame_spells.comes (version, item) rest h

-- what reading tells of bytes is their answer
pub is_answer : (bytes : List ℕ) → AreBytes bytes → IsAnswer bytes (told (length bytes) (read frame bytes))
is_answer bytes all = by_reading (read frame bytes) refl
  where
    by_reading : (r : Reading (ℕ × Item)) → read frame bytes ≡ r → IsAnswer bytes (told (length bytes) r)
    by_reading (Ok x) h =
        let was = frame_spells.goes x.0 bytes x.1 all h in
        let count : length bytes ≡ length (spelled x.0.0 x.0.1) + length x.1 = ap length was.1 ∙ length-append (spelled x.0.0 x.0.1) x.1 in
        record { version = x.0.0; rest = x.1; spelled = was.0; are = was.1; size = omega (arith, count) }
    by_reading (Err Short) h = early_from frame bytes h
    by_reading (Err (Bad left)) h = (fault_from frame bytes left h).0

-- and every answer is that one
pub one_answer : (bytes : List ℕ) (other : Decoded) → IsAnswer bytes other → told (length bytes) (read frame bytes) ≡ other
one_answer bytes (decoded.Whole item used) h =
    let count : length bytes ≡ length (spelled h.version item) + length h.rest = ap length h.are ∙ length-append (spelled h.version item) h.rest in
    let so_many : length bytes - length h.rest ≡ used = omega (arith, count, h.size) in
    ap (told (length bytes)) (ap (read frame) h.are ∙ frame_read h.version item h.rest h.spelled) ∙ ap (decoded.Whole item) so_many
one_answer bytes decoded.Short h = ap (told (length bytes)) (short_read frame bytes h)
one_answer bytes (decoded.Bad place) h =
    let was = bad_read frame bytes place h in
    ap (told (length bytes)) was.1 ∙ ap decoded.Bad (omega (arith, was.2))

-- the answer of a call that did not want memory
pub answered : (bytes : List ℕ) (r : Result Decoded NoMemory) → AreBytes bytes → IfOk r (λ d. d ≡ told (length bytes) (frame_at bytes)) → IfOk r (λ d. IsAnswer bytes d)
answered bytes (Ok d) all e = subst (IsAnswer bytes) (sym (e ∙ ap (told (length bytes)) (sym (frames_read bytes)))) (is_answer bytes all)
answered bytes (Err no_memory) all e = tt

pub only_answer : (bytes : List ℕ) (r : Result Decoded NoMemory) → IfOk r (λ d. d ≡ told (length bytes) (frame_at bytes)) → (other : Decoded) → IsAnswer bytes other → IfOk r (λ d. d ≡ other)
only_answer bytes (Ok d) e other h = e ∙ ap (told (length bytes)) (sym (frames_read bytes)) ∙ one_answer bytes other h
only_answer bytes (Err no_memory) e other h = tt

-- what is left is no more than there was
pub rest_within : (bytes rest : List ℕ) (x : ℕ × Item) → frame_at bytes ≡ Ok (x, rest) → length rest ≤ length bytes
rest_within bytes rest x h =
    let w = whole_from frame bytes x rest (frames_read bytes ∙ h) in
    omega (arith, ap length w.2 ∙ length-append (concat w.0) rest)

pub left_within : (bytes : List ℕ) (stop : Stop) (fault : Fault) (left : ℕ) → stop ≡ stops.Fault fault → fault ≡ Bad left → Fails stop (frame_at bytes) → left ≤ length bytes
left_within bytes stop fault left is bad h =
    let told = subst (λ s. Fails s (frame_at bytes)) (is ∙ ap stops.Fault bad) h in
    (fault_from frame bytes left (frames_read bytes ∙ told)).1

-- a slice of bytes has bytes
pub bytes_of : (bytes : List ℕ) → ((i : ℕ) → Fits w8 (get_or bytes i 0)) → AreBytes bytes
bytes_of bytes each = All-from_get_or (λ byte. byte < 256) bytes 0 (λ i lt. Fits-lt-pow {w = w8} (each i))

-- the tags that are read ascend
pub tags_ascend : (bytes rest behind : List ℕ) (count : ℕ) (ids : List OpId) → AreBytes bytes → read (number w16 0 MOST_TAGS) bytes ≡ Ok (count, rest) → tags_after_at count None rest ≡ Ok (ids, behind) → IsAscending ids
tags_ascend bytes rest behind count ids all first h =
    let w = whole_from (number w16 0 MOST_TAGS) bytes count rest first in
    let are = bytes_behind (concat w.0) rest (subst AreBytes w.2 all) in
    ascending_read count rest behind ids are (tags_after_read count None rest ∙ h)

-- ---- laws

-- a spelling is the bytes of whole fields
pub in_fields : (version : ℕ) (item : Item) → IsSpelled version item → (whole : List (List ℕ)) × (after frame whole ≡ Some (End (version, item))) × (spelled version item ≡ concat whole)
in_fields version item h =
    let bytes = spelled version item in
    let back : read frame bytes ≡ Ok ((version, item), []) = ap (read frame) (sym (append-nil bytes)) ∙ frame_read version item [] h in
    let w = whole_from frame bytes (version, item) [] back in
    (w.0, w.1, w.2 ∙ append-nil (concat w.0))

-- no spelling begins another
pub one_spelling : (version other : ℕ) (item same : Item) (rest behind : List ℕ) → IsSpelled version item → IsSpelled other same → spelled version item ++ rest ≡ spelled other same ++ behind → (version ≡ other) × (item ≡ same) × (rest ≡ behind)
one_spelling version other item same rest behind h k e =
    let one = ok_same (version, item) (other, same) rest behind (sym (frame_read version item rest h) ∙ ap (read frame) e ∙ frame_read other same behind k) in
    (ap (λ (x : ℕ × Item). x.0) one.0, ap (λ (x : ℕ × Item). x.1) one.0, one.1)

-- a front of a spelling ends early
pub front_ends : (version : ℕ) (item : Item) (front more : List ℕ) → IsSpelled version item → spelled version item ≡ front ++ more → more ≢ [] → EndsEarly frame front
front_ends version item front more h e some = by_left s.left s.comes s.stop refl
  where
    s : Stops frame front
    s = stop_of frame front

    back : read frame (front ++ more) ≡ Ok ((version, item), [])
    back = ap (read frame) (sym e ∙ sym (append-nil (spelled version item))) ∙ frame_read version item [] h

    -- with what follows, reading goes on from where it stopped
    on : read s.left (s.rest ++ more) ≡ Ok ((version, item), [])
    on = sym (ap (read frame) (ap (λ bytes. bytes ++ more) s.are ∙ append_assoc (concat s.whole) s.rest more) ∙ read_through s.whole frame s.left (s.rest ++ more) s.comes) ∙ back

    by_left : (left : Fields (ℕ × Item)) → after frame s.whole ≡ Some left → IsStop left s.rest → s.left ≡ left → EndsEarly frame front
    by_left (End x) comes stop is =
        let all = ok_same x (version, item) (s.rest ++ more) [] (sym (ap (λ f. read f (s.rest ++ more)) is) ∙ on) in
        absurd (some (no_more s.rest more all.1))
      where
        no_more : (a b : List ℕ) → a ++ b ≡ [] → b ≡ []
        no_more [] b h = h
        no_more (x ∷ a) b h = absurd cc
    by_left (Field size allowed next) comes (inl few) is = record { rest = s.rest; size = size; allowed = allowed; begins = record { whole = s.whole; next = next; left = comes; are = s.are }; few = few }
    by_left (Field size allowed next) comes (inr bad) is =
        let long : size ≤ length (s.rest ++ more) = omega (arith, length-append s.rest more, bad.0) in
        let same : take size (s.rest ++ more) ≡ take size s.rest = take-append-le size s.rest more bad.0 in
        let other = sym (stops_bad size allowed next (s.rest ++ more) long (ap allowed same ∙ bad.1)) ∙ sym (ap (λ f. read f (s.rest ++ more)) is) ∙ on in
        absurd cc
