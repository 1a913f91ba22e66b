-- The bytes of the parts of a centre, and what reading them tells.
use Rattle.std.proofs.Common.{◌≡◌, ◌==◌, ℕ, zero, suc, ◌≤◌, Bool, true, false, List, ◌++◌, length, refl, sym, append_assoc, arith}
use Rattle.ids_core.specs.declared.limits.TheConstants.{MOST_CENTRES}
use Rattle.vv_core.specs.declared.stamp.Stamp.{Stamp}
use Rattle.tx_core.specs.declared.part.RestPart.{RestPart}
use Rattle.tx_core.specs.Checks.{is_within}
use Rattle.dc_talk.specs.declared.settings.Settings.{Settings}
use Rattle.dup_guard.specs.declared.noted.Noted.{Noted}
use Rattle.check_point.specs.declared.part.Folded.{Folded}
use Rattle.wire_codec.specs.Spelling.{u32_bytes, u64_bytes}
use Rattle.wire_codec.proofs.FieldsSpelled.{within_is, is_within_from, in_1, in_4}
use Rattle.state_codec.specs.Spelling.{list_bytes, part_bytes, IsSpelledPart}
use Rattle.state_codec.specs.Reading.{Reading}
use Rattle.state_codec.proofs.Ways.{Tells, of_fields, fit, seq, made, times_tell}
use Rattle.state_codec.proofs.Spelled.{any_tells, named_tells}
use Rattle.parts_codec.specs.declared.plain.PlainPoint.{PlainPoint}
use Rattle.parts_codec.specs.declared.plain.PlainApplied.{PlainApplied}
use Rattle.parts_codec.specs.declared.plain.PlainCentre.{PlainCentre}
use Rattle.parts_codec.specs.Spelling.{u8_bytes, flag_bytes, vector_bytes, stamp_bytes, noted_bytes, folded_bytes, sent_bytes, rest_bytes, settings_bytes, point_bytes, applied_bytes, centre_bytes, IsByte, IsHalf, IsNumber, IsFlag, IsSpelledList, IsSpelledVector, IsSpelledStamp, IsSpelledNoted, IsSpelledFolded, IsSpelledSent, IsSpelledRest, IsSpelledSettings, IsSpelledPoint, IsSpelledApplied, IsSpelledCentre}
use Rattle.parts_codec.specs.Reading.{byte_at, half_at, number_at, flag_at, list_at, vector_at, stamp_at, noted_at, folded_at, rest_at, settings_at, point_at, applied_at, centre_at}
use Rattle.parts_codec.proofs.Framed.{sent_tells, tx_tells}

-- ---- numbers, and what is true or false

byte_tells : Tells byte_at IsByte u8_bytes
byte_tells = fit (of_fields (in_1 (is_within 0 255)))
    (λ n h. let w = within_is 0 255 n h in omega (arith, w.1))
    (λ n h. is_within_from 0 255 n (omega arith) (omega (arith, h)))
    (λ n h. refl)

half_tells : Tells half_at IsHalf u32_bytes
half_tells = fit (of_fields (in_4 (is_within 0 4294967295)))
    (λ n h. h.0)
    (λ n h. (h, is_within_from 0 4294967295 n (omega arith) (omega (arith, h))))
    (λ n h. refl)

number_tells : Tells number_at IsNumber u64_bytes
number_tells = any_tells

flag_tells : Tells flag_at IsFlag flag_bytes
unfolding flag_at
flag_tells = made (λ n. n == 1) IsFlag flag_bytes (fit {Js = λ n. n ≤ 1} {other = u8_bytes} (of_fields (in_1 (is_within 0 1))) (λ n h. (within_is 0 1 n h).1) (λ n h. is_within_from 0 1 n (omega arith) h) (λ n h. refl)) to back
  where
    to : (n : ℕ) → n ≤ 1 → IsFlag (n == 1) × (u8_bytes n ≡ flag_bytes (n == 1))
    to zero h = (tt, refl)
    to (suc zero) h = (tt, refl)
    to (suc (suc n)) h = absurd (omega (arith, h))

    back : (flag : Bool) → IsFlag flag → (n : ℕ) × ((n ≤ 1) × ((n == 1) ≡ flag))
    back false h = (0, (omega arith, refl))
    back true h = (1, (omega arith, refl))

-- ---- lists and vectors

list_tells : {A : Type 0} {way : List ℕ → Reading A} {Is : A → Type 0} {spelling : A → List ℕ} → Tells way Is spelling → Tells (list_at way) (IsSpelledList Is) (list_bytes spelling)
unfolding list_at
list_tells {A} {way} {Is} {spelling} t =
    fit (seq length number_tells (λ count c. times_tell t count) (λ count list is h. h.0))
    (λ list h. record { few = h.0; each = h.1.1 })
    (λ list h. (h.few, (refl, h.each)))
    (λ list h. refl)

vector_tells : Tells vector_at IsSpelledVector vector_bytes
unfolding vector_at
vector_tells =
    fit (seq length (fit {Js = λ n. (1 ≤ n) × (n ≤ MOST_CENTRES)} {other = u8_bytes} (of_fields (in_1 (is_within 1 MOST_CENTRES))) (λ n h. within_is 1 MOST_CENTRES n h) (λ n h. is_within_from 1 MOST_CENTRES n h.0 h.1) (λ n h. refl)) (λ width w. times_tell half_tells width) (λ width vector is h. h.0))
    (λ vector h. record { wide = h.0; each = h.1.1 })
    (λ vector h. (h.wide, (refl, h.each)))
    (λ vector h. refl)

-- ---- clients

stamp_tells : Tells stamp_at IsSpelledStamp stamp_bytes
unfolding stamp_at
stamp_tells =
    fit (seq (λ (stamp : Stamp). stamp.centre) byte_tells (λ centre is.
    made (λ seq. record { centre = centre; seq = seq }) (λ (stamp : Stamp). (stamp.centre ≡ centre) × IsHalf stamp.seq) (λ stamp. u32_bytes stamp.seq) half_tells
    (λ seq is. ((refl, is), refl))
    (λ stamp h. (stamp.seq, (h.1, (λ i. record { centre = sym h.0 i; seq = stamp.seq })))))
    (λ centre stamp is h. h.0))
    (λ stamp h. (h.0, h.1.1))
    (λ stamp h. (h.0, (refl, h.1)))
    (λ stamp h. refl)

noted_tells : Tells noted_at IsSpelledNoted noted_bytes
unfolding noted_at
noted_tells =
    fit (seq (λ (note : Noted). note.client) half_tells (λ client is.
    seq (λ (note : Noted). note.number) number_tells (λ number is.
    made (λ stamp. record { client = client; number = number; stamp = stamp }) (λ (note : Noted). (note.client ≡ client) × ((note.number ≡ number) × IsSpelledStamp note.stamp)) (λ note. stamp_bytes note.stamp) stamp_tells
    (λ stamp is. ((refl, (refl, is)), refl))
    (λ note h. (note.stamp, (h.1.1, (λ i. record { client = sym h.0 i; number = sym h.1.0 i; stamp = note.stamp })))))
    (λ number note is h. h.1.0))
    (λ client note is h. h.1.0))
    (λ note h. record { client = h.0; number = h.1.0; stamp = h.1.1.1.1 })
    (λ note h. (h.client, (h.number, (refl, (refl, h.stamp)))))
    (λ note h. sym (append_assoc (u32_bytes note.client) (u64_bytes note.number) (stamp_bytes note.stamp)))

folded_tells : Tells folded_at IsSpelledFolded folded_bytes
unfolding folded_at
folded_tells =
    fit (seq (λ (folded : Folded). folded.client) half_tells (λ client is.
    made (λ number. record { client = client; number = number }) (λ (folded : Folded). (folded.client ≡ client) × IsNumber folded.number) (λ folded. u64_bytes folded.number) number_tells
    (λ number is. ((refl, is), refl))
    (λ folded h. (folded.number, (h.1, (λ i. record { client = sym h.0 i; number = folded.number })))))
    (λ client folded is h. h.0))
    (λ folded h. (h.0, h.1.1))
    (λ folded h. (h.0, (refl, h.1)))
    (λ folded h. refl)

-- ---- what was applied

-- parts one behind the other, however they are put together
four : (a b c d : List ℕ) → a ++ (b ++ (c ++ d)) ≡ a ++ b ++ c ++ d
four a b c d = simp append_assoc

five : (a b c d e : List ℕ) → a ++ (b ++ (c ++ (d ++ e))) ≡ a ++ b ++ c ++ d ++ e
five a b c d e = simp append_assoc

seven : (a b c d e f g : List ℕ) → a ++ (b ++ (c ++ (d ++ (e ++ (f ++ g))))) ≡ a ++ b ++ c ++ d ++ e ++ f ++ g
seven a b c d e f g = simp append_assoc

rest_tells : Tells rest_at IsSpelledRest rest_bytes
unfolding rest_at
rest_tells =
    fit (seq (λ (part : RestPart). part.tx) tx_tells (λ tx is.
    made (λ stamps. record { tx = tx; stamps = stamps }) (λ (part : RestPart). (part.tx ≡ tx) × IsSpelledList IsSpelledStamp part.stamps) (λ part. list_bytes stamp_bytes part.stamps) (list_tells stamp_tells)
    (λ stamps is. ((refl, is), refl))
    (λ part h. (part.stamps, (h.1, (λ i. record { tx = sym h.0 i; stamps = part.stamps })))))
    (λ tx part is h. h.0))
    (λ part h. (h.0, h.1.1))
    (λ part h. (h.0, (refl, h.1)))
    (λ part h. refl)

point_tells : Tells point_at IsSpelledPoint point_bytes
unfolding point_at
point_tells =
    fit (seq (λ (point : PlainPoint). point.vector) vector_tells (λ vector is.
    seq (λ (point : PlainPoint). point.folded) number_tells (λ folded is.
    seq (λ (point : PlainPoint). point.numbers) (list_tells folded_tells) (λ numbers is.
    made (λ states. record { vector = vector; folded = folded; numbers = numbers; states = states }) (λ (point : PlainPoint). (point.vector ≡ vector) × ((point.folded ≡ folded) × ((point.numbers ≡ numbers) × IsSpelledList IsSpelledPart point.states))) (λ point. list_bytes part_bytes point.states) (list_tells named_tells)
    (λ states is. ((refl, (refl, (refl, is))), refl))
    (λ point h. (point.states, (h.1.1.1, (λ i. record { vector = sym h.0 i; folded = sym h.1.0 i; numbers = sym h.1.1.0 i; states = point.states })))))
    (λ numbers point is h. h.1.1.0))
    (λ folded point is h. h.1.1.0))
    (λ vector point is h. h.1.1.0))
    (λ point h. record { vector = h.0; folded = h.1.0; numbers = h.1.1.0; states = h.1.1.1.1.1.1 })
    (λ point h. (h.vector, (h.folded, (h.numbers, (refl, (refl, (refl, h.states)))))))
    (λ point h. four (vector_bytes point.vector) (u64_bytes point.folded) (list_bytes folded_bytes point.numbers) (list_bytes part_bytes point.states))

applied_tells : Tells applied_at IsSpelledApplied applied_bytes
unfolding applied_at
applied_tells =
    fit (seq (λ (applied : PlainApplied). applied.vector) vector_tells (λ vector is.
    seq (λ (applied : PlainApplied). applied.top) number_tells (λ top is.
    seq (λ (applied : PlainApplied). applied.notes) (list_tells noted_tells) (λ notes is.
    seq (λ (applied : PlainApplied). applied.point) point_tells (λ point is.
    made (λ rest. record { vector = vector; notes = notes; top = top; point = point; rest = rest }) (λ (applied : PlainApplied). (applied.vector ≡ vector) × ((applied.top ≡ top) × ((applied.notes ≡ notes) × ((applied.point ≡ point) × IsSpelledList IsSpelledRest applied.rest)))) (λ applied. list_bytes rest_bytes applied.rest) (list_tells rest_tells)
    (λ rest is. ((refl, (refl, (refl, (refl, is)))), refl))
    (λ applied h. (applied.rest, (h.1.1.1.1, (λ i. record { vector = sym h.0 i; notes = sym h.1.1.0 i; top = sym h.1.0 i; point = sym h.1.1.1.0 i; rest = applied.rest })))))
    (λ point applied is h. h.1.1.1.0))
    (λ notes applied is h. h.1.1.1.0))
    (λ top applied is h. h.1.1.1.0))
    (λ vector applied is h. h.1.1.1.0))
    (λ applied h. record { vector = h.0; top = h.1.0; notes = h.1.1.0; point = h.1.1.1.0; rest = h.1.1.1.1.1.1.1.1 })
    (λ applied h. (h.vector, (h.top, (h.notes, (h.point, (refl, (refl, (refl, (refl, h.rest)))))))))
    (λ applied h. five (vector_bytes applied.vector) (u64_bytes applied.top) (list_bytes noted_bytes applied.notes) (point_bytes applied.point) (list_bytes rest_bytes applied.rest))

-- ---- the centre

settings_tells : Tells settings_at IsSpelledSettings settings_bytes
unfolding settings_at
settings_tells =
    fit (seq (λ (s : Settings). s.me) byte_tells (λ me is.
    seq (λ (s : Settings). s.n) byte_tells (λ n is.
    seq (λ (s : Settings). s.k) byte_tells (λ k is.
    made (λ limit. record { me = me; n = n; k = k; limit = limit }) (λ (s : Settings). (s.me ≡ me) × ((s.n ≡ n) × ((s.k ≡ k) × IsNumber s.limit))) (λ s. u64_bytes s.limit) number_tells
    (λ limit is. ((refl, (refl, (refl, is))), refl))
    (λ s h. (s.limit, (h.1.1.1, (λ i. record { me = sym h.0 i; n = sym h.1.0 i; k = sym h.1.1.0 i; limit = s.limit })))))
    (λ k s is h. h.1.1.0))
    (λ n s is h. h.1.1.0))
    (λ me s is h. h.1.1.0))
    (λ s h. record { me = h.0; n = h.1.0; k = h.1.1.0; limit = h.1.1.1.1.1.1 })
    (λ s h. (h.me, (h.n, (h.k, (refl, (refl, (refl, h.limit)))))))
    (λ s h. refl)

pub centre_tells : Tells centre_at IsSpelledCentre centre_bytes
unfolding centre_at
centre_tells =
    fit (seq (λ (centre : PlainCentre). centre.settings) settings_tells (λ settings is.
    seq (λ (centre : PlainCentre). centre.stopped) flag_tells (λ stopped is.
    seq (λ (centre : PlainCentre). centre.mark) vector_tells (λ mark is.
    seq (λ (centre : PlainCentre). centre.trimmed) vector_tells (λ trimmed is.
    seq (λ (centre : PlainCentre). centre.applied) applied_tells (λ applied is.
    seq (λ (centre : PlainCentre). centre.rows) (list_tells vector_tells) (λ rows is.
    made (λ outbox. record { settings = settings; applied = applied; rows = rows; mark = mark; trimmed = trimmed; outbox = outbox; stopped = stopped }) (λ (centre : PlainCentre). (centre.settings ≡ settings) × ((centre.stopped ≡ stopped) × ((centre.mark ≡ mark) × ((centre.trimmed ≡ trimmed) × ((centre.applied ≡ applied) × ((centre.rows ≡ rows) × IsSpelledList (IsSpelledList IsSpelledSent) centre.outbox)))))) (λ centre. list_bytes (list_bytes sent_bytes) centre.outbox) (list_tells (list_tells sent_tells))
    (λ outbox is. ((refl, (refl, (refl, (refl, (refl, (refl, is)))))), refl))
    (λ centre h. (centre.outbox, (h.1.1.1.1.1.1, (λ i. record { settings = sym h.0 i; applied = sym h.1.1.1.1.0 i; rows = sym h.1.1.1.1.1.0 i; mark = sym h.1.1.0 i; trimmed = sym h.1.1.1.0 i; outbox = centre.outbox; stopped = sym h.1.0 i })))))
    (λ rows centre is h. h.1.1.1.1.1.0))
    (λ applied centre is h. h.1.1.1.1.1.0))
    (λ trimmed centre is h. h.1.1.1.1.1.0))
    (λ mark centre is h. h.1.1.1.1.1.0))
    (λ stopped centre is h. h.1.1.1.1.1.0))
    (λ settings centre is h. h.1.1.1.1.1.0))
    (λ centre h. record { settings = h.0; mark = h.1.1.0; trimmed = h.1.1.1.0; applied = h.1.1.1.1.0; rows = h.1.1.1.1.1.0; outbox = h.1.1.1.1.1.1.1.1.1.1.1.1 })
    (λ centre h. (h.settings, (tt, (h.mark, (h.trimmed, (h.applied, (h.rows, (refl, (refl, (refl, (refl, (refl, (refl, h.outbox)))))))))))))
    (λ centre h. seven (settings_bytes centre.settings) (flag_bytes centre.stopped) (vector_bytes centre.mark) (vector_bytes centre.trimmed) (applied_bytes centre.applied) (list_bytes vector_bytes centre.rows) (list_bytes (list_bytes sent_bytes) centre.outbox))
