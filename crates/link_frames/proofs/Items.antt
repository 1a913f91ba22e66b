-- What items of bytes are: those of records, and those that a fault has spoilt.
use Rattle.std.proofs.Common.{◌≡◌, ◌≢◌, ◌<◌, ◌≤◌, ◌-◌, ℕ, List, [], ◌∷◌, length, take, drop, Result, Ok, Err, refl, sym, ap, ◌∙◌, subst, append-nil, arith}
use Rattle.std.specs.Prelude.{◌↔◌, All}
use Rattle.std.specs.Int.{w8, from_be_bytes}
use Rattle.std.proofs.lemmas.Bool.{eq-eqb}
use Rattle.std.proofs.lemmas.List.{length-drop, take-append-drop}
use Rattle.tx_core.specs.Checks.{is_within}
use Rattle.dc_talk.specs.declared.sent.Sent.{Sent}
use Rattle.wire_codec.specs.declared.item.Decoded.{Decoded}
use Rattle.wire_codec.specs.declared.item.Decoded.TheVariants as decoded
use Rattle.wire_codec.specs.declared.item.TheConstants.{SIGN, OLDEST_VERSION, VERSION}
use Rattle.wire_codec.specs.Fields.{IsFirstFault}
use Rattle.wire_codec.specs.Grammar.{frame}
use Rattle.wire_codec.specs.Spelling.{spelled}
use Rattle.wire_codec.specs.Answers.{IsAnswer}
use Rattle.wire_codec.proofs.Answering.{is_answer, one_answer, front_ends}
use Rattle.dc_talk.specs.declared.links.FrameFault.{FrameFault}
use Rattle.dc_talk.specs.declared.links.FrameFault.TheVariants.{Short, Bad}
use Rattle.link_frames.specs.Spelling.{frame_of, spelling}
use Rattle.link_frames.specs.Frames.{HasFrame}
use Rattle.link_frames.specs.Reading.{decoded_of, whole_of, read_whole}
use Rattle.link_frames.specs.Spoiling.{cut_of, bent_of}

-- ---- what bytes are

-- the fields tell what bytes are, and nothing else is told
pub decoded_is : (bytes : List ℕ) (answer : Decoded) → All (λ byte. byte < 256) bytes → IsAnswer bytes answer ↔ (decoded_of bytes ≡ answer)
decoded_is bytes answer all = (one_answer bytes answer, λ e. subst (IsAnswer bytes) e (is_answer bytes all))

-- an item is what its answer says
pub read_by : (bytes : List ℕ) (answer : Decoded) → IsAnswer bytes answer → whole_of (length bytes) answer ≡ read_whole bytes
unfolding read_whole
read_by bytes answer h = ap (whole_of (length bytes)) (sym (one_answer bytes answer h))

-- ---- items of records

-- the bytes of a record are read as that record
pub item_read : (sent : Sent) → HasFrame sent → read_whole (spelling sent) ≡ Ok sent
unfolding spelling
item_read sent h =
    let bytes = spelled VERSION (frame_of sent) in
    let n = length bytes in
    let is : IsAnswer bytes (decoded.Whole (frame_of sent) n) = record { version = VERSION; rest = []; spelled = h; are = sym (append-nil bytes); size = refl } in
    sym (read_by bytes (decoded.Whole (frame_of sent) n) is) ∙ rw (eq-eqb n n refl) refl

-- what is read is one record
one_record : (a b : Sent) → (let x : Result Sent FrameFault = Ok a in let y : Result Sent FrameFault = Ok b in x ≡ y) → a ≡ b
one_record a b e = cc

-- records with the same bytes are one
pub one_item : (sent other : Sent) → HasFrame sent → HasFrame other → spelling sent ≡ spelling other → sent ≡ other
one_item sent other h k e = one_record sent other (sym (item_read sent h) ∙ ap read_whole e ∙ item_read other k)

-- ---- spoilt items

-- the last of some bytes is there
last_is : (bytes : List ℕ) → 1 ≤ length bytes → drop (length bytes - 1) bytes ≢ []
last_is bytes some none = omega (arith, ap length none, length-drop (length bytes - 1) bytes, some)

-- without their last byte they end too early
pub cut_short : (sent : Sent) → HasFrame sent → read_whole (cut_of (spelling sent)) ≡ Err Short
unfolding spelling
cut_short sent h =
    let bytes = spelled VERSION (frame_of sent) in
    let front = take (length bytes - 1) bytes in
    let last = drop (length bytes - 1) bytes in
    sym (read_by front decoded.Short (front_ends VERSION (frame_of sent) front last h (sym (take-append-drop (length bytes - 1) bytes)) (last_is bytes (omega arith))))

-- a frame of version 0 is at fault at its version
no_version : (behind : List ℕ) → IsFirstFault frame (SIGN ∷ 0 ∷ behind) 1
unfolding frame
no_version behind = record {
  rest = 0 ∷ behind;
  size = 1;
  allowed = λ bytes. is_within OLDEST_VERSION VERSION (from_be_bytes w8 bytes);
  begins = record { whole = (SIGN ∷ []) ∷ []; next = _; left = refl; are = refl };
  whole = omega arith;
  bad = refl;
  there = omega arith;
}

-- with 0 as their second byte they are such
pub bend_bad : (sent : Sent) → read_whole (bent_of (spelling sent)) ≡ Err (Bad 1)
unfolding spelling
bend_bad sent = sym (read_by (bent_of (spelling sent)) (decoded.Bad 1) (no_version _))
