-- Frames of the written version, and what records and transactions have in them.
use Rattle.std.proofs.Common.{◌≡◌, ◌==◌, ℕ, zero, suc, Bool, true, false, eqb, List, [], ◌∷◌, ◌++◌, length, get_or, drop, Some, None, refl, sym, ap, ◌∙◌, subst}
use Rattle.std.specs.Prelude.{◌&&◌, if◌then◌else◌}
use Rattle.std.specs.List.{list_all}
use Rattle.std.proofs.lemmas.Bool.{eqb-true, and_parts}
use Rattle.std.proofs.lemmas.List.{drop_at}
use Rattle.vv_core.specs.Vectors.{zeros}
use Rattle.tx_core.specs.declared.tx.Tx.{Tx}
use Rattle.tx_core.specs.declared.tx.Record.{Record}
use Rattle.dc_talk.specs.declared.sent.Sent.{Sent}
use Rattle.wire_codec.specs.declared.item.Item.{Item}
use Rattle.wire_codec.specs.declared.item.Item.TheVariants.{Rec, Rep}
use Rattle.wire_codec.specs.declared.item.Decoded.{Decoded}
use Rattle.wire_codec.specs.declared.item.Decoded.TheVariants.{Whole}
use Rattle.wire_codec.specs.declared.item.TheConstants.{VERSION}
use Rattle.wire_codec.specs.Spelling.{spelled, IsSpelled}
use Rattle.wire_codec.specs.Answers.{IsAnswer}
use Rattle.wire_codec.proofs.FramesSpelled.{frame_spells}
use Rattle.state_codec.specs.Fronts.{IsFront}
use Rattle.state_codec.proofs.Ways.{Tells, of_fields, made, tested}
use Rattle.journal_asks.specs.Spellings.{commit_of}
use Rattle.parts_codec.specs.Spelling.{frame_bytes, frame_of, sent_bytes, tx_bytes, IsFrame, IsSpelledSent, IsSpelledTx}
use Rattle.parts_codec.specs.Reading.{framed_at, sent_of, sent_at, is_bare, tx_of, tx_at}
use Rattle.parts_codec.proofs.Picking.{picked}

-- ---- frames

pub framed_tells : Tells framed_at IsFrame frame_bytes
unfolding framed_at
framed_tells =
    made (λ (x : ℕ × Item). x.1) IsFrame frame_bytes (tested (of_fields frame_spells) (λ x. x.0 == VERSION))
    (λ x h.
    let written = eqb-true x.0 VERSION h.1 in
    (subst (λ version. IsSpelled version x.1) written h.0, ap (λ version. spelled version x.1) written))
    (λ frame h. ((VERSION, frame), ((h, refl), refl)))

-- the second byte is the version
second : (version : ℕ) (frame : Item) (rest : List ℕ) → get_or (spelled version frame ++ rest) 1 0 ≡ version
second version (Rec item hops) rest = refl
second version (Rep centre vector) rest = refl

module _ (bytes : List ℕ) where
  -- the bytes begin with this frame
  begin_whole : (frame : Item) (rest : List ℕ) → IsFrame frame → bytes ≡ frame_bytes frame ++ rest → IsAnswer bytes (Whole frame (length (frame_bytes frame)))
  begin_whole frame rest fits are = record { version = VERSION; rest = rest; spelled = fits; are = are; size = refl }

  -- where that is the answer, and the version is the written one, the frame was found
  pub whole_front : (decoded : Decoded) (frame : Item) (used : ℕ) → decoded ≡ Whole frame used → get_or bytes 1 0 ≡ VERSION
      → IsAnswer bytes decoded → ((other : Decoded) → IsAnswer bytes other → decoded ≡ other) → IsFront IsFrame frame_bytes bytes (Some (frame, used))
  whole_front decoded frame used is written answer only =
      let a = subst (IsAnswer bytes) is answer in
      let version : a.version ≡ VERSION = sym (ap (λ (l : List ℕ). get_or l 1 0) a.are ∙ second a.version frame a.rest) ∙ written in
      let are : bytes ≡ frame_bytes frame ++ a.rest = a.are ∙ ap (λ v. spelled v frame ++ a.rest) version in
      let size : used ≡ length (frame_bytes frame) = a.size ∙ ap (λ v. length (spelled v frame)) version in
      let behind : a.rest ≡ drop used bytes = sym (ap (drop used) are ∙ drop_at (frame_bytes frame) a.rest used (sym size)) in
      record {
        only = λ other rest fits begins.
            let both : Whole frame used ≡ Whole other (length (frame_bytes other)) = sym is ∙ only (Whole other (length (frame_bytes other))) (begin_whole other rest fits begins) in
            let same : frame ≡ other = cc both in
            let long : used ≡ length (frame_bytes other) = cc in
            (λ i. Some (same i, long i));
        fits = subst (λ v. IsSpelled v frame) version a.spelled;
        is = are ∙ ap (λ rest. frame_bytes frame ++ rest) behind;
        count = size;
      }

  -- where the answer is no frame, none was found
  pub no_front : (decoded : Decoded) → ((frame : Item) (used : ℕ) → decoded ≡ Whole frame used → ⊥)
      → ((other : Decoded) → IsAnswer bytes other → decoded ≡ other) → IsFront IsFrame frame_bytes bytes None
  no_front decoded not only = record {
    only = λ other rest fits begins. absurd (not other (length (frame_bytes other)) (only (Whole other (length (frame_bytes other))) (begin_whole other rest fits begins)));
    fits = tt;
    is = tt;
    count = tt;
  }

-- ---- records of the outbox

pub sent_tells : Tells sent_at IsSpelledSent sent_bytes
unfolding sent_at
sent_tells = picked sent_of frame_of framed_tells (λ sent is. refl) back
  where
    back : (frame : Item) (sent : Sent) → IsFrame frame → sent_of frame ≡ Some sent → frame ≡ frame_of sent
    back (Rec item hops) sent is e =
        let one : Sent = record { item = item; hops = hops } in
        let same : one ≡ sent = cc e in
        ap frame_of same
    back (Rep centre vector) sent is e = absurd (cc e)

-- ---- transactions that are not folded

-- no dependencies are zeros
none_are_zeros : (n : ℕ) → list_all (λ entry. entry == 0) (zeros n) ≡ true
none_are_zeros zero = refl
none_are_zeros (suc n) = none_are_zeros n

zeros_from : (entries : List ℕ) → list_all (λ entry. entry == 0) entries ≡ true → entries ≡ zeros (length entries)
zeros_from [] h = refl
zeros_from (e ∷ es) h =
    let parts = and_parts (eqb e 0) (list_all (λ entry. entry == 0) es) h in
    let first = eqb-true e 0 parts.0 in
    let others = zeros_from es parts.1 in
    (λ i. first i ∷ others i)

-- a bare record is that of its transaction
bare : (item : Record) (hops : ℕ) → IsFrame (Rec item hops) → is_bare item hops ≡ true → Rec item hops ≡ commit_of 1 item.tx
bare item hops is h =
    let a = and_parts (eqb hops 0) ((item.stamp.centre == 1) && ((item.stamp.seq == 1) && list_all (λ entry. entry == 0) item.deps)) h in
    let b = and_parts (eqb item.stamp.centre 1) ((item.stamp.seq == 1) && list_all (λ entry. entry == 0) item.deps) a.1 in
    let c = and_parts (eqb item.stamp.seq 1) (list_all (λ entry. entry == 0) item.deps) b.1 in
    let none = eqb-true hops 0 a.0 in
    let centre = eqb-true item.stamp.centre 1 b.0 in
    let seq = eqb-true item.stamp.seq 1 c.0 in
    let deps : item.deps ≡ zeros (length item.tx.snap) = zeros_from item.deps c.1 ∙ ap zeros (sym is.fields.tx.wide) in
    (λ i. Rec (record { stamp = record { centre = centre i; seq = seq i }; deps = deps i; tx = item.tx }) (none i))

pub tx_tells : Tells tx_at IsSpelledTx tx_bytes
unfolding tx_at
tx_tells = picked tx_of (commit_of 1) framed_tells there back
  where
    there : (tx : Tx) → IsFrame (commit_of 1 tx) → tx_of (commit_of 1 tx) ≡ Some tx
    there tx is = rw (none_are_zeros (length tx.snap)) refl

    by : (item : Record) (hops : ℕ) (tx : Tx) → IsFrame (Rec item hops) → (b : Bool) → is_bare item hops ≡ b → (if b then Some item.tx else None) ≡ Some tx → Rec item hops ≡ commit_of 1 tx
    by item hops tx is true e h =
        let same : item.tx ≡ tx = cc h in
        bare item hops is e ∙ ap (commit_of 1) same
    by item hops tx is false e h = absurd (cc h)

    back : (frame : Item) (tx : Tx) → IsFrame frame → tx_of frame ≡ Some tx → frame ≡ commit_of 1 tx
    back (Rec item hops) tx is e = by item hops tx is (is_bare item hops) refl e
    back (Rep centre vector) tx is e = absurd (cc e)
