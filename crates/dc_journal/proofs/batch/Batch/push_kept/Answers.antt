use Rattle.std.proofs.Common.{◌≡◌, ◌+◌, ◌++◌, [], ◌∷◌, length, vec_len, Result, Ok, Err, is_ok, IsOk, if◌then◌else◌, sym, ◌∙◌, ap, append_assoc, arith}
use Rattle.journal_file.specs.Journal.{opened}
use Rattle.journal_file.proofs.Items.{opened-push}
use Rattle.dc_journal.proofs.batch.Batch.push_kept.Goals as goal

ok_case : {T E X : Type 0} (r : Result T E) (a b now : X) → now ≡ (if is_ok r then a else b) → IsOk r → now ≡ a
ok_case (Ok x) a b now is ok = is
ok_case (Err e) a b now is ok = absurd (cc ok)

pub invariant_of-self : goal.invariant_of-self
invariant_of-self g c =
    let spelled = g.T.Item.spelled in
    let self = c.args.self.now in
    let item = c.args.item in
    let put = c.extend_from_slice-done in
    let ok : IsOk put.result = put.ensures.succeeds (omega (arith, c.requires.room.2)) in
    let behind = ok_case put.result (self.out.items ++ c.args.bytes.now) self.out.items put.new.self.items put.ensures.items ok in
    let longer = ok_case put.result (vec_len self.out + length c.args.bytes.now) (vec_len self.out) (vec_len put.new.self) put.ensures.len ok in
    record {
      bytes = behind
          ∙ (λ i. self.bytes i ++ c.requires.bytes i)
          ∙ sym (append_assoc (opened spelled self.kept.items) (1 ∷ []) (spelled item))
          ∙ sym (opened-push spelled self.kept.items item)
          ∙ ap (opened spelled) (sym c.push_reserved-2.ensures.items);
      room = omega (arith, longer, c.requires.room.2, put.ensures.capacity);
    }
