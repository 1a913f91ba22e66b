use Rattle.std.proofs.Common.{refl, sym, ◌∙◌}
use Rattle.std.specs.Prelude.{OnOk, is_err, Result, Ok, Err, ◌≡◌, false}
use Rattle.std.proofs.lemmas.Map.Made.{update_all_distinct}
use Rattle.check_point.proofs.tables.put_over.Goals as goal

-- what holds on success holds where no error came
no_error : {T E P : Type 0} (r : Result T E) → is_err r ≡ false → OnOk r P → P
no_error (Ok x) e p = p
no_error (Err x) e p = cc

pub returns : goal.returns
returns g c key =
    let came = no_error c.append.result (sym c.is_err.ensures.value ∙ c.if-is_err.false) c.append.ensures.inserts in
    came.0 key ∙ update_all_distinct g.met.K.Eq.laws g.K.PartialEq.eq (λ x y. refl) _ _ key c.len-count.ensures.unique
