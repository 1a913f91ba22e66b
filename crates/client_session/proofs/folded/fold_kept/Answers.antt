use Rattle.std.proofs.Common.{◌≡◌, true, cond, Some, Result, Ok, Err, IsSome, refl, sym, ap, ◌∙◌, subst}
use Rattle.std.specs.Prelude.{is_ok, OnOk}
use Rattle.std.specs.Map.{lookup}
use Rattle.std.proofs.lemmas.Bool.{OnTrue_from}
use Rattle.std.proofs.lemmas.Option.{same_Some}
use Rattle.ids_core.specs.Ids.{same_object}
use Rattle.ids_core.specs.Same.{same_object-itself}
use Rattle.client_session.proofs.Found.{lookup-written}
use Rattle.client_session.proofs.folded.fold_kept.Goals as goal

-- what holds on success holds where it is found
success : {T E P : Type 0} (r : Result T E) → is_ok r ≡ true → OnOk r P → P
success (Ok x) e p = p
success (Err x) e p = cc

pub returns-in-Some : goal.returns-in-Some
returns-in-Some c =
    let k = c.args.object.now in
    let es = c.args.folded.now.entries in
    let w = c.fold.new.self in
    let there : lookup (same_object k) es ≡ Some c.in-Some.state.now = sym c.in-Some.ensures.value in
    let some : IsSome (lookup (same_object k) es) = subst IsSome (sym there) refl in
    record {
      there = OnTrue_from c.is_ok.result _ (λ ok seen is.
          let own = lookup-written k k es w some ∙ ap (λ b. cond b (Some w) (lookup (same_object k) es)) (same_object-itself k) in
          let same = same_Some w seen (sym own ∙ is) in
          (c.in-Some.state.now, there, sym same ∙ success c.fold.result (sym c.is_ok.ensures.value ∙ ok) c.fold.ensures.ok));
      apart = λ o seen apart is. sym (lookup-written k o es w some ∙ ap (λ b. cond b (Some w) (lookup (same_object o) es)) apart) ∙ is;
    }
