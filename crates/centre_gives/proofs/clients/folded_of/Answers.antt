use Rattle.std.proofs.Common.{ℕ, rules, Option, Ok, Err, sym, ap}
use Rattle.std.specs.Prelude.{unwrap_or}
use Rattle.std.proofs.lemmas.List.Sorted.{answers_always}
use Rattle.check_point.specs.declared.part.Folded.{Folded}
use Rattle.centre_gives.proofs.Searches.{searched_in}
use Rattle.centre_gives.proofs.clients.folded_of.Goals as goal

-- the closure gives a part's client
pub returns-in-Ok : goal.returns-in-Ok
returns-in-Ok c =
    let by_client = c.in-Ok.ensures.position (λ (p : Folded). p.client) (answers_always _ _ _ (λ f a r g called. search rules)) in
    let found = searched_in (λ (p : Folded). p.client) (λ (p : Folded). p.number) c.args.numbers.now c.requires c.args.client (Ok c.in-Ok.place) c.in-Ok.ensures.bound by_client in
    sym (ap (λ (f : Option ℕ). unwrap_or f 0) (found (record { client = 0; number = 0 })))

pub returns-in-Err : goal.returns-in-Err
returns-in-Err c =
    let by_client = c.in-Err.ensures.position (λ (p : Folded). p.client) (answers_always _ _ _ (λ f a r g called. search rules)) in
    sym (ap (λ (f : Option ℕ). unwrap_or f 0) (searched_in (λ (p : Folded). p.client) (λ (p : Folded). p.number) c.args.numbers.now c.requires c.args.client (Err c.in-Err.field-0) c.in-Err.ensures.bound by_client))
