use Rattle.std.proofs.Common.{◌≡◌, ◌++◌, ◌∷◌, [], ◌<◌, length, rules}
use Rattle.std.specs.Arc.{arc_value}
use Rattle.boxcar.specs.Table.{Shows as IsIn}
use Rattle.read_tap.proofs.Fronts.{placed_more}
use Rattle.read_tap.proofs.shows.Shows.put.Goals as goal

pub invariant_of-self-in-Ok : goal.invariant_of-self-in-Ok
invariant_of-self-in-Ok g c =
    let table = arc_value c.self.inside.table in
    let tokens = c.self.inside.tokens.items in
    let token = c.in-Ok.token in
    let all = c.push_reserved.new.self.items in
    let more : all ≡ tokens ++ token ∷ [] = search rules in
    let next : token.index ≡ length tokens = search rules in
    let here : IsIn table token = search rules in
    let some : 0 < length all = search rules in
    (placed_more table tokens all token c.self.invariant.0 next here more, some)
