use Rattle.std.proofs.Common.{rules, arith, ◌≡◌, ◌<◌, ◌-◌, length, Some, slice_get, get_or, List, sym, ap, ◌∙◌, subst}
use Rattle.std.proofs.lemmas.List.{length-map}
use Rattle.std.specs.Global.{Vec}
use Rattle.atomic_blocks.specs.Laid.{WebId}
use Rattle.dc_links.specs.Links.{row_of, column_of}
use Rattle.dc_links.proofs.Places.{row_long, link_in_row, link_in_column}
use Rattle.dc_links.proofs.links.Links.between.Goals as goal

pub index-requires-2 : goal.index-requires-2
index-requires-2 c =
    let rows = c.self.inside.rows.items in
    let many = ap length (sym c.self.view_is) ∙ length-map rows (λ (row : Vec WebId). row.items) in
    let from : c.from.result ≡ c.args.from = search rules in
    let to : c.from-2.result ≡ c.args.to = search rules in
    let lt : c.from.result - 1 < length rows = omega (arith, many, from, c.requires.from.0, c.requires.from.1) in
    let is : c.index.result.now ≡ get_or rows (c.from.result - 1) c.index.result.now = search rules in
    let long = row_long rows c.self.invariant (c.from.result - 1) c.index.result.now lt is in
    omega (arith, long, many, to, c.requires.to.0, c.requires.to.1)

pub returns-clause-row : goal.returns-clause-row
returns-clause-row c =
    let rows = c.self.inside.rows.items in
    let many = ap length (sym c.self.view_is) ∙ length-map rows (λ (row : Vec WebId). row.items) in
    let from : c.from.result ≡ c.args.from = search rules in
    let to : c.from-2.result ≡ c.args.to = search rules in
    let lt : c.from.result - 1 < length rows = omega (arith, many, from, c.requires.from.0, c.requires.from.1) in
    let low : c.args.to - 1 < length rows = omega (arith, many, c.requires.to.0, c.requires.to.1) in
    let is : c.index.result.now ≡ get_or rows (c.from.result - 1) c.index.result.now = search rules in
    let at : c.index-2.result.now ≡ get_or c.index.result.now.items (c.args.to - 1) c.index-2.result.now = search rules in
    subst (λ (links : List (List WebId)). slice_get (row_of links c.args.from) (c.args.to - 1) ≡ Some c.index-2.result.now) c.self.view_is
    (link_in_row rows c.self.invariant (c.from.result - 1) c.index.result.now lt is c.args.from c.args.to (omega (arith, from)) c.index-2.result.now low at)

pub returns-clause-column : goal.returns-clause-column
returns-clause-column c =
    let rows = c.self.inside.rows.items in
    let many = ap length (sym c.self.view_is) ∙ length-map rows (λ (row : Vec WebId). row.items) in
    let from : c.from.result ≡ c.args.from = search rules in
    let to : c.from-2.result ≡ c.args.to = search rules in
    let lt : c.from.result - 1 < length rows = omega (arith, many, from, c.requires.from.0, c.requires.from.1) in
    let low : c.args.to - 1 < length rows = omega (arith, many, c.requires.to.0, c.requires.to.1) in
    let is : c.index.result.now ≡ get_or rows (c.from.result - 1) c.index.result.now = search rules in
    let at : c.index-2.result.now ≡ get_or c.index.result.now.items (c.args.to - 1) c.index-2.result.now = search rules in
    subst (λ (links : List (List WebId)). slice_get (column_of links c.args.to) (c.args.from - 1) ≡ Some c.index-2.result.now) c.self.view_is
    (link_in_column rows c.self.invariant (c.from.result - 1) c.index.result.now lt is c.args.from c.args.to (omega (arith, from)) c.index-2.result.now low at)
