use Rattle.std.proofs.Common.{arith, ◌≡◌, length, ap, sym, ◌∙◌}
use Rattle.std.specs.Global.{Vec}
use Rattle.std.proofs.lemmas.List.{length-map}
use Rattle.atomic_blocks.specs.Laid.{WebId}
use Rattle.dc_links.proofs.Closing.{same_all}
use Rattle.dc_links.proofs.links.Links.close.Goals as goal

pub returns-clause-all : goal.returns-clause-all
returns-clause-all g c from to f t same =
    let many : length c.args.self ≡ length c.self.inside.rows.items = ap length (sym c.self.view_is) ∙ length-map c.self.inside.rows.items (λ (row : Vec WebId). row.items) in
    same_all _ _ (c.close_rows.ensures from to (f.0, omega (arith, f.1, many)) (t.0, omega (arith, t.1, many))) same
