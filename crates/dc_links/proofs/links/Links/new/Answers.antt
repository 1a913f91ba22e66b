use Rattle.std.proofs.Common.{rules, ◌≡◌, ◌∷◌, [], ◌++◌, List, length, ap, ◌∙◌, sym, subst}
use Rattle.std.specs.Global.{Vec}
use Rattle.std.proofs.lemmas.List.{map-append, length-map}
use Rattle.atomic_blocks.specs.Laid.{WebId}
use Rattle.dc_talk.specs.declared.sent.Sent.{Sent}
use Rattle.mail_link.specs.Ends.{GiverView}
use Rattle.dc_links.specs.Links.{rows_of}
use Rattle.dc_links.specs.Laying.{Lays}
use Rattle.dc_links.proofs.Laying.{lays_more, laid_givers, laid_takers, laid_put, laid_taken}
use Rattle.dc_links.proofs.links.Links.new.Goals as goal

pub centres-preserved : goal.centres-preserved
centres-preserved c =
    let links : rows_of c.push.new.self.items ≡ rows_of c.centres.rows.items ++ c.in_ok-row.row.items ∷ [] = ap rows_of c.in_ok-push.ensures.items ∙ map-append (λ (row : Vec WebId). row.items) c.centres.rows.items (c.in_ok-row.row ∷ []) in
    let givers : rows_of c.push-in-centres.new.self.items ≡ rows_of c.centres.givers.items ++ c.in_ok-row.own.items ∷ [] = ap rows_of c.in_ok-push-2.ensures.items ∙ map-append (λ (row : Vec (GiverView Sent)). row.items) c.centres.givers.items (c.in_ok-row.own ∷ []) in
    record {
      many = search rules;
      lays = subst (λ (links : List (List WebId)). Lays c.args.n links (rows_of c.push-in-centres.new.self.items) (rows_of c.lay_row.new.takers.items)) (sym links)
          (subst (λ (givers : List (List (GiverView Sent))). Lays c.args.n (rows_of c.centres.rows.items ++ c.in_ok-row.row.items ∷ []) givers (rows_of c.lay_row.new.takers.items)) (sym givers)
          (lays_more c.args.n (rows_of c.centres.rows.items) (rows_of c.centres.givers.items) (rows_of c.centres.takers.items) (rows_of c.lay_row.new.takers.items) c.in_ok-row.row.items c.in_ok-row.own.items c.in_ok-row.ensures.number c.in_ok-row.ensures.lays c.centres.invariant.lays));
    }

pub returns-clause-givers : goal.returns-clause-givers
returns-clause-givers c =
    let many : length (rows_of c.centres.rows.items) ≡ c.args.n = length-map c.centres.rows.items (λ (row : Vec WebId). row.items) ∙ (search rules) in
    laid_givers c.args.n (rows_of c.centres.rows.items) (rows_of c.centres.givers.items) (rows_of c.centres.takers.items) many c.centres.invariant.lays

pub returns-clause-takers : goal.returns-clause-takers
returns-clause-takers c =
    let many : length (rows_of c.centres.rows.items) ≡ c.args.n = length-map c.centres.rows.items (λ (row : Vec WebId). row.items) ∙ (search rules) in
    laid_takers c.args.n (rows_of c.centres.rows.items) (rows_of c.centres.givers.items) (rows_of c.centres.takers.items) many c.centres.invariant.lays

pub returns-clause-put : goal.returns-clause-put
returns-clause-put c =
    let many : length (rows_of c.centres.rows.items) ≡ c.args.n = length-map c.centres.rows.items (λ (row : Vec WebId). row.items) ∙ (search rules) in
    laid_put c.args.n (rows_of c.centres.rows.items) (rows_of c.centres.givers.items) (rows_of c.centres.takers.items) many c.centres.invariant.lays

pub returns-clause-taken : goal.returns-clause-taken
returns-clause-taken c =
    let many : length (rows_of c.centres.rows.items) ≡ c.args.n = length-map c.centres.rows.items (λ (row : Vec WebId). row.items) ∙ (search rules) in
    laid_taken c.args.n (rows_of c.centres.rows.items) (rows_of c.centres.givers.items) (rows_of c.centres.takers.items) many c.centres.invariant.lays
