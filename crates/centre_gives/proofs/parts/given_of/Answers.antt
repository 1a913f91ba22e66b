use Rattle.std.proofs.Common.{◌≡◌, sym, ◌∙◌, subst, arith}
use Rattle.k_stable.specs.Tables.{rows_of}
use Rattle.k_stable.proofs.Rows.{rows_of-set}
use Rattle.check_point.specs.PointParts.{AscendByClient}
use Rattle.centre_parts.specs.declared.condition.Condition.TheVariants.{Centre, Rows, PointClients, StableOverMark}
use Rattle.centre_parts.specs.Conditions.{table_of}
use Rattle.centre_gives.specs.Parts.{client_parts}
use Rattle.centre_gives.proofs.parts.given_of.Goals as goal

pub clients_of-requires : goal.clients_of-requires
clients_of-requires c = subst AscendByClient (sym c.as_slice-2.ensures) (c.requires.meets PointClients)

pub rows_with-requires : goal.rows_with-requires
rows_with-requires c =
    let member = (c.requires.meets Centre).0 in
    let count = (c.requires.meets Rows).0 in
    (member.0, omega (arith, member, count))

pub returns : goal.returns
returns c =
    let p = c.args.parts in
    let clients : c.in_ok-clients.clients ≡ client_parts p.applied.notes p.applied.point.numbers = c.in_ok-clients.ensures ∙ (λ i. client_parts (c.as_slice.ensures i) (c.as_slice-2.ensures i)) in
    let rows : c.rows_with.result ≡ rows_of (table_of p) p.applied.vector = c.rows_with.ensures ∙ sym (rows_of-set (table_of p) p.applied.vector (c.requires.meets StableOverMark).0.table) in
    λ i. record {
      donor = p.settings.me;
      depth = 0;
      vector = p.applied.vector;
      rows = rows i;
      base = p.applied.point.vector;
      mark = p.mark;
      folded = p.applied.point.folded;
      top = p.applied.top;
      clients = clients i;
      states = p.applied.point.states;
      rest = p.applied.rest;
    }
