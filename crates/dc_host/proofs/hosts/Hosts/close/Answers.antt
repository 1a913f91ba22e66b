use Rattle.std.proofs.Common.{◌≡◌, sym, subst}
use Rattle.dc_host.specs.Hosts.{HostsView, rows_of, bare_rows, new_rows}
use Rattle.dc_host.proofs.Rows.{may_close}
use Rattle.dc_host.proofs.hosts.Hosts.close.Goals as goal

pub close_all-requires : goal.close_all-requires
close_all-requires c =
    let are = subst (λ (hosts : HostsView). bare_rows (rows_of c.args.rows.items) ≡ new_rows hosts.hosts 1 hosts.callers) (sym c.self.view_is) c.requires in
    may_close c.self.inside.hosts.items (rows_of c.args.rows.items) c.self.inside.callers c.self.invariant are
