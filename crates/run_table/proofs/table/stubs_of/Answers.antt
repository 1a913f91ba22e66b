use Rattle.std.proofs.Common.{ap, ◌∙◌}
use Rattle.std.proofs.Common.{None}
use Rattle.dc_talk.specs.Clients.{Client}
use Rattle.client_stub.specs.Playing.{StubView}
use Rattle.run_table.specs.Tables.{new_stub}
use Rattle.run_table.proofs.Numbered.{more_below}
use Rattle.run_table.proofs.table.stubs_of.Goals as goal

-- a client with no fault armed
abbrev stub_of : Client → StubView
stub_of client = record { client = client; armed = None }

pub clients-preserved : goal.clients-preserved
clients-preserved c =
    c.in_ok-push.ensures.items
    ∙ more_below (new_stub c.args.n c.args.cache) c.clients.client c.clients.stubs.items c.new-in-clients.result c.clients.auto.client c.clients.invariant
    (c.new-in-clients.ensures ∙ ap (λ (client : Client). stub_of client) c.in_ok-session.ensures)
