use Rattle.std.proofs.Common.{rules, arith, ◌≡◌, ◌<◌, ◌-◌, suc, List, length, ap, sym, ◌∙◌}
use Rattle.host_lock.specs.Hosts.{IsOf}
use Rattle.dc_host.specs.declared.host_door.HostPlace.{HostPlace}
use Rattle.dc_host.specs.HostDoors.{CentrePass, calls_with, counted}
use Rattle.dc_host.proofs.Passes.{zip_long, passes_stay, bare_stays, counted_more, called_more, none_more, call_belongs, host_asked, none_asked, on_err}
use Rattle.dc_host.proofs.host_door.HostDoorDoor.ask.Goals as goal

pub call_at-said-requires-clause-inside : goal.call_at-said-requires-clause-inside
call_at-said-requires-clause-inside g c =
    let long = zip_long IsOf c.self.inside.hosts.now c.self.inside.passes.items c.self.invariant.0.each in
    let place : c.from.result - 1 < length c.self.inside.passes.items = search rules in
    omega (arith, long, place)

pub invariant_of-self : goal.invariant_of-self
invariant_of-self g c =
    let old = c.self.inside.passes.items in let called = c.call_at-said in let new = called.new.passes.items in let place = c.from.result - 1 in (
      passes_stay c.self.inside.hosts.now old new place c.self.inside.actor c.args.ask.now called.result c.self.invariant.0 called.ensures.called called.ensures.none,
      c.self.invariant.1 ∙ ap counted (sym (none_more old new place c.in_err-say.ensures.none)),
      c.self.invariant.2,
    )

pub invariant_of-self-2 : goal.invariant_of-self-2
invariant_of-self-2 g c =
    let old = c.self.inside.passes.items in let called = c.call_at-said in let new = called.new.passes.items in let place = c.from.result - 1 in (
      passes_stay c.self.inside.hosts.now old new place c.self.inside.actor c.args.ask.now called.result c.self.invariant.0 called.ensures.called called.ensures.none,
      counted_more c.saturating_add-step.result c.self.inside.calls (calls_with old) (calls_with new) c.saturating_add-step.ensures c.self.invariant.1 (called_more old new place c.args.ask.now c.in_ok-say.say c.in_ok-say.ensures.called),
      c.after-receipt.ensures ∙ c.before-ticket.ensures,
    )

pub returns-clause-place : goal.returns-clause-place
returns-clause-place g c =
    let with : List CentrePass → HostPlace = λ passes. record { actor = c.self.inside.actor; passes = passes; began = c.self.inside.began } in
    rw (← c.self.view_is) (ap with (bare_stays c.self.inside.hosts.now c.self.inside.passes.items c.call_at-said.new.passes.items (c.from.result - 1) c.self.inside.actor c.args.ask.now c.call_at-said.result c.call_at-said.ensures.called c.call_at-said.ensures.none))

pub returns-in_err-say-clause-place : goal.returns-in_err-say-clause-place
returns-in_err-say-clause-place g c =
    let with : List CentrePass → HostPlace = λ passes. record { actor = c.self.inside.actor; passes = passes; began = c.self.inside.began } in
    rw (← c.self.view_is) (ap with (bare_stays c.self.inside.hosts.now c.self.inside.passes.items c.call_at-said.new.passes.items (c.from.result - 1) c.self.inside.actor c.args.ask.now c.call_at-said.result c.call_at-said.ensures.called c.call_at-said.ensures.none))

pub returns-clause-row : goal.returns-clause-row
returns-clause-row g c = call_belongs c.self.inside.passes.items c.call_at-said.new.passes.items (c.from.result - 1) c.args.ask.now c.in_ok-say.say c.in_ok-say.ensures.called

pub returns-clause-asked : goal.returns-clause-asked
returns-clause-asked g c =
    let place : c.args.centre ≡ suc (c.from.result - 1) = omega (arith, c.requires.0) in
    rw (← c.self.view_is) (host_asked c.self.inside.hosts.now c.self.inside.passes.items c.call_at-said.new.passes.items (c.from.result - 1) c.self.inside.actor c.args.ask.now c.in_ok-say.say c.args.centre place c.self.invariant.0 c.in_ok-say.ensures.called)

pub returns-in_err-say-clause-none : goal.returns-in_err-say-clause-none
returns-in_err-say-clause-none g c =
    rw (← c.self.view_is) (on_err c.from_residual.result (none_asked c.self.inside.passes.items c.call_at-said.new.passes.items (c.from.result - 1) c.self.inside.actor c.in_err-say.ensures.none))
