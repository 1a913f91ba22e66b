-- The actors of a phase and their parts.
use Rattle.std.specs.Prelude.{◌≡◌, ℕ, map, flat_map, length, List, [], ◌∷◌, ◌++◌}
use Rattle.std.specs.List.{AllZip, range_with_len}
use Rattle.std.specs.Global.{Vec}
use Rattle.vv_core.specs.Vectors.{centres}
use Rattle.dc_talk.specs.declared.sent.Sent.{Sent}
use Rattle.dc_talk.specs.Logs.{Logged}
use Rattle.dc_host.specs.HostDoors.{CentrePass}
use Rattle.mail_link.specs.Ends.{GiverView, TakerView}
use Rattle.script_core.specs.Links.{Inlet}
use Rattle.client_stub.specs.Playing.{StubView}
use Rattle.phase_actors.specs.declared.callers.Caller.{Caller}
use Rattle.phase_play.specs.declared.crews.Crew.{Crew}
use Rattle.phase_actors.specs.declared.clients.Player.{Player}
use Rattle.phase_actors.specs.declared.scene.Scene.{Scene}
use Rattle.phase_play.specs.declared.threads.Cast.{Cast}
use Rattle.phase_actors.specs.Actors.{HasClosed}
use Rattle.thread_run.specs.declared.parts.Parts.{Parts}

-- the workers of a centre, as callers, in order
abbrev pub crew_callers : Crew → List Caller
crew_callers crew = crew.sender.caller ∷ crew.receiver.caller ∷ crew.reporter ∷ crew.pruner ∷ []

-- an operator, clients and crews as callers, in order
abbrev pub callers_among : Caller → List Player → List Crew → List Caller
callers_among operator players crews = operator ∷ (map (λ (p : Player). p.caller) players ++ flat_map crew_callers crews)

-- all actors, as callers, in order
abbrev pub callers_in : Cast → List Caller
callers_in cast = callers_among cast.operator cast.clients.items cast.crews.items

-- no parts
pub record AreNoParts (parts : Parts) : Type 0 where
  pub rows : parts.rows.items ≡ []
  pub logs : parts.logs.items ≡ []
  pub stubs : parts.stubs.items ≡ []
  pub givers : parts.givers.items ≡ []
  pub takers : parts.takers.items ≡ []
  pub inlets : parts.inlets.items ≡ []

-- a caller more
pub record HasCaller (old : Parts) (caller : Caller) (new : Parts) : Type 0 where
  pub rows : new.rows.items ≡ old.rows.items ++ caller.row ∷ []
  pub logs : new.logs.items ≡ old.logs.items ++ caller.log ∷ []
  pub stubs : new.stubs ≡ old.stubs
  pub givers : new.givers ≡ old.givers
  pub takers : new.takers ≡ old.takers
  pub inlets : new.inlets ≡ old.inlets

-- callers with these passes and logs
pub record AreCallersOf (rows : List (Vec CentrePass)) (logs : List Logged) (callers : List Caller) : Type 0 where
  pub rows_are : map (λ (c : Caller). c.row) callers ≡ rows
  pub logs_are : map (λ (c : Caller). c.log) callers ≡ logs

-- clients with these callers and stubs, numbered from 1
pub record ArePlayersOf (callers : List Caller) (stubs : List StubView) (players : List Player) : Type 0 where
  pub numbers : map (λ (p : Player). p.client) players ≡ range_with_len 1 (length stubs)
  pub callers_are : map (λ (p : Player). p.caller) players ≡ callers
  pub stubs_are : map (λ (p : Player). p.stub) players ≡ stubs

-- the workers of n centres with these callers, ends and faults
pub record AreCrewsOf (n : ℕ) (callers : List Caller) (givers : List (Vec (GiverView Sent))) (takers : List (Vec (TakerView Sent))) (inlets : List (Vec (Inlet Sent))) (crews : List Crew) : Type 0 where
  pub numbers : map (λ (c : Crew). c.centre) crews ≡ centres n
  pub callers_are : flat_map crew_callers crews ≡ callers
  pub givers_are : map (λ (c : Crew). c.sender.givers) crews ≡ givers
  pub takers_are : map (λ (c : Crew). c.receiver.takers) crews ≡ takers
  pub inlets_are : map (λ (c : Crew). c.receiver.inlets) crews ≡ inlets

-- the actors of so many clients and n centres that have these parts
pub record AreActorsOf (n clients : ℕ) (parts : Parts) (operator : Caller) (players : List Player) (staff : List Crew) : Type 0 where
  pub callers : AreCallersOf parts.rows.items parts.logs.items (callers_among operator players staff)
  pub numbers : map (λ (p : Player). p.client) players ≡ range_with_len 1 clients
  pub stubs : map (λ (p : Player). p.stub) players ≡ parts.stubs.items
  pub crews : AreCrewsOf n (flat_map crew_callers staff) parts.givers.items parts.takers.items parts.inlets.items staff

-- so are those of a cast
abbrev pub IsCastOf : ℕ → ℕ → Parts → Cast → Type 0
IsCastOf n clients parts cast = AreActorsOf n clients parts cast.operator cast.clients.items cast.crews.items

-- ---- the closing rounds

-- the receiver of a centre made its closing round; the other workers stay
pub record HasCrewClosed (scene : Scene) (givers : List (List (GiverView Sent))) (old new : Crew) : Type 0 where
  pub centre : new.centre ≡ old.centre
  pub sender : new.sender ≡ old.sender
  pub receiver : HasClosed scene old.centre givers old.receiver new.receiver
  pub reporter : new.reporter ≡ old.reporter
  pub pruner : new.pruner ≡ old.pruner

-- the actors behind the closing rounds of all receivers, and their parts
pub record HaveParted (scene : Scene) (n clients : ℕ) (old : Cast) (parts : Parts) : Type 0 where
  pub closed : List Crew
  pub crews : AllZip (HasCrewClosed scene (map (λ (givers : Vec (GiverView Sent)). givers.items) parts.givers.items)) old.crews.items closed
  pub parted : AreActorsOf n clients parts old.operator old.clients.items closed
