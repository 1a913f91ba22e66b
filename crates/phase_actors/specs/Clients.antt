-- What the clients do in a phase.
use Rattle.std.specs.Prelude.{◌≡◌, ◌<◌, ℕ, take, map, length, List}
use Rattle.dc_talk.specs.Logs.{Logged}
use Rattle.dc_talk.specs.Doors.{DoorView}
use Rattle.dc_talk.specs.Acting.{Acting, acting}
use Rattle.dc_host.specs.HostDoors.{CentreHost, HostDoorView, shown_over, bare, new_door}
use Rattle.script_core.specs.declared.taps.Show.{Show}
use Rattle.script_core.specs.declared.taps.TapState.{TapState}
use Rattle.script_core.specs.declared.steps.ClientStep.{ClientStep}
use Rattle.script_core.specs.declared.steps.Section.{Section}
use Rattle.script_core.specs.Steps.{IsCount}
use Rattle.script_core.specs.Deeds.{Progress}
use Rattle.client_stub.specs.Playing.{StubView, IsLinkBehind}
use Rattle.run_book.specs.Moves.{client_steps}
use Rattle.run_book.specs.Happenings.{ClientDoes}
use Rattle.run_sections.specs.Orders.{InOrder, ClientGoes}
use Rattle.run_sections.specs.Taps.{LookGoes}
use Rattle.run_table.specs.Taps.{taps_of}
use Rattle.read_tap.specs.Shows.{ShowsView}
use Rattle.phase_actors.specs.Taps.{shows_read}
use Rattle.phase_actors.specs.Playing.{Plays, seen_by, IsCaller, IsSameCaller}
use Rattle.phase_actors.specs.declared.clients.Player.{Player}

-- a client with its stub, before a door, beside its log
pub record ClientAt : Type 0 where
  pub client : ℕ
  pub stub : StubView
  pub acting : Acting

abbrev pub client_at : ℕ → StubView → DoorView → Logged → ClientAt
client_at client stub door log = record { client = client; stub = stub; acting = acting door log }

-- how far a client has come
abbrev pub come_to : ClientAt → Progress
come_to c = record { client = c.stub.client; armed = c.stub.armed; notes = c.acting.log.notes }

-- a client takes these steps, each as the session rule allows, and sees these shows of the taps in their order
pub record PlaysClient (taps : List TapState) (shows : ℕ → List Show) (section : ℕ) (steps : List ClientStep) (old new : ClientAt) : Type 0 where
  pub client : new.client ≡ old.client
  pub plays : Plays ClientGoes section (come_to old) steps old.acting new.acting (come_to new)
  pub allowed : ClientDoes old.stub.client old.acting.log.notes plays.mine
  pub linked : IsLinkBehind new.acting.door new.stub.client
  pub last : ℕ → ℕ
  pub looks : InOrder (LookGoes (taps_of taps) shows old.client) section 1 (λ centre. 0) steps plays.mine last
  pub within : (centre : ℕ) → last centre < length (shows centre)

-- it took its steps of the first so many turns, in which its readers came to see so much
abbrev pub HasTurned : List TapState → List ShowsView → Section → ℕ → ℕ → ClientAt → ClientAt → Type 0
HasTurned taps readers section number turns old new = PlaysClient taps (shows_read taps readers) number (take turns (client_steps old.client section)) old new

-- ---- over hosts

-- a client before a door over hosts, with its log, and how many of its steps it took
pub record SeatView : Type 0 where
  pub client : ℕ
  pub stub : StubView
  pub door : HostDoorView
  pub log : Logged
  pub taken : ℕ

-- the client at a seat
abbrev pub seated : SeatView → ClientAt
seated seat = client_at seat.client seat.stub (shown_over seat.door) seat.log

-- the seat of a client with its passes and its log, which took no step yet
abbrev pub seat_of : Player → SeatView
seat_of p = record { client = p.client; stub = p.stub; door = new_door p.caller.log.actor p.caller.row.items; log = p.caller.log; taken = 0 }

-- the player that got up from a seat, whose door is the actor's of its log: a new door of the same passes would be before it
abbrev pub HasStood : SeatView → Player → Type 0
HasStood seat player = seat.door.actor ≡ seat.log.actor → seat_of player ≡ record seat { door = new_door seat.door.actor seat.door.passes; taken = 0 }

-- a client of so many, before so many centres
pub record IsSeat (n clients : ℕ) (seat : SeatView) : Type 0 where
  pub client : IsCount clients seat.client
  pub own : seat.stub.client.client ≡ seat.client
  pub centres : length seat.door.passes ≡ n
  pub linked : IsLinkBehind (shown_over seat.door) seat.stub.client

-- the same client, whose passes are the same with what more was done with them
pub record IsSameSeat (old new : SeatView) : Type 0 where
  pub client : new.client ≡ old.client
  pub actor : new.door.actor ≡ old.door.actor
  pub passes : map bare new.door.passes ≡ map bare old.door.passes

-- it took steps behind those that it had taken, as many as it tells, while its readers came to see more
pub record HasGoneOn (taps : List TapState) (readers later : List ShowsView) (section : Section) (number : ℕ) (old new : SeatView) : Type 0 where
  pub same : IsSameSeat old new
  pub turned : (first : ClientAt) → HasTurned taps readers section number old.taken first (seated old) → HasTurned taps later section number new.taken first (seated new)

-- a client before the phase
pub record IsPlayer (hosts : List CentreHost) (clients : ℕ) (p : Player) : Type 0 where
  pub client : IsCount clients p.client
  pub own : p.stub.client.client ≡ p.client
  pub caller : IsCaller hosts p.caller
  pub linked : IsLinkBehind (seen_by p.caller).door p.stub.client

-- what it did in the phase, in which its readers came to see so much
pub record HasClientPlayed (taps : List TapState) (readers : List ShowsView) (section : Section) (number : ℕ) (old new : Player) : Type 0 where
  pub same : IsSameCaller old.caller new.caller
  pub plays : PlaysClient taps (shows_read taps readers) number (client_steps old.client section) (seated (seat_of old)) (seated (seat_of new))
