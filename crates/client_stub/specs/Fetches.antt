-- Asks for the objects of calls.
use Rattle.std.specs.Prelude.{◌≡◌, List, [], ◌∷◌, Option, Some, None}
use Rattle.dc_talk.specs.declared.calls.Connection.{Connection}
use Rattle.dc_talk.specs.declared.line.Line.TheVariants as line
use Rattle.dc_talk.specs.declared.log.Deed.{Deed}
use Rattle.dc_talk.specs.declared.log.Deed.TheVariants.{Told}
use Rattle.dc_talk.specs.Clients.{Client}
use Rattle.dc_talk.specs.Rule.{fetch_of}
use Rattle.script_core.specs.declared.object_call.ObjectCall.{ObjectCall}
use Rattle.script_core.specs.Deeds.{Asks, OrTells, Progress, after_fetch}
use Rattle.client_stub.specs.declared.purpose.Errand.{Errand}
use Rattle.client_stub.specs.declared.purpose.Purpose.TheVariants.{Fetch}
use Rattle.client_stub.specs.declared.purpose.Next.{Next}
use Rattle.client_stub.specs.declared.purpose.Next.TheVariants.{Done}
use Rattle.client_stub.specs.Playing.{Playing}
use Rattle.client_stub.specs.Errands.{GrowsBy, Runs}

-- one ask for the object of a call over a link, with what follows it
abbrev pub AsksOnce : Progress → ObjectCall → Connection → List Deed → Type 0
AsksOnce p c link deeds = Asks p.armed link.centre (fetch_of p.client c.object) (after_fetch p.client link.centre c) deeds

-- one ask for the object of a call, with what follows it; where no centre is connected the line says so
abbrev pub StateDeeds : Progress → ObjectCall → List Deed → Type 0
StateDeeds p c deeds = OrTells p.client.link (line.Unconnected p.client.client c.word c.shown) (AsksOnce p c) deeds

-- the errand for the object of a call, over a link
abbrev pub fetch_errand : Client → ObjectCall → Connection → Errand
fetch_errand s c link = record { purpose = Fetch c; centre = link.centre; ask = fetch_of s c.object }

-- the object of a call was asked for over the link, with what the step does then; where no centre is connected the step
-- has come to its end, with the line that says so
abbrev pub Seeks : ObjectCall → Option Connection → Playing → Playing → Next → Type 0
Seeks c None old new next = (next ≡ Done) × GrowsBy (λ deeds. deeds ≡ Told (line.Unconnected old.client.client c.word c.shown) ∷ []) old new
Seeks c (Some link) old new next = Runs (fetch_errand old.client c link) old new next
