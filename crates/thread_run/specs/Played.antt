-- A run of the first sections of a script.
use Rattle.std.specs.Prelude.{◌≡◌, ℕ, flat_map, List}
use Rattle.dc_door.specs.KeptDoors.{trail_at}
use Rattle.script_core.specs.declared.script.Script.{Script}
use Rattle.script_core.specs.declared.steps.Section.{Section}
use Rattle.script_core.specs.Steps.{IsCount}
use Rattle.run_table.specs.declared.table.Table.{Table}
use Rattle.run_sections.specs.Sections.{Between, first_between, Left, actors_of}
use Rattle.run_sections.specs.Runs.{PlaysSections}
use Rattle.run_sections.specs.Apart.{AreApart, StandsAt}
use Rattle.thread_run.specs.Tables.{notes_at, between_of, IsTableOf}

-- the clients that there are have come as far, the links between the centres have the same ends, and their taps show the
-- same
pub record AreAlike (script : Script) (one two : Between) : Type 0 where
  pub come : (client : ℕ) → IsCount script.clients client → one.come client ≡ two.come client
  pub inlets : (from to : ℕ) → IsCount script.n from → IsCount script.n to → one.inlets from to ≡ two.inlets from to
  pub taps : (i : ℕ) → IsCount script.n i → one.taps i ≡ two.taps i

-- these sections of a script were played, one after another: what they left are the notes and the trails, which belong
-- together
pub record HasRun (script : Script) (sections : List Section) (table : Table) : Type 0 where
  pub is : IsTableOf script table
  pub lefts : List Left
  pub last : Between
  pub plays : PlaysSections script 1 (first_between script) sections lefts last
  pub alike : AreAlike script last (between_of script table)
  pub notes : (a : ℕ) → IsCount (actors_of script) a → notes_at table a ≡ flat_map (λ left. left.notes a) lefts
  pub trails : (i : ℕ) → trail_at table.door.centres i ≡ flat_map (λ left. left.entries i) lefts
  pub apart : AreApart script (notes_at table) (trail_at table.door.centres)
  pub stands : StandsAt script (notes_at table) (between_of script table)
