-- What the actors of a phase share.
use Rattle.std.specs.Prelude.{◌≡◌, length}
use Rattle.run_table.specs.Dealing.{IsDealtPhase}
use Rattle.phase_actors.specs.declared.scene.Scene.{Scene}

-- the scene of a phase of a script: its steps were dealt, and there are a host and links for each centre
pub record IsScene (scene : Scene) : Type 0 where
  pub phase : IsDealtPhase scene.script.now scene.section.now scene.dealt.now
  pub hosts : length scene.hosts.now.hosts ≡ scene.script.now.n
  pub links : length scene.links.now ≡ scene.script.now.n
