-- Bytes are one script.
use Rattle.std.proofs.Common.{◌≡◌, ℕ, List, sym, ◌∙◌}
use Rattle.std.specs.Prelude.{Ok}
use Rattle.script_core.specs.declared.script.Script.{Script}
use Rattle.script_reader.specs.Scripts.{script_read}

-- the bytes of a script are one script
pub one_script : (bytes : List ℕ) (s t : Script) → script_read bytes ≡ Ok s → script_read bytes ≡ Ok t → s ≡ t
one_script bytes s t is too = let both : Ok s ≡ Ok t = sym is ∙ too in cc
