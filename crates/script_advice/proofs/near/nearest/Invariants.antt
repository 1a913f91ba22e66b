use Rattle.std.proofs.Common.{◌≤◌, length, IfSome}
use Rattle.std.specs.Prelude.{Contains, nat_eq}
use Rattle.strsim.specs.Edits.{levenshtein_row}
use Rattle.script_advice.proofs.near.nearest.Given as goal

abbrev pub invariant-loop-one : goal.invariant-loop-one
invariant-loop-one l = record {
  known : IfSome l.found (Contains l.known);
  few : IfSome l.found (λ one. levenshtein_row nat_eq l.word one.now (length one.now) ≤ 2);
  most : l.least ≤ 3;
}
