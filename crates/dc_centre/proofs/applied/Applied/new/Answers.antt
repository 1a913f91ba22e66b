use Rattle.std.proofs.Common.{refl}
use Rattle.dc_centre.specs.Applied.{AppliedView}
use Rattle.dc_centre.proofs.Applying.{IsNothing, applied_none}
use Rattle.dc_centre.proofs.Kept.{kept_none}
use Rattle.dc_centre.proofs.applied.Applied.new.Goals as goal

-- what is kept at first
abbrev kept : goal.After-new-6 → AppliedView
kept c = record { counts = c.zero.result; lasts = c.in_ok-new.field-0; greatest = 0; point = c.in_ok-new-2.field-0; log = c.in_ok-new-3.field-0 }

-- it is nothing
nothing : (c : goal.After-new-6) → IsNothing c.args.n (kept c)
nothing c = record {
  counts = c.zero.ensures;
  numbers = c.in_ok-new.ensures.numbers;
  greatest = refl;
  base = c.in_ok-new-2.ensures.vector;
  point = c.in_ok-new-2.ensures.empty;
  log = c.in_ok-new-3.ensures;
}

pub invariant_of-result : goal.invariant_of-result
invariant_of-result c = kept_none c.args.n (kept c) c.new-4.result.entries c.new-5.result.entries c.new-6.result.entries c.requires (nothing c) c.in_ok-new.ensures.stamps c.new-4.ensures.empty c.new-5.ensures.empty c.new-6.ensures.empty

pub returns-clause-none : goal.returns-clause-none
returns-clause-none c = applied_none c.args.n (kept c) c.requires (nothing c)
