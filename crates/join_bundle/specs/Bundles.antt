-- Which parts make a bundle, and why others make none.
use Rattle.join_bundle.specs.declared.bundle.Cause.{Cause}
use Rattle.join_bundle.specs.declared.bundle.Cause.TheVariants.{Broken, OutOfMemory}
use Rattle.join_bundle.specs.declared.condition.Condition.{Condition}
use Rattle.join_bundle.specs.declared.part.BundleParts.{BundleParts}
use Rattle.join_bundle.specs.Conditions.{Meets, IsFirstBroken}

-- the parts meet all conditions
pub record IsBundle (parts : BundleParts) : Type 0 where
  pub meets : (condition : Condition) → Meets condition parts

-- the condition is the first that the parts break; want of memory has no cause in them
abbrev pub IsCauseFor : BundleParts → Cause → Type 0
IsCauseFor parts (Broken condition) = IsFirstBroken parts condition
IsCauseFor parts OutOfMemory = Unit {0}
