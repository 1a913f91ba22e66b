-- Why parts that make a bundle are refused.
use Rattle.std.proofs.Common.{◌≡◌, refl}
use Rattle.join_bundle.specs.declared.bundle.Cause.{Cause}
use Rattle.join_bundle.specs.declared.bundle.Cause.TheVariants.{Broken, OutOfMemory}
use Rattle.join_bundle.specs.declared.part.BundleParts.{BundleParts}
use Rattle.join_bundle.specs.Bundles.{IsBundle, IsCauseFor}

-- memory ran out: they break no condition
pub only_memory : (parts : BundleParts) (cause : Cause) → IsCauseFor parts cause → IsBundle parts → cause ≡ OutOfMemory
only_memory parts (Broken condition) first is = absurd (first.broken (is.meets condition))
only_memory parts OutOfMemory first is = refl
