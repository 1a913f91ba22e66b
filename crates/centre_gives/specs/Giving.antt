-- What a centre gives to one that joins late.
use Rattle.std.specs.Prelude.{◌≡◌}
use Rattle.join_bundle.specs.declared.part.BundleParts.{BundleParts}
use Rattle.centre_parts.specs.declared.part.CentreParts.{CentreParts}
use Rattle.centre_parts.specs.Conditions.{MeetsAll}
use Rattle.dc_centre.specs.Centre.{CentreView}
use Rattle.dc_centre.specs.Parts.{ArePartsOf}
use Rattle.centre_gives.specs.Parts.{given_of}

-- the bundle is made of the parts of the centre
pub record IsMadeOf (c : CentreView) (b : BundleParts) : Type 0 where
  pub parts : CentreParts
  pub are : ArePartsOf c parts
  pub met : MeetsAll parts
  pub is : b ≡ given_of parts
