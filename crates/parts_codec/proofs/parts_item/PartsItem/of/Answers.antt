use Rattle.parts_codec.proofs.parts_item.PartsItem.of.Goals as goal

pub invariant_of-result : goal.invariant_of-result
invariant_of-result c = record { fits = ∣ c.fits.ensures.0 c.if-not-fits.false ∣₁ }
