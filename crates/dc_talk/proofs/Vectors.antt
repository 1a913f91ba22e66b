-- What the test of two vectors says.
use Rattle.std.proofs.Common.{◌≡◌, ℕ, true, List}
use Rattle.std.proofs.lemmas.Bool.Decides.{Decides-eqb}
use Rattle.std.specs.Cmp.Lexicographic.{pointwise_decides}
use Rattle.dc_talk.specs.Clients.{same_vector}

-- vectors that test equal are one
pub same_vector-true : (v w : List ℕ) → same_vector v w ≡ true → v ≡ w
same_vector-true v w is = (pointwise_decides Decides-eqb v w).0 is
