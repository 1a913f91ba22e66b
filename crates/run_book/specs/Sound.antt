-- Sound vectors of a book.
use Rattle.std.specs.Prelude.{◌≤◌, ◌-◌, ℕ, length, List, Option, slice_get}
use Rattle.std.specs.Option.{option_map}
use Rattle.vv_core.specs.Vectors.{at, SoundFor}
use Rattle.run_book.specs.declared.book.Book.{Book}
use Rattle.run_book.specs.Graphs.{own_list}

-- the dependency vector of the record numbered k of centre e, where there is one
abbrev pub deps_in : Book → ℕ → ℕ → Option (List ℕ)
deps_in b e k = option_map (λ r. r.deps) (slice_get (own_list b e) (k - 1))

-- a vector is sound: it covers no more records than each centre made, and with a record the dependency
-- vector of it
pub record IsSound (b : Book) (v : List ℕ) : Type 0 where
  pub bounded : (e : ℕ) → at v e ≤ length (own_list b e)
  pub deps : SoundFor (deps_in b) v
