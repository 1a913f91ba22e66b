-- What becomes of the two cells at a place where its tally is turned.
use Rattle.std.proofs.Common.{◌≡◌, Bool, true, false, cond, not, ◌&&◌, Option, Some, None, is_some, refl, sym, ap, ◌∙◌, arith}
use Rattle.std.specs.Prelude.{ℤ, ◌+ℤ◌, pos, negsuc, int_lt}
use Rattle.std.specs.Ordering.{int_eq}
use Rattle.std.proofs.lemmas.Int.{ints}
use Rattle.std.proofs.lemmas.Bool.{and_parts, and_from, not-true, false≢true}
use Rattle.std.specs.Option.{unwrap_or}
use Rattle.tally_core.specs.declared.place.Cell.{Cell}
use Rattle.tally_core.specs.Cells.{cell, nothing, is_nothing, turned}
use Rattle.tally_core.specs.Changes.{or_else}
use Rattle.tally_core.specs.Live.{is_live}
use Rattle.tally_core.specs.Parted.{is_owed, is_kept, is_apart}
use Rattle.tally_core.specs.Room.{can_fall, is_empty}
use Rattle.tally_core.specs.Turn.{lowered, owes, repaid}
use Rattle.tally_core.proofs.Kept.{nothing_is}
use Rattle.tally_core.proofs.Parts.{told}

-- whole numbers about 0
one_left : (n : ℤ) → int_lt (pos 0) n ≡ true → int_lt (pos 0) (n +ℤ negsuc 0) ≡ false → int_eq (n +ℤ negsuc 0) (pos 0) ≡ true
one_left n up down = grind (arith, ints)

still_below : (n : ℤ) → int_lt (pos 0) n ≡ false → int_lt (pos 0) (n +ℤ negsuc 0) ≡ false
still_below n low = grind (arith, ints)

not_above : (n : ℤ) → int_lt n (pos 0) ≡ true → int_lt (pos 0) (n +ℤ pos 1) ≡ false
not_above n low = grind (arith, ints)

still_above : (n : ℤ) → int_lt (pos 0) n ≡ true → int_lt (pos 0) (n +ℤ pos 1) ≡ true
still_above n up = grind (arith, ints)

is_zero : (n : ℤ) → int_lt (pos 0) n ≡ false → int_lt n (pos 0) ≡ false → int_eq n (pos 0) ≡ true
is_zero n low high = grind (arith, ints)

above_least : (n : ℤ) → int_lt (pos 0) n ≡ true → int_lt (negsuc 9223372036854775807) n ≡ true
above_least n up = grind (arith, ints)

falls_still : (n : ℤ) → int_lt (negsuc 9223372036854775807) n ≡ true → int_lt (negsuc 9223372036854775807) (n +ℤ pos 1) ≡ true
falls_still n h = grind (arith, ints)

-- what is not there is none
pub none_of : {A : Type 0} (x : Option A) → is_some x ≡ false → x ≡ None
none_of None e = refl
none_of (Some a) e = cc

module _ {P : Type 0} where
  -- what a cell that is no live one keeps
  dead_keeps : (n : ℤ) (kept : Option P) → int_lt (pos 0) n ≡ false → is_owed (cell n kept) ≡ true
  dead_keeps n kept low = ap (λ b. not b && not (is_some (cond b kept None))) low

  -- an owed cell that is owed no add is nothing
  owed_none : (c : Cell P) → is_owed c ≡ true → int_lt c.count (pos 0) ≡ false → is_nothing c ≡ true
  owed_none c owed high = at (is_live c) refl
    where
      at : (b : Bool) → is_live c ≡ b → is_nothing c ≡ true
      at true e = cc
      at false e = and_from (int_eq c.count (pos 0)) _ (is_zero c.count e high) (and_parts (not (is_live c)) _ owed).1

  -- what is left of a lowered cell is what is told of it
  lowered_told : (c : Cell P) → told (cond (is_nothing (turned None c)) None (Some (turned None c))) ≡ told (Some (turned None c))
  lowered_told c = at (is_nothing (turned None c)) refl
    where
      at : (b : Bool) → is_nothing (turned None c) ≡ b → told (cond b None (Some (turned None c))) ≡ told (Some (turned None c))
      at true e = rw e refl
      at false e = refl

  -- a live cell that is lowered is live, or nothing is left of it
  lowered_live : (c : Cell P) → is_live c ≡ true → is_nothing (turned None c) ≡ false → is_live (turned None c) ≡ true
  lowered_live c live some = at (int_lt (pos 0) (c.count +ℤ negsuc 0)) refl
    where
      at : (b : Bool) → int_lt (pos 0) (c.count +ℤ negsuc 0) ≡ b → int_lt (pos 0) (c.count +ℤ negsuc 0) ≡ true
      at true e = e
      at false e = absurd (false≢true (sym some ∙ and_from (int_eq (c.count +ℤ negsuc 0) (pos 0)) _ (one_left c.count live e) (ap (λ b. not (is_some (cond b c.kept None))) e)))

  -- a live cell that is lowered is live and keeps what it kept, or nothing is left of it
  lowered_kept : (c : Cell P) → is_kept c ≡ true → is_nothing (turned None c) ≡ false → is_kept (turned None c) ≡ true
  lowered_kept c kept some =
      let parts = and_parts (is_live c) (is_some c.kept) kept in
      let live = lowered_live c parts.0 some in
      and_from (is_live (turned None c)) _ live (ap (λ b. is_some (cond b c.kept None)) live ∙ parts.1)

  -- a live cell can fall
  pub live_can : (x y : Option (Cell P)) → is_some x ≡ true → is_apart x y ≡ true → can_fall None x ≡ true
  live_can None y some apart = cc
  live_can (Some c) None some apart = above_least c.count (and_parts (is_live c) _ apart).0
  live_can (Some c) (Some d) some apart = cc

  -- and where none stands, the owed one can that is said to
  pub owed_can : (x y : Option (Cell P)) → is_some x ≡ false → can_fall x y ≡ true → can_fall None y ≡ true
  owed_can None y none can = can
  owed_can (Some c) y none can = cc

  -- what is told where a live cell is lowered
  pub live_falls : (x y : Option (Cell P)) → is_some x ≡ true → is_apart x y ≡ true → told (or_else (lowered x) y) ≡ told (Some (turned None (unwrap_or (or_else x y) nothing)))
  live_falls None y some apart = cc
  live_falls (Some c) (Some d) some apart = cc
  live_falls (Some c) None some apart = at (is_nothing (turned None c)) ∙ lowered_told c
    where
      at : (b : Bool) → told (or_else (cond b None (Some (turned None c))) None) ≡ told (cond b None (Some (turned None c)))
      at true = refl
      at false = refl

  -- and what is left of it is live
  pub live_falls_apart : (x y : Option (Cell P)) → is_some x ≡ true → is_apart x y ≡ true → is_apart (lowered x) y ≡ true
  live_falls_apart None y some apart = cc
  live_falls_apart (Some c) (Some d) some apart = cc
  live_falls_apart (Some c) None some apart = at (is_nothing (turned None c)) refl
    where
      at : (b : Bool) → is_nothing (turned None c) ≡ b → is_apart (cond b None (Some (turned None c))) None ≡ true
      at true e = refl
      at false e = lowered_kept c apart e

  -- what is told where an owed cell is lowered
  pub owed_falls : (x y : Option (Cell P)) → is_some x ≡ false → can_fall x y ≡ true → told (or_else x (lowered y)) ≡ told (Some (turned None (unwrap_or (or_else x y) nothing)))
  owed_falls (Some c) y none can = cc
  owed_falls None None none can = cc
  owed_falls None (Some d) none can = lowered_told d

  -- and is still owed
  pub owed_falls_apart : (x y : Option (Cell P)) → is_some x ≡ false → is_apart x y ≡ true → is_apart x (lowered y) ≡ true
  owed_falls_apart (Some c) y none apart = cc
  owed_falls_apart None None none apart = refl
  owed_falls_apart None (Some d) none apart = at (is_nothing (turned None d))
    where
      dead : int_lt (pos 0) d.count ≡ false
      dead = not-true (is_live d) (and_parts (not (is_live d)) _ apart).0

      at : (b : Bool) → is_apart None (cond b None (Some (turned None d))) ≡ true
      at true = refl
      at false = dead_keeps (d.count +ℤ negsuc 0) d.kept (still_below d.count dead)

  -- what is told where an owed cell is raised
  pub owed_rises : (kept : P) (x y : Option (Cell P)) → owes y ≡ true → is_apart x y ≡ true → told (or_else x (repaid kept y)) ≡ told (Some (turned (Some kept) (unwrap_or (or_else x y) nothing)))
  owed_rises kept x None owed apart = cc
  owed_rises kept (Some c) (Some d) owed apart = cc
  owed_rises kept None (Some d) owed apart = rw owed refl

  -- and is still owed, or of 0
  pub owed_rises_apart : (kept : P) (x y : Option (Cell P)) → owes y ≡ true → is_apart x y ≡ true → is_apart x (repaid kept y) ≡ true
  owed_rises_apart kept x None owed apart = cc
  owed_rises_apart kept (Some c) (Some d) owed apart = cc
  owed_rises_apart kept None (Some d) owed apart = rw owed (dead_keeps (d.count +ℤ pos 1) (Some kept) (not_above d.count owed))

  -- and can fall if it could
  pub owed_rises_can : (kept : P) (x y : Option (Cell P)) → owes y ≡ true → can_fall x y ≡ true → can_fall x (repaid kept y) ≡ true
  owed_rises_can kept x None owed can = cc
  owed_rises_can kept (Some c) (Some d) owed can = refl
  owed_rises_can kept None (Some d) owed can = rw owed (falls_still d.count can)

  -- where no add is owed, nothing is left among the owed cells
  repaid_none : (kept : P) (y : Option (Cell P)) → owes y ≡ false → repaid kept y ≡ None
  repaid_none kept None none = refl
  repaid_none kept (Some d) none = rw none refl

  -- and what stands there is the live cell, or nothing
  live_alone : (x y : Option (Cell P)) → owes y ≡ false → is_apart x y ≡ true → unwrap_or x nothing ≡ unwrap_or (or_else x y) nothing
  live_alone (Some c) y none apart = refl
  live_alone None None none apart = refl
  live_alone None (Some d) none apart = sym (nothing_is d (owed_none d apart none))

  -- what is told where a live cell is raised, or a first one is put
  pub live_rises : (kept : P) (x y : Option (Cell P)) → owes y ≡ false → is_apart x y ≡ true → told (or_else (Some (turned (Some kept) (unwrap_or x nothing))) (repaid kept y)) ≡ told (Some (turned (Some kept) (unwrap_or (or_else x y) nothing)))
  live_rises kept x y none apart = ap (λ c. told (Some (turned (Some kept) c))) (live_alone x y none apart)

  -- a live cell that is raised, or put first, is live and keeps what the add keeps
  raised_kept : (n : ℤ) (kept : P) → int_lt (pos 0) (n +ℤ pos 1) ≡ true → is_kept (cell (n +ℤ pos 1) (Some kept)) ≡ true
  raised_kept n kept up = and_from (int_lt (pos 0) (n +ℤ pos 1)) _ up (ap (λ b. is_some (cond b (Some kept) None)) up)

  -- and it is in its part
  pub live_rises_apart : (kept : P) (x y : Option (Cell P)) → owes y ≡ false → is_apart x y ≡ true → is_apart (Some (turned (Some kept) (unwrap_or x nothing))) (repaid kept y) ≡ true
  live_rises_apart kept (Some c) (Some d) none apart = cc
  live_rises_apart kept (Some c) None none apart = raised_kept c.count kept (still_above c.count (and_parts (is_live c) _ apart).0)
  live_rises_apart kept None None none apart = refl
  live_rises_apart kept None (Some d) none apart = rw none refl

  -- the live cell is in its part where no owed one stands
  pub cleared_apart : (x y : Option (Cell P)) → is_apart x y ≡ true → is_apart x None ≡ true
  cleared_apart None y apart = refl
  cleared_apart (Some c) None apart = apart
  cleared_apart (Some c) (Some d) apart = cc

  -- what is told where no add is owed and a cell of 0 is taken out
  pub none_owed : (kept : P) (x y : Option (Cell P)) → owes y ≡ false → is_apart x y ≡ true → told (or_else x (repaid kept y)) ≡ told (or_else x y)
  none_owed kept (Some c) y none apart = refl
  none_owed kept None None none apart = refl
  none_owed kept None (Some d) none apart = ap told (repaid_none kept (Some d) none) ∙ sym (ap (λ b. cond b None (Some d)) (owed_none d apart none))

  -- what is told where a cell of nothing is put among the owed ones
  pub stands : (x y : Option (Cell P)) (c : Cell P) → x ≡ None → y ≡ None → c ≡ nothing → told (or_else x (Some c)) ≡ told (or_else x y)
  stands x y c gone none is = rw (gone, none, is) refl

  -- it is in its part
  pub stands_apart : (x : Option (Cell P)) (c : Cell P) → x ≡ None → c ≡ nothing → is_apart x (Some c) ≡ true
  stands_apart x c gone is = rw (gone, is) refl

  -- and nothing could fall there before
  pub stands_can : (x y : Option (Cell P)) (c : Cell P) → x ≡ None → y ≡ None → can_fall x y ≡ true → can_fall x (Some c) ≡ true
  stands_can x y c gone none can = absurd (false≢true (sym (ap (λ x. can_fall x y) gone ∙ ap (can_fall None) none) ∙ can))

  -- what is told where a cell of nothing is taken out of the owed ones
  pub cleared : (x y : Option (Cell P)) → is_empty y ≡ true → is_apart x y ≡ true → told (or_else x None) ≡ told (or_else x y)
  cleared x None empty apart = cc
  cleared (Some c) (Some d) empty apart = cc
  cleared None (Some d) empty apart = sym (ap (λ b. cond b None (Some d)) empty)

  -- nothing is left of a cell that is lowered to nothing
  pub lowered_gone : (x : Option (Cell P)) (c v : Cell P) → x ≡ Some c → v ≡ turned None c → is_nothing v ≡ true → lowered x ≡ None
  lowered_gone x c v there is nil = ap lowered there ∙ ap (λ b. cond b None (Some (turned None c))) (ap is_nothing (sym is) ∙ nil)

  -- and else what it is lowered to
  pub lowered_left : (x : Option (Cell P)) (c v : Cell P) → x ≡ Some c → v ≡ turned None c → is_nothing v ≡ false → lowered x ≡ Some v
  lowered_left x c v there is some = ap lowered there ∙ (ap (λ b. cond b None (Some (turned None c))) (ap is_nothing (sym is) ∙ some) ∙ ap Some (sym is))
