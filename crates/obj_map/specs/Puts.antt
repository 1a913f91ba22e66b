-- The greatest of several puts.
use Rattle.std.specs.Prelude.{◌≡◌, ℕ, cond, List, fold, Option, Some, None, option_map, false, refl}
use Rattle.std.specs.Coded.{Coded, code_by, coded×, coded_ℕ, coded_list}
use Rattle.std.specs.Ordering.{is_lt}
use Rattle.list_core.specs.Members.{In}
use Rattle.ids_core.specs.declared.ids.OpId.{OpId}
use Rattle.ids_core.specs.declared.ids.Mark.{Mark}
use Rattle.ids_core.specs.Orders.{mark_cmp}
use Rattle.obj_map.specs.declared.put.Put.{Put}

-- a put is stored as its rank and its word
abbrev pub put_code : Coded Put
put_code = code_by (ℕ × List ℕ) (coded× coded_ℕ (coded_list coded_ℕ)) (λ p. (p.rank, p.word)) (λ p. record { rank = p.0; word = p.1 }) (λ _. refl)

-- the mark of a put
abbrev pub mark_of : (OpId × Put) → Mark
mark_of p = record { rank = p.1.rank; id = p.0 }

-- the later of two puts, by mark
abbrev pub later : Option (Mark × List ℕ) → (OpId × Put) → Option (Mark × List ℕ)
later None p = Some (mark_of p, p.1.word)
later (Some b) p = Some (cond (is_lt (mark_cmp b.0 (mark_of p))) (mark_of p, p.1.word) b)

-- the word of the last of them all
abbrev pub greatest : List (OpId × Put) → Option (List ℕ)
greatest puts = option_map (λ b. b.1) (fold later None puts)

-- the word is that of a put that no other exceeds
pub record IsWordOf (puts : List (OpId × Put)) (word : List ℕ) : Type 0 where
  pub put : OpId × Put
  pub there : In put puts
  pub is : put.1.word ≡ word
  pub above : (other : OpId × Put) → In other puts → is_lt (mark_cmp (mark_of put) (mark_of other)) ≡ false
