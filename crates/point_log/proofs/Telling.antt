-- Numbers of clients that are kept, after one record more.
use Rattle.std.proofs.Common.{◌≡◌, ℕ, Bool, true, false, cond, max, ◌&&◌, List, [], ◌∷◌, ◌++◌, refl, sym, ap, ◌∙◌, subst}
use Rattle.std.specs.Prelude.{◌==◌}
use Rattle.std.proofs.Math.Bool.{and-false, or-false}
use Rattle.ids_core.specs.declared.ids.Dot.{Dot}
use Rattle.ids_core.specs.Ids.{same_dot}
use Rattle.vv_core.specs.declared.stamp.Stamp.{Stamp}
use Rattle.vv_core.specs.Vectors.{within}
use Rattle.tx_core.specs.declared.tx.Record.{Record}
use Rattle.op_log.specs.declared.logged.Logged.{Logged}
use Rattle.op_log.specs.Logs as log
use Rattle.check_point.specs.Points.{PointView, number_of}
use Rattle.point_log.specs.declared.mines.Mine.{Mine}
use Rattle.point_log.specs.StandFor.{with_one}
use Rattle.point_log.specs.Mines.{IsMine, MineEntries, AreMines}
use Rattle.point_log.proofs.KeptLogs.{any_stays}

-- what a transaction counts for, where it may be within a vector
abbrev counts_for : ℕ → Logged → Bool → ℕ
counts_for c x inside = cond ((x.tx.dot.client == c) && inside) x.tx.dot.number 0

-- one more that is not within it counts for nobody
mine_new : (c : ℕ) (w : List ℕ) (items : List Logged) (x : Logged) → log.is_inside w x ≡ false → log.mine_in c w (items ++ x ∷ []) ≡ log.mine_in c w items
mine_new c w [] x out = ap (λ b. max (counts_for c x b) 0) out ∙ ap (λ b. max (cond b x.tx.dot.number 0) 0) (and-false (x.tx.dot.client == c))
mine_new c w (y ∷ items) x out = ap (max (counts_for c y (log.is_inside w y))) (mine_new c w items x out)

-- one stamp more that is not within it changes nothing
mine_again : (c : ℕ) (w : List ℕ) (d : Dot) (s : Stamp) (items : List Logged) → within s w ≡ false → log.mine_in c w (log.with_stamp d s items) ≡ log.mine_in c w items
mine_again c w d s [] out = refl
mine_again c w d s (x ∷ items) out = one (same_dot x.tx.dot d) ∙ ap (max (counts_for c x (log.is_inside w x))) (mine_again c w d s items out)
  where
    one : (b : Bool) → max (counts_for c (cond b (log.with_one s x) x) (log.is_inside w (cond b (log.with_one s x) x))) (log.mine_in c w (log.with_stamp d s items)) ≡ max (counts_for c x (log.is_inside w x)) (log.mine_in c w (log.with_stamp d s items))
    one true = ap (λ b. max (counts_for c x b) (log.mine_in c w (log.with_stamp d s items))) (any_stays w x.stamps s out)
    one false = refl

-- so a number that was told stands with one record more, where its vector does not have the record's stamp
pub mine_more : (point : PointView) (kept : log.LogView) (c : ℕ) (r : Record) (fresh : Bool) (m : Mine) → within r.stamp m.at ≡ false → IsMine point kept c m → IsMine point (with_one kept r fresh) c m
mine_more point kept c r true m out is = is ∙ ap (max (number_of point c)) (sym (mine_new c m.at kept.items (log.first_of kept.appended r) (or-false (within r.stamp m.at) ∙ out)))
mine_more point kept c r false m out is = is ∙ ap (max (number_of point c)) (sym (mine_again c m.at r.tx.dot r.stamp kept.items out))

-- where nothing is kept, all that is kept is a number
pub none_mines : (counts : List ℕ) (point : PointView) (kept : log.LogView) (entries : MineEntries) → entries ≡ [] → AreMines counts point kept entries
none_mines counts point kept entries none = subst (AreMines counts point kept) (sym none) (record { numbers = λ c. tt; here = λ c. tt })
