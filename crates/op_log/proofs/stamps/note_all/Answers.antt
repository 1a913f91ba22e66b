use Rattle.std.proofs.Common.{◌≡◌, ◌++◌, ◌∷◌, [], take, get_or, inl, inr, refl, sym, ⊎_elim, ◌+◌, List, subst}
use Rattle.std.proofs.lemmas.List.{take_more}
use Rattle.list_core.specs.Members.{In}
use Rattle.list_core.proofs.Members.{In_left, In_right}
use Rattle.vv_core.specs.declared.stamp.Stamp.{Stamp}
use Rattle.op_log.proofs.Placed.{noted_kept, noted_there, noted_from}
use Rattle.op_log.proofs.stamps.note_all.Goals as goal

pub loop-stamp-preserved : goal.loop-stamp-preserved
loop-stamp-preserved c =
    let stamps = c.args.stamps.now in
    let i = c.loop-stamp.stamp-index in
    let none : Stamp = record { centre = 0; seq = 0 } in
    let s = get_or stamps i none in
    let ps = c.loop-stamp.places.keys in
    let qs = c.note.new.places.keys in
    let is = c.in_ok-note.ensures.ok in
    let more : take (i + 1) stamps ≡ take i stamps ++ s ∷ [] = take_more stamps i none c.loop-stamp-test.true in
    record {
      there = λ t j. noted_there c.args.number s ps qs is (take i stamps) c.loop-stamp.invariant.there t (subst (λ (l : List Stamp). In t l) more j);
      kept = λ p there. noted_kept c.args.number s ps qs is p (c.loop-stamp.invariant.kept p there);
      from = λ p there. ⊎_elim
          (λ old. ⊎_elim
          (λ first. inl first)
          (λ before. inr (before.0, subst (λ (l : List Stamp). In before.0 l) (sym more) (In_left (take i stamps) (s ∷ []) before.0 before.1), before.2))
          (c.loop-stamp.invariant.from p old))
          (λ new. inr (s, subst (λ (l : List Stamp). In s l) (sym more) (In_right (take i stamps) (s ∷ []) s (inl refl)), new))
          (noted_from c.args.number s ps qs is p there);
    }
