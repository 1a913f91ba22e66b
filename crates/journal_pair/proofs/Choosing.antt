-- The later of two generations is chosen.
use Rattle.std.proofs.Common.{◌≡◌, ◌<◌, inr, List, Result, Ok, Err, IfOk, IfErr, refl, sym, ◌∙◌, ap, subst}
use Rattle.journal_pair.specs.declared.entry.Entry.{Entry}
use Rattle.journal_pair.specs.declared.generations.Taken.{Taken}
use Rattle.journal_pair.specs.declared.faults.Side.{Side}
use Rattle.journal_pair.specs.declared.faults.Side.TheVariants.{First, Second}
use Rattle.journal_pair.specs.declared.faults.PairFault.{PairFault}
use Rattle.journal_pair.specs.declared.faults.PairFault.TheVariants.{Same}
use Rattle.journal_pair.specs.Marks.{number_of}
use Rattle.journal_pair.specs.Entries.{generation}
use Rattle.journal_pair.specs.Choices.{IsChosen, HasFault}
use Rattle.journal_pair.proofs.Marks.{same_mark}

module _ {T : Type 0} (x y : Taken T) (xs ys : List (Entry T)) (xs_is : xs ≡ generation x.mark x.checkpoint.items x.behind.items) (ys_is : ys ≡ generation y.mark y.checkpoint.items y.behind.items) where
  abbrev IsFirst : Side × Taken T → Type 0
  IsFirst r = r.0 ≡ First → (r.1 ≡ x) × (number_of y.mark < number_of x.mark)

  abbrev IsSecond : Side × Taken T → Type 0
  IsSecond r = r.0 ≡ Second → (r.1 ≡ y) × (number_of x.mark < number_of y.mark)

  on_side : (side : Side) (t : Taken T) → (side ≡ First → (t ≡ x) × (number_of y.mark < number_of x.mark)) → (side ≡ Second → (t ≡ y) × (number_of x.mark < number_of y.mark)) → IsChosen side t.mark t.checkpoint.items t.behind.items xs ys
  on_side First t first second =
      let q = first refl in
      record {
        live = xs_is ∙ ap (λ (u : Taken T). generation u.mark u.checkpoint.items u.behind.items) (sym q.0);
        other = inr (y.mark, (y.checkpoint.items, (y.behind.items, (subst (λ (u : Taken T). number_of y.mark < number_of u.mark) (sym q.0) q.1, ys_is))));
      }
  on_side Second t first second =
      let q = second refl in
      record {
        live = ys_is ∙ ap (λ (u : Taken T). generation u.mark u.checkpoint.items u.behind.items) (sym q.0);
        other = inr (x.mark, (x.checkpoint.items, (x.behind.items, (subst (λ (u : Taken T). number_of x.mark < number_of u.mark) (sym q.0) q.1, xs_is))));
      }

  pub chosen : (r : Result (Side × Taken T) PairFault) → IfOk r IsFirst → IfOk r IsSecond → IfOk r (λ p. IsChosen p.0 p.1.mark p.1.checkpoint.items p.1.behind.items xs ys)
  chosen (Ok p) first second = on_side p.0 p.1 first second
  chosen (Err e) first second = tt

  pub faulty : (r : Result (Side × Taken T) PairFault) → IfErr r (λ e. (e ≡ Same) × (number_of x.mark ≡ number_of y.mark)) → IfErr r (λ e. HasFault e xs ys)
  faulty (Ok p) same = tt
  faulty (Err e) same = subst (λ f. HasFault f xs ys) (sym same.0) (record {
    mark = x.mark;
    first_checkpoint = x.checkpoint.items;
    first_behind = x.behind.items;
    second_checkpoint = y.checkpoint.items;
    second_behind = y.behind.items;
    first = xs_is;
    second = ys_is ∙ ap (λ m. generation m y.checkpoint.items y.behind.items) (sym (same_mark x.mark y.mark same.1));
  })
