use Rattle.std.proofs.Common.{◌≡◌, ℕ, List, [], length, refl, sym, ap, ◌∙◌, subst, arith}
use Rattle.vv_core.specs.Vectors.{at, zeros, Covers}
use Rattle.k_stable.specs.Tables.{stable_of, all_known_of}
use Rattle.vv_core.proofs.Entrywise.{length-zeros, at-zeros}
use Rattle.dc_centre.specs.Outboxes.{Keeps}
use Rattle.dc_centre.proofs.Rows.{keeps_none}
use Rattle.dc_centre.proofs.centre.Centre.new.Goals as goal

-- every vector covers that of zeros
covers_zeros : (v : List ℕ) (n : ℕ) → Covers v (zeros n)
covers_zeros v n = record { holds = λ e. let none = at-zeros n e in omega (arith, none) }

pub invariant_of-result : goal.invariant_of-result
invariant_of-result c =
    let n = c.args.n in
    let x = c.in_ok-new.field-0 in
    let mark : c.zero.result ≡ zeros n = c.zero.ensures in
    record {
      centre = c.requires.centre;
      few = c.requires.width;
      known = c.requires.known;
      most = c.requires.most.1;
      width = ap (λ (v : List ℕ). length v) c.in_ok-new.ensures.counts ∙ length-zeros n;
      table = c.new-2.ensures.table;
      same = c.new-2.ensures.numbers;
      room = let none : at x.counts c.args.me ≡ 0 = ap (λ (v : List ℕ). at v c.args.me) c.in_ok-new.ensures.counts ∙ at-zeros n c.args.me in omega (arith, none);
      marked = ap (λ (v : List ℕ). length v) mark ∙ length-zeros n;
      ahead = subst (λ (v : List ℕ). Covers c.zero.result v) (sym c.in_ok-new.ensures.base) (covers_zeros c.zero.result n);
      stable = subst (λ (v : List ℕ). Covers (stable_of c.new-2.result x.counts) v) (sym mark) (covers_zeros (stable_of c.new-2.result x.counts) n);
      let_go = ap (λ (v : List ℕ). length v) c.zero-2.ensures ∙ length-zeros n;
      gone = subst (λ (v : List ℕ). Covers (all_known_of c.new-2.result x.counts) v) (sym c.zero-2.ensures) (covers_zeros (all_known_of c.new-2.result x.counts) n);
    }

pub returns-clause-stands : goal.returns-clause-stands
returns-clause-stands c = record {
  holds = record { applied = c.in_ok-new.ensures.none; outbox = subst (λ (v : List ℕ). Keeps c.args.n c.in_ok-new-2.field-0.rows v []) (sym c.zero-2.ensures) (keeps_none c.args.n c.in_ok-new-2.field-0.rows c.in_ok-new-2.ensures c.requires.width) };
  told = λ j other low high. c.new-2.ensures.told j low high;
  pruned = λ i. record { base = c.in_ok-new.ensures.base i; mark = c.zero.ensures i; trimmed = c.zero-2.ensures i };
  down = refl;
}
