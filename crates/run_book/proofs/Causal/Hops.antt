-- No record has as many hops as there are centres.
use Rattle.std.proofs.Common.{◌≡◌, ℕ, zero, suc, ◌≤◌, ◌<◌, true, ◌⊎◌, inl, inr, ⊎_elim, take, Some, refl, sym, ap, ◌∙◌, subst, arith}
use Rattle.std.specs.Prelude.{slice_get, nat_le}
use Rattle.std.specs.Option.{option_map}
use Rattle.std.proofs.lemmas.Bool.{cases_lt, le-leb}
use Rattle.std.proofs.lemmas.Option.{same_Some, slice_get-map}
use Rattle.list_core.specs.Members.{In}
use Rattle.list_core.proofs.Gets.{In_get}
use Rattle.tx_core.specs.declared.tx.Record.{Record}
use Rattle.dc_talk.specs.declared.ask.TheConstants.{MOST_HOPS}
use Rattle.dc_talk.specs.declared.sent.Sent.{Sent}
use Rattle.dc_talk.specs.Sents.{with_hops, items}
use Rattle.dc_talk.specs.Trails.{carried}
use Rattle.dc_talk.proofs.Growth.{carried_later}
use Rattle.dc_talk.proofs.Places.{one_place}
use Rattle.run_book.specs.Setups.{Setup, centre_settings}
use Rattle.run_book.specs.declared.book.Book.{Book}
use Rattle.run_book.specs.Parts.{trail_of}
use Rattle.run_book.specs.Fit.{FitsWith, IsHandedOn}
use Rattle.run_book.proofs.Causal.Pigeons.{pigeons}
use Rattle.run_book.proofs.Causal.Origins.{whole_each, Has, has_handed, came_from}

module _ (b : Book) (setup : Setup) (fit : FitsWith b setup) where
  -- a centre has each record with one number of hops
  once : (i : ℕ) (item : Record) (g h : ℕ) → Has b setup fit i item g → Has b setup fit i item h → g ≡ h
  once i item g h first second =
      let C = carried b.n (trail_of b i) in
      let p = In_get C (with_hops item g) first.there in
      let q = In_get C (with_hops item h) second.there in
      let at_p : slice_get (items C) p.0 ≡ Some item = slice_get-map (λ (x : Sent). x.item) C p.0 ∙ ap (option_map (λ (x : Sent). x.item)) p.1 in
      let at_q : slice_get (items C) q.0 ≡ Some item = slice_get-map (λ (x : Sent). x.item) C q.0 ∙ ap (option_map (λ (x : Sent). x.item)) q.1 in
      let same : p.0 ≡ q.0 = one_place (centre_settings b setup i) (items C) (whole_each b setup fit i first.range.0 first.range.1) p.0 q.0 item item at_p at_q refl in
      ap (λ (x : Sent). x.hops) (same_Some (with_hops item g) (with_hops item h) (sym p.1 ∙ (ap (slice_get C) same ∙ q.1)))

  -- the centre that had it with k hops, on the way to one that has it with more
  way : (h i : ℕ) (item : Record) → Has b setup fit i item h → (k : ℕ) → k ≤ h → (j : ℕ) × Has b setup fit j item k
  way zero i item a k le = (i, subst (λ m. Has b setup fit i item m) (let e : 0 ≡ k = omega (arith, le) in e) a)
  way (suc h) i item a k le = ⊎_elim (λ lt. let c = came_from b setup fit i item h a in way h c.0 item c.1 k (omega (arith, lt))) (λ ge. (i, subst (λ m. Has b setup fit i item m) (let e : suc h ≡ k = omega (arith, le, ge) in e) a)) (cases_lt k (suc h))

  -- fewer hops than centres
  few_hops : (h i : ℕ) (item : Record) → Has b setup fit i item h → h < b.n
  few_hops h i item a = pigeons b.n h (λ k. (stop k).0) in_range apart
    where
      at_most : (k : ℕ) → (k ≤ h) ⊎ (h < k)
      at_most k = ⊎_elim (λ lt. inr lt) (λ le. inl le) (cases_lt h k)

      stop : (k : ℕ) → (j : ℕ) × ((k ≤ h) → Has b setup fit j item k)
      stop k = ⊎_elim (λ le. let w = way h i item a k le in (w.0, λ _. w.1)) (λ lt. (0, λ le. absurd (omega (arith, lt, le)))) (at_most k)

      in_range : (k : ℕ) → k ≤ h → (1 ≤ (stop k).0) × ((stop k).0 ≤ b.n)
      in_range k le = ((stop k).1 le).range

      apart : (j k : ℕ) → j < k → k ≤ h → (stop j).0 ≡ (stop k).0 → ⊥
      apart j k lt le e =
          let x : Has b setup fit (stop k).0 item j = subst (λ i. Has b setup fit i item j) e ((stop j).1 (omega (arith, lt, le))) in
          let same : j ≡ k = once (stop k).0 item j k x ((stop k).1 le) in
          omega (arith, same, lt)

  -- no applied record has as many hops as there are centres, at any moment
  pub hops_below : (i p : ℕ) (x : Sent) → 1 ≤ i → i ≤ b.n → In x (carried b.n (take p (trail_of b i))) → x.hops < b.n
  hops_below i p x low high here = few_hops x.hops i x.item (record { range = (low, high); there = carried_later b.n (trail_of b i) p x here })

  -- so no record that is handed on has too many hops for a delivery
  pub handed_few : (item : Record) (hops : ℕ) → IsHandedOn b item hops → nat_le hops MOST_HOPS ≡ true
  handed_few item hops on = le-leb hops MOST_HOPS (let below = few_hops hops on.centre item (has_handed b setup fit item hops on) in let most = fit.form.n.1 in omega (arith, below, most))
