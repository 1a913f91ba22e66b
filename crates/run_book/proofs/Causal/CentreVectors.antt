-- The vectors of centres, what centres told one another, and stable vectors are sound at each moment.
use Rattle.std.proofs.Common.{◌≡◌, ℕ, ◌-◌, ◌≤◌, Bool, true, false, cond, List, [], ◌∷◌, ◌++◌, length, take, Option, Some, None, refl, sym, ap, ◌∙◌, subst, arith}
use Rattle.std.specs.Prelude.{slice_get, All, ◌==◌}
use Rattle.std.specs.Option.{option_map}
use Rattle.std.proofs.lemmas.Option.{none-some, same_Some}
use Rattle.std.proofs.lemmas.List.{length-take}
use Rattle.std.proofs.lemmas.List.Elements.{All-map}
use Rattle.std.proofs.lemmas.List.Sums.{fold_push}
use Rattle.list_core.proofs.Gets.{In_get}
use Rattle.list_core.proofs.Moments.{by_moments}
use Rattle.vv_core.specs.Vectors.{at, zeros, centres, join_of, kth_largest, width_of, Covers, SoundFor}
use Rattle.vv_core.proofs.Covering.{Covers-tabulate}
use Rattle.vv_core.proofs.Entrywise.{at-zeros, at-join_of, at-meet_of, at-tabulate_le, length-tabulate, length-zeros, length-join_of, width_of-rows}
use Rattle.vv_core.proofs.Sound.{zeros_sound, join_of_sound, meet_of_sound, kth_largest_sound}
use Rattle.tx_core.specs.declared.tx.Record.{Record}
use Rattle.dc_talk.specs.declared.ask.Ask.{Ask}
use Rattle.dc_talk.specs.declared.ask.Ask.TheVariants.{Learn}
use Rattle.dc_talk.specs.declared.say.Say.{Say}
use Rattle.dc_talk.specs.declared.say.Say.TheVariants.{Learned}
use Rattle.dc_talk.specs.Entries.{Entry}
use Rattle.dc_talk.specs.Records.{vector, count}
use Rattle.dc_talk.specs.Trails.{applied, taught_in, taught, told, rows, stable}
use Rattle.dc_talk.proofs.Counts.{count_take, own_length}
use Rattle.dc_talk.proofs.PeerAnswers.{vector_by}
use Rattle.run_book.specs.Setups.{Setup, centre_settings}
use Rattle.run_book.specs.declared.book.Book.{Book}
use Rattle.run_book.specs.Parts.{trail_of, applied_at}
use Rattle.run_book.specs.Fit.{FitsWith, IsReported}
use Rattle.run_book.specs.Graphs.{own_list}
use Rattle.run_book.specs.Sound.{deps_in, IsSound}
use Rattle.run_book.proofs.Causal.Origins.{each_at, counted_there}
use Rattle.run_book.proofs.Causal.OneList.{front}

-- ---- sound vectors

-- a vector of zeros is sound
pub zeros_are_sound : (b : Book) (n : ℕ) → IsSound b (zeros n)
zeros_are_sound b n = record { bounded = λ e. omega (arith, at-zeros n e); deps = zeros_sound (deps_in b) n }

-- the join of two sound vectors is sound
pub join_is_sound : (b : Book) (v w : List ℕ) → IsSound b v → IsSound b w → IsSound b (join_of v w)
join_is_sound b v w left right = record { bounded = λ e. omega (arith, at-join_of v w e, left.bounded e, right.bounded e); deps = join_of_sound (deps_in b) v w left.deps right.deps }

-- a sound vector with an entry for each centre
record IsSoundRow (b : Book) (v : List ℕ) : Type 0 where
  sound : IsSound b v
  wide : length v ≡ b.n

-- the join of two of them is one
join_row : (b : Book) (v w : List ℕ) → IsSoundRow b v → IsSoundRow b w → IsSoundRow b (join_of v w)
join_row b v w left right = record { sound = join_is_sound b v w left.sound right.sound; wide = length-join_of v w ∙ omega (arith, left.wide, right.wide) }

-- what an ask taught, it had with it
pub taught_news : (ask : Ask) (say : Say) (news : ℕ × List ℕ) → taught_in ask say ≡ Some news → ask ≡ Learn news.0 news.1
taught_news (Learn from v) (Learned fresh) news is = ap (λ (news : ℕ × List ℕ). Learn news.0 news.1) (same_Some (from, v) news is)
taught_news (Learn from v) _ news is = absurd (none-some news is)
taught_news _ _ news is = absurd (none-some news is)

-- ---- a book

module _ (b : Book) (setup : Setup) (fit : FitsWith b setup) where
  -- the vector of a centre is sound
  pub vector_sound : (i p : ℕ) → 1 ≤ i → i ≤ b.n → IsSound b (vector b.n (applied_at b i p))
  vector_sound i p low high = record { bounded = bounded; deps = record { holds = covered } }
    where
      A : List Record
      A = applied_at b i p

      bounded : (e : ℕ) → at (vector b.n (applied_at b i p)) e ≤ length (own_list b e)
      bounded e = omega (arith, at-tabulate_le b.n e (λ e. count e A), own_length e A, ap length (front b setup fit i p low high e), length-take (count e A) (own_list b e))

      covered : (e k : ℕ) (w : List ℕ) → 1 ≤ k → k ≤ at (vector b.n (applied_at b i p)) e → deps_in b e k ≡ Some w → Covers (vector b.n (applied_at b i p)) w
      covered e k w one le here =
          let t = counted_there b setup fit i p e (k - 1) low high (omega (arith, one, le, at-tabulate_le b.n e (λ e. count e A))) in
          let same : t.item.deps ≡ w = same_Some t.item.deps w (sym (ap (option_map (λ (r : Record). r.deps)) t.own) ∙ here) in
          let g = In_get A t.item t.there in
          let placed = (each_at b setup fit i p low high).holds g.0 t.item g.1 in
          subst (λ w. Covers (vector b.n A) w) same (Covers-tabulate b.n (λ e. count e A) t.item.deps placed.width (λ f. omega (arith, placed.waited f, count_take f g.0 A)))

  -- so is a vector that was reported
  reported_sound : (news : ℕ × List ℕ) → IsReported b news.0 news.1 → IsSoundRow b news.1
  reported_sound news r =
      let X = take r.place (trail_of b news.0) in
      let is : news.1 ≡ vector b.n (applied b.n X) = vector_by (centre_settings b setup news.0) X r.entry.ask news.1 (sym r.says ∙ (fit.histories news.0 r.origin.0 r.origin.1).holds r.place r.entry r.there) in
      subst (λ v. IsSoundRow b v) (sym is) (record { sound = vector_sound news.0 r.place r.origin.0 r.origin.1; wide = length-tabulate b.n (λ e. count e (applied b.n X)) })

  -- so is what a centre was told by another
  told_row : (i j p : ℕ) → IsSoundRow b (told b.n j (take p (trail_of b i)))
  told_row i j p = by_moments (λ X. IsSoundRow b (told b.n j X)) (trail_of b i) (record { sound = zeros_are_sound b b.n; wide = length-zeros b.n }) step p
    where
      step : (p : ℕ) (entry : Entry) → slice_get (trail_of b i) p ≡ Some entry → IsSoundRow b (told b.n j (take p (trail_of b i))) → IsSoundRow b (told b.n j (take p (trail_of b i) ++ entry ∷ []))
      step p entry there row = subst (λ v. IsSoundRow b v) (sym (fold_push (λ row (entry : Entry). taught j row (taught_in entry.ask entry.say)) (zeros b.n) (take p (trail_of b i)) entry)) (go (taught_in entry.ask entry.say) refl)
        where
          pick : (news : ℕ × List ℕ) → IsSoundRow b news.1 → (t : Bool) → IsSoundRow b (cond t (join_of (told b.n j (take p (trail_of b i))) news.1) (told b.n j (take p (trail_of b i))))
          pick news reported true = join_row b (told b.n j (take p (trail_of b i))) news.1 row reported
          pick news reported false = row

          go : (o : Option (ℕ × List ℕ)) → taught_in entry.ask entry.say ≡ o → IsSoundRow b (taught j (told b.n j (take p (trail_of b i))) o)
          go None is = row
          go (Some news) is = pick news (reported_sound news (fit.learned i p entry news.0 news.1 there (taught_news entry.ask entry.say news is))) (news.0 == j)

  -- in particular it is sound
  pub told_sound : (i j p : ℕ) → IsSound b (told b.n j (take p (trail_of b i)))
  told_sound i j p = (told_row i j p).sound

  -- the stable vector of a centre is sound
  pub stable_sound : (i p : ℕ) → 1 ≤ i → i ≤ b.n → IsSound b (stable (centre_settings b setup i) (take p (trail_of b i)))
  stable_sound i p low high = record {
    bounded = λ e. omega (arith, at-meet_of (kth_largest b.k R) (vector b.n (applied_at b i p)) e, own.bounded e);
    deps = meet_of_sound (deps_in b) (kth_largest b.k R) (vector b.n (applied_at b i p)) (kth_largest_sound (deps_in b) b.k R fit.form.k.0 wide sound) own.deps;
  }
    where
      R : List (List ℕ)
      R = rows (centre_settings b setup i) (take p (trail_of b i))

      own : IsSound b (vector b.n (applied_at b i p))
      own = vector_sound i p low high

      row : ℕ → List ℕ
      row j = cond (j == i) (vector b.n (applied_at b i p)) (told b.n j (take p (trail_of b i)))

      each : (j : ℕ) (t : Bool) → IsSoundRow b (cond t (vector b.n (applied_at b i p)) (told b.n j (take p (trail_of b i))))
      each j true = record { sound = own; wide = length-tabulate b.n (λ e. count e (applied_at b i p)) }
      each j false = told_row i j p

      width : width_of (rows (centre_settings b setup i) (take p (trail_of b i))) ≡ b.n
      width = width_of-rows row b.n b.n fit.form.n.0 (λ j. (each j (j == i)).wide)

      wide : All (λ (v : List ℕ). length v ≡ width_of (rows (centre_settings b setup i) (take p (trail_of b i)))) (rows (centre_settings b setup i) (take p (trail_of b i)))
      wide = All-map (λ (v : List ℕ). length v ≡ width_of R) row (centres b.n) (λ k j below. (each _ (_ == i)).wide ∙ sym width)

      sound : All (λ (v : List ℕ). SoundFor (deps_in b) v) (rows (centre_settings b setup i) (take p (trail_of b i)))
      sound = All-map (λ (v : List ℕ). SoundFor (deps_in b) v) row (centres b.n) (λ k j below. (each _ (_ == i)).sound.deps)
