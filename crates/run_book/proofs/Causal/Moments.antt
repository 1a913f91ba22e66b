-- Each centre whose row covers a stamp had it at a moment of its own trail.
use Rattle.std.proofs.Common.{◌≡◌, ℕ, zero, suc, ◌+◌, ◌≤◌, ◌<◌, Bool, true, false, cond, ◌⊎◌, inl, inr, ⊎_elim, List, [], ◌∷◌, length, take, map, Option, Some, None, refl, sym, ap, ◌∙◌, subst, arith}
use Rattle.std.specs.Prelude.{slice_get, fold, ◌==◌}
use Rattle.std.specs.List.{range_with_len}
use Rattle.std.proofs.lemmas.Bool.{leb-true, le-leb, eqb-true, cases_lt}
use Rattle.std.proofs.lemmas.Option.{none-some, same_Some, slice_get_within}
use Rattle.std.proofs.lemmas.List.{take_all}
use Rattle.list_core.proofs.Gets.{get_in_take}
use Rattle.vv_core.specs.declared.stamp.Stamp.{Stamp}
use Rattle.vv_core.specs.Vectors.{at, within, zeros, join_of}
use Rattle.vv_core.proofs.Entrywise.{at-zeros, at-join_of}
use Rattle.dc_talk.specs.declared.say.Say.TheVariants.{Vector}
use Rattle.dc_talk.specs.Entries.{Entry}
use Rattle.dc_talk.specs.Records.{vector}
use Rattle.dc_talk.specs.Trails.{applied, taught_in, taught, told, rows}
use Rattle.dc_talk.specs.Answers.{answer}
use Rattle.dc_talk.proofs.PeerAnswers.{vector_by}
use Rattle.run_book.specs.declared.book.Book.{Book}
use Rattle.run_book.specs.Setups.{Setup, centre_settings}
use Rattle.run_book.specs.Parts.{trail_of, applied_at}
use Rattle.run_book.specs.Fit.{FitsWith, IsReported}
use Rattle.run_book.specs.Known.{HasMoment, HasReported}
use Rattle.run_book.proofs.Causal.CentreVectors.{taught_news}

-- ---- what a trail taught

-- a vector of centre j that covers the stamp, among these
pub record IsLesson (j : ℕ) (stamp : Stamp) (o : Option (ℕ × List ℕ)) : Type 0 where
  pub news : ℕ × List ℕ
  pub taught : o ≡ Some news
  pub from : news.0 ≡ j
  pub covers : stamp.seq ≤ at news.1 stamp.centre

-- where a row of what was told covers a stamp after one more lesson, it did before or the lesson covers it
told_step : (j : ℕ) (stamp : Stamp) (row : List ℕ) (o : Option (ℕ × List ℕ)) → stamp.seq ≤ at (taught j row o) stamp.centre → (stamp.seq ≤ at row stamp.centre) ⊎ IsLesson j stamp o
told_step j stamp row None h = inl h
told_step j stamp row (Some news) h = go (news.0 == j) refl h
  where
    go : (t : Bool) → (news.0 == j) ≡ t → stamp.seq ≤ at (cond t (join_of row news.1) row) stamp.centre → (stamp.seq ≤ at row stamp.centre) ⊎ IsLesson j stamp (Some news)
    go true is h = ⊎_elim
        (λ lt. inr (record { news = news; taught = refl; from = eqb-true news.0 j is; covers = omega (arith, h, at-join_of row news.1 stamp.centre, lt) }))
        (λ le. inl le)
        (cases_lt (at row stamp.centre) stamp.seq)
    go false is h = inl h

-- an entry of the trail that taught a vector of centre j which covers the stamp
pub record IsTaught (j : ℕ) (stamp : Stamp) (trail : List Entry) : Type 0 where
  pub place : ℕ
  pub entry : Entry
  pub there : slice_get trail place ≡ Some entry
  pub lesson : IsLesson j stamp (taught_in entry.ask entry.say)

-- where the row covers a stamp after a trail, it did before or an entry taught it
pub told_fold : (j : ℕ) (stamp : Stamp) (trail : List Entry) (row : List ℕ) → stamp.seq ≤ at (fold (λ row entry. taught j row (taught_in entry.ask entry.say)) row trail) stamp.centre → (stamp.seq ≤ at row stamp.centre) ⊎ IsTaught j stamp trail
told_fold j stamp [] row h = inl h
told_fold j stamp (entry ∷ trail) row h =
    ⊎_elim
    (λ a. ⊎_elim (λ b. inl b) (λ lesson. inr (record { place = 0; entry = entry; there = refl; lesson = lesson })) (told_step j stamp row (taught_in entry.ask entry.say) a))
    (λ (t : IsTaught j stamp trail). inr (record { place = suc t.place; entry = t.entry; there = t.there; lesson = t.lesson }))
    (told_fold j stamp trail (taught j row (taught_in entry.ask entry.say)) h)

-- what stands at a place of the values at a range of numbers
get_over_range : {X : Type 0} (f : ℕ → X) (first count j : ℕ) (x : X) → slice_get (map f (range_with_len first count)) j ≡ Some x → (j < count) × (f (first + j) ≡ x)
get_over_range f first zero j x there = absurd (none-some x there)
get_over_range f first (suc count) zero x there =
    let here : first + 0 ≡ first = omega arith in
    (omega arith, ap f here ∙ same_Some (f first) x there)
get_over_range f first (suc count) (suc j) x there =
    let r = get_over_range f (first + 1) count j x there in
    let here : first + suc j ≡ first + 1 + j = omega arith in
    (omega (arith, r.0), ap f here ∙ r.1)

-- ---- a book

module _ (b : Book) (setup : Setup) (fit : FitsWith b setup) where
  -- what the vector of a centre covers, it has at that moment
  own_moment : (i p : ℕ) (stamp : Stamp) → 1 ≤ i → i ≤ b.n → within stamp (vector b.n (applied_at b i p)) ≡ true → HasMoment b i stamp
  own_moment i p stamp low high is = ⊎_elim
      (λ past. record { centre = (low, high); place = length (trail_of b i); few = omega arith; covers = subst (λ X. within stamp (vector b.n (applied b.n X)) ≡ true) (take_all p (trail_of b i) (omega (arith, past)) ∙ sym (take_all (length (trail_of b i)) (trail_of b i) (omega arith))) is })
      (λ few. record { centre = (low, high); place = p; few = few; covers = is })
      (cases_lt (length (trail_of b i)) p)

  -- what a centre was told of another, that one reported
  told_report : (i p j : ℕ) (stamp : Stamp) → IsTaught j stamp (take p (trail_of b i)) → HasReported b j stamp
  told_report i p j stamp t = subst (λ j. HasReported b j stamp) l.from (record {
    centre = r.origin;
    place = r.place;
    entry = r.entry;
    there = r.there;
    says = r.says ∙ ap Vector same;
    covers = subst (λ v. within stamp v ≡ true) same (le-leb stamp.seq (at l.news.1 stamp.centre) l.covers);
  })
    where
      l : IsLesson j stamp (taught_in t.entry.ask t.entry.say)
      l = t.lesson

      r : IsReported b l.news.0 l.news.1
      r = fit.learned i t.place t.entry l.news.0 l.news.1 (get_in_take (trail_of b i) p t.place t.entry t.there) (taught_news t.entry.ask t.entry.say l.news l.taught)

      is : Vector l.news.1 ≡ answer (centre_settings b setup l.news.0) (take r.place (trail_of b l.news.0)) r.entry.ask
      is = sym r.says ∙ (fit.histories l.news.0 r.origin.0 r.origin.1).holds r.place r.entry r.there

      same : l.news.1 ≡ vector b.n (applied_at b l.news.0 r.place)
      same = vector_by (centre_settings b setup l.news.0) (take r.place (trail_of b l.news.0)) r.entry.ask l.news.1 is

  -- what a centre reported, it had at a moment
  reported_moment : (j : ℕ) (stamp : Stamp) → HasReported b j stamp → HasMoment b j stamp
  reported_moment j stamp r = record { centre = r.centre; place = r.place; few = omega (arith, slice_get_within (trail_of b j) r.place r.entry r.there); covers = r.covers }

  -- where a centre's row of another covers a stamp that there is, the other has reported so
  pub row_reported : (i p j : ℕ) (stamp : Stamp) → 1 ≤ stamp.seq → stamp.seq ≤ at (told b.n j (take p (trail_of b i))) stamp.centre → HasReported b j stamp
  row_reported i p j stamp one high = ⊎_elim
      (λ none. absurd (omega (arith, one, none, at-zeros b.n stamp.centre)))
      (λ t. told_report i p j stamp t)
      (told_fold j stamp (take p (trail_of b i)) (zeros b.n) high)

  -- what a centre was told of another, that one had at a moment
  told_moment : (i p j : ℕ) (stamp : Stamp) → IsTaught j stamp (take p (trail_of b i)) → HasMoment b j stamp
  told_moment i p j stamp t = reported_moment j stamp (told_report i p j stamp t)

  -- a stamp numbered 0 would be there from the first
  none_moment : (j : ℕ) (stamp : Stamp) → 1 ≤ j → j ≤ b.n → stamp.seq ≤ 0 → HasMoment b j stamp
  none_moment j stamp low high none = record { centre = (low, high); place = 0; few = omega arith; covers = le-leb stamp.seq (at (vector b.n (applied_at b j 0)) stamp.centre) (omega (arith, none)) }

  -- a centre's row of a centre covers a stamp that this one had at a moment of its own trail
  pub row_moment : (i p j : ℕ) (stamp : Stamp) → 1 ≤ i → i ≤ b.n → 1 ≤ j → j ≤ b.n → (t : Bool) → (j == i) ≡ t → within stamp (cond t (vector b.n (applied_at b i p)) (told b.n j (take p (trail_of b i)))) ≡ true → HasMoment b j stamp
  row_moment i p j stamp low high least most true same is = subst (λ j. HasMoment b j stamp) (sym (eqb-true j i same)) (own_moment i p stamp low high is)
  row_moment i p j stamp low high least most false same is = ⊎_elim
      (λ none. none_moment j stamp least most (omega (arith, none, at-zeros b.n stamp.centre)))
      (λ t. told_moment i p j stamp t)
      (told_fold j stamp (take p (trail_of b i)) (zeros b.n) (leb-true stamp.seq (at (told b.n j (take p (trail_of b i))) stamp.centre) is))

  -- so each centre whose row covers the stamp
  pub moment : (i p j : ℕ) (row : List ℕ) (stamp : Stamp) → 1 ≤ i → i ≤ b.n → slice_get (rows (centre_settings b setup i) (take p (trail_of b i))) j ≡ Some row → within stamp row ≡ true → HasMoment b (j + 1) stamp
  moment i p j row stamp low high there is =
      let X = take p (trail_of b i) in
      let r = get_over_range (λ j. cond (j == i) (vector b.n (applied b.n X)) (told b.n j X)) 1 b.n j row there in
      let which : 1 + j ≡ j + 1 = omega arith in
      subst (λ j. HasMoment b j stamp) which (row_moment i p (1 + j) stamp low high (omega arith) (omega (arith, r.0)) (1 + j == i) refl (subst (λ row. within stamp row ≡ true) (sym r.1) is))
