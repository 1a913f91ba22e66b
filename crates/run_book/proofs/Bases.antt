-- What the centres stamped is what a vector covers, so a replay stands on what its client stands on.
use Rattle.std.proofs.Common.{◌≡◌, ℕ, zero, suc, ◌+◌, ◌-◌, ◌≤◌, ◌<◌, cond, List, [], ◌∷◌, ◌++◌, length, take, map, Some, refl, sym, ap, ◌∙◌, subst, arith, get_or, add-one}
use Rattle.std.specs.Prelude.{slice_get, flat_map, ◌==◌}
use Rattle.std.specs.List.{cons_option}
use Rattle.std.proofs.lemmas.Bool.{eq-eqb, false_from_ne_true, eqb-true}
use Rattle.std.proofs.lemmas.List.FromFn.{map-range_with_len_more}
use Rattle.std.proofs.lemmas.List.{append-nil, append_assoc, map-append, take-map, take_all, length-replicate, get_or-map}
use Rattle.std.proofs.lemmas.List.Elements.{filter_map-append}
use Rattle.list_core.proofs.Moments.{by_moments}
use Rattle.list_core.proofs.Ranges.{In_from_range}
use Rattle.ids_core.specs.declared.ids.Dot.{Dot}
use Rattle.vv_core.specs.declared.stamp.Stamp.{Stamp}
use Rattle.vv_core.specs.Vectors.{at, centres}
use Rattle.tx_core.specs.declared.tx.Record.{Record}
use Rattle.dc_talk.specs.declared.ask.Ask.{Ask}
use Rattle.dc_talk.specs.declared.ask.Ask.TheVariants.{Commit, Deliver}
use Rattle.dc_talk.specs.declared.say.Say.{Say}
use Rattle.dc_talk.specs.declared.say.Say.TheVariants.{Stamped, Applied}
use Rattle.dc_talk.specs.Entries.{Entry}
use Rattle.dc_talk.proofs.Growth.{applied_push}
use Rattle.dc_talk.specs.Logs.{Logged}
use Rattle.dc_talk.specs.Records.{own, deps_of}
use Rattle.dc_talk.specs.Trails.{grown, applied}
use Rattle.dc_talk.specs.Answers.{answer, History}
use Rattle.dc_talk.specs.Clients.{Client}
use Rattle.dc_talk.proofs.ClientAnswers.{stamped_by}
use Rattle.dc_talk.proofs.PeerAnswers.{applied_by}
use Rattle.run_book.specs.Setups.{Setup, centre_settings}
use Rattle.run_book.specs.declared.book.Book.{Book}
use Rattle.run_book.specs.declared.replay.Replay.{Replay}
use Rattle.run_book.specs.Books.{entries_of}
use Rattle.run_book.specs.Parts.{trail_of, idle_log, log_of, notes_of}
use Rattle.run_book.specs.Fit.{FitsWith}
use Rattle.run_book.specs.Graphs.{own_list, cover, own_dots, basis, client_at, basis_at}
use Rattle.run_book.specs.Replay.{Shows}
use Rattle.run_book.specs.Basis.{dot_stamped, stamped_dots, stamped_cover, basis_of}
use Rattle.list_core.proofs.Images.{flat_map-agree}
use Rattle.run_book.proofs.Held.{dot_at}
use Rattle.run_book.proofs.Growth.{wide_after}
use Rattle.dc_talk.specs.declared.settings.Settings.{Settings}
use Rattle.machine_trail.specs.History.{TrailView}

-- ---- the trail of a centre

-- the trail that stands at a centre's place
pub trail_there : (b : Book) (trails : List (TrailView Ask Say)) (centre place : ℕ) (trail : TrailView Ask Say) → entries_of trails ≡ b.trails → 1 ≤ centre → place ≡ centre - 1 → place < length trails → trail ≡ get_or trails place trail → trail.entries ≡ trail_of b centre
trail_there b trails zero place trail is low at lt found = absurd (omega (arith, low))
trail_there b trails (suc i) place trail is low at lt found =
    let here : place ≡ i = omega (arith, at) in
    ap (λ (t : TrailView Ask Say). t.entries) found ∙ (sym (get_or-map (λ (t : TrailView Ask Say). t.entries) trails place trail [] lt) ∙ (ap (λ l. get_or l place []) is ∙ ap (λ p. get_or b.trails p []) here))

-- the log that stands at an actor's place
pub log_there : (b : Book) (logs : List Logged) (place : ℕ) (log : Logged) → logs ≡ b.logs → log ≡ get_or logs place (idle_log 0) → log ≡ log_of b (place + 1)
log_there b logs place log is found = rw add-one (found ∙ ap (λ l. get_or l place (idle_log 0)) is)

-- ---- own records and stamped commits

-- an own record more
own_more : (me : ℕ) (A : List Record) (r : Record) → r.stamp.centre ≡ me → map (λ r. r.tx.dot) (own me (A ++ r ∷ [])) ≡ map (λ r. r.tx.dot) (own me A) ++ r.tx.dot ∷ []
own_more me A r same =
    ap (map (λ r. r.tx.dot)) (Rattle.std.proofs.lemmas.List.Elements.filter-append (λ (r : Record). r.stamp.centre == me) A (r ∷ []) ∙ ap (λ b. own me A ++ cond b (r ∷ []) []) (eq-eqb r.stamp.centre me same))
    ∙ map-append (λ r. r.tx.dot) (own me A) (r ∷ [])

-- a record of another centre is none
own_other : (me : ℕ) (A : List Record) (r : Record) → (r.stamp.centre ≡ me → ⊥) → own me (A ++ r ∷ []) ≡ own me A
own_other me A r other =
    Rattle.std.proofs.lemmas.List.Elements.filter-append (λ (r : Record). r.stamp.centre == me) A (r ∷ [])
    ∙ (ap (λ b. own me A ++ cond b (r ∷ []) []) (false_from_ne_true (r.stamp.centre == me) (λ t. other (eqb-true r.stamp.centre me t))) ∙ append-nil (own me A))

-- the records that a centre stamped are its stamped commits, in order
own_stamped_at : (settings : Settings) (trail : List Entry) → History settings trail → (p : ℕ) → map (λ r. r.tx.dot) (own settings.me (applied settings.n (take p trail))) ≡ stamped_dots (take p trail)
own_stamped_at settings trail history = by_moments (λ X. map (λ r. r.tx.dot) (own settings.me (applied settings.n X)) ≡ stamped_dots X) trail refl step
  where
    step : (p : ℕ) (entry : Entry) → slice_get trail p ≡ Some entry → map (λ r. r.tx.dot) (own settings.me (applied settings.n (take p trail))) ≡ stamped_dots (take p trail) → map (λ r. r.tx.dot) (own settings.me (applied settings.n (take p trail ++ entry ∷ []))) ≡ stamped_dots (take p trail ++ entry ∷ [])
    step p entry there before =
        ap (λ A. map (λ r. r.tx.dot) (own settings.me A)) (applied_push settings.n (take p trail) entry)
        ∙ (go entry.ask entry.say (history.holds p entry there)
        ∙ (ap (λ l. l ++ cons_option (dot_stamped entry.ask entry.say) []) before
        ∙ sym (filter_map-append (λ (e : Entry). dot_stamped e.ask e.say) (take p trail) (entry ∷ []))))
      where
        A : List Record
        A = applied settings.n (take p trail)

        same : own settings.me A ≡ own settings.me A → map (λ r. r.tx.dot) (own settings.me A) ≡ map (λ r. r.tx.dot) (own settings.me A) ++ []
        same is = sym (append-nil (map (λ r. r.tx.dot) (own settings.me A)))

        go : (ask : Ask) (say : Say) → say ≡ answer settings (take p trail) ask → map (λ r. r.tx.dot) (own settings.me (grown settings.n A ask say)) ≡ map (λ r. r.tx.dot) (own settings.me A) ++ cons_option (dot_stamped ask say) []
        go (Commit tx) (Stamped stamp) is =
            let by = stamped_by settings (take p trail) tx stamp is in
            own_more settings.me A (record { stamp = stamp; deps = deps_of settings.n A tx; tx = tx }) (ap (λ (s : Stamp). s.centre) by.is)
        go (Commit tx) _ is = same refl
        go (Deliver item hops) (Applied fresh) is =
            let by = applied_by settings (take p trail) item hops fresh is in
            ap (map (λ r. r.tx.dot)) (own_other settings.me A item by.other) ∙ same refl
        go (Deliver item hops) _ is = same refl
        go _ _ is = same refl

-- so are those of the whole trail
own_stamped : (settings : Settings) (trail : List Entry) → History settings trail → map (λ r. r.tx.dot) (own settings.me (applied settings.n trail)) ≡ stamped_dots trail
own_stamped settings trail history = subst (λ X. map (λ r. r.tx.dot) (own settings.me (applied settings.n X)) ≡ stamped_dots X) (take_all (length trail) trail (omega arith)) (own_stamped_at settings trail history (length trail))

-- ---- what a vector covers

-- the dots of a client's first transactions, with one more
pub own_dots_more : (front : List Dot) (client count : ℕ) → (front ++ own_dots client count) ++ record { client = client; number = count + 1 } ∷ [] ≡ front ++ own_dots client (count + 1)
own_dots_more front client count =
    append_assoc front (own_dots client count) (dot_at client (count + 1) ∷ [])
    ∙ ap (λ l. front ++ l) (sym (map-range_with_len_more (dot_at client) 1 count (count + 1) (omega arith)))

module _ (b : Book) (setup : Setup) (fit : FitsWith b setup) where
  -- what the centres stamped is what a vector covers
  pub stamped_covers : (vector : List ℕ) → length vector ≡ b.n → stamped_cover b vector ≡ cover b vector
  stamped_covers vector wide =
      ap (λ n. flat_map (λ e. take (at vector e) (stamped_dots (trail_of b e))) (centres n)) wide
      ∙ flat_map-agree _ _ (centres b.n) (λ e i. same e (In_from_range 1 b.n e i))
    where
      same : (e : ℕ) → (1 ≤ e) × (e < 1 + b.n) → take (at vector e) (stamped_dots (trail_of b e)) ≡ map (λ r. r.tx.dot) (take (at vector e) (own_list b e))
      same e range =
          ap (take (at vector e)) (sym (own_stamped (centre_settings b setup e) (trail_of b e) (fit.histories e range.0 (omega (arith, range.1)))))
          ∙ take-map (λ (r : Record). r.tx.dot) (at vector e) (own_list b e)

  -- a replay stands on what its client stands on
  pub shows_basis : (r : Replay) (s : Client) → Shows r s → length s.vector ≡ b.n → basis_of b r ≡ basis b s
  shows_basis r s h wide =
      ap (λ v. stamped_cover b v ++ own_dots r.client r.own) h.vector
      ∙ (ap (λ l. l ++ own_dots r.client r.own) (stamped_covers s.vector wide)
      ∙ (ap (λ c. cover b s.vector ++ own_dots c r.own) h.client ∙ ap (λ k. cover b s.vector ++ own_dots s.client k) h.own))

  -- the replay of a client at a note stands on the basis there
  pub read_basis : (a note : ℕ) (r : Replay) → Shows r (client_at b setup a note) → basis_of b r ≡ basis_at b setup a note
  read_basis a note r shows = shows_basis r (client_at b setup a note) shows (wide_after b.n (a - 1) setup.capacity (take note (notes_of b a)))
