-- What centres of a book that fits have folded and let go, and how they answer to those who ask for it.
use Rattle.std.proofs.Common.{◌≡◌, ℕ, suc, ◌+◌, ◌≤◌, Bool, true, false, cond, ⊎_elim, List, [], ◌∷◌, length, take, refl, sym, ap, ◌∙◌, subst, arith}
use Rattle.std.specs.Prelude.{◌↔◌, ◌==◌, nat_le, map}
use Rattle.std.proofs.lemmas.Bool.{cases_Bool, and_parts, and_from, leb-true, leb-false, le-leb, ne_eqb}
use Rattle.list_core.specs.Members.{In}
use Rattle.list_core.proofs.Choices.{first_of_holds, when_none, when_holds}
use Rattle.list_core.proofs.Members.{In_map}
use Rattle.list_core.proofs.Moments.{by_prefixes, take_one_more}
use Rattle.list_core.proofs.Ranges.{In_range}
use Rattle.list_core.specs.Choices.{when, first_of}
use Rattle.ids_core.specs.declared.ids.Mark.{Mark}
use Rattle.ids_core.specs.declared.object.ObjectId.{ObjectId}
use Rattle.vv_core.specs.declared.stamp.Stamp.{Stamp}
use Rattle.vv_core.specs.declared.stamp.Lack.{Lack}
use Rattle.vv_core.specs.Vectors.{at, zeros, centres, Covers, IsFirstLack}
use Rattle.vv_core.proofs.Covering.{Covers_trans}
use Rattle.vv_core.proofs.Entrywise.{at-zeros}
use Rattle.dc_talk.specs.declared.ask.TheConstants.{MOST_SENT, MOST_CHANGES}
use Rattle.tx_core.specs.declared.op.Op.{Op}
use Rattle.tx_core.specs.declared.state.State.{State}
use Rattle.tx_core.specs.Checks.{is_within}
use Rattle.dc_talk.specs.declared.ask.Ask.{Ask}
use Rattle.dc_talk.specs.declared.ask.Ask.TheVariants.{Fetch, Delta, Send, Relay, Prune}
use Rattle.dc_talk.specs.declared.say.Say.{Say}
use Rattle.dc_talk.specs.declared.say.Say.TheVariants.{Misfit, Lacks, Pruned, Object, Changes, Records, Trimmed}
use Rattle.dc_talk.specs.declared.sent.Sent.{Sent}
use Rattle.dc_talk.specs.declared.settings.Settings.{Settings}
use Rattle.dc_talk.specs.Entries.{Entry}
use Rattle.dc_talk.specs.Records.{vector}
use Rattle.dc_talk.specs.Trails.{carried, applied, told, all_known, Horizon, horizon, horizon_after}
use Rattle.dc_talk.specs.Objects.{state_at, ops_since}
use Rattle.dc_talk.specs.Answers.{fits, lacking, told_of, send_answer, part_of, row, answer}
use Rattle.dc_talk.proofs.Answers.{lack_holds, lack_first, answer_holds, fitting, no_misfit, misfit}
use Rattle.dc_talk.proofs.Counts.{vector_front}
use Rattle.dc_talk.proofs.Growth.{applied_front}
use Rattle.dc_talk.proofs.Horizons.{horizon_more, by_prunes, let_go_either, all_known_below}
use Rattle.run_book.specs.Setups.{Setup, centre_settings}
use Rattle.run_book.specs.declared.book.Book.{Book}
use Rattle.run_book.specs.Parts.{trail_of, applied_at, horizon_at}
use Rattle.run_book.specs.Fit.{FitsWith}
use Rattle.run_book.specs.Sound.{IsSound}
use Rattle.run_book.specs.Known.{IsKnownToAll, WasKnownBy}
use Rattle.run_book.specs.Refusals.{IsEntry, IsRelay, IsSendAnswer, IsPruneAnswer}
use Rattle.run_book.proofs.Served.{stable_within}
use Rattle.run_book.proofs.Causal.CentreVectors.{zeros_are_sound, stable_sound}
use Rattle.run_book.proofs.Causal.KnownToK.{stable_known}
use Rattle.run_book.proofs.Causal.Moments.{row_moment, row_reported}

-- ---- one centre

-- a centre has what it had by an earlier entry
pub front_covers : (n : ℕ) (trail : List Entry) (q : ℕ) → Covers (vector n (applied n trail)) (vector n (applied n (take q trail)))
front_covers n trail q = let front = applied_front n trail q in subst (λ A. Covers (vector n A) (vector n (applied n (take q trail)))) (sym front.1) (vector_front n (applied n (take q trail)) front.0)

-- after a trail the centre has what base and mark cover
record AreHeld (s : Settings) (trail : List Entry) (h : Horizon) : Type 0 where
  base : Covers (vector s.n (applied s.n trail)) h.base
  mark : Covers (vector s.n (applied s.n trail)) h.mark

-- every vector covers nothing
none_held : (v : List ℕ) (n : ℕ) → Covers v (zeros n)
none_held v n = record { holds = λ e. omega (arith, at-zeros n e) }

horizon_held : (s : Settings) (trail : List Entry) → AreHeld s trail (horizon s trail)
horizon_held s trail = by_prefixes (λ X. AreHeld s trail (horizon s X)) trail
    (by_prunes s trail (AreHeld s trail) (record { base = none_held (vector s.n (applied s.n trail)) s.n; mark = none_held (vector s.n (applied s.n trail)) s.n })
    (λ p h. record { base = h.mark; mark = Covers_trans _ _ _ (front_covers s.n trail p) (stable_within s (take p trail)) }))

-- what is folded, the centre has
pub base_held : (s : Settings) (trail : List Entry) → Covers (vector s.n (applied s.n trail)) (horizon s trail).base
base_held s trail = (horizon_held s trail).base

-- after a trail the centre knew K centres to have what the vector covers, at one of its moments
record WasStable (s : Settings) (trail : List Entry) (v : List ℕ) : Type 0 where
  by : (stamp : Stamp) → 1 ≤ stamp.seq → stamp.seq ≤ at v stamp.centre → WasKnownBy s trail stamp

-- so it knew of what its base covers, and of what its mark does
record WereStable (s : Settings) (trail : List Entry) (h : Horizon) : Type 0 where
  base : WasStable s trail h.base
  mark : WasStable s trail h.mark

-- nothing is covered at first
none_stable : (s : Settings) (trail : List Entry) (n : ℕ) → WasStable s trail (zeros n)
none_stable s trail n = record { by = λ stamp one high. absurd (omega (arith, one, high, at-zeros n stamp.centre)) }

horizon_stable : (s : Settings) (trail : List Entry) → WereStable s trail (horizon s trail)
horizon_stable s trail = by_prefixes (λ X. WereStable s trail (horizon s X)) trail
    (by_prunes s trail (WereStable s trail) (record { base = none_stable s trail s.n; mark = none_stable s trail s.n })
    (λ p h. record { base = h.mark; mark = record { by = λ stamp one high. record { place = p; known = stable_known s (take p trail) stamp one high } } }))

-- what is folded, the centre knew K centres to have
pub base_known : (s : Settings) (trail : List Entry) (stamp : Stamp) → 1 ≤ stamp.seq → stamp.seq ≤ at (horizon s trail).base stamp.centre → WasKnownBy s trail stamp
base_known s trail = (horizon_stable s trail).base.by

-- a send fits where it asks for one record or more, and not for too many
send_fits : (n after most : ℕ) → (1 ≤ most) × (most ≤ MOST_SENT) → fits n (Send after most) ≡ true
send_fits n after most is = and_from (nat_le 1 most) (nat_le most MOST_SENT) (le-leb 1 most is.0) (le-leb most MOST_SENT is.1)

fits_send : (n after most : ℕ) → fits n (Send after most) ≡ true → (1 ≤ most) × (most ≤ MOST_SENT)
fits_send n after most is = let parts = and_parts (nat_le 1 most) (nat_le most MOST_SENT) is in (leb-true 1 most parts.0, leb-true most MOST_SENT parts.1)

relay_fits : (n origin after most : ℕ) → IsRelay n origin most → fits n (Relay origin after most) ≡ true
relay_fits n origin after most is = and_from (is_within 1 n origin) (is_within 1 MOST_SENT most) (and_from (nat_le 1 origin) (nat_le origin n) (le-leb 1 origin is.range.0) (le-leb origin n is.range.1)) (send_fits n after most is.few)

fits_relay : (n origin after most : ℕ) → fits n (Relay origin after most) ≡ true → IsRelay n origin most
fits_relay n origin after most is =
    let parts = and_parts (is_within 1 n origin) (is_within 1 MOST_SENT most) is in
    let range = and_parts (nat_le 1 origin) (nat_le origin n) parts.0 in
    record { range = (leb-true 1 origin range.0, leb-true origin n range.1); few = fits_send n after most parts.1 }

-- equal refusals of a fetch or a delta have equal parts
same_refusal : (c d high more low less : ℕ) → Pruned c high low ≡ Pruned d more less → (c ≡ d) × (high ≡ more) × (low ≡ less)
same_refusal c d high more low less same = (cc, cc, cc)

-- the refusal of a first lack is of this one
refusal_is : (here base : List ℕ) (c high low : ℕ) (lack : Lack) → IsFirstLack here base lack → Pruned c high low ≡ Pruned lack.centre lack.need lack.have → IsFirstLack here base (record { centre = c; need = high; have = low })
refusal_is here base c high low lack first same =
    let parts = same_refusal c lack.centre high lack.need low lack.have same in
    let is : lack ≡ record { centre = c; need = high; have = low } = λ j. record { centre = sym parts.0 j; need = sym parts.1 j; have = sym parts.2 j } in
    subst (IsFirstLack here base) is first

-- what is told of an object is no refusal
told_unpruned : (c high low : ℕ) (ops : List (Mark × Op)) (state : State) → Pruned c high low ≡ told_of ops state → ⊥
told_unpruned c high low ops state same = go (nat_le (length ops) MOST_CHANGES) same
  where
    go : (few : Bool) → Pruned c high low ≡ cond few (Changes ops) (Object state) → ⊥
    go true same = cc
    go false same = cc

module _ (b : Book) (setup : Setup) (fit : FitsWith b setup) where
  -- ---- what is folded

  -- base and mark are sound
  pub record IsSoundHorizon (h : Horizon) : Type 0 where
    pub base : IsSound b h.base
    pub mark : IsSound b h.mark

  pub horizon_sound : (i p : ℕ) → 1 ≤ i → i ≤ b.n → IsSoundHorizon (horizon_at b setup i p)
  horizon_sound i p low high = by_prunes (centre_settings b setup i) (trail_of b i) IsSoundHorizon
      (record { base = zeros_are_sound b b.n; mark = zeros_are_sound b b.n })
      (λ q h. record { base = h.mark; mark = stable_sound b setup fit i q low high })
      p

  -- ---- what is let go

  -- what all rows of a centre cover is known to all
  all_rows : (i q : ℕ) (stamp : Stamp) → 1 ≤ i → i ≤ b.n → 1 ≤ stamp.seq → ((j : ℕ) → 1 ≤ j → j ≤ b.n → stamp.seq ≤ at (cond (j == i) (vector b.n (applied_at b i q)) (told b.n j (take q (trail_of b i)))) stamp.centre) → IsKnownToAll b i stamp
  all_rows i q stamp low high one covers = record {
    moments = λ j least most. row_moment b setup fit i q j stamp low high least most (j == i) refl (le-leb stamp.seq (at (cond (j == i) (vector b.n (applied_at b i q)) (told b.n j (take q (trail_of b i)))) stamp.centre) (covers j least most));
    reports = λ j least most other. row_reported b setup fit i q j stamp one (subst (λ t. stamp.seq ≤ at (cond t (vector b.n (applied_at b i q)) (told b.n j (take q (trail_of b i)))) stamp.centre) (ne_eqb j i other) (covers j least most));
  }

  -- what a centre let go, is known to all
  pub trimmed_known : (i p : ℕ) (stamp : Stamp) → 1 ≤ i → i ≤ b.n → 1 ≤ stamp.seq → stamp.seq ≤ at (horizon_at b setup i p).trimmed stamp.centre → IsKnownToAll b i stamp
  trimmed_known i p stamp low high one = by_prunes (centre_settings b setup i) (trail_of b i) (λ h. stamp.seq ≤ at h.trimmed stamp.centre → IsKnownToAll b i stamp)
      (λ few. absurd (let none = at-zeros b.n stamp.centre in omega (arith, one, few, none)))
      (λ q before few. ⊎_elim
      (λ old. before old)
      (λ new. all_rows i q stamp low high one (λ j least most. row q new j least most))
      (let_go_either (centre_settings b setup i) (take q (trail_of b i)) (horizon_at b setup i q) stamp.centre stamp.seq few))
      p
    where
      row : (q : ℕ) → stamp.seq ≤ at (all_known (centre_settings b setup i) (take q (trail_of b i))) stamp.centre → (j : ℕ) → 1 ≤ j → j ≤ b.n → stamp.seq ≤ at (cond (j == i) (vector b.n (applied_at b i q)) (told b.n j (take q (trail_of b i)))) stamp.centre
      row q few j least most =
          let X = take q (trail_of b i) in
          let rule : ℕ → List ℕ = λ j. cond (j == i) (vector b.n (applied b.n X)) (told b.n j X) in
          let there : In (rule j) (map rule (centres b.n)) = In_map rule (centres b.n) j (In_range 1 b.n j least (omega (arith, most))) in
          let below = all_known_below (centre_settings b setup i) X stamp.centre (rule j) there in
          omega (arith, few, below)

  -- ---- the answers

  module _ (i : ℕ) (entry : Entry) (stands : IsEntry b i entry) where
    -- the entry is answered as the history says
    said : entry.say ≡ answer (centre_settings b setup i) (take stands.place (trail_of b i)) entry.ask
    said = (fit.histories i stands.centre.0 stands.centre.1).holds stands.place entry stands.there

    -- to an ask
    said_to : (ask : Ask) → entry.ask ≡ ask → entry.say ≡ answer (centre_settings b setup i) (take stands.place (trail_of b i)) ask
    said_to ask asks = said ∙ ap (answer (centre_settings b setup i) (take stands.place (trail_of b i))) asks

    -- an ask that is refused for the centre's base is told the least centre of which the base is above the vector
    refused_at : (ask : Ask) (from here : List ℕ) (told : Say) (c high low : ℕ) → (Pruned c high low ≡ told → ⊥) → row (centre_settings b setup i) (take stands.place (trail_of b i)) ask ≡ first_of (lacking Lacks (vector b.n (applied_at b i stands.place)) here ∷ lacking Pruned from (horizon_at b setup i stands.place).base ∷ []) told
        → entry.ask ≡ ask → entry.say ≡ Pruned c high low → IsFirstLack from (horizon_at b setup i stands.place).base (record { centre = c; need = high; have = low })
    refused_at ask from here told c high low differs is asks says = first_of_holds Q (lacking Lacks have here ∷ lacking Pruned from base ∷ []) told
        (lack_holds Q Lacks (λ d m h e. absurd (cc)) have here, λ none. (lack_first Q Pruned from base (λ lack first e. refusal_is from base c high low lack first e), λ kept e. absurd (differs e)))
        ((fitting (centre_settings b setup i) X ask (Pruned c high low) (sym says ∙ said_to ask asks) (λ e. cc) (λ e. cc)).1 ∙ is)
      where
        X : List Entry
        X = take stands.place (trail_of b i)

        have : List ℕ
        have = vector b.n (applied_at b i stands.place)

        base : List ℕ
        base = (horizon_at b setup i stands.place).base

        Q : Say → Type 0
        Q say = Pruned c high low ≡ say → IsFirstLack from (horizon_at b setup i stands.place).base (record { centre = c; need = high; have = low })

    -- so is a fetch
    pub refused : (o : ObjectId) (here : List ℕ) (c high low : ℕ) → entry.ask ≡ Fetch o here → entry.say ≡ Pruned c high low → IsFirstLack here (horizon_at b setup i stands.place).base (record { centre = c; need = high; have = low })
    refused o here c high low = refused_at (Fetch o here) here here (Object (state_at o (applied_at b i stands.place) here)) c high low (λ e. cc) refl

    -- and a delta, for the vector from which it goes
    pub refused_delta : (o : ObjectId) (from here : List ℕ) (c high low : ℕ) → entry.ask ≡ Delta o from here → entry.say ≡ Pruned c high low → IsFirstLack from (horizon_at b setup i stands.place).base (record { centre = c; need = high; have = low })
    refused_delta o from here c high low =
        let A = applied_at b i stands.place in
        refused_at (Delta o from here) from here (told_of (ops_since o A from here) (state_at o A here)) c high low (told_unpruned c high low (ops_since o A from here) (state_at o A here)) refl

    -- an ask is a misfit exactly where it does not fit
    misfit_where : (ask : Ask) (Fits : Type 0) → (Fits → fits b.n ask ≡ true) → (fits b.n ask ≡ true → Fits) → entry.ask ≡ ask → (entry.say ≡ Misfit) ↔ (Fits → ⊥)
    misfit_where ask Fits fitting_if if_fitting asks = (
      λ says is. no_misfit (centre_settings b setup i) X ask (fitting_if is) (sym (said_to ask asks) ∙ says),
      λ none. said_to ask asks ∙ misfit (centre_settings b setup i) X ask (⊎_elim (λ is. absurd (none (if_fitting is))) (λ not. not) (cases_Bool (fits b.n ask))),
    )
      where
        X : List Entry
        X = take stands.place (trail_of b i)

    -- so is a send where it asks for no record or for too many, and a relay also where it names no centre as origin
    pub send_misfit : (after most : ℕ) → entry.ask ≡ Send after most → (entry.say ≡ Misfit) ↔ ((1 ≤ most) × (most ≤ MOST_SENT) → ⊥)
    send_misfit after most = misfit_where (Send after most) ((1 ≤ most) × (most ≤ MOST_SENT)) (send_fits b.n after most) (fits_send b.n after most)

    pub relay_misfit : (origin after most : ℕ) → entry.ask ≡ Relay origin after most → (entry.say ≡ Misfit) ↔ (IsRelay b.n origin most → ⊥)
    relay_misfit origin after most = misfit_where (Relay origin after most) (IsRelay b.n origin most) (relay_fits b.n origin after most) (fits_relay b.n origin after most)

    -- an ask for the records of an origin that fits is answered with records, or with the number up to which these were
    -- let go
    handed : (ask : Ask) (origin after : ℕ) (asked : List Sent) → row (centre_settings b setup i) (take stands.place (trail_of b i)) ask ≡ send_answer (at (horizon_at b setup i stands.place).trimmed origin) asked after → fits b.n ask ≡ true → entry.ask ≡ ask → IsSendAnswer (at (horizon_at b setup i stands.place).trimmed origin) after entry.say
    handed ask origin after asked is fit asks = subst P (sym (said_to ask asks)) (answer_holds P (centre_settings b setup i) X ask fit tt (subst P (sym is)
        (first_of_holds P (when (nat_le (after + 1) trimmed) (Trimmed trimmed) ∷ []) (Records asked)
        (when_holds P (nat_le (after + 1) trimmed) (Trimmed trimmed) (λ t. (let lt = leb-true (after + 1) trimmed t in omega (arith, lt), refl)), λ none. (let le = leb-false (after + 1) trimmed (when_none _ _ none) in omega (arith, le))))))
      where
        X : List Entry
        X = take stands.place (trail_of b i)

        trimmed : ℕ
        trimmed = at (horizon_at b setup i stands.place).trimmed origin

        P : Say → Type 0
        P say = IsSendAnswer (at (horizon_at b setup i stands.place).trimmed origin) after say

    pub send : (after most : ℕ) → entry.ask ≡ Send after most → (1 ≤ most) × (most ≤ MOST_SENT) → IsSendAnswer (at (horizon_at b setup i stands.place).trimmed i) after entry.say
    send after most asks is = handed (Send after most) i after (part_of i (carried b.n (take stands.place (trail_of b i))) after most) refl (send_fits b.n after most is) asks

    pub relay : (origin after most : ℕ) → entry.ask ≡ Relay origin after most → IsRelay b.n origin most → IsSendAnswer (at (horizon_at b setup i stands.place).trimmed origin) after entry.say
    relay origin after most asks is = handed (Relay origin after most) origin after (part_of origin (carried b.n (take stands.place (trail_of b i))) after most) refl (relay_fits b.n origin after most is) asks

    -- the next horizon of the trail is the one after the entry
    next_horizon : horizon_at b setup i (suc stands.place) ≡ horizon_after (centre_settings b setup i) (take stands.place (trail_of b i)) (horizon_at b setup i stands.place) entry.ask entry.say
    next_horizon = ap (horizon (centre_settings b setup i)) (take_one_more (trail_of b i) stands.place entry stands.there) ∙ horizon_more (centre_settings b setup i) (take stands.place (trail_of b i)) entry

    -- a prune is answered with how far the centre then has pruned, or by a stopped centre
    pub prune : entry.ask ≡ Prune → IsPruneAnswer i (horizon_at b setup i stands.place) (horizon_at b setup i (stands.place + 1)) entry.say
    prune asks =
        let after : horizon_after s X h Prune entry.say ≡ horizon_at b setup i (stands.place + 1) = ap (λ ask. horizon_after s X h ask entry.say) (sym asks) ∙ (sym next_horizon ∙ ap (horizon_at b setup i) (sym one)) in
        subst (λ new. IsPruneAnswer i h new entry.say) after (subst P (sym (said_to Prune asks)) (answer_holds P s X Prune refl refl (refl, refl, refl)))
      where
        s : Settings
        s = centre_settings b setup i

        X : List Entry
        X = take stands.place (trail_of b i)

        h : Horizon
        h = horizon_at b setup i stands.place

        one : stands.place + 1 ≡ suc stands.place
        one = omega arith

        P : Say → Type 0
        P say = IsPruneAnswer i (horizon_at b setup i stands.place) (horizon_after (centre_settings b setup i) (take stands.place (trail_of b i)) (horizon_at b setup i stands.place) Prune say) say
