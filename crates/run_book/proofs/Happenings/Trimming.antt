-- By the time that a centre names the number up to which it let an origin's records go, every centre has them.
use Rattle.std.proofs.Common.{◌≡◌, ℕ, suc, ◌+◌, ◌≤◌, ◌<◌, Bool, true, false, cond, ⊎_elim, List, [], ◌∷◌, ◌++◌, length, take, Some, refl, sym, ap, ◌∙◌, subst, arith}
use Rattle.std.specs.Prelude.{◌==◌, nat_le, slice_get}
use Rattle.std.specs.List.{cons_option}
use Rattle.std.specs.Option.{option_map}
use Rattle.std.proofs.lemmas.Bool.{eqb-true, leb-true}
use Rattle.std.proofs.lemmas.Option.{slice_get_within}
use Rattle.std.proofs.lemmas.List.{length-take}
use Rattle.list_core.specs.Choices.{when}
use Rattle.list_core.proofs.Choices.{first_of_holds, when_holds}
use Rattle.list_core.proofs.Gets.{In_get, get_in_take}
use Rattle.list_core.proofs.Members.{In_map}
use Rattle.list_core.proofs.Moments.{by_prefixes, take_one_more}
use Rattle.list_core.proofs.Ranges.{In_range}
use Rattle.vv_core.specs.declared.stamp.Stamp.{Stamp}
use Rattle.vv_core.specs.Vectors.{at, zeros, centres}
use Rattle.vv_core.proofs.Entrywise.{at-zeros}
use Rattle.dc_talk.specs.declared.ask.Ask.{Ask}
use Rattle.dc_talk.specs.declared.ask.Ask.TheVariants.{Send, Relay, Report}
use Rattle.dc_talk.specs.declared.say.Say.{Say}
use Rattle.dc_talk.specs.declared.say.Say.TheVariants.{Trimmed, Records, Vector}
use Rattle.dc_talk.specs.declared.sent.Sent.{Sent}
use Rattle.dc_talk.specs.declared.settings.Settings.{Settings}
use Rattle.dc_talk.specs.declared.log.Fate.{Fate}
use Rattle.dc_talk.specs.declared.log.Deed.TheVariants.{Asked}
use Rattle.dc_talk.specs.Entries.{Entry}
use Rattle.dc_talk.specs.Logs.{answered, exchanged_in, entry_for}
use Rattle.dc_talk.specs.Records.{vector}
use Rattle.dc_talk.specs.Trails.{carried, applied, told, taught_in, all_known, horizon}
use Rattle.dc_talk.specs.Answers.{send_answer, part_of, row, answer}
use Rattle.dc_talk.proofs.Answers.{fitting}
use Rattle.dc_talk.proofs.Growth.{later_covers, applied_push}
use Rattle.dc_talk.proofs.Horizons.{by_prunes, let_go_either, all_known_below}
use Rattle.dc_talk.proofs.PeerAnswers.{vector_by}
use Rattle.run_book.specs.Setups.{Setup, settings_among}
use Rattle.run_book.specs.Happenings.{Happened, entry_in, trail_in, HasAnswer, AreTogether, AsksFor, TrimsInTime}
use Rattle.run_book.proofs.Pairing.{exchanges}
use Rattle.run_book.proofs.Filtered.{from_place, filtered_front, filtered_few}
use Rattle.run_book.proofs.Happenings.Entries.{made_by, trail_more}
use Rattle.run_book.proofs.Happenings.Places.{learned, reached_one, answered_deed, answered_by_then}
use Rattle.run_book.proofs.Causal.CentreVectors.{taught_news}
use Rattle.run_book.proofs.Causal.Pruned.{front_covers}
use Rattle.run_book.proofs.Causal.Moments.{IsLesson, IsTaught, told_fold}

-- equal answers name equal numbers
same_trimmed : (m o : ℕ) → Trimmed m ≡ Trimmed o → m ≡ o
same_trimmed m o same = cc

-- the number of such an answer is the one of the centre's last prune, and more was asked for
trimmed_of : (s : Settings) (trail : List Entry) (ask : Ask) (origin after number : ℕ) (asked : List Sent) → row s trail ask ≡ send_answer (at (horizon s trail).trimmed origin) asked after → Trimmed number ≡ answer s trail ask → (number ≡ at (horizon s trail).trimmed origin) × (after < number)
trimmed_of s trail ask origin after number asked row_is is = first_of_holds (λ say. Trimmed number ≡ say → (number ≡ trimmed) × (after < number)) (when (nat_le (after + 1) trimmed) (Trimmed trimmed) ∷ []) (Records asked)
    (when_holds _ _ _ (λ t e. (let same = same_trimmed number trimmed e in (same, omega (arith, same, leb-true (after + 1) trimmed t)))), λ none e. absurd (cc))
    ((fitting s trail ask (Trimmed number) is (λ e. cc) (λ e. cc)).1 ∙ row_is)
  where
    trimmed : ℕ
    trimmed = at (horizon s trail).trimmed origin

trimmed_by : (s : Settings) (trail : List Entry) (ask : Ask) (origin after number : ℕ) → AsksFor s.me origin after ask → Trimmed number ≡ answer s trail ask → (number ≡ at (horizon s trail).trimmed origin) × (after < number)
trimmed_by s trail (Send low most) origin after number asks is =
    let by = trimmed_of s trail (Send low most) s.me low number (part_of s.me (carried s.n trail) low most) refl is in
    (by.0 ∙ ap (at (horizon s trail).trimmed) (sym asks.0), let less = by.1 in let same = asks.1 in omega (arith, less, same))
trimmed_by s trail (Relay from low most) origin after number asks is =
    let by = trimmed_of s trail (Relay from low most) from low number (part_of from (carried s.n trail) low most) refl is in
    (by.0 ∙ ap (at (horizon s trail).trimmed) (sym asks.0), let less = by.1 in let same = asks.1 in omega (arith, less, same))
trimmed_by s trail _ origin after number asks is = absurd asks

-- after the first p that happened among n centres, centre j has what the stamp is of
abbrev pub HasBy : ℕ → List Happened → ℕ → ℕ → Stamp → Type 0
HasBy n all p j stamp = stamp.seq ≤ at (vector n (applied n (trail_in j (take p all)))) stamp.centre

module _ (n k : ℕ) (setup : Setup) (all : List Happened) (t : AreTogether n k setup all) where
  -- a centre that has it, has it later
  later_by : (q p j : ℕ) (stamp : Stamp) → q ≤ p → HasBy n all q j stamp → HasBy n all p j stamp
  later_by q p j stamp le has =
      let T = trail_in j all in
      let few = filtered_few (entry_in j) all q p le in
      let covers = later_covers n T (length (trail_in j (take q all))) (length (trail_in j (take p all))) few in
      let early : at (vector n (applied n (take (length (trail_in j (take q all))) T))) stamp.centre ≡ at (vector n (applied n (trail_in j (take q all)))) stamp.centre = ap (λ X. at (vector n (applied n X)) stamp.centre) (filtered_front (entry_in j) all q) in
      let late : at (vector n (applied n (take (length (trail_in j (take p all))) T))) stamp.centre ≡ at (vector n (applied n (trail_in j (take p all)))) stamp.centre = ap (λ X. at (vector n (applied n X)) stamp.centre) (filtered_front (entry_in j) all p) in
      omega (arith, has, early, late, covers.holds stamp.centre)

  -- a centre that reported that it has it, has it
  reported_by : (q j : ℕ) (news : List ℕ) (stamp : Stamp) → HasAnswer (trail_in j (take q all)) (Vector news) → stamp.seq ≤ at news stamp.centre → HasBy n all q j stamp
  reported_by q j news stamp has le =
      let T = trail_in j (take q all) in
      let g = In_get T has.entry has.there in
      let is = vector_by (settings_among n k setup j) (take g.0 T) has.entry.ask news (sym has.says ∙ answered_by_then n k setup all t q j g.0 has.entry g.1) in
      omega (arith, le, ap (λ v. at v stamp.centre) is, (front_covers n T g.0).holds stamp.centre)

  -- a centre of which centre i learned by then that it has it, has it
  taught_by : (p i q j : ℕ) (stamp : Stamp) → IsTaught j stamp (take q (trail_in i (take p all))) → HasBy n all p j stamp
  taught_by p i q j stamp taught =
      let l : IsLesson j stamp (taught_in taught.entry.ask taught.entry.say) = taught.lesson in
      let r = from_place (entry_in i) (take p all) taught.place taught.entry (get_in_take (trail_in i (take p all)) q taught.place taught.entry taught.there) in
      let made = made_by i r.item taught.entry r.gives in
      let asks = taught_news taught.entry.ask taught.entry.say l.news l.taught in
      let told_it = learned n k setup all t r.place r.item i made.exchange.fate l.news.0 l.news.1 (get_in_take all p r.place r.item r.there) (made.exchange.is ∙ ap (λ ask. Asked i ask made.exchange.fate) asks) in
      let within = slice_get_within (take p all) r.place r.item r.there in
      let long = length-take p all in
      later_by r.place p j stamp (omega (arith, within, long)) (subst (λ j. HasBy n all r.place j stamp) l.from (reported_by r.place l.news.0 l.news.1 stamp told_it l.covers))

  -- what a centre let go by then, every centre has
  pub let_go_by : (p i origin number j : ℕ) → 1 ≤ j → j ≤ n → number ≤ at (horizon (settings_among n k setup i) (trail_in i (take p all))).trimmed origin → HasBy n all p j (record { centre = origin; seq = number })
  let_go_by p i origin number j least most = by_prefixes (λ X. number ≤ at (horizon s X).trimmed origin → HasBy n all p j stamp) T
      (by_prunes s T (λ h. number ≤ at h.trimmed origin → HasBy n all p j stamp)
      (λ few. omega (arith, few, at-zeros n origin))
      (λ q before few. ⊎_elim
      (λ old. before old)
      (λ new. row q new (j == i) refl)
      (let_go_either s (take q T) (horizon s (take q T)) origin number few)))
    where
      s : Settings
      s = settings_among n k setup i

      T : List Entry
      T = trail_in i (take p all)

      stamp : Stamp
      stamp = record { centre = origin; seq = number }

      rule : ℕ → ℕ → List ℕ
      rule q j = cond (j == i) (vector n (applied n (take q (trail_in i (take p all))))) (told n j (take q (trail_in i (take p all))))

      row : (q : ℕ) → number ≤ at (all_known (settings_among n k setup i) (take q (trail_in i (take p all)))) origin → (test : Bool) → (j == i) ≡ test → HasBy n all p j (record { centre = origin; seq = number })
      row q few test is = go test is (omega (arith, few, all_known_below s (take q T) origin (rule q j) (In_map (rule q) (centres n) j (In_range 1 n j least (omega (arith, most))))))
        where
          go : (test : Bool) → (j == i) ≡ test → number ≤ at (cond (j == i) (vector n (applied n (take q (trail_in i (take p all))))) (told n j (take q (trail_in i (take p all))))) origin → HasBy n all p j (record { centre = origin; seq = number })
          go true same le =
              let own : number ≤ at (vector n (applied n (take q T))) origin = subst (λ t. number ≤ at (cond t (vector n (applied n (take q T))) (told n j (take q T))) origin) same le in
              subst (λ j. HasBy n all p j stamp) (sym (eqb-true j i same)) (omega (arith, own, (front_covers n T q).holds origin))
          go false other le =
              let row : number ≤ at (told n j (take q T)) origin = subst (λ t. number ≤ at (cond t (vector n (applied n (take q T))) (told n j (take q T))) origin) other le in
              ⊎_elim (λ none. omega (arith, none, at-zeros n origin)) (λ taught. taught_by p i q j stamp taught) (told_fold j stamp (take q T) (zeros n) row)

  -- so it is at the time of an answer that names the number
  had_by : (p i origin after number j : ℕ) (h : Happened) (ask : Ask) (fate : Fate) → slice_get all p ≡ Some h → h.note.deed ≡ Asked i ask fate → AsksFor i origin after ask → answered fate ≡ Some (Trimmed number) → 1 ≤ j → j ≤ n → HasBy n all p j (record { centre = origin; seq = number }) × (after < number)
  had_by p i origin after number j h ask fate there is asks tells least most =
      let said = answered_deed n k setup all t p h i ask fate (Trimmed number) there is tells in
      let by = trimmed_by (settings_among n k setup i) (trail_in i (take p all)) ask origin after number asks said in
      (let_go_by p i origin number j least most (omega (arith, by.0)), by.1)

  -- a report leaves its centre's records
  reported_still : (p j : ℕ) (h : Happened) (v : List ℕ) (fate : Fate) → slice_get all p ≡ Some h → h.note.deed ≡ Asked j Report fate → answered fate ≡ Some (Vector v) → v ≡ vector n (applied n (trail_in j (take (suc p) all)))
  reported_still p j h v fate there is tells =
      let X = trail_in j (take p all) in
      let said = answered_deed n k setup all t p h j Report fate (Vector v) there is tells in
      let pair : Ask × Say = (Report, Vector v) in
      let made : entry_in j h ≡ Some (entry_for h.actor pair) = ap (λ deed. option_map (entry_for h.actor) (exchanged_in j deed)) is ∙ ap (option_map (entry_for h.actor)) (exchanges j Report (Vector v) fate tells) in
      let more : trail_in j (take (suc p) all) ≡ X ++ entry_for h.actor pair ∷ [] = ap (trail_in j) (take_one_more all p h there) ∙ (trail_more j (take p all) h ∙ ap (λ o. X ++ cons_option o []) made) in
      vector_by (settings_among n k setup j) X Report v said
      ∙ ap (vector n) (sym (ap (applied n) more ∙ applied_push n X (entry_for h.actor pair)))

  pub trims_in_time : TrimsInTime n all
  trims_in_time = record {
    had = λ p i origin after number j h ask fate there is asks tells least most. (had_by p i origin after number j h ask fate there is asks tells least most).0;
    asked = λ p from origin to number first second v ask fate other there next reports tells asks_it asks trims.
        let centre = reached_one n k setup all t p first to Report fate there reports in
        let by = had_by (p + 1) from origin (at v origin) number to second ask other next asks_it asks trims centre.0 centre.1 in
        let one : p + 1 ≡ suc p = omega arith in
        let now : number ≤ at (vector n (applied n (trail_in to (take (suc p) all)))) origin = subst (λ q. number ≤ at (vector n (applied n (trail_in to (take q all)))) origin) one by.0 in
        let same : at v origin ≡ at (vector n (applied n (trail_in to (take (suc p) all)))) origin = ap (λ v. at v origin) (reported_still p to first v fate there reports tells) in
        omega (arith, by.1, now, same);
  }
