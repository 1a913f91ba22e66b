-- What a centre keeps stays well kept: at first, with one record more, and once more of it is folded.
use Rattle.std.proofs.Common.{◌≡◌, ◌≢◌, ◌≤◌, ℕ, ◌+◌, max, Bool, true, false, cond, ◌||◌, ◌⊎◌, inl, inr, ⊎_elim, List, [], ◌∷◌, length, Some, None, refl, sym, ap, ◌∙◌, subst, arith}
use Rattle.std.specs.Prelude.{◌==◌, not, All}
use Rattle.std.proofs.lemmas.Bool.{cases_Bool, false≢true, eq-eqb, eqb-true, false_from_ne_true}
use Rattle.std.proofs.lemmas.List.Elements.{All-nil, All-filter}
use Rattle.std.proofs.lemmas.Option.{none-some, same_Some}
use Rattle.list_core.specs.Members.{In}
use Rattle.list_core.proofs.Members.{All-In, In-All, In_more, In_from_map, In_from_filter}
use Rattle.ids_core.specs.declared.limits.TheConstants.{MOST_CENTRES}
use Rattle.ids_core.specs.declared.ids.Dot.{Dot}
use Rattle.ids_core.specs.Ids.{same_dot}
use Rattle.ids_core.specs.Same.{same_dot-true}
use Rattle.vv_core.specs.declared.stamp.Stamp.{Stamp}
use Rattle.vv_core.specs.Vectors.{raised, Covers}
use Rattle.vv_core.proofs.Covering.{Covers_refl, Covers_trans, Covers-join_left}
use Rattle.vv_core.proofs.Entrywise.{length-zeros, length-raised}
use Rattle.dup_guard.specs.declared.guard.Last.{Last}
use Rattle.dup_guard.specs.Notes.{number_of, stamp_of}
use Rattle.tx_core.specs.declared.tx.Tx.{Tx}
use Rattle.tx_core.specs.declared.tx.Record.{Record}
use Rattle.op_log.specs.declared.logged.Logged.{Logged}
use Rattle.op_log.specs.Logs as log
use Rattle.op_log.proofs.Items.{stamped_tx}
use Rattle.check_point.specs.Points.{PointView, HasFewUpdates}
use Rattle.point_log.specs.KeptLogs.{IsKeptLog}
use Rattle.point_log.specs.StandFor.{with_one}
use Rattle.point_log.specs.Served.{IsServed, AreServed, ServedEntries, served_of}
use Rattle.point_log.specs.Mines.{IsMine, AreMines, MineEntries, mine_of}
use Rattle.point_log.proofs.KeptLogs.{none_kept, kept_more, kept_left}
use Rattle.point_log.proofs.Serving.{kept_on, served_more, none_served}
use Rattle.point_log.proofs.Telling.{mine_more, none_mines}
use Rattle.object_delta.specs.Passed.{PassedEntries, ArePassed}
use Rattle.object_delta.proofs.Passing.{none_passed, passed_more}
use Rattle.dc_centre.specs.Applied.{AppliedView, IsNext, is_fresh, IsCentreOf, IsKept}
use Rattle.dc_centre.proofs.Applying.{IsNothing, Noted, more_kept, stamp_out}

-- ---- at first

pub kept_none : (n : ℕ) (x : AppliedView) (served : ServedEntries) (mines : MineEntries) (passed : PassedEntries) → (1 ≤ n) × (n ≤ MOST_CENTRES) → IsNothing n x → ((client : ℕ) → stamp_of x.lasts client ≡ None) → served ≡ [] → mines ≡ [] → passed ≡ [] → IsKept x served mines passed
kept_none n x served mines passed width h none empty untold unknown = record {
  width = subst (λ (m : ℕ). (1 ≤ m) × (m ≤ MOST_CENTRES)) (sym wide) width;
  based = ap length h.base ∙ sym (ap length h.counts);
  within = subst (λ (v : List ℕ). Covers x.counts v) (h.counts ∙ sym h.base) (Covers_refl x.counts);
  stamps = λ client s is. absurd (none-some s (sym (none client) ∙ is));
  numbers = λ l i. absurd (subst (λ (k : log.LogView). In l k.items) h.log i);
  updates = subst (λ (k : log.LogView). All (λ (l : Logged). HasFewUpdates l.tx) k.items) (sym h.log) (All-nil (λ (l : Logged). HasFewUpdates l.tx));
  logged = subst IsKeptLog (sym h.log) none_kept;
  states = none_served x.counts x.point x.log served empty;
  told = none_mines x.counts x.point x.log mines untold;
  passed = none_passed (length x.counts) x.log passed unknown;
}
  where
    wide : length x.counts ≡ n
    wide = ap length h.counts ∙ length-zeros n

-- ---- with one record more

-- a dot past the last of its client is not in the log
not_among : (lasts : List Last) (d : Dot) (items : List Logged) → ((l : Logged) → In l items → l.tx.dot.number ≤ number_of lasts l.tx.dot.client) → d.number ≡ number_of lasts d.client + 1 → log.has_dot d items ≡ false
not_among lasts d [] numbers next = refl
not_among lasts d (l ∷ items) numbers next = ap (λ b. b || log.has_dot d items) other ∙ not_among lasts d items (λ k i. numbers k (inr i)) next
  where
    other : same_dot l.tx.dot d ≡ false
    other = false_from_ne_true (same_dot l.tx.dot d) (λ t.
        let le : d.number ≤ number_of lasts d.client = subst (λ (e : Dot). e.number ≤ number_of lasts e.client) (same_dot-true l.tx.dot d t) (numbers l (inl refl)) in
        absurd (omega (arith, le, next)))

pub not_logged : (x : AppliedView) (r : Record) → ((l : Logged) → In l x.log.items → l.tx.dot.number ≤ number_of x.lasts l.tx.dot.client) → is_fresh x r ≡ true → log.has_dot r.tx.dot x.log.items ≡ false
not_logged x r numbers fresh = not_among x.lasts r.tx.dot x.log.items numbers (eqb-true r.tx.dot.number (number_of x.lasts r.tx.dot.client + 1) fresh)

module _ (x : AppliedView) (r : Record) (fresh : Bool) (lasts : List Last) (next : IsNext x r) (noted : Noted r fresh x.lasts lasts) where
  -- no number falls
  number_grows : (client : ℕ) → number_of x.lasts client ≤ number_of lasts client
  number_grows client =
      let is = noted.numbers client in
      let own : ℕ = cond (client == r.tx.dot.client) r.tx.dot.number 0 in
      omega (arith, is)

  -- and the record's is reached
  number_reached : r.tx.dot.number ≤ number_of lasts r.tx.dot.client
  number_reached =
      let is : number_of lasts r.tx.dot.client ≡ max (number_of x.lasts r.tx.dot.client) r.tx.dot.number = noted.numbers r.tx.dot.client ∙ ap (λ b. max (number_of x.lasts r.tx.dot.client) (cond b r.tx.dot.number 0)) (eq-eqb r.tx.dot.client r.tx.dot.client refl) in
      omega (arith, is)

  -- each stamp is of a centre
  stamps_more : (n : ℕ) → r.stamp.centre ≤ n → ((client : ℕ) (s : Stamp) → stamp_of x.lasts client ≡ Some s → IsCentreOf n s) → (client : ℕ) (s : Stamp) → stamp_of lasts client ≡ Some s → IsCentreOf n s
  stamps_more n high was client s is = go (cases_Bool fresh) (cases_Bool (client == r.tx.dot.client))
    where
      old : (fresh ≡ true → client ≢ r.tx.dot.client) → IsCentreOf n s
      old other = was client s (sym (noted.others client other) ∙ is)

      own : fresh ≡ true → client ≡ r.tx.dot.client → IsCentreOf n s
      own t same =
          let stamp : s ≡ r.stamp = same_Some s r.stamp (sym is ∙ ap (stamp_of lasts) same ∙ noted.stamp t) in
          subst (IsCentreOf n) (sym stamp) (record { low = next.centre.0; high = high })

      go : (fresh ≡ true) ⊎ (fresh ≡ false) → ((client == r.tx.dot.client) ≡ true) ⊎ ((client == r.tx.dot.client) ≡ false) → IsCentreOf n s
      go (inl t) (inl same) = own t (eqb-true client r.tx.dot.client same)
      go (inl t) (inr other) = old (λ _ e. false≢true (sym other ∙ eq-eqb client r.tx.dot.client e))
      go (inr f) _ = old (λ t. absurd (false≢true (sym f ∙ t)))

  -- what holds of the log's transactions and of the record's holds of those of the log with the record
  each_more : (P : Tx → Type 0) → ((l : Logged) → In l x.log.items → P l.tx) → P r.tx → (f : Bool) → (l : Logged) → In l (with_one x.log r f).items → P l.tx
  each_more P was own true l i = ⊎_elim (λ j. was l j) (λ same. subst (λ (l : Logged). P l.tx) (sym same) own) (In_more x.log.items (log.first_of x.log.appended r) l i)
  each_more P was own false l i =
      let m = In_from_map (log.stamped r.tx.dot r.stamp) x.log.items l i in
      subst (λ (l : Logged). P l.tx) (sym m.2) (subst P (sym (stamped_tx r.tx.dot r.stamp m.0)) (was m.0 m.1))

  -- the states that were served stand
  states_more : (served : ServedEntries) → IsKeptLog x.log → AreServed x.counts x.point x.log served → AreServed (raised x.counts r.stamp) x.point (with_one x.log r fresh) served
  states_more served well are = record {
    states = λ o. kept_on (IsServed x.point x.log o) (λ s. Covers x.counts s.at) (IsServed x.point (with_one x.log r fresh) o) (served_of served o) (λ s is here. served_more x.point x.log o r fresh s well (stamp_out x.counts s.at r.stamp here next.seq) is) (are.states o) (are.here o);
    here = λ o. kept_on (IsServed x.point x.log o) (λ s. Covers x.counts s.at) (λ s. Covers (raised x.counts r.stamp) s.at) (served_of served o) (λ s is here. Covers_trans (raised x.counts r.stamp) x.counts s.at (Covers-join_left x.counts _) here) (are.states o) (are.here o);
  }

  -- and the numbers that were told
  mines_more : (mines : MineEntries) → AreMines x.counts x.point x.log mines → AreMines (raised x.counts r.stamp) x.point (with_one x.log r fresh) mines
  mines_more mines are = record {
    numbers = λ c. kept_on (IsMine x.point x.log c) (λ m. Covers x.counts m.at) (IsMine x.point (with_one x.log r fresh) c) (mine_of mines c) (λ m is here. mine_more x.point x.log c r fresh m (stamp_out x.counts m.at r.stamp here next.seq) is) (are.numbers c) (are.here c);
    here = λ c. kept_on (IsMine x.point x.log c) (λ m. Covers x.counts m.at) (λ m. Covers (raised x.counts r.stamp) m.at) (mine_of mines c) (λ m is here. Covers_trans (raised x.counts r.stamp) x.counts m.at (Covers-join_left x.counts _) here) (are.numbers c) (are.here c);
  }

pub kept_taken : (x : AppliedView) (lasts : List Last) (r : Record) (served : ServedEntries) (mines : MineEntries) (passed : PassedEntries) → IsKept x served mines passed → IsNext x r → Noted r (is_fresh x r) x.lasts lasts → IsKept (more_kept x r (is_fresh x r) lasts) served mines passed
kept_taken x lasts r served mines passed h next noted = record {
  width = subst (λ (m : ℕ). (1 ≤ m) × (m ≤ MOST_CENTRES)) (sym wide) h.width;
  based = h.based ∙ sym wide;
  within = Covers_trans (raised x.counts r.stamp) x.counts x.point.vector (Covers-join_left x.counts _) h.within;
  stamps = subst (λ (m : ℕ). (client : ℕ) (s : Stamp) → stamp_of lasts client ≡ Some s → IsCentreOf m s) (sym wide) (stamps_more x r fresh lasts next noted (length x.counts) next.centre.1 h.stamps);
  numbers = each_more x r fresh lasts next noted (λ (tx : Tx). tx.dot.number ≤ number_of lasts tx.dot.client) (λ l i. let was = h.numbers l i in let grows = number_grows x r fresh lasts next noted l.tx.dot.client in omega (arith, was, grows)) (number_reached x r fresh lasts next noted) fresh;
  updates = In-All (λ (l : Logged). HasFewUpdates l.tx) (with_one x.log r fresh).items (each_more x r fresh lasts next noted HasFewUpdates (λ l i. All-In (λ (l : Logged). HasFewUpdates l.tx) x.log.items l h.updates i) (record { few = next.few }) fresh);
  logged = kept_more x.log h.logged r fresh (not_logged x r h.numbers);
  states = states_more x r fresh lasts next noted served h.logged h.states;
  told = mines_more x r fresh lasts next noted mines h.told;
  passed = subst (λ (m : ℕ). ArePassed m (with_one x.log r fresh) passed) (sym wide) (passed_more (length x.counts) x.log r fresh passed h.passed);
}
  where
    fresh : Bool
    fresh = is_fresh x r

    wide : length (raised x.counts r.stamp) ≡ length x.counts
    wide = length-raised x.counts r.stamp

-- ---- once more is folded

pub kept_pruned : (x : AppliedView) (point : PointView) (left : log.LogView) (to : List ℕ) (before served : ServedEntries) (earlier mines : MineEntries) (known passed : PassedEntries) → IsKept x before earlier known → length to ≡ length x.counts → Covers x.counts to → point.vector ≡ to → left ≡ record x.log { items = log.left_of to x.log.items } → served ≡ [] → mines ≡ [] → passed ≡ [] → IsKept (record x { point = point; log = left }) served mines passed
kept_pruned x point left to before served earlier mines known passed h wide here is out empty untold unknown = record {
  width = h.width;
  based = ap length is ∙ wide;
  within = subst (Covers x.counts) (sym is) here;
  stamps = h.stamps;
  numbers = λ l i. h.numbers l (In_from_filter (λ l. not (log.is_inside to l)) x.log.items l (subst (λ (k : log.LogView). In l k.items) out i)).0;
  updates = subst (λ (k : log.LogView). All (λ (l : Logged). HasFewUpdates l.tx) k.items) (sym out) (All-filter (λ l. not (log.is_inside to l)) (λ (l : Logged). HasFewUpdates l.tx) x.log.items h.updates);
  logged = subst IsKeptLog (sym out) (kept_left x.log h.logged to);
  states = none_served x.counts point left served empty;
  told = none_mines x.counts point left mines untold;
  passed = none_passed (length x.counts) left passed unknown;
}
