-- A trail without its entries of the other replies leaves a centre as it does with them.
use Rattle.std.proofs.Common.{◌≡◌, ℕ, Bool, true, false, cond, not, ◌&&◌, ◌==◌, List, [], ◌∷◌, ◌++◌, map, filter, fold, None, refl, sym, ◌∙◌, ap}
use Rattle.std.specs.Option.{unwrap_or}
use Rattle.vv_core.specs.Vectors.{at, zeros, centres, tabulate, column, least, join_of, meet_of, kth_largest}
use Rattle.dc_talk.specs.declared.ask.Ask.{Ask}
use Rattle.dc_talk.specs.declared.ask.Ask.TheVariants.{Hello, Refresh, Fetch, Delta, Commit, Send, Deliver, Relay, Report, Learn, Prune, Stop, Start}
use Rattle.dc_talk.specs.declared.say.Say.{Say}
use Rattle.dc_talk.specs.declared.say.Say.TheVariants.{Stamped, Applied, Learned, Base, Stopped, Started, Vector, Down, Misfit}
use Rattle.dc_talk.specs.declared.sent.Sent.{Sent}
use Rattle.dc_talk.specs.declared.settings.Settings.{Settings}
use Rattle.dc_talk.specs.Entries.{Entry}
use Rattle.dc_talk.specs.Records.{vector, guard, count}
use Rattle.dc_talk.specs.Sents.{items}
use Rattle.dc_talk.specs.Objects.{state_at, ops_since}
use Rattle.dc_talk.specs.Answers.{answer, row, fits, is_switch, hello_answer, refresh_answer, snap_at, fetch_answer, told_of, delta_answer, commit_answer, send_answer, part_of, deliver_answer, tells, count_inside}
use Rattle.dc_talk.specs.Trails.{carried_on, taught_in, switched_in, carried, applied, taught, told, rows, stable, all_known, Horizon, horizon_at_first, pruned, horizon_after, horizon_past}
use Rattle.trail_kept.specs.Kept.{is_kept, kept, IsSameState}

-- ---- an entry of another reply changes nothing

left_carried : (n : ℕ) (C : List Sent) (ask : Ask) (say : Say) → is_kept say ≡ false → carried_on n C ask say ≡ C
left_carried n C (Commit tx) (Stamped stamp) out = absurd (cc out)
left_carried n C (Deliver item hops) (Applied fresh) out = absurd (cc out)
left_carried n C _ _ out = refl

left_taught : (ask : Ask) (say : Say) → is_kept say ≡ false → taught_in ask say ≡ None
left_taught (Learn from news) (Learned fresh) out = absurd (cc out)
left_taught _ _ out = refl

left_switched : (ask : Ask) (say : Say) → is_kept say ≡ false → switched_in ask say ≡ None
left_switched Stop Stopped out = absurd (cc out)
left_switched Start Started out = absurd (cc out)
left_switched _ _ out = refl

left_horizon : (s : Settings) (trail : List Entry) (h : Horizon) (ask : Ask) (say : Say) → is_kept say ≡ false → horizon_after s trail h ask say ≡ h
left_horizon s trail h Prune (Base vector folded trimmed) out = absurd (cc out)
left_horizon s trail h _ _ out = refl

-- ---- folds

-- elements that leave each state as it is may be left out
module _ {S X : Type 0} (f : S → X → S) (p : X → Bool) (out : (st : S) (x : X) → p x ≡ false → f st x ≡ st) where
  fold_kept : (st : S) (xs : List X) → fold f st (filter p xs) ≡ fold f st xs
  fold_kept st [] = refl
  fold_kept st (x ∷ xs) = go (p x) refl (fold_kept (f st x) xs) (fold_kept st xs)
    where
      go : (b : Bool) → p x ≡ b → fold f (f st x) (filter p xs) ≡ fold f (f st x) xs → fold f st (filter p xs) ≡ fold f st xs → fold f st (cond b (x ∷ filter p xs) (filter p xs)) ≡ fold f (f st x) xs
      go true is with_it without = with_it
      go false is with_it without = without ∙ ap (λ (t : S). fold f t xs) (sym (out st x is))

fold_more : {S X : Type 0} (f : S → X → S) (st : S) (xs : List X) (x : X) → fold f st (xs ++ x ∷ []) ≡ f (fold f st xs) x
fold_more f st [] x = refl
fold_more f st (y ∷ xs) x = fold_more f (f st y) xs x

-- ---- the state of a centre

module _ (s : Settings) where
  rows_same : (a b : List Entry) → applied s.n a ≡ applied s.n b → ((j : ℕ) → told s.n j a ≡ told s.n j b) → rows s a ≡ rows s b
  rows_same a b records rows_are = (λ i. map (λ j. cond (j == s.me) (vector s.n (records i)) (rows_are j i)) (centres s.n))

  stable_same : (a b : List Entry) → applied s.n a ≡ applied s.n b → rows s a ≡ rows s b → stable s a ≡ stable s b
  stable_same a b records same = (λ i. meet_of (kth_largest s.k (same i)) (vector s.n (records i)))

  known_same : (a b : List Entry) → rows s a ≡ rows s b → all_known s a ≡ all_known s b
  known_same a b same = (λ i. tabulate s.n (λ e. least (column e (same i))))

  same_pruned : (a b : List Entry) (h : Horizon) → carried s.n a ≡ carried s.n b → ((j : ℕ) → told s.n j a ≡ told s.n j b) → pruned s a h ≡ pruned s b h
  same_pruned a b h records rows_are =
      let applied_is : applied s.n a ≡ applied s.n b = ap items records in
      let same : rows s a ≡ rows s b = rows_same a b applied_is rows_are in
      let stable_is : stable s a ≡ stable s b = stable_same a b applied_is same in
      let known_is : all_known s a ≡ all_known s b = known_same a b same in
      (λ i. record { base = h.mark; mark = stable_is i; trimmed = join_of h.trimmed (known_is i) })

  same_after : (a b : List Entry) (h : Horizon) (ask : Ask) (say : Say) → pruned s a h ≡ pruned s b h → horizon_after s a h ask say ≡ horizon_after s b h ask say
  same_after a b h Prune (Base vector folded trimmed) same = same
  same_after a b h _ _ same = refl

  horizon_kept : (a b : List Entry) (h : Horizon) (later : List Entry) → carried s.n a ≡ carried s.n b → ((j : ℕ) → told s.n j a ≡ told s.n j b) → horizon_past s a h (kept later) ≡ horizon_past s b h later
  horizon_kept a b h [] records told_are = refl
  horizon_kept a b h (x ∷ later) records told_are = go (λ a2 b2 h2 r2 t2. horizon_kept a2 b2 h2 later r2 t2) (is_kept x.say) refl
    where
      Rest : Type 0
      Rest = (a2 b2 : List Entry) (h2 : Horizon) → carried s.n a2 ≡ carried s.n b2 → ((j : ℕ) → told s.n j a2 ≡ told s.n j b2) → horizon_past s a2 h2 (kept later) ≡ horizon_past s b2 h2 later

      more_carried : (c : List Entry) → carried s.n (c ++ x ∷ []) ≡ carried_on s.n (carried s.n c) x.ask x.say
      more_carried c = fold_more (λ (C : List Sent) (e : Entry). carried_on s.n C e.ask e.say) [] c x

      more_told : (c : List Entry) (j : ℕ) → told s.n j (c ++ x ∷ []) ≡ taught j (told s.n j c) (taught_in x.ask x.say)
      more_told c j = fold_more (λ (row : List ℕ) (e : Entry). taught j row (taught_in e.ask e.say)) (zeros s.n) c x

      go : Rest → (b' : Bool) → is_kept x.say ≡ b' → horizon_past s a h (cond b' (x ∷ kept later) (kept later)) ≡ horizon_past s (b ++ x ∷ []) (horizon_after s b h x.ask x.say) later
      go rest true is =
          rest (a ++ x ∷ []) (b ++ x ∷ []) (horizon_after s a h x.ask x.say)
          (more_carried a ∙ ap (λ (C : List Sent). carried_on s.n C x.ask x.say) records ∙ sym (more_carried b))
          (λ j. more_told a j ∙ ap (λ (row : List ℕ). taught j row (taught_in x.ask x.say)) (told_are j) ∙ sym (more_told b j))
          ∙ ap (λ (k : Horizon). horizon_past s (b ++ x ∷ []) k later) (same_after a b h x.ask x.say (same_pruned a b h records told_are))
      go rest false is =
          rest a (b ++ x ∷ []) h
          (records ∙ sym (left_carried s.n (carried s.n b) x.ask x.say is) ∙ sym (more_carried b))
          (λ j. told_are j ∙ sym (ap (taught j (told s.n j b)) (left_taught x.ask x.say is)) ∙ sym (more_told b j))
          ∙ ap (λ (k : Horizon). horizon_past s (b ++ x ∷ []) k later) (sym (left_horizon s b h x.ask x.say is))

  pub left_out : (trail : List Entry) → IsSameState s (kept trail) trail
  left_out trail = record {
    same_carried = fold_kept (λ (C : List Sent) (e : Entry). carried_on s.n C e.ask e.say) (λ (e : Entry). is_kept e.say) (λ C e out. left_carried s.n C e.ask e.say out) [] trail;
    same_told = λ j. fold_kept (λ (row : List ℕ) (e : Entry). taught j row (taught_in e.ask e.say)) (λ (e : Entry). is_kept e.say) (λ row e out. ap (taught j row) (left_taught e.ask e.say out)) (zeros s.n) trail;
    same_stopped = fold_kept (λ (down : Bool) (e : Entry). unwrap_or (switched_in e.ask e.say) down) (λ (e : Entry). is_kept e.say) (λ down e out. ap (λ o. unwrap_or o down) (left_switched e.ask e.say out)) false trail;
    same_horizon = horizon_kept [] [] (horizon_at_first s.n) trail refl (λ j. refl);
  }

  -- ---- answers

  module _ (a b : List Entry) (same : IsSameState s a b) where
    applied_is : applied s.n a ≡ applied s.n b
    applied_is = ap items same.same_carried

    rows_is : rows s a ≡ rows s b
    rows_is = rows_same a b applied_is same.same_told

    stable_is : stable s a ≡ stable s b
    stable_is = stable_same a b applied_is rows_is

    known_is : all_known s a ≡ all_known s b
    known_is = known_same a b rows_is

    same_row : (ask : Ask) → row s a ask ≡ row s b ask
    same_row (Hello client need) = (λ i. hello_answer (vector s.n (applied_is i)) (guard client (applied_is i)) need)
    same_row (Refresh client here) = (λ i. refresh_answer (vector s.n (applied_is i)) (snap_at (applied_is i) client (join_of here (stable_is i))) here)
    same_row (Fetch object here) = (λ i. fetch_answer (vector s.n (applied_is i)) (same.same_horizon i).base (state_at object (applied_is i) here) here)
    same_row (Delta object from here) = (λ i. delta_answer (vector s.n (applied_is i)) (same.same_horizon i).base (told_of (ops_since object (applied_is i) from here) (state_at object (applied_is i) here)) from here)
    same_row (Commit tx) = (λ i. commit_answer s (vector s.n (applied_is i)) (guard tx.dot.client (applied_is i)) (count s.me (applied_is i)) tx)
    same_row (Send after most) = (λ i. send_answer (at (same.same_horizon i).trimmed s.me) (part_of s.me (same.same_carried i) after most) after)
    same_row (Deliver item hops) = (λ i. deliver_answer s (vector s.n (applied_is i)) (count item.stamp.centre (applied_is i)) (guard item.tx.dot.client (applied_is i)) item)
    same_row (Relay origin after most) = (λ i. send_answer (at (same.same_horizon i).trimmed origin) (part_of origin (same.same_carried i) after most) after)
    same_row Report = (λ i. Vector (vector s.n (applied_is i)))
    same_row (Learn from news) = (λ i. Learned (tells s.me (same.same_told from i) from news))
    same_row Prune = (λ i. Base (same.same_horizon i).mark (count_inside (applied_is i) (same.same_horizon i).mark) (at (join_of (same.same_horizon i).trimmed (known_is i)) s.me))
    same_row Stop = refl
    same_row Start = refl

    pub same_answer : (ask : Ask) → answer s a ask ≡ answer s b ask
    unfolding answer
    same_answer ask = (λ i. cond (fits s.n ask) (cond (same.same_stopped i && not (is_switch ask)) Down (same_row ask i)) Misfit)
