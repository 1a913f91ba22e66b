-- Each step keeps the rule of the lock's table.
use Rattle.std.proofs.Common.{◌≡◌, ◌≢◌, ◌⊎◌, ℕ, zero, suc, ◌+◌, ◌%◌, ◌^◌, ◌<◌, ◌≤◌, ◌==◌, Bool, true, false, List, [], ◌∷◌, ◌++◌, length, set, get_or, Option, Some, sym, refl, ap, ◌∙◌, subst, ⊎_elim, inl, inr, arith, append_assoc, length-append, length-set}
use mathlib.Core.Option.{some, none, some-ne-none, some-injective}
use mathlib.Core.Option as maybe
use lib.ListN.{get_elem?}
use prog.Atomic.{either}
use Rattle.std.proofs.Math.Nat.{mod-eq_of_lt}
use Rattle.std.proofs.lemmas.List.{append-nil}
use Rattle.atomic_table.specs.Table.{State, step, keeps, takes, gives, Allows, Splits, Joins, opening as at_first}
use Rattle.atomic_table.proofs.Lists.{at_longer, at_snoc, set_else, set_here}
use mathlib.Core.Logic.{dite}
use native.Mathlib.Decide.{ℕ_discrete}
use Rattle.list_core.proofs.Choices.{not_true}
use Rattle.machine_trail.specs.declared.machine.Entry.{Entry}
use Rattle.machine_trail.specs.declared.machine.Kept.{Kept}
use Rattle.host_lock.specs.declared.law.SeatView.{SeatView}
use Rattle.machine_trail.specs.History.{IsHistory, IsKept}
use Rattle.machine_trail.proofs.Histories.{history_more}
use Rattle.host_lock.specs.Law.{calls_of, maker, spent_seat, newcomer, handed, spent_of, joined, WasSpent, IsOther, Fits, Stands, Holds, homed}
use Rattle.host_lock.specs.Steps.{SeatState, with_new, at_turn, off_turn, finding, holding, emptied, grown, drew, tried, freed, gave, took, noted, trail_of}
use Rattle.host_lock.proofs.Histories.{calls_more, calls_same, prefix_more}
use Rattle.host_lock.proofs.Seats.{hit, miss, put, put_here, put_else, put_was, off, at_there, at_one, at_none, at_end, views_set, still, word_length, word_turn, word_drawn}

module _ {A Y G : Type 0} (settings : G) (opening : List (Entry A Y)) where
  module _ (later : List (Entry A Y)) (most turn who : ℕ) (away : Bool) where
    -- more numbers are drawn
    drawn_other : (drawn : ℕ) (owner : ℕ → ℕ) (id : ℕ) (v : SeatView A Y G) → id ≢ 0 → Fits settings opening later most turn drawn who away owner id v → Fits settings opening later most turn (drawn + 1) who away owner id v
    drawn_other drawn owner id v apart f = record {
      draws = λ m. absurd (apart (f.draws m).0);
      in_hand = λ m _. absurd (apart (f.draws m).0);
      pasts = f.pasts;
      owns = f.owns;
      knows = f.knows;
      finds = λ c k n at. let h = f.finds c k n at in (h.0, omega arith, h.2);
      has_turn = f.has_turn;
      has_out = f.has_out;
    }

    drawn_mine : (drawn : ℕ) (owner : ℕ → ℕ) (id : ℕ) (v : SeatView A Y G) → v.makes ≡ true → owner (drawn + 1) ≡ 0 → Fits settings opening later most turn drawn who away owner id v
        → Fits settings opening later most turn (drawn + 1) who away owner id (with_new v)
    drawn_mine drawn owner id v makes free f = let d = f.draws makes in record {
      draws = λ m. (d.0, ap (λ k. k + 1) d.1, d.2, d.3, d.4);
      in_hand = λ m _. (free, omega arith);
      pasts = f.pasts;
      owns = f.owns;
      knows = f.knows;
      finds = λ c k n at. let h = f.finds c k n at in (h.0, omega arith, h.2);
      has_turn = f.has_turn;
      has_out = f.has_out;
    }

    -- owners change, but not of the numbers that this seat speaks of
    owner_other : (drawn : ℕ) (owner owner' : ℕ → ℕ) (id : ℕ) (v : SeatView A Y G) → ((n : ℕ) → (owner n ≡ 1) ⊎ (owner n ≡ id + 2) → owner' n ≡ owner n)
        → (v.makes ≡ true → v.hand ≡ true → (owner' drawn ≡ 0) × (0 < drawn))
        → Fits settings opening later most turn drawn who away owner id v → Fits settings opening later most turn drawn who away owner' id v
    owner_other drawn owner owner' id v same in_hand f = record {
      draws = f.draws;
      in_hand = in_hand;
      pasts = λ m k p at. let h = f.pasts m k p at in (same p.number (inl h.0) ∙ h.0, h.1, h.2);
      owns = λ c. let h = f.owns c in (same v.number (inr h.0) ∙ h.0, h.1, h.2);
      knows = f.knows;
      finds = f.finds;
      has_turn = f.has_turn;
      has_out = f.has_out;
    }

module _ {A Y G M : Type 0} (reply : G → List (Entry A Y) → A → Y → Type 0) (stands : M → List (Entry A Y) → Type 0) (settings_of : M → G) (settings : G) (opening : List (Entry A Y)) (callers : ℕ) where
  abbrev V : Type 0
  V = SeatView A Y G

  abbrev Slot : Type 0
  Slot = Option (Kept M A Y G)

  abbrev St : Type 0
  St = State Slot V

  abbrev Rule : St → Type 0
  Rule = Holds reply stands settings_of settings opening callers

  abbrev HasTurn : Bool → V → Type 0
  HasTurn away u = (u.turns ≡ true) × (u.out ≡ away)

  pub draws : (slots id : ℕ) (me : SeatState A Y G M) → me.0.makes ≡ true → me.0.drawn < me.0.most → Allows Rule slots id me 2 (λ n. (n + 1) % 2 ^ 64) (drew (step slots 2 1 0 none) me)
  draws slots id me makes low s r deep at small =
      let v = me.0 in let f = r.seats id v at in let d = f.draws makes in
      let below : r.drawn + 1 < 2 ^ 64 = omega (arith, d.1, d.4, r.limit) in (
        with_new v,
        keeps,
        tt,
        record {
          later = r.later;
          turn = r.turn;
          drawn = r.drawn + 1;
          owner = r.owner;
          who = r.who;
          away = r.away;
          kept = r.kept;
          words = word_drawn _ _ r.drawn (λ n. (n + 1) % 2 ^ 64) s.words r.words ∙ ap (λ n. length (opening ++ r.later) ∷ r.turn ∷ n ∷ []) (mod-eq_of_lt below);
          homes = r.homes;
          history = r.history;
          short = r.short;
          few = omega (arith, d.1, d.4);
          limit = r.limit;
          fresh = λ n l. r.fresh n (omega arith);
          zeroth = r.zeroth;
          unowned = r.unowned;
          seats = views_set (Fits settings opening r.later callers r.turn (r.drawn + 1) r.who r.away r.owner) s.views id (with_new v)
              (drawn_mine settings opening r.later callers r.turn r.who r.away r.drawn r.owner id v makes (r.fresh (r.drawn + 1) (omega arith)) f)
              (λ j u other e. drawn_other settings opening r.later callers r.turn r.who r.away r.drawn r.owner j u (λ z. other (z ∙ sym d.0)) (r.seats j u e));
          held = λ n. let h = r.held n in still (λ u. (u.turns ≡ true) × (u.out ≡ r.away)) s.views id r.who v (with_new v) h.0 at h.1 h.2 (λ x. x);
          idle = r.idle;
          home = r.home;
        },
        refl,
      )

  -- the number in hand goes to a new pass
  pub deals : (id : ℕ) (v : V) → v.makes ≡ true → v.hand ≡ true → Splits Rule id v (handed v) (newcomer v)
  deals id v makes hand s r at =
      let f = r.seats id v at in let d = f.draws makes in let free = f.in_hand makes hand in
      let seat : ℕ = length s.views in
      let owner' : ℕ → ℕ = put r.owner r.drawn (seat + 2) in
      let apart : (n : ℕ) → (x : ℕ) → 0 < x → r.owner n ≡ x → n ≢ r.drawn = λ n x pos is e. omega (arith, pos, sym is ∙ (ap r.owner e ∙ free.0)) in
      let same : (n x : ℕ) → 0 < x → r.owner n ≡ x → owner' n ≡ r.owner n = λ n x pos is. put_else r.owner r.drawn (seat + 2) n (apart n x pos is) in
      let was : (n : ℕ) → owner' n ≡ 0 → r.owner n ≡ 0 = λ n e. put_was r.owner r.drawn (seat + 2) n 0 (λ z. omega arith) e in
      let F : ℕ → V → Type 0 = Fits settings opening r.later callers r.turn r.drawn r.who r.away owner' in
      let moved : (j : ℕ) (u : V) → (u.makes ≡ true → u.hand ≡ true → (owner' r.drawn ≡ 0) × (0 < r.drawn)) → Fits settings opening r.later callers r.turn r.drawn r.who r.away r.owner j u → F j u =
      λ j u no_hand h. owner_other settings opening r.later callers r.turn r.who r.away r.drawn r.owner owner' j u
      (λ n. ⊎_elim (λ e. same n 1 (omega arith) e) (λ e. same n (j + 2) (omega arith) e)) no_hand h in
      let mine : F id (handed v) = moved id (handed v) (λ _ h. off false refl h) (dealt_mine r.later callers r.turn r.who r.away r.drawn r.owner id v f) in
      let old : (j : ℕ) (u : V) → get_elem? (set s.views id (handed v)) j ≡ some u → F j u =
      views_set F s.views id (handed v) mine (λ j u other e. let g = r.seats j u e in moved j u (λ m h. absurd (other ((g.draws m).0 ∙ sym d.0))) g) in
      let new : F seat (newcomer v) = record {
        draws = λ m. off false refl m;
        in_hand = λ m _. off false refl m;
        pasts = λ _ k p e. absurd (at_none k p e);
        owns = λ _. (ap owner' d.1 ∙ put_here r.owner r.drawn (seat + 2), d.2, d.3);
        knows = λ _. ((r.later, refl), r.unowned v.drawn (ap r.owner d.1 ∙ free.0));
        finds = λ _ k n e. absurd (at_none k n e);
        has_turn = λ t. off false refl t;
        has_out = λ t. off false refl t;
      } in record {
        later = r.later;
        turn = r.turn;
        drawn = r.drawn;
        owner = owner';
        who = r.who;
        away = r.away;
        kept = r.kept;
        words = r.words;
        homes = r.homes;
        history = r.history;
        short = r.short;
        few = r.few;
        limit = r.limit;
        fresh = λ n l. put_else r.owner r.drawn (seat + 2) n (λ e. omega arith) ∙ r.fresh n l;
        zeroth = put_else r.owner r.drawn (seat + 2) 0 (λ e. omega (arith, free.1)) ∙ r.zeroth;
        unowned = λ n e. r.unowned n (was n e);
        seats = λ j u e. ⊎_elim (λ t. old j u t)
            (λ (t : (j ≡ length (set s.views id (handed v))) × (newcomer v ≡ u)). subst (λ (x : ℕ × V). F x.0 x.1) (λ i. (sym (t.0 ∙ length-set s.views id (handed v)) i, t.1 i)) new)
            (at_end (set s.views id (handed v)) (newcomer v) u j e);
        held = λ n. let h = r.held n in let k = still (HasTurn r.away) s.views id r.who v (handed v) h.0 at h.1 h.2 (λ x. x) in (k.0, at_longer (set s.views id (handed v)) (newcomer v ∷ []) r.who k.0 k.1, k.2);
        idle = r.idle;
        home = r.home;
      }
    where
      dealt_mine : (later : List (Entry A Y)) (most turn who : ℕ) (away : Bool) (drawn : ℕ) (owner : ℕ → ℕ) (id : ℕ) (v : V) → Fits settings opening later most turn drawn who away owner id v
          → Fits settings opening later most turn drawn who away owner id (handed v)
      dealt_mine later most turn who away drawn owner id v f = record {
        draws = f.draws;
        in_hand = λ _ h. off false refl h;
        pasts = f.pasts;
        owns = f.owns;
        knows = f.knows;
        finds = f.finds;
        has_turn = f.has_turn;
        has_out = f.has_out;
      }

  -- a pass takes in another
  pub takes_in : (id : ℕ) (v : V) (other : ℕ) (w : V) → v.calls ≡ true → w.calls ≡ true → w.turns ≡ false → Joins Rule id v other w (joined v w) spent_seat
  takes_in id v other w gathers calls at_rest s r at apart there =
      let both : V = joined v w in
      let f = r.seats id v at in
      let there' : get_elem? s.views other ≡ some w = sym (set_else s.views id other both apart) ∙ there in
      let o = r.seats other w there' in let its = o.owns calls in let k : ℕ = w.number in
      let owner' : ℕ → ℕ = put r.owner k 1 in
      let same : (n x : ℕ) → x ≢ other + 2 → r.owner n ≡ x → owner' n ≡ r.owner n = λ n x ne is. put_else r.owner k 1 n (λ e. ne (sym is ∙ (ap r.owner e ∙ its.0))) in
      let was : (n : ℕ) → owner' n ≡ 0 → r.owner n ≡ 0 = λ n e. put_was r.owner k 1 n 0 (λ z. omega arith) e in
      let F : ℕ → V → Type 0 = Fits settings opening r.later callers r.turn r.drawn r.who r.away owner' in
      let moved : (j : ℕ) (u : V) → j ≢ other → Fits settings opening r.later callers r.turn r.drawn r.who r.away r.owner j u → F j u =
      λ j u ne g. owner_other settings opening r.later callers r.turn r.who r.away r.drawn r.owner owner' j u
      (λ n. ⊎_elim (λ e. same n 1 (λ z. omega arith) e) (λ e. same n (j + 2) (λ z. ne (omega arith)) e))
      (λ m h. let z = g.in_hand m h in (same r.drawn 0 (λ e. omega arith) z.0 ∙ z.0, z.1)) g in
      let me = moved id v (λ e. apart (sym e)) f in
      let mine : F id both = record {
        draws = me.draws;
        in_hand = me.in_hand;
        pasts = λ m i p e. ⊎_elim (λ (t : get_elem? v.past i ≡ some p). me.pasts m i p t)
            (λ (t : spent_of w ≡ p). subst (WasSpent owner' r.later) t (let h = o.knows calls in (put_here r.owner k 1, h.0, h.1)))
            (at_snoc v.past (spent_of w) p i e);
        owns = me.owns;
        knows = me.knows;
        finds = me.finds;
        has_turn = me.has_turn;
        has_out = me.has_out;
      } in
      let old : (j : ℕ) (u : V) → get_elem? (set s.views id both) j ≡ some u → j ≢ other → F j u = λ j u e ne.
      views_set (λ i x. i ≢ other → F i x) s.views id both (λ _. mine) (λ i x not_me h not_other. moved i x not_other (r.seats i x h)) j u e ne in
      record {
        later = r.later;
        turn = r.turn;
        drawn = r.drawn;
        owner = owner';
        who = r.who;
        away = r.away;
        kept = r.kept;
        words = r.words;
        homes = r.homes;
        history = r.history;
        short = r.short;
        few = r.few;
        limit = r.limit;
        fresh = λ n l. same n 0 (λ e. omega arith) (r.fresh n l) ∙ r.fresh n l;
        zeroth = same 0 0 (λ e. omega arith) r.zeroth ∙ r.zeroth;
        unowned = λ n e. r.unowned n (was n e);
        seats = views_set F (set s.views id both) other spent_seat (spent_fits r.later callers r.turn r.who r.away r.drawn owner' other) (λ j u ne e. old j u e ne);
        held = λ n. let h = r.held n in
            let not_it : r.who ≢ other = λ e. off w.turns at_rest (ap (λ (x : V). x.turns) (at_one s.views other w h.0 there' (subst (λ i. get_elem? s.views i ≡ some h.0) e h.1)) ∙ h.2.0) in
            let q = still (HasTurn r.away) s.views id r.who v both h.0 at h.1 h.2 (λ x. x) in (q.0, set_else (set s.views id both) other r.who spent_seat not_it ∙ q.1, q.2);
        idle = r.idle;
        home = r.home;
      }
    where
      spent_fits : (later : List (Entry A Y)) (most turn who : ℕ) (away : Bool) (drawn : ℕ) (owner : ℕ → ℕ) (id : ℕ) → Fits settings opening later most turn drawn who away owner id spent_seat
      spent_fits later most turn who away drawn owner id = record {
        draws = λ m. off false refl m;
        in_hand = λ m _. off false refl m;
        pasts = λ m. off false refl m;
        owns = λ m. off false refl m;
        knows = λ m. off false refl m;
        finds = λ m. off false refl m;
        has_turn = λ m. off false refl m;
        has_out = λ m. off false refl m;
      }

  -- the table at first
  pub starts : (n : ℕ) (kept : Kept M A Y G) → n ≡ length opening → n < 2 ^ 62 → callers ≤ 4096 → Stands reply stands settings_of settings opening kept → IsHistory (reply settings) opening
      → Rule (at_first (n ∷ 0 ∷ 0 ∷ []) (Some kept ∷ []) (maker (Some settings) opening callers))
  starts n kept is short limit for legal =
      let all : opening ++ [] ≡ opening = append-nil opening in record {
        later = [];
        turn = 0;
        drawn = 0;
        owner = λ _. 0;
        who = 0;
        away = false;
        kept = kept;
        words = ap (λ k. k ∷ 0 ∷ 0 ∷ []) (is ∙ ap length (sym all));
        homes = refl;
        history = subst (IsHistory (reply settings)) (sym all) legal;
        short = subst (λ (l : List (Entry A Y)). length l < 2 ^ 62) (sym all) (subst (λ k. k < 2 ^ 62) is short);
        few = omega arith;
        limit = limit;
        fresh = λ _ _. refl;
        zeroth = refl;
        unowned = λ _ _. refl;
        seats = one;
        held = λ n. absurd (n refl);
        idle = λ _. refl;
        home = λ _. subst (λ (l : List (Entry A Y)). Stands reply stands settings_of settings l kept) (sym all) for;
      }
    where
      first_fits : Fits settings opening [] callers 0 0 0 false (λ _. 0) 0 (maker (Some settings) opening callers)
      first_fits = record {
        draws = λ _. (refl, refl, refl, refl, refl);
        in_hand = λ _ h. off false refl h;
        pasts = λ m. off false refl m;
        owns = λ m. off false refl m;
        knows = λ m. off false refl m;
        finds = λ m. off false refl m;
        has_turn = λ m. off false refl m;
        has_out = λ m. off false refl m;
      }

      one : (id : ℕ) (v : V) → get_elem? (maker (Some settings) opening callers ∷ []) id ≡ some v → Fits settings opening [] callers 0 0 0 false (λ _. 0) id v
      one zero v e = subst (Fits settings opening [] callers 0 0 0 false (λ _. 0) 0) (some-injective _ _ e) first_fits
      one (suc id) v e = absurd (some-ne-none v (sym e))

  -- the turn is not 0 while a seat has it, and that seat has the machine in hand if it is away
  pub owner_of_turn : (s : St) (r : Rule s) (id : ℕ) (v : V) → get_elem? s.views id ≡ some v → v.turns ≡ true → r.owner r.turn ≡ id + 2
  owner_of_turn s r id v at t = let f = r.seats id v at in let h = f.has_turn t in ap r.owner (sym h.2) ∙ (f.owns h.0).0

  turn_taken : (s : St) (r : Rule s) (id : ℕ) (v : V) → get_elem? s.views id ≡ some v → v.turns ≡ true → r.turn ≢ 0
  turn_taken s r id v at t e = let o = owner_of_turn s r id v at t in omega (arith, sym o ∙ (ap r.owner e ∙ r.zeroth))

  out_is_away : (s : St) (r : Rule s) (id : ℕ) (v : V) → get_elem? s.views id ≡ some v → v.turns ≡ true → v.out ≡ r.away
  out_is_away s r id v at t = let h = r.held (turn_taken s r id v at t) in let who = (r.seats id v at).has_turn t in
      ap (λ (u : V). u.out) (at_one s.views id v h.0 at (subst (λ k. get_elem? s.views k ≡ some h.0) (sym who.1) h.1)) ∙ h.2.1

  pub tries : (slots id number : ℕ) (me : SeatState A Y G M) → me.0.calls ≡ true → me.0.turns ≡ false → number ≡ me.0.number
      → Allows Rule slots id me 1 (λ n. either (n == 0) number n) (tried (step slots 1 0 number none) me)
  tries slots id number me calls at_rest is s r deep at small =
      let v = me.0 in let f = r.seats id v at in let mine = f.owns calls in let found = ap (λ (l : List ℕ). get_or l 1 0) r.words in
      let in_hand : v.out ≡ false = not_true v.out (λ o. off v.turns at_rest (f.has_out o).0) in
      dite (ℕ_discrete r.turn 0)
      (λ none. let free = r.idle none in
      let nobody_has : (j : ℕ) (u : V) → get_elem? s.views j ≡ some u → u.turns ≡ true → ⊥ = λ j u e t. turn_taken s r j u e t none in (
        at_turn v,
        keeps,
        tt,
        record {
          later = r.later;
          turn = number;
          drawn = r.drawn;
          owner = r.owner;
          who = id;
          away = r.away;
          kept = r.kept;
          words = word_turn _ r.turn _ (λ n. either (n == 0) number n) s.words r.words ∙ ap (λ n. length (opening ++ r.later) ∷ n ∷ r.drawn ∷ []) (hit r.turn number none);
          homes = r.homes;
          history = r.history;
          short = r.short;
          few = r.few;
          limit = r.limit;
          fresh = r.fresh;
          zeroth = r.zeroth;
          unowned = r.unowned;
          seats = views_set (Fits settings opening r.later callers number r.drawn id r.away r.owner) s.views id (at_turn v)
              (record { draws = f.draws; in_hand = f.in_hand; pasts = f.pasts; owns = f.owns; knows = f.knows; finds = f.finds; has_turn = λ _. (calls, refl, sym is); has_out = λ o. off v.out in_hand o })
              (λ j u other e. let g = r.seats j u e in record { draws = g.draws; in_hand = g.in_hand; pasts = g.pasts; owns = g.owns; knows = g.knows; finds = g.finds; has_turn = λ t. absurd (nobody_has j u e t); has_out = λ o. absurd (nobody_has j u e (g.has_out o).0) });
          held = λ _. (at_turn v, set_here s.views id (at_turn v) (at_there s.views id v at), (refl, in_hand ∙ sym free));
          idle = λ _. free;
          home = r.home;
        },
        ((λ _. refl), (λ taken. absurd (taken (found ∙ none)))),
      ))
      (λ some_one. let h = r.held some_one in let g = r.seats r.who h.0 h.1 in let its = owner_of_turn s r r.who h.0 h.1 h.2.0 in
      let drawn_it : r.turn ≤ r.drawn = le_of (λ more. omega (arith, sym its ∙ r.fresh r.turn more)) in
      let others_it : IsOther r.drawn v.number r.turn = (
        omega arith,
        drawn_it,
        (λ e. let same : r.who ≡ id = omega (arith, sym its ∙ (ap r.owner e ∙ mine.0)) in
            off v.turns at_rest (ap (λ (u : V). u.turns) (at_one s.views id v h.0 at (subst (λ k. get_elem? s.views k ≡ some h.0) same h.1)) ∙ h.2.0)),
      ) in (
        finding v r.turn,
        keeps,
        tt,
        record {
          later = r.later;
          turn = r.turn;
          drawn = r.drawn;
          owner = r.owner;
          who = r.who;
          away = r.away;
          kept = r.kept;
          words = word_turn _ r.turn _ (λ n. either (n == 0) number n) s.words r.words ∙ ap (λ n. length (opening ++ r.later) ∷ n ∷ r.drawn ∷ []) (miss r.turn number some_one);
          homes = r.homes;
          history = r.history;
          short = r.short;
          few = r.few;
          limit = r.limit;
          fresh = r.fresh;
          zeroth = r.zeroth;
          unowned = r.unowned;
          seats = views_set (Fits settings opening r.later callers r.turn r.drawn r.who r.away r.owner) s.views id (finding v r.turn)
              (record {
                draws = f.draws;
                in_hand = f.in_hand;
                pasts = f.pasts;
                owns = f.owns;
                knows = f.knows;
                finds = λ c k n e. ⊎_elim (λ t. f.finds c k n t) (λ (t : r.turn ≡ n). subst (IsOther r.drawn v.number) t others_it) (at_snoc v.found r.turn n k e);
                has_turn = f.has_turn;
                has_out = f.has_out;
              })
              (λ j u other e. r.seats j u e);
          held = λ n. let x = r.held n in still (HasTurn r.away) s.views id r.who v (finding v r.turn) x.0 at x.1 x.2 (λ y. y);
          idle = r.idle;
          home = r.home;
        },
        ((λ free. absurd (some_one (sym found ∙ free))), (λ _. (ap (λ n. (finding v n, me.1)) (sym found), omega (arith, found, r.few, r.limit, drawn_it), (λ e. others_it.2 (sym found ∙ e))))),
      ))
    where
      le_of : {a b : ℕ} → (b < a → ⊥) → a ≤ b
      le_of h = omega arith

  pub frees : (slots id : ℕ) (me : SeatState A Y G M) → me.0.turns ≡ true → me.0.out ≡ false → Allows Rule slots id me 1 (λ _. 0) (λ _. freed (step slots 1 0 0 none) me 0)
  frees slots id me turns in_hand s r deep at small =
      let v = me.0 in let f = r.seats id v at in let its = f.has_turn turns in
      let home : r.away ≡ false = sym (out_is_away s r id v at turns) ∙ in_hand in (
        off_turn v,
        keeps,
        tt,
        record {
          later = r.later;
          turn = 0;
          drawn = r.drawn;
          owner = r.owner;
          who = r.who;
          away = r.away;
          kept = r.kept;
          words = word_turn _ r.turn _ (λ _. 0) s.words r.words;
          homes = r.homes;
          history = r.history;
          short = r.short;
          few = r.few;
          limit = r.limit;
          fresh = r.fresh;
          zeroth = r.zeroth;
          unowned = r.unowned;
          seats = views_set (Fits settings opening r.later callers 0 r.drawn r.who r.away r.owner) s.views id (off_turn v)
              (record { draws = f.draws; in_hand = f.in_hand; pasts = f.pasts; owns = f.owns; knows = f.knows; finds = f.finds; has_turn = λ t. off false refl t; has_out = λ o. off v.out in_hand o })
              (λ j u other e. let g = r.seats j u e in record {
                draws = g.draws;
                in_hand = g.in_hand;
                pasts = g.pasts;
                owns = g.owns;
                knows = g.knows;
                finds = g.finds;
                has_turn = λ t. absurd (other ((g.has_turn t).1 ∙ sym its.1));
                has_out = λ o. absurd (other ((g.has_turn (g.has_out o).0).1 ∙ sym its.1));
              });
          held = λ n. absurd (n refl);
          idle = λ _. home;
          home = r.home;
        },
        refl,
      )

  module _ (s : St) (r : Rule s) (id : ℕ) (v : V) (at : get_elem? s.views id ≡ some v) (turns : v.turns ≡ true) where
    -- another seat has no turn
    no_other : (j : ℕ) (u : V) → j ≢ id → get_elem? s.views j ≡ some u → u.turns ≡ true → ⊥
    no_other j u other e t = other (((r.seats j u e).has_turn t).1 ∙ sym ((r.seats id v at).has_turn turns).1)

    -- the slot changes, and the seat's own view
    slot_step : (away : Bool) (kept : Kept M A Y G) (homes : List (maybe.Option Slot)) (w : V) → homes ≡ homed away kept → (away ≡ false → Stands reply stands settings_of settings (opening ++ r.later) kept)
        → w.out ≡ away → w.turns ≡ true → Fits settings opening r.later callers r.turn r.drawn r.who away r.owner id w
        → Rule record { words = set s.words 1 (get_or s.words 1 0); homes = homes; views = set s.views id w }
    slot_step away kept homes w is home out turns' fits = record {
      later = r.later;
      turn = r.turn;
      drawn = r.drawn;
      owner = r.owner;
      who = r.who;
      away = away;
      kept = kept;
      words = word_turn _ r.turn _ (λ n. n) s.words r.words;
      homes = is;
      history = r.history;
      short = r.short;
      few = r.few;
      limit = r.limit;
      fresh = r.fresh;
      zeroth = r.zeroth;
      unowned = r.unowned;
      seats = views_set (Fits settings opening r.later callers r.turn r.drawn r.who away r.owner) s.views id w fits
          (λ j u other e. let g = r.seats j u e in record {
            draws = g.draws;
            in_hand = g.in_hand;
            pasts = g.pasts;
            owns = g.owns;
            knows = g.knows;
            finds = g.finds;
            has_turn = g.has_turn;
            has_out = λ o. absurd (no_other j u other e (g.has_out o).0);
          });
      held = λ _. (w, subst (λ k. get_elem? (set s.views id w) k ≡ some w) ((r.seats id v at).has_turn turns).1 (set_here s.views id w (at_there s.views id v at)), (turns', out));
      idle = λ e. absurd (turn_taken s r id v at turns e);
      home = home;
    }

  pub takes_it : (slots id : ℕ) (me : SeatState A Y G M) → me.0.turns ≡ true → me.0.out ≡ false → Allows Rule slots id me 1 (λ n. n) (took reply stands settings_of (step slots 1 0 0 none) me)
  takes_it slots id me turns in_hand s r deep at small =
      let v = me.0 in let f = r.seats id v at in let its = f.has_turn turns in let own = f.owns its.0 in
      let home : r.away ≡ false = sym (out_is_away s r id v at turns) ∙ in_hand in
      let homes : s.homes ≡ homed false r.kept = r.homes ∙ ap (λ (b : Bool). homed b r.kept) home in
      let there = r.home home in
      let mine : Fits settings opening r.later callers r.turn r.drawn r.who true r.owner id (holding v r.later) = record {
        draws = f.draws;
        in_hand = f.in_hand;
        pasts = f.pasts;
        owns = f.owns;
        knows = f.knows;
        finds = f.finds;
        has_turn = f.has_turn;
        has_out = λ _. (turns, refl, refl);
      } in
      let log : v.opening ++ r.later ≡ opening ++ r.later = ap (λ (l : List (Entry A Y)). l ++ r.later) own.2 in (
        holding v r.later,
        takes 0 (Some r.kept),
        ap (λ (l : List (maybe.Option Slot)). get_elem? l 0) homes,
        slot_step s r id v at turns true r.kept (set s.homes 0 none) (holding v r.later) (ap (λ (l : List (maybe.Option Slot)). set l 0 none) homes) (λ e. off true e refl) refl turns mine,
        (
          r.later,
          r.kept,
          refl,
          own.1 ∙ ap Some (sym there.same),
          record { trail = there.trail ∙ sym log; machine = subst (IsKept reply stands settings_of r.kept.machine) (sym log) there.machine; same = refl },
        ),
      )

  pub gives_it : (slots id : ℕ) (v : V) (kept : Kept M A Y G) → v.out ≡ true → kept.trail.entries ≡ v.opening ++ v.base → IsKept reply stands settings_of kept.machine (v.opening ++ v.base) → v.settings ≡ Some (settings_of kept.machine)
      → Allows Rule slots id (v, (0, Some kept) ∷ []) 1 (λ n. n) (gave (step slots 1 0 0 none) (v, (0, Some kept) ∷ []))
  gives_it slots id v kept out trail for set_by s r deep at small =
      let f = r.seats id v at in let has = f.has_out out in let its = f.has_turn has.0 in let own = f.owns its.0 in
      let log : v.opening ++ v.base ≡ opening ++ r.later = ap (λ (l : List (Entry A Y)). l ++ v.base) own.2 ∙ ap (λ (l : List (Entry A Y)). opening ++ l) has.2 in
      let homes : s.homes ≡ homed true r.kept = r.homes ∙ ap (λ (b : Bool). homed b r.kept) has.1 in
      let mine : Fits settings opening r.later callers r.turn r.drawn r.who false r.owner id (emptied v) = record {
        draws = f.draws;
        in_hand = f.in_hand;
        pasts = f.pasts;
        owns = f.owns;
        knows = f.knows;
        finds = f.finds;
        has_turn = f.has_turn;
        has_out = λ o. off false refl o;
      } in (
        emptied v,
        gives,
        tt,
        slot_step s r id v at has.0 false kept (set s.homes 0 (some (Some kept))) (emptied v) (ap (λ (l : List (maybe.Option Slot)). set l 0 (some (Some kept))) homes)
            (λ _. record { trail = trail ∙ log; machine = subst (IsKept reply stands settings_of kept.machine) log for; same = (let h : Some (settings_of kept.machine) ≡ Some settings = sym set_by ∙ own.1 in cc h) }) refl has.0 mine,
        refl,
      )

  pub notes : (slots id : ℕ) (me : SeatState A Y G M) (e : Entry A Y) → me.0.out ≡ true → trail_of me.1 ≡ (me.0.opening ++ me.0.base) ++ e ∷ [] → e.caller ≡ me.0.number
      → ((settings' : G) → me.0.settings ≡ Some settings' → reply settings' (me.0.opening ++ me.0.base) e.ask e.say) → length (me.0.opening ++ me.0.base) + 1 < 2 ^ 62
      → Allows Rule slots id me 0 (λ n. (n + 1) % 2 ^ 64) (noted reply (step slots 0 1 0 none) me)
  notes slots id me e out trail by says fits_in s r deep at small =
      let v = me.0 in let f = r.seats id v at in let has = f.has_out out in let its = f.has_turn has.0 in let own = f.owns its.0 in let known = f.knows its.0 in
      let L : Type 0 = List (Entry A Y) in
      let now : L = r.later ++ e ∷ [] in
      let base : v.base ++ e ∷ [] ≡ now = ap (λ (l : L). l ++ e ∷ []) has.2 in
      let log : v.opening ++ v.base ≡ opening ++ r.later = ap (λ (l : L). l ++ v.base) own.2 ∙ ap (λ (l : L). opening ++ l) has.2 in
      let longer : (opening ++ r.later) ++ e ∷ [] ≡ opening ++ now = append_assoc opening r.later (e ∷ []) in
      let more : length (opening ++ now) ≡ length (opening ++ r.later) + 1 = sym (ap length longer) ∙ length-append (opening ++ r.later) (e ∷ []) in
      let low : length (opening ++ r.later) + 1 < 2 ^ 62 = subst (λ (l : L). length l + 1 < 2 ^ 62) log fits_in in
      let legal : IsHistory (reply settings) (opening ++ now) = subst (IsHistory (reply settings)) longer (history_more (reply settings) (opening ++ r.later) e r.history (subst (λ (l : L). reply settings l e.ask e.say) log (says settings own.1))) in
      let others : (n x : ℕ) → x ≢ id + 2 → r.owner n ≡ x → calls_of n now ≡ calls_of n r.later = λ n x ne is. calls_same n r.later e (λ z. ne (sym is ∙ (ap r.owner (sym z ∙ by) ∙ own.0))) in
      let mine : calls_of v.number now ≡ v.mine ++ e ∷ [] = calls_more v.number r.later e by ∙ ap (λ (l : L). l ++ e ∷ []) known.1 in
      let between : L = known.0.0 in
      let seen : v.since ++ (between ++ e ∷ []) ≡ now = sym (append_assoc v.since between (e ∷ [])) ∙ ap (λ (l : L). l ++ e ∷ []) known.0.1 in
      let all_seen : v.opening ++ (v.since ++ (between ++ e ∷ [])) ≡ opening ++ now = ap (λ (l : L). l ++ (v.since ++ (between ++ e ∷ []))) own.2 ∙ ap (λ (l : L). opening ++ l) seen in
      let w : V = grown v between e in (
        w,
        keeps,
        tt,
        record {
          later = now;
          turn = r.turn;
          drawn = r.drawn;
          owner = r.owner;
          who = r.who;
          away = r.away;
          kept = r.kept;
          words = word_length (length (opening ++ r.later)) r.turn r.drawn (λ n. (n + 1) % 2 ^ 64) s.words r.words ∙ ap (λ n. n ∷ r.turn ∷ r.drawn ∷ []) (mod-eq_of_lt (omega (arith, low)) ∙ sym more);
          homes = r.homes;
          history = legal;
          short = omega (arith, more, low);
          few = r.few;
          limit = r.limit;
          fresh = r.fresh;
          zeroth = r.zeroth;
          unowned = λ n z. others n 0 (λ h. omega arith) z ∙ r.unowned n z;
          seats = views_set (Fits settings opening now callers r.turn r.drawn r.who r.away r.owner) s.views id w
              (record {
                draws = f.draws;
                in_hand = f.in_hand;
                pasts = λ m k p q. let h = f.pasts m k p q in (h.0, prefix_more p.since r.later e h.1, others p.number 1 (λ y. omega arith) h.0 ∙ h.2);
                owns = f.owns;
                knows = λ _. (([], append-nil (v.since ++ (between ++ e ∷ [])) ∙ seen), mine);
                finds = f.finds;
                has_turn = f.has_turn;
                has_out = λ _. (has.0, has.1, base);
              })
              (λ j u other z. let g = r.seats j u z in record {
                draws = g.draws;
                in_hand = g.in_hand;
                pasts = λ m k p q. let h = g.pasts m k p q in (h.0, prefix_more p.since r.later e h.1, others p.number 1 (λ y. omega arith) h.0 ∙ h.2);
                owns = g.owns;
                knows = λ c. let h = g.knows c in (prefix_more u.since r.later e h.0, others u.number (j + 2) (λ y. other (omega arith)) (g.owns c).0 ∙ h.1);
                finds = g.finds;
                has_turn = g.has_turn;
                has_out = λ o. absurd (no_other s r id v at has.0 j u other z (g.has_out o).0);
              });
          held = λ n. let h = r.held n in still (HasTurn r.away) s.views id r.who v w h.0 at h.1 h.2 (λ x. x);
          idle = r.idle;
          home = λ z. off r.away z has.1;
        },
        (
          e,
          between,
          trail,
          refl,
          (
            ap (calls_of v.number) seen ∙ mine,
            (settings, own.1, subst (IsHistory (reply settings)) (sym all_seen) legal),
            subst (λ (l : L). length l < 2 ^ 62) (sym all_seen) (omega (arith, more, low)),
          ),
        ),
      )

  pub gives_as : (slots id : ℕ) (me : SeatState A Y G M) (kept : Kept M A Y G) → me.1 ≡ (0, Some kept) ∷ [] → me.0.out ≡ true → kept.trail.entries ≡ me.0.opening ++ me.0.base → IsKept reply stands settings_of kept.machine (me.0.opening ++ me.0.base)
      → me.0.settings ≡ Some (settings_of kept.machine) → Allows Rule slots id me 1 (λ n. n) (gave (step slots 1 0 0 none) me)
  gives_as slots id me kept is out trail for set_by =
      subst (λ (l : List (ℕ × Slot)). Allows Rule slots id (me.0, l) 1 (λ n. n) (gave (step slots 1 0 0 none) (me.0, l))) (sym is) (gives_it slots id me.0 kept out trail for set_by)
