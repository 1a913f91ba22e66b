-- Who asked changes neither a centre nor its answers.
use Rattle.std.proofs.Common.{◌≡◌, ℕ, Bool, false, cond, ◌==◌, List, [], ◌∷◌, ◌++◌, map, fold, refl, sym, ◌∙◌, ap, subst, append_assoc}
use Rattle.std.specs.Option.{unwrap_or}
use Rattle.std.proofs.lemmas.List.{map-append}
use Rattle.vv_core.specs.Vectors.{zeros, centres, tabulate, column, least, join_of, meet_of, kth_largest}
use Rattle.machine_trail.specs.History.{entry}
use Rattle.dc_talk.specs.declared.ask.Ask.{Ask}
use Rattle.dc_talk.specs.declared.ask.Ask.TheVariants.{Prune}
use Rattle.dc_talk.specs.declared.say.Say.{Say}
use Rattle.dc_talk.specs.declared.say.Say.TheVariants.{Base}
use Rattle.dc_talk.specs.declared.sent.Sent.{Sent}
use Rattle.dc_talk.specs.declared.settings.Settings.{Settings}
use Rattle.dc_talk.specs.Entries.{Entry}
use Rattle.dc_talk.specs.Records.{vector}
use Rattle.dc_talk.specs.Sents.{items}
use Rattle.dc_talk.specs.Answers.{History, answer}
use Rattle.dc_talk.specs.Trails.{carried_on, taught_in, switched_in, carried, applied, taught, told, stopped, rows, Horizon, horizon_at_first, pruned, horizon_after, horizon_past}
use Rattle.trail_kept.specs.Kept.{IsSameState}
use Rattle.trail_kept.proofs.Left.{same_answer}
use Rattle.dc_journal.specs.Answered.{answered, of_any, AreSame}
use Rattle.dc_journal.proofs.Trails.{history_here}
use Rattle.trail_journal.specs.Files.{ask_in}

-- a fold over asks and replies
fold_same : {S : Type 0} (f : S → Ask → Say → S) (st : S) (a b : List Entry) → AreSame a b → fold (λ (s : S) (e : Entry). f s e.ask e.say) st a ≡ fold (λ (s : S) (e : Entry). f s e.ask e.say) st b
fold_same f st [] [] same = refl
fold_same f st [] (y ∷ b) same = absurd (cc same)
fold_same f st (x ∷ a) [] same = absurd (cc same)
fold_same {S} f st (x ∷ a) (y ∷ b) same =
    let first : of_any x ≡ of_any y = cc same in
    let rest : AreSame a b = cc same in
    fold_same f (f st x.ask x.say) a b rest ∙ ap (λ (p : Ask × Say). fold (λ (s : S) (e : Entry). f s e.ask e.say) (f st p.0 p.1) b) first

-- one entry more
same_more : (a b : List Entry) (x y : Entry) → AreSame a b → of_any x ≡ of_any y → AreSame (a ++ x ∷ []) (b ++ y ∷ [])
same_more a b x y same last = map-append of_any a (x ∷ []) ∙ (λ i. same i ++ last i ∷ []) ∙ sym (map-append of_any b (y ∷ []))

module _ (s : Settings) where
  module _ (a b : List Entry) (same : AreSame a b) where
    -- what either leaves in a centre, part by part
    carried_same : carried s.n a ≡ carried s.n b
    carried_same = fold_same (λ (C : List Sent) (ask : Ask) (say : Say). carried_on s.n C ask say) [] a b same

    told_same : (j : ℕ) → told s.n j a ≡ told s.n j b
    told_same j = fold_same (λ (row : List ℕ) (ask : Ask) (say : Say). taught j row (taught_in ask say)) (zeros s.n) a b same

    stopped_same : stopped a ≡ stopped b
    stopped_same = fold_same (λ (down : Bool) (ask : Ask) (say : Say). unwrap_or (switched_in ask say) down) false a b same

    applied_same : applied s.n a ≡ applied s.n b
    applied_same = ap items carried_same

    rows_same : rows s a ≡ rows s b
    rows_same = (λ i. map (λ j. cond (j == s.me) (vector s.n (applied_same i)) (told_same j i)) (centres s.n))

    pruned_same : (h : Horizon) → pruned s a h ≡ pruned s b h
    pruned_same h = (λ i. record { base = h.mark; mark = meet_of (kth_largest s.k (rows_same i)) (vector s.n (applied_same i)); trimmed = join_of h.trimmed (tabulate s.n (λ e. least (column e (rows_same i)))) })

    after_same : (h : Horizon) (ask : Ask) (say : Say) → horizon_after s a h ask say ≡ horizon_after s b h ask say
    after_same h Prune (Base news folded trimmed) = pruned_same h
    after_same h _ _ = refl

  -- how far either has pruned, behind trails that are the same
  past_same : (a b : List Entry) (h : Horizon) (xs ys : List Entry) → AreSame a b → AreSame xs ys → horizon_past s a h xs ≡ horizon_past s b h ys
  past_same a b h [] [] same later = refl
  past_same a b h [] (y ∷ ys) same later = absurd (cc later)
  past_same a b h (x ∷ xs) [] same later = absurd (cc later)
  past_same a b h (x ∷ xs) (y ∷ ys) same later =
      let first : of_any x ≡ of_any y = cc later in
      let rest : AreSame xs ys = cc later in
      past_same (a ++ x ∷ []) (b ++ y ∷ []) (horizon_after s a h x.ask x.say) xs ys (same_more a b x y same first) rest
      ∙ ap (λ (k : Horizon). horizon_past s (b ++ y ∷ []) k ys) (after_same a b same h x.ask x.say ∙ ap (λ (p : Ask × Say). horizon_after s b h p.0 p.1) first)

  -- both leave a centre in one state
  state_same : (a b : List Entry) → AreSame a b → IsSameState s a b
  state_same a b same = record {
    same_carried = carried_same a b same;
    same_told = told_same a b same;
    same_stopped = stopped_same a b same;
    same_horizon = past_same [] [] (horizon_at_first s.n) a b refl same;
  }

  -- so the later entries of a history are those of its asks as a centre answers them behind entries of other callers
  answered_same : (a b later : List Entry) → AreSame a b → History s (a ++ later) → AreSame later (answered s b (map ask_in later))
  answered_same a b [] same history = refl
  answered_same a b (e ∷ later) same history =
      let say_is : e.say ≡ answer s b e.ask = history_here s a e later history ∙ same_answer s a b (state_same a b same) e.ask in
      let here : of_any e ≡ of_any (entry 0 e.ask (answer s b e.ask)) = (λ i. (e.ask, say_is i)) in
      let joined : (a ++ e ∷ []) ++ later ≡ a ++ e ∷ later = append_assoc a (e ∷ []) later in
      let rest = answered_same (a ++ e ∷ []) (b ++ entry 0 e.ask (answer s b e.ask) ∷ []) later (same_more a b e (entry 0 e.ask (answer s b e.ask)) same here) (subst (λ l. History s l) (sym joined) history) in
      (λ i. here i ∷ rest i)

  -- the asks of a part of a history
  pub asked_same : (a later : List Entry) → History s (a ++ later) → AreSame later (answered s a (map ask_in later))
  asked_same a later history = answered_same a a later refl history
