-- Histories by their parts, and trails with the same asks.
use Rattle.std.proofs.Common.{◌≡◌, ℕ, zero, suc, Bool, true, false, cond, List, [], ◌∷◌, ◌++◌, map, take, length, Some, refl, sym, ◌∙◌, ap, subst}
use Rattle.std.specs.Prelude.{slice_get}
use Rattle.std.proofs.lemmas.List.{map-append, take_at}
use Rattle.std.proofs.lemmas.Option.{none-some, same_Some}
use Rattle.list_core.proofs.Gets.{get_seam}
use Rattle.list_core.proofs.Moments.{each_take}
use Rattle.dc_talk.specs.declared.settings.Settings.{Settings}
use Rattle.dc_talk.specs.Entries.{Entry}
use Rattle.dc_talk.specs.Answers.{History, IsAnswer}
use Rattle.trail_kept.specs.Kept.{is_kept, kept}
use Rattle.trail_kept.proofs.Histories.{kept_last, left_last}
use Rattle.journal_asks.specs.declared.kept_ask.KeptAsk.{KeptAsk}
use Rattle.journal_asks.specs.Spellings.{by_of}
use Rattle.dc_journal.specs.Asks.{asked, due, AreAsksOf}

-- ---- two lists with one image

module _ {X Y Z : Type 0} (f : X → Z) (g : Y → Z) where
  -- the other list has an element for one of the first, and the same before and behind it
  pub record HasPlace (xs : List X) (x : X) (ys : List X) (b : List Y) : Type 0 where
    pub front : List Y
    pub here : Y
    pub later : List Y
    pub is : b ≡ front ++ here ∷ later
    pub same : map f xs ≡ map g front
    pub there : f x ≡ g here
    pub behind : map f ys ≡ map g later

  pub place_of : (xs : List X) (x : X) (ys : List X) (b : List Y) → map f (xs ++ x ∷ ys) ≡ map g b → HasPlace xs x ys b
  place_of [] x ys [] same = absurd (cc same)
  place_of [] x ys (y ∷ b) same = record { front = []; here = y; later = b; is = refl; same = refl; there = cc same; behind = cc same }
  place_of (w ∷ xs) x ys [] same = absurd (cc same)
  place_of (w ∷ xs) x ys (y ∷ b) same =
      let tails : map f (xs ++ x ∷ ys) ≡ map g b = cc same in
      let first : f w ≡ g y = cc same in
      let r = place_of xs x ys b tails in
      record {
        front = y ∷ r.front;
        here = r.here;
        later = r.later;
        is = ap (λ (l : List Y). y ∷ l) r.is;
        same = ap (λ (z : Z). z ∷ map f xs) first ∙ ap (λ (l : List Z). g y ∷ l) r.same;
        there = r.there;
        behind = r.behind;
      }

  pub none_there : (b : List Y) → [] ≡ map g b → b ≡ []
  none_there [] same = refl
  none_there (y ∷ b) same = absurd (cc same)

-- ---- histories

module _ (s : Settings) (front : List Entry) (here : Entry) (later : List Entry) (history : History s (front ++ here ∷ later)) where
  first : take (length front) (front ++ here ∷ later) ≡ front
  first = take_at front (here ∷ later) (length front) refl

  pub history_front : History s front
  history_front = subst (λ l. History s l) first (each_take (λ before e. IsAnswer s before e.ask e.say) (front ++ here ∷ later) (length front) history)

  pub history_here : IsAnswer s front here.ask here.say
  history_here = subst (λ l. IsAnswer s l here.ask here.say) first (history.holds (length front) here (get_seam front here later))

-- each entry that is kept has such a reply
pub kept_there : (trail : List Entry) (p : ℕ) (e : Entry) → slice_get (kept trail) p ≡ Some e → is_kept e.say ≡ true
kept_there [] p e there = absurd (none-some e there)
kept_there (x ∷ trail) p e there = go (λ q here. kept_there trail q e here) (is_kept x.say) refl p there
  where
    go : ((q : ℕ) → slice_get (kept trail) q ≡ Some e → is_kept e.say ≡ true) → (b : Bool) → is_kept x.say ≡ b → (q : ℕ) → slice_get (cond b (x ∷ kept trail) (kept trail)) q ≡ Some e → is_kept e.say ≡ true
    go rest true is_it zero here = subst (λ (y : Entry). is_kept y.say ≡ true) (same_Some x e here) is_it
    go rest true is_it (suc q) here = rest q here
    go rest false is_not q here = rest q here

-- ---- asks of a trail

-- one more that is kept
pub asks_more : (me : ℕ) (items : List KeptAsk) (x : KeptAsk) (trail : List Entry) (e : Entry) → x.by ≡ by_of me e.ask → x.ask ≡ e.ask → is_kept e.say ≡ true → AreAsksOf me items trail → AreAsksOf me (items ++ x ∷ []) (trail ++ e ∷ [])
asks_more me items x trail e by ask is_it asks =
    let last : asked x ≡ due me e = (λ i. (by i, ask i)) in
    map-append asked items (x ∷ [])
    ∙ ap (λ (l : List (ℕ × _)). l ++ asked x ∷ []) asks
    ∙ ap (λ p. map (due me) (kept trail) ++ p ∷ []) last
    ∙ sym (map-append (due me) (kept trail) (e ∷ []))
    ∙ ap (map (due me)) (sym (kept_last trail e is_it))

-- one more that is not
pub asks_same : (me : ℕ) (items : List KeptAsk) (trail : List Entry) (e : Entry) → is_kept e.say ≡ false → AreAsksOf me items trail → AreAsksOf me items (trail ++ e ∷ [])
asks_same me items trail e is_not asks = asks ∙ ap (map (due me)) (sym (left_last trail e is_not))
