-- The ends of links, lent and given back one after another.
use Rattle.std.proofs.Common.{◌≡◌, ◌≢◌, ◌≤◌, ◌<◌, ◌⊎◌, inl, inr, ⊎_elim, ℕ, ◌+◌, ◌-◌, ◌==◌, cond, List, [], ◌∷◌, ◌++◌, length, length-append, map, get_or, refl, sym, ap, ◌∙◌, arith}
use Rattle.std.specs.Prelude.{◌&&◌, slice_index_or}
use Rattle.std.specs.Global.{Vec}
use Rattle.std.proofs.Math.Seq.{get_or-append_seam}
use Rattle.std.proofs.lemmas.Bool.{cases_eq, cases_lt, eq-eqb, ne_eqb}
use Rattle.std.proofs.lemmas.List.{get_or_append_left, map-append, length-map}
use Rattle.ids_core.specs.declared.limits.TheConstants.{MOST_CENTRES}
use Rattle.dc_talk.specs.declared.sent.Sent.{Sent}
use Rattle.script_core.specs.Links.{Inlet, clean_inlet}
use Rattle.script_core.specs.Mail.{Post}
use Rattle.script_core.specs.Steps.{IsCount}
use Rattle.dc_mail.specs.Posts.{post_at, IsCentre, HasSet}
use Rattle.dc_links.specs.Links.{inlet_from}
use Rattle.thread_run.specs.Lending.{row_inlet, AreInletsTo, AreInlets, HaveInletsTo, HaveInlets}

module _ (i j : ℕ) (post : Post) (old new : List Post) (set : HasSet i j post old new) where
  -- a link that was set
  set_is : IsCentre i → IsCentre j → post_at new i j ≡ post
  set_is f t = set.each i j f t ∙ (λ k. cond (eq-eqb i i refl k && eq-eqb j j refl k) post (post_at old i j))

  -- another one
  set_other : (from to : ℕ) → IsCentre from → IsCentre to → (from ≢ i) ⊎ (to ≢ j) → post_at new from to ≡ post_at old from to
  set_other from to f t other = set.each from to f t ∙ go other (cases_eq from i)
    where
      go : (from ≢ i) ⊎ (to ≢ j) → (from ≡ i) ⊎ (from ≢ i) → cond (from == i && to == j) post (post_at old from to) ≡ post_at old from to
      go (inl one) either = ap (λ test. cond (test && to == j) post (post_at old from to)) (ne_eqb from i one)
      go (inr two) (inl one) = λ k. cond (eq-eqb from i one k && ne_eqb to j two k) post (post_at old from to)
      go (inr two) (inr one) = ap (λ test. cond (test && to == j) post (post_at old from to)) (ne_eqb from i one)

module _ (inlets : List (Inlet Sent)) (inlet : Inlet Sent) where
  -- an end among more
  inlet_before : (from : ℕ) → IsCount (length inlets) from → inlet_from (inlets ++ inlet ∷ []) from ≡ inlet_from inlets from
  inlet_before from range = get_or_append_left inlets (inlet ∷ []) clean_inlet (from - 1) (omega (arith, range.0, range.1))

  -- the last one
  inlet_behind : (from : ℕ) → from ≡ length inlets + 1 → inlet_from (inlets ++ inlet ∷ []) from ≡ inlet
  inlet_behind from is = let place : from - 1 ≡ length inlets = omega (arith, is) in ap (λ p. get_or (inlets ++ inlet ∷ []) p clean_inlet) place ∙ get_or-append_seam inlets inlet [] clean_inlet

-- the row of a centre
abbrev pub row_at : List (Vec (Inlet Sent)) → ℕ → List (Inlet Sent)
row_at rows to = slice_index_or (map (λ (row : Vec (Inlet Sent)). row.items) rows) (to - 1) []

module _ (rows : List (Vec (Inlet Sent))) (row : Vec (Inlet Sent)) where
  -- a row among more
  row_before : (to : ℕ) → IsCount (length rows) to → row_at (rows ++ row ∷ []) to ≡ row_at rows to
  row_before to range =
      ap (λ items. get_or items (to - 1) []) (map-append (λ (row : Vec (Inlet Sent)). row.items) rows (row ∷ []))
      ∙ get_or_append_left (map (λ (row : Vec (Inlet Sent)). row.items) rows) (row.items ∷ []) [] (to - 1) (omega (arith, range.0, range.1, length-map rows (λ (row : Vec (Inlet Sent)). row.items)))

  -- the last one
  row_behind : (to : ℕ) → to ≡ length rows + 1 → row_at (rows ++ row ∷ []) to ≡ row.items
  row_behind to is =
      let place : to - 1 ≡ length (map (λ (row : Vec (Inlet Sent)). row.items) rows) = omega (arith, is, length-map rows (λ (row : Vec (Inlet Sent)). row.items)) in
      ap (λ items. get_or items (to - 1) []) (map-append (λ (row : Vec (Inlet Sent)). row.items) rows (row ∷ []))
      ∙ (ap (λ p. get_or (map (λ (row : Vec (Inlet Sent)). row.items) rows ++ row.items ∷ []) p []) place
      ∙ get_or-append_seam (map (λ (row : Vec (Inlet Sent)). row.items) rows) row.items [] [])

-- ---- lent

-- the links to a centre from those past a number are as they were
abbrev pub StayPast : ℕ → ℕ → List Post → List Post → Type 0
StayPast before to old new = (from : ℕ) → IsCentre from → before < from → post_at new from to ≡ post_at old from to

-- one end more was lent
pub lent_more : (old : List Post) (before to : ℕ) (inlets : List (Inlet Sent)) (posts : List Post) (inlet : Inlet Sent) (new : List Post) → IsCentre (before + 1) → IsCentre to → AreInletsTo old before to inlets posts × StayPast before to old posts → inlet ≡ (post_at posts (before + 1) to).inlet → HasSet (before + 1) to (record (post_at posts (before + 1) to) { inlet = clean_inlet }) posts new → AreInletsTo old (before + 1) to (inlets ++ inlet ∷ []) new × StayPast (before + 1) to old new
lent_more old before to inlets posts inlet new f t lent is set = (
  record {
    number = omega (arith, length-append inlets (inlet ∷ []), lent.0.number);
    each = λ from range. ⊎_elim
        (λ (low : from < before + 1). inlet_before inlets inlet from (range.0, omega (arith, low, lent.0.number)) ∙ lent.0.each from (range.0, omega (arith, low)))
        (λ (high : before + 1 ≤ from).
        let same : from ≡ before + 1 = omega (arith, high, range.1) in
        inlet_behind inlets inlet from (omega (arith, same, lent.0.number))
        ∙ (is
        ∙ (ap (λ (post : Post). post.inlet) (lent.1 (before + 1) f (omega arith))
        ∙ ap (λ from. (post_at old from to).inlet) (sym same))))
        (cases_lt from (before + 1));
    others = λ i j g h other. set_other (before + 1) to _ posts new set i j g h (inr other) ∙ lent.0.others i j g h other;
  },
  λ from g past. set_other (before + 1) to _ posts new set from to g t (inl (λ same. omega (arith, same, past))) ∙ lent.1 from g (omega (arith, past)),
)

-- these are the ends of the links from the first n centres to the first so many; those to later ones are as they were
pub record AreRowsTo (old : List Post) (n before : ℕ) (rows : List (Vec (Inlet Sent))) (posts : List Post) : Type 0 where
  pub number : length rows ≡ before
  pub rows_are : (to : ℕ) → IsCount before to → length (row_at rows to) ≡ n
  pub each : (from to : ℕ) → IsCount n from → IsCount before to → row_inlet rows from to ≡ (post_at old from to).inlet
  pub later : (i j : ℕ) → IsCentre i → IsCentre j → before < j → post_at posts i j ≡ post_at old i j

-- one row more was lent
pub rows_lent : (old : List Post) (n before : ℕ) (rows : List (Vec (Inlet Sent))) (posts : List Post) (row : Vec (Inlet Sent)) (new : List Post) → n ≤ MOST_CENTRES → before < n → AreRowsTo old n before rows posts → AreInletsTo posts n (before + 1) row.items new → AreRowsTo old n (before + 1) (rows ++ row ∷ []) new
rows_lent old n before rows posts row new few lt lent more = record {
  number = omega (arith, length-append rows (row ∷ []), lent.number);
  rows_are = λ to range. ⊎_elim
      (λ (low : to < before + 1). ap (λ (items : List (Inlet Sent)). length items) (row_before rows row to (range.0, omega (arith, low, lent.number))) ∙ lent.rows_are to (range.0, omega (arith, low)))
      (λ (high : before + 1 ≤ to). ap (λ (items : List (Inlet Sent)). length items) (row_behind rows row to (omega (arith, high, range.1, lent.number))) ∙ more.number)
      (cases_lt to (before + 1));
  each = λ from to g h. ⊎_elim
      (λ (low : to < before + 1). ap (λ items. inlet_from items from) (row_before rows row to (h.0, omega (arith, low, lent.number))) ∙ lent.each from to g (h.0, omega (arith, low)))
      (λ (high : before + 1 ≤ to).
      let same : to ≡ before + 1 = omega (arith, high, h.1) in
      ap (λ items. inlet_from items from) (row_behind rows row to (omega (arith, same, lent.number)))
      ∙ (more.each from g
      ∙ (ap (λ (post : Post). post.inlet) (lent.later from (before + 1) (g.0, omega (arith, g.1, few)) (omega arith, omega (arith, lt, few)) (omega arith))
      ∙ ap (λ to. (post_at old from to).inlet) (sym same))))
      (cases_lt to (before + 1));
  later = λ i j g h past. more.others i j g h (λ same. omega (arith, same, past)) ∙ lent.later i j g h (omega (arith, past));
}

-- all rows
pub rows_all : (old : List Post) (n : ℕ) (rows : List (Vec (Inlet Sent))) (posts : List Post) → AreRowsTo old n n rows posts → AreInlets old n rows
rows_all old n rows posts lent = record { number = lent.number; rows_are = lent.rows_are; each = lent.each }

-- ---- given back

-- one end more was given back
pub given_more : (old : List Post) (to count : ℕ) (inlets : List (Inlet Sent)) (posts : List Post) (inlet : Inlet Sent) (new : List Post) → count ≡ length inlets + 1 → IsCentre count → IsCentre to → HaveInletsTo old to inlets posts → HasSet count to (record (post_at posts count to) { inlet = inlet }) posts new → HaveInletsTo old to (inlets ++ inlet ∷ []) new
given_more old to count inlets posts inlet new is f t given set = record {
  each = λ from range. ⊎_elim
      (λ (low : from < count).
      ap (λ (post : Post). post.inlet) (set_other count to _ posts new set from to (range.0, omega (arith, low, f.1)) t (inl (λ same. omega (arith, same, low))))
      ∙ (given.each from (range.0, omega (arith, low, is)) ∙ sym (inlet_before inlets inlet from (range.0, omega (arith, low, is)))))
      (λ (high : count ≤ from).
      let same : from ≡ count = omega (arith, high, range.1, is, length-append inlets (inlet ∷ [])) in
      ap (λ from. (post_at new from to).inlet) same
      ∙ (ap (λ (post : Post). post.inlet) (set_is count to _ posts new set f t) ∙ sym (inlet_behind inlets inlet from (same ∙ is))))
      (cases_lt from count);
  others = λ i j g h other. set_other count to _ posts new set i j g h (inr other) ∙ given.others i j g h other;
}

-- the links from the first n centres to the first so many have the ends of these rows
abbrev pub HaveRows : ℕ → List (Vec (Inlet Sent)) → List Post → Type 0
HaveRows n rows posts = (from to : ℕ) → IsCount n from → IsCount (length rows) to → (post_at posts from to).inlet ≡ row_inlet rows from to

-- one row more was given back
pub rows_given : (n to : ℕ) (rows : List (Vec (Inlet Sent))) (posts : List Post) (row : Vec (Inlet Sent)) (new : List Post) → to ≡ length rows + 1 → length row.items ≡ n → n ≤ MOST_CENTRES → to ≤ MOST_CENTRES → HaveRows n rows posts → HaveInletsTo posts to row.items new → HaveRows n (rows ++ row ∷ []) new
rows_given n to rows posts row new is long few within given more from other g h = ⊎_elim
    (λ (low : other < to).
    ap (λ (post : Post). post.inlet) (more.others from other (g.0, omega (arith, g.1, few)) (h.0, omega (arith, low, within)) (λ same. omega (arith, same, low)))
    ∙ (given from other g (h.0, omega (arith, low, is)) ∙ sym (ap (λ items. inlet_from items from) (row_before rows row other (h.0, omega (arith, low, is))))))
    (λ (high : to ≤ other).
    let same : other ≡ to = omega (arith, high, h.1, is, length-append rows (row ∷ [])) in
    ap (λ to. (post_at new from to).inlet) same
    ∙ (more.each from (g.0, omega (arith, g.1, long)) ∙ sym (ap (λ items. inlet_from items from) (row_behind rows row other (same ∙ is)))))
    (cases_lt other to)

-- all rows
pub rows_back : (n : ℕ) (rows : List (Vec (Inlet Sent))) (posts : List Post) → length rows ≡ n → HaveRows n rows posts → HaveInlets n rows posts
rows_back n rows posts long given = record { each = λ from to g h. given from to g (h.0, omega (arith, h.1, long)) }
