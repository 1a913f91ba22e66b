-- The ask with which bytes begin is the only one.
use Rattle.std.proofs.Common.{◌≡◌, ◌+◌, ◌≤◌, ◌<◌, ◌⊎◌, inl, inr, ℕ, suc, true, List, [], ◌∷◌, ◌++◌, length, get_or, drop, Option, Some, None, IfSome, refl, sym, ◌∙◌, ap, subst, arith}
use Rattle.tx_core.specs.declared.tx.Record.{Record}
use Rattle.tx_core.specs.declared.tx.Tx.{Tx}
use Rattle.wire_codec.specs.declared.item.Item.{Item}
use Rattle.wire_codec.specs.declared.item.Item.TheVariants.{Rec, Rep}
use Rattle.wire_codec.specs.declared.item.TheConstants.{VERSION}
use Rattle.wire_codec.specs.Spelling.{IsSpelled}
use Rattle.wire_codec.specs.Spelling as frames
use Rattle.dc_talk.specs.declared.ask.Ask.{Ask}
use Rattle.dc_talk.specs.declared.ask.Ask.TheVariants.{Commit, Deliver, Learn, Prune, Stop, Start}
use Rattle.journal_asks.specs.declared.kept_ask.KeptAsk.{KeptAsk}
use Rattle.journal_asks.specs.Spellings.{is_kind, by_of, kind_of, frame_of, frame_bytes, commit_of, IsSpelledAsk, IsSpelledAsk-prop}
use Rattle.journal_asks.specs.Asks.{spelled, IsFront}

-- ---- asks of one kind with one frame

-- frames of commits
committed : (by by' : ℕ) (tx tx' : Tx) → Some (commit_of by tx) ≡ Some (commit_of by' tx') → (by ≡ by') × (tx ≡ tx')
committed by by' tx tx' same =
    let items : commit_of by tx ≡ commit_of by' tx' = cc same in
    let item_of : Item → Record → Record = λ frame d. elim frame [ Rec item hops ↦ item | Rep centre vector ↦ d ] in
    let d : Record = record { stamp = record { centre = by; seq = 1 }; deps = []; tx = tx } in
    (ap (λ frame. (item_of frame d).stamp.centre) items, ap (λ frame. (item_of frame d).tx) items)

-- asks of one kind with one frame are one
same_ask : (by by' : ℕ) (ask ask' : Ask) → is_kind ask ≡ true → by ≡ by_of by ask → by' ≡ by_of by' ask' → kind_of ask ≡ kind_of ask' → frame_of by ask ≡ frame_of by' ask' → (by ≡ by') × (ask ≡ ask')
same_ask by by' (Deliver item hops) (Deliver item' hops') is own own' kind same =
    let items : Rec item hops ≡ Rec item' hops' = cc same in
    let first : item ≡ item' = cc items in
    let second : hops ≡ hops' = cc items in
    (own ∙ sym own', (λ i. Deliver (first i) (second i)))
same_ask by by' (Deliver item hops) _ is own own' kind same = absurd (omega (arith, kind))
same_ask by by' (Learn from news) (Learn from' news') is own own' kind same =
    let items : Rep from news ≡ Rep from' news' = cc same in
    let first : from ≡ from' = cc items in
    let second : news ≡ news' = cc items in
    (own ∙ sym own', (λ i. Learn (first i) (second i)))
same_ask by by' (Learn from news) _ is own own' kind same = absurd (omega (arith, kind))
same_ask by by' Prune Prune is own own' kind same = (own ∙ sym own', refl)
same_ask by by' Prune _ is own own' kind same = absurd (omega (arith, kind))
same_ask by by' Stop Stop is own own' kind same = (own ∙ sym own', refl)
same_ask by by' Stop _ is own own' kind same = absurd (omega (arith, kind))
same_ask by by' Start Start is own own' kind same = (own ∙ sym own', refl)
same_ask by by' Start _ is own own' kind same = absurd (omega (arith, kind))
same_ask by by' (Commit tx) (Commit tx') is own own' kind same = let both = committed by by' tx tx' same in (both.0, ap Commit both.1)
same_ask by by' (Commit tx) _ is own own' kind same = absurd (omega (arith, kind))
same_ask by by' _ ask' is own own' kind same = absurd (cc is)

-- an ask with its proof is the ask
same_parts : (a b : KeptAsk) → a.by ≡ b.by → a.ask ≡ b.ask → a ≡ b
same_parts a b by ask =
    let pair : (a.by, a.ask) ≡ (b.by, b.ask) = (λ i. (by i, ask i)) in
    let P : ℕ × Ask → Type 0 = λ p. (fits : IsSpelledAsk p.0 p.1) → a ≡ record { by = p.0; ask = p.1; fits = fits } in
    subst P pair (λ fits. (λ i. record { by = a.by; ask = a.ask; fits = IsSpelledAsk-prop a.by a.ask a.fits fits i })) b.fits

-- so are those with their proofs
pub same_kept : (a b : KeptAsk) → kind_of a.ask ≡ kind_of b.ask → frame_of a.by a.ask ≡ frame_of b.by b.ask → a ≡ b
same_kept a b kind frame = let both = same_ask a.by b.by a.ask b.ask a.fits.kind a.fits.own b.fits.own kind frame in same_parts a b both.0 both.1

-- an ask with its length
abbrev sized : KeptAsk → ℕ → KeptAsk × ℕ
sized x n = (x, n)

-- ---- asks with no frame

-- an ask of a kind from 3 to 5 has no frame
no_frame : (by : ℕ) (ask : Ask) (kind : ℕ) → kind_of ask ≡ kind → (3 ≤ kind) × (kind ≤ 5) → frame_of by ask ≡ None
no_frame by (Deliver item hops) kind is range = absurd (let low = range.0 in omega (arith, is, low))
no_frame by (Learn from news) kind is range = absurd (let low = range.0 in omega (arith, is, low))
no_frame by (Commit tx) kind is range = absurd (let high = range.1 in omega (arith, is, high))
no_frame by _ kind is range = refl

module _ (kind : ℕ) (bytes : List ℕ) where
  module _ (y : KeptAsk) (is : kind_of y.ask ≡ kind) (range : (3 ≤ kind) × (kind ≤ 5)) where
    none_y : frame_of y.by y.ask ≡ None
    none_y = no_frame y.by y.ask kind is range

    -- bytes begin with an ask that is its kind alone
    pub bare_front : IsFront (kind ∷ bytes) (Some (y, 1))
    bare_front = record {
      only = λ x rest begins.
          let kind_is : kind ≡ kind_of x.ask = ap (λ (l : List ℕ). get_or l 0 0) begins in
          let none_x = no_frame x.by x.ask kind (sym kind_is) range in
          let same : y ≡ x = same_kept y x (is ∙ kind_is) (none_y ∙ sym none_x) in
          ap (λ (z : KeptAsk). Some (sized z 1)) same ∙ ap (λ (f : Option Item). Some (sized x (length (kind_of x.ask ∷ frame_bytes f)))) (sym none_x);
      is = ap (λ (k : ℕ). k ∷ bytes) (sym is) ∙ ap (λ (f : Option Item). (kind_of y.ask ∷ frame_bytes f) ++ bytes) (sym none_y);
      count = ap (λ (f : Option Item). length (kind_of y.ask ∷ frame_bytes f)) (sym none_y);
    }

-- ---- asks with a frame

-- every other has one
some_frame : (by : ℕ) (ask : Ask) (kind : ℕ) → is_kind ask ≡ true → kind_of ask ≡ kind → (kind < 3) ⊎ (5 < kind) → (frame : Item) × (frame_of by ask ≡ Some frame)
some_frame by (Deliver item hops) kind there is range = (Rec item hops, refl)
some_frame by (Learn from news) kind there is range = (Rep from news, refl)
some_frame by (Commit tx) kind there is range = (commit_of by tx, refl)
some_frame by Prune kind there is (inl low) = absurd (omega (arith, is, low))
some_frame by Prune kind there is (inr high) = absurd (omega (arith, is, high))
some_frame by Stop kind there is (inl low) = absurd (omega (arith, is, low))
some_frame by Stop kind there is (inr high) = absurd (omega (arith, is, high))
some_frame by Start kind there is (inl low) = absurd (omega (arith, is, low))
some_frame by Start kind there is (inr high) = absurd (omega (arith, is, high))
some_frame by _ kind there is range = absurd (cc there)

-- a frame with its length
abbrev measured : Item → ℕ → Item × ℕ
measured frame n = (frame, n)

-- these are the frames with which the bytes begin
abbrev pub FindsFrame : List ℕ → Option (Item × ℕ) → Type 0
FindsFrame bytes found = (frame : Item) (rest : List ℕ) → IsSpelled VERSION frame → bytes ≡ frames.spelled VERSION frame ++ rest → found ≡ Some (frame, length (frames.spelled VERSION frame))

module _ (kind : ℕ) (bytes : List ℕ) (range : (kind < 3) ⊎ (5 < kind)) where
  -- the frame of any ask with which the bytes begin
  record HasFrame (x : KeptAsk) (rest : List ℕ) : Type 0 where
    pub frame : Item
    pub is : frame_of x.by x.ask ≡ Some frame
    pub fits : IsSpelled VERSION frame
    pub kind_is : kind_of x.ask ≡ kind
    pub begins : bytes ≡ frames.spelled VERSION frame ++ rest

  frame_there : (x : KeptAsk) (rest : List ℕ) → kind ∷ bytes ≡ spelled x ++ rest → HasFrame x rest
  frame_there x rest begins =
      let kind_is : kind_of x.ask ≡ kind = ap (λ (l : List ℕ). get_or l 0 0) (sym begins) in
      let f = some_frame x.by x.ask kind x.fits.kind kind_is range in
      record {
        frame = f.0;
        is = f.1;
        fits = subst (λ o. IfSome o (IsSpelled VERSION)) f.1 x.fits.frame;
        kind_is = kind_is;
        begins = ap (drop 1) begins ∙ ap (λ o. frame_bytes o ++ rest) f.1;
      }

  -- they begin with none, where they begin with no frame
  pub none_front : FindsFrame bytes None → IsFront (kind ∷ bytes) None
  none_front finds = record {
    only = λ x rest begins. let f = frame_there x rest begins in let both = finds f.frame rest f.fits f.begins in absurd (cc both);
    is = tt;
    count = tt;
  }

  module _ (frame : Item) (count : ℕ) (finds : FindsFrame bytes (Some (frame, count))) where
    frame_is : (x : KeptAsk) (rest : List ℕ) → kind ∷ bytes ≡ spelled x ++ rest → (frame_of x.by x.ask ≡ Some frame) × (kind_of x.ask ≡ kind)
    frame_is x rest begins =
        let f = frame_there x rest begins in
        let both : Some (measured frame count) ≡ Some (measured f.frame (length (frames.spelled VERSION f.frame))) = finds f.frame rest f.fits f.begins in
        let pair : measured frame count ≡ measured f.frame (length (frames.spelled VERSION f.frame)) = cc both in
        (f.is ∙ ap (λ (p : Item × ℕ). Some p.0) (sym pair), f.kind_is)

    -- or where no ask of the kind has the frame
    pub unframed_front : ((by : ℕ) (ask : Ask) → kind_of ask ≡ kind → frame_of by ask ≡ Some frame → ⊥) → IsFront (kind ∷ bytes) None
    unframed_front none = record { only = λ x rest begins. let f = frame_is x rest begins in absurd (none x.by x.ask f.1 f.0); is = tt; count = tt }

    -- they begin with the ask of the kind with the frame
    pub framed_front : (y : KeptAsk) → kind_of y.ask ≡ kind → frame_of y.by y.ask ≡ Some frame → bytes ≡ frames.spelled VERSION frame ++ drop count bytes → count ≡ length (frames.spelled VERSION frame) → IsFront (kind ∷ bytes) (Some (y, 1 + count))
    framed_front y kind_is is begins size = record {
      only = λ x rest front.
          let f = frame_is x rest front in
          let same : y ≡ x = same_kept y x (kind_is ∙ sym f.1) (is ∙ sym f.0) in
          ap (λ (z : KeptAsk). Some (sized z (1 + count))) same ∙ ap (λ (n : ℕ). Some (sized x n)) (long ∙ ap (λ (z : KeptAsk). length (spelled z)) same);
      is =
          let whole : kind ∷ bytes ≡ spelled y ++ drop count bytes = subst (λ (l : List ℕ). kind ∷ bytes ≡ l ++ drop count bytes) (sym bytes_are) (ap (λ (l : List ℕ). kind ∷ l) begins) in
          let one : 1 + count ≡ suc count = omega arith in
          let back : drop count bytes ≡ drop (1 + count) (kind ∷ bytes) = sym (ap (λ (n : ℕ). drop n (kind ∷ bytes)) one) in
          whole ∙ ap (λ (l : List ℕ). spelled y ++ l) back;
      count = long;
    }
      where
        bytes_are : spelled y ≡ kind ∷ frames.spelled VERSION frame
        bytes_are = (λ i. kind_is i ∷ frame_bytes (is i))

        long : 1 + count ≡ length (spelled y)
        long = let n = ap length bytes_are in omega (arith, size, n)
