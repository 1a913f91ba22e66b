-- The asks that a journal keeps, and their bytes.
use Rattle.std.specs.Prelude.{◌≡◌, ◌&&◌, ℕ, Bool, true, false, List, [], ◌∷◌, length, Option, Some, None, IfSome}
use Rattle.vv_core.specs.Vectors.{zeros}
use Rattle.tx_core.specs.declared.tx.Tx.{Tx}
use Rattle.wire_codec.specs.declared.item.Item.{Item}
use Rattle.wire_codec.specs.declared.item.Item.TheVariants.{Rec, Rep}
use Rattle.wire_codec.specs.declared.item.TheConstants.{VERSION}
use Rattle.wire_codec.specs.Spelling.{spelled, IsSpelled}
use Rattle.dc_talk.specs.declared.ask.Ask.{Ask}
use Rattle.dc_talk.specs.declared.ask.Ask.TheVariants.{Commit, Deliver, Learn, Prune, Stop, Start}
use Rattle.dc_talk.specs.declared.settings.Settings.{Settings}
use Rattle.dc_talk.specs.Answers.{fits}
use Rattle.journal_asks.specs.Props.{some_frame-prop, kind-prop, by-prop}

-- a journal keeps asks of this kind
abbrev pub is_kind : Ask → Bool
is_kind (Commit tx) = true
is_kind (Deliver item hops) = true
is_kind (Learn from news) = true
is_kind Prune = true
is_kind Stop = true
is_kind Start = true
is_kind _ = false

-- a centre with these settings may change by the ask
abbrev pub is_kept_by : Settings → Ask → Bool
is_kept_by s ask = is_kind ask && fits s.n ask

-- the centre that the bytes of an ask name: that of a commit, and 0 for the others
abbrev pub by_of : ℕ → Ask → ℕ
by_of me (Commit tx) = me
by_of me _ = 0

-- the byte of its kind
abbrev pub kind_of : Ask → ℕ
kind_of (Deliver item hops) = 1
kind_of (Learn from news) = 2
kind_of Prune = 3
kind_of Stop = 4
kind_of Start = 5
kind_of (Commit tx) = 6
kind_of _ = 0

-- the frame of a commit: the transaction as the first record of its centre, with no dependencies and no hops
abbrev pub commit_of : ℕ → Tx → Item
commit_of by tx = Rec (record { stamp = record { centre = by; seq = 1 }; deps = zeros (length tx.snap); tx = tx }) 0

-- the frame behind the kind, if there is one
abbrev pub frame_of : ℕ → Ask → Option Item
frame_of by (Deliver item hops) = Some (Rec item hops)
frame_of by (Learn from news) = Some (Rep from news)
frame_of by (Commit tx) = Some (commit_of by tx)
frame_of by _ = None

-- the ask of a centre has bytes in a journal
pub record IsSpelledAsk (by : ℕ) (ask : Ask) : Type 0 where
  pub kind : is_kind ask ≡ true
  pub own : by ≡ by_of by ask
  pub frame : IfSome (frame_of by ask) (IsSpelled VERSION)

-- it has them in one way
pub IsSpelledAsk-prop : (by : ℕ) (ask : Ask) → IsProp (IsSpelledAsk by ask)
IsSpelledAsk-prop by ask = λ a b. (λ i. record {
  kind = kind-prop (is_kind ask) a.kind b.kind i;
  own = by-prop by (by_of by ask) a.own b.own i;
  frame = some_frame-prop (frame_of by ask) a.frame b.frame i;
})

-- the bytes of a frame that is there
abbrev pub frame_bytes : Option Item → List ℕ
frame_bytes None = []
frame_bytes (Some frame) = spelled VERSION frame

-- the kind, and the frame
abbrev pub ask_bytes : ℕ → Ask → List ℕ
ask_bytes by ask = kind_of ask ∷ frame_bytes (frame_of by ask)
