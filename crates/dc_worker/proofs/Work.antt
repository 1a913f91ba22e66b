-- What asks add to a log and to what a door shows, one after another.
use Rattle.std.proofs.Common.{◌≡◌, ◌≢◌, ◌<◌, ◌^◌, ℕ, ◌==◌, Bool, true, false, length, List, [], ◌∷◌, ◌++◌, Result, Ok, Err, IfOk, OnOk, OnErr, refl, sym, ap, ◌∙◌, subst}
use Rattle.std.proofs.lemmas.Bool.{eqb-true}
use Rattle.std.proofs.lemmas.List.{append-nil}
use Rattle.dc_talk.specs.declared.ask.Ask.{Ask}
use Rattle.dc_talk.specs.declared.say.Say.{Say}
use Rattle.dc_talk.specs.declared.links.FrameFault.{FrameFault}
use Rattle.dc_talk.specs.declared.log.Fate.TheVariants.{Unheard}
use Rattle.dc_talk.specs.declared.log.Deed.{Deed}
use Rattle.dc_talk.specs.declared.log.Deed.TheVariants.{Asked, Told, Spoilt}
use Rattle.dc_talk.specs.declared.line.Line.{Line}
use Rattle.dc_talk.specs.Entries.{Entry}
use Rattle.dc_talk.specs.Logs.{Logged, noted, entry_for, entries_made}
use Rattle.dc_talk.specs.Doors.{DoorView, IsBehind, HasAsked}
use Rattle.dc_talk.specs.Acting.{Acting, acting, IsCutShort}
use Rattle.dc_talk.proofs.Doors.{made_other, made_then}
use Rattle.dc_talk.proofs.Acting.{behind_later, leaves_none, leaves_ask, leaves_quiet, leaves_then, cut_after, cut_behind}
use Rattle.script_core.specs.Orders.{Orders}
use Rattle.dc_worker.specs.Work.{Adds, AddsSuch}

-- no deeds
pub adds_none : (a : Acting) → Adds a a []
adds_none a = record { leaves = leaves_none a; short = λ i some. absurd (some refl) }

-- one ask, with its note
pub adds_ask : (a b : Acting) (i : ℕ) (ask : Ask) (say : Say) → IsBehind a.door i → HasAsked a.door b.door i (entry_for a.door.actor (ask, say)) → b.log ≡ noted a.log (Asked i ask (Unheard say)) → Adds a b (Asked i ask (Unheard say) ∷ [])
adds_ask a b i ask say behind asked log = record {
  leaves = leaves_ask a b i ask (Unheard say) say refl behind asked log;
  short = λ j some. short j some (i == j) refl;
}
  where
    short : (j : ℕ) → entries_made a.door.actor j (Asked i ask (Unheard say) ∷ []) ≢ [] → (test : Bool) → (i == j) ≡ test → length (b.door.made j) < 2 ^ 62
    short j some true here = subst (λ k. length (b.door.made k) < 2 ^ 62) (eqb-true i j here) asked.short.0
    short j some false other = absurd (some (made_other a.door.actor i j ask (Unheard say) other))

-- the same, of an ask whose answer is for nobody
pub orders : (a b : Acting) (i : ℕ) (ask : Ask) (say : Say) → IsBehind a.door i → HasAsked a.door b.door i (entry_for a.door.actor (ask, say)) → b.log ≡ noted a.log (Asked i ask (Unheard say)) → AddsSuch (Orders i ask) a b
orders a b i ask say behind asked log = record { deeds = Asked i ask (Unheard say) ∷ []; such = (say, refl); adds = adds_ask a b i ask say behind asked log }

-- a note of an item that was spoilt
pub adds_spoilt : (door : DoorView) (log later : Logged) (from item : ℕ) (why : FrameFault) → later ≡ noted log (Spoilt from item why) → Adds (acting door log) (acting door later) (Spoilt from item why ∷ [])
adds_spoilt door log later from item why is = record {
  leaves = leaves_quiet (acting door log) (acting door later) (Spoilt from item why) (λ i. refl) tt refl is;
  short = λ i some. absurd (some refl);
}

-- a line
pub adds_told : (door : DoorView) (log later : Logged) (line : Line) → later ≡ noted log (Told line) → Adds (acting door log) (acting door later) (Told line ∷ [])
adds_told door log later line is = record {
  leaves = leaves_quiet (acting door log) (acting door later) (Told line) (λ i. refl) tt refl is;
  short = λ i some. absurd (some refl);
}

-- deeds after deeds
pub adds_then : (a b c : Acting) (ds es : List Deed) → Adds a b ds → Adds b c es → Adds a c (ds ++ es)
adds_then a b c ds es first later = record {
  leaves = leaves_then a b c ds es first.leaves later.leaves;
  short = λ i some. short i some (entries_made b.door.actor i es) refl;
}
  where
    short : (i : ℕ) → entries_made a.door.actor i (ds ++ es) ≢ [] → (made : List Entry) → entries_made b.door.actor i es ≡ made → length (c.door.made i) < 2 ^ 62
    short i some [] none =
        let same : c.door.made i ≡ b.door.made i = later.leaves.door.made i ∙ (ap (λ more. b.door.made i ++ more) none ∙ append-nil (b.door.made i)) in
        let late : entries_made a.door.actor i es ≡ [] = ap (λ actor. entries_made actor i es) (sym first.leaves.door.same.actor) ∙ none in
        let early : entries_made a.door.actor i ds ≢ [] = λ empty. some (made_then a.door.actor i ds es ∙ (ap (λ more. entries_made a.door.actor i ds ++ more) late ∙ (append-nil (entries_made a.door.actor i ds) ∙ empty))) in
        subst (λ (made : List Entry). length made < 2 ^ 62) (sym same) (first.short i early)
    short i some (made ∷ more) is = later.short i (λ empty. let none : made ∷ more ≡ [] = sym is ∙ empty in cc)

-- a centre behind the door is behind it afterwards
pub adds_behind : (a b : Acting) (ds : List Deed) (i : ℕ) → Adds a b ds → IsBehind a.door i → IsBehind b.door i
adds_behind a b ds i adds is = behind_later a.door b.door i adds.leaves.door.same is

-- an early end behind deeds
pub cut_then : (a b c : Acting) (ds : List Deed) → Adds a b ds → IsCutShort b c → IsCutShort a c
cut_then a b c ds adds cut = cut_after a b c ds adds.leaves cut

-- an early end at once behind deeds
pub cut_such : (Are : List Deed → Type 0) (a b : Acting) → AddsSuch Are a b → IsCutShort a b
cut_such Are a b so = cut_behind a b so.deeds so.adds.leaves

-- ---- results

-- what holds of a value, where there is one, gives what follows from it
pub ok_turn : {T E : Type 0} (r : Result T E) (P Q : T → Type 0) → ((x : T) → P x → Q x) → IfOk r P → IfOk r Q
ok_turn (Ok x) P Q turn is = turn x is
ok_turn (Err e) P Q turn is = tt

-- so does what holds where there is none
pub err_turn : {T E : Type 0} (r : Result T E) (P Q : Type 0) → (P → Q) → OnErr r P → OnErr r Q
err_turn (Ok x) P Q turn is = tt
err_turn (Err e) P Q turn is = turn is

-- and what holds where there is one, whichever it is
pub on_turn : {T E : Type 0} (r : Result T E) (P Q : Type 0) → (P → Q) → OnOk r P → OnOk r Q
on_turn (Ok x) P Q turn is = turn is
on_turn (Err e) P Q turn is = tt
