-- The entries of the trails and the notes of the logs, paired in a book that fits.
use Rattle.std.proofs.Common.{◌≡◌, ℕ, ◌+◌, ◌-◌, ◌≤◌, Bool, true, false, cond, List, [], ◌∷◌, ◌++◌, length, take, Option, Some, None, refl, sym, ap, ◌∙◌, subst, arith}
use Rattle.std.specs.Prelude.{slice_get, ◌==◌}
use Rattle.std.specs.List.{cons_option}
use Rattle.std.specs.Option.{option_map}
use Rattle.std.proofs.lemmas.Bool.{eqb-true, eq-eqb}
use Rattle.std.proofs.lemmas.Option.{none-some, cond_some, some_pair_parts}
use Rattle.list_core.specs.Members.{In}
use Rattle.list_core.proofs.Members.{In_left}
use Rattle.list_core.proofs.Passing.{kept_more, paired}
use Rattle.ids_core.specs.declared.ids.Dot.{Dot}
use Rattle.tx_core.specs.declared.tx.Tx.{Tx}
use Rattle.dc_talk.specs.declared.ask.Ask.{Ask}
use Rattle.dc_talk.specs.declared.ask.Ask.TheVariants.{Commit}
use Rattle.dc_talk.specs.declared.say.Say.{Say}
use Rattle.dc_talk.specs.declared.log.Fate.{Fate}
use Rattle.dc_talk.specs.declared.log.Deed.{Deed}
use Rattle.dc_talk.specs.declared.log.Deed.TheVariants.{Did, Asked, Told, Spoilt}
use Rattle.dc_talk.specs.declared.log.Note.{Note}
use Rattle.dc_talk.specs.Entries.{Entry}
use Rattle.dc_talk.specs.Answers.{answer}
use Rattle.dc_talk.specs.Rule.{commits_of}
use Rattle.run_book.specs.Setups.{Setup, centre_settings}
use Rattle.run_book.specs.declared.book.Book.{Book}
use Rattle.run_book.specs.Parts.{trail_of, notes_of, exchanged, entries_by, IsClient}
use Rattle.dc_talk.specs.Logs.{answered, exchanged_in}
use Rattle.run_book.specs.Fit.{FitsWith}
use Rattle.run_book.specs.Graphs.{commits_at}
use Rattle.run_book.proofs.Numbered.{numbered_In}
use Rattle.run_book.proofs.Sessions.{commits_of_prefix}
use Rattle.run_book.proofs.Held.{dot_at, held_after}

-- ---- what an exchange is

-- a deed asked centre i, which told this
pub record IsExchange (i : ℕ) (deed : Deed) (ask : Ask) (say : Say) : Type 0 where
  pub fate : Fate
  pub is : deed ≡ Asked i ask fate
  pub told : answered fate ≡ Some say

-- what a deed exchanged with centre i, it asked there
pub exchanged_is : (i : ℕ) (deed : Deed) (ask : Ask) (say : Say) → exchanged_in i deed ≡ Some (ask, say) → IsExchange i deed ask say
exchanged_is i (Asked j ask' fate) ask say gives = go (j == i) refl (answered fate) refl gives
  where
    go : (b : Bool) → (j == i) ≡ b → (o : Option Say) → answered fate ≡ o → cond b (option_map {U = Ask × Say} (λ say. (ask', say)) o) None ≡ Some (ask, say) → IsExchange i (Asked j ask' fate) ask say
    go true same (Some say') told gives =
        let parts = some_pair_parts ask' ask say' say gives in
        record { fate = fate; is = λ x. Asked (eqb-true j i same x) (parts.0 x) fate; told = told ∙ ap Some parts.1 }
    go true same None told gives = absurd (none-some (ask, say) gives)
    go false other o told gives = absurd (none-some (ask, say) gives)
exchanged_is i (Did call outcome) ask say gives = absurd (none-some (ask, say) gives)
exchanged_is i (Told line) ask say gives = absurd (none-some (ask, say) gives)
exchanged_is i (Spoilt from item why) ask say gives = absurd (none-some (ask, say) gives)

-- an ask that the centre answered is an exchange
pub exchanges : (i : ℕ) (ask : Ask) (say : Say) (fate : Fate) → answered fate ≡ Some say → exchanged_in i (Asked i ask fate) ≡ Some (ask, say)
exchanges i ask say fate told = ap (λ t. cond t (option_map {U = Ask × Say} (λ say. (ask, say)) (answered fate)) None) (eq-eqb i i refl) ∙ ap (option_map {U = Ask × Say} (λ say. (ask, say))) told

-- with one more note that exchanged something there is one more exchange
pub one_exchange : (i : ℕ) (X : List Note) (note : Note) (ask : Ask) (say : Say) (fate : Fate) → note.deed ≡ Asked i ask fate → answered fate ≡ Some say → length (exchanged i (X ++ note ∷ [])) ≡ length (exchanged i X) + 1
one_exchange i X note ask say fate is told = kept_more (λ (note : Note). exchanged_in i note.deed) X note ∙ ap (λ o. length (exchanged i X) + length (cons_option o [])) (ap (exchanged_in i) is ∙ exchanges i ask say fate told)

-- what an entry of caller a exchanged
abbrev pub entry_by : ℕ → Entry → Option (Ask × Say)
entry_by a entry = cond (entry.caller == a) (Some (entry.ask, entry.say)) None

-- the entry of what its caller exchanged with centre i after the notes X: as many entries of the caller stand
-- before it as there are exchanges in X, and it is the centre's answer
pub record HasEntry (b : Book) (setup : Setup) (i : ℕ) (entry : Entry) (X : List Note) : Type 0 where
  pub low : 1 ≤ i
  pub high : i ≤ b.n
  pub place : ℕ
  pub there : slice_get (trail_of b i) place ≡ Some entry
  pub own : entry_by entry.caller entry ≡ Some (entry.ask, entry.say)
  pub before : length (entries_by entry.caller (take place (trail_of b i))) ≡ length (exchanged i X)
  pub is : entry.say ≡ answer (centre_settings b setup i) (take place (trail_of b i)) entry.ask

module _ (b : Book) (setup : Setup) (fit : FitsWith b setup) where
  -- the note of an entry
  pub record HasNote (i : ℕ) (entry : Entry) : Type 0 where
    pub place : ℕ
    pub note : Note
    pub there : slice_get (notes_of b entry.caller) place ≡ Some note
    pub exchanged : IsExchange i note.deed entry.ask entry.say

  -- each entry of a trail has its note, in its caller's log
  pub entry_noted : (i p : ℕ) (entry : Entry) → 1 ≤ i → i ≤ b.n → slice_get (trail_of b i) p ≡ Some entry → HasNote i entry
  entry_noted i p entry low high there =
      let caller = fit.form.callers i p entry there in
      let same = fit.paired i entry.caller low high caller.0 caller.1 in
      let own : entry_by entry.caller entry ≡ Some (entry.ask, entry.say) = ap (λ t. cond t (Some (entry.ask, entry.say)) None) (eq-eqb entry.caller entry.caller refl) in
      let f = paired (entry_by entry.caller) (λ (note : Note). exchanged_in i note.deed) (trail_of b i) (notes_of b entry.caller) p entry (entry.ask, entry.say) same there own in
      record { place = f.place; note = f.item; there = f.there; exchanged = exchanged_is i f.item.deed entry.ask entry.say f.gives }

  -- a commit that reached a centre is one of its client's log
  pub record IsCommitted (tx : Tx) : Type 0 where
    pub client : IsClient setup (tx.dot.client + 1)
    pub there : In tx (commits_of b.n tx.dot.client setup.capacity (notes_of b (tx.dot.client + 1)))

  -- each commit of an entry is committed
  pub entry_committed : (i p : ℕ) (entry : Entry) (tx : Tx) → 1 ≤ i → i ≤ b.n → slice_get (trail_of b i) p ≡ Some entry → entry.ask ≡ Commit tx → IsCommitted tx
  entry_committed i p entry tx low high there is =
      let noted = entry_noted i p entry low high there in
      let home = fit.commits_home entry.caller noted.place noted.note i tx noted.exchanged.fate noted.there (noted.exchanged.is ∙ ap (λ a. Asked i a noted.exchanged.fate) is) in
      let m = noted.place in
      let a = entry.caller in
      let held = held_after b.n (a - 1) setup.capacity (notes_of b a) (fit.follows a home.0) m in
      let number = numbered_In (λ (t : Tx). t.dot) (dot_at (a - 1)) 1 (commits_at b setup a m) tx held.dots home.1 in
      let who : a - 1 ≡ tx.dot.client = sym (ap (λ (d : Dot). d.client) number.is) in
      let same : a - 1 + 1 ≡ a = omega (arith, home.0.low) in
      let prefix = commits_of_prefix b.n (a - 1) setup.capacity m (notes_of b a) in
      let there : In tx (commits_of b.n (a - 1) setup.capacity (notes_of b a)) = subst (λ C. In tx C) (sym prefix.1) (In_left (commits_at b setup a m) prefix.0 tx home.1) in
      record {
        client = subst (λ c. IsClient setup (c + 1)) who (subst (λ a. IsClient setup a) (sym same) home.0);
        there = subst (λ c. In tx (commits_of b.n c setup.capacity (notes_of b (c + 1)))) who (subst (λ x. In tx (commits_of b.n (a - 1) setup.capacity (notes_of b x))) (sym same) there);
      }

  -- each ask that a log tells of, and that was answered, has its entry
  pub has_entry : (a m : ℕ) (note : Note) (i : ℕ) (ask : Ask) (fate : Fate) (say : Say) → 1 ≤ a → a ≤ length b.logs → slice_get (notes_of b a) m ≡ Some note → note.deed ≡ Asked i ask fate → answered fate ≡ Some say → HasEntry b setup i (record { caller = a; ask = ask; say = say }) (take m (notes_of b a))
  has_entry a m note i ask fate say low high there is told =
      let range = fit.form.centres a m note i ask fate there is in
      let gives : exchanged_in i note.deed ≡ Some (ask, say) = ap (exchanged_in i) is ∙ exchanges i ask say fate told in
      let f = paired (λ (note : Note). exchanged_in i note.deed) (entry_by a) (notes_of b a) (trail_of b i) m note (ask, say) (sym (fit.paired i a range.0 range.1 low high)) there gives in
      let parts = cond_some (f.item.caller == a) (f.item.ask, f.item.say) (ask, say) f.gives in
      let same = some_pair_parts f.item.ask ask f.item.say say (ap Some parts.1) in
      let caller = eqb-true f.item.caller a parts.0 in
      let entry : f.item ≡ record { caller = a; ask = ask; say = say } = λ j. record { caller = caller j; ask = same.0 j; say = same.1 j } in
      record {
        low = range.0;
        high = range.1;
        place = f.place;
        there = f.there ∙ ap Some entry;
        own = ap (λ t. cond t (Some (ask, say)) None) (eq-eqb a a refl);
        before = f.before;
        is = sym same.1 ∙ ((fit.histories i range.0 range.1).holds f.place f.item f.there ∙ ap (answer (centre_settings b setup i) (take f.place (trail_of b i))) same.0);
      }
