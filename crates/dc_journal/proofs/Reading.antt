-- A file of asks is read one after another, and a centre takes each.
use Rattle.std.proofs.Common.{◌≡◌, ◌≢◌, ◌⊎◌, inl, inr, ℕ, ◌+◌, ◌<◌, ◌≤◌, true, List, [], ◌∷◌, ◌++◌, map, length, get_or, take, drop, Some, refl, sym, ◌∙◌, ap, subst, arith, take-append-drop}
use Rattle.std.specs.Prelude.{slice_get}
use Rattle.std.proofs.lemmas.List.{drop_more, length-drop, length-take-le}
use Rattle.list_core.proofs.Gets.{get_seam}
use Rattle.journal_disk.specs.declared.disk.Moment.{Moment}
use Rattle.journal_disk.specs.Disk.{seen, MayLeave, Ran}
use Rattle.journal_disk.proofs.Histories.{ran_weaker}
use Rattle.journal_file.specs.Journal.{FileOf}
use Rattle.journal_file.proofs.Parsing.{IsRead, ends_at, ends_only, grows, goes, not_empty}
use Rattle.journal_file.proofs.Protocol.{ran_stands}
use Rattle.dc_talk.specs.declared.settings.Settings.{Settings}
use Rattle.dc_talk.specs.Entries.{Entry}
use Rattle.dc_talk.specs.Answers.{History, answer}
use Rattle.dc_centre.specs.Centre.{CentreView, StandsFor}
use Rattle.trail_kept.specs.Kept.{is_kept, kept}
use Rattle.trail_kept.proofs.Histories.{history_kept}
use Rattle.journal_asks.specs.declared.kept_ask.KeptAsk.{KeptAsk}
use Rattle.journal_asks.specs.Spellings.{by_of}
use Rattle.journal_asks.specs.Asks.{spelled}
use Rattle.dc_journal.specs.Asks.{asked, due}
use Rattle.dc_journal.specs.Files.{IsFileOf, IsFound, HasTaken, IsBadGate}
use Rattle.dc_journal.specs.Replays.{Replayed, TakesFirst, TakesAll}
use Rattle.dc_journal.proofs.Trails.{place_of, history_front, history_here, kept_there}
use Rattle.dc_journal.proofs.Replaying.{replayed_none, replayed_more}

-- an item with its length
abbrev sized : KeptAsk → ℕ → KeptAsk × ℕ
sized x n = (x, n)

-- how far a file was read, and its asks taken; it does not end there, unless it is empty
pub record IsTakenTo (s : Settings) (bytes : List ℕ) (at : ℕ) (c : CentreView) : Type 0 where
  pub items : List KeptAsk
  pub read : IsRead spelled bytes at items
  pub replayed : Replayed s c items
  pub near : (at ≡ 0) ⊎ (at < length bytes)

module _ (s : Settings) (bytes : List ℕ) where
  -- up to its start
  pub taken_none : (c : CentreView) → StandsFor c [] → IsTakenTo s bytes 0 c
  taken_none c fresh = record {
    items = [];
    read = record { within = omega arith; entries = refl; left = λ xs file. (xs, (refl, file)) };
    replayed = replayed_none s c fresh;
    near = inl refl;
  }

  module _ (at : ℕ) (c : CentreView) (to : IsTakenTo s bytes at c) where
    r : Replayed s c to.items
    r = to.replayed

    stood : StandsFor c r.trail
    stood = r.stands r.trail r.history r.asks

    -- up to its end
    module _ (ended : length bytes ≤ at) where
      pub is_empty : bytes ≡ []
      is_empty = go bytes to.near ended
        where
          go : (l : List ℕ) → (at ≡ 0) ⊎ (at < length l) → length l ≤ at → l ≡ []
          go [] near end = refl
          go (b ∷ l) (inl zero_is) end = absurd (omega (arith, zero_is, end))
          go (b ∷ l) (inr less) end = absurd (omega (arith, less, end))

      pub ended_bad : (trail : List Entry) → IsFileOf s trail bytes → ⊥
      ended_bad trail file = not_empty spelled file.0 (subst (λ (l : List ℕ). FileOf spelled file.0 l) is_empty file.1.1)

      pub ended_place : IsBadGate s at bytes
      ended_place = record {
        trail = r.trail;
        history = r.history;
        all = r.all;
        items = to.items;
        asks = r.asks;
        front = take at bytes;
        rest = drop at bytes;
        entries = to.read.entries;
        file_is = sym (take-append-drop at bytes);
        at = sym (length-take-le at bytes to.read.within);
        bad = inl is_empty;
      }

    module _ (inside : at < length bytes) where
      split : drop at bytes ≡ get_or bytes at 0 ∷ drop (at + 1) bytes
      split = drop_more bytes at 0 inside

      -- up to a closed gate
      pub taken_all : get_or bytes at 0 ≡ 0 → TakesAll s c bytes at
      taken_all shut = record {
        items = to.items;
        replayed = r;
        ends = ends_at spelled bytes at to.items to.read inside shut;
        only = ends_only spelled bytes at to.items to.read inside shut;
      }

      module _ (unshut : get_or bytes at 0 ≢ 0) where
        -- one ask more
        pub taken_more : (new : CentreView) (count : ℕ) → TakesFirst s c new (drop (at + 1) bytes) count → IsTakenTo s bytes (at + (1 + count)) new
        taken_more new count t = record {
          items = to.items ++ t.item ∷ [];
          read = grows spelled bytes at to.items to.read inside unshut (Some (sized t.item count)) same t.item count refl t.begins t.size;
          replayed = replayed_more s c new to.items t.item r t.takes;
          near = inr (let more = t.more in let long = length-drop (at + 1) bytes in omega (arith, more, long, inside));
        }
          where
            same : (y : KeptAsk) (rest : List ℕ) → drop (at + 1) bytes ≡ spelled y ++ rest → Some (sized t.item count) ≡ Some (sized y (length (spelled y)))
            same y rest begins = ap (λ (n : ℕ). Some (sized t.item n)) t.size ∙ ap (λ (x : KeptAsk). Some (sized x (length (spelled x)))) (sym (t.only y rest begins))

        -- no ask more
        module _ (none : (trail : List Entry) → StandsFor c trail → HasTaken s trail (drop (at + 1) bytes) → ⊥) where
          pub none_place : IsBadGate s at bytes
          none_place = record {
            trail = r.trail;
            history = r.history;
            all = r.all;
            items = to.items;
            asks = r.asks;
            front = take at bytes;
            rest = drop at bytes;
            entries = to.read.entries;
            file_is = sym (take-append-drop at bytes);
            at = sym (length-take-le at bytes to.read.within);
            bad = inr (get_or bytes at 0, (drop (at + 1) bytes, (split, unshut, none r.trail stood)));
          }

          pub none_bad : (trail : List Entry) → History s trail → IsFileOf s trail bytes → ⊥
          none_bad trail history file =
              let left = to.read.left file.0 file.1.1 in
              let w = goes spelled left.0 (get_or bytes at 0) (drop (at + 1) bytes) unshut (subst (λ (l : List ℕ). FileOf spelled left.0 l) split left.1.1) in
              let items_are : file.0 ≡ to.items ++ w.first ∷ w.others = left.1.0 ∙ ap (λ l. to.items ++ l) w.left_is in
              let p = place_of asked (due s.me) to.items w.first w.others (kept trail) (ap (map asked) (sym items_are) ∙ file.1.0) in
              let whole : History s (p.front ++ p.here ∷ p.later) = subst (λ l. History s l) p.is (history_kept s trail history) in
              let stands = r.stands p.front (history_front s p.front p.here p.later whole) p.same in
              let ask_is : w.first.ask ≡ p.here.ask = ap (λ q. q.1) p.there in
              let by_is : w.first.by ≡ by_of s.me w.first.ask = ap (λ q. q.0) p.there ∙ ap (by_of s.me) (sym ask_is) in
              let kept_is : is_kept p.here.say ≡ true = kept_there trail (length p.front) p.here (subst (λ l. slice_get l (length p.front) ≡ Some p.here) (sym p.is) (get_seam p.front p.here p.later)) in
              let reply : is_kept (answer s p.front w.first.ask) ≡ true = ap is_kept (ap (λ a. answer s p.front a) ask_is ∙ sym (history_here s p.front p.here p.later whole)) ∙ kept_is in
              none p.front stands (w.first, (w.rest, (w.r_is, (λ end. not_empty spelled w.others (subst (λ (l : List ℕ). FileOf spelled w.others l) end w.file)), (by_is, reply))))

-- where the settled file was only read
pub only_read : (s : Settings) (trail : List Entry) (h : List Moment) (mid stands : List Moment → Type 0) (Q S : List Moment → Type 0) → IsFileOf s trail (seen h) → ((l : List Moment) → mid l → stands l) → ((l : List Moment) → Q l → S l)
    → Ran mid h (λ c. (MayLeave h c) ⊎ (c ≡ seen h)) Q → Ran stands h (IsFound s trail h) S
only_read s trail h mid stands Q S file on ends ran = ran_weaker stands h (λ c. (MayLeave h c) ⊎ (c ≡ seen h)) (IsFound s trail h) Q S found ends (ran_stands mid stands h _ Q on ran)
  where
    found : (c : List ℕ) → (MayLeave h c) ⊎ (c ≡ seen h) → IsFound s trail h c
    found c (inl left) = inl left
    found c (inr is) = inr (subst (IsFileOf s trail) (sym is) file)
