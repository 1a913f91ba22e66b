-- Which asks may have a reply that is kept.
use Rattle.std.proofs.Common.{◌≡◌, Bool, true, false, cond, not, ◌&&◌, List, refl}
use Rattle.dc_talk.specs.declared.ask.Ask.{Ask}
use Rattle.dc_talk.specs.declared.ask.Ask.TheVariants.{Commit, Deliver, Learn, Prune, Stop, Start}
use Rattle.dc_talk.specs.declared.say.Say.{Say}
use Rattle.dc_talk.specs.declared.say.Say.TheVariants.{Stamped, Applied, Learned, Base, Stopped, Started, Misfit, Down}
use Rattle.dc_talk.specs.declared.settings.Settings.{Settings}
use Rattle.dc_talk.specs.Entries.{Entry}
use Rattle.dc_talk.specs.Answers.{answer, fits, row, is_switch}
use Rattle.dc_talk.specs.Trails.{stopped}
use Rattle.dc_talk.specs.Doors.{belongs}
use Rattle.dc_talk.proofs.Belonging.{answer_belongs}
use Rattle.trail_kept.specs.Kept.{is_kept}
use Rattle.journal_asks.specs.Spellings.{is_kind, is_kept_by}

-- an ask with a reply that is kept is of a kind that a journal keeps
stamped_kind : (ask : Ask) (say : Say) → belongs ask say ≡ true → is_kept say ≡ true → is_kind ask ≡ true
stamped_kind (Commit tx) say there is = refl
stamped_kind (Deliver item hops) say there is = refl
stamped_kind (Learn from news) say there is = refl
stamped_kind Prune say there is = refl
stamped_kind Stop say there is = refl
stamped_kind Start say there is = refl
stamped_kind ask (Stamped stamp) there is = absurd (cc there)
stamped_kind ask (Applied fresh) there is = absurd (cc there)
stamped_kind ask (Learned fresh) there is = absurd (cc there)
stamped_kind ask (Base vector folded trimmed) there is = absurd (cc there)
stamped_kind ask Stopped there is = absurd (cc there)
stamped_kind ask Started there is = absurd (cc there)
stamped_kind ask _ there is = absurd (cc is)

-- and it fits
kept_fits : (s : Settings) (trail : List Entry) (ask : Ask) → is_kept (answer s trail ask) ≡ true → fits s.n ask ≡ true
unfolding answer
kept_fits s trail ask is = go (fits s.n ask) is
  where
    go : (b : Bool) → is_kept (cond b (cond (stopped trail && not (is_switch ask)) Down (row s trail ask)) Misfit) ≡ true → b ≡ true
    go true is_it = refl
    go false is_it = absurd (cc is_it)

-- so any other ask has a reply that is not kept
pub unkept : (s : Settings) (trail : List Entry) (ask : Ask) → is_kept_by s ask ≡ false → is_kept (answer s trail ask) ≡ false
unkept s trail ask other = go (is_kept (answer s trail ask)) refl
  where
    go : (b : Bool) → is_kept (answer s trail ask) ≡ b → b ≡ false
    go true is_it =
        let kind = stamped_kind ask (answer s trail ask) (answer_belongs s trail ask) is_it in
        let fit = kept_fits s trail ask is_it in
        absurd (cc (kind, fit, other))
    go false is_not = refl
