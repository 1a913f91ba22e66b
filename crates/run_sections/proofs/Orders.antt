-- What is done one after another grows by one behind the rest: a step of an actor, and a section of a script.
use Rattle.std.proofs.Common.{◌≡◌, ℕ, ◌+◌, List, [], ◌∷◌, ◌++◌, length, sym, ap, ◌∙◌, subst, append_assoc, arith}
use Rattle.std.specs.Prelude.{All}
use Rattle.std.proofs.lemmas.List.{append-nil}
use Rattle.dc_talk.specs.declared.log.Note.{Note}
use Rattle.script_core.specs.declared.script.Script.{Script}
use Rattle.script_core.specs.declared.steps.Section.{Section}
use Rattle.run_book.specs.Played.{IsAt}
use Rattle.run_sections.specs.Orders.{InOrder, none_left, one_first}
use Rattle.run_sections.specs.Sections.{Between, Left, PlaysSection}
use Rattle.run_sections.specs.Runs.{PlaysSections, no_sections, next_section}

-- one step more of an actor, in the step behind those that it did
pub order_more : {S M : Type 0} (Does : S → ℕ → M → List Note → S → Type 0) (section step number : ℕ) (s next last : S) (ms : List M) (m : M) (notes mine : List Note) → number ≡ step + length ms → InOrder Does section step s ms notes next → All (IsAt section number) mine → Does next number m mine last → InOrder Does section step s (ms ++ m ∷ []) (notes ++ mine) last
order_more Does section step number s next last [] m notes mine is none_left at does =
    let here : number ≡ step = omega arith in
    one_first last mine [] (sym (append-nil mine)) (subst (λ t. All (IsAt section t) mine) here at) (subst (λ t. Does s t m mine last) here does) none_left
order_more Does section step number s next last (first ∷ ms) m notes mine is (one_first mid own later whole at_own done rest) at does =
    one_first mid own (later ++ mine) (ap (λ ns. ns ++ mine) whole ∙ append_assoc own later mine) at_own done
    (order_more Does section (step + 1) number mid next last ms m later mine (omega arith) rest at does)

-- one section more of a script, of the number behind those that were played
pub sections_more : (script : Script) (number place : ℕ) (first here last : Between) (sections : List Section) (section : Section) (lefts : List Left) (left : Left) → place ≡ number + length sections → PlaysSections script number first sections lefts here → PlaysSection script place section here left last → PlaysSections script number first (sections ++ section ∷ []) (lefts ++ left ∷ []) last
sections_more script number place first here last [] section lefts left is no_sections plays =
    let same : place ≡ number = omega arith in
    next_section last (subst (λ t. PlaysSection script t section first left last) same plays) no_sections
sections_more script number place first here last (one ∷ sections) section lefts left is (next_section {left = own} {lefts = later} mid done rest) plays =
    next_section mid done (sections_more script (number + 1) place mid here last sections section later left (omega arith) rest plays)
