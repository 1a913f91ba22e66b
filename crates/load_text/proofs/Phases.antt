-- The number of the last phase, section by section.
use Rattle.std.proofs.Common.{◌≡◌, ◌<◌, ◌≤◌, ◌+◌, ℕ, Bool, true, false, cond, List, [], ◌∷◌, ◌++◌, length, take, get_or, max, refl, sym, ap, ◌∙◌, arith, length-take-le, true≢false}
use Rattle.vv_core.specs.Vectors.{most}
use Rattle.script_core.specs.declared.steps.Section.{Section}
use Rattle.print_text.proofs.Parts.{most-append, take_more}
use Rattle.load_text.specs.LastReads.{phases_from}

-- the numbers of the phases among sections, with one section more
phases_more : (number : ℕ) (sections : List Section) (section : Section) → phases_from number (sections ++ section ∷ []) ≡ phases_from number sections ++ phases_from (number + length sections) (section ∷ [])
phases_more number [] section = ap (λ n. phases_from n (section ∷ [])) (let e : number ≡ number + 0 = omega arith in e)
phases_more number (first ∷ sections) section = go first.phase (phases_more (number + 1) sections section ∙ ap (λ n. phases_from (number + 1) sections ++ phases_from n (section ∷ [])) (let e : number + 1 + length sections ≡ number + length (first ∷ sections) = omega arith in e))
  where
    go : (b : Bool) → phases_from (number + 1) (sections ++ section ∷ []) ≡ phases_from (number + 1) sections ++ phases_from (number + length (first ∷ sections)) (section ∷ [])
        → cond b (number ∷ []) [] ++ phases_from (number + 1) (sections ++ section ∷ []) ≡ (cond b (number ∷ []) [] ++ phases_from (number + 1) sections) ++ phases_from (number + length (first ∷ sections)) (section ∷ [])
    go true rest = ap (λ l. number ∷ l) rest
    go false rest = rest

-- the greatest of them, with one section more
last_more : (sections : List Section) (index : ℕ) (section : Section) → index < length sections → section ≡ get_or sections index section
    → most (phases_from 1 (take (index + 1) sections)) ≡ max (most (phases_from 1 (take index sections))) (most (phases_from (1 + length (take index sections)) (section ∷ [])))
last_more sections index section lt is =
    ap (λ l. most (phases_from 1 l)) (take_more sections index section lt is)
    ∙ (ap most (phases_more 1 (take index sections) section)
    ∙ most-append (phases_from 1 (take index sections)) (phases_from (1 + length (take index sections)) (section ∷ [])))

-- the greatest of what a phase gives
of_phase : (number : ℕ) (phase : Bool) → phase ≡ true → most (cond phase (number ∷ []) [] ++ []) ≡ number
of_phase number true is = omega arith
of_phase number false is = absurd (true≢false (sym is))

-- and of what another section gives
of_no_phase : (number : ℕ) (phase : Bool) → phase ≡ false → most (cond phase (number ∷ []) [] ++ []) ≡ 0
of_no_phase number true is = absurd (true≢false is)
of_no_phase number false is = refl

-- a phase that comes next is the last one
pub phase_next : (sections : List Section) (index last : ℕ) (section : Section) → index < length sections → section ≡ get_or sections index section → last ≤ index → last ≡ most (phases_from 1 (take index sections)) → section.phase ≡ true
    → index + 1 ≡ most (phases_from 1 (take (index + 1) sections))
phase_next sections index last section lt is low before phase =
    let long = length-take-le index sections (omega (arith, lt)) in
    let one = of_phase (1 + length (take index sections)) section.phase phase in
    omega (arith, last_more sections index section lt is, one, long, low, before)

-- a section that comes next and is no phase changes nothing
pub no_phase_next : (sections : List Section) (index last : ℕ) (section : Section) → index < length sections → section ≡ get_or sections index section → last ≡ most (phases_from 1 (take index sections)) → section.phase ≡ false
    → last ≡ most (phases_from 1 (take (index + 1) sections))
no_phase_next sections index last section lt is before phase =
    let none = of_no_phase (1 + length (take index sections)) section.phase phase in
    omega (arith, last_more sections index section lt is, none, before)
