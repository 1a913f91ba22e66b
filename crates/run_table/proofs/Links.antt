-- A fault that is set on a link, and the work of workers over links.
use Rattle.std.proofs.Common.{◌≡◌, ◌≢◌, ◌≤◌, ◌⊎◌, inl, inr, ℕ, ◌==◌, Bool, true, false, cond, List, [], refl, sym, ap, ◌∙◌, subst, arith}
use Rattle.std.specs.Prelude.{◌&&◌, ◌%◌, not}
use Rattle.std.proofs.lemmas.Bool.{cases_eq, eq-eqb, ne_eqb, le-leb}
use Rattle.ids_core.specs.declared.limits.TheConstants.{MOST_CENTRES}
use Rattle.dc_talk.specs.declared.sent.Sent.{Sent}
use Rattle.dc_talk.specs.declared.links.Arrival.{Arrival}
use Rattle.dc_talk.specs.declared.links.LinkFault.{LinkFault}
use Rattle.dc_talk.specs.declared.log.Deed.{Deed}
use Rattle.dc_talk.specs.Acting.{Acting}
use Rattle.script_core.specs.declared.steps.OperatorStep.TheVariants.{Link}
use Rattle.script_core.specs.declared.rounds.Role.TheVariants.{Sender, Receiver, Reporter, Pruner}
use Rattle.script_core.specs.Steps.{IsCount}
use Rattle.script_core.specs.Mail.{Post, post_put, post_set, due_in_round, post_after_round, due_at_close, post_closed}
use Rattle.script_core.specs.Rounds.{ReporterDeeds, PrunerDeeds}
use Rattle.dc_talk.specs.declared.ask.Ask.TheVariants.{Prune}
use Rattle.script_core.specs.declared.rounds.TheConstants.{ROUNDS_BETWEEN_PRUNES}
use Rattle.script_core.specs.Orders.{Orders}
use Rattle.dc_worker.specs.Work.{AddsSuch, CarriesSuch}
use Rattle.dc_worker.proofs.Work.{adds_none}
use Rattle.dc_mail.specs.Posts.{post_at, IsCentre, HasSet}
use Rattle.dc_mail.specs.Rounds.{HasSent, HasReceived}
use Rattle.run_book.specs.Moves.{operator_does, worker_does, closes}
use Rattle.run_table.specs.Tables.{HasWorked, HasPosts}

-- a centre of n is one
within : (n i : ℕ) → n ≤ MOST_CENTRES → IsCount n i → IsCentre i
within n i few range = (range.0, omega (arith, range.1, few))

-- a fault that was set
pub link_set : (n i j : ℕ) (fault : LinkFault) (deeds : List Deed) (old new : List Post) → n ≤ MOST_CENTRES → HasSet i j (post_set fault (post_at old i j)) old new → HasPosts n (operator_does (Link i j fault)) deeds old new
link_set n i j fault deeds old new few set from to f t = set.each from to (within n from few f) (within n to few t) ∙ go (cases_eq from i) (cases_eq to j)
  where
    go : (from ≡ i) ⊎ (from ≢ i) → (to ≡ j) ⊎ (to ≢ j) → cond (from == i && to == j) (post_set fault (post_at old i j)) (post_at old from to) ≡ cond (from == i && to == j) (post_set fault (post_at old from to)) (post_at old from to)
    go (inl one) (inl two) = λ k. cond (from == i && to == j) (post_set fault (post_at old (sym one k) (sym two k))) (post_at old from to)
    go (inr one) two = (λ k. cond (ne_eqb from i one k && to == j) (post_set fault (post_at old i j)) (post_at old from to)) ∙ sym (λ k. cond (ne_eqb from i one k && to == j) (post_set fault (post_at old from to)) (post_at old from to))
    go (inl one) (inr two) = (λ k. cond (eq-eqb from i one k && ne_eqb to j two k) (post_set fault (post_at old i j)) (post_at old from to)) ∙ sym (λ k. cond (eq-eqb from i one k && ne_eqb to j two k) (post_set fault (post_at old from to)) (post_at old from to))

-- ---- what workers leave

pub sender_worked : (n number i : ℕ) (old new : List Post) (a b : Acting) → n ≤ MOST_CENTRES → HasSent n i old new a b → HasWorked n number (worker_does i Sender) old new a b
sender_worked n number i old new a b few is = record { deeds = is.deeds; such = is.such; leaves = is.adds.leaves; posts = λ framed from to f t. is.posts from to (within n from few f) (within n to few t) ∙ ap (λ items. cond (from == i && not (to == i)) (post_put items (post_at old from to)) (post_at old from to)) (framed to) }

-- of a receiver, whichever its round
received : (due : Post → List (Arrival Sent)) (later : Post → Post) (n i : ℕ) (old new : List Post) (a b : Acting) → n ≤ MOST_CENTRES → HasReceived due later n i old new a b → (from to : ℕ) → IsCount n from → IsCount n to → post_at new from to ≡ cond (to == i && not (from == i)) (later (post_at old from to)) (post_at old from to)
received due later n i old new a b few is from to f t =
    is.posts from to (within n from few f) (within n to few t)
    ∙ (ap (λ test. cond ((to == i && not (from == i)) && test) (later (post_at old from to)) (post_at old from to)) (le-leb from n f.1) ∙ whole (to == i && not (from == i)) (later (post_at old from to)) (post_at old from to))
  where
    whole : (test : Bool) (x y : Post) → cond (test && true) x y ≡ cond test x y
    whole true x y = refl
    whole false x y = refl

pub receiver_worked : (n number i : ℕ) (old new : List Post) (a b : Acting) → n ≤ MOST_CENTRES → HasReceived due_in_round post_after_round n i old new a b → HasWorked n number (worker_does i Receiver) old new a b
receiver_worked n number i old new a b few is = record { deeds = is.deeds; such = is.such; leaves = is.adds.leaves; posts = λ framed. received due_in_round post_after_round n i old new a b few is }

pub closer_worked : (n number i : ℕ) (old new : List Post) (a b : Acting) → n ≤ MOST_CENTRES → HasReceived due_at_close post_closed n i old new a b → HasWorked n number (closes i) old new a b
closer_worked n number i old new a b few is = record { deeds = is.deeds; such = is.such; leaves = is.adds.leaves; posts = λ framed. received due_at_close post_closed n i old new a b few is }

pub reporter_worked : (n number i : ℕ) (old new : List Post) (a b : Acting) → new ≡ old → CarriesSuch (ReporterDeeds n i) a b → HasWorked n number (worker_does i Reporter) old new a b
reporter_worked n number i old new a b same is = record { deeds = is.deeds; such = is.such; leaves = is.adds.leaves; posts = λ framed from to f t. ap (λ posts. post_at posts from to) same }

pub pruner_worked : (n number i : ℕ) (old new : List Post) (a b : Acting) → new ≡ old → AddsSuch (PrunerDeeds i number) a b → HasWorked n number (worker_does i Pruner) old new a b
pruner_worked n number i old new a b same is = record { deeds = is.deeds; such = is.such; leaves = is.adds.leaves; posts = λ framed from to f t. ap (λ posts. post_at posts from to) same }

-- a pruner does nothing in a round whose number is no multiple
pub prunes_none : (i number : ℕ) (a : Acting) → number % ROUNDS_BETWEEN_PRUNES ≢ 0 → AddsSuch (PrunerDeeds i number) a a
prunes_none i number a other = record {
  deeds = [];
  such = subst (λ test. cond test (Orders i Prune none) (none ≡ [])) (sym (ne_eqb (number % ROUNDS_BETWEEN_PRUNES) 0 other)) refl;
  adds = adds_none a;
}
  where
    none : List Deed
    none = []
