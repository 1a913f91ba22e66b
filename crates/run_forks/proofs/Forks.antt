-- How deeds that are the same, or part at an answer, are put together.
use Rattle.std.proofs.Common.{◌≡◌, ◌≢◌, ℕ, Bool, ◌⊎◌, inl, inr, ⊎_elim, List, [], ◌∷◌, ◌++◌, Option, Some, None, refl, sym, ap, ◌∙◌, subst}
use Rattle.std.proofs.lemmas.List.{append_assoc}
use Rattle.dc_talk.specs.declared.ask.Ask.{Ask}
use Rattle.dc_talk.specs.declared.say.Say.{Say}
use Rattle.dc_talk.specs.declared.log.Fate.{Fate}
use Rattle.dc_talk.specs.declared.log.Fate.TheVariants.{Unheard}
use Rattle.dc_talk.specs.declared.log.Deed.{Deed}
use Rattle.dc_talk.specs.declared.log.Deed.TheVariants.{Asked}
use Rattle.script_core.specs.declared.steps.AskFault.{AskFault}
use Rattle.script_core.specs.declared.steps.AskFault.TheVariants.{LoseAsk, LoseReply, Twice}
use Rattle.script_core.specs.Deeds.{fate_of}
use Rattle.run_forks.specs.Forks.{AreRivals, IsFork, AreOneOrFork}
use Rattle.run_forks.proofs.Deciding.{say_same}

-- the same deeds, and then this holds, or deeds that part
abbrev pub OneWith : List Deed → List Deed → Type 0 → Type 0
OneWith ds es Q = ((ds ≡ es) × Q) ⊎ IsFork ds es

-- the same deeds, or deeds that part
abbrev pub Same : List Deed → List Deed → Type 0
Same ds es = OneWith ds es (Unit {0})

-- ---- forks

-- asks that are answered otherwise begin a fork
pub fork_head : (i : ℕ) (ask : Ask) (one two : Fate) (rest more : List Deed) → AreRivals one two → IsFork (Asked i ask one ∷ rest) (Asked i ask two ∷ more)
fork_head i ask one two rest more rivals = record { before = []; centre = i; ask = ask; one = one; two = two; rest = rest; more = more; first = refl; later = refl; apart = rivals }

-- a fork behind the same deeds
pub fork_behind : (front ds es : List Deed) → IsFork ds es → IsFork (front ++ ds) (front ++ es)
fork_behind front ds es f = record {
  before = front ++ f.before;
  centre = f.centre;
  ask = f.ask;
  one = f.one;
  two = f.two;
  rest = f.rest;
  more = f.more;
  first = ap (λ l. front ++ l) f.first ∙ sym (append_assoc front f.before (Asked f.centre f.ask f.one ∷ f.rest));
  later = ap (λ l. front ++ l) f.later ∙ sym (append_assoc front f.before (Asked f.centre f.ask f.two ∷ f.more));
  apart = f.apart;
}

-- a fork with more deeds behind each
pub fork_front : (ds es xs ys : List Deed) → IsFork ds es → IsFork (ds ++ xs) (es ++ ys)
fork_front ds es xs ys f = record {
  before = f.before;
  centre = f.centre;
  ask = f.ask;
  one = f.one;
  two = f.two;
  rest = f.rest ++ xs;
  more = f.more ++ ys;
  first = ap (λ l. l ++ xs) f.first ∙ append_assoc f.before (Asked f.centre f.ask f.one ∷ f.rest) xs;
  later = ap (λ l. l ++ ys) f.later ∙ append_assoc f.before (Asked f.centre f.ask f.two ∷ f.more) ys;
  apart = f.apart;
}

-- a fork of deeds that are these
pub fork_as : (ds es xs ys : List Deed) → xs ≡ ds → ys ≡ es → IsFork ds es → IsFork xs ys
fork_as ds es xs ys one two f = subst (λ l. IsFork l ys) (sym one) (subst (λ l. IsFork ds l) (sym two) f)

-- ---- the same, or a fork

-- of deeds that are these
pub with_as : (ds es xs ys : List Deed) (Q : Type 0) → xs ≡ ds → ys ≡ es → OneWith ds es Q → OneWith xs ys Q
with_as ds es xs ys Q one two is = subst (λ l. OneWith l ys Q) (sym one) (subst (λ l. OneWith ds l Q) (sym two) is)

-- deeds behind deeds
pub with_then : (ds es xs ys : List Deed) (Q R : Type 0) → OneWith ds es Q → (Q → OneWith xs ys R) → OneWith (ds ++ xs) (es ++ ys) R
with_then ds es xs ys Q R (inl one) on = go (on one.1)
  where
    go : OneWith xs ys R → OneWith (ds ++ xs) (es ++ ys) R
    go (inl later) = inl (λ i. one.0 i ++ later.0 i, later.1)
    go (inr f) = inr (subst (λ l. IsFork (ds ++ xs) (l ++ ys)) one.0 (fork_behind ds xs ys f))
with_then ds es xs ys Q R (inr f) on = inr (fork_front ds es xs ys f)

-- one deed more in front
pub with_cons : (d : Deed) (xs ys : List Deed) (R : Type 0) → OneWith xs ys R → OneWith (d ∷ xs) (d ∷ ys) R
with_cons d xs ys R is = with_then (d ∷ []) (d ∷ []) xs ys (Unit {0}) R (inl (refl, tt)) (λ _. is)

-- the fact that they are the same is known behind them
pub with_same : (ds es : List Deed) (Q : Type 0) → OneWith ds es Q → OneWith ds es (ds ≡ es)
with_same ds es Q (inl one) = inl (one.0, one.0)
with_same ds es Q (inr f) = inr f

-- another fact follows from it
pub with_so : (ds es : List Deed) (Q R : Type 0) → (Q → R) → OneWith ds es Q → OneWith ds es R
with_so ds es Q R so (inl one) = inl (one.0, so one.1)
with_so ds es Q R so (inr f) = inr f

-- without the fact
pub one_or_fork : (ds es : List Deed) (Q : Type 0) → OneWith ds es Q → AreOneOrFork ds es
one_or_fork ds es Q (inl one) = inl one.0
one_or_fork ds es Q (inr f) = inr f

-- deeds that are the same as these
pub both_are : (ds es xs : List Deed) → ds ≡ xs → es ≡ xs → Same ds es
both_are ds es xs one two = inl (one ∙ sym two, tt)

-- ---- asks

-- asks with ends that are the same
heads : (i : ℕ) (ask : Ask) (one two : Fate) (xs ys : List Deed) (R : Type 0) → one ≡ two → OneWith xs ys R → OneWith (Asked i ask one ∷ xs) (Asked i ask two ∷ ys) R
heads i ask one two xs ys R same is = subst (λ fate. OneWith (Asked i ask one ∷ xs) (Asked i ask fate ∷ ys) R) same (with_cons (Asked i ask one) xs ys R is)

-- what becomes of an ask under one fault: the same, or rivals
fates : (armed : Option AskFault) (say again : Say) → (fate_of armed say ≡ fate_of armed again) ⊎ AreRivals (fate_of armed say) (fate_of armed again)
fates armed say again = ⊎_elim (λ same. inl (ap (fate_of armed) same)) (apart armed) (say_same say again)
  where
    apart : (armed : Option AskFault) → say ≢ again → (fate_of armed say ≡ fate_of armed again) ⊎ AreRivals (fate_of armed say) (fate_of armed again)
    apart (Some LoseAsk) other = inl refl
    apart (Some LoseReply) other = inr (record { say = say; again = again; says = refl; tells = refl; kind = refl; differ = other })
    apart (Some Twice) other = inr (record { say = say; again = again; says = refl; tells = refl; kind = refl; differ = other })
    apart None other = inr (record { say = say; again = again; says = refl; tells = refl; kind = refl; differ = other })

-- ends that a test tells apart are rivals
pub told_apart : (test : Fate → Bool) (armed : Option AskFault) (say again : Say) → test (fate_of armed say) ≢ test (fate_of armed again) → AreRivals (fate_of armed say) (fate_of armed again)
told_apart test armed say again differ = ⊎_elim (λ same. absurd (differ (ap test same))) (λ rivals. rivals) (fates armed say again)

-- an ask under one fault, and what follows where it ended the same
pub by_fate : (armed : Option AskFault) (i : ℕ) (ask : Ask) (say again : Say) (xs ys : List Deed) (R : Type 0) → (fate_of armed say ≡ fate_of armed again → OneWith xs ys R) → OneWith (Asked i ask (fate_of armed say) ∷ xs) (Asked i ask (fate_of armed again) ∷ ys) R
by_fate armed i ask say again xs ys R on = ⊎_elim
    (λ same. heads i ask (fate_of armed say) (fate_of armed again) xs ys R same (on same))
    (λ rivals. inr (fork_head i ask (fate_of armed say) (fate_of armed again) xs ys rivals))
    (fates armed say again)

-- an ask whose answer no session hears, and what follows where it was answered the same
pub by_unheard : (i : ℕ) (ask : Ask) (say again : Say) (xs ys : List Deed) (R : Type 0) → (say ≡ again → OneWith xs ys R) → OneWith (Asked i ask (Unheard say) ∷ xs) (Asked i ask (Unheard again) ∷ ys) R
by_unheard i ask say again xs ys R on = ⊎_elim
    (λ same. heads i ask (Unheard say) (Unheard again) xs ys R (ap Unheard same) (on same))
    (λ other. inr (fork_head i ask (Unheard say) (Unheard again) xs ys (record { say = say; again = again; says = refl; tells = refl; kind = refl; differ = other })))
    (say_same say again)
