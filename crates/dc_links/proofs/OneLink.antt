-- What is taken from one link, record by record.
use Rattle.std.proofs.Common.{◌≡◌, ℕ, ◌+◌, ◌-◌, Bool, true, false, cond, List, [], ◌++◌, length, sym, ap, ◌∙◌, subst, arith, append_assoc, length-append}
use Rattle.std.proofs.lemmas.List.{append-nil}
use Rattle.dc_talk.specs.declared.sent.Sent.{Sent}
use Rattle.dc_talk.specs.Acting.{Acting}
use Rattle.script_core.specs.Carrying.{Route}
use Rattle.script_core.specs.Links.{Inlet}
use Rattle.script_core.specs.Rounds.{Brings}
use Rattle.dc_worker.specs.Work.{AddsSuch}
use Rattle.dc_worker.specs.Brings.{Incoming, incoming, Receives, Closes}
use Rattle.dc_worker.proofs.Bringing.{brings_rest, receives_then}
use Rattle.dc_links.specs.Links.{IsMore}

-- ---- lists that grow at the end

pub more_none : (xs : List Sent) → IsMore xs xs
more_none xs = ([], sym (append-nil xs))

pub more_then : (xs ys zs : List Sent) → IsMore xs ys → IsMore ys zs → IsMore xs zs
more_then xs ys zs first later = (first.0 ++ later.0, later.1 ∙ (ap (λ front. front ++ later.0) first.1 ∙ append_assoc xs first.0 later.0))

-- ---- records

-- what was taken has grown
pub receives_more : (r : Route) (n : ℕ) (a b : Incoming) → Receives r n a b → IsMore a.taken b.taken
receives_more r n a b is = (is.items, is.taken)

-- as many were taken as there are more of them now
pub receives_count : (r : Route) (n : ℕ) (a b : Incoming) → Receives r n a b → length b.taken - length a.taken ≡ n
receives_count r n a b is =
    let long : length b.taken ≡ length a.taken + length is.items = ap (λ (xs : List Sent). length xs) is.taken ∙ length-append a.taken is.items in
    omega (arith, long, is.count)

-- one more was looked for, and found
pub receives_found : (r : Route) (n : ℕ) (found : Bool) (a b c : Incoming) → found ≡ true → Receives r n a b → Receives r (cond found 1 0) b c → Receives r (n + 1) a c
receives_found r n found a b c is first one = subst (λ more. Receives r (n + more) a c) (ap (λ test. cond test 1 0) is) (receives_then r n (cond found 1 0) a b c first one)

-- or not
pub receives_missed : (r : Route) (n : ℕ) (found : Bool) (a b c : Incoming) → found ≡ false → Receives r n a b → Receives r (cond found 1 0) b c → Receives r n a c
receives_missed r n found a b c is first one =
    let same : n + cond found 1 0 ≡ n = ap (λ test. n + cond test 1 0) is ∙ omega arith in
    subst (λ n. Receives r n a c) same (receives_then r n (cond found 1 0) a b c first one)

-- where no more come, what is held follows
pub closes_rest : (r : Route) (n : ℕ) (old : Incoming) (b c : Acting) (i last : Inlet Sent) (taken : List Sent) → Receives r n old (incoming b i taken) → AddsSuch (Brings r i.held) b c → last ≡ record i { held = [] } → Closes r n old (incoming c last taken)
closes_rest r n old b c i last taken before rest empty = record {
  items = before.items;
  taken = before.taken;
  brings = brings_rest r old.inlet before.items i old.acting b c before.brings before.inlet rest;
  inlet = empty ∙ ap (λ (i : Inlet Sent). record i { held = [] }) before.inlet;
  count = before.count;
}
