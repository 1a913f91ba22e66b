-- Who the actors of a script are: the operator, its clients, and four workers of each centre.
use Rattle.std.proofs.Common.{◌≡◌, ℕ, zero, suc, ◌+◌, ◌-◌, ◌*◌, ◌≤◌, ◌<◌, ◌⊎◌, inl, inr, ⊎_elim, subst, arith}
use Rattle.std.specs.Prelude.{◌/◌, ◌%◌}
use Rattle.std.proofs.lemmas.Bool.{cases_lt}
use Rattle.script_core.specs.declared.script.Script.{Script}
use Rattle.script_core.specs.declared.rounds.Role.{Role}
use Rattle.script_core.specs.declared.rounds.Role.TheVariants.{Sender, Receiver, Reporter, Pruner}
use Rattle.script_core.specs.Steps.{IsCount}
use Rattle.script_core.specs.Rounds.{worker_of}
use Rattle.run_book.specs.Setups.{setup_of}
use Rattle.run_book.specs.Parts.{IsClient}
use Rattle.run_book.specs.Happenings.{IsCarrier}
use Rattle.run_sections.specs.Sections.{actors_of}

module _ (script : Script) where
  -- an actor is a client or a carrier
  pub client_or_carrier : (a : ℕ) → IsCount (actors_of script) a → IsClient (setup_of script) a ⊎ IsCarrier script.n script.clients a
  client_or_carrier a range = ⊎_elim
      (λ (first : a < 2). inr (record { who = inl (omega (arith, first, range.0)) }))
      (λ (later : 2 ≤ a). ⊎_elim
      (λ (client : a < script.clients + 2). inl (record { low = later; high = omega (arith, client) }))
      (λ (worker : script.clients + 2 ≤ a). inr (record { who = inr (worker, range.1) }))
      (cases_lt a (script.clients + 2)))
      (cases_lt a 2)

  -- a carrier is an actor, and no client
  pub carrier_acts : (a : ℕ) → IsCarrier script.n script.clients a → IsCount (actors_of script) a
  carrier_acts a carrier = ⊎_elim
      (λ first. (omega (arith, first), omega (arith, first)))
      (λ (worker : (script.clients + 2 ≤ a) × (a ≤ 1 + script.clients + 4 * script.n)). (omega (arith, worker.0), worker.1))
      carrier.who

  pub client_carries_none : (client : ℕ) → IsCount script.clients client → IsCarrier script.n script.clients (client + 1) → ⊥
  client_carries_none client range carrier = ⊎_elim
      (λ first. omega (arith, first, range.0))
      (λ (worker : (script.clients + 2 ≤ client + 1) × (client + 1 ≤ 1 + script.clients + 4 * script.n)). omega (arith, worker.0, range.1))
      carrier.who

  -- a client is an actor
  pub client_acts : (client : ℕ) → IsCount script.clients client → IsCount (actors_of script) (client + 1)
  client_acts client range = (omega arith, omega (arith, range.1))

  -- what holds of each worker of centre q + 1 holds of the actor of a number behind those of the centres before it
  by_role : (P : ℕ → Type 0) → ((i : ℕ) (role : Role) → IsCount script.n i → P (worker_of script.clients i role)) → (a q rest : ℕ) → rest < 4 → a ≡ script.clients + 2 + 4 * q + rest → IsCount script.n (q + 1) → P a
  by_role P worker a q zero few is range = let same : worker_of script.clients (q + 1) Sender ≡ a = omega (arith, is) in subst P same (worker (q + 1) Sender range)
  by_role P worker a q (suc zero) few is range = let same : worker_of script.clients (q + 1) Receiver ≡ a = omega (arith, is) in subst P same (worker (q + 1) Receiver range)
  by_role P worker a q (suc (suc zero)) few is range = let same : worker_of script.clients (q + 1) Reporter ≡ a = omega (arith, is) in subst P same (worker (q + 1) Reporter range)
  by_role P worker a q (suc (suc (suc zero))) few is range = let same : worker_of script.clients (q + 1) Pruner ≡ a = omega (arith, is) in subst P same (worker (q + 1) Pruner range)
  by_role P worker a q (suc (suc (suc (suc rest)))) few is range = absurd (omega (arith, few))

  -- what holds of the operator, of each client and of each worker holds of each actor
  pub by_actor : (P : ℕ → Type 0) → P 1 → ((client : ℕ) → IsCount script.clients client → P (client + 1)) → ((i : ℕ) (role : Role) → IsCount script.n i → P (worker_of script.clients i role)) → (a : ℕ) → IsCount (actors_of script) a → P a
  by_actor P operator client worker a range = ⊎_elim
      (λ (first : a < 2). let same : 1 ≡ a = omega (arith, first, range.0) in subst P same operator)
      (λ (later : 2 ≤ a). ⊎_elim
      (λ (low : a < script.clients + 2). let same : a - 1 + 1 ≡ a = omega (arith, later) in subst P same (client (a - 1) (omega (arith, later), omega (arith, low, later))))
      (λ (high : script.clients + 2 ≤ a).
      let behind : ℕ = a - (script.clients + 2) in
      let few : behind % 4 < 4 = omega arith in
      let whole : 4 * (behind / 4) + behind % 4 ≡ behind = omega arith in
      let is : a ≡ script.clients + 2 + 4 * (behind / 4) + behind % 4 = omega (arith, whole, high) in
      by_role P worker a (behind / 4) (behind % 4) few is (omega arith, omega (arith, is, range.1)))
      (cases_lt a (script.clients + 2)))
      (cases_lt a 2)
