-- A centre that adopted hands on later records alone.
use Rattle.std.proofs.Common.{◌≡◌, ◌≤◌, ℕ, ◌+◌, ◌-◌, Bool, true, false, List, [], ◌∷◌, ◌++◌, length, drop, map, refl, sym, ap, ◌∙◌, subst, arith}
use Rattle.std.specs.Prelude.{◌==◌, ◌&&◌, nat_le}
use Rattle.std.proofs.Math.Seq.{drop-append-add, drop-append_seam}
use Rattle.std.proofs.lemmas.Bool.{leb-false}
use Rattle.std.proofs.lemmas.List.{append-nil, append_assoc, length-map}
use Rattle.std.proofs.lemmas.List.Elements.{filter-append}
use Rattle.list_core.specs.Choices.{when, first_of}
use Rattle.list_core.specs.Members.{In}
use Rattle.list_core.proofs.Members.{In_take, In_drop, In_from_filter}
use Rattle.vv_core.specs.Vectors.{at, Covers}
use Rattle.vv_core.proofs.Covering.{Covers_refl, Covers_trans, Covers-join_left}
use Rattle.tx_core.specs.declared.tx.Record.{Record}
use Rattle.join_bundle.specs.declared.part.BundleParts.{BundleParts}
use Rattle.join_bundle.specs.Conditions.{IsCentre}
use Rattle.dc_talk.specs.declared.ask.TheConstants.{MOST_SENT}
use Rattle.dc_talk.specs.declared.ask.Ask.{Ask}
use Rattle.dc_talk.specs.declared.ask.Ask.TheVariants.{Commit, Send, Deliver, Relay, Prune}
use Rattle.dc_talk.specs.declared.say.Say.{Say}
use Rattle.dc_talk.specs.declared.say.Say.TheVariants.{Stamped, Applied, Trimmed, Records, Base}
use Rattle.dc_talk.specs.declared.sent.Sent.{Sent}
use Rattle.dc_talk.specs.declared.settings.Settings.{Settings}
use Rattle.dc_talk.specs.Entries.{Entry}
use Rattle.dc_talk.specs.Records.{count, deps_of}
use Rattle.dc_talk.specs.Sents.{with_hops, items, of_origin}
use Rattle.dc_talk.specs.Trails.{carried_on}
use Rattle.dc_talk.specs.Answers.{part_of, send_answer}
use Rattle.cut_law.specs.Parts.{Parts, all_known_over, answer_over, parts_then, parts_past}
use Rattle.cut_law.specs.Adopting.{CanAdopt, MayStart, adopted}
use Rattle.cut_law.proofs.Cuts.{list_adopted, counted}
use Rattle.cut_law.proofs.Steps.{origin_count, centre_within, running}

-- the parts go on from others: their records stand behind those of the others, and no less is let go
record GoesBehind (P Q : Parts) : Type 0 where
  rest : List Sent
  records : Q.carried ≡ P.carried ++ rest
  let_go : Covers Q.horizon.trimmed P.horizon.trimmed

-- one entry puts at most one record behind the others
one_behind : (n : ℕ) (C : List Sent) (ask : Ask) (say : Say) → (Z : List Sent) × (carried_on n C ask say ≡ C ++ Z)
one_behind n C (Commit tx) (Stamped stamp) = (with_hops (record { stamp = stamp; deps = deps_of n (items C) tx; tx = tx }) 0 ∷ [], refl)
one_behind n C (Deliver item hops) (Applied fresh) = (with_hops item (hops + 1) ∷ [], refl)
one_behind n C _ _ = ([], sym (append-nil C))

-- and lets go no less
still_gone : (s : Settings) (P : Parts) (ask : Ask) (say : Say) → Covers (parts_then s P ask say).horizon.trimmed P.horizon.trimmed
still_gone s P Prune (Base v folded trimmed) = Covers-join_left P.horizon.trimmed (all_known_over s P)
still_gone s P _ _ = Covers_refl P.horizon.trimmed

-- so do more entries
all_behind : (s : Settings) (P : Parts) (later : List Entry) → GoesBehind P (parts_past s P later)
all_behind s P [] = record { rest = []; records = sym (append-nil P.carried); let_go = Covers_refl P.horizon.trimmed }
all_behind s P (e ∷ later) =
    let first = one_behind s.n P.carried e.ask e.say in
    let more = all_behind s (parts_then s P e.ask e.say) later in
    record {
      rest = first.0 ++ more.rest;
      records = more.records ∙ (ap (λ C. C ++ more.rest) first.1 ∙ append_assoc P.carried first.0 more.rest);
      let_go = Covers_trans _ _ _ more.let_go (still_gone s P e.ask e.say);
    }

-- equal answers have equal lists
same_list : (x y : List Sent) → Records x ≡ Records y → x ≡ y
same_list x y same = cc

-- records that are answered are those that were asked for, behind those that were let go
asked_by : (trimmed after : ℕ) (asked sent : List Sent) → Records sent ≡ send_answer trimmed asked after → (trimmed ≤ after) × (sent ≡ asked)
asked_by trimmed after asked sent = go (nat_le (after + 1) trimmed) refl
  where
    go : (b : Bool) → nat_le (after + 1) trimmed ≡ b → Records sent ≡ first_of (when b (Trimmed trimmed) ∷ []) (Records asked) → (trimmed ≤ after) × (sent ≡ asked)
    go true is e = absurd (cc)
    go false is e = (let lt = leb-false (after + 1) trimmed is in omega (arith, lt), same_list sent asked e)

-- what stands behind the first records of an origin stands behind the first records
in_rest : (e after most : ℕ) (start rest : List Sent) (x : Sent) → length (of_origin e start) ≤ after → In x (part_of e (start ++ rest) after most) → In x rest
in_rest e after most start rest x few i =
    let behind = In_take most (drop after (of_origin e (start ++ rest))) x i in
    let place : length (of_origin e start) + (after - length (of_origin e start)) ≡ after = omega (arith, few) in
    let same : drop after (of_origin e (start ++ rest)) ≡ drop (after - length (of_origin e start)) (of_origin e rest) =
    ap (drop after) (filter-append (λ (x : Sent). x.item.stamp.centre == e) start rest)
    ∙ (ap (λ k. drop k (of_origin e start ++ of_origin e rest)) (sym place) ∙ drop-append-add (of_origin e start) (of_origin e rest) (after - length (of_origin e start))) in
    (In_from_filter (λ (x : Sent). x.item.stamp.centre == e) rest x (In_drop (after - length (of_origin e start)) (of_origin e rest) x (subst (λ l. In x l) same behind))).0

module _ (s : Settings) (b : BundleParts) (can : CanAdopt s b) (A : List Record) (start : MayStart s b A) (later : List Entry) where
  -- what is handed on of an origin came later
  handed : (e after most : ℕ) (sent : List Sent) (x : Sent) → IsCentre s.n e → Records sent ≡ send_answer (at (parts_past s (adopted b A) later).horizon.trimmed e) (part_of e (parts_past s (adopted b A) later).carried after most) after → In x sent → In x (drop (length A) (parts_past s (adopted b A) later).carried)
  handed e after most sent x centre says i =
      let behind = all_behind s (adopted b A) later in
      let asked = asked_by (at (parts_past s (adopted b A) later).horizon.trimmed e) after (part_of e (parts_past s (adopted b A) later).carried after most) sent says in
      let far = asked.0 in
      let gone = behind.let_go.holds e in
      let all = counted s b can A start e centre in
      let long = origin_count e (map (λ (r : Record). with_hops r 0) A) in
      let same : count e (items (map (λ (r : Record). with_hops r 0) A)) ≡ count e A = ap (count e) (list_adopted A) in
      let rest = in_rest e after most (map (λ (r : Record). with_hops r 0) A) behind.rest x (omega (arith, far, gone, all, long, same)) (subst (λ C. In x (part_of e C after most)) behind.records (subst (λ l. In x l) asked.1 i)) in
      subst (λ l. In x l) (sym (ap (drop (length A)) behind.records ∙ (ap (λ k. drop k (map (λ (r : Record). with_hops r 0) A ++ behind.rest)) (sym (length-map A (λ (r : Record). with_hops r 0))) ∙ drop-append_seam (map (λ (r : Record). with_hops r 0) A) behind.rest))) rest

pub sent_later : (s : Settings) (b : BundleParts) (A : List Record) (later : List Entry) (after most : ℕ) (sent : List Sent) (x : Sent) → IsCentre s.n s.me → CanAdopt s b → MayStart s b A → Records sent ≡ answer_over s (parts_past s (adopted b A) later) (Send after most) → In x sent → In x (drop (length A) (parts_past s (adopted b A) later).carried)
sent_later s b A later after most sent x me can start says = handed s b can A start later s.me after most sent x me (running s (parts_past s (adopted b A) later) (Send after most) (Records sent) says (λ e. cc) (λ e. cc)).1

pub relayed_later : (s : Settings) (b : BundleParts) (A : List Record) (later : List Entry) (origin after most : ℕ) (sent : List Sent) (x : Sent) → CanAdopt s b → MayStart s b A → Records sent ≡ answer_over s (parts_past s (adopted b A) later) (Relay origin after most) → In x sent → In x (drop (length A) (parts_past s (adopted b A) later).carried)
relayed_later s b A later origin after most sent x can start says =
    let up = running s (parts_past s (adopted b A) later) (Relay origin after most) (Records sent) says (λ e. cc) (λ e. cc) in
    handed s b can A start later origin after most sent x (centre_within s.n origin (nat_le 1 most && nat_le most MOST_SENT) up.0) up.1
