-- What the answer to an ask of another centre tells of the ask and of what was applied before it.
use Rattle.std.proofs.Common.{◌≡◌, ℕ, zero, suc, ◌+◌, ◌≤◌, Bool, true, List, [], ◌∷◌, length, refl, sym, ap, ◌∙◌, subst, arith}
use Rattle.std.specs.Prelude.{nat_le, drop, is_none, ◌==◌, ◌&&◌}
use Rattle.std.proofs.lemmas.Bool.{and_parts, and_from, or_parts, le-leb, leb-true, leb-false, eqb-true, eq-eqb, false≢true}
use Rattle.list_core.specs.Members.{In}
use Rattle.list_core.proofs.Members.{In_take, In_drop, In_from_filter}
use Rattle.list_core.proofs.Choices.{is_none_true, when_none, when_holds}
use Rattle.ids_core.specs.declared.limits.TheConstants.{MOST_RECORDS}
use Rattle.vv_core.specs.Vectors.{at, Covers}
use Rattle.tx_core.specs.declared.tx.Record.{Record}
use Rattle.tx_core.specs.Checks.{is_within, fault_of, IsFit}
use Rattle.tx_core.proofs.Fits.{fault_of-none, none-fault_of}
use Rattle.dc_talk.specs.declared.ask.TheConstants.{MOST_HOPS}
use Rattle.dc_talk.specs.declared.ask.Ask.{Ask}
use Rattle.dc_talk.specs.declared.ask.Ask.TheVariants.{Send, Deliver, Relay, Report}
use Rattle.dc_talk.specs.declared.say.Say.TheVariants.{Records, Waits, Orphan, Applied, Vector}
use Rattle.dc_talk.specs.declared.sent.Sent.{Sent}
use Rattle.dc_talk.specs.declared.settings.Settings.{Settings}
use Rattle.dc_talk.specs.Entries.{Entry}
use Rattle.dc_talk.specs.Records.{count, vector, guard}
use Rattle.dc_talk.specs.Sents.{of_origin}
use Rattle.dc_talk.specs.Trails.{carried, applied, horizon}
use Rattle.dc_talk.specs.Answers.{are_modest, is_fit_item, part_of, send_answer, deliver_answer, answer}
use Rattle.dc_talk.proofs.Answers.{lack_holds, lack_none, send_holds, deliver_holds, may_answer, fitting, answers_it}

-- ---- a send and a relay

-- equal answers have equal lists
same_list : (x y : List Sent) → Records x ≡ Records y → x ≡ y
same_list x y same = cc

-- records that are answered are those that were asked for
asked_by : (trimmed : ℕ) (asked : List Sent) (after : ℕ) (list : List Sent) → Records list ≡ send_answer trimmed asked after → list ≡ asked
asked_by trimmed asked after list = send_holds (λ say. Records list ≡ say → list ≡ asked) trimmed asked after (λ e. absurd (cc)) (λ e. same_list list asked e)

-- the records of a send are own records of the centre
pub records_by : (s : Settings) (trail : List Entry) (after most : ℕ) (list : List Sent) → Records list ≡ answer s trail (Send after most) → list ≡ part_of s.me (carried s.n trail) after most
records_by s trail after most list is = asked_by (at (horizon s trail).trimmed s.me) (part_of s.me (carried s.n trail) after most) after list (fitting s trail (Send after most) (Records list) is (λ e. cc) (λ e. cc)).1

-- those of a relay are records of the origin
pub relayed_by : (s : Settings) (trail : List Entry) (origin after most : ℕ) (list : List Sent) → Records list ≡ answer s trail (Relay origin after most) → list ≡ part_of origin (carried s.n trail) after most
relayed_by s trail origin after most list is = asked_by (at (horizon s trail).trimmed origin) (part_of origin (carried s.n trail) after most) after list (fitting s trail (Relay origin after most) (Records list) is (λ e. cc) (λ e. cc)).1

-- a record of a part is an applied one of the origin
in_part : (e : ℕ) (C : List Sent) (after most : ℕ) (x : Sent) → In x (part_of e C after most) → In x C × ((x.item.stamp.centre == e) ≡ true)
in_part e C after most x i = In_from_filter (λ (x : Sent). x.item.stamp.centre == e) C x (In_drop after (of_origin e C) x (In_take most (drop after (of_origin e C)) x i))

-- so each record of an answer is an applied one, with the hops that it has there
pub handed_by : (s : Settings) (trail : List Entry) (ask : Ask) (list : List Sent) (x : Sent) → Records list ≡ answer s trail ask → In x list → In x (carried s.n trail)
handed_by s trail (Send after most) list x is i = (in_part s.me (carried s.n trail) after most x (subst (In x) (records_by s trail after most list is) i)).0
handed_by s trail (Relay origin after most) list x is i = (in_part origin (carried s.n trail) after most x (subst (In x) (relayed_by s trail origin after most list is) i)).0
handed_by s trail ask list x is i = absurd (false≢true (answers_it s trail ask (Records list) is (λ e. cc) (λ e. cc)))

-- ---- a report

-- no ask but a report can be answered with a vector
vector_asked : (ask : Ask) (v : List ℕ) → may_answer ask (Vector v) ≡ true → ask ≡ Report
vector_asked Report v is = refl
vector_asked _ v is = absurd (false≢true is)

-- equal answers have equal vectors
same_vector : (v w : List ℕ) → Vector v ≡ Vector w → v ≡ w
same_vector v w same = cc

-- a vector that is answered is the centre's
pub vector_by : (s : Settings) (trail : List Entry) (ask : Ask) (v : List ℕ) → Vector v ≡ answer s trail ask → v ≡ vector s.n (applied s.n trail)
vector_by s trail ask v is = from_report (vector_asked ask v (answers_it s trail ask (Vector v) is (λ e. cc) (λ e. cc)))
  where
    from_report : ask ≡ Report → v ≡ vector s.n (applied s.n trail)
    from_report asks = same_vector v (vector s.n (applied s.n trail)) (fitting s trail Report (Vector v) (subst (λ ask. Vector v ≡ answer s trail ask) asks is) (λ e. cc) (λ e. cc)).1

-- ---- a delivery

-- a record that can be delivered to a centre among n
pub record IsFitItem (n : ℕ) (item : Record) : Type 0 where
  pub centre : (1 ≤ item.stamp.centre) × (item.stamp.centre ≤ n)
  pub seq : (1 ≤ item.stamp.seq) × (item.stamp.seq ≤ MOST_RECORDS)
  pub width : length item.deps ≡ n
  pub fit : IsFit n item.tx

-- a record that passes the test can
pub item_fits : (n : ℕ) (item : Record) → is_fit_item n item ≡ true → IsFitItem n item
item_fits n item is =
    let tx = and_parts (is_within 1 n item.stamp.centre && is_within 1 MOST_RECORDS item.stamp.seq && (length item.deps == n) && are_modest item.deps) (is_none (fault_of n item.tx)) is in
    let modest = and_parts (is_within 1 n item.stamp.centre && is_within 1 MOST_RECORDS item.stamp.seq && (length item.deps == n)) (are_modest item.deps) tx.0 in
    let width = and_parts (is_within 1 n item.stamp.centre && is_within 1 MOST_RECORDS item.stamp.seq) (length item.deps == n) modest.0 in
    let stamp = and_parts (is_within 1 n item.stamp.centre) (is_within 1 MOST_RECORDS item.stamp.seq) width.0 in
    let centre = and_parts (nat_le 1 item.stamp.centre) (nat_le item.stamp.centre n) stamp.0 in
    let seq = and_parts (nat_le 1 item.stamp.seq) (nat_le item.stamp.seq MOST_RECORDS) stamp.1 in
    record {
      centre = (leb-true 1 item.stamp.centre centre.0, leb-true item.stamp.centre n centre.1);
      seq = (leb-true 1 item.stamp.seq seq.0, leb-true item.stamp.seq MOST_RECORDS seq.1);
      width = eqb-true (length item.deps) n width.1;
      fit = fault_of-none n item.tx (is_none_true (fault_of n item.tx) tx.1);
    }

-- a vector of small entries is modest
pub modest_from : (v : List ℕ) → ((e : ℕ) → at v e ≤ MOST_RECORDS) → are_modest v ≡ true
modest_from [] small = refl
modest_from (x ∷ v) small = and_from (nat_le x MOST_RECORDS) (are_modest v) (le-leb x MOST_RECORDS (small 1)) (modest_from v rest)
  where
    rest : (e : ℕ) → at v e ≤ MOST_RECORDS
    rest zero = omega arith
    rest (suc e) = small (suc (suc e))

-- a record that can be delivered, with a modest dependency vector, passes the test
pub fits_item : (n : ℕ) (item : Record) → IsFitItem n item → are_modest item.deps ≡ true → is_fit_item n item ≡ true
fits_item n item fit modest =
    let centre : is_within 1 n item.stamp.centre ≡ true = and_from (nat_le 1 item.stamp.centre) (nat_le item.stamp.centre n) (le-leb 1 item.stamp.centre fit.centre.0) (le-leb item.stamp.centre n fit.centre.1) in
    let seq : is_within 1 MOST_RECORDS item.stamp.seq ≡ true = and_from (nat_le 1 item.stamp.seq) (nat_le item.stamp.seq MOST_RECORDS) (le-leb 1 item.stamp.seq fit.seq.0) (le-leb item.stamp.seq MOST_RECORDS fit.seq.1) in
    let width : (length item.deps == n) ≡ true = eq-eqb (length item.deps) n fit.width in
    let tx : is_none (fault_of n item.tx) ≡ true = ap is_none (none-fault_of n item.tx fit.fit) in
    and_from (is_within 1 n item.stamp.centre && is_within 1 MOST_RECORDS item.stamp.seq && (length item.deps == n) && are_modest item.deps) (is_none (fault_of n item.tx))
    (and_from (is_within 1 n item.stamp.centre && is_within 1 MOST_RECORDS item.stamp.seq && (length item.deps == n)) (are_modest item.deps)
    (and_from (is_within 1 n item.stamp.centre && is_within 1 MOST_RECORDS item.stamp.seq) (length item.deps == n)
    (and_from (is_within 1 n item.stamp.centre) (is_within 1 MOST_RECORDS item.stamp.seq) centre seq) width) modest) tx

-- the ask is a delivery
pub record IsDelivery (ask : Ask) : Type 0 where
  pub item : Record
  pub hops : ℕ
  pub is : ask ≡ Deliver item hops

-- no other ask can be answered with an orphan
orphan_asked : (ask : Ask) (number have : ℕ) → may_answer ask (Orphan number have) ≡ true → IsDelivery ask
orphan_asked (Deliver item hops) number have is = record { item = item; hops = hops; is = refl }
orphan_asked _ number have is = absurd (false≢true is)

-- so what is answered with an orphan is a delivery
pub delivery_by : (s : Settings) (trail : List Entry) (ask : Ask) (number have : ℕ) → Orphan number have ≡ answer s trail ask → IsDelivery ask
delivery_by s trail ask number have is = orphan_asked ask number have (answers_it s trail ask (Orphan number have) is (λ e. cc) (λ e. cc))

-- a delivered record that is an orphan after the records A: what it depends on is there, but not the
-- transaction before it
pub record OrphanBy (n : ℕ) (A : List Record) (item : Record) : Type 0 where
  pub covered : Covers (vector n A) item.deps
  pub far : guard item.tx.dot.client A + 2 ≤ item.tx.dot.number

-- an orphan, by the answer
pub orphan_by : (s : Settings) (trail : List Entry) (item : Record) (hops number have : ℕ) → Orphan number have ≡ answer s trail (Deliver item hops) → OrphanBy s.n (applied s.n trail) item
orphan_by s trail item hops number have is = deliver_holds (λ say. Orphan number have ≡ say → OrphanBy s.n (applied s.n trail) item) s (vector s.n (applied s.n trail)) (count item.stamp.centre (applied s.n trail)) (guard item.tx.dot.client (applied s.n trail)) item (
  when_holds _ _ _ (λ t e. absurd (cc)),
  λ old. (
    when_holds _ _ _ (λ t e. absurd (cc)),
    λ gap. (
      lack_holds _ Waits (λ c m h e. absurd (cc)) (vector s.n (applied s.n trail)) item.deps,
      λ waits. (
        when_holds _ _ _ (λ t e. record {
          covered = lack_none Waits (vector s.n (applied s.n trail)) item.deps waits;
          far = leb-true (guard item.tx.dot.client (applied s.n trail) + 2) item.tx.dot.number t;
        }),
        λ orphan e. absurd (cc),
      ),
    ),
  ),
) (fitting s trail (Deliver item hops) (Orphan number have) is (λ e. cc) (λ e. cc)).1

-- a delivered record that is applied after the records A
pub record AppliedBy (s : Settings) (A : List Record) (item : Record) (fresh : Bool) : Type 0 where
  pub fit : IsFitItem s.n item
  pub number : item.stamp.seq ≡ count item.stamp.centre A + 1
  pub other : item.stamp.centre ≡ s.me → ⊥
  pub covered : Covers (vector s.n A) item.deps
  pub next : item.tx.dot.number ≤ guard item.tx.dot.client A + 1
  pub is : fresh ≡ (item.tx.dot.number == guard item.tx.dot.client A + 1)

-- equal answers are of a new transaction alike
same_fresh : (a b : Bool) → Applied a ≡ Applied b → a ≡ b
same_fresh a b same = cc

-- a record is applied where no refusal comes
applied_row : (s : Settings) (A : List Record) (item : Record) (fresh : Bool) → is_fit_item s.n item ≡ true → Applied fresh ≡ deliver_answer s (vector s.n A) (count item.stamp.centre A) (guard item.tx.dot.client A) item → AppliedBy s A item fresh
applied_row s A item fresh fit = deliver_holds (λ say. Applied fresh ≡ say → AppliedBy s A item fresh) s (vector s.n A) (count item.stamp.centre A) (guard item.tx.dot.client A) item (
  when_holds _ _ _ (λ t e. absurd (cc)),
  λ old. (
    when_holds _ _ _ (λ t e. absurd (cc)),
    λ gap. (
      lack_holds _ Waits (λ c m h e. absurd (cc)) (vector s.n A) item.deps,
      λ waits. (
        when_holds _ _ _ (λ t e. absurd (cc)),
        λ orphan e.
            let low = leb-false item.stamp.seq (count item.stamp.centre A) (when_none _ _ old) in
            let far = or_parts _ _ (when_none _ _ gap) in
            let high = leb-false (count item.stamp.centre A + 2) item.stamp.seq far.0 in
            let next = leb-false (guard item.tx.dot.client A + 2) item.tx.dot.number (when_none _ _ orphan) in
            record {
              fit = item_fits s.n item fit;
              number = omega (arith, low, high);
              other = λ same. false≢true (sym far.1 ∙ eq-eqb item.stamp.centre s.me same);
              covered = lack_none Waits (vector s.n A) item.deps waits;
              next = omega (arith, next);
              is = same_fresh fresh _ e;
            },
      ),
    ),
  ),
)

-- what is applied, by the answer
pub applied_by : (s : Settings) (trail : List Entry) (item : Record) (hops : ℕ) (fresh : Bool) → Applied fresh ≡ answer s trail (Deliver item hops) → AppliedBy s (applied s.n trail) item fresh
applied_by s trail item hops fresh is =
    let fit = fitting s trail (Deliver item hops) (Applied fresh) is (λ e. cc) (λ e. cc) in
    applied_row s (applied s.n trail) item fresh (and_parts (is_fit_item s.n item) (nat_le hops MOST_HOPS) fit.0).0 fit.1
