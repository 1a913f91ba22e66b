-- What lines say is in range.
use Rattle.std.proofs.Common.{◌≡◌, ◌≤◌, ℕ, Bool, true, false, List, [], ◌∷◌, length, refl, ap, sym, ◌∙◌, subst, arith, eqb-true}
use Rattle.std.specs.Prelude.{◌&&◌, not, nat_lt, cond, find, Option, Some, None, Result, Ok, Err, IfSome}
use Rattle.std.specs.List.{list_any}
use Rattle.std.proofs.lemmas.Bool.{and_parts}
use Rattle.ids_core.specs.Ids.{same_sort}
use Rattle.ids_core.specs.Same.{same_sort-true}
use Rattle.ids_core.specs.declared.object.ObjectId.{ObjectId}
use Rattle.ids_core.specs.declared.object.Sort.TheVariants.{Counter}
use Rattle.ids_core.specs.declared.limits.TheConstants.{MOST_CENTRES, MOST_CLIENTS, MOST_CACHED, MOST_RECORDS}
use Rattle.script_core.specs.Steps.{IsCount, IsDetour, IsHeader, IsRoute, IsStepOf, is_cell_name}
use Rattle.script_core.specs.declared.limits.TheConstants.{MAX_LINE, MAX_LINES}
use Rattle.script_core.specs.declared.script.Header.{Header}
use Rattle.script_reader.specs.declared.fault.Cause.{Cause}
use Rattle.script_reader.specs.declared.fault.Cause.TheVariants as cause
use Rattle.script_core.specs.declared.script.TheConstants.{MOST_THREADS, MOST_ROUNDS}
use Rattle.script_reader.specs.declared.form.Form.{Form}
use Rattle.script_reader.specs.declared.form.Form.TheVariants as form
use Rattle.script_reader.specs.declared.form.Word.TheVariants as word
use Rattle.script_reader.specs.declared.form.Part.TheVariants.{Fixed, OtherHolder, Count, Bounded, Amount}
use Rattle.script_reader.specs.declared.said.Said.{Said}
use Rattle.script_reader.specs.declared.row.Row.{Row}
use Rattle.script_reader.specs.declared.row.Row.TheVariants as row
use Rattle.script_reader.specs.Words.{words_of, without_return, is_comment, is_plain_text}
use Rattle.script_reader.specs.Forms.{agrees, fits, forms, found, form_among, form_of, parts_of}
use Rattle.script_reader.specs.Said.{unsaid, said_words}
use Rattle.script_reader.specs.Shares.{is_cell}
use Rattle.script_reader.specs.Rows.{row_of, is_of_its_kind, kind_checked, row_said, row_spelled, row_in_words, row_in_text, row_in}
use Rattle.script_reader.proofs.Tapping.{IsTapOf}
use Rattle.script_reader.proofs.SaidRanges.{IsSaid, IsCounted, IsOther, IsThird, HasOwn, HasOther, count_of, unsaid_in_range, words_in_range, counted_in_range, route_said, detour_said, own_said, gift_said}

-- what a line sets is in its range
abbrev pub SetsInRange : Row → Type 0
SetsInRange (row.Centres n k) = IsCount MOST_CENTRES n × IsCount n k
SetsInRange (row.Clients clients) = IsCount MOST_CLIENTS clients
SetsInRange (row.Cache objects) = IsCount MOST_CACHED objects
SetsInRange (row.Limit most) = IsCount MOST_RECORDS most
SetsInRange (row.Threads most) = IsCount MOST_THREADS most
SetsInRange (row.Rounds rounds) = rounds ≤ MOST_ROUNDS
SetsInRange (row.Tap tapped) = Unit {0}
SetsInRange (row.Does step) = Unit {0}
SetsInRange row.Phase = Unit {0}
SetsInRange row.End = Unit {0}

-- its step, or its object on a tap, is one of a script with this header
abbrev pub DoesInRange : Header → Row → Type 0
DoesInRange h (row.Tap tapped) = IsTapOf h tapped
DoesInRange h (row.Does step) = IsStepOf h step
DoesInRange h _ = Unit {0}

-- both
pub record IsRowInRange (header : Option Header) (line : Row) : Type 0 where
  pub sets : SetsInRange line
  pub does : IfSome header (λ h. DoesInRange h line)

sets_in_range : (header : Option Header) (one : Form) (said : Said) → IsSaid header said → IsCounted (count_of (parts_of one)) unsaid said → SetsInRange (row_of one said)
unfolding row_of
sets_in_range header form.Centres said is counted = (is.n, is.k)
sets_in_range header form.Clients said is counted = counted
sets_in_range header form.Cache said is counted = counted
sets_in_range header form.Limit said is counted = counted
sets_in_range header form.Threads said is counted = counted
sets_in_range header form.Rounds said is counted = counted.1
sets_in_range header _ said is counted = tt

-- where a form has two centres, the second is another one, and where it has three, they differ; a share is the client's
-- own, and where a form has two holders, the second is another one
abbrev FitsTogether : Header → Form → Said → Type 0
FitsTogether h form.ShipOne said = IsOther h.n said
FitsTogether h form.Ship said = IsOther h.n said
FitsTogether h form.Relay said = IsThird h.n said
FitsTogether h form.Tell said = IsOther h.n said
FitsTogether h form.LinkDrop said = IsOther h.n said
FitsTogether h form.LinkTwice said = IsOther h.n said
FitsTogether h form.LinkHold said = IsOther h.n said
FitsTogether h form.LinkCut said = IsOther h.n said
FitsTogether h form.LinkBend said = IsOther h.n said
FitsTogether h form.LinkClean said = IsOther h.n said
FitsTogether h form.Grant said = HasOwn h said
FitsTogether h form.Give said = HasOwn h said × HasOther said
FitsTogether h form.Take said = HasOwn h said
FitsTogether h form.Rights said = HasOwn h said
FitsTogether h _ said = Unit {0}

-- the two centres of a form
is_route : (h : Header) (said : Said) → IsSaid (Some h) said → IsOther h.n said → IsRoute h.n said.centre said.other
is_route h said is route = record { from_there = is.centre; to_there = route.0; apart = route.1 }

-- the three centres of a form
is_detour : (h : Header) (said : Said) → IsSaid (Some h) said → IsThird h.n said → IsDetour h.n said.centre said.other said.third
is_detour h said is route = record { from_there = is.centre; origin_there = route.other.0; to_there = route.third; other_origin = route.other.1; apart = route.apart; away = route.away }

-- an addition is to no cell
spares_cells : (object : ObjectId) → object.sort ≡ Counter → is_cell object ≡ false → not (is_cell_name object.name) ≡ true
spares_cells object counter spares = ap not (sym (ap (λ sort. same_sort sort Counter && is_cell_name object.name) counter) ∙ spares)

does_in_range : (h : Header) (one : Form) (said : Said) → IsSaid (Some h) said → IsCounted (count_of (parts_of one)) unsaid said → FitsTogether h one said → is_of_its_kind (row_of one said) ≡ true → DoesInRange h (row_of one said)
unfolding row_of
does_in_range h form.Centres said is counted together kind = tt
does_in_range h form.Clients said is counted together kind = tt
does_in_range h form.Cache said is counted together kind = tt
does_in_range h form.Limit said is counted together kind = tt
does_in_range h form.Threads said is counted together kind = tt
does_in_range h form.Rounds said is counted together kind = tt
does_in_range h form.Tap said is counted together kind = (is.centre, is.object)
does_in_range h form.Connect said is counted together kind = (is.client, is.centre, tt)
does_in_range h form.Begin said is counted together kind = (is.client, tt, tt)
does_in_range h form.Inc said is counted together kind = (is.client, (same_sort-true _ _ kind, is.summand.named, is.delta, spares_cells said.summand (same_sort-true _ _ kind) is.summand.spares), tt)
does_in_range h form.Set said is counted together kind = (is.client, (same_sort-true _ _ kind, is.object, is.word, tt), tt)
does_in_range h form.Add said is counted together kind = (is.client, (same_sort-true _ _ kind, is.object, is.word, tt), tt)
does_in_range h form.Del said is counted together kind = (is.client, (same_sort-true _ _ kind, is.object, is.word, tt), tt)
does_in_range h form.Put said is counted together kind = (is.client, (same_sort-true _ _ kind, is.object, (is.key, is.word), tt), tt)
does_in_range h form.Drop said is counted together kind = (is.client, (same_sort-true _ _ kind, is.object, is.key, tt), tt)
does_in_range h form.Read said is counted together kind = (is.client, is.object, tt)
does_in_range h form.Grant said is counted together kind = (is.client, (is.share, is.amount), together)
does_in_range h form.Give said is counted together kind = (is.client, (is.share, together.1, is.amount), together.0)
does_in_range h form.Take said is counted together kind = (is.client, (is.share, is.amount), together)
does_in_range h form.Rights said is counted together kind = (is.client, is.share, together)
does_in_range h form.Commit said is counted together kind = (is.client, tt, tt)
does_in_range h form.Abort said is counted together kind = (is.client, tt, tt)
does_in_range h form.Push said is counted together kind = (is.client, tt, tt)
does_in_range h form.Flush said is counted together kind = (is.client, tt, tt)
does_in_range h form.Refresh said is counted together kind = (is.client, tt, tt)
does_in_range h form.Again said is counted together kind = (is.client, (is.centre, is.number), tt)
does_in_range h form.LoseAsk said is counted together kind = (is.client, tt, tt)
does_in_range h form.LoseReply said is counted together kind = (is.client, tt, tt)
does_in_range h form.AskTwice said is counted together kind = (is.client, tt, tt)
does_in_range h form.Look said is counted together kind = (is.client, (is.centre, is.object), tt)
does_in_range h form.Down said is counted together kind = is.centre
does_in_range h form.Up said is counted together kind = is.centre
does_in_range h form.ShipOne said is counted together kind = (is_route h said is together, counted)
does_in_range h form.Ship said is counted together kind = is_route h said is together
does_in_range h form.Relay said is counted together kind = is_detour h said is together
does_in_range h form.Tell said is counted together kind = is_route h said is together
does_in_range h form.Prune said is counted together kind = is.centre
does_in_range h form.Feed said is counted together kind = is.centre
does_in_range h form.LinkDrop said is counted together kind = (is_route h said is together, counted)
does_in_range h form.LinkTwice said is counted together kind = (is_route h said is together, counted)
does_in_range h form.LinkHold said is counted together kind = (is_route h said is together, counted)
does_in_range h form.LinkCut said is counted together kind = (is_route h said is together, counted)
does_in_range h form.LinkBend said is counted together kind = (is_route h said is together, counted)
does_in_range h form.LinkClean said is counted together kind = (is_route h said is together, tt)
does_in_range h form.Settle said is counted together kind = tt
does_in_range h form.Phase said is counted together kind = tt
does_in_range h form.End said is counted together kind = tt

fits_together : (h : Header) (one : Form) (texts : List (List ℕ)) (said : Said) → length (parts_of one) ≡ length texts → said_words (Some h) (parts_of one) texts unsaid ≡ Ok said → FitsTogether h one said
fits_together h form.ShipOne texts said same e = route_said h word.Ship (Count 1 1000000 ∷ []) texts unsaid said (omega arith) (tt, tt) e
fits_together h form.Ship texts said same e = route_said h word.Ship [] texts unsaid said (omega arith) tt e
fits_together h form.Relay texts said same e = detour_said h word.Relay texts unsaid said (omega arith) e
fits_together h form.Tell texts said same e = route_said h word.Tell [] texts unsaid said (omega arith) tt e
fits_together h form.LinkDrop texts said same e = route_said h word.Link (Fixed word.Drop ∷ Count 1 1000000 ∷ []) texts unsaid said (omega arith) (tt, (tt, tt)) e
fits_together h form.LinkTwice texts said same e = route_said h word.Link (Fixed word.Twice ∷ Count 1 1000000 ∷ []) texts unsaid said (omega arith) (tt, (tt, tt)) e
fits_together h form.LinkHold texts said same e = route_said h word.Link (Fixed word.Hold ∷ Count 1 1000000 ∷ []) texts unsaid said (omega arith) (tt, (tt, tt)) e
fits_together h form.LinkCut texts said same e = route_said h word.Link (Fixed word.Cut ∷ Count 1 1000000 ∷ []) texts unsaid said (omega arith) (tt, (tt, tt)) e
fits_together h form.LinkBend texts said same e = route_said h word.Link (Fixed word.Bend ∷ Count 1 1000000 ∷ []) texts unsaid said (omega arith) (tt, (tt, tt)) e
fits_together h form.LinkClean texts said same e = route_said h word.Link (Fixed word.Clean ∷ []) texts unsaid said (omega arith) (tt, tt) e
fits_together h form.Grant texts said same e = own_said h (Fixed word.Grant ∷ Bounded ∷ Amount ∷ []) texts unsaid said (omega arith) (tt, (tt, (tt, tt))) e
fits_together h form.Give texts said same e = (own_said h (Fixed word.Give ∷ Bounded ∷ OtherHolder ∷ Amount ∷ []) texts unsaid said (omega arith) (tt, (tt, (tt, (tt, tt)))) e, gift_said h word.Give texts unsaid said (omega arith) e)
fits_together h form.Take texts said same e = own_said h (Fixed word.Take ∷ Bounded ∷ Amount ∷ []) texts unsaid said (omega arith) (tt, (tt, (tt, tt))) e
fits_together h form.Rights texts said same e = own_said h (Fixed word.Rights ∷ Bounded ∷ []) texts unsaid said (omega arith) (tt, (tt, tt)) e
fits_together h _ texts said same e = tt

both_in_range : (header : Option Header) (one : Form) (texts : List (List ℕ)) (said : Said) → IfSome header IsHeader → length (parts_of one) ≡ length texts → said_words header (parts_of one) texts unsaid ≡ Ok said → is_of_its_kind (row_of one said) ≡ true → IsRowInRange header (row_of one said)
both_in_range None one texts said head same e kind =
    let is = words_in_range None (parts_of one) texts unsaid said e (unsaid_in_range None head) in
    record { sets = sets_in_range None one said is (counted_in_range None (parts_of one) texts unsaid said same e); does = tt }
both_in_range (Some h) one texts said head same e kind =
    let is = words_in_range (Some h) (parts_of one) texts unsaid said e (unsaid_in_range (Some h) head) in
    let counted = counted_in_range (Some h) (parts_of one) texts unsaid said same e in
    record { sets = sets_in_range (Some h) one said is counted; does = does_in_range h one said is counted (fits_together h one texts said same e) kind }

-- ---- a line

-- what is found passes
find_passes : {X : Type 0} (p : X → Bool) (xs : List X) (x : X) → find p xs ≡ Some x → p x ≡ true
find_passes p [] x e = absurd (cc)
find_passes p (y ∷ ys) x e = go (p y) refl e (find_passes p ys x)
  where
    go : (b : Bool) → p y ≡ b → cond b (Some y) (find p ys) ≡ Some x → (find p ys ≡ Some x → p x ≡ true) → p x ≡ true
    go true is same later = let this : y ≡ x = cc in ap p (sym this) ∙ is
    go false is rest later = later rest

-- the form of words has as many
form_counts : (texts : List (List ℕ)) (one : Form) → form_of texts ≡ Ok one → length (parts_of one) ≡ length texts
unfolding form_among
form_counts texts one is = go (find (λ f. fits (parts_of f) texts) forms) refl (list_any (λ f. agrees (parts_of f) texts) forms) is
  where
    go : (f : Option Form) → find (λ f. fits (parts_of f) texts) forms ≡ f → (some : Bool) → found f some ≡ Ok one → length (parts_of one) ≡ length texts
    go None e some bad = absurd (cc)
    go (Some other) e some ok = let same : other ≡ one = cc in eqb-true _ _ (and_parts _ _ (find_passes (λ f. fits (parts_of f) texts) forms one (e ∙ ap Some same))).0

kind_in_range : (header : Option Header) (one : Form) (texts : List (List ℕ)) (said : Said) (line : Row) → IfSome header IsHeader → length (parts_of one) ≡ length texts → said_words header (parts_of one) texts unsaid ≡ Ok said → kind_checked (row_of one said) ≡ Ok (Some line) → IsRowInRange header line
kind_in_range header one texts said line head same e is = go (is_of_its_kind (row_of one said)) refl is
  where
    go : (kind : Bool) → is_of_its_kind (row_of one said) ≡ kind → cond kind (Ok (Some (row_of one said))) (Err cause.Kind) ≡ Ok (Some line) → IsRowInRange header line
    go false k bad = absurd (cc)
    go true k ok = subst (IsRowInRange header) (let this : row_of one said ≡ line = cc in this) (both_in_range header one texts said head same e k)

words_row : (header : Option Header) (texts : List (List ℕ)) (line : Row) → IfSome header IsHeader → row_in_words header texts ≡ Ok (Some line) → IsRowInRange header line
words_row header texts line head is = go (form_of texts) refl is
  where
    said_row : (one : Form) → form_of texts ≡ Ok one → (r : Result Said Cause) → said_words header (parts_of one) texts unsaid ≡ r → row_said one r ≡ Ok (Some line) → IsRowInRange header line
    said_row one f (Ok said) e k = kind_in_range header one texts said line head (form_counts texts one f) e k
    said_row one f (Err why) e k = absurd (cc)

    go : (r : Result Form Cause) → form_of texts ≡ r → row_spelled header texts r ≡ Ok (Some line) → IsRowInRange header line
    go (Ok one) f e = said_row one f (said_words header (parts_of one) texts unsaid) refl e
    go (Err why) f e = absurd (cc)

-- what a line says that is taken is in range
pub row_in_range : (header : Option Header) (number : ℕ) (text : List ℕ) (line : Row) → IfSome header IsHeader → row_in header number text ≡ Ok (Some line) → IsRowInRange header line
unfolding row_in row_in_text
row_in_range header number text line head is = go (nat_lt MAX_LINES number) (nat_lt MAX_LINE (length text)) (is_comment (words_of (without_return text))) (is_plain_text (without_return text)) is
  where
    go : (late long comment plain : Bool)
        → cond late (Err cause.Many) (cond long (Err cause.Long) (cond comment (Ok None) (cond plain (row_in_words header (words_of (without_return text))) (Err cause.Byte)))) ≡ Ok (Some line)
        → IsRowInRange header line
    go true long comment plain e = absurd (cc)
    go false true comment plain e = absurd (cc)
    go false false true plain e = absurd (cc)
    go false false false false e = absurd (cc)
    go false false false true e = words_row header (words_of (without_return text)) line head e
