-- A count of lines, byte by byte.
use Rattle.std.proofs.Common.{◌≡◌, ◌≢◌, ◌<◌, ◌≤◌, ℕ, ◌+◌, List, [], ◌∷◌, ◌++◌, length, refl, ap, sym, ◌∙◌, append_assoc, arith}
use Rattle.std.specs.Prelude.{◌==◌, cond}
use Rattle.std.proofs.lemmas.List.{append-nil, length_push}
use Rattle.std.proofs.lemmas.List.Elements.{All-nil, All-push}
use Rattle.std.proofs.lemmas.List.Sums.{sum_by-append}
use Rattle.script_core.specs.Limits.{line_feeds, PassesLimits}
use Rattle.script_core.specs.LineCounts.{HasLines}
use Rattle.script_core.specs.declared.limits.TheConstants.{MAX_LINE, MAX_LINES}
use Rattle.script_core.proofs.LongTexts.{none_passes, longest_none, longest_byte, longest_feed, within_more, long_more, many_more}

pub lines_none : HasLines 0 0 []
lines_none = record {
  feed_count = refl;
  before = [];
  line = [];
  parts = refl;
  one_line = All-nil (λ b. b ≢ 10);
  line_length = refl;
  longest = longest_none;
  limits = none_passes;
}

feeds_more : (seen : List ℕ) (b : ℕ) → line_feeds (seen ++ b ∷ []) ≡ line_feeds seen + line_feeds (b ∷ [])
feeds_more seen b = sum_by-append (λ x. cond (x == 10) 1 0) seen (b ∷ [])

feed_is_one : (b : ℕ) → b ≡ 10 → line_feeds (b ∷ []) ≡ 1
feed_is_one b e = ap (λ x. line_feeds (x ∷ [])) e

plain_is_none : (b : ℕ) → b ≢ 10 → line_feeds (b ∷ []) ≡ 0
plain_is_none b n = grind arith

pub lines_feed : (feeds column b : ℕ) (seen : List ℕ) → b ≡ 10 → feeds < MAX_LINES → HasLines feeds column seen → HasLines (feeds + 1) 0 (seen ++ b ∷ [])
lines_feed feeds column b seen feed few h =
    let count : line_feeds seen ≡ feeds = h.feed_count in
    record {
      feed_count = feeds_more seen b ∙ (let one = feed_is_one b feed in omega arith);
      before = seen ++ b ∷ [];
      line = [];
      parts = sym (append-nil (seen ++ b ∷ []));
      one_line = All-nil (λ x. x ≢ 10);
      line_length = refl;
      longest = longest_feed seen b feed;
      limits = within_more seen b 0 h.limits (omega arith) (longest_feed seen b feed) (omega arith);
    }

pub lines_byte : (feeds column b : ℕ) (seen : List ℕ) → b ≢ 10 → feeds < MAX_LINES → column < MAX_LINE → HasLines feeds column seen → HasLines feeds (column + 1) (seen ++ b ∷ [])
lines_byte feeds column b seen plain few short h =
    let count : line_feeds seen ≡ feeds = h.feed_count in
    let open_length : length h.line ≡ column = h.line_length in
    let longest = longest_byte seen column b h.longest in
    record {
      feed_count = feeds_more seen b ∙ (let none = plain_is_none b plain in omega arith);
      before = h.before;
      line = h.line ++ b ∷ [];
      parts = ap (λ xs. xs ++ b ∷ []) h.parts ∙ append_assoc h.before h.line (b ∷ []);
      one_line = All-push (λ x. x ≢ 10) h.line b h.one_line plain;
      line_length = length_push h.line b ∙ omega arith;
      longest = longest;
      limits = within_more seen b (column + 1) h.limits (omega arith) longest (omega arith);
    }

pub lines_too_many : (feeds column b : ℕ) (seen : List ℕ) → MAX_LINES ≤ feeds → HasLines feeds column seen → PassesLimits (seen ++ b ∷ [])
lines_too_many feeds column b seen many h = many_more seen b (let count : line_feeds seen ≡ feeds = h.feed_count in omega arith)

pub lines_too_long : (feeds column b : ℕ) (seen : List ℕ) → b ≢ 10 → MAX_LINE ≤ column → HasLines feeds column seen → PassesLimits (seen ++ b ∷ [])
lines_too_long feeds column b seen plain full h = long_more seen h.before h.line b h.parts h.one_line plain (let column_is : length h.line ≡ column = h.line_length in omega arith)
