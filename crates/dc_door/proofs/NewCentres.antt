-- New centres, one after the other.
use Rattle.std.proofs.Common.{◌≡◌, ◌≤◌, ℕ, ◌+◌, ◌-◌, List, [], ◌∷◌, ◌++◌, map, length, sym, ap, ◌∙◌, arith}
use Rattle.std.specs.List.{range_with_len}
use Rattle.std.proofs.lemmas.List.{map-append, length-map}
use Rattle.std.proofs.lemmas.List.FromFn.{map-range_with_len_more, length-map-range_with_len}
use Rattle.dc_talk.specs.declared.settings.Settings.{Settings}
use Rattle.dc_talk.specs.Entries.{Entry}
use Rattle.dc_door.specs.Centres.{CentreTrail, KeptCentre, seen_of, all_seen, new_centre}

-- the new centres below a number
abbrev pub centres_below : ℕ → ℕ → ℕ → ℕ → List CentreTrail
centres_below n k limit next = map (new_centre n k limit) (range_with_len 1 (next - 1))

-- with the centre of that number there is one more
pub centres_more : (n k limit next : ℕ) (kept : List KeptCentre) (one : KeptCentre) → 1 ≤ next → all_seen kept ≡ centres_below n k limit next → seen_of one ≡ new_centre n k limit next → all_seen (kept ++ one ∷ []) ≡ centres_below n k limit (next + 1)
centres_more n k limit next kept one low before is =
    let here : 1 + (next - 1) ≡ next = omega arith in
    let there : next + 1 - 1 ≡ next - 1 + 1 = omega arith in
    map-append seen_of kept (one ∷ [])
    ∙ (ap (λ seen. seen ++ seen_of one ∷ []) before
    ∙ (ap (λ centre. centres_below n k limit next ++ centre ∷ []) is
    ∙ (sym (map-range_with_len_more (new_centre n k limit) 1 (next - 1) next here)
    ∙ ap (λ count. map (new_centre n k limit) (range_with_len 1 count)) (sym there))))

-- a centre with these settings and no entries is a new one
pub is_new : (n k limit me : ℕ) (one : KeptCentre) → one.machine.settings ≡ record { me = me; n = n; k = k; limit = limit } → one.trail.entries ≡ [] → seen_of one ≡ new_centre n k limit me
is_new n k limit me one settings entries =
    let with : Settings → List Entry → CentreTrail = λ settings entries. record { settings = settings; entries = entries } in
    ap (λ settings. with settings one.trail.entries) settings ∙ ap (with (record { me = me; n = n; k = k; limit = limit })) entries

-- behind the last number all are there
pub number_of_all : (n k limit next : ℕ) (kept : List KeptCentre) → next ≡ n + 1 → all_seen kept ≡ centres_below n k limit next → length kept ≡ n
number_of_all n k limit next kept is all =
    let count : next - 1 ≡ n = omega arith in
    sym (length-map kept seen_of) ∙ (ap length all ∙ (length-map-range_with_len (new_centre n k limit) 1 (next - 1) ∙ count))
