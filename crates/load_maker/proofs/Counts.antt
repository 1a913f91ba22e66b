-- How many lines a made script has.
use Rattle.std.proofs.Common.{◌≡◌, ℕ, zero, suc, ◌+◌, ◌*◌, List, [], ◌∷◌, ◌++◌, length, refl, ap, ◌∙◌, arith}
use Rattle.std.specs.Prelude.{flat_map}
use Rattle.std.specs.List.{range_with_len}
use Rattle.std.proofs.lemmas.List.{length-append}
use Rattle.load_maker.specs.declared.line.Line.TheVariants.{Phase, End, Settle, Begin, IncTotal, ReadTotal, Commit, Push, Refresh}
use Rattle.load_maker.specs.Draws.{drawn, next_state}
use Rattle.load_maker.specs.Made.{Block, lines_made, state_behind, fixed, outage, connect, change, change_of, transaction, transactions, client_load, loads, phase, phases, flush, flushes, last_read, last_reads, ending, body}
use Rattle.load_maker.proofs.Blocks.{lines_made-append}

-- blocks have so many lines, whatever is drawn
abbrev pub Counts : ℕ → List Block → Type 0
Counts n made = (state : ℕ) → length (lines_made made state) ≡ n

counts_both : (m n : ℕ) (xs ys : List Block) → Counts m xs → Counts n ys → Counts (m + n) (xs ++ ys)
counts_both m n xs ys front rest state =
    ap length (lines_made-append xs ys state)
    ∙ length-append (lines_made xs state) (lines_made ys (state_behind xs state))
    ∙ ap (λ k. k + length (lines_made ys (state_behind xs state))) (front state)
    ∙ ap (λ k. m + k) (rest (state_behind xs state))

counts_joined : (f : ℕ → List Block) (each first count : ℕ) → ((k : ℕ) → Counts each (f k)) → Counts (count * each) (flat_map f (range_with_len first count))
counts_joined f each first zero counts state = omega arith
counts_joined f each first (suc count) counts state = counts_both each (count * each) (f first) (flat_map f (range_with_len (first + 1) count)) (counts first) (counts_joined f each (first + 1) count counts) state ∙ omega arith

change_counts : (client kind state : ℕ) → length (change_of client kind state).0 ≡ 1
change_counts client zero state = refl
change_counts client (suc zero) state = refl
change_counts client (suc (suc zero)) state = refl
change_counts client (suc (suc (suc kind))) state = refl

transaction_counts : (client : ℕ) → Counts 6 (transaction client)
transaction_counts client =
    counts_both 2 4 (fixed (Begin client ∷ IncTotal client ∷ []) ∷ []) (change client ∷ fixed (ReadTotal client ∷ Commit client ∷ Push client ∷ []) ∷ []) (λ state. refl)
    (counts_both 1 3 (change client ∷ []) (fixed (ReadTotal client ∷ Commit client ∷ Push client ∷ []) ∷ []) (λ state. length-append (change client state).0 [] ∙ ap (λ k. k + 0) (change_counts client (drawn 4 state) (next_state state))) (λ state. refl))

load_counts : (turns client : ℕ) → Counts (1 + (turns * 6 + 1)) (client_load turns client)
load_counts turns client = counts_both 1 (turns * 6 + 1) (connect client ∷ []) (transactions client turns ++ fixed (Refresh client ∷ []) ∷ []) (λ state. refl) (counts_both (turns * 6) 1 (transactions client turns) (fixed (Refresh client ∷ []) ∷ []) (counts_joined (λ turn. transaction client) 6 1 turns (λ k. transaction_counts client)) (λ state. refl))

phase_counts : (turns clients : ℕ) → Counts (6 + (clients * (1 + (turns * 6 + 1)) + 1)) (phase turns clients)
phase_counts turns clients = counts_both 6 (clients * (1 + (turns * 6 + 1)) + 1) (fixed (Phase ∷ []) ∷ outage ∷ []) (loads turns clients ++ fixed (End ∷ []) ∷ []) (λ state. refl) (counts_both (clients * (1 + (turns * 6 + 1))) 1 (loads turns clients) (fixed (End ∷ []) ∷ []) (counts_joined (client_load turns) (1 + (turns * 6 + 1)) 1 clients (load_counts turns)) (λ state. refl))

-- so has what is done behind the phases
ending_counts : (clients : ℕ) → Counts ((1 + clients * 2) + (1 + clients * 2)) (ending clients)
ending_counts clients =
    counts_both (1 + clients * 2) (1 + clients * 2) (fixed (Settle ∷ []) ∷ flushes clients) (fixed (Settle ∷ []) ∷ last_reads clients)
    (counts_both 1 (clients * 2) (fixed (Settle ∷ []) ∷ []) (flushes clients) (λ state. refl) (counts_joined flush 2 1 clients (λ k state. refl)))
    (counts_both 1 (clients * 2) (fixed (Settle ∷ []) ∷ []) (last_reads clients) (λ state. refl) (counts_joined last_read 2 1 clients (λ k state. refl)))

-- what is done in a script has so many lines
pub body_counts : (turns clients many : ℕ) → Counts (many * (6 + (clients * (1 + (turns * 6 + 1)) + 1)) + ((1 + clients * 2) + (1 + clients * 2))) (body turns clients many)
unfolding body
body_counts turns clients many =
    counts_both (many * (6 + (clients * (1 + (turns * 6 + 1)) + 1))) ((1 + clients * 2) + (1 + clients * 2)) (phases turns clients many) (ending clients)
    (counts_joined (λ turn. phase turns clients) (6 + (clients * (1 + (turns * 6 + 1)) + 1)) 1 many (λ k. phase_counts turns clients))
    (ending_counts clients)
