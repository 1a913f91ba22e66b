-- A file of entries is read one entry after another.
use Rattle.std.proofs.Common.{◌≡◌, ◌≢◌, ◌⊎◌, inl, inr, ℕ, ◌+◌, ◌<◌, ◌≤◌, List, [], ◌∷◌, ◌++◌, length, get_or, take, drop, Option, Some, None, refl, sym, ◌∙◌, ap, subst, arith, append_assoc, length-append, take-append-drop}
use Rattle.std.proofs.lemmas.List.{append-nil, take_at, drop_at, drop_more, drop_all, length-take-le}
use Rattle.journal_file.specs.Journal.{Entries, EndsAt, FileOf, IsBadAt}
use Rattle.journal_file.proofs.Items.{entries_more}

module _ {T : Type 0} (spelled : T → List ℕ) where
  -- a closed gate ends the items
  pub stops : (left : List T) (r : List ℕ) → FileOf spelled left (0 ∷ r) → left ≡ []
  stops [] r f = refl
  stops (y ∷ ys) r f =
      let e = f.1.entries in
      let same : 0 ∷ r ≡ (e.0 ∷ (spelled y ++ e.1.0)) ++ 0 ∷ f.1.tail = f.1.file_is ∙ ap (λ (l : List ℕ). l ++ 0 ∷ f.1.tail) e.1.1.1.0 in
      let gate : 0 ≡ e.0 = ap (λ (l : List ℕ). get_or l 0 1) same in
      absurd (e.1.1.0 (sym gate))

  -- no file of items is empty
  pub not_empty : (left : List T) → FileOf spelled left [] → ⊥
  not_empty left f = omega (arith, ap length f.1.file_is, length-append f.1.front (0 ∷ f.1.tail))

  -- behind any other gate stand the first of them and then a file of the others
  pub record Went (left : List T) (r : List ℕ) : Type 0 where
    pub first : T
    pub others : List T
    pub rest : List ℕ
    pub left_is : left ≡ first ∷ others
    pub r_is : r ≡ spelled first ++ rest
    pub file : FileOf spelled others rest

  pub goes : (left : List T) (gate : ℕ) (r : List ℕ) → gate ≢ 0 → FileOf spelled left (gate ∷ r) → Went left r
  goes [] gate r unshut f =
      let same : gate ∷ r ≡ 0 ∷ f.1.tail = f.1.file_is ∙ ap (λ (l : List ℕ). l ++ 0 ∷ f.1.tail) f.1.entries in
      absurd (unshut (ap (λ (l : List ℕ). get_or l 0 1) same))
  goes (y ∷ ys) gate r unshut f =
      let e = f.1.entries in
      let same : gate ∷ r ≡ (e.0 ∷ (spelled y ++ e.1.0)) ++ 0 ∷ f.1.tail = f.1.file_is ∙ ap (λ (l : List ℕ). l ++ 0 ∷ f.1.tail) e.1.1.1.0 in
      record {
        first = y;
        others = ys;
        rest = e.1.0 ++ 0 ∷ f.1.tail;
        left_is = refl;
        r_is = ap (drop 1) same ∙ append_assoc (spelled y) e.1.0 (0 ∷ f.1.tail);
        file = (length e.1.0, record { front = e.1.0; tail = f.1.tail; entries = e.1.1.1.1; file_is = refl; place = refl });
      }

  -- how far a file was read
  pub record IsRead (bytes : List ℕ) (at : ℕ) (items : List T) : Type 0 where
    pub within : at ≤ length bytes
    pub entries : Entries spelled items (take at bytes)
    pub left : (xs : List T) → FileOf spelled xs bytes → (ys : List T) × ((xs ≡ items ++ ys) × FileOf spelled ys (drop at bytes))

  module _ (bytes : List ℕ) (at : ℕ) (items : List T) (read : IsRead bytes at items) where
    -- up to its end
    pub ends_bad : length bytes ≤ at → (xs : List T) → FileOf spelled xs bytes → ⊥
    ends_bad ended xs f =
        let l = read.left xs f in
        not_empty l.0 (subst (FileOf spelled l.0) (drop_all at bytes ended) l.1.1)

    bad_at : (bad : (drop at bytes ≡ []) ⊎ ((gate : ℕ) × ((behind : List ℕ) × ((drop at bytes ≡ gate ∷ behind) × ((gate ≢ 0) × ((x : T) (more : List ℕ) → behind ≡ spelled x ++ more → ⊥)))))) → IsBadAt spelled at bytes
    bad_at bad = record {
      items = items;
      front = take at bytes;
      rest = drop at bytes;
      entries = read.entries;
      file_is = sym (take-append-drop at bytes);
      at = sym (length-take-le at bytes read.within);
      bad = bad;
    }

    pub end_place : length bytes ≤ at → IsBadAt spelled at bytes
    end_place ended = bad_at (inl (drop_all at bytes ended))

    module _ (inside : at < length bytes) where
      split : drop at bytes ≡ get_or bytes at 0 ∷ drop (at + 1) bytes
      split = drop_more bytes at 0 inside

      whole : bytes ≡ take at bytes ++ get_or bytes at 0 ∷ drop (at + 1) bytes
      whole = sym (take-append-drop at bytes) ∙ ap (λ (l : List ℕ). take at bytes ++ l) split

      -- up to a closed gate
      module _ (shut : get_or bytes at 0 ≡ 0) where
        pub ends_at : EndsAt spelled items at bytes
        ends_at = record {
          front = take at bytes;
          tail = drop (at + 1) bytes;
          entries = read.entries;
          file_is = whole ∙ ap (λ (gate : ℕ). take at bytes ++ gate ∷ drop (at + 1) bytes) shut;
          place = sym (length-take-le at bytes read.within);
        }

        pub ends_only : (xs : List T) → FileOf spelled xs bytes → items ≡ xs
        ends_only xs f =
            let l = read.left xs f in
            let none = stops l.0 (drop (at + 1) bytes) (subst (FileOf spelled l.0) (split ∙ ap (λ (gate : ℕ). gate ∷ drop (at + 1) bytes) shut) l.1.1) in
            sym (l.1.0 ∙ ap (λ (ys : List T). items ++ ys) none ∙ append-nil items)

      -- up to another gate
      module _ (unshut : get_or bytes at 0 ≢ 0) (found : Option (T × ℕ)) (is : (x : T) (rest : List ℕ) → drop (at + 1) bytes ≡ spelled x ++ rest → found ≡ Some (x, length (spelled x))) where
        go : (xs : List T) (f : FileOf spelled xs bytes) → Went (read.left xs f).0 (drop (at + 1) bytes)
        go xs f = let l = read.left xs f in goes l.0 (get_or bytes at 0) (drop (at + 1) bytes) unshut (subst (FileOf spelled l.0) split l.1.1)

        pub none_bad : found ≡ None → (xs : List T) → FileOf spelled xs bytes → ⊥
        none_bad none xs f =
            let w = go xs f in
            let both : None ≡ Some (w.first, length (spelled w.first)) = sym none ∙ is w.first w.rest w.r_is in
            cc both

        pub none_place : found ≡ None → IsBadAt spelled at bytes
        none_place none = bad_at (inr (get_or bytes at 0, (drop (at + 1) bytes, (split, (unshut, none_there)))))
          where
            none_there : (x : T) (more : List ℕ) → drop (at + 1) bytes ≡ spelled x ++ more → ⊥
            none_there x more begins =
                let both : None ≡ Some (x, length (spelled x)) = sym none ∙ is x more begins in
                cc both

        pub grows : (x : T) (n : ℕ) → found ≡ Some (x, n) → drop (at + 1) bytes ≡ spelled x ++ drop n (drop (at + 1) bytes) → n ≡ length (spelled x) → IsRead bytes (at + (1 + n)) (items ++ x ∷ [])
        grows x n some begins count = record {
          within = omega (arith, ap length parts, length-append front tail, long);
          entries = subst (Entries spelled (items ++ x ∷ [])) (sym (ap (take (at + (1 + n))) parts ∙ take_at front tail (at + (1 + n)) long)) (entries_more spelled items (x ∷ []) (take at bytes) (gate ∷ spelled x) read.entries one);
          left = λ xs f. after xs f;
        }
          where
            gate : ℕ
            gate = get_or bytes at 0

            tail : List ℕ
            tail = drop n (drop (at + 1) bytes)

            front : List ℕ
            front = take at bytes ++ gate ∷ spelled x

            parts : bytes ≡ front ++ tail
            parts = whole ∙ ap (λ (l : List ℕ). take at bytes ++ gate ∷ l) begins ∙ sym (append_assoc (take at bytes) (gate ∷ spelled x) tail)

            long : length front ≡ at + (1 + n)
            long = omega (arith, length-append (take at bytes) (gate ∷ spelled x), length-take-le at bytes read.within, count)

            one : Entries spelled (x ∷ []) (gate ∷ spelled x)
            one = (gate, ([], (unshut, (ap (λ (l : List ℕ). gate ∷ l) (sym (append-nil (spelled x))), refl))))

            after : (xs : List T) → FileOf spelled xs bytes → (ys : List T) × ((xs ≡ items ++ x ∷ [] ++ ys) × FileOf spelled ys (drop (at + (1 + n)) bytes))
            after xs f =
                let w = go xs f in
                let both : Some (x, n) ≡ Some (w.first, length (spelled w.first)) = sym some ∙ is w.first w.rest w.r_is in
                let pair : (x, n) ≡ (w.first, length (spelled w.first)) = cc both in
                let same : x ≡ w.first = ap (λ (p : T × ℕ). p.0) pair in
                let size : n ≡ length (spelled w.first) = ap (λ (p : T × ℕ). p.1) pair in
                let rest_is : drop (at + (1 + n)) bytes ≡ w.rest =
                ap (drop (at + (1 + n))) parts ∙ drop_at front tail (at + (1 + n)) long ∙ ap (drop n) w.r_is ∙ drop_at (spelled w.first) w.rest n (sym size) in
                let list : xs ≡ (items ++ x ∷ []) ++ w.others =
                (read.left xs f).1.0 ∙ ap (λ (ys : List T). items ++ ys) w.left_is ∙ ap (λ (y : T). items ++ y ∷ w.others) (sym same) ∙ sym (append_assoc items (x ∷ []) w.others) in
                (w.others, (list, subst (FileOf spelled w.others) (sym rest_is) w.file))
