-- Keys, from those of each tuple to those of each specification, and back.
use Rattle.std.proofs.Common.{◌≡◌, ℕ, zero, suc, ◌+◌, ◌<◌, ◌≤◌, List, [], ◌∷◌, ◌++◌, map, take, drop, set, length, get_or, replicate, fold, slice_index_or, refl, ap, sym, ◌∙◌, arith}
use Rattle.std.specs.Global.{Vec}
use Rattle.std.specs.List.{All, range_with_len, enumerate_from, zip}
use Rattle.std.proofs.lemmas.List.{append_assoc, append-nil, length-map, get_or-drop, map_push, take_all, drop_all, drop_more, take_more_set, drop-set-lt, drop-drop, get_or-take}
use Rattle.std.proofs.lemmas.List.FromFn.{length-range_with_len}
use Rattle.std.proofs.lemmas.List.Elements.{All-nil, All-cons, All-head, All-tail}
use Rattle.xq_atoms.specs.declared.atoms.Atom.{Atom}
use Rattle.xq_trees.specs.Tuples.{extended, key_rows}
use Rattle.xq_tuples.specs.declared.rows.Key.{Key}
use Rattle.xq_tuples.specs.Keys.{atomics_of, column_of, values_in, row_of, by_specification, by_tuple}
use Rattle.xq_tuples.specs.private.Columns.{filled, after_tuples}
use Rattle.xq_tuples.proofs.Lists.{map-map}

-- # Keys by specification, from those by tuple

always : {X : Type 0} (P : List X → Type 0) (f : ℕ → List X) → ((i : ℕ) → P (f i)) → (a n : ℕ) → All P (map f (range_with_len a n))
always P f h a zero = All-nil P
always P f h a (suc n) = All-cons P (f a) (map f (range_with_len (a + 1) n)) (h a) (always P f h (a + 1) n)

-- one column more has the next value, where f reads a column
pub filled_more : {X A : Type 0} (f : X → List (List A)) (columns : List X) (i : ℕ) (d put : X) (value : List A) (left later : List (List A)) (all : List (List (List A))) → i < length columns
    → f put ≡ f (get_or columns i d) ++ value ∷ [] → value ≡ slice_index_or left 0 [] → later ≡ drop 1 left
    → map f (take i columns) ++ filled (map f (drop i columns)) left ≡ all
    → map f (take (i + 1) (set columns i put)) ++ filled (map f (drop (i + 1) (set columns i put))) later ≡ all
filled_more f columns i d put value left later all within longer next rest so_far =
    let before = map f (take i columns) in
    let after = map f (drop (i + 1) columns) in
    let front : map f (take (i + 1) (set columns i put)) ≡ before ++ f put ∷ [] = ap (map f) (take_more_set columns i put within) ∙ map_push f (take i columns) put in
    let back : map f (drop (i + 1) (set columns i put)) ≡ after = ap (map f) (drop-set-lt (i + 1) columns i put (omega arith)) in
    let here : f put ≡ f (get_or columns i d) ++ slice_index_or left 0 [] ∷ [] = longer ∙ ap (λ v. f (get_or columns i d) ++ v ∷ []) next in
    (λ t. front t ++ filled (back t) (rest t))
    ∙ append_assoc before (f put ∷ []) (filled after (drop 1 left))
    ∙ ap (λ column. before ++ (column ∷ filled after (drop 1 left))) here
    ∙ ap (λ cs. before ++ filled (map f cs) left) (sym (drop_more columns i d within))
    ∙ so_far

-- all of them have theirs
pub filled_all : {X A : Type 0} (f : X → List (List A)) (columns : List X) (n : ℕ) (left : List (List A)) (all : List (List (List A))) → length columns ≤ n → map f (take n columns) ++ filled (map f (drop n columns)) left ≡ all → map f columns ≡ all
filled_all f columns n left all past so_far =
    sym (append-nil (map f columns)) ∙ (λ t. map f (sym (take_all n columns past) t) ++ filled (map f (sym (drop_all n columns past) t)) left) ∙ so_far

pub dropped_more : {A : Type 0} (i : ℕ) (left all : List A) → left ≡ drop i all → drop 1 left ≡ drop (i + 1) all
dropped_more i left all e = ap (drop 1) e ∙ drop-drop 1 i all

-- columns without a value
pub none_filled : {A : Type 0} (a n : ℕ) → replicate {A = List A} n [] ≡ map (λ (i : ℕ). []) (range_with_len a n)
none_filled a zero = refl
none_filled a (suc n) = ap (λ l. [] ∷ l) (none_filled (a + 1) n)

module _ {A : Type 0} where
  abbrev nothing : List A
  nothing = []

  filled_from : (f : ℕ → List (List A)) (g : ℕ → List A) (a n : ℕ) (values : List (List A)) → ((i : ℕ) → i < n → get_or values i nothing ≡ g (a + i)) → filled (map f (range_with_len a n)) values ≡ map (λ i. f i ++ g i ∷ []) (range_with_len a n)
  filled_from f g a zero values h = refl
  filled_from f g a (suc n) values h =
      let z : a + 0 ≡ a = omega arith in
      let here : get_or values 0 nothing ≡ g a = h 0 (omega arith) ∙ ap g z in
      let later = filled_from f g (a + 1) n (drop 1 values)
      (λ i l. (let one : 1 + i ≡ suc i = omega arith in let s : a + suc i ≡ a + 1 + i = omega arith in get_or-drop 1 values i nothing ∙ ap (λ j. get_or values j nothing) one ∙ h (suc i) (omega (arith, l)) ∙ ap g s)) in
      λ t. (f a ++ here t ∷ []) ∷ later t

  -- the columns of one tuple more
  pub by_specification-push : (n : ℕ) (rows : List (List (List A))) (row : List (List A)) → filled (by_specification n rows) row ≡ by_specification n (rows ++ row ∷ [])
  by_specification-push n rows row =
      filled_from (λ i. map (λ r. slice_index_or r i nothing) rows) (λ i. slice_index_or row i nothing) 0 n row (λ i l. (let z : i ≡ 0 + i = omega arith in ap (λ j. get_or row j nothing) z))
      ∙ (λ t. map (λ i. sym (map_push (λ (r : List (List A)). slice_index_or r i nothing) rows row) t) (range_with_len 0 n))

  -- and where there are more keys than the tuple's
  by_specification-first : (n : ℕ) (rows : List (List (List A))) (left : List (List A)) → filled (by_specification n rows) left ≡ by_specification n (rows ++ take n left ∷ [])
  by_specification-first n rows left =
      filled_from (λ i. map (λ r. slice_index_or r i nothing) rows) (λ i. slice_index_or (take n left) i nothing) 0 n left (λ i l. (let z : i ≡ 0 + i = omega arith in sym (get_or-take n left i nothing l) ∙ ap (λ j. get_or (take n left) j nothing) z))
      ∙ (λ t. map (λ i. sym (map_push (λ (r : List (List A)). slice_index_or r i nothing) rows (take n left)) t) (range_with_len 0 n))

  by_tuple-more : (m n : ℕ) (keys : List (List A)) → by_tuple (suc m) n keys ≡ by_tuple m n keys ++ take n (after_tuples m n keys) ∷ []
  by_tuple-more zero n keys = refl
  by_tuple-more (suc m) n keys = ap (λ rows. take n keys ∷ rows) (by_tuple-more m n (drop n keys))

  -- the columns of one tuple more, of keys that stand one tuple after another
  pub by_tuple-push : (m n : ℕ) (keys : List (List A)) → filled (by_specification n (by_tuple m n keys)) (after_tuples m n keys) ≡ by_specification n (by_tuple (m + 1) n keys)
  by_tuple-push m n keys =
      let one : suc m ≡ m + 1 = omega arith in
      by_specification-first n (by_tuple m n keys) (after_tuples m n keys) ∙ ap (by_specification n) (sym (by_tuple-more m n keys)) ∙ ap (λ k. by_specification n (by_tuple k n keys)) one

  after_suc : (m n : ℕ) (keys : List (List A)) → drop n (after_tuples m n keys) ≡ after_tuples (suc m) n keys
  after_suc zero n keys = refl
  after_suc (suc m) n keys = after_suc m n (drop n keys)

  pub after_tuples-more : (m n : ℕ) (keys : List (List A)) → drop n (after_tuples m n keys) ≡ after_tuples (m + 1) n keys
  after_tuples-more m n keys = let one : suc m ≡ m + 1 = omega arith in after_suc m n keys ∙ ap (λ k. after_tuples k n keys) one

  pub by_specification-wide : (n : ℕ) (rows : List (List (List A))) → length (by_specification n rows) ≡ n
  by_specification-wide n rows = length-map (range_with_len 0 n) (λ i. map (λ row. slice_index_or row i nothing) rows) ∙ length-range_with_len 0 n

  pub by_tuple-long : (m n : ℕ) (keys : List (List A)) → length (by_tuple m n keys) ≡ m
  by_tuple-long zero n keys = refl
  by_tuple-long (suc m) n keys = omega (arith, by_tuple-long m n (drop n keys))

  -- each has one for each tuple
  pub all_as_long : (n : ℕ) (rows : List (List (List A))) (m : ℕ) → length rows ≡ m → All (λ column. length column ≡ m) (by_specification n rows)
  all_as_long n rows m e = always (λ column. length column ≡ m) (λ i. map (λ row. slice_index_or row i nothing) rows) (λ i. length-map rows (λ row. slice_index_or row i nothing) ∙ e) 0 n

pub lists_as_long : (m : ℕ) (columns : List (Vec (Vec Atom))) → All (λ column. length column.items ≡ m) columns → All (λ column. length column ≡ m) (map column_of columns)
lists_as_long m [] h = All-nil (λ column. length column ≡ m)
lists_as_long m (c ∷ columns) h =
    All-cons (λ column. length column ≡ m) (column_of c) (map column_of columns) (length-map c.items atomics_of ∙ All-head (λ (column : Vec (Vec Atom)). length column.items ≡ m) c columns h) (lists_as_long m columns (All-tail (λ (column : Vec (Vec Atom)). length column.items ≡ m) c columns h))

pub rows_as_long : (m : ℕ) (columns : List (Vec Key)) → All (λ column. length column.items ≡ m) columns → All (λ column. length column ≡ m) (map row_of columns)
rows_as_long m [] h = All-nil (λ column. length column ≡ m)
rows_as_long m (c ∷ columns) h =
    All-cons (λ column. length column ≡ m) (row_of c) (map row_of columns) (length-map c.items values_in ∙ All-head (λ (column : Vec Key). length column.items ≡ m) c columns h) (rows_as_long m columns (All-tail (λ (column : Vec Key). length column.items ≡ m) c columns h))

pub keys_as_long : {A K : Type 0} (f : A → K) (m : ℕ) (columns : List (List A)) → All (λ column. length column ≡ m) columns → All (λ keys. length keys ≡ m) (map (map f) columns)
keys_as_long f m [] h = All-nil (λ keys. length keys ≡ m)
keys_as_long {A} f m (c ∷ columns) h =
    All-cons (λ keys. length keys ≡ m) (map f c) (map (map f) columns) (length-map c f ∙ All-head (λ (column : List A). length column ≡ m) c columns h) (keys_as_long f m columns (All-tail (λ (column : List A). length column ≡ m) c columns h))

-- # Keys by tuple, from those by specification

numbered_from : {X B : Type 0} (f : ℕ → B) (stream : List X) (a : ℕ) → map (λ (p : ℕ × X). (p.1, f p.0)) (enumerate_from a stream) ≡ zip stream (map f (range_with_len a (length stream)))
numbered_from f [] a = refl
numbered_from f (x ∷ stream) a = ap (λ l. (x, f a) ∷ l) (numbered_from f stream (a + 1))

module _ {K : Type 0} (none : K) where
  abbrev at : ℕ → List K → K
  at n column = get_or column n none

  -- one more key for each
  extended_from : (f : ℕ → List K) (a m : ℕ) (column : List K) (rest : List K) → length rest ≡ m → ((i : ℕ) → i < m → get_or rest i none ≡ at (a + i) column) → extended (map f (range_with_len a m)) rest ≡ map (λ n. f n ++ at n column ∷ []) (range_with_len a m)
  extended_from f a zero column [] e h = refl
  extended_from f a zero column (k ∷ rest) e h = absurd (omega (arith, e))
  extended_from f a (suc m) column [] e h = absurd (omega (arith, e))
  extended_from f a (suc m) column (k ∷ rest) e h =
      let z : a + 0 ≡ a = omega arith in
      let here : k ≡ at a column = h 0 (omega arith) ∙ ap (λ n. at n column) z in
      let later = extended_from f (a + 1) m column rest (omega (arith, e)) (λ i l. (let s : a + suc i ≡ a + 1 + i = omega arith in h (suc i) (omega (arith, l)) ∙ ap (λ n. at n column) s)) in
      λ t. (f a ++ here t ∷ []) ∷ later t

  rows_from : (f : ℕ → List K) (m : ℕ) (columns : List (List K)) → All (λ keys. length keys ≡ m) columns → fold extended (map f (range_with_len 0 m)) columns ≡ map (λ n. f n ++ map (at n) columns) (range_with_len 0 m)
  rows_from f m [] h = λ t. map (λ n. sym (append-nil (f n)) t) (range_with_len 0 m)
  rows_from f m (c ∷ columns) h =
      let long : length c ≡ m = All-head (λ (keys : List K). length keys ≡ m) c columns h in
      let first = extended_from f 0 m c c long (λ i l. (let z : i ≡ 0 + i = omega arith in ap (λ n. at n c) z)) in
      ap (λ rows. fold extended rows columns) first
      ∙ rows_from (λ n. f n ++ at n c ∷ []) m columns (All-tail (λ (keys : List K). length keys ≡ m) c columns h)
      ∙ (λ t. map (λ n. append_assoc (f n) (at n c ∷ []) (map (at n) columns) t) (range_with_len 0 m))

  abbrev no_keys : List K
  no_keys = []

  none_from : {X : Type 0} (stream : List X) (a : ℕ) → map (λ (x : X). no_keys) stream ≡ map (λ (n : ℕ). no_keys) (range_with_len a (length stream))
  none_from [] a = refl
  none_from (x ∷ stream) a = ap (λ l. no_keys ∷ l) (none_from stream (a + 1))

  -- each tuple with its keys, where view reads a column
  pub keyed_rows : {X H : Type 0} (view : H → List K) (stream : List X) (held : List H) (columns : List (List K)) → map view held ≡ columns → All (λ keys. length keys ≡ length stream) columns
      → map (λ (p : ℕ × X). (p.1, map (λ column. at p.0 (view column)) held)) (enumerate_from 0 stream) ≡ zip stream (key_rows stream columns)
  keyed_rows {X} view stream held columns e long =
      let m = length stream in
      let keys : (n : ℕ) → map (λ column. at n (view column)) held ≡ map (at n) columns = λ n. sym (map-map (at n) view held) ∙ ap (map (at n)) e in
      let rows : key_rows stream columns ≡ map (λ n. map (at n) columns) (range_with_len 0 m) = ap (λ rs. fold extended rs columns) (none_from stream 0) ∙ rows_from (λ n. no_keys) m columns long in
      (λ t. map (λ (p : ℕ × X). (p.1, keys p.0 t)) (enumerate_from 0 stream)) ∙ numbered_from (λ n. map (at n) columns) stream 0 ∙ ap (zip stream) (sym rows)
