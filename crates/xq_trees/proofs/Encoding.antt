-- Rows that pass the test are those of a tree, and those of a tree pass it.
use Rattle.std.proofs.Common.{◌≡◌, ℕ, zero, suc, ◌+◌, ◌-◌, ◌<◌, ◌≤◌, List, [], ◌∷◌, length, drop, map, true, false, refl, sym, ◌∙◌, ap, subst, arith}
use Rattle.std.proofs.Math.Seq.{drop-cons}
use Rattle.std.proofs.lemmas.Bool.{leb-true, le-leb}
use Rattle.std.proofs.lemmas.List.Elements.{All-nil, All-cons}
use Rattle.std.proofs.lemmas.Str.{IsUtf8-string_bytes}
use Rattle.std.specs.List.{IsDistinct}
use Rattle.std.specs.Str.{bytes_eq}
use Rattle.std.specs.Prelude.{All, nat_eq, nat_le, slice_index}
use Rattle.xq_trees.specs.declared.NodeRow.{NodeRow}
use Rattle.xq_trees.specs.Forest.{Forest, end, node, count, labels, tops, map_forest, EachNode, IsWithinHeight}
use Rattle.xq_trees.specs.Tree.{Label, Tree, IsText, IsTree, most_levels, nodes, may_stand, has_text, may_precede, attribute_names, is_content, is_legal}
use Rattle.xq_trees.specs.Rows.{Row, rows, measured, front, back, nest, tree_of, no_row, row_at, row_of, AreNumbered, AreRowsOf, Encodes, IsEncoding}
use Rattle.xq_trees.specs.private.Checks.{label_of, child_ok, is_run, RowOk, IsChecked, NamesOk, AreNamed, AreTexts, Passes, roots, IsSoundAt}
use Rattle.xq_trees.specs.Nesting.{count-measured, nest-rows, tree_of-rows}
use Rattle.xq_trees.proofs.Nests.{labels-nest}
use Rattle.xq_trees.proofs.Regions.{length-labels}
use Rattle.xq_trees.proofs.Checking.{each_named, named, EachNode-front, EachNode-back, both, both_true, each_row, checked, child_is_ok, child_ok_from, size_is, count-front-back, IsChecked-drop}
use Rattle.xq_trees.proofs.Walks.{length-map}

-- # From the test to the tree

pub IsAtLevel : ℕ → Forest Row → Type 0
IsAtLevel l end = Unit {0}
IsAtLevel l (node r below beside) = (r.level ≡ l) × IsAtLevel l beside

pub tops-map : {A B : Type 0} (f : A → B) (g : Forest A) → tops (map_forest f g) ≡ map f (tops g)
tops-map f end = refl
tops-map f (node a below beside) = ap (λ xs. f a ∷ xs) (tops-map f beside)

pub count-map : {A B : Type 0} (f : A → B) (g : Forest A) → count (map_forest f g) ≡ count g
count-map f end = refl
count-map f (node a below beside) = ap suc (rw (count-map f below, count-map f beside))

run_levels : (parent : Row) (n : ℕ) (f : Forest Row) → is_run parent n (tops f) ≡ true → IsAtLevel (suc parent.level) f
unfolding IsAtLevel
run_levels parent n end h = tt
run_levels parent n (node r below beside) h =
    let w = both (child_ok parent n r (map label_of (tops beside))) _ h in
    ((child_is_ok parent n r (map label_of (tops beside)) w.0).level, run_levels parent (n - suc r.size) beside w.1)

pub run_content : (parent : Row) (n : ℕ) (rs : List Row) → is_run parent n rs ≡ true → is_content parent.label (map label_of rs) ≡ true
run_content parent n [] h = refl
run_content parent n (r ∷ rs) h =
    let w = both (child_ok parent n r (map label_of rs)) _ h in
    let c = child_is_ok parent n r (map label_of rs) w.0 in
    both_true _ _ c.kind (both_true _ _ c.text (both_true _ _ c.next (run_content parent (n - suc r.size) rs w.1)))

pub record RowParts (r : Row) (below : List Row) : Type 0 where
  pub legal : is_legal r.label.kind r.label.name r.label.value ≡ true
  pub level : r.level ≤ 100
  pub run : is_run r r.size below ≡ true

pub row_parts : (r : Row) (below : List Row) → RowOk r below → RowParts r below
row_parts r below h =
    let a = both (is_legal r.label.kind r.label.name r.label.value) _ h in
    let b = both (nat_le r.level 100) _ a.1 in
    record { legal = a.0; level = leb-true _ _ b.0; run = b.1 }

same_row : (r : Row) (s l : ℕ) → s ≡ r.size → l ≡ r.level → ◌≡◌ {A = Row} (record { size = s; level = l; label = r.label }) r
same_row r s l e f = rw (e, f)

pub measured-label_of : (l : ℕ) (f : Forest Row) → EachNode RowOk f → IsAtLevel l f → measured l (map_forest label_of f) ≡ f
unfolding IsAtLevel
measured-label_of l end h g = refl
measured-label_of l (node r below beside) h g =
    let p = row_parts r (tops below) h.0 in
    let k : count (map_forest label_of below) ≡ r.size = count-map label_of below ∙ size_is r below h.1.0 h.0 in
    let lower : IsAtLevel (suc l) below = subst (λ n. IsAtLevel (suc n) below) g.0 (run_levels r r.size below p.run) in
    ap (λ x. node x (measured (suc l) (map_forest label_of below)) (measured l (map_forest label_of beside))) (same_row r (count (map_forest label_of below)) l k (sym g.0))
    ∙ ap (λ x. node r x (measured l (map_forest label_of beside))) (measured-label_of (suc l) below h.1.0 lower)
    ∙ ap (node r below) (measured-label_of l beside h.1.1 g.1)

pub rows_legal : (f : Forest Row) → EachNode RowOk f → EachNode (λ (a : Label) (below : List Label). is_legal a.kind a.name a.value ≡ true) (map_forest label_of f)
rows_legal end h = tt
rows_legal (node r below beside) h = ((row_parts r (tops below) h.0).legal, (rows_legal below h.1.0, rows_legal beside h.1.1))

pub rows_content : (f : Forest Row) → EachNode RowOk f → EachNode (λ (a : Label) (below : List Label). is_content a below ≡ true) (map_forest label_of f)
rows_content end h = tt
rows_content (node r below beside) h =
    (ap (is_content r.label) (tops-map label_of below) ∙ run_content r r.size (tops below) (row_parts r (tops below) h.0).run, (rows_content below h.1.0, rows_content beside h.1.1))

pub rows_height : (l n : ℕ) (f : Forest Row) → l + n ≡ 101 → EachNode RowOk f → IsAtLevel l f → IsWithinHeight n (map_forest label_of f)
unfolding IsAtLevel
rows_height l n end e h g = tt
rows_height l zero (node r below beside) e h g = absurd (let p = (row_parts r (tops below) h.0).level in omega (arith, g.0))
rows_height l (suc n) (node r below beside) e h g =
    let lower : IsAtLevel (suc l) below = subst (λ m. IsAtLevel (suc m) below) g.0 (run_levels r r.size below (row_parts r (tops below) h.0).run) in
    (rows_height (suc l) n below (omega arith) h.1.0 lower, rows_height l (suc n) beside e h.1.1 g.1)

empty_forest : {A : Type 0} (f : Forest A) → count f ≡ 0 → f ≡ end
empty_forest end h = refl
empty_forest (node a below beside) h = absurd (omega arith)

rows_named : (f : Forest Row) → EachNode NamesOk f → EachNode (λ (a : Label) (below : List Label). IsDistinct bytes_eq (attribute_names below)) (map_forest label_of f)
rows_named end h = tt
rows_named (node r below beside) h =
    (subst (λ l. IsDistinct bytes_eq (attribute_names l)) (sym (tops-map label_of below)) h.0, (rows_named below h.1.0, rows_named beside h.1.1))

abbrev IsTextRow : Row → List Row → Type 0
IsTextRow r below = IsText r.label

texts_nest : (rs : List Row) → AreTexts rs → EachNode IsTextRow (nest rs)
texts_nest [] h = tt
texts_nest (r ∷ rs) h =
    (h.0, (EachNode-front IsTextRow r.size (nest rs) (texts_nest rs h.1), EachNode-back IsTextRow r.size (nest rs) (texts_nest rs h.1)))

texts_map : (f : Forest Row) → EachNode IsTextRow f → EachNode (λ (a : Label) (below : List Label). IsText a) (map_forest label_of f)
texts_map end h = tt
texts_map (node r below beside) h = (h.0, (texts_map below h.1.0, texts_map beside h.1.1))

-- those that code holds are
pub texts_of : (xs : List NodeRow) → AreTexts (map row_of xs)
texts_of [] = tt
texts_of (x ∷ xs) = ((IsUtf8-string_bytes x.name, IsUtf8-string_bytes x.value), texts_of xs)

pub count-nest : (rs : List Row) → count (nest rs) ≡ length rs
count-nest rs = sym (length-labels (nest rs)) ∙ ap length (labels-nest rs)

pub encodes : (rs : List Row) → AreTexts rs → Passes rs → AreNamed rs → AreRowsOf rs (tree_of rs)
unfolding IsAtLevel
encodes [] u h d = absurd (omega (arith, h.root_size))
encodes (r ∷ rs) u h d =
    let below = front r.size (nest rs) in
    let beside = back r.size (nest rs) in
    let each = each_row (r ∷ rs) h.checked in
    let k : count below ≡ r.size = size_is r below each.1.0 each.0 in
    let none : beside ≡ end = empty_forest beside (omega (arith, k, count-front-back r.size (nest rs), count-nest rs, h.root_size)) in
    let forest : nest (r ∷ rs) ≡ node r below end = ap (node r below) none in
    let sound : EachNode RowOk (node r below end) = (each.0, (each.1.0, tt)) in
    let m : measured 0 (map_forest label_of (node r below end)) ≡ node r below end = measured-label_of 0 (node r below end) sound (h.root_level, tt) in
    record {
      is_tree = record {
        texts = texts_map (node r below end) (subst (EachNode IsTextRow) forest (texts_nest (r ∷ rs) u));
        legal = rows_legal (node r below end) sound;
        content = rows_content (node r below end) sound;
        names = rows_named (node r below end) (subst (EachNode NamesOk) forest (each_named (r ∷ rs) d));
        height = rows_height 0 101 (node r below end) refl sound (h.root_level, tt);
        room = omega (arith, count-map label_of below, k, h.root_size, h.room);
      };
      rows = sym (labels-nest (r ∷ rs)) ∙ ap labels (forest ∙ sym m);
    }

-- # From the tree to the test

pub tops-measured : (l : ℕ) (f : Forest Label) → map label_of (tops (measured l f)) ≡ tops f
tops-measured l end = refl
tops-measured l (node a below beside) = ap (λ xs. a ∷ xs) (tops-measured l beside)

pub run_from : (parent : Row) (f : Forest Label) → is_content parent.label (tops f) ≡ true → is_run parent (count f) (tops (measured (suc parent.level) f)) ≡ true
run_from parent end h = refl
run_from parent (node a below beside) h =
    let b = both (may_stand parent.label.kind a.kind) _ h in
    let c = both (has_text a.kind a.value) _ b.1 in
    let d = both (may_precede a.kind (tops beside)) _ c.1 in
    let later = map label_of (tops (measured (suc parent.level) beside)) in
    let l : later ≡ tops beside = tops-measured (suc parent.level) beside in
    let r : Row = record { size = count below; level = suc parent.level; label = a } in
    let n : suc (count below + count beside) - suc (count below) ≡ count beside = omega arith in
    both_true _ _
    (child_ok_from parent (count (node a below beside)) r later (record {
      level = refl;
      kind = b.0;
      text = c.0;
      next = ap (may_precede a.kind) l ∙ d.0;
      room = omega arith;
    }))
    (ap (λ m. is_run parent m (tops (measured (suc parent.level) beside))) n ∙ run_from parent beside d.1)

pub row_sound : (l n : ℕ) (f : Forest Label) → l + n ≡ 101 → EachNode (λ (a : Label) (below : List Label). is_legal a.kind a.name a.value ≡ true) f → EachNode (λ (a : Label) (below : List Label). is_content a below ≡ true) f → IsWithinHeight n f → EachNode RowOk (measured l f)
row_sound l n end e a b h = tt
row_sound l zero (node x below beside) e a b h = absurd h
row_sound l (suc n) (node x below beside) e a b h = (
  both_true _ _ a.0 (both_true _ _ (le-leb l 100 (omega arith)) (run_from (record { size = count below; level = l; label = x }) below b.0)),
  (row_sound (suc l) n below (omega arith) a.1.0 b.1.0 h.0, row_sound l (suc n) beside e a.1.1 b.1.1 h.1),
)

names_sound : (l : ℕ) (f : Forest Label) → EachNode (λ (a : Label) (below : List Label). IsDistinct bytes_eq (attribute_names below)) f → EachNode NamesOk (measured l f)
names_sound l end h = tt
names_sound l (node a below beside) h =
    (subst (λ ls. IsDistinct bytes_eq (attribute_names ls)) (sym (tops-measured (suc l) below)) h.0, (names_sound (suc l) below h.1.0, names_sound l beside h.1.1))

pub rows_named_of : (t : Tree) → IsTree t → AreNamed (rows t)
rows_named_of t h = named (rows t) (subst (EachNode NamesOk) (sym (nest-rows t)) (names_sound 0 (nodes t) h.names))

pub length-rows : (t : Tree) → length (rows t) ≡ count (nodes t)
length-rows t = length-labels (measured 0 (nodes t)) ∙ count-measured 0 (nodes t)

pub rows_pass : (t : Tree) → IsTree t → Passes (rows t)
rows_pass t h = record {
  checked = checked (rows t) (subst (EachNode RowOk) (sym (nest-rows t)) (row_sound 0 101 (nodes t) refl h.legal h.content h.height));
  root_level = refl;
  root_size = (let l = length-rows t in omega arith);
  room = (let l = length-rows t in let r = h.room in omega arith);
}

-- # Row by row

pub numbered_step : (xs : List NodeRow) (i n : ℕ) → i < length xs → slice_index (map (λ (r : NodeRow). r.pre) xs) i ≡ n → AreNumbered (suc n) (drop (suc i) xs) → AreNumbered n (drop i xs)
numbered_step [] i n h e g = absurd (omega arith)
numbered_step (x ∷ xs) zero n h e g = (e, g)
numbered_step (x ∷ xs) (suc i) n h e g = numbered_step xs i n (omega arith) e g

pub numbered_at : (n : ℕ) (xs : List NodeRow) (i : ℕ) → AreNumbered n xs → i < length xs → slice_index (map (λ (r : NodeRow). r.pre) xs) i ≡ n + i
numbered_at n [] i g h = absurd (omega arith)
numbered_at n (x ∷ xs) zero g h = omega (arith, g.0)
numbered_at n (x ∷ xs) (suc i) g h = omega (arith, numbered_at (suc n) xs i g.1 (omega arith))

pub roots_of_row : (rs : List Row) (i : ℕ) (r : Row) → roots rs (suc i) (suc i + r.size) ≡ tops (front r.size (nest (drop (suc i) rs)))
roots_of_row rs i r = let e : suc i + r.size - suc i ≡ r.size = omega arith in ap (λ n. tops (front n (nest (drop (suc i) rs)))) e

pub texts_step : (rs : List Row) (i : ℕ) → i < length rs → IsText (row_at rs i).label → AreTexts (drop (suc i) rs) → AreTexts (drop i rs)
texts_step rs i h t more = subst AreTexts (sym (drop-cons rs i no_row h)) (t, more)

pub checked_step : (rs : List Row) (i : ℕ) → i < length rs → IsChecked (drop (suc i) rs) → RowOk (row_at rs i) (roots rs (suc i) (suc i + (row_at rs i).size)) → IsChecked (drop i rs)
checked_step rs i h g k =
    let r = row_at rs i in
    subst IsChecked (sym (drop-cons rs i no_row h)) (subst (RowOk r) (roots_of_row rs i r) k, g)

pub checked_at : (rs : List Row) (i : ℕ) → i < length rs → IsChecked rs → RowOk (row_at rs i) (roots rs (suc i) (suc i + (row_at rs i).size))
checked_at rs i h g =
    let r = row_at rs i in
    let w : IsChecked (r ∷ drop (suc i) rs) = subst IsChecked (drop-cons rs i no_row h) (IsChecked-drop i rs g) in
    subst (RowOk r) (sym (roots_of_row rs i r)) w.0

pub passes : (xs : List NodeRow) (t : Tree) → Encodes xs t → Passes (map row_of xs)
passes xs t h = subst Passes (sym h.rows) (rows_pass t h.is_tree)

pub names_of_rows : (xs : List NodeRow) (t : Tree) → Encodes xs t → AreNamed (map row_of xs)
names_of_rows xs t h = subst AreNamed (sym h.rows) (rows_named_of t h.is_tree)

pub sound_at : (rs : List Row) (i : ℕ) → i < length rs → Passes rs → IsSoundAt rs i
sound_at rs i h e = checked_at rs i h e.checked

pub encoding : (xs : List NodeRow) → AreNumbered 0 xs → Passes (map row_of xs) → AreNamed (map row_of xs) → IsEncoding xs
encoding xs n h d =
    let e = encodes (map row_of xs) (texts_of xs) h d in
    (tree_of (map row_of xs), record { is_tree = e.is_tree; rows = e.rows; numbered = n })

pub refused : (rs : List Row) → (Passes rs → ⊥) → (false ≡ true → Passes rs) × (Passes rs → false ≡ true)
refused rs h = (λ e. absurd (cc), λ e. absurd (h e))

pub some_rows : (n : ℕ) → nat_eq n 0 ≡ false → 0 < n
some_rows zero h = absurd (cc)
some_rows (suc n) h = omega arith

-- rows of a tree are those of the tree that they give
pub Encodes-tree_of : (xs : List NodeRow) → IsEncoding xs → Encodes xs (tree_of (map row_of xs))
Encodes-tree_of xs e = subst (Encodes xs) (sym (ap tree_of e.1.rows ∙ tree_of-rows e.0)) e.1

-- as many rows as nodes
pub length-encoded : (xs : List NodeRow) (t : Tree) → map row_of xs ≡ rows t → length xs ≡ count (nodes t)
length-encoded xs t e = sym (length-map row_of xs) ∙ ap length e ∙ length-rows t

-- rows that are those of a tree pass the test, and their attributes have distinct names
pub rows_pass_of : (rs : List Row) (t : Tree) → AreRowsOf rs t → Passes rs
rows_pass_of rs t h = subst Passes (sym h.rows) (rows_pass t h.is_tree)

pub rows_are_named : (rs : List Row) (t : Tree) → AreRowsOf rs t → AreNamed rs
rows_are_named rs t h = subst AreNamed (sym h.rows) (rows_named_of t h.is_tree)

-- they are those of the tree that they give
pub AreRowsOf-tree_of : (rs : List Row) (t : Tree) → AreRowsOf rs t → AreRowsOf rs (tree_of rs)
AreRowsOf-tree_of rs t h = subst (AreRowsOf rs) (sym (ap tree_of h.rows ∙ tree_of-rows t)) h

-- # Levels

checked_are_low : (rs : List Row) → IsChecked rs → All (λ (r : Row). r.level < most_levels) rs
checked_are_low [] h = All-nil (λ (r : Row). r.level < most_levels)
checked_are_low (r ∷ rs) h =
    All-cons (λ (r : Row). r.level < most_levels) r rs (let p = row_parts r _ h.0 in omega (arith, p.level)) (checked_are_low rs h.1)

-- no row of a tree is too deep
pub rows_are_low : (t : Tree) → IsTree t → All (λ (r : Row). r.level < most_levels) (rows t)
rows_are_low t h = checked_are_low (rows t) (rows_pass t h).checked
