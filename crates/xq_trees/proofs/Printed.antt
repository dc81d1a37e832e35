-- Rows in document order print as their tree.
use Rattle.std.proofs.Common.{◌≡◌, ℕ, suc, ◌-◌, ◌<◌, List, [], ◌∷◌, ◌++◌, refl, sym, ◌∙◌, ap, arith, append_assoc, map}
use Rattle.std.specs.Prelude.{nat_lt, true, false}
use Rattle.std.proofs.lemmas.List.{append-nil}
use Rattle.xq_trees.specs.Forest.{Forest, end, node, labels}
use Rattle.xq_trees.specs.Tree.{Label, Tree, nodes}
use Rattle.xq_trees.specs.Rows.{measured, rows, row_of}
use Rattle.xq_trees.specs.declared.NodeRow.{NodeRow}
use Rattle.xq_trees.specs.Print.{opening, comma, listed, print}
use Rattle.xq_trees.specs.Levels.{flat, flat_row}
use Rattle.xq_trees.specs.Printing.{text_from}

abbrev pub Leaf : Type 0
Leaf = ℕ × Label

-- the nodes with their levels
abbrev pub leveled : ℕ → Forest Label → List Leaf
leveled level end = []
leveled level (node a below beside) = (level, a) ∷ leveled (suc level) below ++ leveled level beside

map-append : {A B : Type 0} (f : A → B) (xs ys : List A) → map f (xs ++ ys) ≡ map f xs ++ map f ys
map-append f [] ys = refl
map-append f (x ∷ xs) ys = ap (λ l. f x ∷ l) (map-append f xs ys)

pub flat-measured : (level : ℕ) (f : Forest Label) → map flat (labels (measured level f)) ≡ leveled level f
flat-measured level end = refl
flat-measured level (node a below beside) =
    ap (λ l. (level, a) ∷ l) (map-append flat (labels (measured (suc level) below)) (labels (measured level beside))
    ∙ rw (flat-measured (suc level) below, flat-measured level beside))

-- the first of the nodes stands above the level
abbrev pub Above : ℕ → List Leaf → Type 0
Above level [] = Unit {0}
Above level (p ∷ ps) = p.0 < level

pub above_next : (level : ℕ) (f : Forest Label) (ps : List Leaf) → Above level ps → Above (suc level) (leveled level f ++ ps)
above_next level end [] h = tt
above_next level end (p ∷ ps) h = omega arith
above_next level (node a below beside) ps h = omega arith

-- what is open one level deeper is closed first
closes_one : (level : ℕ) (ps : List Leaf) → Above level ps → text_from (suc level) ps ≡ 125 ∷ text_from level ps
closes_one level [] h = refl
closes_one level (p ∷ ps) h =
    let now : nat_lt p.0 level ≡ true = grind arith in
    let more : nat_lt p.0 (suc level) ≡ true = grind arith in
    let count : suc level - p.0 ≡ suc (level - p.0) = omega arith in
    rw (now, more, count) refl

same_level : (level : ℕ) (a : Label) (ps : List Leaf) → text_from level ((level, a) ∷ ps) ≡ opening a ++ text_from (suc level) ps
same_level level a ps = let no : nat_lt level level ≡ false = grind arith in rw no refl

next_level : (level : ℕ) (a : Label) (ps : List Leaf) → text_from (suc level) ((level, a) ∷ ps) ≡ 125 ∷ (comma ++ (opening a ++ text_from (suc level) ps))
next_level level a ps =
    let yes : nat_lt level (suc level) ≡ true = grind arith in
    let one : suc level - level ≡ 1 = omega arith in
    rw (yes, one) refl

-- what the nodes print as, where so many levels are not yet closed: as the first below their parent, and after others
pub record Printed (level : ℕ) (f : Forest Label) (ps : List Leaf) : Type 0 where
  pub first : text_from level (leveled level f ++ ps) ≡ listed [] f ++ text_from level ps
  pub later : text_from (suc level) (leveled level f ++ ps) ≡ 125 ∷ (listed comma f ++ text_from level ps)

pub printed : (level : ℕ) (f : Forest Label) (ps : List Leaf) → Above level ps → Printed level f ps
printed level end ps h = record { first = refl; later = closes_one level ps h }
printed level (node a below beside) ps h =
    let k = printed (suc level) below (leveled level beside ++ ps) (above_next level beside ps h) in
    let r = printed level beside ps h in
    let e : opening a ++ text_from (suc level) ((leveled (suc level) below ++ leveled level beside) ++ ps) ≡ (opening a ++ (listed [] below ++ 125 ∷ listed comma beside)) ++ text_from level ps =
    ap (λ l. opening a ++ text_from (suc level) l) (append_assoc (leveled (suc level) below) (leveled level beside) ps)
    ∙ ap (λ l. opening a ++ l) (k.first ∙ ap (λ l. listed [] below ++ l) r.later ∙ sym (append_assoc (listed [] below) (125 ∷ listed comma beside) (text_from level ps)))
    ∙ sym (append_assoc (opening a) _ (text_from level ps)) in
    record {
      first = same_level level a _ ∙ e;
      later = next_level level a _ ∙ ap (λ l. 125 ∷ (comma ++ l)) e;
    }

pub text-leveled : (f : Forest Label) → text_from 0 (leveled 0 f) ≡ listed [] f
text-leveled f = ap (text_from 0) (sym (append-nil (leveled 0 f))) ∙ (printed 0 f [] tt).first ∙ append-nil (listed [] f)

pub text-rows : (t : Tree) → text_from 0 (map flat (rows t)) ≡ print t
text-rows t = ap (text_from 0) (flat-measured 0 (nodes t)) ∙ text-leveled (nodes t)

-- the rows that code holds print as the tree that they are of
pub text-encoded : (rs : List NodeRow) (t : Tree) → map row_of rs ≡ rows t → text_from 0 (map flat_row rs) ≡ print t
text-encoded rs t e = ap (text_from 0) (flat_rows rs ∙ ap (map flat) e) ∙ text-rows t
  where
    flat_rows : (rs : List NodeRow) → map flat_row rs ≡ map flat (map row_of rs)
    flat_rows [] = refl
    flat_rows (r ∷ rs) = ap (λ l. flat_row r ∷ l) (flat_rows rs)
