-- Packed rows, the tree that they are of, and the rows in a list that are the same.
use Rattle.std.proofs.Common.{◌≡◌, ◌<◌, ◌+◌, ℕ, zero, suc, List, [], ◌∷◌, ◌++◌, map, take, drop, length, refl, sym, ap, ◌∙◌, subst, arith}
use Rattle.std.specs.Prelude.{All}
use Rattle.std.proofs.lemmas.List.{drop-set, take_more}
use Rattle.std.proofs.lemmas.List.Elements.{All-nil, All-cons, All-head, All-tail}
use Rattle.xq_trees.specs.Tree.{Tree, most_levels}
use Rattle.xq_trees.specs.Rows.{Row, no_row, row_at, row_of, rows, tree_of, AreNumbered, AreRowsOf, Encodes}
use Rattle.xq_trees.specs.Levels.{flat, count_deeper, AreSized}
use Rattle.xq_trees.specs.Nesting.{tree_of-rows}
use Rattle.xq_trees.specs.declared.NodeRow.{NodeRow}
use Rattle.xq_trees.proofs.Encoding.{rows_are_low}
use Rattle.xq_trees.proofs.SizedRows.{numbered_push, map-push}
use Rattle.xq_packed.specs.Packed.{Packed}
use Rattle.xq_packed.specs.Changes.{with_size}
use Rattle.xq_packed.specs.PackedTrees.{Packs}

-- # Sizes

pub flat-with_size : (at size : ℕ) (rs : List Row) → map flat (with_size at size rs) ≡ map flat rs
flat-with_size at size [] = refl
flat-with_size zero size (r ∷ rs) = refl
flat-with_size (suc at) size (r ∷ rs) = ap (λ l. flat r ∷ l) (flat-with_size at size rs)

pub sized-with_size : (at size : ℕ) (rs : List Row) → at < length rs → size ≡ count_deeper (row_at rs at).level (drop (at + 1) rs) → AreSized (drop (at + 1) rs) → AreSized (drop at (with_size at size rs))
sized-with_size at size rs lt e h = subst AreSized (sym (drop-set rs at _ lt)) (e, h)

-- # The tree that rows are of

pub packs : (p : Packed) (t : Tree) → AreRowsOf p.rows t → Packs p t
packs p t h = record { is_tree = h.is_tree; rows = h.rows }

-- it is that which they give
pub packs-tree_of : (p : Packed) (t : Tree) → Packs p t → Packs p (tree_of p.rows)
packs-tree_of p t h = subst (Packs p) (sym (ap tree_of h.rows ∙ tree_of-rows t)) h

pub tree-of : (p : Packed) (t : Tree) → p.rows ≡ rows t → tree_of p.rows ≡ t
tree-of p t e = ap tree_of e ∙ tree_of-rows t

-- # From a list

all-listed : (xs : List NodeRow) → All (λ (r : Row). r.level < most_levels) (map row_of xs) → All (λ (x : NodeRow). x.level < most_levels) xs
all-listed [] h = All-nil (λ (x : NodeRow). x.level < most_levels)
all-listed (x ∷ xs) h =
    All-cons (λ (x : NodeRow). x.level < most_levels) x xs
    (All-head (λ (r : Row). r.level < most_levels) (row_of x) (map row_of xs) h)
    (all-listed xs (All-tail (λ (r : Row). r.level < most_levels) (row_of x) (map row_of xs) h))

-- no row of a tree is too deep
pub low-rows : (xs : List NodeRow) (t : Tree) → Encodes xs t → All (λ (x : NodeRow). x.level < most_levels) xs
low-rows xs t h = all-listed xs (subst (All (λ (r : Row). r.level < most_levels)) (sym h.rows) (rows_are_low t h.is_tree))

-- # To a list

-- one row more
pub listed-more : (xs : List NodeRow) (x : NodeRow) (rs : List Row) (at : ℕ) → at < length rs → map row_of xs ≡ take at rs → row_of x ≡ row_at rs at → map row_of (xs ++ x ∷ []) ≡ take (at + 1) rs
listed-more xs x rs at lt so_far here =
    map-push row_of xs x ∙ ap (λ l. l ++ row_of x ∷ []) so_far ∙ ap (λ (r : Row). take at rs ++ r ∷ []) here ∙ sym (take_more rs at no_row lt)

pub numbered-more : (xs : List NodeRow) (x : NodeRow) (at : ℕ) → length xs ≡ at → x.pre ≡ at → AreNumbered 0 xs → AreNumbered 0 (xs ++ x ∷ [])
numbered-more xs x at long place so_far = numbered_push 0 xs x so_far (omega (arith, long, place))

-- the list is that of the tree
pub listed-encodes : (xs : List NodeRow) (p : Packed) (t : Tree) → map row_of xs ≡ p.rows → AreNumbered 0 xs → Packs p t → Encodes xs t
listed-encodes xs p t e n h = record { is_tree = h.is_tree; rows = e ∙ h.rows; numbered = n }

pub one-tree : (xs : List NodeRow) (s t : Tree) → Encodes xs s → Encodes xs t → s ≡ t
one-tree xs s t h k = sym (tree_of-rows s) ∙ ap tree_of (sym h.rows ∙ k.rows) ∙ tree_of-rows t
