-- Rows of a tree that are read in turn.
use Rattle.std.proofs.Common.{suc}
use Rattle.std.specs.Prelude.{ℕ, ◌+◌, ◌-◌, ◌<◌, ◌≤◌, ◌≡◌, List, [], ◌∷◌, take, drop, map, min, max, Bool, true, false}
use Rattle.std.specs.List.{flat_map}
use Rattle.xq_trees.specs.Forest.{count}
use Rattle.xq_trees.specs.Tree.{Tree, IsTree, nodes}
use Rattle.xq_trees.specs.Rows.{Row, row_at, rows}
use Rattle.xq_trees.specs.Value.{text_of}
use Rattle.xq_trees.specs.declared.Kind.{Kind}
use Rattle.xq_trees.specs.declared.Kind.TheVariants.{Document, Element}

-- the places from low to high, both included
pub record Span : Type 0 where
  pub low : ℕ
  pub high : ℕ

abbrev pub span : ℕ → ℕ → Span
span low high = record { low = low; high = high }

-- the place after the last of a tree's rows there
abbrev pub span_end : Tree → Span → ℕ
span_end t s = max s.low (min (s.high + 1) (count (nodes t)))

-- a row with its place is the row n of the tree, and n lies in the span
pub record IsRowIn (t : Tree) (s : Span) (n : ℕ) (p : ℕ × Row) : Type 0 where
  pub from : s.low ≤ n
  pub to : n ≤ s.high
  pub is_there : n < count (nodes t)
  pub place : p.0 ≡ n
  pub row : p.1 ≡ row_at (rows t) n

-- these are the rows of the tree from n on, in the span
abbrev pub AreRowsIn : Tree → Span → ℕ → List (ℕ × Row) → Type 0
AreRowsIn t s n [] = Unit {0}
AreRowsIn t s n (p ∷ ps) = IsRowIn t s n p × AreRowsIn t s (suc n) ps

-- the rows from low to before n
abbrev pub rows_to : List Row → ℕ → ℕ → List Row
rows_to rs low n = drop low (take n rs)

-- the texts of the rows, joined
abbrev pub joined_texts : List Row → List ℕ
joined_texts rs = flat_map (λ (r : Row). text_of r.label.kind r.label.value) rs

-- the string value of a node of this kind is that of the texts below it
abbrev pub is_parent : Kind → Bool
is_parent Document = true
is_parent Element = true
is_parent kind = false

-- the tree is one, and its node v has so many nodes below it
pub record IsSized (t : Tree) (v below : ℕ) : Type 0 where
  pub is_tree : IsTree t
  pub is_there : v < count (nodes t)
  pub size : below ≡ (row_at (rows t) v).size

-- a row whose level is counted from this one
abbrev pub lowered : ℕ → Row → Row
lowered level r = record { size = r.size; level = r.level - level; label = r.label }

-- copies of the rows of the span to before n, their levels counted from that of the first
pub record AreCopied (t : Tree) (s : Span) (n level : ℕ) (copies : List Row) : Type 0 where
  pub first_level : level ≡ (row_at (rows t) s.low).level
  pub from : s.low ≤ n
  pub rows : copies ≡ map (lowered level) (rows_to (rows t) s.low n)
