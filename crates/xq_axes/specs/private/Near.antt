-- One node, by whose row those below it are judged.
use Rattle.std.proofs.Common.{suc}
use Rattle.std.specs.Prelude.{ℕ, ◌-◌, ◌<◌, ◌≡◌, List, [], ◌∷◌, ◌++◌, length, take}
use Rattle.xq_trees.specs.Forest.{count}
use Rattle.xq_trees.specs.Tree.{Tree, IsTree, nodes}
use Rattle.xq_axes.specs.Reads.{Span}
use Rattle.xq_axes.specs.private.Downward.{level_of, end_of}
use Rattle.xq_axes.specs.declared.near.Owner.{Owner}

-- a node of the tree, as its row has it
pub record IsOwner (t : Tree) (owner : Owner) : Type 0 where
  pub is_tree : IsTree t
  pub is_there : owner.place < count (nodes t)
  pub level : owner.level ≡ level_of t owner.place
  pub last : owner.last ≡ end_of t owner.place

-- the span is that of the rows below it
pub record AreBelow (t : Tree) (s : Span) (owner : Owner) : Type 0 where
  pub is : IsOwner t owner
  pub low : s.low ≡ suc owner.place
  pub high : s.high ≡ owner.last

-- of all the first so many were found, and others are left to find
pub record AreFirst (most : ℕ) (all : List ℕ) (others : ℕ) (those : List ℕ) : Type 0 where
  pub found : those ≡ take most all
  pub left : others ≡ most - length all

-- these end with this one
pub record EndWith (all : List ℕ) (last : ℕ) : Type 0 where
  pub before : List ℕ
  pub are : all ≡ before ++ last ∷ []
