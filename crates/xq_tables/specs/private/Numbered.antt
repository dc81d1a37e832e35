-- Nodes beside the numbers of the labels of their names, and what inserts them.
use Rattle.std.specs.Prelude.{◌≡◌, ◌++◌, ⊤, ℕ, pos, true, List, [], ◌∷◌, map, length, String}
use Rattle.std.specs.declared.alloc.Global.{Global}
use Rattle.sqlite_value.specs.Order.{Row}
use Rattle.sqlite_value.specs.declared.value.Value.TheVariants.{Int, Text}
use Rattle.sqlite.specs.Effect.{Database}
use Rattle.sqlite.specs.State.{State}
use Rattle.xq_trees.specs.Codes.{kind_number}
use Rattle.xq_trees.specs.Rows.{Row as Node}
use Rattle.xq_tables.specs.Documents.{IsSound}
use Rattle.xq_tables.specs.Labels.{label_rows, IsNumberOf}
use Rattle.xq_tables.specs.Nodes.{cells}
use Rattle.xq_tables.specs.private.Statements.{AreNumbers, HasAdded}

-- the columns of a node in the table `node2` after its address: with the number of its label
abbrev pub numbered_cells : ℕ × Node → ℕ → Row
numbered_cells p number = let n = p.1 in Int (pos p.0) ∷ Int (pos n.size) ∷ Int (pos n.level)
    ∷ Int (pos (kind_number n.label.kind)) ∷ Int (pos number) ∷ Text n.label.value ∷ []

-- those of nodes, one after another
abbrev pub columns_of : List (ℕ × Node) → List ℕ → Row
columns_of [] numbers = []
columns_of (n ∷ nodes) [] = []
columns_of (n ∷ nodes) (m ∷ numbers) = numbered_cells n m ++ columns_of nodes numbers

-- each is the number of the label with the name of its node
abbrev pub AreNumbered : List Row → List (ℕ × Node) → List ℕ → Type 0
AreNumbered labels [] [] = ⊤
AreNumbered labels [] (m ∷ numbers) = ⊥
AreNumbered labels (n ∷ nodes) [] = ⊥
AreNumbered labels (n ∷ nodes) (m ∷ numbers) = IsNumberOf labels m n.1.label.name
    × AreNumbered labels nodes numbers

-- the names of nodes have numbers, and nothing else is changed
pub record HaveNumbered (nodes : List (ℕ × Node)) (numbers : List ℕ)
    (after : List (String Global × ℕ)) (old new : Database) : Type 0 where
  pub rows : (address : List ℕ) → HasAdded address [] old new
  pub numbered : AreNumbered (label_rows new) nodes numbers
  pub in_hand : AreNumbers (label_rows new) after

-- the same inside a transaction, with the names in hand
pub record NumbersRows (nodes : List (ℕ × Node)) (numbers : List ℕ)
    (before after : List (String Global × ℕ)) (old new : State) : Type 0 where
  pub mode : old.in_transaction ≡ true → new.in_transaction ≡ true
  pub did : IsSound old.now → AreNumbers (label_rows old.now) before
      → HaveNumbered nodes numbers after old.now new.now

-- nodes are inserted with the numbers of labels, inside a transaction
pub record AddsRows (address : List ℕ) (nodes : List (ℕ × Node)) (numbers : List ℕ)
    (old new : State) : Type 0 where
  pub mode : old.in_transaction ≡ true → new.in_transaction ≡ true
  pub did : IsSound old.now → AreNumbered (label_rows old.now) nodes numbers
      → HasAdded address (map cells nodes) old.now new.now

-- eight are, where these values are their address and then their columns
abbrev pub AddsEight : Row → State → State → Type 0
AddsEight values old new = (address : List ℕ) (nodes : List (ℕ × Node)) (numbers : List ℕ)
    → length nodes ≡ 8 → length numbers ≡ 8
    → values ≡ Text address ∷ columns_of nodes numbers
    → AddsRows address nodes numbers old new
