-- A tree is told by its rows, and each part of a row by numbers and lists of numbers.
use Rattle.std.proofs.Common.{zero, suc}
use Rattle.std.specs.Prelude.{◌≡◌, ℕ, List, refl}
use Rattle.std.specs.Coded.{Coded, code_by, coded×, coded_ℕ, coded_list}
use Rattle.xq_trees.specs.Tree.{Label, Tree}
use Rattle.xq_trees.specs.Rows.{Row, rows, tree_of}
use Rattle.xq_trees.specs.Nesting.{tree_of-rows}
use Rattle.xq_trees.specs.declared.Kind.{Kind}
use Rattle.xq_trees.specs.declared.Kind.TheVariants.{Document, Element, Attribute, Text, Comment, ProcessingInstruction}

-- the number of a kind, which is also that in the tables of a store
abbrev pub kind_number : Kind → ℕ
kind_number Document = 0
kind_number Element = 1
kind_number Attribute = 2
kind_number Text = 3
kind_number Comment = 4
kind_number ProcessingInstruction = 5

-- the kind with the number; each number from 5 on gives a processing instruction
abbrev pub kind_from : ℕ → Kind
kind_from zero = Document
kind_from (suc zero) = Element
kind_from (suc (suc zero)) = Attribute
kind_from (suc (suc (suc zero))) = Text
kind_from (suc (suc (suc (suc zero)))) = Comment
kind_from (suc (suc (suc (suc (suc n))))) = ProcessingInstruction

-- the number of a kind gives the kind back
pub kind_from-kind_number : (k : Kind) → kind_from (kind_number k) ≡ k
kind_from-kind_number Document = refl
kind_from-kind_number Element = refl
kind_from-kind_number Attribute = refl
kind_from-kind_number Text = refl
kind_from-kind_number Comment = refl
kind_from-kind_number ProcessingInstruction = refl

-- kinds, told by their numbers
abbrev pub kind_code : Coded Kind
kind_code = code_by ℕ coded_ℕ kind_number kind_from kind_from-kind_number

-- labels, told by their kinds, names and values
abbrev pub label_code : Coded Label
label_code =
    code_by (Kind × (List ℕ × List ℕ))
    (coded× kind_code (coded× (coded_list coded_ℕ) (coded_list coded_ℕ)))
    (λ l. (l.kind, (l.name, l.value))) (λ p. record { kind = p.0; name = p.1.0; value = p.1.1 })
    (λ _. refl)

-- rows, told by their sizes, levels and labels
abbrev pub row_code : Coded Row
row_code =
    code_by (ℕ × (ℕ × Label)) (coded× coded_ℕ (coded× coded_ℕ label_code))
    (λ r. (r.size, (r.level, r.label))) (λ p. record { size = p.0; level = p.1.0; label = p.1.1 })
    (λ _. refl)

-- trees, told by their rows
abbrev pub tree_code : Coded Tree
tree_code = code_by (List Row) (coded_list row_code) rows tree_of tree_of-rows
