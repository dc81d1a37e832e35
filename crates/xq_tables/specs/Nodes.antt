-- A node as the columns pre, size, level, kind, name and value of its row. A kind is its number:
-- 0 document, 1 element, 2 attribute, 3 text, 4 comment, 5 processing instruction.
use Rattle.std.specs.Prelude.{ℕ, pos, List, [], ◌∷◌}
use Rattle.sqlite_value.specs.Order.{Row, column}
use Rattle.sqlite_value.specs.declared.value.Value.{Value}
use Rattle.sqlite_value.specs.declared.value.Value.TheVariants.{Int, Text}
use Rattle.xq_trees.specs.Rows.{Row as NodeRow}
use Rattle.xq_trees.specs.Codes.{kind_number, kind_from}

-- the columns of a node with its place in document order
abbrev pub cells : ℕ × NodeRow → Row
cells p = let n = p.1 in Int (pos p.0) ∷ Int (pos n.size) ∷ Int (pos n.level)
    ∷ Int (pos (kind_number n.label.kind)) ∷ Text n.label.name ∷ Text n.label.value ∷ []

-- the number and the bytes of a column
abbrev pub number_in : Value → ℕ
number_in (Int (pos n)) = n
number_in v = 0

-- the bytes of a text; none of any other value
abbrev pub bytes_in : Value → List ℕ
bytes_in (Text s) = s
bytes_in v = []

-- the node that has these columns
abbrev pub node_in : Row → NodeRow
node_in r = record {
  size = number_in (column r 1);
  level = number_in (column r 2);
  label = record {
    kind = kind_from (number_in (column r 3));
    name = bytes_in
        (column r 4);
    value = bytes_in (column r 5);
  };
}
