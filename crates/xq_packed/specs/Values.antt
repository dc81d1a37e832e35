-- Attributes by their names and values.
use Rattle.std.specs.Prelude.{ℕ, ◌&&◌, List, map, filter, Bool, true, false}
use Rattle.std.specs.List.{enumerate_from}
use Rattle.xq_atoms.specs.Text.{Text, text_eq}
use Rattle.xq_trees.specs.Rows.{Row}
use Rattle.xq_trees.specs.declared.Kind.{Kind}
use Rattle.xq_trees.specs.declared.Kind.TheVariants.{Attribute}

abbrev pub is_attribute : Kind → Bool
is_attribute Attribute = true
is_attribute kind = false

-- a row is that of an attribute with this name
abbrev pub is_named : Text → Row → Bool
is_named name r = is_attribute r.label.kind && text_eq name r.label.name

-- and with this value
abbrev pub is_valued : Text → Text → Row → Bool
is_valued name value r = is_named name r && text_eq value r.label.value

-- the places of the rows that pass a test, in document order
abbrev pub places_where : (Row → Bool) → List Row → List ℕ
places_where f rows = map (λ p. p.0) (filter (λ p. f p.1) (enumerate_from 0 rows))

-- the places of all attributes with this name
abbrev pub named : List Row → Text → List ℕ
named rows name = places_where (is_named name) rows

-- the places of all attributes with this name and this value
abbrev pub valued : List Row → Text → Text → List ℕ
valued rows name value = places_where (is_valued name value) rows
