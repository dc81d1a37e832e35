-- An element whose content is one atomic value.
use Rattle.std.proofs.Common.{◌≡◌, List, [], ◌∷◌, map, Ok, refl, sym, ◌∙◌, ap}
use Rattle.xq_atoms.specs.Text.{Text, is_empty}
use Rattle.xq_trees.specs.Forest.{end, node}
use Rattle.xq_trees.specs.Items.{ItemView}
use Rattle.xq_trees.specs.Levels.{flat}
use Rattle.xq_trees.specs.Rows.{Row, rows}
use Rattle.xq_trees.specs.Tree.{Tree}
use Rattle.xq_trees.specs.declared.Kind.TheVariants as kind
use Rattle.xq_meaning.specs.Content.{content, element_tree, built, label, text_label, in_front_unless}
use Rattle.xq_meaning.specs.Readings.{items_at}
use Rattle.xq_packed.specs.Packed.{row}
use Rattle.xq_build.specs.private.Lone.{IsLoneText, around}
use Rattle.xq_build.proofs.Contents.{leaves-injective}

content_lone : (trees : List Tree) (xs : List ItemView) (t : Text) → IsLoneText xs t → content trees (items_at trees xs) ≡ node (text_label t) end end
content_lone trees xs t lone =
    ap (λ vs. content trees (items_at trees vs)) lone.is
    ∙ ap (λ v. in_front_unless (is_empty v) (text_label v) end end) (sym lone.text)
    ∙ ap (λ b. in_front_unless b (text_label t) end end) lone.full

built_lone : (name t : Text) → built (label kind.Element name []) (node (text_label t) end end) ≡ Ok (around name t)
built_lone name t = refl

pub lone_element : (name : Text) (trees : List Tree) (xs : List ItemView) (t : Text) → IsLoneText xs t → element_tree name trees (items_at trees xs) ≡ Ok (around name t)
lone_element name trees xs t lone = ap (built (label kind.Element name [])) (content_lone trees xs t lone) ∙ built_lone name t

-- the rows of such an element tell it
pub lone_levels : (t : Tree) (name value : Text) (all : List Row) → all ≡ row 1 0 kind.Element name [] ∷ row 0 1 kind.Text [] value ∷ [] → map flat all ≡ map flat (rows t) → t ≡ around name value
lone_levels t name value all is levels = leaves-injective t (around name value) (sym levels ∙ ap (map flat) is)
