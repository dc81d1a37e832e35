use Rattle.std.proofs.Common.{◌++◌, ◌∷◌, [], List, Ok, ap, sym, ◌∙◌}
use Rattle.xq_trees.specs.Rows.{Row}
use Rattle.xq_trees.specs.declared.Kind.TheVariants as kind
use Rattle.xq_packed.specs.Packed.{row}
use Rattle.xq_build.proofs.Lone.{lone_levels}
use Rattle.xq_build.proofs.elements.around_text.Goals as goal

pub returns-in-Some : goal.returns-in-Some
returns-in-Some c =
    let name = c.args.name.now in
    let value = c.args.value.now in
    let first = c.in_ok-push_parts.ensures.rows ∙ ap (λ (rs : List Row). rs ++ row 1 0 kind.Element name [] ∷ []) c.new-rows.ensures.rows in
    let both = c.in_ok-push_parts-2.ensures.rows ∙ ap (λ (rs : List Row). rs ++ row 0 1 kind.Text [] value ∷ []) first in
    let levels = rw c.in-Some.is at c.in_ok-tree.ensures.some in
    ap Ok (sym (lone_levels c.in-Some.tree name value c.push_parts-2.new.self.rows both levels))
