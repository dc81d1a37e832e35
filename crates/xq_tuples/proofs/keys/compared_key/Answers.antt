use Rattle.std.proofs.Common.{◌≡◌, Option, Some, None, refl, ap, ◌∙◌, subst}
use Rattle.std.specs.Prelude.{IfOk}
use Rattle.xq_atoms.specs.declared.atoms.Atom.{Atom}
use Rattle.xq_atoms.specs.Compare.{key_of, group_key}
use Rattle.xq_trees.specs.Tuples.{comparison_key}
use Rattle.xq_tuples.specs.private.KeyRows.{key_view}
use Rattle.xq_tuples.proofs.keys.compared_key.Goals as goal

compared : (key : Option Atom) → group_key key ≡ comparison_key (key_view key)
compared None = refl
compared (Some atom) = refl

pub returns-clause-key : goal.returns-clause-key
returns-clause-key c = subst (λ key. IfOk c.of.result (λ made. key_of made ≡ key)) (compared _ ∙ ap comparison_key c.key_in.ensures) c.of.ensures.value
