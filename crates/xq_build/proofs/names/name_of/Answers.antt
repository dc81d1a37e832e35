use Rattle.std.proofs.Common.{◌≡◌, ◌≤◌, List, [], ◌∷◌, length, map, Err, refl, arith}
use Rattle.xq_atoms.specs.Atom.{atomic_of}
use Rattle.xq_atoms.specs.declared.atoms.Atom.{Atom}
use Rattle.xq_atoms.specs.declared.atoms.Atom.TheVariants.{Int, Dec, Str, Bool, Untyped}
use Rattle.xq_atoms.specs.declared.refusals.Code.TheVariants.{XPTY0004}
use Rattle.xq_expressions.specs.declared.operators.NamedNode.{NamedNode}
use Rattle.xq_meaning.specs.Content.{name_of}
use Rattle.xq_build.proofs.names.name_of.Goals as goal

several : (k : NamedNode) (xs : List Atom) → 2 ≤ length xs → name_of k (map atomic_of xs) ≡ Err XPTY0004
several k [] h = absurd (omega arith)
several k (a ∷ []) h = absurd (omega arith)
several k (Int n ∷ b ∷ xs) h = refl
several k (Dec n ∷ b ∷ xs) h = refl
several k (Str s ∷ b ∷ xs) h = refl
several k (Bool t ∷ b ∷ xs) h = refl
several k (Untyped s ∷ b ∷ xs) h = refl

pub returns-in-len2-up : goal.returns-in-len2-up
returns-in-len2-up c = several c.args.node_kind c.args.values.now c.in-len2-up.len_at_least
