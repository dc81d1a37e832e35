use Rattle.std.proofs.Common.{◌≡◌, ◌==◌, map, take, string_bytes}
use Rattle.xq_atoms.specs.Atom.{atomic_of}
use Rattle.xq_atoms.specs.Cast.{text_of}
use Rattle.xq_meaning.specs.Texts as Texts
use Rattle.xq_functions.proofs.parts.joined.Given as goal

abbrev pub invariant-loop-atom : goal.invariant-loop-atom
invariant-loop-atom l = record {
  text : string_bytes l.text ≡ Texts.joined l.separator (map (λ atom. text_of (atomic_of atom)) (take l.atom-index l.atoms));
  first : l.is_first ≡ (l.atom-index == 0);
}
