use Rattle.xq_atoms.specs.Atom.{atomic_of}
use Rattle.xq_joins.proofs.join_keys.text_of_atom.Goals as goal

pub returns : goal.returns
returns c = record {
  atom = atomic_of c.in-Some.atom.now;
  are = c.in-Some.ensures;
  is = c.in_ok-cast_str.ensures.ok;
}
