use Rattle.std.proofs.Common.{◌≡◌, map}
use Rattle.xq_atoms.specs.Atom.{atomic_of}
use Rattle.xq_trees.specs.Items.{item_view}
use Rattle.xq_meaning.specs.Items.{atom_of}
use Rattle.xq_meaning.specs.Readings.{item_at}
use Rattle.xq_operators.proofs.atoms.into_atoms.Given as goal

abbrev pub invariant-loop-item : goal.invariant-loop-item
invariant-loop-item g l =
    let old = g.L.TreeSource.forest l.fn.source in
    let clean = g.L.TreeSource.is_clean l.source in
    record {
      keeps : g.L.TreeSource.forest l.source ≡ old;
      was_clean : clean → g.L.TreeSource.is_clean l.fn.source;
      value : clean → map atomic_of l.atoms.items ≡ map (λ x. atom_of old (item_at old (item_view x))) l.yielded;
    }
