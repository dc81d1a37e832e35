use Rattle.std.proofs.Common.{◌≡◌, map, take}
use Rattle.std.specs.List.{AllByRecursion}
use Rattle.xq_atoms.specs.Atom.{atomic_of}
use Rattle.xq_trees.specs.Items.{item_view}
use Rattle.xq_meaning.specs.Items.{atom_of}
use Rattle.xq_meaning.specs.Readings.{item_at}
use Rattle.xq_operators.specs.Reads.{IsAtom}
use Rattle.xq_operators.proofs.atoms.atomized.Given as goal

abbrev pub invariant-loop-item : goal.invariant-loop-item
invariant-loop-item g l =
    let old = g.L.TreeSource.forest l.fn.source in
    let clean = g.L.TreeSource.is_clean l.source in
    record {
      keeps : g.L.TreeSource.forest l.source ≡ old;
      reads : AllByRecursion IsAtom (map item_view l.items) → g.L.TreeSource.meter l.source ≡ g.L.TreeSource.meter l.fn.source;
      was_clean : clean → g.L.TreeSource.is_clean l.fn.source;
      value : clean → map atomic_of l.atoms.items ≡ map (λ x. atom_of old (item_at old (item_view x))) (take l.item-index l.items);
    }
