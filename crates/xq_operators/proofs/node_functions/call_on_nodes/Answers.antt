use Rattle.std.proofs.Common.{◌∙◌, ap, sym, subst, map, Ok}
use Rattle.xq_atoms.specs.Atom.{atomic_of}
use Rattle.xq_atoms.specs.Answers.{GivesUnlessWanting}
use Rattle.xq_functions.specs.Answers.{items_of, lent_items}
use Rattle.xq_meaning.specs.Functions as Functions
use Rattle.xq_meaning.specs.Items.{Atom}
use Rattle.xq_meaning.specs.Readings.{items_at}
use Rattle.xq_operators.proofs.CallForms.{one_data, map_atoms}
use Rattle.xq_operators.proofs.Giving.{told}
use Rattle.xq_operators.proofs.node_functions.call_on_nodes.Goals as goal

pub returns-in-Root-clause-gives : goal.returns-in-Root-clause-gives
returns-in-Root-clause-gives g c = λ k on addresses.
    let old = g.L.TreeSource.forest c.args.source.now in
    let xs = lent_items old c.args.items.now in
    subst (λ f. GivesUnlessWanting (items_of old) (Functions.of_one f old addresses xs) c.root.result) (sym c.in-Root.is) (told (items_of old) (Functions.root xs) c.root.result (c.root.ensures old))

pub returns-in_ok-as_items-in_default : goal.returns-in_ok-as_items-in_default
returns-in_ok-as_items-in_default g c =
    let old = g.L.TreeSource.forest c.args.source.now in
    let xs = lent_items old c.args.items.now in
    let atoms = map atomic_of c.in_ok-atoms-in_default.atoms.items in
    let d = c.in_default in
    record {
      gives = λ k on addresses.
          one_data c.args.function old addresses xs on d.not-Root d.not-Name d.not-LocalName d.not-String
          ∙ ap Ok (ap (map Atom) (sym (c.in_ok-atoms-in_default.ensures.value k)) ∙ map_atoms old atoms ∙ ap (items_at old) (sym c.in_ok-as_items-in_default.ensures));
      keeps = c.atomized.ensures.keeps;
      was_clean = c.atomized.ensures.was_clean;
    }
