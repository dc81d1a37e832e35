use Rattle.std.proofs.Common.{◌≡◌, ◌∙◌, ap, sym, subst, map, true, false, rules, refl}
use Rattle.xq_atoms.specs.Atom.{atomic_of}
use Rattle.xq_trees.specs.Items.{item_view, item_views}
use Rattle.xq_meaning.specs.Items.{atomized}
use Rattle.xq_meaning.specs.Operators.{operated}
use Rattle.xq_meaning.specs.Readings.{items_at, AreIn}
use Rattle.xq_functions.specs.Kinds.{is_on_atoms}
use Rattle.xq_functions.specs.Answers.{items_of}
use Rattle.xq_operators.proofs.Giving.{told, gives_judged, operated_exist}
use Rattle.xq_operators.proofs.AtomResults.{plain_gives, operated_atoms}
use Rattle.xq_operators.proofs.operators.operate.Goals as goal

pub returns-clause-gives : goal.returns-clause-gives
returns-clause-gives g c = λ clean left_in right_in.
    let old = g.W.TreeSource.forest c.args.world.now in
    let mid = g.W.TreeSource.forest c.of_items.new.source in
    let new = g.W.TreeSource.forest c.of_items-2.new.source in
    let xs = items_at old (item_views c.args.left) in
    let ys = items_at old (item_views c.args.right) in
    let same : mid ≡ old = c.of_items.ensures.keeps in
    let first : map atomic_of c.atoms.result.now ≡ atomized old xs = c.atoms.ensures ∙ c.in_ok-left.ensures.value (c.of_items-2.ensures.was_clean clean) in
    let second : map atomic_of c.atoms-2.result.now ≡ atomized old ys = c.atoms-2.ensures ∙ c.in_ok-right.ensures.value clean ∙ ap (λ f. atomized f (items_at f (item_views c.args.right))) same in
    let on_atoms : is_on_atoms c.args.operator ≡ true = search rules in
    plain_gives (operated c.args.operator old xs ys) old new c.operate_on_atoms.result (operated_atoms c.args.operator old xs ys on_atoms) (c.of_items-2.ensures.keeps ∙ same)
    (c.operate_on_atoms.ensures on_atoms old xs ys (sym first) (sym second))

pub returns-then-not-is_on_atoms-clause-gives : goal.returns-then-not-is_on_atoms-clause-gives
returns-then-not-is_on_atoms-clause-gives g c = λ clean left_in right_in.
    let old = g.W.TreeSource.forest c.args.world.now in
    let lent = map item_view c.deref.result.now in
    let lent' = map item_view c.deref-then-not-is_on_atoms.result.now in
    let same : lent ≡ item_views c.args.left = ap (map item_view) c.deref.ensures.value in
    let same' : lent' ≡ item_views c.args.right = ap (map item_view) c.deref-then-not-is_on_atoms.ensures.value in
    let off : is_on_atoms c.args.operator ≡ false = search rules in
    let judgement = operated c.args.operator old (items_at old lent) (items_at old lent') in
    let judged = c.operate_on_nodes.ensures off old (subst (AreIn old) (sym same) left_in) (subst (AreIn old) (sym same') right_in) in
    rw (← same, ← same') (gives_judged judgement old old c.operate_on_nodes.result refl (told (items_of old) judgement c.operate_on_nodes.result judged) (operated_exist c.args.operator old (items_at old lent) (items_at old lent') off))
