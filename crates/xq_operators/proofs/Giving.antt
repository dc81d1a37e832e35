-- From what a call of a lower crate gives to what an operation gives.
use Rattle.std.proofs.Common.{◌≡◌, List, Bool, true, false, Ok, Err, Result, refl, sym, ◌∙◌, ap, subst}
use Rattle.std.specs.Global.{Vec}
use Rattle.xq_atoms.specs.declared.refusals.Fault.{Fault}
use Rattle.xq_atoms.specs.declared.refusals.Fault.TheVariants.{Code as OfCode, Want as OfWant}
use Rattle.xq_atoms.specs.declared.refusals.Code.TheVariants.{XPTY0018}
use Rattle.xq_atoms.specs.Judged.{Judged}
use Rattle.xq_build.specs.Gives.{GivesTree}
use Rattle.xq_atoms.specs.Answers.{Gives, GivesUnlessWanting}
use Rattle.xq_expressions.specs.declared.operators.ComparisonOperator.TheVariants as comparing
use Rattle.xq_functions.specs.Answers.{items_of}
use Rattle.xq_trees.specs.declared.items.Item.{Item as Held}
use Rattle.xq_trees.specs.Items.{item_views}
use Rattle.xq_trees.specs.Tree.{Tree}
use Rattle.xq_meaning.specs.declared.operators.Operator.{Operator}
use Rattle.xq_meaning.specs.declared.operators.Operator.TheVariants as operator
use Rattle.xq_meaning.specs.Items.{Place, Item}
use Rattle.xq_meaning.specs.Arguments.{all_nodes, boolean}
use Rattle.xq_meaning.specs.Operators.{nodes_or_atoms, all_atoms, are_atoms, gathered, operated, from_nodes, set_of, one_node, stand}
use Rattle.xq_meaning.specs.Readings.{items_at, AreIn}
use Rattle.xq_functions.specs.Kinds.{is_on_atoms}
use Rattle.xq_operators.specs.Views.{GivesSequence, Goes}
use Rattle.xq_operators.proofs.AtomResults.{both_atoms}
use Rattle.xq_operators.proofs.Existing.{Exist, are_in, ordered_exist}
use Rattle.xq_operators.proofs.CallResults.{ExistIn, then_exist, atoms_exist}
use Rattle.xq_operators.proofs.Growth.{extends_itself}

-- where the trees stay as they are
pub kept_goes : {old new : List Tree} {p q : Type 0} → new ≡ old → (q → p) → Goes old new p q
kept_goes {old} {new} {p} {q} same was = subst (λ f. Goes old f p q) (sym same) (record { grows = extends_itself old; was_clean = was })

-- wants tell nothing
pub told : {A B : Type 0} (view : A → B) (judgement : Judged B) (r : Result A Fault) → Gives view judgement r → GivesUnlessWanting view judgement r
told view judgement (Ok x) h = h
told view judgement (Err (OfCode code)) h = h
told view judgement (Err (OfWant want)) h = tt

pub told_tree : (judgement : Judged Tree) (r : Result Tree Fault) → GivesTree judgement r → GivesUnlessWanting (λ t. t) judgement r
told_tree judgement (Ok x) h = h
told_tree judgement (Err (OfCode code)) h = h
told_tree judgement (Err (OfWant want)) h = tt

-- a judgement on the trees, whose items exist
pub gives_judged : (judgement : Judged (List Item)) (old new : List Tree) (r : Result (Vec Held) Fault) → new ≡ old → GivesUnlessWanting (items_of old) judgement r → ExistIn old judgement → GivesSequence (judgement, old) new r
gives_judged judgement old new (Ok items) same h exist =
    let value : judgement ≡ Ok (items_at new (item_views items)) = h ∙ ap (λ f. Ok (items_at f (item_views items))) (sym same) in
    let stays : old ≡ new = sym same in
    (subst (λ f. AreIn f (item_views items)) stays (are_in old (item_views items) (subst (ExistIn old) h exist)), λ i. (value i, stays i))
gives_judged judgement old new (Err (OfCode code)) same h exist = h
gives_judged judgement old new (Err (OfWant want)) same h exist = tt

-- # What exists

gathered_step : (trees : List Tree) (xs : List Item) (r : Judged (List Place)) (b : Bool) → Exist trees xs → are_atoms xs ≡ b → ExistIn trees (nodes_or_atoms trees xs r)
gathered_step trees xs (Ok places) b h e = ordered_exist trees places
gathered_step trees xs (Err code) true h e = subst (λ a. ExistIn trees (all_atoms a xs)) (sym e) h
gathered_step trees xs (Err code) false h e = subst (λ a. ExistIn trees (all_atoms a xs)) (sym e) tt

pub gathered_exist : (trees : List Tree) (xs : List Item) → Exist trees xs → ExistIn trees (gathered trees xs)
gathered_exist trees xs h = gathered_step trees xs (all_nodes XPTY0018 xs) (are_atoms xs) h refl

united_exist : (trees : List Tree) (result : List Place → List Place → List Place) (xs ys : List Item) → ExistIn trees (from_nodes result trees xs ys)
united_exist trees result xs ys = then_exist trees (all_nodes _ xs) _ (λ ps. then_exist trees (all_nodes _ ys) _ (λ qs. ordered_exist trees (result ps qs)))

pub operated_exist : (op : Operator) (trees : List Tree) (xs ys : List Item) → is_on_atoms op ≡ false → ExistIn trees (operated op trees xs ys)
operated_exist (operator.Sum s) trees xs ys h = absurd (let e : true ≡ false = h in cc)
operated_exist (operator.Product p) trees xs ys h = absurd (let e : true ≡ false = h in cc)
operated_exist operator.Range trees xs ys h = absurd (let e : true ≡ false = h in cc)
operated_exist operator.Concat trees xs ys h = absurd (let e : true ≡ false = h in cc)
operated_exist (operator.Comparison (comparing.Value op)) trees xs ys h = absurd (let e : true ≡ false = h in cc)
operated_exist (operator.Comparison (comparing.General op)) trees xs ys h = absurd (let e : true ≡ false = h in cc)
operated_exist (operator.Comparison (comparing.Node op)) trees xs ys h = atoms_exist trees _ (both_atoms one_node (λ p q. Ok (boolean (stand op p q))) xs ys (λ p q. (tt, tt)))
operated_exist operator.Union trees xs ys h = united_exist trees _ xs ys
operated_exist (operator.SetOperation op) trees xs ys h = united_exist trees (set_of op) xs ys
