-- Parts that can't be refused: nodes, texts, and tests of them.
use Rattle.std.proofs.Common.{◌≡◌, List, [], ◌∷◌, map, Bool, true, false, Ok, refl, ap, ◌∙◌}
use Rattle.std.specs.List.{AllByRecursion}
use Rattle.xq_atoms.specs.Atom.{Atomic, String, Untyped, Integer, Decimal, Boolean}
use Rattle.xq_atoms.specs.Compare.{compare_general}
use Rattle.xq_atoms.specs.Judged.{◌>>=◌}
use Rattle.xq_atoms.specs.Text.{Text}
use Rattle.xq_atoms.specs.declared.comparisons.CompOp.{CompOp}
use Rattle.xq_expressions.specs.declared.operators.Relation.{Relation}
use Rattle.xq_expressions.specs.declared.operators.ComparisonOperator.TheVariants as comparing
use Rattle.xq_trees.specs.Tree.{Tree}
use Rattle.xq_trees.specs.Value.{TypedValue, string, untyped, typed_value}
use Rattle.xq_meaning.specs.declared.operators.Operator.TheVariants as operator
use Rattle.xq_meaning.specs.declared.plans.Plan.{Plan}
use Rattle.xq_meaning.specs.declared.plans.Plan.TheVariants as plan
use Rattle.xq_meaning.specs.Arguments.{effective, boolean, as_boolean}
use Rattle.xq_meaning.specs.Doing.{go_on, give, judged, on_trees, in_turn, first_that, unless_found}
use Rattle.xq_meaning.specs.Forms
use Rattle.xq_meaning.specs.Items.{Place, Node, atomized, atomic_value, tree_below}
use Rattle.xq_meaning.specs.Operators.{some_with, some_pair, or_rest, related_by, operated}
use Rattle.xq_meaning.specs.PlanMeaning.{Frame, Meaning, plan_mean}
use Rattle.xq_meaning.specs.Same.{frame_of}
use Rattle.xq_meaning.proofs.PlanEquations as plan_eq
use Rattle.xq_optimise.specs.declared.held.Held.{Held}
use Rattle.xq_optimise.specs.Known.{IsText}
use Rattle.xq_optimise.specs.Sure.{SurelyNodes, SurelyTexts, SurelyTells}
use Rattle.xq_optimise.specs.private.Parts.{general_comparison}

-- # Texts compare

texts_compare : (op : CompOp) (a b : Atomic) → IsText a → IsText b → (truth : Bool) × (compare_general op a b ≡ Ok truth)
texts_compare op (String s) (String t) h k = (_, refl)
texts_compare op (String s) (Untyped t) h k = (_, refl)
texts_compare op (Untyped s) (String t) h k = (_, refl)
texts_compare op (Untyped s) (Untyped t) h k = (_, refl)
texts_compare op (Integer n) b h k = absurd h
texts_compare op (Decimal n) b h k = absurd h
texts_compare op (Boolean n) b h k = absurd h
texts_compare op a (Integer n) h k = absurd k
texts_compare op a (Decimal n) h k = absurd k
texts_compare op a (Boolean n) h k = absurd k

pub one_or_more : (op : CompOp) (a : Atomic) (bs : List Atomic) → IsText a → AllByRecursion IsText bs →
    (truth : Bool) × (some_with op a bs ≡ Ok truth)
one_or_more op a [] h k = (false, refl)
one_or_more op a (b ∷ bs) h k =
    let first = texts_compare op a b h k.0 in
    let rest = one_or_more op a bs h k.1 in
    decided first.0 rest (ap (λ r. r >>= (λ answer. or_rest answer (some_with op a bs))) first.1)
  where
    decided : (answer : Bool) → ((truth : Bool) × (some_with op a bs ≡ Ok truth)) →
        some_with op a (b ∷ bs) ≡ or_rest answer (some_with op a bs) →
        (truth : Bool) × (some_with op a (b ∷ bs) ≡ Ok truth)
    decided true rest e = (true, e)
    decided false rest e = (rest.0, e ∙ rest.1)

pub pairs_compare : (op : CompOp) (as' bs : List Atomic) → AllByRecursion IsText as' → AllByRecursion IsText bs →
    (truth : Bool) × (some_pair op as' bs ≡ Ok truth)
pairs_compare op [] bs h k = (false, refl)
pairs_compare op (a ∷ as') bs h k =
    let first = one_or_more op a bs h.0 k in
    let rest = pairs_compare op as' bs h.1 k in
    decided first.0 rest (ap (λ r. r >>= (λ answer. or_rest answer (some_pair op as' bs))) first.1)
  where
    decided : (answer : Bool) → ((truth : Bool) × (some_pair op as' bs ≡ Ok truth)) →
        some_pair op (a ∷ as') bs ≡ or_rest answer (some_pair op as' bs) →
        (truth : Bool) × (some_pair op (a ∷ as') bs ≡ Ok truth)
    decided true rest e = (true, e)
    decided false rest e = (rest.0, e ∙ rest.1)

-- # What has texts

value_is_text : (v : TypedValue) → IsText (atomic_value v)
value_is_text (string t) = tt
value_is_text (untyped t) = tt

pub nodes_have_texts : (trees : List Tree) (ps : List Place) → AllByRecursion IsText (atomized trees (map Node ps))
nodes_have_texts trees [] = tt
nodes_have_texts trees (p ∷ ps) = (value_is_text (typed_value (tree_below trees p)), nodes_have_texts trees ps)

pub nodes_are_texts : (known : List Held) (p : Plan) → SurelyNodes known p → SurelyTexts known p
nodes_are_texts known p h slots focus addresses trees fits =
    let found = h slots focus addresses trees fits in
    (map Node found.0, nodes_have_texts trees found.0, found.1)

pub string_is_text : (known : List Held) (t : Text) → SurelyTexts known (plan.Str t)
string_is_text known t slots focus addresses trees fits =
    (_, (tt, tt), ap (λ m. m (frame_of slots focus addresses) trees) (plan_eq.plan-Str t))

-- # What tells

nodes_true : (ps : List Place) → (truth : Bool) × (effective (map Node ps) ≡ Ok truth)
nodes_true [] = (false, refl)
nodes_true (p ∷ ps) = (true, refl)

pub nodes_tell : (known : List Held) (p : Plan) → SurelyNodes known p → SurelyTells known p
nodes_tell known p h slots focus addresses trees fits =
    let found = h slots focus addresses trees fits in
    let tells = nodes_true found.0 in (
      tells.0,
      ap (λ o. go_on o (λ xs. judged (effective xs))) found.1 ∙ ap (λ r. (r, trees)) tells.1,
    )

pub comparison_tells : (known : List Held) (relation : Relation) (p q : Plan) → SurelyTexts known p → SurelyTexts known q →
    SurelyTells known (general_comparison relation p q)
comparison_tells known relation p q h k slots focus addresses trees fits =
    let frame = frame_of slots focus addresses in
    let op = operator.Comparison (comparing.General relation) in
    let first = h slots focus addresses trees fits in
    let second = k slots focus addresses trees fits in
    let tells = pairs_compare (related_by relation) (atomized trees first.0) (atomized trees second.0) first.1 second.1 in (
      tells.0,
      ap (λ m. Forms.tested m frame trees) (plan_eq.plan-Chain p ((op, q) ∷ []))
          ∙ ap (λ o. go_on (go_on o (λ xs. in_turn (Forms.next_operand frame) xs ((op, plan_mean q) ∷ []))) (λ xs. judged (effective xs))) first.2
          ∙ ap (λ o. go_on (go_on (go_on o (λ ys. on_trees (λ ts. operated op ts first.0 ys))) (λ xs. give xs)) (λ xs. judged (effective xs))) second.2
          ∙ ap (λ r. go_on (go_on (as_boolean r, trees) (λ xs. give xs)) (λ xs. judged (effective xs))) tells.1,
    )

-- # Conjunctions

pub none_tells : (frame : Frame) (trees : List Tree) →
    Forms.tested (Forms.and []) frame trees ≡ (Ok true, trees)
none_tells frame trees = refl

-- a first one that holds leaves the others to tell, and one that doesn't tells for all
pub true_first : (m : Meaning) (ms : List Meaning) (frame : Frame) (trees : List Tree) →
    Forms.tested m frame trees ≡ (Ok true, trees) →
    Forms.tested (Forms.and (m ∷ ms)) frame trees ≡ Forms.tested (Forms.and ms) frame trees
true_first m ms frame trees e =
    ap (λ o. go_on (go_on (go_on o (λ answer. unless_found false answer (first_that false (λ part. Forms.tested part frame) ms))) (λ answer. give (boolean answer))) (λ xs. judged (effective xs))) e

pub false_first : (m : Meaning) (ms : List Meaning) (frame : Frame) (trees : List Tree) →
    Forms.tested m frame trees ≡ (Ok false, trees) →
    Forms.tested (Forms.and (m ∷ ms)) frame trees ≡ (Ok false, trees)
false_first m ms frame trees e =
    ap (λ o. go_on (go_on (go_on o (λ answer. unless_found false answer (first_that false (λ part. Forms.tested part frame) ms))) (λ answer. give (boolean answer))) (λ xs. judged (effective xs))) e
