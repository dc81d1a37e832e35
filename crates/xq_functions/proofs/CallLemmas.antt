-- What calls and operators are, from the atomic values of their arguments and operands.
use Rattle.std.proofs.Common.{◌≡◌, ◌≤◌, ◌<◌, List, [], ◌∷◌, ◌++◌, map, length, get_or, ◌==◌, Option, Some, Ok, Err, true, false, refl, sym, ap, ◌∙◌, arith}
use Rattle.std.specs.Global.{Vec}
use Rattle.std.proofs.lemmas.List.{append-nil, append_assoc}
use Rattle.std.proofs.lemmas.Bool.{false≢true}
use Rattle.xq_atoms.specs.Judged.{Judged, ◌>>=◌}
use Rattle.xq_atoms.specs.Text.{Text}
use Rattle.xq_atoms.specs.Atom.{Atomic}
use Rattle.xq_trees.specs.declared.items.Item.{Item as CodeItem}
use Rattle.xq_trees.specs.Items.{Value, item_views}
use Rattle.xq_trees.specs.Tree.{Tree}
use Rattle.xq_expressions.specs.declared.signatures.Function.{Function}
use Rattle.xq_expressions.specs.declared.signatures.Function.TheVariants as f
use Rattle.xq_expressions.specs.declared.operators.ComparisonOperator.{ComparisonOperator}
use Rattle.xq_expressions.specs.declared.operators.ComparisonOperator.TheVariants as comparing
use Rattle.xq_meaning.specs.declared.operators.Operator.{Operator}
use Rattle.xq_meaning.specs.declared.operators.Operator.TheVariants as operator
use Rattle.xq_meaning.specs.Items.{Item, Atom, atomized}
use Rattle.xq_meaning.specs.Readings.{items_at}
use Rattle.xq_meaning.specs.Arguments.{text, optional, single, as_items, as_boolean, if_given}
use Rattle.xq_meaning.specs.Texts.{joined}
use Rattle.xq_meaning.specs.Functions.{Focus, piece, of_one, of_two, of_three, of_many, called, distinct_values}
use Rattle.xq_meaning.specs.Operators.{operated, of_both, number_operand, sum_of, product_of, one_bound, integers, related_by}
use Rattle.xq_atoms.specs.Compare.{compare_value}
use Rattle.xq_functions.specs.Answers.{items_of}
use Rattle.xq_functions.specs.Kinds.{argument_of, is_on_atoms}
use Rattle.xq_functions.specs.declared.kinds.Argument.TheVariants.{Atoms}
use Rattle.xq_functions.specs.private.Calls.{of_atom, of_atoms, of_optional, of_lists, on_both, both_operated, unless_empty, atoms_operated, texts_concatenated, three_concatenated}

two_step : (p q : Judged Text) → ((p >>= (λ s. (q >>= (λ t. Ok (t ∷ []))) >>= (λ ts. Ok (s ∷ ts)))) >>= (λ ts. Ok (text (joined [] ts)))) ≡ (p >>= (λ s. q >>= (λ t. Ok (text (s ++ t)))))
two_step (Err code) q = refl
two_step (Ok s) (Err code) = refl
two_step (Ok s) (Ok t) = ap (λ u. Ok (text (u ++ t))) (append-nil s)

pub two-concatenated : (as' bs : List Atomic) → of_two f.Concat as' bs ≡ texts_concatenated as' bs
two-concatenated as' bs = two_step (piece as') (piece bs)

three_step : (p q r : Judged Text) → ((p >>= (λ s. (q >>= (λ t. (r >>= (λ u. Ok (u ∷ []))) >>= (λ ts. Ok (t ∷ ts)))) >>= (λ ts. Ok (s ∷ ts)))) >>= (λ ts. Ok (text (joined [] ts))))
    ≡ (p >>= (λ s. q >>= (λ t. r >>= (λ u. Ok (text ((s ++ t) ++ u))))))
three_step (Err code) q r = refl
three_step (Ok s) (Err code) r = refl
three_step (Ok s) (Ok t) (Err code) = refl
three_step (Ok s) (Ok t) (Ok u) = ap (λ x. Ok (text x)) (ap (λ x. x ++ ((t ++ []) ++ u)) (append-nil s) ∙ ap (λ x. s ++ (x ++ u)) (append-nil t) ∙ sym (append_assoc s t u))

pub concatenated-three : (as' bs cs : List Atomic) → of_three f.Concat as' bs cs ≡ three_concatenated as' bs cs
concatenated-three as' bs cs = three_step (piece as') (piece bs) (piece cs)

pub of_some : (function : Function) (as' : List Atomic) (a : Atomic) → Ok (Some a) ≡ optional as' → of_optional function as' ≡ of_atom function a
of_some function as' a e = ap (λ j. j >>= if_given [] (of_atom function)) (sym e)

map-atoms : (trees : List Tree) (as' : List Atomic) → map Atom as' ≡ items_at trees (map Value as')
map-atoms trees [] = refl
map-atoms trees (a ∷ as') = ap (λ l. Atom a ∷ l) (map-atoms trees as')

pub distinct-items : (trees : List Tree) (as' : List Atomic) (items : Vec CodeItem) → item_views items ≡ map Value (distinct_values as') → map Atom (distinct_values as') ≡ items_of trees items
distinct-items trees as' items e = map-atoms trees (distinct_values as') ∙ ap (items_at trees) (sym e)

pub unless_empty-there : (as' bs : List Atomic) (result : Judged (List Item)) → 0 < length as' → 0 < length bs → unless_empty as' bs result ≡ result
unless_empty-there [] bs result h g = absurd (omega arith)
unless_empty-there (a ∷ as') [] result h g = absurd (omega arith)
unless_empty-there (a ∷ as') (b ∷ bs) result h g = refl

both-there : {B : Type 0} (judge : List Atomic → Judged B) (result : B → B → Judged (List Item)) (as' bs : List Atomic) → of_both judge result as' bs ≡ unless_empty as' bs (on_both judge result as' bs)
both-there judge result [] bs = refl
both-there judge result (a ∷ as') [] = refl
both-there judge result (a ∷ as') (b ∷ bs) = refl

pub operated-atoms : (op : Operator) (trees : List Tree) (xs ys : List Item) → is_on_atoms op ≡ true → operated op trees xs ys ≡ atoms_operated op (atomized trees xs) (atomized trees ys)
operated-atoms (operator.Sum op) trees xs ys on = both-there number_operand (λ a b. as_items (sum_of op a b)) (atomized trees xs) (atomized trees ys)
operated-atoms (operator.Product op) trees xs ys on = both-there number_operand (λ a b. as_items (product_of op a b)) (atomized trees xs) (atomized trees ys)
operated-atoms operator.Range trees xs ys on = both-there one_bound integers (atomized trees xs) (atomized trees ys)
operated-atoms operator.Concat trees xs ys on = refl
operated-atoms (operator.Comparison (comparing.Value op)) trees xs ys on = both-there single (λ a b. as_boolean (compare_value (related_by op) a b)) (atomized trees xs) (atomized trees ys)
operated-atoms (operator.Comparison (comparing.General op)) trees xs ys on = refl
operated-atoms (operator.Comparison (comparing.Node op)) trees xs ys on = (cc)
operated-atoms operator.Union trees xs ys on = (cc)
operated-atoms (operator.SetOperation op) trees xs ys on = (cc)

pub of_one-atoms : (function : Function) (trees : List Tree) (addresses : List Text) (xs : List Item) → argument_of function ≡ Atoms → of_one function trees addresses xs ≡ of_atoms function (atomized trees xs)
of_one-atoms f.StringLength trees addresses xs on = refl
of_one-atoms f.NormalizeSpace trees addresses xs on = refl
of_one-atoms f.StringJoin trees addresses xs on = refl
of_one-atoms f.DistinctValues trees addresses xs on = refl
of_one-atoms f.Sum trees addresses xs on = refl
of_one-atoms f.Min trees addresses xs on = refl
of_one-atoms f.Max trees addresses xs on = refl
of_one-atoms f.Abs trees addresses xs on = refl
of_one-atoms f.Floor trees addresses xs on = refl
of_one-atoms f.Ceiling trees addresses xs on = refl
of_one-atoms f.Round trees addresses xs on = refl
of_one-atoms f.ToInteger trees addresses xs on = refl
of_one-atoms f.ToDecimal trees addresses xs on = refl
of_one-atoms f.ToString trees addresses xs on = refl
of_one-atoms f.ToBoolean trees addresses xs on = refl
of_one-atoms f.ToUntyped trees addresses xs on = refl
of_one-atoms function trees addresses xs on = (cc)

pub called-lists : (function : Function) (trees : List Tree) (addresses : List Text) (focus : Option Focus) (values : List (List Item)) → 2 ≤ length values → called function trees addresses focus values ≡ of_lists function (map (atomized trees) values)
called-lists function trees addresses focus [] many = absurd (omega arith)
called-lists function trees addresses focus (xs ∷ []) many = absurd (omega arith)
called-lists function trees addresses focus (xs ∷ ys ∷ []) many = refl
called-lists function trees addresses focus (xs ∷ ys ∷ zs ∷ []) many = refl
called-lists function trees addresses focus (w ∷ xs ∷ ys ∷ zs ∷ more) many = refl

pub of_atoms-others : (function : Function) (as' : List Atomic) → (function ≡ f.StringLength → ⊥) → (function ≡ f.NormalizeSpace → ⊥) → (function ≡ f.StringJoin → ⊥) → (function ≡ f.DistinctValues → ⊥) → (function ≡ f.Sum → ⊥) → (function ≡ f.Min → ⊥) → (function ≡ f.Max → ⊥)
    → of_atoms function as' ≡ of_optional function as'
of_atoms-others f.StringLength as' a b c d e g h = absurd (a refl)
of_atoms-others f.NormalizeSpace as' a b c d e g h = absurd (b refl)
of_atoms-others f.StringJoin as' a b c d e g h = absurd (c refl)
of_atoms-others f.DistinctValues as' a b c d e g h = absurd (d refl)
of_atoms-others f.Sum as' a b c d e g h = absurd (e refl)
of_atoms-others f.Min as' a b c d e g h = absurd (g refl)
of_atoms-others f.Max as' a b c d e g h = absurd (h refl)
of_atoms-others function as' a b c d e g h = refl

pub not_empty-map : {A B : Type 0} (g : A → B) (xs : List A) → (length xs == 0) ≡ false → 0 < length (map g xs)
not_empty-map g [] h = absurd (false≢true (sym h))
not_empty-map g (x ∷ xs) h = omega arith

pub two-lists : {A B : Type 0} (g : A → B) (xs : List A) (a b : A) → length xs ≡ 2 → a ≡ get_or xs 0 a → b ≡ get_or xs 1 b → map g xs ≡ g a ∷ g b ∷ []
two-lists g [] a b h first second = absurd (omega (arith, h))
two-lists g (x ∷ []) a b h first second = absurd (omega (arith, h))
two-lists g (x ∷ y ∷ []) a b h first second = sym (λ i. g (first i) ∷ g (second i) ∷ [])
two-lists g (x ∷ y ∷ z ∷ zs) a b h first second = absurd (omega (arith, h))

pub three-lists : {A B : Type 0} (g : A → B) (xs : List A) (a b d : A) → length xs ≡ 3 → a ≡ get_or xs 0 a → b ≡ get_or xs 1 b → d ≡ get_or xs 2 d → map g xs ≡ g a ∷ g b ∷ g d ∷ []
three-lists g [] a b d h first second third = absurd (omega (arith, h))
three-lists g (x ∷ []) a b d h first second third = absurd (omega (arith, h))
three-lists g (x ∷ y ∷ []) a b d h first second third = absurd (omega (arith, h))
three-lists g (x ∷ y ∷ z ∷ []) a b d h first second third = sym (λ i. g (first i) ∷ g (second i) ∷ g (third i) ∷ [])
three-lists g (x ∷ y ∷ z ∷ w ∷ ws) a b d h first second third = absurd (omega (arith, h))

pub other-lists : {A : Type 0} (g : A → List Atomic) (function : Function) (xs : List A) → (length xs ≡ 2 → ⊥) → (length xs ≡ 3 → ⊥) → of_lists function (map g xs) ≡ of_many function (map g xs)
other-lists g function [] h k = refl
other-lists g function (x ∷ []) h k = refl
other-lists g function (x ∷ y ∷ []) h k = absurd (h (omega arith))
other-lists g function (x ∷ y ∷ z ∷ []) h k = absurd (k (omega arith))
other-lists g function (x ∷ y ∷ z ∷ w ∷ ws) h k = refl

pub operated-others : (op : Operator) (as' bs : List Atomic) → (op ≡ operator.Concat → ⊥) → ((c : ComparisonOperator) → op ≡ operator.Comparison c → ⊥) → atoms_operated op as' bs ≡ unless_empty as' bs (both_operated op as' bs)
operated-others (operator.Comparison c) as' bs h k = absurd (k c refl)
operated-others operator.Concat as' bs h k = absurd (h refl)
operated-others op as' bs h k = refl
