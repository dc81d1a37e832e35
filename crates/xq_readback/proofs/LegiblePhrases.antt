-- Every phrase of the grammar over legible tokens stands for a good expression: one lemma a line.
use Rattle.std.proofs.Common.{◌≡◌, ℕ, zero, suc, ℤ, List, [], ◌∷◌, Option, Some, None, refl, subst, inl, inr, ◌⊎◌}
use Rattle.std.specs.List.{AllByRecursion}
use Rattle.xq_lexer.specs.Lexeme.{name, prefixed, int, dec, str, symbol}
use Rattle.xq_lexer.specs.declared.tokens.Symbol.TheVariants as s
use Rattle.xq_expressions.specs.declared.names.QName.{QName}
use Rattle.xq_expressions.specs.declared.operators.Sign.{Sign}
use Rattle.xq_expressions.specs.declared.operators.ComparisonOperator.{ComparisonOperator}
use Rattle.xq_expressions.specs.declared.operators.PathStart.{PathStart}
use Rattle.xq_expressions.specs.declared.operators.PathStart.TheVariants as start
use Rattle.xq_expressions.specs.declared.operators.Separator.{Separator}
use Rattle.xq_expressions.specs.declared.operators.AxisStep.{AxisStep}
use Rattle.xq_expressions.specs.declared.operators.AxisStep.TheVariants as along
use Rattle.xq_expressions.specs.declared.operators.NodeTest.{NodeTest}
use Rattle.xq_expressions.specs.declared.operators.NodeTest.TheVariants as test
use Rattle.xq_expressions.specs.declared.operators.NamedNode.TheVariants as named
use Rattle.xq_expressions.specs.declared.operators.Direction.{Direction}
use Rattle.xq_expressions.specs.declared.operators.Direction.TheVariants as direction
use Rattle.xq_expressions.specs.declared.operators.AllowingEmpty.{AllowingEmpty}
use Rattle.xq_expressions.specs.declared.operators.AllowingEmpty.TheVariants as allowing
use Rattle.xq_expressions.specs.declared.operators.EmptyOrder.{EmptyOrder}
use Rattle.xq_expressions.specs.declared.operators.EmptyOrder.TheVariants as empty_order
use Rattle.xq_expressions.specs.declared.expressions.Expr.{Expr}
use Rattle.xq_expressions.specs.declared.expressions.Expr.TheVariants as e
use Rattle.xq_expressions.specs.declared.expressions.Step.{Step}
use Rattle.xq_expressions.specs.declared.expressions.Step.TheVariants as step
use Rattle.xq_parser.specs.Look.{Tokens, word}
use Rattle.xq_parser.specs.Rel.{Rel, empty, OneOf, ◌▹◌, ◌◃◌, ◌⟨$⟩◌, ◌∣◌, Maybe}
use Rattle.xq_parser.specs.Grammar as g
use Rattle.xq_meaning.specs.Printable.{IsCharacters}
use Rattle.xq_readback.proofs.Expressions.{IsGood, AreGood, IsOperand, IsGoodCall, IsGoodName, IsGoodClause, IsGoodSpec, IsGoodStep, IsGoodFor, IsGoodKey, int_good, dec_good, str_good, variable_good, context_good, call_good, sequence_good, range_good, union_good, set_operation_good, sum_good, product_good, unary_good, arrow_good, map_good, concat_good, comparison_good, or_good, and_good, root_good, path_good, named_good, unnamed_good, flwor_good, if_good, quantified_good, literal_name_good, computed_name_good, for_good, let_good, filter_good, group_good, order_good, count_good, grouping_good, assigned_good, axis_step_good, primary_step_good}
use Rattle.xq_readback.proofs.Reading.{AreLegibleLexes, Reads, front, read-&, read-▹, read-between, read-map, read-weaker, read-∣, MayBe, read-maybe, read-many, read-empty, read-is, read-one_of, read-commas}

-- # What phrases stand for

-- nothing is asked
abbrev Free : {A : Type 0} → A → Type 0
Free x = Unit {0}

-- the local name holds characters
abbrev IsLegibleName : QName → Type 0
IsLegibleName q = IsCharacters q.local

several_good : (operation : List Expr → Expr) → ((xs : List Expr) → AreGood xs → IsGood (operation xs)) → (p : Expr × List Expr) → IsGood p.0 × AreGood p.1 → IsGood (g.several operation p)
several_good operation k (first, []) h = h.0
several_good operation k (first, second ∷ more) h = k (first ∷ second ∷ more) (h.0, h.1)

chain_good : {A : Type 0} (G : A → Type 0) (operation : Expr → List A → Expr) → ((x : Expr) (rest : List A) → IsGood x → AllByRecursion G rest → IsGood (operation x rest))
    → (p : Expr × List A) → IsGood p.0 × AllByRecursion G p.1 → IsGood (g.chain operation p)
chain_good G operation k (first, []) h = h.0
chain_good G operation k (first, second ∷ more) h = k first (second ∷ more) h.0 h.1

compared_good : (p : Expr × Option (ComparisonOperator × Expr)) → IsGood p.0 × MayBe (λ (o : ComparisonOperator × Expr). IsOperand o) p.1 → IsGood (g.compared p)
compared_good (x, None) h = h.0
compared_good (x, Some (operator, y)) h = comparison_good x operator y h.0 h.1.1

ranged_good : (p : Expr × Option Expr) → IsGood p.0 × MayBe IsGood p.1 → IsGood (g.ranged p)
ranged_good (x, None) h = h.0
ranged_good (x, Some y) h = range_good x y h.0 h.1

signed_good : (p : List Sign × Expr) → AllByRecursion (λ (o : Sign). Unit {0}) p.0 × IsGood p.1 → IsGood (g.signed p)
signed_good ([], operand) h = h.1
signed_good (outer ∷ inner, operand) h = unary_good (outer ∷ inner) operand h.1

spec_good : (p : QName × Option Expr) → Unit {0} × MayBe IsGood p.1 → IsGoodSpec (g.group_spec p)
spec_good (v, None) h = grouping_good v
spec_good (v, Some x) h = assigned_good v x h.1

-- a step that is one along an axis, or a primary expression, with its predicates
abbrev IsStep : Step → Type 0
IsStep one = ((p : AxisStep × List Expr) × (g.axis_step p ≡ one) × AreGood p.1)
    ⊎ ((p : Expr × List Expr) × (g.primary_step p ≡ one) × (IsGood p.0 × AreGood p.1))

step_good : (one : Step) → IsStep one → IsGoodStep one
step_good one (inl h) = subst IsGoodStep h.1 (axis_step_good h.0.0 h.0.1 h.2)
step_good one (inr h) = subst IsGoodStep h.1 (primary_step_good h.0.0 h.0.1 h.2.0 h.2.1)

abbrev AreSteps : List (Separator × Step) → Type 0
AreSteps rest = AllByRecursion (λ (o : Separator × Step). Unit {0} × IsStep o.1) rest

steps_good : (rest : List (Separator × Step)) → AreSteps rest → AllByRecursion (λ (o : Separator × Step). Unit {0} × IsGoodStep o.1) rest
steps_good [] h = tt
steps_good (o ∷ rest) h = ((tt, step_good o.1 h.0.1), steps_good rest h.1)

rooted_good : (from : PathStart) (p : Step × List (Separator × Step)) → IsStep p.0 × AreSteps p.1 → IsGood (g.rooted from p)
rooted_good from (first, rest) h = path_good from first rest (step_good first h.0) (steps_good rest h.1)

-- a primary expression without predicates is alone
relative_good : (p : Step × List (Separator × Step)) → IsStep p.0 × AreSteps p.1 → IsGood (g.relative p)
relative_good (first, rest) (inl h, k) =
    subst (λ one. IsGood (g.relative (one, rest))) h.1 (along_good h.0.0 h.0.1 rest h.2 k)
  where
    along_good : (a : AxisStep) (predicates : List Expr) (rest : List (Separator × Step)) → AreGood predicates → AreSteps rest → IsGood (g.relative (g.axis_step (a, predicates), rest))
    along_good a predicates rest h k = rw (step.outs-Axis a predicates) (path_good start.Relative (step.Axis a predicates) rest (axis_step_good a predicates h) (steps_good rest k))
relative_good (first, rest) (inr h, k) =
    subst (λ one. IsGood (g.relative (one, rest))) h.1 (primary_good h.0.0 h.0.1 rest h.2.0 h.2.1 k)
  where
    primary_good : (x : Expr) (predicates : List Expr) (rest : List (Separator × Step)) → IsGood x → AreGood predicates → AreSteps rest → IsGood (g.relative (g.primary_step (x, predicates), rest))
    primary_good x [] [] h p k = rw (step.outs-Primary x []) h
    primary_good x [] (o ∷ rest) h p k = rw (step.outs-Primary x []) (path_good start.Relative (step.Primary x []) (o ∷ rest) (primary_step_good x [] h p) (steps_good (o ∷ rest) k))
    primary_good x (y ∷ ys) rest h p k = rw (step.outs-Primary x (y ∷ ys)) (path_good start.Relative (step.Primary x (y ∷ ys)) rest (primary_step_good x (y ∷ ys) h p) (steps_good rest k))

-- # Names and literals

nc_reads : Reads IsCharacters g.NC
nc_reads = record { gives = λ ts n us d h. front (name n) ts us d h }

prefixed_reads : Reads IsLegibleName g.Prefixed
prefixed_reads = record {
  gives = λ ts q us d h.
      let r = front (prefixed d.0 d.1) ts us d.2 h in
      (subst IsLegibleName d.3 r.0, r.1);
}

qn_reads : Reads IsLegibleName g.QN
qn_reads = read-∣ (read-map _ nc_reads (λ n h. h)) prefixed_reads

call_nc_reads : Reads IsCharacters g.CallNC
call_nc_reads = record { gives = λ ts n us d h. front (name n) ts us d.0 h }

call_name_reads : Reads IsLegibleName g.CallName
call_name_reads = read-∣ (read-map _ call_nc_reads (λ n h. h)) prefixed_reads

variable_reads : Reads IsLegibleName g.Variable
variable_reads = read-▹ _ qn_reads

int_reads : Reads (λ (n : ℤ). Unit {0}) g.IntLiteral
int_reads = record { gives = λ ts n us d h. (tt, (front (int n) ts us d h).1) }

dec_reads : Reads (λ (m : ℤ). Unit {0}) g.DecLiteral
dec_reads = record { gives = λ ts m us d h. (tt, (front (dec m) ts us d h).1) }

str_reads : Reads IsCharacters g.StrLiteral
str_reads = record { gives = λ ts t us d h. front (str t) ts us d h }

-- # The lines, over singles that are good

module _ (S : Rel Expr) (single : Reads IsGood S) where
  whole_reads : Reads IsGood (g.Whole S)
  whole_reads = read-map _ (read-& single (read-many (read-▹ _ single))) (several_good e.Sequence sequence_good)

  inner_reads : Reads IsGood (empty (e.Sequence []) ∣ g.Whole S)
  inner_reads = read-∣ (read-empty (e.Sequence []) (sequence_good [] tt)) whole_reads

  body_reads : Reads IsGood (g.Body S)
  body_reads = read-between _ _ inner_reads

  computed_reads : Reads IsGoodName (g.Computed S)
  computed_reads = read-map _ (read-between (symbol s.OpenBrace) (symbol s.CloseBrace) whole_reads) computed_name_good

  name_of_node_reads : Reads IsGoodName (g.NameOfNode S)
  name_of_node_reads = read-∣ (read-map _ qn_reads literal_name_good) computed_reads

  unprefixed_reads : Reads IsLegibleName (g.unprefixed ⟨$⟩ g.NC)
  unprefixed_reads = read-map _ nc_reads (λ n h. h)

  name_of_instruction_reads : Reads IsGoodName (g.NameOfInstruction S)
  name_of_instruction_reads = read-∣ (read-map _ unprefixed_reads literal_name_good) computed_reads

  make_reads : Reads IsGood (g.Make S)
  make_reads =
      read-∣ (read-map _ (read-& (read-one_of g.named_nodes) (read-& name_of_node_reads body_reads)) (λ p h. named_good p.0 p.1.0 p.1.1 h.1.0 h.1.1))
      (read-∣ (read-map _ (read-▹ _ (read-& name_of_instruction_reads body_reads)) (λ p h. named_good named.ProcessingInstruction p.0 p.1 h.0 h.1))
      (read-map _ (read-& (read-one_of g.unnamed_nodes) body_reads) (λ p h. unnamed_good p.0 p.1 h.1)))

  some_arguments_read : Reads AreGood (empty [] ∣ g.Commas S)
  some_arguments_read = read-∣ (read-empty [] tt) (read-commas single)

  arguments_read : Reads AreGood (g.Arguments S)
  arguments_read = read-between _ _ some_arguments_read

  called_reads : Reads IsGoodCall (g.Called S)
  called_reads = read-weaker (read-& call_name_reads arguments_read) (λ c h. h.1)

  call_reads : Reads IsGood (g.Call S)
  call_reads = read-map _ called_reads (λ c h. call_good c.0 c.1 h)

  parenthesised_reads : Reads IsGood (g.Parenthesised S)
  parenthesised_reads = read-between _ _ inner_reads

  primary_reads : Reads IsGood (g.Primary S)
  primary_reads =
      read-∣ (read-map _ int_reads (λ n h. int_good n))
      (read-∣ (read-map _ dec_reads (λ m h. dec_good m))
      (read-∣ (read-map _ str_reads str_good)
      (read-∣ (read-map _ variable_reads (λ q h. variable_good q))
      (read-∣ parenthesised_reads
      (read-∣ (read-is (symbol s.Dot) e.ContextItem context_good)
      (read-∣ call_reads make_reads))))))

  -- ---- steps and paths: nothing is asked of a test

  name_or_any_reads : Reads (λ (o : Option QName). Unit {0}) (g.NameOrAny S)
  name_or_any_reads = read-∣ (read-map _ qn_reads (λ q h. tt)) (read-∣ (read-is (symbol s.Star) None tt) (read-empty None tt))

  nothing_reads : Reads (λ (u : Unit {0}). Unit {0}) (empty tt)
  nothing_reads = read-empty tt tt

  plain_kind_reads : Reads (λ (t : NodeTest). Unit {0}) (OneOf g.plain_kinds ◃ symbol s.OpenParenthesis ◃ symbol s.CloseParenthesis)
  plain_kind_reads = record {
    gives = λ ts a us d h.
        let r = (read-one_of g.plain_kinds).gives ts a (symbol s.OpenParenthesis ∷ symbol s.CloseParenthesis ∷ us) d h in
        (tt, r.1.1.1);
  }

  target_reads : Reads (MayBe IsCharacters) (symbol s.OpenParenthesis ▹ Maybe g.NC ◃ symbol s.CloseParenthesis)
  target_reads = read-between _ _ (read-maybe nc_reads)

  in_parentheses_reads : Reads (λ (o : Option QName). Unit {0}) (symbol s.OpenParenthesis ▹ g.NameOrAny S ◃ symbol s.CloseParenthesis)
  in_parentheses_reads = read-between _ _ name_or_any_reads

  kind_test_reads : Reads (λ (t : NodeTest). Unit {0}) (g.KindTest S)
  kind_test_reads =
      read-∣ plain_kind_reads
      (read-∣ (read-map _ (read-▹ _ target_reads) (λ o h. tt))
      (read-∣ (read-map _ (read-▹ _ in_parentheses_reads) (λ o h. tt))
      (read-map _ (read-▹ _ in_parentheses_reads) (λ o h. tt))))

  test_reads : Reads (λ (t : NodeTest). Unit {0}) (g.Test S)
  test_reads = read-∣ (read-map _ qn_reads (λ q h. tt)) (read-∣ (read-is (symbol s.Star) test.AnyName tt) kind_test_reads)

  axis_step_reads : Reads (λ (a : AxisStep). Unit {0}) (g.AxisStepRel S)
  axis_step_reads =
      read-∣ (read-map _ (read-& (read-one_of g.axis_names) (read-▹ _ test_reads)) (λ p h. tt))
      (read-∣ (read-map _ (read-▹ _ test_reads) (λ t h. tt))
      (read-∣ (read-is (symbol s.DoubleDot) along.Parent tt) (read-map _ test_reads (λ t h. tt))))

  predicate_reads : Reads IsGood (g.Predicate S)
  predicate_reads = read-between _ _ whole_reads

  step_reads : Reads IsStep (g.StepRel S)
  step_reads =
      read-∣ (read-map _ (read-& axis_step_reads (read-many predicate_reads)) (λ p h. inl (p, refl, h.1)))
      (read-map _ (read-& primary_reads (read-many predicate_reads)) (λ p h. inr (p, refl, h)))

  abbrev IsRelative : Step × List (Separator × Step) → Type 0
  IsRelative p = IsStep p.0 × AreSteps p.1

  relative_reads : Reads IsRelative (g.Relative S)
  relative_reads = read-& step_reads (read-many (read-& (read-one_of g.separators) step_reads))

  lone_reads : Reads IsGood (g.Lone S)
  lone_reads = record { gives = λ ts a us d h. (subst IsGood d.2 root_good, (front (symbol s.Slash) ts us d.0 h).1) }

  path_reads : Reads IsGood (g.Path S)
  path_reads =
      read-∣ lone_reads
      (read-∣ (read-map _ (read-▹ _ relative_reads) (rooted_good start.Root))
      (read-∣ (read-map _ (read-▹ _ relative_reads) (rooted_good start.RootAndBelow))
      (read-map _ relative_reads relative_good)))

  -- ---- operators

  map_reads : Reads IsGood (g.Map S)
  map_reads = read-map _ (read-& path_reads (read-many (read-▹ _ path_reads))) (chain_good IsGood e.Map map_good)

  unary_reads : Reads IsGood (g.Unary S)
  unary_reads = read-map _ (read-& (read-many (read-one_of g.signs)) map_reads) signed_good

  arrow_reads : Reads IsGood (g.Arrow S)
  arrow_reads = read-map _ (read-& unary_reads (read-many (read-▹ _ called_reads))) (chain_good IsGoodCall e.Arrow arrow_good)

  inter_reads : Reads IsGood (g.Inter S)
  inter_reads = read-map _ (read-& arrow_reads (read-many (read-& (read-one_of g.set_operators) arrow_reads))) (chain_good IsOperand e.SetOperation set_operation_good)

  union_reads : Reads IsGood (g.Union S)
  union_reads = read-map _ (read-& inter_reads (read-many (read-∣ (read-▹ _ inter_reads) (read-▹ _ inter_reads)))) (several_good e.Union union_good)

  product_reads : Reads IsGood (g.Prod S)
  product_reads = read-map _ (read-& union_reads (read-many (read-& (read-one_of g.product_operators) union_reads))) (chain_good IsOperand e.Product product_good)

  sum_reads : Reads IsGood (g.Sum S)
  sum_reads = read-map _ (read-& product_reads (read-many (read-& (read-one_of g.signs) product_reads))) (chain_good IsOperand e.Sum sum_good)

  range_reads : Reads IsGood (g.Range S)
  range_reads = read-map _ (read-& sum_reads (read-maybe (read-▹ _ sum_reads))) ranged_good

  concat_reads : Reads IsGood (g.Concat S)
  concat_reads = read-map _ (read-& range_reads (read-many (read-▹ _ range_reads))) (several_good e.Concat concat_good)

  comparison_reads : Reads IsGood (g.Comp S)
  comparison_reads = read-map _ (read-& concat_reads (read-maybe (read-& (read-one_of g.comparisons) concat_reads))) compared_good

  and_reads : Reads IsGood (g.And S)
  and_reads = read-map _ (read-& comparison_reads (read-many (read-▹ _ comparison_reads))) (several_good e.And and_good)

  or_reads : Reads IsGood (g.Or S)
  or_reads = read-map _ (read-& and_reads (read-many (read-▹ _ and_reads))) (several_good e.Or or_good)

  -- ---- expressions with words

  tested_reads : Reads IsGood (g.Tested S)
  tested_reads = read-between _ _ whole_reads

  if_reads : Reads IsGood (g.If S)
  if_reads = read-map _ (read-▹ _ (read-& tested_reads (read-▹ _ (read-& single (read-▹ _ single))))) (λ p h. if_good p.0 p.1.0 p.1.1 h.0 h.1.0 h.1.1)

  -- a variable and its value
  abbrev IsAssigned : QName × Expr → Type 0
  IsAssigned b = Unit {0} × IsGood b.1

  any_variable_reads : Reads (λ (q : QName). Unit {0}) g.Variable
  any_variable_reads = read-weaker variable_reads (λ q h. tt)

  quantifier_binding_reads : Reads IsAssigned (g.QB S)
  quantifier_binding_reads = read-& any_variable_reads (read-▹ _ single)

  quantified_reads : Reads IsGood (g.Quant S)
  quantified_reads =
      read-map _ (read-& (read-one_of g.quantifiers) (read-& (read-commas quantifier_binding_reads) (read-▹ _ single)))
      (λ p h. quantified_good p.0 p.1.0 p.1.1 h.1.0 h.1.1)

  -- ---- FLWOR

  direction_reads : Reads (λ (d : Direction). Unit {0}) (g.DirectionWord S)
  direction_reads = read-∣ (read-one_of g.directions) (read-empty direction.Ascending tt)

  empty_words_read : Reads (λ (o : EmptyOrder). Unit {0}) (g.EmptyWords S)
  empty_words_read = read-∣ (read-▹ _ (read-one_of g.empty_orders)) (read-empty empty_order.Least tt)

  order_spec_reads : Reads IsGoodKey (g.OrderS S)
  order_spec_reads = read-map _ (read-& single (read-& direction_reads empty_words_read)) (λ p h. h.0)

  order_by_reads : Reads IsGoodClause (g.OrderBy S)
  order_by_reads = read-map _ (read-▹ _ (read-▹ _ (read-commas order_spec_reads))) order_good

  order_reads : Reads IsGoodClause (g.Order S)
  order_reads = read-∣ (read-▹ _ order_by_reads) order_by_reads

  group_spec_reads : Reads IsGoodSpec (g.GroupS S)
  group_spec_reads = read-map _ (read-& any_variable_reads (read-maybe (read-▹ _ single))) spec_good

  group_reads : Reads IsGoodClause (g.Group S)
  group_reads = read-map _ (read-▹ _ (read-▹ _ (read-commas group_spec_reads))) group_good

  filter_reads : Reads IsGoodClause (g.Filter S)
  filter_reads = read-map _ (read-▹ _ single) filter_good

  let_binding_reads : Reads IsAssigned (g.LetB S)
  let_binding_reads = read-& any_variable_reads (read-▹ _ single)

  let_reads : Reads IsGoodClause (g.Let S)
  let_reads = read-map _ (read-▹ _ (read-commas let_binding_reads)) let_good

  allowing_words_read : Reads (λ (a : AllowingEmpty). Unit {0}) (g.AllowingWords S)
  allowing_words_read = read-∣ (read-▹ _ (read-is (word "empty") allowing.Yes tt)) (read-empty allowing.No tt)

  for_binding_reads : Reads IsGoodFor (g.ForB S)
  for_binding_reads =
      read-map _ (read-& any_variable_reads (read-& allowing_words_read (read-& (read-maybe (read-▹ _ any_variable_reads)) (read-▹ _ single)))) (λ p h. h.1.1.1)

  for_reads : Reads IsGoodClause (g.For S)
  for_reads = read-map _ (read-▹ _ (read-commas for_binding_reads)) for_good

  count_reads : Reads IsGoodClause (g.Count S)
  count_reads = read-map _ (read-▹ _ any_variable_reads) (λ v h. count_good v)

  clause_reads : Reads IsGoodClause (g.ClauseRel S)
  clause_reads = read-∣ for_reads (read-∣ let_reads (read-∣ filter_reads (read-∣ group_reads (read-∣ count_reads order_reads))))

  flwor_reads : Reads IsGood (g.Flwor S)
  flwor_reads =
      read-map _ (read-& (read-∣ for_reads let_reads) (read-& (read-many clause_reads) (read-▹ _ single)))
      (λ p h. flwor_good (p.0 ∷ p.1.0) p.1.1 (h.0, h.1.0) h.1.1)

  pub any_reads : Reads IsGood (g.Any S)
  any_reads = read-∣ flwor_reads (read-∣ quantified_reads (read-∣ if_reads or_reads))

-- # By the depth of the nesting

single_reads : (height : ℕ) → Reads IsGood (g.Single height)
single_reads zero = record { gives = λ ts x us d h. absurd d }
single_reads (suc height) = any_reads (g.Single height) (single_reads height)

-- an expression that legible tokens derive is good
pub derived_good : (ts : Tokens) (x : Expr) → g.Derives ts x → AreLegibleLexes ts → IsGood x
derived_good ts x d h = ((whole_reads (g.Single d.0) (single_reads d.0)).gives ts x [] d.1 h).0
