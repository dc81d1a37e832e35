-- Worked rows: lists of tokens that derive an expression, and lists that derive none.
use Rattle.std.proofs.Common.{◌≡◌, ℕ, ◌≤◌, List, [], ◌∷◌, Some, None, refl, sym, ◌∙◌, arith}
use Rattle.std.specs.Prelude.{codes, pos}
use Prim.Native.String.{String}
use Rattle.xq_lexer.specs.Lexeme.{int, str, symbol}
use Rattle.xq_lexer.specs.Nesting.{nesting}
use Rattle.xq_lexer.specs.declared.tokens.Symbol.TheVariants as s
use Rattle.xq_expressions.specs.declared.operators.Quantifier.TheVariants as quantifier
use Rattle.xq_expressions.specs.declared.operators.Relation.TheVariants as relation
use Rattle.xq_expressions.specs.declared.operators.ComparisonOperator.TheVariants as comparison
use Rattle.xq_expressions.specs.declared.operators.Sign.TheVariants as sign
use Rattle.xq_expressions.specs.declared.operators.ProductOperator.TheVariants as product
use Rattle.xq_expressions.specs.declared.operators.Separator.TheVariants as separator
use Rattle.xq_expressions.specs.declared.operators.NodeTest.TheVariants as test
use Rattle.xq_expressions.specs.declared.operators.AxisStep.TheVariants as along
use Rattle.xq_expressions.specs.declared.operators.NamedNode.TheVariants as named
use Rattle.xq_expressions.specs.declared.operators.Direction.TheVariants as direction
use Rattle.xq_expressions.specs.declared.operators.EmptyOrder.TheVariants as empty_order
use Rattle.xq_expressions.specs.declared.operators.AllowingEmpty.TheVariants as allowing
use Rattle.xq_expressions.specs.declared.expressions.Expr.{Expr}
use Rattle.xq_expressions.specs.declared.expressions.Expr.TheVariants as e
use Rattle.xq_expressions.specs.declared.expressions.Clause.TheVariants as clause
use Rattle.xq_expressions.specs.declared.expressions.ConstructorName.{ConstructorName}
use Rattle.xq_expressions.specs.declared.expressions.ConstructorName.TheVariants as constructor_name
use Rattle.xq_expressions.specs.declared.expressions.Step.{Step}
use Rattle.xq_parser.specs.Look.{Tokens, word, lookup, same, same_symbol}
use Rattle.xq_parser.specs.Grammar as g
use Rattle.xq_parser.specs.private.Reading as r
use Rattle.xq_parser.proofs.Tokens.{none_some}
use Rattle.xq_parser.proofs.SoundLines.{query_sound}
use Rattle.xq_parser.proofs.Top.{query_reads}

-- a primary alone
abbrev primary : Expr → Expr
primary x = g.relative (g.primary_step (x, []), [])

abbrev one : ℕ → Expr
one n = primary (e.Int (pos n))

abbrev step_of : String → Step
step_of w = g.axis_step (along.Abbreviated (test.Named (g.unprefixed (codes w))), [])

-- a name test alone
abbrev bare : String → Expr
bare w = g.relative (step_of w, [])

abbrev literal : String → ConstructorName
literal w = constructor_name.Literal (g.unprefixed (codes w))

-- tokens, and what they derive
abbrev derived : List (Tokens × Expr)
derived =
    -- div div div
    (word "div" ∷ word "div" ∷ word "div" ∷ [], e.Product (bare "div") ((product.Div, bare "div") ∷ []))
    -- / = 1
    ∷ (symbol s.Slash ∷ symbol s.Equal ∷ int (pos 1) ∷ [], e.Comparison (e.Root) (comparison.General relation.Equal) (one 1))
    -- 1 - 2 - 3
    ∷ (int (pos 1) ∷ symbol s.Minus ∷ int (pos 2) ∷ symbol s.Minus ∷ int (pos 3) ∷ [], e.Sum (one 1) ((sign.Minus, one 2) ∷ (sign.Minus, one 3) ∷ []))
    -- - 1 * 2
    ∷ (symbol s.Minus ∷ int (pos 1) ∷ symbol s.Star ∷ int (pos 2) ∷ [], e.Product (e.Unary (sign.Minus ∷ []) (one 1)) ((product.Times, one 2) ∷ []))
    -- 1 + 2 to 3
    ∷ (int (pos 1) ∷ symbol s.Plus ∷ int (pos 2) ∷ word "to" ∷ int (pos 3) ∷ [], e.Range (e.Sum (one 1) ((sign.Plus, one 2) ∷ [])) (one 3))
    -- element div {element for {}}/for
    ∷ (word "element" ∷ word "div" ∷ symbol s.OpenBrace ∷ word "element" ∷ word "for" ∷ symbol s.OpenBrace ∷ symbol s.CloseBrace ∷ symbol s.CloseBrace ∷ symbol s.Slash ∷ word "for" ∷ [], g.relative (g.primary_step (e.Named named.Element (literal "div") (primary (e.Named named.Element (literal "for") (e.Sequence []))), []), (separator.Slash, step_of "for") ∷ []))
    -- a ! b => f() => g(c)
    ∷ (
      word "a" ∷ symbol s.Bang ∷ word "b" ∷ symbol s.Arrow ∷ word "f" ∷ symbol s.OpenParenthesis ∷ symbol s.CloseParenthesis ∷ symbol s.Arrow ∷ word "g" ∷ symbol s.OpenParenthesis ∷ word "c" ∷ symbol s.CloseParenthesis ∷ [],
      e.Arrow (e.Map (bare "a") (bare "b" ∷ [])) ((g.unprefixed (codes "f"), []) ∷ (g.unprefixed (codes "g"), bare "c" ∷ []) ∷ []),
    )
    -- for $b allowing empty at $p in a count $c return c
    ∷ (
      word "for" ∷ symbol s.Dollar ∷ word "b" ∷ word "allowing" ∷ word "empty" ∷ word "at" ∷ symbol s.Dollar ∷ word "p" ∷ word "in" ∷ word "a" ∷ word "count" ∷ symbol s.Dollar ∷ word "c" ∷ word "return" ∷ word "c" ∷ [],
      e.Flwor (clause.For ((g.unprefixed (codes "b"), allowing.Yes, Some (g.unprefixed (codes "p")), bare "a") ∷ []) ∷ clause.Count (g.unprefixed (codes "c")) ∷ []) (bare "c"),
    )
    -- for $b in a order by b descending return c
    ∷ (word "for" ∷ symbol s.Dollar ∷ word "b" ∷ word "in" ∷ word "a" ∷ word "order" ∷ word "by" ∷ word "b" ∷ word "descending" ∷ word "return" ∷ word "c" ∷ [], e.Flwor (clause.For ((g.unprefixed (codes "b"), allowing.No, None, bare "a") ∷ []) ∷ clause.Order ((bare "b", record { direction = direction.Descending; empty = empty_order.Least }) ∷ []) ∷ []) (bare "c"))
    -- some $x in 1 satisfies $x
    ∷ (word "some" ∷ symbol s.Dollar ∷ word "x" ∷ word "in" ∷ int (pos 1) ∷ word "satisfies" ∷ symbol s.Dollar ∷ word "x" ∷ [], e.Quantified quantifier.Some ((g.unprefixed (codes "x"), one 1) ∷ []) (primary (e.Variable (g.unprefixed (codes "x")))))
    -- if (1) then 2 else 3
    ∷ (word "if" ∷ symbol s.OpenParenthesis ∷ int (pos 1) ∷ symbol s.CloseParenthesis ∷ word "then" ∷ int (pos 2) ∷ word "else" ∷ int (pos 3) ∷ [], e.If (one 1) (one 2) (one 3))
    ∷ []

-- tokens that derive nothing
abbrev underived : List Tokens
underived =
    -- 1 eq 2 eq 3
    (int (pos 1) ∷ word "eq" ∷ int (pos 2) ∷ word "eq" ∷ int (pos 3) ∷ [])
    -- / * 5
    ∷ (symbol s.Slash ∷ symbol s.Star ∷ int (pos 5) ∷ [])
    -- text("a")
    ∷ (word "text" ∷ symbol s.OpenParenthesis ∷ str (codes "a") ∷ symbol s.CloseParenthesis ∷ [])
    -- if(1)
    ∷ (word "if" ∷ symbol s.OpenParenthesis ∷ int (pos 1) ∷ symbol s.CloseParenthesis ∷ [])
    -- element a {
    ∷ (word "element" ∷ word "a" ∷ symbol s.OpenBrace ∷ [])
    ∷ []

abbrev AllRead : List (Tokens × Expr) → Type 0
AllRead [] = Unit {0}
AllRead (row ∷ more) = (r.query 4 row.0 ≡ Some row.1) × AllRead more

abbrev AllDerive : List (Tokens × Expr) → Type 0
AllDerive [] = Unit {0}
AllDerive (row ∷ more) = g.Derives row.0 row.1 × AllDerive more

abbrev NoneRead : List Tokens → Type 0
NoneRead [] = Unit {0}
NoneRead (ts ∷ more) = (nesting ts ≤ 3) × (r.query 4 ts ≡ None) × NoneRead more

abbrev NoneDerive : List Tokens → Type 0
NoneDerive [] = Unit {0}
NoneDerive (ts ∷ more) = ((a : Expr) → g.Derives ts a → ⊥) × NoneDerive more

by_reading : (rows : List (Tokens × Expr)) → AllRead rows → AllDerive rows
by_reading [] w = tt
by_reading (row ∷ more) w = (query_sound 4 row.0 row.1 w.0, by_reading more w.1)

-- what nests no deeper, and isn't read, derives nothing
by_refusing : (rows : List Tokens) → NoneRead rows → NoneDerive rows
by_refusing [] w = tt
by_refusing (ts ∷ more) w = ((λ a d. none_some (sym w.1 ∙ query_reads 3 ts a w.0 d)), by_refusing more w.2)

all_read : AllRead derived
unfolding r.begins r.one_of r.many_from r.many r.begins_call r.begins_make r.begins_literal r.begins_primary r.begins_lone r.begins_flwor r.begins_quantified r.begins_if r.qname r.call_name r.variable r.after_comma r.commas r.whole r.governed r.inside r.body r.computed r.name_of_node r.name_of_instruction r.make_named r.make_instruction r.make_unnamed r.make r.argument_list r.arguments r.call r.parenthesised r.call_or_make r.primary r.name_or_any r.plain_kind r.instruction_kind r.kind_argument r.element_kind r.attribute_kind r.kind_test r.node_test r.along_axis r.along_attributes r.axis_step r.next_level r.level_of r.union_sign r.empty_words r.direction_word r.position r.predicate r.predicates r.primary_step r.predicated r.step r.next_step r.relative r.from_root r.from_below r.path r.unary r.set_item r.inter r.union_item r.union r.product_item r.product r.sum_item r.sum r.range_item r.range r.concat_item r.concat r.comparison_item r.comparison r.and_item r.conjunction r.or_item r.disjunction r.tested r.branches r.conditional r.quantifier_binding r.quantified r.order_spec r.order_by r.order_clause r.group_spec r.group_clause r.filter_clause r.let_binding r.let_clause r.for_binding r.for_clause r.later_clause r.clause_ r.first_clause r.clauses r.flwor r.any r.single r.query lookup same same_symbol r.simple_map r.map_item r.arrow r.arrow_item r.called r.allowing_words r.count_clause
all_read = (refl, (refl, (refl, (refl, (refl, (refl, (refl, (refl, (refl, (refl, (refl, tt)))))))))))

none_read : NoneRead underived
unfolding r.begins r.one_of r.many_from r.many r.begins_call r.begins_make r.begins_literal r.begins_primary r.begins_lone r.begins_flwor r.begins_quantified r.begins_if r.qname r.call_name r.variable r.after_comma r.commas r.whole r.governed r.inside r.body r.computed r.name_of_node r.name_of_instruction r.make_named r.make_instruction r.make_unnamed r.make r.argument_list r.arguments r.call r.parenthesised r.call_or_make r.primary r.name_or_any r.plain_kind r.instruction_kind r.kind_argument r.element_kind r.attribute_kind r.kind_test r.node_test r.along_axis r.along_attributes r.axis_step r.next_level r.level_of r.union_sign r.empty_words r.direction_word r.position r.predicate r.predicates r.primary_step r.predicated r.step r.next_step r.relative r.from_root r.from_below r.path r.unary r.set_item r.inter r.union_item r.union r.product_item r.product r.sum_item r.sum r.range_item r.range r.concat_item r.concat r.comparison_item r.comparison r.and_item r.conjunction r.or_item r.disjunction r.tested r.branches r.conditional r.quantifier_binding r.quantified r.order_spec r.order_by r.order_clause r.group_spec r.group_clause r.filter_clause r.let_binding r.let_clause r.for_binding r.for_clause r.later_clause r.clause_ r.first_clause r.clauses r.flwor r.any r.single r.query lookup same same_symbol r.simple_map r.map_item r.arrow r.arrow_item r.called r.allowing_words r.count_clause
none_read = (omega arith, refl, (omega arith, refl, (omega arith, refl, (omega arith, refl, (omega arith, refl, tt)))))

all_derive : AllDerive derived
all_derive = by_reading derived all_read

none_derive : NoneDerive underived
none_derive = by_refusing underived none_read
