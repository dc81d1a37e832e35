-- The functional reader, which the parser's private functions follow: reading an expression, line
-- by line, with one token of lookahead and up to three at a name.
use Rattle.std.specs.Prelude.{ℕ, zero, suc, ℤ, List, [], ◌∷◌, length, Bool, true, false, not, ◌||◌, ◌&&◌, ◌==◌, ◌-◌, if◌then◌else◌, Option, Some, None, codes}
use Rattle.std.specs.Str.{bytes_eq}
use Rattle.xq_lexer.specs.Lexeme.{Lex, name, prefixed, int, dec, str, symbol}
use Rattle.xq_lexer.specs.declared.tokens.Symbol.{Symbol}
use Rattle.xq_lexer.specs.declared.tokens.Symbol.TheVariants as s
use Rattle.xq_expressions.specs.declared.names.QName.{QName}
use Rattle.xq_expressions.specs.declared.operators.ComparisonOperator.{ComparisonOperator}
use Rattle.xq_expressions.specs.declared.operators.Sign.{Sign}
use Rattle.xq_expressions.specs.declared.operators.ProductOperator.{ProductOperator}
use Rattle.xq_expressions.specs.declared.operators.SetOperator.{SetOperator}
use Rattle.xq_expressions.specs.declared.operators.PathStart.TheVariants as start
use Rattle.xq_expressions.specs.declared.operators.Separator.{Separator}
use Rattle.xq_expressions.specs.declared.operators.NodeTest.{NodeTest}
use Rattle.xq_expressions.specs.declared.operators.NodeTest.TheVariants as nodetest
use Rattle.xq_expressions.specs.declared.operators.AxisStep.{AxisStep}
use Rattle.xq_expressions.specs.declared.operators.AxisStep.TheVariants as along
use Rattle.xq_expressions.specs.declared.operators.Direction.{Direction}
use Rattle.xq_expressions.specs.declared.operators.Direction.TheVariants as direction
use Rattle.xq_expressions.specs.declared.operators.AllowingEmpty.{AllowingEmpty}
use Rattle.xq_expressions.specs.declared.operators.AllowingEmpty.TheVariants as allowing
use Rattle.xq_expressions.specs.declared.operators.EmptyOrder.{EmptyOrder}
use Rattle.xq_expressions.specs.declared.operators.EmptyOrder.TheVariants as empty_order
use Rattle.xq_expressions.specs.declared.operators.OrderModifier.{OrderModifier}
use Rattle.xq_expressions.specs.declared.expressions.Expr.{Expr}
use Rattle.xq_expressions.specs.declared.expressions.Expr.TheVariants as e
use Rattle.xq_expressions.specs.declared.expressions.Clause.{Clause}
use Rattle.xq_expressions.specs.declared.expressions.Clause.TheVariants as clause
use Rattle.xq_expressions.specs.declared.expressions.ConstructorName.{ConstructorName}
use Rattle.xq_expressions.specs.declared.expressions.ConstructorName.TheVariants as constructor_name
use Rattle.xq_expressions.specs.declared.expressions.GroupSpec.{GroupSpec}
use Rattle.xq_expressions.specs.declared.expressions.Step.{Step}
use Rattle.xq_parser.specs.Look.{Tokens, Table, lookup, word, begins_step}
use Rattle.xq_parser.specs.Grammar as g

abbrev pub Outcome : Type 0 → Type 0
Outcome A = Option (A × Tokens)

abbrev pub Parser : Type 0 → Type 0
Parser A = Tokens → Outcome A

abbrev pub and_then : {A B : Type 0} → Outcome A → (A → Parser B) → Outcome B
and_then (Some p) f = f p.0 p.1
and_then None f = None

-- ---- the next token

abbrev pub found : {A : Type 0} → Option A → Bool
found (Some a) = true
found None = false

abbrev pub with_rest : {A : Type 0} → Option A → Parser A
with_rest (Some a) ts = Some (a, ts)
with_rest None ts = None

unfoldable pub begins : {A : Type 0} → Table A → Tokens → Bool
begins table [] = false
begins table (t ∷ ts) = found (lookup table t)

unfoldable pub one_of : {A : Type 0} → Table A → Parser A
one_of table [] = None
one_of table (t ∷ ts) = with_rest (lookup table t) ts

-- the table of one token
abbrev pub only : Lex → Table (Unit {0})
only t = (t, tt) ∷ []

abbrev pub is : Lex → Tokens → Bool
is t = begins (only t)

abbrev pub expect : Lex → Parser (Unit {0})
expect t = one_of (only t)

-- ---- how readers are put together

abbrev pub pure : {A : Type 0} → A → Parser A
pure a ts = Some (a, ts)

abbrev pub both : {A B : Type 0} → Parser A → Parser B → Parser (A × B)
both p q ts = and_then (p ts) (λ a us. and_then (q us) (λ b vs. Some ((a, b), vs)))

abbrev pub mapped : {A B : Type 0} → (A → B) → Parser A → Parser B
mapped f p ts = and_then (p ts) (λ a us. Some (f a, us))

abbrev pub after : {A : Type 0} → Lex → Parser A → Parser A
after t p ts = and_then (expect t ts) (λ _ us. p us)

abbrev pub before : {A : Type 0} → Parser A → Lex → Parser A
before p t ts = and_then (p ts) (λ a us. and_then (expect t us) (λ _ vs. Some (a, vs)))

abbrev pub choose : {A : Type 0} → (Tokens → Bool) → Parser A → Parser A → Parser A
choose test p q ts = if test ts then p ts else q ts

abbrev pub maybe : {A : Type 0} → (Tokens → Bool) → Parser A → Parser (Option A)
maybe test p ts = if test ts then and_then (p ts) (λ a us. Some (Some a, us)) else Some (None, ts)

-- one item after another, as long as the test holds; the number bounds the turns
module _ {A : Type 0} (test : Tokens → Bool) (item : Parser A) where
  unfoldable pub many_from : ℕ → Parser (List A)
  many_from zero = λ ts. Some ([], ts)
  many_from (suc n) = λ ts. if test ts
      then and_then (item ts) (λ a us. and_then (many_from n us) (λ more vs. Some (a ∷ more, vs)))
      else Some ([], ts)

  unfoldable pub many : Parser (List A)
  many ts = many_from (length ts) ts

-- ---- what the next tokens begin

abbrev pub begins_nc : Tokens → Bool
begins_nc (name n ∷ ts) = true
begins_nc _ = false

abbrev pub begins_name : Tokens → Bool
begins_name (name n ∷ ts) = true
begins_name (prefixed p n ∷ ts) = true
begins_name _ = false

abbrev pub begins_int : Tokens → Bool
begins_int (int i ∷ ts) = true
begins_int _ = false

abbrev pub begins_dec : Tokens → Bool
begins_dec (dec m ∷ ts) = true
begins_dec _ = false

abbrev pub begins_str : Tokens → Bool
begins_str (str t ∷ ts) = true
begins_str _ = false

abbrev pub begins_brace : Tokens → Bool
begins_brace (symbol s.OpenBrace ∷ ts) = true
begins_brace _ = false

-- a name that no parenthesis follows
abbrev pub begins_name_test : Tokens → Bool
begins_name_test (name n ∷ symbol s.OpenParenthesis ∷ ts) = false
begins_name_test (name n ∷ ts) = true
begins_name_test (prefixed p n ∷ ts) = true
begins_name_test _ = false

abbrev pub begins_axis : Tokens → Bool
begins_axis (name n ∷ symbol s.DoubleColon ∷ ts) = true
begins_axis _ = false

unfoldable pub begins_call : Tokens → Bool
begins_call (name n ∷ symbol s.OpenParenthesis ∷ ts) = not (found (lookup g.no_calls (name n)))
begins_call (prefixed p n ∷ symbol s.OpenParenthesis ∷ ts) = true
begins_call _ = false

-- the words of a constructor
abbrev pub makers : Table (Unit {0})
makers =
    (word "element", tt) ∷ (word "attribute", tt) ∷ (word "processing-instruction", tt)
    ∷ (word "document", tt) ∷ (word "text", tt) ∷ (word "comment", tt) ∷ []

-- of those, the words that a name may follow
abbrev pub name_makers : Table (Unit {0})
name_makers = (word "element", tt) ∷ (word "attribute", tt) ∷ (word "processing-instruction", tt)
    ∷ []

-- whether the tokens after the name make it the word of a constructor
abbrev pub makes : List ℕ → Tokens → Bool
makes n (symbol s.OpenBrace ∷ ts) = found (lookup makers (name n))
makes n (name m ∷ ts) = begins_brace ts && found (lookup name_makers (name n))
makes n (prefixed p m ∷ ts) = begins_brace ts && found (lookup g.named_nodes (name n))
makes n _ = false

unfoldable pub begins_make : Tokens → Bool
begins_make (name n ∷ ts) = makes n ts
begins_make _ = false

unfoldable pub begins_literal : Tokens → Bool
begins_literal (int i ∷ ts) = true
begins_literal (dec m ∷ ts) = true
begins_literal (str t ∷ ts) = true
begins_literal (symbol s.Dollar ∷ ts) = true
begins_literal (symbol s.OpenParenthesis ∷ ts) = true
begins_literal (symbol s.Dot ∷ ts) = true
begins_literal _ = false

unfoldable pub begins_primary : Tokens → Bool
begins_primary ts = begins_literal ts || begins_call ts || begins_make ts

-- a slash that nothing which begins a step follows
unfoldable pub begins_lone : Tokens → Bool
begins_lone (symbol s.Slash ∷ ts) = not (begins_step ts)
begins_lone _ = false

unfoldable pub begins_flwor : Tokens → Bool
begins_flwor (name n ∷ symbol s.Dollar ∷ ts) = bytes_eq n (codes "for") || bytes_eq n (codes "let")
begins_flwor _ = false

unfoldable pub begins_quantified : Tokens → Bool
begins_quantified (name n ∷ symbol s.Dollar ∷ ts) = found (lookup g.quantifiers (name n))
begins_quantified _ = false

unfoldable pub begins_if : Tokens → Bool
begins_if (name n ∷ symbol s.OpenParenthesis ∷ ts) = bytes_eq n (codes "if")
begins_if _ = false

-- the words that begin a clause
abbrev pub clause_words : Table (Unit {0})
clause_words =
    (word "for", tt) ∷ (word "let", tt) ∷ (word "where", tt) ∷ (word "group", tt)
    ∷ (word "count", tt) ∷ (word "order", tt) ∷ (word "stable", tt) ∷ []

-- ---- names and literals

abbrev pub nc : Parser (List ℕ)
nc (name n ∷ ts) = Some (n, ts)
nc _ = None

abbrev pub prefixed_name : Parser QName
prefixed_name (prefixed p n ∷ ts) = Some (g.with_prefix p n, ts)
prefixed_name _ = None

unfoldable pub qname : Parser QName
qname = choose begins_nc (mapped g.unprefixed nc) prefixed_name

abbrev pub int_literal : Parser ℤ
int_literal (int i ∷ ts) = Some (i, ts)
int_literal _ = None

abbrev pub dec_literal : Parser ℤ
dec_literal (dec m ∷ ts) = Some (m, ts)
dec_literal _ = None

abbrev pub str_literal : Parser (List ℕ)
str_literal (str t ∷ ts) = Some (t, ts)
str_literal _ = None

abbrev pub call_nc : Parser (List ℕ)
call_nc (name n ∷ ts) = if found (lookup g.no_calls (name n)) then None else Some (n, ts)
call_nc _ = None

unfoldable pub call_name : Parser QName
call_name = choose begins_nc (mapped g.unprefixed call_nc) prefixed_name

unfoldable pub variable : Parser QName
variable = after (symbol s.Dollar) qname

-- ---- the lines, over the reader of what nests deeper

module _ {A : Type 0} (p : Parser A) where
  unfoldable pub after_comma : Parser A
  after_comma = after (symbol s.Comma) p

  unfoldable pub commas : Parser (List A)
  commas = mapped g.listed (both p (many (is (symbol s.Comma)) after_comma))

module _ (single : Parser Expr) where
  unfoldable pub whole : Parser Expr
  whole = mapped (g.several e.Sequence)
      (both single (many (is (symbol s.Comma)) (after_comma single)))

  -- what a word or symbol governs
  unfoldable pub governed : Lex → Parser Expr
  governed t = after t single

  -- nothing or a whole expression
  unfoldable pub inside : Lex → Parser Expr
  inside close = choose (is close) (pure (e.Sequence [])) whole

  unfoldable pub body : Parser Expr
  body = after (symbol s.OpenBrace) (before (inside (symbol s.CloseBrace)) (symbol s.CloseBrace))

  unfoldable pub computed : Parser ConstructorName
  computed = mapped constructor_name.Computed
      (after (symbol s.OpenBrace) (before whole (symbol s.CloseBrace)))

  unfoldable pub name_of_node : Parser ConstructorName
  name_of_node = choose begins_name (mapped constructor_name.Literal qname) computed

  unfoldable pub name_of_instruction : Parser ConstructorName
  name_of_instruction = choose begins_nc
      (mapped constructor_name.Literal (mapped g.unprefixed nc)) computed

  unfoldable pub make_named : Parser Expr
  make_named = mapped g.named_node (both (one_of g.named_nodes) (both name_of_node body))

  unfoldable pub make_instruction : Parser Expr
  make_instruction = mapped g.instruction
      (after (word "processing-instruction") (both name_of_instruction body))

  unfoldable pub make_unnamed : Parser Expr
  make_unnamed = mapped g.unnamed_node (both (one_of g.unnamed_nodes) body)

  unfoldable pub make : Parser Expr
  make = choose (begins g.named_nodes) make_named
      (choose (is (word "processing-instruction")) make_instruction make_unnamed)

  unfoldable pub argument_list : Parser (List Expr)
  argument_list = choose (is (symbol s.CloseParenthesis)) (pure []) (commas single)

  unfoldable pub arguments : Parser (List Expr)
  arguments = after (symbol s.OpenParenthesis) (before argument_list (symbol s.CloseParenthesis))

  unfoldable pub called : Parser (QName × List Expr)
  called = both call_name arguments

  unfoldable pub call : Parser Expr
  call = mapped g.call called

  unfoldable pub parenthesised : Parser Expr
  parenthesised = after (symbol s.OpenParenthesis)
      (before (inside (symbol s.CloseParenthesis)) (symbol s.CloseParenthesis))

  unfoldable pub call_or_make : Parser Expr
  call_or_make = choose begins_call call make

  unfoldable pub primary : Parser Expr
  primary =
      choose begins_int (mapped e.Int int_literal)
      (choose begins_dec (mapped e.Dec dec_literal)
      (choose begins_str (mapped e.Str str_literal)
      (choose (is (symbol s.Dollar)) (mapped e.Variable variable)
      (choose (is (symbol s.OpenParenthesis)) parenthesised
      (choose (is (symbol s.Dot)) (one_of ((symbol s.Dot, e.ContextItem) ∷ [])) call_or_make)))))

-- ---- tests and axes

unfoldable pub name_or_any : Parser (Option QName)
name_or_any = choose begins_name (mapped Some qname)
    (choose (is (symbol s.Star)) (one_of ((symbol s.Star, None) ∷ [])) (pure None))

unfoldable pub plain_kind : Parser NodeTest
plain_kind = before (before (one_of g.plain_kinds) (symbol s.OpenParenthesis))
    (symbol s.CloseParenthesis)

unfoldable pub instruction_kind : Parser NodeTest
instruction_kind =
    mapped nodetest.ProcessingInstruction
    (after (word "processing-instruction")
    (after (symbol s.OpenParenthesis)
    (before (maybe begins_nc nc) (symbol s.CloseParenthesis))))

unfoldable pub kind_argument : Parser (Option QName)
kind_argument = after (symbol s.OpenParenthesis) (before name_or_any (symbol s.CloseParenthesis))

unfoldable pub element_kind : Parser NodeTest
element_kind = mapped nodetest.Element (after (word "element") kind_argument)

unfoldable pub attribute_kind : Parser NodeTest
attribute_kind = mapped nodetest.Attribute (after (word "attribute") kind_argument)

unfoldable pub kind_test : Parser NodeTest
kind_test =
    choose (begins g.plain_kinds) plain_kind
    (choose (is (word "processing-instruction")) instruction_kind
    (choose (is (word "element")) element_kind attribute_kind))

unfoldable pub node_test : Parser NodeTest
node_test =
    choose begins_name_test (mapped nodetest.Named qname)
    (choose (is (symbol s.Star)) (one_of ((symbol s.Star, nodetest.AnyName) ∷ [])) kind_test)

unfoldable pub along_axis : Parser AxisStep
along_axis = mapped g.along_axis
    (both (one_of g.axis_names) (after (symbol s.DoubleColon) node_test))

unfoldable pub along_attributes : Parser AxisStep
along_attributes = mapped along.Attribute (after (symbol s.At) node_test)

unfoldable pub axis_step : Parser AxisStep
axis_step =
    choose begins_axis along_axis
    (choose (is (symbol s.At)) along_attributes
    (choose (is (symbol s.DoubleDot)) (one_of ((symbol s.DoubleDot, along.Parent) ∷ []))
    (mapped along.Abbreviated node_test)))

-- ---- the table of operators between operands

-- the words, and how loosely they bind
abbrev pub word_levels : Table ℕ
word_levels =
    (word "intersect", 1) ∷ (word "except", 1) ∷ (word "union", 2) ∷ (word "div", 3)
    ∷ (word "idiv", 3) ∷ (word "mod", 3) ∷ (word "to", 5) ∷ (word "eq", 7) ∷ (word "ne", 7)
    ∷ (word "lt", 7) ∷ (word "le", 7) ∷ (word "gt", 7) ∷ (word "ge", 7) ∷ (word "is", 7)
    ∷ (word "and", 8) ∷ (word "or", 9) ∷ []

-- the symbols
abbrev pub symbol_level : Symbol → ℕ
symbol_level s.Bar = 2
symbol_level s.Star = 3
symbol_level s.Plus = 4
symbol_level s.Minus = 4
symbol_level s.DoubleBar = 6
symbol_level s.Equal = 7
symbol_level s.NotEqual = 7
symbol_level s.Less = 7
symbol_level s.LessEqual = 7
symbol_level s.Greater = 7
symbol_level s.GreaterEqual = 7
symbol_level s.Precedes = 7
symbol_level s.Follows = 7
symbol_level _ = 0

abbrev pub or_zero : Option ℕ → ℕ
or_zero (Some level) = level
or_zero None = 0

-- the level of a token, or 0 where it is no operator between operands
unfoldable pub level_of : Lex → ℕ
level_of (name n) = or_zero (lookup word_levels (name n))
level_of (symbol c) = symbol_level c
level_of _ = 0

unfoldable pub next_level : Tokens → ℕ
next_level [] = 0
next_level (t ∷ ts) = level_of t

-- the next token is an operator of the level
abbrev pub stands : ℕ → Tokens → Bool
stands level ts = next_level ts == level

-- the signs of a union
unfoldable pub union_sign : Parser (Unit {0})
union_sign = choose (is (word "union")) (expect (word "union")) (expect (symbol s.Bar))

-- ---- words between phrases

unfoldable pub empty_words : Parser EmptyOrder
empty_words = choose (is (word "empty")) (after (word "empty") (one_of g.empty_orders))
    (pure empty_order.Least)

-- the word after `allowing`
abbrev pub allowances : Table AllowingEmpty
allowances = (word "empty", allowing.Yes) ∷ []

unfoldable pub allowing_words : Parser AllowingEmpty
allowing_words = choose (is (word "allowing")) (after (word "allowing") (one_of allowances))
    (pure allowing.No)

unfoldable pub direction_word : Parser Direction
direction_word = choose (begins g.directions) (one_of g.directions) (pure direction.Ascending)

unfoldable pub position : Parser (Option QName)
position = maybe (is (word "at")) (after (word "at") variable)

-- ---- paths, operators and clauses

module _ (single : Parser Expr) where
  unfoldable pub predicate : Parser Expr
  predicate = after (symbol s.OpenBracket) (before (whole single) (symbol s.CloseBracket))

  unfoldable pub predicates : Parser (List Expr)
  predicates = many (is (symbol s.OpenBracket)) predicate

  unfoldable pub primary_step : Parser Step
  primary_step = mapped g.primary_step (both (primary single) predicates)

  unfoldable pub predicated : Parser Step
  predicated = mapped g.axis_step (both axis_step predicates)

  unfoldable pub step : Parser Step
  step = choose begins_primary primary_step predicated

  unfoldable pub next_step : Parser (Separator × Step)
  next_step = both (one_of g.separators) step

  unfoldable pub relative : Parser (Step × List (Separator × Step))
  relative = both step (many (begins g.separators) next_step)

  unfoldable pub from_root : Parser Expr
  from_root = mapped (g.rooted start.Root) (after (symbol s.Slash) relative)

  unfoldable pub from_below : Parser Expr
  from_below = mapped (g.rooted start.RootAndBelow) (after (symbol s.DoubleSlash) relative)

  unfoldable pub path : Parser Expr
  path =
      choose begins_lone (one_of ((symbol s.Slash, e.Root) ∷ []))
      (choose (is (symbol s.Slash)) from_root
      (choose (is (symbol s.DoubleSlash)) from_below (mapped g.relative relative)))

  unfoldable pub map_item : Parser Expr
  map_item = after (symbol s.Bang) path

  unfoldable pub simple_map : Parser Expr
  simple_map = mapped (g.chain e.Map) (both path (many (is (symbol s.Bang)) map_item))

  unfoldable pub unary : Parser Expr
  unary = mapped g.signed (both (many (begins g.signs) (one_of g.signs)) simple_map)

  unfoldable pub arrow_item : Parser (QName × List Expr)
  arrow_item = after (symbol s.Arrow) (called single)

  unfoldable pub arrow : Parser Expr
  arrow = mapped (g.chain e.Arrow) (both unary (many (is (symbol s.Arrow)) arrow_item))

  unfoldable pub set_item : Parser (SetOperator × Expr)
  set_item = both (one_of g.set_operators) arrow

  unfoldable pub inter : Parser Expr
  inter = mapped (g.chain e.SetOperation) (both arrow (many (stands 1) set_item))

  unfoldable pub union_item : Parser Expr
  union_item ts = and_then (union_sign ts) (λ _ us. inter us)

  unfoldable pub union : Parser Expr
  union = mapped (g.several e.Union) (both inter (many (stands 2) union_item))

  unfoldable pub product_item : Parser (ProductOperator × Expr)
  product_item = both (one_of g.product_operators) union

  unfoldable pub product : Parser Expr
  product = mapped (g.chain e.Product) (both union (many (stands 3) product_item))

  unfoldable pub sum_item : Parser (Sign × Expr)
  sum_item = both (one_of g.signs) product

  unfoldable pub sum : Parser Expr
  sum = mapped (g.chain e.Sum) (both product (many (stands 4) sum_item))

  unfoldable pub range_item : Parser Expr
  range_item = after (word "to") sum

  unfoldable pub range : Parser Expr
  range = mapped g.ranged (both sum (maybe (stands 5) range_item))

  unfoldable pub concat_item : Parser Expr
  concat_item = after (symbol s.DoubleBar) range

  unfoldable pub concat : Parser Expr
  concat = mapped (g.several e.Concat) (both range (many (stands 6) concat_item))

  unfoldable pub comparison_item : Parser (ComparisonOperator × Expr)
  comparison_item = both (one_of g.comparisons) concat

  unfoldable pub comparison : Parser Expr
  comparison = mapped g.compared (both concat (maybe (stands 7) comparison_item))

  unfoldable pub and_item : Parser Expr
  and_item = after (word "and") comparison

  unfoldable pub conjunction : Parser Expr
  conjunction = mapped (g.several e.And) (both comparison (many (stands 8) and_item))

  unfoldable pub or_item : Parser Expr
  or_item = after (word "or") conjunction

  unfoldable pub disjunction : Parser Expr
  disjunction = mapped (g.several e.Or) (both conjunction (many (stands 9) or_item))

  -- the lines of operators between operands, each by the loosest level in it
  unfoldable pub level : ℕ → Parser Expr
  level n =
      if n == 0 then arrow else (if n == 1 then inter else (if n == 2 then union
      else (if n == 3 then product else (if n == 4 then sum else (if n == 5 then range
      else (if n == 6 then concat else (if n == 7 then comparison
      else (if n == 8 then conjunction else disjunction))))))))

  unfoldable pub tested : Parser Expr
  tested = after (symbol s.OpenParenthesis) (before (whole single) (symbol s.CloseParenthesis))

  unfoldable pub branches : Parser (Expr × Expr)
  branches = after (word "then") (both single (governed single (word "else")))

  unfoldable pub conditional : Parser Expr
  conditional = mapped g.conditional (after (word "if") (both tested branches))

  unfoldable pub quantifier_binding : Parser (QName × Expr)
  quantifier_binding = both variable (governed single (word "in"))

  unfoldable pub quantified : Parser Expr
  quantified = mapped g.quantified
      (both (one_of g.quantifiers)
      (both (commas quantifier_binding) (governed single (word "satisfies"))))

  unfoldable pub order_spec : Parser (Expr × OrderModifier)
  order_spec = mapped g.order_spec (both single (both direction_word empty_words))

  unfoldable pub order_by : Parser Clause
  order_by = mapped clause.Order (after (word "order") (after (word "by") (commas order_spec)))

  unfoldable pub order_clause : Parser Clause
  order_clause = choose (is (word "stable")) (after (word "stable") order_by) order_by

  unfoldable pub group_spec : Parser GroupSpec
  group_spec = mapped g.group_spec
      (both variable (maybe (is (symbol s.Assign)) (governed single (symbol s.Assign))))

  unfoldable pub group_clause : Parser Clause
  group_clause = mapped clause.Group (after (word "group") (after (word "by") (commas group_spec)))

  unfoldable pub filter_clause : Parser Clause
  filter_clause = mapped clause.Filter (governed single (word "where"))

  unfoldable pub let_binding : Parser (QName × Expr)
  let_binding = both variable (governed single (symbol s.Assign))

  unfoldable pub let_clause : Parser Clause
  let_clause = mapped clause.Let (after (word "let") (commas let_binding))

  unfoldable pub for_binding : Parser (QName × AllowingEmpty × Option QName × Expr)
  for_binding = mapped g.for_binding
      (both variable (both allowing_words (both position (governed single (word "in")))))

  unfoldable pub for_clause : Parser Clause
  for_clause = mapped clause.For (after (word "for") (commas for_binding))

  unfoldable pub count_clause : Parser Clause
  count_clause = mapped clause.Count (after (word "count") variable)

  unfoldable pub later_clause : Parser Clause
  later_clause = choose (is (word "where")) filter_clause
      (choose (is (word "group")) group_clause
      (choose (is (word "count")) count_clause order_clause))

  unfoldable pub clause_ : Parser Clause
  clause_ = choose (is (word "for")) for_clause (choose (is (word "let")) let_clause later_clause)

  unfoldable pub first_clause : Parser Clause
  first_clause = choose (is (word "for")) for_clause let_clause

  unfoldable pub clauses : Parser (List Clause)
  clauses = many (begins clause_words) clause_

  unfoldable pub flwor : Parser Expr
  flwor = mapped g.flwor (both first_clause (both clauses (governed single (word "return"))))

  unfoldable pub any : Parser Expr
  any = choose begins_flwor flwor
      (choose begins_quantified quantified (choose begins_if conditional disjunction))

-- with singles nested at most so deep
unfoldable pub single : ℕ → Parser Expr
single zero = λ ts. None
single (suc depth) = any (single depth)

abbrev pub if_last : Outcome Expr → Option Expr
if_last None = None
if_last (Some (x, [])) = Some x
if_last (Some (x, t ∷ ts)) = None

unfoldable pub query : ℕ → Tokens → Option Expr
query depth ts = if_last (whole (single depth) ts)
