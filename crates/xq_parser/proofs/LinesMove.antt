-- No line of the grammar lowers the number of nested constructs.
use Rattle.std.proofs.Common.{ℕ, List, refl}
use Rattle.xq_lexer.specs.Lexeme.{name, prefixed, int, dec, str, symbol}
use Rattle.xq_lexer.specs.declared.tokens.Symbol.TheVariants as s
use Rattle.xq_expressions.specs.declared.expressions.Expr.{Expr}
use Rattle.xq_parser.specs.Rel.{Rel, empty, ◌▹◌, ◌◃◌, ◌∣◌, OneOf, Many}
use Rattle.xq_parser.specs.Grammar as g
use Rattle.xq_parser.proofs.Moves.{AllMove, one, move-&, move-▹, move-map, move-∣, move-maybe, move-many, move-empty, move-is, move-one_of, move-between}

pub nc-moves : AllMove g.NC
nc-moves ts n us d = one (name n) ts us refl d

pub prefixed-moves : AllMove g.Prefixed
prefixed-moves ts a us d = one (prefixed d.0 d.1) ts us refl d.2

pub qname-moves : AllMove g.QN
qname-moves = move-∣ _ _ (move-map _ _ nc-moves) prefixed-moves

pub variable-moves : AllMove g.Variable
variable-moves = move-▹ _ _ refl qname-moves

pub call-name-moves : AllMove g.CallName
call-name-moves = move-∣ _ _ (move-map _ g.CallNC (λ ts n us d. one (name n) ts us refl d.0)) prefixed-moves

pub signs-move : AllMove (OneOf g.signs)
signs-move = move-one_of g.signs refl

pub separators-move : AllMove (OneOf g.separators)
separators-move = move-one_of g.separators refl

pub set-operators-move : AllMove (OneOf g.set_operators)
set-operators-move = move-one_of g.set_operators refl

pub product-operators-move : AllMove (OneOf g.product_operators)
product-operators-move = move-one_of g.product_operators refl

pub comparisons-move : AllMove (OneOf g.comparisons)
comparisons-move = move-one_of g.comparisons refl

pub quantifiers-move : AllMove (OneOf g.quantifiers)
quantifiers-move = move-one_of g.quantifiers refl

pub directions-move : AllMove (OneOf g.directions)
directions-move = move-one_of g.directions refl

pub empty-orders-move : AllMove (OneOf g.empty_orders)
empty-orders-move = move-one_of g.empty_orders refl

pub axis-names-move : AllMove (OneOf g.axis_names)
axis-names-move = move-one_of g.axis_names refl

pub plain-kinds-move : AllMove (OneOf g.plain_kinds)
plain-kinds-move = move-one_of g.plain_kinds refl

pub named-nodes-move : AllMove (OneOf g.named_nodes)
named-nodes-move = move-one_of g.named_nodes refl

pub unnamed-nodes-move : AllMove (OneOf g.unnamed_nodes)
unnamed-nodes-move = move-one_of g.unnamed_nodes refl

pub parens-move : {A : Type 0} (P : Rel A) → AllMove P → AllMove (symbol s.OpenParenthesis ▹ P ◃ symbol s.CloseParenthesis)
parens-move P p = move-between _ _ P (λ _ _ _. refl) (λ _ _ _ _. refl) p

pub braces-move : {A : Type 0} (P : Rel A) → AllMove P → AllMove (symbol s.OpenBrace ▹ P ◃ symbol s.CloseBrace)
braces-move P p = move-between _ _ P (λ _ _ _. refl) (λ _ _ _ _. refl) p

pub commas-move : {A : Type 0} (P : Rel A) → AllMove P → AllMove (g.Commas P)
commas-move P p = move-map _ _ (move-& _ _ p (move-many _ (move-▹ _ _ refl p)))

plain-kind-moves : AllMove (OneOf g.plain_kinds ◃ symbol s.OpenParenthesis ◃ symbol s.CloseParenthesis)
plain-kind-moves ts a us d =
    let nothing : AllMove (empty {A = Unit {0}} tt) = move-empty tt in
    move-& _ _ plain-kinds-move (parens-move _ nothing) ts (a, tt) us (_, d, (_, refl, (refl, refl)))

module _ (Single : Rel Expr) (single-moves : AllMove Single) where
  pub whole-moves : AllMove (g.Whole Single)
  whole-moves = move-map _ _ (move-& _ _ single-moves (move-many _ (move-▹ _ _ refl single-moves)))

  pub word-moves : (n : List ℕ) → AllMove (name n ▹ Single)
  word-moves n = move-▹ _ _ refl single-moves

  pub body-moves : AllMove (g.Body Single)
  body-moves = braces-move _ (move-∣ _ _ (move-empty _) whole-moves)

  pub computed-moves : AllMove (g.Computed Single)
  computed-moves = move-map _ _ (braces-move _ whole-moves)

  pub name-of-node-moves : AllMove (g.NameOfNode Single)
  name-of-node-moves = move-∣ _ _ (move-map _ _ qname-moves) computed-moves

  pub name-of-instruction-moves : AllMove (g.NameOfInstruction Single)
  name-of-instruction-moves = move-∣ _ _ (move-map _ _ (move-map _ _ nc-moves)) computed-moves

  pub make-moves : AllMove (g.Make Single)
  make-moves = move-∣ _ _ (move-map _ _ (move-& _ _ named-nodes-move (move-& _ _ name-of-node-moves body-moves)))
      (move-∣ _ _ (move-map _ _ (move-▹ _ _ refl (move-& _ _ name-of-instruction-moves body-moves)))
      (move-map _ _ (move-& _ _ unnamed-nodes-move body-moves)))

  pub arguments-moves : AllMove (g.Arguments Single)
  arguments-moves = parens-move _ (move-∣ _ _ (move-empty _) (commas-move _ single-moves))

  pub called-moves : AllMove (g.Called Single)
  called-moves = move-& _ _ call-name-moves arguments-moves

  pub call-moves : AllMove (g.Call Single)
  call-moves = move-map _ _ called-moves

  pub parenthesised-moves : AllMove (g.Parenthesised Single)
  parenthesised-moves = parens-move _ (move-∣ _ _ (move-empty _) whole-moves)

  pub primary-moves : AllMove (g.Primary Single)
  primary-moves =
      move-∣ _ _ (move-map _ g.IntLiteral (λ ts i us d. one (int i) ts us refl d))
      (move-∣ _ _ (move-map _ g.DecLiteral (λ ts i us d. one (dec i) ts us refl d))
      (move-∣ _ _ (move-map _ g.StrLiteral (λ ts i us d. one (str i) ts us refl d))
      (move-∣ _ _ (move-map _ _ variable-moves)
      (move-∣ _ _ parenthesised-moves
      (move-∣ _ _ (move-is _ _ refl)
      (move-∣ _ _ call-moves make-moves))))))

  pub name-or-any-moves : AllMove (g.NameOrAny Single)
  name-or-any-moves = move-∣ _ _ (move-map _ _ qname-moves) (move-∣ _ _ (move-is _ _ refl) (move-empty _))

  pub kind-test-moves : AllMove (g.KindTest Single)
  kind-test-moves =
      move-∣ _ _ plain-kind-moves
      (move-∣ _ _ (move-map _ _ (move-▹ _ _ refl (parens-move _ (move-maybe _ nc-moves))))
      (move-∣ _ _ (move-map _ _ (move-▹ _ _ refl (parens-move _ name-or-any-moves)))
      (move-map _ _ (move-▹ _ _ refl (parens-move _ name-or-any-moves)))))

  pub test-moves : AllMove (g.Test Single)
  test-moves = move-∣ _ _ (move-map _ _ qname-moves) (move-∣ _ _ (move-is _ _ refl) kind-test-moves)

  pub axis-step-moves : AllMove (g.AxisStepRel Single)
  axis-step-moves =
      move-∣ _ _ (move-map _ _ (move-& _ _ axis-names-move (move-▹ _ _ refl test-moves)))
      (move-∣ _ _ (move-map _ _ (move-▹ _ _ refl test-moves))
      (move-∣ _ _ (move-is _ _ refl) (move-map _ _ test-moves)))

  pub predicate-moves : AllMove (g.Predicate Single)
  predicate-moves = move-between _ _ _ (λ _ _ _. refl) (λ _ _ _ _. refl) whole-moves

  pub predicates-move : AllMove (Many (g.Predicate Single))
  predicates-move = move-many _ predicate-moves

  pub step-moves : AllMove (g.StepRel Single)
  step-moves = move-∣ _ _ (move-map _ _ (move-& _ _ axis-step-moves predicates-move)) (move-map _ _ (move-& _ _ primary-moves predicates-move))

  pub relative-moves : AllMove (g.Relative Single)
  relative-moves = move-& _ _ step-moves (move-many _ (move-& _ _ separators-move step-moves))

  pub lone-moves : AllMove (g.Lone Single)
  lone-moves ts a us d = one (symbol s.Slash) ts us refl d.0

  pub path-moves : AllMove (g.Path Single)
  path-moves =
      move-∣ _ _ lone-moves (move-∣ _ _ (move-map _ _ (move-▹ _ _ refl relative-moves))
      (move-∣ _ _ (move-map _ _ (move-▹ _ _ refl relative-moves)) (move-map _ _ relative-moves)))

  pub map-moves : AllMove (g.Map Single)
  map-moves = move-map _ _ (move-& _ _ path-moves (move-many _ (move-▹ _ _ refl path-moves)))

  pub unary-moves : AllMove (g.Unary Single)
  unary-moves = move-map _ _ (move-& _ _ (move-many _ signs-move) map-moves)

  pub arrow-moves : AllMove (g.Arrow Single)
  arrow-moves = move-map _ _ (move-& _ _ unary-moves (move-many _ (move-▹ _ _ refl called-moves)))

  pub inter-moves : AllMove (g.Inter Single)
  inter-moves = move-map _ _ (move-& _ _ arrow-moves (move-many _ (move-& _ _ set-operators-move arrow-moves)))

  pub union-moves : AllMove (g.Union Single)
  union-moves = move-map _ _ (move-& _ _ inter-moves (move-many _ (move-∣ _ _ (move-▹ _ _ refl inter-moves) (move-▹ _ _ refl inter-moves))))

  pub product-moves : AllMove (g.Prod Single)
  product-moves = move-map _ _ (move-& _ _ union-moves (move-many _ (move-& _ _ product-operators-move union-moves)))

  pub sum-moves : AllMove (g.Sum Single)
  sum-moves = move-map _ _ (move-& _ _ product-moves (move-many _ (move-& _ _ signs-move product-moves)))

  pub range-moves : AllMove (g.Range Single)
  range-moves = move-map _ _ (move-& _ _ sum-moves (move-maybe _ (move-▹ _ _ refl sum-moves)))

  pub concat-moves : AllMove (g.Concat Single)
  concat-moves = move-map _ _ (move-& _ _ range-moves (move-many _ (move-▹ _ _ refl range-moves)))

  pub comparison-moves : AllMove (g.Comp Single)
  comparison-moves = move-map _ _ (move-& _ _ concat-moves (move-maybe _ (move-& _ _ comparisons-move concat-moves)))

  pub and-moves : AllMove (g.And Single)
  and-moves = move-map _ _ (move-& _ _ comparison-moves (move-many _ (move-▹ _ _ refl comparison-moves)))

  pub or-moves : AllMove (g.Or Single)
  or-moves = move-map _ _ (move-& _ _ and-moves (move-many _ (move-▹ _ _ refl and-moves)))

  pub tested-moves : AllMove (g.Tested Single)
  tested-moves = parens-move _ whole-moves

  pub if-moves : AllMove (g.If Single)
  if-moves = move-map _ _ (move-▹ _ _ refl (move-& _ _ tested-moves (move-▹ _ _ refl (move-& _ _ single-moves (word-moves _)))))

  pub quantifier-binding-moves : AllMove (g.QB Single)
  quantifier-binding-moves = move-& _ _ variable-moves (word-moves _)

  pub quantified-moves : AllMove (g.Quant Single)
  quantified-moves = move-map _ _ (move-& _ _ quantifiers-move (move-& _ _ (commas-move _ quantifier-binding-moves) (word-moves _)))

  pub direction-moves : AllMove (g.DirectionWord Single)
  direction-moves = move-∣ _ _ directions-move (move-empty _)

  pub empty-words-move : AllMove (g.EmptyWords Single)
  empty-words-move = move-∣ _ _ (move-▹ _ _ refl empty-orders-move) (move-empty _)

  pub order-spec-moves : AllMove (g.OrderS Single)
  order-spec-moves = move-map _ _ (move-& _ _ single-moves (move-& _ _ direction-moves empty-words-move))

  pub order-by-moves : AllMove (g.OrderBy Single)
  order-by-moves = move-map _ _ (move-▹ _ _ refl (move-▹ _ _ refl (commas-move _ order-spec-moves)))

  pub order-moves : AllMove (g.Order Single)
  order-moves = move-∣ _ _ (move-▹ _ _ refl order-by-moves) order-by-moves

  pub assigned-moves : AllMove (symbol s.Assign ▹ Single)
  assigned-moves = move-▹ _ _ refl single-moves

  pub group-spec-moves : AllMove (g.GroupS Single)
  group-spec-moves = move-map _ _ (move-& _ _ variable-moves (move-maybe _ assigned-moves))

  pub group-moves : AllMove (g.Group Single)
  group-moves = move-map _ _ (move-▹ _ _ refl (move-▹ _ _ refl (commas-move _ group-spec-moves)))

  pub filter-moves : AllMove (g.Filter Single)
  filter-moves = move-map _ _ (word-moves _)

  pub let-binding-moves : AllMove (g.LetB Single)
  let-binding-moves = move-& _ _ variable-moves assigned-moves

  pub let-moves : AllMove (g.Let Single)
  let-moves = move-map _ _ (move-▹ _ _ refl (commas-move _ let-binding-moves))

  pub allowing-moves : AllMove (g.AllowingWords Single)
  allowing-moves = move-∣ _ _ (move-▹ _ _ refl (move-is _ _ refl)) (move-empty _)

  pub for-binding-moves : AllMove (g.ForB Single)
  for-binding-moves = move-map _ _ (move-& _ _ variable-moves (move-& _ _ allowing-moves (move-& _ _ (move-maybe _ (move-▹ _ _ refl variable-moves)) (word-moves _))))

  pub for-moves : AllMove (g.For Single)
  for-moves = move-map _ _ (move-▹ _ _ refl (commas-move _ for-binding-moves))

  pub first-clause-moves : AllMove (g.For Single ∣ g.Let Single)
  first-clause-moves = move-∣ _ _ for-moves let-moves

  pub count-moves : AllMove (g.Count Single)
  count-moves = move-map _ _ (move-▹ _ _ refl variable-moves)

  pub clause-moves : AllMove (g.ClauseRel Single)
  clause-moves = move-∣ _ _ for-moves (move-∣ _ _ let-moves (move-∣ _ _ filter-moves (move-∣ _ _ group-moves (move-∣ _ _ count-moves order-moves))))

  pub flwor-moves : AllMove (g.Flwor Single)
  flwor-moves = move-map _ _ (move-& _ _ first-clause-moves (move-& _ _ (move-many _ clause-moves) (word-moves _)))

  pub any-moves : AllMove (g.Any Single)
  any-moves = move-∣ _ _ flwor-moves (move-∣ _ _ quantified-moves (move-∣ _ _ if-moves or-moves))
