-- What is read is derived: line by line.
use Rattle.std.proofs.Common.{◌≡◌, ℕ, zero, suc, Bool, true, false, List, [], ◌∷◌, Option, Some, None, refl, sym, ◌∙◌, subst, inl, inr}
use Rattle.xq_lexer.specs.Lexeme.{Lex, name, prefixed, int, dec, str, symbol}
use Rattle.std.specs.Prelude.{not}
use Rattle.xq_lexer.specs.declared.tokens.Symbol.TheVariants as s
use Rattle.xq_expressions.specs.declared.expressions.Expr.{Expr}
use Rattle.xq_expressions.specs.declared.expressions.Expr.TheVariants as e
use Rattle.std.proofs.lemmas.Bool.{cases_Bool}
use Rattle.xq_parser.specs.Look.{Tokens, lookup, word, begins_step}
use Rattle.xq_parser.specs.Rel.{Rel, empty, ◌&◌, ◌▹◌, ◌⟨$⟩◌, ◌∣◌, Many}
use Rattle.xq_parser.specs.Grammar as g
use Rattle.xq_parser.specs.private.Reading.{Outcome, Parser, found, begins_lone, one_of, only}
use Rattle.xq_parser.specs.private.Reading as r
use Rattle.xq_parser.proofs.Tokens.{chosen, some_is, none_some}
use Rattle.xq_parser.proofs.Sound.{IsSound, at_end, sound-one_of, sound-is, sound-pure, sound-both, sound-mapped, sound-after, sound-before, sound-choose, sound-other, sound-maybe, sound-many}

-- ---- names and literals

nc_sound : IsSound g.NC r.nc
nc_sound [] a us h = absurd (none_some h)
nc_sound (name n ∷ ts) a us h = at_end g.NC (name n ∷ ts) a us _ _ h refl
nc_sound (t ∷ ts) a us h = absurd (none_some h)

prefixed_sound : IsSound g.Prefixed r.prefixed_name
prefixed_sound [] a us h = absurd (none_some h)
prefixed_sound (prefixed p n ∷ ts) a us h = at_end g.Prefixed (prefixed p n ∷ ts) a us _ _ h (p, n, refl, refl)
prefixed_sound (t ∷ ts) a us h = absurd (none_some h)

int_sound : IsSound g.IntLiteral r.int_literal
int_sound [] a us h = absurd (none_some h)
int_sound (int n ∷ ts) a us h = at_end g.IntLiteral (int n ∷ ts) a us _ _ h refl
int_sound (t ∷ ts) a us h = absurd (none_some h)

dec_sound : IsSound g.DecLiteral r.dec_literal
dec_sound [] a us h = absurd (none_some h)
dec_sound (dec n ∷ ts) a us h = at_end g.DecLiteral (dec n ∷ ts) a us _ _ h refl
dec_sound (t ∷ ts) a us h = absurd (none_some h)

str_sound : IsSound g.StrLiteral r.str_literal
str_sound [] a us h = absurd (none_some h)
str_sound (str n ∷ ts) a us h = at_end g.StrLiteral (str n ∷ ts) a us _ _ h refl
str_sound (t ∷ ts) a us h = absurd (none_some h)

not_found : {A : Type 0} (o : Option A) → found o ≡ false → o ≡ None
not_found None h = refl
not_found (Some a) h = absurd cc

call_nc_sound : IsSound g.CallNC r.call_nc
call_nc_sound [] a us h = absurd (none_some h)
call_nc_sound (name n ∷ ts) a us h = elim (chosen (found (lookup g.no_calls (name n))) _ _ _ h) [
  | inl p ↦ absurd (none_some p.1)
  | inr p ↦ at_end g.CallNC (name n ∷ ts) a us _ _ p.1 (refl, not_found _ p.0)
]
call_nc_sound (t ∷ ts) a us h = absurd (none_some h)

qname_sound : IsSound g.QN r.qname
unfolding r.qname
qname_sound = sound-choose _ _ _ _ _ (sound-mapped _ _ _ nc_sound) prefixed_sound

call_name_sound : IsSound g.CallName r.call_name
unfolding r.call_name
call_name_sound = sound-choose _ _ _ _ _ (sound-mapped _ _ _ call_nc_sound) prefixed_sound

variable_sound : IsSound g.Variable r.variable
unfolding r.variable
variable_sound = sound-after _ _ _ qname_sound

commas_sound : {A : Type 0} (P : Rel A) (p : Parser A) → IsSound P p → IsSound (g.Commas P) (r.commas p)
unfolding r.commas r.after_comma
commas_sound P p sp = sound-mapped _ _ _ (sound-both _ _ _ _ sp (sound-many _ _ _ (sound-after _ _ _ sp)))

-- the operand of a union, by the two signs before it
pub union_choice : (single : Parser Expr) (ts : Tokens) → r.union_item single ts ≡ r.choose (r.is (word "union")) (r.after (word "union") (r.inter single)) (r.after (symbol s.Bar) (r.inter single)) ts
unfolding r.union_item r.union_sign
union_choice single ts = elim (cases_Bool (r.is (word "union") ts)) [ inl b ↦ rw b refl | inr b ↦ rw b refl ]

module _ (Single : Rel Expr) (single : Parser Expr) (single_sound : IsSound Single single) where
  pub whole_sound : IsSound (g.Whole Single) (r.whole single)
  unfolding r.whole r.after_comma
  whole_sound = sound-mapped _ _ _ (sound-both _ _ _ _ single_sound (sound-many _ _ _ (sound-after _ _ _ single_sound)))

  governed_sound : (t : Lex) → IsSound (t ▹ Single) (r.governed single t)
  unfolding r.governed
  governed_sound t = sound-after _ _ _ single_sound

  inside_sound : (t : Lex) → IsSound (empty (e.Sequence []) ∣ g.Whole Single) (r.inside single t)
  unfolding r.inside
  inside_sound t = sound-choose _ _ _ _ _ (sound-pure _) whole_sound

  body_sound : IsSound (g.Body Single) (r.body single)
  unfolding r.body
  body_sound = sound-after _ _ _ (sound-before _ _ _ (inside_sound _))

  computed_sound : IsSound (g.Computed Single) (r.computed single)
  unfolding r.computed
  computed_sound = sound-mapped _ _ _ (sound-after _ _ _ (sound-before _ _ _ whole_sound))

  name_of_node_sound : IsSound (g.NameOfNode Single) (r.name_of_node single)
  unfolding r.name_of_node
  name_of_node_sound = sound-choose _ _ _ _ _ (sound-mapped _ _ _ qname_sound) computed_sound

  name_of_instruction_sound : IsSound (g.NameOfInstruction Single) (r.name_of_instruction single)
  unfolding r.name_of_instruction
  name_of_instruction_sound = sound-choose _ _ _ _ _ (sound-mapped _ _ _ (sound-mapped _ _ _ nc_sound)) computed_sound

  make_sound : IsSound (g.Make Single) (r.make single)
  unfolding r.make r.make_named r.make_instruction r.make_unnamed
  make_sound = sound-choose _ _ _ _ _ (sound-mapped _ _ _ (sound-both _ _ _ _ (sound-one_of _) (sound-both _ _ _ _ name_of_node_sound body_sound)))
      (sound-choose _ _ _ _ _ (sound-mapped _ _ _ (sound-after _ _ _ (sound-both _ _ _ _ name_of_instruction_sound body_sound)))
      (sound-mapped _ _ _ (sound-both _ _ _ _ (sound-one_of _) body_sound)))

  arguments_sound : IsSound (g.Arguments Single) (r.arguments single)
  unfolding r.arguments r.argument_list
  arguments_sound = sound-after _ _ _ (sound-before _ _ _ (sound-choose _ _ _ _ _ (sound-pure _) (commas_sound _ _ single_sound)))

  called_sound : IsSound (g.Called Single) (r.called single)
  unfolding r.called
  called_sound = sound-both _ _ _ _ call_name_sound arguments_sound

  call_sound : IsSound (g.Call Single) (r.call single)
  unfolding r.call
  call_sound = sound-mapped _ _ _ called_sound

  parenthesised_sound : IsSound (g.Parenthesised Single) (r.parenthesised single)
  unfolding r.parenthesised
  parenthesised_sound = sound-after _ _ _ (sound-before _ _ _ (inside_sound _))

  primary_sound : IsSound (g.Primary Single) (r.primary single)
  unfolding r.primary r.call_or_make
  primary_sound =
      sound-choose _ _ _ _ _ (sound-mapped _ _ _ int_sound)
      (sound-choose _ _ _ _ _ (sound-mapped _ _ _ dec_sound)
      (sound-choose _ _ _ _ _ (sound-mapped _ _ _ str_sound)
      (sound-choose _ _ _ _ _ (sound-mapped _ _ _ variable_sound)
      (sound-choose _ _ _ _ _ parenthesised_sound
      (sound-choose _ _ _ _ _ (sound-is _ _)
      (sound-choose _ _ _ _ _ call_sound make_sound))))))

  -- ---- tests and axes

  name_or_any_sound : IsSound (g.NameOrAny Single) r.name_or_any
  unfolding r.name_or_any
  name_or_any_sound = sound-choose _ _ _ _ _ (sound-mapped _ _ _ qname_sound) (sound-choose _ _ _ _ _ (sound-is _ _) (sound-pure _))

  kind_test_sound : IsSound (g.KindTest Single) r.kind_test
  unfolding r.kind_test r.plain_kind r.instruction_kind r.element_kind r.attribute_kind r.kind_argument
  kind_test_sound =
      sound-choose _ _ _ _ _ (sound-before _ _ _ (sound-before _ _ _ (sound-one_of _)))
      (sound-choose _ _ _ _ _ (sound-mapped _ _ _ (sound-after _ _ _ (sound-after _ _ _ (sound-before _ _ _ (sound-maybe _ _ _ nc_sound)))))
      (sound-choose _ _ _ _ _ (sound-mapped _ _ _ (sound-after _ _ _ (sound-after _ _ _ (sound-before _ _ _ name_or_any_sound))))
      (sound-mapped _ _ _ (sound-after _ _ _ (sound-after _ _ _ (sound-before _ _ _ name_or_any_sound))))))

  test_sound : IsSound (g.Test Single) r.node_test
  unfolding r.node_test
  test_sound = sound-choose _ _ _ _ _ (sound-mapped _ _ _ qname_sound) (sound-choose _ _ _ _ _ (sound-is _ _) kind_test_sound)

  axis_step_sound : IsSound (g.AxisStepRel Single) r.axis_step
  unfolding r.axis_step r.along_axis r.along_attributes
  axis_step_sound =
      sound-choose _ _ _ _ _ (sound-mapped _ _ _ (sound-both _ _ _ _ (sound-one_of _) (sound-after _ _ _ test_sound)))
      (sound-choose _ _ _ _ _ (sound-mapped _ _ _ (sound-after _ _ _ test_sound))
      (sound-choose _ _ _ _ _ (sound-is _ _) (sound-mapped _ _ _ test_sound)))

  -- ---- paths

  predicates_sound : IsSound (Many (g.Predicate Single)) (r.predicates single)
  unfolding r.predicates r.predicate
  predicates_sound = sound-many _ _ _ (sound-after _ _ _ (sound-before _ _ _ whole_sound))

  step_sound : IsSound (g.StepRel Single) (r.step single)
  unfolding r.step r.primary_step r.predicated
  step_sound = sound-other _ _ _ _ _ (sound-mapped _ _ _ (sound-both _ _ _ _ axis_step_sound predicates_sound)) (sound-mapped _ _ _ (sound-both _ _ _ _ primary_sound predicates_sound))

  relative_sound : IsSound (g.Relative Single) (r.relative single)
  unfolding r.relative r.next_step
  relative_sound = sound-both _ _ _ _ step_sound (sound-many _ _ _ (sound-both _ _ _ _ (sound-one_of _) step_sound))

  -- a slash alone is one where the test says so
  lone_path : (test : Tokens → Bool) (Q : Rel Expr) (q : Parser Expr) → ((ts : Tokens) → test (symbol s.Slash ∷ ts) ≡ true → begins_step ts ≡ false) → IsSound Q q → IsSound (g.Lone Single ∣ Q) (r.choose test (one_of ((symbol s.Slash, e.Root) ∷ [])) q)
  lone_path test Q q alone sq ts a us h = elim (chosen (test ts) _ _ _ h) [
    | inl w ↦
        let lone = sound-is _ _ ts a us w.1 in
        let held : test (symbol s.Slash ∷ us) ≡ true = subst (λ (x : Tokens). test x ≡ true) lone.0 w.0 in
        inl (lone.0, alone us held, lone.1)
    | inr w ↦ inr (sq ts a us w.1)
  ]

  lone_alone : (ts : Tokens) → begins_lone (symbol s.Slash ∷ ts) ≡ true → begins_step ts ≡ false
  unfolding begins_lone
  lone_alone ts h = by_test (begins_step ts) h
    where
      by_test : (b : Bool) → not b ≡ true → b ≡ false
      by_test false h = refl
      by_test true h = absurd cc

  path_sound : IsSound (g.Path Single) (r.path single)
  unfolding r.path r.from_root r.from_below
  path_sound =
      lone_path _ _ _ lone_alone
      (sound-choose _ _ _ _ _ (sound-mapped _ _ _ (sound-after _ _ _ relative_sound))
      (sound-choose _ _ _ _ _ (sound-mapped _ _ _ (sound-after _ _ _ relative_sound)) (sound-mapped _ _ _ relative_sound)))

  -- ---- operators

  -- a first operand, and more
  chain_sound : {A B : Type 0} (value : Expr × List A → B) (P : Rel Expr) (I : Rel A) (p : Parser Expr) (test : Tokens → Bool) (i : Parser A) → IsSound P p → IsSound I i → IsSound (value ⟨$⟩ P & Many I) (r.mapped value (r.both p (r.many test i)))
  chain_sound value P I p test i sp si = sound-mapped _ _ _ (sound-both _ _ _ _ sp (sound-many _ _ _ si))

  map_sound : IsSound (g.Map Single) (r.simple_map single)
  unfolding r.simple_map r.map_item
  map_sound = chain_sound _ _ _ _ _ _ path_sound (sound-after _ _ _ path_sound)

  unary_sound : IsSound (g.Unary Single) (r.unary single)
  unfolding r.unary
  unary_sound = sound-mapped _ _ _ (sound-both _ _ _ _ (sound-many _ _ _ (sound-one_of _)) map_sound)

  arrow_sound : IsSound (g.Arrow Single) (r.arrow single)
  unfolding r.arrow r.arrow_item
  arrow_sound = chain_sound _ _ _ _ _ _ unary_sound (sound-after _ _ _ called_sound)

  inter_sound : IsSound (g.Inter Single) (r.inter single)
  unfolding r.inter r.set_item
  inter_sound = chain_sound _ _ _ _ _ _ arrow_sound (sound-both _ _ _ _ (sound-one_of _) arrow_sound)

  union_item_sound : IsSound ((word "union" ▹ g.Inter Single) ∣ (symbol s.Bar ▹ g.Inter Single)) (r.union_item single)
  union_item_sound ts a us h =
      sound-choose (r.is (word "union")) _ _ _ _ (sound-after _ _ _ inter_sound) (sound-after _ _ _ inter_sound) ts a us (sym (union_choice single ts) ∙ h)

  union_sound : IsSound (g.Union Single) (r.union single)
  unfolding r.union
  union_sound = chain_sound _ _ _ _ _ _ inter_sound union_item_sound

  product_sound : IsSound (g.Prod Single) (r.product single)
  unfolding r.product r.product_item
  product_sound = chain_sound _ _ _ _ _ _ union_sound (sound-both _ _ _ _ (sound-one_of _) union_sound)

  sum_sound : IsSound (g.Sum Single) (r.sum single)
  unfolding r.sum r.sum_item
  sum_sound = chain_sound _ _ _ _ _ _ product_sound (sound-both _ _ _ _ (sound-one_of _) product_sound)

  range_sound : IsSound (g.Range Single) (r.range single)
  unfolding r.range r.range_item
  range_sound = sound-mapped _ _ _ (sound-both _ _ _ _ sum_sound (sound-maybe _ _ _ (sound-after _ _ _ sum_sound)))

  concat_sound : IsSound (g.Concat Single) (r.concat single)
  unfolding r.concat r.concat_item
  concat_sound = chain_sound _ _ _ _ _ _ range_sound (sound-after _ _ _ range_sound)

  comparison_sound : IsSound (g.Comp Single) (r.comparison single)
  unfolding r.comparison r.comparison_item
  comparison_sound = sound-mapped _ _ _ (sound-both _ _ _ _ concat_sound (sound-maybe _ _ _ (sound-both _ _ _ _ (sound-one_of _) concat_sound)))

  and_sound : IsSound (g.And Single) (r.conjunction single)
  unfolding r.conjunction r.and_item
  and_sound = chain_sound _ _ _ _ _ _ comparison_sound (sound-after _ _ _ comparison_sound)

  or_sound : IsSound (g.Or Single) (r.disjunction single)
  unfolding r.disjunction r.or_item
  or_sound = chain_sound _ _ _ _ _ _ and_sound (sound-after _ _ _ and_sound)

  -- ---- conditions, quantifiers and clauses

  if_sound : IsSound (g.If Single) (r.conditional single)
  unfolding r.conditional r.tested r.branches
  if_sound =
      sound-mapped _ _ _ (sound-after _ _ _ (sound-both _ _ _ _ (sound-after _ _ _ (sound-before _ _ _ whole_sound))
      (sound-after _ _ _ (sound-both _ _ _ _ single_sound (governed_sound _)))))

  quantified_sound : IsSound (g.Quant Single) (r.quantified single)
  unfolding r.quantified r.quantifier_binding
  quantified_sound = sound-mapped _ _ _ (sound-both _ _ _ _ (sound-one_of _) (sound-both _ _ _ _ (commas_sound _ _ (sound-both _ _ _ _ variable_sound (governed_sound _))) (governed_sound _)))

  order_spec_sound : IsSound (g.OrderS Single) (r.order_spec single)
  unfolding r.order_spec r.direction_word r.empty_words
  order_spec_sound =
      sound-mapped _ _ _ (sound-both _ _ _ _ single_sound
      (sound-both _ _ _ _ (sound-choose _ _ _ _ _ (sound-one_of _) (sound-pure _)) (sound-choose _ _ _ _ _ (sound-after _ _ _ (sound-one_of _)) (sound-pure _))))

  order_by_sound : IsSound (g.OrderBy Single) (r.order_by single)
  unfolding r.order_by
  order_by_sound = sound-mapped _ _ _ (sound-after _ _ _ (sound-after _ _ _ (commas_sound _ _ order_spec_sound)))

  order_sound : IsSound (g.Order Single) (r.order_clause single)
  unfolding r.order_clause
  order_sound = sound-choose _ _ _ _ _ (sound-after _ _ _ order_by_sound) order_by_sound

  group_sound : IsSound (g.Group Single) (r.group_clause single)
  unfolding r.group_clause r.group_spec
  group_sound = sound-mapped _ _ _ (sound-after _ _ _ (sound-after _ _ _ (commas_sound _ _ (sound-mapped _ _ _ (sound-both _ _ _ _ variable_sound (sound-maybe _ _ _ (governed_sound _)))))))

  filter_sound : IsSound (g.Filter Single) (r.filter_clause single)
  unfolding r.filter_clause
  filter_sound = sound-mapped _ _ _ (governed_sound _)

  let_sound : IsSound (g.Let Single) (r.let_clause single)
  unfolding r.let_clause r.let_binding
  let_sound = sound-mapped _ _ _ (sound-after _ _ _ (commas_sound _ _ (sound-both _ _ _ _ variable_sound (governed_sound _))))

  for_sound : IsSound (g.For Single) (r.for_clause single)
  unfolding r.for_clause r.for_binding r.position r.allowing_words
  for_sound =
      sound-mapped _ _ _ (sound-after _ _ _ (commas_sound _ _ (sound-mapped _ _ _ (sound-both _ _ _ _ variable_sound
      (sound-both _ _ _ _ (sound-choose _ _ _ _ _ (sound-after _ _ _ (sound-is _ _)) (sound-pure _))
      (sound-both _ _ _ _ (sound-maybe _ _ _ (sound-after _ _ _ variable_sound)) (governed_sound _)))))))

  count_sound : IsSound (g.Count Single) (r.count_clause single)
  unfolding r.count_clause
  count_sound = sound-mapped _ _ _ (sound-after _ _ _ variable_sound)

  clause_sound : IsSound (g.ClauseRel Single) (r.clause_ single)
  unfolding r.clause_ r.later_clause
  clause_sound =
      sound-choose _ _ _ _ _ for_sound (sound-choose _ _ _ _ _ let_sound
      (sound-choose _ _ _ _ _ filter_sound (sound-choose _ _ _ _ _ group_sound
      (sound-choose _ _ _ _ _ count_sound order_sound))))

  flwor_sound : IsSound (g.Flwor Single) (r.flwor single)
  unfolding r.flwor r.first_clause r.clauses
  flwor_sound =
      sound-mapped _ _ _ (sound-both _ _ _ _ (sound-choose _ _ _ _ _ for_sound let_sound)
      (sound-both _ _ _ _ (sound-many _ _ _ clause_sound) (governed_sound _)))

  any_sound : IsSound (g.Any Single) (r.any single)
  unfolding r.any
  any_sound = sound-choose _ _ _ _ _ flwor_sound (sound-choose _ _ _ _ _ quantified_sound (sound-choose _ _ _ _ _ if_sound or_sound))

pub single_sound : (d : ℕ) → IsSound (g.Single d) (r.single d)
unfolding r.single
single_sound zero = λ ts a us h. absurd (none_some h)
single_sound (suc d) = any_sound (g.Single d) (r.single d) (single_sound d)

last_sound : (d : ℕ) (ts : Tokens) (o : Outcome Expr) (a : Expr) → r.whole (r.single d) ts ≡ o → r.if_last o ≡ Some a → g.Whole (g.Single d) ts a []
last_sound d ts None a h k = absurd (none_some k)
last_sound d ts (Some (x, [])) a h k = subst (λ y. g.Whole (g.Single d) ts y []) (some_is k) (whole_sound (g.Single d) (r.single d) (single_sound d) ts x [] h)
last_sound d ts (Some (x, t ∷ us)) a h k = absurd (none_some k)

-- what is read is derived
pub query_sound : (d : ℕ) (ts : Tokens) (a : Expr) → r.query d ts ≡ Some a → g.Derives ts a
unfolding r.query
query_sound d ts a h = (d, last_sound d ts (r.whole (r.single d) ts) a refl h)
