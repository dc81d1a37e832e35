-- What a single begins with.
use Rattle.std.proofs.Common.{◌≡◌, Bool, true, List, [], ◌∷◌, refl, inl, inr}
use Rattle.xq_lexer.specs.Lexeme.{Lex, name, prefixed, int, dec, str, symbol}
use Rattle.xq_expressions.specs.declared.names.QName.{QName}
use Rattle.xq_expressions.specs.declared.operators.Sign.{Sign}
use Rattle.xq_expressions.specs.declared.operators.NodeTest.{NodeTest}
use Rattle.xq_expressions.specs.declared.operators.AxisStep.{AxisStep}
use Rattle.xq_expressions.specs.declared.expressions.Expr.{Expr}
use Rattle.xq_expressions.specs.declared.expressions.Step.{Step}
use Rattle.xq_parser.specs.Look.{Tokens, begins_step}
use Rattle.xq_parser.specs.Rel.{Rel, OneOf, ◌&◌, ◌⟨$⟩◌, Many}
use Rattle.xq_parser.specs.Grammar as g
use Rattle.xq_parser.proofs.Tokens.{every_found}
use Rattle.xq_parser.proofs.Rank.{is_word, begins_path, begins_phrase, step_is_path, path_is_phrase, kind_begins}
use Rattle.xq_parser.proofs.NameLines.{kind_reads}

-- a name begins all that a phrase may begin with
word_begins : (t : Lex) (ts : Tokens) → is_word t ≡ true → begins_step (t ∷ ts) ≡ true
word_begins (name n) ts h = refl
word_begins (prefixed p n) ts h = absurd cc
word_begins (int n) ts h = absurd cc
word_begins (dec n) ts h = absurd cc
word_begins (str n) ts h = absurd cc
word_begins (symbol n) ts h = absurd cc

begins_of : (t : Lex) (ts : Tokens) → begins_phrase (t ∷ []) ≡ true → begins_phrase (t ∷ ts) ≡ true
begins_of (name n) ts h = refl
begins_of (prefixed p n) ts h = refl
begins_of (int n) ts h = refl
begins_of (dec n) ts h = refl
begins_of (str n) ts h = refl
begins_of (symbol c) ts h = h

abbrev phrase_word : Lex → Bool
phrase_word t = begins_phrase (t ∷ [])

qname_begins : (ts : Tokens) (a : QName) (us : Tokens) → g.QN ts a us → begins_step ts ≡ true
qname_begins ts a us (inl w) = rw w.1 refl
qname_begins ts a us (inr w) = rw w.2 refl

call_name_begins : (ts : Tokens) (a : QName) (us : Tokens) → g.CallName ts a us → begins_step ts ≡ true
call_name_begins ts a us (inl w) = rw w.1.0 refl
call_name_begins ts a us (inr w) = rw w.2 refl

abbrev AllBegin : {A : Type 0} → Rel A → Type 0
AllBegin {A} P = (ts : Tokens) (a : A) (us : Tokens) → P ts a us → begins_phrase ts ≡ true

-- a line begins as its first phrase
first : {A B C : Type 0} (f : A × B → C) (P : Rel A) (Q : Rel B) → AllBegin P → AllBegin (f ⟨$⟩ P & Q)
first f P Q h ts a us w = h ts w.0.0 w.1.0 w.1.1

module _ (Single : Rel Expr) where
  test_begins : (ts : Tokens) (a : NodeTest) (us : Tokens) → g.Test Single ts a us → begins_step ts ≡ true
  test_begins ts a us (inl w) = qname_begins ts w.0 us w.1
  test_begins ts a us (inr (inl w)) = rw w.0 refl
  test_begins ts a us (inr (inr w)) = let k = kind_reads Single ts a us w in rw k.at (kind_begins k.first k.inside k.kind).step

  axis_begins : (ts : Tokens) (a : AxisStep) (us : Tokens) → g.AxisStepRel Single ts a us → begins_step ts ≡ true
  axis_begins ts a us (inl w) = rw w.1.1.1 (word_begins w.1.1.0 w.1.0 (every_found is_word g.axis_names w.1.1.0 w.0.0 refl w.1.1.2))
  axis_begins ts a us (inr (inl w)) = rw w.1.1 refl
  axis_begins ts a us (inr (inr (inl w))) = rw w.0 refl
  axis_begins ts a us (inr (inr (inr w))) = test_begins ts w.0 us w.1

  make_begins : (ts : Tokens) (a : Expr) (us : Tokens) → g.Make Single ts a us → begins_step ts ≡ true
  make_begins ts a us (inl w) = rw w.1.1.1 (word_begins w.1.1.0 w.1.0 (every_found is_word g.named_nodes w.1.1.0 w.0.0 refl w.1.1.2))
  make_begins ts a us (inr (inl w)) = rw w.1.1 refl
  make_begins ts a us (inr (inr w)) = rw w.1.1.1 (word_begins w.1.1.0 w.1.0 (every_found is_word g.unnamed_nodes w.1.1.0 w.0.0 refl w.1.1.2))

  primary_begins : (ts : Tokens) (a : Expr) (us : Tokens) → g.Primary Single ts a us → begins_step ts ≡ true
  primary_begins ts a us (inl w) = rw w.1 refl
  primary_begins ts a us (inr (inl w)) = rw w.1 refl
  primary_begins ts a us (inr (inr (inl w))) = rw w.1 refl
  primary_begins ts a us (inr (inr (inr (inl w)))) = rw w.1.1 refl
  primary_begins ts a us (inr (inr (inr (inr (inl w))))) = rw w.1 refl
  primary_begins ts a us (inr (inr (inr (inr (inr (inl w)))))) = rw w.0 refl
  primary_begins ts a us (inr (inr (inr (inr (inr (inr (inl w))))))) = call_name_begins ts w.0.0 w.1.0 w.1.1
  primary_begins ts a us (inr (inr (inr (inr (inr (inr (inr w))))))) = make_begins ts a us w

  step_begins : (ts : Tokens) (a : Step) (us : Tokens) → g.StepRel Single ts a us → begins_step ts ≡ true
  step_begins ts a us (inl w) = axis_begins ts w.0.0 w.1.0 w.1.1
  step_begins ts a us (inr w) = primary_begins ts w.0.0 w.1.0 w.1.1

  path_begins : (ts : Tokens) (a : Expr) (us : Tokens) → g.Path Single ts a us → begins_path ts ≡ true
  path_begins ts a us (inl w) = rw w.0 refl
  path_begins ts a us (inr (inl w)) = rw w.1.1 refl
  path_begins ts a us (inr (inr (inl w))) = rw w.1.1 refl
  path_begins ts a us (inr (inr (inr w))) = step_is_path ts (step_begins ts w.0.0 w.1.0 w.1.1)

  signs_begin : (xs : List Sign) (ts us : Tokens) → Many (OneOf g.signs) ts xs us → begins_path us ≡ true → begins_phrase ts ≡ true
  signs_begin [] ts us w b = rw w (path_is_phrase us b)
  signs_begin (x ∷ xs) ts us w b = rw w.1.1 (begins_of w.1.0 w.0 (every_found phrase_word g.signs w.1.0 x refl w.1.2))

  map_begins : (ts : Tokens) (a : Expr) (us : Tokens) → g.Map Single ts a us → begins_path ts ≡ true
  map_begins ts a us w = path_begins ts w.0.0 w.1.0 w.1.1

  unary_begins : AllBegin (g.Unary Single)
  unary_begins ts a us w = signs_begin w.0.0 ts w.1.0 w.1.1 (map_begins w.1.0 w.0.1 us w.1.2)

  or_begins : AllBegin (g.Or Single)
  or_begins = first _ _ _ (first _ _ _ (first _ _ _ (first _ _ _ (first _ _ _ (first _ _ _ (first _ _ _ (first _ _ _ (first _ _ _ (first _ _ _ unary_begins)))))))))

  pub any_begins : (ts : Tokens) (a : Expr) (us : Tokens) → g.Any Single ts a us → begins_phrase ts ≡ true
  any_begins ts a us (inl w) = elim w.1.1 [ inl p ↦ rw p.1.1 refl | inr p ↦ rw p.1.1 refl ]
  any_begins ts a us (inr (inl w)) = rw w.1.1.1 (begins_of w.1.1.0 w.1.0 (every_found phrase_word g.quantifiers w.1.1.0 w.0.0 refl w.1.1.2))
  any_begins ts a us (inr (inr (inl w))) = rw w.1.1 refl
  any_begins ts a us (inr (inr (inr w))) = or_begins ts a us w
