-- Names and node tests that are derived are read.
use Rattle.std.proofs.Common.{◌≡◌, ℕ, ◌<◌, true, false, List, ◌∷◌, Option, Some, None, refl, sym, ap, subst, ◌∙◌, inl, inr}
use Rattle.xq_lexer.specs.Lexeme.{Lex, name, prefixed, int, dec, str, symbol}
use Rattle.xq_lexer.specs.declared.tokens.Symbol.TheVariants as s
use Rattle.xq_expressions.specs.declared.names.QName.{QName}
use Rattle.xq_expressions.specs.declared.operators.NodeTest.{NodeTest}
use Rattle.xq_expressions.specs.declared.operators.NodeTest.TheVariants as nodetest
use Rattle.xq_expressions.specs.declared.operators.AxisStep.{AxisStep}
use Rattle.xq_expressions.specs.declared.operators.AxisStep.TheVariants as along
use Rattle.xq_expressions.specs.declared.expressions.Expr.{Expr}
use Rattle.xq_parser.specs.Look.{Tokens, lookup, same, same_symbol, word, begins_step}
use Rattle.xq_parser.specs.Rel.{Rel, OneOf, ◌&◌, ◌▹◌, ◌◃◌, ◌⟨$⟩◌, Maybe}
use Rattle.xq_parser.specs.Grammar as g
use Rattle.xq_parser.specs.private.Reading.{Outcome, Parser, and_then, one_of, begins, is, expect, only, begins_nc, begins_name, begins_name_test, begins_axis, begins_primary, begins_literal, begins_call, begins_make, begins_flwor, begins_quantified, begins_if}
use Rattle.xq_parser.specs.private.Reading as r
use Rattle.xq_parser.proofs.Tokens.{every, every_found}
use Rattle.xq_parser.proofs.Rank.{rank, is_word, Plain, name_alone, prefixed_alone, prefixed_plain, kind_word, kind_begins}
use Rattle.xq_parser.proofs.Complete.{Reads, value_is, one_of_at, begins_at, only_at}

-- a token that is a name
pub word_is : (t : Lex) → is_word t ≡ true → (n : List ℕ) × (t ≡ name n)
word_is (name n) h = (n, refl)
word_is (prefixed p n) h = absurd cc
word_is (int n) h = absurd cc
word_is (dec n) h = absurd cc
word_is (str n) h = absurd cc
word_is (symbol n) h = absurd cc

pub qname_reads : (ts : Tokens) (a : QName) (us : Tokens) → g.QN ts a us → (r.qname ts ≡ Some (a, us)) × (begins_name ts ≡ true)
unfolding r.qname
qname_reads ts a us (inl w) = rw w.1 (value_is us w.2, refl)
qname_reads ts a us (inr w) = rw w.2 (value_is us w.3, refl)

-- the tokens begin with `$`
abbrev pub Dollar : Tokens → Type 0
Dollar ts = (rest : Tokens) × (ts ≡ symbol s.Dollar ∷ rest)

pub variable_reads : (ts : Tokens) (a : QName) (us : Tokens) → g.Variable ts a us → r.variable ts ≡ Some (a, us)
unfolding r.variable
variable_reads ts a us w =
    let first : expect (symbol s.Dollar) (symbol s.Dollar ∷ w.0) ≡ Some (tt, w.0) = only_at _ tt w.0 refl in
    rw (w.1, first) (qname_reads w.0 a us w.2).0

pub variable_line : (Good : Tokens → Type 0) (any : ℕ) → Reads Good Dollar any g.Variable r.variable
unfolding r.variable one_of lookup same same_symbol
variable_line Good any = record {
  reads = λ ts a us w low good. rw (w.1, (qname_reads w.0 a us w.2).0) refl;
  starts = λ ts a us w low. (w.0, w.1);
}

-- ---- node tests

-- what begins a test that stands alone
pub record TestBegins (ts : Tokens) : Type 0 where
  pub plain : Plain ts
  pub no_primary : begins_primary ts ≡ false
  pub no_axis : begins_axis ts ≡ false
  pub no_at : is (symbol s.At) ts ≡ false
  pub no_parent : is (symbol s.DoubleDot) ts ≡ false
  pub step : begins_step ts ≡ true

-- what begins an axis step
pub record AxisBegins (ts : Tokens) : Type 0 where
  pub plain : Plain ts
  pub no_primary : begins_primary ts ≡ false
  pub step : begins_step ts ≡ true

pub record AxisRead (ts : Tokens) (a : AxisStep) (us : Tokens) : Type 0 where
  pub reads : r.axis_step ts ≡ Some (a, us)
  pub begun : AxisBegins ts

module _ (Single : Rel Expr) where
  kind_argument_by : (ts mid : Tokens) (a : Option QName) (us : Tokens) → ts ≡ symbol s.OpenParenthesis ∷ mid → g.NameOrAny Single mid a (symbol s.CloseParenthesis ∷ us) → r.kind_argument ts ≡ Some (a, us)
  unfolding r.kind_argument r.name_or_any one_of begins lookup same same_symbol
  kind_argument_by ts mid a us e (inl x) = let q = qname_reads mid x.0 (symbol s.CloseParenthesis ∷ us) x.1 in rw (e, q.1, q.0) (value_is us x.2)
  kind_argument_by ts mid a us e (inr (inl x)) = rw (e, x.0) (value_is us x.1)
  kind_argument_by ts mid a us e (inr (inr x)) = rw (e, x.0) (value_is us x.1)

  kind_argument_reads : (ts : Tokens) (a : Option QName) (us : Tokens) → (symbol s.OpenParenthesis ▹ g.NameOrAny Single ◃ symbol s.CloseParenthesis) ts a us → r.kind_argument ts ≡ Some (a, us)
  kind_argument_reads ts a us w = kind_argument_by ts w.0 a us w.1 w.2

  pub record KindRead (ts : Tokens) (a : NodeTest) (us : Tokens) : Type 0 where
    pub reads : r.kind_test ts ≡ Some (a, us)
    pub first : Lex
    pub inside : Tokens
    pub at : ts ≡ first ∷ symbol s.OpenParenthesis ∷ inside
    pub kind : kind_word first ≡ true

  plain_kind_reads : (t : Lex) (a : NodeTest) (us : Tokens) → lookup g.plain_kinds t ≡ Some a → r.kind_test (t ∷ symbol s.OpenParenthesis ∷ symbol s.CloseParenthesis ∷ us) ≡ Some (a, us)
  unfolding r.kind_test r.plain_kind
  plain_kind_reads t a us h =
      let end : expect (symbol s.CloseParenthesis) (symbol s.CloseParenthesis ∷ us) ≡ Some (tt, us) = only_at _ tt us refl in
      let paren : expect (symbol s.OpenParenthesis) (symbol s.OpenParenthesis ∷ symbol s.CloseParenthesis ∷ us) ≡ Some (tt, symbol s.CloseParenthesis ∷ us) = only_at _ tt _ refl in
      rw (begins_at g.plain_kinds t a (symbol s.OpenParenthesis ∷ symbol s.CloseParenthesis ∷ us) h, one_of_at g.plain_kinds t a (symbol s.OpenParenthesis ∷ symbol s.CloseParenthesis ∷ us) h, paren, end) refl

  instruction_at : (ts : Tokens) → r.kind_test (word "processing-instruction" ∷ ts) ≡ r.instruction_kind (word "processing-instruction" ∷ ts)
  unfolding r.kind_test begins lookup same same_symbol
  instruction_at ts = refl

  instruction_reads : (mid : Tokens) (n : Option (List ℕ)) (us : Tokens) → Maybe g.NC mid n (symbol s.CloseParenthesis ∷ us) → r.instruction_kind (word "processing-instruction" ∷ symbol s.OpenParenthesis ∷ mid) ≡ Some (nodetest.ProcessingInstruction n, us)
  unfolding r.instruction_kind one_of lookup same same_symbol
  instruction_reads mid None us w = rw w refl
  instruction_reads mid (Some n) us w = rw w refl

  element_at : (ts : Tokens) (x : Option QName) (us : Tokens) → r.kind_argument ts ≡ Some (x, us) → r.kind_test (word "element" ∷ ts) ≡ Some (nodetest.Element x, us)
  unfolding r.kind_test r.element_kind one_of begins lookup same same_symbol
  element_at ts x us h = rw h refl

  attribute_at : (ts : Tokens) (x : Option QName) (us : Tokens) → r.kind_argument ts ≡ Some (x, us) → r.kind_test (word "attribute" ∷ ts) ≡ Some (nodetest.Attribute x, us)
  unfolding r.kind_test r.attribute_kind one_of begins lookup same same_symbol
  attribute_at ts x us h = rw h refl

  word_open : (ts mid rest : Tokens) (t : Lex) → ts ≡ t ∷ mid → mid ≡ symbol s.OpenParenthesis ∷ rest → ts ≡ t ∷ symbol s.OpenParenthesis ∷ rest
  word_open ts mid rest t e f = e ∙ ap (λ (x : Tokens). t ∷ x) f

  kinds_are_words : every kind_word g.plain_kinds ≡ true
  unfolding lookup same
  kinds_are_words = refl

  instruction_is_word : kind_word (word "processing-instruction") ≡ true
  unfolding lookup same
  instruction_is_word = refl

  element_is_word : kind_word (word "element") ≡ true
  unfolding lookup same
  element_is_word = refl

  attribute_is_word : kind_word (word "attribute") ≡ true
  unfolding lookup same
  attribute_is_word = refl

  pub kind_reads : (ts : Tokens) (a : NodeTest) (us : Tokens) → g.KindTest Single ts a us → KindRead ts a us
  kind_reads ts a us (inl w) = record {
    reads = rw w.1 (plain_kind_reads w.0 a us w.2);
    first = w.0;
    inside = symbol s.CloseParenthesis ∷ us;
    at = w.1;
    kind = every_found kind_word g.plain_kinds w.0 a kinds_are_words w.2;
  }
  kind_reads ts a us (inr (inl w)) =
      let paren = w.1.2 in
      let at = word_open ts w.1.0 paren.0 (word "processing-instruction") w.1.1 paren.1 in
      record {
        reads = rw at (instruction_at (symbol s.OpenParenthesis ∷ paren.0) ∙ instruction_reads paren.0 w.0 us paren.2 ∙ value_is us w.2);
        first = word "processing-instruction";
        inside = paren.0;
        at = at;
        kind = instruction_is_word;
      }
  kind_reads ts a us (inr (inr (inl w))) =
      let paren = w.1.2 in
      record {
        reads = rw w.1.1 (element_at w.1.0 w.0 us (kind_argument_reads w.1.0 w.0 us paren) ∙ value_is us w.2);
        first = word "element";
        inside = paren.0;
        at = word_open ts w.1.0 paren.0 (word "element") w.1.1 paren.1;
        kind = element_is_word;
      }
  kind_reads ts a us (inr (inr (inr w))) =
      let paren = w.1.2 in
      record {
        reads = rw w.1.1 (attribute_at w.1.0 w.0 us (kind_argument_reads w.1.0 w.0 us paren) ∙ value_is us w.2);
        first = word "attribute";
        inside = paren.0;
        at = word_open ts w.1.0 paren.0 (word "attribute") w.1.1 paren.1;
        kind = attribute_is_word;
      }

  name_begins : (n : List ℕ) (us : Tokens) → rank us < 200 → TestBegins (name n ∷ us)
  unfolding begins lookup same
  name_begins n us low =
      let alone = name_alone n us low in
      record { plain = alone.plain; no_primary = alone.no_primary; no_axis = alone.no_axis; no_at = refl; no_parent = refl; step = refl }

  prefixed_begins : (p n : List ℕ) (us : Tokens) → rank us < 200 → TestBegins (prefixed p n ∷ us)
  unfolding begins lookup same
  prefixed_begins p n us low = record { plain = prefixed_plain p n us; no_primary = prefixed_alone p n us low; no_axis = refl; no_at = refl; no_parent = refl; step = refl }

  star_begins : (us : Tokens) → TestBegins (symbol s.Star ∷ us)
  unfolding begins lookup same same_symbol begins_flwor begins_quantified begins_if begins_primary begins_literal begins_call begins_make
  star_begins us = record { plain = record { no_flwor = refl; no_quantified = refl; no_if = refl }; no_primary = refl; no_axis = refl; no_at = refl; no_parent = refl; step = refl }

  -- a word of a kind test is a name, and so no symbol
  pub word_no_symbol : (t : Lex) (us : Tokens) → kind_word t ≡ true → (is (symbol s.At) (t ∷ us) ≡ false) × (is (symbol s.DoubleDot) (t ∷ us) ≡ false) × (is (symbol s.Star) (t ∷ us) ≡ false)
  unfolding begins lookup same
  word_no_symbol (name n) us h = (refl, refl, refl)
  word_no_symbol (prefixed p n) us h = absurd cc
  word_no_symbol (int n) us h = absurd cc
  word_no_symbol (dec n) us h = absurd cc
  word_no_symbol (str n) us h = absurd cc
  word_no_symbol (symbol n) us h = absurd cc

  kind_test_begins : (t : Lex) (us : Tokens) → kind_word t ≡ true → TestBegins (t ∷ symbol s.OpenParenthesis ∷ us)
  kind_test_begins t us h =
      let k = kind_begins t us h in
      let no = word_no_symbol t (symbol s.OpenParenthesis ∷ us) h in
      record { plain = k.plain; no_primary = k.no_primary; no_axis = k.no_axis; no_at = no.0; no_parent = no.1; step = k.step }

  test_starts : (ts : Tokens) (a : NodeTest) (us : Tokens) → g.Test Single ts a us → rank us < 200 → TestBegins ts
  test_starts ts a us (inl w) low = elim w.1 [
    | inl n ↦ rw n.1 (name_begins n.0 us low)
    | inr p ↦ rw p.2 (prefixed_begins p.0 p.1 us low)
  ]
  test_starts ts a us (inr (inl w)) low = rw w.0 (star_begins us)
  test_starts ts a us (inr (inr w)) low = let k = kind_reads ts a us w in rw k.at (kind_test_begins k.first k.inside k.kind)

  named_at : (ts : Tokens) → begins_name_test ts ≡ true → r.node_test ts ≡ r.mapped nodetest.Named r.qname ts
  unfolding r.node_test
  named_at ts h = rw h refl

  kind_at : (ts : Tokens) → begins_name_test ts ≡ false → is (symbol s.Star) ts ≡ false → r.node_test ts ≡ r.kind_test ts
  unfolding r.node_test
  kind_at ts h k = rw (h, k) refl

  star_reads : (us : Tokens) → r.node_test (symbol s.Star ∷ us) ≡ Some (nodetest.AnyName, us)
  unfolding r.node_test one_of begins lookup same same_symbol
  star_reads us = refl

  test_reads : (ts : Tokens) (a : NodeTest) (us : Tokens) → g.Test Single ts a us → rank us < 200 → r.node_test ts ≡ Some (a, us)
  test_reads ts a us (inl w) low =
      let tested : begins_name_test ts ≡ true = elim w.1 [ inl n ↦ rw n.1 (name_alone n.0 us low).test | inr p ↦ rw p.2 refl ] in
      named_at ts tested ∙ rw (qname_reads ts w.0 us w.1).0 (value_is us w.2)
  test_reads ts a us (inr (inl w)) low = rw w.0 (star_reads us ∙ value_is us w.1)
  test_reads ts a us (inr (inr w)) low =
      let k = kind_reads ts a us w in
      let no = (word_no_symbol k.first (symbol s.OpenParenthesis ∷ k.inside) k.kind).2 in
      let begun = kind_begins k.first k.inside k.kind in
      kind_at ts (rw k.at begun.no_test) (rw k.at no) ∙ k.reads

  -- ---- axis steps

  pub axes_are_words : every is_word g.axis_names ≡ true
  axes_are_words = refl

  along_begins : (n : List ℕ) (us : Tokens) → AxisBegins (name n ∷ symbol s.DoubleColon ∷ us)
  unfolding begins_flwor begins_quantified begins_if begins_primary begins_literal begins_call begins_make
  along_begins n us = record { plain = record { no_flwor = refl; no_quantified = refl; no_if = refl }; no_primary = refl; step = refl }

  at_begins : (us : Tokens) → AxisBegins (symbol s.At ∷ us)
  unfolding begins_flwor begins_quantified begins_if begins_primary begins_literal begins_call begins_make
  at_begins us = record { plain = record { no_flwor = refl; no_quantified = refl; no_if = refl }; no_primary = refl; step = refl }

  parent_begins : (us : Tokens) → AxisBegins (symbol s.DoubleDot ∷ us)
  unfolding begins_flwor begins_quantified begins_if begins_primary begins_literal begins_call begins_make
  parent_begins us = record { plain = record { no_flwor = refl; no_quantified = refl; no_if = refl }; no_primary = refl; step = refl }

  along_at : (n : List ℕ) (us : Tokens) → r.axis_step (name n ∷ symbol s.DoubleColon ∷ us) ≡ r.along_axis (name n ∷ symbol s.DoubleColon ∷ us)
  unfolding r.axis_step
  along_at n us = refl

  attributes_at : (us : Tokens) → r.axis_step (symbol s.At ∷ us) ≡ r.along_attributes (symbol s.At ∷ us)
  unfolding r.axis_step begins lookup same same_symbol
  attributes_at us = refl

  parent_at : (us : Tokens) → r.axis_step (symbol s.DoubleDot ∷ us) ≡ Some (along.Parent, us)
  unfolding r.axis_step one_of begins lookup same same_symbol
  parent_at us = refl

  test_at : (ts : Tokens) → TestBegins ts → r.axis_step ts ≡ r.mapped along.Abbreviated r.node_test ts
  unfolding r.axis_step
  test_at ts b = rw (b.no_axis, b.no_at, b.no_parent) refl

  along_reads : (ts : Tokens) (a : AxisStep) (us : Tokens) → (g.along_axis ⟨$⟩ OneOf g.axis_names & symbol s.DoubleColon ▹ g.Test Single) ts a us → rank us < 200 → AxisRead ts a us
  unfolding r.along_axis
  along_reads ts a us w low =
      let op = w.1.1 in
      let colons = w.1.2 in
      let n = word_is op.0 (every_found is_word g.axis_names op.0 w.0.0 axes_are_words op.2) in
      let whole : ts ≡ op.0 ∷ symbol s.DoubleColon ∷ colons.0 = op.1 ∙ ap (λ (x : Tokens). op.0 ∷ x) colons.1 in
      let named : ts ≡ name n.0 ∷ symbol s.DoubleColon ∷ colons.0 = whole ∙ ap (λ (x : Lex). x ∷ symbol s.DoubleColon ∷ colons.0) n.1 in
      let axis : one_of g.axis_names ts ≡ Some (w.0.0, symbol s.DoubleColon ∷ colons.0) = rw whole (one_of_at g.axis_names op.0 w.0.0 _ op.2) in
      let mid : expect (symbol s.DoubleColon) (symbol s.DoubleColon ∷ colons.0) ≡ Some (tt, colons.0) = only_at _ tt colons.0 refl in
      let read : r.along_axis ts ≡ Some (a, us) = rw (axis, mid, test_reads colons.0 w.0.1 us colons.2 low) (value_is us w.2) in
      record { reads = subst (λ (x : Tokens). r.axis_step x ≡ r.along_axis x) (sym named) (along_at n.0 colons.0) ∙ read; begun = rw named (along_begins n.0 colons.0) }

  attributes_read : (ts : Tokens) (a : AxisStep) (us : Tokens) → (along.Attribute ⟨$⟩ symbol s.At ▹ g.Test Single) ts a us → rank us < 200 → AxisRead ts a us
  unfolding r.along_attributes
  attributes_read ts a us w low =
      let at = w.1 in
      let mid : expect (symbol s.At) (symbol s.At ∷ at.0) ≡ Some (tt, at.0) = only_at _ tt at.0 refl in
      let read : r.along_attributes (symbol s.At ∷ at.0) ≡ Some (a, us) = rw (mid, test_reads at.0 w.0 us at.2 low) (value_is us w.2) in
      record { reads = rw at.1 (attributes_at at.0 ∙ read); begun = rw at.1 (at_begins at.0) }

  pub axis_reads : (ts : Tokens) (a : AxisStep) (us : Tokens) → g.AxisStepRel Single ts a us → rank us < 200 → AxisRead ts a us
  axis_reads ts a us (inl w) low = along_reads ts a us w low
  axis_reads ts a us (inr (inl w)) low = attributes_read ts a us w low
  axis_reads ts a us (inr (inr (inl w))) low = rw w.0 (record { reads = parent_at us ∙ value_is us w.1; begun = parent_begins us })
  axis_reads ts a us (inr (inr (inr w))) low =
      let b = test_starts ts w.0 us w.1 low in
      record {
        reads = test_at ts b ∙ rw (test_reads ts w.0 us w.1 low) (value_is us w.2);
        begun = record { plain = b.plain; no_primary = b.no_primary; step = b.step };
      }

  pub axis_step_line : (Good : Tokens → Type 0) → Reads Good AxisBegins 200 (g.AxisStepRel Single) r.axis_step
  axis_step_line Good = record {
    reads = λ ts a us w low good. (axis_reads ts a us w low).reads;
    starts = λ ts a us w low. (axis_reads ts a us w low).begun;
  }
