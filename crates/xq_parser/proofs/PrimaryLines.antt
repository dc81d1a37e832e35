-- Primary expressions that are derived are read.
use Rattle.std.proofs.Common.{◌≡◌, ℕ, suc, ◌<◌, Bool, true, false, List, [], ◌∷◌, Option, Some, refl, sym, ap, subst, ◌∙◌, arith, inl, inr}
use Rattle.std.specs.Prelude.{codes, not, ◌&&◌}
use Rattle.xq_lexer.specs.Lexeme.{Lex, name, prefixed, int, dec, str, symbol}
use Rattle.xq_lexer.specs.declared.tokens.Symbol.TheVariants as s
use Rattle.xq_expressions.specs.declared.names.QName.{QName}
use Rattle.xq_expressions.specs.declared.expressions.Expr.{Expr}
use Rattle.xq_expressions.specs.declared.expressions.Expr.TheVariants as e
use Rattle.xq_expressions.specs.declared.expressions.ConstructorName.{ConstructorName}
use Rattle.xq_expressions.specs.declared.expressions.ConstructorName.TheVariants as constructor_name
use Rattle.xq_parser.specs.Look.{Tokens, lookup, same, same_symbol, word, begins_step}
use Rattle.xq_parser.specs.Rel.{Rel, OneOf, ◌&◌, ◌▹◌, ◌⟨$⟩◌}
use Rattle.xq_parser.specs.Grammar as g
use Rattle.xq_parser.specs.private.Reading.{Outcome, Parser, and_then, one_of, begins, found, is, expect, only, many, begins_nc, begins_name, begins_brace, begins_primary, begins_literal, begins_call, begins_make, makes, makers, name_makers, begins_flwor, begins_quantified, begins_if}
use Rattle.xq_parser.specs.private.Reading as r
use Rattle.xq_parser.proofs.Tokens.{every, every_found}
use Rattle.xq_parser.proofs.Moves.{AllMove, one}
use Rattle.xq_parser.proofs.LinesMove as m
use Rattle.xq_parser.proofs.Rank.{rank, rank_of, table_stops, is_word, begins_phrase, phrase_no_brace, phrase_no_parenthesis, phrase_no_close_brace, Plain, call_plain, name_called, prefixed_plain}
use Rattle.xq_parser.proofs.NameLines.{word_is, qname_reads, variable_line}
use Rattle.xq_parser.proofs.Complete.{Fits, Deeper, fits_after, deeper_after, Reads, Item, value_is, only_at, is_at, one_of_at, begins_at, item-▹, reads-chain, reads-map, reads-◃, reads-inside, reads-open}

-- ---- ranks of single tokens

pub comma_rank : rank_of (symbol s.Comma) ≡ 10
unfolding rank_of
comma_rank = refl

pub comma_stops : (us : Tokens) → rank us < 10 → is (symbol s.Comma) us ≡ false
unfolding rank_of
comma_stops us low = table_stops (only (symbol s.Comma)) 10 (omega arith) refl us low

pub bracket_rank : rank_of (symbol s.OpenBracket) ≡ 140
unfolding rank_of
bracket_rank = refl

pub bracket_stops : (us : Tokens) → rank us < 140 → is (symbol s.OpenBracket) us ≡ false
unfolding rank_of
bracket_stops us low = table_stops (only (symbol s.OpenBracket)) 140 (omega arith) refl us low

pub parenthesis_low : (us : Tokens) → rank (symbol s.CloseParenthesis ∷ us) < 10
unfolding rank rank_of
parenthesis_low us = omega arith

pub close_bracket_low : (us : Tokens) → rank (symbol s.CloseBracket ∷ us) < 10
unfolding rank rank_of
close_bracket_low us = omega arith

pub brace_low : (us : Tokens) → rank (symbol s.CloseBrace ∷ us) < 10
unfolding rank rank_of
brace_low us = omega arith

-- ---- what begins a constructor

abbrev pub Brace : Tokens → Type 0
Brace ts = (rest : Tokens) × (ts ≡ symbol s.OpenBrace ∷ rest)

brace_rank : (ts : Tokens) → Brace ts → rank ts < 201
unfolding rank rank_of
brace_rank ts b = rw b.1 (omega arith)

-- what begins a primary expression
pub record PrimaryBegins (ts : Tokens) : Type 0 where
  pub plain : Plain ts
  pub primary : begins_primary ts ≡ true
  pub step : begins_step ts ≡ true

pub record MakeBegins (ts : Tokens) : Type 0 where
  pub begun : PrimaryBegins ts
  pub no_call : begins_call ts ≡ false

make_begins : (n : List ℕ) (ts : Tokens) → makes n ts ≡ true → MakeBegins (name n ∷ ts)
unfolding begins_flwor begins_quantified begins_if begins_primary begins_literal begins_call begins_make
make_begins n [] h = absurd cc
make_begins n (name m ∷ ts) h = record { begun = record { plain = record { no_flwor = refl; no_quantified = refl; no_if = refl }; primary = h; step = refl }; no_call = refl }
make_begins n (prefixed p m ∷ ts) h = record { begun = record { plain = record { no_flwor = refl; no_quantified = refl; no_if = refl }; primary = h; step = refl }; no_call = refl }
make_begins n (int m ∷ ts) h = absurd cc
make_begins n (dec m ∷ ts) h = absurd cc
make_begins n (str m ∷ ts) h = absurd cc
make_begins n (symbol s.OpenBrace ∷ ts) h = record { begun = record { plain = record { no_flwor = refl; no_quantified = refl; no_if = refl }; primary = h; step = refl }; no_call = refl }
make_begins n (symbol _ ∷ ts) h = absurd cc

abbrev instruction_word : Lex
instruction_word = word "processing-instruction"

-- the words of constructors
abbrev pub named_word : Lex → Bool
named_word t = is_word t && (found (lookup name_makers t) && found (lookup makers t))

abbrev pub unnamed_word : Lex → Bool
unnamed_word t = is_word t && (found (lookup makers t) && (not (found (lookup g.named_nodes t)) && not (found (lookup (only (word "processing-instruction")) t))))

pub named_are_words : every named_word g.named_nodes ≡ true
unfolding lookup same
named_are_words = refl

pub unnamed_are_words : every unnamed_word g.unnamed_nodes ≡ true
unfolding lookup same
unnamed_are_words = refl

record Three (a b c : Bool) : Type 0 where
  pub one : a ≡ true
  pub two : b ≡ true
  pub three : c ≡ true

three : (a b c : Bool) → (a && (b && c)) ≡ true → Three a b c
three true true true h = record { one = refl; two = refl; three = refl }
three true true false h = absurd cc
three true false c h = absurd cc
three false b c h = absurd cc

not_true : (b c : Bool) → (not b && not c) ≡ true → (b ≡ false) × (c ≡ false)
not_true false false h = (refl, refl)
not_true false true h = absurd cc
not_true true c h = absurd cc

makes_name : (n m : List ℕ) (ts : Tokens) → Brace ts → found (lookup name_makers (name n)) ≡ true → makes n (name m ∷ ts) ≡ true
makes_name n m ts b h = rw b.1 h

makes_prefixed : (n p m : List ℕ) (ts : Tokens) → Brace ts → found (lookup g.named_nodes (name n)) ≡ true → makes n (prefixed p m ∷ ts) ≡ true
makes_prefixed n p m ts b h = rw b.1 h

makes_brace : (n : List ℕ) (ts : Tokens) → Brace ts → found (lookup makers (name n)) ≡ true → makes n ts ≡ true
makes_brace n ts b h = rw b.1 h

found_some : {A : Type 0} (o : Option A) (a : A) → o ≡ Some a → found o ≡ true
found_some o a h = rw h refl

instruction_words : (found (lookup name_makers (word "processing-instruction")) ≡ true) × (found (lookup makers (word "processing-instruction")) ≡ true)
unfolding lookup same
instruction_words = (refl, refl)

instruction_no_named : (ts : Tokens) → begins g.named_nodes (word "processing-instruction" ∷ ts) ≡ false
unfolding begins lookup same
instruction_no_named ts = refl

module _ (Single : Rel Expr) (single : Parser Expr) (d : ℕ) (single-moves : AllMove Single)
    (single-begins : (ts : Tokens) (a : Expr) (us : Tokens) → Single ts a us → begins_phrase ts ≡ true)
    (single-reads : (ts : Tokens) (a : Expr) (us : Tokens) → Single ts a us → rank us < 20 → Deeper d ts → single ts ≡ Some (a, us)) where
  abbrev pub Phrase : Tokens → Type 0
  Phrase ts = begins_phrase ts ≡ true

  pub single_line : Reads (Deeper d) Phrase 20 Single single
  single_line = record { reads = single-reads; starts = λ ts a us w low. single-begins ts a us w }

  -- items after a comma
  pub comma_item : {A : Type 0} (Start : Tokens → Type 0) (follow : ℕ) (P : Rel A) (p : Parser A) → 10 < follow → ((ts : Tokens) → Start ts → begins_brace ts ≡ false)
      → AllMove P → Reads (Deeper d) Start follow P p → Item (Deeper d) follow (symbol s.Comma ▹ P) (is (symbol s.Comma)) (r.after_comma p)
  unfolding r.after_comma
  comma_item Start follow P p low no_brace moves line =
      item-▹ (Deeper d) Start follow (symbol s.Comma) (is (symbol s.Comma)) P p (deeper_after d) refl (rw comma_rank low) refl (λ ts. is_at (symbol s.Comma) ts refl) no_brace moves line

  pub commas_line : {A : Type 0} (Start : Tokens → Type 0) (follow : ℕ) (P : Rel A) (p : Parser A) → 10 < follow → ((ts : Tokens) → Start ts → begins_brace ts ≡ false)
      → AllMove P → Reads (Deeper d) Start follow P p → Reads (Deeper d) Start 10 (g.Commas P) (r.commas p)
  unfolding r.commas
  commas_line Start follow P p low no_brace moves line =
      reads-chain (Deeper d) Start follow 10 g.listed P p (symbol s.Comma ▹ P) (is (symbol s.Comma)) (r.after_comma p) (deeper_after d) line moves
      (comma_item Start follow P p low no_brace moves line) (omega (arith, low)) comma_stops

  pub whole_line : Reads (Deeper d) Phrase 10 (g.Whole Single) (r.whole single)
  unfolding r.whole
  whole_line =
      reads-chain (Deeper d) Phrase 20 10 (g.several e.Sequence) Single single (symbol s.Comma ▹ Single) (is (symbol s.Comma)) (r.after_comma single) (deeper_after d) single_line single-moves
      (comma_item Phrase 20 Single single (omega arith) phrase_no_brace single-moves single_line) (omega arith) comma_stops

  -- ---- bodies and names of constructors

  body_line : (any : ℕ) → Reads (Fits d) Brace any (g.Body Single) (r.body single)
  unfolding r.body r.inside
  body_line any =
      reads-open d Brace (λ _. Unit {0}) any (symbol s.OpenBrace) _ _ refl (λ _ _ _. refl) (λ ts _. (ts, refl))
      (reads-inside (Deeper d) Phrase 10 any (e.Sequence []) _ _ (symbol s.CloseBrace) refl brace_low phrase_no_close_brace whole_line)

  computed_line : (any : ℕ) → Reads (Fits d) Brace any (g.Computed Single) (r.computed single)
  unfolding r.computed
  computed_line any =
      reads-map _ _ _ _ _ _ (reads-open d Brace Phrase any (symbol s.OpenBrace) _ _ refl (λ _ _ _. refl) (λ ts _. (ts, refl))
      (reads-◃ (Deeper d) Phrase 10 any _ _ (symbol s.CloseBrace) refl brace_low whole_line))

  name_of_node_reads : (ts : Tokens) (a : ConstructorName) (us : Tokens) → g.NameOfNode Single ts a us → Fits d ts → r.name_of_node single ts ≡ Some (a, us)
  unfolding r.name_of_node
  name_of_node_reads ts a us (inl w) f = let q = qname_reads ts w.0 us w.1 in rw (q.1, q.0) (value_is us w.2)
  name_of_node_reads ts a us (inr w) f =
      let line = computed_line (suc (rank us)) in
      let b = line.starts ts a us w (omega arith) in
      let no : begins_name ts ≡ false = rw b.1 refl in
      rw no (line.reads ts a us w (omega arith) f)

  name_of_instruction_reads : (ts : Tokens) (a : ConstructorName) (us : Tokens) → g.NameOfInstruction Single ts a us → Fits d ts → r.name_of_instruction single ts ≡ Some (a, us)
  unfolding r.name_of_instruction
  name_of_instruction_reads ts a us (inl w) f = let q = w.1 in rw q.1 (ap (λ x. Some (constructor_name.Literal x, us)) q.2 ∙ value_is us w.2)
  name_of_instruction_reads ts a us (inr w) f =
      let line = computed_line (suc (rank us)) in
      let b = line.starts ts a us w (omega arith) in
      let no : begins_nc ts ≡ false = rw b.1 refl in
      rw no (line.reads ts a us w (omega arith) f)

  record MakeRead (ts : Tokens) (a : Expr) (us : Tokens) : Type 0 where
    pub reads : Fits d ts → r.make single ts ≡ Some (a, us)
    pub word : List ℕ
    pub rest : Tokens
    pub at : ts ≡ name word ∷ rest
    pub made : makes word rest ≡ true

  -- a name before a body makes a constructor of the word before it
  named_makes : (n : List ℕ) (ts mid us : Tokens) (c : ConstructorName) → g.NameOfNode Single ts c mid → Brace mid → found (lookup g.named_nodes (name n)) ≡ true → found (lookup name_makers (name n)) ≡ true → found (lookup makers (name n)) ≡ true → makes n ts ≡ true
  named_makes n ts mid us c (inl w) b h k l = elim w.1 [
    | inl q ↦ rw q.1 (makes_name n q.0 mid b k)
    | inr q ↦ rw q.2 (makes_prefixed n q.0 q.1 mid b h)
  ]
  named_makes n ts mid us c (inr w) b h k l = let start = (computed_line (suc (rank mid))).starts ts c mid w (omega arith) in makes_brace n ts start l

  instruction_makes : (ts mid : Tokens) (c : ConstructorName) → g.NameOfInstruction Single ts c mid → Brace mid → makes (codes "processing-instruction") ts ≡ true
  instruction_makes ts mid c (inl w) b = rw w.1.1 (makes_name (codes "processing-instruction") w.1.0 mid b instruction_words.0)
  instruction_makes ts mid c (inr w) b = let start = (computed_line (suc (rank mid))).starts ts c mid w (omega arith) in makes_brace (codes "processing-instruction") ts start instruction_words.1

  make_named_reads : (ts : Tokens) (a : Expr) (us : Tokens) → (g.named_node ⟨$⟩ OneOf g.named_nodes & g.NameOfNode Single & g.Body Single) ts a us → MakeRead ts a us
  unfolding r.make r.make_named
  make_named_reads ts a us w =
      let op = w.1.1 in
      let named = w.1.2 in
      let body = body_line (suc (rank us)) in
      let brace = body.starts named.0 w.0.1.1 us named.2 (omega arith) in
      let facts = every_found named_word g.named_nodes op.0 w.0.0 named_are_words op.2 in
      let all = three (is_word op.0) (found (lookup name_makers op.0)) (found (lookup makers op.0)) facts in
      let n = word_is op.0 all.one in
      let one : one_of g.named_nodes (op.0 ∷ w.1.0) ≡ Some (w.0.0, w.1.0) = one_of_at g.named_nodes op.0 w.0.0 w.1.0 op.2 in
      record {
        reads = λ f.
            let after_word = fits_after d ts w.1.0 (m.named-nodes-move ts w.0.0 w.1.0 op) f in
            let after_name = fits_after d w.1.0 named.0 (m.name-of-node-moves Single single-moves w.1.0 w.0.1.0 named.0 named.1) after_word in
            rw (op.1, begins_at g.named_nodes op.0 w.0.0 w.1.0 op.2, one, name_of_node_reads w.1.0 w.0.1.0 named.0 named.1 after_word, body.reads named.0 w.0.1.1 us named.2 (omega arith) after_name) (value_is us w.2);
        word = n.0;
        rest = w.1.0;
        at = op.1 ∙ ap (λ (x : Lex). x ∷ w.1.0) n.1;
        made = named_makes n.0 w.1.0 named.0 us w.0.1.0 named.1 brace
            (subst (λ (x : Lex). found (lookup g.named_nodes x) ≡ true) n.1 (found_some (lookup g.named_nodes op.0) w.0.0 op.2))
            (subst (λ (x : Lex). found (lookup name_makers x) ≡ true) n.1 all.two)
            (subst (λ (x : Lex). found (lookup makers x) ≡ true) n.1 all.three);
      }

  make_instruction_reads : (ts : Tokens) (a : Expr) (us : Tokens) → (g.instruction ⟨$⟩ word "processing-instruction" ▹ g.NameOfInstruction Single & g.Body Single) ts a us → MakeRead ts a us
  unfolding r.make r.make_instruction
  make_instruction_reads ts a us w =
      let mid = w.1.0 in
      let named = w.1.2 in
      let body = body_line (suc (rank us)) in
      let brace = body.starts named.0 w.0.1 us named.2 (omega arith) in
      let first : expect (instruction_word) (instruction_word ∷ mid) ≡ Some (tt, mid) = only_at _ tt mid refl in
      record {
        reads = λ f.
            let after_word = fits_after d ts mid (one (instruction_word) ts mid refl w.1.1) f in
            let after_name = fits_after d mid named.0 (m.name-of-instruction-moves Single single-moves mid w.0.0 named.0 named.1) after_word in
            rw (w.1.1, instruction_no_named mid, is_at (instruction_word) mid refl, first, name_of_instruction_reads mid w.0.0 named.0 named.1 after_word, body.reads named.0 w.0.1 us named.2 (omega arith) after_name) (value_is us w.2);
        word = codes "processing-instruction";
        rest = mid;
        at = w.1.1;
        made = instruction_makes mid named.0 w.0.0 named.1 brace;
      }

  make_unnamed_reads : (ts : Tokens) (a : Expr) (us : Tokens) → (g.unnamed_node ⟨$⟩ OneOf g.unnamed_nodes & g.Body Single) ts a us → MakeRead ts a us
  unfolding r.make r.make_unnamed begins
  make_unnamed_reads ts a us w =
      let op = w.1.1 in
      let body = body_line (suc (rank us)) in
      let brace = body.starts w.1.0 w.0.1 us w.1.2 (omega arith) in
      let facts = every_found unnamed_word g.unnamed_nodes op.0 w.0.0 unnamed_are_words op.2 in
      let all = three (is_word op.0) (found (lookup makers op.0)) (not (found (lookup g.named_nodes op.0)) && not (found (lookup (only (instruction_word)) op.0))) facts in
      let other = not_true (found (lookup g.named_nodes op.0)) (found (lookup (only (instruction_word)) op.0)) all.three in
      let n = word_is op.0 all.one in
      let one : one_of g.unnamed_nodes (op.0 ∷ w.1.0) ≡ Some (w.0.0, w.1.0) = one_of_at g.unnamed_nodes op.0 w.0.0 w.1.0 op.2 in
      record {
        reads = λ f.
            let after_word = fits_after d ts w.1.0 (m.unnamed-nodes-move ts w.0.0 w.1.0 op) f in
            rw (op.1, other.0, other.1, one, body.reads w.1.0 w.0.1 us w.1.2 (omega arith) after_word) (value_is us w.2);
        word = n.0;
        rest = w.1.0;
        at = op.1 ∙ ap (λ (x : Lex). x ∷ w.1.0) n.1;
        made = makes_brace n.0 w.1.0 brace (subst (λ (x : Lex). found (lookup makers x) ≡ true) n.1 all.two);
      }

  make_reads : (ts : Tokens) (a : Expr) (us : Tokens) → g.Make Single ts a us → MakeRead ts a us
  make_reads ts a us (inl w) = make_named_reads ts a us w
  make_reads ts a us (inr (inl w)) = make_instruction_reads ts a us w
  make_reads ts a us (inr (inr w)) = make_unnamed_reads ts a us w

  -- ---- calls

  arguments_line : (any : ℕ) → Reads (Fits d) (λ ts. (rest : Tokens) × (ts ≡ symbol s.OpenParenthesis ∷ rest)) any (g.Arguments Single) (r.arguments single)
  unfolding r.arguments r.argument_list
  arguments_line any =
      reads-open d _ (λ _. Unit {0}) any (symbol s.OpenParenthesis) _ _ refl (λ _ _ _. refl) (λ ts _. (ts, refl))
      (reads-inside (Deeper d) Phrase 10 any [] _ _ (symbol s.CloseParenthesis) refl parenthesis_low phrase_no_parenthesis
      (commas_line Phrase 20 Single single (omega arith) phrase_no_brace single-moves single_line))

  record CallRead (ts : Tokens) (a : Expr) (us : Tokens) : Type 0 where
    pub reads : Fits d ts → r.call single ts ≡ Some (a, us)
    pub called : begins_call ts ≡ true
    pub begun : PrimaryBegins ts
    pub named : begins_name ts ≡ true

  call_name_reads : (ts : Tokens) (a : QName) (us rest : Tokens) → g.CallName ts a us → us ≡ symbol s.OpenParenthesis ∷ rest
      → (r.call_name ts ≡ Some (a, us)) × (begins_call ts ≡ true) × PrimaryBegins ts × (begins_name ts ≡ true)
  unfolding r.call_name begins_call begins_primary begins_literal begins_make
  call_name_reads ts a us rest (inl w) e =
      let n = w.0 in
      let no_calls = w.1.1 in
      let at : ts ≡ name n ∷ symbol s.OpenParenthesis ∷ rest = w.1.0 ∙ ap (λ (x : Tokens). name n ∷ x) e in
      let called = name_called n rest no_calls in
      (rw (w.1.0, no_calls) (value_is us w.2), rw at called.0, rw at (record { plain = call_plain n rest no_calls; primary = called.1; step = refl }), rw w.1.0 refl)
  call_name_reads ts a us rest (inr w) e =
      let at : ts ≡ prefixed w.0 w.1 ∷ symbol s.OpenParenthesis ∷ rest = w.2 ∙ ap (λ (x : Tokens). prefixed w.0 w.1 ∷ x) e in
      (rw w.2 (value_is us w.3), rw at refl, rw at (record { plain = prefixed_plain w.0 w.1 (symbol s.OpenParenthesis ∷ rest); primary = refl; step = refl }), rw w.2 refl)

  record CalledRead (ts : Tokens) (a : QName × List Expr) (us : Tokens) : Type 0 where
    pub reads : Fits d ts → r.called single ts ≡ Some (a, us)
    pub called : begins_call ts ≡ true
    pub begun : PrimaryBegins ts
    pub named : begins_name ts ≡ true

  called_reads : (ts : Tokens) (a : QName × List Expr) (us : Tokens) → g.Called Single ts a us → CalledRead ts a us
  unfolding r.called
  called_reads ts a us w =
      let line = arguments_line (suc (rank us)) in
      let paren = line.starts w.0 a.1 us w.2 (omega arith) in
      let n = call_name_reads ts a.0 w.0 paren.0 w.1 paren.1 in
      record { reads = λ f. (let inner = line.reads w.0 a.1 us w.2 (omega arith) (fits_after d ts w.0 (m.call-name-moves ts a.0 w.0 w.1) f) in rw (n.0, inner) refl); called = n.1; begun = n.2; named = n.3 }

  -- what stands after `=>`
  pub called_line : (any : ℕ) → Reads (Fits d) PrimaryBegins any (g.Called Single) (r.called single)
  called_line any = record {
    reads = λ ts a us w low f. (called_reads ts a us w).reads f;
    starts = λ ts a us w low. (called_reads ts a us w).begun;
  }

  call_reads : (ts : Tokens) (a : Expr) (us : Tokens) → g.Call Single ts a us → CallRead ts a us
  unfolding r.call
  call_reads ts a us w =
      let c = called_reads ts w.0 us w.1 in
      record { reads = λ f. rw (c.reads f) (value_is us w.2); called = c.called; begun = c.begun; named = c.named }

  -- ---- all primaries

  parenthesised_line : (any : ℕ) → Reads (Fits d) (λ ts. (rest : Tokens) × (ts ≡ symbol s.OpenParenthesis ∷ rest)) any (g.Parenthesised Single) (r.parenthesised single)
  unfolding r.parenthesised r.inside
  parenthesised_line any =
      reads-open d _ (λ _. Unit {0}) any (symbol s.OpenParenthesis) _ _ refl (λ _ _ _. refl) (λ ts _. (ts, refl))
      (reads-inside (Deeper d) Phrase 10 any (e.Sequence []) _ _ (symbol s.CloseParenthesis) refl parenthesis_low phrase_no_parenthesis whole_line)

  word_at : (ts : Tokens) → begins_name ts ≡ true → r.primary single ts ≡ r.call_or_make single ts
  unfolding r.primary begins lookup same
  word_at [] h = absurd cc
  word_at (name n ∷ ts) h = refl
  word_at (prefixed p n ∷ ts) h = refl
  word_at (int n ∷ ts) h = absurd cc
  word_at (dec n ∷ ts) h = absurd cc
  word_at (str n ∷ ts) h = absurd cc
  word_at (symbol n ∷ ts) h = absurd cc

  called_at : (ts : Tokens) → begins_call ts ≡ true → r.call_or_make single ts ≡ r.call single ts
  unfolding r.call_or_make
  called_at ts h = rw h refl

  made_at : (ts : Tokens) → begins_call ts ≡ false → r.call_or_make single ts ≡ r.make single ts
  unfolding r.call_or_make
  made_at ts h = rw h refl

  dollar_at : (ts : Tokens) → r.primary single (symbol s.Dollar ∷ ts) ≡ r.mapped e.Variable r.variable (symbol s.Dollar ∷ ts)
  unfolding r.primary begins lookup same same_symbol
  dollar_at ts = refl

  paren_at : (ts : Tokens) → r.primary single (symbol s.OpenParenthesis ∷ ts) ≡ r.parenthesised single (symbol s.OpenParenthesis ∷ ts)
  unfolding r.primary begins lookup same same_symbol
  paren_at ts = refl

  dot_at : (ts : Tokens) → r.primary single (symbol s.Dot ∷ ts) ≡ Some (e.ContextItem, ts)
  unfolding r.primary one_of begins lookup same same_symbol
  dot_at ts = refl

  int_at : (i : _) (ts : Tokens) → r.primary single (int i ∷ ts) ≡ Some (e.Int i, ts)
  unfolding r.primary
  int_at i ts = refl

  dec_at : (i : _) (ts : Tokens) → r.primary single (dec i ∷ ts) ≡ Some (e.Dec i, ts)
  unfolding r.primary
  dec_at i ts = refl

  str_at : (i : _) (ts : Tokens) → r.primary single (str i ∷ ts) ≡ Some (e.Str i, ts)
  unfolding r.primary
  str_at i ts = refl

  -- what the first token alone tells
  literal_begins : (t : Lex) (ts : Tokens) → is_word t ≡ false → begins_literal (t ∷ ts) ≡ true → begins_step (t ∷ ts) ≡ true → PrimaryBegins (t ∷ ts)
  unfolding begins_flwor begins_quantified begins_if begins_primary
  literal_begins (name n) ts h k l = absurd cc
  literal_begins (prefixed p n) ts h k l = record { plain = record { no_flwor = refl; no_quantified = refl; no_if = refl }; primary = rw k refl; step = l }
  literal_begins (int n) ts h k l = record { plain = record { no_flwor = refl; no_quantified = refl; no_if = refl }; primary = rw k refl; step = l }
  literal_begins (dec n) ts h k l = record { plain = record { no_flwor = refl; no_quantified = refl; no_if = refl }; primary = rw k refl; step = l }
  literal_begins (str n) ts h k l = record { plain = record { no_flwor = refl; no_quantified = refl; no_if = refl }; primary = rw k refl; step = l }
  literal_begins (symbol n) ts h k l = record { plain = record { no_flwor = refl; no_quantified = refl; no_if = refl }; primary = rw k refl; step = l }

  pub record PrimaryRead (ts : Tokens) (a : Expr) (us : Tokens) : Type 0 where
    pub reads : Fits d ts → r.primary single ts ≡ Some (a, us)
    pub begun : PrimaryBegins ts

  pub primary_reads : (ts : Tokens) (a : Expr) (us : Tokens) → g.Primary Single ts a us → PrimaryRead ts a us
  unfolding begins_literal
  primary_reads ts a us (inl w) = rw w.1 (record { reads = λ f. int_at w.0 us ∙ value_is us w.2; begun = literal_begins (int w.0) us refl refl refl })
  primary_reads ts a us (inr (inl w)) = rw w.1 (record { reads = λ f. dec_at w.0 us ∙ value_is us w.2; begun = literal_begins (dec w.0) us refl refl refl })
  primary_reads ts a us (inr (inr (inl w))) = rw w.1 (record { reads = λ f. str_at w.0 us ∙ value_is us w.2; begun = literal_begins (str w.0) us refl refl refl })
  primary_reads ts a us (inr (inr (inr (inl w)))) =
      let line = variable_line (Fits d) (suc (rank us)) in
      let dollar = line.starts ts w.0 us w.1 (omega arith) in
      let read : Fits d ts → r.mapped e.Variable r.variable ts ≡ Some (a, us) = λ f. rw (line.reads ts w.0 us w.1 (omega arith) f) (value_is us w.2) in
      record {
        reads = λ f. subst (λ (x : Tokens). r.primary single x ≡ r.mapped e.Variable r.variable x) (sym dollar.1) (dollar_at dollar.0) ∙ read f;
        begun = rw dollar.1 (literal_begins (symbol s.Dollar) dollar.0 refl refl refl);
      }
  primary_reads ts a us (inr (inr (inr (inr (inl w))))) =
      let line = parenthesised_line (suc (rank us)) in
      let paren = line.starts ts a us w (omega arith) in
      record {
        reads = λ f. subst (λ (x : Tokens). r.primary single x ≡ r.parenthesised single x) (sym paren.1) (paren_at paren.0) ∙ line.reads ts a us w (omega arith) f;
        begun = rw paren.1 (literal_begins (symbol s.OpenParenthesis) paren.0 refl refl refl);
      }
  primary_reads ts a us (inr (inr (inr (inr (inr (inl w)))))) = rw w.0 (record { reads = λ f. dot_at us ∙ value_is us w.1; begun = literal_begins (symbol s.Dot) us refl refl refl })
  primary_reads ts a us (inr (inr (inr (inr (inr (inr (inl w))))))) =
      let c = call_reads ts a us w in
      record { reads = λ f. word_at ts c.named ∙ called_at ts c.called ∙ c.reads f; begun = c.begun }
  primary_reads ts a us (inr (inr (inr (inr (inr (inr (inr w))))))) =
      let c = make_reads ts a us w in
      let b = make_begins c.word c.rest c.made in
      record { reads = λ f. word_at ts (rw c.at refl) ∙ made_at ts (rw c.at b.no_call) ∙ c.reads f; begun = rw c.at b.begun }
