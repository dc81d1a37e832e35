-- Conditions, quantified expressions and clauses that are derived are read.
use Rattle.std.proofs.Common.{◌≡◌, ℕ, suc, ◌<◌, Bool, true, false, List, [], ◌∷◌, length, Option, Some, None, refl, sym, ap, subst, ◌∙◌, arith, inl, inr}
use Rattle.std.specs.Prelude.{codes, not, ◌||◌, ◌&&◌}
use Rattle.std.specs.Str.{bytes_eq}
use Rattle.xq_lexer.specs.Lexeme.{Lex, name, prefixed, int, dec, str, symbol}
use Rattle.xq_lexer.specs.Nesting.{is_binder}
use Rattle.xq_lexer.specs.declared.tokens.Symbol.TheVariants as s
use Rattle.xq_expressions.specs.declared.names.QName.{QName}
use Rattle.xq_expressions.specs.declared.operators.Direction.{Direction}
use Rattle.xq_expressions.specs.declared.operators.AllowingEmpty.{AllowingEmpty}
use Rattle.xq_expressions.specs.declared.operators.AllowingEmpty.TheVariants as allowing
use Rattle.xq_expressions.specs.declared.operators.EmptyOrder.{EmptyOrder}
use Rattle.xq_expressions.specs.declared.expressions.Expr.{Expr}
use Rattle.xq_expressions.specs.declared.expressions.Clause.{Clause}
use Rattle.xq_parser.specs.Look.{Tokens, lookup, same, word}
use Rattle.xq_parser.specs.Rel.{Rel, ◌&◌, ◌▹◌, ◌∣◌, Maybe}
use Rattle.xq_parser.specs.Grammar as g
use Rattle.xq_parser.specs.private.Reading.{Outcome, Parser, and_then, one_of, begins, found, is, expect, only, many, begins_brace, clause_words, begins_flwor, begins_quantified, begins_if}
use Rattle.xq_parser.specs.private.Reading as r
use Rattle.xq_parser.proofs.Tokens.{every, every_found}
use Rattle.xq_parser.proofs.Moves.{AllMove, Deepens, one, token, plain, is_plain, move-many, move-maybe, move-▹}
use Rattle.xq_parser.proofs.LinesMove as m
use Rattle.xq_parser.proofs.Rank.{rank, rank_of, has_rank, rank-plain, table_rank, table_stops, is_word, begins_phrase, phrase_no_brace}
use Rattle.xq_parser.proofs.NameLines.{Dollar, variable_line, variable_reads}
use Rattle.xq_parser.proofs.PrimaryLines as p
use Rattle.xq_parser.proofs.PrimaryLines.{parenthesis_low}
use Rattle.xq_parser.proofs.OperatorLines as o
use Rattle.xq_parser.proofs.Complete.{is_fixed, Fits, Deeper, deeper_after, deeper_fits, enter_word, Reads, Item, value_is, only_at, is_at, one_of_at, begins_at, item-▹, reads-maybe, reads-map, reads-&, reads-▹, reads-◃, reads-open, reads_to, follows}

-- ---- words

-- a word that no brace follows
pub record Word (n : List ℕ) (ts : Tokens) : Type 0 where
  pub rest : Tokens
  pub at : ts ≡ name n ∷ rest
  pub no_brace : begins_brace rest ≡ false

word_low : (n : List ℕ) (ts : Tokens) (low : ℕ) → rank_of (name n) ≡ 0 → 0 < low → Word n ts → rank ts < low
word_low n ts low none positive w = let e : rank (name n ∷ w.rest) ≡ 0 = rank-plain (name n) w.rest w.no_brace ∙ none in rw w.at (omega (arith, e, positive))

dollar_no_brace : (ts : Tokens) → Dollar ts → begins_brace ts ≡ false
dollar_no_brace ts b = rw b.1 refl

-- `for` and `let` before `$`, `some` and `every` too
for_deepens : (ts : Tokens) → Dollar ts → Deepens (word "for") ts
for_deepens ts b k saved = rw b.1 refl

let_deepens : (ts : Tokens) → Dollar ts → Deepens (word "let") ts
let_deepens ts b k saved = rw b.1 refl

abbrev binds : Lex → Bool
binds (name n) = is_binder n && (found (lookup g.quantifiers (name n)) && not (bytes_eq n (codes "for") || bytes_eq n (codes "let")))
binds _ = false

quantifiers_bind : every binds g.quantifiers ≡ true
unfolding lookup same
quantifiers_bind = refl

-- ---- ranks

low_no_brace : (ts : Tokens) → rank ts < 200 → begins_brace ts ≡ false
unfolding rank rank_of
low_no_brace [] low = refl
low_no_brace (name n ∷ ts) low = refl
low_no_brace (prefixed p n ∷ ts) low = refl
low_no_brace (int n ∷ ts) low = refl
low_no_brace (dec n ∷ ts) low = refl
low_no_brace (str n ∷ ts) low = refl
low_no_brace (symbol s.OpenBrace ∷ ts) low = absurd (omega (arith, low))
low_no_brace (symbol _ ∷ ts) low = refl

assign_rank : rank_of (symbol s.Assign) ≡ 12
unfolding rank_of
assign_rank = refl

assign_stops : (us : Tokens) → rank us < 12 → is (symbol s.Assign) us ≡ false
unfolding rank_of
assign_stops us low = table_stops (only (symbol s.Assign)) 12 (omega arith) refl us low

empty_rank : (rank_of (word "empty") ≡ 14) × (every (has_rank 14) (only (word "empty")) ≡ true)
unfolding rank_of lookup same
empty_rank = (refl, refl)

directions_rank : every (has_rank 16) g.directions ≡ true
unfolding rank_of lookup same
directions_rank = refl

orders_are_words : every is_word g.empty_orders ≡ true
orders_are_words = refl

word_no_brace : (t : Lex) (ts : Tokens) → is_word t ≡ true → begins_brace (t ∷ ts) ≡ false
word_no_brace (name n) ts h = refl
word_no_brace (prefixed p n) ts h = refl
word_no_brace (int n) ts h = refl
word_no_brace (dec n) ts h = refl
word_no_brace (str n) ts h = refl
word_no_brace (symbol n) ts h = absurd cc

-- ---- the words after a key of an order

module _ (Single : Rel Expr) where
  empty_words_reads : (ts : Tokens) (a : EmptyOrder) (us : Tokens) → g.EmptyWords Single ts a us → rank us < 14 → r.empty_words ts ≡ Some (a, us)
  unfolding r.empty_words
  empty_words_reads ts a us (inl w) low =
      let first : expect (word "empty") (word "empty" ∷ w.0) ≡ Some (tt, w.0) = only_at _ tt w.0 refl in
      rw (w.1, is_at (word "empty") w.0 refl, first, w.2.1) (one_of_at g.empty_orders w.2.0 a us w.2.2)
  empty_words_reads ts a us (inr w) low = rw (w.0, table_stops (only (word "empty")) 14 (omega arith) empty_rank.1 us low) (value_is us w.1)

  empty_words_start : (ts : Tokens) (a : EmptyOrder) (us : Tokens) → g.EmptyWords Single ts a us → rank us < 14 → rank ts < 16
  empty_words_start ts a us (inl w) low =
      let e : rank (word "empty" ∷ w.0) ≡ 14 = rank-plain (word "empty") w.0 (rw w.2.1 (word_no_brace w.2.0 us (every_found is_word g.empty_orders w.2.0 a orders_are_words w.2.2))) ∙ empty_rank.0 in
      rw w.1 (omega (arith, e))
  empty_words_start ts a us (inr w) low = rw w.0 (omega (arith, low))

  direction_reads : (ts : Tokens) (a : Direction) (us : Tokens) → g.DirectionWord Single ts a us → rank us < 16 → r.direction_word ts ≡ Some (a, us)
  unfolding r.direction_word
  direction_reads ts a us (inl w) low = rw (w.1, begins_at g.directions w.0 a us w.2) (one_of_at g.directions w.0 a us w.2)
  direction_reads ts a us (inr w) low = rw (w.0, table_stops g.directions 16 (omega arith) directions_rank us low) (value_is us w.1)

  direction_start : (ts : Tokens) (a : Direction) (us : Tokens) → g.DirectionWord Single ts a us → rank us < 16 → rank ts < 20
  direction_start ts a us (inl w) low =
      let e : rank (w.0 ∷ us) ≡ 16 = table_rank g.directions 16 directions_rank w.0 us a w.2 (low_no_brace us (omega (arith, low))) in
      rw w.1 (omega (arith, e))
  direction_start ts a us (inr w) low = rw w.0 (omega (arith, low))

module _ (Single : Rel Expr) (single : Parser Expr) (d : ℕ) (single-moves : AllMove Single)
    (single-begins : (ts : Tokens) (a : Expr) (us : Tokens) → Single ts a us → begins_phrase ts ≡ true)
    (single-reads : (ts : Tokens) (a : Expr) (us : Tokens) → Single ts a us → rank us < 20 → Deeper d ts → single ts ≡ Some (a, us)) where
  abbrev Phrase : Tokens → Type 0
  Phrase ts = begins_phrase ts ≡ true

  -- a word or symbol before a single
  governed_reads : (t : Lex) → is_fixed t ≡ true → is_plain t ≡ true → (ts : Tokens) (a : Expr) (us : Tokens) → (t ▹ Single) ts a us → rank us < 20 → Deeper d ts → r.governed single t ts ≡ Some (a, us)
  unfolding r.governed
  governed_reads t known all ts a us w low good =
      let first : expect t (t ∷ w.0) ≡ Some (tt, w.0) = only_at t tt w.0 known in
      rw (w.1, first) (single-reads w.0 a us w.2 low (deeper_after d ts w.0 (one t ts w.0 all w.1) good))

  governed_word : (n : List ℕ) (ts : Tokens) (a : Expr) (us : Tokens) → (name n ▹ Single) ts a us → Word n ts
  governed_word n ts a us w = record { rest = w.0; at = w.1; no_brace = phrase_no_brace w.0 (single-begins w.0 a us w.2) }

  -- ---- bindings

  after_variable : (ts : Tokens) (a : QName) (us : Tokens) → g.Variable ts a us → Deeper d ts → Deeper d us
  after_variable ts a us w good = deeper_after d ts us (m.variable-moves ts a us w) good

  -- `$` name `in` single
  quantifier_binding_line : Reads (Deeper d) Dollar 20 (g.QB Single) (r.quantifier_binding single)
  unfolding r.quantifier_binding
  quantifier_binding_line = record {
    reads = λ ts a us w low good.
        rw (variable_reads ts a.0 w.0 w.1, governed_reads (word "in") refl refl w.0 a.1 us w.2 low (after_variable ts a.0 w.0 w.1 good)) refl;
    starts = λ ts a us w low. (w.1.0, w.1.1);
  }

  let_binding_line : Reads (Deeper d) Dollar 20 (g.LetB Single) (r.let_binding single)
  unfolding r.let_binding
  let_binding_line = record {
    reads = λ ts a us w low good.
        rw (variable_reads ts a.0 w.0 w.1, governed_reads (symbol s.Assign) refl refl w.0 a.1 us w.2 low (after_variable ts a.0 w.0 w.1 good)) refl;
    starts = λ ts a us w low. (w.1.0, w.1.1);
  }

  no_position : (ts rest : Tokens) → ts ≡ word "in" ∷ rest → is (word "at") ts ≡ false
  unfolding begins lookup same
  no_position ts rest e = rw e refl

  position_reads : (ts : Tokens) (a : Option QName) (us rest : Tokens) → Maybe (word "at" ▹ g.Variable) ts a us → us ≡ word "in" ∷ rest → r.position ts ≡ Some (a, us)
  unfolding r.position
  position_reads ts None us rest w e = rw (w, no_position us rest e) refl
  position_reads ts (Some v) us rest w e =
      let first : expect (word "at") (word "at" ∷ w.0) ≡ Some (tt, w.0) = only_at _ tt w.0 refl in
      rw (w.1, is_at (word "at") w.0 refl, first, variable_reads w.0 v us w.2) refl

  position_moves : AllMove (Maybe (word "at" ▹ g.Variable))
  position_moves = move-maybe _ (move-▹ _ _ refl m.variable-moves)

  allowing_reads : (ts : Tokens) (a : AllowingEmpty) (us : Tokens) → g.AllowingWords Single ts a us → is (word "allowing") us ≡ false → r.allowing_words ts ≡ Some (a, us)
  unfolding r.allowing_words
  allowing_reads ts a us (inl w) free =
      let first : expect (word "allowing") (word "allowing" ∷ w.0) ≡ Some (tt, w.0) = only_at _ tt w.0 refl in
      let second : one_of ((word "empty", allowing.Yes) ∷ []) (word "empty" ∷ us) ≡ Some (allowing.Yes, us) = only_at _ allowing.Yes us refl in
      rw (w.1, is_at (word "allowing") w.0 refl, first, w.2.0, second) (value_is us w.2.1)
  allowing_reads ts a us (inr w) free = rw (w.0, free) (value_is us w.1)

  no_allowing : (ts : Tokens) (a : Option QName) (us rest : Tokens) → Maybe (word "at" ▹ g.Variable) ts a us → us ≡ word "in" ∷ rest → is (word "allowing") ts ≡ false
  unfolding begins lookup same
  no_allowing ts None us rest w e = rw (w, e) refl
  no_allowing ts (Some v) us rest w e = rw w.1 refl

  for_binding_line : Reads (Deeper d) Dollar 20 (g.ForB Single) (r.for_binding single)
  unfolding r.for_binding
  for_binding_line = record {
    reads = λ ts a us w low good.
        let v = w.1 in
        let al = v.2 in
        let at = al.2 in
        let after_v = after_variable ts w.0.0 v.0 v.1 good in
        let after_al = deeper_after d v.0 al.0 (m.allowing-moves Single single-moves v.0 w.0.1.0 al.0 al.1) after_v in
        let after_at = deeper_after d al.0 at.0 (position_moves al.0 w.0.1.1.0 at.0 at.1) after_al in
        let free = no_allowing al.0 w.0.1.1.0 at.0 at.2.0 at.1 at.2.1 in
        rw (variable_reads ts w.0.0 v.0 v.1, allowing_reads v.0 w.0.1.0 al.0 al.1 free, position_reads al.0 w.0.1.1.0 at.0 at.2.0 at.1 at.2.1, governed_reads (word "in") refl refl at.0 w.0.1.1.1 us at.2 low after_at) (value_is us w.2);
    starts = λ ts a us w low. (w.1.1.0, w.1.1.1);
  }

  assigned_item : Item (Deeper d) 20 (symbol s.Assign ▹ Single) (is (symbol s.Assign)) (r.governed single (symbol s.Assign))
  unfolding r.governed
  assigned_item = item-▹ (Deeper d) Phrase 20 (symbol s.Assign) (is (symbol s.Assign)) Single single (deeper_after d) refl (rw assign_rank (omega arith)) refl (λ ts. is_at (symbol s.Assign) ts refl) phrase_no_brace single-moves (p.single_line Single single d single-moves single-begins single-reads)

  group_spec_line : Reads (Deeper d) Dollar 12 (g.GroupS Single) (r.group_spec single)
  unfolding r.group_spec
  group_spec_line =
      reads-map _ _ _ _ _ _ (reads-& (Deeper d) (Deeper d) Dollar (λ ts. rank ts < 20) 20 12 g.Variable (Maybe (symbol s.Assign ▹ Single)) r.variable _ (variable_line (Deeper d) 20)
      (reads-maybe (Deeper d) (deeper_after d) 20 12 (symbol s.Assign ▹ Single) (is (symbol s.Assign)) (r.governed single (symbol s.Assign)) assigned_item (omega arith) assign_stops)
      after_variable (λ ts low. low))

  order_spec_line : Reads (Deeper d) Phrase 14 (g.OrderS Single) (r.order_spec single)
  unfolding r.order_spec
  order_spec_line = record {
    reads = λ ts a us w low good.
        let words = w.1.2 in
        let low_mid = empty_words_start Single words.0 w.0.1.1 us words.2 low in
        let low_first = direction_start Single w.1.0 w.0.1.0 words.0 words.1 low_mid in
        rw (single-reads ts w.0.0 w.1.0 w.1.1 low_first good, direction_reads Single w.1.0 w.0.1.0 words.0 words.1 low_mid, empty_words_reads Single words.0 w.0.1.1 us words.2 low) (value_is us w.2);
    starts = λ ts a us w low. single-begins ts w.0.0 w.1.0 w.1.1;
  }

  -- ---- clauses

  pub for_list : Reads (Deeper d) Dollar 10 (g.Commas (g.ForB Single)) (r.commas (r.for_binding single))
  for_list = p.commas_line Single single d single-moves single-begins single-reads Dollar 20 (g.ForB Single) (r.for_binding single) (omega arith) dollar_no_brace (m.for-binding-moves Single single-moves) for_binding_line

  pub let_list : Reads (Deeper d) Dollar 10 (g.Commas (g.LetB Single)) (r.commas (r.let_binding single))
  let_list = p.commas_line Single single d single-moves single-begins single-reads Dollar 20 (g.LetB Single) (r.let_binding single) (omega arith) dollar_no_brace (m.let-binding-moves Single single-moves) let_binding_line

  quantifier_list : Reads (Deeper d) Dollar 10 (g.Commas (g.QB Single)) (r.commas (r.quantifier_binding single))
  quantifier_list = p.commas_line Single single d single-moves single-begins single-reads Dollar 20 (g.QB Single) (r.quantifier_binding single) (omega arith) dollar_no_brace (m.quantifier-binding-moves Single single-moves) quantifier_binding_line

  group_list : Reads (Deeper d) Dollar 10 (g.Commas (g.GroupS Single)) (r.commas (r.group_spec single))
  group_list = p.commas_line Single single d single-moves single-begins single-reads Dollar 12 (g.GroupS Single) (r.group_spec single) (omega arith) dollar_no_brace (m.group-spec-moves Single single-moves) group_spec_line

  order_list : Reads (Deeper d) Phrase 10 (g.Commas (g.OrderS Single)) (r.commas (r.order_spec single))
  order_list = p.commas_line Single single d single-moves single-begins single-reads Phrase 14 (g.OrderS Single) (r.order_spec single) (omega arith) phrase_no_brace (m.order-spec-moves Single single-moves) order_spec_line

  -- a word, after which the tokens are good as they were
  pass_word : (n : List ℕ) (ts : Tokens) → Deeper d (name n ∷ ts) → Deeper d ts
  pass_word n ts good = deeper_after d (name n ∷ ts) ts (token (name n) ts (plain (name n) refl)) good

  for_line : Reads (Deeper d) (Word (codes "for")) 10 (g.For Single) (r.for_clause single)
  unfolding r.for_clause
  for_line =
      reads-map _ _ _ _ _ _ (reads-▹ (Deeper d) (Deeper d) (Word (codes "for")) Dollar 10 (word "for") _ _ refl for_list (λ ts st good. pass_word (codes "for") ts good)
      (λ ts b. record { rest = ts; at = refl; no_brace = dollar_no_brace ts b }))

  let_line : Reads (Deeper d) (Word (codes "let")) 10 (g.Let Single) (r.let_clause single)
  unfolding r.let_clause
  let_line =
      reads-map _ _ _ _ _ _ (reads-▹ (Deeper d) (Deeper d) (Word (codes "let")) Dollar 10 (word "let") _ _ refl let_list (λ ts st good. pass_word (codes "let") ts good)
      (λ ts b. record { rest = ts; at = refl; no_brace = dollar_no_brace ts b }))

  filter_line : Reads (Deeper d) (Word (codes "where")) 10 (g.Filter Single) (r.filter_clause single)
  unfolding r.filter_clause
  filter_line = record {
    reads = λ ts a us w low good. rw (governed_reads (word "where") refl refl ts w.0 us w.1 (omega (arith, low)) good) (value_is us w.2);
    starts = λ ts a us w low. governed_word (codes "where") ts w.0 us w.1;
  }

  -- two words before a list
  two_words : {A : Type 0} (n k : List ℕ) (Start : Tokens → Type 0) (P : Rel A) (q : Parser A) → Reads (Deeper d) Start 10 P q → ((ts : Tokens) → Start ts → begins_brace ts ≡ false)
      → Reads (Deeper d) (Word n) 10 (name n ▹ name k ▹ P) (r.after (name n) (r.after (name k) q))
  two_words n k Start P q line no_brace =
      reads-▹ (Deeper d) (Deeper d) (Word n) (Word k) 10 (name n) _ _ refl
      (reads-▹ (Deeper d) (Deeper d) (Word k) Start 10 (name k) P q refl line (λ ts st good. pass_word k ts good) (λ ts b. record { rest = ts; at = refl; no_brace = no_brace ts b }))
      (λ ts st good. pass_word n ts good) (λ ts b. record { rest = ts; at = refl; no_brace = rw b.at refl })

  group_line : Reads (Deeper d) (Word (codes "group")) 10 (g.Group Single) (r.group_clause single)
  unfolding r.group_clause
  group_line = reads-map _ _ _ _ _ _ (two_words (codes "group") (codes "by") Dollar _ _ group_list dollar_no_brace)

  order_by_line : Reads (Deeper d) (Word (codes "order")) 10 (g.OrderBy Single) (r.order_by single)
  unfolding r.order_by
  order_by_line = reads-map _ _ _ _ _ _ (two_words (codes "order") (codes "by") Phrase _ _ order_list phrase_no_brace)

  stable_line : Reads (Deeper d) (Word (codes "stable")) 10 (word "stable" ▹ g.OrderBy Single) (r.after (word "stable") (r.order_by single))
  stable_line =
      reads-▹ (Deeper d) (Deeper d) (Word (codes "stable")) (Word (codes "order")) 10 (word "stable") _ _ refl order_by_line (λ ts st good. pass_word (codes "stable") ts good)
      (λ ts b. record { rest = ts; at = refl; no_brace = rw b.at refl })

  count_line : Reads (Deeper d) (Word (codes "count")) 10 (g.Count Single) (r.count_clause single)
  unfolding r.count_clause
  count_line =
      reads-map _ _ _ _ _ _ (reads-▹ (Deeper d) (Deeper d) (Word (codes "count")) Dollar 10 (word "count") _ _ refl (variable_line (Deeper d) 10) (λ ts st good. pass_word (codes "count") ts good)
      (λ ts b. record { rest = ts; at = refl; no_brace = dollar_no_brace ts b }))

  -- ---- which clause

  record Facts (n : List ℕ) : Type 0 where
    pub low : rank_of (name n) ≡ 0
    pub known : (rest : Tokens) → begins clause_words (name n ∷ rest) ≡ true

  record ClauseRead (ts : Tokens) (a : Clause) (us : Tokens) : Type 0 where
    pub reads : Deeper d ts → r.clause_ single ts ≡ Some (a, us)
    pub low : rank ts < 10
    pub tests : begins clause_words ts ≡ true

  by_word : (n : List ℕ) (P : Rel Clause) (q : Parser Clause) → Facts n → ((rest : Tokens) → r.clause_ single (name n ∷ rest) ≡ q (name n ∷ rest)) → Reads (Deeper d) (Word n) 10 P q
      → (ts : Tokens) (a : Clause) (us : Tokens) → P ts a us → rank us < 10 → ClauseRead ts a us
  by_word n P q facts at line ts a us w low =
      let start = line.starts ts a us w low in
      record {
        reads = λ good. subst (λ (x : Tokens). r.clause_ single x ≡ q x) (sym start.at) (at start.rest) ∙ line.reads ts a us w low good;
        low = word_low n ts 10 facts.low (omega arith) start;
        tests = rw start.at (facts.known start.rest);
      }

  for_facts : Facts (codes "for") × ((rest : Tokens) → r.clause_ single (word "for" ∷ rest) ≡ r.for_clause single (word "for" ∷ rest))
  unfolding r.clause_ rank_of begins lookup same
  for_facts = (record { low = refl; known = λ rest. refl }, λ rest. refl)

  let_facts : Facts (codes "let") × ((rest : Tokens) → r.clause_ single (word "let" ∷ rest) ≡ r.let_clause single (word "let" ∷ rest))
  unfolding r.clause_ rank_of begins lookup same
  let_facts = (record { low = refl; known = λ rest. refl }, λ rest. refl)

  where_facts : Facts (codes "where") × ((rest : Tokens) → r.clause_ single (word "where" ∷ rest) ≡ r.filter_clause single (word "where" ∷ rest))
  unfolding r.clause_ r.later_clause rank_of begins lookup same
  where_facts = (record { low = refl; known = λ rest. refl }, λ rest. refl)

  group_facts : Facts (codes "group") × ((rest : Tokens) → r.clause_ single (word "group" ∷ rest) ≡ r.group_clause single (word "group" ∷ rest))
  unfolding r.clause_ r.later_clause rank_of begins lookup same
  group_facts = (record { low = refl; known = λ rest. refl }, λ rest. refl)

  count_facts : Facts (codes "count") × ((rest : Tokens) → r.clause_ single (word "count" ∷ rest) ≡ r.count_clause single (word "count" ∷ rest))
  unfolding r.clause_ r.later_clause rank_of begins lookup same
  count_facts = (record { low = refl; known = λ rest. refl }, λ rest. refl)

  stable_facts : Facts (codes "stable") × ((rest : Tokens) → r.clause_ single (word "stable" ∷ rest) ≡ r.after (word "stable") (r.order_by single) (word "stable" ∷ rest))
  unfolding r.clause_ r.later_clause r.order_clause rank_of begins lookup same
  stable_facts = (record { low = refl; known = λ rest. refl }, λ rest. refl)

  order_facts : Facts (codes "order") × ((rest : Tokens) → r.clause_ single (word "order" ∷ rest) ≡ r.order_by single (word "order" ∷ rest))
  unfolding r.clause_ r.later_clause r.order_clause rank_of begins lookup same
  order_facts = (record { low = refl; known = λ rest. refl }, λ rest. refl)

  clause_reads : (ts : Tokens) (a : Clause) (us : Tokens) → g.ClauseRel Single ts a us → rank us < 10 → ClauseRead ts a us
  clause_reads ts a us (inl w) low = by_word (codes "for") (g.For Single) (r.for_clause single) for_facts.0 for_facts.1 for_line ts a us w low
  clause_reads ts a us (inr (inl w)) low = by_word (codes "let") (g.Let Single) (r.let_clause single) let_facts.0 let_facts.1 let_line ts a us w low
  clause_reads ts a us (inr (inr (inl w))) low = by_word (codes "where") (g.Filter Single) (r.filter_clause single) where_facts.0 where_facts.1 filter_line ts a us w low
  clause_reads ts a us (inr (inr (inr (inl w)))) low = by_word (codes "group") (g.Group Single) (r.group_clause single) group_facts.0 group_facts.1 group_line ts a us w low
  clause_reads ts a us (inr (inr (inr (inr (inl w))))) low = by_word (codes "count") (g.Count Single) (r.count_clause single) count_facts.0 count_facts.1 count_line ts a us w low
  clause_reads ts a us (inr (inr (inr (inr (inr (inl w)))))) low =
      by_word (codes "stable") (word "stable" ▹ g.OrderBy Single) (r.after (word "stable") (r.order_by single)) stable_facts.0 stable_facts.1 stable_line ts a us w low
  clause_reads ts a us (inr (inr (inr (inr (inr (inr w)))))) low = by_word (codes "order") (g.OrderBy Single) (r.order_by single) order_facts.0 order_facts.1 order_by_line ts a us w low

  -- each clause takes a token
  shorter-▹ : {A : Type 0} (t : Lex) (P : Rel A) → AllMove P → (ts : Tokens) (a : A) (us : Tokens) → (t ▹ P) ts a us → length us < length ts
  shorter-▹ t P moves ts a us w = let len = (moves w.0 a us w.2).shorter in rw w.1 (omega (arith, len))

  by_moves : AllMove (word "by" ▹ g.Commas (g.GroupS Single))
  by_moves = move-▹ _ _ refl (m.commas-move _ (m.group-spec-moves Single single-moves))

  by_order_moves : AllMove (word "by" ▹ g.Commas (g.OrderS Single))
  by_order_moves = move-▹ _ _ refl (m.commas-move _ (m.order-spec-moves Single single-moves))

  clause_shorter : (ts : Tokens) (a : Clause) (us : Tokens) → g.ClauseRel Single ts a us → length us < length ts
  clause_shorter ts a us (inl w) = shorter-▹ (word "for") _ (m.commas-move _ (m.for-binding-moves Single single-moves)) ts w.0 us w.1
  clause_shorter ts a us (inr (inl w)) = shorter-▹ (word "let") _ (m.commas-move _ (m.let-binding-moves Single single-moves)) ts w.0 us w.1
  clause_shorter ts a us (inr (inr (inl w))) = shorter-▹ (word "where") _ single-moves ts w.0 us w.1
  clause_shorter ts a us (inr (inr (inr (inl w)))) = shorter-▹ (word "group") _ by_moves ts w.0 us w.1
  clause_shorter ts a us (inr (inr (inr (inr (inl w))))) = shorter-▹ (word "count") _ m.variable-moves ts w.0 us w.1
  clause_shorter ts a us (inr (inr (inr (inr (inr (inl w)))))) = shorter-▹ (word "stable") _ (m.order-by-moves Single single-moves) ts a us w
  clause_shorter ts a us (inr (inr (inr (inr (inr (inr w)))))) = shorter-▹ (word "order") _ by_order_moves ts w.0 us w.1

  clause_tests : (ts : Tokens) (a : Clause) (us : Tokens) → g.ClauseRel Single ts a us → begins clause_words ts ≡ true
  clause_tests ts a us (inl w) = rw w.1.1 (for_facts.0.known w.1.0)
  clause_tests ts a us (inr (inl w)) = rw w.1.1 (let_facts.0.known w.1.0)
  clause_tests ts a us (inr (inr (inl w))) = rw w.1.1 (where_facts.0.known w.1.0)
  clause_tests ts a us (inr (inr (inr (inl w)))) = rw w.1.1 (group_facts.0.known w.1.0)
  clause_tests ts a us (inr (inr (inr (inr (inl w))))) = rw w.1.1 (count_facts.0.known w.1.0)
  clause_tests ts a us (inr (inr (inr (inr (inr (inl w)))))) = rw w.1 (stable_facts.0.known w.0)
  clause_tests ts a us (inr (inr (inr (inr (inr (inr w)))))) = rw w.1.1 (order_facts.0.known w.1.0)

  clause_item : Item (Deeper d) 10 (g.ClauseRel Single) (begins clause_words) (r.clause_ single)
  clause_item = record {
    line = record {
      reads = λ ts a us w low good. (clause_reads ts a us w low).reads good;
      starts = λ ts a us w low. (clause_reads ts a us w low).low;
    };
    tests = clause_tests;
    moves = m.clause-moves Single single-moves;
    shorter = clause_shorter;
  }

  -- ---- FLWOR

  record FirstRead (ts : Tokens) (a : Clause) (us : Tokens) : Type 0 where
    pub reads : Fits d ts → r.first_clause single ts ≡ Some (a, us)
    pub deeper : Fits d ts → Deeper d us
    pub begun : begins_flwor ts ≡ true

  for_begins : (rest : Tokens) → Dollar rest → begins_flwor (word "for" ∷ rest) ≡ true
  unfolding begins_flwor
  for_begins rest b = rw b.1 refl

  let_begins : (rest : Tokens) → Dollar rest → begins_flwor (word "let" ∷ rest) ≡ true
  unfolding begins_flwor
  let_begins rest b = rw b.1 refl

  first_for : (rest : Tokens) → r.first_clause single (word "for" ∷ rest) ≡ r.for_clause single (word "for" ∷ rest)
  unfolding r.first_clause begins lookup same
  first_for rest = refl

  first_let : (rest : Tokens) → r.first_clause single (word "let" ∷ rest) ≡ r.let_clause single (word "let" ∷ rest)
  unfolding r.first_clause begins lookup same
  first_let rest = refl

  first_reads : (ts : Tokens) (a : Clause) (us : Tokens) → (g.For Single ∣ g.Let Single) ts a us → rank us < 10 → FirstRead ts a us
  unfolding r.for_clause r.let_clause
  first_reads ts a us (inl w) low =
      let rest = w.1.0 in
      let b = for_list.starts rest w.0 us w.1.2 low in
      let entered : Fits d ts → Deeper d rest = λ f. enter_word d (word "for") rest (for_deepens rest b) (subst (Fits d) w.1.1 f) in
      let first : expect (word "for") (word "for" ∷ rest) ≡ Some (tt, rest) = only_at _ tt rest refl in
      let read : Fits d ts → r.for_clause single (word "for" ∷ rest) ≡ Some (a, us) = λ f. rw (first, for_list.reads rest w.0 us w.1.2 low (entered f)) (value_is us w.2) in
      record {
        reads = λ f. subst (λ (x : Tokens). r.first_clause single x ≡ Some (a, us)) (sym w.1.1) (first_for rest ∙ read f);
        deeper = λ f. deeper_after d rest us (m.commas-move _ (m.for-binding-moves Single single-moves) rest w.0 us w.1.2) (entered f);
        begun = rw w.1.1 (for_begins rest b);
      }
  first_reads ts a us (inr w) low =
      let rest = w.1.0 in
      let b = let_list.starts rest w.0 us w.1.2 low in
      let entered : Fits d ts → Deeper d rest = λ f. enter_word d (word "let") rest (let_deepens rest b) (subst (Fits d) w.1.1 f) in
      let first : expect (word "let") (word "let" ∷ rest) ≡ Some (tt, rest) = only_at _ tt rest refl in
      let read : Fits d ts → r.let_clause single (word "let" ∷ rest) ≡ Some (a, us) = λ f. rw (first, let_list.reads rest w.0 us w.1.2 low (entered f)) (value_is us w.2) in
      record {
        reads = λ f. subst (λ (x : Tokens). r.first_clause single x ≡ Some (a, us)) (sym w.1.1) (first_let rest ∙ read f);
        deeper = λ f. deeper_after d rest us (m.commas-move _ (m.let-binding-moves Single single-moves) rest w.0 us w.1.2) (entered f);
        begun = rw w.1.1 (let_begins rest b);
      }

  no_more_clauses : (rest : Tokens) → begins clause_words (word "return" ∷ rest) ≡ false
  unfolding begins lookup same
  no_more_clauses rest = refl

  return_rank : rank_of (word "return") ≡ 0
  unfolding rank_of lookup same
  return_rank = refl

  satisfies_rank : rank_of (word "satisfies") ≡ 0
  unfolding rank_of lookup same
  satisfies_rank = refl

  else_rank : rank_of (word "else") ≡ 0
  unfolding rank_of lookup same
  else_rank = refl

  flwor_reads : (ts : Tokens) (a : Expr) (us : Tokens) → g.Flwor Single ts a us → rank us < 20 → (Fits d ts → r.flwor single ts ≡ Some (a, us)) × (begins_flwor ts ≡ true)
  unfolding r.flwor r.clauses
  flwor_reads ts a us w low =
      let mid = w.1.0 in
      let last = w.1.2.0 in
      let more = w.1.2.1 in
      let result = w.1.2.2 in
      let low_last = word_low (codes "return") last 10 return_rank (omega arith) (governed_word (codes "return") last w.0.1.1 us result) in
      let low_mid = follows (Deeper d) (deeper_after d) 10 (g.ClauseRel Single) (begins clause_words) (r.clause_ single) clause_item w.0.1.0 mid last more low_last in
      let first = first_reads ts w.0.0 mid w.1.1 low_mid in
      let stop : begins clause_words last ≡ false = rw result.1 (no_more_clauses result.0) in (
        (λ f.
            let deep = first.deeper f in
            let rest = reads_to (Deeper d) (deeper_after d) 10 (g.ClauseRel Single) (begins clause_words) (r.clause_ single) clause_item w.0.1.0 mid last more low_last stop deep in
            let deep_last = deeper_after d mid last (move-many _ (m.clause-moves Single single-moves) mid w.0.1.0 last more) deep in
            rw (first.reads f, rest, governed_reads (word "return") refl refl last w.0.1.1 us result low deep_last) (value_is us w.2)),
        first.begun,
      )

  -- ---- quantified expressions

  record BindsAt (t : Lex) (ts : Tokens) : Type 0 where
    pub deepens : Deepens t ts
    pub no_flwor : begins_flwor (t ∷ ts) ≡ false
    pub quantified : begins_quantified (t ∷ ts) ≡ true

  three_of : (b c e : Bool) → (b && (c && not e)) ≡ true → (b ≡ true) × (c ≡ true) × (e ≡ false)
  three_of true true false h = (refl, refl, refl)
  three_of true true true h = absurd cc
  three_of true false e h = absurd cc
  three_of false c e h = absurd cc

  binds_at : (t : Lex) (ts : Tokens) → binds t ≡ true → Dollar ts → BindsAt t ts
  unfolding begins_flwor begins_quantified
  binds_at (name n) ts h b =
      let facts = three_of (is_binder n) (found (lookup g.quantifiers (name n))) (bytes_eq n (codes "for") || bytes_eq n (codes "let")) h in
      record { deepens = λ k saved. rw (b.1, facts.0) refl; no_flwor = rw b.1 facts.2; quantified = rw b.1 facts.1 }
  binds_at (prefixed p n) ts h b = absurd cc
  binds_at (int n) ts h b = absurd cc
  binds_at (dec n) ts h b = absurd cc
  binds_at (str n) ts h b = absurd cc
  binds_at (symbol n) ts h b = absurd cc

  quantified_reads : (ts : Tokens) (a : Expr) (us : Tokens) → g.Quant Single ts a us → rank us < 20 → (Fits d ts → r.quantified single ts ≡ Some (a, us)) × (begins_flwor ts ≡ false) × (begins_quantified ts ≡ true)
  unfolding r.quantified
  quantified_reads ts a us w low =
      let op = w.1.1 in
      let mid = w.1.0 in
      let list = w.1.2.1 in
      let last = w.1.2.0 in
      let result = w.1.2.2 in
      let low_last = word_low (codes "satisfies") last 10 satisfies_rank (omega arith) (governed_word (codes "satisfies") last w.0.1.1 us result) in
      let b = quantifier_list.starts mid w.0.1.0 last list low_last in
      let at = binds_at op.0 mid (every_found binds g.quantifiers op.0 w.0.0 quantifiers_bind op.2) b in (
        (λ f.
            let deep = enter_word d op.0 mid at.deepens (subst (Fits d) op.1 f) in
            let deep_last = deeper_after d mid last (m.commas-move _ (m.quantifier-binding-moves Single single-moves) mid w.0.1.0 last list) deep in
            let one : one_of g.quantifiers (op.0 ∷ mid) ≡ Some (w.0.0, mid) = one_of_at g.quantifiers op.0 w.0.0 mid op.2 in
            rw (op.1, one, quantifier_list.reads mid w.0.1.0 last list low_last deep, governed_reads (word "satisfies") refl refl last w.0.1.1 us result low deep_last) (value_is us w.2)),
        rw op.1 at.no_flwor,
        rw op.1 at.quantified,
      )

  -- ---- conditions

  if_begins : (rest : Tokens) → (begins_flwor (word "if" ∷ symbol s.OpenParenthesis ∷ rest) ≡ false) × (begins_quantified (word "if" ∷ symbol s.OpenParenthesis ∷ rest) ≡ false) × (begins_if (word "if" ∷ symbol s.OpenParenthesis ∷ rest) ≡ true)
  unfolding begins_flwor begins_quantified begins_if
  if_begins rest = (refl, refl, refl)

  tested_line : (any : ℕ) → Reads (Fits d) (λ ts. (rest : Tokens) × (ts ≡ symbol s.OpenParenthesis ∷ rest)) any (g.Tested Single) (r.tested single)
  unfolding r.tested
  tested_line any =
      reads-open d _ Phrase any (symbol s.OpenParenthesis) _ _ refl (λ _ _ _. refl) (λ ts _. (ts, refl))
      (reads-◃ (Deeper d) Phrase 10 any _ _ (symbol s.CloseParenthesis) refl parenthesis_low (p.whole_line Single single d single-moves single-begins single-reads))

  branches_read : (ts : Tokens) (a : Expr × Expr) (us : Tokens) → (word "then" ▹ Single & word "else" ▹ Single) ts a us → rank us < 20 → Deeper d ts → r.branches single ts ≡ Some (a, us)
  unfolding r.branches
  branches_read ts a us w low good =
      let both = w.2 in
      let other = both.2 in
      let first : expect (word "then") (word "then" ∷ w.0) ≡ Some (tt, w.0) = only_at _ tt w.0 refl in
      let low_mid = word_low (codes "else") both.0 20 else_rank (omega arith) (governed_word (codes "else") both.0 a.1 us other) in
      let after = deeper_after d ts w.0 (one (word "then") ts w.0 refl w.1) good in
      let yes_read = single-reads w.0 a.0 both.0 both.1 low_mid after in
      rw (w.1, first, yes_read, governed_reads (word "else") refl refl both.0 a.1 us other low (deeper_after d w.0 both.0 (single-moves w.0 a.0 both.0 both.1) after)) refl

  if_reads : (ts : Tokens) (a : Expr) (us : Tokens) → g.If Single ts a us → rank us < 20
      → (Fits d ts → r.conditional single ts ≡ Some (a, us)) × (begins_flwor ts ≡ false) × (begins_quantified ts ≡ false) × (begins_if ts ≡ true)
  unfolding r.conditional
  if_reads ts a us w low =
      let mid = w.1.0 in
      let test = w.1.2.1 in
      let last = w.1.2.0 in
      let line = tested_line (suc (rank last)) in
      let paren = line.starts mid w.0.0 last test (omega arith) in
      let whole : ts ≡ word "if" ∷ symbol s.OpenParenthesis ∷ paren.0 = w.1.1 ∙ ap (λ (x : Tokens). word "if" ∷ x) paren.1 in
      let b = if_begins paren.0 in (
        (λ f.
            let deep = enter_word d (word "if") mid (λ k saved. rw paren.1 refl) (subst (Fits d) w.1.1 f) in
            let first : expect (word "if") (word "if" ∷ mid) ≡ Some (tt, mid) = only_at _ tt mid refl in
            let deep_last = deeper_after d mid last (m.tested-moves Single single-moves mid w.0.0 last test) deep in
            rw (w.1.1, first, line.reads mid w.0.0 last test (omega arith) (deeper_fits d mid deep), branches_read last w.0.1 us w.1.2.2 low deep_last) (value_is us w.2)),
        rw whole b.0,
        rw whole b.1,
        rw whole b.2,
      )

  pub any_reads : (ts : Tokens) (a : Expr) (us : Tokens) → g.Any Single ts a us → rank us < 20 → Fits d ts → r.any single ts ≡ Some (a, us)
  unfolding r.any
  any_reads ts a us (inl w) low f = let x = flwor_reads ts a us w low in rw x.1 (x.0 f)
  any_reads ts a us (inr (inl w)) low f = let x = quantified_reads ts a us w low in rw (x.1, x.2) (x.0 f)
  any_reads ts a us (inr (inr (inl w))) low f = let x = if_reads ts a us w low in rw (x.1, x.2, x.3) (x.0 f)
  any_reads ts a us (inr (inr (inr w))) low f =
      let line = o.or_line Single single d single-moves single-begins single-reads in
      let b = line.starts ts a us w low in
      rw (b.plain.no_flwor, b.plain.no_quantified, b.plain.no_if) (line.reads ts a us w low f)
