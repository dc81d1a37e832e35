-- Steps, paths and operators that are derived are read.
use Rattle.std.proofs.Common.{◌≡◌, ℕ, zero, suc, ◌<◌, ◌≤◌, Bool, true, false, List, [], ◌∷◌, length, Some, refl, ap, subst, ◌∙◌, arith, inl, inr}
use Rattle.std.specs.Prelude.{◌*◌, ◌-◌}
use Rattle.xq_lexer.specs.Lexeme.{Lex, name, prefixed, int, dec, str, symbol}
use Rattle.xq_lexer.specs.declared.tokens.Symbol.TheVariants as s
use Rattle.xq_expressions.specs.declared.operators.Sign.{Sign}
use Rattle.xq_expressions.specs.declared.expressions.Expr.{Expr}
use Rattle.xq_expressions.specs.declared.expressions.Expr.TheVariants as e
use Rattle.xq_expressions.specs.declared.expressions.Step.{Step}
use Rattle.xq_parser.specs.Look.{Tokens, Table, lookup, same, same_symbol, word, begins_step}
use Rattle.xq_parser.specs.Rel.{Rel, OneOf, ◌&◌, ◌▹◌, ◌⟨$⟩◌, ◌∣◌, Many}
use Rattle.xq_parser.specs.Grammar as g
use Rattle.xq_parser.specs.private.Reading.{Outcome, Parser, and_then, one_of, begins, is, expect, only, many, many_from, begins_primary, begins_lone, begins_flwor, begins_quantified, begins_if, level_of, next_level}
use Rattle.xq_parser.specs.private.Reading as r
use Rattle.xq_parser.proofs.Tokens.{every, every_found}
use Rattle.xq_parser.proofs.Moves.{AllMove, one, is_plain, move-one_of, move-∣, move-many}
use Rattle.xq_parser.proofs.LinesMove as m
use Rattle.xq_parser.proofs.Rank.{rank, rank_of, has_rank, has_level, level_stops, table_stops, begins_path, begins_phrase, step_is_path, path_is_phrase, path_no_sign, phrase_no_brace, Plain}
use Rattle.xq_parser.proofs.NameLines.{axis_reads}
use Rattle.xq_parser.proofs.PrimaryLines as p
use Rattle.xq_parser.proofs.PrimaryLines.{bracket_rank, bracket_stops, close_bracket_low}
use Rattle.xq_parser.proofs.SoundLines.{union_choice}
use Rattle.xq_parser.proofs.Complete.{is_fixed, Fits, Deeper, fits_after, Reads, Item, value_is, only_at, is_at, one_of_at, begins_at, item-▹, item-one_of, reads-chain, reads-optional, reads-many, reads-&, reads-∣, reads-◃, reads-open}

-- ---- ranks of the operators

all_signs : every (has_rank 70) g.signs ≡ true
unfolding rank_of
all_signs = refl

all_products : every (has_rank 80) g.product_operators ≡ true
unfolding rank_of lookup same
all_products = refl

all_sets : every (has_rank 100) g.set_operators ≡ true
unfolding rank_of lookup same
all_sets = refl

all_comparisons : every (has_rank 40) g.comparisons ≡ true
unfolding rank_of lookup same
all_comparisons = refl

signs_level : every (has_level 4) g.signs ≡ true
unfolding level_of
signs_level = refl

products_level : every (has_level 3) g.product_operators ≡ true
unfolding level_of lookup same
products_level = refl

sets_level : every (has_level 1) g.set_operators ≡ true
unfolding level_of lookup same
sets_level = refl

comparisons_level : every (has_level 7) g.comparisons ≡ true
unfolding level_of lookup same
comparisons_level = refl

all_separators : every (has_rank 130) g.separators ≡ true
unfolding rank_of
all_separators = refl

-- the tokens between operands: their ranks and levels
or_rank : (rank_of (word "or") ≡ 20) × (has_level 9 (word "or") ≡ true)
unfolding rank_of level_of lookup same
or_rank = (refl, refl)

and_rank : (rank_of (word "and") ≡ 30) × (has_level 8 (word "and") ≡ true)
unfolding rank_of level_of lookup same
and_rank = (refl, refl)

concat_rank : (rank_of (symbol s.DoubleBar) ≡ 50) × (has_level 6 (symbol s.DoubleBar) ≡ true)
unfolding rank_of level_of
concat_rank = (refl, refl)

to_rank : (rank_of (word "to") ≡ 60) × (has_level 5 (word "to") ≡ true)
unfolding rank_of level_of lookup same
to_rank = (refl, refl)

union_rank : (rank_of (word "union") ≡ 90) × (has_level 2 (word "union") ≡ true)
unfolding rank_of level_of lookup same
union_rank = (refl, refl)

bar_rank : (rank_of (symbol s.Bar) ≡ 90) × (has_level 2 (symbol s.Bar) ≡ true)
unfolding rank_of level_of
bar_rank = (refl, refl)

map_rank : (rank_of (symbol s.Bang) ≡ 120) × (every (has_rank 120) (only (symbol s.Bang)) ≡ true)
unfolding rank_of
map_rank = (refl, refl)

arrow_rank : (rank_of (symbol s.Arrow) ≡ 110) × (every (has_rank 110) (only (symbol s.Arrow)) ≡ true)
unfolding rank_of
arrow_rank = (refl, refl)

-- a token of the level is next
stands_at : (n : ℕ) (t : Lex) (ts : Tokens) → has_level n t ≡ true → r.stands n (t ∷ ts) ≡ true
unfolding next_level
stands_at n t ts h = h

no_word_at_bar : (us : Tokens) → is (word "union") (symbol s.Bar ∷ us) ≡ false
unfolding begins lookup same
no_word_at_bar us = refl

-- what begins a step, a path, an operand
pub record StepBegins (ts : Tokens) : Type 0 where
  pub plain : Plain ts
  pub step : begins_step ts ≡ true

pub record PathBegins (ts : Tokens) : Type 0 where
  pub plain : Plain ts
  pub path : begins_path ts ≡ true

pub record Begins (ts : Tokens) : Type 0 where
  pub plain : Plain ts
  pub phrase : begins_phrase ts ≡ true

no_brace : (ts : Tokens) → Begins ts → r.begins_brace ts ≡ false
no_brace ts b = phrase_no_brace ts b.phrase

step_no_brace : (ts : Tokens) → StepBegins ts → r.begins_brace ts ≡ false
step_no_brace ts b = phrase_no_brace ts (path_is_phrase ts (step_is_path ts b.step))

path_no_brace : (ts : Tokens) → PathBegins ts → r.begins_brace ts ≡ false
path_no_brace ts b = phrase_no_brace ts (path_is_phrase ts b.path)

called_no_brace : (ts : Tokens) → p.PrimaryBegins ts → r.begins_brace ts ≡ false
called_no_brace ts b = phrase_no_brace ts (path_is_phrase ts (step_is_path ts b.step))

slash_plain : (c : _) (ts : Tokens) → Plain (symbol c ∷ ts)
unfolding begins_flwor begins_quantified begins_if
slash_plain c ts = record { no_flwor = refl; no_quantified = refl; no_if = refl }

lone_begins : (ts : Tokens) → begins_step ts ≡ false → begins_lone (symbol s.Slash ∷ ts) ≡ true
unfolding begins_lone
lone_begins ts h = rw h refl

rooted_begins : (ts : Tokens) → begins_step ts ≡ true → begins_lone (symbol s.Slash ∷ ts) ≡ false
unfolding begins_lone
rooted_begins ts h = rw h refl

-- a step begins with no slash
step_no_slash : (ts : Tokens) → begins_step ts ≡ true → (begins_lone ts ≡ false) × (is (symbol s.Slash) ts ≡ false) × (is (symbol s.DoubleSlash) ts ≡ false)
unfolding begins_lone begins lookup same same_symbol
step_no_slash [] h = absurd cc
step_no_slash (name n ∷ ts) h = (refl, refl, refl)
step_no_slash (prefixed p n ∷ ts) h = (refl, refl, refl)
step_no_slash (int n ∷ ts) h = (refl, refl, refl)
step_no_slash (dec n ∷ ts) h = (refl, refl, refl)
step_no_slash (str n ∷ ts) h = (refl, refl, refl)
step_no_slash (symbol s.Slash ∷ ts) h = absurd cc
step_no_slash (symbol s.DoubleSlash ∷ ts) h = absurd cc
step_no_slash (symbol _ ∷ ts) h = (refl, refl, refl)

abbrev is_sign : Lex → Bool
is_sign (symbol s.Plus) = true
is_sign (symbol s.Minus) = true
is_sign _ = false

sign_begins : (t : Lex) (ts : Tokens) → is_sign t ≡ true → Begins (t ∷ ts)
sign_begins (name n) ts h = absurd cc
sign_begins (prefixed p n) ts h = absurd cc
sign_begins (int n) ts h = absurd cc
sign_begins (dec n) ts h = absurd cc
sign_begins (str n) ts h = absurd cc
sign_begins (symbol s.Plus) ts h = record { plain = slash_plain s.Plus ts; phrase = refl }
sign_begins (symbol s.Minus) ts h = record { plain = slash_plain s.Minus ts; phrase = refl }
sign_begins (symbol _) ts h = absurd cc

module _ (Single : Rel Expr) (single : Parser Expr) (d : ℕ) (single-moves : AllMove Single)
    (single-begins : (ts : Tokens) (a : Expr) (us : Tokens) → Single ts a us → begins_phrase ts ≡ true)
    (single-reads : (ts : Tokens) (a : Expr) (us : Tokens) → Single ts a us → rank us < 20 → Deeper d ts → single ts ≡ Some (a, us)) where
  -- ---- predicates and steps

  predicate_line : (any : ℕ) → Reads (Fits d) (λ ts. rank ts < 200) any (g.Predicate Single) (r.predicate single)
  unfolding r.predicate rank
  predicate_line any =
      reads-open d (λ ts. rank ts < 200) (p.Phrase Single single d single-moves single-begins single-reads) any (symbol s.OpenBracket) _ _ refl (λ _ _ _. refl) (λ ts _. rw bracket_rank (omega arith))
      (reads-◃ (Deeper d) (p.Phrase Single single d single-moves single-begins single-reads) 10 any _ _ (symbol s.CloseBracket) refl close_bracket_low (p.whole_line Single single d single-moves single-begins single-reads))

  predicate_item : Item (Fits d) 200 (g.Predicate Single) (is (symbol s.OpenBracket)) (r.predicate single)
  predicate_item = record {
    line = predicate_line 200;
    tests = λ ts a us w. rw w.1 (is_at (symbol s.OpenBracket) w.0 refl);
    moves = m.predicate-moves Single single-moves;
    shorter = λ ts a us w. let len = (m.whole-moves Single single-moves w.0 a _ w.2).shorter in rw w.1 (omega (arith, len));
  }

  predicates_line : Reads (Fits d) (λ ts. rank ts < 200) 140 (Many (g.Predicate Single)) (r.predicates single)
  unfolding r.predicates
  predicates_line = reads-many (Fits d) (fits_after d) 200 140 (g.Predicate Single) (is (symbol s.OpenBracket)) (r.predicate single) predicate_item (omega arith) bracket_stops

  axis_at : (ts : Tokens) → begins_primary ts ≡ false → r.step single ts ≡ r.predicated single ts
  unfolding r.step
  axis_at ts h = rw h refl

  primary_at : (ts : Tokens) → begins_primary ts ≡ true → r.step single ts ≡ r.primary_step single ts
  unfolding r.step
  primary_at ts h = rw h refl

  step_reads : (ts : Tokens) (a : Step) (us : Tokens) → g.StepRel Single ts a us → rank us < 140 → Fits d ts → r.step single ts ≡ Some (a, us)
  unfolding r.predicated r.primary_step
  step_reads ts a us (inl w) low f =
      let x = axis_reads Single ts w.0.0 w.1.0 w.1.1 (predicates_line.starts w.1.0 w.0.1 us w.1.2 low) in
      let ps = predicates_line.reads w.1.0 w.0.1 us w.1.2 low (fits_after d ts w.1.0 (m.axis-step-moves Single single-moves ts w.0.0 w.1.0 w.1.1) f) in
      let read : r.predicated single ts ≡ Some (a, us) = rw (x.reads, ps) (value_is us w.2) in
      axis_at ts x.begun.no_primary ∙ read
  step_reads ts a us (inr w) low f =
      let x = p.primary_reads Single single d single-moves single-begins single-reads ts w.0.0 w.1.0 w.1.1 in
      let ps = predicates_line.reads w.1.0 w.0.1 us w.1.2 low (fits_after d ts w.1.0 (m.primary-moves Single single-moves ts w.0.0 w.1.0 w.1.1) f) in
      let read : r.primary_step single ts ≡ Some (a, us) = rw (x.reads f, ps) (value_is us w.2) in
      primary_at ts x.begun.primary ∙ read

  step_starts : (ts : Tokens) (a : Step) (us : Tokens) → g.StepRel Single ts a us → rank us < 140 → StepBegins ts
  step_starts ts a us (inl w) low =
      let x = axis_reads Single ts w.0.0 w.1.0 w.1.1 (predicates_line.starts w.1.0 w.0.1 us w.1.2 low) in
      record { plain = x.begun.plain; step = x.begun.step }
  step_starts ts a us (inr w) low =
      let x = p.primary_reads Single single d single-moves single-begins single-reads ts w.0.0 w.1.0 w.1.1 in
      record { plain = x.begun.plain; step = x.begun.step }

  step_line : Reads (Fits d) StepBegins 140 (g.StepRel Single) (r.step single)
  step_line = record { reads = step_reads; starts = step_starts }

  -- ---- paths

  next_step_item : Item (Fits d) 140 (OneOf g.separators & g.StepRel Single) (begins g.separators) (r.next_step single)
  unfolding r.next_step
  next_step_item = item-one_of (Fits d) StepBegins 140 130 g.separators (begins g.separators) (g.StepRel Single) (r.step single) (fits_after d) all_separators (omega arith) refl m.separators-move (λ t a ts h. begins_at g.separators t a ts h) step_no_brace (m.step-moves Single single-moves) step_line

  relative_line : Reads (Fits d) StepBegins 130 (g.Relative Single) (r.relative single)
  unfolding r.relative
  relative_line =
      reads-& (Fits d) (Fits d) StepBegins (λ ts. rank ts < 140) 140 130 (g.StepRel Single) (Many (OneOf g.separators & g.StepRel Single)) (r.step single) (many (begins g.separators) (r.next_step single)) step_line
      (reads-many (Fits d) (fits_after d) 140 130 (OneOf g.separators & g.StepRel Single) (begins g.separators) (r.next_step single) next_step_item (omega arith) (table_stops g.separators 130 (omega arith) all_separators))
      (λ ts a us w f. fits_after d ts us (m.step-moves Single single-moves ts a us w) f)
      (λ ts low. low)

  lone_at : (ts : Tokens) → begins_lone (symbol s.Slash ∷ ts) ≡ true → r.path single (symbol s.Slash ∷ ts) ≡ Some (e.Root, ts)
  unfolding r.path
  lone_at ts h = let one : one_of ((symbol s.Slash, e.Root) ∷ []) (symbol s.Slash ∷ ts) ≡ Some (e.Root, ts) = only_at _ (e.Root) ts refl in rw (h, one) refl

  root_at : (ts : Tokens) → begins_lone (symbol s.Slash ∷ ts) ≡ false → r.path single (symbol s.Slash ∷ ts) ≡ r.from_root single (symbol s.Slash ∷ ts)
  unfolding r.path
  root_at ts h = rw (h, is_at (symbol s.Slash) ts refl) refl

  below_at : (ts : Tokens) → r.path single (symbol s.DoubleSlash ∷ ts) ≡ r.from_below single (symbol s.DoubleSlash ∷ ts)
  unfolding r.path begins_lone begins lookup same same_symbol
  below_at ts = refl

  relative_at : (ts : Tokens) → begins_step ts ≡ true → r.path single ts ≡ r.mapped g.relative (r.relative single) ts
  unfolding r.path
  relative_at ts h = let no = step_no_slash ts h in rw (no.0, no.1, no.2) refl

  path_starts : (ts : Tokens) (a : Expr) (us : Tokens) → g.Path Single ts a us → rank us < 130 → PathBegins ts
  path_starts ts a us (inl w) low = rw w.0 (record { plain = slash_plain s.Slash us; path = refl })
  path_starts ts a us (inr (inl w)) low = rw w.1.1 (record { plain = slash_plain s.Slash w.1.0; path = refl })
  path_starts ts a us (inr (inr (inl w))) low = rw w.1.1 (record { plain = slash_plain s.DoubleSlash w.1.0; path = refl })
  path_starts ts a us (inr (inr (inr w))) low = let b = relative_line.starts ts w.0 us w.1 low in record { plain = b.plain; path = step_is_path ts b.step }

  path_reads : (ts : Tokens) (a : Expr) (us : Tokens) → g.Path Single ts a us → rank us < 130 → Fits d ts → r.path single ts ≡ Some (a, us)
  unfolding r.from_root r.from_below
  path_reads ts a us (inl w) low f = rw w.0 (lone_at us (lone_begins us w.1) ∙ value_is us w.2)
  path_reads ts a us (inr (inl w)) low f =
      let slash = w.1 in
      let after = fits_after d ts slash.0 (one (symbol s.Slash) ts slash.0 refl slash.1) f in
      let inner = relative_line.reads slash.0 w.0 us slash.2 low after in
      let b = relative_line.starts slash.0 w.0 us slash.2 low in
      let first : expect (symbol s.Slash) (symbol s.Slash ∷ slash.0) ≡ Some (tt, slash.0) = only_at _ tt slash.0 refl in
      let read : r.from_root single (symbol s.Slash ∷ slash.0) ≡ Some (a, us) = rw (first, inner) (value_is us w.2) in
      rw slash.1 (root_at slash.0 (rooted_begins slash.0 b.step) ∙ read)
  path_reads ts a us (inr (inr (inl w))) low f =
      let slash = w.1 in
      let after = fits_after d ts slash.0 (one (symbol s.DoubleSlash) ts slash.0 refl slash.1) f in
      let inner = relative_line.reads slash.0 w.0 us slash.2 low after in
      let first : expect (symbol s.DoubleSlash) (symbol s.DoubleSlash ∷ slash.0) ≡ Some (tt, slash.0) = only_at _ tt slash.0 refl in
      let read : r.from_below single (symbol s.DoubleSlash ∷ slash.0) ≡ Some (a, us) = rw (first, inner) (value_is us w.2) in
      rw slash.1 (below_at slash.0 ∙ read)
  path_reads ts a us (inr (inr (inr w))) low f =
      let b = relative_line.starts ts w.0 us w.1 low in
      relative_at ts b.step ∙ rw (relative_line.reads ts w.0 us w.1 low f) (value_is us w.2)

  path_line : Reads (Fits d) PathBegins 130 (g.Path Single) (r.path single)
  path_line = record { reads = path_reads; starts = path_starts }

  -- ---- signs

  sign_line : (ts : Tokens) (a : Sign) (us : Tokens) → OneOf g.signs ts a us → Begins ts
  sign_line ts a us w = rw w.1 (sign_begins w.0 us (every_found is_sign g.signs w.0 a refl w.2))

  signs_from : (xs : List Sign) (n : ℕ) (ts us : Tokens) → length ts ≤ n → Many (OneOf g.signs) ts xs us → begins g.signs us ≡ false → many_from (begins g.signs) (one_of g.signs) n ts ≡ Some (xs, us)
  unfolding many_from
  signs_from [] zero ts us len w stop = ap (λ (x : Tokens). Some ([], x)) w
  signs_from [] (suc n) ts us len w stop = rw (w, stop) refl
  signs_from (x ∷ xs) zero ts us len w stop = let none : length (w.1.0 ∷ w.0) ≤ 0 = subst (λ (y : Tokens). length y ≤ 0) w.1.1 len in absurd (omega (arith, none))
  signs_from (x ∷ xs) (suc n) ts us len w stop =
      let fewer : length (w.1.0 ∷ w.0) ≤ suc n = subst (λ (y : Tokens). length y ≤ suc n) w.1.1 len in
      let more = signs_from xs n w.0 us (omega (arith, fewer)) w.2 stop in
      rw (w.1.1, begins_at g.signs w.1.0 x w.0 w.1.2, one_of_at g.signs w.1.0 x w.0 w.1.2, more) refl

  signs_read : (xs : List Sign) (ts us : Tokens) → Many (OneOf g.signs) ts xs us → begins g.signs us ≡ false → many (begins g.signs) (one_of g.signs) ts ≡ Some (xs, us)
  unfolding many
  signs_read xs ts us w stop = signs_from xs (length ts) ts us (omega arith) w stop

  signs_begin : (xs : List Sign) (ts us : Tokens) → Many (OneOf g.signs) ts xs us → PathBegins us → Begins ts
  signs_begin [] ts us w b = rw w (record { plain = b.plain; phrase = path_is_phrase us b.path })
  signs_begin (x ∷ xs) ts us w b = sign_line ts x w.0 w.1

  map_line : Reads (Fits d) PathBegins 120 (g.Map Single) (r.simple_map single)
  unfolding r.simple_map r.map_item
  map_line =
      reads-chain (Fits d) PathBegins 130 120 (g.chain e.Map) (g.Path Single) (r.path single) (symbol s.Bang ▹ g.Path Single) (is (symbol s.Bang)) _ (fits_after d) path_line (m.path-moves Single single-moves)
      (item-▹ (Fits d) PathBegins 130 (symbol s.Bang) (is (symbol s.Bang)) (g.Path Single) (r.path single) (fits_after d) refl (rw map_rank.0 (omega arith)) refl (λ ts. is_at (symbol s.Bang) ts refl) path_no_brace (m.path-moves Single single-moves) path_line) (omega arith)
      (λ us low. table_stops (only (symbol s.Bang)) 120 (omega arith) map_rank.1 us low)

  unary_line : Reads (Fits d) Begins 120 (g.Unary Single) (r.unary single)
  unfolding r.unary
  unary_line = record {
    reads = λ ts a us w low f.
        let b = map_line.starts w.1.0 w.0.1 us w.1.2 low in
        let first = signs_read w.0.0 ts w.1.0 w.1.1 (path_no_sign w.1.0 b.path) in
        let path = map_line.reads w.1.0 w.0.1 us w.1.2 low (fits_after d ts w.1.0 (move-many _ m.signs-move ts w.0.0 w.1.0 w.1.1) f) in
        rw (first, path) (value_is us w.2);
    starts = λ ts a us w low. signs_begin w.0.0 ts w.1.0 w.1.1 (map_line.starts w.1.0 w.0.1 us w.1.2 low);
  }

  -- ---- operators

  -- a level whose operators stand in a table
  chained : {A : Type 0} (n follow : ℕ) (table : Table A) (value : Expr × List (A × Expr) → Expr) (P : Rel Expr) (p : Parser Expr)
      → 0 < n → n ≤ 9 → 110 - 10 * n < follow → every (has_rank (110 - 10 * n)) table ≡ true → every (has_level n) table ≡ true → every is_plain table ≡ true
      → AllMove P → Reads (Fits d) Begins follow P p
      → Reads (Fits d) Begins (110 - 10 * n) (value ⟨$⟩ P & Many (OneOf table & P)) (r.mapped value (r.both p (many (r.stands n) (r.both (one_of table) p))))
  chained n follow table value P p some within low ranks levels all moves line =
      reads-chain (Fits d) Begins follow (110 - 10 * n) value P p (OneOf table & P) (r.stands n) _ (fits_after d) line moves
      (item-one_of (Fits d) Begins follow (110 - 10 * n) table (r.stands n) P p (fits_after d) ranks low all (move-one_of table all) (λ t a ts h. stands_at n t ts (every_found (has_level n) table t a levels h)) no_brace moves line) (omega (arith, low))
      (level_stops n some within)

  -- a level with one token between its operands
  joined : (n follow : ℕ) (t : Lex) (value : Expr × List Expr → Expr) (P : Rel Expr) (p : Parser Expr)
      → 0 < n → n ≤ 9 → 110 - 10 * n ≤ follow → rank_of t < follow → has_level n t ≡ true → is_plain t ≡ true → is_fixed t ≡ true
      → AllMove P → Reads (Fits d) Begins follow P p
      → Reads (Fits d) Begins (110 - 10 * n) (value ⟨$⟩ P & Many (t ▹ P)) (r.mapped value (r.both p (many (r.stands n) (r.after t p))))
  joined n follow t value P p some within low rank_low level all known moves line =
      reads-chain (Fits d) Begins follow (110 - 10 * n) value P p (t ▹ P) (r.stands n) _ (fits_after d) line moves
      (item-▹ (Fits d) Begins follow t (r.stands n) P p (fits_after d) known rank_low all (λ ts. stands_at n t ts level) no_brace moves line) low
      (level_stops n some within)

  arrow_line : Reads (Fits d) Begins 110 (g.Arrow Single) (r.arrow single)
  unfolding r.arrow r.arrow_item
  arrow_line =
      reads-chain (Fits d) Begins 120 110 (g.chain e.Arrow) (g.Unary Single) (r.unary single) (symbol s.Arrow ▹ g.Called Single) (is (symbol s.Arrow)) _ (fits_after d) unary_line (m.unary-moves Single single-moves)
      (item-▹ (Fits d) p.PrimaryBegins 120 (symbol s.Arrow) (is (symbol s.Arrow)) (g.Called Single) (r.called single) (fits_after d) refl (rw arrow_rank.0 (omega arith)) refl (λ ts. is_at (symbol s.Arrow) ts refl) called_no_brace (m.called-moves Single single-moves) (p.called_line Single single d single-moves single-begins single-reads 120)) (omega arith)
      (λ us low. table_stops (only (symbol s.Arrow)) 110 (omega arith) arrow_rank.1 us low)

  inter_line : Reads (Fits d) Begins 100 (g.Inter Single) (r.inter single)
  unfolding r.inter r.set_item
  inter_line = chained 1 110 g.set_operators (g.chain e.SetOperation) (g.Arrow Single) (r.arrow single) (omega arith) (omega arith) (omega arith) all_sets sets_level refl (m.arrow-moves Single single-moves) arrow_line

  union_item : Item (Fits d) 100 ((word "union" ▹ g.Inter Single) ∣ (symbol s.Bar ▹ g.Inter Single)) (r.stands 2) (r.union_item single)
  union_item = record {
    line = record {
      reads = λ ts a us w low good. union_choice single ts ∙ choice.reads ts a us w low good;
      starts = choice.starts;
    };
    tests = tested;
    moves = move-∣ _ _ by_word.moves by_bar.moves;
    shorter = shortened;
  }
    where
      by_word : Item (Fits d) 100 (word "union" ▹ g.Inter Single) (r.stands 2) (r.after (word "union") (r.inter single))
      by_word = item-▹ (Fits d) Begins 100 (word "union") (r.stands 2) (g.Inter Single) (r.inter single) (fits_after d) refl (rw union_rank.0 (omega arith)) refl (λ ts. stands_at 2 (word "union") ts union_rank.1) no_brace (m.inter-moves Single single-moves) inter_line

      by_bar : Item (Fits d) 100 (symbol s.Bar ▹ g.Inter Single) (r.stands 2) (r.after (symbol s.Bar) (r.inter single))
      by_bar = item-▹ (Fits d) Begins 100 (symbol s.Bar) (r.stands 2) (g.Inter Single) (r.inter single) (fits_after d) refl (rw bar_rank.0 (omega arith)) refl (λ ts. stands_at 2 (symbol s.Bar) ts bar_rank.1) no_brace (m.inter-moves Single single-moves) inter_line

      choice : Reads (Fits d) (λ ts. rank ts < 100) 100 ((word "union" ▹ g.Inter Single) ∣ (symbol s.Bar ▹ g.Inter Single)) (r.choose (is (word "union")) (r.after (word "union") (r.inter single)) (r.after (symbol s.Bar) (r.inter single)))
      choice = reads-∣ (Fits d) (λ ts. rank ts < 100) 100 (is (word "union")) _ _ _ _ by_word.line by_bar.line
          (λ ts a us w low. rw w.1 (is_at (word "union") w.0 refl))
          (λ ts a us w low. rw w.1 (no_word_at_bar w.0))

      tested : (ts : Tokens) (a : Expr) (us : Tokens) → ((word "union" ▹ g.Inter Single) ∣ (symbol s.Bar ▹ g.Inter Single)) ts a us → r.stands 2 ts ≡ true
      tested ts a us (inl w) = by_word.tests ts a us w
      tested ts a us (inr w) = by_bar.tests ts a us w

      shortened : (ts : Tokens) (a : Expr) (us : Tokens) → ((word "union" ▹ g.Inter Single) ∣ (symbol s.Bar ▹ g.Inter Single)) ts a us → length us < length ts
      shortened ts a us (inl w) = by_word.shorter ts a us w
      shortened ts a us (inr w) = by_bar.shorter ts a us w

  union_line : Reads (Fits d) Begins 90 (g.Union Single) (r.union single)
  unfolding r.union
  union_line =
      reads-chain (Fits d) Begins 100 90 (g.several e.Union) (g.Inter Single) (r.inter single) _ (r.stands 2) (r.union_item single) (fits_after d) inter_line (m.inter-moves Single single-moves)
      union_item (omega arith) (level_stops 2 (omega arith) (omega arith))

  product_line : Reads (Fits d) Begins 80 (g.Prod Single) (r.product single)
  unfolding r.product r.product_item
  product_line = chained 3 90 g.product_operators (g.chain e.Product) (g.Union Single) (r.union single) (omega arith) (omega arith) (omega arith) all_products products_level refl (m.union-moves Single single-moves) union_line

  sum_line : Reads (Fits d) Begins 70 (g.Sum Single) (r.sum single)
  unfolding r.sum r.sum_item
  sum_line = chained 4 80 g.signs (g.chain e.Sum) (g.Prod Single) (r.product single) (omega arith) (omega arith) (omega arith) all_signs signs_level refl (m.product-moves Single single-moves) product_line

  range_line : Reads (Fits d) Begins 60 (g.Range Single) (r.range single)
  unfolding r.range r.range_item
  range_line =
      reads-optional (Fits d) Begins 70 60 g.ranged (g.Sum Single) (r.sum single) (word "to" ▹ g.Sum Single) (r.stands 5) _ (fits_after d) sum_line (m.sum-moves Single single-moves)
      (item-▹ (Fits d) Begins 70 (word "to") (r.stands 5) (g.Sum Single) (r.sum single) (fits_after d) refl (rw to_rank.0 (omega arith)) refl (λ ts. stands_at 5 (word "to") ts to_rank.1) no_brace (m.sum-moves Single single-moves) sum_line) (omega arith)
      (level_stops 5 (omega arith) (omega arith))

  concat_line : Reads (Fits d) Begins 50 (g.Concat Single) (r.concat single)
  unfolding r.concat r.concat_item
  concat_line = joined 6 60 (symbol s.DoubleBar) (g.several e.Concat) (g.Range Single) (r.range single) (omega arith) (omega arith) (omega arith) (rw concat_rank.0 (omega arith)) concat_rank.1 refl refl (m.range-moves Single single-moves) range_line

  comparison_line : Reads (Fits d) Begins 40 (g.Comp Single) (r.comparison single)
  unfolding r.comparison r.comparison_item
  comparison_line =
      reads-optional (Fits d) Begins 50 40 g.compared (g.Concat Single) (r.concat single) (OneOf g.comparisons & g.Concat Single) (r.stands 7) _ (fits_after d) concat_line (m.concat-moves Single single-moves)
      (item-one_of (Fits d) Begins 50 40 g.comparisons (r.stands 7) (g.Concat Single) (r.concat single) (fits_after d) all_comparisons (omega arith) refl m.comparisons-move (λ t a ts h. stands_at 7 t ts (every_found (has_level 7) g.comparisons t a comparisons_level h)) no_brace (m.concat-moves Single single-moves) concat_line) (omega arith)
      (level_stops 7 (omega arith) (omega arith))

  and_line : Reads (Fits d) Begins 30 (g.And Single) (r.conjunction single)
  unfolding r.conjunction r.and_item
  and_line = joined 8 40 (word "and") (g.several e.And) (g.Comp Single) (r.comparison single) (omega arith) (omega arith) (omega arith) (rw and_rank.0 (omega arith)) and_rank.1 refl refl (m.comparison-moves Single single-moves) comparison_line

  pub or_line : Reads (Fits d) Begins 20 (g.Or Single) (r.disjunction single)
  unfolding r.disjunction r.or_item
  or_line = joined 9 30 (word "or") (g.several e.Or) (g.And Single) (r.conjunction single) (omega arith) (omega arith) (omega arith) (rw or_rank.0 (omega arith)) or_rank.1 refl refl (m.and-moves Single single-moves) and_line
