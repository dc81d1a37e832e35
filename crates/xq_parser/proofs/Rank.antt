-- How tightly the next token would bind to a phrase before it.
use Rattle.std.proofs.Common.{◌≡◌, ℕ, ◌<◌, ◌≤◌, Bool, true, false, cond, List, [], ◌∷◌, Option, Some, None, refl, sym, subst, ◌∙◌, arith, inl, inr, ◌⊎◌}
use Rattle.std.specs.Prelude.{codes, not, ◌&&◌, ◌==◌, ◌*◌, ◌-◌}
use Rattle.std.proofs.lemmas.Bool.Decides.{nat_tests}
use Rattle.std.specs.Str.{bytes_eq}
use Rattle.std.proofs.lemmas.Slice.Eq.{bytes_eq-Decides}
use Rattle.std.proofs.Math.Dec.{eqb}
use Rattle.std.proofs.lemmas.Bool.{eqb-true, cases_Bool}
use Rattle.xq_lexer.specs.Lexeme.{Lex, name, prefixed, int, dec, str, symbol}
use Rattle.xq_lexer.specs.declared.tokens.Symbol.{Symbol}
use Rattle.xq_lexer.specs.declared.tokens.Symbol.TheVariants as s
use Rattle.xq_parser.specs.Look.{Tokens, Table, lookup, same, same_symbol, word, begins_step}
use Rattle.xq_parser.specs.Grammar as g
use Rattle.xq_parser.specs.private.Reading.{is, begins, found, begins_brace, begins_call, begins_make, begins_literal, begins_primary, begins_flwor, begins_quantified, begins_if, begins_axis, begins_name_test, word_levels, level_of, next_level, stands, or_zero as zero_or}
use Rattle.xq_parser.proofs.Tokens.{every, every_found, none_some, some_is, chosen, same_is}

-- the words that may follow a phrase of the same level
abbrev word_ranks : Table ℕ
word_ranks =
    (word "empty", 14) ∷ (word "ascending", 16) ∷ (word "descending", 16) ∷ (word "or", 20) ∷ (word "and", 30)
    ∷ (word "eq", 40) ∷ (word "ne", 40) ∷ (word "lt", 40) ∷ (word "le", 40) ∷ (word "gt", 40) ∷ (word "ge", 40) ∷ (word "is", 40)
    ∷ (word "to", 60) ∷ (word "div", 80) ∷ (word "idiv", 80) ∷ (word "mod", 80) ∷ (word "union", 90)
    ∷ (word "intersect", 100) ∷ (word "except", 100) ∷ []

abbrev symbol_rank : Symbol → ℕ
symbol_rank s.Comma = 10
symbol_rank s.Assign = 12
symbol_rank s.Equal = 40
symbol_rank s.NotEqual = 40
symbol_rank s.Less = 40
symbol_rank s.LessEqual = 40
symbol_rank s.Greater = 40
symbol_rank s.GreaterEqual = 40
symbol_rank s.Precedes = 40
symbol_rank s.Follows = 40
symbol_rank s.DoubleBar = 50
symbol_rank s.Plus = 70
symbol_rank s.Minus = 70
symbol_rank s.Star = 80
symbol_rank s.Bar = 90
symbol_rank s.Arrow = 110
symbol_rank s.Bang = 120
symbol_rank s.Slash = 130
symbol_rank s.DoubleSlash = 130
symbol_rank s.OpenBracket = 140
symbol_rank s.OpenParenthesis = 200
symbol_rank s.OpenBrace = 200
symbol_rank s.Dollar = 200
symbol_rank s.DoubleColon = 200
symbol_rank _ = 0

abbrev or_zero : Option ℕ → ℕ
or_zero (Some r) = r
or_zero None = 0

-- a token's rank, where no brace follows
unfoldable pub rank_of : Lex → ℕ
rank_of (name n) = or_zero (lookup word_ranks (name n))
rank_of (symbol c) = symbol_rank c
rank_of (prefixed p n) = 200
rank_of _ = 0

abbrev pub is_word : Lex → Bool
is_word (name n) = true
is_word _ = false

-- 200 is for what may only follow a name
unfoldable pub rank : Tokens → ℕ
rank [] = 0
rank (t ∷ ts) = cond (is_word t && begins_brace ts) 200 (rank_of t)

pub rank-plain : (t : Lex) (ts : Tokens) → begins_brace ts ≡ false → rank (t ∷ ts) ≡ rank_of t
unfolding rank
rank-plain (name n) ts h = rw h refl
rank-plain (prefixed p n) ts h = refl
rank-plain (int n) ts h = refl
rank-plain (dec n) ts h = refl
rank-plain (str n) ts h = refl
rank-plain (symbol n) ts h = refl

least : (b : Bool) (r k : ℕ) → r ≤ 200 → cond b 200 r < k → r < k
least true r k h low = omega (arith, h, low)
least false r k h low = low

rank-least : (t : Lex) (ts : Tokens) (k : ℕ) → rank_of t ≤ 200 → rank (t ∷ ts) < k → rank_of t < k
unfolding rank
rank-least t ts k h low = least (is_word t && begins_brace ts) (rank_of t) k h low

-- ---- the operators of a level

abbrev pub has_rank : ℕ → Lex → Bool
has_rank r t = eqb (rank_of t) r

pub table_rank : {A : Type 0} (table : Table A) (r : ℕ) → every (has_rank r) table ≡ true → (t : Lex) (ts : Tokens) (a : A) → lookup table t ≡ Some a → begins_brace ts ≡ false → rank (t ∷ ts) ≡ r
table_rank table r all t ts a h b = rank-plain t ts b ∙ eqb-true (rank_of t) r (every_found (has_rank r) table t a all h)

found_value : {A : Type 0} (o : Option A) → (found o ≡ false) ⊎ ((a : A) × (o ≡ Some a))
found_value None = inl refl
found_value (Some a) = inr (a, refl)

pub table_stops : {A : Type 0} (table : Table A) (r : ℕ) → r ≤ 200 → every (has_rank r) table ≡ true → (ts : Tokens) → rank ts < r → begins table ts ≡ false
unfolding begins
table_stops table r high all [] low = refl
table_stops table r high all (t ∷ ts) low = elim (found_value (lookup table t)) [
  | inl e ↦ e
  | inr w ↦
      let e : rank_of t ≡ r = eqb-true (rank_of t) r (every_found (has_rank r) table t w.0 all w.1) in
      let bound : rank_of t ≤ 200 = omega (arith, e, high) in
      let small : rank_of t < r = rank-least t ts r bound low in
      absurd (omega (arith, e, small))
]

-- ---- the levels of the operators between operands

abbrev AllRows : {A : Type 0} → (Lex → A → Type 0) → Table A → Type 0
AllRows P [] = Unit {0}
AllRows P (row ∷ rows) = P row.0 row.1 × AllRows P rows

-- what holds of each row holds of a token that is found
row_found : {A : Type 0} (P : Lex → A → Type 0) (table : Table A) (t : Lex) (a : A) → AllRows P table → lookup table t ≡ Some a → P t a
unfolding lookup
row_found P [] t a all h = absurd (none_some h)
row_found P (row ∷ rows) t a all h = elim (chosen (same row.0 t) _ _ _ h) [
  | inl p ↦ subst (λ (b : _). P t b) (some_is p.1) (subst (λ (u : Lex). P u row.1) (same_is row.0 t p.0) all.0)
  | inr p ↦ row_found P rows t a all.1 p.1
]

abbrev HasRankOf : Lex → ℕ → Type 0
HasRankOf t level = rank_of t ≡ 110 - 10 * level

word_rows : AllRows HasRankOf word_levels
unfolding rank_of lookup same
word_rows = (refl, (refl, (refl, (refl, (refl, (refl, (refl, (refl, (refl, (refl, (refl, (refl, (refl, (refl, (refl, (refl, tt))))))))))))))))

found_rank : (t : Lex) (o : Option ℕ) → lookup word_levels t ≡ o → 0 < zero_or o → HasRankOf t (zero_or o)
found_rank t (Some level) h some = row_found HasRankOf word_levels t level word_rows h
found_rank t None h some = absurd (omega (arith, some))

-- an operator's rank is that of its level
level_rank : (t : Lex) → 0 < level_of t → HasRankOf t (level_of t)
unfolding level_of rank_of
level_rank (name n) some = found_rank (name n) (lookup word_levels (name n)) refl some
level_rank (prefixed p n) some = absurd (omega (arith, some))
level_rank (int n) some = absurd (omega (arith, some))
level_rank (dec n) some = absurd (omega (arith, some))
level_rank (str n) some = absurd (omega (arith, some))
level_rank (symbol s.Bar) some = refl
level_rank (symbol s.Star) some = refl
level_rank (symbol s.Plus) some = refl
level_rank (symbol s.Minus) some = refl
level_rank (symbol s.DoubleBar) some = refl
level_rank (symbol s.Equal) some = refl
level_rank (symbol s.NotEqual) some = refl
level_rank (symbol s.Less) some = refl
level_rank (symbol s.LessEqual) some = refl
level_rank (symbol s.Greater) some = refl
level_rank (symbol s.GreaterEqual) some = refl
level_rank (symbol s.Precedes) some = refl
level_rank (symbol s.Follows) some = refl
level_rank (symbol _) some = absurd (omega (arith, some))

abbrev pub has_level : ℕ → Lex → Bool
has_level n t = level_of t == n

-- no operator of a level is next where the next token binds less
pub level_stops : (n : ℕ) → 0 < n → n ≤ 9 → (us : Tokens) → rank us < 110 - 10 * n → stands n us ≡ false
unfolding next_level
level_stops n some within [] low = grind (arith, nat_tests)
level_stops n some within (t ∷ ts) low = elim (cases_Bool (level_of t == n)) [
  | inl b ↦
      let is : level_of t ≡ n = grind (arith, nat_tests) in
      let e : rank_of t ≡ 110 - 10 * n = subst (HasRankOf t) is (level_rank t (omega (arith, is, some))) in
      let small : rank_of t < 110 - 10 * n = rank-least t ts (110 - 10 * n) (omega (arith, e)) low in
      absurd (omega (arith, e, small))
  | inr b ↦ b
]

-- ---- what begins a phrase

abbrev pub symbol_begins_path : Symbol → Bool
symbol_begins_path s.Dollar = true
symbol_begins_path s.OpenParenthesis = true
symbol_begins_path s.Dot = true
symbol_begins_path s.DoubleDot = true
symbol_begins_path s.At = true
symbol_begins_path s.Star = true
symbol_begins_path s.Slash = true
symbol_begins_path s.DoubleSlash = true
symbol_begins_path _ = false

abbrev pub symbol_begins_phrase : Symbol → Bool
symbol_begins_phrase s.Plus = true
symbol_begins_phrase s.Minus = true
symbol_begins_phrase c = symbol_begins_path c

abbrev pub begins_path : Tokens → Bool
begins_path [] = false
begins_path (symbol c ∷ ts) = symbol_begins_path c
begins_path (t ∷ ts) = true

abbrev pub begins_phrase : Tokens → Bool
begins_phrase [] = false
begins_phrase (symbol c ∷ ts) = symbol_begins_phrase c
begins_phrase (t ∷ ts) = true

pub step_is_path : (ts : Tokens) → begins_step ts ≡ true → begins_path ts ≡ true
step_is_path [] h = absurd cc
step_is_path (name n ∷ us) h = refl
step_is_path (prefixed p n ∷ us) h = refl
step_is_path (int n ∷ us) h = refl
step_is_path (dec n ∷ us) h = refl
step_is_path (str n ∷ us) h = refl
step_is_path (symbol s.Slash ∷ us) h = refl
step_is_path (symbol s.DoubleSlash ∷ us) h = refl
step_is_path (symbol _ ∷ us) h = h

pub path_is_phrase : (ts : Tokens) → begins_path ts ≡ true → begins_phrase ts ≡ true
path_is_phrase [] h = absurd cc
path_is_phrase (name n ∷ us) h = refl
path_is_phrase (prefixed p n ∷ us) h = refl
path_is_phrase (int n ∷ us) h = refl
path_is_phrase (dec n ∷ us) h = refl
path_is_phrase (str n ∷ us) h = refl
path_is_phrase (symbol s.Plus ∷ us) h = refl
path_is_phrase (symbol s.Minus ∷ us) h = refl
path_is_phrase (symbol _ ∷ us) h = h

-- a phrase begins with no brace and no closing bracket
pub phrase_no_brace : (ts : Tokens) → begins_phrase ts ≡ true → begins_brace ts ≡ false
phrase_no_brace [] h = refl
phrase_no_brace (name n ∷ us) h = refl
phrase_no_brace (prefixed p n ∷ us) h = refl
phrase_no_brace (int n ∷ us) h = refl
phrase_no_brace (dec n ∷ us) h = refl
phrase_no_brace (str n ∷ us) h = refl
phrase_no_brace (symbol s.OpenBrace ∷ us) h = absurd cc
phrase_no_brace (symbol _ ∷ us) h = refl

pub phrase_no_parenthesis : (ts : Tokens) → begins_phrase ts ≡ true → is (symbol s.CloseParenthesis) ts ≡ false
unfolding begins lookup same same_symbol
phrase_no_parenthesis [] h = refl
phrase_no_parenthesis (name n ∷ us) h = refl
phrase_no_parenthesis (prefixed p n ∷ us) h = refl
phrase_no_parenthesis (int n ∷ us) h = refl
phrase_no_parenthesis (dec n ∷ us) h = refl
phrase_no_parenthesis (str n ∷ us) h = refl
phrase_no_parenthesis (symbol s.CloseParenthesis ∷ us) h = absurd cc
phrase_no_parenthesis (symbol _ ∷ us) h = refl

pub phrase_no_close_brace : (ts : Tokens) → begins_phrase ts ≡ true → is (symbol s.CloseBrace) ts ≡ false
unfolding begins lookup same same_symbol
phrase_no_close_brace [] h = refl
phrase_no_close_brace (name n ∷ us) h = refl
phrase_no_close_brace (prefixed p n ∷ us) h = refl
phrase_no_close_brace (int n ∷ us) h = refl
phrase_no_close_brace (dec n ∷ us) h = refl
phrase_no_close_brace (str n ∷ us) h = refl
phrase_no_close_brace (symbol s.CloseBrace ∷ us) h = absurd cc
phrase_no_close_brace (symbol _ ∷ us) h = refl

pub path_no_sign : (ts : Tokens) → begins_path ts ≡ true → begins g.signs ts ≡ false
unfolding begins lookup same same_symbol
path_no_sign [] h = refl
path_no_sign (name n ∷ us) h = refl
path_no_sign (prefixed p n ∷ us) h = refl
path_no_sign (int n ∷ us) h = refl
path_no_sign (dec n ∷ us) h = refl
path_no_sign (str n ∷ us) h = refl
path_no_sign (symbol s.Plus ∷ us) h = absurd cc
path_no_sign (symbol s.Minus ∷ us) h = absurd cc
path_no_sign (symbol _ ∷ us) h = refl

-- ---- what a phrase that is no FLWOR, no quantified expression and no condition begins with

pub record Plain (ts : Tokens) : Type 0 where
  pub no_flwor : begins_flwor ts ≡ false
  pub no_quantified : begins_quantified ts ≡ false
  pub no_if : begins_if ts ≡ false

-- a name that is a test
pub record NameAlone (n : List ℕ) (ts : Tokens) : Type 0 where
  pub plain : Plain (name n ∷ ts)
  pub no_primary : begins_primary (name n ∷ ts) ≡ false
  pub no_axis : begins_axis (name n ∷ ts) ≡ false
  pub test : begins_name_test (name n ∷ ts) ≡ true

too_high : {X : Type 0} (ts : Tokens) → rank ts ≡ 200 → rank ts < 200 → X
too_high ts e h = absurd (omega (arith, e, h))

pub name_alone : (n : List ℕ) (ts : Tokens) → rank ts < 200 → NameAlone n ts
unfolding begins_flwor begins_quantified begins_if begins_primary begins_literal begins_call begins_make rank rank_of
name_alone n [] h = record { plain = record { no_flwor = refl; no_quantified = refl; no_if = refl }; no_primary = refl; no_axis = refl; test = refl }
name_alone n (name m ∷ ts) h = elim (cases_Bool (begins_brace ts)) [
  | inl b ↦ too_high (name m ∷ ts) (rw b refl) h
  | inr b ↦ record { plain = record { no_flwor = refl; no_quantified = refl; no_if = refl }; no_primary = rw b refl; no_axis = refl; test = refl }
]
name_alone n (prefixed p m ∷ ts) h = too_high (prefixed p m ∷ ts) refl h
name_alone n (int m ∷ ts) h = record { plain = record { no_flwor = refl; no_quantified = refl; no_if = refl }; no_primary = refl; no_axis = refl; test = refl }
name_alone n (dec m ∷ ts) h = record { plain = record { no_flwor = refl; no_quantified = refl; no_if = refl }; no_primary = refl; no_axis = refl; test = refl }
name_alone n (str m ∷ ts) h = record { plain = record { no_flwor = refl; no_quantified = refl; no_if = refl }; no_primary = refl; no_axis = refl; test = refl }
name_alone n (symbol s.OpenParenthesis ∷ ts) h = too_high (symbol s.OpenParenthesis ∷ ts) refl h
name_alone n (symbol s.OpenBrace ∷ ts) h = too_high (symbol s.OpenBrace ∷ ts) refl h
name_alone n (symbol s.Dollar ∷ ts) h = too_high (symbol s.Dollar ∷ ts) refl h
name_alone n (symbol s.DoubleColon ∷ ts) h = too_high (symbol s.DoubleColon ∷ ts) refl h
name_alone n (symbol _ ∷ ts) h = record { plain = record { no_flwor = refl; no_quantified = refl; no_if = refl }; no_primary = refl; no_axis = refl; test = refl }

pub prefixed_alone : (p n : List ℕ) (ts : Tokens) → rank ts < 200 → begins_primary (prefixed p n ∷ ts) ≡ false
unfolding begins_primary begins_literal begins_call begins_make rank rank_of
prefixed_alone p n [] h = refl
prefixed_alone p n (name m ∷ ts) h = refl
prefixed_alone p n (prefixed q m ∷ ts) h = refl
prefixed_alone p n (int m ∷ ts) h = refl
prefixed_alone p n (dec m ∷ ts) h = refl
prefixed_alone p n (str m ∷ ts) h = refl
prefixed_alone p n (symbol s.OpenParenthesis ∷ ts) h = too_high (symbol s.OpenParenthesis ∷ ts) refl h
prefixed_alone p n (symbol _ ∷ ts) h = refl

pub prefixed_plain : (p n : List ℕ) (ts : Tokens) → Plain (prefixed p n ∷ ts)
unfolding begins_flwor begins_quantified begins_if
prefixed_plain p n ts = record { no_flwor = refl; no_quantified = refl; no_if = refl }

-- the word of a kind test
abbrev pub kind_word : Lex → Bool
kind_word t = is_word t && (found (lookup g.no_calls t) && not (same (word "if") t))

pub record KindBegins (t : Lex) (ts : Tokens) : Type 0 where
  pub plain : Plain (t ∷ symbol s.OpenParenthesis ∷ ts)
  pub no_primary : begins_primary (t ∷ symbol s.OpenParenthesis ∷ ts) ≡ false
  pub no_axis : begins_axis (t ∷ symbol s.OpenParenthesis ∷ ts) ≡ false
  pub no_test : begins_name_test (t ∷ symbol s.OpenParenthesis ∷ ts) ≡ false
  pub step : begins_step (t ∷ symbol s.OpenParenthesis ∷ ts) ≡ true

two_true : (b c : Bool) → (b && not c) ≡ true → (b ≡ true) × (c ≡ false)
two_true true false h = (refl, refl)
two_true true true h = absurd cc
two_true false c h = absurd cc

pub kind_begins : (t : Lex) (ts : Tokens) → kind_word t ≡ true → KindBegins t ts
unfolding begins_flwor begins_quantified begins_if begins_primary begins_literal begins_call begins_make same
kind_begins (name n) ts h =
    let both = two_true (found (lookup g.no_calls (name n))) (bytes_eq n (codes "if")) h in
    record {
      plain = record { no_flwor = refl; no_quantified = refl; no_if = both.1 };
      no_primary = rw both.0 refl;
      no_axis = refl;
      no_test = refl;
      step = refl;
    }
kind_begins (prefixed p n) ts h = absurd cc
kind_begins (int n) ts h = absurd cc
kind_begins (dec n) ts h = absurd cc
kind_begins (str n) ts h = absurd cc
kind_begins (symbol n) ts h = absurd cc

-- a call's name isn't `if`
not_if : (b : Bool) (n : List ℕ) → bytes_eq n (codes "if") ≡ b → lookup g.no_calls (name n) ≡ None → b ≡ false
unfolding lookup same
not_if false n e h = refl
not_if true n e h =
    let same_name : n ≡ codes "if" = (bytes_eq-Decides n (codes "if")).0 e in
    let found_if : lookup g.no_calls (name (codes "if")) ≡ None = subst (λ (m : List ℕ). lookup g.no_calls (name m) ≡ None) same_name h in
    absurd (none_some (sym found_if))

pub call_plain : (n : List ℕ) (ts : Tokens) → lookup g.no_calls (name n) ≡ None → Plain (name n ∷ symbol s.OpenParenthesis ∷ ts)
unfolding begins_flwor begins_quantified begins_if
call_plain n ts h = record { no_flwor = refl; no_quantified = refl; no_if = not_if (bytes_eq n (codes "if")) n refl h }

pub name_called : (n : List ℕ) (ts : Tokens) → lookup g.no_calls (name n) ≡ None → (begins_call (name n ∷ symbol s.OpenParenthesis ∷ ts) ≡ true) × (begins_primary (name n ∷ symbol s.OpenParenthesis ∷ ts) ≡ true)
unfolding begins_primary begins_literal begins_call begins_make
name_called n ts h = rw h (refl, refl)
