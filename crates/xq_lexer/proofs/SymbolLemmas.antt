-- Symbols: the longest is read, and what is read is one.
use Rattle.std.proofs.Common.{◌≡◌, ℕ, ◌≤◌, Bool, true, false, cond, List, [], ◌∷◌, ◌++◌, length, Option, Some, None, Result, Ok, Err, refl, sym, ap, subst, ◌∙◌, arith, ◌⊎◌, inl, inr}
use Rattle.std.specs.Prelude.{◌&&◌, ◌==◌}
use Rattle.std.proofs.lemmas.Bool.{and_parts}
use borrow.Author.Clash.{clash}
use Rattle.xq_atoms.specs.declared.refusals.Code.{Code}
use Rattle.xq_lexer.specs.declared.tokens.Symbol.{Symbol}
use Rattle.xq_lexer.specs.declared.tokens.Symbol.TheVariants as s
use Rattle.xq_atoms.specs.Characters.{is_digit, is_name_start}
use Rattle.xq_lexer.specs.Chars.{Text, is_quote, begins}
use Rattle.xq_lexer.specs.Literals.{decimal}
use Rattle.xq_lexer.specs.Spelling.{Form, number, symbol, symbol_text, form_text, IsForm, IsLongest}
use Rattle.xq_lexer.specs.Reading.{look_up, singles, single_symbol, look_up_two, doubles, double_symbol, or_single, read_symbol, begins_number}
use Rattle.xq_lexer.proofs.Classes.{eq_is}
use Rattle.xq_lexer.proofs.Forms.{longer, begins_none}

-- what begins a symbol begins no other token, but for a point before a digit
abbrev pub IsSign : ℕ → Type 0
IsSign c = (is_name_start c ≡ false) × (is_digit c ≡ false) × (is_quote c ≡ false)

pub record Single (x : Symbol) : Type 0 where
  pub char : ℕ
  pub text : symbol_text x ≡ char ∷ []
  pub listed : single_symbol char ≡ Some x
  pub sign : IsSign char

pub record Double (x : Symbol) : Type 0 where
  pub char : ℕ
  pub next : ℕ
  pub text : symbol_text x ≡ char ∷ next ∷ []
  pub listed : double_symbol char next ≡ Some x
  pub sign : IsSign char
  pub no_digit : is_digit next ≡ false

pub row_of : (x : Symbol) → Single x ⊎ Double x
unfolding is_name_start
row_of s.OpenParenthesis = inl (record { char = 40; text = refl; listed = refl; sign = (refl, refl, refl) })
row_of s.CloseParenthesis = inl (record { char = 41; text = refl; listed = refl; sign = (refl, refl, refl) })
row_of s.OpenBracket = inl (record { char = 91; text = refl; listed = refl; sign = (refl, refl, refl) })
row_of s.CloseBracket = inl (record { char = 93; text = refl; listed = refl; sign = (refl, refl, refl) })
row_of s.OpenBrace = inl (record { char = 123; text = refl; listed = refl; sign = (refl, refl, refl) })
row_of s.CloseBrace = inl (record { char = 125; text = refl; listed = refl; sign = (refl, refl, refl) })
row_of s.Comma = inl (record { char = 44; text = refl; listed = refl; sign = (refl, refl, refl) })
row_of s.Dollar = inl (record { char = 36; text = refl; listed = refl; sign = (refl, refl, refl) })
row_of s.Slash = inl (record { char = 47; text = refl; listed = refl; sign = (refl, refl, refl) })
row_of s.Dot = inl (record { char = 46; text = refl; listed = refl; sign = (refl, refl, refl) })
row_of s.At = inl (record { char = 64; text = refl; listed = refl; sign = (refl, refl, refl) })
row_of s.Star = inl (record { char = 42; text = refl; listed = refl; sign = (refl, refl, refl) })
row_of s.Plus = inl (record { char = 43; text = refl; listed = refl; sign = (refl, refl, refl) })
row_of s.Minus = inl (record { char = 45; text = refl; listed = refl; sign = (refl, refl, refl) })
row_of s.Equal = inl (record { char = 61; text = refl; listed = refl; sign = (refl, refl, refl) })
row_of s.Less = inl (record { char = 60; text = refl; listed = refl; sign = (refl, refl, refl) })
row_of s.Greater = inl (record { char = 62; text = refl; listed = refl; sign = (refl, refl, refl) })
row_of s.Bar = inl (record { char = 124; text = refl; listed = refl; sign = (refl, refl, refl) })
row_of s.Bang = inl (record { char = 33; text = refl; listed = refl; sign = (refl, refl, refl) })
row_of s.Assign = inr (record { char = 58; next = 61; text = refl; listed = refl; sign = (refl, refl, refl); no_digit = refl })
row_of s.DoubleColon = inr (record { char = 58; next = 58; text = refl; listed = refl; sign = (refl, refl, refl); no_digit = refl })
row_of s.DoubleSlash = inr (record { char = 47; next = 47; text = refl; listed = refl; sign = (refl, refl, refl); no_digit = refl })
row_of s.DoubleDot = inr (record { char = 46; next = 46; text = refl; listed = refl; sign = (refl, refl, refl); no_digit = refl })
row_of s.NotEqual = inr (record { char = 33; next = 61; text = refl; listed = refl; sign = (refl, refl, refl); no_digit = refl })
row_of s.LessEqual = inr (record { char = 60; next = 61; text = refl; listed = refl; sign = (refl, refl, refl); no_digit = refl })
row_of s.GreaterEqual = inr (record { char = 62; next = 61; text = refl; listed = refl; sign = (refl, refl, refl); no_digit = refl })
row_of s.Precedes = inr (record { char = 60; next = 60; text = refl; listed = refl; sign = (refl, refl, refl); no_digit = refl })
row_of s.Follows = inr (record { char = 62; next = 62; text = refl; listed = refl; sign = (refl, refl, refl); no_digit = refl })
row_of s.DoubleBar = inr (record { char = 124; next = 124; text = refl; listed = refl; sign = (refl, refl, refl); no_digit = refl })
row_of s.Arrow = inr (record { char = 61; next = 62; text = refl; listed = refl; sign = (refl, refl, refl); no_digit = refl })

-- ---- what is listed is spelled so

abbrev SinglesSpelled : List (ℕ × Symbol) → Type 0
SinglesSpelled [] = Unit {0}
SinglesSpelled (row ∷ rows) = (symbol_text row.1 ≡ row.0 ∷ []) × SinglesSpelled rows

look_up_at : (c : ℕ) (row : ℕ × Symbol) (rows : List (ℕ × Symbol)) (b : Bool) → (c == row.0) ≡ b → symbol_text row.1 ≡ row.0 ∷ [] → ((x : Symbol) → look_up c rows ≡ Some x → symbol_text x ≡ c ∷ [])
    → (x : Symbol) → cond b (Some row.1) (look_up c rows) ≡ Some x → symbol_text x ≡ c ∷ []
look_up_at c row rows true e text more x h = let same : row.1 ≡ x = cc in ap symbol_text (sym same) ∙ text ∙ ap (λ c. c ∷ []) (sym (eq_is c row.0 e))
look_up_at c row rows false e text more x h = more x h

look_up_spelled : (c : ℕ) (rows : List (ℕ × Symbol)) → SinglesSpelled rows → (x : Symbol) → look_up c rows ≡ Some x → symbol_text x ≡ c ∷ []
look_up_spelled c [] all x h = absurd cc
look_up_spelled c (row ∷ rows) all x h = look_up_at c row rows (c == row.0) refl all.0 (look_up_spelled c rows all.1) x h

pub single_spelled : (c : ℕ) (x : Symbol) → single_symbol c ≡ Some x → symbol_text x ≡ c ∷ []
single_spelled c x h = look_up_spelled c singles ((refl, (refl, (refl, (refl, (refl, (refl, (refl, (refl, (refl, (refl, (refl, (refl, (refl, (refl, (refl, (refl, (refl, (refl, (refl, tt)))))))))))))))))))) x h

abbrev DoublesSpelled : List (ℕ × ℕ × Symbol) → Type 0
DoublesSpelled [] = Unit {0}
DoublesSpelled (row ∷ rows) = (symbol_text row.2 ≡ row.0 ∷ row.1 ∷ []) × DoublesSpelled rows

look_up_two_at : (a b : ℕ) (row : ℕ × ℕ × Symbol) (rows : List (ℕ × ℕ × Symbol)) (p : Bool) → (a == row.0 && b == row.1) ≡ p → symbol_text row.2 ≡ row.0 ∷ row.1 ∷ []
    → ((x : Symbol) → look_up_two a b rows ≡ Some x → symbol_text x ≡ a ∷ b ∷ [])
    → (x : Symbol) → cond p (Some row.2) (look_up_two a b rows) ≡ Some x → symbol_text x ≡ a ∷ b ∷ []
look_up_two_at a b row rows true e text more x h =
    let same : row.2 ≡ x = cc in
    let t = and_parts (a == row.0) (b == row.1) e in
    ap symbol_text (sym same) ∙ text ∙ ap (λ c. c ∷ row.1 ∷ []) (sym (eq_is a row.0 t.0)) ∙ ap (λ c. a ∷ c ∷ []) (sym (eq_is b row.1 t.1))
look_up_two_at a b row rows false e text more x h = more x h

look_up_two_spelled : (a b : ℕ) (rows : List (ℕ × ℕ × Symbol)) → DoublesSpelled rows → (x : Symbol) → look_up_two a b rows ≡ Some x → symbol_text x ≡ a ∷ b ∷ []
look_up_two_spelled a b [] all x h = absurd cc
look_up_two_spelled a b (row ∷ rows) all x h = look_up_two_at a b row rows (a == row.0 && b == row.1) refl all.0 (look_up_two_spelled a b rows all.1) x h

pub double_spelled : (a b : ℕ) (x : Symbol) → double_symbol a b ≡ Some x → symbol_text x ≡ a ∷ b ∷ []
double_spelled a b x h = look_up_two_spelled a b doubles ((refl, (refl, (refl, (refl, (refl, (refl, (refl, (refl, (refl, (refl, (refl, tt)))))))))))) x h

-- ---- the longest symbol is read

abbrev Read : Type 0
Read = Result (Form × Text) Code

-- behind a single symbol nothing stands that makes it a double one
no_double : (x : Symbol) (r : Single x) (b : ℕ) (t : Text) → IsLongest (symbol x) (b ∷ t) → double_symbol r.char b ≡ None
no_double x r b t best = go (double_symbol r.char b) refl
  where
    go : (o : Option Symbol) → double_symbol r.char b ≡ o → o ≡ None
    go None e = refl
    go (Some y) e =
        let text = double_spelled r.char b y e in
        let l1 = ap length r.text in
        let l2 = ap length text in
        absurd (longer (symbol x) (b ∷ t) best (symbol y) t tt (ap (λ (u : Text). u ++ t) text ∙ ap (λ (u : Text). u ++ b ∷ t) (sym r.text)) (omega (arith, l1, l2)))

single_at : (x : Symbol) (r : Single x) (after : Text) → IsLongest (symbol x) after → ◌≡◌ {A = Read} (read_symbol (r.char ∷ after)) (Ok (symbol x, after))
unfolding read_symbol
single_at x r [] best = rw r.listed refl
single_at x r (b ∷ t) best = rw (no_double x r b t best, r.listed) refl

double_at : (x : Symbol) (r : Double x) (after : Text) → ◌≡◌ {A = Read} (read_symbol (r.char ∷ r.next ∷ after)) (Ok (symbol x, after))
unfolding read_symbol
double_at x r after = rw r.listed refl

-- a point isn't followed by a digit
no_number_at : (c : ℕ) (after : Text) → is_digit c ≡ false → ((c == 46) ≡ true → begins is_digit after ≡ false) → begins_number (c ∷ after) ≡ false
no_number_at c after d h = go (c == 46) refl
  where
    go : (b : Bool) → (c == 46) ≡ b → begins_number (c ∷ after) ≡ false
    go true e = rw (d, e, h e) refl
    go false e = rw (d, e) refl

point_alone : (x : Symbol) (r : Single x) (after : Text) → IsLongest (symbol x) after → (r.char == 46) ≡ true → begins is_digit after ≡ false
point_alone x r after best e = begins_none is_digit after (λ d t is p.
    let l = ap length r.text in
    let dp : (is_digit d && true) ≡ true = rw p refl in
    longer (symbol x) after best (number (decimal [] (d ∷ []))) t (refl, dp, omega arith) (ap (λ c. c ∷ d ∷ t) (sym (eq_is r.char 46 e)) ∙ ap (λ (u : Text). r.char ∷ u) (sym is) ∙ ap (λ (u : Text). u ++ after) (sym r.text)) (omega (arith, l)))

-- a symbol that is the longest at its place: how it begins, and that it is read
pub record SymbolHere (x : Symbol) (after : Text) : Type 0 where
  pub char : ℕ
  pub rest : Text
  pub whole : symbol_text x ++ after ≡ char ∷ rest
  pub sign : IsSign char
  pub no_number : begins_number (char ∷ rest) ≡ false
  pub read : read_symbol (char ∷ rest) ≡ Ok (symbol x, after)

pub symbol_here : (x : Symbol) (after : Text) → IsLongest (symbol x) after → SymbolHere x after
symbol_here x after best = elim (row_of x) [
  | inl r ↦ record {
    char = r.char;
    rest = after;
    whole = ap (λ (u : Text). u ++ after) r.text;
    sign = r.sign;
    no_number = no_number_at r.char after r.sign.1 (point_alone x r after best);
    read = single_at x r after best;
  }
  | inr r ↦ record {
    char = r.char;
    rest = r.next ∷ after;
    whole = ap (λ (u : Text). u ++ after) r.text;
    sign = r.sign;
    no_number = no_number_at r.char (r.next ∷ after) r.sign.1 (λ e. r.no_digit);
    read = double_at x r after;
  }
]

-- ---- what is read is a symbol at the front

pub read_spelled : (z : Text) (f : Form) (after : Text) → read_symbol z ≡ Ok (f, after) → (form_text f ++ after ≡ z) × IsForm f × ((x : Symbol) × (f ≡ symbol x))
unfolding read_symbol
read_spelled [] f after h = absurd cc
read_spelled (a ∷ []) f after h = go (single_symbol a) refl h
  where
    go : (o : Option Symbol) → single_symbol a ≡ o → or_single None o [] [] ≡ Ok (f, after) → (form_text f ++ after ≡ a ∷ []) × IsForm f × ((x : Symbol) × (f ≡ symbol x))
    go None e h = absurd cc
    go (Some x) e h =
        let pair : ◌≡◌ {A = Form × Text} (symbol x, []) (f, after) = cc in
        subst (λ (p : Form × Text). (form_text p.0 ++ p.1 ≡ a ∷ []) × IsForm p.0 × ((x : Symbol) × (p.0 ≡ symbol x))) pair (ap (λ (u : Text). u ++ []) (single_spelled a x e), tt, (x, refl))
read_spelled (a ∷ b ∷ t) f after h = go (double_symbol a b) refl (single_symbol a) refl h
  where
    go : (o : Option Symbol) → double_symbol a b ≡ o → (p : Option Symbol) → single_symbol a ≡ p → or_single o p t (b ∷ t) ≡ Ok (f, after) → (form_text f ++ after ≡ a ∷ b ∷ t) × IsForm f × ((x : Symbol) × (f ≡ symbol x))
    go None e None k h = absurd cc
    go None e (Some x) k h =
        let pair : ◌≡◌ {A = Form × Text} (symbol x, b ∷ t) (f, after) = cc in
        subst (λ (p : Form × Text). (form_text p.0 ++ p.1 ≡ a ∷ b ∷ t) × IsForm p.0 × ((x : Symbol) × (p.0 ≡ symbol x))) pair (ap (λ (u : Text). u ++ b ∷ t) (single_spelled a x k), tt, (x, refl))
    go (Some x) e p k h =
        let pair : ◌≡◌ {A = Form × Text} (symbol x, t) (f, after) = cc in
        subst (λ (p : Form × Text). (form_text p.0 ++ p.1 ≡ a ∷ b ∷ t) × IsForm p.0 × ((x : Symbol) × (p.0 ≡ symbol x))) pair (ap (λ (u : Text). u ++ t) (double_spelled a b x e), tt, (x, refl))

-- ---- where a symbol stands, one is read that is no shorter

abbrev pub Longer : ℕ → Read → Type 0
Longer n (Ok x) = n ≤ length (form_text x.0)
Longer n (Err c) = ⊥

single_longer : (x : Symbol) (r : Single x) (rest : Text) → Longer 1 (read_symbol (r.char ∷ rest))
unfolding read_symbol
single_longer x r [] = let l = ap length r.text in rw r.listed (omega (arith, l))
single_longer x r (b ∷ t) = rw r.listed (go (double_symbol r.char b) refl)
  where
    go : (o : Option Symbol) → double_symbol r.char b ≡ o → Longer 1 (or_single o (Some x) t (b ∷ t))
    go None e = let l = ap length r.text in omega (arith, l)
    go (Some y) e = let l = ap length (double_spelled r.char b y e) in omega (arith, l)

-- how a symbol begins, and what is read where it does
pub record SymbolThere (x : Symbol) (rest : Text) : Type 0 where
  pub char : ℕ
  pub more : Text
  pub whole : symbol_text x ++ rest ≡ char ∷ more
  pub sign : IsSign char
  pub short : begins_number (char ∷ more) ≡ true → length (symbol_text x) ≡ 1
  pub read : Longer (length (symbol_text x)) (read_symbol (char ∷ more))

pub symbol_there : (x : Symbol) (rest : Text) → SymbolThere x rest
symbol_there x rest = elim (row_of x) [
  | inl r ↦ record {
    char = r.char;
    more = rest;
    whole = ap (λ (u : Text). u ++ rest) r.text;
    sign = r.sign;
    short = λ e. ap length r.text;
    read = rw r.text (single_longer x r rest);
  }
  | inr r ↦ record {
    char = r.char;
    more = r.next ∷ rest;
    whole = ap (λ (u : Text). u ++ rest) r.text;
    sign = r.sign;
    short = λ e. clash (begins_number (r.char ∷ r.next ∷ rest)) e (no_number_at r.char (r.next ∷ rest) r.sign.1 (λ e. r.no_digit));
    read = rw (double_at x r rest) (omega arith);
  }
]
