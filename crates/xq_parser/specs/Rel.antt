-- How the lines of a grammar are written (the notation of XQuery 3.1, appendix A.1.1): each line
-- relates the tokens before a phrase, what the phrase stands for, and the tokens after it.
use Rattle.std.specs.Prelude.{◌≡◌, List, [], ◌∷◌, ◌⊎◌, Option, Some, None}
use Rattle.xq_lexer.specs.Lexeme.{Lex}
use Rattle.xq_parser.specs.Look.{Tokens, Table, lookup}

-- phrases that stand for values of the type
abbrev pub Rel : Type 0 → Type 1
Rel A = Tokens → A → Tokens → Type 0

-- nothing, which stands for the value
abbrev pub empty : {A : Type 0} → A → Rel A
empty x ts a us = (ts ≡ us) × (x ≡ a)

-- one token, which stands for the value
abbrev pub Is : {A : Type 0} → Lex → A → Rel A
Is t x ts a us = (ts ≡ t ∷ us) × (x ≡ a)

-- a token of the table, which stands for what the table says
abbrev pub OneOf : {A : Type 0} → Table A → Rel A
OneOf table ts a us = (t : Lex) × (ts ≡ t ∷ us) × (lookup table t ≡ Some a)

-- one phrase, and then another: `P & Q` stands for the pair of what P and Q stand for
infixr 30 ◌&◌
abbrev pub ◌&◌ : {A B : Type 0} → Rel A → Rel B → Rel (A × B)
(P & Q) ts p us = (mid : Tokens) × P ts p.0 mid × Q mid p.1 us

-- a token before a phrase: `t ▹ P` stands for what P stands for
infixr 30 ◌▹◌
abbrev pub ◌▹◌ : {A : Type 0} → Lex → Rel A → Rel A
(t ▹ P) ts a us = (mid : Tokens) × (ts ≡ t ∷ mid) × P mid a us

-- a token after a phrase: `P ◃ t` stands for what P stands for
infixl 31 ◌◃◌
abbrev pub ◌◃◌ : {A : Type 0} → Rel A → Lex → Rel A
(P ◃ t) ts a us = P ts a (t ∷ us)

-- what a phrase stands for: `f ⟨$⟩ P` stands for `f` of what P stands for
infixr 20 ◌⟨$⟩◌
abbrev pub ◌⟨$⟩◌ : {A B : Type 0} → (A → B) → Rel A → Rel B
(f ⟨$⟩ P) ts b us = (a : _) × P ts a us × (f a ≡ b)

-- either phrase: `P ∣ Q` stands for what P or Q stands for
infixr 10 ◌∣◌
abbrev pub ◌∣◌ : {A : Type 0} → Rel A → Rel A → Rel A
(P ∣ Q) ts a us = P ts a us ⊎ Q ts a us

-- a phrase, or nothing
abbrev pub Maybe : {A : Type 0} → Rel A → Rel (Option A)
Maybe P ts None us = ts ≡ us
Maybe P ts (Some a) us = P ts a us

-- any number of phrases
abbrev pub Many : {A : Type 0} → Rel A → Rel (List A)
Many P ts [] us = ts ≡ us
Many P ts (a ∷ more) us = (mid : Tokens) × P ts a mid × Many P mid more us
