-- Phrases of the grammar over tokens whose texts hold characters of XML: what each stands for has a
-- property, and the tokens after it are such tokens.
use Rattle.std.proofs.Common.{◌≡◌, List, [], ◌∷◌, Option, Some, None, subst, inl, inr}
use Rattle.std.specs.List.{AllByRecursion}
use Rattle.xq_lexer.specs.Lexeme.{Lex, name, prefixed, int, dec, str, symbol}
use Rattle.xq_lexer.specs.declared.tokens.Symbol.TheVariants as s
use Rattle.xq_parser.specs.Look.{Tokens, Table}
use Rattle.xq_parser.specs.Rel.{Rel, empty, Is, OneOf, ◌&◌, ◌▹◌, ◌◃◌, ◌⟨$⟩◌, ◌∣◌, Maybe, Many}
use Rattle.xq_parser.specs.Grammar as g
use Rattle.xq_meaning.specs.Printable.{IsCharacters}

-- the text of a name or of a string literal holds characters
abbrev pub IsLegibleLex : Lex → Type 0
IsLegibleLex (name n) = IsCharacters n
IsLegibleLex (prefixed p n) = IsCharacters n
IsLegibleLex (int n) = Unit {0}
IsLegibleLex (dec m) = Unit {0}
IsLegibleLex (str t) = IsCharacters t
IsLegibleLex (symbol c) = Unit {0}

abbrev pub AreLegibleLexes : Tokens → Type 0
AreLegibleLexes ts = AllByRecursion IsLegibleLex ts

-- what the phrase stands for has the property
pub record Reads {A : Type 0} (G : A → Type 0) (P : Rel A) : Type 0 where
  pub gives : (ts : Tokens) (a : A) (us : Tokens) → P ts a us → AreLegibleLexes ts → G a × AreLegibleLexes us

pub front : (t : Lex) (ts us : Tokens) → ts ≡ t ∷ us → AreLegibleLexes ts → IsLegibleLex t × AreLegibleLexes us
front t ts us e h = subst AreLegibleLexes e h

pub read-& : {A B : Type 0} {G : A → Type 0} {H : B → Type 0} {P : Rel A} {Q : Rel B} → Reads G P → Reads H Q → Reads (λ (p : A × B). G p.0 × H p.1) (P & Q)
read-& p q = record {
  gives = λ ts a us d h.
      let one = p.gives ts a.0 d.0 d.1 h in
      let two = q.gives d.0 a.1 us d.2 one.1 in
      ((one.0, two.0), two.1);
}

pub read-▹ : {A : Type 0} {G : A → Type 0} {P : Rel A} (t : Lex) → Reads G P → Reads G (t ▹ P)
read-▹ t p = record { gives = λ ts a us d h. p.gives d.0 a us d.2 (front t ts d.0 d.1 h).1 }

-- a phrase between two tokens
pub read-between : {A : Type 0} {G : A → Type 0} {P : Rel A} (first last : Lex) → Reads G P → Reads G (first ▹ P ◃ last)
read-between first last p = record {
  gives = λ ts a us d h.
      let r = p.gives d.0 a (last ∷ us) d.2 (front first ts d.0 d.1 h).1 in
      (r.0, r.1.1);
}

pub read-map : {A B : Type 0} {G : A → Type 0} {H : B → Type 0} {P : Rel A} (f : A → B) → Reads G P → ((a : A) → G a → H (f a)) → Reads H (f ⟨$⟩ P)
read-map {H} f p k = record {
  gives = λ ts b us d h.
      let r = p.gives ts d.0 us d.1 h in
      (subst H d.2 (k d.0 r.0), r.1);
}

-- a property that follows from another
pub read-weaker : {A : Type 0} {G H : A → Type 0} {P : Rel A} → Reads G P → ((a : A) → G a → H a) → Reads H P
read-weaker p k = record {
  gives = λ ts a us d h.
      let r = p.gives ts a us d h in
      (k a r.0, r.1);
}

pub read-∣ : {A : Type 0} {G : A → Type 0} {P Q : Rel A} → Reads G P → Reads G Q → Reads G (P ∣ Q)
read-∣ p q = record {
  gives = λ ts a us d h. elim d [ inl one ↦ p.gives ts a us one h | inr other ↦ q.gives ts a us other h ];
}

-- where there is a value, it has the property
abbrev pub MayBe : {A : Type 0} → (A → Type 0) → Option A → Type 0
MayBe G None = Unit {0}
MayBe G (Some a) = G a

maybe_gives : {A : Type 0} (G : A → Type 0) (P : Rel A) → Reads G P → (ts : Tokens) (a : Option A) (us : Tokens) → Maybe P ts a us → AreLegibleLexes ts → MayBe G a × AreLegibleLexes us
maybe_gives G P p ts None us d h = (tt, subst AreLegibleLexes d h)
maybe_gives G P p ts (Some a) us d h = p.gives ts a us d h

pub read-maybe : {A : Type 0} {G : A → Type 0} {P : Rel A} → Reads G P → Reads (MayBe G) (Maybe P)
read-maybe {G} {P} p = record { gives = maybe_gives G P p }

many_gives : {A : Type 0} (G : A → Type 0) (P : Rel A) → Reads G P → (ts : Tokens) (xs : List A) (us : Tokens) → Many P ts xs us → AreLegibleLexes ts → AllByRecursion G xs × AreLegibleLexes us
many_gives G P p ts [] us d h = (tt, subst AreLegibleLexes d h)
many_gives G P p ts (a ∷ more) us d h =
    let one = p.gives ts a d.0 d.1 h in
    let rest = many_gives G P p d.0 more us d.2 one.1 in
    ((one.0, rest.0), rest.1)

pub read-many : {A : Type 0} {G : A → Type 0} {P : Rel A} → Reads G P → Reads (AllByRecursion G) (Many P)
read-many {G} {P} p = record { gives = many_gives G P p }

pub read-empty : {A : Type 0} {G : A → Type 0} (x : A) → G x → Reads G (empty x)
read-empty {G} x k = record { gives = λ ts a us d h. (subst G d.1 k, subst AreLegibleLexes d.0 h) }

pub read-is : {A : Type 0} {G : A → Type 0} (t : Lex) (x : A) → G x → Reads G (Is t x)
read-is {G} t x k = record { gives = λ ts a us d h. (subst G d.1 k, (front t ts us d.0 h).1) }

-- nothing is asked of what a table says
pub read-one_of : {A : Type 0} (table : Table A) → Reads (λ (a : A). Unit {0}) (OneOf table)
read-one_of table = record { gives = λ ts a us d h. (tt, (front d.0 ts us d.1 h).1) }

pub read-commas : {A : Type 0} {G : A → Type 0} {P : Rel A} → Reads G P → Reads (AllByRecursion G) (g.Commas P)
read-commas p = read-map _ (read-& p (read-many (read-▹ (symbol s.Comma) p))) (λ q h. h)
