-- Nothing that is derived leaves the number of nested constructs lower than it was.
use Rattle.std.proofs.Common.{◌≡◌, ℕ, ◌+◌, ◌≤◌, max, Bool, true, false, List, [], ◌∷◌, length, Some, None, refl, ap, subst, arith, inl, inr, ◌⊎◌}
use Rattle.std.specs.Prelude.{codes}
use Rattle.std.specs.Str.{bytes_eq}
use Rattle.std.proofs.lemmas.Bool.{cases_Bool}
use Rattle.xq_lexer.specs.Lexeme.{Lex, name, prefixed, int, dec, str, symbol}
use Rattle.xq_lexer.specs.declared.tokens.Symbol.TheVariants as s
use Rattle.xq_lexer.specs.Nesting.{change, changed, greatest, is_binder}
use Rattle.xq_parser.specs.Look.{Tokens, Table}
use Rattle.xq_parser.specs.Rel.{Rel, empty, Is, OneOf, ◌&◌, ◌▹◌, ◌◃◌, ◌⟨$⟩◌, ◌∣◌, Maybe, Many}
use Rattle.xq_parser.proofs.Tokens.{every, every_found}

-- From these tokens on the number stays at most `top`.
abbrev pub Under : ℕ → ℕ → List ℕ → Tokens → Type 0
Under top k saved ts = greatest k saved ts ≤ top

pub record Moves (ts us : Tokens) : Type 0 where
  pub shorter : length us ≤ length ts
  pub passes : (top k : ℕ) (saved : List ℕ) → Under top k saved ts → (after : ℕ) × (k ≤ after) × Under top after saved us

abbrev pub AllMove : {A : Type 0} → Rel A → Type 0
AllMove {A} P = (ts : Tokens) (a : A) (us : Tokens) → P ts a us → Moves ts us

pub stays : (ts us : Tokens) → ts ≡ us → Moves ts us
stays ts us e = subst (λ (x : Tokens). Moves ts x) e (record { shorter = omega arith; passes = λ top k saved h. (k, omega arith, h) })

pub then : (ts us vs : Tokens) → Moves ts us → Moves us vs → Moves ts vs
then ts us vs p q = record {
  shorter = let a = p.shorter in let b = q.shorter in omega arith;
  passes = λ top k saved h.
      let one = p.passes top k saved h in
      let two = q.passes top one.0 saved one.2 in
      (two.0, (let a : k ≤ one.0 = one.1 in let b : one.0 ≤ two.0 = two.1 in omega arith), two.2);
}

-- what a token does to the number and those saved, before the tokens that follow it
abbrev pub next : ℕ → List ℕ → Lex → Tokens → ℕ × List ℕ
next k saved t ts = changed (change t ts) k saved

abbrev pub Keeps : Lex → Tokens → Type 0
Keeps t ts = (k : ℕ) (saved : List ℕ) → next k saved t ts ≡ (k, saved)

abbrev pub Deepens : Lex → Tokens → Type 0
Deepens t ts = (k : ℕ) (saved : List ℕ) → next k saved t ts ≡ (k + 1, saved)

abbrev pub Opens : Lex → Type 0
Opens t = (ts : Tokens) (k : ℕ) (saved : List ℕ) → next k saved t ts ≡ (k + 1, k ∷ saved)

abbrev pub Closes : Lex → Type 0
Closes t = (ts : Tokens) (k j : ℕ) (saved : List ℕ) → next k (j ∷ saved) t ts ≡ (j, saved)

-- a token that opens and closes nothing
abbrev pub IsPlain : Lex → Type 0
IsPlain t = (ts : Tokens) → Keeps t ts ⊎ Deepens t ts

pub greatest-at : (k : ℕ) (saved : List ℕ) (t : Lex) (ts : Tokens) (j : ℕ) (left : List ℕ) → next k saved t ts ≡ (j, left) → greatest k saved (t ∷ ts) ≡ max k (greatest j left ts)
greatest-at k saved t ts j left e = ap (λ (x : ℕ × List ℕ). max k (greatest x.0 x.1 ts)) e

pub token : (t : Lex) (ts : Tokens) → IsPlain t → Moves (t ∷ ts) ts
token t ts plain = record {
  shorter = omega arith;
  passes = λ top k saved h. elim (plain ts) [
    | inl e ↦ (k, omega arith, (let g = greatest-at k saved t ts k saved (e k saved) in omega (arith, h, g)))
    | inr e ↦ (k + 1, omega arith, (let g = greatest-at k saved t ts (k + 1) saved (e k saved) in omega (arith, h, g)))
  ];
}

pub brackets : (first last : Lex) (ts us : Tokens) → Opens first → Closes last → Moves ts (last ∷ us) → Moves (first ∷ ts) us
brackets first last ts us o c m = record {
  shorter = let a = m.shorter in omega arith;
  passes = λ top k saved h.
      let g = greatest-at k saved first ts (k + 1) (k ∷ saved) (o ts k saved) in
      let inside = m.passes top (k + 1) (k ∷ saved) (omega (arith, h, g)) in
      let g2 = greatest-at inside.0 (k ∷ saved) last us k saved (c us inside.0 k saved) in
      (k, omega arith, omega (arith, inside.2, g2));
}

-- ---- tokens that open and close nothing

pub plain-name : (n : List ℕ) → IsPlain (name n)
plain-name n [] = inl (λ k saved. refl)
plain-name n (symbol s.Dollar ∷ ts) = elim (cases_Bool (is_binder n)) [ inl e ↦ inr (λ k saved. rw e refl) | inr e ↦ inl (λ k saved. rw e refl) ]
plain-name n (symbol s.OpenParenthesis ∷ ts) = elim (cases_Bool (bytes_eq n (codes "if"))) [ inl e ↦ inr (λ k saved. rw e refl) | inr e ↦ inl (λ k saved. rw e refl) ]
plain-name n (symbol _ ∷ ts) = inl (λ k saved. refl)
plain-name n (name m ∷ ts) = inl (λ k saved. refl)
plain-name n (prefixed p m ∷ ts) = inl (λ k saved. refl)
plain-name n (int m ∷ ts) = inl (λ k saved. refl)
plain-name n (dec m ∷ ts) = inl (λ k saved. refl)
plain-name n (str m ∷ ts) = inl (λ k saved. refl)

-- the brackets aside, every token
abbrev pub is_plain : Lex → Bool
is_plain (symbol s.OpenParenthesis) = false
is_plain (symbol s.OpenBracket) = false
is_plain (symbol s.OpenBrace) = false
is_plain (symbol s.CloseParenthesis) = false
is_plain (symbol s.CloseBracket) = false
is_plain (symbol s.CloseBrace) = false
is_plain _ = true

pub plain : (t : Lex) → is_plain t ≡ true → IsPlain t
plain (name n) h = plain-name n
plain (prefixed p n) h = λ ts. inl (λ k saved. refl)
plain (int n) h = λ ts. inl (λ k saved. refl)
plain (dec n) h = λ ts. inl (λ k saved. refl)
plain (str n) h = λ ts. inl (λ k saved. refl)
plain (symbol s.OpenParenthesis) h = absurd cc
plain (symbol s.OpenBracket) h = absurd cc
plain (symbol s.OpenBrace) h = absurd cc
plain (symbol s.CloseParenthesis) h = absurd cc
plain (symbol s.CloseBracket) h = absurd cc
plain (symbol s.CloseBrace) h = absurd cc
plain (symbol _) h = λ ts. inl (λ k saved. refl)

pub one : (t : Lex) (ts us : Tokens) → is_plain t ≡ true → ts ≡ t ∷ us → Moves ts us
one t ts us p d = then ts (t ∷ us) us (stays ts (t ∷ us) d) (token t us (plain t p))

-- ---- for each way to put a line together

pub move-& : {A B : Type 0} (P : Rel A) (Q : Rel B) → AllMove P → AllMove Q → AllMove (P & Q)
move-& P Q p q ts a us d = then ts d.0 us (p ts a.0 d.0 d.1) (q d.0 a.1 us d.2)

pub move-▹ : {A : Type 0} (t : Lex) (P : Rel A) → is_plain t ≡ true → AllMove P → AllMove (t ▹ P)
move-▹ t P h p ts a us d = then ts d.0 us (one t ts d.0 h d.1) (p d.0 a us d.2)

pub move-map : {A B : Type 0} (f : A → B) (P : Rel A) → AllMove P → AllMove (f ⟨$⟩ P)
move-map f P p ts a us d = p ts d.0 us d.1

pub move-∣ : {A : Type 0} (P Q : Rel A) → AllMove P → AllMove Q → AllMove (P ∣ Q)
move-∣ P Q p q ts a us (inl d) = p ts a us d
move-∣ P Q p q ts a us (inr d) = q ts a us d

pub move-maybe : {A : Type 0} (P : Rel A) → AllMove P → AllMove (Maybe P)
move-maybe P p ts None us d = stays ts us d
move-maybe P p ts (Some a) us d = p ts a us d

pub move-many : {A : Type 0} (P : Rel A) → AllMove P → AllMove (Many P)
move-many P p ts [] us d = stays ts us d
move-many P p ts (a ∷ more) us d = then ts d.0 us (p ts a d.0 d.1) (move-many P p d.0 more us d.2)

pub move-empty : {A : Type 0} (x : A) → AllMove (empty x)
move-empty x ts a us d = stays ts us d.0

pub move-is : {A : Type 0} (t : Lex) (x : A) → is_plain t ≡ true → AllMove (Is t x)
move-is t x p ts a us d = one t ts us p d.0

pub move-one_of : {A : Type 0} (table : Table A) → every is_plain table ≡ true → AllMove (OneOf table)
move-one_of table all ts a us d = one d.0 ts us (every_found is_plain table d.0 a all d.2) d.1

-- a phrase between an opening and a closing token
pub move-between : {A : Type 0} (first last : Lex) (P : Rel A) → Opens first → Closes last → AllMove P → AllMove (first ▹ P ◃ last)
move-between first last P o c p ts a us d = then ts (first ∷ d.0) us (stays ts (first ∷ d.0) d.1) (brackets first last d.0 us o c (p d.0 a (last ∷ us) d.2))
