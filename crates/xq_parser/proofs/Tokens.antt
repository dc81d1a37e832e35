-- Tables of tokens.
use Rattle.std.proofs.Common.{◌≡◌, ℕ, Bool, true, false, cond, List, [], ◌∷◌, Option, Some, None, refl, sym, ap, subst, rules, inl, inr, ◌⊎◌}
use Rattle.std.specs.Prelude.{◌&&◌}
use Rattle.std.proofs.lemmas.Slice.Eq.{bytes_eq-Decides}
use Rattle.std.proofs.lemmas.Bool.{and_parts}
use denote.Enum.Bare.{same_true}
use Rattle.xq_lexer.specs.contracts.tokens.Symbol.{the_type}
use Rattle.xq_lexer.specs.Lexeme.{Lex, name, prefixed, int, dec, str, symbol}
use Rattle.xq_parser.specs.Look.{Table, lookup, same, same_symbol}

pub chosen : {X : Type 0} (b : Bool) (x y z : X) → cond b x y ≡ z → ((b ≡ true) × (x ≡ z)) ⊎ ((b ≡ false) × (y ≡ z))
chosen true x y z h = inl (refl, h)
chosen false x y z h = inr (refl, h)

pub some_is : {A : Type 0} {x y : A} → ◌≡◌ {A = Option A} (Some x) (Some y) → x ≡ y
some_is h = cc

pub none_some : {A : Type 0} {y : A} → ◌≡◌ {A = Option A} None (Some y) → ⊥
none_some h = cc

pub same_is : (t u : Lex) → same t u ≡ true → t ≡ u
unfolding same same_symbol
same_is (name n) (name m) h = ap (λ (c : List ℕ). name c) (sym ((bytes_eq-Decides m n).0 h))
same_is (symbol a) (symbol b) h = ap (λ c. symbol c) (sym (same_true the_type (search rules) b a h))
same_is (name n) (prefixed p m) h = absurd cc
same_is (name n) (int i) h = absurd cc
same_is (name n) (dec i) h = absurd cc
same_is (name n) (str i) h = absurd cc
same_is (name n) (symbol i) h = absurd cc
same_is (symbol n) (name m) h = absurd cc
same_is (symbol n) (prefixed p m) h = absurd cc
same_is (symbol n) (int i) h = absurd cc
same_is (symbol n) (dec i) h = absurd cc
same_is (symbol n) (str i) h = absurd cc
same_is (prefixed p n) u h = absurd cc
same_is (int n) u h = absurd cc
same_is (dec n) u h = absurd cc
same_is (str n) u h = absurd cc

-- whether the test holds of each token of the table
abbrev pub every : {A : Type 0} → (Lex → Bool) → Table A → Bool
every test [] = true
every test (entry ∷ more) = test entry.0 && every test more

pub every_found : {A : Type 0} (test : Lex → Bool) (table : Table A) (t : Lex) (a : A) → every test table ≡ true → lookup table t ≡ Some a → test t ≡ true
unfolding lookup
every_found test [] t a all h = absurd (none_some h)
every_found test (entry ∷ more) t a all h =
    let each = and_parts (test entry.0) (every test more) all in
    elim (chosen (same entry.0 t) _ _ _ h) [
      | inl p ↦ subst (λ (u : Lex). test u ≡ true) (same_is entry.0 t p.0) each.0
      | inr p ↦ every_found test more t a each.1 p.1
    ]

pub only_gives : {A : Type 0} (t u : Lex) (a x : A) → lookup ((t, a) ∷ []) u ≡ Some x → (t ≡ u) × (a ≡ x)
unfolding lookup
only_gives t u a x h = elim (chosen (same t u) _ _ _ h) [
  | inl p ↦ (same_is t u p.0, some_is p.1)
  | inr p ↦ absurd (none_some p.1)
]
