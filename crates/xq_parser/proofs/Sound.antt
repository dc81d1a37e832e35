-- What is read is derived: for each way to put a line together.
use Rattle.std.proofs.Common.{◌≡◌, ℕ, zero, suc, Bool, [], ◌∷◌, length, Option, Some, None, refl, sym, ap, subst, ◌∙◌, inl, inr}
use Rattle.xq_lexer.specs.Lexeme.{Lex}
use Rattle.xq_parser.specs.Look.{Tokens, Table, lookup}
use Rattle.xq_parser.specs.Rel.{Rel, empty, Is, OneOf, ◌&◌, ◌▹◌, ◌◃◌, ◌⟨$⟩◌, ◌∣◌, Maybe, Many}
use Rattle.xq_parser.specs.private.Reading.{Outcome, Parser, and_then, one_of, expect, only, with_rest, pure, both, mapped, after, before, choose, maybe, many, many_from}
use Rattle.xq_parser.proofs.Tokens.{chosen, some_is, none_some, only_gives}

abbrev pub IsSound : {A : Type 0} → Rel A → Parser A → Type 0
IsSound {A} P p = (ts : Tokens) (a : A) (us : Tokens) → p ts ≡ Some (a, us) → P ts a us

bind_some : {A B : Type 0} (o : Outcome A) (f : A → Parser B) (y : B × Tokens) → and_then o f ≡ Some y → (x : A × Tokens) × (o ≡ Some x) × (f x.0 x.1 ≡ Some y)
bind_some (Some x) f y h = (x, refl, h)
bind_some None f y h = absurd (none_some h)

-- after a value that was computed, the end
pub at_end : {A : Type 0} (P : Rel A) (ts : Tokens) (a : A) (us : Tokens) (b : A) (vs : Tokens) → ◌≡◌ {A = Outcome A} (Some (b, vs)) (Some (a, us)) → P ts b vs → P ts a us
at_end {A} P ts a us b vs h p = subst (λ (x : A × Tokens). P ts x.0 x.1) (some_is h) p

with_rest_some : {A : Type 0} (o : Option A) (ts : Tokens) (a : A) (us : Tokens) → with_rest o ts ≡ Some (a, us) → (o ≡ Some a) × (ts ≡ us)
with_rest_some {A} (Some b) ts a us h = (ap (λ (x : A × Tokens). Some x.0) (some_is h), ap (λ (x : A × Tokens). x.1) (some_is h))
with_rest_some None ts a us h = absurd (none_some h)

pub sound-one_of : {A : Type 0} (table : Table A) → IsSound (OneOf table) (one_of table)
unfolding one_of
sound-one_of table [] a us h = absurd (none_some h)
sound-one_of table (t ∷ ts) a us h = let w = with_rest_some (lookup table t) ts a us h in (t, ap (λ (vs : Tokens). t ∷ vs) w.1, w.0)

pub expect_sound : (t : Lex) (ts : Tokens) (x : Unit {0} × Tokens) → expect t ts ≡ Some x → ts ≡ t ∷ x.1
expect_sound t ts x h = let w = sound-one_of (only t) ts x.0 x.1 h in w.1 ∙ ap (λ (u : Lex). u ∷ x.1) (sym (only_gives t w.0 tt x.0 w.2).0)

pub sound-is : {A : Type 0} (t : Lex) (a : A) → IsSound (Is t a) (one_of ((t, a) ∷ []))
sound-is t b ts a us h =
    let w = sound-one_of ((t, b) ∷ []) ts a us h in
    let same = only_gives t w.0 b a w.2 in
    (w.1 ∙ ap (λ (u : Lex). u ∷ us) (sym same.0), same.1)

pub sound-pure : {A : Type 0} (a : A) → IsSound (empty a) (pure a)
sound-pure {A} b ts a us h = (ap (λ (x : A × Tokens). x.1) (some_is h), ap (λ (x : A × Tokens). x.0) (some_is h))

pub sound-both : {A B : Type 0} (P : Rel A) (Q : Rel B) (p : Parser A) (q : Parser B) → IsSound P p → IsSound Q q → IsSound (P & Q) (both p q)
sound-both P Q p q sp sq ts a us h =
    let one = bind_some _ _ _ h in
    let two = bind_some _ _ _ one.2 in
    at_end (P & Q) ts a us _ _ two.2 (one.0.1, sp ts one.0.0 one.0.1 one.1, sq one.0.1 two.0.0 two.0.1 two.1)

pub sound-mapped : {A B : Type 0} (f : A → B) (P : Rel A) (p : Parser A) → IsSound P p → IsSound (f ⟨$⟩ P) (mapped f p)
sound-mapped f P p sp ts a us h =
    let one = bind_some _ _ _ h in
    at_end (f ⟨$⟩ P) ts a us _ _ one.2 (one.0.0, sp ts one.0.0 one.0.1 one.1, refl)

pub sound-after : {A : Type 0} (t : Lex) (P : Rel A) (p : Parser A) → IsSound P p → IsSound (t ▹ P) (after t p)
sound-after t P p sp ts a us h =
    let one = bind_some _ _ _ h in
    (one.0.1, expect_sound t ts one.0 one.1, sp one.0.1 a us one.2)

pub sound-before : {A : Type 0} (P : Rel A) (t : Lex) (p : Parser A) → IsSound P p → IsSound (P ◃ t) (before p t)
sound-before P t p sp ts a us h =
    let one = bind_some _ _ _ h in
    let two = bind_some _ _ _ one.2 in
    at_end (P ◃ t) ts a us _ _ two.2 (subst (λ (vs : Tokens). P ts one.0.0 vs) (expect_sound t one.0.1 two.0 two.1) (sp ts one.0.0 one.0.1 one.1))

pub sound-choose : {A : Type 0} (test : Tokens → Bool) (P Q : Rel A) (p q : Parser A) → IsSound P p → IsSound Q q → IsSound (P ∣ Q) (choose test p q)
sound-choose test P Q p q sp sq ts a us h = elim (chosen (test ts) _ _ _ h) [ inl w ↦ inl (sp ts a us w.1) | inr w ↦ inr (sq ts a us w.1) ]

-- the second one where the test holds
pub sound-other : {A : Type 0} (test : Tokens → Bool) (P Q : Rel A) (p q : Parser A) → IsSound P p → IsSound Q q → IsSound (P ∣ Q) (choose test q p)
sound-other test P Q p q sp sq ts a us h = elim (chosen (test ts) _ _ _ h) [ inl w ↦ inr (sq ts a us w.1) | inr w ↦ inl (sp ts a us w.1) ]

pub sound-maybe : {A : Type 0} (test : Tokens → Bool) (P : Rel A) (p : Parser A) → IsSound P p → IsSound (Maybe P) (maybe test p)
sound-maybe test P p sp ts a us h = elim (chosen (test ts) _ _ _ h) [
  | inl w ↦ let one = bind_some _ _ _ w.1 in at_end (Maybe P) ts a us _ _ one.2 (sp ts one.0.0 one.0.1 one.1)
  | inr w ↦ at_end (Maybe P) ts a us _ _ w.1 refl
]

module _ {A : Type 0} (test : Tokens → Bool) (P : Rel A) (p : Parser A) (sp : IsSound P p) where
  sound-many_from : (n : ℕ) → IsSound (Many P) (many_from test p n)
  unfolding many_from
  sound-many_from zero ts a us h = at_end (Many P) ts a us _ _ h refl
  sound-many_from (suc n) ts a us h = elim (chosen (test ts) _ _ _ h) [
    | inl w ↦
        let one = bind_some _ _ _ w.1 in
        let more = bind_some _ _ _ one.2 in
        let all : Many P ts (one.0.0 ∷ more.0.0) more.0.1 = (one.0.1, sp ts one.0.0 one.0.1 one.1, sound-many_from n one.0.1 more.0.0 more.0.1 more.1) in
        at_end (Many P) ts a us _ _ more.2 all
    | inr w ↦ at_end (Many P) ts a us _ _ w.1 refl
  ]

  pub sound-many : IsSound (Many P) (many test p)
  unfolding many
  sound-many ts a us h = sound-many_from (length ts) ts a us h
