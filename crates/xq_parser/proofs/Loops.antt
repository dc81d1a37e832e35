-- A loop that reads items one after another, for at most so many turns.
use Rattle.std.proofs.Common.{◌≡◌, ℕ, zero, suc, ◌+◌, ◌-◌, ◌<◌, ◌≤◌, Bool, true, false, List, [], ◌∷◌, ◌++◌, length, Some, None, refl, sym, ap, ◌∙◌, append_assoc, arith}
use Rattle.std.proofs.lemmas.List.{append-nil}
use Rattle.xq_lexer.specs.Lexeme.{lexemes}
use Rattle.xq_lexer.specs.declared.tokens.Token.{Token}
use Rattle.xq_parser.specs.Look.{Tokens}
use Rattle.xq_atoms.specs.declared.refusals.Fault.{Fault}
use Rattle.xq_atoms.specs.declared.refusals.Fault.TheVariants.{Code as OfCode, Want as OfWant}
use Rattle.xq_atoms.specs.declared.refusals.Code.TheVariants.{XPST0003}
use Rattle.xq_atoms.specs.declared.refusals.Want.TheVariants.{Memory, Store}
use Rattle.xq_parser.specs.private.Parses.{ParsesNot}
use Rattle.xq_parser.specs.private.Reading.{Parser, Outcome, and_then, many_from, many}

length-lexemes : (ts : List Token) → length (lexemes ts) ≡ length ts
length-lexemes [] = refl
length-lexemes (t ∷ ts) = let e = length-lexemes ts in omega (arith, e)

-- what was read before, and what is still read
abbrev pub with_front : {A : Type 0} → List A → Outcome (List A) → Outcome (List A)
with_front front None = None
with_front front (Some x) = Some (front ++ x.0, x.1)

module _ {A : Type 0} (begins : Tokens → Bool) (item : Parser A) where
  -- the turn, and what the loop keeps
  abbrev pub Kept : List A → ℕ → ℕ → Tokens → Tokens → Type 0
  Kept front n turn us ts = with_front front (many_from begins item (n - turn) us) ≡ many begins item ts

  same : (o : Outcome (List A)) → with_front [] o ≡ o
  same None = refl
  same (Some x) = refl

  pub kept_first : (ts : List Token) → Kept [] (length ts) 0 (lexemes ts) (lexemes ts)
  unfolding many
  kept_first ts =
      let e : length ts - 0 ≡ length (lexemes ts) = (let l = length-lexemes ts in omega (arith, l)) in
      rw e (same (many_from begins item (length (lexemes ts)) (lexemes ts)))

  front_more : (front : List A) (a : A) (o : Outcome (List A)) → with_front front (with_front (a ∷ []) o) ≡ with_front (front ++ a ∷ []) o
  front_more front a None = refl
  front_more front a (Some x) = ap (λ (xs : List A). Some (xs, x.1)) (sym (append_assoc front (a ∷ []) x.0))

  by_more : (a : A) (o : Outcome (List A)) → and_then o (λ more vs. Some (a ∷ more, vs)) ≡ with_front (a ∷ []) o
  by_more a None = refl
  by_more a (Some x) = refl

  turn_of : (n : ℕ) (us : Tokens) (a : A) (vs : Tokens) → begins us ≡ true → item us ≡ Some (a, vs) → many_from begins item (suc n) us ≡ with_front (a ∷ []) (many_from begins item n vs)
  unfolding many_from
  turn_of n us a vs b e = rw (b, e) (by_more a (many_from begins item n vs))

  pub kept_next : (front : List A) (n turn : ℕ) (us ts : Tokens) (a : A) (vs : Tokens) → turn < n → begins us ≡ true → item us ≡ Some (a, vs) → Kept front n turn us ts → Kept (front ++ a ∷ []) n (turn + 1) vs ts
  kept_next front n turn us ts a vs lt b e k =
      let count : n - turn ≡ suc (n - (turn + 1)) = omega arith in
      sym (front_more front a (many_from begins item (n - (turn + 1)) vs)) ∙ ap (λ o. with_front front o) (sym (turn_of (n - (turn + 1)) us a vs b e)) ∙ ap (λ i. with_front front (many_from begins item i us)) (sym count) ∙ k

  stopped : (front : List A) (n : ℕ) (us : Tokens) → begins us ≡ false → with_front front (many_from begins item n us) ≡ Some (front, us)
  unfolding many_from
  stopped front zero us b = ap (λ (xs : List A). Some (xs, us)) (append-nil front)
  stopped front (suc n) us b = rw b (ap (λ (xs : List A). Some (xs, us)) (append-nil front))

  pub kept_stop : (front : List A) (n turn : ℕ) (us ts : Tokens) → begins us ≡ false → Kept front n turn us ts → many begins item ts ≡ Some (front, us)
  kept_stop front n turn us ts b k = sym k ∙ stopped front (n - turn) us b

  refused : (front : List A) (n : ℕ) (us : Tokens) → begins us ≡ true → item us ≡ None → with_front front (many_from begins item (suc n) us) ≡ None
  unfolding many_from
  refused front n us b e = rw (b, e) refl

  pub kept_refused : (front : List A) (n turn : ℕ) (us ts : Tokens) → turn < n → begins us ≡ true → item us ≡ None → Kept front n turn us ts → many begins item ts ≡ None
  kept_refused front n turn us ts lt b e k =
      let count : n - turn ≡ suc (n - (turn + 1)) = omega arith in
      sym k ∙ ap (λ i. with_front front (many_from begins item i us)) count ∙ refused front (n - (turn + 1)) us b e

  pub kept_last : (front : List A) (n turn : ℕ) (us ts : Tokens) → n ≤ turn → Kept front n turn us ts → many begins item ts ≡ Some (front, us)
  unfolding many_from
  kept_last front n turn us ts le k = let none : n - turn ≡ 0 = omega arith in sym k ∙ rw none (ap (λ (xs : List A). Some (xs, us)) (append-nil front))

  -- a fault of an item is the fault of all
  pub fails_along : (front : List A) (n turn : ℕ) (us ts : Tokens) (f : Fault) → turn < n → begins us ≡ true → ParsesNot f (item us) → Kept front n turn us ts → ParsesNot f (many begins item ts)
  fails_along front n turn us ts (OfWant Memory) lt b e k = tt
  fails_along front n turn us ts (OfWant Store) lt b e k = absurd e
  fails_along front n turn us ts (OfCode XPST0003) lt b e k = kept_refused front n turn us ts lt b e k
  fails_along front n turn us ts (OfCode _) lt b e k = absurd e
