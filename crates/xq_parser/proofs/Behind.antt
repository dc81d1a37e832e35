-- Operators behind an operand that was read before they are looked for.
use Rattle.std.proofs.Common.{◌≡◌, ◌∙◌, ℕ, zero, suc, ◌+◌, ◌-◌, ◌<◌, ◌≤◌, Bool, List, true, false, [], ◌∷◌, Option, Some, None, refl, sym, ap, subst, arith}
use Rattle.std.specs.Prelude.{◌==◌}
use Rattle.std.proofs.lemmas.Bool.Decides.{nat_tests}
use Rattle.xq_lexer.specs.Lexeme.{name, prefixed, symbol}
use Rattle.xq_lexer.specs.declared.tokens.Symbol.TheVariants as s
use Rattle.xq_expressions.specs.declared.expressions.Expr.{Expr}
use Rattle.xq_expressions.specs.declared.expressions.Expr.TheVariants as e
use Rattle.xq_expressions.specs.declared.expressions.Step.TheVariants as step
use Rattle.xq_atoms.specs.declared.refusals.Fault.{Fault}
use Rattle.xq_atoms.specs.declared.refusals.Fault.TheVariants.{Code as OfCode, Want as OfWant}
use Rattle.xq_atoms.specs.declared.refusals.Code.TheVariants.{XPST0003}
use Rattle.xq_atoms.specs.declared.refusals.Want.TheVariants.{Memory, Store}
use Rattle.xq_parser.specs.Look.{Tokens, lookup, same, same_symbol, word}
use Rattle.xq_parser.specs.Grammar as g
use Rattle.xq_parser.specs.private.Alone.{begins_end}
use Rattle.xq_parser.specs.private.Behind as b
use Rattle.xq_parser.specs.private.Parses.{ParsesNot}
use Rattle.xq_parser.specs.private.Reading as r
use Rattle.xq_parser.specs.private.Reading.{Parser, Outcome, and_then, pure, both, mapped, many, maybe, is, begins}

-- a fault of what is read first is one of all
pub not_first : {A B : Type 0} (fault : Fault) (o : Outcome A) (k : A → Parser B) → ParsesNot fault o → ParsesNot fault (and_then o k)
not_first (OfWant Memory) o k h = tt
not_first (OfWant Store) o k h = absurd h
not_first (OfCode XPST0003) o k h = rw h refl
not_first (OfCode _) o k h = absurd h

-- ---- a line of operators, behind the line below it

module _ {X A B : Type 0} (f : X × A → B) (q : Parser A) where
  tail : (o : Outcome X) → and_then (and_then o (λ a us. and_then (q us) (λ b vs. Some ((a, b), vs)))) (λ a us. Some (f a, us)) ≡ and_then o (λ a. mapped f (both (pure a) q))
  tail None = refl
  tail (Some p) = refl

assoc : {A B C : Type 0} (o : Outcome A) (f : A → Parser B) (k : B → Parser C) → and_then (and_then o f) k ≡ and_then o (λ a us. and_then (f a us) k)
assoc None f k = refl
assoc (Some p) f k = refl

-- ---- levels

-- what holds of each level
by_level : (P : ℕ → Type 0) → P 1 → P 2 → P 3 → P 4 → P 5 → P 6 → P 7 → P 8 → P 9 → (n : ℕ) → 0 < n → n ≤ 9 → P n
by_level P p1 p2 p3 p4 p5 p6 p7 p8 p9 zero some within = absurd (omega (arith, some))
by_level P p1 p2 p3 p4 p5 p6 p7 p8 p9 (suc zero) some within = p1
by_level P p1 p2 p3 p4 p5 p6 p7 p8 p9 (suc (suc zero)) some within = p2
by_level P p1 p2 p3 p4 p5 p6 p7 p8 p9 (suc (suc (suc zero))) some within = p3
by_level P p1 p2 p3 p4 p5 p6 p7 p8 p9 (suc (suc (suc (suc zero)))) some within = p4
by_level P p1 p2 p3 p4 p5 p6 p7 p8 p9 (suc (suc (suc (suc (suc zero))))) some within = p5
by_level P p1 p2 p3 p4 p5 p6 p7 p8 p9 (suc (suc (suc (suc (suc (suc zero)))))) some within = p6
by_level P p1 p2 p3 p4 p5 p6 p7 p8 p9 (suc (suc (suc (suc (suc (suc (suc zero))))))) some within = p7
by_level P p1 p2 p3 p4 p5 p6 p7 p8 p9 (suc (suc (suc (suc (suc (suc (suc (suc zero)))))))) some within = p8
by_level P p1 p2 p3 p4 p5 p6 p7 p8 p9 (suc (suc (suc (suc (suc (suc (suc (suc (suc zero))))))))) some within = p9
by_level P p1 p2 p3 p4 p5 p6 p7 p8 p9 (suc (suc (suc (suc (suc (suc (suc (suc (suc (suc n)))))))))) some within = absurd (omega (arith, within))

module _ (single : Parser Expr) (ts : Tokens) where
  abbrev Continues : ℕ → Type 0
  Continues n = r.level single n ts ≡ and_then (r.level single (n - 1) ts) (b.at single n)

  -- the line of a level is that of the tighter one, and what stands behind it
  continues : (n : ℕ) → 0 < n → n ≤ 9 → Continues n
  unfolding r.level b.at b.joined_item b.joint b.of_list r.inter r.set_item r.union r.union_item r.product r.product_item r.sum r.sum_item r.range r.range_item r.concat r.concat_item r.comparison r.comparison_item r.conjunction r.and_item r.disjunction r.or_item
  continues = by_level Continues
      (tail (g.chain e.SetOperation) (many (r.stands 1) (r.set_item single)) (r.arrow single ts))
      (tail (g.several e.Union) (many (r.stands 2) (r.union_item single)) (r.inter single ts))
      (tail (g.chain e.Product) (many (r.stands 3) (r.product_item single)) (r.union single ts))
      (tail (g.chain e.Sum) (many (r.stands 4) (r.sum_item single)) (r.product single ts))
      (tail g.ranged (maybe (r.stands 5) (r.range_item single)) (r.sum single ts))
      (tail (g.several e.Concat) (many (r.stands 6) (r.concat_item single)) (r.range single ts))
      (tail g.compared (maybe (r.stands 7) (r.comparison_item single)) (r.concat single ts))
      (tail (g.several e.And) (many (r.stands 8) (r.and_item single)) (r.comparison single ts))
      (tail (g.several e.Or) (many (r.stands 9) (r.or_item single)) (r.conjunction single ts))

  calls_behind : r.level single 0 ts ≡ and_then (r.unary single ts) (b.up_to single 0)
  unfolding r.level r.arrow b.up_to
  calls_behind = tail (g.chain e.Arrow) (many (is (symbol s.Arrow)) (r.arrow_item single)) (r.unary single ts)

  next_behind : (n : ℕ) → r.level single n ts ≡ and_then (r.unary single ts) (b.up_to single n) → r.level single (suc n) ts ≡ and_then (r.level single n ts) (b.at single (suc n)) → r.level single (suc n) ts ≡ and_then (r.unary single ts) (b.up_to single (suc n))
  unfolding b.up_to
  next_behind n low more = more ∙ ap (λ o. and_then o (b.at single (suc n))) low ∙ assoc (r.unary single ts) (b.up_to single n) (b.at single (suc n))

  -- the line of a level is its first operand, and what stands behind it
  pub levels_behind : (n : ℕ) → n ≤ 9 → r.level single n ts ≡ and_then (r.unary single ts) (b.up_to single n)
  levels_behind zero within = calls_behind
  levels_behind (suc n) within =
      let one : suc n - 1 ≡ n = omega arith in
      next_behind n (levels_behind n (omega (arith, within)))
      (subst (λ (k : ℕ). r.level single (suc n) ts ≡ and_then (r.level single k ts) (b.at single (suc n))) one (continues (suc n) (omega arith) within))

-- ---- where no operator of a level is next, nothing stands behind

none_follow : {A : Type 0} (test : Tokens → Bool) (item : Parser A) (us : Tokens) → test us ≡ false → many test item us ≡ Some ([], us)
unfolding many r.many_from
none_follow test item [] h = refl
none_follow test item (t ∷ us) h = rw h refl

no_more : {A : Type 0} (f : Expr × List A → Expr) (test : Tokens → Bool) (item : Parser A) (x : Expr) (us : Tokens) → test us ≡ false → mapped f (both (pure x) (many test item)) us ≡ Some (f (x, []), us)
no_more f test item x us h = rw (none_follow test item us h) refl

no_other : {A : Type 0} (f : Expr × Option A → Expr) (test : Tokens → Bool) (item : Parser A) (x : Expr) (us : Tokens) → test us ≡ false → mapped f (both (pure x) (maybe test item)) us ≡ Some (f (x, None), us)
no_other f test item x us h = rw h refl

module _ (single : Parser Expr) (x : Expr) where
  abbrev Stays : Tokens → ℕ → Type 0
  Stays us n = r.stands n us ≡ false → b.at single n x us ≡ Some (x, us)

  stays : (us : Tokens) (n : ℕ) → 0 < n → n ≤ 9 → Stays us n
  unfolding b.at b.of_list
  stays us = by_level (Stays us)
      (no_more (g.chain e.SetOperation) _ _ x us) (no_more (g.several e.Union) _ _ x us) (no_more (g.chain e.Product) _ _ x us)
      (no_more (g.chain e.Sum) _ _ x us) (no_other g.ranged (r.stands 5) (r.after (word "to") (r.level single 4)) x us) (no_more (g.several e.Concat) _ _ x us)
      (no_other g.compared (r.stands 7) (both (r.one_of g.comparisons) (r.level single 6)) x us) (no_more (g.several e.And) _ _ x us) (no_more (g.several e.Or) _ _ x us)

  -- one level after another
  up_next : (ts : Tokens) (n : ℕ) (y : Expr) (us : Tokens) → b.up_to single n x ts ≡ Some (y, us) → b.up_to single (suc n) x ts ≡ b.at single (suc n) y us
  unfolding b.up_to
  up_next ts n y us h = ap (λ (o : Outcome Expr). and_then o (b.at single (suc n))) h

  up_next_none : (ts : Tokens) (n : ℕ) → b.up_to single n x ts ≡ None → b.up_to single (suc n) x ts ≡ None
  unfolding b.up_to
  up_next_none ts n h = ap (λ (o : Outcome Expr). and_then o (b.at single (suc n))) h

  pub up_first : (ts : Tokens) (y : Expr) (us : Tokens) → b.with_calls single x ts ≡ Some (y, us) → b.up_to single 0 x ts ≡ Some (y, us)
  unfolding b.up_to
  up_first ts y us h = h

  first_none : (ts : Tokens) → b.with_calls single x ts ≡ None → b.up_to single 0 x ts ≡ None
  unfolding b.up_to
  first_none ts h = h

  up_none : (ts : Tokens) (n k : ℕ) → b.up_to single n x ts ≡ None → b.up_to single (n + k) x ts ≡ None
  up_none ts n zero h = let same : n ≡ n + zero = omega arith in subst (λ (m : ℕ). b.up_to single m x ts ≡ None) same h
  up_none ts n (suc k) h =
      let more : suc (n + k) ≡ n + suc k = omega arith in
      subst (λ (m : ℕ). b.up_to single m x ts ≡ None) more (up_next_none ts (n + k) (up_none ts n k h))

  -- a fault of the calls is one of all
  pub calls_fail : (ts : Tokens) (last : ℕ) (fault : Fault) → ParsesNot fault (b.with_calls single x ts) → ParsesNot fault (b.up_to single last x ts)
  calls_fail ts last (OfWant Memory) h = tt
  calls_fail ts last (OfWant Store) h = absurd h
  calls_fail ts last (OfCode XPST0003) h =
      let all : 0 + last ≡ last = omega arith in
      subst (λ (m : ℕ). b.up_to single m x ts ≡ None) all (up_none ts 0 last (first_none ts h))
  calls_fail ts last (OfCode _) h = absurd h

  -- a fault at the next level is one of all
  pub up_fails : (ts : Tokens) (n last next : ℕ) (y : Expr) (us : Tokens) (fault : Fault) → n < last → next ≡ n + 1 → b.up_to single n x ts ≡ Some (y, us) → ParsesNot fault (b.at single next y us) → ParsesNot fault (b.up_to single last x ts)
  up_fails ts n last next y us (OfWant Memory) lt e h f = tt
  up_fails ts n last next y us (OfWant Store) lt e h f = absurd f
  up_fails ts n last next y us (OfCode XPST0003) lt e h f =
      let one : next ≡ suc n = omega (arith, e) in
      let none : b.up_to single (suc n) x ts ≡ None = up_next ts n y us h ∙ subst (λ (k : ℕ). b.at single k y us ≡ None) one f in
      let all : suc n + (last - suc n) ≡ last = omega (arith, lt) in
      subst (λ (k : ℕ). b.up_to single k x ts ≡ None) all (up_none ts (suc n) (last - suc n) none)
  up_fails ts n last next y us (OfCode _) lt e h f = absurd f

  pub up_more : (ts : Tokens) (n next : ℕ) (y : Expr) (us : Tokens) (z : Expr) (vs : Tokens) → next ≡ n + 1 → b.up_to single n x ts ≡ Some (y, us) → b.at single next y us ≡ Some (z, vs) → b.up_to single (n + 1) x ts ≡ Some (z, vs)
  up_more ts n next y us z vs e h k =
      let one : next ≡ suc n = omega (arith, e) in
      let more : suc n ≡ n + 1 = omega arith in
      let read : b.up_to single (suc n) x ts ≡ Some (z, vs) = up_next ts n y us h ∙ subst (λ (m : ℕ). b.at single m y us ≡ Some (z, vs)) one k in
      subst (λ (m : ℕ). b.up_to single m x ts ≡ Some (z, vs)) more read

pub up_stays : (single : Parser Expr) (x : Expr) (ts : Tokens) (n : ℕ) (y : Expr) (us : Tokens) → n < 9 → r.stands (n + 1) us ≡ false → b.up_to single n x ts ≡ Some (y, us) → b.up_to single (n + 1) x ts ≡ Some (y, us)
up_stays single x ts n y us lt h k = up_more single x ts n (n + 1) y us y us refl k (stays single y us (n + 1) (omega arith) (omega (arith, lt)) h)

-- ---- no operator stands before a token that ends an expression

end_level : (us : Tokens) → begins_end us ≡ true → (is (symbol s.Arrow) us ≡ false) × (r.next_level us ≡ 0)
unfolding begins_end begins r.next_level r.level_of lookup same same_symbol
end_level (symbol s.Comma ∷ us) h = (refl, refl)
end_level (symbol s.CloseParenthesis ∷ us) h = (refl, refl)
end_level (symbol s.CloseBracket ∷ us) h = (refl, refl)
end_level (symbol s.CloseBrace ∷ us) h = (refl, refl)
end_level us h = absurd cc

none_stands : (us : Tokens) (n : ℕ) → 0 < n → r.next_level us ≡ 0 → r.stands n us ≡ false
none_stands us n some h = let apart : (0 == n) ≡ false = grind (arith, nat_tests) in rw h apart

pub ended : (single : Parser Expr) (x : Expr) (us : Tokens) → begins_end us ≡ true → (n : ℕ) → n ≤ 9 → b.up_to single n x us ≡ Some (x, us)
ended single x us h zero within = up_first single x us x us (no_more (g.chain e.Arrow) _ _ x us (end_level us h).0)
ended single x us h (suc n) within =
    up_next single x us n x us (ended single x us h n (omega (arith, within)))
    ∙ stays single x us (suc n) (omega arith) within (none_stands us (suc n) (omega arith) (end_level us h).1)

pub ended_path : (single : Parser Expr) (x : Expr) (us : Tokens) → begins_end us ≡ true → and_then (b.path_from single x us) (b.with_maps single) ≡ Some (x, us)
unfolding b.path_from r.predicates begins_end many r.many_from begins r.one_of lookup same same_symbol
ended_path single x (symbol s.Comma ∷ us) h = rw (step.outs-Primary x []) refl
ended_path single x (symbol s.CloseParenthesis ∷ us) h = rw (step.outs-Primary x []) refl
ended_path single x (symbol s.CloseBracket ∷ us) h = rw (step.outs-Primary x []) refl
ended_path single x (symbol s.CloseBrace ∷ us) h = rw (step.outs-Primary x []) refl
ended_path single x us h = absurd cc

-- ---- an operand that begins with a constructor

-- no sign stands before it
unsigned : (o : Outcome Expr) → and_then (and_then o (λ x us. Some (([], x), us))) (λ x us. Some (g.signed x, us)) ≡ o
unsigned None = refl
unsigned (Some p) = refl

module _ (single : Parser Expr) where
  -- a path whose first step is a primary expression, by what this is read as
  abbrev path_of : Outcome Expr → Outcome Expr
  path_of o = and_then (and_then (and_then (and_then o (λ a us. and_then (r.predicates single us) (λ ps vs. Some ((a, ps), vs)))) (λ x us. Some (g.primary_step x, us))) (λ x us. and_then (many (begins g.separators) (r.next_step single) us) (λ more vs. Some ((x, more), vs)))) (λ x us. Some (g.relative x, us))

  from_first : (o : Outcome Expr) → path_of o ≡ and_then o (b.path_from single)
  unfolding b.path_from
  from_first None = refl
  from_first (Some p) = refl

  mapped_from : (ts : Tokens) → r.simple_map single ts ≡ and_then (r.path single ts) (b.with_maps single)
  unfolding r.simple_map
  mapped_from ts = tail (g.chain e.Map) (many (is (symbol s.Bang)) (r.map_item single)) (r.path single ts)

  sign_free : (n : List ℕ) (us : Tokens) → r.unary single (name n ∷ us) ≡ r.simple_map single (name n ∷ us)
  unfolding r.unary many r.many_from begins r.one_of lookup same same_symbol
  sign_free n us = unsigned (r.simple_map single (name n ∷ us))

  primary_made : (n : List ℕ) (us : Tokens) → r.begins_call (name n ∷ us) ≡ false → r.primary single (name n ∷ us) ≡ r.make single (name n ∷ us)
  unfolding r.primary r.call_or_make begins lookup same same_symbol
  primary_made n us no_call = rw no_call refl

  path_made : (n : List ℕ) (us : Tokens) → r.begins_call (name n ∷ us) ≡ false → r.begins_make (name n ∷ us) ≡ true → r.path single (name n ∷ us) ≡ path_of (r.primary single (name n ∷ us))
  unfolding r.path r.relative r.step r.primary_step r.begins_lone r.begins_primary r.begins_literal begins lookup same same_symbol
  path_made n us no_call makes = rw (no_call, makes) refl

  made_at : (n : List ℕ) (us : Tokens) → r.begins_call (name n ∷ us) ≡ false → r.begins_make (name n ∷ us) ≡ true → r.unary single (name n ∷ us) ≡ and_then (r.make single (name n ∷ us)) (λ x vs. and_then (b.path_from single x vs) (b.with_maps single))
  made_at n us no_call makes =
      let ts = name n ∷ us in
      let first = path_made n us no_call makes ∙ from_first (r.primary single ts) ∙ ap (λ o. and_then o (b.path_from single)) (primary_made n us no_call) in
      sign_free n us ∙ mapped_from ts ∙ ap (λ o. and_then o (b.with_maps single)) first ∙ assoc (r.make single ts) (b.path_from single) (b.with_maps single)

  pub made : (ts : Tokens) → r.begins_make ts ≡ true → r.unary single ts ≡ and_then (r.make single ts) (λ x vs. and_then (b.path_from single x vs) (b.with_maps single))
  unfolding r.begins_make r.begins_call
  made (name n ∷ symbol s.OpenBrace ∷ ts) h = made_at n (symbol s.OpenBrace ∷ ts) refl h
  made (name n ∷ name m ∷ ts) h = made_at n (name m ∷ ts) refl h
  made (name n ∷ prefixed p m ∷ ts) h = made_at n (prefixed p m ∷ ts) refl h
  made ts h = absurd cc

  pub any_made : (ts : Tokens) → r.begins_make ts ≡ true → r.any single ts ≡ r.disjunction single ts
  unfolding r.any r.begins_make r.begins_flwor r.begins_quantified r.begins_if
  any_made (name n ∷ symbol s.OpenBrace ∷ ts) h = refl
  any_made (name n ∷ name m ∷ ts) h = refl
  any_made (name n ∷ prefixed p m ∷ ts) h = refl
  any_made ts h = absurd cc

  -- all of it, where it is the constructor alone
  pub made_alone : (n : ℕ) → n ≤ 9 → (ts : Tokens) (x : Expr) (us : Tokens) → r.begins_make ts ≡ true → r.make single ts ≡ Some (x, us) → begins_end us ≡ true → r.level single n ts ≡ Some (x, us)
  made_alone n within ts x us h read end =
      let operand : r.unary single ts ≡ Some (x, us) = made ts h ∙ rw read (ended_path single x us end) in
      levels_behind single ts n within ∙ rw operand (ended single x us end n within)
