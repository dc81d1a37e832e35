-- Lists of parts, as the forms have them and as the functions of the walk do.
use Rattle.std.proofs.Common.{◌≡◌, ◌∙◌, ◌⊎◌, inl, inr, List, map, Option, ap}
use Rattle.std.proofs.lemmas.Simd.{map-map}
use Rattle.xq_expressions.specs.declared.names.QName.{QName}
use Rattle.xq_expressions.specs.declared.expressions.Expr.{Expr}
use Rattle.xq_expressions.specs.declared.expressions.Expr.TheVariants as e
use Rattle.xq_expressions.specs.declared.operators.AllowingEmpty.{AllowingEmpty}
use Rattle.xq_expressions.specs.declared.operators.ComparisonOperator.{ComparisonOperator}
use Rattle.xq_statics.proofs.Equations as eq
use Rattle.xq_statics.specs.Statics.{Places, places, after, each, with_operators, arrow_call, in_turn, assigned, ranging}
use Rattle.xq_statics.specs.private.Parts as parts

pub operators-are : {A X : Type 0} (view : X → Places) (more : List (A × X)) → with_operators (map (λ (o : A × X). (o.0, view o.1)) more) ≡ each (map (λ (o : A × X). view o.1) more)
operators-are {A} {X} view more = ap each (map-map (λ (o : A × Places). o.1) (λ (o : A × X). (o.0, view o.1)) more)

pub keys-are : {A : Type 0} (specs : List (Expr × A)) → each (map (λ (s : Places × A). s.0) (map (λ (s : Expr × A). (places s.0, s.1)) specs)) ≡ parts.keys specs
keys-are {A} specs = ap each (map-map (λ (s : Places × A). s.0) (λ (s : Expr × A). (places s.0, s.1)) specs)

pub assignments-are : (bindings : List (QName × Expr)) → in_turn (map (λ (b : QName × Places). assigned b.0 b.1) (map (λ (b : QName × Expr). (b.0, places b.1)) bindings)) ≡ parts.assignments bindings
assignments-are bindings = ap in_turn (map-map (λ (b : QName × Places). assigned b.0 b.1) (λ (b : QName × Expr). (b.0, places b.1)) bindings)

pub ranges-are : (bindings : List (QName × AllowingEmpty × Option QName × Expr)) → in_turn (map (λ (b : QName × AllowingEmpty × Option QName × Places). ranging b.0 b.2 b.3) (map (λ (b : QName × AllowingEmpty × Option QName × Expr). (b.0, b.1, b.2, places b.3)) bindings)) ≡ parts.ranges bindings
ranges-are bindings = ap in_turn (map-map (λ (b : QName × AllowingEmpty × Option QName × Places). ranging b.0 b.2 b.3) (λ (b : QName × AllowingEmpty × Option QName × Expr). (b.0, b.1, b.2, places b.3)) bindings)

pub calls-are : (calls : List (QName × List Expr)) → each (map (λ (c : QName × List Places). arrow_call c.0 c.1) (map (λ (c : QName × List Expr). (c.0, map places c.1)) calls)) ≡ parts.arrow_calls calls
calls-are calls = ap each (map-map (λ (c : QName × List Places). arrow_call c.0 c.1) (λ (c : QName × List Expr). (c.0, map places c.1)) calls)

-- two operands with an operator between them
pub both-are : (expr left right : Expr) → ((operator : ComparisonOperator) × (expr ≡ e.Comparison left operator right)) ⊎ (expr ≡ e.Range left right) → places expr ≡ after (places left) (places right)
both-are expr left right (inl is) = ap places is.1 ∙ eq.places-Comparison left is.0 right
both-are expr left right (inr is) = ap places is ∙ eq.places-Range left right
