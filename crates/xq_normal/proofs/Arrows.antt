-- Calls after arrows: one in another, and one after another.
use Rattle.std.proofs.Common.{◌≡◌, ℕ, ◌+◌, ◌<◌, ◌≤◌, suc, List, [], ◌∷◌, ◌++◌, map, drop, length, get_or, Bool, true, false, Option, Some, None, Ok, Err, refl, sym, ap, ◌∙◌, subst, add-one, arith}
use Rattle.std.specs.Prelude.{if◌then◌else◌}
use Rattle.std.proofs.Math.Seq.{drop-cons}
use Rattle.std.proofs.lemmas.List.{map-append, length-map, drop_all}
use Rattle.xq_expressions.specs.declared.expressions.Expr.{Expr, size-Expr}
use Rattle.xq_expressions.specs.declared.names.QName.{QName}
use Rattle.xq_expressions.specs.declared.signatures.Function.{Function}
use Rattle.xq_expressions.specs.Signatures.{function_named, arity, admits}
use Rattle.xq_trees.specs.Tree.{Tree}
use Rattle.xq_meaning.specs.Items.{Item}
use Rattle.xq_meaning.specs.Functions.{called}
use Rattle.xq_meaning.specs.declared.normal_forms.Core.{Core}
use Rattle.xq_meaning.specs.Doing.{Doing, Outcome, go_on, give, on_trees, in_turn, one_more}
use Rattle.xq_meaning.specs.Forms
use Rattle.xq_meaning.specs.Meaning.{Meaning, arrow, call_of, call_if, unknown_function, mean}
use Rattle.xq_meaning.specs.CoreMeaning.{core_mean}
use Rattle.xq_meaning.proofs.SameForms.{go_on_same}
use Rattle.xq_meaning.proofs.Turns.{go_on_give, go_on_go_on, last_turn, begun_then}
use Rattle.xq_normal.specs.private.Parts as parts
use Rattle.xq_normal.specs.private.Parts.{admitted}
use denote.Param.Weighed.{most}
use Prim.Native.Nat.{max}

-- # A call, and the call of its first argument

module _ {E : Type 0} (function : Function) (others : List (Forms.Meaning E)) (frame : Forms.Frame E) where
  abbrev value_in : Forms.Meaning E → Doing (List Item)
  value_in part = part frame

  abbrev judge : List (List Item) → Doing (List Item)
  judge values = on_trees (λ trees. called function trees frame.addresses frame.focus values)

  after_first : (o : Outcome (List Item)) →
      go_on (go_on (go_on o (λ xs. give ([] ++ xs ∷ []))) (λ n. in_turn (one_more value_in) n others)) judge
      ≡ go_on o (λ xs. Forms.next_call frame xs (function, others))
  after_first (Ok xs, g) = begun_then value_in xs others judge g
  after_first (Err code, g) = refl

  -- the first argument, and then the call with its others
  pub call_begun : (first : Forms.Meaning E) (f : List Tree) →
      Forms.call function (first ∷ others) frame f
      ≡ go_on (first frame f) (λ xs. Forms.next_call frame xs (function, others))
  call_begun first f = after_first (first frame f)

pub no_calls : {E : Type 0} (first : Forms.Meaning E) → Forms.arrow first [] ≡ first
no_calls first = λ i frame f. go_on_give (first frame f) i

-- the last call has the others in its first argument
pub arrow_more : {E : Type 0} (first : Forms.Meaning E) (calls : List (Function × List (Forms.Meaning E)))
    (function : Function) (others : List (Forms.Meaning E)) →
    Forms.arrow first (calls ++ (function, others) ∷ []) ≡ Forms.call function (Forms.arrow first calls ∷ others)
arrow_more {E} first calls function others = λ i frame f. in_frame frame f i
  where
    in_frame : (frame : Forms.Frame E) (f : List Tree) →
        Forms.arrow first (calls ++ (function, others) ∷ []) frame f ≡ Forms.call function (Forms.arrow first calls ∷ others) frame f
    in_frame frame f =
        go_on_same (first frame f) (λ xs. in_turn (Forms.next_call frame) xs (calls ++ (function, others) ∷ []))
        (λ xs g. go_on (in_turn (Forms.next_call frame) xs calls g) (λ ys. Forms.next_call frame ys (function, others)))
        (λ xs g. last_turn (Forms.next_call frame) xs calls (function, others) g)
        ∙ sym (go_on_go_on (first frame f) (λ xs. in_turn (Forms.next_call frame) xs calls) (λ ys. Forms.next_call frame ys (function, others)))
        ∙ sym (call_begun function others frame (Forms.arrow first calls) f)

-- # Which function is called

abbrev function_or : Function → Option Function → Function
function_or other None = other
function_or other (Some function) = function

abbrev IsNone : Option Function → Type 0
IsNone None = Unit {0}
IsNone (Some function) = ⊥

known_if : (b : Bool) (chosen function : Function) (values : List Meaning) →
    (if b then Some chosen else None) ≡ Some function → call_if b chosen values ≡ Forms.call function values
known_if true chosen function values e = ap (λ it. Forms.call (function_or chosen it) values) e
known_if false chosen function values e = absurd (subst IsNone e tt)

unknown_if : (b : Bool) (chosen : Function) (values : List Meaning) →
    (if b then Some chosen else None) ≡ None → call_if b chosen values ≡ unknown_function
unknown_if true chosen values e = absurd (subst IsNone (sym e) tt)
unknown_if false chosen values e = refl

pub known : (o : Option Function) (function : Function) (values : List Meaning) →
    admitted o (length values) ≡ Some function → call_of o values ≡ Forms.call function values
known None function values e = absurd (subst IsNone e tt)
known (Some chosen) function values e = known_if (admits (arity chosen) (length values)) chosen function values e

pub unknown : (o : Option Function) (values : List Meaning) → admitted o (length values) ≡ None →
    call_of o values ≡ unknown_function
unknown None values e = refl
unknown (Some chosen) values e = unknown_if (admits (arity chosen) (length values)) chosen values e

-- what is refused stays refused in a call

refused_if : (b : Bool) (chosen : Function) (others : List Meaning) →
    call_if b chosen (unknown_function ∷ others) ≡ unknown_function
refused_if true chosen others = λ i frame f. call_begun chosen others frame unknown_function f i
refused_if false chosen others = refl

refused_call : (o : Option Function) (others : List Meaning) → call_of o (unknown_function ∷ others) ≡ unknown_function
refused_call None others = refl
refused_call (Some chosen) others =
    refused_if (admits (arity chosen) (length (unknown_function ∷ others))) chosen others

pub stays_refused : (calls : List (QName × List Meaning)) → arrow unknown_function calls ≡ unknown_function
stays_refused [] = refl
stays_refused (c ∷ cs) =
    ap (λ m. arrow m cs) (refused_call (function_named c.0.prefix c.0.local) c.1) ∙ stays_refused cs

-- # The calls that are left

-- the calls so far, and those from this one on
abbrev pub CallsLeft : Meaning → List (QName × List Expr) → ℕ → List (Function × List Core) → Type 0
CallsLeft first all i found =
    arrow first (parts.calls all) ≡ arrow (Forms.arrow first (parts.core_calls found)) (parts.calls (drop i all))

pub calls_begin : (first : Meaning) (all : List (QName × List Expr)) → CallsLeft first all 0 []
calls_begin first all = ap (λ m. arrow m (parts.calls all)) (sym (no_calls first))

module _ (first : Meaning) (all : List (QName × List Expr)) (i : ℕ) (found : List (Function × List Core)) (c : QName × List Expr)
    (left : CallsLeft first all i found) (within : i < length all) (is : c ≡ get_or all i c) where
  abbrev so_far : Meaning
  so_far = Forms.arrow first (parts.core_calls found)

  next_of : parts.calls (drop i all) ≡ (c.0, map mean c.1) ∷ parts.calls (drop (i + 1) all)
  next_of =
      let e : drop i all ≡ c ∷ drop (i + 1) all = rw add-one (drop-cons all i c within ∙ ap (λ y. y ∷ drop (suc i) all) (sym is)) in
      ap parts.calls e

  many : length c.1 + 1 ≡ length (so_far ∷ map mean c.1)
  many = omega (arith, length-map c.1 mean)

  pub call_next : (function : Function) (others : List Core) (found' : List (Function × List Core)) →
      admitted (function_named c.0.prefix c.0.local) (length c.1 + 1) ≡ Some function →
      map core_mean others ≡ map mean c.1 → found' ≡ found ++ (function, others) ∷ [] → CallsLeft first all (i + 1) found'
  call_next function others found' e same pushed =
      let rest = parts.calls (drop (i + 1) all) in
      left ∙ ap (arrow so_far) next_of
      ∙ ap (λ m. arrow m rest)
      (known (function_named c.0.prefix c.0.local) function (so_far ∷ map mean c.1) (ap (admitted (function_named c.0.prefix c.0.local)) (sym many) ∙ e)
      ∙ sym (arrow_more first (parts.core_calls found) function (map mean c.1))
      ∙ ap (λ ms. Forms.arrow first (parts.core_calls found ++ (function, ms) ∷ [])) (sym same)
      ∙ ap (Forms.arrow first) (sym (map-append (λ (d : Function × List Core). (d.0, map core_mean d.1)) found ((function, others) ∷ [])))
      ∙ ap (λ cs. Forms.arrow first (parts.core_calls cs)) (sym pushed))

  pub call_refused : admitted (function_named c.0.prefix c.0.local) (length c.1 + 1) ≡ None →
      arrow first (parts.calls all) ≡ unknown_function
  call_refused e =
      let rest = parts.calls (drop (i + 1) all) in
      left ∙ ap (arrow so_far) next_of
      ∙ ap (λ m. arrow m rest) (unknown (function_named c.0.prefix c.0.local) (so_far ∷ map mean c.1) (ap (admitted (function_named c.0.prefix c.0.local)) (sym many) ∙ e))
      ∙ stays_refused rest

pub calls_end : (first : Meaning) (all : List (QName × List Expr)) (i : ℕ) (found : List (Function × List Core)) →
    CallsLeft first all i found → length all ≤ i →
    arrow first (parts.calls all) ≡ Forms.arrow first (parts.core_calls found)
calls_end first all i found left h =
    left ∙ ap (λ cs. arrow (Forms.arrow first (parts.core_calls found)) (parts.calls cs)) (drop_all i all h)

-- # How deep the calls are

-- the other arguments of a call, as the depth of an expression has them
abbrev pub call_depth : QName × List Expr → ℕ
call_depth (name, others) = max 0 (max (most size-Expr others) 0)
