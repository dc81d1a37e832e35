-- What an evaluation of a quantified expression still has to give (XQuery 3.1, 3.16). Some of its
-- variables have a value, and others left: a stack has both of each, the first variable's first.
use Rattle.std.specs.Prelude.{◌≡◌, ℕ, ◌+◌, ◌*◌, List, [], ◌∷◌, map, take, drop, length, Bool, not}
use Rattle.std.proofs.Common.{suc, zero}
use Rattle.xq_meaning.specs.Items.{Item}
use Rattle.xq_expressions.specs.declared.operators.Quantifier.{Quantifier}
use Rattle.xq_meaning.specs.declared.plans.Plan.{Plan}
use Rattle.xq_meaning.specs.declared.plans.Plan.TheVariants as plan
use Rattle.xq_meaning.specs.Doing.{Doing, ◌>>=◌, give, first_that, unless_found}
use Rattle.xq_meaning.specs.Forms as Forms
use Rattle.xq_meaning.specs.PlanMeaning.{Frame, Meaning, Slots, opened}

-- these are the parts of a quantified expression
pub record IsOf (whole : Plan) (ranges : List Plan) (test : Plan) : Type 0 where
  pub which : Quantifier
  pub is : whole ≡ plan.Quantified which ranges test

abbrev pub bindings : List Meaning → List (Forms.Binding Slots)
bindings parts = map (λ part. (opened, part)) parts

-- with the next variable
abbrev pub opened_at : Frame → List Item → Frame
opened_at frame xs = Forms.in_env frame (opened frame.env xs)

-- with one for each entry of a stack
abbrev pub at_top : Frame → List (List Item) → Frame
at_top frame [] = frame
at_top frame (e ∷ es) = at_top (opened_at frame (take 1 e)) es

module _ (wanted : Bool) (test : Meaning) where
  abbrev pub holds : List Meaning → Frame → Doing Bool
  holds parts frame = Forms.satisfied wanted (bindings parts) test frame

  -- with one of these values of the first variable
  abbrev pub tried : List Item → List Meaning → Frame → Doing Bool
  tried xs [] frame = give (not wanted)
  tried xs (part ∷ parts) frame = first_that wanted (λ x. holds parts (opened_at frame (x ∷ []))) xs

  -- the first values of a stack, then what `inner` gives of the variables after them, then the
  -- others that are left
  abbrev pub resumed : (List Meaning → Frame → Doing Bool) → List Meaning → Frame
      → List (List Item) → Doing Bool
  resumed inner parts frame [] = inner parts frame
  resumed inner [] frame (e ∷ es) = give (not wanted)
  resumed inner (part ∷ parts) frame (e ∷ es) = do
    answer ← resumed inner parts (opened_at frame (take 1 e)) es
    unless_found wanted answer (tried (drop 1 e) (part ∷ parts) frame)

-- # A measure of what is left, where no variable has as many values as `width` says

-- all values of a variable and of so many after it
abbrev pub all_weigh : ℕ → ℕ → ℕ
all_weigh width zero = 1
all_weigh width (suc n) = width * all_weigh width n

-- these values of the first of so many variables
abbrev pub some_weigh : {A : Type 0} → ℕ → List A → ℕ → ℕ
some_weigh width xs zero = 0
some_weigh width xs (suc n) = length xs * all_weigh width n

-- those that a stack has left, with what `inner` weighs of the variables after it
abbrev pub weigh : {A : Type 0} → ℕ → (ℕ → ℕ) → ℕ → List (List A) → ℕ
weigh width inner n [] = inner n
weigh width inner zero (e ∷ es) = 0
weigh width inner (suc n) (e ∷ es) = length (drop 1 e) * all_weigh width n + weigh width inner n es
