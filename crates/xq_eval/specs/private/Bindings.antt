-- The variables of a quantified expression that have a value.
use Rattle.std.specs.Prelude.{◌≡◌, ℕ, ◌+◌, List, [], ◌∷◌, ◌++◌, map, take, drop, length, Bool, true, false}
use Rattle.std.specs.Global.{Vec}
use Rattle.xq_trees.specs.Items.{ItemView, item_views}
use Rattle.xq_trees.specs.Tuples.{Tuple}
use Rattle.xq_eval.specs.declared.variables.Variable.{Variable}

-- the value that a variable has, and those that it has left
abbrev pub values_left : Variable → List ItemView
values_left variable = drop variable.current (item_views variable.items.value)

abbrev pub stack_of : Vec Variable → Tuple ItemView
stack_of stack = map values_left stack.items

-- the last variable that has a value left: where the items are used up, the variable below goes on
-- with those after its value
pub data Falls (stack : Tuple ItemView) (items : List ItemView) : Tuple ItemView → List ItemView
    → Type 0 where
  stays : Falls stack items stack items
  falls : (below : Tuple ItemView) (values : List ItemView)
      → Falls stack items (below ++ values ∷ []) [] → Falls stack items below (drop 1 values)

-- a variable has its next value, in its stack and in its slot
pub record Moved (outer : ℕ) (slots stack : Tuple ItemView) (items : List ItemView)
    (new_slots new_stack : Tuple ItemView) : Type 0 where
  pub below : Tuple ItemView
  pub value : ItemView
  pub left : List ItemView
  pub falls : Falls stack items below (value ∷ left)
  pub in_stack : new_stack ≡ below ++ (value ∷ left) ∷ []
  pub in_slots : new_slots ≡ take (outer + length below) slots ++ (value ∷ []) ∷ []

-- a variable has its next value, or none has one left
abbrev pub MovesOn : ℕ → Tuple ItemView → Tuple ItemView → List ItemView → Tuple ItemView
    → Tuple ItemView → Bool → Type 0
MovesOn outer slots stack items new_slots new_stack true = Moved outer slots stack items new_slots
    new_stack
MovesOn outer slots stack items new_slots new_stack false = Falls stack items [] []
