-- Evaluation: over a list of trees that only grows, to a value or a code, and to the trees then.
use Rattle.std.specs.Prelude.{List, [], ◌∷◌, ◌++◌, Bool, true, false, not, Ok, Err}
use Rattle.xq_atoms.specs.declared.refusals.Code.{Code}
use Rattle.xq_atoms.specs.Judged.{Judged}
use Rattle.xq_trees.specs.Tree.{Tree}

-- a value or a code, and beside either the trees
abbrev pub Outcome : Type 0 → Type 0
Outcome A = Judged A × List Tree

-- an evaluation: from the trees so far to a value or a code, and the trees then
abbrev pub Doing : Type 0 → Type 0
Doing A = List Tree → Outcome A

-- after a value what comes next; after a code nothing
abbrev pub go_on : {A B : Type 0} → Outcome A → (A → Doing B) → Outcome B
go_on (Ok x, trees) next = next x trees
go_on (Err code, trees) next = (Err code, trees)

-- one evaluation, and after its value the next, over the trees that it leaves
infixl 10 ◌>>=◌
abbrev pub ◌>>=◌ : {A B : Type 0} → Doing A → (A → Doing B) → Doing B
(act >>= next) trees = go_on (act trees) next

-- this value, which leaves the trees
abbrev pub give : {A : Type 0} → A → Doing A
give x trees = (Ok x, trees)

-- what a judgement says, which leaves the trees
abbrev pub judged : {A : Type 0} → Judged A → Doing A
judged result trees = (result, trees)

-- a refusal with this code, which leaves the trees
abbrev pub refuse : {A : Type 0} → Code → Doing A
refuse code = judged (Err code)

-- what a judgement on the trees now says
abbrev pub on_trees : {A : Type 0} → (List Tree → Judged A) → Doing A
on_trees judge trees = (judge trees, trees)

-- # Lists

-- one after another, each from what the one before gave
abbrev pub in_turn : {A B : Type 0} → (B → A → Doing B) → B → List A → Doing B
in_turn act b [] = give b
in_turn act b (x ∷ xs) = do
  next ← act b x
  in_turn act next xs

-- the results so far, and then the result of the next
abbrev pub one_more : {A B : Type 0} → (A → Doing B) → List B → A → Doing (List B)
one_more act done x = do
  y ← act x
  give (done ++ y ∷ [])

-- the results of each, in order
abbrev pub for_each : {A B : Type 0} → (A → Doing B) → List A → Doing (List B)
for_each act xs = in_turn (one_more act) [] xs

-- the results so far, and then the results of the next
abbrev pub more : {A B : Type 0} → (A → Doing (List B)) → List B → A → Doing (List B)
more act done x = do
  ys ← act x
  give (done ++ ys)

-- the results of each, one list after another
abbrev pub collected : {A B : Type 0} → (A → Doing (List B)) → List A → Doing (List B)
collected act xs = in_turn (more act) [] xs

-- the answer, where it is the wanted one, or else the rest
abbrev pub unless_found : Bool → Bool → Doing Bool → Doing Bool
unless_found true true rest = give true
unless_found false false rest = give false
unless_found wanted answer rest = rest

-- whether one of them gives the wanted answer; those after the first that does are not evaluated
abbrev pub first_that : {A : Type 0} → Bool → (A → Doing Bool) → List A → Doing Bool
first_that wanted act [] = give (not wanted)
first_that wanted act (x ∷ xs) = do
  answer ← act x
  unless_found wanted answer (first_that wanted act xs)
