-- Document order of the nodes of a tree, by their paths: XDM 3.1, section 2.4.
use Rattle.std.proofs.Common.{zero, suc}
use Rattle.std.specs.Prelude.{ℕ, ◌+◌, ◌-◌, ◌<◌, ◌≡◌, List, [], ◌∷◌, ◌⊎◌, cond, nat_le}
use Rattle.xq_trees.specs.Forest.{Forest, end, node, count}

-- p comes before q: it is a proper prefix, or goes to the left where they part
abbrev pub IsBefore : List ℕ → List ℕ → Type 0
IsBefore [] [] = ⊥
IsBefore [] (j ∷ q) = Unit {0}
IsBefore (i ∷ p) [] = ⊥
IsBefore (i ∷ p) (j ∷ q) = (i < j) ⊎ ((i ≡ j) × IsBefore p q)

-- p is a proper prefix of q
abbrev pub IsAbove : List ℕ → List ℕ → Type 0
IsAbove p [] = ⊥
IsAbove [] (j ∷ q) = Unit {0}
IsAbove (i ∷ p) (j ∷ q) = (i ≡ j) × IsAbove p q

-- the paths part, and p goes to the left of q
abbrev pub IsLeftOf : List ℕ → List ℕ → Type 0
IsLeftOf [] q = ⊥
IsLeftOf (i ∷ p) [] = ⊥
IsLeftOf (i ∷ p) (j ∷ q) = (i < j) ⊎ ((i ≡ j) × IsLeftOf p q)

-- the paths differ at most in their last step
abbrev pub IsBeside : List ℕ → List ℕ → Type 0
IsBeside [] q = ⊥
IsBeside (i ∷ p) [] = ⊥
IsBeside (i ∷ []) (j ∷ []) = Unit {0}
IsBeside (i ∷ []) (j ∷ k ∷ q) = ⊥
IsBeside (i ∷ k ∷ p) (j ∷ []) = ⊥
IsBeside (i ∷ k ∷ p) (j ∷ l ∷ q) = (i ≡ j) × IsBeside (k ∷ p) (l ∷ q)

-- A node's place is the number of nodes before it in document order.

-- the place of the node at the path
abbrev pub place_of : {A : Type 0} → Forest A → List ℕ → ℕ
place_of end path = 0
place_of (node a below beside) [] = 0
place_of (node a below beside) (zero ∷ []) = 0
place_of (node a below beside) (zero ∷ i ∷ path) = suc (place_of below (i ∷ path))
place_of (node a below beside) (suc i ∷ path) = suc (count below + place_of beside (i ∷ path))

-- a path one node further down, and one further to the right
abbrev pub step_down : List ℕ → List ℕ
step_down path = zero ∷ path

-- the path with its first step one further to the right, where it has a step
abbrev pub step_right : List ℕ → List ℕ
step_right [] = []
step_right (i ∷ path) = suc i ∷ path

-- the path of the node with n nodes before it
abbrev pub path_at : {A : Type 0} → Forest A → ℕ → List ℕ
path_at end n = []
path_at (node a below beside) zero = zero ∷ []
path_at (node a below beside) (suc n) =
    cond (nat_le (suc n) (count below)) (step_down (path_at below n))
    (step_right (path_at beside (n - count below)))
