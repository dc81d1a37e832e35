-- Evaluations one after another, in lists and in parts of lists.
use Rattle.std.proofs.Common.{◌≡◌, List, [], ◌∷◌, ◌++◌, refl, sym, ap, ◌∙◌, Ok, Err}
use Rattle.xq_trees.specs.Tree.{Tree}
use Rattle.xq_meaning.specs.Doing.{Doing, Outcome, go_on, give, in_turn, one_more, for_each}
use Rattle.xq_meaning.proofs.SameForms.{go_on_same}

pub go_on_give : {A : Type 0} (o : Outcome A) → go_on o (λ x. give x) ≡ o
go_on_give (Ok x, f) = refl
go_on_give (Err code, f) = refl

-- what comes third comes after the first two, or after the second
pub go_on_go_on : {A B C : Type 0} (o : Outcome A) (k : A → Doing B) (l : B → Doing C) →
    go_on (go_on o k) l ≡ go_on o (λ x f. go_on (k x f) l)
go_on_go_on (Ok x, f) k l = refl
go_on_go_on (Err code, f) k l = refl

-- one list, and then another
pub in_turn-append : {A B : Type 0} (act : B → A → Doing B) (b : B) (xs ys : List A) (f : List Tree) →
    in_turn act b (xs ++ ys) f ≡ go_on (in_turn act b xs f) (λ n. in_turn act n ys)
in_turn-append act b [] ys f = refl
in_turn-append act b (x ∷ xs) ys f =
    go_on_same (act b x f) (λ n. in_turn act n (xs ++ ys)) (λ n g. go_on (in_turn act n xs g) (λ m.
    in_turn act m ys)) (λ n g. in_turn-append act n xs ys g)
    ∙ sym (go_on_go_on (act b x f) (λ n. in_turn act n xs) (λ m. in_turn act m ys))

pub last_turn : {A B : Type 0} (act : B → A → Doing B) (b : B) (xs : List A) (y : A) (f : List Tree) →
    in_turn act b (xs ++ y ∷ []) f ≡ go_on (in_turn act b xs f) (λ n. act n y)
last_turn act b xs y f =
    in_turn-append act b xs (y ∷ []) f
    ∙ go_on_same (in_turn act b xs f) (λ n. in_turn act n (y ∷ [])) (λ n. act n y) (λ n g. go_on_give (act n y g))

-- # The results of each, where one stands before them

begun_with : {B : Type 0} (y : B) (done : List B) (rest : List B → Doing (List B)) (o : Outcome B) →
    ((z : B) (g : List Tree) → rest (y ∷ (done ++ z ∷ [])) g ≡ go_on (rest (done ++ z ∷ []) g) (λ ys. give (y ∷ ys))) →
    go_on (go_on o (λ z. give (y ∷ (done ++ z ∷ [])))) rest
    ≡ go_on (go_on (go_on o (λ z. give (done ++ z ∷ []))) rest) (λ ys. give (y ∷ ys))
begun_with y done rest (Ok z, g) h = h z g
begun_with y done rest (Err code, g) h = refl

begun : {A B : Type 0} (act : A → Doing B) (y : B) (done : List B) (xs : List A) (f : List Tree) →
    in_turn (one_more act) (y ∷ done) xs f ≡ go_on (in_turn (one_more act) done xs f) (λ ys. give (y ∷ ys))
begun act y done [] f = refl
begun act y done (x ∷ xs) f =
    begun_with y done (λ n. in_turn (one_more act) n xs) (act x f) (λ z g. begun act y (done ++ z ∷ []) xs g)

pub begun_then : {A B C : Type 0} (act : A → Doing B) (y : B) (xs : List A) (next : List B → Doing C) (f : List Tree) →
    go_on (in_turn (one_more act) (y ∷ []) xs f) next ≡ go_on (for_each act xs f) (λ ys. next (y ∷ ys))
begun_then act y xs next f =
    ap (λ o. go_on o next) (begun act y [] xs f) ∙ go_on_go_on (in_turn (one_more act) [] xs f) (λ ys. give (y ∷ ys)) next
