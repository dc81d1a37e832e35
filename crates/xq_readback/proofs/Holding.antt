-- Judgements and evaluations whose values have a property: a judgement, where it has a value; an
-- evaluation, over trees that are trees, and the trees then are trees too.
use Rattle.std.proofs.Common.{List, [], ◌∷◌, ◌++◌, Bool, true, false, Ok, Err, map}
use Rattle.std.specs.Prelude.{IfOk, if◌then◌else◌}
use Rattle.std.specs.List.{AllByRecursion}
use Rattle.xq_atoms.specs.declared.refusals.Code.{Code}
use Rattle.xq_atoms.specs.Judged.{Judged, ◌>>=◌, only_if}
use Rattle.xq_trees.specs.Tree.{Tree}
use Rattle.xq_trees.proofs.Lists.{all_append, all_weaker}
use Rattle.xq_meaning.specs.Arguments.{each}
use Rattle.xq_meaning.specs.Doing.{Doing, Outcome, go_on, give, in_turn, one_more, for_each, more, collected, unless_found, first_that}
use Rattle.xq_readback.specs.Legible.{AreTrees}

-- # Judgements

-- after a value with the property, the next one has its own
pub next_holds : {A B : Type 0} (P : A → Type 0) (Q : B → Type 0) (r : Judged A) (next : A → Judged B) → IfOk r P → ((x : A) → P x → IfOk (next x) Q)
    → IfOk (r >>= next) Q
next_holds P Q (Ok x) next h k = k x h
next_holds P Q (Err code) next h k = tt

-- the same where nothing is asked of the first value
pub always_holds : {A B : Type 0} (Q : B → Type 0) (r : Judged A) (next : A → Judged B) → ((x : A) → IfOk (next x) Q) → IfOk (r >>= next) Q
always_holds Q (Ok x) next k = k x
always_holds Q (Err code) next k = tt

pub only_if_holds : {A : Type 0} (P : A → Type 0) (test : Bool) (code : Code) (x : A) → P x → IfOk (only_if test code x) P
only_if_holds P true code x h = h
only_if_holds P false code x h = tt

pub either_holds : {A : Type 0} (P : A → Type 0) (test : Bool) (r s : Judged A) → IfOk r P → IfOk s P → IfOk (if test then r else s) P
either_holds P true r s h k = h
either_holds P false r s h k = k

pub each_holds : {A B : Type 0} (P : B → Type 0) (judge : A → Judged B) (xs : List A) → AllByRecursion (λ x. IfOk (judge x) P) xs → IfOk (each judge xs) (AllByRecursion P)
each_holds P judge [] h = tt
each_holds P judge (x ∷ xs) h =
    next_holds P (AllByRecursion P) (judge x) _ h.0 (λ y p. next_holds (AllByRecursion P) (AllByRecursion P) (each judge xs) _ (each_holds P judge xs h.1) (λ ys q. (p, q)))

-- nothing is asked of a value
pub any : {A : Type 0} (r : Judged A) → IfOk r (λ x. Unit {0})
any (Ok x) = tt
any (Err code) = tt

-- # Evaluations

-- where there is a value, it has the property, and the trees then are trees
abbrev pub Holds : {A : Type 0} → (A → Type 0) → Outcome A → Type 0
Holds P o = IfOk o.0 (λ x. P x × AreTrees o.1)

-- so over any trees that are trees
abbrev pub Yields : {A : Type 0} → (A → Type 0) → Doing A → Type 0
Yields P act = (f : List Tree) → AreTrees f → Holds P (act f)

-- nothing is asked of a truth
abbrev pub IsAny : Bool → Type 0
IsAny b = Unit {0}

pub then_holds : {A B : Type 0} (P : A → Type 0) (Q : B → Type 0) (o : Outcome A) (next : A → Doing B) → Holds P o → ((x : A) → P x → Yields Q (next x))
    → Holds Q (go_on o next)
then_holds P Q (Ok x, g) next h k = k x h.0 g h.1
then_holds P Q (Err code, g) next h k = tt

pub judged_holds : {A : Type 0} (P : A → Type 0) (r : Judged A) (f : List Tree) → IfOk r P → AreTrees f → Holds P (r, f)
judged_holds P (Ok x) f h t = (h, t)
judged_holds P (Err code) f h t = tt

-- one after another, where each keeps the property
pub in_turn_yields : {A B : Type 0} (P : B → Type 0) (act : B → A → Doing B) (xs : List A) → AllByRecursion (λ x. (b : B) → P b → Yields P (act b x)) xs
    → (b : B) → P b → Yields P (in_turn act b xs)
in_turn_yields P act [] h b p f t = (p, t)
in_turn_yields P act (x ∷ xs) h b p f t =
    then_holds P P (act b x f) (λ next. in_turn act next xs) (h.0 b p f t) (λ next q. in_turn_yields P act xs h.1 next q)

pub for_each_yields : {A B : Type 0} (P : B → Type 0) (act : A → Doing B) (xs : List A) → AllByRecursion (λ x. Yields P (act x)) xs → Yields (AllByRecursion P) (for_each act xs)
for_each_yields P act xs h =
    in_turn_yields (AllByRecursion P) (one_more act) xs
    (all_weaker (λ x. Yields P (act x)) _ (λ x yields done so_far f t.
    then_holds P (AllByRecursion P) (act x f) (λ y. give (done ++ y ∷ [])) (yields f t) (λ y p g u. (all_append P done (y ∷ []) so_far (p, tt), u))) xs h)
    [] tt

pub collected_yields : {A B : Type 0} (P : B → Type 0) (act : A → Doing (List B)) (xs : List A) → AllByRecursion (λ x. Yields (AllByRecursion P) (act x)) xs
    → Yields (AllByRecursion P) (collected act xs)
collected_yields P act xs h =
    in_turn_yields (AllByRecursion P) (more act) xs
    (all_weaker (λ x. Yields (AllByRecursion P) (act x)) _ (λ x yields done so_far f t.
    then_holds (AllByRecursion P) (AllByRecursion P) (act x f) (λ ys. give (done ++ ys)) (yields f t) (λ ys p g u. (all_append P done ys so_far p, u))) xs h)
    [] tt

unless_yields : (wanted answer : Bool) (rest : Doing Bool) → Yields IsAny rest → Yields IsAny (unless_found wanted answer rest)
unless_yields true true rest h f t = (tt, t)
unless_yields true false rest h f t = h f t
unless_yields false true rest h f t = h f t
unless_yields false false rest h f t = (tt, t)

pub first_that_yields : {A : Type 0} (wanted : Bool) (act : A → Doing Bool) (xs : List A) → AllByRecursion (λ x. Yields IsAny (act x)) xs → Yields IsAny (first_that wanted act xs)
first_that_yields wanted act [] h f t = (tt, t)
first_that_yields wanted act (x ∷ xs) h f t =
    then_holds IsAny IsAny (act x f) (λ answer. unless_found wanted answer (first_that wanted act xs)) (h.0 f t)
    (λ answer p. unless_yields wanted answer (first_that wanted act xs) (first_that_yields wanted act xs h.1))

-- # Lists

-- the same of each
pub all_of : {A : Type 0} (P : A → Type 0) → ((x : A) → P x) → (xs : List A) → AllByRecursion P xs
all_of P each [] = tt
all_of P each (x ∷ xs) = (each x, all_of P each xs)

-- of the images what holds of the elements
pub all_map : {A B : Type 0} (P : B → Type 0) (f : A → B) (xs : List A) → AllByRecursion (λ x. P (f x)) xs → AllByRecursion P (map f xs)
all_map P f [] h = tt
all_map P f (x ∷ xs) h = (h.0, all_map P f xs h.1)
