-- The best of values that are of one kind.
use Rattle.std.proofs.Common.{◌≡◌, List, ◌∷◌, Bool, true, false, Ok, Err, refl, sym, ap, ◌∙◌}
use Rattle.xq_atoms.specs.declared.refusals.Code.{Code}
use Rattle.xq_atoms.specs.declared.refusals.Code.TheVariants.{FORG0006}
use Rattle.xq_atoms.specs.Judged.{Judged, ◌>>=◌, only_if}
use Rattle.xq_atoms.specs.Atom.{Atomic, Integer, Decimal, String, Boolean, Untyped}
use Rattle.xq_atoms.specs.Compare.{Key, Number, Characters, Truth, key, of_one_kind}
use Rattle.xq_meaning.specs.Arguments.{atomic, each}
use Rattle.xq_meaning.specs.Functions.{comparable, chosen, best, extreme}
use Rattle.xq_functions.specs.private.Running.{choosing}

bind-const : {A B C : Type 0} (j : Judged A) (f : A → B) (k : Judged C) → ((j >>= (λ x. Ok (f x))) >>= (λ y. k)) ≡ (j >>= (λ x. k))
bind-const (Ok x) f k = refl
bind-const (Err code) f k = refl

-- the first value is judged beside itself
pub choosing-first : (better : Atomic → Atomic → Bool) (a : Atomic) (as' : List Atomic) → comparable a a ≡ Ok a → choosing better a a as' ≡ extreme better (a ∷ as')
choosing-first better a as' e =
    sym (ap (λ j. (j >>= (λ x. each (comparable a) as' >>= (λ xs. Ok (x ∷ xs)))) >>= (λ values. Ok (atomic (best better a as')))) e ∙ bind-const (each (comparable a) as') (λ xs. a ∷ xs) (Ok (atomic (best better a as'))))

pub extreme-err : (better : Atomic → Atomic → Bool) (a : Atomic) (as' : List Atomic) (code : Code) → comparable a a ≡ Err code → extreme better (a ∷ as') ≡ Err code
extreme-err better a as' code e = ap (λ j. (j >>= (λ x. each (comparable a) as' >>= (λ xs. Ok (x ∷ xs)))) >>= (λ values. Ok (atomic (best better a as')))) e

-- a value more, which is of the first one's kind
pub choosing-more : (better : Atomic → Atomic → Bool) (first so_far a : Atomic) (as' : List Atomic) → comparable first a ≡ Ok a → choosing better first so_far (a ∷ as') ≡ choosing better first (chosen (better a so_far) a so_far) as'
choosing-more better first so_far a as' e =
    let result = Ok (atomic (best better (chosen (better a so_far) a so_far) as')) in
    ap (λ j. (j >>= (λ x. each (comparable first) as' >>= (λ xs. Ok (x ∷ xs)))) >>= (λ values. result)) e ∙ bind-const (each (comparable first) as') (λ xs. a ∷ xs) result

pub choosing-err : (better : Atomic → Atomic → Bool) (first so_far a : Atomic) (as' : List Atomic) (code : Code) → comparable first a ≡ Err code → choosing better first so_far (a ∷ as') ≡ Err code
choosing-err better first so_far a as' code e = ap (λ j. (j >>= (λ x. each (comparable first) as' >>= (λ xs. Ok (x ∷ xs)))) >>= (λ values. Ok (atomic (best better so_far (a ∷ as'))))) e

-- # Of one kind

only_if-true : (b : Bool) (code : Code) (x y : Atomic) → only_if b code x ≡ Ok y → b ≡ true
only_if-true true code x y e = refl
only_if-true false code x y e = (cc)

pub comparable-kind : (first a : Atomic) → comparable first a ≡ Ok a → of_one_kind (key first) (key a) ≡ true
comparable-kind first (Untyped t) e = (cc)
comparable-kind first (Integer n) e = only_if-true (of_one_kind (key first) (key (Integer n))) FORG0006 (Integer n) (Integer n) e
comparable-kind first (Decimal m) e = only_if-true (of_one_kind (key first) (key (Decimal m))) FORG0006 (Decimal m) (Decimal m) e
comparable-kind first (String t) e = only_if-true (of_one_kind (key first) (key (String t))) FORG0006 (String t) (String t) e
comparable-kind first (Boolean b) e = only_if-true (of_one_kind (key first) (key (Boolean b))) FORG0006 (Boolean b) (Boolean b) e

-- two values of a third one's kind
pub beside_first : (j k l : Key) → of_one_kind j k ≡ true → of_one_kind j l ≡ true → of_one_kind k l ≡ true
beside_first (Number m) (Number n) (Number o) e h = refl
beside_first (Characters s) (Characters t) (Characters u) e h = refl
beside_first (Truth p) (Truth q) (Truth r) e h = refl
beside_first j k l e h = (cc)
