-- What is judged of attributes among nodes.
use Rattle.std.proofs.Common.{◌≡◌, ℕ, ◌<◌, List, [], ◌∷◌, ◌++◌, map, Bool, true, false, not, ◌||◌, Some, None, Err, refl, sym, ◌∙◌, ap, arith, Bor}
use Rattle.std.specs.Prelude.{reverse, nat_eq, if◌then◌else◌, bytes_eq}
use Rattle.std.specs.List.{list_any}
use Rattle.std.proofs.lemmas.Bool.Decides.{nat_tests}
use Rattle.std.proofs.lemmas.List.{reverse-append, map_push}
use Rattle.xq_atoms.specs.Text.{Text, text_eq}
use Rattle.xq_atoms.specs.declared.refusals.Code.{Code}
use Rattle.xq_atoms.specs.declared.refusals.Code.TheVariants.{XQDY0025}
use Rattle.xq_atoms.specs.declared.refusals.Fault.{Fault}
use Rattle.xq_atoms.specs.declared.refusals.Fault.TheVariants.{Code as OfCode, Want as OfWant}
use Rattle.xq_trees.specs.declared.Kind.{Kind}
use Rattle.xq_trees.specs.declared.Kind.TheVariants.{Document, Element, Attribute, Text as TextKind, Comment, ProcessingInstruction}
use Rattle.xq_meaning.specs.Content.{attribute_fault, first_fault, or_else}
use Rattle.xq_build.specs.private.Leaves.{Leaf}
use Rattle.xq_build.specs.private.Attributes.{top_labels, labels_if, fault_from, JudgedAs}
use Rattle.xq_build.specs.private.AttributeJudging.{JudgesLeaf}

-- # Attributes

pub fault_below : (k : Kind) → (k ≡ Document → ⊥) → (names : List Text) (late : Bool) (name : Text) → late ≡ false
    → attribute_fault k names late name ≡ (if list_any (text_eq name) names then Some XQDY0025 else None)
fault_below Document other names late name e = absurd (other refl)
fault_below Element other names late name e = rw e refl
fault_below Attribute other names late name e = rw e refl
fault_below TextKind other names late name e = rw e refl
fault_below Comment other names late name e = rw e refl
fault_below ProcessingInstruction other names late name e = rw e refl

any-append : {A : Type 0} (p : A → Bool) (xs ys : List A) → list_any p (xs ++ ys) ≡ (list_any p xs || list_any p ys)
any-append p [] ys = refl
any-append p (x ∷ xs) ys = by_test (p x) (any-append p xs ys)
  where
    by_test : (b : Bool) → list_any p (xs ++ ys) ≡ (list_any p xs || list_any p ys) → (b || list_any p (xs ++ ys)) ≡ ((b || list_any p xs) || list_any p ys)
    by_test true e = refl
    by_test false e = e

either : (a b : Bool) → (a || (b || false)) ≡ (b || a)
either true true = refl
either true false = refl
either false true = refl
either false false = refl

any-reverse : {A : Type 0} (p : A → Bool) (xs : List A) → list_any p (reverse xs) ≡ list_any p xs
any-reverse p [] = refl
any-reverse p (x ∷ xs) =
    ap (list_any p) (reverse-append (x ∷ []) xs) ∙ any-append p (reverse xs) (x ∷ []) ∙ ap (λ b. b || (p x || false)) (any-reverse p xs) ∙ either (list_any p xs) (p x)

any-now : (name : Text) (keys : List (Bor (List ℕ))) → list_any (text_eq name) (map (λ (k : Bor (List ℕ)). k.now) keys) ≡ list_any (λ (k : Bor (List ℕ)). bytes_eq name k.now) keys
any-now name [] = refl
any-now name (k ∷ keys) = ap (λ b. bytes_eq name k.now || b) (any-now name keys)

pub among_names : (name : Text) (keys : List (Bor (List ℕ))) → list_any (text_eq name) (reverse (map (λ (k : Bor (List ℕ)). k.now) keys)) ≡ list_any (λ (k : Bor (List ℕ)). bytes_eq name k.now) keys
among_names name keys = any-reverse (text_eq name) (map (λ (k : Bor (List ℕ)). k.now) keys) ∙ any-now name keys

pub name_more : (keys : List (Bor (List ℕ))) (k : Bor (List ℕ)) → reverse (map (λ (x : Bor (List ℕ)). x.now) (keys ++ k ∷ [])) ≡ k.now ∷ reverse (map (λ (x : Bor (List ℕ)). x.now) keys)
name_more keys k = ap reverse (map_push (λ (x : Bor (List ℕ)). x.now) keys k) ∙ reverse-append (map (λ (x : Bor (List ℕ)). x.now) keys) (k.now ∷ [])

-- # Nodes

pub deeper_decides : (parent : Kind) (names : List Text) (late : Bool) (p : Leaf) (others : List Leaf) → 0 < p.0 → fault_from parent names late others ≡ fault_from parent names late (p ∷ others)
deeper_decides parent names late p others h =
    let no : nat_eq p.0 0 ≡ false = grind (arith, nat_tests) in
    ap (λ b. first_fault parent names late (labels_if b p (top_labels others))) (sym no)

at_top : (parent : Kind) (names : List Text) (late : Bool) (p : Leaf) (others : List Leaf) → p.0 ≡ 0 → fault_from parent names late (p ∷ others) ≡ first_fault parent names late (p.1 ∷ top_labels others)
at_top parent names late p others e =
    let yes : nat_eq p.0 0 ≡ true = grind (arith, nat_tests) in
    ap (λ b. first_fault parent names late (labels_if b p (top_labels others))) yes

pub attribute_decides : (parent : Kind) (names new : List Text) (late : Bool) (p : Leaf) (others : List Leaf) → p.0 ≡ 0 → p.1.kind ≡ Attribute
    → attribute_fault parent names late p.1.name ≡ None → new ≡ p.1.name ∷ names → fault_from parent new late others ≡ fault_from parent names late (p ∷ others)
attribute_decides parent names new late p others e k f n = sym (
    at_top parent names late p others e ∙ of_kind ∙ ap (λ o. or_else o (first_fault parent (p.1.name ∷ names) late (top_labels others))) f
    ∙ ap (λ (ns : List Text). first_fault parent ns late (top_labels others)) (sym n)
    )
  where
    of_kind : first_fault parent names late (p.1 ∷ top_labels others) ≡ or_else (attribute_fault parent names late p.1.name) (first_fault parent (p.1.name ∷ names) late (top_labels others))
    of_kind = rw k refl

pub attribute_refused : (parent : Kind) (names : List Text) (late : Bool) (p : Leaf) (others : List Leaf) (code : Code) → p.0 ≡ 0 → p.1.kind ≡ Attribute
    → attribute_fault parent names late p.1.name ≡ Some code → fault_from parent names late (p ∷ others) ≡ Some code
attribute_refused parent names late p others code e k f =
    at_top parent names late p others e ∙ of_kind ∙ ap (λ o. or_else o (first_fault parent (p.1.name ∷ names) late (top_labels others))) f
  where
    of_kind : first_fault parent names late (p.1 ∷ top_labels others) ≡ or_else (attribute_fault parent names late p.1.name) (first_fault parent (p.1.name ∷ names) late (top_labels others))
    of_kind = rw k refl

pub other_decides : (parent : Kind) (names : List Text) (late : Bool) (p : Leaf) (others : List Leaf) → p.0 ≡ 0 → (p.1.kind ≡ Attribute → ⊥)
    → fault_from parent names true others ≡ fault_from parent names late (p ∷ others)
other_decides parent names late p others e k = sym (at_top parent names late p others e ∙ of_kind p.1.kind refl k)
  where
    of_kind : (kind : Kind) → p.1.kind ≡ kind → (kind ≡ Attribute → ⊥) → first_fault parent names late (p.1 ∷ top_labels others) ≡ first_fault parent names true (top_labels others)
    of_kind Document h k = rw h refl
    of_kind Element h k = rw h refl
    of_kind Attribute h k = absurd (k refl)
    of_kind TextKind h k = rw h refl
    of_kind Comment h k = rw h refl
    of_kind ProcessingInstruction h k = rw h refl

pub attribute_stops : (parent : Kind) (names new : List Text) (late : Bool) (p : Leaf) (fault : Fault) → p.0 ≡ 0 → p.1.kind ≡ Attribute
    → JudgedAs (attribute_fault parent names late p.1.name) (Err fault) → JudgesLeaf parent names late p new (Err fault)
attribute_stops parent names new late p (OfWant want) e k h = tt
attribute_stops parent names new late p (OfCode code) e k h = λ others. attribute_refused parent names late p others code e k h

-- a node that stops the walk
pub judged_stops : (parent : Kind) (names new : List Text) (late : Bool) (p : Leaf) (others all : List Leaf) (fault : Fault) → fault_from parent names late (p ∷ others) ≡ fault_from parent [] false all
    → JudgesLeaf parent names late p new (Err fault) → JudgedAs (fault_from parent [] false all) (Err fault)
judged_stops parent names new late p others all (OfWant want) e h = tt
judged_stops parent names new late p others all (OfCode code) e h = sym e ∙ h others

is_among : Bor (List ℕ) → List (Bor (List ℕ)) → Bool
is_among name keys = list_any (λ (k : Bor (List ℕ)). bytes_eq name.now k.now) keys

pub doubled : (k : Kind) → (k ≡ Document → ⊥) → (late : Bool) (name : Bor (List ℕ)) (keys : List (Bor (List ℕ))) (new : Bool) → late ≡ false
    → new ≡ not (list_any (λ (x : Bor (List ℕ)). bytes_eq name.now x.now) keys) → new ≡ false
    → attribute_fault k (reverse (map (λ (x : Bor (List ℕ)). x.now) keys)) late name.now ≡ Some XQDY0025
unfolding is_among
doubled k other late name keys new l a n =
    let found : is_among name keys ≡ true = of_not (is_among name keys) (sym a ∙ n) in
    fault_below k other (reverse (map (λ (x : Bor (List ℕ)). x.now) keys)) late name.now l ∙ ap (λ b. if b then Some XQDY0025 else None) (among_names name.now keys ∙ found)
  where
    of_not : (b : Bool) → not b ≡ false → b ≡ true
    of_not true h = refl
    of_not false h = absurd (cc)

pub fresh : (k : Kind) → (k ≡ Document → ⊥) → (late : Bool) (name : Bor (List ℕ)) (keys : List (Bor (List ℕ))) (new : Bool) → late ≡ false
    → new ≡ not (list_any (λ (x : Bor (List ℕ)). bytes_eq name.now x.now) keys) → new ≡ true
    → attribute_fault k (reverse (map (λ (x : Bor (List ℕ)). x.now) keys)) late name.now ≡ None
unfolding is_among
fresh k other late name keys new l a n =
    let none : is_among name keys ≡ false = of_not (is_among name keys) (sym a ∙ n) in
    fault_below k other (reverse (map (λ (x : Bor (List ℕ)). x.now) keys)) late name.now l ∙ ap (λ b. if b then Some XQDY0025 else None) (among_names name.now keys ∙ none)
  where
    of_not : (b : Bool) → not b ≡ true → b ≡ false
    of_not false h = refl
    of_not true h = absurd (cc)

pub fresh_name : (name : Bor (List ℕ)) (keys after : List (Bor (List ℕ))) (new : Bool)
    → new ≡ not (list_any (λ (x : Bor (List ℕ)). bytes_eq name.now x.now) keys) → new ≡ true
    → after ≡ (if list_any (λ (x : Bor (List ℕ)). bytes_eq name.now x.now) keys then keys else keys ++ name ∷ [])
    → reverse (map (λ (x : Bor (List ℕ)). x.now) after) ≡ name.now ∷ reverse (map (λ (x : Bor (List ℕ)). x.now) keys)
unfolding is_among
fresh_name name keys after new a n e =
    let none : is_among name keys ≡ false = of_not (is_among name keys) (sym a ∙ n) in
    ap (λ (ks : List (Bor (List ℕ))). reverse (map (λ (x : Bor (List ℕ)). x.now) ks)) (e ∙ ap (λ b. if b then keys else keys ++ name ∷ []) none) ∙ name_more keys name
  where
    of_not : (b : Bool) → not b ≡ true → b ≡ false
    of_not false h = refl
    of_not true h = absurd (cc)
