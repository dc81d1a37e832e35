-- The tree that content becomes, where it is judged to be right.
use Rattle.std.proofs.Common.{◌≡◌, suc, ◌+◌, ◌<◌, ◌≤◌, List, [], ◌∷◌, length, map, true, false, not, None, Ok, Err, refl, sym, ◌∙◌, ap, arith}
use Rattle.std.specs.Prelude.{nat_le, if◌then◌else◌}
use Rattle.std.proofs.lemmas.Bool.Decides.{nat_tests}
use Rattle.xq_atoms.specs.declared.refusals.Code.TheVariants.{ProfLevel, ProfNodes}
use Rattle.xq_atoms.specs.declared.refusals.Fault.{Fault}
use Rattle.xq_atoms.specs.declared.refusals.Fault.TheVariants.{Code as OfCode, Want as OfWant}
use Rattle.xq_trees.specs.Forest.{Forest, count, tops}
use Rattle.xq_trees.specs.Tree.{Label, Tree, nodes}
use Rattle.xq_meaning.specs.Content.{first_fault, is_within_height, within_limits, unless_fault, built}
use Rattle.xq_atoms.specs.Answers.{GivesUnlessWanting}
use Rattle.xq_build.specs.private.Leaves.{Leaf, leaves}
use Rattle.xq_build.specs.private.Attributes.{top_labels, fault_from, JudgedAs}
use Rattle.xq_build.specs.private.Content.{raised, are_low}
use Rattle.xq_build.proofs.Contents.{top_leaves, low_leaves, length-leaves, raised_leaves, leaves-injective}

-- # The tree

abbrev whole : Label → Forest Label → Tree
whole a f = record { root = a; below = f }

passes : (a : Label) (f : Forest Label) (ps : List Leaf) → ps ≡ leaves f → fault_from a.kind [] false ps ≡ first_fault a.kind [] false (tops f)
passes a f ps e = ap (first_fault a.kind [] false) (ap top_labels e ∙ top_leaves f)

pub built_refused : (a : Label) (f : Forest Label) (ps : List Leaf) (fault : Fault) → ps ≡ leaves f → JudgedAs (fault_from a.kind [] false ps) (Err fault) → GivesUnlessWanting (λ (t : Tree). t) (built a f) (Err fault)
built_refused a f ps (OfWant want) e h = tt
built_refused a f ps (OfCode code) e h = ap (λ o. unless_fault o (whole a f)) (sym (passes a f ps e) ∙ h)

unfaulted : (a : Label) (f : Forest Label) (ps : List Leaf) → ps ≡ leaves f → fault_from a.kind [] false ps ≡ None → built a f ≡ within_limits (whole a f)
unfaulted a f ps e h = ap (λ o. unless_fault o (whole a f)) (sym (passes a f ps e) ∙ h)

pub built_high : (a : Label) (f : Forest Label) (ps : List Leaf) → ps ≡ leaves f → fault_from a.kind [] false ps ≡ None → are_low ps ≡ false → built a f ≡ Err ProfLevel
built_high a f ps e h l =
    let high : is_within_height 100 f ≡ false = sym (low_leaves f) ∙ ap are_low (sym e) ∙ l in
    unfaulted a f ps e h ∙ rw high refl

-- not too high
within_height : (a : Label) (f : Forest Label) (ps : List Leaf) → ps ≡ leaves f → fault_from a.kind [] false ps ≡ None → are_low ps ≡ true
    → built a f ≡ (if not (nat_le (suc (count f + 0)) 1000000) then Err ProfNodes else Ok (whole a f))
within_height a f ps e h l =
    let low : is_within_height 100 f ≡ true = sym (low_leaves f) ∙ ap are_low (sym e) ∙ l in
    unfaulted a f ps e h ∙ rw low refl

pub built_large : (a : Label) (f : Forest Label) (ps : List Leaf) → ps ≡ leaves f → fault_from a.kind [] false ps ≡ None → are_low ps ≡ true → 1000000 ≤ length ps → built a f ≡ Err ProfNodes
built_large a f ps e h l n =
    let many : nat_le (suc (count f + 0)) 1000000 ≡ false = (let c = length-leaves f in let d = ap length e in grind (arith, nat_tests)) in
    within_height a f ps e h l ∙ rw many refl

pub built_whole : (a : Label) (f : Forest Label) (ps all : List Leaf) (t : Tree) → ps ≡ leaves f → fault_from a.kind [] false ps ≡ None → are_low ps ≡ true → length ps < 1000000
    → all ≡ (0, a) ∷ map raised ps → all ≡ leaves (nodes t) → built a f ≡ Ok t
built_whole a f ps all t e h l n r i =
    let few : nat_le (suc (count f + 0)) 1000000 ≡ true = (let c = length-leaves f in let d = ap length e in grind (arith, nat_tests)) in
    let same : t ≡ whole a f = leaves-injective t (whole a f) (sym i ∙ r ∙ ap (λ (x : List Leaf). (0, a) ∷ map raised x) e ∙ raised_leaves (whole a f)) in
    within_height a f ps e h l ∙ rw few (ap Ok (sym same))
