-- A document by its address, and scans of it: which plans these are, and how much is read.
use Rattle.std.proofs.Common.{◌≡◌, ℕ, suc, ◌+◌, ◌*◌, ◌<◌, ◌≤◌, List, [], ◌∷◌, map, length, Bool, true, false, Ok, Some, refl, sym, ◌∙◌, ap, subst, arith}
use Rattle.std.specs.Prelude.{slice_get}
use Rattle.std.specs.List.{AllByRecursion}
use Rattle.std.proofs.Math.Nat.{add-mul, mul-le-mul_right}
use Rattle.xq_atoms.specs.Atom.{Atomic, String}
use Rattle.xq_atoms.specs.Text.{Text, text_eq}
use Rattle.xq_trees.specs.declared.Axis.{Axis}
use Rattle.xq_trees.specs.Forest.{count}
use Rattle.xq_trees.specs.Items.{ItemView, Place as NodeAt, Value}
use Rattle.xq_trees.specs.Tree.{Tree, nodes}
use Rattle.xq_trees.specs.Tuples.{Tuple}
use Rattle.xq_sources.specs.Meters.{Readings}
use Rattle.xq_expressions.specs.declared.signatures.Function.{Function}
use Rattle.xq_expressions.specs.declared.signatures.Function.TheVariants.{Doc}
use Rattle.xq_meaning.specs.declared.node_tests.Test.{Test}
use Rattle.xq_meaning.specs.declared.plans.Plan.{Plan, out-Plan}
use Rattle.xq_meaning.specs.declared.plans.Plan.TheVariants as plan
use Rattle.xq_meaning.specs.declared.plans.Plan.TheOpen.{Plan-F, PlanStep-F}
use Rattle.xq_meaning.specs.declared.plans.PlanClause.{PlanClause}
use Rattle.xq_meaning.specs.declared.plans.PlanStep.{PlanStep, out-PlanStep}
use Rattle.xq_meaning.specs.declared.plans.PlanStep.TheVariants as step
use Rattle.xq_meaning.specs.Items.{Place, Item, Node, Atom, root_of}
use Rattle.xq_meaning.specs.Functions.{document, document_from, is_address}
use Rattle.xq_meaning.specs.Readings.{node_at, items_at, AreIn, Extends}
use Rattle.xq_meaning.specs.Doing.{Outcome, in_turn, one_more}
use Rattle.xq_meaning.specs.PlanMeaning.{Frame, Meaning, plan_mean}
use Rattle.xq_meaning.specs.Forms as Forms
use Rattle.xq_meaning.proofs.PlanEquations.{plan-Call, plan-Str}
use Rattle.xq_operators.specs.Reads.{rows_of, IsAtom, AreOf, HasGrown}
use Rattle.xq_operators.specs.Views.{tuple_at}
use Rattle.xq_operators.proofs.Growth.{tree_grown}
use Rattle.xq_eval.specs.Reads.{path_of_scans, rows_at}
use Rattle.xq_eval.specs.private.Scanning.{IsLiteral, IsDocument, IsScan, Scans}
use Rattle.xq_eval.proofs.Loops.{got_at}
use Rattle.xq_eval.proofs.Steps.{element}

-- # Which form a plan has

-- a plan, opened once
abbrev Form : Type 0
Form = Plan-F Plan PlanClause PlanStep

abbrev pub IsOther : Form → Type 0
IsOther (Plan-F.Str t) = ⊥
IsOther (Plan-F.Call function parts) = ⊥
IsOther (Plan-F.Path start steps) = ⊥
IsOther form = Unit {0}

abbrev pub scan_of : Axis × Test → PlanStep
scan_of s = step.Scan s.0 s.1

out_literal : (p : Plan) (l : IsLiteral p) → out-Plan p ≡ Plan-F.Str l.0
out_literal p l = ap out-Plan l.1 ∙ plan.outs-Str l.0

out_document : (p : Plan) (d : IsDocument p) → out-Plan p ≡ Plan-F.Call Doc (plan.Str d.0 ∷ [])
out_document p d = ap out-Plan d.1 ∙ plan.outs-Call Doc (plan.Str d.0 ∷ [])

out_path : (p : Plan) (address : Text) (steps : List (Axis × Test)) → p ≡ path_of_scans address steps → out-Plan p ≡ Plan-F.Path (plan.Call Doc (plan.Str address ∷ [])) (map scan_of steps)
out_path p address steps e = ap out-Plan e ∙ plan.outs-Path (plan.Call Doc (plan.Str address ∷ [])) (map scan_of steps)

module _ (p : Plan) (addresses : List Text) (trees : List Tree) (before after : Readings) where
  -- of the other forms nothing is claimed
  pub other_form : {form : Form} → out-Plan p ≡ form → IsOther form → Scans p addresses trees before after
  other_form is h = record {
    literal = λ l. absurd (subst IsOther (sym is ∙ out_literal p l) h);
    document = λ d. absurd (subst IsOther (sym is ∙ out_document p d) h);
    path = λ address steps e. absurd (subst IsOther (sym is ∙ out_path p address steps e) h);
  }

  pub literal_scans : {t : Text} → out-Plan p ≡ Plan-F.Str t → after ≡ before → Scans p addresses trees before after
  literal_scans is same = record {
    literal = λ l. same;
    document = λ d. absurd (let e = sym is ∙ out_document p d in cc);
    path = λ address steps e. absurd (let e' = sym is ∙ out_path p address steps e in cc);
  }

  pub call_scans : {function : Function} {parts : List Plan} → out-Plan p ≡ Plan-F.Call function parts
      → (function ≡ Doc → (t : Text) → parts ≡ plan.Str t ∷ [] → after ≡ before) → Scans p addresses trees before after
  call_scans {function} {parts} is reads = record {
    literal = λ l. absurd (let e = sym is ∙ out_literal p l in cc);
    document = λ d.
        let e : Plan-F.Call function parts ≡ Plan-F.Call Doc (plan.Str d.0 ∷ []) = sym is ∙ out_document p d in
        reads (cc) d.0 (cc);
    path = λ address steps e. absurd (let e' = sym is ∙ out_path p address steps e in cc);
  }

  pub path_scans : {start : Plan} {parts : List PlanStep} → out-Plan p ≡ Plan-F.Path start parts
      → ((address : Text) (steps : List (Axis × Test)) → start ≡ plan.Call Doc (plan.Str address ∷ []) → parts ≡ map scan_of steps → HasGrown before after (length steps * rows_at address addresses trees))
      → Scans p addresses trees before after
  path_scans {start} {parts} is reads = record {
    literal = λ l. absurd (let e = sym is ∙ out_literal p l in cc);
    document = λ d. absurd (let e = sym is ∙ out_document p d in cc);
    path = λ address steps e.
        let e' : Plan-F.Path start parts ≡ Plan-F.Path (plan.Call Doc (plan.Str address ∷ [])) (map scan_of steps) = sym is ∙ out_path p address steps e in
        reads address steps (cc) (cc);
  }

-- # Which form a step has

pub are_scans : (steps : List (Axis × Test)) → AllByRecursion IsScan (map scan_of steps)
are_scans [] = tt
are_scans (s ∷ ss) = ((s.0, s.1, refl), are_scans ss)

pub not_each : (s : PlanStep) (part : Plan) → s ≡ step.Each part → IsScan s → ⊥
not_each s part is scan =
    let e : PlanStep-F.Each part ≡ PlanStep-F.Scan scan.0 scan.1 = sym (step.outs-Each part) ∙ ap out-PlanStep (sym is ∙ scan.2) ∙ step.outs-Scan scan.0 scan.1 in
    absurd (cc)

-- nor is the step at that place, where all are scans
pub no_each : (steps : List PlanStep) (i : ℕ) (part : Plan) → slice_get steps i ≡ Some (step.Each part) → AllByRecursion IsScan steps → ⊥
no_each steps i part is scans =
    let at = got_at steps i (step.Each part) is in
    not_each (step.Each part) part refl (element IsScan steps i (step.Each part) (step.Each part) scans at.0 at.1)

-- # Counts that grow

pub grown_more : {a b : Readings} {m n : ℕ} → HasGrown a b m → m ≤ n → HasGrown a b n
grown_more h le = record { rows = omega (arith, h.rows); singles = omega (arith, h.singles); sees = omega (arith, h.sees) }

pub not_grown : (a b : Readings) (n : ℕ) → b ≡ a → HasGrown a b n
not_grown a b n is = record { rows = (let e = ap (λ (r : Readings). r.rows) is in omega arith); singles = (let e = ap (λ (r : Readings). r.singles) is in omega arith); sees = (let e = ap (λ (r : Readings). r.rows + r.looks) is in omega arith) }

-- from a time with the same counts
pub grown_from : {a b c : Readings} {n : ℕ} → b ≡ a → HasGrown b c n → HasGrown a c n
grown_from {c = c} {n} is h = subst (λ a. HasGrown a c n) is h

-- so many scans of a tree, and then k more
pub grown_on : (f f' : List Tree) (tree n k m : ℕ) {a b c : Readings} → Extends f f' → tree < length f → n + k ≤ m
    → HasGrown a b (n * rows_of f tree) → HasGrown b c (k * rows_of f' tree) → HasGrown a c (m * rows_of f tree)
grown_on f f' tree n k m grows there le first second =
    let same : rows_of f' tree ≡ rows_of f tree = ap (λ t. count (nodes t)) (tree_grown grows tree there) in
    let next = ap (λ r. k * r) same in
    let both = add-mul n k (rows_of f tree) in
    let most = mul-le-mul_right (rows_of f tree) le in
    record { rows = omega (arith, first.rows, second.rows); singles = omega (arith, first.singles, second.singles); sees = omega (arith, first.sees, second.sees) }

pub once : {a b : Readings} {n : ℕ} → HasGrown a b n → HasGrown a b (1 * n)
once {a} {b} {n} h = (let e : n ≡ 1 * n = omega arith in subst (HasGrown a b) e h)

-- # The value of a literal, and of a document at it

ok_same : {A : Type 0} {x y : A} {f f' : List Tree} (o : Outcome A) → o ≡ (Ok x, f) → o ≡ (Ok y, f') → (x ≡ y) × (f ≡ f')
ok_same {x = x} {y} {f} {f'} o a b =
    let first : Ok x ≡ Ok y = ap (λ o. o.0) (sym a ∙ b) in
    (cc, ap (λ o. o.1) (sym a ∙ b))

-- one list of one atom
pub record IsOneAtom (views : Tuple ItemView) : Type 0 where
  pub xs : List ItemView
  pub is : views ≡ xs ∷ []
  pub all : AllByRecursion IsAtom xs

atom_there : (f : List Tree) (xs : List ItemView) (a : Atomic) → items_at f xs ≡ Atom a ∷ [] → AllByRecursion IsAtom xs
atom_there f [] a e = tt
atom_there f (Value b ∷ []) a e = (tt, tt)
atom_there f (NodeAt n ∷ xs) a e = absurd (cc)
atom_there f (Value b ∷ x ∷ xs) a e = absurd (cc)

atoms_there : (f : List Tree) (views : Tuple ItemView) (a : Atomic) → tuple_at f views ≡ (Atom a ∷ []) ∷ [] → IsOneAtom views
atoms_there f [] a e = absurd (cc)
atoms_there f (xs ∷ []) a e = (let first : items_at f xs ≡ Atom a ∷ [] = cc in record { xs = xs; is = refl; all = atom_there f xs a first })
atoms_there f (xs ∷ ys ∷ more) a e = absurd (cc)

pub literal_value : (frame : Frame) (f f' : List Tree) (t : Text) (views : Tuple ItemView)
    → in_turn (one_more (λ (part : Meaning). part frame)) [] (plan_mean (plan.Str t) ∷ []) f ≡ (Ok (tuple_at f' views), f') → IsOneAtom views
literal_value frame f f' t views e =
    let known = ap (λ m. in_turn (one_more (λ (part : Meaning). part frame)) [] (m ∷ []) f) (plan-Str t) in
    atoms_there f' views (String t) (sym (ok_same (in_turn (one_more (λ (part : Meaning). part frame)) [] (plan_mean (plan.Str t) ∷ []) f) known e).0)

-- the document that was found, by the number of its tree
pub record IsFound (address : Text) (addresses : List Text) (n : ℕ) (trees : List Tree) (xs : List Item) : Type 0 where
  pub number : ℕ
  pub is : xs ≡ Node (root_of (n + number)) ∷ []
  pub there : number < length trees
  pub rows : rows_at address addresses trees ≡ rows_of trees number

found_here : (n : ℕ) (a : Text) (as' : List Text) (t : Tree) (ts : List Tree) (address : Text) (xs : List Item) → text_eq a address ≡ true → document_from n (a ∷ as') address ≡ Ok xs → IsFound address (a ∷ as') n (t ∷ ts) xs
found_here n a as' t ts address xs e is =
    let known : document_from n (a ∷ as') address ≡ Ok (Node (root_of n) ∷ []) = rw e refl in
    let ok : Ok (Node (root_of n) ∷ []) ≡ Ok xs = sym known ∙ is in
    let same : xs ≡ Node (root_of n) ∷ [] = cc in
    let none : n + 0 ≡ n = omega arith in
    record {
      number = 0;
      is = same ∙ ap (λ m. Node (root_of m) ∷ []) (sym none);
      there = omega arith;
      rows = rw e refl;
    }

found_later : (n : ℕ) (a : Text) (as' : List Text) (t : Tree) (ts : List Tree) (address : Text) (xs : List Item) → text_eq a address ≡ false → IsFound address as' (suc n) ts xs → IsFound address (a ∷ as') n (t ∷ ts) xs
found_later n a as' t ts address xs e found =
    let there = found.there in
    let next : suc n + found.number ≡ n + suc found.number = omega arith in
    record {
      number = suc found.number;
      is = found.is ∙ ap (λ m. Node (root_of m) ∷ []) next;
      there = omega arith;
      rows = rw e found.rows;
    }

found_from : (n : ℕ) (addresses : List Text) (trees : List Tree) (address : Text) (xs : List Item) → length addresses ≤ length trees → document_from n addresses address ≡ Ok xs → IsFound address addresses n trees xs
found_from n [] trees address xs h is = absurd (cc)
found_from n (a ∷ as') [] address xs h is = absurd (omega arith)
found_from n (a ∷ as') (t ∷ ts) address xs h is = by (text_eq a address) refl (λ later. found_from (suc n) as' ts address xs (omega arith) later)
  where
    by : (b : Bool) → text_eq a address ≡ b → (document_from (suc n) as' address ≡ Ok xs → IsFound address as' (suc n) ts xs) → IsFound address (a ∷ as') n (t ∷ ts) xs
    by true e later = found_here n a as' t ts address xs e is
    by false e later =
        let known : document_from n (a ∷ as') address ≡ document_from (suc n) as' address = rw e refl in
        found_later n a as' t ts address xs e (later (sym known ∙ is))

found : (addresses : List Text) (trees : List Tree) (address : Text) (xs : List Item) → length addresses ≤ length trees → document addresses address ≡ Ok xs → IsFound address addresses 0 trees xs
found addresses trees address xs h is = by (is_address address) refl
  where
    by : (b : Bool) → is_address address ≡ b → IsFound address addresses 0 trees xs
    by true e =
        let known : document addresses address ≡ document_from 0 addresses address = rw e refl in
        found_from 0 addresses trees address xs h (sym known ∙ is)
    by false e = absurd (let bad = (rw e at is) in cc)

-- its items are one node of one tree
of_found : (trees : List Tree) (views : List ItemView) (number : ℕ) → number < length trees → AreIn trees views → items_at trees views ≡ Node (root_of (0 + number)) ∷ [] → AreOf trees number views
of_found trees [] number there inside e = absurd (cc)
of_found trees (Value a ∷ xs) number there inside e = absurd (cc)
of_found trees (NodeAt n ∷ x ∷ xs) number there inside e = absurd (cc)
of_found trees (NodeAt n ∷ []) number there inside e =
    let place : node_at trees n ≡ root_of (0 + number) = cc in
    let none : 0 + number ≡ number = omega arith in
    let tree : n.tree ≡ number = ap (λ (p : Place). p.tree) place ∙ none in
    let pre = subst (λ m. n.pre < rows_of trees m) tree inside.0.node_in in
    record { has_tree = there; of_tree = ((tree, pre), tt); few = omega arith }

-- the value of a document is a node of a tree with as many rows
pub record IsValue (address : Text) (addresses : List Text) (trees : List Tree) (views : List ItemView) : Type 0 where
  pub number : ℕ
  pub are : AreOf trees number views
  pub rows : rows_at address addresses trees ≡ rows_of trees number

pub document_value : (frame : Frame) (f f' : List Tree) (t : Text) (views : List ItemView) → length frame.addresses ≤ length f → AreIn f' views
    → plan_mean (plan.Call Doc (plan.Str t ∷ [])) frame f ≡ (Ok (items_at f' views), f') → IsValue t frame.addresses f' views × (f ≡ f')
document_value frame f f' t views h inside e =
    let known : plan_mean (plan.Call Doc (plan.Str t ∷ [])) frame f ≡ (document frame.addresses t, f) =
    ap (λ m. m frame f) (plan-Call Doc (plan.Str t ∷ [])) ∙ ap (λ m. Forms.call Doc (m ∷ []) frame f) (plan-Str t) in
    let outcome : (document frame.addresses t, f) ≡ (Ok (items_at f' views), f') = sym known ∙ e in
    let same : f ≡ f' = ap (λ (o : Outcome (List Item)). o.1) outcome in
    let judged : document frame.addresses t ≡ Ok (items_at f' views) = ap (λ (o : Outcome (List Item)). o.0) outcome in
    let it = found frame.addresses f' t (items_at f' views) (subst (λ g. length frame.addresses ≤ length g) same h) judged in
    (record { number = it.number; are = of_found f' views it.number it.there inside it.is; rows = it.rows }, same)
