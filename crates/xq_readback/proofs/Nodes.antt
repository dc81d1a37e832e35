-- What nodes are quoted as makes them again.
use Rattle.std.proofs.Common.{◌≡◌, ℕ, zero, suc, ◌<◌, ◌≤◌, true, false, not, List, [], ◌∷◌, ◌++◌, length, map, Some, Ok, Err, refl, sym, ap, ◌∙◌, subst, arith, append_assoc}
use Rattle.std.specs.Prelude.{IsTrue, IsUtf8, bytes_eq, codes}
use Rattle.std.specs.List.{IsDistinct}
use Rattle.std.specs.Str.{chars}
use Rattle.std.proofs.lemmas.Bool.{and_parts, false≢true}
use Rattle.std.proofs.lemmas.List.{append-nil, length-append}
use Rattle.std.proofs.Math.Seq.{get_or-append_seam}
use Rattle.xq_atoms.specs.Characters.{is_name, is_space}
use Rattle.xq_atoms.specs.Spaces.{after_leading}
use Rattle.xq_atoms.specs.Text.{Text}
use Rattle.xq_atoms.specs.Atom.{String}
use Rattle.xq_trees.specs.declared.Kind.{Kind}
use Rattle.xq_trees.specs.declared.Kind.TheVariants as kind
use Rattle.xq_trees.specs.Names.{is_empty, are_characters, is_attribute_name, is_target, is_instruction, begins_with_space, holds}
use Rattle.xq_trees.specs.Forest.{Forest, end, node, count, tops, EachNode, IsWithinHeight}
use Rattle.xq_trees.specs.Tree.{Label, Tree, nodes, is_content, attribute_names, is_legal, IsText, IsTree, most_levels, most_nodes}
use Rattle.xq_sources.specs.Sources.{tree_at, no_tree}
use Rattle.xq_expressions.specs.declared.expressions.Expr.{Expr}
use Rattle.xq_expressions.specs.declared.expressions.Expr.TheVariants as e
use Rattle.xq_expressions.specs.declared.expressions.Clause.TheOpen.{Expr-F}
use Rattle.xq_expressions.specs.declared.operators.NamedNode.{NamedNode}
use Rattle.xq_expressions.specs.declared.operators.NamedNode.TheVariants as named
use Rattle.xq_expressions.specs.declared.operators.UnnamedNode.{UnnamedNode}
use Rattle.xq_expressions.specs.declared.operators.UnnamedNode.TheVariants as unnamed
use Rattle.xq_parser.specs.Grammar.{unprefixed}
use Rattle.xq_meaning.specs.Items.{Item, Node, Atom, root_of}
use Rattle.xq_meaning.specs.Content.{label, name_of, named_tree, unnamed_tree, some_tree, may_be_comment}
use Rattle.xq_meaning.specs.Doing.{Outcome, go_on, give, in_turn, more, collected}
use Rattle.xq_meaning.specs.Meaning.{Frame, Meaning, form_meaning, mean}
use Rattle.xq_meaning.proofs.Equations as mean
use Rattle.xq_readback.specs.Quoted.{whole, written, made, quoted_nodes, quoted_tree}
use Rattle.xq_readback.proofs.Contents.{tree, roots, AreMade, tree_more, parts_of, IsBuilt, built-again}
use Rattle.xq_trees.proofs.Subtrees.{higher}
use Rattle.xq_readback.proofs.Names.{element-name, attribute-name, target-name, not-false}
use Rattle.xq_readback.proofs.Values.{text-gives}

abbrev Done : Type 0
Done = Outcome (List Item)

-- the meaning gives the items, and these are the trees then
abbrev pub Gives : Expr → Frame → List Tree → List Item → List Tree → Type 0
Gives x frame trees xs now = ◌≡◌ {A = Done} (mean x frame trees) (Ok xs, now)

-- ---- the constructors

-- a constructor with a name, by its name, its content and its tree
pub named-gives : (k : NamedNode) (n : Text) (x : Expr) (frame : Frame) (trees now : List Tree) (xs : List Item) (t : Tree)
    → name_of k (String n ∷ []) ≡ Ok n → Gives x frame trees xs now → named_tree k n now xs ≡ Ok t
    → Gives (e.Named k (written n) x) frame trees (Node (root_of (length now)) ∷ []) (now ++ t ∷ [])
named-gives k n x frame trees now xs t good part is =
    ap (λ (m : Meaning). m frame trees)
    (mean.mean-Named k (written n) x ∙ ap (λ (m : Meaning). form_meaning (Expr-F.Named k m (mean x))) (mean.name-Literal (unprefixed n)))
    ∙ rw (good, part, is) refl

-- a constructor without a name, by its content and its tree
pub unnamed-gives : (k : UnnamedNode) (x : Expr) (frame : Frame) (trees now : List Tree) (xs : List Item) (t : Tree)
    → Gives x frame trees xs now → unnamed_tree k now xs ≡ Ok (Some t)
    → Gives (e.Unnamed k x) frame trees (Node (root_of (length now)) ∷ []) (now ++ t ∷ [])
unnamed-gives k x frame trees now xs t part is =
    ap (λ (m : Meaning). m frame trees) (mean.mean-Unnamed k x) ∙ rw (part, is) refl

-- ---- several expressions

one_alone : (o : Done) → go_on (go_on o (λ (ys : List Item). give ([] ++ ys))) (λ (n : List Item). give n) ≡ o
one_alone (Ok xs, f) = refl
one_alone (Err code, f) = refl

-- several expressions as one mean them one after another
pub whole-is : (xs : List Expr) (frame : Frame) (trees : List Tree) → mean (whole xs) frame trees ≡ collected (λ (part : Meaning). part frame) (map mean xs) trees
whole-is [] frame trees = ap (λ (m : Meaning). m frame trees) (mean.mean-Sequence [])
whole-is (x ∷ []) frame trees = sym (one_alone (mean x frame trees))
whole-is (x ∷ y ∷ more) frame trees = ap (λ (m : Meaning). m frame trees) (mean.mean-Sequence (x ∷ y ∷ more))

-- ---- one node

-- what a node is, so that it is made again
pub record IsNode (a : Label) (below : Forest Label) : Type 0 where
  pub name : IsUtf8 a.name
  pub legal : is_legal a.kind a.name a.value ≡ true
  pub built : IsBuilt a below

-- the parts give the roots of trees that are the nodes below
pub record AreGiven (below : Forest Label) (frame : Frame) (trees now : List Tree) : Type 0 where
  pub numbers : List ℕ
  pub is : ◌≡◌ {A = Done} (collected (λ (part : Meaning). part frame) (map mean (quoted_nodes below)) trees) (Ok (roots numbers), now)
  pub are : AreMade now numbers below

no_more : (v : Text) → is_empty v ≡ true → v ≡ []
no_more [] h = refl
no_more (c ∷ cs) h = absurd (false≢true h)

no_leading : (v : Text) → begins_with_space v ≡ false → after_leading is_space v ≡ v
no_leading [] h = refl
no_leading (c ∷ cs) h = rw h refl

-- a node whose constructor has a value: nothing is below it
leaf : (k : Kind) (n v : Text) (frame : Frame) (trees now : List Tree) → trees ≡ now → Gives (made k n v []) frame trees (Node (root_of (length trees)) ∷ []) (trees ++ tree (label k n v) end ∷ [])
    → Gives (made k n v []) frame trees (Node (root_of (length now)) ∷ []) (now ++ tree (label k n v) end ∷ [])
leaf k n v frame trees now same h = subst (λ (ts : List Tree). Gives (made k n v []) frame trees (Node (root_of (length ts)) ∷ []) (ts ++ tree (label k n v) end ∷ [])) same h

abbrev Made : Kind → Text → Text → Forest Label → Frame → List Tree → List Tree → Type 0
Made k n v below frame trees now =
    Gives (made k n v (quoted_nodes below)) frame trees (Node (root_of (length now)) ∷ []) (now ++ tree (label k n v) below ∷ [])

-- nothing is below a leaf, so the trees are as they were
none_given : (frame : Frame) (trees now : List Tree) → AreGiven end frame trees now → trees ≡ now
none_given frame trees now g = ap (λ (o : Done). o.1) g.is

-- each node is made again of what is made below it
pub node-gives : (k : Kind) (n v : Text) (below : Forest Label) (frame : Frame) (trees now : List Tree) → IsNode (label k n v) below → AreGiven below frame trees now → Made k n v below frame trees now
node-gives kind.Document [] [] below frame trees now is given =
    unnamed-gives unnamed.Document (whole (quoted_nodes below)) frame trees now (roots given.numbers) (tree (label kind.Document [] []) below)
    (whole-is (quoted_nodes below) frame trees ∙ given.is) (ap some_tree (built-again now given.numbers (label kind.Document [] []) below given.are is.built))
node-gives kind.Document (c ∷ cs) v below frame trees now is given = absurd (false≢true is.legal)
node-gives kind.Document [] (c ∷ cs) below frame trees now is given = absurd (false≢true is.legal)
node-gives kind.Element n [] below frame trees now is given =
    named-gives named.Element n (whole (quoted_nodes below)) frame trees now (roots given.numbers) (tree (label kind.Element n []) below)
    (element-name n is.name (and_parts (is_name (chars n)) true is.legal).0)
    (whole-is (quoted_nodes below) frame trees ∙ given.is) (built-again now given.numbers (label kind.Element n []) below given.are is.built)
node-gives kind.Element n (c ∷ cs) below frame trees now is given = absurd (false≢true (and_parts (is_name (chars n)) false is.legal).1)
node-gives kind.Attribute n v end frame trees now is given =
    leaf kind.Attribute n v frame trees now (none_given frame trees now given)
    (named-gives named.Attribute n (e.Str v) frame trees trees (Atom (String v) ∷ []) (tree (label kind.Attribute n v) end)
    (attribute-name n is.name (and_parts (is_attribute_name n) (are_characters v) is.legal).0) (text-gives frame trees v) refl)
node-gives kind.Attribute n v (node b k r) frame trees now is given = absurd (false≢true (parts_of (label kind.Attribute n v) b (tops r) is.built.content).stands)
node-gives kind.Text [] v end frame trees now is given =
    leaf kind.Text [] v frame trees now (none_given frame trees now given)
    (unnamed-gives unnamed.Text (e.Str v) frame trees trees (Atom (String v) ∷ []) (tree (label kind.Text [] v) end) (text-gives frame trees v) refl)
node-gives kind.Text (c ∷ cs) v end frame trees now is given = absurd (false≢true is.legal)
node-gives kind.Text n v (node b k r) frame trees now is given = absurd (false≢true (parts_of (label kind.Text n v) b (tops r) is.built.content).stands)
node-gives kind.Comment [] v end frame trees now is given =
    let may = (and_parts (are_characters v) (may_be_comment v) is.legal).1 in
    leaf kind.Comment [] v frame trees now (none_given frame trees now given)
    (unnamed-gives unnamed.Comment (e.Str v) frame trees trees (Atom (String v) ∷ []) (tree (label kind.Comment [] v) end) (text-gives frame trees v) (rw may refl))
node-gives kind.Comment (c ∷ cs) v end frame trees now is given = absurd (false≢true is.legal)
node-gives kind.Comment n v (node b k r) frame trees now is given = absurd (false≢true (parts_of (label kind.Comment n v) b (tops r) is.built.content).stands)
node-gives kind.ProcessingInstruction n v end frame trees now is given =
    let good = and_parts (is_target n) (is_instruction v) is.legal in
    let value = and_parts (not (holds (codes "?>") v)) (not (begins_with_space v)) (and_parts (are_characters v) _ good.1).1 in
    leaf kind.ProcessingInstruction n v frame trees now (none_given frame trees now given)
    (named-gives named.ProcessingInstruction n (e.Str v) frame trees trees (Atom (String v) ∷ []) (tree (label kind.ProcessingInstruction n v) end)
    (target-name n is.name good.0) (text-gives frame trees v) (rw (value.0, no_leading v (not-false (begins_with_space v) value.1)) refl))
node-gives kind.ProcessingInstruction n v (node b k r) frame trees now is given = absurd (false≢true (parts_of (label kind.ProcessingInstruction n v) b (tops r) is.built.content).stands)

-- ---- nodes side by side

-- what trees and the nodes in them are
pub record AreNodes (height : ℕ) (f : Forest Label) : Type 0 where
  pub texts : EachNode (λ a below. IsText a) f
  pub legal : EachNode (λ a below. IsTrue (is_legal a.kind a.name a.value)) f
  pub content : EachNode (λ a below. IsTrue (is_content a below)) f
  pub names : EachNode (λ a below. IsDistinct bytes_eq (attribute_names below)) f
  pub high : IsWithinHeight height f
  pub low : height ≤ most_levels
  pub room : count f ≤ most_nodes

-- the nodes of a tree
pub are_nodes : (t : Tree) → IsTree t → AreNodes most_levels (nodes t)
are_nodes t is = record { texts = is.texts; legal = is.legal; content = is.content; names = is.names; high = is.height; low = omega arith; room = is.room }

below_are : (height : ℕ) (a : Label) (below beside : Forest Label) → AreNodes (suc height) (node a below beside) → AreNodes height below
below_are height a below beside w = record {
  texts = w.texts.1.0;
  legal = w.legal.1.0;
  content = w.content.1.0;
  names = w.names.1.0;
  high = w.high.0;
  low = (let l = w.low in omega (arith, l));
  room = (let r = w.room in omega (arith, r));
}

beside_are : (height : ℕ) (a : Label) (below beside : Forest Label) → AreNodes (suc height) (node a below beside) → AreNodes (suc height) beside
beside_are height a below beside w = record {
  texts = w.texts.1.1;
  legal = w.legal.1.1;
  content = w.content.1.1;
  names = w.names.1.1;
  high = w.high.1;
  low = w.low;
  room = (let r = w.room in omega (arith, r));
}

is_node : (height : ℕ) (a : Label) (below beside : Forest Label) → AreNodes (suc height) (node a below beside) → IsNode a below
is_node height a below beside w = record {
  name = w.texts.0.0;
  legal = w.legal.0;
  built = record {
    content = w.content.0;
    distinct = w.names.0;
    height = higher (suc height) most_levels (nodes (tree a below)) w.low (w.high.0, tt);
    room = (let r = w.room in omega (arith, r));
  };
}

-- after the items so far, the nodes side by side give the roots of trees that they are
pub record NodesGive (f : Forest Label) (frame : Frame) (trees : List Tree) (done : List Item) : Type 0 where
  pub numbers : List ℕ
  pub added : List Tree
  pub is : ◌≡◌ {A = Done} (in_turn (more (λ (part : Meaning). part frame)) done (map mean (quoted_nodes f)) trees) (Ok (done ++ roots numbers), trees ++ added)
  pub are : AreMade (trees ++ added) numbers f

-- a tree that was made, and then more
abbrev Stands : List Tree → ℕ → Tree → Type 0
Stands trees n t = (n < length trees) × (tree_at trees n ≡ t)

stands_last : (now more : List Tree) (t : Tree) → Stands ((now ++ t ∷ []) ++ more) (length now) t
stands_last now more t =
    let one = length-append now (t ∷ []) in
    let all = length-append (now ++ t ∷ []) more in
    (omega (arith, one, all), tree_more (now ++ t ∷ []) more (length now) (omega (arith, one)) ∙ get_or-append_seam now t [] no_tree)

trees_are : (trees inner : List Tree) (t : Tree) (outer : List Tree) → ((trees ++ inner) ++ t ∷ []) ++ outer ≡ trees ++ (inner ++ t ∷ outer)
trees_are trees inner t outer =
    append_assoc (trees ++ inner) (t ∷ []) outer ∙ append_assoc trees inner (t ∷ outer)

-- a node is made after what is below it, and before what is beside it
step_gives : (a : Label) (below beside : Forest Label) (frame : Frame) (trees : List Tree) (done : List Item) → IsNode a below
    → (inner : NodesGive below frame trees [])
    → NodesGive beside frame ((trees ++ inner.added) ++ tree a below ∷ []) (done ++ Node (root_of (length (trees ++ inner.added))) ∷ [])
    → NodesGive (node a below beside) frame trees done
step_gives a below beside frame trees done is inner outer =
    let now : List Tree = trees ++ inner.added in
    let t : Tree = tree a below in
    let root : Item = Node (root_of (length now)) in
    let one = node-gives a.kind a.name a.value below frame trees now is (record { numbers = inner.numbers; is = inner.is; are = inner.are }) in
    let p : (now ++ t ∷ []) ++ outer.added ≡ trees ++ (inner.added ++ t ∷ outer.added) = trees_are trees inner.added t outer.added in
    record {
      numbers = length now ∷ outer.numbers;
      added = inner.added ++ t ∷ outer.added;
      is = ap (λ (o : Done). go_on (go_on o (λ (ys : List Item). give (done ++ ys))) (λ (next : List Item). in_turn (more (λ (part : Meaning). part frame)) next (map mean (quoted_nodes beside)))) one
          ∙ outer.is
          ∙ (λ i. (Ok (append_assoc done (root ∷ []) (roots outer.numbers) i), p i));
      are = subst (λ (ts : List Tree). AreMade ts (length now ∷ outer.numbers) (node a below beside)) p ((stands_last now outer.added t).0, (stands_last now outer.added t).1, outer.are);
    }

-- nodes side by side are made again, by recursion on them
pub nodes_give : (height : ℕ) (f : Forest Label) → AreNodes height f → (frame : Frame) (trees : List Tree) (done : List Item) → NodesGive f frame trees done
nodes_give height end w frame trees done =
    (let p = sym (append-nil done) in let q = sym (append-nil trees) in record { numbers = []; added = []; is = (λ i. (Ok (p i), q i)); are = tt })
nodes_give zero (node a below beside) w frame trees done = absurd w.high
nodes_give (suc height) (node a below beside) w frame trees done =
    let inner = nodes_give height below (below_are height a below beside w) frame trees [] in
    step_gives a below beside frame trees done (is_node height a below beside w) inner
    (nodes_give (suc height) beside (beside_are height a below beside w) frame ((trees ++ inner.added) ++ tree a below ∷ []) (done ++ Node (root_of (length (trees ++ inner.added))) ∷ []))

-- ---- a tree

-- the tree with this number is made again
pub record TreeGives (t : Tree) (frame : Frame) (trees : List Tree) : Type 0 where
  pub number : ℕ
  pub added : List Tree
  pub is : Gives (quoted_tree t) frame trees (Node (root_of number) ∷ []) (trees ++ added)
  pub stands : Stands (trees ++ added) number t

pub tree_gives : (t : Tree) → IsTree t → (frame : Frame) (trees : List Tree) → TreeGives t frame trees
tree_gives t is frame trees =
    let w = are_nodes t is in
    let inner = nodes_give 100 t.below (below_are 100 t.root t.below end w) frame trees [] in
    let now : List Tree = trees ++ inner.added in
    let one = node-gives t.root.kind t.root.name t.root.value t.below frame trees now (is_node 100 t.root t.below end w) (record { numbers = inner.numbers; is = inner.is; are = inner.are }) in
    let p : now ++ t ∷ [] ≡ trees ++ (inner.added ++ t ∷ []) = append_assoc trees inner.added (t ∷ []) in
    record {
      number = length now;
      added = inner.added ++ t ∷ [];
      is = one ∙ (λ i. (Ok (Node (root_of (length now)) ∷ []), p i));
      stands = subst (λ (ts : List Tree). Stands ts (length now) t) (append-nil (now ++ t ∷ []) ∙ p) (stands_last now [] t);
    }
