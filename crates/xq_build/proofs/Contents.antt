-- Content by forests is content by leaves.
use Rattle.std.proofs.Common.{◌≡◌, ℕ, zero, suc, ◌+◌, ◌-◌, ◌<◌, List, [], ◌∷◌, ◌++◌, length, take, map, Bool, true, false, not, ◌&&◌, ◌||◌, cond, Option, Some, None, refl, sym, ◌∙◌, ap, subst, arith, append_assoc}
use Rattle.std.specs.Prelude.{filter, codes, nat_lt, nat_eq, IsTrue}
use Rattle.std.specs.List.{list_all}
use Rattle.std.proofs.lemmas.Bool.Decides.{nat_tests}
use Rattle.std.proofs.lemmas.List.{append-nil, map-append, map_push, map_more}
use Rattle.std.proofs.lemmas.List.Elements.{filter-append}
use Rattle.xq_trees.specs.Levels.{flat, sized}
use Rattle.xq_atoms.specs.Text.{Text, is_empty}
use Rattle.xq_atoms.specs.Atom.{Atomic}
use Rattle.xq_atoms.specs.Cast.{text_of}
use Rattle.xq_trees.specs.Forest.{Forest, end, node, count, join, tops, EachNode}
use Rattle.xq_trees.specs.Tree.{Label, Tree, nodes, IsTree, no_label, is_content, may_stand}
use Rattle.xq_trees.specs.Rows.{Row, rows, row_at, no_row}
use Rattle.xq_trees.proofs.Injective.{rows-injective}
use Rattle.xq_trees.proofs.Printed.{leveled, flat-measured}
use Rattle.xq_trees.proofs.Sized.{sized-tree}
use Rattle.xq_meaning.specs.Texts.{joined}
use Rattle.xq_meaning.specs.Content.{is_text, text_label, copied, run, spaced, flattened_after, flattened, in_front, merged, in_front_unless, is_empty_text, without_empty_texts, is_within_height, copied_as, label}
use Rattle.xq_meaning.specs.Items.{Item, Node, Atom, tree_below}
use Rattle.xq_packed.specs.Packed.{row}
use Rattle.xq_packed.specs.Changes.{moved, with_longer_last, longer as longer_row}
use Rattle.xq_build.specs.declared.node_copies.NodeShape.{NodeShape}
use Rattle.xq_build.specs.private.Leaves.{Leaf, leaves, IsShapeOf}
use Rattle.xq_trees.specs.Node.{HasPath, label_at, below_at}
use Rattle.xq_trees.specs.Order.{path_at}
use Rattle.xq_trees.specs.declared.items.Node.{Node as CodeNode}
use Rattle.xq_trees.specs.declared.Kind.{Kind}
use Rattle.xq_trees.specs.declared.Kind.TheVariants.{Document, Element, Attribute, Text as TextKind, Comment, ProcessingInstruction}
use Rattle.xq_trees.proofs.Paths.{at_place}
use Rattle.xq_sources.specs.Sources.{tree_at}
use Rattle.xq_meaning.specs.Readings.{node_at}
use Rattle.xq_build.specs.private.Attributes.{labels_if, top_labels}
use Rattle.xq_build.specs.private.Content.{so_far, open_text, longer, flattened_with, Childless, is_top_text, glued, put, merged_leaves, may_stand_first, AreApart, is_kept, ends_with_text, HasNamelessEnd, is_loose, are_settled, raised, are_low}
use Rattle.xq_build.proofs.Subtrees.{length-leveled}

pub leaves-leveled : (f : Forest Label) → leaves f ≡ leveled 0 f
leaves-leveled f = flat-measured 0 f

-- # Nodes beside nodes

leveled-join : (l : ℕ) (f g : Forest Label) → leveled l (join f g) ≡ leveled l f ++ leveled l g
leveled-join l end g = refl
leveled-join l (node a below beside) g =
    ap (λ (x : List Leaf). (l, a) ∷ leveled (suc l) below ++ x) (leveled-join l beside g)
    ∙ ap (λ (x : List Leaf). (l, a) ∷ x) (sym (append_assoc (leveled (suc l) below) (leveled l beside) (leveled l g)))

pub leaves-join : (f g : Forest Label) → leaves (join f g) ≡ leaves f ++ leaves g
leaves-join f g = leaves-leveled (join f g) ∙ leveled-join 0 f g ∙ sym (rw (leaves-leveled f, leaves-leveled g) refl)

pub Childless-join : (f g : Forest Label) → Childless f → Childless g → Childless (join f g)
Childless-join end g h k = k
Childless-join (node a below beside) g h k = (h.0, Childless-join beside g h.1 k)

pub Childless-open : (t : Option Text) → Childless (open_text t)
Childless-open None = tt
Childless-open (Some t) = (λ _. refl, tt)

-- # Runs of atomic values

abbrev run_text : List Atomic → Option Text
run_text [] = None
run_text (a ∷ as') = Some (spaced (a ∷ as'))

joined-push : (t : Text) (ts : List Text) (u : Text) → joined (codes " ") (t ∷ (ts ++ u ∷ [])) ≡ joined (codes " ") (t ∷ ts) ++ (codes " " ++ u)
joined-push t [] u = append_assoc t (codes " ") u
joined-push t (v ∷ ts) u =
    ap (λ (l : List ℕ). (t ++ codes " ") ++ l) (joined-push v ts u) ∙ sym (append_assoc (t ++ codes " ") (joined (codes " ") (v ∷ ts)) (codes " " ++ u))

longer-run : (as' : List Atomic) (a : Atomic) → run_text (as' ++ a ∷ []) ≡ Some (longer (run_text as') (text_of a))
longer-run [] a = refl
longer-run (b ∷ as') a = ap Some (ap (λ (ts : List Text). joined (codes " ") (text_of b ∷ ts)) (map-append text_of as' (a ∷ [])) ∙ joined-push (text_of b) (map text_of as') (text_of a))

open-run : (as' : List Atomic) → run as' ≡ open_text (run_text as')
open-run [] = refl
open-run (a ∷ as') = refl

flattened-after : (trees : List Tree) (as' : List Atomic) (xs : List Item) → flattened_after trees as' xs ≡ flattened_with trees (run_text as') xs
flattened-after trees as' [] = open-run as'
flattened-after trees as' (Atom a ∷ xs) = flattened-after trees (as' ++ a ∷ []) xs ∙ ap (λ (t : Option Text). flattened_with trees t xs) (longer-run as' a)
flattened-after trees as' (Node p ∷ xs) =
    ap (λ (f : Forest Label). join f (join (copied (tree_below trees p)) (flattened_after trees [] xs))) (open-run as')
    ∙ ap (λ (f : Forest Label). join (open_text (run_text as')) (join (copied (tree_below trees p)) f)) (flattened-after trees [] xs)

pub flattened-with : (trees : List Tree) (xs : List Item) → flattened trees xs ≡ flattened_with trees None xs
flattened-with trees xs = flattened-after trees [] xs

-- # Texts

put_plain : (p : Leaf) (ps : List Leaf) → is_top_text p ≡ false → put p ps ≡ p ∷ ps
put_plain p [] h = refl
put_plain p (q ∷ qs) h = rw h refl

put_glued : (p q : Leaf) (ps : List Leaf) → is_top_text p ≡ true → is_top_text q ≡ true → put p (put q ps) ≡ put (glued p q) ps
put_glued p q [] h k = rw (h, k) refl
put_glued p q (r ∷ ps) h k = by_test (is_top_text r) refl
  where
    by_test : (b : Bool) → is_top_text r ≡ b → put p (put q (r ∷ ps)) ≡ put (glued p q) (r ∷ ps)
    by_test true e = rw (k, e, h) (ap (λ (v : List ℕ). (0, text_label v) ∷ ps) (sym (append_assoc p.1.value q.1.value r.1.value)))
    by_test false e = rw (k, e, h) (rw k refl)

-- two texts side by side may be made one before others come
pub merged_glued : (ps : List Leaf) (p q : Leaf) (others : List Leaf) → is_top_text p ≡ true → is_top_text q ≡ true
    → merged_leaves (ps ++ p ∷ q ∷ others) ≡ merged_leaves (ps ++ glued p q ∷ others)
merged_glued [] p q others h k = put_glued p q (merged_leaves others) h k
merged_glued (x ∷ ps) p q others h k = ap (put x) (merged_glued ps p q others h k)

pub merged_apart : (ps : List Leaf) → AreApart ps → merged_leaves ps ≡ ps
merged_apart [] h = refl
merged_apart (p ∷ ps) h = ap (put p) (merged_apart ps h.1) ∙ first p ps h.0
  where
    first : (p : Leaf) (ps : List Leaf) → may_stand_first p ps ≡ true → put p ps ≡ p ∷ ps
    first p [] h = refl
    first p (q ∷ qs) h = by_test (is_top_text p && is_top_text q) h
      where
        by_test : (b : Bool) → not b ≡ true → cond b (glued p q ∷ qs) (p ∷ q ∷ qs) ≡ p ∷ q ∷ qs
        by_test false h = refl
        by_test true h = absurd (cc)

-- another text in the place of the last
pub apart_other : (ps : List Leaf) (p q : Leaf) → AreApart (ps ++ p ∷ []) → is_top_text p ≡ true → is_top_text q ≡ true → AreApart (ps ++ q ∷ [])
apart_other [] p q h e k = (refl, tt)
apart_other (x ∷ []) p q h e k = ((rw k (rw e at h.0)), (refl, tt))
apart_other (x ∷ y ∷ ps) p q h e k = (h.0, apart_other (y ∷ ps) p q h.1 e k)

deeper_plain : (l : ℕ) (a : Label) → is_top_text (suc l, a) ≡ false
deeper_plain l a = let no : nat_eq (suc l) 0 ≡ false = grind (arith, nat_tests) in rw no refl

merged_deeper : (l : ℕ) (f : Forest Label) (ps : List Leaf) → merged_leaves (leveled (suc l) f ++ ps) ≡ leveled (suc l) f ++ merged_leaves ps
merged_deeper l end ps = refl
merged_deeper l (node a below beside) ps =
    put_plain (suc l, a) (merged_leaves ((leveled (suc (suc l)) below ++ leveled (suc l) beside) ++ ps)) (deeper_plain l a)
    ∙ ap (λ (x : List Leaf). (suc l, a) ∷ x)
    (ap merged_leaves (append_assoc (leveled (suc (suc l)) below) (leveled (suc l) beside) ps) ∙ merged_deeper (suc l) below (leveled (suc l) beside ++ ps)
    ∙ ap (λ (x : List Leaf). leveled (suc (suc l)) below ++ x) (merged_deeper l beside ps)
    ∙ sym (append_assoc (leveled (suc (suc l)) below) (leveled (suc l) beside) (merged_leaves ps)))

and_first : (a b : Bool) → (a && b) ≡ true → a ≡ true
and_first true b h = refl
and_first false b h = h

and_second : (a b : Bool) → (a && b) ≡ true → b ≡ true
and_second true b h = h
and_second false b h = absurd (cc)

no_end : (a : Label) (below beside : Forest Label) → node a below beside ≡ end → ⊥
no_end a below beside e = absurd (cc)

all-append : (p : Leaf → Bool) (xs ys : List Leaf) → list_all p (xs ++ ys) ≡ (list_all p xs && list_all p ys)
all-append p [] ys = refl
all-append p (x ∷ xs) ys = by_test (p x) (all-append p xs ys)
  where
    by_test : (b : Bool) → list_all p (xs ++ ys) ≡ (list_all p xs && list_all p ys) → (b && list_all p (xs ++ ys)) ≡ ((b && list_all p xs) && list_all p ys)
    by_test true e = e
    by_test false e = refl

record Merges (f : Forest Label) : Type 0 where
  is : merged_leaves (leveled 0 f) ≡ leveled 0 (merged f)
  childless : Childless (merged f)

text_is_top : (a : Label) → is_top_text (0, a) ≡ is_text a.kind
text_is_top a = refl

plain-end : (a : Label) (below others : Forest Label) → is_text a.kind ≡ false → in_front a below others ≡ node a below others
plain-end a below end h = refl
plain-end a below (node b below_b beside) h = rw h refl

merges_first : (a : Label) (below others : Forest Label) → (is_text a.kind ≡ true → below ≡ end) → Childless others
    → (put (0, a) (leveled 1 below ++ leveled 0 others) ≡ leveled 0 (in_front a below others)) × Childless (in_front a below others)
merges_first a end end h k = (refl, (h, tt))
merges_first a end (node b below_b beside) h k = by_test (is_text a.kind && is_text b.kind) refl
  where
    by_test : (t : Bool) → (is_text a.kind && is_text b.kind) ≡ t
        → (put (0, a) (leveled 0 (node b below_b beside)) ≡ leveled 0 (in_front a end (node b below_b beside))) × Childless (in_front a end (node b below_b beside))
    by_test true e =
        let second : is_text b.kind ≡ true = and_second (is_text a.kind) (is_text b.kind) e in
        let none : below_b ≡ end = k.0 second in
        rw e (ap (λ (f : Forest Label). (0, text_label (a.value ++ b.value)) ∷ leveled 1 f ++ leveled 0 beside) none, ((λ _. refl), k.1))
    by_test false e = rw e (refl, (h, k))
merges_first a (node c below_c beside_c) others h k = by_test (is_text a.kind) refl
  where
    by_test : (t : Bool) → is_text a.kind ≡ t
        → (put (0, a) (leveled 1 (node c below_c beside_c) ++ leveled 0 others) ≡ leveled 0 (in_front a (node c below_c beside_c) others)) × Childless (in_front a (node c below_c beside_c) others)
    by_test true e = absurd (no_end c below_c beside_c (h e))
    by_test false e =
        let same : in_front a (node c below_c beside_c) others ≡ node a (node c below_c beside_c) others = plain-end a (node c below_c beside_c) others e in
        (put_plain (0, a) (leveled 1 (node c below_c beside_c) ++ leveled 0 others) e ∙ ap (leveled 0) (sym same), subst Childless (sym same) (h, k))

merges : (f : Forest Label) → Childless f → Merges f
merges end h = record { is = refl; childless = tt }
merges (node a below beside) h =
    let w = merges beside h.1 in
    let one = merges_first a below (merged beside) h.0 w.childless in
    record {
      is = ap (put (0, a)) (merged_deeper 0 below (leveled 0 beside) ∙ ap (λ (x : List Leaf). leveled 1 below ++ x) w.is) ∙ one.0;
      childless = one.1;
    }

-- # Empty texts

kept_plain : (p : Leaf) (ps : List Leaf) → is_kept p ≡ true → filter is_kept (p ∷ ps) ≡ p ∷ filter is_kept ps
kept_plain p ps h = ap (λ b. cond b (p ∷ filter is_kept ps) (filter is_kept ps)) h

kept_gone : (p : Leaf) (ps : List Leaf) → is_kept p ≡ false → filter is_kept (p ∷ ps) ≡ filter is_kept ps
kept_gone p ps h = ap (λ b. cond b (p ∷ filter is_kept ps) (filter is_kept ps)) h

kept_deeper : (l : ℕ) (f : Forest Label) (ps : List Leaf) → filter is_kept (leveled (suc l) f ++ ps) ≡ leveled (suc l) f ++ filter is_kept ps
kept_deeper l end ps = refl
kept_deeper l (node a below beside) ps =
    kept_plain (suc l, a) ((leveled (suc (suc l)) below ++ leveled (suc l) beside) ++ ps) (rw (deeper_plain l a) refl)
    ∙ ap (λ (x : List Leaf). (suc l, a) ∷ x)
    (ap (filter is_kept) (append_assoc (leveled (suc (suc l)) below) (leveled (suc l) beside) ps) ∙ kept_deeper (suc l) below (leveled (suc l) beside ++ ps)
    ∙ ap (λ (x : List Leaf). leveled (suc (suc l)) below ++ x) (kept_deeper l beside ps)
    ∙ sym (append_assoc (leveled (suc (suc l)) below) (leveled (suc l) beside) (filter is_kept ps)))

kept : (f : Forest Label) → Childless f → filter is_kept (leveled 0 f) ≡ leveled 0 (without_empty_texts f)
kept end h = refl
kept (node a below beside) h = by_test (is_empty_text a) refl (kept_deeper 0 below (leveled 0 beside) ∙ ap (λ (x : List Leaf). leveled 1 below ++ x) (kept beside h.1))
  where
    by_test : (b : Bool) → is_empty_text a ≡ b → filter is_kept (leveled 1 below ++ leveled 0 beside) ≡ leveled 1 below ++ leveled 0 (without_empty_texts beside)
        → filter is_kept (leveled 0 (node a below beside)) ≡ leveled 0 (in_front_unless b a below (without_empty_texts beside))
    by_test true e more =
        let none : below ≡ end = h.0 (and_first (is_text a.kind) (is_empty a.value) e) in
        kept_gone (0, a) (leveled 1 below ++ leveled 0 beside) (ap not e) ∙ more ∙ ap (λ (f : Forest Label). leveled 1 f ++ leveled 0 (without_empty_texts beside)) none
    by_test false e more = kept_plain (0, a) (leveled 1 below ++ leveled 0 beside) (ap not e) ∙ ap (λ (x : List Leaf). (0, a) ∷ x) more

-- # Texts that stand alone, none of them empty

firm_is_kept : (text is_after empty : Bool) → not (text && (is_after || empty)) ≡ true → not (text && empty) ≡ true
firm_is_kept false is_after empty h = refl
firm_is_kept true true empty h = absurd (cc)
firm_is_kept true false empty h = h

second_is_apart : (first second empty : Bool) → not (second && (first || empty)) ≡ true → not (first && second) ≡ true
second_is_apart false second empty h = refl
second_is_apart true false empty h = refl
second_is_apart true true empty h = absurd (cc)

pub settled_kept : (is_after : Bool) (ps : List Leaf) → are_settled is_after ps ≡ true → filter is_kept ps ≡ ps
settled_kept is_after [] h = refl
settled_kept is_after (p ∷ ps) h =
    let one = and_first (not (is_loose is_after p)) (are_settled (is_top_text p) ps) h in
    let others = and_second (not (is_loose is_after p)) (are_settled (is_top_text p) ps) h in
    kept_plain p ps (firm_is_kept (is_top_text p) is_after (is_empty p.1.value) one) ∙ ap (λ (x : List Leaf). p ∷ x) (settled_kept (is_top_text p) ps others)

settled_apart : (is_after : Bool) (ps : List Leaf) → are_settled is_after ps ≡ true → AreApart ps
settled_apart is_after [] h = tt
settled_apart is_after (p ∷ ps) h =
    let others = and_second (not (is_loose is_after p)) (are_settled (is_top_text p) ps) h in
    (first ps others, settled_apart (is_top_text p) ps others)
  where
    first : (qs : List Leaf) → are_settled (is_top_text p) qs ≡ true → may_stand_first p qs ≡ true
    first [] k = refl
    first (q ∷ qs) k =
        second_is_apart (is_top_text p) (is_top_text q) (is_empty q.1.value) (and_first (not (is_loose (is_top_text p) q)) (are_settled (is_top_text q) qs) k)

pub settled_same : (ps : List Leaf) → are_settled false ps ≡ true → filter is_kept (merged_leaves ps) ≡ ps
settled_same ps h = ap (filter is_kept) (merged_apart ps (settled_apart false ps h)) ∙ settled_kept false ps h

-- the leaves of content
pub content_leaves : (f : Forest Label) → Childless f → filter is_kept (merged_leaves (leaves f)) ≡ leaves (without_empty_texts (merged f))
content_leaves f h =
    let w = merges f h in
    ap (λ (x : List Leaf). filter is_kept (merged_leaves x)) (leaves-leveled f) ∙ ap (filter is_kept) w.is ∙ kept (merged f) w.childless ∙ sym (leaves-leveled (without_empty_texts (merged f)))

-- # Labels at the top, and levels

top_deeper : (l : ℕ) (f : Forest Label) (ps : List Leaf) → top_labels (leveled (suc l) f ++ ps) ≡ top_labels ps
top_deeper l end ps = refl
top_deeper l (node a below beside) ps =
    let no : nat_eq (suc l) 0 ≡ false = grind (arith, nat_tests) in
    ap (λ b. labels_if b (suc l, a) (top_labels ((leveled (suc (suc l)) below ++ leveled (suc l) beside) ++ ps))) no
    ∙ ap top_labels (append_assoc (leveled (suc (suc l)) below) (leveled (suc l) beside) ps) ∙ top_deeper (suc l) below (leveled (suc l) beside ++ ps) ∙ top_deeper l beside ps

top_leveled : (f : Forest Label) → top_labels (leveled 0 f) ≡ tops f
top_leveled end = refl
top_leveled (node a below beside) = ap (λ (x : List Label). a ∷ x) (top_deeper 0 below (leveled 0 beside) ∙ top_leveled beside)

pub top_leaves : (f : Forest Label) → top_labels (leaves f) ≡ tops f
top_leaves f = ap top_labels (leaves-leveled f) ∙ top_leveled f

height_within : (n l m : ℕ) (f : Forest Label) → l + n ≡ m → list_all (λ (p : Leaf). nat_lt p.0 m) (leveled l f) ≡ is_within_height n f
height_within n l m end e = refl
height_within zero l m (node a below beside) e =
    let no : nat_lt l m ≡ false = grind (arith, nat_tests) in rw no refl
height_within (suc n) l m (node a below beside) e =
    let yes : nat_lt l m ≡ true = grind (arith, nat_tests) in
    rw yes (all-append (λ (p : Leaf). nat_lt p.0 m) (leveled (suc l) below) (leveled l beside) ∙ rw (height_within n (suc l) m below (omega (arith, e)), height_within (suc n) l m beside e) refl)

pub low_leaves : (f : Forest Label) → are_low (leaves f) ≡ is_within_height 100 f
low_leaves f = ap are_low (leaves-leveled f) ∙ height_within 100 0 100 f refl

raised-leveled : (l : ℕ) (f : Forest Label) → map raised (leveled l f) ≡ leveled (suc l) f
raised-leveled l end = refl
raised-leveled l (node a below beside) =
    let one : l + 1 ≡ suc l = omega arith in
    ap (λ n. (n, a) ∷ map raised (leveled (suc l) below ++ leveled l beside)) one
    ∙ ap (λ (x : List Leaf). (suc l, a) ∷ x) (map-append raised (leveled (suc l) below) (leveled l beside) ∙ rw (raised-leveled (suc l) below, raised-leveled l beside) refl)

-- the leaves of a tree are its root and the raised ones of what is below
pub raised_leaves : (t : Tree) → (0, t.root) ∷ map raised (leaves t.below) ≡ leaves (nodes t)
raised_leaves t =
    ap (λ (x : List Leaf). (0, t.root) ∷ map raised x) (leaves-leveled t.below) ∙ ap (λ (x : List Leaf). (0, t.root) ∷ x) (raised-leveled 0 t.below ∙ sym (append-nil (leveled 1 t.below)))
    ∙ sym (leaves-leveled (nodes t))

pub length-leaves : (f : Forest Label) → length (leaves f) ≡ count f
length-leaves f = ap length (leaves-leveled f) ∙ length-leveled 0 f

-- leaves tell their tree
pub leaves-injective : (t u : Tree) → leaves (nodes t) ≡ leaves (nodes u) → t ≡ u
leaves-injective t u e =
    rows-injective t u (sym (sized-tree t) ∙ ap sized (sym (leaves-leveled (nodes t)) ∙ e ∙ leaves-leveled (nodes u)) ∙ sized-tree u)

-- # Texts of trees have nothing below them

pub IsContent : Label → List Label → Type 0
IsContent a below = IsTrue (is_content a below)

pub content_at : (f : Forest Label) (p : List ℕ) → HasPath f p → EachNode IsContent f → IsContent (label_at no_label f p) (tops (below_at f p)) × EachNode IsContent (below_at f p)
content_at end p h c = absurd h
content_at (node a k r) [] h c = absurd h
content_at (node a k r) (zero ∷ []) h c = (c.0, c.1.0)
content_at (node a k r) (zero ∷ i ∷ p) h c = content_at k (i ∷ p) h c.1.0
content_at (node a k r) (suc i ∷ p) h c = content_at r (i ∷ p) h c.1.1

pub content_is : (a : Label) (labels : List Label) → IsContent a labels → is_content a labels ≡ true
unfolding IsContent
content_is a labels h = h

pub tree_content : (t : Tree) → IsTree t → EachNode IsContent (nodes t)
unfolding IsContent
tree_content t is = is.content

text_alone : (k : Kind) (b : Label) (rest : Bool) → is_text k ≡ true → (may_stand k b.kind && rest) ≡ true → ⊥
text_alone Document b rest e h = absurd (cc)
text_alone Element b rest e h = absurd (cc)
text_alone Attribute b rest e h = absurd (cc)
text_alone TextKind b rest e h = absurd (cc)
text_alone Comment b rest e h = absurd (cc)
text_alone ProcessingInstruction b rest e h = absurd (cc)

none_below : (a : Label) (below : Forest Label) → IsContent a (tops below) → is_text a.kind ≡ true → below ≡ end
unfolding IsContent
none_below a end c e = refl
none_below a (node b k r) c e = absurd (text_alone a.kind b _ e c)

each_childless : (f : Forest Label) → EachNode IsContent f → Childless f
each_childless end h = tt
each_childless (node a below beside) h = (none_below a below h.0, each_childless beside h.1.1)

copied_childless : (k : Kind) (t : Tree) → IsContent t.root (tops t.below) → EachNode IsContent t.below → Childless (copied_as k t)
copied_childless Document t h c = each_childless t.below c
copied_childless Element t h c = (none_below t.root t.below h, tt)
copied_childless Attribute t h c = (none_below t.root t.below h, tt)
copied_childless TextKind t h c = (none_below t.root t.below h, tt)
copied_childless Comment t h c = (none_below t.root t.below h, tt)
copied_childless ProcessingInstruction t h c = (none_below t.root t.below h, tt)

pub childless_node : (trees : List Tree) (n : CodeNode) (shape : NodeShape) → IsShapeOf trees n shape → Childless (copied (tree_below trees (node_at trees n)))
unfolding IsContent
childless_node trees n shape is =
    let t = tree_at trees n.tree in
    let a = at_place (nodes t) n.pre is.has_node.node_in in
    let w = content_at (nodes t) (path_at (nodes t) n.pre) a.exists is.is_tree.content in
    let s = tree_below trees (node_at trees n) in
    copied_childless s.root.kind s w.0 w.1

-- # What code does step by step

-- one row more of those that are gone through
pub row_more : (rows : List Row) (i : ℕ) (row : Row) → i < length rows → row ≡ row_at rows i → map flat (take (i + 1) rows) ≡ map flat (take i rows) ++ flat row ∷ []
row_more rows i row h e = map_more flat rows i no_row h ∙ ap (λ (r : Row). map flat (take i rows) ++ flat r ∷ []) (sym e)

-- a row that was added
pub leaf_added : (old new : List Row) (row : Row) → new ≡ old ++ row ∷ [] → map flat new ≡ map flat old ++ flat row ∷ []
leaf_added old new row e = ap (map flat) e ∙ map_push flat old row

-- a row of parts that are those of a row
pub row_of_parts : (r : Row) (size level : ℕ) (kind : Kind) (name value : Text) → size ≡ r.size → level ≡ r.level → kind ≡ r.label.kind → name ≡ r.label.name → value ≡ r.label.value
    → row size level kind name value ≡ r
row_of_parts r size level kind name value s l k n v = rw (s, l, k, n, v) refl

-- a row more
pub merged_next : (all now before after : List Leaf) (p : Leaf)
    → ((others : List Leaf) → merged_leaves (now ++ others) ≡ merged_leaves (all ++ p ∷ others))
    → ((others : List Leaf) → merged_leaves (all ++ others) ≡ merged_leaves (before ++ others))
    → after ≡ before ++ p ∷ []
    → (others : List Leaf) → merged_leaves (now ++ others) ≡ merged_leaves (after ++ others)
merged_next all now before after p step so_far e others =
    step others ∙ so_far (p ∷ others)
    ∙ ap merged_leaves (sym (append_assoc before (p ∷ []) others) ∙ ap (λ (l : List Leaf). l ++ others) (sym e))

pub merged_all : (all ps : List Leaf) → ((others : List Leaf) → merged_leaves (all ++ others) ≡ merged_leaves (ps ++ others)) → AreApart all → all ≡ merged_leaves ps
merged_all all ps h apart =
    sym (merged_apart all apart) ∙ ap merged_leaves (sym (append-nil all)) ∙ h [] ∙ ap merged_leaves (append-nil ps)

-- rows that stand for others and one more
pub record Glues (old new : List Row) (row : Row) : Type 0 where
  pub merges : (others : List Leaf) → merged_leaves (map flat new ++ others) ≡ merged_leaves (map flat old ++ flat row ∷ others)
  pub apart : AreApart (map flat old) → AreApart (map flat new)

-- rows whose last one is that of a text at the top
record LastText (more : Text) (rows : List Row) : Type 0 where
  front : List Row
  last : Row
  is : rows ≡ front ++ last ∷ []
  lengthened : with_longer_last more rows ≡ front ++ longer_row more last ∷ []
  text : is_top_text (flat last) ≡ true
  nameless : last.label.name ≡ []

last_text : (more : Text) (rows : List Row) → ends_with_text (map flat rows) ≡ true → HasNamelessEnd (map flat rows) → LastText more rows
last_text more [] h n = absurd (cc)
last_text more (r ∷ []) h n = record { front = []; last = r; is = refl; lengthened = refl; text = h; nameless = n }
last_text more (r ∷ q ∷ rows) h n =
    let w = last_text more (q ∷ rows) h n in
    record {
      front = r ∷ w.front;
      last = w.last;
      is = ap (λ (rs : List Row). r ∷ rs) w.is;
      lengthened = ap (λ (rs : List Row). r ∷ rs) w.lengthened;
      text = w.text;
      nameless = w.nameless;
    }

text_kind : (k : Kind) → is_text k ≡ true → k ≡ TextKind
text_kind TextKind h = refl
text_kind Document h = absurd (cc)
text_kind Element h = absurd (cc)
text_kind Attribute h = absurd (cc)
text_kind Comment h = absurd (cc)
text_kind ProcessingInstruction h = absurd (cc)

-- a text that has more is that of two
longer_glued : (last row : Row) → is_top_text (flat last) ≡ true → last.label.name ≡ [] → flat (longer_row row.label.value last) ≡ glued (flat last) (flat row)
longer_glued last row h n =
    let top : last.level ≡ 0 = (let t = and_first (nat_eq last.level 0) (is_text last.label.kind) h in grind (arith, nat_tests)) in
    let kind : last.label.kind ≡ TextKind = text_kind last.label.kind (and_second (nat_eq last.level 0) (is_text last.label.kind) h) in
    rw (top, kind, n) refl

pub one_lengthened : (old new : List Row) (row : Row) (value : Text) → true ≡ (ends_with_text (map flat old) && is_top_text (flat row)) → HasNamelessEnd (map flat old)
    → value ≡ row.label.value → new ≡ with_longer_last value old → Glues old new row
one_lengthened old new row value h n v e =
    let w = last_text row.label.value old (and_first (ends_with_text (map flat old)) (is_top_text (flat row)) (sym h)) n in
    let text : is_top_text (flat row) ≡ true = and_second (ends_with_text (map flat old)) (is_top_text (flat row)) (sym h) in
    let front = map flat w.front in
    let last = flat w.last in
    let old_is : map flat old ≡ front ++ last ∷ [] = ap (map flat) w.is ∙ map_push flat w.front w.last in
    let new_is : map flat new ≡ front ++ glued last (flat row) ∷ [] =
    ap (map flat) (e ∙ ap (λ (more : Text). with_longer_last more old) v ∙ w.lengthened) ∙ map_push flat w.front (longer_row row.label.value w.last)
    ∙ ap (λ (p : Leaf). front ++ p ∷ []) (longer_glued w.last row w.text w.nameless) in
    record {
      merges = λ others.
          (ap (λ (l : List Leaf). merged_leaves (l ++ others)) new_is ∙ ap merged_leaves (append_assoc front (glued last (flat row) ∷ []) others)
          ∙ sym (merged_glued front last (flat row) others w.text text)
          ∙ ap merged_leaves (sym (append_assoc front (last ∷ []) (flat row ∷ others)))
          ∙ ap (λ (l : List Leaf). merged_leaves (l ++ flat row ∷ others)) (sym old_is));
      apart = λ a. subst AreApart (sym new_is) (apart_other front last (glued last (flat row)) (subst AreApart old_is a) w.text refl);
    }

-- one leaf more, which is no second text
apart_added : (ps : List Leaf) (p : Leaf) → (ends_with_text ps && is_top_text p) ≡ false → AreApart ps → AreApart (ps ++ p ∷ [])
apart_added [] p h a = (refl, tt)
apart_added (x ∷ []) p h a = (ap not h, (refl, tt))
apart_added (x ∷ y ∷ ps) p h a = (a.0, apart_added (y ∷ ps) p h a.1)

pub one_added : (old new : List Row) (row : Row) → false ≡ (ends_with_text (map flat old) && is_top_text (flat row)) → new ≡ old ++ row ∷ [] → Glues old new row
one_added old new row h e =
    let new_is : map flat new ≡ map flat old ++ flat row ∷ [] = leaf_added old new row e in
    record {
      merges = λ others. ap (λ (l : List Leaf). merged_leaves (l ++ others)) new_is ∙ ap merged_leaves (append_assoc (map flat old) (flat row ∷ []) others);
      apart = λ a. subst AreApart (sym new_is) (apart_added (map flat old) (flat row) (sym h) a);
    }

-- the place of the last row, where the rows are not none
pub last_place : (rows : List Row) (none : Bool) (n : ℕ) → (rows ≡ [] → none ≡ true) → none ≡ false → n ≡ length rows → length rows ≡ n - 1 + 1
last_place [] none n h e l = absurd (clash none (h refl) e)
  where
    clash : (b : Bool) → b ≡ true → b ≡ false → ⊥
    clash true h e = absurd (cc)
    clash false h e = absurd (cc)
last_place (r ∷ rows) none n h e l = omega (arith, l)

-- the last of the rows tells
pub last_tells : (rows : List Row) (i : ℕ) → length rows ≡ i + 1 → ends_with_text (map flat rows) ≡ is_top_text (flat (row_at rows i))
last_tells [] i e = absurd (omega (arith, e))
last_tells (r ∷ []) zero e = refl
last_tells (r ∷ []) (suc i) e = absurd (omega (arith, e))
last_tells (r ∷ q ∷ rows) zero e = absurd (omega (arith, e))
last_tells (r ∷ q ∷ rows) (suc i) e = last_tells (q ∷ rows) i (omega (arith, e))

pub last_nameless : (rows : List Row) (i : ℕ) → length rows ≡ i + 1 → (row_at rows i).label.name ≡ [] → HasNamelessEnd (map flat rows)
last_nameless [] i e n = tt
last_nameless (r ∷ []) zero e n = n
last_nameless (r ∷ []) (suc i) e n = absurd (omega (arith, e))
last_nameless (r ∷ q ∷ rows) zero e n = absurd (omega (arith, e))
last_nameless (r ∷ q ∷ rows) (suc i) e n = last_nameless (q ∷ rows) i (omega (arith, e)) n

-- no two texts, where there is no row, the row after them is no text, or the last is none
pub none_before : (rows : List Row) (p : Leaf) → rows ≡ [] → false ≡ (ends_with_text (map flat rows) && is_top_text p)
none_before rows p e = rw e refl

pub no_text_after : (rows : List Row) (p : Leaf) → is_top_text p ≡ false → false ≡ (ends_with_text (map flat rows) && is_top_text p)
no_text_after rows p e = sym (ap (λ b. ends_with_text (map flat rows) && b) e ∙ and_false (ends_with_text (map flat rows)))
  where
    and_false : (a : Bool) → (a && false) ≡ false
    and_false true = refl
    and_false false = refl

pub tells_by_last : (rows : List Row) (last : Row) (p : Leaf) (i : ℕ) (b : Bool) → length rows ≡ i + 1 → last ≡ row_at rows i → is_top_text (flat last) ≡ b → is_top_text p ≡ true
    → b ≡ (ends_with_text (map flat rows) && is_top_text p)
tells_by_last rows last p i b e l h k =
    let ends : ends_with_text (map flat rows) ≡ b = last_tells rows i e ∙ ap (λ (r : Row). is_top_text (flat r)) (sym l) ∙ h in
    sym (ap (λ x. x && is_top_text p) ends ∙ ap (λ x. b && x) k ∙ and_true b)
  where
    and_true : (a : Bool) → (a && true) ≡ a
    and_true true = refl
    and_true false = refl

-- one row more is kept, or not
pub kept_more : (old new rows : List Row) (i : ℕ) (row : Row) → i < length rows → row ≡ row_at rows i → map flat new ≡ map flat old ++ filter is_kept (flat row ∷ [])
    → map flat old ≡ filter is_kept (map flat (take i rows)) → map flat new ≡ filter is_kept (map flat (take (i + 1) rows))
kept_more old new rows i row lt is e so_far =
    e ∙ ap (λ (l : List Leaf). l ++ filter is_kept (flat row ∷ [])) so_far ∙ sym (filter-append is_kept (map flat (take i rows)) (flat row ∷ []))
    ∙ ap (filter is_kept) (sym (row_more rows i row lt is))

pub kept_added : (old new : List Row) (row : Row) → is_kept (flat row) ≡ true → new ≡ old ++ row ∷ [] → map flat new ≡ map flat old ++ filter is_kept (flat row ∷ [])
kept_added old new row h e = leaf_added old new row e ∙ ap (λ (l : List Leaf). map flat old ++ l) (sym (kept_plain (flat row) [] h))

pub none_kept : (old : List Row) (row : Row) → is_kept (flat row) ≡ false → map flat old ≡ map flat old ++ filter is_kept (flat row ∷ [])
none_kept old row h = sym (ap (λ (l : List Leaf). map flat old ++ l) (kept_gone (flat row) [] h) ∙ append-nil (map flat old))

-- a root above rows
pub rooted : (kind : Kind) (name : Text) (rows now : List Row) → now ≡ row 0 0 kind name [] ∷ map (moved 0 1) rows → map flat now ≡ (0, label kind name []) ∷ map raised (map flat rows)
rooted kind name rows now e = ap (map flat) e ∙ ap (λ (l : List Leaf). (0, label kind name []) ∷ l) (each rows)
  where
    each : (rs : List Row) → map flat (map (moved 0 1) rs) ≡ map raised (map flat rs)
    each [] = refl
    each (r ∷ rs) =
        let z : r.level - 0 + 1 ≡ r.level + 1 = omega arith in
        ap (λ i. (i, r.label) ∷ map flat (map (moved 0 1) rs)) z ∙ ap (λ (l : List Leaf). raised (flat r) ∷ l) (each rs)
