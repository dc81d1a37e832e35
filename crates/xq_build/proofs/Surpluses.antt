-- Content of too many nodes is judged as its short form is.
use Rattle.std.proofs.Common.{◌≡◌, ℕ, zero, suc, ◌+◌, ◌-◌, ◌<◌, ◌≤◌, List, [], ◌∷◌, ◌++◌, length, map, drop, get_or, Bool, true, false, not, ◌&&◌, ◌||◌, cond, Option, Some, None, refl, sym, ◌∙◌, ap, subst, arith, append_assoc}
use Rattle.std.specs.Prelude.{filter, nat_lt, nat_le, nat_eq}
use Rattle.std.specs.List.{list_any}
use Rattle.std.proofs.lemmas.Bool.Decides.{nat_tests}
use Rattle.std.proofs.lemmas.List.{append-nil, drop_more, length-append}
use Rattle.std.proofs.lemmas.List.Elements.{filter-append}
use Rattle.std.proofs.lemmas.List.Folds.{list_any-append}
use Rattle.xq_atoms.specs.Text.{Text, is_empty}
use Rattle.xq_trees.specs.Tree.{Label, is_attribute, Tree, nodes, may_stand, is_content}
use Rattle.xq_trees.specs.declared.Kind.{Kind}
use Rattle.xq_trees.specs.declared.Kind.TheVariants.{Document, Element, Attribute, Text as TextKind, Comment, ProcessingInstruction}
use Rattle.xq_meaning.specs.Content.{is_text, attribute_fault, first_fault, or_else, copied, is_within_height, flattened, content}
use Rattle.xq_trees.specs.Forest.{Forest, end, node, tops, IsWithinHeight, join}
use Rattle.xq_trees.specs.Node.{HasPath, below_at}
use Rattle.xq_trees.specs.Order.{path_at, place_of}
use Rattle.xq_trees.specs.Rows.{Row, rows, row_at}
use Rattle.xq_trees.specs.declared.items.Node.{Node as CodeNode}
use Rattle.xq_trees.proofs.Printed.{leveled}
use Rattle.xq_trees.proofs.Paths.{at_place}
use Rattle.xq_trees.proofs.Regions.{row_at-place_of}
use Rattle.xq_sources.specs.Sources.{rows_between, tree_at}
use Rattle.xq_sources.specs.Lenders.{IsRun}
use Rattle.xq_atoms.specs.Atom.{Atomic}
use Rattle.xq_atoms.specs.Cast.{text_of}
use Rattle.xq_meaning.specs.Items.{Item, Node, Atom, tree_below}
use Rattle.xq_trees.specs.Items.{item_view}
use Rattle.xq_trees.specs.declared.items.Item.{Item as CodeItem}
use Rattle.xq_meaning.specs.Readings.{node_at, item_at, items_at}
use Rattle.xq_build.specs.declared.node_copies.NodeShape.{NodeShape}
use Rattle.xq_build.specs.private.Leaves.{Leaf, leaf, leaves, lowered, leaves_between, IsShapeOf}
use Rattle.xq_build.proofs.Subtrees.{run_splits, root_leaves, node_leaves, root_kind}
use Rattle.xq_build.proofs.Contents.{leaves-leveled, leaves-join, low_leaves, content_at, content_is, tree_content, content_leaves, flattened-with, Childless-join, Childless-open}
use Rattle.xq_build.specs.private.Attributes.{labels_if, top_labels, fault_from}
use Rattle.xq_build.specs.private.Content.{is_top_text, glued, put, merged_leaves, is_kept, are_low, open_text, longer, flattened_with, Childless, so_far}
use Rattle.xq_build.specs.private.Surplus.{is_firm, firm_count, is_late, is_full, is_top_attribute, kept_fault, Alike, StandsFor, copy_of, AreSeen, Shortens, Takes, Flattens}

-- # What one node does to the fault of those after it

and_left : (a b : Bool) → (a && b) ≡ true → a ≡ true
and_left true b h = refl
and_left false b h = h

and_right : (a b : Bool) → (a && b) ≡ true → b ≡ true
and_right true b h = h
and_right false b h = absurd (cc)

clash : (b : Bool) → b ≡ true → b ≡ false → ⊥
clash true h e = absurd (cc)
clash false h e = absurd (cc)

-- the test, where it was made
data Tested (b : Bool) : Type 0 where
  yes : b ≡ true → Tested b
  no : b ≡ false → Tested b

tested : (b : Bool) → Tested b
tested true = yes refl
tested false = no refl

kept_more : (p : Leaf) (ps : List Leaf) → is_kept p ≡ true → filter is_kept (p ∷ ps) ≡ p ∷ filter is_kept ps
kept_more p ps h = ap (λ b. cond b (p ∷ filter is_kept ps) (filter is_kept ps)) h

dropped : (parent : Kind) (names : List Text) (late : Bool) (p : Leaf) (ps : List Leaf) → is_kept p ≡ false → kept_fault parent names late (p ∷ ps) ≡ kept_fault parent names late ps
dropped parent names late p ps h = ap (fault_from parent names late) (ap (λ b. cond b (p ∷ filter is_kept ps) (filter is_kept ps)) h)

deep : (parent : Kind) (names : List Text) (late : Bool) (p : Leaf) (ps : List Leaf) → nat_eq p.0 0 ≡ false → kept_fault parent names late (p ∷ ps) ≡ kept_fault parent names late ps
deep parent names late p ps h =
    let kept : is_kept p ≡ true = rw h refl in
    ap (fault_from parent names late) (kept_more p ps kept) ∙ ap (λ b. first_fault parent names late (labels_if b p (top_labels (filter is_kept ps)))) h

at_top : (parent : Kind) (names : List Text) (late : Bool) (p : Leaf) (ps : List Leaf) → is_kept p ≡ true → nat_eq p.0 0 ≡ true
    → kept_fault parent names late (p ∷ ps) ≡ first_fault parent names late (p.1 ∷ top_labels (filter is_kept ps))
at_top parent names late p ps k h =
    ap (fault_from parent names late) (kept_more p ps k) ∙ ap (λ b. first_fault parent names late (labels_if b p (top_labels (filter is_kept ps)))) h

no_text : (k : Kind) → is_attribute k ≡ true → is_text k ≡ false
no_text Attribute h = refl
no_text Document h = refl
no_text Element h = refl
no_text TextKind h = absurd (cc)
no_text Comment h = refl
no_text ProcessingInstruction h = refl

attr : (parent : Kind) (names : List Text) (late : Bool) (p : Leaf) (ps : List Leaf) → nat_eq p.0 0 ≡ true → is_attribute p.1.kind ≡ true
    → kept_fault parent names late (p ∷ ps) ≡ or_else (attribute_fault parent names late p.1.name) (kept_fault parent (p.1.name ∷ names) late ps)
attr parent names late p ps h k =
    let plain : is_text p.1.kind ≡ false = no_text p.1.kind k in
    let kept : is_kept p ≡ true = rw (h, plain) refl in
    at_top parent names late p ps kept h ∙ of_kind
  where
    of_kind : first_fault parent names late (p.1 ∷ top_labels (filter is_kept ps)) ≡ or_else (attribute_fault parent names late p.1.name) (kept_fault parent (p.1.name ∷ names) late ps)
    of_kind = rw k refl

other : (parent : Kind) (names : List Text) (late : Bool) (p : Leaf) (ps : List Leaf) → is_kept p ≡ true → nat_eq p.0 0 ≡ true → is_attribute p.1.kind ≡ false
    → kept_fault parent names late (p ∷ ps) ≡ kept_fault parent names true ps
other parent names late p ps kept h k = at_top parent names late p ps kept h ∙ of_kind
  where
    of_kind : first_fault parent names late (p.1 ∷ top_labels (filter is_kept ps)) ≡ first_fault parent names true (top_labels (filter is_kept ps))
    of_kind = rw k refl

-- one node: what is left of those after it decides
data Shape (p : Leaf) : Type 0 where
  goes : is_kept p ≡ false → Shape p
  deeper : nat_eq p.0 0 ≡ false → Shape p
  attribute : nat_eq p.0 0 ≡ true → is_attribute p.1.kind ≡ true → Shape p
  stays : is_kept p ≡ true → nat_eq p.0 0 ≡ true → is_attribute p.1.kind ≡ false → Shape p

shape : (p : Leaf) → Shape p
shape p = by_top (tested (nat_eq p.0 0))
  where
    by_kept : nat_eq p.0 0 ≡ true → is_attribute p.1.kind ≡ false → Tested (is_kept p) → Shape p
    by_kept h k (yes e) = stays e h k
    by_kept h k (no e) = goes e

    by_kind : nat_eq p.0 0 ≡ true → Tested (is_attribute p.1.kind) → Shape p
    by_kind h (yes k) = attribute h k
    by_kind h (no k) = by_kept h k (tested (is_kept p))

    by_top : Tested (nat_eq p.0 0) → Shape p
    by_top (no h) = deeper h
    by_top (yes h) = by_kind h (tested (is_attribute p.1.kind))

abbrev SameFault : Kind → Bool → List Leaf → List Leaf → Type 0
SameFault parent late xs ys = (names : List Text) → kept_fault parent names late xs ≡ kept_fault parent names late ys

-- lists with the same faults have the same after one more node
same_after : (parent : Kind) (p : Leaf) (xs ys : List Leaf) → ((late : Bool) → SameFault parent late xs ys) → (late : Bool) → SameFault parent late (p ∷ xs) (p ∷ ys)
same_after parent p xs ys h late names = by_shape (shape p)
  where
    by_shape : Shape p → kept_fault parent names late (p ∷ xs) ≡ kept_fault parent names late (p ∷ ys)
    by_shape (goes g) = dropped parent names late p xs g ∙ h late names ∙ sym (dropped parent names late p ys g)
    by_shape (deeper g) = deep parent names late p xs g ∙ h late names ∙ sym (deep parent names late p ys g)
    by_shape (attribute g k) =
        attr parent names late p xs g k ∙ ap (or_else (attribute_fault parent names late p.1.name)) (h late (p.1.name ∷ names)) ∙ sym (attr parent names late p ys g k)
    by_shape (stays g e k) = other parent names late p xs g e k ∙ h true names ∙ sym (other parent names late p ys g e k)

-- # Texts side by side

-- a text counts where it is not empty
text_fault : (parent : Kind) (names : List Text) (late : Bool) (p : Leaf) (ps : List Leaf) → is_top_text p ≡ true
    → kept_fault parent names late (p ∷ ps) ≡ kept_fault parent names (late || not (is_empty p.1.value)) ps
text_fault parent names late p ps h = by_empty (tested (is_empty p.1.value))
  where
    top : nat_eq p.0 0 ≡ true
    top = and_left (nat_eq p.0 0) (is_text p.1.kind) h

    text : is_text p.1.kind ≡ true
    text = and_right (nat_eq p.0 0) (is_text p.1.kind) h

    none : (k : Kind) → is_text k ≡ true → is_attribute k ≡ false
    none Attribute h = absurd (cc)
    none Document h = refl
    none Element h = refl
    none TextKind h = refl
    none Comment h = refl
    none ProcessingInstruction h = refl

    late_true : (a : Bool) → (a || true) ≡ true
    late_true true = refl
    late_true false = refl

    late_false : (a : Bool) → (a || false) ≡ a
    late_false true = refl
    late_false false = refl

    by_empty : Tested (is_empty p.1.value) → kept_fault parent names late (p ∷ ps) ≡ kept_fault parent names (late || not (is_empty p.1.value)) ps
    by_empty (yes e) =
        let gone : is_kept p ≡ false = rw (h, e) refl in
        dropped parent names late p ps gone ∙ ap (λ b. kept_fault parent names b ps) (sym (ap (λ b. late || not b) e ∙ late_false late))
    by_empty (no e) =
        let kept : is_kept p ≡ true = rw (h, e) refl in
        other parent names late p ps kept top (none p.1.kind text) ∙ ap (λ b. kept_fault parent names b ps) (sym (ap (λ b. late || not b) e ∙ late_true late))

empty_both : (late : Bool) (v w : Text) → (late || not (is_empty (v ++ w))) ≡ ((late || not (is_empty v)) || not (is_empty w))
empty_both true v w = refl
empty_both false [] w = refl
empty_both false (x ∷ v) w = refl

put_fault : (parent : Kind) (late : Bool) (p : Leaf) (ps : List Leaf) → SameFault parent late (put p ps) (p ∷ ps)
put_fault parent late p [] names = refl
put_fault parent late p (q ∷ qs) names = by_test (tested (is_top_text p && is_top_text q))
  where
    by_test : Tested (is_top_text p && is_top_text q) → kept_fault parent names late (put p (q ∷ qs)) ≡ kept_fault parent names late (p ∷ q ∷ qs)
    by_test (no h) = rw h refl
    by_test (yes h) =
        let a = and_left (is_top_text p) (is_top_text q) h in
        let b = and_right (is_top_text p) (is_top_text q) h in
        let one : put p (q ∷ qs) ≡ glued p q ∷ qs = rw h refl in
        ap (kept_fault parent names late) one ∙ text_fault parent names late (glued p q) qs refl
        ∙ ap (λ l. kept_fault parent names l qs) (empty_both late p.1.value q.1.value)
        ∙ sym (text_fault parent names late p (q ∷ qs) a ∙ text_fault parent names (late || not (is_empty p.1.value)) q qs b)

merged_fault : (parent : Kind) (late : Bool) (ps : List Leaf) → SameFault parent late (merged_leaves ps) ps
merged_fault parent late [] names = refl
merged_fault parent late (p ∷ ps) names =
    put_fault parent late p (merged_leaves ps) names ∙ same_after parent p (merged_leaves ps) ps (λ late names. merged_fault parent late ps names) late names

top_low : (p : Leaf) → is_top_text p ≡ true → nat_lt p.0 100 ≡ true
top_low p h = by_test (tested (nat_eq p.0 0)) h
  where
    by_test : Tested (nat_eq p.0 0) → is_top_text p ≡ true → nat_lt p.0 100 ≡ true
    by_test (yes e) h = grind (arith, nat_tests)
    by_test (no e) h = absurd (clash (nat_eq p.0 0) (and_left (nat_eq p.0 0) (is_text p.1.kind) h) e)

put_low : (p : Leaf) (ps : List Leaf) → are_low (put p ps) ≡ are_low (p ∷ ps)
put_low p [] = refl
put_low p (q ∷ qs) = by_test (tested (is_top_text p && is_top_text q))
  where
    by_test : Tested (is_top_text p && is_top_text q) → are_low (put p (q ∷ qs)) ≡ are_low (p ∷ q ∷ qs)
    by_test (no h) = rw h refl
    by_test (yes h) =
        let a = top_low p (and_left (is_top_text p) (is_top_text q) h) in
        let b = top_low q (and_right (is_top_text p) (is_top_text q) h) in
        let one : put p (q ∷ qs) ≡ glued p q ∷ qs = rw h refl in
        ap are_low one ∙ sym (rw (a, b) refl)

merged_low : (ps : List Leaf) → are_low (merged_leaves ps) ≡ are_low ps
merged_low [] = refl
merged_low (p ∷ ps) = put_low p (merged_leaves ps) ∙ ap (λ b. nat_lt p.0 100 && b) (merged_low ps)

kept_low : (ps : List Leaf) → are_low (filter is_kept ps) ≡ are_low ps
kept_low [] = refl
kept_low (p ∷ ps) = by_test (tested (is_kept p)) (kept_low ps)
  where
    text : (a b : Bool) → not (a && b) ≡ false → a ≡ true
    text true b h = refl
    text false b h = absurd (cc)

    by_test : Tested (is_kept p) → are_low (filter is_kept ps) ≡ are_low ps → are_low (filter is_kept (p ∷ ps)) ≡ are_low (p ∷ ps)
    by_test (yes h) e = ap are_low (kept_more p ps h) ∙ ap (λ b. nat_lt p.0 100 && b) e
    by_test (no h) e =
        let low = top_low p (text (is_top_text p) (is_empty p.1.value) h) in
        ap are_low (ap (λ b. cond b (p ∷ filter is_kept ps) (filter is_kept ps)) h) ∙ e ∙ sym (ap (λ b. b && are_low ps) low)

put_firm : (p : Leaf) (ps : List Leaf) → filter is_firm (put p ps) ≡ filter is_firm (p ∷ ps)
put_firm p [] = refl
put_firm p (q ∷ qs) = by_test (tested (is_top_text p && is_top_text q))
  where
    by_test : Tested (is_top_text p && is_top_text q) → filter is_firm (put p (q ∷ qs)) ≡ filter is_firm (p ∷ q ∷ qs)
    by_test (no h) = rw h refl
    by_test (yes h) =
        let a = and_left (is_top_text p) (is_top_text q) h in
        let b = and_right (is_top_text p) (is_top_text q) h in
        let one : put p (q ∷ qs) ≡ glued p q ∷ qs = rw h refl in
        ap (filter is_firm) one ∙ sym (rw (a, b) refl)

merged_firm : (ps : List Leaf) → filter is_firm (merged_leaves ps) ≡ filter is_firm ps
merged_firm [] = refl
merged_firm (p ∷ ps) = put_firm p (merged_leaves ps) ∙ ap (λ (xs : List Leaf). cond (is_firm p) (p ∷ xs) xs) (merged_firm ps)

firm_kept : (ps : List Leaf) → firm_count ps ≤ length (filter is_kept ps)
firm_kept [] = omega arith
firm_kept (p ∷ ps) = by_test (tested (is_top_text p)) (firm_kept ps)
  where
    gone : is_kept p ≡ false → filter is_kept (p ∷ ps) ≡ filter is_kept ps
    gone k = ap (λ b. cond b (p ∷ filter is_kept ps) (filter is_kept ps)) k

    by_kept : is_top_text p ≡ true → Tested (is_kept p) → firm_count ps ≤ length (filter is_kept ps) → firm_count (p ∷ ps) ≤ length (filter is_kept (p ∷ ps))
    by_kept h (yes k) le =
        let a : firm_count (p ∷ ps) ≡ firm_count ps = ap (λ b. length (cond (not b) (p ∷ filter is_firm ps) (filter is_firm ps))) h in
        let b : length (filter is_kept (p ∷ ps)) ≡ suc (length (filter is_kept ps)) = ap length (kept_more p ps k) in
        omega (arith, le, a, b)
    by_kept h (no k) le =
        let a : firm_count (p ∷ ps) ≡ firm_count ps = ap (λ b. length (cond (not b) (p ∷ filter is_firm ps) (filter is_firm ps))) h in
        let b : length (filter is_kept (p ∷ ps)) ≡ length (filter is_kept ps) = ap length (gone k) in
        omega (arith, le, a, b)

    by_test : Tested (is_top_text p) → firm_count ps ≤ length (filter is_kept ps) → firm_count (p ∷ ps) ≤ length (filter is_kept (p ∷ ps))
    by_test (yes h) le = by_kept h (tested (is_kept p)) le
    by_test (no h) le =
        let a : firm_count (p ∷ ps) ≡ suc (firm_count ps) = ap (λ b. length (cond (not b) (p ∷ filter is_firm ps) (filter is_firm ps))) h in
        let b : length (filter is_kept (p ∷ ps)) ≡ suc (length (filter is_kept ps)) = ap length (kept_more p ps (ap (λ b. not (b && is_empty p.1.value)) h)) in
        omega (arith, le, a, b)

-- # Nodes that are too many

-- attributes that are too late aside, other nodes decide nothing once one is too late

or_no : (a b : Bool) → (a || b) ≡ false → b ≡ false
or_no true b h = absurd (cc)
or_no false b h = h

or_first : (a b : Bool) → (a || b) ≡ false → a ≡ false
or_first true b h = absurd (cc)
or_first false b h = refl

plain_fault : (parent : Kind) (c ps : List Leaf) → list_any is_top_attribute c ≡ false → SameFault parent true ps (c ++ ps)
plain_fault parent [] ps h names = refl
plain_fault parent (p ∷ c) ps h names = by_shape (or_first _ _ h) (plain_fault parent c ps (or_no (is_top_attribute p) _ h) names) (shape p)
  where
    by_shape : is_top_attribute p ≡ false → kept_fault parent names true ps ≡ kept_fault parent names true (c ++ ps) → Shape p → kept_fault parent names true ps ≡ kept_fault parent names true (p ∷ c ++ ps)
    by_shape a e (goes g) = e ∙ sym (dropped parent names true p (c ++ ps) g)
    by_shape a e (deeper g) = e ∙ sym (deep parent names true p (c ++ ps) g)
    by_shape a e (attribute g k) = absurd (clash (is_top_attribute p) (ap (λ b. b && is_attribute p.1.kind) g ∙ k) a)
    by_shape a e (stays g t k) = e ∙ sym (other parent names true p (c ++ ps) g t k)

skip_one : (a b c : Bool) → (a || (b || c)) ≡ true → b ≡ false → (a || c) ≡ true
skip_one true b c h e = refl
skip_one false true c h e = absurd (cc)
skip_one false false c h e = h

plain_gone : (p : Leaf) → is_kept p ≡ false → is_late p ≡ false
plain_gone p g = ap (λ b. nat_eq p.0 0 && not (b || is_attribute p.1.kind)) (text (nat_eq p.0 0) (is_text p.1.kind) (is_empty p.1.value) g) ∙ none (nat_eq p.0 0)
  where
    text : (a b c : Bool) → not ((a && b) && c) ≡ false → b ≡ true
    text true true c h = refl
    text true false c h = absurd (cc)
    text false b c h = absurd (cc)

    none : (a : Bool) → (a && false) ≡ false
    none true = refl
    none false = refl

plain_attribute : (p : Leaf) → is_attribute p.1.kind ≡ true → is_late p ≡ false
plain_attribute p k = ap (λ b. nat_eq p.0 0 && not (b || is_attribute p.1.kind)) (no_text p.1.kind k) ∙ ap (λ b. nat_eq p.0 0 && not b) k ∙ none (nat_eq p.0 0)
  where
    none : (a : Bool) → (a && false) ≡ false
    none true = refl
    none false = refl

late_fault : (parent : Kind) (late : Bool) (before c ps : List Leaf) → (late || list_any is_late before) ≡ true → list_any is_top_attribute c ≡ false
    → SameFault parent late (before ++ ps) (before ++ (c ++ ps))
late_fault parent late [] c ps l h names = by_late (tested late)
  where
    by_late : Tested late → kept_fault parent names late ps ≡ kept_fault parent names late (c ++ ps)
    by_late (yes e) = rw e (plain_fault parent c ps h names)
    by_late (no e) = absurd (clash (late || false) l (ap (λ b. b || false) e))
late_fault parent late (p ∷ before) c ps l h names = by_shape (λ later l names. late_fault parent later before c ps l h names) (shape p)
  where
    by_shape : ((later : Bool) → (later || list_any is_late before) ≡ true → SameFault parent later (before ++ ps) (before ++ (c ++ ps))) → Shape p
        → kept_fault parent names late (p ∷ before ++ ps) ≡ kept_fault parent names late (p ∷ before ++ (c ++ ps))
    by_shape more (goes g) =
        dropped parent names late p (before ++ ps) g ∙ more late (skip_one late (is_late p) (list_any is_late before) l (plain_gone p g)) names
        ∙ sym (dropped parent names late p (before ++ (c ++ ps)) g)
    by_shape more (deeper g) =
        deep parent names late p (before ++ ps) g ∙ more late (skip_one late (is_late p) (list_any is_late before) l (ap (λ b. b && not (is_text p.1.kind || is_attribute p.1.kind)) g)) names
        ∙ sym (deep parent names late p (before ++ (c ++ ps)) g)
    by_shape more (attribute g k) =
        attr parent names late p (before ++ ps) g k
        ∙ ap (or_else (attribute_fault parent names late p.1.name)) (more late (skip_one late (is_late p) (list_any is_late before) l (plain_attribute p k)) (p.1.name ∷ names))
        ∙ sym (attr parent names late p (before ++ (c ++ ps)) g k)
    by_shape more (stays g e k) =
        other parent names late p (before ++ ps) g e k ∙ more true refl names ∙ sym (other parent names late p (before ++ (c ++ ps)) g e k)

firm-append : (xs ys : List Leaf) → firm_count (xs ++ ys) ≡ firm_count xs + firm_count ys
firm-append xs ys = ap length (filter-append is_firm xs ys) ∙ length-append (filter is_firm xs) (filter is_firm ys)

low-append : (xs ys : List Leaf) → are_low (xs ++ ys) ≡ (are_low xs && are_low ys)
low-append [] ys = refl
low-append (x ∷ xs) ys = by_test (nat_lt x.0 100) (low-append xs ys)
  where
    by_test : (b : Bool) → are_low (xs ++ ys) ≡ (are_low xs && are_low ys) → (b && are_low (xs ++ ys)) ≡ ((b && are_low xs) && are_low ys)
    by_test true e = e
    by_test false e = refl

full_many : (ps : List Leaf) → is_full ps ≡ true → 1000000 ≤ firm_count ps
full_many ps h = let b = and_left (nat_le 1000000 (firm_count ps)) (list_any is_late ps) h in grind (arith, nat_tests)

full_late : (ps : List Leaf) → is_full ps ≡ true → list_any is_late ps ≡ true
full_late ps h = and_right (nat_le 1000000 (firm_count ps)) (list_any is_late ps) h

-- more nodes are too many as well
pub full_more : (ps more : List Leaf) → is_full ps ≡ true → is_full (ps ++ more) ≡ true
full_more ps more h =
    let many : nat_le 1000000 (firm_count (ps ++ more)) ≡ true = (let n = full_many ps h in let e = firm-append ps more in grind (arith, nat_tests)) in
    let late : list_any is_late (ps ++ more) ≡ true = list_any-append is_late ps more ∙ ap (λ b. b || list_any is_late more) (full_late ps h) in
    rw (many, late) refl

pub alike_same : (ps qs : List Leaf) → ps ≡ qs → Alike ps qs
alike_same ps qs e = record {
  fault = λ parent names late. ap (kept_fault parent names late) e;
  low = ap are_low e;
  few = λ _. e;
  many = λ h. (let n = ap firm_count e in omega (arith, h, n));
}

pub alike_then : (ps qs rs : List Leaf) → Alike ps qs → Alike qs rs → Alike ps rs
alike_then ps qs rs a b = record {
  fault = λ parent names late. a.fault parent names late ∙ b.fault parent names late;
  low = a.low ∙ b.low;
  few = λ h. (let e = a.few h in let n = ap firm_count e in e ∙ b.few (omega (arith, h, n)));
  many = λ h. b.many (a.many h);
}

-- nodes in the place of others, after too many
pub alike_short : (before x c others : List Leaf) → is_full before ≡ true → list_any is_top_attribute x ≡ false → list_any is_top_attribute c ≡ false
    → are_low (before ++ x) ≡ are_low (before ++ c) → Alike ((before ++ x) ++ others) (before ++ (c ++ others))
alike_short before x c others full nx nc low =
    let late : (false || list_any is_late before) ≡ true = full_late before full in
    let many = full_many before full in
    let front : (before ++ x) ++ others ≡ before ++ (x ++ others) = append_assoc before x others in
    let back : (before ++ c) ++ others ≡ before ++ (c ++ others) = append_assoc before c others in
    record {
      fault = λ parent names late'. (
          ap (kept_fault parent names late') front ∙ sym (late_fault parent late' before x others (any_late late' (full_late before full)) nx names)
          ∙ late_fault parent late' before c others (any_late late' (full_late before full)) nc names);
      low = low-append (before ++ x) others ∙ ap (λ b. b && are_low others) low ∙ sym (low-append (before ++ c) others) ∙ ap are_low back;
      few = λ h. absurd (let n = ap firm_count front in let m = firm-append before (x ++ others) in omega (arith, h, n, m, many));
      many = λ h. (let m = firm-append before (c ++ others) in omega (arith, m, many));
    }
  where
    any_late : (b : Bool) → list_any is_late before ≡ true → (b || list_any is_late before) ≡ true
    any_late true h = refl
    any_late false h = h

-- # A run of rows

pub run_high : (t : Tree) (low high : ℕ) (run : List (ℕ × Row)) → IsRun (rows_between t low high) run → are_low (map leaf run) ≡ false → are_low (leaves_between t low high) ≡ false
run_high t low high run is h =
    ap are_low (run_splits t low high run is).is ∙ low-append (map leaf run) (leaves_between t (low + length run) high) ∙ ap (λ b. b && are_low (leaves_between t (low + length run) high)) h

pub run_low : (t : Tree) (low high next : ℕ) (run : List (ℕ × Row)) → IsRun (rows_between t low high) run → next ≡ low + length run → are_low (map leaf run) ≡ true
    → are_low (leaves_between t low high) ≡ are_low (leaves_between t next high)
run_low t low high next run is n h =
    ap are_low (run_splits t low high run is).is ∙ low-append (map leaf run) (leaves_between t (low + length run) high) ∙ ap (λ b. b && are_low (leaves_between t (low + length run) high)) h
    ∙ ap (λ i. are_low (leaves_between t i high)) (sym n)

-- # Copies of nodes

attributes_deeper : (l : ℕ) (f : Forest Label) (ps : List Leaf) → list_any is_top_attribute (leveled (suc l) f ++ ps) ≡ list_any is_top_attribute ps
attributes_deeper l end ps = refl
attributes_deeper l (node a below beside) ps =
    let no : nat_eq (suc l) 0 ≡ false = grind (arith, nat_tests) in
    ap (λ b. (b && is_attribute a.kind) || list_any is_top_attribute ((leveled (suc (suc l)) below ++ leveled (suc l) beside) ++ ps)) no
    ∙ ap (list_any is_top_attribute) (append_assoc (leveled (suc (suc l)) below) (leveled (suc l) beside) ps)
    ∙ attributes_deeper (suc l) below (leveled (suc l) beside ++ ps) ∙ attributes_deeper l beside ps

plain_kind : (k : Kind) → (k ≡ Attribute → ⊥) → is_attribute k ≡ false
plain_kind Attribute h = absurd (h refl)
plain_kind Document h = refl
plain_kind Element h = refl
plain_kind TextKind h = refl
plain_kind Comment h = refl
plain_kind ProcessingInstruction h = refl

child_kind : (k : Kind) → may_stand Document k ≡ true → is_attribute k ≡ false
child_kind Document h = refl
child_kind Element h = refl
child_kind Attribute h = absurd (cc)
child_kind TextKind h = refl
child_kind Comment h = refl
child_kind ProcessingInstruction h = refl

children_plain : (a : Label) (f : Forest Label) → a.kind ≡ Document → is_content a (tops f) ≡ true → list_any is_top_attribute (leveled 0 f) ≡ false
children_plain a end e h = refl
children_plain a (node b k r) e h =
    let h' = and_right _ _ (and_right _ _ (and_right (may_stand a.kind b.kind) _ h)) in
    let plain : is_attribute b.kind ≡ false = child_kind b.kind (ap (λ (k : Kind). may_stand k b.kind) (sym e) ∙ and_left (may_stand a.kind b.kind) _ h) in
    ap (λ x. x || list_any is_top_attribute (leveled 1 k ++ leveled 0 r)) plain ∙ attributes_deeper 0 k (leveled 0 r) ∙ children_plain a r e h'

height_more : (n m : ℕ) (f : Forest Label) → n ≤ m → IsWithinHeight n f → IsWithinHeight m f
height_more n m end le h = tt
height_more zero m (node a below beside) le h = absurd h
height_more (suc n) zero (node a below beside) le h = absurd (omega (arith, le))
height_more (suc n) (suc m) (node a below beside) le h = (height_more n m below (omega (arith, le)) h.0, height_more (suc n) (suc m) beside le h.1)

height_at : (n : ℕ) (f : Forest Label) (p : List ℕ) → HasPath f p → IsWithinHeight n f → (m : ℕ) → n ≤ m + length p → IsWithinHeight m (below_at f p)
height_at n end p h c m le = absurd h
height_at n (node a k r) [] h c m le = absurd h
height_at zero (node a k r) (i ∷ p) h c m le = absurd c
height_at (suc n) (node a k r) (zero ∷ []) h c m le = height_more n m k (omega (arith, le)) c.0
height_at (suc n) (node a k r) (zero ∷ i ∷ p) h c m le = height_at n k (i ∷ p) h c.0 m (omega (arith, le))
height_at (suc n) (node a k r) (suc i ∷ p) h c m le = height_at (suc n) r (i ∷ p) h c.1 m le

pub within_true : (n : ℕ) (f : Forest Label) → IsWithinHeight n f → is_within_height n f ≡ true
within_true n end h = refl
within_true zero (node a below beside) h = absurd h
within_true (suc n) (node a below beside) h = rw (within_true n below h.0) (within_true (suc n) beside h.1)

module _ (trees : List Tree) (n : CodeNode) (shape : NodeShape) (is : IsShapeOf trees n shape) where
  t : Tree
  t = tree_at trees n.tree

  s : Tree
  s = tree_below trees (node_at trees n)

  kind_is : shape.kind ≡ (tree_below trees (node_at trees n)).root.kind
  kind_is = root_kind trees n shape is

  document_copy : shape.kind ≡ Document → copied (tree_below trees (node_at trees n)) ≡ (tree_below trees (node_at trees n)).below
  document_copy e = of_document (tree_below trees (node_at trees n)) (sym kind_is ∙ e)
    where
      of_document : (u : Tree) → u.root.kind ≡ Document → copied u ≡ u.below
      of_document u k = rw k refl

  depth : suc shape.level ≡ length (path_at (nodes (tree_at trees n.tree)) n.pre)
  depth =
      let f = nodes (tree_at trees n.tree) in
      let a = at_place f n.pre is.has_node.node_in in
      let d = row_at-place_of 0 f (path_at f n.pre) a.exists in
      let at : row_at (rows (tree_at trees n.tree)) (place_of f (path_at f n.pre)) ≡ row_at (rows (tree_at trees n.tree)) n.pre = ap (row_at (rows (tree_at trees n.tree))) a.place in
      omega (arith, d.level, ap (λ (x : Row). x.level) at, is.level)

  height : (m : ℕ) → 101 ≤ m + suc shape.level → IsWithinHeight m (tree_below trees (node_at trees n)).below
  height m le =
      let f = nodes (tree_at trees n.tree) in
      let a = at_place f n.pre is.has_node.node_in in
      height_at 101 f (path_at f n.pre) a.exists is.is_tree.height m (let d = depth in omega (arith, le, d))

  -- attributes aside, a copy has none at its top
  pub copy_plain : (shape.kind ≡ Attribute → ⊥) → list_any is_top_attribute (copy_of trees n) ≡ false
  copy_plain other = by_kind shape.kind refl
    where
      whole_plain : (shape.kind ≡ Document → ⊥) → list_any is_top_attribute (copy_of trees n) ≡ false
      whole_plain d =
          let u = tree_below trees (node_at trees n) in
          let plain : is_attribute u.root.kind ≡ false = plain_kind u.root.kind (λ e. other (kind_is ∙ e)) in
          ap (list_any is_top_attribute) (sym (node_leaves trees n shape is d) ∙ leaves-leveled (nodes u))
          ∙ ap (λ b. b || list_any is_top_attribute (leveled 1 u.below ++ [])) plain ∙ attributes_deeper 0 u.below []

      by_kind : (k : Kind) → shape.kind ≡ k → list_any is_top_attribute (copy_of trees n) ≡ false
      by_kind Document e =
          let f = nodes (tree_at trees n.tree) in
          let a = at_place f n.pre is.has_node.node_in in
          let w = content_at f (path_at f n.pre) a.exists (tree_content (tree_at trees n.tree) is.is_tree) in
          let u = tree_below trees (node_at trees n) in
          ap (list_any is_top_attribute) (ap leaves (document_copy e) ∙ leaves-leveled u.below) ∙ children_plain u.root u.below (sym kind_is ∙ e) (content_is u.root (tops u.below) w.0)
      by_kind Element e = whole_plain (λ d. absurd (cc))
      by_kind Attribute e = absurd (other e)
      by_kind TextKind e = whole_plain (λ d. absurd (cc))
      by_kind Comment e = whole_plain (λ d. absurd (cc))
      by_kind ProcessingInstruction e = whole_plain (λ d. absurd (cc))

  -- a copy of a document's children is low, and so is one of a node below a root
  pub document_low : shape.kind ≡ Document → are_low (copy_of trees n) ≡ true
  document_low e =
      let u = tree_below trees (node_at trees n) in
      ap (λ (f : Forest Label). are_low (leaves f)) (document_copy e) ∙ low_leaves u.below ∙ within_true 100 u.below (height 100 (omega arith))

  pub deep_low : (shape.kind ≡ Document → ⊥) → 0 < shape.level → are_low (copy_of trees n) ≡ true
  deep_low d lt =
      let u = tree_below trees (node_at trees n) in
      ap are_low (sym (node_leaves trees n shape is d)) ∙ low_leaves (nodes u) ∙ within_true 100 (nodes u) (height 99 (omega (arith, lt)), tt)

  -- a copy of a root is low where the rows below it are
  pub root_low : (shape.kind ≡ Document → ⊥) → shape.level ≡ 0 → n.pre ≡ 0 → are_low (copy_of trees n) ≡ are_low (leaves_between (tree_at trees n.tree) 1 shape.size)
  root_low d l e =
      let one : n.pre + 1 ≡ 1 = omega (arith, e) in
      let last : n.pre + shape.size ≡ shape.size = omega (arith, e) in
      ap are_low (sym (node_leaves trees n shape is d) ∙ sym (root_leaves trees n shape is))
      ∙ lowered_low shape.level (leaves_between (tree_at trees n.tree) (n.pre + 1) (n.pre + shape.size)) l
      ∙ ap (λ i. are_low (leaves_between (tree_at trees n.tree) i (n.pre + shape.size))) one ∙ ap (λ i. are_low (leaves_between (tree_at trees n.tree) 1 i)) last
    where
      lowered_low : (base : ℕ) (ps : List Leaf) → base ≡ 0 → are_low (map (lowered base) ps) ≡ are_low ps
      lowered_low base [] e = refl
      lowered_low base (p ∷ ps) e = let z : p.0 - base ≡ p.0 = omega (arith, e) in ap (λ i. nat_lt i 100 && are_low (map (lowered base) ps)) z ∙ ap (λ b. nat_lt p.0 100 && b) (lowered_low base ps e)

-- # Trees that were seen

seen_root : (trees : List Tree) (n : CodeNode) → n.pre ≡ 0 → copy_of trees n ≡ copy_of trees (record { tree = n.tree; pre = 0 })
seen_root trees n e = ap (λ (i : ℕ). copy_of trees (record { tree = n.tree; pre = i })) e

pub seen_nothing : (trees : List Tree) (ps : List Leaf) (keys : List ℕ) → keys ≡ [] → AreSeen trees ps keys
seen_nothing trees ps keys e tree h l = absurd (clash (list_any (nat_eq tree) keys) h (ap (list_any (nat_eq tree)) e))

pub seen_later : (trees : List Tree) (ps more qs : List Leaf) (keys : List ℕ) → qs ≡ ps ++ more → AreSeen trees ps keys → AreSeen trees qs keys
seen_later trees ps more qs keys e seen tree h l = seen tree h (and_left (are_low ps) (are_low more) (sym (low-append ps more) ∙ ap are_low (sym e) ∙ l))

pub seen_more : (trees : List Tree) (ps : List Leaf) (keys now : List ℕ) (k : ℕ) → now ≡ keys ++ k ∷ [] → AreSeen trees ps keys
    → (are_low ps ≡ true → are_low (copy_of trees (record { tree = k; pre = 0 })) ≡ true) → AreSeen trees ps now
seen_more trees ps keys now k e seen new tree h l = by_old (tested (list_any (nat_eq tree) keys))
  where
    last : (list_any (nat_eq tree) keys || (nat_eq tree k || false)) ≡ true
    last = sym (ap (list_any (nat_eq tree)) e ∙ list_any-append (nat_eq tree) keys (k ∷ [])) ∙ h

    second : (a b : Bool) → (a || (b || false)) ≡ true → a ≡ false → b ≡ true
    second true b h e = absurd (cc)
    second false true h e = refl
    second false false h e = h

    by_old : Tested (list_any (nat_eq tree) keys) → are_low (copy_of trees (record { tree = tree; pre = 0 })) ≡ true
    by_old (yes o) = seen tree o l
    by_old (no o) =
        let same : tree ≡ k = (let b = second _ _ last o in grind (arith, nat_tests)) in
        ap (λ i. are_low (copy_of trees (record { tree = i; pre = 0 }))) same ∙ new l

-- # What code does step by step

shortened : (trees : List Tree) (n : CodeNode) (before x after : List Leaf) (keys : List ℕ) → after ≡ before ++ x → list_any is_top_attribute x ≡ false
    → list_any is_top_attribute (copy_of trees n) ≡ false → are_low (before ++ x) ≡ are_low (before ++ copy_of trees n) → AreSeen trees after keys → Shortens trees n before after keys
shortened trees n before x after keys e nx nc low seen = record {
  is = λ full others. (let P : List Leaf → Type 0 = λ l. Alike (l ++ others) (before ++ (copy_of trees n ++ others)) in
      subst P (sym e) (alike_short before x (copy_of trees n) others full nx nc low));
  full = λ full. ap is_full e ∙ full_more before x full;
  seen = seen;
}

low_both : (before c : List Leaf) → (are_low before ≡ true → are_low c ≡ true) → are_low (before ++ []) ≡ are_low (before ++ c)
low_both before c h = low-append before [] ∙ both (are_low before) (are_low c) h ∙ sym (low-append before c)
  where
    both : (a b : Bool) → (a ≡ true → b ≡ true) → (a && true) ≡ (a && b)
    both true b h = sym (h refl)
    both false b h = refl

-- a node without which nothing is judged otherwise
pub short_nothing : (trees : List Tree) (n : CodeNode) (shape : NodeShape) (before after : List Leaf) (keys : List ℕ) → IsShapeOf trees n shape → (shape.kind ≡ Attribute → ⊥) → after ≡ before
    → (are_low before ≡ true → are_low (copy_of trees n) ≡ true) → AreSeen trees before keys → Shortens trees n before after keys
short_nothing trees n shape before after keys is other e low seen =
    shortened trees n before [] after keys (e ∙ sym (append-nil before)) refl (copy_plain trees n shape is other) (low_both before (copy_of trees n) low) (subst (λ (l : List Leaf). AreSeen trees l keys) (sym e) seen)

-- a leaf in the place of a high copy
pub short_high : (trees : List Tree) (n : CodeNode) (shape : NodeShape) (before after : List Leaf) (high : Leaf) (keys : List ℕ) → IsShapeOf trees n shape → (shape.kind ≡ Attribute → ⊥)
    → after ≡ before ++ high ∷ [] → high.0 ≡ 100 → are_low (copy_of trees n) ≡ false → Shortens trees n before after keys
short_high trees n shape before after high keys is other e h low =
    let x : List Leaf = high ∷ [] in
    let no : nat_lt high.0 100 ≡ false = grind (arith, nat_tests) in
    let deeper : nat_eq high.0 0 ≡ false = grind (arith, nat_tests) in
    let none : are_low (before ++ x) ≡ false = low-append before x ∙ ap (λ b. are_low before && (b && true)) no ∙ and_false (are_low before) in
    let nx : list_any is_top_attribute x ≡ false = ap (λ b. (b && is_attribute high.1.kind) || false) deeper in
    shortened trees n before x after keys e nx (copy_plain trees n shape is other)
    (none ∙ sym (low-append before (copy_of trees n) ∙ ap (λ b. are_low before && b) low ∙ and_false (are_low before)))
    (λ tree _ l. absurd (clash (are_low after) l (ap are_low e ∙ none)))
  where
    and_false : (a : Bool) → (a && false) ≡ false
    and_false true = refl
    and_false false = refl

-- an attribute is its own copy
pub short_attribute : (trees : List Tree) (n : CodeNode) (before after : List Leaf) (keys : List ℕ) → after ≡ before ++ copy_of trees n → AreSeen trees before keys → Shortens trees n before after keys
short_attribute trees n before after keys e seen = record {
  is = λ full others. alike_same (after ++ others) (before ++ (copy_of trees n ++ others)) (ap (λ (l : List Leaf). l ++ others) e ∙ append_assoc before (copy_of trees n) others);
  full = λ full. ap is_full e ∙ full_more before (copy_of trees n) full;
  seen = seen_later trees before (copy_of trees n) after keys e seen;
}

-- a root of a tree that was seen
pub short_seen : (trees : List Tree) (n : CodeNode) (shape : NodeShape) (before after : List Leaf) (keys now : List ℕ) (new : Bool) → IsShapeOf trees n shape → (shape.kind ≡ Attribute → ⊥) → n.pre ≡ 0 → after ≡ before
    → AreSeen trees before keys → new ≡ not (list_any (nat_eq n.tree) keys) → new ≡ false → now ≡ cond (list_any (nat_eq n.tree) keys) keys (keys ++ n.tree ∷ []) → Shortens trees n before after now
short_seen trees n shape before after keys now new is other e same seen added was keys_are =
    let among : list_any (nat_eq n.tree) keys ≡ true = of_not (list_any (nat_eq n.tree) keys) (sym added ∙ was) in
    let stay : now ≡ keys = keys_are ∙ ap (λ b. cond b keys (keys ++ n.tree ∷ [])) among in
    short_nothing trees n shape before after now is other same
    (λ l. ap are_low (seen_root trees n e) ∙ seen n.tree among l) (subst (λ (ks : List ℕ). AreSeen trees before ks) (sym stay) seen)
  where
    of_not : (b : Bool) → not b ≡ false → b ≡ true
    of_not true h = refl
    of_not false h = absurd (cc)

added_last : (keys now : List ℕ) (k : ℕ) (new : Bool) → new ≡ not (list_any (nat_eq k) keys) → new ≡ true → now ≡ cond (list_any (nat_eq k) keys) keys (keys ++ k ∷ []) → now ≡ keys ++ k ∷ []
added_last keys now k new added was keys_are =
    let none : list_any (nat_eq k) keys ≡ false = of_not (list_any (nat_eq k) keys) (sym added ∙ was) in
    keys_are ∙ ap (λ b. cond b keys (keys ++ k ∷ [])) none
  where
    of_not : (b : Bool) → not b ≡ true → b ≡ false
    of_not false h = refl
    of_not true h = absurd (cc)

-- a root of a low tree that was not seen
pub short_low : (trees : List Tree) (n : CodeNode) (shape : NodeShape) (before after : List Leaf) (keys now : List ℕ) (new : Bool) → IsShapeOf trees n shape → (shape.kind ≡ Attribute → ⊥) → n.pre ≡ 0 → after ≡ before
    → AreSeen trees before keys → new ≡ not (list_any (nat_eq n.tree) keys) → new ≡ true → now ≡ cond (list_any (nat_eq n.tree) keys) keys (keys ++ n.tree ∷ [])
    → are_low (copy_of trees n) ≡ true → Shortens trees n before after now
short_low trees n shape before after keys now new is other e same seen added was keys_are low =
    short_nothing trees n shape before after now is other same (λ _. low)
    (seen_more trees before keys now n.tree (added_last keys now n.tree new added was keys_are) seen (λ _. ap are_low (sym (seen_root trees n e)) ∙ low))

-- # Items

-- the nodes of an item in the place of the item
node_more : (trees : List Tree) (n : CodeNode) (run : Option Text) (before mid : List Leaf) (xs : List Item) → mid ≡ before ++ leaves (open_text run)
    → so_far trees before run (Node (node_at trees n) ∷ xs) ≡ mid ++ (copy_of trees n ++ leaves (flattened_with trees None xs))
node_more trees n run before mid xs m =
    let c = copied (tree_below trees (node_at trees n)) in
    let rest = flattened_with trees None xs in
    ap (λ (l : List Leaf). before ++ l) (leaves-join (open_text run) (join c rest) ∙ ap (λ (l : List Leaf). leaves (open_text run) ++ l) (leaves-join c rest))
    ∙ sym (append_assoc before (leaves (open_text run)) (leaves c ++ leaves rest)) ∙ ap (λ (l : List Leaf). l ++ (leaves c ++ leaves rest)) (sym m)

pub took_node : (trees : List Tree) (n : CodeNode) (run : Option Text) (before mid after : List Leaf) (keys : List ℕ)
    → mid ≡ before ++ leaves (open_text run) → after ≡ mid ++ copy_of trees n → Childless (copied (tree_below trees (node_at trees n))) → AreSeen trees before keys
    → Takes trees (Node (node_at trees n)) before run after None keys
took_node trees n run before mid after keys m e c seen =
    let whole : after ≡ before ++ (leaves (open_text run) ++ copy_of trees n) = e ∙ ap (λ (l : List Leaf). l ++ copy_of trees n) m ∙ append_assoc before (leaves (open_text run)) (copy_of trees n) in
    record {
      is = λ xs.
          (let rest = leaves (flattened_with trees None xs) in
          alike_same (after ++ rest) (so_far trees before run (Node (node_at trees n) ∷ xs))
          (ap (λ (l : List Leaf). l ++ rest) e ∙ append_assoc mid (copy_of trees n) rest ∙ sym (node_more trees n run before mid xs m)));
      childless = λ xs h. Childless-join (open_text run) _ (Childless-open run) (Childless-join (copied (tree_below trees (node_at trees n))) _ c h);
      full = λ h. ap is_full whole ∙ full_more before (leaves (open_text run) ++ copy_of trees n) h;
      seen = seen_later trees before (leaves (open_text run) ++ copy_of trees n) after keys whole seen;
    }

pub took_short : (trees : List Tree) (n : CodeNode) (run : Option Text) (before mid after : List Leaf) (keys : List ℕ)
    → is_full before ≡ true → mid ≡ before ++ leaves (open_text run) → Shortens trees n mid after keys → Childless (copied (tree_below trees (node_at trees n)))
    → Takes trees (Node (node_at trees n)) before run after None keys
took_short trees n run before mid after keys f m short c =
    let full : is_full mid ≡ true = ap is_full m ∙ full_more before (leaves (open_text run)) f in
    record {
      is = λ xs.
          (let rest = leaves (flattened_with trees None xs) in
          alike_then (after ++ rest) (mid ++ (copy_of trees n ++ rest)) (so_far trees before run (Node (node_at trees n) ∷ xs)) (short.is full rest)
          (alike_same _ _ (sym (node_more trees n run before mid xs m))));
      childless = λ xs h. Childless-join (open_text run) _ (Childless-open run) (Childless-join (copied (tree_below trees (node_at trees n))) _ c h);
      full = λ _. short.full full;
      seen = short.seen;
    }

pub took_atom : (trees : List Tree) (a : Atomic) (run next : Option Text) (before after : List Leaf) (keys : List ℕ) → after ≡ before → next ≡ Some (longer run (text_of a)) → AreSeen trees before keys
    → Takes trees (Atom a) before run after next keys
took_atom trees a run next before after keys e n seen = record {
  is = λ xs. alike_same (so_far trees after next xs) (so_far trees before run (Atom a ∷ xs))
      (ap (λ (l : List Leaf). l ++ leaves (flattened_with trees next xs)) e ∙ ap (λ (o : Option Text). before ++ leaves (flattened_with trees o xs)) n);
  childless = λ xs h. subst (λ (o : Option Text). Childless (flattened_with trees o xs)) n h;
  full = λ h. ap is_full e ∙ h;
  seen = subst (λ (l : List Leaf). AreSeen trees l keys) (sym e) seen;
}

pub flattened_all : (trees : List Tree) (run : Option Text) (left xs : List Item) (before after : List Leaf)
    → left ≡ [] → after ≡ before ++ leaves (open_text run) → Alike (so_far trees before run left) (so_far trees [] None xs)
    → (Childless (flattened_with trees run left) → Childless (flattened_with trees None xs)) → Flattens trees xs after
flattened_all trees run left xs before after none e s c = record {
  is = alike_then after (so_far trees before run left) (leaves (flattened trees xs)) (alike_same _ _ (e ∙ ap (λ (ys : List Item). so_far trees before run ys) (sym none)))
      (alike_then _ (so_far trees [] None xs) _ s (alike_same _ _ (ap leaves (sym (flattened-with trees xs)))));
  childless = subst Childless (sym (flattened-with trees xs)) (c (subst (λ (ys : List Item). Childless (flattened_with trees run ys)) (sym none) (Childless-open run)));
}

-- # Content

-- short nodes make content that is judged as all of it
pub content_stands : (trees : List Tree) (xs : List Item) (ps : List Leaf) → Flattens trees xs ps → StandsFor (filter is_kept (merged_leaves ps)) (content trees xs)
content_stands trees xs ps all =
    let f = flattened trees xs in
    let is : filter is_kept (merged_leaves (leaves f)) ≡ leaves (content trees xs) = content_leaves f all.childless in
    let now = filter is_kept (merged_leaves ps) in
    let same : (qs : List Leaf) (parent : Kind) → fault_from parent [] false (filter is_kept (merged_leaves qs)) ≡ kept_fault parent [] false qs = λ qs parent. merged_fault parent false qs [] in
    let low_of : (qs : List Leaf) → are_low (filter is_kept (merged_leaves qs)) ≡ are_low qs = λ qs. kept_low (merged_leaves qs) ∙ merged_low qs in
    let counts : (qs : List Leaf) → firm_count qs ≤ length (filter is_kept (merged_leaves qs)) =
    λ qs. (let n = ap length (merged_firm qs) in let m = firm_kept (merged_leaves qs) in omega (arith, n, m)) in
    record {
      fault = λ parent. same ps parent ∙ all.is.fault parent [] false ∙ sym (same (leaves f) parent) ∙ ap (fault_from parent [] false) is;
      low = low_of ps ∙ all.is.low ∙ sym (low_of (leaves f)) ∙ ap are_low is;
      few = λ h. (let n = counts ps in ap (λ (l : List Leaf). filter is_kept (merged_leaves l)) (all.is.few (omega (arith, h, n))) ∙ is);
      many = λ h. by_count h (tested (nat_lt (firm_count ps) 1000000));
    }
  where
    by_count : 1000000 ≤ length (filter is_kept (merged_leaves ps)) → Tested (nat_lt (firm_count ps) 1000000) → 1000000 ≤ length (leaves (content trees xs))
    by_count h (yes e) =
        let few : firm_count ps < 1000000 = grind (arith, nat_tests) in
        let n = ap length (ap (λ (l : List Leaf). filter is_kept (merged_leaves l)) (all.is.few few) ∙ content_leaves (flattened trees xs) all.childless) in
        omega (arith, h, n)
    by_count h (no e) =
        let firm : 1000000 ≤ firm_count ps = grind (arith, nat_tests) in
        let m = all.is.many firm in
        let k = ap length (merged_firm (leaves (flattened trees xs))) in
        let l = firm_kept (merged_leaves (leaves (flattened trees xs))) in
        let n = ap length (content_leaves (flattened trees xs) all.childless) in
        omega (arith, m, k, l, n)

-- the same trees
pub short_along : (trees same : List Tree) (n : CodeNode) (shape : NodeShape) (before after : List Leaf) (old keys : List ℕ) → same ≡ trees → IsShapeOf trees n shape → AreSeen trees before old
    → (IsShapeOf same n shape → AreSeen same before old → Shortens same n before after keys) → Shortens trees n before after keys
short_along trees same n shape before after old keys e is seen made =
    subst (λ (ts : List Tree). IsShapeOf ts n shape → AreSeen ts before old → Shortens ts n before after keys) e made is seen

pub short_document : (trees : List Tree) (n : CodeNode) (shape : NodeShape) (before : List Leaf) (keys : List ℕ) → IsShapeOf trees n shape → shape.kind ≡ Document → AreSeen trees before keys → Shortens trees n before before keys
short_document trees n shape before keys is e seen = short_nothing trees n shape before before keys is (other shape.kind e) refl (λ _. document_low trees n shape is e) seen
  where
    other : (k : Kind) → k ≡ Document → k ≡ Attribute → ⊥
    other Document e h = absurd (cc)
    other Element e h = absurd (cc)
    other Attribute e h = absurd (cc)
    other TextKind e h = absurd (cc)
    other Comment e h = absurd (cc)
    other ProcessingInstruction e h = absurd (cc)

pub no_document : (k : Kind) → k ≡ Attribute → k ≡ Document → ⊥
no_document Document e h = absurd (cc)
no_document Element e h = absurd (cc)
no_document Attribute e h = absurd (cc)
no_document TextKind e h = absurd (cc)
no_document Comment e h = absurd (cc)
no_document ProcessingInstruction e h = absurd (cc)

-- one item further
pub record Next (trees : List Tree) (items : List CodeItem) (i : ℕ) (before : List Leaf) (run : Option Text) (after : List Leaf) (next : Option Text) (keys : List ℕ) : Type 0 where
  pub is : Alike (so_far trees after next (items_at trees (map item_view (drop (i + 1) items)))) (so_far trees before run (items_at trees (map item_view (drop i items))))
  pub childless : Childless (flattened_with trees next (items_at trees (map item_view (drop (i + 1) items)))) → Childless (flattened_with trees run (items_at trees (map item_view (drop i items))))
  pub full : is_full before ≡ true → is_full after ≡ true
  pub seen : AreSeen trees after keys

pub item_next : (trees same : List Tree) (items : List CodeItem) (i : ℕ) (x : CodeItem) (before : List Leaf) (run : Option Text) (after : List Leaf) (next : Option Text) (keys : List ℕ)
    → same ≡ trees → i < length items → x ≡ get_or items i x → Takes same (item_at same (item_view x)) before run after next keys → Next trees items i before run after next keys
item_next trees same items i x before run after next keys e lt is taken =
    let w : Takes trees (item_at trees (item_view x)) before run after next keys = subst (λ (ts : List Tree). Takes ts (item_at ts (item_view x)) before run after next keys) e taken in
    let d : drop i items ≡ x ∷ drop (i + 1) items = drop_more items i x lt ∙ ap (λ (y : CodeItem). y ∷ drop (i + 1) items) (sym is) in
    let more = items_at trees (map item_view (drop (i + 1) items)) in
    let left : items_at trees (map item_view (drop i items)) ≡ item_at trees (item_view x) ∷ more = ap (λ (ys : List CodeItem). items_at trees (map item_view ys)) d in
    record {
      is = subst (λ (ys : List Item). Alike (so_far trees after next more) (so_far trees before run ys)) (sym left) (w.is more);
      childless = λ h. subst (λ (ys : List Item). Childless (flattened_with trees run ys)) (sym left) (w.childless more h);
      full = w.full;
      seen = w.seen;
    }
