-- Roots of trees as content: the tree that is grafted is the one that is built.
use Rattle.std.proofs.Common.{◌≡◌, ◌≤◌, Bool, true, false, ◌&&◌, List, [], ◌∷◌, None, Ok, refl, sym, ap, ◌∙◌, subst, arith}
use Rattle.std.specs.Prelude.{nat_le, bytes_eq}
use Rattle.std.specs.List.{IsDistinct, AllByRecursion, list_any}
use Rattle.std.proofs.lemmas.Bool.{and_parts, false≢true}
use Rattle.std.proofs.lemmas.Bool.Decides.{nat_tests, same_from_decides}
use Rattle.std.proofs.lemmas.Slice.Eq.{bytes_eq-Decides}
use Rattle.xq_atoms.specs.Text.{Text}
use Rattle.xq_trees.specs.declared.items.Node.{Node as Spot}
use Rattle.xq_trees.specs.declared.Kind.{Kind}
use Rattle.xq_trees.specs.declared.Kind.TheVariants as kind
use Rattle.xq_trees.specs.Forest.{Forest, end, node, count, tops, join, IsWithinHeight}
use Rattle.xq_trees.specs.Items.{ItemView, Place, Value}
use Rattle.xq_trees.specs.Order.{path_at}
use Rattle.xq_trees.specs.Node.{subtree}
use Rattle.xq_trees.specs.Tree.{Label, Tree, nodes, IsTree, is_attribute, may_stand, may_follow, may_precede, has_text, is_content, attribute_names, most_levels, most_nodes}
use Rattle.xq_sources.specs.Sources.{tree_at}
use Rattle.xq_sources.specs.Grafts.{rooted, IsRoot, side_by_side, Grafts}
use Rattle.xq_meaning.specs.Items.{tree_below}
use Rattle.xq_meaning.specs.Readings.{node_at, items_at}
use Rattle.xq_meaning.specs.Content.{is_text, label, copied, copied_as, flattened, in_front, merged, in_front_unless, is_empty_text, without_empty_texts, content, attribute_fault, first_fault, within_limits, unless_fault, built, element_tree, document_tree}
use Rattle.xq_build.specs.Plants.{Plants}
use Rattle.xq_build.proofs.Surpluses.{within_true}

-- # What content is like

-- the node at the front of content, and what is beside it
record Parts (parent a : Label) (beside : List Label) : Type 0 where
  stands : may_stand parent.kind a.kind ≡ true
  text : has_text a.kind a.value ≡ true
  precedes : may_precede a.kind beside ≡ true
  others : is_content parent beside ≡ true

parts_of : (parent a : Label) (beside : List Label) → is_content parent (a ∷ beside) ≡ true → Parts parent a beside
parts_of parent a beside h =
    let one = and_parts (may_stand parent.kind a.kind) _ h in
    let two = and_parts (has_text a.kind a.value) _ one.1 in
    let three = and_parts (may_precede a.kind beside) _ two.1 in
    record { stands = one.0; text = two.0; precedes = three.0; others = three.1 }

-- # Flattened: each item is one node with all below it

root_below : (trees : List Tree) (n : Spot) → n.pre ≡ 0 → tree_below trees (node_at trees n) ≡ tree_at trees n.tree
root_below trees n e = ap (λ p. subtree (tree_at trees n.tree) (path_at (nodes (tree_at trees n.tree)) p)) e

-- what may stand below another node is copied as it is
copied_whole : (parent k : Kind) (t : Tree) → may_stand parent k ≡ true → copied_as k t ≡ nodes t
copied_whole kind.Document kind.Document t h = absurd (false≢true h)
copied_whole kind.Element kind.Document t h = absurd (false≢true h)
copied_whole kind.Attribute kind.Document t h = absurd (false≢true h)
copied_whole kind.Text kind.Document t h = absurd (false≢true h)
copied_whole kind.Comment kind.Document t h = absurd (false≢true h)
copied_whole kind.ProcessingInstruction kind.Document t h = absurd (false≢true h)
copied_whole parent kind.Element t h = refl
copied_whole parent kind.Attribute t h = refl
copied_whole parent kind.Text t h = refl
copied_whole parent kind.Comment t h = refl
copied_whole parent kind.ProcessingInstruction t h = refl

flattened-roots : (trees : List Tree) (xs : List ItemView) (parent : Label) → AllByRecursion (IsRoot trees) xs → is_content parent (tops (side_by_side trees xs)) ≡ true
    → flattened trees (items_at trees xs) ≡ side_by_side trees xs
flattened-roots trees [] parent r h = refl
flattened-roots trees (Place n ∷ xs) parent r h =
    let t = tree_at trees n.tree in
    let p = parts_of parent t.root (tops (side_by_side trees xs)) h in
    ap (λ (u : Tree). join (copied u) (flattened trees (items_at trees xs))) (root_below trees n r.0.1)
    ∙ ap (λ (g : Forest Label). join g (flattened trees (items_at trees xs))) (copied_whole parent.kind t.root.kind t p.stands)
    ∙ ap (node t.root t.below) (flattened-roots trees xs parent r.1 p.others)
flattened-roots trees (Value a ∷ xs) parent r h = absurd r.0

-- # Merged: no two texts stand side by side

not_both_texts : (k l : Kind) → may_follow k l ≡ true → (is_text k && is_text l) ≡ false
not_both_texts kind.Text kind.Text h = absurd (false≢true h)
not_both_texts kind.Text kind.Document h = refl
not_both_texts kind.Text kind.Element h = refl
not_both_texts kind.Text kind.Attribute h = refl
not_both_texts kind.Text kind.Comment h = refl
not_both_texts kind.Text kind.ProcessingInstruction h = refl
not_both_texts kind.Document l h = refl
not_both_texts kind.Element l h = refl
not_both_texts kind.Attribute l h = refl
not_both_texts kind.Comment l h = refl
not_both_texts kind.ProcessingInstruction l h = refl

in_front-apart : (a : Label) (below beside : Forest Label) → may_precede a.kind (tops beside) ≡ true → in_front a below beside ≡ node a below beside
in_front-apart a below end h = refl
in_front-apart a below (node b below_b beside) h = rw (not_both_texts a.kind b.kind h) refl

merged_same : (parent : Label) (f : Forest Label) → is_content parent (tops f) ≡ true → merged f ≡ f
merged_same parent end h = refl
merged_same parent (node a below beside) h =
    let p = parts_of parent a (tops beside) h in
    ap (in_front a below) (merged_same parent beside p.others) ∙ in_front-apart a below beside p.precedes

-- # No text is empty

no_empty_text : (k : Kind) (name value : Text) → has_text k value ≡ true → is_empty_text (label k name value) ≡ false
no_empty_text kind.Text name [] h = absurd (false≢true h)
no_empty_text kind.Text name (c ∷ cs) h = refl
no_empty_text kind.Document name value h = refl
no_empty_text kind.Element name value h = refl
no_empty_text kind.Attribute name value h = refl
no_empty_text kind.Comment name value h = refl
no_empty_text kind.ProcessingInstruction name value h = refl

all_kept : (parent : Label) (f : Forest Label) → is_content parent (tops f) ≡ true → without_empty_texts f ≡ f
all_kept parent end h = refl
all_kept parent (node a below beside) h =
    let p = parts_of parent a (tops beside) h in
    ap (λ b. in_front_unless b a below (without_empty_texts beside)) (no_empty_text a.kind a.name a.value p.text)
    ∙ ap (node a below) (all_kept parent beside p.others)

-- the content of roots is their nodes side by side, where these may be content
pub content_of_roots : (trees : List Tree) (xs : List ItemView) (parent : Label) → AllByRecursion (IsRoot trees) xs → is_content parent (tops (side_by_side trees xs)) ≡ true
    → content trees (items_at trees xs) ≡ side_by_side trees xs
content_of_roots trees xs parent r h =
    ap (λ (g : Forest Label). without_empty_texts (merged g)) (flattened-roots trees xs parent r h)
    ∙ ap without_empty_texts (merged_same parent (side_by_side trees xs) h) ∙ all_kept parent (side_by_side trees xs) h

-- # The attributes come first, and their names differ

swapped : (a b : Text) → bytes_eq a b ≡ bytes_eq b a
swapped a b = same_from_decides (bytes_eq a b) (bytes_eq b a) (bytes_eq-Decides a b) ((λ e. sym ((bytes_eq-Decides b a).0 e)), (λ e. (bytes_eq-Decides b a).1 (sym e)))

-- none of these names is one of those
abbrev AreOthers : List Text → List Text → Type 0
AreOthers earlier [] = Unit {0}
AreOthers earlier (n ∷ ns) = (list_any (bytes_eq n) earlier ≡ false) × AreOthers earlier ns

others_more : (earlier : List Text) (name : Text) (ns : List Text) → AreOthers earlier ns → AllByRecursion (λ n. bytes_eq name n ≡ false) ns → AreOthers (name ∷ earlier) ns
others_more earlier name [] h k = tt
others_more earlier name (n ∷ ns) h k = (rw (swapped n name, k.0, h.0) refl, others_more earlier name ns h.1 k.1)

none_earlier : (ns : List Text) → AreOthers [] ns
none_earlier [] = tt
none_earlier (n ∷ ns) = (refl, none_earlier ns)

stays_late : (k l : Kind) → is_attribute k ≡ false → may_follow k l ≡ true → is_attribute l ≡ false
stays_late kind.Attribute l e h = absurd (false≢true (sym e))
stays_late kind.Text kind.Attribute e h = absurd (false≢true h)
stays_late kind.Document kind.Attribute e h = absurd (false≢true h)
stays_late kind.Element kind.Attribute e h = absurd (false≢true h)
stays_late kind.Comment kind.Attribute e h = absurd (false≢true h)
stays_late kind.ProcessingInstruction kind.Attribute e h = absurd (false≢true h)
stays_late k kind.Document e h = refl
stays_late k kind.Element e h = refl
stays_late k kind.Text e h = refl
stays_late k kind.Comment e h = refl
stays_late k kind.ProcessingInstruction e h = refl

late_none : (parent : Label) (k : Kind) (earlier : List Text) (labels : List Label) → is_attribute k ≡ false → may_precede k labels ≡ true → is_content parent labels ≡ true
    → first_fault parent.kind earlier true labels ≡ None
late_none parent k earlier [] e before h = refl
late_none parent k earlier (a ∷ labels) e before h =
    let p = parts_of parent a labels h in
    let none = stays_late k a.kind e before in
    rw none (late_none parent a.kind earlier labels none p.precedes p.others)

-- an attribute may stand below elements alone
only_elements : (k a : Kind) → is_attribute a ≡ true → may_stand k a ≡ true → (earlier : List Text) (name : Text) → list_any (bytes_eq name) earlier ≡ false
    → attribute_fault k earlier false name ≡ None
only_elements kind.Element kind.Attribute i h earlier name none = rw none refl
only_elements kind.Document kind.Attribute i h earlier name none = absurd (false≢true h)
only_elements kind.Attribute kind.Attribute i h earlier name none = absurd (false≢true h)
only_elements kind.Text kind.Attribute i h earlier name none = absurd (false≢true h)
only_elements kind.Comment kind.Attribute i h earlier name none = absurd (false≢true h)
only_elements kind.ProcessingInstruction kind.Attribute i h earlier name none = absurd (false≢true h)
only_elements k kind.Document i h earlier name none = absurd (false≢true i)
only_elements k kind.Element i h earlier name none = absurd (false≢true i)
only_elements k kind.Text i h earlier name none = absurd (false≢true i)
only_elements k kind.Comment i h earlier name none = absurd (false≢true i)
only_elements k kind.ProcessingInstruction i h earlier name none = absurd (false≢true i)

-- the attributes of content have no fault
no_fault : (parent : Label) (earlier : List Text) (labels : List Label) → is_content parent labels ≡ true → AreOthers earlier (attribute_names labels) → IsDistinct bytes_eq (attribute_names labels)
    → first_fault parent.kind earlier false labels ≡ None
unfolding IsDistinct
no_fault parent earlier [] h others distinct = refl
no_fault parent earlier (a ∷ labels) h others distinct = by_test (is_attribute a.kind) refl (λ more o d. no_fault parent more labels (parts_of parent a labels h).others o d)
  where
    by_test : (b : Bool) → is_attribute a.kind ≡ b
        → ((more : List Text) → AreOthers more (attribute_names labels) → IsDistinct bytes_eq (attribute_names labels) → first_fault parent.kind more false labels ≡ None)
        → first_fault parent.kind earlier false (a ∷ labels) ≡ None
    by_test true e rest =
        let p = parts_of parent a labels h in
        let names_are : attribute_names (a ∷ labels) ≡ a.name ∷ attribute_names labels = rw e refl in
        let o = subst (AreOthers earlier) names_are others in
        let d = subst (IsDistinct bytes_eq) names_are distinct in
        rw (e, only_elements parent.kind a.kind e p.stands earlier a.name o.0) (rest (a.name ∷ earlier) (others_more earlier a.name (attribute_names labels) o.1 d.0) d.1)
    by_test false e rest =
        let p = parts_of parent a labels h in
        rw e (late_none parent a.kind earlier labels e p.precedes p.others)

-- # The limits

fits : (t : Tree) → IsWithinHeight most_levels (nodes t) → count (nodes t) ≤ most_nodes → within_limits t ≡ Ok t
fits t h room =
    let few : nat_le (count (nodes t)) most_nodes ≡ true = grind (arith, nat_tests) in
    rw (within_true most_levels (nodes t) h, few) refl

-- # Elements and documents

-- a tree is built of what is below its root
built_of : (k : Kind) (name : Text) (below : Forest Label) → IsTree (rooted k name below) → built (label k name []) below ≡ Ok (rooted k name below)
built_of k name below is =
    ap (λ o. unless_fault o (rooted k name below)) (no_fault (label k name []) [] (tops below) is.content.0 (none_earlier (attribute_names (tops below))) is.names.0)
    ∙ fits (rooted k name below) is.height is.room

-- what is grafted is what is built
pub built_of_roots : (k : Kind) (name : Text) (xs : List ItemView) (old new : List Tree) → Grafts k name xs old new
    → built (label k name []) (content old (items_at old xs)) ≡ Ok (rooted k name (side_by_side old xs))
built_of_roots k name xs old new g =
    ap (built (label k name [])) (content_of_roots old xs (label k name []) g.roots g.is_tree.content.0) ∙ built_of k name (side_by_side old xs) g.is_tree

-- # What is planted

pub grafted_element : (name : Text) (xs : List ItemView) (old new : List Tree) → Grafts kind.Element name xs old new → Plants (element_tree name old (items_at old xs)) old new
grafted_element name xs old new g =
    record { tree = rooted kind.Element name (side_by_side old xs); is = built_of_roots kind.Element name xs old new g; grown = g.grown }

pub grafted_document : (xs : List ItemView) (old new : List Tree) → Grafts kind.Document [] xs old new → Plants (document_tree old (items_at old xs)) old new
grafted_document xs old new g =
    record { tree = rooted kind.Document [] (side_by_side old xs); is = built_of_roots kind.Document [] xs old new g; grown = g.grown }
