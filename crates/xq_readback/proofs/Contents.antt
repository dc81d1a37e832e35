-- Content that was printed from nodes builds these nodes again.
use Rattle.std.proofs.Common.{◌≡◌, ℕ, zero, suc, ◌<◌, ◌≤◌, Bool, true, false, not, ◌&&◌, List, [], ◌∷◌, ◌++◌, length, map, None, Ok, refl, sym, ap, ◌∙◌, subst, arith}
use Rattle.std.specs.Prelude.{nat_le, bytes_eq}
use Rattle.std.specs.List.{IsDistinct, AllByRecursion, list_any}
use Rattle.std.proofs.lemmas.Bool.{and_parts, false≢true}
use Rattle.std.proofs.lemmas.Bool.Decides.{nat_tests, same_from_decides}
use Rattle.std.proofs.lemmas.List.{get_or_append_left}
use Rattle.std.proofs.lemmas.Slice.Eq.{bytes_eq-Decides}
use Rattle.xq_atoms.specs.Text.{Text}
use Rattle.xq_trees.specs.declared.Kind.{Kind}
use Rattle.xq_trees.specs.declared.Kind.TheVariants as kind
use Rattle.xq_trees.specs.Forest.{Forest, end, node, count, tops, join, IsWithinHeight}
use Rattle.xq_trees.specs.Tree.{Label, Tree, nodes, is_attribute, may_stand, may_follow, may_precede, has_text, is_content, attribute_names, most_levels, most_nodes}
use Rattle.xq_sources.specs.Sources.{tree_at, no_tree}
use Rattle.xq_meaning.specs.Items.{Item, Node, root_of}
use Rattle.xq_meaning.specs.Content.{is_text, label, copied, flattened, in_front, merged, in_front_unless, is_empty_text, without_empty_texts, content, attribute_fault, first_fault, is_within_height, within_limits, unless_fault, built}

-- the tree with this root and these nodes below it
abbrev pub tree : Label → Forest Label → Tree
tree a below = record { root = a; below = below }

-- the roots of the trees with these numbers
abbrev pub roots : List ℕ → List Item
roots ns = map (λ n. Node (root_of n)) ns

-- the trees with these numbers are the nodes at the top, each with all below it
abbrev pub AreMade : List Tree → List ℕ → Forest Label → Type 0
AreMade trees [] end = Unit {0}
AreMade trees [] (node a below beside) = ⊥
AreMade trees (n ∷ ns) end = ⊥
AreMade trees (n ∷ ns) (node a below beside) =
    (n < length trees) × (tree_at trees n ≡ tree a below) × AreMade trees ns beside

-- a tree keeps its number when others are added
pub tree_more : (trees more : List Tree) (n : ℕ) → n < length trees → tree_at (trees ++ more) n ≡ tree_at trees n
tree_more trees more n h = get_or_append_left trees more no_tree n h

-- # What content is like

abbrev pub is_document : Kind → Bool
is_document kind.Document = true
is_document other = false

-- the node at the front of content, and what is beside it
pub record Parts (parent a : Label) (beside : List Label) : Type 0 where
  pub stands : may_stand parent.kind a.kind ≡ true
  pub text : has_text a.kind a.value ≡ true
  pub precedes : may_precede a.kind beside ≡ true
  pub others : is_content parent beside ≡ true

-- what content says of its first node and of the others
pub parts_of : (parent a : Label) (beside : List Label) → is_content parent (a ∷ beside) ≡ true → Parts parent a beside
parts_of parent a beside h =
    let one = and_parts (may_stand parent.kind a.kind) _ h in
    let two = and_parts (has_text a.kind a.value) _ one.1 in
    let three = and_parts (may_precede a.kind beside) _ two.1 in
    record { stands = one.0; text = two.0; precedes = three.0; others = three.1 }

pub no_document : (k l : Kind) → may_stand k l ≡ true → is_document l ≡ false
no_document kind.Document kind.Document h = absurd (false≢true h)
no_document kind.Element kind.Document h = absurd (false≢true h)
no_document kind.Attribute kind.Document h = absurd (false≢true h)
no_document kind.Text kind.Document h = absurd (false≢true h)
no_document kind.Comment kind.Document h = absurd (false≢true h)
no_document kind.ProcessingInstruction kind.Document h = absurd (false≢true h)
no_document k kind.Element h = refl
no_document k kind.Attribute h = refl
no_document k kind.Text h = refl
no_document k kind.Comment h = refl
no_document k kind.ProcessingInstruction h = refl

-- # Flattened: each item is one node with all below it

-- a node that is no document is copied as it is
copied_plain : (k : Kind) (name value : Text) (below : Forest Label) → is_document k ≡ false → copied (tree (label k name value) below) ≡ node (label k name value) below end
copied_plain kind.Document name value below h = absurd (false≢true (sym h))
copied_plain kind.Element name value below h = refl
copied_plain kind.Attribute name value below h = refl
copied_plain kind.Text name value below h = refl
copied_plain kind.Comment name value below h = refl
copied_plain kind.ProcessingInstruction name value below h = refl

-- the roots of trees, flattened, are their nodes
flattened-made : (trees : List Tree) (ns : List ℕ) (parent : Label) (f : Forest Label) → AreMade trees ns f → is_content parent (tops f) ≡ true → flattened trees (roots ns) ≡ f
flattened-made trees [] parent end m h = refl
flattened-made trees [] parent (node a below beside) m h = absurd m
flattened-made trees (n ∷ ns) parent end m h = absurd m
flattened-made trees (n ∷ ns) parent (node a below beside) m h =
    let p = parts_of parent a (tops beside) h in
    ap (λ (t : Tree). join (copied t) (flattened trees (roots ns))) m.1
    ∙ ap (λ (g : Forest Label). join g (flattened trees (roots ns))) (copied_plain a.kind a.name a.value below (no_document parent.kind a.kind p.stands))
    ∙ ap (node a below) (flattened-made trees ns parent beside m.2 p.others)

-- # Merged: no two texts stand side by side

not_both_texts : (k l : Kind) → may_follow k l ≡ true → (is_text k && is_text l) ≡ false
not_both_texts kind.Text kind.Text h = absurd (false≢true h)
not_both_texts kind.Text kind.Document h = refl
not_both_texts kind.Text kind.Element h = refl
not_both_texts kind.Text kind.Attribute h = refl
not_both_texts kind.Text kind.Comment h = refl
not_both_texts kind.Text kind.ProcessingInstruction h = refl
not_both_texts kind.Document l h = refl
not_both_texts kind.Element l h = refl
not_both_texts kind.Attribute l h = refl
not_both_texts kind.Comment l h = refl
not_both_texts kind.ProcessingInstruction l h = refl

-- a node that may stand before others is put before them
in_front-apart : (a : Label) (below beside : Forest Label) → may_precede a.kind (tops beside) ≡ true → in_front a below beside ≡ node a below beside
in_front-apart a below end h = refl
in_front-apart a below (node b below_b beside) h = rw (not_both_texts a.kind b.kind h) refl

-- content has no texts to merge
merged-content : (parent : Label) (f : Forest Label) → is_content parent (tops f) ≡ true → merged f ≡ f
merged-content parent end h = refl
merged-content parent (node a below beside) h =
    let p = parts_of parent a (tops beside) h in
    ap (in_front a below) (merged-content parent beside p.others) ∙ in_front-apart a below beside p.precedes

-- # No text is empty

no_empty_text : (k : Kind) (name value : Text) → has_text k value ≡ true → is_empty_text (label k name value) ≡ false
no_empty_text kind.Text name [] h = absurd (false≢true h)
no_empty_text kind.Text name (c ∷ cs) h = refl
no_empty_text kind.Document name value h = refl
no_empty_text kind.Element name value h = refl
no_empty_text kind.Attribute name value h = refl
no_empty_text kind.Comment name value h = refl
no_empty_text kind.ProcessingInstruction name value h = refl

-- content has no empty texts to drop
all_kept : (parent : Label) (f : Forest Label) → is_content parent (tops f) ≡ true → without_empty_texts f ≡ f
all_kept parent end h = refl
all_kept parent (node a below beside) h =
    let p = parts_of parent a (tops beside) h in
    ap (λ b. in_front_unless b a below (without_empty_texts beside)) (no_empty_text a.kind a.name a.value p.text)
    ∙ ap (node a below) (all_kept parent beside p.others)

-- the content of roots of trees is their nodes
pub content-made : (trees : List Tree) (ns : List ℕ) (parent : Label) (f : Forest Label) → AreMade trees ns f → is_content parent (tops f) ≡ true → content trees (roots ns) ≡ f
content-made trees ns parent f m h =
    ap (λ (g : Forest Label). without_empty_texts (merged g)) (flattened-made trees ns parent f m h)
    ∙ ap without_empty_texts (merged-content parent f h) ∙ all_kept parent f h

-- # The attributes come first, and their names differ

-- equality of bytes is symmetric
pub swapped : (a b : Text) → bytes_eq a b ≡ bytes_eq b a
swapped a b = same_from_decides (bytes_eq a b) (bytes_eq b a) (bytes_eq-Decides a b) ((λ e. sym ((bytes_eq-Decides b a).0 e)), (λ e. (bytes_eq-Decides b a).1 (sym e)))

-- none of these names is one of those
abbrev AreOthers : List Text → List Text → Type 0
AreOthers earlier [] = Unit {0}
AreOthers earlier (n ∷ ns) = (list_any (bytes_eq n) earlier ≡ false) × AreOthers earlier ns

others_more : (earlier : List Text) (name : Text) (ns : List Text) → AreOthers earlier ns → AllByRecursion (λ n. bytes_eq name n ≡ false) ns → AreOthers (name ∷ earlier) ns
others_more earlier name [] h k = tt
others_more earlier name (n ∷ ns) h k = (rw (swapped n name, k.0, h.0) refl, others_more earlier name ns h.1 k.1)

-- after a node that is no attribute comes none
abbrev is_late : Kind → Bool
is_late k = not (is_attribute k)

stays_late : (k l : Kind) → is_attribute k ≡ false → may_follow k l ≡ true → is_attribute l ≡ false
stays_late kind.Attribute l e h = absurd (false≢true (sym e))
stays_late kind.Text kind.Attribute e h = absurd (false≢true h)
stays_late kind.Document kind.Attribute e h = absurd (false≢true h)
stays_late kind.Element kind.Attribute e h = absurd (false≢true h)
stays_late kind.Comment kind.Attribute e h = absurd (false≢true h)
stays_late kind.ProcessingInstruction kind.Attribute e h = absurd (false≢true h)
stays_late k kind.Document e h = refl
stays_late k kind.Element e h = refl
stays_late k kind.Text e h = refl
stays_late k kind.Comment e h = refl
stays_late k kind.ProcessingInstruction e h = refl

-- after a node that is no attribute no attribute is judged
late_none : (parent : Label) (k : Kind) (earlier : List Text) (labels : List Label) → is_attribute k ≡ false → may_precede k labels ≡ true → is_content parent labels ≡ true → first_fault parent.kind earlier true labels ≡ None
late_none parent k earlier [] e before h = refl
late_none parent k earlier (a ∷ labels) e before h =
    let p = parts_of parent a labels h in
    let none = stays_late k a.kind e before in
    rw none (late_none parent a.kind earlier labels none p.precedes p.others)

-- an attribute may stand below elements alone
only_elements : (k : Kind) → may_stand k kind.Attribute ≡ true → (earlier : List Text) (name : Text) → list_any (bytes_eq name) earlier ≡ false → attribute_fault k earlier false name ≡ None
only_elements kind.Element h earlier name none = rw none refl
only_elements kind.Document h earlier name none = absurd (false≢true h)
only_elements kind.Attribute h earlier name none = absurd (false≢true h)
only_elements kind.Text h earlier name none = absurd (false≢true h)
only_elements kind.Comment h earlier name none = absurd (false≢true h)
only_elements kind.ProcessingInstruction h earlier name none = absurd (false≢true h)

pub attribute_is : (k : Kind) → is_attribute k ≡ true → k ≡ kind.Attribute
attribute_is kind.Attribute h = refl
attribute_is kind.Document h = absurd (false≢true h)
attribute_is kind.Element h = absurd (false≢true h)
attribute_is kind.Text h = absurd (false≢true h)
attribute_is kind.Comment h = absurd (false≢true h)
attribute_is kind.ProcessingInstruction h = absurd (false≢true h)

-- the attributes of content have no fault
no_fault : (parent : Label) (earlier : List Text) (labels : List Label) → is_content parent labels ≡ true → AreOthers earlier (attribute_names labels) → IsDistinct bytes_eq (attribute_names labels) → first_fault parent.kind earlier false labels ≡ None
unfolding IsDistinct
no_fault parent earlier [] h others distinct = refl
no_fault parent earlier (a ∷ labels) h others distinct = by_test (is_attribute a.kind) refl (λ more o d. no_fault parent more labels (parts_of parent a labels h).others o d)
  where
    by_test : (b : Bool) → is_attribute a.kind ≡ b
        → ((more : List Text) → AreOthers more (attribute_names labels) → IsDistinct bytes_eq (attribute_names labels) → first_fault parent.kind more false labels ≡ None)
        → first_fault parent.kind earlier false (a ∷ labels) ≡ None
    by_test true e rest =
        let p = parts_of parent a labels h in
        let names_are : attribute_names (a ∷ labels) ≡ a.name ∷ attribute_names labels = rw e refl in
        let o = subst (AreOthers earlier) names_are others in
        let d = subst (IsDistinct bytes_eq) names_are distinct in
        let may : may_stand parent.kind kind.Attribute ≡ true = ap (may_stand parent.kind) (sym (attribute_is a.kind e)) ∙ p.stands in
        rw (e, only_elements parent.kind may earlier a.name o.0) (rest (a.name ∷ earlier) (others_more earlier a.name (attribute_names labels) o.1 d.0) d.1)
    by_test false e rest =
        let p = parts_of parent a labels h in
        rw e (late_none parent a.kind earlier labels e p.precedes p.others)

none_earlier : (ns : List Text) → AreOthers [] ns
none_earlier [] = tt
none_earlier (n ∷ ns) = (refl, none_earlier ns)

-- # The limits

pub within : (n : ℕ) (f : Forest Label) → IsWithinHeight n f → is_within_height n f ≡ true
within n end h = refl
within zero (node a below beside) h = absurd h
within (suc n) (node a below beside) h = rw (within n below h.0, within (suc n) beside h.1) refl

-- a tree within the limits is let through
pub fits : (t : Tree) → IsWithinHeight most_levels (nodes t) → count (nodes t) ≤ most_nodes → within_limits t ≡ Ok t
fits t h room =
    let few : nat_le (count (nodes t)) most_nodes ≡ true = grind (arith, nat_tests) in
    rw (within most_levels (nodes t) h, few) refl

-- # Elements and documents

-- what content is built of again
pub record IsBuilt (a : Label) (below : Forest Label) : Type 0 where
  pub content : is_content a (tops below) ≡ true
  pub distinct : IsDistinct bytes_eq (attribute_names (tops below))
  pub height : IsWithinHeight most_levels (nodes (tree a below))
  pub room : count (nodes (tree a below)) ≤ most_nodes

-- an element or a document is built of its content again
pub built-again : (trees : List Tree) (ns : List ℕ) (a : Label) (below : Forest Label) → AreMade trees ns below → IsBuilt a below → built a (content trees (roots ns)) ≡ Ok (tree a below)
built-again trees ns a below m is =
    ap (built a) (content-made trees ns a below m is.content)
    ∙ ap (λ o. unless_fault o (tree a below)) (no_fault a [] (tops below) is.content (none_earlier (attribute_names (tops below))) is.distinct)
    ∙ fits (tree a below) is.height is.room
