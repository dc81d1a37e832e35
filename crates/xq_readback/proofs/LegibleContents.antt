-- What constructors build is a tree.
use Rattle.std.proofs.Common.{◌≡◌, ℕ, zero, suc, ◌≤◌, Bool, true, false, not, ◌&&◌, ◌||◌, List, [], ◌∷◌, ◌++◌, map, Option, Some, None, Ok, Err, refl, sym, ap, ◌∙◌, subst, arith}
use Rattle.std.specs.Prelude.{IfOk, IsTrue, bytes_eq, nat_le, codes, if◌then◌else◌}
use Rattle.std.specs.List.{AllByRecursion, IsDistinct, list_any}
use Rattle.std.specs.Str.{chars, IsUtf8}
use Rattle.std.proofs.lemmas.Bool.{and_parts, false≢true}
use Rattle.std.proofs.lemmas.Bool.Decides.{nat_tests}
use Rattle.xq_atoms.specs.declared.refusals.Code.{Code}
use Rattle.xq_atoms.specs.declared.refusals.Code.TheVariants.{XQDY0025, XQDY0026, XQDY0041, XQDY0044, XQDY0064, XQDY0072, XQDY0074, ProfPrefix, ProfLevel, ProfNodes}
use Rattle.xq_atoms.specs.Judged.{Judged, ◌>>=◌, only_if}
use Rattle.xq_atoms.specs.Text.{Text}
use Rattle.xq_atoms.specs.Characters.{is_space, is_name}
use Rattle.xq_atoms.specs.Spaces.{after_leading, trimmed}
use Rattle.xq_atoms.specs.Atom.{Atomic, Integer, Decimal, String, Boolean, Untyped}
use Rattle.xq_atoms.specs.Cast.{text_of}
use Rattle.xq_expressions.specs.declared.operators.NamedNode.{NamedNode}
use Rattle.xq_expressions.specs.declared.operators.NamedNode.TheVariants as named
use Rattle.xq_expressions.specs.declared.operators.UnnamedNode.{UnnamedNode}
use Rattle.xq_expressions.specs.declared.operators.UnnamedNode.TheVariants as unnamed
use Rattle.xq_trees.specs.declared.Kind.{Kind}
use Rattle.xq_trees.specs.declared.Kind.TheVariants as kind
use Rattle.xq_trees.specs.Names.{is_empty, are_characters, is_attribute_name, is_target, is_xml, holds, begins_with_space}
use Rattle.xq_trees.specs.Forest.{Forest, end, node, count, tops, join, EachNode, IsWithinHeight}
use Rattle.xq_trees.specs.Tree.{Label, Tree, nodes, is_attribute, may_stand, may_follow, may_precede, has_text, is_content, attribute_names, is_legal, IsText, IsTree, most_levels, most_nodes}
use Rattle.xq_meaning.specs.Items.{Item, Node, Atom, tree_below, atomized}
use Rattle.xq_meaning.specs.Printable.{IsCharacters}
use Rattle.xq_meaning.specs.Content.{is_prefixed, element_name, judged_name, name_of, label, is_text, text_label, spaced, run, copied_as, copied, flattened_after, flattened, in_front, merged, is_empty_text, in_front_unless, without_empty_texts, content, attribute_fault, or_else, first_fault, is_within_height, within_limits, unless_fault, built, document_tree, lone, may_be_comment, comment_tree, instruction_tree, named_tree, text_of_content, some_tree, unnamed_tree}
use Rattle.xq_readback.specs.Legible.{IsLegible, AreLegible, AreTrees}
use Rattle.xq_readback.proofs.Holding.{next_holds, either_holds}
use Rattle.xq_readback.proofs.Characters.{none, both, space, cast_texts, joined_text, leading_text, trimmed_text}
use Rattle.xq_readback.proofs.Trees.{no_names, below_is, atoms_legible}
use Rattle.xq_trees.proofs.Lists.{all_append}
use Rattle.xq_readback.proofs.Contents.{is_document, parts_of, no_document, swapped, attribute_is}

-- # Nodes side by side, before they are judged

-- each node is as one of a tree; none at the top is a document
pub record AreLoose (f : Forest Label) : Type 0 where
  pub texts : EachNode (λ a below. IsText a) f
  pub legal : EachNode (λ a below. IsTrue (is_legal a.kind a.name a.value)) f
  pub content : EachNode (λ a below. IsTrue (is_content a below)) f
  pub names : EachNode (λ a below. IsDistinct bytes_eq (attribute_names below)) f
  pub no_documents : AllByRecursion (λ (a : Label). is_document a.kind ≡ false) (tops f)

none_loose : AreLoose end
none_loose = record { texts = tt; legal = tt; content = tt; names = tt; no_documents = tt }

-- a node with what is below it, before others
node_loose : (a : Label) (below beside : Forest Label) → AreLoose (node a below end) → AreLoose beside → AreLoose (node a below beside)
node_loose a below beside h k = record {
  texts = (h.texts.0, (h.texts.1.0, k.texts));
  legal = (h.legal.0, (h.legal.1.0, k.legal));
  content = (h.content.0, (h.content.1.0, k.content));
  names = (h.names.0, (h.names.1.0, k.names));
  no_documents = (h.no_documents.0, k.no_documents);
}

first_loose : (a : Label) (below beside : Forest Label) → AreLoose (node a below beside) → AreLoose (node a below end)
first_loose a below beside h = record {
  texts = (h.texts.0, (h.texts.1.0, tt));
  legal = (h.legal.0, (h.legal.1.0, tt));
  content = (h.content.0, (h.content.1.0, tt));
  names = (h.names.0, (h.names.1.0, tt));
  no_documents = (h.no_documents.0, tt);
}

others_loose : (a : Label) (below beside : Forest Label) → AreLoose (node a below beside) → AreLoose beside
others_loose a below beside h = record { texts = h.texts.1.1; legal = h.legal.1.1; content = h.content.1.1; names = h.names.1.1; no_documents = h.no_documents.1 }

join_loose : (f g : Forest Label) → AreLoose f → AreLoose g → AreLoose (join f g)
join_loose end g h k = k
join_loose (node a below beside) g h k =
    node_loose a below (join beside g) (first_loose a below beside h) (join_loose beside g (others_loose a below beside h) k)

text_loose : (t : Text) → IsCharacters t → AreLoose (node (text_label t) end end)
text_loose t h = record {
  texts = ((none.0, h.0), (tt, tt));
  legal = (h.1, (tt, tt));
  content = (refl, (tt, tt));
  names = (no_names, (tt, tt));
  no_documents = (refl, tt);
}

-- ---- the items as nodes

spaced_text : (as' : List Atomic) → AllByRecursion IsLegible as' → IsCharacters (spaced as')
spaced_text as' h = joined_text (codes " ") space (map text_of as') (cast_texts as' h)

run_loose : (as' : List Atomic) → AllByRecursion IsLegible as' → AreLoose (run as')
run_loose [] h = none_loose
run_loose (a ∷ as') h = text_loose (spaced (a ∷ as')) (spaced_text (a ∷ as') h)

-- what stands below a document is no document
below_tops : (k : Kind) (name value : Text) (labels : List Label) → is_content (label k name value) labels ≡ true → AllByRecursion (λ (a : Label). is_document a.kind ≡ false) labels
below_tops k name value [] h = tt
below_tops k name value (a ∷ labels) h =
    let p = parts_of (label k name value) a labels h in
    (no_document k a.kind p.stands, below_tops k name value labels p.others)

copied_loose : (t : Tree) → IsTree t → AreLoose (copied t)
copied_loose t is = by_kind t.root.kind t.root.name t.root.value t.below is.texts is.legal is.content is.names
  where
    by_kind : (k : Kind) (name value : Text) (below : Forest Label) → EachNode (λ a below. IsText a) (node (label k name value) below end)
        → EachNode (λ a below. IsTrue (is_legal a.kind a.name a.value)) (node (label k name value) below end)
        → EachNode (λ a below. IsTrue (is_content a below)) (node (label k name value) below end)
        → EachNode (λ a below. IsDistinct bytes_eq (attribute_names below)) (node (label k name value) below end)
        → AreLoose (copied_as k (record { root = label k name value; below = below }))
    by_kind kind.Document name value below p q r s = record { texts = p.1.0; legal = q.1.0; content = r.1.0; names = s.1.0; no_documents = below_tops kind.Document name value (tops below) r.0 }
    by_kind kind.Element name value below p q r s = record { texts = p; legal = q; content = r; names = s; no_documents = (refl, tt) }
    by_kind kind.Attribute name value below p q r s = record { texts = p; legal = q; content = r; names = s; no_documents = (refl, tt) }
    by_kind kind.Text name value below p q r s = record { texts = p; legal = q; content = r; names = s; no_documents = (refl, tt) }
    by_kind kind.Comment name value below p q r s = record { texts = p; legal = q; content = r; names = s; no_documents = (refl, tt) }
    by_kind kind.ProcessingInstruction name value below p q r s = record { texts = p; legal = q; content = r; names = s; no_documents = (refl, tt) }

flattened_loose : (trees : List Tree) → AreTrees trees → (open_run : List Atomic) (xs : List Item) → AllByRecursion IsLegible open_run → AreLegible xs → AreLoose (flattened_after trees open_run xs)
flattened_loose trees are open_run [] h g = run_loose open_run h
flattened_loose trees are open_run (Atom a ∷ xs) h g = flattened_loose trees are (open_run ++ a ∷ []) xs (all_append IsLegible open_run (a ∷ []) h (g.0, tt)) g.1
flattened_loose trees are open_run (Node p ∷ xs) h g =
    join_loose (run open_run) (join (copied (tree_below trees p)) (flattened_after trees [] xs)) (run_loose open_run h)
    (join_loose (copied (tree_below trees p)) (flattened_after trees [] xs) (copied_loose (tree_below trees p) (below_is trees are p)) (flattened_loose trees are [] xs tt g.1))

-- ---- adjacent texts as one

-- no two texts stand side by side
abbrev AreApart : List Label → Type 0
AreApart [] = Unit {0}
AreApart (a ∷ []) = Unit {0}
AreApart (a ∷ b ∷ labels) = ((is_text a.kind && is_text b.kind) ≡ false) × AreApart (b ∷ labels)

-- a text's value
text_value : (k : Kind) (name value : Text) → is_text k ≡ true → is_legal k name value ≡ true → are_characters value ≡ true
text_value kind.Text name value e h = (and_parts (is_empty name) (are_characters value) h).1
text_value kind.Document name value e h = absurd (false≢true e)
text_value kind.Element name value e h = absurd (false≢true e)
text_value kind.Attribute name value e h = absurd (false≢true e)
text_value kind.Comment name value e h = absurd (false≢true e)
text_value kind.ProcessingInstruction name value e h = absurd (false≢true e)

record AreMerged (f : Forest Label) : Type 0 where
  loose : AreLoose f
  apart : AreApart (tops f)

-- nodes behind a text may stand behind another one
same_behind : (a b : Label) (labels : List Label) → is_text a.kind ≡ is_text b.kind → AreApart (b ∷ labels) → AreApart (a ∷ labels)
same_behind a b [] e h = tt
same_behind a b (c ∷ labels) e h = (ap (λ t. t && is_text c.kind) e ∙ h.0, h.1)

front_merged : (a : Label) (below beside : Forest Label) → AreLoose (node a below end) → AreMerged beside → AreMerged (in_front a below beside)
front_merged a below end h m = record { loose = h; apart = tt }
front_merged a below (node b below_b beside) h m = by_test (is_text a.kind && is_text b.kind) refl
  where
    by_test : (t : Bool) → (is_text a.kind && is_text b.kind) ≡ t → AreMerged (if t then node (text_label (a.value ++ b.value)) end beside else node a below (node b below_b beside))
    by_test true e =
        let texts = and_parts (is_text a.kind) (is_text b.kind) e in
        let l = m.loose in
        let one : IsCharacters a.value = (h.texts.0.1, text_value a.kind a.name a.value texts.0 h.legal.0) in
        let two : IsCharacters b.value = (l.texts.0.1, text_value b.kind b.name b.value texts.1 l.legal.0) in
        record {
          loose = node_loose (text_label (a.value ++ b.value)) end beside (text_loose (a.value ++ b.value) (both a.value b.value one two)) (others_loose b below_b beside l);
          apart = same_behind (text_label (a.value ++ b.value)) b (tops beside) (sym texts.1) m.apart;
        }
    by_test false e = record { loose = node_loose a below (node b below_b beside) h m.loose; apart = (e, m.apart) }

are_merged : (f : Forest Label) → AreLoose f → AreMerged (merged f)
are_merged end h = record { loose = none_loose; apart = tt }
are_merged (node a below beside) h = front_merged a below (merged beside) (first_loose a below beside h) (are_merged beside (others_loose a below beside h))

-- ---- no empty texts

-- each text at the top has a character
abbrev AreFilled : List Label → Type 0
AreFilled labels = AllByRecursion (λ (a : Label). is_empty_text a ≡ false) labels

-- a text does not come first
abbrev NoTextFirst : List Label → Type 0
NoTextFirst [] = Unit {0}
NoTextFirst (a ∷ labels) = is_text a.kind ≡ false

and_false : (b : Bool) → (b && false) ≡ false
and_false true = refl
and_false false = refl

-- without the empty texts; where none stood first, none does
pub record AreKept (f g : Forest Label) : Type 0 where
  pub loose : AreLoose g
  pub apart : AreApart (tops g)
  pub filled : AreFilled (tops g)
  pub first : NoTextFirst (tops f) → NoTextFirst (tops g)

-- what is behind a text begins with none
none_behind : (a : Label) (labels : List Label) → is_text a.kind ≡ true → AreApart (a ∷ labels) → NoTextFirst labels
none_behind a [] e h = tt
none_behind a (b ∷ labels) e h = sym (ap (λ t. t && is_text b.kind) e) ∙ h.0

-- a node in front of what does not begin with a text, or of what begins as before
apart_first : (a : Label) (labels : List Label) → NoTextFirst labels → AreApart labels → AreApart (a ∷ labels)
apart_first a [] e h = tt
apart_first a (b ∷ labels) e h = (ap (λ t. is_text a.kind && t) e ∙ and_false (is_text a.kind), h)

apart_others : (a : Label) (labels : List Label) → is_text a.kind ≡ false → AreApart labels → AreApart (a ∷ labels)
apart_others a [] e h = tt
apart_others a (b ∷ labels) e h = (ap (λ t. t && is_text b.kind) e, h)

later_apart : (a : Label) (labels : List Label) → AreApart (a ∷ labels) → AreApart labels
later_apart a [] h = tt
later_apart a (b ∷ labels) h = h.1

are_kept : (f : Forest Label) → AreLoose f → AreApart (tops f) → AreKept f (without_empty_texts f)
are_kept end h apart = record { loose = none_loose; apart = tt; filled = tt; first = λ e. tt }
are_kept (node a below beside) h apart = by_test (is_empty_text a) refl (are_kept beside (others_loose a below beside h) (later_apart a (tops beside) apart))
  where
    -- what stands in front of the others as they are kept
    before : (b : Bool) → is_text a.kind ≡ b → AreKept beside (without_empty_texts beside) → AreApart (a ∷ tops (without_empty_texts beside))
    before true e rest = apart_first a (tops (without_empty_texts beside)) (rest.first (none_behind a (tops beside) e apart)) rest.apart
    before false e rest = apart_others a (tops (without_empty_texts beside)) e rest.apart

    by_test : (b : Bool) → is_empty_text a ≡ b → AreKept beside (without_empty_texts beside) → AreKept (node a below beside) (in_front_unless b a below (without_empty_texts beside))
    by_test true e rest =
        let text = (and_parts (is_text a.kind) _ e).0 in
        record { loose = rest.loose; apart = rest.apart; filled = rest.filled; first = λ no. absurd (false≢true (sym no ∙ text)) }
    by_test false e rest = record {
      loose = node_loose a below (without_empty_texts beside) (first_loose a below beside h) rest.loose;
      apart = before (is_text a.kind) refl rest;
      filled = (e, rest.filled);
      first = λ no. no;
    }

-- content that is not judged yet
pub record IsReady (f : Forest Label) : Type 0 where
  pub loose : AreLoose f
  pub apart : AreApart (tops f)
  pub filled : AreFilled (tops f)

content_ready : (trees : List Tree) → AreTrees trees → (xs : List Item) → AreLegible xs → IsReady (content trees xs)
content_ready trees are xs h =
    let flat = flattened_loose trees are [] xs tt h in
    let one = are_merged (flattened trees xs) flat in
    let kept = are_kept (merged (flattened trees xs)) one.loose one.apart in
    record { loose = kept.loose; apart = kept.apart; filled = kept.filled }

-- # The attributes, judged

-- the two that may have content
abbrev IsParent : Kind → Type 0
IsParent kind.Element = Unit {0}
IsParent kind.Document = Unit {0}
IsParent k = ⊥

-- no attribute comes after another node
late_none : (k : Kind) → IsParent k → (earlier : List Text) (labels : List Label) → first_fault k earlier true labels ≡ None → AllByRecursion (λ (a : Label). is_attribute a.kind ≡ false) labels
late_none k p earlier [] h = tt
late_none k p earlier (a ∷ labels) h = by_test (is_attribute a.kind) refl (λ more. late_none k p earlier labels more)
  where
    faulty : (k : Kind) → IsParent k → (name : Text) (rest : Option Code) → or_else (attribute_fault k earlier true name) rest ≡ None → ⊥
    faulty kind.Element p name rest e = absurd cc
    faulty kind.Document p name rest e = absurd cc
    faulty kind.Attribute p name rest e = p
    faulty kind.Text p name rest e = p
    faulty kind.Comment p name rest e = p
    faulty kind.ProcessingInstruction p name rest e = p

    by_test : (b : Bool) → is_attribute a.kind ≡ b → (first_fault k earlier true labels ≡ None → AllByRecursion (λ (a : Label). is_attribute a.kind ≡ false) labels)
        → AllByRecursion (λ (a : Label). is_attribute a.kind ≡ false) (a ∷ labels)
    by_test true e later = absurd (faulty k p a.name (first_fault k (a.name ∷ earlier) true labels) (rw e at h))
    by_test false e later = (e, later (rw e at h))

no_attributes : (labels : List Label) → AllByRecursion (λ (a : Label). is_attribute a.kind ≡ false) labels → attribute_names labels ≡ []
no_attributes [] h = refl
no_attributes (a ∷ labels) h = rw h.0 (no_attributes labels h.1)

-- none of these names is one of the earlier ones
abbrev AreOthers : List Text → List Text → Type 0
AreOthers earlier names = AllByRecursion (λ n. list_any (bytes_eq n) earlier ≡ false) names

or_first : (a b : Bool) → (a || b) ≡ false → a ≡ false
or_first true b h = absurd (false≢true (sym h))
or_first false b h = refl

or_second : (a b : Bool) → (a || b) ≡ false → b ≡ false
or_second true b h = absurd (false≢true (sym h))
or_second false b h = h

-- a name that stood before, and those after it
others_later : (name : Text) (earlier names : List Text) → AreOthers (name ∷ earlier) names → AreOthers earlier names
others_later name earlier [] h = tt
others_later name earlier (n ∷ names) h = (or_second (bytes_eq n name) (list_any (bytes_eq n) earlier) h.0, others_later name earlier names h.1)

others_differ : (name : Text) (earlier names : List Text) → AreOthers (name ∷ earlier) names → AllByRecursion (λ n. bytes_eq name n ≡ false) names
others_differ name earlier [] h = tt
others_differ name earlier (n ∷ names) h =
    (swapped name n ∙ or_first (bytes_eq n name) (list_any (bytes_eq n) earlier) h.0, others_differ name earlier names h.1)

-- what is judged of an attribute, and of the nodes after it
record Passed (k : Kind) (earlier : List Text) (name : Text) (rest : Option Code) : Type 0 where
  is_element : k ≡ kind.Element
  other : list_any (bytes_eq name) earlier ≡ false
  later : rest ≡ None

passed : (k : Kind) → IsParent k → (earlier : List Text) (name : Text) (rest : Option Code) → or_else (attribute_fault k earlier false name) rest ≡ None → Passed k earlier name rest
passed kind.Document p earlier name rest h = absurd cc
passed kind.Element p earlier name rest h = by_test (list_any (bytes_eq name) earlier) refl h
  where
    by_test : (b : Bool) → list_any (bytes_eq name) earlier ≡ b → or_else (if b then Some XQDY0025 else None) rest ≡ None → Passed kind.Element earlier name rest
    by_test true e h = absurd cc
    by_test false e h = record { is_element = refl; other = e; later = h }
passed kind.Attribute p earlier name rest h = absurd p
passed kind.Text p earlier name rest h = absurd p
passed kind.Comment p earlier name rest h = absurd p
passed kind.ProcessingInstruction p earlier name rest h = absurd p

-- the names of the attributes differ from each other and from the earlier ones
record AreNamed (earlier : List Text) (labels : List Label) : Type 0 where
  others : AreOthers earlier (attribute_names labels)
  distinct : IsDistinct bytes_eq (attribute_names labels)

none_named : (earlier : List Text) (labels : List Label) → attribute_names labels ≡ [] → AreNamed earlier labels
none_named earlier labels e = record { others = subst (AreOthers earlier) (sym e) tt; distinct = subst (IsDistinct bytes_eq) (sym e) no_names }

one_named : (earlier : List Text) (a : Label) (labels : List Label) → is_attribute a.kind ≡ true → list_any (bytes_eq a.name) earlier ≡ false → AreNamed (a.name ∷ earlier) labels → AreNamed earlier (a ∷ labels)
unfolding IsDistinct
one_named earlier a labels e other more =
    let names_are : attribute_names (a ∷ labels) ≡ a.name ∷ attribute_names labels = rw e refl in
    record {
      others = subst (AreOthers earlier) (sym names_are) (other, others_later a.name earlier (attribute_names labels) more.others);
      distinct = subst (IsDistinct bytes_eq) (sym names_are) (others_differ a.name earlier (attribute_names labels) more.others, more.distinct);
    }

are_named : (k : Kind) → IsParent k → (earlier : List Text) (labels : List Label) → first_fault k earlier false labels ≡ None → AreNamed earlier labels
are_named k p earlier [] h = none_named earlier [] refl
are_named k p earlier (a ∷ labels) h = by_test (is_attribute a.kind) refl (λ more. are_named k p (a.name ∷ earlier) labels more)
  where
    by_test : (b : Bool) → is_attribute a.kind ≡ b → (first_fault k (a.name ∷ earlier) false labels ≡ None → AreNamed (a.name ∷ earlier) labels) → AreNamed earlier (a ∷ labels)
    by_test true e later =
        let judged = passed k p earlier a.name (first_fault k (a.name ∷ earlier) false labels) (rw e at h) in
        one_named earlier a labels e judged.other (later judged.later)
    by_test false e later =
        let late = late_none k p earlier labels (rw e at h) in
        none_named earlier (a ∷ labels) (no_attributes (a ∷ labels) (e, late))

-- ---- what may stand where

stands_below : (k : Kind) → IsParent k → (l : Kind) → is_document l ≡ false → is_attribute l ≡ false → may_stand k l ≡ true
stands_below kind.Element p kind.Document d e = absurd (false≢true (sym d))
stands_below kind.Element p kind.Attribute d e = absurd (false≢true (sym e))
stands_below kind.Element p kind.Element d e = refl
stands_below kind.Element p kind.Text d e = refl
stands_below kind.Element p kind.Comment d e = refl
stands_below kind.Element p kind.ProcessingInstruction d e = refl
stands_below kind.Document p kind.Document d e = absurd (false≢true (sym d))
stands_below kind.Document p kind.Attribute d e = absurd (false≢true (sym e))
stands_below kind.Document p kind.Element d e = refl
stands_below kind.Document p kind.Text d e = refl
stands_below kind.Document p kind.Comment d e = refl
stands_below kind.Document p kind.ProcessingInstruction d e = refl
stands_below kind.Attribute p l d e = absurd p
stands_below kind.Text p l d e = absurd p
stands_below kind.Comment p l d e = absurd p
stands_below kind.ProcessingInstruction p l d e = absurd p

follows : (k l : Kind) → is_attribute l ≡ false → (is_text k && is_text l) ≡ false → may_follow k l ≡ true
follows kind.Text kind.Text e t = absurd (false≢true (sym t))
follows kind.Text kind.Document e t = refl
follows kind.Text kind.Element e t = refl
follows kind.Text kind.Comment e t = refl
follows kind.Text kind.ProcessingInstruction e t = refl
follows kind.Attribute kind.Document e t = refl
follows kind.Attribute kind.Element e t = refl
follows kind.Attribute kind.Text e t = refl
follows kind.Attribute kind.Comment e t = refl
follows kind.Attribute kind.ProcessingInstruction e t = refl
follows kind.Document kind.Document e t = refl
follows kind.Document kind.Element e t = refl
follows kind.Document kind.Text e t = refl
follows kind.Document kind.Comment e t = refl
follows kind.Document kind.ProcessingInstruction e t = refl
follows kind.Element kind.Document e t = refl
follows kind.Element kind.Element e t = refl
follows kind.Element kind.Text e t = refl
follows kind.Element kind.Comment e t = refl
follows kind.Element kind.ProcessingInstruction e t = refl
follows kind.Comment kind.Document e t = refl
follows kind.Comment kind.Element e t = refl
follows kind.Comment kind.Text e t = refl
follows kind.Comment kind.Comment e t = refl
follows kind.Comment kind.ProcessingInstruction e t = refl
follows kind.ProcessingInstruction kind.Document e t = refl
follows kind.ProcessingInstruction kind.Element e t = refl
follows kind.ProcessingInstruction kind.Text e t = refl
follows kind.ProcessingInstruction kind.Comment e t = refl
follows kind.ProcessingInstruction kind.ProcessingInstruction e t = refl
follows k kind.Attribute e t = absurd (false≢true (sym e))

attribute_precedes : (k : Kind) → is_attribute k ≡ true → (labels : List Label) → may_precede k labels ≡ true
attribute_precedes k e [] = refl
attribute_precedes k e (b ∷ labels) = by_kind k e b.kind
  where
    by_kind : (k : Kind) → is_attribute k ≡ true → (l : Kind) → may_follow k l ≡ true
    by_kind kind.Attribute e kind.Document = refl
    by_kind kind.Attribute e kind.Element = refl
    by_kind kind.Attribute e kind.Attribute = refl
    by_kind kind.Attribute e kind.Text = refl
    by_kind kind.Attribute e kind.Comment = refl
    by_kind kind.Attribute e kind.ProcessingInstruction = refl
    by_kind kind.Document e l = absurd (false≢true e)
    by_kind kind.Element e l = absurd (false≢true e)
    by_kind kind.Text e l = absurd (false≢true e)
    by_kind kind.Comment e l = absurd (false≢true e)
    by_kind kind.ProcessingInstruction e l = absurd (false≢true e)

filled_text : (k : Kind) (name value : Text) → is_empty_text (label k name value) ≡ false → has_text k value ≡ true
filled_text kind.Text name [] e = absurd (false≢true (sym e))
filled_text kind.Text name (c ∷ cs) e = refl
filled_text kind.Document name value e = refl
filled_text kind.Element name value e = refl
filled_text kind.Attribute name value e = refl
filled_text kind.Comment name value e = refl
filled_text kind.ProcessingInstruction name value e = refl

-- no document, no text beside another, no empty text
record AreClean (labels : List Label) : Type 0 where
  no_documents : AllByRecursion (λ (a : Label). is_document a.kind ≡ false) labels
  apart : AreApart labels
  filled : AreFilled labels

later_clean : (a : Label) (labels : List Label) → AreClean (a ∷ labels) → AreClean labels
later_clean a labels h = record { no_documents = h.no_documents.1; apart = later_apart a labels h.apart; filled = h.filled.1 }

all_of_content : (parent a : Label) (labels : List Label) → may_stand parent.kind a.kind ≡ true → has_text a.kind a.value ≡ true → may_precede a.kind labels ≡ true → is_content parent labels ≡ true
    → is_content parent (a ∷ labels) ≡ true
all_of_content parent a labels h t p o = λ i. h i && (t i && (p i && o i))

-- without attributes
plain_precedes : (a : Label) (labels : List Label) → AreApart (a ∷ labels) → AllByRecursion (λ (a : Label). is_attribute a.kind ≡ false) labels → may_precede a.kind labels ≡ true
plain_precedes a [] h e = refl
plain_precedes a (b ∷ labels) h e = follows a.kind b.kind e.0 h.0

plain_content : (k : Kind) → IsParent k → (name : Text) (labels : List Label) → AreClean labels → AllByRecursion (λ (a : Label). is_attribute a.kind ≡ false) labels → is_content (label k name []) labels ≡ true
plain_content k p name [] h e = refl
plain_content k p name (a ∷ labels) h e =
    all_of_content (label k name []) a labels (stands_below k p a.kind h.no_documents.0 e.0) (filled_text a.kind a.name a.value h.filled.0)
    (plain_precedes a labels h.apart e.1) (plain_content k p name labels (later_clean a labels h) e.1)

attribute_stands : (k l : Kind) → k ≡ kind.Element → is_attribute l ≡ true → may_stand k l ≡ true
attribute_stands k l e h = ap (λ x. may_stand x l) e ∙ ap (may_stand kind.Element) (attribute_is l h)

judged_content : (k : Kind) → IsParent k → (name : Text) (earlier : List Text) (labels : List Label) → AreClean labels → first_fault k earlier false labels ≡ None → is_content (label k name []) labels ≡ true
judged_content k p name earlier [] h f = refl
judged_content k p name earlier (a ∷ labels) h f =
    by_test (is_attribute a.kind) refl (λ more. judged_content k p name (a.name ∷ earlier) labels (later_clean a labels h) more)
  where
    by_test : (b : Bool) → is_attribute a.kind ≡ b → (first_fault k (a.name ∷ earlier) false labels ≡ None → is_content (label k name []) labels ≡ true)
        → is_content (label k name []) (a ∷ labels) ≡ true
    by_test true e later =
        let judged = passed k p earlier a.name (first_fault k (a.name ∷ earlier) false labels) (rw e at f) in
        all_of_content (label k name []) a labels (attribute_stands k a.kind judged.is_element e) (filled_text a.kind a.name a.value h.filled.0)
        (attribute_precedes a.kind e labels) (later judged.later)
    by_test false e later = plain_content k p name (a ∷ labels) h (e, late_none k p earlier labels (rw e at f))

-- # The limits

high : (n : ℕ) (f : Forest Label) → is_within_height n f ≡ true → IsWithinHeight n f
high n end h = tt
high zero (node a below beside) h = absurd (false≢true h)
high (suc n) (node a below beside) h =
    let p = and_parts (is_within_height n below) (is_within_height (suc n) beside) h in
    (high n below p.0, high (suc n) beside p.1)

limits_tree : (t : Tree) → (IsWithinHeight most_levels (nodes t) → count (nodes t) ≤ most_nodes → IsTree t) → IfOk (within_limits t) IsTree
limits_tree t is = by_tests (is_within_height most_levels (nodes t)) (nat_le (count (nodes t)) most_nodes) refl refl
  where
    by_tests : (a b : Bool) → is_within_height most_levels (nodes t) ≡ a → nat_le (count (nodes t)) most_nodes ≡ b → IfOk (if not a then Err ProfLevel else if not b then Err ProfNodes else Ok t) IsTree
    by_tests false b h k = tt
    by_tests true false h k = tt
    by_tests true true h k = is (high most_levels (nodes t) h) (grind (arith, nat_tests))

-- # Elements and documents

built_tree : (k : Kind) → IsParent k → (name : Text) → IsUtf8 name → is_legal k name [] ≡ true → (f : Forest Label) → IsReady f → IfOk (built (label k name []) f) IsTree
built_tree k p name u legal f ready = by_fault (first_fault k [] false (tops f)) refl
  where
    by_fault : (o : Option Code) → first_fault k [] false (tops f) ≡ o → IfOk (unless_fault o (record { root = label k name []; below = f })) IsTree
    by_fault (Some code) e = tt
    by_fault None e = limits_tree (record { root = label k name []; below = f }) (λ height room.
        (let loose = ready.loose in
        record {
          texts = ((u, none.0), (loose.texts, tt));
          legal = (legal, (loose.legal, tt));
          content = (judged_content k p name [] (tops f) (record { no_documents = loose.no_documents; apart = ready.apart; filled = ready.filled }) e, (loose.content, tt));
          names = ((are_named k p [] (tops f) e).distinct, (loose.names, tt));
          height = height;
          room = room;
        }))

-- # Nodes without content

lone_tree : (k : Kind) (name value : Text) → IsUtf8 name → IsUtf8 value → is_legal k name value ≡ true → IsTree (lone k name value)
lone_tree k name value u v legal = record {
  texts = ((u, v), (tt, tt));
  legal = (legal, (tt, tt));
  content = (refl, (tt, tt));
  names = (no_names, (tt, tt));
  height = (tt, tt);
  room = omega arith;
}

new_comment : (value : Text) → IsCharacters value → IfOk (comment_tree value) IsTree
new_comment value h = by_test (may_be_comment value) refl
  where
    by_test : (b : Bool) → may_be_comment value ≡ b → IfOk (only_if b XQDY0072 (lone kind.Comment [] value)) IsTree
    by_test true e = lone_tree kind.Comment [] value none.0 h.0 (λ i. h.1 i && e i)
    by_test false e = tt

-- what stands nowhere in a text stands nowhere after its white space in front
holds_later : (p : ℕ) (ps t : Text) → holds (p ∷ ps) t ≡ false → holds (p ∷ ps) (after_leading is_space t) ≡ false
holds_later p ps [] h = h
holds_later p ps (c ∷ cs) h = by_test (is_space c) (holds_later p ps cs (or_second _ (holds (p ∷ ps) cs) h))
  where
    by_test : (b : Bool) → holds (p ∷ ps) (after_leading is_space cs) ≡ false → holds (p ∷ ps) (if b then after_leading is_space cs else c ∷ cs) ≡ false
    by_test true later = later
    by_test false later = h

no_space_first : (t : Text) → begins_with_space (after_leading is_space t) ≡ false
no_space_first [] = refl
no_space_first (c ∷ cs) = by_test (is_space c) refl (no_space_first cs)
  where
    by_test : (b : Bool) → is_space c ≡ b → begins_with_space (after_leading is_space cs) ≡ false → begins_with_space (if b then after_leading is_space cs else c ∷ cs) ≡ false
    by_test true e later = later
    by_test false e later = e

new_instruction : (name value : Text) → IsUtf8 name → is_target name ≡ true → IsCharacters value → IfOk (instruction_tree name value) IsTree
new_instruction name value u target h = by_test (holds (codes "?>") value) refl
  where
    by_test : (b : Bool) → holds (codes "?>") value ≡ b → IfOk (only_if (not b) XQDY0026 value >>= (λ good. Ok (lone kind.ProcessingInstruction name (after_leading is_space good)))) IsTree
    by_test true e = tt
    by_test false e =
        let rest = leading_text value h in
        let none_held : not (holds (codes "?>") (after_leading is_space value)) ≡ true = ap not (holds_later 63 (codes ">") value e) in
        let no_space : not (begins_with_space (after_leading is_space value)) ≡ true = ap not (no_space_first value) in
        lone_tree kind.ProcessingInstruction name (after_leading is_space value) u rest.0 (λ i. target i && (rest.1 i && (none_held i && no_space i)))

-- # Names

-- a name that a node of the kind may have
abbrev pub IsNameOf : NamedNode → Text → Type 0
IsNameOf named.Element n = IsUtf8 n × (is_name (chars n) ≡ true)
IsNameOf named.Attribute n = IsUtf8 n × (is_attribute_name n ≡ true)
IsNameOf named.ProcessingInstruction n = IsUtf8 n × (is_target n ≡ true)

element_named : (t : Text) → IsUtf8 t → IfOk (element_name t) (IsNameOf named.Element)
element_named t u = by_test (is_name (chars t)) refl
  where
    by_test : (b : Bool) → is_name (chars t) ≡ b → IfOk (if b then Ok t else if is_prefixed (chars t) then Err ProfPrefix else Err XQDY0074) (IsNameOf named.Element)
    by_test true e = (u, e)
    by_test false e = either_holds (IsNameOf named.Element) (is_prefixed (chars t)) (Err ProfPrefix) (Err XQDY0074) tt tt

attribute_named : (t : Text) → IsUtf8 t → IfOk (judged_name named.Attribute t) (IsNameOf named.Attribute)
attribute_named t u = by_tests (bytes_eq t (codes "xmlns")) (is_name (chars t)) refl refl
  where
    by_tests : (a b : Bool) → bytes_eq t (codes "xmlns") ≡ a → is_name (chars t) ≡ b
        → IfOk (if a then Err XQDY0044 else if b then Ok t else if is_prefixed (chars t) then Err ProfPrefix else Err XQDY0074) (IsNameOf named.Attribute)
    by_tests true b d e = tt
    by_tests false true d e = (u, (λ i. e i && not (d i)))
    by_tests false false d e = either_holds (IsNameOf named.Attribute) (is_prefixed (chars t)) (Err ProfPrefix) (Err XQDY0074) tt tt

target_named : (t : Text) → IsUtf8 t → IfOk (judged_name named.ProcessingInstruction t) (IsNameOf named.ProcessingInstruction)
target_named t u = by_tests (is_name (chars t)) (is_xml t) refl refl
  where
    by_tests : (a b : Bool) → is_name (chars t) ≡ a → is_xml t ≡ b → IfOk (if not a then Err XQDY0041 else if b then Err XQDY0064 else Ok t) (IsNameOf named.ProcessingInstruction)
    by_tests false b d e = tt
    by_tests true true d e = tt
    by_tests true false d e = (u, (λ i. d i && not (e i)))

judged_named : (k : NamedNode) (t : Text) → IsUtf8 t → IfOk (judged_name k t) (IsNameOf k)
judged_named named.Element = element_named
judged_named named.Attribute = attribute_named
judged_named named.ProcessingInstruction = target_named

pub name_is : (k : NamedNode) (values : List Atomic) → AllByRecursion IsLegible values → IfOk (name_of k values) (IsNameOf k)
name_is k [] h = tt
name_is k (Integer n ∷ []) h = tt
name_is k (Decimal m ∷ []) h = tt
name_is k (String t ∷ []) h = judged_named k (trimmed t) (trimmed_text t h.0).0
name_is k (Boolean b ∷ []) h = tt
name_is k (Untyped t ∷ []) h = judged_named k (trimmed t) (trimmed_text t h.0).0
name_is k (Integer n ∷ b ∷ more) h = tt
name_is k (Decimal m ∷ b ∷ more) h = tt
name_is k (String t ∷ b ∷ more) h = tt
name_is k (Boolean c ∷ b ∷ more) h = tt
name_is k (Untyped t ∷ b ∷ more) h = tt

-- # The constructors

-- a tree, where there is one
abbrev pub MayBeTree : Option Tree → Type 0
MayBeTree None = Unit {0}
MayBeTree (Some t) = IsTree t

module _ (trees : List Tree) (are : AreTrees trees) (xs : List Item) (legible : AreLegible xs) where
  value_characters : IsCharacters (spaced (atomized trees xs))
  value_characters = spaced_text (atomized trees xs) (atoms_legible trees are xs legible)

  pub named_is : (k : NamedNode) (name : Text) → IsNameOf k name → IfOk (named_tree k name trees xs) IsTree
  named_is named.Element name h =
      built_tree kind.Element tt name h.0 (λ i. h.1 i && true) (content trees xs) (content_ready trees are xs legible)
  named_is named.Attribute name h = lone_tree kind.Attribute name (spaced (atomized trees xs)) h.0 value_characters.0 (λ i. h.1 i && value_characters.1 i)
  named_is named.ProcessingInstruction name h = new_instruction name (spaced (atomized trees xs)) h.0 h.1 value_characters

  some_is : (r : Judged Tree) → IfOk r IsTree → IfOk (some_tree r) MayBeTree
  some_is r h = next_holds IsTree MayBeTree r _ h (λ t is. is)

  text_is : (as' : List Atomic) → AllByRecursion IsLegible as' → MayBeTree (text_of_content as')
  text_is [] h = tt
  text_is (a ∷ as') h =
      let value = spaced_text (a ∷ as') h in
      lone_tree kind.Text [] (spaced (a ∷ as')) none.0 value.0 value.1

  pub unnamed_is : (k : UnnamedNode) → IfOk (unnamed_tree k trees xs) MayBeTree
  unnamed_is unnamed.Document = some_is (document_tree trees xs) (built_tree kind.Document tt [] none.0 refl (content trees xs) (content_ready trees are xs legible))
  unnamed_is unnamed.Text = text_is (atomized trees xs) (atoms_legible trees are xs legible)
  unnamed_is unnamed.Comment = some_is (comment_tree (spaced (atomized trees xs))) (new_comment (spaced (atomized trees xs)) value_characters)
