-- What parts give by their form: nodes, texts, one item.
use Rattle.std.proofs.Common.{◌≡◌, ℕ, ℤ, suc, List, [], ◌∷◌, ◌++◌, map, reverse, Bool, true, false, Ok, Err, refl, sym, ap, ◌∙◌, subst, if◌then◌else◌}
use Rattle.std.specs.Prelude.{Option, Some, None}
use Rattle.std.specs.List.{AllByRecursion}
use Rattle.std.proofs.lemmas.List.{map-append}
use Rattle.xq_atoms.specs.Judged.{Judged, only_if, ◌>>=◌}
use Rattle.xq_atoms.specs.Atom.{Atomic, String, Untyped, Integer, Decimal, Boolean}
use Rattle.xq_atoms.specs.Cast.{text_of}
use Rattle.xq_atoms.specs.Compare.{key, key_eq}
use Rattle.xq_atoms.specs.Text.{Text, text_eq}
use Rattle.xq_atoms.specs.declared.refusals.Code.TheVariants.{FODC0005, XPTY0018, XPTY0019}
use Rattle.xq_expressions.specs.declared.signatures.Function.{Function}
use Rattle.xq_expressions.specs.declared.signatures.Function.TheVariants as f
use Rattle.xq_trees.specs.declared.Axis.{Axis}
use Rattle.xq_trees.specs.Tree.{Tree}
use Rattle.xq_trees.specs.Tuples.{value_at}
use Rattle.xq_trees.proofs.Lists.{all_append}
use Rattle.xq_meaning.specs.declared.node_tests.Test.{Test}
use Rattle.xq_meaning.specs.declared.plans.Plan.{Plan}
use Rattle.xq_meaning.specs.declared.plans.Plan.TheVariants as plan
use Rattle.xq_meaning.specs.declared.plans.PlanStep.{PlanStep}
use Rattle.xq_meaning.specs.declared.plans.PlanStep.TheVariants as step
use Rattle.xq_meaning.specs.Arguments.{all_nodes, one_text, text}
use Rattle.xq_meaning.specs.Doing.{Doing, Outcome, go_on, give, judged, on_trees, in_turn, more, for_each, collected}
use Rattle.xq_meaning.specs.Forms
use Rattle.xq_meaning.specs.Functions.{Focus, called, distinct_values, doc, document, document_from, is_address, item_text, string}
use Rattle.xq_meaning.specs.Items.{Place, Item, Node, Atom, atomized, in_document_order, root_of}
use Rattle.xq_meaning.specs.Operators.{gathered, nodes_or_atoms}
use Rattle.xq_meaning.specs.PlanMeaning.{Slots, Frame, Meaning, plan_mean, plan_step_mean}
use Rattle.xq_meaning.specs.Same.{frame_of}
use Rattle.xq_meaning.specs.Steps.{context_node, focuses, is_reverse, in_axis_order, axis_nodes}
use Rattle.xq_meaning.specs.Texts.{joined}
use Rattle.xq_meaning.proofs.PlanEquations as plan_eq
use Rattle.xq_meaning.proofs.Turns.{last_turn}
use Rattle.xq_optimise.specs.declared.held.Held.{Held}
use Rattle.xq_optimise.specs.declared.held.Held.TheVariants as has
use Rattle.xq_optimise.specs.Known.{AreNodes, AreFew, Holds, IsText, IsTextItem}
use Rattle.xq_optimise.specs.Sure.{SurelyFindsTexts, on_node}
use Rattle.xq_optimise.specs.private.Kinds.{AreSlotTexts, EndsInText, GivesText, IsOfText, IsSlotOfOne, IsStep, IsString, LeavesNodes}
use Rattle.xq_optimise.specs.private.Parts.{GivesHeld, IsHeld, IsKnown, IsOfOne, IsOfTexts}
use Rattle.xq_optimise.proofs.Below.{slot_below, slot_ignores, value_below}
use Rattle.xq_optimise.proofs.Fitting.{Gives, firsts_all, gives_held, held_gives, then_gives}
use Rattle.xq_optimise.proofs.ItemTests.{order-map}
use Rattle.xq_optimise.proofs.Leaving.{always}
use Rattle.xq_optimise.proofs.Scans.{anything_held, nodes_all, slot_held}
use Rattle.xq_optimise.proofs.Splitting.{nodes_after}
use Rattle.xq_optimise.proofs.Tests.{nodes_have_texts}

-- # Items of one kind

collected_give : {A : Type 0} (P : Item → Type 0) (act : A → Doing (List Item)) (xs : List A) (done : List Item) (t : List Tree) →
    AllByRecursion (λ x. (g : List Tree) → Gives (AllByRecursion P) (act x g)) xs → AllByRecursion P done →
    Gives (AllByRecursion P) (in_turn (more act) done xs t)
collected_give P act [] done t h k = k
collected_give P act (x ∷ xs) done t h k =
    then_gives (AllByRecursion P) (AllByRecursion P) (go_on (act x t) (λ ys. give (done ++ ys))) (λ next. in_turn (more act) next xs)
    (then_gives (AllByRecursion P) (AllByRecursion P) (act x t) (λ ys. give (done ++ ys)) (h.0 t) (λ ys g is. all_append P done ys k is))
    (λ next g is. collected_give P act xs next g h.1 is)

abbrev IsNode : Item → Type 0
IsNode (Node p) = Unit {0}
IsNode (Atom a) = ⊥

places_of : (xs : List Item) → AllByRecursion IsNode xs → AreNodes xs
places_of [] h = ([], refl)
places_of (Node p ∷ xs) h = let rest = places_of xs h.1 in (p ∷ rest.0, ap (λ ys. Node p ∷ ys) rest.1)
places_of (Atom a ∷ xs) h = absurd h.0

all_places : (ps : List Place) → AllByRecursion IsNode (map Node ps)
all_places [] = tt
all_places (p ∷ ps) = (tt, all_places ps)

each_node : (o : Outcome (List Item)) → Gives AreNodes o → Gives (AllByRecursion IsNode) o
each_node (Ok xs, g) (ps, is) = subst (AllByRecursion IsNode) (sym is) (all_places ps)
each_node (Err code, g) h = tt

-- # Steps

ordered_nodes : (axis : Axis) (xs : List Item) → AreNodes xs → AreNodes (in_axis_order axis xs)
ordered_nodes axis xs (ps, is) =
    ((if is_reverse axis then reverse ps else ps), ap (in_axis_order axis) is ∙ sym (order-map (is_reverse axis) ps))

step_gives : (axis : Axis) (test : Test) (ms : List Meaning) (frame : Frame) (t : List Tree) → Gives AreNodes (Forms.step axis test ms frame t)
step_gives axis test ms frame t = by (context_node frame.focus)
  where
    by : (r : Judged Place) → Gives AreNodes (go_on (judged r t) (λ p. λ g. go_on (on_trees (λ trees. Ok (map Node (in_axis_order axis (axis_nodes trees axis test p)))) g) (λ xs h. go_on (in_turn (Forms.filtered frame) xs ms h) (λ ys. give (in_axis_order axis ys)))))
    by (Ok p) =
        let found = in_axis_order axis (axis_nodes t axis test p) in
        let o = in_turn (Forms.filtered frame) (map Node found) ms t in
        then_gives AreNodes AreNodes o (λ ys. give (in_axis_order axis ys))
        (held_gives has.Nodes o (nodes_after frame.env frame.focus frame.addresses ms found t))
        (λ ys g h. ordered_nodes axis ys h)
    by (Err code) = tt

pub step_held : (known : List Held) (p : Plan) (axis : Axis) (test : Test) (ps : List Plan) → p ≡ plan.Step axis test ps → IsHeld known has.Nodes p
step_held known p axis test ps is slots focus addresses trees fits =
    let frame = frame_of slots focus addresses in
    subst (λ m. GivesHeld has.Nodes (m frame trees)) (sym (ap plan_mean is ∙ plan_eq.plan-Step axis test ps))
    (gives_held has.Nodes _ (step_gives axis test (map plan_mean ps) frame trees))

-- what nodes give together, where each gives nodes
slash_gives : (part : Meaning) → ((frame : Frame) (t : List Tree) → Gives AreNodes (part frame t)) → (frame : Frame) (xs : List Item) (t : List Tree) →
    Gives AreNodes (Forms.slash frame xs part t)
slash_gives part h frame xs t = by (all_nodes XPTY0019 xs)
  where
    act : Focus → Doing (List Item)
    act at = part (Forms.in_focus frame at)

    together : (ys : List Item) (g : List Tree) → AllByRecursion IsNode ys → Gives AreNodes (on_trees (λ trees. gathered trees ys) g)
    together ys g all =
        let nodes = places_of ys all in
        subst (λ zs. Gives AreNodes (gathered g zs, g)) (sym nodes.1)
        (subst (λ (r : Judged (List Item)). Gives AreNodes (r, g)) (sym (ap (nodes_or_atoms g (map Node nodes.0)) (nodes_all XPTY0018 nodes.0)))
        (in_document_order g nodes.0, refl))

    by : (r : Judged (List Place)) → Gives AreNodes (go_on (judged r t) (λ places. λ g. go_on (collected act (focuses xs) g) (λ ys. on_trees (λ trees. gathered trees ys))))
    by (Ok places) =
        then_gives (AllByRecursion IsNode) AreNodes (collected act (focuses xs) t) (λ ys. on_trees (λ trees. gathered trees ys))
        (collected_give IsNode act (focuses xs) [] t
        (always (λ (at : Focus). (g : List Tree) → Gives (AllByRecursion IsNode) (act at g)) (λ at g. each_node (act at g) (h (Forms.in_focus frame at) g)) (focuses xs)) tt)
        (λ ys g all. together ys g all)
    by (Err code) = tt

pub each_step_after : (s : PlanStep) (p : Plan) → s ≡ step.Each p → IsStep p → LeavesNodes s
each_step_after s p is (axis, test, ps, one) frame xs trees =
    subst (λ m. GivesHeld has.Nodes (m frame xs trees)) (sym (ap plan_step_mean (is ∙ ap step.Each one) ∙ plan_eq.step-Each (plan.Step axis test ps)))
    (gives_held has.Nodes _ (slash_gives (plan_mean (plan.Step axis test ps))
    (λ at g. subst (λ (m : Meaning). Gives AreNodes (m at g)) (sym (plan_eq.plan-Step axis test ps)) (step_gives axis test (map plan_mean ps) at g)) frame xs trees))

-- # Filters

pub filter_held : (known : List Held) (p start : Plan) (ps : List Plan) → p ≡ plan.Filter start ps → IsHeld known has.Nodes start → IsHeld known has.Nodes p
filter_held known p start ps is h slots focus addresses trees fits =
    let frame = frame_of slots focus addresses in
    subst (λ m. GivesHeld has.Nodes (m frame trees)) (sym (ap plan_mean is ∙ plan_eq.plan-Filter start ps))
    (by (plan_mean start frame trees) (h slots focus addresses trees fits))
  where
    by : (o : Outcome (List Item)) → GivesHeld has.Nodes o →
        GivesHeld has.Nodes (go_on o (λ xs. in_turn (Forms.filtered (frame_of slots focus addresses)) xs (map plan_mean ps)))
    by (Ok xs, g) (qs, at) =
        subst (λ ys. GivesHeld has.Nodes (in_turn (Forms.filtered (frame_of slots focus addresses)) ys (map plan_mean ps) g)) (sym at)
        (nodes_after slots focus addresses (map plan_mean ps) qs g)
    by (Err code, g) k = tt

-- # One string

-- a string, or a refusal
abbrev IsOneText : Judged (List Item) → Type 0
IsOneText (Ok xs) = Holds has.Text xs
IsOneText (Err code) = Unit {0}

then_text : {A : Type 0} (r : Judged A) (result : A → Text) → IsOneText (r >>= (λ x. Ok (text (result x))))
then_text (Ok x) result = ((tt, tt), tt)
then_text (Err code) result = tt

string_text : (trees : List Tree) (xs : List Item) → IsOneText (string trees xs)
string_text trees [] = ((tt, tt), tt)
string_text trees (x ∷ []) = ((tt, tt), tt)
string_text trees (x ∷ y ∷ xs) = tt

called_string : (trees : List Tree) (addresses : List Text) (focus : Option Focus) (values : List (List Item)) → IsOneText (called f.String trees addresses focus values)
called_string trees addresses None [] = tt
called_string trees addresses (Some here) [] = ((tt, tt), tt)
called_string trees addresses focus (xs ∷ []) = string_text trees xs
called_string trees addresses focus (xs ∷ ys ∷ []) = tt
called_string trees addresses focus (xs ∷ ys ∷ zs ∷ []) = tt
called_string trees addresses focus (w ∷ xs ∷ ys ∷ zs ∷ more) = tt

called_concat : (trees : List Tree) (addresses : List Text) (focus : Option Focus) (values : List (List Item)) → IsOneText (called f.Concat trees addresses focus values)
called_concat trees addresses None [] = tt
called_concat trees addresses (Some here) [] = tt
called_concat trees addresses focus (xs ∷ []) = tt
called_concat trees addresses focus (xs ∷ ys ∷ []) = then_text _ (joined [])
called_concat trees addresses focus (xs ∷ ys ∷ zs ∷ []) = then_text _ (joined [])
called_concat trees addresses focus (w ∷ xs ∷ ys ∷ zs ∷ more) = then_text _ (joined [])

called_join : (trees : List Tree) (addresses : List Text) (focus : Option Focus) (values : List (List Item)) → IsOneText (called f.StringJoin trees addresses focus values)
called_join trees addresses None [] = tt
called_join trees addresses (Some here) [] = tt
called_join trees addresses focus (xs ∷ []) = ((tt, tt), tt)
called_join trees addresses focus (xs ∷ ys ∷ []) = then_text (one_text (atomized trees ys)) (λ t. joined t (map text_of (atomized trees xs)))
called_join trees addresses focus (xs ∷ ys ∷ zs ∷ []) = tt
called_join trees addresses focus (w ∷ xs ∷ ys ∷ zs ∷ more) = tt

call_text : (name : Function) → ((trees : List Tree) (addresses : List Text) (focus : Option Focus) (values : List (List Item)) → IsOneText (called name trees addresses focus values)) →
    IsOfText name
call_text name h ps frame trees =
    subst (λ m. GivesHeld has.Text (m frame trees)) (sym (plan_eq.plan-Call name ps))
    (by (for_each (λ (part : Meaning). part frame) (map plan_mean ps) trees))
  where
    told : (r : Judged (List Item)) (g : List Tree) → IsOneText r → GivesHeld has.Text (r, g)
    told (Ok xs) g k = k
    told (Err code) g k = tt

    by : (o : Outcome (List (List Item))) → GivesHeld has.Text (go_on o (λ values. on_trees (λ trees. called name trees frame.addresses frame.focus values)))
    by (Ok values, g) = told (called name g frame.addresses frame.focus values) g (h g frame.addresses frame.focus values)
    by (Err code, g) = tt

-- # Documents

abbrev IsOfNodesAlone : Judged (List Item) → Type 0
IsOfNodesAlone (Ok xs) = AreNodes xs
IsOfNodesAlone (Err code) = Unit {0}

from_nodes : (n : ℕ) (addresses : List Text) (address : Text) → IsOfNodesAlone (document_from n addresses address)
from_nodes n [] address = tt
from_nodes n (a ∷ others) address = by (text_eq a address) refl (from_nodes (suc n) others address)
  where
    by : (b : Bool) → text_eq a address ≡ b → IsOfNodesAlone (document_from (suc n) others address) → IsOfNodesAlone (document_from n (a ∷ others) address)
    by true e rest = rw e (root_of n ∷ [], refl)
    by false e rest = rw e rest

document_nodes : (addresses : List Text) (address : Text) → IsOfNodesAlone (document addresses address)
document_nodes addresses address = by (is_address address)
  where
    by : (b : Bool) → IsOfNodesAlone (only_if b FODC0005 address >>= (λ good. document_from 0 addresses good))
    by true = from_nodes 0 addresses address
    by false = tt

doc_nodes : (addresses : List Text) (atoms : List Atomic) → IsOfNodesAlone (doc addresses atoms)
doc_nodes addresses [] = ([], refl)
doc_nodes addresses (Integer n ∷ []) = tt
doc_nodes addresses (Decimal m ∷ []) = tt
doc_nodes addresses (String t ∷ []) = document_nodes addresses t
doc_nodes addresses (Boolean b ∷ []) = tt
doc_nodes addresses (Untyped t ∷ []) = document_nodes addresses t
doc_nodes addresses (a ∷ b ∷ more) = tt

called_doc : (trees : List Tree) (addresses : List Text) (focus : Option Focus) (values : List (List Item)) → IsOfNodesAlone (called f.Doc trees addresses focus values)
called_doc trees addresses None [] = tt
called_doc trees addresses (Some here) [] = tt
called_doc trees addresses focus (xs ∷ []) = doc_nodes addresses (atomized trees xs)
called_doc trees addresses focus (xs ∷ ys ∷ []) = tt
called_doc trees addresses focus (xs ∷ ys ∷ zs ∷ []) = tt
called_doc trees addresses focus (w ∷ xs ∷ ys ∷ zs ∷ more) = tt

pub doc_held : (known : List Held) (p : Plan) (ps : List Plan) → p ≡ plan.Call f.Doc ps → IsHeld known has.Nodes p
doc_held known p ps is slots focus addresses trees fits =
    subst (λ m. GivesHeld has.Nodes (m frame trees)) (sym (ap plan_mean is ∙ plan_eq.plan-Call f.Doc ps))
    (by (for_each (λ (part : Meaning). part frame) (map plan_mean ps) trees))
  where
    frame : Frame
    frame = frame_of slots focus addresses

    told : (r : Judged (List Item)) (g : List Tree) → IsOfNodesAlone r → GivesHeld has.Nodes (r, g)
    told (Ok xs) g k = k
    told (Err code) g k = tt

    by : (o : Outcome (List (List Item))) → GivesHeld has.Nodes (go_on o (λ values. on_trees (λ ts. called f.Doc ts addresses focus values)))
    by (Ok values, g) = told (called f.Doc g addresses focus values) g (called_doc g addresses focus values)
    by (Err code, g) = tt

pub string_call : IsOfText f.String
string_call = call_text f.String called_string

pub concat_call : IsOfText f.Concat
concat_call = call_text f.Concat called_concat

pub join_call : IsOfText f.StringJoin
join_call = call_text f.StringJoin called_join

pub text_call : (name : Function) (p : Plan) (ps : List Plan) → p ≡ plan.Call name ps → IsOfText name → GivesText p
text_call name p ps is h = subst GivesText (sym is) (h ps)

pub literal_text : (p : Plan) (t : Text) → p ≡ plan.Str t → GivesText p
literal_text p t is frame trees =
    subst (λ m. GivesHeld has.Text (m frame trees)) (sym (ap plan_mean is ∙ plan_eq.plan-Str t)) ((tt, tt), tt)

pub text_held : (known : List Held) (p : Plan) → GivesText p → IsHeld known has.Text p
text_held known p h slots focus addresses trees fits = h (frame_of slots focus addresses) trees

pub int_held : (known : List Held) (p : Plan) (n : ℤ) → p ≡ plan.Int n → IsHeld known has.Item p
int_held known p n is slots focus addresses trees fits =
    subst (λ m. GivesHeld has.Item (m (frame_of slots focus addresses) trees)) (sym (ap plan_mean is ∙ plan_eq.plan-Int n)) tt

pub dec_held : (known : List Held) (p : Plan) (n : ℤ) → p ≡ plan.Dec n → IsHeld known has.Item p
dec_held known p n is slots focus addresses trees fits =
    subst (λ m. GivesHeld has.Item (m (frame_of slots focus addresses) trees)) (sym (ap plan_mean is ∙ plan_eq.plan-Dec n)) tt

-- # Texts

each_text : (o : Outcome (List Item)) → GivesHeld has.Text o → Gives (AllByRecursion IsTextItem) o
each_text (Ok xs, g) h = h.0
each_text (Err code, g) h = tt

bang_gives : (p : Plan) → GivesText p → (frame : Frame) (xs : List Item) (t : List Tree) → Gives (AllByRecursion IsTextItem) (Forms.bang frame xs (plan_mean p) t)
bang_gives p h frame xs t =
    collected_give IsTextItem (λ (at : Focus). plan_mean p (Forms.in_focus frame at)) (focuses xs) [] t
    (always (λ (at : Focus). (g : List Tree) → Gives (AllByRecursion IsTextItem) (plan_mean p (Forms.in_focus frame at) g))
    (λ at g. each_text (plan_mean p (Forms.in_focus frame at) g) (h (Forms.in_focus frame at) g)) (focuses xs)) tt

any_gives : {A : Type 0} (o : Outcome A) → Gives (λ x. Unit {0}) o
any_gives (Ok x, g) = tt
any_gives (Err code, g) = tt

pub map_held : (known : List Held) (p start : Plan) (ps : List Plan) → p ≡ plan.Map start ps → EndsInText ps → IsHeld known has.Texts p
map_held known p start ps is (before, q, cut, h) slots focus addresses trees fits =
    let frame = frame_of slots focus addresses in
    subst (λ m. GivesHeld has.Texts (m frame trees)) (sym (ap plan_mean (is ∙ ap (plan.Map start) cut) ∙ plan_eq.plan-Map start (before ++ q ∷ [])))
    (by (plan_mean start frame trees))
  where
    here : Frame
    here = frame_of slots focus addresses

    by : (o : Outcome (List Item)) → GivesHeld has.Texts (go_on o (λ xs. in_turn (Forms.bang here) xs (map plan_mean (before ++ q ∷ []))))
    by (Ok xs, g) =
        subst (GivesHeld has.Texts)
        (sym (ap (λ ms. in_turn (Forms.bang here) xs ms g) (map-append plan_mean before (q ∷ [])) ∙ last_turn (Forms.bang here) xs (map plan_mean before) (plan_mean q) g))
        (gives_held has.Texts _
        (then_gives (λ ys. Unit {0}) (AllByRecursion IsTextItem) (in_turn (Forms.bang here) xs (map plan_mean before) g) (λ ys. Forms.bang here ys (plan_mean q))
        (any_gives (in_turn (Forms.bang here) xs (map plan_mean before) g)) (λ ys t all. bang_gives q h here ys t)))
    by (Err code, g) = tt

strings_give : (frame : Frame) (ps : List Plan) → AllByRecursion IsString ps →
    AllByRecursion (λ (m : Meaning). (g : List Tree) → Gives (AllByRecursion IsTextItem) (m frame g)) (map plan_mean ps)
strings_give frame [] all = tt
strings_give frame (p ∷ ps) all =
    ((λ g. each_text (plan_mean p frame g) (literal_text p all.0.0 all.0.1 frame g)), strings_give frame ps all.1)

pub sequence_held : (known : List Held) (p : Plan) (ps : List Plan) → p ≡ plan.Sequence ps → AllByRecursion IsString ps → IsHeld known has.Texts p
sequence_held known p ps is all slots focus addresses trees fits =
    let frame = frame_of slots focus addresses in
    subst (λ m. GivesHeld has.Texts (m frame trees)) (sym (ap plan_mean is ∙ plan_eq.plan-Sequence ps))
    (gives_held has.Texts _ (collected_give IsTextItem (λ (part : Meaning). part frame) (map plan_mean ps) [] trees (strings_give frame ps all) tt))

text_items : (as' : List Atomic) → AllByRecursion IsText as' → AllByRecursion IsTextItem (map Atom as')
text_items [] h = tt
text_items (a ∷ as') h = (h.0, text_items as' h.1)

-- a function of the atoms of nodes
atoms_held : (known : List Held) (name : Function) (pick : List Atomic → List Atomic) → ((as' : List Atomic) → AllByRecursion IsText as' → AllByRecursion IsText (pick as')) →
    ((trees : List Tree) (addresses : List Text) (focus : Option Focus) (xs : List Item) → called name trees addresses focus (xs ∷ []) ≡ Ok (map Atom (pick (atomized trees xs)))) →
    (p : Plan) → IsHeld known has.Nodes p → IsHeld known has.Texts (plan.Call name (p ∷ []))
atoms_held known name pick stay is p h slots focus addresses trees fits =
    subst (λ m. GivesHeld has.Texts (m (frame_of slots focus addresses) trees)) (sym (plan_eq.plan-Call name (p ∷ [])))
    (by (plan_mean p (frame_of slots focus addresses) trees) (h slots focus addresses trees fits))
  where
    by : (o : Outcome (List Item)) → GivesHeld has.Nodes o →
        GivesHeld has.Texts (go_on (go_on (go_on o (λ y. give ([] ++ y ∷ []))) (λ next. give next)) (λ values. on_trees (λ ts. called name ts addresses focus values)))
    by (Ok xs, g) (ps, at) =
        subst (λ (r : Judged (List Item)). GivesHeld has.Texts (r, g)) (sym (is g addresses focus xs))
        (text_items (pick (atomized g xs)) (stay (atomized g xs) (subst (λ ys. AllByRecursion IsText (atomized g ys)) (sym at) (nodes_have_texts g ps))))
    by (Err code, g) k = tt

pub data_held : (known : List Held) (p : Plan) → IsHeld known has.Nodes p → IsHeld known has.Texts (plan.Call f.Data (p ∷ []))
data_held known = atoms_held known f.Data (λ as'. as') (λ as' h. h) (λ trees addresses focus xs. refl)

pub distinct_held : (known : List Held) (p : Plan) → IsHeld known has.Nodes p → IsHeld known has.Texts (plan.Call f.DistinctValues (p ∷ []))
distinct_held known =
    atoms_held known f.DistinctValues distinct_values (λ as' h. firsts_all IsText (λ a b. key_eq (key a) (key b)) as' h) (λ trees addresses focus xs. refl)

-- texts where that was found
pub texts_where : (known : List Held) (p : Plan) (found : Bool) (held : Held) → held ≡ (if found then has.Texts else has.Anything) → (found ≡ true → IsHeld known has.Texts p) → IsHeld known held p
texts_where known p true held is h = subst (λ k. IsHeld known k p) (sym is) (h refl)
texts_where known p false held is h = subst (λ k. IsHeld known k p) (sym is) (anything_held known p)

-- # Texts of slots

texts_of : (held : Held) → IsOfTexts held → (xs : List Item) → Holds held xs → AllByRecursion IsTextItem xs
texts_of has.Texts of xs h = h
texts_of has.Text of xs h = h.0
texts_of has.Nodes of xs h = absurd of
texts_of has.Node of xs h = absurd of
texts_of has.Item of xs h = absurd of
texts_of has.Anything of xs h = absurd of

few_of : (held : Held) → IsOfOne held → (xs : List Item) → Holds held xs → AreFew xs
few_of has.Node of xs h = h.1
few_of has.Text of xs h = h.1
few_of has.Item of xs h = h
few_of has.Nodes of xs h = absurd of
few_of has.Texts of xs h = absurd of
few_of has.Anything of xs h = absurd of

text_atoms : (trees : List Tree) (xs : List Item) → AllByRecursion IsTextItem xs → AllByRecursion IsText (atomized trees xs)
text_atoms trees [] h = tt
text_atoms trees (Node p ∷ xs) h = absurd h.0
text_atoms trees (Atom a ∷ xs) h = (h.0, text_atoms trees xs h.1)

pub slot_texts : (known : List Held) (p : Plan) (n : ℕ) → p ≡ plan.Slot n → IsKnown IsOfTexts known n → AreSlotTexts known p
slot_texts known p n at (held, is, of) = subst (AreSlotTexts known) (sym at) (record {
  sure = λ slots focus addresses trees fits. (
    value_at n slots,
    text_atoms trees (value_at n slots) (texts_of held of (value_at n slots) (slot_held n known slots held fits is)),
    ap (λ m. m (frame_of slots focus addresses) trees) (plan_eq.plan-Slot n),
  );
  below = slot_below known n held is;
  free = slot_ignores n;
})

string_few : (trees : List Tree) (xs : List Item) → AreFew xs → (t : Text) × (string trees xs ≡ Ok (text t))
string_few trees [] h = ([], refl)
string_few trees (x ∷ []) h = (item_text trees x, refl)
string_few trees (x ∷ y ∷ xs) h = absurd h

string_slot_is : (n : ℕ) (slots : Slots) (focus : Option Focus) (addresses : List Text) (trees : List Tree) →
    plan_mean (plan.Call f.String (plan.Slot n ∷ [])) (frame_of slots focus addresses) trees ≡ (string trees (value_at n slots), trees)
string_slot_is n slots focus addresses trees =
    let frame = frame_of slots focus addresses in
    ap (λ m. m frame trees) (plan_eq.plan-Call f.String (plan.Slot n ∷ []))
    ∙ ap (λ (m : Meaning). Forms.call f.String (m ∷ []) frame trees) (plan_eq.plan-Slot n)

pub string_texts : (known : List Held) (p : Plan) (ps : List Plan) → p ≡ plan.Call f.String ps → IsSlotOfOne known ps → AreSlotTexts known p
string_texts known p ps is (n, one, (held, at, of)) = subst (AreSlotTexts known) (sym (is ∙ ap (plan.Call f.String) one)) (record {
  sure = λ slots focus addresses trees fits.
      let told = string_few trees (value_at n slots) (few_of held of (value_at n slots) (slot_held n known slots held fits at)) in
      (text told.0, (tt, tt), string_slot_is n slots focus addresses trees ∙ ap (λ r. (r, trees)) told.1);
  below = λ slots more focus addresses trees fits.
      string_slot_is n (slots ++ more) focus addresses trees
      ∙ ap (λ xs. (string trees xs, trees)) (value_below n known slots more held fits at)
      ∙ sym (string_slot_is n slots focus addresses trees);
  free = λ slots focus other addresses trees.
      string_slot_is n slots focus addresses trees ∙ sym (string_slot_is n slots other addresses trees);
})

pub slot_texts_found : (known : List Held) (p : Plan) → AreSlotTexts known p → SurelyFindsTexts known p
slot_texts_found known p h slots addresses trees fits place =
    let found = h.sure slots (Some (on_node place 1 1)) addresses trees fits in (
      found.0,
      found.1,
      λ position last.
          h.free slots (Some (on_node place position last)) (Some (on_node place 1 1)) addresses trees ∙ found.2,
    )
