-- The value of a query over documents, the text of its reply, and the document that it makes.
use Rattle.std.specs.Prelude.{◌≡◌, ℕ, List, [], ◌∷◌, Option, Some, None, Result, Ok, Err}
use Rattle.std.specs.Str.{IsUtf8}
use Rattle.xq_atoms.specs.declared.refusals.Code.TheVariants.{ProfNotdoc}
use Rattle.xq_atoms.specs.declared.refusals.Fault.{Fault}
use Rattle.xq_atoms.specs.declared.refusals.Fault.TheVariants.{Code as OfCode, Want as OfWant}
use Rattle.xq_atoms.specs.declared.refusals.Want.TheVariants.{Memory}
use Rattle.xq_atoms.specs.Judged.{Judged, ◌>>=◌}
use Rattle.xq_atoms.specs.Text.{Text}
use Rattle.xq_trees.specs.Tree.{Tree}
use Rattle.xq_trees.specs.declared.Kind.{Kind}
use Rattle.xq_trees.specs.declared.Kind.TheVariants.{Document, Element, Attribute, Text as TextNode, Comment, ProcessingInstruction}
use Rattle.xq_expressions.specs.declared.expressions.Expr.{Expr}
use Rattle.xq_meaning.specs.Items.{Item, Node, tree_below}
use Rattle.xq_meaning.specs.Print.{print_items, within_reply}
use Rattle.xq_meaning.specs.declared.plans.Plan.{Plan}
use Rattle.xq_meaning.specs.Doing.{Outcome}
use Rattle.xq_meaning.specs.Meaning.{evaluated}
use Rattle.xq_meaning.specs.PlanMeaning.{plan_mean}
use Rattle.xq_meaning.specs.Same.{frame_of}
use Rattle.xq_queries.specs.Reading.{IsRead, IsRefused}
use Rattle.xq_queries.specs.Scans.{ScansItsDocument}

-- items, and the trees that their nodes are of
abbrev pub Value : Type 0
Value = List Item × List Tree

-- the items with the trees, or the code
abbrev pub value_of : Outcome (List Item) → Judged Value
value_of (Ok xs, trees) = Ok (xs, trees)
value_of (Err code, trees) = Err code

-- XQuery 3.1, 2.2.3.2: the value of a query over the documents at these addresses
abbrev pub value : Expr → List Text → List Tree → Judged Value
value e addresses trees = value_of (evaluated e addresses trees)

-- the value of a plan over the documents at these addresses
abbrev pub plan_value : Plan → List Text → List Tree → Judged Value
plan_value plan addresses trees = value_of (plan_mean plan (frame_of [] None addresses) trees)

-- The plan has the expression's value over any documents.
abbrev pub IsPlanOf : Expr → Plan → Type 0
IsPlanOf e plan = (addresses : List Text) (trees : List Tree) →
    plan_value plan addresses trees ≡ value e addresses trees

-- what a text is read as: a plan of its expression, which scans the document that a path starts at,
-- or a refusal; only a text in UTF-8 takes memory
abbrev pub Plans : List ℕ → Result Plan Fault → Type 0
Plans text (Ok plan) = (e : Expr) × IsRead text e × IsPlanOf e plan × ScansItsDocument e plan
Plans text (Err (OfCode code)) = IsRefused text code
Plans text (Err (OfWant want)) = (want ≡ Memory) × IsUtf8 text

-- # The text of a reply

abbrev pub printed : Value → Text
printed v = print_items v.1 v.0

-- `prof:REPLY` where it is too long
abbrev pub reply_text : Judged Value → Judged Text
reply_text v = v >>= (λ v. within_reply (printed v))

-- # The document that a value is

abbrev pub if_document : Kind → Tree → Option Tree
if_document Document tree = Some tree
if_document Element tree = None
if_document Attribute tree = None
if_document TextNode tree = None
if_document Comment tree = None
if_document ProcessingInstruction tree = None

-- the tree of the one document node that the value is
abbrev pub document : Value → Option Tree
document (Node p ∷ [], trees) =
    let tree = tree_below trees p in if_document tree.root.kind tree
document _ = None

-- `prof:NOTDOC` where it is none
abbrev pub or_no_document : Option Tree → Judged Tree
or_no_document (Some tree) = Ok tree
or_no_document None = Err ProfNotdoc

-- the document that a value is, or the code for which there is none
abbrev pub made_document : Judged Value → Judged Tree
made_document v = v >>= (λ v. or_no_document (document v))
