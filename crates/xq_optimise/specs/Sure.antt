-- Parts that can't be refused and make no nodes, where the slots are as known (XQuery 3.1, 2.3.4).
use Rattle.std.proofs.Common.{suc}
use Rattle.std.specs.Prelude.{◌≡◌, ℕ, List, ◌++◌, map, Bool, true, false, Option, Some, Ok}
use Rattle.std.specs.List.{AllByRecursion}
use Rattle.xq_atoms.specs.Text.{Text}
use Rattle.xq_trees.specs.Tree.{Tree}
use Rattle.xq_meaning.specs.declared.plans.Plan.{Plan}
use Rattle.xq_meaning.specs.Doing.{go_on, in_turn, judged}
use Rattle.xq_meaning.specs.Functions.{Focus}
use Rattle.xq_meaning.specs.Forms
use Rattle.xq_meaning.specs.Items.{Item, Place, Node, atomized}
use Rattle.xq_meaning.specs.Operators.{keeps}
use Rattle.xq_meaning.specs.PlanMeaning.{Slots, Meaning, plan_mean}
use Rattle.xq_meaning.specs.Same.{frame_of}
use Rattle.xq_optimise.specs.declared.held.Held.{Held}
use Rattle.xq_optimise.specs.Known.{IsText, Fits}

-- the part gives nodes, and leaves the trees as they are
abbrev pub SurelyNodes : List Held → Plan → Type 0
SurelyNodes known p =
    (slots : Slots) (focus : Option Focus) (addresses : List Text) (trees : List Tree) →
    Fits known slots → (places : List Place)
    × (plan_mean p (frame_of slots focus addresses) trees ≡ (Ok (map Node places), trees))

-- each item of its value atomizes to a text, and it leaves the trees as they are
abbrev pub SurelyTexts : List Held → Plan → Type 0
SurelyTexts known p =
    (slots : Slots) (focus : Option Focus) (addresses : List Text) (trees : List Tree) →
    Fits known slots → (xs : List Item) × AllByRecursion IsText (atomized trees xs)
    × (plan_mean p (frame_of slots focus addresses) trees ≡ (Ok xs, trees))

-- its value has a truth, and it leaves the trees as they are
abbrev pub SurelyTells : List Held → Plan → Type 0
SurelyTells known p =
    (slots : Slots) (focus : Option Focus) (addresses : List Text) (trees : List Tree) →
    Fits known slots → (truth : Bool)
    × (Forms.tested (plan_mean p) (frame_of slots focus addresses) trees ≡ (Ok truth, trees))

-- its value is that of the slots that are known, whatever slots come after them
abbrev pub ReadsBelow : List Held → Plan → Type 0
ReadsBelow known p =
    (slots more : Slots) (focus : Option Focus) (addresses : List Text) (trees : List Tree) →
    Fits known slots →
    plan_mean p (frame_of (slots ++ more) focus addresses) trees
    ≡ plan_mean p (frame_of slots focus addresses) trees

-- its value is the same whatever the focus is
abbrev pub IgnoresFocus : Plan → Type 0
IgnoresFocus p =
    (slots : Slots) (focus other : Option Focus) (addresses : List Text) (trees : List Tree) →
    plan_mean p (frame_of slots focus addresses) trees
    ≡ plan_mean p (frame_of slots other addresses) trees

-- a test that can't be refused and reads those slots alone
pub record IsTest (known : List Held) (p : Plan) : Type 0 where
  pub tells : SurelyTells known p
  pub below : ReadsBelow known p

-- # Predicates (XQuery 3.1, 3.3.3)

-- the focus is a node
abbrev pub on_node : Place → ℕ → ℕ → Focus
on_node place position last = record { item = Node place; position = position; last = last }

-- two focuses: any, or two on the same node
abbrev pub AreAlike : Bool → Option Focus → Option Focus → Type 0
AreAlike false focus other = Unit {0}
AreAlike true focus other =
    (place : Place) × (position : ℕ) × (last : ℕ) × (also : ℕ) × (count : ℕ)
    × (focus ≡ Some (on_node place position last)) × (other ≡ Some (on_node place also count))

-- the value is the same with such focuses
abbrev pub IgnoresBy : Bool → Plan → Type 0
IgnoresBy at_node p =
    (slots : Slots) (focus other : Option Focus) → AreAlike at_node focus other →
    (addresses : List Text) (trees : List Tree) →
    plan_mean p (frame_of slots focus addresses) trees
    ≡ plan_mean p (frame_of slots other addresses) trees

-- with a node in focus the value is the same, whatever the position
abbrev pub IgnoresPosition : Plan → Type 0
IgnoresPosition p =
    (slots : Slots) (addresses : List Text) (trees : List Tree) (place : Place)
    (position last also count : ℕ) →
    plan_mean p (frame_of slots (Some (on_node place position last)) addresses) trees
    ≡ plan_mean p (frame_of slots (Some (on_node place also count)) addresses) trees

-- with a node in focus, the part has this truth, by the node and its position, also as a predicate,
-- and leaves the trees as they are
abbrev pub KeepsBy : Slots → List Text → List Tree → Meaning → (Place → ℕ → Bool) → Type 0
KeepsBy slots addresses trees m truth =
    (place : Place) (position last : ℕ) →
    let frame = frame_of slots (Some (on_node place position last)) addresses in
    (Forms.tested m frame trees ≡ (Ok (truth place position), trees))
    × (go_on (m frame trees) (λ value. judged (keeps position value))
    ≡ (Ok (truth place position), trees))

-- it has one at each node and position
abbrev pub SurelyDecides : List Held → Plan → Type 0
SurelyDecides known p =
    (slots : Slots) (addresses : List Text) (trees : List Tree) → Fits known slots →
    (truth : Place → ℕ → Bool) × KeepsBy slots addresses trees (plan_mean p) truth

-- it asks the node alone
abbrev pub SurelyKeeps : List Held → Plan → Type 0
SurelyKeeps known p =
    (slots : Slots) (addresses : List Text) (trees : List Tree) → Fits known slots →
    (truth : Place → Bool)
    × KeepsBy slots addresses trees (plan_mean p) (λ place position. truth place)

-- it asks the position alone, and keeps those before each that it keeps
abbrev pub KeepsFirst : List Held → Plan → Type 0
KeepsFirst known p =
    (slots : Slots) (addresses : List Text) (trees : List Tree) → Fits known slots →
    (truth : ℕ → Bool) × ((position : ℕ) → truth (suc position) ≡ true → truth position ≡ true)
    × KeepsBy slots addresses trees (plan_mean p) (λ place position. truth position)

-- with a node in focus the part gives nodes, whatever the position, and leaves the trees
abbrev pub SurelyFinds : Plan → Type 0
SurelyFinds p =
    (slots : Slots) (addresses : List Text) (trees : List Tree) (place : Place) →
    (found : List Place) × ((position last : ℕ) →
    plan_mean p (frame_of slots (Some (on_node place position last)) addresses) trees
    ≡ (Ok (map Node found), trees))

-- it gives items that atomize to texts
abbrev pub SurelyFindsTexts : List Held → Plan → Type 0
SurelyFindsTexts known p =
    (slots : Slots) (addresses : List Text) (trees : List Tree) → Fits known slots →
    (place : Place) → (found : List Item) × AllByRecursion IsText (atomized trees found)
    × ((position last : ℕ) →
    plan_mean p (frame_of slots (Some (on_node place position last)) addresses) trees
    ≡ (Ok found, trees))

-- predicates that keep the same of any nodes, or are refused alike
abbrev pub SamePredicates : List Held → List Plan → List Plan → Type 0
SamePredicates known ps qs =
    (slots : Slots) (focus : Option Focus) (addresses : List Text) → Fits known slots →
    (places : List Place) (trees : List Tree) →
    in_turn (Forms.filtered (frame_of slots focus addresses)) (map Node places)
    (map plan_mean qs) trees
    ≡ in_turn (Forms.filtered (frame_of slots focus addresses)) (map Node places)
    (map plan_mean ps) trees
