-- What the parts of an evaluation give besides items and tuples.
use Rattle.std.specs.Prelude.{List, Result}
use Rattle.std.specs.Global.{Vec}
use Rattle.xq_atoms.specs.declared.refusals.Fault.{Fault}
use Rattle.xq_atoms.specs.Atom.{Atomic}
use Rattle.xq_trees.specs.declared.items.Item.{Item as Held}
use Rattle.xq_trees.specs.Tree.{Tree}
use Rattle.xq_tuples.specs.declared.rows.Key.{Key}
use Rattle.xq_tuples.specs.Keys.{values_in, row_of, rows_in}
use Rattle.xq_meaning.specs.Items.{Item}
use Rattle.xq_meaning.specs.Doing.{Outcome}
use Rattle.xq_operators.specs.Views.{GivesAs, lists_of, tuple_at, TupleIn}

-- a sequence for each of several expressions
abbrev pub GivesLists : Outcome (List (List Item)) → List Tree → Result (Vec (Vec Held)) Fault →
    Type 0
GivesLists = GivesAs lists_of tuple_at TupleIn

-- # Values in which no tree has a part

abbrev pub GivesTests : {B : Type 0} → Outcome (List B) → List Tree → Result (Vec B) Fault → Type 0
GivesTests = GivesAs (λ v. v.items) (λ trees bs. bs) (λ trees bs. Unit {0})

abbrev pub GivesPlain : {B : Type 0} → Outcome B → List Tree → Result B Fault → Type 0
GivesPlain = GivesAs (λ b. b) (λ trees b. b) (λ trees b. Unit {0})

-- a key, those of one tuple, and those of each
abbrev pub GivesKey : Outcome (List Atomic) → List Tree → Result Key Fault → Type 0
GivesKey = GivesAs values_in (λ trees key. key) (λ trees key. Unit {0})

abbrev pub GivesKeys : Outcome (List (List Atomic)) → List Tree →
    Result (Vec Key) Fault → Type 0
GivesKeys = GivesAs row_of (λ trees keys. keys) (λ trees keys. Unit {0})

abbrev pub GivesRows : Outcome (List (List (List Atomic))) → List Tree →
    Result (Vec (Vec Key)) Fault → Type 0
GivesRows = GivesAs rows_in (λ trees rows. rows) (λ trees rows. Unit {0})
