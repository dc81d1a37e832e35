-- What calls are by the kind of their function, and what they give.
use Rattle.std.proofs.Common.{◌≡◌, ◌<◌, ◌≤◌, ◌++◌, List, [], ◌∷◌, length, map, Option, Some, None, Ok, Err, Result, refl, ap, arith}
use Rattle.std.specs.Global.{Vec}
use Rattle.std.proofs.lemmas.List.{length-append}
use Rattle.xq_atoms.specs.declared.refusals.Code.TheVariants.{XPST0017}
use Rattle.xq_atoms.specs.declared.refusals.Fault.{Fault}
use Rattle.xq_atoms.specs.Atom.{Atomic}
use Rattle.xq_atoms.specs.Text.{Text}
use Rattle.xq_atoms.specs.Answers.{GivesUnlessWanting}
use Rattle.xq_functions.specs.Answers.{items_of}
use Rattle.xq_functions.specs.Kinds.{argument_of}
use Rattle.xq_functions.specs.declared.kinds.Argument.TheVariants.{Missing, Nodes, Address}
use Rattle.xq_trees.specs.declared.items.Item.{Item as Held}
use Rattle.xq_trees.specs.Items.{ItemView, Value, item_view}
use Rattle.xq_trees.specs.Tree.{Tree}
use Rattle.xq_trees.specs.Tuples.{Tuple}
use Rattle.xq_expressions.specs.declared.signatures.Function.{Function}
use Rattle.xq_expressions.specs.declared.signatures.Function.TheVariants as f
use Rattle.xq_meaning.specs.Functions as fn
use Rattle.xq_meaning.specs.Items.{Item, Atom, atomized}
use Rattle.xq_meaning.specs.Readings.{items_at, AreIn}
use Rattle.xq_operators.specs.declared.contexts.Focus.{Focus}
use Rattle.xq_operators.specs.declared.contexts.EvalContext.{EvalContext}
use Rattle.xq_operators.specs.Views.{tuple_at, focus_at, frame_at, calling, FocusIn, FrameIn, TupleIn, GivesSequence}
use Rattle.xq_operators.specs.private.Calls.{at_focus}
use Rattle.xq_operators.proofs.CallResults.{SpotExists, called_exists}
use Rattle.xq_operators.proofs.Existing.{Exist, exists_at, exist_at, all_map}
use Rattle.xq_operators.proofs.Giving.{gives_judged}

-- # By the kind of the function

pub one_missing : (function : Function) (trees : List Tree) (addresses : List Text) (xs : List Item) → argument_of function ≡ Missing → fn.of_one function trees addresses xs ≡ Err XPST0017
one_missing f.Collection trees addresses xs on = refl
one_missing f.Concat trees addresses xs on = refl
one_missing f.Contains trees addresses xs on = refl
one_missing f.StartsWith trees addresses xs on = refl
one_missing f.EndsWith trees addresses xs on = refl
one_missing f.Substring trees addresses xs on = refl
one_missing f.SubstringBefore trees addresses xs on = refl
one_missing f.SubstringAfter trees addresses xs on = refl
one_missing f.True trees addresses xs on = refl
one_missing f.False trees addresses xs on = refl
one_missing f.Position trees addresses xs on = refl
one_missing f.Last trees addresses xs on = refl
one_missing function trees addresses xs on = (cc)

pub one_data : (function : Function) (trees : List Tree) (addresses : List Text) (xs : List Item) → argument_of function ≡ Nodes → (function ≡ f.Root → ⊥) → (function ≡ f.Name → ⊥) → (function ≡ f.LocalName → ⊥) → (function ≡ f.String → ⊥)
    → fn.of_one function trees addresses xs ≡ Ok (map Atom (atomized trees xs))
one_data f.Root trees addresses xs on a b c d = absurd (a refl)
one_data f.Name trees addresses xs on a b c d = absurd (b refl)
one_data f.LocalName trees addresses xs on a b c d = absurd (c refl)
one_data f.String trees addresses xs on a b c d = absurd (d refl)
one_data f.Data trees addresses xs on a b c d = refl
one_data function trees addresses xs on a b c d = (cc)

pub one_available : (function : Function) (trees : List Tree) (addresses : List Text) (xs : List Item) → argument_of function ≡ Address → (function ≡ f.Doc → ⊥) → fn.of_one function trees addresses xs ≡ fn.doc_available addresses (atomized trees xs)
one_available f.Doc trees addresses xs on a = absurd (a refl)
one_available f.DocAvailable trees addresses xs on a = refl
one_available function trees addresses xs on a = (cc)

pub focus_other : (function : Function) (trees : List Tree) (addresses : List Text) (here : fn.Focus) → (function ≡ f.Position → ⊥) → (function ≡ f.Last → ⊥) → at_focus function trees addresses here ≡ fn.of_context function trees addresses here
focus_other f.Position trees addresses here a b = absurd (a refl)
focus_other f.Last trees addresses here a b = absurd (b refl)
focus_other function trees addresses here a b = refl

pub map_atoms : (trees : List Tree) (as' : List Atomic) → map Atom as' ≡ items_at trees (map Value as')
map_atoms trees [] = refl
map_atoms trees (a ∷ as') = ap (λ l. Atom a ∷ l) (map_atoms trees as')

-- # What a call gives

spot_there : (trees : List Tree) (addresses : List Text) (room : length addresses ≤ length trees) (focus : Option Focus) → FocusIn trees focus → SpotExists trees addresses room (focus_at trees focus)
spot_there trees addresses room None h = tt
spot_there trees addresses room (Some here) h = exists_at trees (item_view here.item.now) h

pub call_gives : (old new : List Tree) (frame : EvalContext) (function : Function) (views : Tuple ItemView) (r : Result (Vec Held) Fault) → new ≡ old → FrameIn old frame → TupleIn old views
    → GivesUnlessWanting (items_of old) (fn.called function old frame.addresses.now (focus_at old frame.focus) (tuple_at old views)) r
    → GivesSequence (calling function (frame_at old frame) (tuple_at old views) old) new r
call_gives old new frame function views r same inside lists h =
    let addresses = frame.addresses.now in
    let room : length addresses ≤ length old = inside.addresses_in in
    gives_judged (fn.called function old addresses (focus_at old frame.focus) (tuple_at old views)) old new r same h
    (called_exists old addresses room function (focus_at old frame.focus) (tuple_at old views) (spot_there old addresses room frame.focus inside.focus_in) (all_map (AreIn old) (Exist old) (items_at old) (exist_at old) views lists))

-- the last of a list that has no other
pub lone : {A : Type 0} (xs ys : List A) (y : A) → xs ≡ ys ++ y ∷ [] → length xs < 2 → xs ≡ y ∷ []
lone xs [] y e h = e
lone xs (z ∷ zs) y e h = absurd (omega (arith, h, ap length e, length-append (z ∷ zs) (y ∷ [])))

pub nothing : {A : Type 0} (xs : List A) → length xs ≡ 0 → xs ≡ []
nothing [] h = refl
nothing (x ∷ xs) h = absurd (omega (arith, h))
