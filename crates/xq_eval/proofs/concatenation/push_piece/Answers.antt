use Rattle.std.proofs.Common.{◌++◌, List, ℕ, ap, ◌∙◌, subst, Ok}
use Rattle.std.specs.Prelude.{string_bytes}
use Rattle.xq_atoms.specs.Atom.{String, atomic_of}
use Rattle.xq_meaning.specs.PlanMeaning.{plan_mean}
use Rattle.xq_eval.specs.private.Numbers.{TellsNumber}
use Rattle.xq_eval.proofs.AtHand.{slot_told}
use Rattle.xq_eval.proofs.Pieces.{literal_piece}
use Rattle.xq_eval.proofs.concatenation.push_piece.Goals as goal

pub returns-in-Str : goal.returns-in-Str
returns-in-Str c = λ trees frame env.
    (String c.in-Str.literal, (literal_piece c.args.part.now c.in-Str.literal frame trees c.in-Str.is, c.in_ok-push_str.ensures.bytes ∙ ap (λ (l : List ℕ). string_bytes c.args.text.now ++ l) c.as_str.ensures))

pub returns-in-Slot : goal.returns-in-Slot
returns-in-Slot c = λ trees frame env.
    (let a = atomic_of c.in-Some.atom.now in
    (a, (slot_told c.args.part.now c.in-Slot.slot frame trees c.args.slots.now a c.in-Slot.is env (c.in-Some.ensures trees), c.in_ok-push_atom.ensures)))

pub returns : goal.returns
returns c = λ trees frame env.
    (let value = subst (λ o. TellsNumber (plan_mean c.args.part.now frame trees) trees (Ok o)) c.in-Some-2.is (c.in_ok-number.ensures trees frame env) in
    (atomic_of c.in-Some-2.number, (value, c.in_ok-push_atom-2.ensures)))
