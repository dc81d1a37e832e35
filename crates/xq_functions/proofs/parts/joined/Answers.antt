use Rattle.std.proofs.Common.{◌≡◌, ◌==◌, ◌++◌, ◌∷◌, [], ◌+◌, map, take, length, string_bytes, sym, ap, ◌∙◌, arith}
use Rattle.std.proofs.lemmas.List.{map_more, length-map, length-take-le, take_all}
use Rattle.std.proofs.lemmas.Bool.{ne_eqb}
use mathlib.Core.List.{map-map}
use Rattle.xq_atoms.specs.declared.atoms.Atom.{Atom}
use Rattle.xq_atoms.specs.Text.{Text}
use Rattle.xq_atoms.specs.Atom.{atomic_of}
use Rattle.xq_atoms.specs.Cast.{text_of}
use Rattle.xq_meaning.specs.Texts as Texts
use Rattle.xq_functions.proofs.JoinLemmas.{joined-more, joined-first}
use Rattle.xq_functions.proofs.parts.joined.Goals as goal
use Rattle.xq_functions.proofs.parts.joined.Goals.{then-not-is_first+in_ok-push_str, else-not-is_first}

pub loop-atom-preserved : goal.loop-atom-preserved
loop-atom-preserved c =
    let f : Atom → Text = λ atom. text_of (atomic_of atom) in
    let atoms = c.args.atoms.now in
    let i = c.loop-atom.atom-index in
    let separator = c.args.separator.now in
    let done = map f (take i atoms) in
    let this = f c.atom-item.result in
    let count : length done ≡ i = length-map (take i atoms) f ∙ length-take-le i atoms (omega arith) in
    let before : (length done == 0) ≡ c.loop-atom.is_first = ap (λ n. n == 0) count ∙ sym c.loop-atom.invariant.first in
    let more = map_more f atoms i c.atom-item.result (omega arith) in
    let item : map f (take (i + 1) atoms) ≡ done ++ this ∷ [] = more ∙ ap (λ x. done ++ f x ∷ []) (sym c.atom-item.is) in
    let pushed : string_bytes c.push_text.new.text ≡ string_bytes c.if-not-is_first.text ++ this = c.in_ok-push_text.ensures.text in
    let text : string_bytes c.push_text.new.text ≡ Texts.joined separator (done ++ this ∷ []) =
    elim c.if-not-is_first.branch [
      | then-not-is_first+in_ok-push_str w ↦
          pushed ∙ ap (λ t. string_bytes t ++ this) w.text-is ∙ ap (λ t. t ++ this) (w.in_ok-push_str.ensures.bytes ∙ ap (λ t. t ++ separator) c.loop-atom.invariant.text)
          ∙ sym (joined-more separator done this (before ∙ w.if-not-is_first.true))
      | else-not-is_first w ↦
          pushed ∙ ap (λ t. string_bytes t ++ this) w.text-is ∙ ap (λ t. t ++ this) c.loop-atom.invariant.text ∙ sym (joined-first separator done this (before ∙ w.if-not-is_first.false))
    ] in
    record { text = text ∙ ap (Texts.joined separator) (sym item); first = sym (ne_eqb (i + 1) 0 (λ e. omega (arith, e))) }

pub returns-clause-text : goal.returns-clause-text
returns-clause-text c =
    let atoms = c.args.atoms.now in
    c.loop-atom.invariant.text ∙ ap (λ l. Texts.joined c.args.separator.now l) (ap (map (λ (atom : Atom). text_of (atomic_of atom))) (take_all c.loop-atom.atom-index atoms (omega arith)) ∙ sym (map-map text_of atomic_of atoms))
