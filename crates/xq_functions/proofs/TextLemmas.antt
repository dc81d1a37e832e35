-- Texts of several lists, put together.
use Rattle.std.proofs.Common.{◌≡◌, List, [], ◌∷◌, ◌++◌, map, Ok, Err, flat_map, refl, sym, ap, ◌∙◌}
use Rattle.std.proofs.lemmas.List.{append-nil, append_assoc}
use Rattle.xq_atoms.specs.declared.refusals.Code.{Code}
use Rattle.xq_atoms.specs.Judged.{Judged, ◌>>=◌}
use Rattle.xq_atoms.specs.Text.{Text}
use Rattle.xq_atoms.specs.Atom.{Atomic}
use Rattle.xq_atoms.specs.Cast.{text_of}
use Rattle.xq_meaning.specs.Texts.{joined}
use Rattle.xq_meaning.specs.Arguments.{text, each}
use Rattle.xq_meaning.specs.Functions.{piece}
use Rattle.xq_functions.specs.private.Running.{concatenating}

joined-cons : (t : Text) (ts : List Text) → joined [] (t ∷ ts) ≡ t ++ joined [] ts
joined-cons t [] = sym (append-nil t)
joined-cons t (u ∷ us) = ap (λ x. x ++ joined [] (u ∷ us)) (append-nil t)

-- fn:string-join without a separator
pub joined-texts : (atoms : List Atomic) → joined [] (map text_of atoms) ≡ flat_map text_of atoms
joined-texts [] = refl
joined-texts (a ∷ atoms) = joined-cons (text_of a) (map text_of atoms) ∙ ap (λ x. text_of a ++ x) (joined-texts atoms)

concatenating-pieces : (done t : Text) (judged : Judged (List Text)) → (judged >>= (λ ps. Ok (t ∷ ps)) >>= (λ ps. Ok (text (done ++ joined [] ps)))) ≡ (judged >>= (λ ps. Ok (text ((done ++ t) ++ joined [] ps))))
concatenating-pieces done t (Err code) = refl
concatenating-pieces done t (Ok ps) = ap (λ x. Ok (text x)) (ap (λ x. done ++ x) (joined-cons t ps) ∙ sym (append_assoc done t (joined [] ps)))

-- a list more, which has a text
pub concatenating-more : (done t : Text) (atoms : List Atomic) (lists : List (List Atomic)) → piece atoms ≡ Ok t → concatenating done (atoms ∷ lists) ≡ concatenating (done ++ t) lists
concatenating-more done t atoms lists e = rw e (concatenating-pieces done t (each piece lists))

-- or is refused
pub concatenating-err : (done : Text) (code : Code) (atoms : List Atomic) (lists : List (List Atomic)) → piece atoms ≡ Err code → concatenating done (atoms ∷ lists) ≡ Err code
concatenating-err done code atoms lists e = rw e refl
