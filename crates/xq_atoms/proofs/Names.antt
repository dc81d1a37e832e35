-- How a name begins.
use Rattle.std.proofs.Common.{◌≡◌, ℕ, List, [], ◌∷◌, Bool, true, false, ◌&&◌, refl, sym, ap, ◌∙◌}
use Rattle.std.specs.Prelude.{Some, slice_get}
use Rattle.std.specs.List.{list_all}
use Rattle.xq_atoms.specs.Characters.{is_name_start, is_name_char, is_name}
use Rattle.xq_atoms.proofs.Classes.{start_is_char}

and_passed : (a b c : Bool) → (a ≡ true → b ≡ true) → (a && c) ≡ (a && (b && c))
and_passed true b c f = ap (λ x. x && c) (sym (f refl))
and_passed false b c f = refl

-- the first character of a name may also stand behind it
pub is_name-all : (c : ℕ) (cs : List ℕ) → is_name (c ∷ cs) ≡ (is_name_start c && list_all is_name_char (c ∷ cs))
is_name-all c cs = and_passed (is_name_start c) (is_name_char c) (list_all is_name_char cs) (start_is_char c)

pub is_name-first : (cs : List ℕ) (c : ℕ) → Some c ≡ slice_get cs 0 → is_name cs ≡ (is_name_start c && list_all is_name_char cs)
is_name-first [] c e = absurd (cc)
is_name-first (d ∷ cs) c e =
    let same : c ≡ d = cc in
    is_name-all d cs ∙ ap (λ x. is_name_start x && list_all is_name_char (d ∷ cs)) (sym same)
