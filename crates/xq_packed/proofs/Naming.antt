-- Rows that have no name that is asked for.
use Rattle.std.proofs.Common.{◌≡◌, ◌<◌, ℕ, List, length, Bool, true, false, ◌&&◌, refl, sym, ap}
use Rattle.std.proofs.lemmas.Slice.Eq.{bytes_eq-Decides}
use Rattle.xq_atoms.specs.Text.{Text, text_eq}
use Rattle.xq_trees.specs.Rows.{Row, row_at}
use Rattle.xq_packed.specs.Packed.{NoneNamed}
use Rattle.xq_packed.specs.Values.{is_attribute, is_named, is_valued}

-- two tests that follow from one another are one
pub same_test : (b c : Bool) → (b ≡ true → c ≡ true) → (c ≡ true → b ≡ true) → b ≡ c
same_test true c f g = sym (f refl)
same_test false true f g = g refl
same_test false false f g = refl

and_false : (b c : Bool) → c ≡ false → (b && c) ≡ false
and_false true c e = e
and_false false c e = refl

-- where no row has the name, none is that of an attribute with it
pub none-named : (rows : List Row) (name : Text) → NoneNamed rows name → (at : ℕ) → at < length rows → is_named name (row_at rows at) ≡ false
none-named rows name none at l =
    let r = row_at rows at in
    and_false (is_attribute r.label.kind) (text_eq name r.label.name) (by (text_eq name r.label.name) refl)
  where
    by : (b : Bool) → text_eq name (row_at rows at).label.name ≡ b → text_eq name (row_at rows at).label.name ≡ false
    by false e = e
    by true e = absurd (none at l (sym ((bytes_eq-Decides name (row_at rows at).label.name).0 e)))

-- and none with a value
pub none-valued : (rows : List Row) (name value : Text) → NoneNamed rows name → (at : ℕ) → at < length rows → is_valued name value (row_at rows at) ≡ false
none-valued rows name value none at l =
    ap (λ b. b && text_eq value (row_at rows at).label.value) (none-named rows name none at l)
