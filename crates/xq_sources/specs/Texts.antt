-- The name and the value of a row that is lent.
use Rattle.std.specs.Prelude.{ℕ, List, refl}
use Rattle.std.specs.Coded.{Coded, code_by, coded×, coded_ℕ, coded_list}

-- a name and a value
pub record Texts : Type 0 where
  pub name : List ℕ
  pub value : List ℕ

-- told by both
abbrev pub texts_code : Coded Texts
texts_code =
    code_by (List ℕ × List ℕ) (coded× (coded_list coded_ℕ) (coded_list coded_ℕ))
    (λ t. (t.name, t.value)) (λ p. record { name = p.0; value = p.1 }) (λ _. refl)
