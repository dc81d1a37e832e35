-- Places that are found one after another.
use Rattle.std.specs.Prelude.{ℕ, List}

pub record Found : Type 0 where
  pub items : List ℕ
