-- The places that are kept of attributes by their names, in the order of their values.
use Rattle.std.specs.Prelude.{ℕ, List, IfSome, String}
use Rattle.std.specs.Global.{Global}
use Rattle.std.specs.HashMap.{HashMap, get_by_text}
use Rattle.xq_atoms.specs.Text.{Text}
use Rattle.xq_trees.specs.Rows.{Row}
use Rattle.xq_packed.specs.Found.{AreByValue}

-- of each name for which places are kept, these are all, in the order of their values
abbrev pub AreValues : {S : Type 0} → List Row → HashMap (String Global) (List ℕ) S → Type 0
AreValues rows values = (name : Text)
    → IfSome (get_by_text values name) (λ places. AreByValue rows name places)
