-- Sets of texts.
use Rattle.std.specs.Prelude.{◌≡◌, List, map, string_bytes, String, Option, IfSome}
use Rattle.std.specs.Global.{Global}
use Rattle.std.specs.HashSet.{HashSet, contains_text}
use Rattle.std.specs.List.{list_any}
use Rattle.xq_atoms.specs.Text.{Text, text_eq}
use Rattle.xq_joins.specs.declared.keyed.KeyedTest.{KeyedTest}

-- the set has these texts and no others
abbrev pub IsSetOf : {S : Type 0} → HashSet (String Global) S → List Text → Type 0
IsSetOf set texts = (text : Text) → contains_text set text ≡ list_any (text_eq text) texts

-- if there is a set, then it has the texts of the test
abbrev pub IsSetFor : {S : Type 0} → Option (HashSet (String Global) S) → KeyedTest → Type 0
IsSetFor set found = IfSome set (λ s. IsSetOf s (map string_bytes found.texts.items))
