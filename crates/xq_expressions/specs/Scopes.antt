-- Names in the order in which they were bound, each as UTF-8, and where one stands among them.
use Rattle.std.specs.Prelude.{ℕ, ◌+◌, ◌-◌, List, [], ◌∷◌, Bool, Option, Some, None, bytes_eq, nat_le, if◌then◌else◌}
use Rattle.std.specs.List.{list_any}
use Rattle.std.specs.Option.{option_or}

-- the name is one of these
abbrev pub is_among : List ℕ → List (List ℕ) → Bool
is_among name names = list_any (bytes_eq name) names

-- the last place of a name in a list whose first place has this number
abbrev pub last_place : List ℕ → ℕ → List (List ℕ) → Option ℕ
last_place name start [] = None
last_place name start (n ∷ ns) =
    option_or (last_place name (start + 1) ns) (if bytes_eq name n then Some start else None)

-- the place counted from another one, where it isn't before that
abbrev pub from_place : ℕ → Option ℕ → Option ℕ
from_place place None = None
from_place place (Some last) = if nat_le place last then Some (last - place) else None
