-- White space at the ends of a text: XML 1.0, section 2.3, S. Each of it is one byte, so a text may
-- be the list of its bytes.
use Rattle.std.specs.Prelude.{ℕ, List, [], ◌∷◌, reverse, Bool, if◌then◌else◌}
use Rattle.xq_atoms.specs.Characters.{is_space}

-- what is left from the first on that is not of the kind
abbrev pub after_leading : (ℕ → Bool) → List ℕ → List ℕ
after_leading of_kind [] = []
after_leading of_kind (c ∷ cs) = if of_kind c then after_leading of_kind cs else c ∷ cs

-- what comes before those at the end that are of the kind
abbrev pub before_trailing : (ℕ → Bool) → List ℕ → List ℕ
before_trailing of_kind cs = reverse (after_leading of_kind (reverse cs))

-- white space at the ends is dropped
abbrev pub trimmed : List ℕ → List ℕ
trimmed cs = before_trailing is_space (after_leading is_space cs)
