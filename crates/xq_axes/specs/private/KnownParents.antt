-- Parents that a source tells at once.
use Rattle.std.specs.Prelude.{ℕ, ◌<◌, List, length, Bool, true, slice_index, nat_lt, Option, Some, None}
use Rattle.xq_trees.specs.Tree.{Tree}
use Rattle.xq_trees.specs.Rows.{rows}
use Rattle.xq_sources.specs.Parents.{IsParentRow}

-- there is no last place, or it comes before the place
abbrev pub ends_before : Option ℕ → ℕ → Bool
ends_before None place = true
ends_before (Some last) place = nat_lt last place

-- each of these is the parent of the place beside it
abbrev pub AreTold : Tree → List ℕ → List ℕ → Type 0
AreTold t vs us =
    (i : ℕ) → i < length us → IsParentRow (rows t) (slice_index us i) (slice_index vs i)
