-- Line ends, a line at a time.
use Rattle.std.specs.Prelude.{◌≡◌, ◌<◌, ℕ, List, ◌∷◌, ◌++◌, length}
use Rattle.xq_queries.specs.Texts.{with_line_feeds}

-- with its line ends read, the text is this line, a line feed, and what follows
abbrev pub IsFirstLine : List ℕ → List ℕ → List ℕ → Type 0
IsFirstLine text line others =
    (with_line_feeds text ≡ line ++ 10 ∷ with_line_feeds others) × (length others < length text)
