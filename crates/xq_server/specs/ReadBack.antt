-- The reply to a query, sent again as a query over any documents.
use Rattle.std.specs.Prelude.{◌≡◌, ℕ, ◌≤◌, List, length, Ok}
use Rattle.std.specs.FinMap.{keys, values}
use Rattle.xq_tables.specs.Documents.{Map}
use Rattle.xq_frame.specs.Request.{RequestMeaning, query}
use Rattle.xq_queries.specs.ReadBack.{ReadsAgain}
use Rattle.xq_server.specs.Meaning.{Query, Reads, Value, value}
use Rattle.xq_server.specs.Answer.{Answers, success}

-- the longest text of a query that a frame can hold whatever its address, in bytes
abbrev pub longest_query : ℕ
longest_query = 1048576

-- Of a query that was carried out over these documents, in a text that a query can have: the text,
-- sent again over any documents, has this answer, the text itself, and its value is equal to that
-- of the query.
abbrev pub ReadsBackFrom : Map → RequestMeaning → ℕ → List ℕ → Type 0
ReadsBackFrom m (query text) status reply =
    status ≡ 0 → length reply ≤ longest_query
    → (q : Query) (v : Value) → Reads text (Ok q) → value q m ≡ Ok v
    → (others : Map) → Answers others (query reply) (success others reply)
    × ReadsAgain v (keys others) (values others)
ReadsBackFrom m asked status reply = Unit {0}
