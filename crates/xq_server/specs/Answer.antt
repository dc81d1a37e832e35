-- One request over the documents: the documents after it, a status, and the text that the client is
-- told.
use Rattle.std.specs.Prelude.{◌≡◌, ℕ, List, [], ◌∷◌, ◌++◌, length, cond, nat_le, Option, None, Some, Result, Ok, Err, codes, ◌⊎◌, Bool, true, false}
use Rattle.std.specs.FinMap.{insert, remove, keys, contains_key}
use Rattle.xq_atoms.specs.Address.{IsAddress}
use Rattle.xq_atoms.specs.Code.{code_text}
use Rattle.xq_atoms.specs.Print.{quoted}
use Rattle.xq_atoms.specs.declared.refusals.Code.{Code}
use Rattle.xq_atoms.specs.declared.refusals.Code.TheVariants.{ProfFrame, ProfAddress, ProfNotdoc, ProfAbsent, ProfReply}
use Rattle.xq_trees.specs.Tree.{Tree}
use Rattle.xq_tables.specs.Documents.{Map}
use Rattle.xq_frame.specs.Request.{RequestMeaning, query, put, remove as remove_one, list, bad}
use Rattle.xq_server.specs.Meaning.{Query, Reads, Value, value, printed, document}
use Rattle.xq_frame.specs.Reply.{longest_text}

-- the addresses as string literals, joined by commas
abbrev pub more_literals : List (List ℕ) → List ℕ
more_literals [] = []
more_literals (address ∷ others) = codes ", " ++ quoted address ++ more_literals others

-- all addresses, as string literals joined by a comma and a space; `()` for none
abbrev pub listing : List (List ℕ) → List ℕ
listing [] = codes "()"
listing (address ∷ others) = quoted address ++ more_literals others

-- the documents after a request, the status of its reply, and its text
pub record Outcome : Type 0 where
  pub documents : Map
  pub status : ℕ
  pub text : List ℕ

-- status 1: refused, with a code; the documents stay
abbrev pub refusal : Map → Code → Outcome
refusal m code = record { documents = m; status = 1; text = code_text code }

-- status 0: carried out
abbrev pub success : Map → List ℕ → Outcome
success m text = record { documents = m; status = 0; text = text }

-- a text, unless it is over the limit
abbrev pub text_outcome : Map → List ℕ → Outcome
text_outcome m text = cond (nat_le (length text) longest_text) (success m text)
    (refusal m ProfReply)

-- of a query, by its value or the code for which it has none
abbrev pub query_outcome : Map → Result Value Code → Outcome
query_outcome m (Ok v) = text_outcome m (printed v)
query_outcome m (Err code) = refusal m code

-- what a store is told, by whether it replaced a document
abbrev pub put_word : Bool → List ℕ
put_word true = codes "replaced"
put_word false = codes "stored"

-- the document is stored under the address; where there is none, this is refused
abbrev pub put_document : Map → List ℕ → Option Tree → Outcome
put_document m address None = refusal m ProfNotdoc
put_document m address (Some tree) = success (insert m address tree)
    (put_word (contains_key m address))

-- of a store, by the value of its query
abbrev pub put_outcome : Map → List ℕ → Result Value Code → Outcome
put_outcome m address (Ok v) = put_document m address (document v)
put_outcome m address (Err code) = refusal m code

-- of a drop, by whether there is a document under the address
abbrev pub remove_outcome : Bool → Map → List ℕ → Outcome
remove_outcome true m address = success (remove m address) (codes "dropped")
remove_outcome false m address = refusal m ProfAbsent

-- refused by this code before the documents matter
abbrev pub RefusesRequest : RequestMeaning → Code → Type 0
RefusesRequest (query text) code = Reads text (Err code)
RefusesRequest (put address text) code = ((¬ (IsAddress address)) × (code ≡ ProfAddress))
    ⊎ (IsAddress address × Reads text (Err code))
RefusesRequest (remove_one address) code = (¬ (IsAddress address)) × (code ≡ ProfAddress)
RefusesRequest list code = ⊥
RefusesRequest bad code = code ≡ ProfFrame

-- carried out over the documents
abbrev pub CarriesOut : Map → RequestMeaning → Outcome → Type 0
CarriesOut m (query text) out = (q : Query) × Reads text (Ok q)
    × (out ≡ query_outcome m (value q m))
CarriesOut m (put address text) out = IsAddress address
    × ((q : Query) × Reads text (Ok q) × (out ≡ put_outcome m address (value q m)))
CarriesOut m (remove_one address) out = IsAddress address
    × (out ≡ remove_outcome (contains_key m address) m address)
CarriesOut m list out = out ≡ text_outcome m (listing (keys m))
CarriesOut m bad out = ⊥

-- a request has this outcome: it is refused, or carried out
abbrev pub Answers : Map → RequestMeaning → Outcome → Type 0
Answers m asked out = ((code : Code) × RefusesRequest asked code × (out ≡ refusal m code))
    ⊎ CarriesOut m asked out

-- A request has one answer over the same documents.
abbrev pub AnswersOnce : Type 0
AnswersOnce = (m : Map) (asked : RequestMeaning) (x y : Outcome) → Answers m asked x
    → Answers m asked y
    → x ≡ y
