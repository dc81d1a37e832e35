-- What the parts of a step ensure, before the reply is written.
use Rattle.std.specs.Prelude.{◌≡◌, ℕ, ◌≤◌, List, ◌++◌, length, Result, Ok, Err, String, codes, string_bytes, string_len, ◌⊎◌, ⊤}
use Rattle.std.specs.FinMap.{keys, values}
use Rattle.std.specs.Global.{Global}
use Rattle.xq_atoms.specs.Address.{IsAddress}
use Rattle.xq_atoms.specs.Code.{code_text, want_text}
use Rattle.xq_atoms.specs.declared.refusals.Code.{Code}
use Rattle.xq_atoms.specs.declared.refusals.Fault.{Fault}
use Rattle.xq_atoms.specs.declared.refusals.Fault.TheVariants.{Code as OfCode, Want as OfWant}
use Rattle.xq_atoms.specs.declared.refusals.Want.TheVariants.{Memory}
use Rattle.xq_atoms.specs.Judged.{Judged}
use Rattle.xq_meaning.specs.declared.plans.Plan.{Plan}
use Rattle.xq_trees.specs.Tree.{Tree}
use Rattle.xq_trees.specs.declared.Kind.TheVariants.{Document}
use Rattle.xq_tables.specs.Documents.{Map}
use Rattle.xq_frame.specs.Reply.{reply_bytes, longest_text}
use Rattle.xq_frame.specs.Request.{RequestMeaning, query, put}
use Rattle.xq_queries.specs.Scans.{ScansItsDocument}
use Rattle.xq_queries.specs.Values.{IsPlanOf, Value, plan_value, reply_text, made_document}
use Rattle.xq_queries.specs.ReadBack.{HaveNumbersInRange}
use Rattle.xq_server.specs.Meaning.{Query, Reads}
use Rattle.xq_server.specs.Answer.{Answers, success, refusal}
use Rattle.xq_server.specs.Step.{MayWant}
use Rattle.xq_server.specs.ReadBack.{ReadsBackFrom}
use Rattle.xq_server.specs.declared.answers.Answer.{Answer}
use Rattle.xq_server.specs.declared.answers.Answer.TheVariants.{Text, Stored, Replaced, Dropped}

-- a text reads as a query that has this plan, which scans the document that a path starts at, and
-- then it has no fault; or it is refused
abbrev pub Understands : List ℕ → Result Plan Fault → Type 0
Understands text (Ok plan) =
    (q : Query) × Reads text (Ok q) × IsPlanOf q plan × ((code : Code) → ¬ (Reads text (Err code)))
    × ScansItsDocument q plan
Understands text (Err (OfCode code)) = Reads text (Err code)
Understands text (Err (OfWant want)) = MayWant (query text) want

-- the value of a query makes a product, or is refused, by what it is to make; of a want nothing
-- is said
abbrev pub Makes : {P : Type 0} → (Judged Value → Judged P → Type 0) → Judged Value →
    Result P Fault → Type 0
Makes makes v (Ok product) = makes v (Ok product)
Makes makes v (Err (OfCode code)) = makes v (Err code)
Makes makes v (Err (OfWant want)) = ⊤

-- the text of the reply, where the value's numbers are in range, or the code
abbrev pub MakesText : Judged Value → Judged (String Global) → Type 0
MakesText v (Ok text) = (reply_text v ≡ Ok (string_bytes text)) × HaveNumbersInRange v
MakesText v (Err code) = reply_text v ≡ Err code

-- the document, or the code
abbrev pub MakesDocument : Judged Value → Judged Tree → Type 0
MakesDocument v result = made_document v ≡ result

-- what a product is, whatever the documents are
abbrev pub IsShortText : String Global → Type 0
IsShortText text = string_len text ≤ longest_text

abbrev pub HasDocumentRoot : Tree → Type 0
HasDocumentRoot tree = tree.root.kind ≡ Document

-- what is told with success, and reads back
abbrev pub TellsText : Map → RequestMeaning → Map → List ℕ → Type 0
TellsText m asked new text = Answers m asked (success new text) × ReadsBackFrom m asked 0 text

-- a request is answered, or refused; memory may still be wanting for a text, which changes nothing
abbrev pub Tells : Map → RequestMeaning → Map → Result Answer Fault → Type 0
Tells m asked new (Ok (Text text)) =
    TellsText m asked new (string_bytes text) × MayWant asked Memory × (new ≡ m)
Tells m asked new (Ok Stored) = TellsText m asked new (codes "stored")
Tells m asked new (Ok Replaced) = TellsText m asked new (codes "replaced")
Tells m asked new (Ok Dropped) = TellsText m asked new (codes "dropped")
Tells m asked new (Err (OfCode code)) = Answers m asked (refusal new code)
Tells m asked new (Err (OfWant want)) = MayWant asked want × (new ≡ m)

-- the document that a text makes over these documents; or what a put of it is told, which leaves
-- them as they are
abbrev pub GivesDocument : List ℕ → Map → Result Tree Fault → Type 0
GivesDocument text m (Ok tree) = (plan : Plan) × Understands text (Ok plan)
    × Makes MakesDocument (plan_value plan (keys m) (values m)) (Ok tree)
GivesDocument text m (Err fault) = (address : List ℕ) → IsAddress address →
    Tells m (put address text) m (Err fault)

-- a text is within the limit
abbrev pub IsShort : Result Answer Fault → Type 0
IsShort (Ok (Text text)) = length (string_bytes text) ≤ longest_text
IsShort (Ok Stored) = ⊤
IsShort (Ok Replaced) = ⊤
IsShort (Ok Dropped) = ⊤
IsShort (Err fault) = ⊤

-- one reply is added; for a text it may be that memory is wanting
abbrev pub Writes : List ℕ → List ℕ → ℕ → Result Answer Fault → Type 0
Writes old new tag (Ok (Text text)) =
    (new ≡ old ++ reply_bytes tag 0 (string_bytes text))
    ⊎ (new ≡ old ++ reply_bytes tag 2 (want_text Memory))
Writes old new tag (Ok Stored) = new ≡ old ++ reply_bytes tag 0 (codes "stored")
Writes old new tag (Ok Replaced) = new ≡ old ++ reply_bytes tag 0 (codes "replaced")
Writes old new tag (Ok Dropped) = new ≡ old ++ reply_bytes tag 0 (codes "dropped")
Writes old new tag (Err (OfCode code)) =
    (new ≡ old ++ reply_bytes tag 1 (code_text code)) × (length (code_text code) ≤ longest_text)
Writes old new tag (Err (OfWant want)) = new ≡ old ++ reply_bytes tag 2 (want_text want)
