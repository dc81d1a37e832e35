-- The reply to a query reads back.
use Rattle.std.proofs.Common.{◌≡◌, ℕ, ◌≤◌, Bool, true, false, cond, List, length, Ok, sym, ap, subst, ◌∙◌, arith, inl, inr}
use Rattle.std.specs.Prelude.{nat_le}
use Rattle.std.specs.Str.{IsUtf8}
use Rattle.std.specs.FinMap.{keys, values}
use Rattle.std.proofs.lemmas.Bool.Decides.{nat_tests}
use Rattle.xq_atoms.specs.declared.refusals.Code.TheVariants.{ProfReply}
use Rattle.xq_meaning.specs.declared.plans.Plan.{Plan}
use Rattle.xq_meaning.specs.Printable.{ArePrintable}
use Rattle.xq_tables.specs.Documents.{Map}
use Rattle.xq_frame.specs.Request.{query}
use Rattle.xq_frame.specs.Reply.{longest_text}
use Rattle.xq_readback.specs.Legible.{AreTrees}
use Rattle.xq_queries.specs.Reading.{ReadsAtMostOnce}
use Rattle.xq_queries.specs.Values.{plan_value}
use Rattle.xq_queries.specs.ReadBack.{ReadsAgain, ReadsBack, HaveNumbersInRange, ValuesArePrintable}
use Rattle.xq_server.specs.Meaning.{Query, Reads, Value, value, printed}
use Rattle.xq_server.specs.Answer.{Outcome, Answers, success, refusal, text_outcome, query_outcome}
use Rattle.xq_server.specs.ReadBack.{ReadsBackFrom, longest_query}
use Rattle.xq_server.specs.private.Work.{Understands}
use Rattle.xq_server.proofs.Once.{read_once}

-- the value of a query over these documents can be printed
abbrev pub IsPrintedFrom : Map → List ℕ → Type 0
IsPrintedFrom m text = (q : Query) (v : Value) → Reads text (Ok q) → value q m ≡ Ok v → ArePrintable v.1 v.0

-- so it is where the numbers of the plan's value are in range
pub plan_printable : ReadsAtMostOnce → ValuesArePrintable → (m : Map) (text : List ℕ) (plan : Plan) → Understands text (Ok plan) → AreTrees (values m)
    → HaveNumbersInRange (plan_value plan (keys m) (values m)) → IsPrintedFrom m text
plan_printable once printable m text plan understands are in_range = λ q v reads is.
    (let same : q ≡ understands.0 = read_once once text q understands.0 reads understands.1 in
    let planned : plan_value plan (keys m) (values m) ≡ Ok v = understands.2 (keys m) (values m) ∙ ap (λ (r : Query). value r m) (sym same) ∙ is in
    printable text q reads (keys m) (values m) are v is (in_range v planned))

zero_one : ◌≡◌ {A = ℕ} 0 1 → ⊥
zero_one e = omega (arith, e)

-- where a text is told with success, it is the text of the value
told : (m : Map) (text reply : List ℕ) (b : Bool) → success m reply ≡ cond b (success m text) (refusal m ProfReply) → reply ≡ text
told m text reply true e = ap (λ (o : Outcome). o.text) e
told m text reply false e = absurd (zero_one (ap (λ (o : Outcome). o.status) e))

reply_is : ReadsAtMostOnce → (m : Map) (text reply : List ℕ) → Answers m (query text) (success m reply) → (q : Query) (v : Value) → Reads text (Ok q) → value q m ≡ Ok v
    → reply ≡ printed v
reply_is once m text reply answers q v reads is = elim answers [
  | inl refused ↦ absurd (zero_one (ap (λ (o : Outcome). o.status) refused.2))
  | inr carried ↦
      let same : carried.0 ≡ q = read_once once text carried.0 q carried.1 reads in
      told m (printed v) reply (nat_le (length (printed v)) longest_text)
      (carried.2 ∙ ap (λ (r : Query). query_outcome m (value r m)) same ∙ ap (query_outcome m) is)
]

short_text : (text : List ℕ) → length text ≤ longest_query → nat_le (length text) longest_text ≡ true
short_text text h = grind (arith, nat_tests)

answered_again : (others : Map) (v : Value) → ReadsAgain v (keys others) (values others) → length (printed v) ≤ longest_query
    → Answers others (query (printed v)) (success others (printed v))
answered_again others v again short =
    inr (
      again.expression,
      again.reads,
      sym (ap (query_outcome others) again.is ∙ ap (text_outcome others) again.text
          ∙ ap (λ b. cond b (success others (printed v)) (refusal others ProfReply)) (short_text (printed v) short)),
    )

pub reply_reads_back : ReadsAtMostOnce → ReadsBack → (m : Map) (text reply : List ℕ) → Answers m (query text) (success m reply) → IsPrintedFrom m text → IsUtf8 reply
    → ReadsBackFrom m (query text) 0 reply
reply_reads_back once back m text reply answers printable utf8 = λ zero short q v reads is others.
    (let same = reply_is once m text reply answers q v reads is in
    let again = back v (printable q v reads is) (subst IsUtf8 same utf8) (keys others) (values others) in (
      subst (λ (t : List ℕ). Answers others (query t) (success others t)) (sym same) (answered_again others v again (subst (λ (t : List ℕ). length t ≤ longest_query) same short)),
      again,
    ))
