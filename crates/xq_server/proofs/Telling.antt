-- Each way to tell a request its answer is one of those of a step.
use Rattle.std.proofs.Common.{◌≡◌, ℕ, ◌<◌, List, length, refl, sym, ◌∙◌, ap, subst, None, Some, Ok, Err, Result, inl, inr, nat_le, cond, true, false, Bool, IsTrue, IsErrAnd, MatchResult, IsOk, arith, zero, suc, [], ◌∷◌, get_or, All, nat_cmp, Option, is_some, String, Global, string_bytes, codes, if◌then◌else◌}
use Rattle.std.specs.FinMap.{get, insert, remove, contains_key, keys, values, get-remove, same_map, slice_cmp-IsAntisymmetric, nat_cmp-IsAntisymmetric}
use Rattle.std.specs.Cmp.Lexicographic.{slice_cmp, nat_list_cmp_total}
use Rattle.std.specs.Ordering.{is_eq, eq_by_cmp}
use Rattle.std.specs.declared.cmp.Ordering.{Ordering}
use Rattle.std.specs.declared.cmp.Ordering.TheVariants.{Less, Equal, Greater}
use Rattle.std.proofs.lemmas.Bool.{cases_lt}
use Rattle.std.proofs.lemmas.Str.{IsUtf8-from_ascii, IsUtf8-string_bytes}
use Rattle.std.specs.Str.{IsUtf8}
use Rattle.xq_atoms.specs.Address.{IsAddress, is_address_byte}
use Rattle.xq_atoms.specs.Judged.{Judged, only_if}
use Rattle.xq_atoms.specs.declared.refusals.Code.{Code}
use Rattle.xq_atoms.specs.declared.refusals.Code.TheVariants.{ProfAbsent, ProfReply}
use Rattle.xq_atoms.specs.declared.refusals.Fault.{Fault}
use Rattle.xq_atoms.specs.declared.refusals.Fault.TheVariants.{Code as OfCode, Want as OfWant}
use Rattle.xq_atoms.specs.declared.refusals.Want.{Want}
use Rattle.xq_atoms.specs.declared.refusals.Want.TheVariants.{Memory, Store}
use Rattle.xq_trees.specs.Tree.{Tree}
use Rattle.xq_meaning.specs.declared.plans.Plan.{Plan}
use Rattle.xq_queries.specs.Reading.{ReadsAtMostOnce, FaultsComeLater}
use Rattle.xq_readback.specs.Legible.{AreTrees}
use Rattle.xq_queries.specs.ReadBack.{ReadsBack, ValuesArePrintable}
use Rattle.xq_queries.specs.Values.{Plans, Value, plan_value, printed, reply_text as text_of, document, or_no_document, made_document}
use Rattle.xq_tables.specs.Documents.{Map}
use Rattle.xq_store.specs.declared.stores.Put.TheVariants.{Stored as Fresh, Replaced as Other}
use Rattle.xq_frame.specs.Request.{RequestMeaning, query, put, remove as remove_one}
use Rattle.xq_server.specs.Meaning.{value}
use Rattle.xq_server.specs.Answer.{Outcome, Answers, CarriesOut, RefusesRequest, success, refusal, query_outcome, put_outcome, put_document, put_word, remove_outcome}
use Rattle.xq_frame.specs.Reply.{longest_text}
use Rattle.xq_server.specs.Step.{MayWant}
use Rattle.xq_server.specs.private.Work.{Tells, Understands, Makes, MakesText, MakesDocument, TellsText}
use Rattle.xq_server.specs.declared.answers.Answer.TheVariants.{Text}
use Rattle.xq_server.proofs.Once.{not_both}
use Rattle.xq_server.proofs.Again.{reply_reads_back, plan_printable}

-- any want may come where nothing is refused before the documents matter
pub any_want : (asked : RequestMeaning) → ((code : Code) → RefusesRequest asked code → ⊥) → (want : Want) → MayWant asked want
any_want asked none Memory = λ code refuses free. none code refuses
any_want asked none Store = none

-- Reading the text of a query.

-- what `?` hands on
pub handed_on : {T E : Type 0} (result : Result T E) (e : E) → IsErrAnd result (λ f. f ≡ e) → result ≡ Err e
handed_on (Ok x) e is = absurd is
handed_on (Err f) e is = ap Err is

-- a text of UTF-8 is never refused by a code that needs no memory
utf8_wants : FaultsComeLater → (text : List ℕ) → IsUtf8 text → MayWant (query text) Memory
utf8_wants later text good code fault free = later text code good fault free

pub understood : ReadsAtMostOnce → FaultsComeLater → (text : List ℕ) (result : Result Plan Fault) → Plans text result → Understands text result
understood once later text (Ok plan) plans = (plans.0, plans.1, plans.2, λ code fault. not_both once text plans.0 code plans.1 fault, plans.3)
understood once later text (Err (OfCode code)) plans = plans
understood once later text (Err (OfWant want)) plans = subst (MayWant (query text)) (sym plans.0) (utf8_wants later text plans.1)

-- any want may come once a text was understood
query_wants : (text : List ℕ) (plan : Plan) → Understands text (Ok plan) → (want : Want) → MayWant (query text) want
query_wants text plan understands = any_want (query text) understands.3

-- Addresses.

-- each byte of an address is ASCII
ascii_byte : (byte : ℕ) → IsTrue (is_address_byte byte) → byte < 128
ascii_byte byte is = elim (cases_lt byte 128) [
  | inl below ↦ below
  | inr above ↦ (let none : is_address_byte byte ≡ false = grind arith in absurd (cc))
]

ascii_at : (bytes : List ℕ) → All (λ byte. IsTrue (is_address_byte byte)) bytes → (i : ℕ) → get_or bytes i 0 < 128
ascii_at [] each i = omega arith
ascii_at (byte ∷ bytes) each zero = ascii_byte byte (each 0 0 (omega arith))
ascii_at (byte ∷ bytes) each (suc i) = ascii_at bytes (λ k d below. each (suc k) d (omega (arith, below))) i

pub address_is_utf8 : (address : List ℕ) → IsAddress address → IsUtf8 address
address_is_utf8 address is = IsUtf8-from_ascii address (ascii_at address is.2)

pub ok_where : {T E : Type 0} (P : T → Type 0) (Q : E → Type 0) (R : Type 0) (result : Result T E) → MatchResult result P (λ e. (¬ R) × Q e) → R → IsOk result
ok_where P Q R (Ok x) cases r = refl
ok_where P Q R (Err e) cases r = absurd (cases.0 r)

absent : (o : Option Tree) → is_some o ≡ false → o ≡ None
absent None e = refl
absent (Some x) e = absurd (cc)

tied : (o : Ordering) → is_eq o ≡ true → o ≡ Equal
tied Less e = absurd (cc)
tied Equal e = refl
tied Greater e = absurd (cc)

kept_at : (m : Map) (address q : List ℕ) (tie : Bool) → contains_key m address ≡ false → eq_by_cmp (slice_cmp nat_cmp) q address ≡ tie
    → cond tie None (get m q) ≡ get m q
kept_at m address q false none e = refl
kept_at m address q true none e =
    sym (ap (get m) (slice_cmp-IsAntisymmetric nat_cmp-IsAntisymmetric q address (tied _ e)) ∙ absent (get m address) none)

-- to remove what is absent changes nothing
pub remove_absent : (m : Map) (address : List ℕ) → contains_key m address ≡ false → remove m address ≡ m
remove_absent m address none = same_map nat_list_cmp_total (slice_cmp-IsAntisymmetric nat_cmp-IsAntisymmetric) (remove m address) m
    (λ q. get-remove nat_list_cmp_total m address q ∙ kept_at m address q _ none refl)

pub nothing_removed : (m : Map) (address given : List ℕ) (was : Bool) → (given ≡ address) × IsAddress address
    → was ≡ contains_key m given → was ≡ false → Answers m (remove_one address) (refusal (remove m given) ProfAbsent)
nothing_removed m address given was good had none =
    let absent_there : contains_key m address ≡ false = ap (contains_key m) (sym good.0) ∙ sym had ∙ none in
    inr (
      good.1,
      ap (λ n. refusal n ProfAbsent) (ap (remove m) good.0 ∙ remove_absent m address absent_there)
          ∙ sym (ap (λ b. remove_outcome b m address) absent_there),
    )

pub one_removed : (m : Map) (address given : List ℕ) (was : Bool) → (given ≡ address) × IsAddress address
    → was ≡ contains_key m given → was ≡ true → TellsText m (remove_one address) (remove m given) (codes "dropped")
one_removed m address given was good had there =
    let here : contains_key m address ≡ true = ap (contains_key m) (sym good.0) ∙ sym had ∙ there in
    (inr (good.1, ap (λ a. success (remove m a) (codes "dropped")) good.0 ∙ sym (ap (λ b. remove_outcome b m address) here)), tt)

-- the want of a call on the store, where the address is good
pub remove_wanted : (address : List ℕ) (want : Want) → IsAddress address → MayWant (remove_one address) want
remove_wanted address want good = any_want (remove_one address) (λ code refuses. refuses.0 good) want

-- Queries.

pub query_unread : (m : Map) (text : List ℕ) (fault : Fault) → Understands text (Err fault) → Tells m (query text) m (Err fault)
query_unread m text (OfWant want) understands = (understands, refl)
query_unread m text (OfCode code) understands = inl (code, understands, refl)

-- what is told where the text, or its code, is this
told_as : Map → Judged (List ℕ) → Outcome
told_as m (Ok text) = success m text
told_as m (Err code) = refusal m code

told_within : (m : Map) (text : List ℕ) (fits : Bool) → cond fits (success m text) (refusal m ProfReply) ≡ told_as m (only_if fits ProfReply text)
unfolding told_as
told_within m text true = refl
told_within m text false = refl

queried_as : (m : Map) (v : Judged Value) → query_outcome m v ≡ told_as m (text_of v)
unfolding told_as
queried_as m (Ok v) = told_within m (printed v) (nat_le (length (printed v)) longest_text)
queried_as m (Err code) = refl

-- the plan's value is the query's, over the documents
carries_query : (m : Map) (text : List ℕ) (plan : Plan) (said : Judged (List ℕ)) → Understands text (Ok plan)
    → text_of (plan_value plan (keys m) (values m)) ≡ said → CarriesOut m (query text) (told_as m said)
carries_query m text plan said understands is = (
  understands.0,
  understands.1,
  sym (queried_as m (value understands.0 m) ∙ ap (λ v. told_as m (text_of v)) (sym (understands.2 (keys m) (values m))) ∙ ap (told_as m) is),
)

pub query_told : ReadsAtMostOnce → ReadsBack → ValuesArePrintable → (m : Map) (text : List ℕ) (plan : Plan) (printed' : String Global) → Understands text (Ok plan)
    → AreTrees (values m) → Makes MakesText (plan_value plan (keys m) (values m)) (Ok printed') → Tells m (query text) m (Ok (Text printed'))
unfolding told_as
query_told once back printable m text plan printed' understands are makes =
    let answers : Answers m (query text) (success m (string_bytes printed')) = inr (carries_query m text plan (Ok (string_bytes printed')) understands makes.0) in (
      (answers, reply_reads_back once back m text (string_bytes printed') answers (plan_printable once printable m text plan understands are makes.1) (IsUtf8-string_bytes printed')),
      query_wants text plan understands Memory,
      refl,
    )

pub query_refused : (m : Map) (text : List ℕ) (plan : Plan) (fault : Fault) → Understands text (Ok plan)
    → Makes MakesText (plan_value plan (keys m) (values m)) (Err fault) → Tells m (query text) m (Err fault)
unfolding told_as
query_refused m text plan (OfCode code) understands makes = inr (carries_query m text plan (Err code) understands makes)
query_refused m text plan (OfWant want) understands makes = (query_wants text plan understands want, refl)

-- Puts.

put_wants : (address text : List ℕ) → IsAddress address → (want : Want) → MayWant (query text) want → MayWant (put address text) want
put_wants address text good Memory may = λ code refuses free. elim refuses [ inl bad ↦ bad.0 good | inr fault ↦ may code fault.1 free ]
put_wants address text good Store may = λ code refuses. elim refuses [ inl bad ↦ bad.0 good | inr fault ↦ may code fault.1 ]

pub put_unread : (m : Map) (address text : List ℕ) (fault : Fault) → IsAddress address → Understands text (Err fault)
    → Tells m (put address text) m (Err fault)
put_unread m address text (OfWant want) good understands = (put_wants address text good want understands, refl)
put_unread m address text (OfCode code) good understands = inl (code, inr (good, understands), refl)

-- what is stored where the document, or its code, is this
stored_as : Map → List ℕ → Judged Tree → Outcome
stored_as m address (Ok tree) = success (insert m address tree) (put_word (contains_key m address))
stored_as m address (Err code) = refusal m code

set_as : (m : Map) (address : List ℕ) (tree : Option Tree) → put_document m address tree ≡ stored_as m address (or_no_document tree)
unfolding stored_as
set_as m address (Some tree) = refl
set_as m address None = refl

value_stored : (m : Map) (address : List ℕ) (v : Judged Value) → put_outcome m address v ≡ stored_as m address (made_document v)
unfolding stored_as
value_stored m address (Ok v) = set_as m address (document v)
value_stored m address (Err code) = refl

carries_put : (m : Map) (address text : List ℕ) (plan : Plan) (tree : Judged Tree) → IsAddress address → Understands text (Ok plan)
    → made_document (plan_value plan (keys m) (values m)) ≡ tree → CarriesOut m (put address text) (stored_as m address tree)
carries_put m address text plan tree good understands is = (
  good,
  (
    understands.0,
    understands.1,
    sym (value_stored m address (value understands.0 m) ∙ ap (λ v. stored_as m address (made_document v)) (sym (understands.2 (keys m) (values m))) ∙ ap (stored_as m address) is),
  ),
)

pub put_refused : (m : Map) (address text : List ℕ) (plan : Plan) (fault : Fault) → IsAddress address → Understands text (Ok plan)
    → Makes MakesDocument (plan_value plan (keys m) (values m)) (Err fault) → Tells m (put address text) m (Err fault)
unfolding stored_as
put_refused m address text plan (OfCode code) good understands makes = inr (carries_put m address text plan (Err code) good understands makes)
put_refused m address text plan (OfWant want) good understands makes =
    (put_wants address text good want (query_wants text plan understands want), refl)

pub put_wanted : (m : Map) (address text : List ℕ) (plan : Plan) (want : Want) → IsAddress address → Understands text (Ok plan)
    → Tells m (put address text) m (Err (OfWant want))
put_wanted m address text plan want good understands = (put_wants address text good want (query_wants text plan understands want), refl)

pub put_told : (m : Map) (address text given : List ℕ) (plan : Plan) (tree : Tree) (was : Bool) → (given ≡ address) × IsAddress address
    → Understands text (Ok plan) → Makes MakesDocument (plan_value plan (keys m) (values m)) (Ok tree) → contains_key m given ≡ was
    → TellsText m (put address text) (insert m given tree) (put_word was)
unfolding stored_as
put_told m address text given plan tree was good understands makes had = (
  subst (λ a. Answers m (put address text) (success (insert m a tree) (put_word was))) (sym good.0)
      (subst (λ w. Answers m (put address text) (success (insert m address tree) (put_word w))) (ap (contains_key m) (sym good.0) ∙ had)
      (inr (carries_put m address text plan (Ok tree) good.1 understands makes))),
  tt,
)

pub was_stored : (there : Bool) → Fresh ≡ (if there then Other else Fresh) → there ≡ false
was_stored true e = absurd (cc)
was_stored false e = refl

pub was_replaced : (there : Bool) → Other ≡ (if there then Other else Fresh) → there ≡ true
was_replaced true e = refl
was_replaced false e = absurd (cc)
