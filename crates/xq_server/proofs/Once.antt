-- A request has one answer, since a text has one reading.
use Rattle.std.proofs.Common.{◌≡◌, ℕ, List, sym, ◌∙◌, ap, Ok, Err, Result, inl, inr}
use Rattle.xq_atoms.specs.declared.refusals.Code.{Code}
use Rattle.xq_tables.specs.Documents.{Map}
use Rattle.xq_frame.specs.Request.{RequestMeaning, query, put, remove as remove_one, list, bad}
use Rattle.xq_queries.specs.Reading.{ReadsAtMostOnce}
use Rattle.xq_server.specs.Meaning.{Query, Reads, value}
use Rattle.xq_server.specs.Answer.{Outcome, AnswersOnce, RefusesRequest, CarriesOut, refusal, query_outcome, put_outcome}

-- what is read, and what is refused, are of one sort each
abbrev query_in : Query → Result Query Code → Query
query_in other (Ok q) = q
query_in other (Err code) = other

abbrev code_in : Code → Result Query Code → Code
code_in other (Ok q) = other
code_in other (Err code) = code

module _ (once : ReadsAtMostOnce) where
  -- a text that reads as a query has no fault
  pub not_both : (text : List ℕ) (q : Query) (code : Code) → Reads text (Ok q) → Reads text (Err code) → ⊥
  not_both text q code reads fault = let same = once text (Ok q) (Err code) reads fault in cc

  pub read_once : (text : List ℕ) (q r : Query) → Reads text (Ok q) → Reads text (Ok r) → q ≡ r
  read_once text q r first other = ap (query_in q) (once text (Ok q) (Ok r) first other)

  fault_once : (text : List ℕ) (c d : Code) → Reads text (Err c) → Reads text (Err d) → c ≡ d
  fault_once text c d first other = ap (code_in c) (once text (Err c) (Err d) first other)

  refuses_once : (asked : RequestMeaning) (c d : Code) → RefusesRequest asked c → RefusesRequest asked d → c ≡ d
  refuses_once (query text) c d p q = fault_once text c d p q
  refuses_once (put address text) c d p q = elim p [
    | inl bad_address ↦ elim q [ inl other ↦ bad_address.1 ∙ sym other.1 | inr fault ↦ absurd (bad_address.0 fault.0) ]
    | inr fault ↦ elim q [ inl bad_address ↦ absurd (bad_address.0 fault.0) | inr other ↦ fault_once text c d fault.1 other.1 ]
  ]
  refuses_once (remove_one address) c d p q = p.1 ∙ sym q.1
  refuses_once list c d p q = absurd p
  refuses_once bad c d p q = p ∙ sym q

  -- what is refused is not carried out
  not_carried : (m : Map) (asked : RequestMeaning) (code : Code) (out : Outcome) → RefusesRequest asked code → CarriesOut m asked out → ⊥
  not_carried m (query text) code out p q = not_both text q.0 code q.1 p
  not_carried m (put address text) code out p q = elim p [ inl bad_address ↦ bad_address.0 q.0 | inr fault ↦ not_both text q.1.0 code q.1.1 fault.1 ]
  not_carried m (remove_one address) code out p q = p.0 q.0
  not_carried m list code out p q = p
  not_carried m bad code out p q = q

  carried_once : (m : Map) (asked : RequestMeaning) (x y : Outcome) → CarriesOut m asked x → CarriesOut m asked y → x ≡ y
  carried_once m (query text) x y p q =
      p.2 ∙ ap (λ r. query_outcome m (value r m)) (read_once text p.0 q.0 p.1 q.1) ∙ sym q.2
  carried_once m (put address text) x y p q =
      p.1.2 ∙ ap (λ r. put_outcome m address (value r m)) (read_once text p.1.0 q.1.0 p.1.1 q.1.1) ∙ sym q.1.2
  carried_once m (remove_one address) x y p q = p.1 ∙ sym q.1
  carried_once m list x y p q = p ∙ sym q
  carried_once m bad x y p q = absurd p

  pub one_answer : AnswersOnce
  one_answer = λ m asked x y p q. elim p [
    | inl one ↦ elim q [
      | inl other ↦ one.2 ∙ ap (refusal m) (refuses_once asked one.0 other.0 one.1 other.1) ∙ sym other.2
      | inr carried ↦ absurd (not_carried m asked one.0 y one.1 carried)
    ]
    | inr carried ↦ elim q [
      | inl other ↦ absurd (not_carried m asked other.0 x other.1 carried)
      | inr other ↦ carried_once m asked x y carried other
    ]
  ]
