-- A text has one reading.
use Rattle.std.proofs.Common.{◌≡◌, ℕ, List, sym, ◌∙◌, ap, subst, arith, Ok, Err, Some, None, inl, inr}
use Rattle.xq_atoms.specs.declared.refusals.Code.{Code}
use Rattle.xq_atoms.specs.Judged.{Judged}
use Rattle.xq_expressions.specs.declared.expressions.Expr.{Expr}
use Rattle.xq_lexer.specs.Lexeme.{Lex}
use Rattle.xq_lexer.specs.Spelling.{Spells}
use Rattle.xq_lexer.proofs.Lists.{spells_one, spells_no_fault, one_fault}
use Rattle.xq_parser.proofs.Top.{derives_one}
use Rattle.xq_statics.specs.Statics.{static_fault}
use Rattle.xq_queries.specs.Texts.{characters}
use Rattle.xq_queries.specs.Reading.{TokensFault, TokensRead, CharactersFault, IsRead, IsRefused, Reads}

-- ---- tokens

one_expression : (tokens : List Lex) (e f : Expr) → TokensRead tokens e → TokensRead tokens f → e ≡ f
one_expression tokens e f p q = derives_one tokens e f p.1 q.1

not_both_of_tokens : (tokens : List Lex) (e : Expr) (code : Code) → TokensRead tokens e → TokensFault tokens code → ⊥
not_both_of_tokens tokens e code p q = elim q [
  | inl deep ↦ (let low = p.0 in let high = deep.0 in omega (arith, low, high))
  | inr shallow ↦ elim shallow.1 [
    | inl none ↦ none.0 e p.1
    | inr fault ↦
        let same : None ≡ Some code = sym p.2 ∙ ap static_fault (derives_one tokens e fault.0 p.1 fault.1) ∙ fault.2 in
        absurd cc
  ]
]

one_fault_of_tokens : (tokens : List Lex) (c d : Code) → TokensFault tokens c → TokensFault tokens d → c ≡ d
one_fault_of_tokens tokens c d p q = elim p [
  | inl deep ↦ elim q [
    | inl other ↦ deep.1 ∙ sym other.1
    | inr shallow ↦ (let low = shallow.0 in let high = deep.0 in absurd (omega (arith, low, high)))
  ]
  | inr shallow ↦ elim q [
    | inl deep ↦ (let low = shallow.0 in let high = deep.0 in absurd (omega (arith, low, high)))
    | inr other ↦ elim shallow.1 [
      | inl none ↦ elim other.1 [
        | inl no_other ↦ none.1 ∙ sym no_other.1
        | inr fault ↦ absurd (none.0 fault.0 fault.1)
      ]
      | inr fault ↦ elim other.1 [
        | inl none ↦ absurd (none.0 fault.0 fault.1)
        | inr second ↦
            let same : Some c ≡ Some d = sym fault.2 ∙ ap static_fault (derives_one tokens fault.0 second.0 fault.1 second.1) ∙ second.2 in cc
      ]
    ]
  ]
]

-- ---- characters

-- the text derives this, by some tokens
abbrev CharactersRead : List ℕ → Expr → Type 0
CharactersRead text e = (tokens : List Lex) × Spells text tokens × TokensRead tokens e

one_expression_of_characters : (text : List ℕ) (e f : Expr) → CharactersRead text e → CharactersRead text f → e ≡ f
one_expression_of_characters text e f p q =
    one_expression p.0 e f p.2 (subst (λ ts. TokensRead ts f) (spells_one text p.0 q.0 p.1 q.1) q.2)

not_both_of_characters : (text : List ℕ) (e : Expr) (code : Code) → CharactersRead text e → CharactersFault text code → ⊥
not_both_of_characters text e code p q = elim q [
  | inl fault ↦ spells_no_fault text p.0 code p.1 fault
  | inr derived ↦ not_both_of_tokens p.0 e code p.2
      (subst (λ ts. TokensFault ts code) (spells_one text p.0 derived.0 p.1 derived.1) derived.2)
]

one_fault_of_characters : (text : List ℕ) (c d : Code) → CharactersFault text c → CharactersFault text d → c ≡ d
one_fault_of_characters text c d p q = elim p [
  | inl fault ↦ elim q [
    | inl other ↦ sym (one_fault text c d fault other)
    | inr derived ↦ absurd (spells_no_fault text derived.0 c derived.1 fault)
  ]
  | inr derived ↦ elim q [
    | inl fault ↦ absurd (spells_no_fault text derived.0 d derived.1 fault)
    | inr other ↦ one_fault_of_tokens derived.0 c d derived.2
        (subst (λ ts. TokensFault ts d) (spells_one text derived.0 other.0 derived.1 other.1) other.2)
  ]
]

-- ---- texts

pub not_both : (text : List ℕ) (e : Expr) (code : Code) → IsRead text e → IsRefused text code → ⊥
not_both text e code p q = elim q [
  | inl bytes ↦ bytes.0 p.0
  | inr fault ↦ not_both_of_characters (characters text) e code p.1 fault.1
]

pub one_refusal : (text : List ℕ) (c d : Code) → IsRefused text c → IsRefused text d → c ≡ d
one_refusal text c d p q = elim p [
  | inl bytes ↦ elim q [ inl others ↦ bytes.1 ∙ sym others.1 | inr fault ↦ absurd (bytes.0 fault.0) ]
  | inr fault ↦ elim q [
    | inl bytes ↦ absurd (bytes.0 fault.0)
    | inr other ↦ one_fault_of_characters (characters text) c d fault.1 other.1
  ]
]

pub one_reading : (text : List ℕ) (x y : Judged Expr) → Reads text x → Reads text y → x ≡ y
one_reading text (Ok e) (Ok f) p q = ap Ok (one_expression_of_characters (characters text) e f p.1 q.1)
one_reading text (Ok e) (Err d) p q = absurd (not_both text e d p q)
one_reading text (Err c) (Ok f) p q = absurd (not_both text f c q p)
one_reading text (Err c) (Err d) p q = ap Err (one_refusal text c d p q)
