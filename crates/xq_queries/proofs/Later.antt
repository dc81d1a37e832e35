-- The faults of a text's characters are other ones than those of requests and of bytes.
use Rattle.std.proofs.Common.{◌≡◌, ℕ, pos, nat_lt, length, List, [], ◌∷◌, ◌++◌, refl, sym, ◌∙◌, ap, subst, Bool, true, false, if◌then◌else◌, Option, Some, None, Result, Err, inl, inr, codes}
use Rattle.std.specs.Option.{option_or}
use Rattle.xq_atoms.specs.declared.refusals.Code.{Code}
use Rattle.xq_atoms.specs.declared.refusals.Code.TheVariants.{XPST0003, XPST0008, XPST0017, XQST0089, XQST0090, XQST0094, FOAR0002, ProfUtf8, ProfDepth, ProfDigits, ProfDouble, ProfPrefix, ProfFrame, ProfAddress}
use Rattle.xq_atoms.specs.Atom.{is_integer}
use Rattle.xq_atoms.specs.Decimal.{is_decimal}
use Rattle.xq_atoms.specs.Judged.{only_if}
use Rattle.xq_atoms.specs.Literal.{fraction, millionths}
use Rattle.xq_atoms.specs.Text.{Text, text_eq, value}
use Rattle.xq_expressions.specs.declared.signatures.Function.{Function}
use Rattle.xq_expressions.specs.Signatures.{arity, admits, in_library, of_type}
use Rattle.xq_lexer.specs.Lexeme.{Lex}
use Rattle.xq_lexer.specs.Chars.{begins}
use Rattle.xq_lexer.specs.Literals.{Number, integer, decimal, begins_exponent, clings, code_of, value_fault, follow_fault, number_fault, first_fault as first_of}
use Rattle.xq_lexer.specs.TokenFaults.{ContentFault, FaultHere, TokenFault}
use Rattle.xq_statics.specs.Places.{Place, named, position, variable, grouping, call}
use Rattle.xq_statics.specs.Faults.{is_among, unless, unprefixed, position_fault, arity_fault, type_fault, call_fault, fault_at, first_fault}
use Rattle.xq_statics.specs.Statics.{places, static_fault}
use Rattle.xq_queries.specs.Texts.{characters}
use Rattle.xq_queries.specs.Reading.{TokensFault, CharactersFault, IsEarly, FaultsComeLater}

abbrev is_late : Code → Bool
is_late ProfFrame = false
is_late ProfAddress = false
is_late ProfUtf8 = false
is_late _ = true

abbrev IsLate : Code → Type 0
IsLate code = is_late code ≡ true

late_not_early : (code : Code) → IsLate code → ¬ (IsEarly code)
late_not_early code late early = elim early [
  | inl frame ↦ (let h : false ≡ true = sym (ap is_late frame) ∙ late in absurd cc)
  | inr other ↦ elim other [
    | inl address ↦ (let h : false ≡ true = sym (ap is_late address) ∙ late in absurd cc)
    | inr bytes ↦ (let h : false ≡ true = sym (ap is_late bytes) ∙ late in absurd cc)
  ]
]

-- none, or a late one
abbrev AtMostLate : Option Code → Type 0
AtMostLate None = Unit {0}
AtMostLate (Some code) = IsLate code

late_if : (b : Bool) (x y : Option Code) → AtMostLate x → AtMostLate y → AtMostLate (if b then x else y)
late_if true x y p q = p
late_if false x y p q = q

late_some : (o : Option Code) (code : Code) → AtMostLate o → o ≡ Some code → IsLate code
late_some o code p e = subst AtMostLate e p

is_then : (code : Code) (known : Code) → IsLate known → code ≡ known → IsLate code
is_then code known late e = subst IsLate (sym e) late

-- ---- static faults

late_unless : (b : Bool) (code : Code) → IsLate code → AtMostLate (unless b code)
late_unless true code p = tt
late_unless false code p = p

late_unprefixed : (prefix : Option Text) (o : Option Code) → AtMostLate o → AtMostLate (unprefixed prefix o)
late_unprefixed None o p = p
late_unprefixed (Some prefix) o p = refl

late_arity : (f : Option Function) (count : ℕ) → AtMostLate (arity_fault f count)
late_arity None count = refl
late_arity (Some f) count = late_unless (admits (arity f) count) XPST0017 refl

late_type : (f : Option Function) (count : ℕ) → AtMostLate (type_fault f count)
late_type None count = refl
late_type (Some f) count = late_arity (Some f) count

late_call : (prefix : Option Text) (local : Text) (count : ℕ) → AtMostLate (call_fault prefix local count)
late_call None local count = late_arity (in_library local) count
late_call (Some prefix) local count =
    late_if (text_eq prefix (codes "fn")) (arity_fault (in_library local) count)
    (if text_eq prefix (codes "xs") then type_fault (of_type local) count else Some ProfPrefix)
    (late_arity (in_library local) count)
    (late_if (text_eq prefix (codes "xs")) (type_fault (of_type local) count) (Some ProfPrefix)
    (late_type (of_type local) count) refl)

late_at : (p : Place) → AtMostLate (fault_at p)
late_at (named name) = late_unprefixed name.prefix None tt
late_at (position name ranging) = late_unprefixed name.prefix (position_fault name.local ranging.local)
    (late_if (text_eq name.local ranging.local) (Some XQST0089) None refl tt)
late_at (variable name in_scope) = late_unprefixed name.prefix (unless (is_among name.local in_scope) XPST0008)
    (late_unless (is_among name.local in_scope) XPST0008 refl)
late_at (grouping name bound) = late_unprefixed name.prefix (unless (is_among name.local bound) XQST0094)
    (late_unless (is_among name.local bound) XQST0094 refl)
late_at (call name count) = late_call name.prefix name.local count

late_or : (x y : Option Code) → AtMostLate x → AtMostLate y → AtMostLate (option_or x y)
late_or None y p q = q
late_or (Some code) y p q = p

late_first : (ps : List Place) → AtMostLate (first_fault ps)
late_first [] = tt
late_first (p ∷ ps) = late_or (fault_at p) (first_fault ps) (late_at p) (late_first ps)

late_of_tokens : (tokens : List Lex) (code : Code) → TokensFault tokens code → IsLate code
late_of_tokens tokens code fault = elim fault [
  | inl deep ↦ is_then code ProfDepth refl deep.1
  | inr shallow ↦ elim shallow.1 [
    | inl none ↦ is_then code XPST0003 refl none.1
    | inr judged ↦ late_some (static_fault judged.0) code (late_first (places judged.0 [])) judged.2
  ]
]

-- ---- faults of tokens

late_only_if : {A : Type 0} (b : Bool) (code : Code) (x : A) → IsLate code → AtMostLate (code_of (only_if b code x))
late_only_if true code x p = tt
late_only_if false code x p = p

late_unless_digits : {A : Type 0} (b : Bool) (r : Result A Code) → AtMostLate (code_of r)
    → AtMostLate (code_of (if b then Err ProfDigits else r))
late_unless_digits true r p = refl
late_unless_digits false r p = p

late_value : (n : Number) → AtMostLate (value_fault n)
late_value (integer w) = late_only_if (is_integer (pos (value w))) FOAR0002 (pos (value w)) refl
late_value (decimal w f) =
    let t = w ++ 46 ∷ f in
    late_unless_digits (nat_lt 6 (length (fraction t)))
    (only_if (is_decimal (pos (millionths t))) FOAR0002 (pos (millionths t)))
    (late_only_if (is_decimal (pos (millionths t))) FOAR0002 (pos (millionths t)) refl)

late_follow : (after : Text) → AtMostLate (follow_fault after)
late_follow after =
    late_if (begins_exponent after) (Some ProfDouble) (if begins clings after then Some XPST0003 else None) refl
    (late_if (begins clings after) (Some XPST0003) None refl tt)

late_first_of : (x y : Option Code) → AtMostLate x → AtMostLate y → AtMostLate (first_of x y)
late_first_of None y p q = q
late_first_of (Some code) y p q = p

late_content : (rest : Text) (code : Code) → ContentFault rest code → IsLate code
late_content rest code fault = elim fault [
  | inl end ↦ is_then code XPST0003 refl end.1
  | inr more ↦ elim more [
    | inl none ↦ is_then code XPST0003 refl none.4
    | inr reference ↦ elim reference [
      | inl refers ↦ is_then code XQST0090 refl refers.1
      | inr ampersand ↦ is_then code XPST0003 refl ampersand.1
    ]
  ]
]

late_token : (z : Text) (code : Code) → TokenFault z code → IsLate code
late_token z code fault = elim fault [
  | inl number ↦ late_some (number_fault number.written number.after) code
      (late_first_of (follow_fault number.after) (value_fault number.written) (late_follow number.after) (late_value number.written))
      number.fault
  | inr more ↦ elim more [
    | inl string ↦ late_content string.rest code string.fault
    | inr none ↦ is_then code XPST0003 refl none.1
  ]
]

late_here : (text : Text) (code : Code) → FaultHere text code → IsLate code
late_here text code fault = elim fault [
  | inl none ↦ is_then code XPST0003 refl none.1
  | inr token ↦ late_token token.0 code token.2
]

-- ---- texts

late_of_characters : (text : List ℕ) (code : Code) → CharactersFault text code → IsLate code
late_of_characters text code fault = elim fault [
  | inl wrong ↦ late_here wrong.1 code wrong.3
  | inr derived ↦ late_of_tokens derived.0 code derived.2
]

pub faults_late : FaultsComeLater
faults_late = λ text code utf8 refused. elim refused [
  | inl bytes ↦ absurd (bytes.0 utf8)
  | inr fault ↦ late_not_early code (late_of_characters (characters text) code fault.1)
]
