-- The fault of one place, and that of the first place which has one.
use Rattle.std.specs.Prelude.{ℕ, List, [], ◌∷◌, Bool, true, false, Option, Some, None, codes, if◌then◌else◌}
use Rattle.std.specs.List.{list_any}
use Rattle.std.specs.Option.{option_or}
use Rattle.xq_atoms.specs.declared.refusals.Code.{Code}
use Rattle.xq_atoms.specs.declared.refusals.Code.TheVariants.{XPST0008, XPST0017, XQST0089, XQST0094, ProfPrefix, ProfType}
use Rattle.xq_atoms.specs.Text.{Text, text_eq}
use Rattle.xq_expressions.specs.declared.signatures.Function.{Function}
use Rattle.xq_expressions.specs.Signatures.{arity, admits, in_library, of_type}
use Rattle.xq_statics.specs.Places.{Place, named, position, variable, grouping, call}

-- the name is one of these
abbrev pub is_among : Text → List Text → Bool
is_among name names = list_any (text_eq name) names

-- no fault where the test holds, and else this code
abbrev pub unless : Bool → Code → Option Code
unless true code = None
unless false code = Some code

-- this profile has no prefixed names but those of functions: nothing else is judged of one
abbrev pub unprefixed : Option Text → Option Code → Option Code
unprefixed None fault = fault
unprefixed (Some prefix) fault = Some ProfPrefix

-- XQuery 3.1, 3.12.2: the two variables of a `for` differ
abbrev pub position_fault : Text → Text → Option Code
position_fault at ranging = if text_eq at ranging then Some XQST0089 else None

-- XQuery 3.1, 3.1.5: a function of that name takes so many arguments
abbrev pub arity_fault : Option Function → ℕ → Option Code
arity_fault None count = Some XPST0017
arity_fault (Some function) count = unless (admits (arity function) count) XPST0017

-- the name stands after `xs:`
abbrev pub type_fault : Option Function → ℕ → Option Code
type_fault None count = Some ProfType
type_fault (Some function) count = arity_fault (Some function) count

-- a call with a bare name or `fn:` is one of the library, with `xs:` one of a type; other
-- prefixes are refused
abbrev pub call_fault : Option Text → Text → ℕ → Option Code
call_fault None local count = arity_fault (in_library local) count
call_fault (Some prefix) local count =
    if text_eq prefix (codes "fn") then arity_fault (in_library local) count
    else (if text_eq prefix (codes "xs") then type_fault (of_type local) count else Some ProfPrefix)

-- XQuery 3.1, 2.2.3.1: the static fault of a place, if it has one
abbrev pub fault_at : Place → Option Code
fault_at (named name) = unprefixed name.prefix None
fault_at (position name ranging) = unprefixed name.prefix (position_fault name.local ranging.local)
fault_at (variable name in_scope) = unprefixed name.prefix
    (unless (is_among name.local in_scope) XPST0008)
fault_at (grouping name bound) = unprefixed name.prefix
    (unless (is_among name.local bound) XQST0094)
fault_at (call name count) = call_fault name.prefix name.local count

-- the fault of the first place that has one
abbrev pub first_fault : List Place → Option Code
first_fault [] = None
first_fault (place ∷ places) = option_or (fault_at place) (first_fault places)
