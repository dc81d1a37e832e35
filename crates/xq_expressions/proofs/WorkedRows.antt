-- Worked rows of the table of functions, computed.
use Rattle.std.proofs.Common.{◌≡◌, true, false, map, Some, None, codes, refl}
use Rattle.xq_expressions.specs.Signatures.{name, arity, admits, library, constructors, in_library, of_type, function_named}
use Rattle.xq_expressions.specs.declared.signatures.Function.TheVariants as f

-- each function is found by its own name
found_in_library : map (λ function. in_library (name function)) library ≡ map Some library
found_in_library = refl

found_of_type : map (λ function. of_type (name function)) constructors ≡ map Some constructors
found_of_type = refl

-- `fn:count`, `xs:string` and `string`, and what there isn't: `xs:double`, `my:f`, `integer`
count_after_fn : function_named (Some (codes "fn")) (codes "count") ≡ Some f.Count
count_after_fn = refl

type_string : function_named (Some (codes "xs")) (codes "string") ≡ Some f.ToString
type_string = refl

bare_string : function_named None (codes "string") ≡ Some f.String
bare_string = refl

no_double : function_named (Some (codes "xs")) (codes "double") ≡ None
no_double = refl

no_prefix : function_named (Some (codes "my")) (codes "count") ≡ None
no_prefix = refl

no_bare_type : function_named None (codes "integer") ≡ None
no_bare_type = refl

-- `concat` takes two and more, `substring` two or three, `true` none
one_to_concat : admits (arity f.Concat) 1 ≡ false
one_to_concat = refl

many_to_concat : admits (arity f.Concat) 1000 ≡ true
many_to_concat = refl

three_to_substring : admits (arity f.Substring) 3 ≡ true
three_to_substring = refl

four_to_substring : admits (arity f.Substring) 4 ≡ false
four_to_substring = refl

one_to_true : admits (arity f.True) 1 ≡ false
one_to_true = refl
