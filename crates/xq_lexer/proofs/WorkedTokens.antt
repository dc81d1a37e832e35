-- The rows of the table of tokens, computed.
use Rattle.std.proofs.Common.{◌≡◌, [], ◌∷◌, ◌++◌, codes, Some, None, Ok, Err, refl}
use Rattle.xq_atoms.specs.declared.refusals.Code.TheVariants.{XPST0003, XQST0090, FOAR0002, ProfDigits, ProfDouble}
use Rattle.xq_lexer.specs.declared.tokens.Symbol.TheVariants as s
use Rattle.xq_atoms.specs.Literal.{millionths}
use Rattle.xq_atoms.specs.Characters.{is_char, is_name_start, is_name_char}
use Rattle.xq_lexer.specs.Separators.{skip}
use Rattle.xq_lexer.specs.Literals.{decimal, ampersand, plain, doubled, reference}
use Rattle.xq_lexer.specs.Spelling.{name, prefixed, number, string, symbol}
use Rattle.xq_lexer.specs.Reading.{read_token, read_name, after_name, read_number, after_digits, judged, read_string, content, inside, read_reference, read_numbered, read_symbol}

comments_nest : skip 0 (codes " (: a (: b :) c :) 1") ≡ Some (codes "1")
unfolding is_char
comments_nest = refl

comment_stays_open : skip 0 (codes "(: a") ≡ None
unfolding is_char
comment_stays_open = refl

no_character_in_comment : skip 0 (40 ∷ 58 ∷ 0 ∷ codes ":)") ≡ None
unfolding is_char
no_character_in_comment = refl

module _ where
  names : read_token (codes "a-1 b") ≡ Ok (name (codes "a-1"), codes " b")
  unfolding read_token read_name after_name is_name_start is_name_char
  names = refl

  prefixed_names : read_token (codes "a:b") ≡ Ok (prefixed (codes "a") (codes "b"), [])
  unfolding read_token read_name after_name is_name_start is_name_char
  prefixed_names = refl

  name_before_assign : read_token (codes "a:=1") ≡ Ok (name (codes "a"), codes ":=1")
  unfolding read_token read_name after_name is_name_start is_name_char
  name_before_assign = refl

  two_points : read_token (codes "1..2") ≡ Err XPST0003
  unfolding read_token read_number after_digits judged is_name_start
  two_points = refl

  point_behind : read_token (codes ".5.") ≡ Err XPST0003
  unfolding read_token read_number after_digits judged is_name_start
  point_behind = refl

  no_exponent : read_token (codes "1e") ≡ Err XPST0003
  unfolding read_token read_number after_digits judged is_name_start
  no_exponent = refl

  exponent : read_token (codes "1.e5") ≡ Err ProfDouble
  unfolding read_token read_number after_digits judged is_name_start
  exponent = refl

  number_then_name : read_token (codes "1a") ≡ Err XPST0003
  unfolding read_token read_number after_digits judged is_name_start
  number_then_name = refl

  too_fine : read_token (codes "0.1234567") ≡ Err ProfDigits
  unfolding read_token read_number after_digits judged is_name_start
  too_fine = refl

  zeros_behind : read_token (codes "0.1000000") ≡ Ok (number (decimal (codes "0") (codes "1000000")), [])
  unfolding read_token read_number after_digits judged is_name_start
  zeros_behind = refl

  a_tenth : millionths (codes "0.1000000") ≡ 100000
  a_tenth = refl

  too_large : read_token (codes "9223372036854775808") ≡ Err FOAR0002
  unfolding read_token read_number after_digits judged is_name_start
  too_large = refl

  no_such_character : read_token (34 ∷ codes "&#x110000;" ++ 34 ∷ []) ≡ Err XQST0090
  unfolding read_token read_string content inside read_reference read_numbered is_char is_name_start
  no_such_character = refl

  no_such_reference : read_token (34 ∷ codes "&x;" ++ 34 ∷ []) ≡ Err XPST0003
  unfolding read_token read_string content inside read_reference read_numbered is_char is_name_start
  no_such_reference = refl

  open_string : read_token (34 ∷ []) ≡ Err XPST0003
  unfolding read_token read_string content inside is_name_start
  open_string = refl

  quotes : read_token (34 ∷ codes "a" ++ 34 ∷ 34 ∷ codes "&amp;" ++ 34 ∷ codes " b") ≡ Ok (string 34 (plain 97 ∷ doubled ∷ reference ampersand ∷ []), codes " b")
  unfolding read_token read_string content inside read_reference read_numbered is_char is_name_start
  quotes = refl

  lone_colon : read_token (codes ": b") ≡ Err XPST0003
  unfolding read_token read_symbol is_name_start
  lone_colon = refl

  bang : read_token (codes "!!=") ≡ Ok (symbol s.Bang, codes "!=")
  unfolding read_token read_symbol is_name_start
  bang = refl

  not_equal : read_token (codes "!=1") ≡ Ok (symbol s.NotEqual, codes "1")
  unfolding read_token read_symbol is_name_start
  not_equal = refl

  arrow : read_token (codes "=>>") ≡ Ok (symbol s.Arrow, codes ">")
  unfolding read_token read_symbol is_name_start
  arrow = refl

  parted_arrow : read_token (codes "= >") ≡ Ok (symbol s.Equal, codes " >")
  unfolding read_token read_symbol is_name_start
  parted_arrow = refl

  assign : read_token (codes ":=1") ≡ Ok (symbol s.Assign, codes "1")
  unfolding read_token read_symbol is_name_start
  assign = refl
