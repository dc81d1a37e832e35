-- The rows of the calls, and what the clauses of worked queries give, computed from definitions.
use Rattle.std.specs.Prelude.{◌≡◌, refl, ℕ, ◌*◌, List, [], ◌∷◌, map, pos, true, false, Ok, Err, codes}
use Rattle.xq_atoms.specs.declared.refusals.Code.TheVariants.{XPTY0004}
use Rattle.xq_atoms.specs.Atom.{Atomic, Integer, Decimal, String, Untyped}
use Rattle.xq_trees.specs.Tuples.{Tuple, OrderRule, value_at, bound, satisfying, expanded, numbered, grouped, ordered}
use Rattle.xq_trees.specs.Items.{ItemView, Value}

abbrev int : ℕ → Atomic
int n = Integer (pos n)

abbrev dec : ℕ → Atomic
dec n = Decimal (pos (n * 1000000))

abbrev x : Atomic
x = String (codes "x")

abbrev one : Atomic → List ItemView
one a = Value a ∷ []

abbrev keys : Atomic → Atomic → List (List (List Atomic))
keys a b = ((a ∷ []) ∷ (b ∷ []) ∷ []) ∷ []

abbrev ascending : List OrderRule
ascending = record { descending = false; greatest = false } ∷ []

abbrev descending : List OrderRule
descending = record { descending = true; greatest = false } ∷ []

-- for $n at $p in (7, 8)
abbrev counted : List (Tuple ItemView)
counted = (one (int 7) ∷ one (int 1) ∷ []) ∷ (one (int 8) ∷ one (int 2) ∷ []) ∷ []

-- and let $x := "x"
abbrev two : List (Tuple ItemView)
two = (one (int 7) ∷ one (int 1) ∷ one x ∷ []) ∷ (one (int 8) ∷ one (int 2) ∷ one x ∷ []) ∷ []

expand_row : expanded Value false true ([] ∷ []) ((Value (int 7) ∷ Value (int 8) ∷ []) ∷ []) ≡ counted
expand_row = refl

-- for $n allowing empty at $p in (), and in (7, 8)
expand_empty_row : expanded Value true true ([] ∷ []) ([] ∷ []) ≡ ([] ∷ one (int 0) ∷ []) ∷ []
expand_empty_row = refl

expand_items_row : expanded Value true true ([] ∷ []) ((Value (int 7) ∷ Value (int 8) ∷ []) ∷ []) ≡ counted
expand_items_row = refl

-- for $n in (7, 8) count $c
number_row : numbered Value ((one (int 7) ∷ []) ∷ (one (int 8) ∷ []) ∷ []) ≡ counted
number_row = refl

column_row : map (value_at 1) counted ≡ one (int 1) ∷ one (int 2) ∷ []
column_row = refl

bind_row : bound counted (one x ∷ one x ∷ []) ≡ two
bind_row = refl

keep_row : satisfying two (false ∷ true ∷ []) ≡ (one (int 8) ∷ one (int 2) ∷ one x ∷ []) ∷ []
keep_row = refl

group_row : grouped Value (2 ∷ []) two (keys x x) ≡ Ok (((Value (int 7) ∷ Value (int 8) ∷ []) ∷ (Value (int 1) ∷ Value (int 2) ∷ []) ∷ one x ∷ []) ∷ [])
group_row = refl

order_row : ordered descending two (keys (int 7) (int 8)) ≡ Ok ((one (int 8) ∷ one (int 2) ∷ one x ∷ []) ∷ (one (int 7) ∷ one (int 1) ∷ one x ∷ []) ∷ [])
order_row = refl

-- for $b in (1, 2) order by (if ($b = 1) then () else 5) descending
empty_last_descending : ordered descending ((one (int 1) ∷ []) ∷ (one (int 2) ∷ []) ∷ []) (([] ∷ (int 5 ∷ []) ∷ []) ∷ []) ≡ Ok ((one (int 2) ∷ []) ∷ (one (int 1) ∷ []) ∷ [])
empty_last_descending = refl

-- for $x in (1.0, 1) group by $x: the first key of a group stands for it
first_key_stays : grouped Value (0 ∷ []) ((one (dec 1) ∷ []) ∷ (one (int 1) ∷ []) ∷ []) (keys (dec 1) (int 1)) ≡ Ok ((one (dec 1) ∷ []) ∷ [])
first_key_stays = refl

-- a group of 1 and 1.0, and one of "1"
number_and_string : grouped Value (0 ∷ []) ((one (int 1) ∷ one (int 1) ∷ []) ∷ (one (String (codes "1")) ∷ one x ∷ []) ∷ []) (keys (int 1) (String (codes "1"))) ≡ Ok ((one (int 1) ∷ one (int 1) ∷ []) ∷ (one (String (codes "1")) ∷ one x ∷ []) ∷ [])
number_and_string = refl

-- an untyped key is a string
untyped_beside_string : ordered ascending ((one x ∷ []) ∷ (one (int 1) ∷ []) ∷ []) (keys x (Untyped (codes "a"))) ≡ Ok ((one (int 1) ∷ []) ∷ (one x ∷ []) ∷ [])
untyped_beside_string = refl

untyped_beside_number : ordered ascending ((one x ∷ []) ∷ (one x ∷ []) ∷ []) (keys (Untyped (codes "9")) (int 9)) ≡ Err XPTY0004
untyped_beside_number = refl

two_values_are_no_key : grouped Value (0 ∷ []) ((one x ∷ []) ∷ []) (((int 1 ∷ int 2 ∷ []) ∷ []) ∷ []) ≡ Err XPTY0004
two_values_are_no_key = refl
