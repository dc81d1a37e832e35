-- Rows of a million items. They are too many to compute, so each row follows from one about any
-- number of items.
use Rattle.std.proofs.Common.{zero, suc, ap, sym, ◌∙◌, arith, append-nil, append_assoc}
use Rattle.std.proofs.lemmas.List.{length-map}
use Rattle.std.specs.Prelude.{◌≡◌, refl, ℕ, ℤ, pos, ◌+ℤ◌, ◌+◌, ◌*◌, List, [], ◌∷◌, ◌++◌, map, length, Bool, true, false, None, Ok, Err, nat_le, codes, slice_index_or}
use Rattle.std.specs.List.{enumerate_from}
use Rattle.std.specs.Str.{chars}
use Rattle.xq_atoms.specs.Characters.{is_name_start, is_name_char}
use Rattle.xq_atoms.specs.declared.refusals.Code.TheVariants.{ProfNodes, ProfReply}
use Rattle.xq_atoms.specs.Judged.{Judged}
use Rattle.xq_atoms.specs.Text.{Text}
use Rattle.xq_atoms.specs.Atom.{String}
use Rattle.xq_trees.specs.declared.Kind.TheVariants as kind
use Rattle.xq_trees.specs.Forest.{Forest, end, node, count, tops, join}
use Rattle.xq_trees.specs.Node.{subtree}
use Rattle.xq_sources.specs.Sources.{tree_at, no_tree}
use Rattle.xq_trees.specs.Tree.{Label, Tree, nodes}
use Rattle.xq_trees.specs.Tuples.{Tuple, expanded}
use Rattle.xq_meaning.specs.Items.{Item, Node, Atom, root_of}
use Rattle.xq_meaning.specs.Operators.{how_many, integers_from}
use Rattle.xq_meaning.specs.Print.{print_items}
use Rattle.xq_meaning.specs.Content.{label, copied, flattened, merged, without_empty_texts, content, first_fault, is_within_height, built, named_tree}
use Rattle.xq_meaning.specs.Doing.{Doing, ◌>>=◌, go_on, on_trees, in_turn, more}
use Rattle.xq_meaning.specs.Forms.{planted}
use Rattle.xq_expressions.specs.declared.operators.NamedNode.TheVariants as named
use Rattle.xq_meaning.specs.Meaning.{Meaning, Frame, first_frame}
use Rattle.xq_meaning.proofs.Library.{answered, library, answer}
use Rattle.xq_meaning.proofs.Writing.{num, txt, none, to, element, flwor, for_in}
use Rattle.xq_meaning.proofs.LimitRows.{nodes_over_a_million}

-- # Lists of the same values

abbrev repeated : {A : Type 0} → ℕ → A → List A
repeated zero x = []
repeated (suc n) x = x ∷ repeated n x

-- each part gives the same item, and leaves the trees
same_item : {A B : Type 0} (act : A → Doing (List B)) (y : B) →
    ((t : A) (trees : List Tree) → act t trees ≡ (Ok (y ∷ []), trees)) →
    (ts : List A) (done : List B) (trees : List Tree) →
    in_turn (more act) done ts trees ≡ (Ok (done ++ repeated (length ts) y), trees)
same_item act y gives [] done trees = rw (append-nil done)
same_item act y gives (t ∷ ts) done trees =
    rw (
      gives t trees,
      same_item act y gives ts (done ++ y ∷ []) trees,
      append_assoc done (y ∷ []) (repeated (length ts) y),
    )

-- # The tuples of `for $i in 1 to m`

count_of_integers : (n : ℕ) (i : ℤ) → length (integers_from i n) ≡ n
count_of_integers zero i = refl
count_of_integers (suc n) i = ap suc (count_of_integers n (i +ℤ pos 1))

count_of_numbered : {A : Type 0} (xs : List A) (i : ℕ) → length (enumerate_from i xs) ≡ length xs
count_of_numbered [] i = refl
count_of_numbered (x ∷ xs) i = ap suc (count_of_numbered xs (i + 1))

abbrev tuples_of : List Item → List (Tuple Item)
tuples_of xs = expanded Atom false false ([] ∷ []) (xs ∷ [])

abbrev alone : ℕ × Item → Tuple Item
alone p = (p.1 ∷ []) ∷ []

count_of_tuples : (xs : List Item) → length (tuples_of xs) ≡ length xs
count_of_tuples xs =
    ap length (append-nil (map alone (enumerate_from 1 xs)))
    ∙ length-map (enumerate_from 1 xs) alone ∙ count_of_numbered xs 1

-- the numbers from 1 to m are so many, and few enough
record Counts (m : ℕ) : Type 0 where
  counted : how_many (pos 1) (pos m) ≡ m
  fits : nat_le m 1000000 ≡ true

abbrev tuples_to : ℕ → List (Tuple Item)
tuples_to m = tuples_of (integers_from (pos 1) m)

count_to : (m : ℕ) → length (tuples_to m) ≡ m
count_to m = count_of_tuples (integers_from (pos 1) m) ∙ count_of_integers m (pos 1)

-- # A reply that is too long

-- for $i in 1 to m return "0123456789abcdef"
abbrev repeats : ℕ → Meaning
repeats m = flwor (for_in "i" (to (num 1) (num m)) ∷ []) (txt "0123456789abcdef")

abbrev text : Item
text = Atom (String (codes "0123456789abcdef"))

abbrev frame : Frame
frame = first_frame (codes "b" ∷ [])

texts : (m : ℕ) → Counts m → repeats m frame (library ∷ []) ≡ (Ok (repeated m text), library ∷ [])
texts m h = rw (h.counted, h.fits)
    (same_item _ text (λ t trees. refl) (tuples_to m) [] (library ∷ [])
    ∙ ap (λ n. (Ok (repeated n text), library ∷ [])) (count_to m))

-- each text has its quotes, and after the first a comma and a space before it
printed : (n : ℕ) → length (print_items (library ∷ []) (repeated (suc n) text)) ≡ 18 + n * 20
printed zero = refl
printed (suc n) = omega (arith, printed n)

too_long : (n : ℕ) → Counts (suc n) → nat_le (18 + n * 20) 16777216 ≡ false →
    answer (repeats (suc n)) ≡ Err ProfReply
too_long n h long = ap answered (texts (suc n) h) ∙ rw (printed n, long)

-- for $i in 1 to 1000000 return "0123456789abcdef"
reply_of_20_megabytes : answer (repeats 1000000) ≡ Err ProfReply
reply_of_20_megabytes = too_long 999999 (record { counted = refl; fits = refl }) refl

-- # An element with too many nodes

abbrev leaf : Label
leaf = label kind.Element (codes "b") []

-- element b {}
abbrev empty : Tree
empty = record { root = leaf; below = end }

-- the roots of trees with numbers from n on
abbrev roots_from : ℕ → ℕ → List Item
roots_from n zero = []
roots_from n (suc m) = Node (root_of n) ∷ roots_from (suc n) m

length_after : (f : List Tree) (t : Tree) → length (f ++ t ∷ []) ≡ suc (length f)
length_after [] t = refl
length_after (u ∷ us) t = ap suc (length_after us t)

-- a constructor for each tuple: as many trees at the end of the others
planted_each : {A : Type 0} (act : A → Doing (List Item)) →
    ((t : A) (trees : List Tree) →
    act t trees ≡ (Ok (Node (root_of (length trees)) ∷ []), trees ++ empty ∷ [])) →
    (ts : List A) (done : List Item) (trees : List Tree) →
    in_turn (more act) done ts trees
    ≡ (Ok (done ++ roots_from (length trees) (length ts)), trees ++ repeated (length ts) empty)
planted_each act gives [] done trees = rw (append-nil done, append-nil trees)
planted_each act gives (t ∷ ts) done trees =
    rw (
      gives t trees,
      planted_each act gives ts (done ++ Node (root_of (length trees)) ∷ []) (trees ++ empty ∷ []),
      append_assoc done (Node (root_of (length trees)) ∷ [])
          (roots_from (length (trees ++ empty ∷ [])) (length ts)),
      append_assoc trees (empty ∷ []) (repeated (length ts) empty),
      length_after trees empty,
    )

-- so many empty elements beside each other
abbrev leaves : ℕ → Forest Label
leaves zero = end
leaves (suc n) = node leaf end (leaves n)

at_length : (f g : List Tree) (t other : Tree) → slice_index_or (f ++ t ∷ g) (length f) other ≡ t
at_length [] g t other = refl
at_length (u ∷ us) g t other = at_length us g t other

flat : (n : ℕ) (f trees : List Tree) → trees ≡ f ++ repeated n empty →
    flattened trees (roots_from (length f) n) ≡ leaves n
flat zero f trees is = refl
flat (suc n) f trees is =
    let others : ℕ → Forest Label = λ k. flattened trees (roots_from k n) in
    let found : tree_at trees (length f) ≡ empty =
    ap (λ ts. tree_at ts (length f)) is ∙ at_length f (repeated n empty) empty no_tree in
    let after : trees ≡ (f ++ empty ∷ []) ++ repeated n empty =
    is ∙ sym (append_assoc f (empty ∷ []) (repeated n empty)) in
    ap (λ t. join (copied (subtree t (0 ∷ []))) (others (suc (length f)))) found
    ∙ ap (λ k. node leaf end (others k)) (sym (length_after f empty))
    ∙ ap (node leaf end) (flat n (f ++ empty ∷ []) trees after)

unmerged : (n : ℕ) → merged (leaves n) ≡ leaves n
unmerged zero = refl
unmerged (suc zero) = refl
unmerged (suc (suc n)) = rw (unmerged (suc n))

undeleted : (n : ℕ) → without_empty_texts (leaves n) ≡ leaves n
undeleted zero = refl
undeleted (suc n) = ap (node leaf end) (undeleted n)

no_fault : (n : ℕ) (late : Bool) → first_fault kind.Element [] late (tops (leaves n)) ≡ None
no_fault zero late = refl
no_fault (suc n) late = no_fault n true

low : (n : ℕ) → is_within_height 100 (leaves n) ≡ true
low zero = refl
low (suc n) = low n

many : (n : ℕ) → count (leaves n) ≡ n
many zero = refl
many (suc n) = omega (arith, many n)

-- element a {for $i in 1 to m return element b {}}
abbrev nested : ℕ → Meaning
nested m = element "a" (flwor (for_in "i" (to (num 1) (num m)) ∷ []) (element "b" none))

empty_elements : (m : ℕ) → Counts m →
    flwor (for_in "i" (to (num 1) (num m)) ∷ []) (element "b" none) frame (library ∷ [])
    ≡ (Ok (roots_from 1 m), library ∷ repeated m empty)
unfolding chars is_name_start is_name_char
empty_elements m h = rw (h.counted, h.fits)
    (planted_each _ (λ t trees. refl) (tuples_to m) [] (library ∷ [])
    ∙ ap (λ n. (Ok (roots_from 1 n), library ∷ repeated n empty)) (count_to m))

contents : (m : ℕ) → content (library ∷ repeated m empty) (roots_from 1 m) ≡ leaves m
contents m =
    let trees : List Tree = library ∷ repeated m empty in
    ap (λ f. without_empty_texts (merged f)) (flat m (library ∷ []) trees refl)
    ∙ ap without_empty_texts (unmerged m) ∙ undeleted m

too_many : (m : ℕ) → nat_le (suc m) 1000000 ≡ false →
    built (label kind.Element (codes "a") []) (leaves m) ≡ Err ProfNodes
too_many m over =
    let whole : Tree = record { root = label kind.Element (codes "a") []; below = leaves m } in
    let count_is : count (nodes whole) ≡ suc m = omega (arith, many m) in
    rw (no_fault m false) (nodes_over_a_million whole (rw (low m)) (rw (count_is, over)))

abbrev trees_after : ℕ → List Tree
trees_after m = library ∷ repeated m empty

-- what the outer constructor does with its content
abbrev in_element : List Item → Doing (List Item)
in_element xs = on_trees (λ trees. named_tree named.Element (codes "a") trees xs) >>= planted

too_many_children : (m : ℕ) → Counts m → nat_le (suc m) 1000000 ≡ false →
    answer (nested m) ≡ Err ProfNodes
unfolding chars is_name_start is_name_char
too_many_children m h over =
    let plant : Judged Tree → Judged Text = λ t. answered (go_on (t, trees_after m) planted) in
    ap (λ o. answered (go_on o in_element)) (empty_elements m h)
    ∙ ap (λ f. plant (built (label kind.Element (codes "a") []) f)) (contents m)
    ∙ ap plant (too_many m over)

-- element a {for $i in 1 to 1000000 return element b {}}
a_million_children : answer (nested 1000000) ≡ Err ProfNodes
a_million_children = too_many_children 1000000 (record { counted = refl; fits = refl }) refl
