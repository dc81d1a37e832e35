-- Pieces of a text, one after another.
use Rattle.std.proofs.Common.{◌≡◌, ℕ, suc, ◌<◌, ◌≤◌, List, [], ◌∷◌, ◌++◌, length, get_or, take, refl, sym, ◌∙◌, ap, subst, arith, append_assoc, encode_utf8, map, Bool, true, false, nat_lt, ◌+◌, ◌-◌, drop}
use Rattle.std.proofs.lemmas.List.{length-append, append-nil, drop_more, map-append}
use Rattle.std.proofs.lemmas.Str.{encodes-append, encode_ascii, inside_one}
use Rattle.std.proofs.lemmas.Bool.Decides.{nat_tests}
use Rattle.std.specs.Str.{encode_utf8_all}
use Rattle.xq_atoms.specs.declared.refusals.Fault.{Fault}
use Rattle.xq_atoms.specs.declared.refusals.Fault.TheVariants.{Code as OfCode, Want as OfWant}
use Rattle.xq_atoms.specs.declared.refusals.Code.{Code}
use Rattle.xq_atoms.specs.declared.refusals.Code.TheVariants.{ProfReply}
use Rattle.xq_trees.specs.Print.{print}
use Rattle.xq_atoms.specs.Print.{quoted_character, escaped}
use Rattle.xq_trees.specs.Printing.{text_from}
use Rattle.xq_trees.specs.Tree.{Tree}
use Rattle.xq_trees.specs.declared.NodeRow.{NodeRow}
use Rattle.xq_trees.proofs.Printed.{text-rows}
use Rattle.xq_trees.specs.declared.items.Item.{Item as CodeItem}
use Rattle.xq_trees.specs.Items.{item_view}
use Rattle.xq_meaning.specs.Items.{Item, tree_below}
use Rattle.xq_meaning.specs.Readings.{item_at, items_at, node_at}
use Rattle.xq_meaning.specs.Print.{print_item, print_items, within_reply}
use Rattle.xq_trees.specs.Rows.{Row, no_row, row_of, placed}
use Rattle.xq_trees.specs.declared.items.Node.{Node as CodeNode}
use Rattle.xq_sources.specs.Lenders.{IsRun}
use Rattle.xq_sources.specs.Lent.{lent_at}
use Rattle.xq_sources.specs.Sources.{rows_between, tree_at}
use Rattle.xq_build.proofs.Subtrees.{run_splits, whole_leaves}
use Rattle.std.specs.Prelude.{Result, String, string_bytes, codes, nat_le, Ok, Err}
use Rattle.xq_atoms.specs.Answers.{GivesUnlessWanting}
use Rattle.xq_build.specs.private.Leaves.{Leaf, leaf, lowered, leaves_between, IsRowOf}
use Rattle.xq_build.specs.private.Writing.{IsTooLong, Appends, each_after_comma, escape_char}

-- a text that is too long stays so
too_long_more : (limit : ℕ) (e : Fault) (before p q : List ℕ) → IsTooLong limit (before ++ p) e → IsTooLong limit (before ++ (p ++ q)) e
too_long_more limit (OfWant w) before p q h = h
too_long_more limit (OfCode c) before p q h = (h.0, omega (arith, h.1, length-append before p, length-append before (p ++ q), length-append p q))

too_long_along : (limit : ℕ) (e : Fault) (x y : List ℕ) → x ≡ y → IsTooLong limit x e → IsTooLong limit y e
too_long_along limit e x y p h = let P : List ℕ → Type 0 = λ t. IsTooLong limit t e in subst P p h

-- a refusal of a piece of a text that has more
pub refused_within : (limit : ℕ) (f : Fault) (x q more whole : List ℕ) → x ++ (q ++ more) ≡ whole → IsTooLong limit (x ++ q) f → IsTooLong limit whole f
refused_within limit f x q more whole e h = too_long_along limit f _ _ e (too_long_more limit f x q more h)

pub escaped-append : (xs ys : List ℕ) → escaped (xs ++ ys) ≡ escaped xs ++ escaped ys
escaped-append [] ys = refl
escaped-append (x ∷ xs) ys = ap (λ l. quoted_character x ++ l) (escaped-append xs ys) ∙ sym (append_assoc (quoted_character x) (escaped xs) (escaped ys))

plain : (b : ℕ) → 128 ≤ b → quoted_character b ≡ b ∷ []
plain b h = grind (arith, nat_tests)

plain_bytes : (bs : List ℕ) → ((k : ℕ) → k < length bs → 128 ≤ get_or bs k 0) → escaped bs ≡ bs
plain_bytes [] h = refl
plain_bytes (b ∷ bs) h = rw (plain b (h 0 (omega arith)), plain_bytes bs (λ k lt. h (suc k) (omega arith))) refl

pub wide_bytes : (c : ℕ) → 128 ≤ c → (k : ℕ) → k < length (encode_utf8 c) → 128 ≤ get_or (encode_utf8 c) k 0
wide_bytes c h k lt = by_test (nat_lt (get_or (encode_utf8 c) k 0) 128) refl
  where
    by_test : (b : Bool) → nat_lt (get_or (encode_utf8 c) k 0) 128 ≡ b → 128 ≤ get_or (encode_utf8 c) k 0
    by_test false e = grind (arith, nat_tests)
    by_test true e =
        let small : get_or (encode_utf8 c) k 0 < 128 = grind (arith, nat_tests) in
        let same = inside_one c [] (encode_utf8 c) k (sym (append-nil (encode_utf8 c))) lt small in
        omega arith

-- a character's bytes are escaped as the character is
pub escaped-encode : (c : ℕ) → escaped (encode_utf8 c) ≡ escape_char c
escaped-encode c = by_test (nat_lt c 128) refl
  where
    by_test : (b : Bool) → nat_lt c 128 ≡ b → escaped (encode_utf8 c) ≡ escape_char c
    by_test true e = let small : c < 128 = grind (arith, nat_tests) in rw (encode_ascii c small) (append-nil (quoted_character c))
    by_test false e =
        let wide : 128 ≤ c = grind (arith, nat_tests) in
        let is : escape_char c ≡ encode_utf8 c = grind (arith, nat_tests) in
        plain_bytes (encode_utf8 c) (wide_bytes c wide) ∙ sym is

pub escaped-push : (cs : List ℕ) (c : ℕ) → escaped (encode_utf8_all (cs ++ c ∷ [])) ≡ escaped (encode_utf8_all cs) ++ escape_char c
escaped-push cs c =
    ap escaped (encodes-append cs (c ∷ []) ∙ ap (λ l. encode_utf8_all cs ++ l) (append-nil (encode_utf8 c)))
    ∙ escaped-append (encode_utf8_all cs) (encode_utf8 c) ∙ ap (λ l. escaped (encode_utf8_all cs) ++ l) (escaped-encode c)

pub map-same : (cs : List ℕ) → map (λ c. c) cs ≡ cs
map-same [] = refl
map-same (c ∷ cs) = ap (λ l. c ∷ l) (map-same cs)

-- the character of a turn, between those before it and those after it
pub split_at_turn : (all xs : List ℕ) (c : ℕ) → map (λ c. c) xs ≡ take (length xs) all → (length xs < length all) × (c ≡ get_or all (length xs) c) → (ys : List ℕ) × (all ≡ (xs ++ c ∷ []) ++ ys)
split_at_turn all [] c e h = first all h
  where
    first : (all : List ℕ) → (0 < length all) × (c ≡ get_or all 0 c) → (ys : List ℕ) × (all ≡ ([] ++ c ∷ []) ++ ys)
    first [] h = absurd (omega (arith, h.0))
    first (a ∷ all) h = (all, ap (λ x. x ∷ all) (sym h.1))
split_at_turn [] (x ∷ xs) c e h = absurd (omega (arith, h.0))
split_at_turn (a ∷ all) (x ∷ xs) c e h =
    let r = split_at_turn all xs c (cc) (omega (arith, h.0), h.1) in
    let first : x ≡ a = cc in
    (r.0, rw first (ap (λ l. a ∷ l) r.1))

pub escaped_split : (value all xs : List ℕ) (c : ℕ) (ys : List ℕ) → encode_utf8_all all ≡ value → all ≡ (xs ++ c ∷ []) ++ ys → escaped (encode_utf8_all xs) ++ (escape_char c ++ escaped (encode_utf8_all ys)) ≡ escaped value
escaped_split value all xs c ys e h =
    sym (append_assoc (escaped (encode_utf8_all xs)) (escape_char c) _) ∙ ap (λ l. l ++ escaped (encode_utf8_all ys)) (sym (escaped-push xs c))
    ∙ sym (escaped-append (encode_utf8_all (xs ++ c ∷ [])) (encode_utf8_all ys)) ∙ ap escaped (sym (encodes-append (xs ++ c ∷ []) ys) ∙ ap encode_utf8_all (sym h) ∙ e)

-- a turn over the characters of a value
pub value_next : (before text new ys : List ℕ) (c : ℕ) → text ≡ before ++ escaped (encode_utf8_all ys) → new ≡ text ++ escape_char c → new ≡ before ++ escaped (encode_utf8_all (ys ++ c ∷ []))
value_next before text new ys c e h =
    h ∙ ap (λ l. l ++ escape_char c) e ∙ append_assoc before _ _ ∙ ap (λ l. before ++ l) (sym (escaped-push ys c))

pub value_refused : (limit : ℕ) (before text value all xs : List ℕ) (c : ℕ) (ys : List ℕ) (f : Fault) → encode_utf8_all all ≡ value → all ≡ (xs ++ c ∷ []) ++ ys
    → text ≡ before ++ escaped (encode_utf8_all xs) → IsTooLong limit (text ++ escape_char c) f → IsTooLong limit (before ++ escaped value) f
value_refused limit before text value all xs c ys f v h e r =
    refused_within limit f text (escape_char c) (escaped (encode_utf8_all ys)) _
    (ap (λ l. l ++ (escape_char c ++ escaped (encode_utf8_all ys))) e ∙ append_assoc before _ _ ∙ ap (λ l. before ++ l) (escaped_split value all xs c ys v h)) r

-- what was written at the end of an empty text is the whole
pub whole : (limit : ℕ) (text start written printed : List ℕ) → start ≡ [] → written ≡ printed → (text ≡ start ++ written) × (length text ≤ limit) → (text ≡ printed) × (length printed ≤ limit)
whole limit text start written printed s w h =
    let e : text ≡ printed = h.0 ∙ ap (λ l. l ++ written) s ∙ w in
    let P : List ℕ → Type 0 = λ l. length l ≤ limit in
    (e, subst P e h.1)

-- # A reply

refused_code : (whole : List ℕ) (code : Code) → code ≡ ProfReply → 16777216 < length whole → within_reply whole ≡ Err code
refused_code whole code e h = let no : nat_le (length whole) 16777216 ≡ false = grind (arith, nat_tests) in rw no (ap Err (sym e))

pub reply_refused : {X : Type 0} (view : X → List ℕ) (whole text : List ℕ) (f : Fault) → text ≡ whole → IsTooLong 16777216 text f → GivesUnlessWanting view (within_reply whole) (Err f)
reply_refused view whole text (OfWant want) e h = tt
reply_refused view whole text (OfCode code) e h = refused_code whole code h.0 (omega (arith, h.1, ap length e))

pub reply_given : (whole text : List ℕ) → text ≡ whole → length text ≤ 16777216 → within_reply whole ≡ Ok text
reply_given whole text e h =
    let yes : nat_le (length whole) 16777216 ≡ true = (let l = ap length e in grind (arith, nat_tests)) in rw yes (ap Ok (sym e))

-- the first item, and the others
pub printed_all : (trees : List Tree) (x : Item) (xs : List Item) → print_items trees (x ∷ xs) ≡ print_item trees x ++ each_after_comma trees xs
printed_all trees x [] = sym (append-nil (print_item trees x))
printed_all trees x (y ∷ xs) =
    append_assoc (print_item trees x) (codes ", ") (print_items trees (y ∷ xs)) ∙ ap (λ (l : List ℕ). print_item trees x ++ (codes ", " ++ l)) (printed_all trees y xs)

-- a text that begins with nothing, goes on with the first item, and then with the others
pub begun : (trees now : List Tree) (items : List CodeItem) (x : CodeItem) (xs : List CodeItem) (start first : List ℕ)
    → start ≡ [] → now ≡ trees → items ≡ x ∷ xs → first ≡ start ++ print_item trees (item_at trees (item_view x))
    → first ++ each_after_comma now (items_at now (map item_view xs)) ≡ print_items trees (items_at trees (map item_view items))
begun trees now items x xs start first s e i h =
    ap (λ (l : List ℕ). l ++ each_after_comma now (items_at now (map item_view xs))) (h ∙ ap (λ (l : List ℕ). l ++ print_item trees (item_at trees (item_view x))) s)
    ∙ ap (λ (ts : List Tree). print_item trees (item_at trees (item_view x)) ++ each_after_comma ts (items_at ts (map item_view xs))) e
    ∙ sym (printed_all trees (item_at trees (item_view x)) (items_at trees (map item_view xs)))
    ∙ ap (λ (ys : List CodeItem). print_items trees (items_at trees (map item_view ys))) (sym i)

-- a node, and what is below it
pub whole_text : (trees : List Tree) (n : CodeNode) (row : NodeRow) → IsRowOf trees n row
    → text_from 0 ((0, (row_of row).label) ∷ map (lowered row.level) (leaves_between (tree_at trees n.tree) (n.pre + 1) (n.pre + row.size))) ≡ print (tree_below trees (node_at trees n))
whole_text trees n row is = ap (text_from 0) (whole_leaves trees n row is) ∙ text-rows (tree_below trees (node_at trees n))

-- # Nodes run by run

-- a text that ends otherwise, by what was there before
pub appended : {Z : Type 0} (limit : ℕ) (piece all : List ℕ) (result : Result (Unit {0}) Fault) (old mid new : String Z) → string_bytes mid ++ piece ≡ string_bytes old ++ all
    → Appends limit piece result mid new → Appends limit all result old new
appended limit piece all (Ok t) old mid new e h = (h.0 ∙ e, h.1)
appended limit piece all (Err f) old mid new e h = too_long_along limit f (string_bytes mid ++ piece) (string_bytes old ++ all) e h

-- a row, and the rows after it
run_left : (run : List (ℕ × Row)) (at : ℕ) (p : ℕ × Row) → at < length run → p ≡ lent_at run at → drop at run ≡ p ∷ drop (at + 1) run
run_left run at p lt is = drop_more run at (0, no_row) lt ∙ ap (λ (q : ℕ × Row). q ∷ drop (at + 1) run) (sym is)

-- a row that is refused
pub run_refused : (limit : ℕ) (f : Fault) (text all : List ℕ) (depth base at : ℕ) (run : List (ℕ × Row)) (p : ℕ × Row) (others : List Leaf) → at < length run → p ≡ lent_at run at
    → text ++ text_from depth (map (lowered base) (map leaf (drop at run)) ++ others) ≡ all
    → ((os : List Leaf) → IsTooLong limit (text ++ text_from depth (lowered base (leaf p) ∷ os)) f) → IsTooLong limit all f
run_refused limit f text all depth base at run p others lt is e h =
    too_long_along limit f _ all (ap (λ (ps : List (ℕ × Row)). text ++ text_from depth (map (lowered base) (map leaf ps) ++ others)) (sym (run_left run at p lt is)) ∙ e)
    (h (map (lowered base) (map leaf (drop (at + 1) run)) ++ others))

-- the leaves of a run, and those after it
split_lowered : (t : Tree) (low high base : ℕ) (run : List (ℕ × Row)) → IsRun (rows_between t low high) run
    → map (lowered base) (leaves_between t low high) ≡ map (lowered base) (map leaf run) ++ map (lowered base) (leaves_between t (low + length run) high)
split_lowered t low high base run is =
    ap (map (lowered base)) (run_splits t low high run is).is ∙ map-append (lowered base) (map leaf run) (leaves_between t (low + length run) high)

pub nodes_refused : (limit : ℕ) (f : Fault) (t : Tree) (low high base : ℕ) (run : List (ℕ × Row)) (text all : List ℕ) (depth : ℕ) → IsRun (rows_between t low high) run
    → text ++ text_from depth (map (lowered base) (leaves_between t low high)) ≡ all
    → ((os : List Leaf) → IsTooLong limit (text ++ text_from depth (map (lowered base) (map leaf run) ++ os)) f) → IsTooLong limit all f
nodes_refused limit f t low high base run text all depth is e h =
    too_long_along limit f _ all (ap (λ (ps : List Leaf). text ++ text_from depth ps) (sym (split_lowered t low high base run is)) ∙ e)
    (h (map (lowered base) (leaves_between t (low + length run) high)))

pub nodes_next : (t : Tree) (low high base : ℕ) (run : List (ℕ × Row)) (next : ℕ) (text now all : List ℕ) (depth depth' : ℕ) → IsRun (rows_between t low high) run
    → next ≡ low + length run
    → ((os : List Leaf) → now ++ text_from depth' os ≡ text ++ text_from depth (map (lowered base) (map leaf run) ++ os))
    → text ++ text_from depth (map (lowered base) (leaves_between t low high)) ≡ all
    → now ++ text_from depth' (map (lowered base) (leaves_between t next high)) ≡ all
nodes_next t low high base run next text now all depth depth' is n h e =
    ap (λ i. now ++ text_from depth' (map (lowered base) (leaves_between t i high))) n ∙ h (map (lowered base) (leaves_between t (low + length run) high))
    ∙ ap (λ (ps : List Leaf). text ++ text_from depth ps) (sym (split_lowered t low high base run is)) ∙ e

root_leaf : (row : NodeRow) (p : ℕ × Row) → p ≡ placed row → lowered row.level (leaf p) ≡ (0, (row_of row).label)
root_leaf row p e =
    let z : row.level - row.level ≡ 0 = omega arith in
    ap (λ (q : ℕ × Row). lowered row.level (leaf q)) e ∙ ap (λ i. (i, (row_of row).label)) z

-- the text of a node is that of its row, and then of what is below it
node_rows : (trees : List Tree) (n : CodeNode) (row : NodeRow) (p : ℕ × Row) (last : ℕ) → IsRowOf trees n row → p ≡ placed row → last ≡ n.pre + row.size
    → text_from 0 (lowered row.level (leaf p) ∷ map (lowered row.level) (leaves_between (tree_at trees n.tree) (n.pre + 1) last)) ≡ print (tree_below trees (node_at trees n))
node_rows trees n row p last is lent e =
    ap (λ i. text_from 0 (lowered row.level (leaf p) ∷ map (lowered row.level) (leaves_between (tree_at trees n.tree) (n.pre + 1) i))) e
    ∙ ap (λ (q : Leaf). text_from 0 (q ∷ map (lowered row.level) (leaves_between (tree_at trees n.tree) (n.pre + 1) (n.pre + row.size)))) (root_leaf row p lent)
    ∙ whole_text trees n row is

pub node_begun : (trees : List Tree) (n : CodeNode) (row : NodeRow) (p : ℕ × Row) (last depth : ℕ) (old mid : List ℕ) → IsRowOf trees n row → p ≡ placed row → last ≡ n.pre + row.size
    → ((os : List Leaf) → mid ++ text_from depth os ≡ old ++ text_from 0 (lowered row.level (leaf p) ∷ os))
    → mid ++ text_from depth (map (lowered row.level) (leaves_between (tree_at trees n.tree) (n.pre + 1) last)) ≡ old ++ print (tree_below trees (node_at trees n))
node_begun trees n row p last depth old mid is lent e h =
    h (map (lowered row.level) (leaves_between (tree_at trees n.tree) (n.pre + 1) last)) ∙ ap (λ (l : List ℕ). old ++ l) (node_rows trees n row p last is lent e)

pub node_refused : (limit : ℕ) (f : Fault) (trees : List Tree) (n : CodeNode) (row : NodeRow) (p : ℕ × Row) (last : ℕ) (old : List ℕ) → IsRowOf trees n row → p ≡ placed row → last ≡ n.pre + row.size
    → ((os : List Leaf) → IsTooLong limit (old ++ text_from 0 (lowered row.level (leaf p) ∷ os)) f) → IsTooLong limit (old ++ print (tree_below trees (node_at trees n))) f
node_refused limit f trees n row p last old is lent e h =
    too_long_along limit f _ _ (ap (λ (l : List ℕ). old ++ l) (node_rows trees n row p last is lent e)) (h (map (lowered row.level) (leaves_between (tree_at trees n.tree) (n.pre + 1) last)))
