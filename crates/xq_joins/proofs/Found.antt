-- The nodes of a table that match.
use Rattle.std.proofs.Common.{◌≡◌, ◌↔◌, List, [], ◌∷◌, ◌++◌, map, filter, Bool, true, false, ◌||◌, ◌&&◌, refl, sym, ◌∙◌, ap}
use Rattle.std.specs.Prelude.{String, if◌then◌else◌}
use Rattle.std.specs.Global.{Global, Vec}
use Rattle.std.specs.HashMap.{HashMap}
use Rattle.std.specs.List.{AllByRecursion, Contains, list_any}
use Rattle.std.proofs.lemmas.List.Folds.{list_any-append}
use Rattle.std.proofs.lemmas.List.Kept.{IsStrictlySortedBy-filter}
use Rattle.xq_atoms.specs.Text.{Text, text_eq}
use Rattle.xq_trees.specs.declared.items.Node.{Node}
use Rattle.xq_trees.specs.Items.{ItemView, Place, Value}
use Rattle.xq_trees.specs.Rising.{document_order, AreRising}
use Rattle.xq_trees.specs.Tree.{Tree}
use Rattle.xq_trees.proofs.Rising.{same_any, same_rising}
use Rattle.xq_meaning.specs.declared.joins.Equality.{Equality}
use Rattle.xq_meaning.specs.declared.joins.JoinKey.{JoinKey}
use Rattle.xq_meaning.specs.Readings.{node_at}
use Rattle.xq_meaning.proofs.PathLemmas.{filter-map}
use Rattle.xq_operators.specs.Nodes.{nodes_among}
use Rattle.xq_joins.specs.Keys.{IsNode, meet}
use Rattle.xq_joins.specs.private.Keys.{places_among}
use Rattle.xq_joins.specs.private.JoinKeys.{join_texts, IsKeyOf, IsTold}
use Rattle.xq_joins.specs.private.Tables.{nodes_with, has_key, IsTable}
use Rattle.xq_trees.proofs.Lists.{all_append}
use Rattle.xq_joins.proofs.JoinKeys.{texts_told, is_told}
use Rattle.xq_joins.proofs.Meeting.{any_same, any_swap, meet_swap}

-- # Nodes among items

pub places_are : (f : List Tree) (xs : List ItemView) → places_among f xs ≡ map (node_at f) (nodes_among xs)
places_are f [] = refl
places_are f (Place n ∷ xs) = ap (λ l. node_at f n ∷ l) (places_are f xs)
places_are f (Value a ∷ xs) = places_are f xs

pub are_places : (xs : List ItemView) → AllByRecursion IsNode xs → xs ≡ map Place (nodes_among xs)
are_places [] h = refl
are_places (Place n ∷ xs) h = ap (λ l. Place n ∷ l) (are_places xs h.1)
are_places (Value a ∷ xs) h = absurd h.0

-- # Nodes of several texts

or_false : (b : Bool) → b ≡ (b || false)
or_false true = refl
or_false false = refl

pub more_gathered : {S : Type 0} (table : HashMap (String Global) (Vec Node) S) (done : List Text) (text : Text) (nodes more : List Node)
    → ((p : Node → Bool) → list_any p nodes ≡ list_any (λ t. list_any p (nodes_with table t)) done) → more ≡ nodes ++ nodes_with table text
    → (p : Node → Bool) → list_any p more ≡ list_any (λ t. list_any p (nodes_with table t)) (done ++ text ∷ [])
more_gathered table done text nodes more h e p =
    ap (list_any p) e ∙ list_any-append p nodes (nodes_with table text)
    ∙ (λ i. h p i || or_false (list_any p (nodes_with table text)) i)
    ∙ sym (list_any-append (λ t. list_any p (nodes_with table t)) done (text ∷ []))

-- # Some of a list, in other orders

and_any : {A : Type 0} (b : Bool) (p : A → Bool) (xs : List A) → list_any (λ x. b && p x) xs ≡ (b && list_any p xs)
and_any true p xs = refl
and_any false p [] = refl
and_any false p (x ∷ xs) = and_any false p xs

and_true : (b : Bool) → b ≡ (b && true)
and_true true = refl
and_true false = refl

and_false : (b : Bool) → false ≡ (b && false)
and_false true = refl
and_false false = refl

any_filter : {A : Type 0} (p q : A → Bool) (xs : List A) → list_any p (filter q xs) ≡ list_any (λ x. p x && q x) xs
any_filter p q [] = refl
any_filter p q (x ∷ xs) = by (q x) (any_filter p q xs)
  where
    by : (c : Bool) → list_any p (filter q xs) ≡ list_any (λ x. p x && q x) xs → list_any p (if c then x ∷ filter q xs else filter q xs) ≡ ((p x && c) || list_any (λ x. p x && q x) xs)
    by true e = (λ i. and_true (p x) i || e i)
    by false e = e ∙ ap (λ b. b || list_any (λ x. p x && q x) xs) (and_false (p x))

module _ {S : Type 0} (equality : Equality) (f : List Tree) (key : JoinKey) (nodes : List Node) (table : HashMap (String Global) (Vec Node) S) (is : IsTable equality f key nodes table) (texts : List Text) where
  -- a key of the node is one of the texts
  abbrev matches : Node → Bool
  matches n = meet (join_texts f key (Place n ∷ [])) texts

  any_with : (p : Node → Bool) → list_any (λ text. list_any p (nodes_with table text)) texts ≡ list_any p (filter matches nodes)
  any_with p =
      any_same (λ text. list_any p (nodes_with table text)) (λ text. list_any (λ n. p n && has_key f key text n) nodes) texts (λ text. is.found text p)
      ∙ any_swap (λ text n. p n && has_key f key text n) texts nodes
      ∙ any_same (λ n. list_any (λ text. p n && has_key f key text n) texts) (λ n. p n && matches n) nodes
      (λ n. and_any (p n) (λ text. has_key f key text n) texts ∙ ap (λ b. p n && b) (meet_swap texts (join_texts f key (Place n ∷ []))))
      ∙ sym (any_filter p matches nodes)

  -- the nodes of these texts, in document order
  pub found_are : AreRising nodes → (gathered merged : List Node) → ((p : Node → Bool) → list_any p gathered ≡ list_any (λ text. list_any p (nodes_with table text)) texts)
      → AreRising merged → ((n : Node) → Contains merged n ↔ Contains gathered n) → merged ≡ filter matches nodes
  found_are rising gathered merged some up members =
      same_rising merged (filter matches nodes) up (IsStrictlySortedBy-filter document_order matches nodes rising) (λ p. same_any p merged gathered members ∙ some p ∙ any_with p)

  -- and the items that they are
  pub items_are : (merged : List Node) → merged ≡ filter matches nodes → (views : List ItemView) → views ≡ map Place merged
      → views ≡ filter (λ x. meet (join_texts f key (x ∷ [])) texts) (map Place nodes)
  items_are merged e views is = is ∙ ap (map Place) e ∙ sym (filter-map (λ x. meet (join_texts f key (x ∷ [])) texts) Place nodes)

-- # One node more

or_last : (b c : Bool) → (b || c) ≡ (b || (c || false))
or_last b true = refl
or_last b false = refl

pub table_next : {S : Type 0} (equality : Equality) (f : List Tree) (key : JoinKey) (nodes : List Node) (node : Node) (texts : List Text) (table after : HashMap (String Global) (Vec Node) S)
    → IsTable equality f key nodes table → IsKeyOf equality f key (Place node ∷ []) texts
    → ((q : Text) (p : Node → Bool) → list_any p (nodes_with after q) ≡ (list_any p (nodes_with table q) || (p node && list_any (text_eq q) texts)))
    → IsTable equality f key (nodes ++ node ∷ []) after
table_next equality f key nodes node texts table after is told added = record {
  found = λ q p.
      let has = λ (n : Node). p n && has_key f key q n in
      added q p
      ∙ (λ i. is.found q p i || (p node && list_any (text_eq q) (sym (texts_told f equality key (Place node ∷ []) texts told) i)))
      ∙ or_last (list_any has nodes) (has node)
      ∙ sym (list_any-append has nodes (node ∷ []));
  told = all_append (λ n. IsTold equality f key (Place n ∷ [])) nodes (node ∷ []) is.told (is_told f equality key (Place node ∷ []) texts told, tt);
}
