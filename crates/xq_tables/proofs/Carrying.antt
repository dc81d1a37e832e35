-- What the carrying of documents from the tables of edition 1 comes to.
use Rattle.std.proofs.Common.{◌≡◌, ◌≢◌, ◌⊎◌, ◌++◌, ◌+◌, ◌<◌, ◌||◌, inl, inr, ℕ, zero, suc, Bool, true, false, List, [], ◌∷◌, map, length, take, get_or, Some, is_some, String, Global, string_bytes, refl, sym, ap, ap₂, subst, subst₂, ◌∙◌, arith}
use Rattle.std.specs.Prelude.{slice_get}
use Rattle.std.specs.FinMap.{get, keys, same_map, contains_key-keys}
use Rattle.std.specs.List.{AllByRecursion, list_any}
use Rattle.std.specs.List.Sorted.{IsPermutation}
use Rattle.std.specs.Ordering.{eq_by_cmp}
use Rattle.std.proofs.lemmas.List.{length-map, take_more}
use Rattle.std.proofs.lemmas.List.Sorted.{IsPermutation-sym, IsPermutation-trans, length_permutation}
use Rattle.sqlite_value.specs.Order.{Row, column}
use Rattle.sqlite_value.specs.declared.value.Value.TheVariants.{Text}
use Rattle.sqlite_rules.specs.Lists.{Has}
use Rattle.sqlite.specs.Effect.{Database}
use Rattle.sqlite.specs.State.{State, Shown}
use Rattle.xq_atoms.specs.Address.{IsAddress}
use Rattle.xq_trees.specs.Rows.{placed_rows}
use Rattle.xq_sources.specs.Addresses.{IsBefore, Rise}
use Rattle.xq_tables.specs.Documents.{rows_at, documents_in, documents_of, AreApart, AreLabels, HasAddress, HaveInts, IsIntact, IsOldStore, IsSound, IsStore}
use Rattle.xq_tables.specs.Labels.{label_rows, named_rows, node2_rows, shown_rows, HasLabel, IsStoreSchema}
use Rattle.xq_tables.specs.Nodes.{cells}
use Rattle.xq_tables.specs.Tables.{layout_rows, node_rows}
use Rattle.xq_tables.specs.private.Carries.{CarriesOne, CarriesSome, Empties, ForgetsEdition, HasCarriedAll, IsCarriedSchema, ReadsOld}
use Rattle.xq_tables.specs.Moves.{HasCarried, HasMoved, Moves}
use Rattle.xq_tables.specs.private.Columns.{node_of}
use Rattle.xq_tables.specs.private.Statements.{AddsNamed, AreNumbers, HasAdded, MakesLabels, WritesEdition}
use Rattle.xq_tables.proofs.Adopts.{no_length}
use Rattle.xq_tables.proofs.Creates.{sound_made}
use Rattle.xq_tables.proofs.Keys.{keys_are, texts_picked}
use Rattle.xq_tables.proofs.LabelPlaces.{is_schema, shown_are}
use Rattle.xq_tables.proofs.Lists.{tied}
use Rattle.xq_tables.proofs.MapPlaces.{apart}
use Rattle.xq_tables.proofs.Maps.{get-none, get-whole, order, order_exact, order_total, same_address}
use Rattle.xq_tables.proofs.Moving.{after, base_after, is_after, layout_kept, lists_old, node_kept, old_addresses_text}
use Rattle.xq_tables.proofs.Places as old
use Rattle.xq_tables.proofs.Selects.{get_or-map}

-- # Lists of addresses

has_or_not : (xs : List (List ℕ)) (a : List ℕ) → Has xs a ⊎ ¬ Has xs a
has_or_not [] a = inr (λ h. h)
has_or_not (x ∷ xs) a = elim (same_address a x) [
  | inl e ↦ inl (inl (sym e))
  | inr other ↦ elim (has_or_not xs a) [
    | inl h ↦ inl (inr h)
    | inr none ↦ inr (λ h. elim h [ inl e ↦ other (sym e) | inr more ↦ none more ])
  ]
]

has_before : (xs ys : List (List ℕ)) (a : List ℕ) → Has (xs ++ ys) a → Has xs a ⊎ Has ys a
has_before [] ys a h = inr h
has_before (x ∷ xs) ys a (inl e) = inl (inl e)
has_before (x ∷ xs) ys a (inr h) = elim (has_before xs ys a h) [ inl one ↦ inl (inr one) | inr other ↦ inr other ]

has_left : (xs ys : List (List ℕ)) (a : List ℕ) → Has xs a → Has (xs ++ ys) a
has_left (x ∷ xs) ys a (inl e) = inl e
has_left (x ∷ xs) ys a (inr h) = inr (has_left xs ys a h)
has_left [] ys a h = absurd h

has_right : (xs ys : List (List ℕ)) (a : List ℕ) → Has ys a → Has (xs ++ ys) a
has_right [] ys a h = h
has_right (x ∷ xs) ys a h = inr (has_right xs ys a h)

all_had : (P : List ℕ → Type 0) (xs : List (List ℕ)) (a : List ℕ) → AllByRecursion P xs → Has xs a → P a
all_had P [] a all h = absurd h
all_had P (x ∷ xs) a all (inl e) = subst P (sym e) all.0
all_had P (x ∷ xs) a all (inr h) = all_had P xs a all.1 h

got : (xs : List (List ℕ)) (i : ℕ) (a : List ℕ) → slice_get xs i ≡ Some a → Has xs a
got [] i a e = absurd cc
got (x ∷ xs) zero a e = inl (let same : x ≡ a = cc in sym same)
got (x ∷ xs) (suc i) a e = inr (got xs i a e)

-- of addresses that rise none comes twice
pub not_before : (xs : List (List ℕ)) (i : ℕ) (a : List ℕ) → Rise xs → slice_get xs i ≡ Some a → ¬ Has (take i xs) a
not_before xs zero a up e h = h
not_before [] (suc i) a up e h = h
not_before (x ∷ xs) (suc i) a up e (inl same) = apart x a (all_had (IsBefore x) xs a up.0 (got xs i a e)) same
not_before (x ∷ xs) (suc i) a up e (inr h) = not_before xs i a up.1 e h

-- # One document after the other

pub carried_none : (db : Database) → IsSound db → shown_rows db ≡ [] → HasCarriedAll [] db db
carried_none db sound none = record {
  sound = sound;
  schema = refl;
  layout = refl;
  beside = refl;
  named = subst (AllByRecursion HasAddress) (sym none) tt;
  own = λ b h. absurd h;
  others = λ b h. ap (rows_at b) none;
}

pub carried_more : (xs : List (List ℕ)) (a : List ℕ) (rows : List Row) (first mid last : Database) → ¬ Has xs a → IsAddress a → HasCarriedAll xs first mid → HasAdded a rows mid last → IsPermutation (rows_at a (node_rows mid)) rows → HasCarriedAll (xs ++ a ∷ []) first last
carried_more xs a rows first mid last fresh good so_far added same = record {
  sound = added.sound;
  schema = added.schema ∙ so_far.schema;
  layout = added.layout ∙ so_far.layout;
  beside = added.beside ∙ so_far.beside;
  named = added.named good so_far.named;
  own = λ b h. elim (has_before xs (a ∷ []) b h) [
    | inl there ↦
        let other : b ≢ a = λ e. fresh (subst (Has xs) e there) in
        subst (IsPermutation (rows_at b (node_rows first))) (sym (added.others b other)) (so_far.own b there)
    | inr it ↦ elim it [
      | inl e ↦ subst (λ x. IsPermutation (rows_at x (node_rows first)) (rows_at x (shown_rows last))) (sym e) mine
      | inr h ↦ absurd h
    ]
  ];
  others = λ b none.
      let other : b ≢ a = λ e. none (has_right xs (a ∷ []) b (inl e)) in
      added.others b other ∙ so_far.others b (λ h. none (has_left xs (a ∷ []) b h));
}
  where
    mine : IsPermutation (rows_at a (node_rows first)) (rows_at a (shown_rows last))
    mine =
        let from : IsPermutation (rows_at a (node_rows first)) rows = subst (λ t. IsPermutation (rows_at a t) rows) so_far.beside same in
        let to : IsPermutation rows (rows_at a (shown_rows last)) = subst (λ l. IsPermutation (l ++ rows) (rows_at a (shown_rows last))) (so_far.others a fresh) added.own in
        IsPermutation-trans _ _ _ from to

-- the rows of an address were read, and inserted as nodes
pub carries_one : (address : List ℕ) (rows nodes : List Row) (names after : List (String Global × ℕ)) (old mid new : State) → IsAddress address → ReadsOld address rows old mid → nodes ≡ map node_of rows → names ≡ [] → AddsNamed address nodes names after mid new → CarriesOne address old new
carries_one address rows nodes names after old mid new good read are none added = record {
  mode = λ inside. added.mode (read.mode ∙ inside);
  good = good;
  did = λ carried sound. (
      let mine : IsSound mid.now = subst IsSound (sym read.same) sound in
      let more = (added.did mine (subst (AreNumbers (label_rows mid.now)) (sym none) tt)).0 in
      (nodes, subst (IsPermutation (rows_at address (node_rows old.now))) (sym are) (read.are carried), subst (λ db. HasAdded address nodes db new.now) read.same more));
}

pub carries_none : (all : List (List ℕ)) (s : State) → CarriesSome all [] s s
carries_none all s = record { mode = λ inside. inside; did = λ carried sound none rise. carried_none s.now sound none }

-- the address at this place
pub at_place : (xs : List (String Global)) (i : ℕ) (x : String Global) → i < length xs → get_or xs i x ≡ x → slice_get (map string_bytes xs) i ≡ Some (string_bytes x)
at_place [] i x low is = absurd (omega (arith, low))
at_place (y ∷ ys) zero x low is = ap (λ z. Some (string_bytes z)) is
at_place (y ∷ ys) (suc i) x low is = at_place ys i x (omega (arith, low)) is

pub one_further : (xs : List (String Global)) (i : ℕ) (x : String Global) → i < length xs → get_or xs i x ≡ x → take (i + 1) (map string_bytes xs) ≡ take i (map string_bytes xs) ++ string_bytes x ∷ []
one_further xs i x low is =
    let n = length-map xs string_bytes in
    take_more (map string_bytes xs) i (string_bytes x) (omega (arith, low, n)) ∙ ap (λ y. take i (map string_bytes xs) ++ y ∷ []) (get_or-map string_bytes xs i x ∙ ap string_bytes is)

pub carries_then : (all : List (List ℕ)) (i : ℕ) (a : List ℕ) (first mid last : State) → slice_get all i ≡ Some a → CarriesSome all (take i all) first mid → CarriesOne a mid last → CarriesSome all (take i all ++ a ∷ []) first last
carries_then all i a first mid last at so_far one = record {
  mode = λ inside. one.mode (so_far.mode inside);
  did = λ carried sound none rise. (
      let was = so_far.did carried sound none rise in
      let it = one.did (subst IsCarriedSchema (sym was.schema) carried) was.sound in
      carried_more (take i all) a it.0 first.now mid.now last.now (not_before all i a rise at) one.good was it.2 it.1);
}

-- # All documents

any_has : (a : List ℕ) (xs : List (List ℕ)) → list_any (eq_by_cmp order a) xs ≡ true → Has xs a
any_has a [] e = absurd cc
any_has a (x ∷ xs) e = go (eq_by_cmp order a x) refl e (any_has a xs)
  where
    go : (b : Bool) → eq_by_cmp order a x ≡ b → (b || list_any (eq_by_cmp order a) xs) ≡ true → (list_any (eq_by_cmp order a) xs ≡ true → Has xs a) → Has (x ∷ xs) a
    go true h e more = inl (order_exact a x (tied _ h))
    go false h e more = inr (more e)

-- what the labels and the nodes are makes it sound
sound_kept : (was now : Database) → now.schema ≡ was.schema → label_rows now ≡ label_rows was → node2_rows now ≡ node2_rows was → IsSound was → IsSound now
sound_kept was now schema labels nodes sound = record {
  schema = subst IsStoreSchema (sym schema) sound.schema;
  labels = subst AreLabels (sym labels) sound.labels;
  held = subst₂ (λ ls ns. AllByRecursion (HasLabel ls) ns) (sym labels) (sym nodes) sound.held;
  apart = subst AreApart (sym nodes) sound.apart;
  ints = subst HaveInts (sym nodes) sound.ints;
}

-- one step after the other
pub moved : (addresses : List (List ℕ)) (a b c d e f : Database) → MakesLabels a b → (IsCarriedSchema b.schema → IsSound b → shown_rows b ≡ [] → Rise addresses → HasCarriedAll addresses b c) → ForgetsEdition c d → WritesEdition d e → Empties e f → Moves addresses a f
moved addresses a b c d e f labels carries forgets edition empties has up ints layout_up layout_ints rise =
    let place = old.which a.schema has in
    let kind = place.0 in
    let made = after kind in
    let one = labels made (place.1 ∙ base_after kind) in
    let start = sound_made b (subst IsStoreSchema (sym one.schema) (is_schema made)) one.labels one.nodes in
    let of_b : IsCarriedSchema b.schema = subst IsCarriedSchema (sym one.schema) (is_after kind) in
    let nodes_b : node_rows b ≡ node_rows a = node_kept kind a b place.1 one.schema one.base in
    let layout_b : layout_rows b ≡ layout_rows a = layout_kept kind a b place.1 one.schema one.base in
    let two = carries of_b start.0 start.1 rise in
    let of_c : IsCarriedSchema c.schema = subst IsCarriedSchema (sym two.schema) of_b in
    let layout_c : layout_rows c ≡ layout_rows a = two.layout ∙ layout_b in
    let nodes_c : node_rows c ≡ node_rows a = two.beside ∙ nodes_b in
    let three = forgets of_c (subst AreApart (sym layout_c) layout_up) (subst HaveInts (sym layout_c) layout_ints) in
    let four = edition (subst IsStoreSchema (sym three.schema) two.sound.schema) three.layout in
    let of_e : IsCarriedSchema e.schema = subst IsCarriedSchema (sym (four.schema ∙ three.schema)) of_c in
    let nodes_e : node_rows e ≡ node_rows a = four.beside ∙ three.beside ∙ nodes_c in
    let five = empties of_e (subst AreApart (sym nodes_e) up) (subst HaveInts (sym nodes_e) ints) in
    let schema_f : f.schema ≡ c.schema = five.schema ∙ four.schema ∙ three.schema in
    let labels_f : label_rows f ≡ label_rows c = five.labels ∙ four.labels ∙ three.labels in
    let rows_f : node2_rows f ≡ node2_rows c = five.nodes ∙ four.nodes ∙ three.nodes in
    let sound = sound_kept c f schema_f labels_f rows_f two.sound in
    let shown : shown_rows f ≡ shown_rows c = shown_are f sound.schema ∙ ap₂ named_rows labels_f rows_f ∙ sym (shown_are c two.sound.schema) in record {
      sound = sound;
      layout = ap (map (λ r. column r 1)) (five.layout ∙ four.layout);
      emptied = five.emptied;
      named = subst (AllByRecursion HasAddress) (sym shown) two.named;
      own = λ x h. subst₂ (λ t s. IsPermutation (rows_at x t) (rows_at x s)) nodes_b (sym shown) (two.own x h);
      others = λ x h. ap (rows_at x) shown ∙ two.others x h;
    }

-- the tables hold the documents that the old ones held
module _ (was now : Database) (held : IsOldStore was) (it : HasMoved (keys (documents_of was)) was now) where
  are : shown_rows was ≡ node_rows was
  are = old.shown_are was held.schema

  own : (b : List ℕ) → Has (keys (documents_of was)) b → IsPermutation (rows_at b (shown_rows was)) (rows_at b (shown_rows now))
  own b h = subst (λ t. IsPermutation (rows_at b t) (rows_at b (shown_rows now))) (sym are) (it.own b h)

  none_too : (b : List ℕ) → rows_at b (shown_rows was) ≡ [] → rows_at b (shown_rows now) ≡ []
  none_too b none = elim (has_or_not (keys (documents_of was)) b) [
    | inl h ↦ no_length (rows_at b (shown_rows now)) (length_permutation _ _ (own b h) ∙ ap length none)
    | inr h ↦ it.others b h
  ]

  whole_too : (b : List ℕ) → (w : IsIntact (rows_at b (shown_rows was))) → IsPermutation (rows_at b (shown_rows now)) (map cells (placed_rows w.tree))
  whole_too b w =
      let there : get (documents_in (shown_rows was)) b ≡ Some w.tree = get-whole (shown_rows was) b w.tree held.named w.same in
      let h = any_has b (keys (documents_of was)) (sym (contains_key-keys (documents_of was) b) ∙ ap is_some there) in
      IsPermutation-trans _ _ _ (IsPermutation-sym _ _ (own b h)) w.same

  is_store : IsStore now
  is_store = record {
    sound = it.sound;
    layout = it.layout;
    named = it.named;
    whole = λ b. elim (held.whole b) [
      | inl none ↦ inl (none_too b none)
      | inr w ↦ inr (record { tree = w.tree; is_document = w.is_document; same = whole_too b w })
    ];
  }

  same_documents : documents_of now ≡ documents_of was
  same_documents = same_map order_total order_exact _ _ (λ b. elim (held.whole b) [
    | inl none ↦ get-none (shown_rows now) b it.named (none_too b none) ∙ sym (get-none (shown_rows was) b held.named none)
    | inr w ↦ get-whole (shown_rows now) b w.tree it.named (whole_too b w) ∙ sym (get-whole (shown_rows was) b w.tree held.named w.same)
  ])

  pub carried : HasCarried was now
  carried = record { was = held; is = is_store; same = same_documents; emptied = it.emptied }

-- the addresses that were read are the keys of the map
pub listed_old : (was new : State) (given : List Row) (list : List (List ℕ)) → IsOldStore was.now → Shown old_addresses_text [] was new given → map Text list ≡ map (λ r. column r 0) given → list ≡ keys (documents_of was.now)
listed_old was new given list held shown read =
    keys_are (shown_rows was.now) list held.named held.whole (texts_picked (shown_rows was.now) given list (lists_old was new given held.schema shown) read)
