-- What is known of the slots of tuples, clause by clause.
use Rattle.std.proofs.Common.{◌≡◌, ℕ, zero, suc, ◌+◌, ◌-◌, List, [], ◌∷◌, ◌++◌, map, length, take, Bool, true, false, Ok, Err, refl, sym, subst, arith, if◌then◌else◌}
use Rattle.std.specs.Prelude.{pos, replicate, filter, not, nat_eq, ◌&&◌}
use Rattle.std.specs.List.{AllByRecursion, zip, enumerate_from, list_all}
use Rattle.std.specs.declared.cmp.Ordering.{Ordering}
use Rattle.std.specs.Ordering.{is_lt}
use Rattle.std.specs.Cmp.Lexicographic.{pointwise}
use Rattle.std.proofs.lemmas.List.{append_assoc, length-append}
use Rattle.std.proofs.lemmas.List.Concat.{flat_map-cons}
use Rattle.std.proofs.lemmas.Cmp.{int_eq_equiv}
use Rattle.std.proofs.lemmas.Slice.Eq.{bytes_eq-Decides}
use Rattle.std.proofs.lemmas.Bool.{false≢true}
use Rattle.std.proofs.lemmas.List.FromFn.{length-map-range_with_len}
use Rattle.xq_atoms.specs.declared.refusals.Code.{Code}
use Rattle.xq_atoms.specs.declared.refusals.Code.TheVariants.{XPTY0004}
use Rattle.xq_atoms.specs.Atom.{Atomic, Integer}
use Rattle.xq_atoms.specs.Compare.{Key, Nothing, Number, Characters, Truth, key_eq}
use Rattle.xq_expressions.specs.declared.operators.AllowingEmpty.{AllowingEmpty}
use Rattle.xq_expressions.specs.declared.operators.OrderModifier.{OrderModifier}
use Rattle.xq_trees.specs.Tree.{Tree}
use Rattle.xq_trees.specs.Tuples.{Tuple, Keyed, OrderRule, expanded, with_items, empty_values, item_values, bound, satisfying, grouped, grouped_tuple, grouped_value, slot_key, same_keys, comparison_keys, groups, firsts, are_keys, key_rows, key_value, ordered, can_order, keys_cmp, sort_keys, sorted, inserted}
use Rattle.xq_trees.proofs.Lists.{all_append, all_filter}
use Rattle.xq_meaning.specs.Items.{Item, Node, Atom, Place}
use Rattle.xq_meaning.specs.Doing.{Doing, Outcome, go_on, give, judged, in_turn, one_more, for_each}
use Rattle.xq_meaning.specs.Forms
use Rattle.xq_meaning.specs.PlanMeaning.{Slots}
use Rattle.xq_optimise.specs.declared.held.Held.{Held}
use Rattle.xq_optimise.specs.declared.held.Held.TheVariants as has
use Rattle.xq_optimise.specs.declared.held.Held.TheVariants.{Anything}
use Rattle.xq_optimise.specs.Known.{IsTextItem, Holds, Fits}
use Rattle.xq_optimise.specs.private.Parts.{GivesHeld, AllFit, GivesFitting, with_position, forgotten, each_of}

-- # Slots

pub fits_more : (known more : List Held) (xs ys : Slots) → Fits known xs → Fits more ys →
    Fits (known ++ more) (xs ++ ys)
fits_more [] more [] ys h k = k
fits_more [] more (x ∷ xs) ys h k = absurd h
fits_more (a ∷ known) more [] ys h k = absurd h
fits_more (a ∷ known) more (x ∷ xs) ys h k = (h.0, fits_more known more xs ys h.1 k)

-- slots of a tuple, after those that it has
pub fits_after : (known more : List Held) (slots : Slots) (t own : Tuple Item) → Fits known (slots ++ t) →
    Fits more own → Fits (known ++ more) (slots ++ (t ++ own))
fits_after known more slots t own h k =
    subst (Fits (known ++ more)) (append_assoc slots t own) (fits_more known more (slots ++ t) own h k)

pub fits_length : (known : List Held) (slots : Slots) → Fits known slots → length slots ≡ length known
fits_length [] [] h = refl
fits_length [] (x ∷ xs) h = absurd h
fits_length (a ∷ known) [] h = absurd h
fits_length (a ∷ known) (x ∷ xs) h = let e = fits_length known xs h.1 in omega (arith, e)

-- the items of a value, one by one

nodes_hold : (ps : List Place) → AllByRecursion (λ x. Holds has.Node (x ∷ [])) (map Node ps)
nodes_hold [] = tt
nodes_hold (p ∷ ps) = (((p ∷ [], refl), tt), nodes_hold ps)

texts_hold : (xs : List Item) → AllByRecursion IsTextItem xs → AllByRecursion (λ x. Holds has.Text (x ∷ [])) xs
texts_hold [] h = tt
texts_hold (x ∷ xs) h = (((h.0, tt), tt), texts_hold xs h.1)

one_holds : (xs : List Item) → AllByRecursion (λ x. Holds has.Item (x ∷ [])) xs
one_holds [] = tt
one_holds (x ∷ xs) = (tt, one_holds xs)

pub items_hold : (held : Held) (xs : List Item) → Holds held xs →
    AllByRecursion (λ x. Holds (each_of held) (x ∷ [])) xs
items_hold has.Nodes xs (ps, is) = subst (AllByRecursion (λ x. Holds has.Node (x ∷ []))) (sym is) (nodes_hold ps)
items_hold has.Node xs ((ps, is), few) = subst (AllByRecursion (λ x. Holds has.Node (x ∷ []))) (sym is) (nodes_hold ps)
items_hold has.Texts xs h = texts_hold xs h
items_hold has.Text xs (h, few) = texts_hold xs h
items_hold has.Item xs h = one_holds xs
items_hold has.Anything xs h = one_holds xs

nothing_holds : (held : Held) → Holds (each_of held) []
nothing_holds has.Nodes = (([], refl), tt)
nothing_holds has.Node = (([], refl), tt)
nothing_holds has.Texts = (tt, tt)
nothing_holds has.Text = (tt, tt)
nothing_holds has.Item = tt
nothing_holds has.Anything = tt

-- # Evaluation

abbrev pub Gives : {A : Type 0} → (A → Type 0) → Outcome A → Type 0
Gives P (Ok x, f) = P x
Gives P (Err code, f) = Unit {0}

pub then_gives : {A B : Type 0} (P : A → Type 0) (Q : B → Type 0) (o : Outcome A) (k : A → Doing B) →
    Gives P o → ((x : A) (f : List Tree) → P x → Gives Q (k x f)) → Gives Q (go_on o k)
then_gives P Q (Ok x, f) k h next = next x f h
then_gives P Q (Err code, f) k h next = tt

turns_give : {A B : Type 0} (P : B → Type 0) (act : A → Doing B) (xs : List A) (done : List B) (f : List Tree) →
    AllByRecursion (λ x. (g : List Tree) → Gives P (act x g)) xs → AllByRecursion P done →
    Gives (AllByRecursion P) (in_turn (one_more act) done xs f)
turns_give P act [] done f h k = k
turns_give P act (x ∷ xs) done f h k =
    then_gives (AllByRecursion P) (AllByRecursion P) (go_on (act x f) (λ y. give (done ++ y ∷ []))) (λ next. in_turn (one_more act) next xs)
    (then_gives P (AllByRecursion P) (act x f) (λ y. give (done ++ y ∷ [])) (h.0 f)
    (λ y g is. all_append P done (y ∷ []) k (is, tt)))
    (λ next g is. turns_give P act xs next g h.1 is)

pub each_gives : {A B : Type 0} (P : B → Type 0) (act : A → Doing B) (xs : List A) (f : List Tree) →
    AllByRecursion (λ x. (g : List Tree) → Gives P (act x g)) xs →
    Gives (AllByRecursion P) (for_each act xs f)
each_gives P act xs f h = turns_give P act xs [] f h tt

pub held_gives : (held : Held) (o : Outcome (List Item)) → GivesHeld held o → Gives (Holds held) o
held_gives held (Ok xs, f) h = h
held_gives held (Err code, f) h = tt

pub gives_held : (held : Held) (o : Outcome (List Item)) → Gives (Holds held) o → GivesHeld held o
gives_held held (Ok xs, f) h = h
gives_held held (Err code, f) h = tt

fitting_gives : (known : List Held) (slots : Slots) (o : Outcome (List (Tuple Item))) → Gives (AllFit known slots) o →
    GivesFitting known slots o
fitting_gives known slots (Ok ts, f) h = h
fitting_gives known slots (Err code, f) h = tt

-- # let

bound_fits : (known : List Held) (held : Held) (slots : Slots) (tuples : List (Tuple Item)) (values : List (List Item)) →
    AllFit known slots tuples → AllByRecursion (Holds held) values →
    AllFit (known ++ held ∷ []) slots (bound tuples values)
bound_fits known held slots [] values h k = tt
bound_fits known held slots (t ∷ ts) [] h k = tt
bound_fits known held slots (t ∷ ts) (v ∷ vs) h k =
    (fits_after known (held ∷ []) slots t (v ∷ []) h.0 (k.0, tt), bound_fits known held slots ts vs h.1 k.1)

-- # where, for any fact of tuples

kept_if : {A : Type 0} (P : A → Type 0) (b : Bool) (t : A) (ps : List (A × Bool)) → P t →
    AllByRecursion P (map (λ p. p.0) (filter (λ p. p.1) ps)) →
    AllByRecursion P (map (λ p. p.0) (filter (λ p. p.1) ((t, b) ∷ ps)))
kept_if P true t ps h k = (h, k)
kept_if P false t ps h k = k

pub kept_all : {A : Type 0} (P : A → Type 0) (tuples : List A) (tests : List Bool) →
    AllByRecursion P tuples → AllByRecursion P (satisfying tuples tests)
kept_all P [] tests h = tt
kept_all P (t ∷ ts) [] h = tt
kept_all P (t ∷ ts) (b ∷ bs) h = kept_if P b t (zip ts bs) h.0 (kept_all P ts bs h.1)

-- # for

item_fits : (held : Held) (at : Bool) (k : ℕ) (x : Item) → Holds held (x ∷ []) → Fits (with_position held at) (item_values Atom at k x)
item_fits held true k x h = (h, (tt, tt))
item_fits held false k x h = (h, tt)

empty_fits : (held : Held) (at : Bool) → Fits (with_position (each_of held) at) (empty_values Atom at)
empty_fits held true = (nothing_holds held, (tt, tt))
empty_fits held false = (nothing_holds held, tt)

each_fits : (known : List Held) (held : Held) (slots : Slots) (at : Bool) (t : Tuple Item) (k : ℕ) (xs : List Item) → Fits known (slots ++ t) →
    AllByRecursion (λ x. Holds held (x ∷ [])) xs →
    AllFit (known ++ with_position held at) slots (map (λ (p : ℕ × Item). t ++ item_values Atom at p.0 p.1) (enumerate_from k xs))
each_fits known held slots at t k [] h all = tt
each_fits known held slots at t k (x ∷ xs) h all =
    (fits_after known (with_position held at) slots t (item_values Atom at k x) h (item_fits held at k x all.0), each_fits known held slots at t (k + 1) xs h all.1)

items_fit : (known : List Held) (held : Held) (slots : Slots) (allows at : Bool) (t : Tuple Item) (xs : List Item) → Fits known (slots ++ t) →
    AllByRecursion (λ x. Holds (each_of held) (x ∷ [])) xs →
    AllFit (known ++ with_position (each_of held) at) slots (with_items Atom allows at t xs)
items_fit known held slots true at t [] h all =
    (fits_after known (with_position (each_of held) at) slots t (empty_values Atom at) h (empty_fits held at), tt)
items_fit known held slots true at t (x ∷ xs) h all = each_fits known (each_of held) slots at t 1 (x ∷ xs) h all
items_fit known held slots false at t xs h all = each_fits known (each_of held) slots at t 1 xs h all

expanded_fits : (known : List Held) (held : Held) (slots : Slots) (allows at : Bool) (tuples : List (Tuple Item)) (lists : List (List Item)) → AllFit known slots tuples →
    AllByRecursion (Holds held) lists →
    AllFit (known ++ with_position (each_of held) at) slots (expanded Atom allows at tuples lists)
expanded_fits known held slots allows at [] lists h all = tt
expanded_fits known held slots allows at (t ∷ ts) [] h all = tt
expanded_fits known held slots allows at (t ∷ ts) (xs ∷ xss) h all =
    subst (AllFit (known ++ with_position (each_of held) at) slots) (sym (flat_map-cons (λ (p : Tuple Item × List Item). with_items Atom allows at p.0 p.1) (t, xs) (zip ts xss)))
    (all_append (λ u. Fits (known ++ with_position (each_of held) at) (slots ++ u)) (with_items Atom allows at t xs) (expanded Atom allows at ts xss) (items_fit known held slots allows at t xs h.0 (items_hold held xs all.0)) (expanded_fits known held slots allows at ts xss h.1 all.1))

-- # count

numbered_fits : (known : List Held) (slots : Slots) (k : ℕ) (tuples : List (Tuple Item)) → AllFit known slots tuples →
    AllFit (known ++ Anything ∷ []) slots (map (λ (p : ℕ × Tuple Item). p.1 ++ (Atom (Integer (pos p.0)) ∷ []) ∷ []) (enumerate_from k tuples))
numbered_fits known slots k [] h = tt
numbered_fits known slots k (t ∷ ts) h =
    (fits_after known (Anything ∷ []) slots t ((Atom (Integer (pos k)) ∷ []) ∷ []) h.0 (tt, tt), numbered_fits known slots (k + 1) ts h.1)

-- # order by

first_all : {A B : Type 0} (P : A → Type 0) (tuples : List A) (rows : List B) → AllByRecursion P tuples →
    AllByRecursion (λ (p : A × B). P p.0) (zip tuples rows)
first_all P [] rows h = tt
first_all P (t ∷ ts) [] h = tt
first_all P (t ∷ ts) (r ∷ rs) h = (h.0, first_all P ts rs h.1)

firsts_of : {A B : Type 0} (P : A → Type 0) (ps : List (A × B)) → AllByRecursion (λ p. P p.0) ps →
    AllByRecursion P (map (λ p. p.0) ps)
firsts_of P [] h = tt
firsts_of P (p ∷ ps) h = (h.0, firsts_of P ps h.1)

inserted_if : {A : Type 0} (P : A → Type 0) (b : Bool) (x y : A) (xs ys : List A) → P x → P y →
    AllByRecursion P xs → AllByRecursion P ys → AllByRecursion P (if b then y ∷ xs else x ∷ y ∷ ys)
inserted_if P true x y xs ys px py h k = (py, h)
inserted_if P false x y xs ys px py h k = (px, (py, k))

inserted_all : {A : Type 0} (P : A → Type 0) (cmp : A → A → Ordering) (x : A) (ys : List A) → P x →
    AllByRecursion P ys → AllByRecursion P (inserted cmp x ys)
inserted_all P cmp x [] px h = (px, tt)
inserted_all P cmp x (y ∷ ys) px h =
    inserted_if P (is_lt (cmp y x)) x y (inserted cmp x ys) ys px h.0 (inserted_all P cmp x ys px h.1) h.1

sorted_all : {A : Type 0} (P : A → Type 0) (cmp : A → A → Ordering) (xs : List A) →
    AllByRecursion P xs → AllByRecursion P (sorted cmp xs)
sorted_all P cmp [] h = tt
sorted_all P cmp (x ∷ xs) h = inserted_all P cmp x (sorted cmp xs) h.0 (sorted_all P cmp xs h.1)

judged_gives : (P : List (Tuple Item) → Type 0) (b : Bool) (code : Code) (ts : List (Tuple Item)) (f : List Tree) → P ts →
    Gives P (judged (if b then Ok ts else Err code) f)
judged_gives P true code ts f h = h
judged_gives P false code ts f h = tt

ordered_gives : (P : Tuple Item → Type 0) (tuples : List (Tuple Item)) (rules : List OrderRule) (columns : List (List (List Atomic))) (g : List Tree) →
    AllByRecursion P tuples → Gives (AllByRecursion P) (judged (ordered rules tuples columns) g)
ordered_gives P tuples rules columns g h =
    judged_gives (AllByRecursion P) (list_all can_order columns) XPTY0004 _ g
    (firsts_of P (sorted (λ p q. keys_cmp rules p.1 q.1) (zip tuples (key_rows tuples (map sort_keys columns))))
    (sorted_all (λ p. P p.0) (λ p q. keys_cmp rules p.1 q.1) (zip tuples (key_rows tuples (map sort_keys columns)))
    (first_all P tuples (key_rows tuples (map sort_keys columns)) h)))

-- # group by: no group is empty, and its tuple is as long as its first

key_same : (k : Key) → key_eq k k ≡ true
key_same Nothing = refl
key_same (Number m) = int_eq_equiv.refl m
key_same (Characters t) = (bytes_eq-Decides t t).1 refl
key_same (Truth true) = refl
key_same (Truth false) = refl

keys_same : (ks : List Key) → pointwise key_eq ks ks ≡ true
keys_same [] = refl
keys_same (k ∷ ks) = (λ i. (key_same k i) && (keys_same ks i))

-- the first is so
abbrev HasFirst : {A : Type 0} → (A → Type 0) → List A → Type 0
HasFirst P [] = ⊥
HasFirst P (p ∷ ps) = P p

first_or : {A : Type 0} (P : A → Type 0) (b : Bool) (p : A) (ps : List A) → P p → HasFirst P ps →
    HasFirst P (if b then p ∷ ps else ps)
first_or P true p ps h k = h
first_or P false p ps h k = k

first_is : {A : Type 0} (P : A → Type 0) (b : Bool) (p : A) (ps : List A) → P p → b ≡ true →
    HasFirst P (if b then p ∷ ps else ps)
first_is P true p ps h e = h
first_is P false p ps h e = absurd (false≢true e)

in_own_group : (P : Keyed Item → Type 0) (p : Keyed Item) (before after : List (Keyed Item)) → AllByRecursion P before →
    P p → HasFirst P (filter (same_keys p) (before ++ p ∷ after))
in_own_group P p [] after h k =
    first_is P (same_keys p p) p (filter (same_keys p) after) k (keys_same (comparison_keys p.1))
in_own_group P p (q ∷ qs) after h k =
    first_or P (same_keys p q) q (filter (same_keys p) (qs ++ p ∷ after)) h.0 (in_own_group P p qs after h.1 k)

in_own_groups : (P : Keyed Item → Type 0) (before ps : List (Keyed Item)) → AllByRecursion P before →
    AllByRecursion P ps →
    AllByRecursion (λ p. HasFirst P (filter (same_keys p) (before ++ ps))) ps
in_own_groups P before [] h k = tt
in_own_groups P before (p ∷ ps) h k = (
  in_own_group P p before ps h k.0,
  subst (λ whole. AllByRecursion (λ q. HasFirst P (filter (same_keys q) whole)) ps) (append_assoc before (p ∷ []) ps)
      (in_own_groups P (before ++ p ∷ []) ps (all_append P before (p ∷ []) h (k.0, tt)) k.1),
)

pub firsts_all : {A : Type 0} (P : A → Type 0) (same : A → A → Bool) (xs : List A) → AllByRecursion P xs →
    AllByRecursion P (firsts same xs)
firsts_all P same [] h = tt
firsts_all P same (x ∷ xs) h =
    (h.0, all_filter P (λ y. not (same x y)) (firsts same xs) (firsts_all P same xs h.1))

-- nothing is known of so many slots
anything_fits : (n : ℕ) (xs : Slots) → length xs ≡ n → Fits (replicate n Anything) xs
anything_fits zero [] h = tt
anything_fits zero (x ∷ xs) h = absurd (omega (arith, h))
anything_fits (suc n) [] h = absurd (omega (arith, h))
anything_fits (suc n) (x ∷ xs) h = (tt, anything_fits n xs (omega (arith, h)))

outer_fits : (known : List Held) (slots : Slots) (t : Tuple Item) → Fits known (slots ++ t) →
    Fits (take (length slots) known) slots
outer_fits known [] t h = tt
outer_fits [] (x ∷ slots) t h = absurd h
outer_fits (a ∷ known) (x ∷ slots) t h = (h.0, outer_fits known slots t h.1)

forgotten_fits : (known : List Held) (slots : Slots) (t u : Tuple Item) → Fits known (slots ++ t) →
    length u ≡ length t → Fits (forgotten (length slots) known) (slots ++ u)
forgotten_fits known slots t u h e =
    let all = fits_length known (slots ++ t) h in
    let both = length-append slots t in
    fits_more (take (length slots) known) (replicate (length known - length slots) Anything) slots u (outer_fits known slots t h)
    (anything_fits (length known - length slots) u (omega (arith, all, both, e)))

tuple_fits : (known : List Held) (slots : Slots) (numbers : List ℕ) (group : List (Keyed Item)) →
    HasFirst (λ (p : Keyed Item). Fits known (slots ++ p.0)) group →
    Fits (forgotten (length slots) known) (slots ++ grouped_tuple Atom numbers group)
tuple_fits known slots numbers [] h = absurd h
tuple_fits known slots numbers (first ∷ others) h =
    forgotten_fits known slots first.0 (grouped_tuple Atom numbers (first ∷ others)) h
    (length-map-range_with_len (λ slot. grouped_value Atom (slot_key numbers first.1 slot) slot (first ∷ others)) 0 (length first.0))

groups_fit : (known : List Held) (slots : Slots) (numbers : List ℕ) (whole xs : List (Keyed Item)) →
    AllByRecursion (λ p. HasFirst (λ (q : Keyed Item). Fits known (slots ++ q.0)) (filter (same_keys p) whole)) xs →
    AllFit (forgotten (length slots) known) slots (map (grouped_tuple Atom numbers) (map (λ p. filter (same_keys p) whole) xs))
groups_fit known slots numbers whole [] h = tt
groups_fit known slots numbers whole (x ∷ xs) h =
    (tuple_fits known slots numbers (filter (same_keys x) whole) h.0, groups_fit known slots numbers whole xs h.1)

all_groups_fit : (known : List Held) (slots : Slots) (numbers : List ℕ) (ps : List (Keyed Item)) →
    AllByRecursion (λ (p : Keyed Item). Fits known (slots ++ p.0)) ps →
    AllFit (forgotten (length slots) known) slots (map (grouped_tuple Atom numbers) (groups same_keys ps))
all_groups_fit known slots numbers ps h =
    groups_fit known slots numbers ps (firsts same_keys ps)
    (firsts_all (λ p. HasFirst (λ (q : Keyed Item). Fits known (slots ++ q.0)) (filter (same_keys p) ps)) same_keys ps (in_own_groups (λ (p : Keyed Item). Fits known (slots ++ p.0)) [] ps tt h))

-- # The clauses

module _ {E : Type 0} (known : List Held) (slots : Slots) (frame_at : Tuple Item → Forms.Frame E) (tuples : List (Tuple Item)) (h : AllFit known slots tuples) where
  -- the value at each tuple is as described
  abbrev pub AllHeld : Held → Forms.Meaning E → Type 0
  AllHeld held m = AllByRecursion (λ (t : Tuple Item). (f : List Tree) → GivesHeld held (m (frame_at t) f)) tuples

  all_gives : (held : Held) (m : Forms.Meaning E) (ts : List (Tuple Item)) →
      AllByRecursion (λ (t : Tuple Item). (f : List Tree) → GivesHeld held (m (frame_at t) f)) ts →
      AllByRecursion (λ (t : Tuple Item). (f : List Tree) → Gives (Holds held) (m (frame_at t) f)) ts
  all_gives held m [] k = tt
  all_gives held m (t ∷ ts) k = ((λ f. held_gives held (m (frame_at t) f) (k.0 f)), all_gives held m ts k.1)

  pub for_fits : (empties : AllowingEmpty) (at : Bool) (held : Held) (m : Forms.Meaning E) (f : List Tree) → AllHeld held m →
      GivesFitting (known ++ with_position (each_of held) at) slots (Forms.for_tuples empties at m frame_at tuples f)
  for_fits empties at held m f k =
      fitting_gives (known ++ with_position (each_of held) at) slots (Forms.for_tuples empties at m frame_at tuples f)
      (then_gives (AllByRecursion (Holds held)) (AllFit (known ++ with_position (each_of held) at) slots) (for_each (λ t. m (frame_at t)) tuples f) (λ lists. give (expanded Atom (Forms.allows empties) at tuples lists))
      (each_gives (Holds held) (λ t. m (frame_at t)) tuples f (all_gives held m tuples k))
      (λ lists g all. expanded_fits known held slots (Forms.allows empties) at tuples lists h all))

  pub let_fits : (held : Held) (m : Forms.Meaning E) (f : List Tree) → AllHeld held m →
      GivesFitting (known ++ held ∷ []) slots (Forms.let_tuples m frame_at tuples f)
  let_fits held m f k =
      fitting_gives (known ++ held ∷ []) slots (Forms.let_tuples m frame_at tuples f)
      (then_gives (AllByRecursion (Holds held)) (AllFit (known ++ held ∷ []) slots) (for_each (λ t. m (frame_at t)) tuples f) (λ values. give (bound tuples values))
      (each_gives (Holds held) (λ t. m (frame_at t)) tuples f (all_gives held m tuples k))
      (λ values g all. bound_fits known held slots tuples values h all))

  any_gives : {A : Type 0} (o : Outcome A) → Gives (λ x. Unit {0}) o
  any_gives (Ok x, f) = tt
  any_gives (Err code, f) = tt

  pub where_fits : (m : Forms.Meaning E) (f : List Tree) → GivesFitting known slots (Forms.where_tuples m frame_at tuples f)
  where_fits m f =
      fitting_gives known slots (Forms.where_tuples m frame_at tuples f)
      (then_gives (λ tests. Unit {0}) (AllFit known slots) (for_each (λ t. Forms.tested m (frame_at t)) tuples f) (λ tests. give (satisfying tuples tests))
      (any_gives (for_each (λ t. Forms.tested m (frame_at t)) tuples f))
      (λ tests g all. kept_all (λ t. Fits known (slots ++ t)) tuples tests h))

  pub order_fits : (specs : List (Forms.Meaning E × OrderModifier)) (f : List Tree) →
      GivesFitting known slots (Forms.order_tuples specs frame_at tuples f)
  order_fits specs f =
      fitting_gives known slots (Forms.order_tuples specs frame_at tuples f)
      (then_gives (λ keys. Unit {0}) (AllFit known slots) (for_each (λ t. for_each (λ (s : Forms.Meaning E × OrderModifier). Forms.atoms_of s.0 (frame_at t)) specs) tuples f)
      (λ keys. judged (ordered (Forms.rules_of specs) tuples (Forms.key_columns (length specs) keys)))
      (any_gives (for_each (λ t. for_each (λ (s : Forms.Meaning E × OrderModifier). Forms.atoms_of s.0 (frame_at t)) specs) tuples f))
      (λ keys g all. ordered_gives (λ t. Fits known (slots ++ t)) tuples (Forms.rules_of specs) (Forms.key_columns (length specs) keys) g h))

pub count_fits : (known : List Held) (slots : Slots) (tuples : List (Tuple Item)) (f : List Tree) → AllFit known slots tuples →
    GivesFitting (known ++ Anything ∷ []) slots (Forms.count_tuples tuples f)
count_fits known slots tuples f h = numbered_fits known slots 1 tuples h

pub group_fits : (known : List Held) (slots : Slots) (numbers : List ℕ) (tuples : List (Tuple Item)) (f : List Tree) → AllFit known slots tuples →
    GivesFitting (forgotten (length slots) known) slots (Forms.group_tuples numbers tuples f)
group_fits known slots numbers tuples f h =
    grouped_fits (firsts nat_eq numbers) (map (Forms.slot_values f tuples) (firsts nat_eq numbers))
  where
    grouped_fits : (found : List ℕ) (columns : List (List (List Atomic))) → GivesFitting (forgotten (length slots) known) slots (judged (grouped Atom found tuples columns) f)
    grouped_fits found columns =
        fitting_gives (forgotten (length slots) known) slots (judged (grouped Atom found tuples columns) f)
        (judged_gives (AllFit (forgotten (length slots) known) slots) (are_keys columns) XPTY0004 _ f
        (all_groups_fit known slots found (zip tuples (key_rows tuples (map (map key_value) columns)))
        (first_all (λ t. Fits known (slots ++ t)) tuples (key_rows tuples (map (map key_value) columns)) h)))
