-- Laws of the map from addresses to documents, for the layers above: what it has after a put and after a drop.
use Rattle.std.proofs.Common.{◌≡◌, ◌≢◌, ◌||◌, ◌&&◌, Bool, true, false, not, cond, ℕ, List, refl, sym, ap, ◌∙◌, Some, None, is_some, Option}
use Rattle.std.specs.Ordering.{is_eq, eq_by_cmp}
use Rattle.std.specs.FinMap.{get, insert, remove, contains_key, empty, same_map, get-insert, get-remove, get-empty}
use Rattle.std.proofs.lemmas.Cmp.{tied_itself}
use Rattle.xq_trees.specs.Tree.{Tree}
use Rattle.xq_tables.specs.Documents.{Map}
use Rattle.xq_tables.proofs.Lists.{tied}
use Rattle.xq_tables.proofs.Maps.{order, order_total, order_exact}

abbrev pub same : List ℕ → List ℕ → Bool
same = eq_by_cmp order

itself : (a : List ℕ) → same a a ≡ true
itself a = ap is_eq (tied_itself order_total a)

differs : (q a : List ℕ) → q ≢ a → same q a ≡ false
differs q a apart = go (same q a) refl
  where
    go : (b : Bool) → same q a ≡ b → same q a ≡ false
    go true e = absurd (apart (order_exact q a (tied _ e)))
    go false e = e

pub get-none : (q : List ℕ) → get {X = Tree} (empty {R = order}) q ≡ None
get-none q = get-empty order q

-- after a put the address has the document, and each other what it had
pub get-insert_same : (m : Map) (a : List ℕ) (t : Tree) → get (insert m a t) a ≡ Some t
get-insert_same m a t = get-insert order_total m a t a ∙ ap (λ b. cond b (Some t) (get m a)) (itself a)

pub get-insert_other : (m : Map) (a q : List ℕ) (t : Tree) → q ≢ a → get (insert m a t) q ≡ get m q
get-insert_other m a q t apart = get-insert order_total m a t q ∙ ap (λ b. cond b (Some t) (get m q)) (differs q a apart)

-- after a drop it has none, and each other what it had
pub get-remove_same : (m : Map) (a : List ℕ) → get (remove m a) a ≡ None
get-remove_same m a = get-remove order_total m a a ∙ ap (λ b. cond b None (get m a)) (itself a)

pub get-remove_other : (m : Map) (a q : List ℕ) → q ≢ a → get (remove m a) q ≡ get m q
get-remove_other m a q apart = get-remove order_total m a q ∙ ap (λ b. cond b None (get m q)) (differs q a apart)

-- the last put counts
pub insert-insert : (m : Map) (a : List ℕ) (t u : Tree) → insert (insert m a t) a u ≡ insert m a u
insert-insert m a t u = same_map order_total order_exact _ _ (λ q.
    get-insert order_total (insert m a t) a u q ∙ ap (cond (same q a) (Some u)) (get-insert order_total m a t q) ∙ inner (same q a) (get m q) ∙ sym (get-insert order_total m a u q))
  where
    inner : (b : Bool) (o : Option Tree) → cond b (Some u) (cond b (Some t) o) ≡ cond b (Some u) o
    inner true o = refl
    inner false o = refl

-- a drop undoes a put under an address that was absent
pub remove-insert : (m : Map) (a : List ℕ) (t : Tree) → remove (insert m a t) a ≡ remove m a
remove-insert m a t = same_map order_total order_exact _ _ (λ q.
    get-remove order_total (insert m a t) a q ∙ ap (cond (same q a) None) (get-insert order_total m a t q) ∙ inner (same q a) (get m q) ∙ sym (get-remove order_total m a q))
  where
    inner : (b : Bool) (o : Option Tree) → cond b None (cond b (Some t) o) ≡ cond b None o
    inner true o = refl
    inner false o = refl

-- a drop of an absent address changes nothing
pub remove_absent : (m : Map) (a : List ℕ) → contains_key m a ≡ false → remove m a ≡ m
remove_absent m a absent = same_map order_total order_exact _ _ (λ q. get-remove order_total m a q ∙ go q (same q a) refl)
  where
    none : (o : Option Tree) → is_some o ≡ false → o ≡ None
    none None e = refl
    none (Some t) e = absurd cc

    go : (q : List ℕ) (b : Bool) → same q a ≡ b → cond b None (get m q) ≡ get m q
    go q true e = sym (ap (get m) (order_exact q a (tied _ e)) ∙ none (get m a) absent)
    go q false e = refl

-- the addresses after each: `contains_key m q` is whether q is among the keys of m (std's contains_key-keys)
pub contains_key-insert : (m : Map) (a q : List ℕ) (t : Tree) → contains_key (insert m a t) q ≡ (same q a || contains_key m q)
contains_key-insert m a q t = ap is_some (get-insert order_total m a t q) ∙ go (same q a)
  where
    go : (b : Bool) → is_some (cond b (Some t) (get m q)) ≡ (b || contains_key m q)
    go true = refl
    go false = refl

pub contains_key-remove : (m : Map) (a q : List ℕ) → contains_key (remove m a) q ≡ (not (same q a) && contains_key m q)
contains_key-remove m a q = ap is_some (get-remove order_total m a q) ∙ go (same q a)
  where
    go : (b : Bool) → is_some (cond b None (get m q)) ≡ (not b && contains_key m q)
    go true = refl
    go false = refl
