-- The rows below a context.
use Rattle.std.proofs.Common.{◌≡◌, ℕ, suc, ◌+◌, ◌-◌, ◌<◌, ◌≤◌, List, length, get_or, set, cond, Bool, true, false, not, ◌&&◌, ◌||◌, nat_eq, nat_lt, inl, inr, refl, sym, ◌∙◌, ap, subst, arith, get_or-set_same, get_or-set_other}
use Rattle.std.specs.List.{list_any}
use Rattle.std.proofs.lemmas.List.{length-set}
use Rattle.std.proofs.lemmas.Bool.{cases_lt, cases_eq, cases_Bool, eqb-true, eq-eqb, and_from, and_parts, le-leb, leb-true}
use Rattle.std.proofs.Math.Bool.{and-false}
use Rattle.xq_trees.specs.Forest.{count}
use Rattle.xq_trees.specs.Tree.{Tree, IsTree, nodes}
use Rattle.xq_trees.specs.Rows.{Row, rows, row_at}
use Rattle.xq_trees.specs.Regions.{IsInside}
use Rattle.xq_trees.specs.RegionTests.{inside, plain_row, one_below, in_region}
use Rattle.xq_axes.specs.Reads.{Span}
use Rattle.xq_axes.specs.private.Hits.{is_among, is_hit, IsReached}
use Rattle.xq_axes.specs.private.Downward.{axis_of, is_chosen, is_child, level_of, AreMarked, IsOpen, IsMet, IsKnown, IsJudged}
use Rattle.xq_axes.specs.declared.downward.Downward.{Downward}
use Rattle.xq_axes.specs.declared.downward.Downward.TheVariants.{Child, Attribute, Descendant, DescendantOrSelf}
use Rattle.xq_axes.specs.private.Waiting.{IsParent}
use Rattle.xq_axes.proofs.Lists.{any_from, any_at, any_agree, any_and, any_or, among_at, among_index}
use Rattle.xq_trees.proofs.Lists.{same_test}
use Rattle.xq_axes.proofs.Trees.{HasParent, inside_deeper, between_deeper, parent_of, one_parent}
use Rattle.xq_axes.proofs.AttributeRows.{attribute_run}

pub inside_true : (rs : List Row) (v p : ℕ) → IsInside rs v p → inside rs v p ≡ true
inside_true rs v p h = and_from _ _ (le-leb (suc v) p h.0) (le-leb p (v + (row_at rs v).size) h.1)

pub true_inside : (rs : List Row) (v p : ℕ) → inside rs v p ≡ true → IsInside rs v p
true_inside rs v p e = let w = and_parts _ _ e in (leb-true (suc v) p w.0, leb-true p (v + (row_at rs v).size) w.1)

-- the test of the child and the attribute axis, without the kind
abbrev pub is_child_of : Tree → ℕ → ℕ → Bool
is_child_of t p v = inside (rows t) v p && one_below (rows t) v p

module _ (t : Tree) (vs : List ℕ) (n : ℕ) (hn : n < count (nodes t)) where
  -- some context is the parent of the row where its parent is a context
  pub child_of_some : (w : ℕ) → IsParent t w n → list_any (is_child_of t n) vs ≡ is_among vs w
  child_of_some w p = same_test (list_any (is_child_of t n) vs) (is_among vs w)
      (λ e. (
      let s = any_at (is_child_of t n) vs 0 e in
      let u = get_or vs s.index 0 in
      let k = and_parts _ _ s.holds in
      let q : IsParent t u n = record { inside = true_inside (rows t) u n k.0; level = eqb-true (level_of t n) (suc (level_of t u)) k.1 } in
      among_at vs s.index w s.within (one_parent t u w n hn q p)))
      (λ e. (
      let i = among_index vs w e in
      let holds : is_child_of t n w ≡ true = and_from _ _ (inside_true (rows t) w n p.inside) (eq-eqb (level_of t n) (suc (level_of t w)) p.level) in
      any_from (is_child_of t n) vs i.0 0 i.1 (ap (is_child_of t n) i.2 ∙ holds)))

  pub inside_some : (v : ℕ) → is_among vs v ≡ true → IsInside (rows t) v n → list_any (λ u. inside (rows t) u n) vs ≡ true
  inside_some v m h =
      let i = among_index vs v m in
      any_from (λ u. inside (rows t) u n) vs i.0 0 i.1 (ap (λ u. inside (rows t) u n) i.2 ∙ inside_true (rows t) v n h)

swap_same : (vs : List ℕ) (n : ℕ) → list_any (λ v. nat_eq v n) vs ≡ is_among vs n
swap_same vs n = refl

shuffle : (a b c : Bool) → (a && (b && c)) ≡ ((a && b) && c)
shuffle true b c = refl
shuffle false b c = refl

-- a row below a context is on the axis as its parent, itself and its kind say
pub chosen_hit : (d : Downward) (t : Tree) (vs : List ℕ) (n v w : ℕ) → n < count (nodes t) → is_among vs v ≡ true → IsInside (rows t) v n → IsParent t w n
    → is_chosen d (is_among vs w) (is_among vs n) (plain_row (rows t) n) ≡ is_hit (axis_of d) t vs n
chosen_hit Child t vs n v w hn m h p =
    sym (any_agree (λ u. in_region (axis_of Child) (rows t) u n) (λ u. is_child_of t n u && plain_row (rows t) n) vs 0 (λ i l. shuffle (inside (rows t) (get_or vs i 0) n) (one_below (rows t) (get_or vs i 0) n) (plain_row (rows t) n))
    ∙ any_and (is_child_of t n) (plain_row (rows t) n) vs ∙ ap (λ b. b && plain_row (rows t) n) (child_of_some t vs n hn w p))
chosen_hit Attribute t vs n v w hn m h p =
    sym (any_agree (λ u. in_region (axis_of Attribute) (rows t) u n) (λ u. is_child_of t n u && not (plain_row (rows t) n)) vs 0 (λ i l. shuffle (inside (rows t) (get_or vs i 0) n) (one_below (rows t) (get_or vs i 0) n) (not (plain_row (rows t) n)))
    ∙ any_and (is_child_of t n) (not (plain_row (rows t) n)) vs ∙ ap (λ b. b && not (plain_row (rows t) n)) (child_of_some t vs n hn w p))
chosen_hit Descendant t vs n v w hn m h p =
    sym (any_and (λ u. inside (rows t) u n) (plain_row (rows t) n) vs ∙ ap (λ b. b && plain_row (rows t) n) (inside_some t vs n hn v m h))
chosen_hit DescendantOrSelf t vs n v w hn m h p =
    sym (any_or (λ u. nat_eq u n) (λ u. inside (rows t) u n && plain_row (rows t) n) vs
    ∙ ap (λ b. is_among vs n || b) (any_and (λ u. inside (rows t) u n) (plain_row (rows t) n) vs ∙ ap (λ b. b && plain_row (rows t) n) (inside_some t vs n hn v m h)))

-- the parent of a row below v is v or below it
pub parent_below : (t : Tree) (v w n : ℕ) → n < count (nodes t) → IsInside (rows t) v n → IsParent t w n → v ≤ w
parent_below t v w n hn h p =
    elim (cases_lt w v) [
      | inl l ↦ absurd (
          let a = between_deeper t w n v hn p.inside l (let x = h.0 in omega arith) in
          let b = inside_deeper t v n (let x = h.0 in omega arith) hn h in
          let e = p.level in
          omega (arith, a, b, e))
      | inr g ↦ g
    ]

-- what the marks say of a row: whether its parent is a context
pub mark_of_parent : (t : Tree) (vs : List ℕ) (v n w : ℕ) (marks : List Bool) → n < count (nodes t) → IsInside (rows t) v n → IsParent t w n → AreMarked t vs v n marks → get_or marks (level_of t n - 1) false ≡ is_among vs w
mark_of_parent t vs v n w marks hn h p m =
    let e : level_of t n - 1 ≡ level_of t w = (let l = p.level in omega arith) in
    ap (λ l. get_or marks l false) e ∙ m w (parent_below t v w n hn h p) p.inside

marked_more : (t : Tree) (vs : List ℕ) (v n : ℕ) (marks : List Bool) (is_context : Bool) → n < count (nodes t) → level_of t n < length marks → AreMarked t vs v n marks → is_context ≡ is_among vs n → AreMarked t vs v (n + 1) (set marks (level_of t n) is_context)
marked_more t vs v n marks is_context hn l m e = λ w a i. elim (cases_eq w n) [
  | inl same ↦ subst (λ x. get_or (set marks (level_of t n) is_context) (level_of t x) false ≡ is_among vs x) (sym same) (get_or-set_same marks (level_of t n) is_context false l ∙ e)
  | inr other ↦ (
      let x = i.0 in
      let y = i.1 in
      let inner : IsInside (rows t) w n = (omega (arith, x, other), omega (arith, y)) in
      let deeper = inside_deeper t w n (omega (arith, x, other, hn)) hn inner in
      get_or-set_other marks (level_of t n) (level_of t w) is_context false (λ z. omega (arith, z, deeper)) ∙ m w a inner)
]

open_more : (t : Tree) (vs : List ℕ) (v n : ℕ) (is_open is_context plain : Bool) → IsOpen t vs v n is_open → plain ≡ plain_row (rows t) n → is_context ≡ is_among vs n → IsOpen t vs v (n + 1) (cond plain is_context is_open)
open_more t vs v n is_open is_context plain o ep e = λ w a b pw clear. elim (cases_eq w n) [
  | inl same ↦ (
      let yes : plain ≡ true = ep ∙ ap (plain_row (rows t)) (sym same) ∙ pw in
      ap (λ x. cond x is_context is_open) yes ∙ e ∙ ap (is_among vs) (sym same))
  | inr other ↦ (
      let less : w < n = omega (arith, b, other) in
      let no : plain ≡ false = ep ∙ clear n less (omega arith) in
      ap (λ x. cond x is_context is_open) no ∙ o w a less pw (λ q c d. clear q c (omega (arith, d))))
]

-- one row more
pub known_more : (d : Downward) (t : Tree) (vs : List ℕ) (v n : ℕ) (marks : List Bool) (is_open is_context plain : Bool) → n < count (nodes t) → level_of t n < length marks → IsKnown d t vs v n marks is_open → plain ≡ plain_row (rows t) n → is_context ≡ is_among vs n
    → IsKnown d t vs v (n + 1) (set marks (level_of t n) is_context) (cond plain is_context is_open)
known_more Child t vs v n marks is_open is_context plain hn l k ep e = marked_more t vs v n marks is_context hn l k e
known_more Attribute t vs v n marks is_open is_context plain hn l k ep e = open_more t vs v n is_open is_context plain k ep e
known_more Descendant t vs v n marks is_open is_context plain hn l k ep e = tt
known_more DescendantOrSelf t vs v n marks is_open is_context plain hn l k ep e = marked_more t vs v n marks is_context hn l k e

-- a row that is no attribute is on no axis to attributes
no_attribute : (t : Tree) (vs : List ℕ) (n : ℕ) (child is_context : Bool) → plain_row (rows t) n ≡ true → is_chosen Attribute child is_context (plain_row (rows t) n) ≡ is_hit (axis_of Attribute) t vs n
no_attribute t vs n child is_context h =
    let z : not (plain_row (rows t) n) ≡ false = ap not h in
    ap (λ b. child && b) z ∙ and-false child
    ∙ sym (any_agree (λ u. in_region (axis_of Attribute) (rows t) u n) (λ u. is_child_of t n u && not (plain_row (rows t) n)) vs 0 (λ i l. shuffle (inside (rows t) (get_or vs i 0) n) (one_below (rows t) (get_or vs i 0) n) (not (plain_row (rows t) n)))
    ∙ any_and (is_child_of t n) (not (plain_row (rows t) n)) vs ∙ ap (λ b. list_any (is_child_of t n) vs && b) z ∙ and-false (list_any (is_child_of t n) vs))

-- a row below a context is on the axis as what is known of it says
known_hit : (d : Downward) (t : Tree) (vs : List ℕ) (n v : ℕ) (marks : List Bool) (is_open : Bool) → IsTree t → n < count (nodes t) → is_among vs v ≡ true → v < count (nodes t) → IsInside (rows t) v n → IsKnown d t vs v n marks is_open
    → is_chosen d (is_child d is_open (nat_lt 0 (level_of t n) && get_or marks (level_of t n - 1) false)) (is_among vs n) (plain_row (rows t) n) ≡ is_hit (axis_of d) t vs n
known_hit d t vs n v marks is_open is hn m hv h k = by d k
  where
    deep : level_of t v < level_of t n
    deep = inside_deeper t v n hv hn h

    par : HasParent t n
    par = parent_of t n hn (omega (arith, deep))

    by_marks : AreMarked t vs v n marks → (nat_lt 0 (level_of t n) && get_or marks (level_of t n - 1) false) ≡ is_among vs par.parent
    by_marks a =
        let some : nat_lt 0 (level_of t n) ≡ true = le-leb 1 (level_of t n) (omega (arith, deep)) in
        ap (λ b. b && get_or marks (level_of t n - 1) false) some ∙ mark_of_parent t vs v n par.parent marks hn h par.is a

    by_open : IsOpen t vs v n is_open → plain_row (rows t) n ≡ false → is_open ≡ is_among vs par.parent
    by_open o p =
        let run = attribute_run t is par.parent n hn par.is p in
        o par.parent (parent_below t v par.parent n hn h par.is) par.is.inside.0 run.parent run.between

    by : (d : Downward) → IsKnown d t vs v n marks is_open → is_chosen d (is_child d is_open (nat_lt 0 (level_of t n) && get_or marks (level_of t n - 1) false)) (is_among vs n) (plain_row (rows t) n) ≡ is_hit (axis_of d) t vs n
    by Child k = ap (λ b. is_chosen Child b (is_among vs n) (plain_row (rows t) n)) (by_marks k) ∙ chosen_hit Child t vs n v par.parent hn m h par.is
    by Attribute k = elim (cases_Bool (plain_row (rows t) n)) [
      | inl p ↦ no_attribute t vs n is_open (is_among vs n) p
      | inr p ↦ ap (λ b. is_chosen Attribute b (is_among vs n) (plain_row (rows t) n)) (by_open k p) ∙ chosen_hit Attribute t vs n v par.parent hn m h par.is
    ]
    by Descendant k = chosen_hit Descendant t vs n v par.parent hn m h par.is
    by DescendantOrSelf k = chosen_hit DescendantOrSelf t vs n v par.parent hn m h par.is

-- one row below a context judged
pub record Judging (d : Downward) (t : Tree) (vs : List ℕ) (s : Span) (n : ℕ) (hit : Bool) (met : ℕ) (marks : List Bool) (is_open : Bool) : Type 0 where
  pub is_right : hit ≡ is_hit (axis_of d) t vs n
  pub goes_on : IsJudged d t vs s (n + 1) met marks is_open

pub met_is : (d : Downward) (vs : List ℕ) (met n : ℕ) → IsReached vs met n → IsMet d vs met n
met_is Child vs met n r = r
met_is Attribute vs met n r = r
met_is Descendant vs met n r = tt
met_is DescendantOrSelf vs met n r = r

pub is_met : (d : Downward) (vs : List ℕ) (met n : ℕ) → (d ≡ Descendant → ⊥) → IsMet d vs met n → IsReached vs met n
is_met Child vs met n h r = r
is_met Attribute vs met n h r = r
is_met Descendant vs met n h r = absurd (h refl)
is_met DescendantOrSelf vs met n h r = r

-- a row below a context is one of its descendants, unless it is an attribute
pub descendant : (t : Tree) (vs : List ℕ) (s : Span) (n met : ℕ) (marks : List Bool) (is_open plain : Bool) → IsJudged Descendant t vs s n met marks is_open → n < count (nodes t) → s.low ≤ n → n ≤ s.high → plain ≡ plain_row (rows t) n
    → Judging Descendant t vs s n plain met marks is_open
descendant t vs s n met marks is_open plain j hn low high ep =
    let c = j.cluster in
    let h : IsInside (rows t) j.top n = (let a = c.low in let b = c.high in (omega arith, omega arith)) in
    record {
      is_right = ep ∙ known_hit Descendant t vs n j.top marks is_open j.is_tree hn j.is_context c.is_there h tt;
      goes_on = record {
        is_tree = j.is_tree;
        rising = j.rising;
        reached = tt;
        top = j.top;
        cluster = c;
        is_context = j.is_context;
        from = (let f = j.from in omega (arith, f));
        levels = j.levels;
        is_known = tt;
      };
    }

pub judged : (d : Downward) (t : Tree) (vs : List ℕ) (s : Span) (n : ℕ) (child is_context plain hit : Bool) (met new_met : ℕ) (marks : List Bool) (is_open : Bool) → IsJudged d t vs s n met marks is_open
    → n < count (nodes t) → s.low ≤ n → n ≤ s.high → level_of t n < 101
    → child ≡ is_child d is_open (nat_lt 0 (level_of t n) && get_or marks (level_of t n - 1) false)
    → (is_context ≡ is_among vs n) × IsReached vs new_met (n + 1)
    → plain ≡ plain_row (rows t) n → hit ≡ is_chosen d child is_context plain
    → Judging d t vs s n hit new_met (set marks (level_of t n) is_context) (cond plain is_context is_open)
judged d t vs s n child is_context plain hit met new_met marks is_open j hn low high l ec em ep eh =
    let v = j.top in
    let c = j.cluster in
    let h : IsInside (rows t) v n = (let a = c.low in let b = c.high in (omega arith, omega arith)) in
    let known = is_child d is_open (nat_lt 0 (level_of t n) && get_or marks (level_of t n - 1) false) in
    record {
      is_right = eh ∙ ap (λ b. is_chosen d b is_context plain) ec ∙ ap (λ b. is_chosen d known b plain) em.0 ∙ ap (λ b. is_chosen d known (is_among vs n) b) ep
          ∙ known_hit d t vs n v marks is_open j.is_tree hn j.is_context c.is_there h j.is_known;
      goes_on = record {
        is_tree = j.is_tree;
        rising = j.rising;
        reached = met_is d vs new_met (n + 1) em.1;
        top = v;
        cluster = c;
        is_context = j.is_context;
        from = omega arith;
        levels = length-set marks (level_of t n) is_context ∙ j.levels;
        is_known = known_more d t vs v n marks is_open is_context plain hn (let z = j.levels in omega (arith, l, z)) j.is_known ep em.0;
      };
    }
