-- The attributes of a node stand right after it.
use Rattle.std.proofs.Common.{◌≡◌, ℕ, zero, suc, ◌+◌, ◌<◌, ◌∷◌, ◌++◌, length, Bool, true, false, not, ◌-◌, ◌≤◌, ◌⊎◌, inl, inr, refl, sym, ◌∙◌, ap, subst, arith}
use Rattle.std.specs.Prelude.{IsTrue}
use Rattle.std.proofs.lemmas.Bool.{cases_lt, cases_order, and_parts}
use Rattle.std.proofs.Math.ListN.{get_or-append}
use Rattle.std.proofs.lemmas.List.{get_or-append-add}
use Rattle.xq_trees.specs.declared.Kind.{Kind}
use Rattle.xq_trees.specs.declared.Kind.TheVariants.{Document, Element, Attribute, Text, Comment, ProcessingInstruction}
use Rattle.xq_trees.specs.Forest.{Forest, end, node, count, labels, tops, EachNode}
use Rattle.xq_trees.specs.Tree.{Label, Tree, IsTree, nodes, is_attribute, is_content, may_follow, may_stand, are_attributes_first}
use Rattle.xq_trees.specs.Rows.{Row, rows, row_at, no_row, measured}
use Rattle.xq_trees.specs.RegionTests.{plain_row}
use Rattle.xq_trees.specs.Nesting.{count-measured}
use Rattle.xq_trees.proofs.AttributeRuns.{content_in_front}
use Rattle.xq_trees.proofs.Regions.{length-labels}
use Rattle.xq_axes.specs.private.Downward.{level_of}
use Rattle.xq_axes.specs.private.Waiting.{IsParent}
use Rattle.xq_axes.proofs.Siblings.{clear_parent}
use Rattle.xq_axes.proofs.Trees.{one_parent}

-- # Two rows, where the second is that of an attribute

holds_attributes : (a b : Kind) → may_stand a b ≡ true → is_attribute a ≡ false
holds_attributes Document b h = refl
holds_attributes Element b h = refl
holds_attributes Attribute b h = absurd (cc)
holds_attributes Text b h = refl
holds_attributes Comment b h = refl
holds_attributes ProcessingInstruction b h = refl

follows_attribute : (a b : Kind) → may_follow a b ≡ true → is_attribute b ≡ true → is_attribute a ≡ true
follows_attribute a Document h g = absurd (cc)
follows_attribute a Element h g = absurd (cc)
follows_attribute Attribute Attribute h g = refl
follows_attribute Document Attribute h g = absurd (cc)
follows_attribute Element Attribute h g = absurd (cc)
follows_attribute Text Attribute h g = absurd (cc)
follows_attribute Comment Attribute h g = absurd (cc)
follows_attribute ProcessingInstruction Attribute h g = absurd (cc)
follows_attribute a Text h g = absurd (cc)
follows_attribute a Comment h g = absurd (cc)
follows_attribute a ProcessingInstruction h g = absurd (cc)

-- the first is that of the parent, or of an attribute of the same level
StandsAfter : Row → Row → Type 0
StandsAfter x y = ((y.level ≡ suc x.level) × (is_attribute x.label.kind ≡ false))
    ⊎ ((y.level ≡ x.level) × (is_attribute x.label.kind ≡ true))

IsContent : Forest Label → Type 0
IsContent f = EachNode (λ a below. IsTrue (is_content a below)) f

length-measured : (l : ℕ) (f : Forest Label) → length (labels (measured l f)) ≡ count f
length-measured l f = length-labels (measured l f) ∙ count-measured l f

in_below : (l : ℕ) (k r : Forest Label) (m : ℕ) → m < count k → row_at (labels (measured (suc l) k) ++ labels (measured l r)) m ≡ row_at (labels (measured (suc l) k)) m
in_below l k r m h = get_or-append (labels (measured (suc l) k)) (labels (measured l r)) no_row m (let e = length-measured (suc l) k in omega arith)

in_beside : (l : ℕ) (k r : Forest Label) (m i : ℕ) → m ≡ count k + i → row_at (labels (measured (suc l) k) ++ labels (measured l r)) m ≡ row_at (labels (measured l r)) i
in_beside l k r m i h =
    let e : m ≡ length (labels (measured (suc l) k)) + i = (let e = length-measured (suc l) k in omega arith) in
    ap (row_at (labels (measured (suc l) k) ++ labels (measured l r))) e ∙ get_or-append-add (labels (measured (suc l) k)) (labels (measured l r)) i no_row

after_first : (l : ℕ) (a : Label) (k r : Forest Label) → IsContent k → is_content a (tops k) ≡ true → are_attributes_first (a ∷ tops r) ≡ true
    → 0 < count k + count r → is_attribute (row_at (labels (measured (suc l) k) ++ labels (measured l r)) 0).label.kind ≡ true
    → StandsAfter (record { size = count k; level = l; label = a }) (row_at (labels (measured (suc l) k) ++ labels (measured l r)) 0)
unfolding StandsAfter IsContent
after_first l a end end e h g lt at = absurd (omega (arith, lt))
after_first l a end (node b kb rb) e h g lt at =
    inr (refl, follows_attribute a.kind b.kind (and_parts _ _ g).0 at)
after_first l a (node c kc rc) r e h g lt at =
    inl (refl, holds_attributes a.kind c.kind (and_parts _ _ h).0)

-- the first node beside one with nodes below it is no attribute
no_border : (l : ℕ) (a : Label) (k r : Forest Label) → is_content a (tops k) ≡ true → are_attributes_first (a ∷ tops r) ≡ true → 0 < count k → 0 < count r
    → is_attribute (row_at (labels (measured l r)) 0).label.kind ≡ true → ⊥
no_border l a end r h g some lt at = absurd (omega (arith, some))
no_border l a (node c kc rc) end h g some lt at = absurd (omega (arith, lt))
no_border l a (node c kc rc) (node b kb rb) h g some lt at =
    let x = holds_attributes a.kind c.kind (and_parts _ _ h).0 in
    let y = follows_attribute a.kind b.kind (and_parts _ _ g).0 at in
    let z : true ≡ false = sym y ∙ x in
    absurd (cc)

split : (m c : ℕ) → c ≤ m → (i : ℕ) × (m ≡ c + i)
split m c h = (m - c, omega (arith, h))

before_attribute : (l : ℕ) (f : Forest Label) → IsContent f → are_attributes_first (tops f) ≡ true → (n : ℕ) → suc n < count f
    → is_attribute (row_at (labels (measured l f)) (suc n)).label.kind ≡ true → StandsAfter (row_at (labels (measured l f)) n) (row_at (labels (measured l f)) (suc n))
unfolding IsContent
before_attribute l end e h n lt at = absurd (omega (arith, lt))
before_attribute l (node a k r) e h zero lt at = after_first l a k r e.1.0 e.0 h (omega (arith, lt)) at
before_attribute l (node a k r) e h (suc m) lt at =
    let rs = labels (measured (suc l) k) ++ labels (measured l r) in
    elim (cases_lt (suc m) (count k)) [
      | inl lower ↦ (
          let x = in_below l k r m (omega (arith, lower)) in
          let y = in_below l k r (suc m) lower in
          let is = before_attribute (suc l) k e.1.0 (content_in_front a (tops k) e.0) m lower (ap (λ (z : Row). is_attribute z.label.kind) (sym y) ∙ at) in
          subst (λ z. StandsAfter z (row_at rs (suc m))) (sym x) (subst (λ z. StandsAfter (row_at (labels (measured (suc l) k)) m) z) (sym y) is))
      | inr higher ↦ elim (cases_lt m (count k)) [
        | inl last ↦ absurd (
            let y = in_beside l k r (suc m) 0 (omega (arith, higher, last)) in
            no_border l a k r e.0 h (omega (arith, last)) (omega (arith, higher, last, lt)) (ap (λ (z : Row). is_attribute z.label.kind) (sym y) ∙ at))
        | inr over ↦ (
            let s = split m (count k) over in
            let i = s.0 in
            let p = s.1 in
            let x = in_beside l k r m i p in
            let y = in_beside l k r (suc m) (suc i) (omega (arith, p)) in
            let is = before_attribute l r e.1.1 (and_parts _ _ h).1 i (omega (arith, p, lt)) (ap (λ (z : Row). is_attribute z.label.kind) (sym y) ∙ at) in
            subst (λ z. StandsAfter z (row_at rs (suc m))) (sym x) (subst (λ z. StandsAfter (row_at (labels (measured l r)) i) z) (sym y) is))
      ]
    ]

-- # In a tree

plain_is : (b : Bool) → b ≡ false → not b ≡ true
plain_is b h = ap not h

attribute_is : (b : Bool) → b ≡ true → not b ≡ false
attribute_is b h = ap not h

not_plain : (b : Bool) → not b ≡ false → b ≡ true
not_plain true h = refl
not_plain false h = absurd (cc)

-- a row right before that of an attribute, which is deeper, is that of none
pub first_attribute : (t : Tree) → IsTree t → (v : ℕ) → suc v < count (nodes t) → plain_row (rows t) (suc v) ≡ false → level_of t v < level_of t (suc v) → plain_row (rows t) v ≡ true
unfolding StandsAfter IsContent
first_attribute t is v h at deeper = elim (before_attribute 0 (nodes t) is.content refl v h (not_plain _ at)) [
  | inl k ↦ plain_is _ k.1
  | inr k ↦ absurd (let same : level_of t (suc v) ≡ level_of t v = k.0 in omega (arith, deeper, same))
]

-- the parent of an attribute is none, and all rows between them are attributes
pub record AttributeRun (t : Tree) (w q : ℕ) : Type 0 where
  pub parent : plain_row (rows t) w ≡ true
  pub between : (x : ℕ) → w < x → x < q → plain_row (rows t) x ≡ false

pub attribute_run : (t : Tree) → IsTree t → (w q : ℕ) → q < count (nodes t) → IsParent t w q → plain_row (rows t) q ≡ false → AttributeRun t w q
unfolding StandsAfter IsContent
attribute_run t is w zero hq p at = absurd (let x = p.inside.0 in omega (arith, x))
attribute_run t is w (suc q) hq p at =
    let l = p.level in
    let i = p.inside.0 in
    let j = p.inside.1 in
    elim (before_attribute 0 (nodes t) is.content refl q hq (not_plain _ at)) [
      | inl k ↦ (
          let k0 = k.0 in
          let own : IsParent t q (suc q) = clear_parent t q (suc q) hq (omega arith) k0 (λ x a b. absurd (omega (arith, a, b))) in
          let same : q ≡ w = one_parent t q w (suc q) hq own p in
          record {
            parent = subst (λ x. plain_row (rows t) x ≡ true) same (plain_is _ k.1);
            between = λ x a b. absurd (omega (arith, a, b, same));
          })
      | inr k ↦ (
          let k0 : level_of t (suc q) ≡ level_of t q = k.0 in
          let less : w < q = elim (cases_order w q) [
            | inl same ↦ absurd (let z : level_of t w ≡ level_of t q = ap (level_of t) same in omega (arith, z, l, k0))
            | inr apart ↦ elim apart [
              | inl a ↦ a
              | inr a ↦ absurd (omega (arith, a, i))
            ]
          ] in
          let before = attribute_run t is w q (omega (arith, hq)) (record { inside = (less, omega (arith, j)); level = omega (arith, l, k0) }) (attribute_is _ k.1) in
          record {
            parent = before.parent;
            between = λ x a b. elim (cases_lt x q) [
              | inl c ↦ before.between x a c
              | inr c ↦ (let same : q ≡ x = omega (arith, b, c) in subst (λ y. plain_row (rows t) y ≡ false) same (attribute_is _ k.1))
            ];
          })
    ]
