-- A predicate that compares a key of each item keeps the items that a join keeps.
use Rattle.std.proofs.Common.{◌≡◌, ℕ, zero, suc, ◌<◌, List, [], ◌∷◌, ◌++◌, map, length, false, Ok, Err, refl, sym, ap, ◌∙◌, inr, arith}
use Rattle.std.specs.Prelude.{Option, Bool}
use Rattle.std.proofs.lemmas.List.{append_assoc}
use Rattle.xq_atoms.specs.Judged.{Judged, ◌>>=◌}
use Rattle.xq_atoms.specs.Text.{Text}
use Rattle.xq_atoms.specs.Atom.{Atomic}
use Rattle.xq_expressions.specs.declared.operators.Relation.TheVariants as relation
use Rattle.xq_trees.specs.declared.Axis.{Axis}
use Rattle.xq_trees.specs.declared.Kind.TheVariants as kind
use Rattle.xq_trees.specs.Tree.{Tree}
use Rattle.xq_trees.specs.Tuples.{Tuple, value_at}
use Rattle.xq_meaning.specs.declared.joins.Equality.{Equality}
use Rattle.xq_meaning.specs.declared.joins.Equality.TheVariants as equality
use Rattle.xq_meaning.specs.declared.joins.Join.{Join}
use Rattle.xq_meaning.specs.declared.joins.JoinKey.{JoinKey}
use Rattle.xq_meaning.specs.declared.joins.KeyForm.TheVariants as key_form
use Rattle.xq_meaning.specs.declared.node_tests.Test.{Test}
use Rattle.xq_meaning.specs.declared.plans.Plan.{Plan}
use Rattle.xq_meaning.specs.declared.plans.Plan.TheVariants as plan
use Rattle.xq_meaning.specs.Arguments.{as_boolean, effective, single}
use Rattle.xq_meaning.specs.Doing.{Doing, Outcome, go_on, give, judged, on_trees, in_turn, more, collected}
use Rattle.xq_meaning.specs.Forms
use Rattle.xq_meaning.specs.Functions.{Focus}
use Rattle.xq_meaning.specs.Items.{Place, Item, Node, atomized}
use Rattle.xq_meaning.specs.Operators.{keeps, operated, related_by, some_pair, of_both}
use Rattle.xq_atoms.specs.Compare.{compare_value}
use Rattle.xq_meaning.specs.PlanMeaning.{Slots, Frame, at_tuple, at_carried, carried, comparison, formed, key_from, key_mean, keys_equal, if_equal, equal_items, next_step, plan_mean, plan_step_mean}
use Rattle.xq_meaning.specs.Same.{frame_of}
use Rattle.xq_meaning.specs.Steps.{passes, focuses_from}
use Rattle.xq_meaning.proofs.PlanEquations as plan_eq
use Rattle.xq_meaning.proofs.SameForms.{then_same, go_on_same}
use Rattle.xq_meaning.proofs.Turns.{go_on_give, go_on_go_on, in_turn-append}
use Rattle.xq_optimise.specs.declared.held.Held.{Held}
use Rattle.xq_optimise.specs.declared.held.Held.TheVariants.{Nodes}
use Rattle.xq_optimise.specs.Known.{Fits}
use Rattle.xq_optimise.specs.Sure.{on_node}
use Rattle.xq_optimise.specs.private.Filters.{at_node, with_node, LeadsTo, IsSide, ComparesItems}
use Rattle.xq_optimise.specs.private.Joins.{IsKey, IsOutside, scan_step}
use Rattle.xq_optimise.specs.private.Parts.{GivesHeld, IsHeld}
use Rattle.xq_optimise.proofs.Fitting.{fits_length}
use Rattle.xq_optimise.proofs.FromOne.{scan_of_one}
use Rattle.xq_optimise.proofs.ItemTests.{step_found}
use Rattle.xq_optimise.proofs.JoinLaws.{scans_are, value_next}

-- # Keys of the item in focus

pub context_leads : (p : Plan) → p ≡ plan.ContextItem → LeadsTo [] p
context_leads p is frame place position last f =
    ap (λ m. m (at_node frame place position last) f) (ap plan_mean is ∙ plan_eq.plan-ContextItem)

pub step_leads : (p : Plan) (axis : Axis) (of : Test) → p ≡ plan.Step axis of [] → ((name : Text) → passes of kind.Document name ≡ false) →
    LeadsTo ((axis, of) ∷ []) p
step_leads p axis of is excluded frame place position last f =
    ap (λ q. plan_mean q (at_node frame place position last) f) is
    ∙ step_found axis of frame.env frame.addresses f place position last
    ∙ sym (go_on_give (Forms.scan axis of (Node place ∷ []) f) ∙ scan_of_one f axis of place excluded)

pub path_leads : (p start : Plan) (first more : List (Axis × Test)) → p ≡ plan.Path start (map scan_step more) → LeadsTo first start →
    LeadsTo (first ++ more) p
path_leads p start first more is leads frame place position last f =
    let fr = at_node frame place position last in
    let act = λ (xs : List Item) (s : Axis × Test). Forms.scan s.0 s.1 xs in
    ap (λ m. m fr f) (ap plan_mean is ∙ plan_eq.plan-Path start (map scan_step more))
    ∙ then_same (plan_mean start fr f) (in_turn act (Node place ∷ []) first f) (λ xs. in_turn (next_step fr) xs (map plan_step_mean (map scan_step more))) (λ xs. in_turn act xs more)
    (leads frame place position last f) (λ xs g. sym (scans_are fr more xs g))
    ∙ sym (in_turn-append act (Node place ∷ []) first more f)

pub scans_side : (next : ℕ) (key : JoinKey) (p : Plan) → key.slot ≡ next → key.form ≡ key_form.Value → LeadsTo key.scans p → IsSide next key p
scans_side next key p slot form leads frame long place position last f =
    let act = λ (xs : List Item) (s : Axis × Test). Forms.scan s.0 s.1 xs in
    let v : value_at key.slot (frame.env ++ (Node place ∷ []) ∷ []) ≡ Node place ∷ [] =
    ap (λ n. value_at n (frame.env ++ (Node place ∷ []) ∷ [])) (slot ∙ sym long) ∙ value_next frame.env (Node place ∷ []) in
    leads frame place position last f
    ∙ sym (ap (λ xs. key_from key xs f) v
    ∙ ap (λ k. go_on (in_turn act (Node place ∷ []) key.scans f) (formed k)) form
    ∙ go_on_give (in_turn act (Node place ∷ []) key.scans f))

value_front : {X : Type 0} (n : ℕ) (slots more : Tuple X) → n < length slots → value_at n (slots ++ more) ≡ value_at n slots
value_front n [] more h = absurd (omega (arith, h))
value_front zero (x ∷ slots) more h = refl
value_front (suc n) (x ∷ slots) more h = value_front n slots more (omega (arith, h))

pub slot_side : (next : ℕ) (key : JoinKey) (p : Plan) → key.slot < next → IsKey key p → IsSide next key p
slot_side next key p below is frame long place position last f =
    sym (is (at_node frame place position last) f)
    ∙ ap (λ xs. key_from key xs f) (sym (value_front key.slot frame.env ((Node place ∷ []) ∷ []) (omega (arith, below, long))))

-- # The comparison

sides_compare : (next : ℕ) (join : Join) (p : Plan) → ComparesItems next join p → (frame : Frame) → length frame.env ≡ next →
    (place : Place) (position last : ℕ) (f : List Tree) → plan_mean p (at_node frame place position last) f ≡ keys_equal join (with_node frame place) f
sides_compare next join p (a, b, is, none, left, right) frame long place position last f =
    let fr = at_node frame place position last in
    let to = with_node frame place in
    let op = comparison join.equality in
    ap (λ m. m fr f) (ap plan_mean is ∙ plan_eq.plan-Chain a ((op, b) ∷ []))
    ∙ then_same (plan_mean a fr f) (key_mean join.left to f) (λ xs. in_turn (Forms.next_operand fr) xs ((op, plan_mean b) ∷ [])) (λ xs. in_turn (Forms.next_operand to) xs ((op, key_mean join.right) ∷ []))
    (left frame long place position last f)
    (λ xs g. ap (λ o. go_on (go_on o (λ ys. on_trees (λ trees. operated op trees xs ys))) (λ next. give next)) (right frame long place position last g))

-- what a comparison gives keeps as a predicate what it keeps as a test
abbrev pub KeepsAlike : Judged (List Item) → Type 0
KeepsAlike r = (position : ℕ) (f : List Tree) → go_on (r, f) (λ v. judged (keeps position v)) ≡ go_on (r, f) (λ v. judged (effective v))

pub boolean_alike : (r : Judged Bool) → KeepsAlike (as_boolean r)
boolean_alike (Ok b) position f = refl
boolean_alike (Err code) position f = refl

pub both_alike : (judge : List Atomic → Judged Atomic) (compare : Atomic → Atomic → Judged Bool) (as' bs : List Atomic) →
    KeepsAlike (of_both judge (λ a b. as_boolean (compare a b)) as' bs)
both_alike judge compare [] bs position f = refl
both_alike judge compare (a ∷ as') [] position f = refl
both_alike judge compare (a ∷ as') (b ∷ bs) position f = by (judge (a ∷ as')) (judge (b ∷ bs)) position f
  where
    by : (x y : Judged Atomic) → KeepsAlike (x >>= (λ u. y >>= (λ v. as_boolean (compare u v))))
    by (Ok u) (Ok v) at g = boolean_alike (compare u v) at g
    by (Ok u) (Err code) at g = refl
    by (Err code) y at g = refl

compared_alike : (e : Equality) (f : List Tree) (xs ys : List Item) → KeepsAlike (operated (comparison e) f xs ys)
compared_alike equality.General f xs ys = boolean_alike (some_pair (related_by relation.Equal) (atomized f xs) (atomized f ys))
compared_alike equality.Value f xs ys = both_alike single (compare_value (related_by relation.Equal)) (atomized f xs) (atomized f ys)

equal_alike : (join : Join) (frame : Frame) (position : ℕ) (f : List Tree) →
    go_on (keys_equal join frame f) (λ v. judged (keeps position v)) ≡ go_on (keys_equal join frame f) (λ v. judged (effective v))
equal_alike join frame position f = first (key_mean join.left frame f)
  where
    second : (xs : List Item) (o : Outcome (List Item)) →
        go_on (go_on (go_on o (λ ys. on_trees (λ trees. operated (comparison join.equality) trees xs ys))) (λ next. give next)) (λ v. judged (keeps position v))
        ≡ go_on (go_on (go_on o (λ ys. on_trees (λ trees. operated (comparison join.equality) trees xs ys))) (λ next. give next)) (λ v. judged (effective v))
    second xs (Ok ys, g) =
        let r = operated (comparison join.equality) g xs ys in
        ap (λ o. go_on o (λ v. judged (keeps position v))) (go_on_give (r, g))
        ∙ compared_alike join.equality g xs ys position g
        ∙ sym (ap (λ o. go_on o (λ v. judged (effective v))) (go_on_give (r, g)))
    second xs (Err code, g) = refl

    first : (o : Outcome (List Item)) →
        go_on (go_on o (λ xs. in_turn (Forms.next_operand frame) xs ((comparison join.equality, key_mean join.right) ∷ []))) (λ v. judged (keeps position v))
        ≡ go_on (go_on o (λ xs. in_turn (Forms.next_operand frame) xs ((comparison join.equality, key_mean join.right) ∷ []))) (λ v. judged (effective v))
    first (Ok xs, g) = second xs (key_mean join.right frame g)
    first (Err code, g) = refl

-- # What is kept

module _ (outer : ℕ) (known : List Held) (start p : Plan) (join : Join) (held : IsHeld known Nodes start) (outside : IsOutside outer start)
    (compares : ComparesItems (length known) join p) (slots : Slots) (focus : Option Focus) (addresses : List Text) (long : length slots ≡ outer)
    (t : Tuple Item) (fits : Fits known (slots ++ t)) where
  abbrev frame : Frame
  frame = frame_of slots focus addresses

  abbrev inside : Frame
  inside = at_tuple frame t

  abbrev passing : Focus → Doing (List Item)
  passing at = Forms.passed (plan_mean p) inside at

  abbrev equal : Item → Doing (List Item)
  equal x = if_equal join frame t x

  one_passed : (place : Place) (position last : ℕ) (f : List Tree) → passing (on_node place position last) f ≡ equal (Node place) f
  one_passed place position last f =
      let keep = λ (b : Bool). give (Forms.kept_if (Node place) b) in
      let o = keys_equal join (with_node inside place) f in
      sym (go_on_go_on (plan_mean p (at_node inside place position last) f) (λ v. judged (keeps position v)) keep)
      ∙ ap (λ o. go_on (go_on o (λ v. judged (keeps position v))) keep) (sides_compare (length known) join p compares inside (fits_length known (slots ++ t) fits) place position last f)
      ∙ ap (λ o. go_on o keep) (equal_alike join (with_node inside place) position f)
      ∙ ap (λ (env : Slots). go_on (go_on (keys_equal join (record frame { env = env }) f) (λ v. judged (effective v))) keep) (append_assoc slots t ((Node place ∷ []) ∷ []))

  all_passed : (ps : List Place) (done : List Item) (position last : ℕ) (f : List Tree) →
      in_turn (more passing) done (focuses_from position last (map Node ps)) f ≡ in_turn (more equal) done (map Node ps) f
  all_passed [] done position last f = refl
  all_passed (q ∷ ps) done position last f =
      ap (λ o. go_on (go_on o (λ ys. give (done ++ ys))) (λ n. in_turn (more passing) n (focuses_from (suc position) last (map Node ps)))) (one_passed q position last f)
      ∙ go_on_same (go_on (equal (Node q) f) (λ ys. give (done ++ ys))) (λ n. in_turn (more passing) n (focuses_from (suc position) last (map Node ps))) (λ n. in_turn (more equal) n (map Node ps))
      (λ n g. all_passed ps n (suc position) last g)

  range_carried : (f : List Tree) → plan_mean start (at_carried join frame t) f ≡ plan_mean start inside f
  range_carried f =
      ap (λ c. plan_mean start (at_tuple frame (carried c (slots ++ t))) f) compares.3
      ∙ outside.0 slots [] focus addresses f (inr (sym long))
      ∙ sym (outside.0 slots t focus addresses f (inr (sym long)))

  pub filter_same : (f : List Tree) → equal_items (plan_mean start) join frame t f ≡ plan_mean (plan.Filter start (p ∷ [])) inside f
  filter_same f =
      ap (λ o. go_on o (λ xs. collected equal xs)) (range_carried f)
      ∙ by (plan_mean start inside f) (held (slots ++ t) focus addresses f fits)
      ∙ sym (ap (λ m. m inside f) (plan_eq.plan-Filter start (p ∷ [])))
    where
      by : (o : Outcome (List Item)) → GivesHeld Nodes o → go_on o (λ xs. collected equal xs) ≡ go_on o (λ xs. in_turn (Forms.filtered inside) xs (plan_mean p ∷ []))
      by (Ok xs, g) (ps, is) =
          ap (λ ys. collected equal ys g) is
          ∙ sym (all_passed ps [] 1 (length (map Node ps)) g)
          ∙ sym (go_on_give (Forms.filtered inside (map Node ps) (plan_mean p) g))
          ∙ ap (λ ys. in_turn (Forms.filtered inside) ys (plan_mean p ∷ []) g) (sym is)
      by (Err code, g) h = refl
