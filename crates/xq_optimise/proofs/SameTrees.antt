-- Evaluations give the same where their parts do over these trees, which they leave.
use Rattle.std.proofs.Common.{◌≡◌, List, [], ◌∷◌, ◌++◌, map, Ok, Err, refl, sym, ap, ◌∙◌}
use Rattle.std.specs.Prelude.{Option, Some}
use Rattle.std.specs.List.{AllByRecursion}
use Rattle.xq_atoms.specs.Judged.{Judged}
use Rattle.xq_atoms.specs.Text.{Text}
use Rattle.xq_atoms.specs.declared.refusals.Code.TheVariants.{XPTY0019}
use Rattle.xq_trees.specs.declared.Axis.{Axis}
use Rattle.xq_trees.specs.Tree.{Tree}
use Rattle.xq_meaning.specs.declared.node_tests.Test.{Test}
use Rattle.xq_meaning.specs.Arguments.{all_nodes}
use Rattle.xq_meaning.specs.Doing.{Doing, Outcome, go_on, give, judged, on_trees, in_turn, more, collected}
use Rattle.xq_meaning.specs.Forms
use Rattle.xq_meaning.specs.Functions.{Focus}
use Rattle.xq_meaning.specs.Items.{Item, Place, Node}
use Rattle.xq_meaning.specs.Operators.{gathered, keeps}
use Rattle.xq_meaning.specs.PlanMeaning.{Slots, Meaning}
use Rattle.xq_meaning.specs.Same.{frame_of}
use Rattle.xq_meaning.specs.Steps.{axis_nodes, context_node, focuses, in_axis_order}
use Rattle.xq_meaning.proofs.SameForms.{AreRelated, related_more}
use Rattle.xq_optimise.proofs.Leaving.{Leaves, Quiet, always, collected_leaves, passed_leaves, step_quiet}

-- a value or a code over these trees
abbrev pub Stays : {A : Type 0} → List Tree → Outcome A → Type 0
Stays {A} f o = (given : Judged A) × (o ≡ (given, f))

pub then_here : {A B : Type 0} (f : List Tree) (o : Outcome A) (k l : A → Doing B) → Stays f o → ((x : A) → k x f ≡ l x f) → go_on o k ≡ go_on o l
then_here f o k l (Ok x, is) h = ap (λ r. go_on r k) is ∙ h x ∙ sym (ap (λ r. go_on r l) is)
then_here f o k l (Err code, is) h = ap (λ r. go_on r k) is ∙ sym (ap (λ r. go_on r l) is)

turns_here : {A C B : Type 0} (f : List Tree) (act : B → A → Doing B) (other : B → C → Doing B) (xs : List A) (ys : List C) →
    AreRelated (λ x y. (b : B) → (act b x f ≡ other b y f) × Stays f (other b y f)) xs ys → (b : B) → in_turn act b xs f ≡ in_turn other b ys f
turns_here f act other [] [] h b = refl
turns_here f act other [] (y ∷ ys) h b = absurd h
turns_here f act other (x ∷ xs) [] h b = absurd h
turns_here f act other (x ∷ xs) (y ∷ ys) h b =
    ap (λ o. go_on o (λ n. in_turn act n xs)) (h.0 b).0
    ∙ then_here f (other b y f) (λ n. in_turn act n xs) (λ n. in_turn other n ys) (h.0 b).1 (λ n. turns_here f act other xs ys h.1 n)

collected_here : {A B : Type 0} (f : List Tree) (act other : A → Doing (List B)) (xs : List A) →
    ((x : A) → (act x f ≡ other x f) × Stays f (other x f)) → collected act xs f ≡ collected other xs f
collected_here {A} {B} f act other xs h = turns_here f (more act) (more other) xs xs (each xs) []
  where
    one : (b : List B) (o : Outcome (List B)) → Stays f o → Stays f (go_on o (λ zs. give (b ++ zs)))
    one b o (Ok zs, is) = (Ok (b ++ zs), ap (λ r. go_on r (λ ws. give (b ++ ws))) is)
    one b o (Err code, is) = (Err code, ap (λ r. go_on r (λ ws. give (b ++ ws))) is)

    each : (ys : List A) → AreRelated (λ x y. (b : List B) → (more act b x f ≡ more other b y f) × Stays f (more other b y f)) ys ys
    each [] = tt
    each (y ∷ ys) = ((λ b. (ap (λ o. go_on o (λ zs. give (b ++ zs))) (h y).0, one b (other y f) (h y).1)), each ys)

module _ (slots others : Slots) (addresses : List Text) (f : List Tree) where
  -- a part with some slots gives what another one gives with others, which leaves the trees
  abbrev pub Alike : Meaning → Meaning → Type 0
  Alike m n = ((focus : Option Focus) → m (frame_of others focus addresses) f ≡ n (frame_of slots focus addresses) f) × Quiet n

  filtered_here : (focus : Option Focus) (m n : Meaning) → Alike m n → (xs : List Item) →
      Forms.filtered (frame_of others focus addresses) xs m f ≡ Forms.filtered (frame_of slots focus addresses) xs n f
  filtered_here focus m n h xs =
      collected_here f (Forms.passed m (frame_of others focus addresses)) (Forms.passed n (frame_of slots focus addresses)) (focuses xs)
      (λ item. (
        ap (λ o. go_on o (λ value g. go_on (judged (keeps item.position value) g) (λ keep. give (Forms.kept_if item.item keep)))) (h.0 (Some item)),
        passed_leaves n h.1 (frame_of slots focus addresses) item f,
      ))

  pub predicates_here : (focus : Option Focus) (ms ns : List Meaning) → AreRelated Alike ms ns → (xs : List Item) →
      in_turn (Forms.filtered (frame_of others focus addresses)) xs ms f ≡ in_turn (Forms.filtered (frame_of slots focus addresses)) xs ns f
  predicates_here focus ms ns h xs =
      turns_here f (Forms.filtered (frame_of others focus addresses)) (Forms.filtered (frame_of slots focus addresses)) ms ns
      (related_more Alike _ (λ m n alike ys. (
        filtered_here focus m n alike ys,
        collected_leaves (Forms.passed n (frame_of slots focus addresses)) (focuses ys)
            (always (λ item. Leaves (Forms.passed n (frame_of slots focus addresses) item)) (passed_leaves n alike.1 (frame_of slots focus addresses)) (focuses ys)) [] f,
      )) ms ns h) xs

  step_here : (axis : Axis) (test : Test) (ms ns : List Meaning) → AreRelated Alike ms ns → (focus : Option Focus) →
      Forms.step axis test ms (frame_of others focus addresses) f ≡ Forms.step axis test ns (frame_of slots focus addresses) f
  step_here axis test ms ns h focus = by (context_node focus)
    where
      from : List Meaning → Slots → Place → Doing (List Item)
      from qs env p g =
          go_on (in_turn (Forms.filtered (frame_of env focus addresses)) (map Node (in_axis_order axis (axis_nodes g axis test p))) qs g) (λ ys. give (in_axis_order axis ys))

      by : (r : Judged Place) → go_on (r, f) (from ms others) ≡ go_on (r, f) (from ns slots)
      by (Ok p) = ap (λ o. go_on o (λ ys. give (in_axis_order axis ys))) (predicates_here focus ms ns h (map Node (in_axis_order axis (axis_nodes f axis test p))))
      by (Err code) = refl

  all_quiet : (ms ns : List Meaning) → AreRelated Alike ms ns → AllByRecursion Quiet ns
  all_quiet [] [] h = tt
  all_quiet [] (n ∷ ns) h = absurd h
  all_quiet (m ∷ ms) [] h = absurd h
  all_quiet (m ∷ ms) (n ∷ ns) h = (h.0.1, all_quiet ms ns h.1)

  -- a step with these predicates after a slash
  pub slash_here : (axis : Axis) (test : Test) (ms ns : List Meaning) → AreRelated Alike ms ns → (focus : Option Focus) (xs : List Item) →
      Forms.slash (frame_of others focus addresses) xs (Forms.step axis test ms) f ≡ Forms.slash (frame_of slots focus addresses) xs (Forms.step axis test ns) f
  slash_here axis test ms ns h focus xs = by (all_nodes XPTY0019 xs)
    where
      from : List Meaning → Slots → Doing (List Item)
      from qs env g =
          go_on (collected (λ spot. Forms.step axis test qs (frame_of env (Some spot) addresses)) (focuses xs) g) (λ ys. on_trees (λ trees. gathered trees ys))

      by : (r : Judged (List Place)) → go_on (r, f) (λ places. from ms others) ≡ go_on (r, f) (λ places. from ns slots)
      by (Ok places) =
          ap (λ o. go_on o (λ ys. on_trees (λ trees. gathered trees ys)))
          (collected_here f (λ spot. Forms.step axis test ms (frame_of others (Some spot) addresses)) (λ spot. Forms.step axis test ns (frame_of slots (Some spot) addresses)) (focuses xs)
          (λ spot. (step_here axis test ms ns h (Some spot), step_quiet axis test ns (all_quiet ms ns h) (frame_of slots (Some spot) addresses) f)))
      by (Err code) = refl
