-- Forms give the same where their parts do, whatever the two environments are: for normal forms and
-- for plans.
use Rattle.std.proofs.Common.{◌≡◌, List, [], ◌∷◌, ◌++◌, refl, ap, ◌∙◌, Ok, Err, Bool, true, false, Option, Some, map, length, suc}
use Rattle.std.specs.List.{AllByRecursion}
use Rattle.xq_atoms.specs.Text.{Text}
use Rattle.xq_expressions.specs.declared.operators.AllowingEmpty.{AllowingEmpty}
use Rattle.xq_expressions.specs.declared.operators.Sign.{Sign}
use Rattle.xq_expressions.specs.declared.operators.Quantifier.{Quantifier}
use Rattle.xq_expressions.specs.declared.operators.NamedNode.{NamedNode}
use Rattle.xq_expressions.specs.declared.operators.UnnamedNode.{UnnamedNode}
use Rattle.xq_expressions.specs.declared.operators.OrderModifier.{OrderModifier}
use Rattle.xq_trees.specs.declared.Axis.{Axis}
use Rattle.xq_trees.specs.Tree.{Tree}
use Rattle.xq_trees.specs.Tuples.{Tuple, expanded, bound, satisfying, ordered}
use Rattle.xq_expressions.specs.declared.signatures.Function.{Function}
use Rattle.xq_meaning.specs.declared.node_tests.Test.{Test}
use Rattle.xq_meaning.specs.declared.operators.Operator.{Operator}
use Rattle.xq_atoms.specs.declared.refusals.Code.TheVariants.{XPTY0019}
use Rattle.xq_meaning.specs.Items.{Item, Node, Atom, atomized}
use Rattle.xq_meaning.specs.Arguments.{boolean, effective, all_nodes}
use Rattle.xq_meaning.specs.Functions.{Focus, called}
use Rattle.xq_meaning.specs.Operators.{operated, signed, gathered, keeps}
use Rattle.xq_meaning.specs.Steps.{focuses, context_node, axis_nodes, in_axis_order}
use Rattle.xq_meaning.specs.Doing.{Doing, Outcome, go_on, give, judged, on_trees, in_turn, more, one_more, for_each, collected, first_that, unless_found}
use Rattle.xq_meaning.specs.Forms
use Rattle.xq_meaning.specs.Same.{frame_of}

abbrev pub AreRelated : {A B : Type 0} → (A → B → Type 0) → List A → List B → Type 0
AreRelated R [] [] = Unit {0}
AreRelated R (x ∷ xs) (y ∷ ys) = R x y × AreRelated R xs ys
AreRelated R xs ys = ⊥

pub related_more : {A B : Type 0} (R S : A → B → Type 0) → ((x : A) (y : B) → R x y → S x y) →
    (xs : List A) (ys : List B) → AreRelated R xs ys → AreRelated S xs ys
related_more R S up [] [] h = tt
related_more R S up [] (y ∷ ys) h = h
related_more R S up (x ∷ xs) [] h = h
related_more R S up (x ∷ xs) (y ∷ ys) h = (up x y h.0, related_more R S up xs ys h.1)

-- # Evaluation

pub go_on_same : {A B : Type 0} (o : Outcome A) (k k' : A → Doing B) →
    ((x : A) (f : List Tree) → k x f ≡ k' x f) → go_on o k ≡ go_on o k'
go_on_same (Ok x, f) k k' h = h x f
go_on_same (Err code, f) k k' h = refl

-- the same first, and then the same
pub then_same : {A B : Type 0} (o o' : Outcome A) (k k' : A → Doing B) → o ≡ o' →
    ((x : A) (f : List Tree) → k x f ≡ k' x f) → go_on o k ≡ go_on o' k'
then_same o o' k k' e h = ap (λ p. go_on p k) e ∙ go_on_same o' k k' h

pub in_turn_same : {A A' B : Type 0} (act : B → A → Doing B) (act' : B → A' → Doing B) (xs :
    List A) (ys : List A') →
    AreRelated (λ x y. (b : B) (f : List Tree) → act b x f ≡ act' b y f) xs ys → (b : B) (f :
    List Tree) → in_turn act b xs f ≡ in_turn act' b ys f
in_turn_same act act' [] [] h b f = refl
in_turn_same act act' [] (y ∷ ys) h b f = absurd h
in_turn_same act act' (x ∷ xs) [] h b f = absurd h
in_turn_same act act' (x ∷ xs) (y ∷ ys) h b f =
    then_same (act b x f) (act' b y f) _ _ (h.0 b f) (λ n g. in_turn_same act act' xs ys h.1 n g)

pub for_each_same : {A A' B : Type 0} (act : A → Doing B) (act' : A' → Doing B) (xs : List A)
    (ys : List A') →
    AreRelated (λ x y. (f : List Tree) → act x f ≡ act' y f) xs ys → (f : List Tree) → for_each
    act xs f ≡ for_each act' ys f
for_each_same act act' xs ys h f =
    in_turn_same (one_more act) (one_more act') xs ys
    (related_more _ _ (λ x y same b g. ap (λ o. go_on o (λ z. give (b ++ z ∷ []))) (same g)) xs
    ys h) [] f

pub collected_same : {A A' B : Type 0} (act : A → Doing (List B)) (act' : A' → Doing (List B))
    (xs : List A) (ys : List A') →
    AreRelated (λ x y. (f : List Tree) → act x f ≡ act' y f) xs ys → (f : List Tree) → collected
    act xs f ≡ collected act' ys f
collected_same act act' xs ys h f =
    in_turn_same (more act) (more act') xs ys
    (related_more _ _ (λ x y same b g. ap (λ o. go_on o (λ z. give (b ++ z))) (same g)) xs ys h)
    [] f

unless_same : (wanted answer : Bool) (k k' : Doing Bool) → ((f : List Tree) → k f ≡ k' f) →
    (f : List Tree) → unless_found wanted answer k f ≡ unless_found wanted answer k' f
unless_same true true k k' h f = refl
unless_same true false k k' h f = h f
unless_same false true k k' h f = h f
unless_same false false k k' h f = refl

pub first_that_same : {A A' : Type 0} (wanted : Bool) (act : A → Doing Bool) (act' : A' → Doing
    Bool) (xs : List A) (ys : List A') →
    AreRelated (λ x y. (f : List Tree) → act x f ≡ act' y f) xs ys → (f : List Tree) →
    first_that wanted act xs f ≡ first_that wanted act' ys f
first_that_same wanted act act' [] [] h f = refl
first_that_same wanted act act' [] (y ∷ ys) h f = absurd h
first_that_same wanted act act' (x ∷ xs) [] h f = absurd h
first_that_same wanted act act' (x ∷ xs) (y ∷ ys) h f =
    then_same (act x f) (act' y f) _ _ (h.0 f) (λ answer g. unless_same wanted answer _ _ (λ g'.
    first_that_same wanted act act' xs ys h.1 g') g)

-- the same act on each
pub each_value_same : {A B : Type 0} (act act' : A → Doing B) →
    ((x : A) (f : List Tree) → act x f ≡ act' x f) → (xs : List A) → AreRelated (λ (x y : A). (f
    : List Tree) → act x f ≡ act' y f) xs xs
each_value_same act act' h [] = tt
each_value_same act act' h (x ∷ xs) = ((λ f. h x f), each_value_same act act' h xs)

module _ {E F : Type 0} (addresses : List Text) (env : E) (env' : F) where
  abbrev pub here : Option Focus → Forms.Frame E
  here focus = frame_of env focus addresses

  abbrev pub there : Option Focus → Forms.Frame F
  there focus = frame_of env' focus addresses

  -- a part in one environment and a part in the other, whatever the focus is
  abbrev pub Same : Forms.Meaning E → Forms.Meaning F → Type 0
  Same m p = (focus : Option Focus) (f : List Tree) → m (here focus) f ≡ p (there focus) f

  abbrev pub AllSame : List (Forms.Meaning E) → List (Forms.Meaning F) → Type 0
  AllSame ms ps = AreRelated Same ms ps

  at_focus : (ms : List (Forms.Meaning E)) (ps : List (Forms.Meaning F)) (focus : Option Focus) →
      AllSame ms ps → AreRelated (λ m p. (f : List Tree) → m (here focus) f ≡ p (there focus) f)
      ms ps
  at_focus ms ps focus h = related_more Same _ (λ m p same f. same focus f) ms ps h

  pub atoms_same : (m : Forms.Meaning E) (p : Forms.Meaning F) → Same m p →
      (focus : Option Focus) (f : List Tree) → Forms.atoms_of m (here focus) f ≡ Forms.atoms_of
      p (there focus) f
  atoms_same m p h focus f =
      ap (λ o. go_on o (λ xs. on_trees (λ trees. Ok (atomized trees xs)))) (h focus f)

  pub tested_same : (m : Forms.Meaning E) (p : Forms.Meaning F) → Same m p →
      (focus : Option Focus) (f : List Tree) → Forms.tested m (here focus) f ≡ Forms.tested p
      (there focus) f
  tested_same m p h focus f = ap (λ o. go_on o (λ xs. judged (effective xs))) (h focus f)

  pub call_same : (function : Function) (ms : List (Forms.Meaning E)) (ps : List (Forms.Meaning
      F)) →
      AllSame ms ps → Same (Forms.call function ms) (Forms.call function ps)
  call_same function ms ps h focus f =
      ap (λ o. go_on o (λ values. on_trees (λ trees. called function trees addresses focus values)))
      (for_each_same (λ (m : Forms.Meaning E). m (here focus)) (λ (p : Forms.Meaning F). p
      (there focus)) ms ps (at_focus ms ps focus h) f)

  -- a call after an arrow: the same function, and the same arguments
  abbrev pub SameCall : Function × List (Forms.Meaning E) → Function × List (Forms.Meaning F) →
      Type 0
  SameCall x y = (x.0 ≡ y.0) × AllSame x.1 y.1

  next_call_same : (focus : Option Focus) (x : Function × List (Forms.Meaning E)) (y : Function ×
      List (Forms.Meaning F)) →
      SameCall x y → (xs : List Item) (f : List Tree) → Forms.next_call (here focus) xs x f
      ≡ Forms.next_call (there focus) xs y f
  next_call_same focus x y same xs f =
      ap (λ o. go_on o (λ values. on_trees (λ trees. called x.0 trees addresses focus (xs ∷
      values))))
      (for_each_same (λ (m : Forms.Meaning E). m (here focus)) (λ (p : Forms.Meaning F). p
      (there focus)) x.1 y.1 (at_focus x.1 y.1 focus same.1) f)
      ∙ ap (λ function. go_on (for_each (λ (p : Forms.Meaning F). p (there focus)) y.1 f) (λ values.
      on_trees (λ trees. called function trees addresses focus (xs ∷ values)))) same.0

  pub arrow_same : (m : Forms.Meaning E) (p : Forms.Meaning F) (cs : List (Function × List
      (Forms.Meaning E))) (ds : List (Function × List (Forms.Meaning F))) →
      Same m p → AreRelated SameCall cs ds → Same (Forms.arrow m cs) (Forms.arrow p ds)
  arrow_same m p cs ds first h focus f =
      then_same (m (here focus) f) (p (there focus) f) _ _ (first focus f)
      (λ xs g. in_turn_same (Forms.next_call (here focus)) (Forms.next_call (there focus)) cs ds
      (related_more SameCall _ (next_call_same focus) cs ds h) xs g)

  pub sequence_same : (ms : List (Forms.Meaning E)) (ps : List (Forms.Meaning F)) → AllSame ms ps →
      Same (Forms.sequence ms) (Forms.sequence ps)
  sequence_same ms ps h focus f =
      collected_same (λ (m : Forms.Meaning E). m (here focus)) (λ (p : Forms.Meaning F). p
      (there focus)) ms ps (at_focus ms ps focus h) f

  -- an operator and its right operand
  abbrev pub SameOperand : Operator × Forms.Meaning E → Operator × Forms.Meaning F → Type 0
  SameOperand x y = (x.0 ≡ y.0) × Same x.1 y.1

  operand_same : (focus : Option Focus) (x : Operator × Forms.Meaning E) (y : Operator ×
      Forms.Meaning F) →
      SameOperand x y → (xs : List Item) (f : List Tree) → Forms.next_operand (here focus) xs x
      f ≡ Forms.next_operand (there focus) xs y f
  operand_same focus x y same xs f =
      ap (λ o. go_on o (λ ys. on_trees (λ trees. operated x.0 trees xs ys))) (same.1 focus f)
      ∙ ap (λ op. go_on (y.1 (there focus) f) (λ ys. on_trees (λ trees. operated op trees xs
      ys))) same.0

  pub chain_same : (m : Forms.Meaning E) (p : Forms.Meaning F) (ms : List (Operator ×
      Forms.Meaning E)) (ps : List (Operator × Forms.Meaning F)) →
      Same m p → AreRelated SameOperand ms ps → Same (Forms.chain m ms) (Forms.chain p ps)
  chain_same m p ms ps first h focus f =
      then_same (m (here focus) f) (p (there focus) f) _ _ (first focus f)
      (λ xs g. in_turn_same (Forms.next_operand (here focus)) (Forms.next_operand (there focus))
      ms ps (related_more SameOperand _ (operand_same focus) ms ps h) xs g)

  pub unary_same : (signs : List Sign) (m : Forms.Meaning E) (p : Forms.Meaning F) → Same m p →
      Same (Forms.unary signs m) (Forms.unary signs p)
  unary_same signs m p h focus f =
      ap (λ o. go_on o (λ values. judged (signed signs values))) (atoms_same m p h focus f)

  tests_same : (wanted : Bool) (ms : List (Forms.Meaning E)) (ps : List (Forms.Meaning F)) →
      AllSame ms ps → (focus : Option Focus) (f : List Tree) → first_that wanted (λ m.
      Forms.tested m (here focus)) ms f ≡ first_that wanted (λ p. Forms.tested p (there
      focus)) ps f
  tests_same wanted ms ps h focus f =
      first_that_same wanted _ _ ms ps (related_more Same _ (λ m p same g. tested_same m p same
      focus g) ms ps h) f

  pub or_same : (ms : List (Forms.Meaning E)) (ps : List (Forms.Meaning F)) → AllSame ms ps →
      Same (Forms.or ms) (Forms.or ps)
  or_same ms ps h focus f =
      ap (λ o. go_on o (λ answer. give (boolean answer))) (tests_same true ms ps h focus f)

  pub and_same : (ms : List (Forms.Meaning E)) (ps : List (Forms.Meaning F)) → AllSame ms ps →
      Same (Forms.and ms) (Forms.and ps)
  and_same ms ps h focus f =
      ap (λ o. go_on o (λ answer. give (boolean answer))) (tests_same false ms ps h focus f)

  chosen_same : (b : Bool) (m n : Forms.Meaning E) (p q : Forms.Meaning F) → Same m p → Same n q →
      Same (Forms.chosen b m n) (Forms.chosen b p q)
  chosen_same true m n p q h k focus f = h focus f
  chosen_same false m n p q h k focus f = k focus f

  pub conditional_same : (t m n : Forms.Meaning E) (u p q : Forms.Meaning F) → Same t u → Same m p →
      Same n q → Same (Forms.conditional t m n) (Forms.conditional u p q)
  conditional_same t m n u p q g h k focus f =
      then_same (Forms.tested t (here focus) f) (Forms.tested u (there focus) f) _ _
      (tested_same t u g focus f) (λ b g'. chosen_same b m n p q h k focus g')

  -- # Predicates, steps and paths

  passed_same : (m : Forms.Meaning E) (p : Forms.Meaning F) → Same m p →
      (focus : Option Focus) (item : Focus) (f : List Tree) → Forms.passed m (here focus) item f
      ≡ Forms.passed p (there focus) item f
  passed_same m p h focus item f =
      ap (λ o. go_on o (λ value. go_on_keep item value)) (h (Some item) f)
    where
      go_on_keep : Focus → List Item → Doing (List Item)
      go_on_keep x value =
          λ g. go_on (judged (keeps x.position value) g) (λ keep. give (Forms.kept_if x.item keep))

  pub filtered_same : (focus : Option Focus) (m : Forms.Meaning E) (p : Forms.Meaning F) →
      Same m p → (xs : List Item) (f : List Tree) → Forms.filtered (here focus) xs m f ≡
      Forms.filtered (there focus) xs p f
  filtered_same focus m p h xs f =
      collected_same (Forms.passed m (here focus)) (Forms.passed p (there focus)) (focuses xs)
      (focuses xs) (each_value_same (Forms.passed m (here focus)) (Forms.passed p (there
      focus)) (λ item g. passed_same m p h focus item g) (focuses xs)) f

  predicates_same : (focus : Option Focus) (ms : List (Forms.Meaning E)) (ps : List
      (Forms.Meaning F)) →
      AllSame ms ps → (xs : List Item) (f : List Tree) → in_turn (Forms.filtered (here focus))
      xs ms f ≡ in_turn (Forms.filtered (there focus)) xs ps f
  predicates_same focus ms ps h xs f =
      in_turn_same (Forms.filtered (here focus)) (Forms.filtered (there focus)) ms ps
      (related_more Same _ (λ m p same ys g. filtered_same focus m p same ys g) ms ps h) xs
      f

  pub filter_same : (m : Forms.Meaning E) (p : Forms.Meaning F) (ms : List (Forms.Meaning E))
      (ps : List (Forms.Meaning F)) →
      Same m p → AllSame ms ps → Same (Forms.filter_of m ms) (Forms.filter_of p ps)
  filter_same m p ms ps first h focus f =
      then_same (m (here focus) f) (p (there focus) f) _ _ (first focus f) (λ xs g.
      predicates_same focus ms ps h xs g)

  pub slash_same : (focus : Option Focus) (m : Forms.Meaning E) (p : Forms.Meaning F) → Same m p →
      (xs : List Item) (f : List Tree) → Forms.slash (here focus) xs m f ≡ Forms.slash (there
      focus) xs p f
  slash_same focus m p h xs f =
      go_on_same (judged (all_nodes XPTY0019 xs) f) _ _ (λ places g.
      ap (λ o. go_on o (λ ys. on_trees (λ trees. gathered trees ys)))
      (collected_same (λ item. m (Forms.in_focus (here focus) item)) (λ item. p (Forms.in_focus
      (there focus) item)) (focuses xs) (focuses xs) (each_value_same (λ item. m
      (Forms.in_focus (here focus) item)) (λ item. p (Forms.in_focus (there focus) item)) (λ
      item g'. h (Some item) g') (focuses xs)) g))

  pub path_same : (m : Forms.Meaning E) (p : Forms.Meaning F) (ms : List (Forms.Meaning E)) (ps
      : List (Forms.Meaning F)) →
      Same m p → AllSame ms ps → Same (Forms.path m ms) (Forms.path p ps)
  path_same m p ms ps first h focus f =
      then_same (m (here focus) f) (p (there focus) f) _ _ (first focus f)
      (λ xs g. in_turn_same (Forms.slash (here focus)) (Forms.slash (there focus)) ms ps
      (related_more Same _ (λ n q same ys g'. slash_same focus n q same ys g') ms ps h) xs
      g)

  bang_same : (focus : Option Focus) (m : Forms.Meaning E) (p : Forms.Meaning F) → Same m p →
      (xs : List Item) (f : List Tree) → Forms.bang (here focus) xs m f ≡ Forms.bang (there
      focus) xs p f
  bang_same focus m p h xs f =
      collected_same (λ item. m (Forms.in_focus (here focus) item)) (λ item. p (Forms.in_focus
      (there focus) item)) (focuses xs) (focuses xs) (each_value_same (λ item. m
      (Forms.in_focus (here focus) item)) (λ item. p (Forms.in_focus (there focus) item)) (λ
      item g. h (Some item) g) (focuses xs)) f

  pub map_same : (m : Forms.Meaning E) (p : Forms.Meaning F) (ms : List (Forms.Meaning E)) (ps :
      List (Forms.Meaning F)) →
      Same m p → AllSame ms ps → Same (Forms.simple_map m ms) (Forms.simple_map p ps)
  map_same m p ms ps first h focus f =
      then_same (m (here focus) f) (p (there focus) f) _ _ (first focus f)
      (λ xs g. in_turn_same (Forms.bang (here focus)) (Forms.bang (there focus)) ms ps
      (related_more Same _ (λ n q same ys g'. bang_same focus n q same ys g') ms ps h) xs g)

  pub step_same : (axis : Axis) (test : Test) (ms : List (Forms.Meaning E)) (ps : List
      (Forms.Meaning F)) →
      AllSame ms ps → Same (Forms.step axis test ms) (Forms.step axis test ps)
  step_same axis test ms ps h focus f =
      go_on_same (judged (context_node focus) f) _ _ (λ p g.
      go_on_same (on_trees (λ trees. Ok (map Node (in_axis_order axis (axis_nodes trees axis
      test p)))) g) _ _ (λ xs g'.
      ap (λ o. go_on o (λ ys. give (in_axis_order axis ys))) (predicates_same focus ms ps h xs g')))

  -- # Constructors

  pub named_node_same : (kind : NamedNode) (m n : Forms.Meaning E) (p q : Forms.Meaning F) →
      Same m p → Same n q → Same (Forms.named_node kind m n) (Forms.named_node kind p q)
  named_node_same kind m n p q h k focus f =
      then_same _ _ _ _ (atoms_same m p h focus f) (λ values g. go_on_same (judged _ g) _ _ (λ
      good g'. then_same _ _ _ _ (k focus g') (λ xs g''. refl)))

  pub unnamed_node_same : (kind : UnnamedNode) (m : Forms.Meaning E) (p : Forms.Meaning F) →
      Same m p → Same (Forms.unnamed_node kind m) (Forms.unnamed_node kind p)
  unnamed_node_same kind m p h focus f = then_same _ _ _ _ (h focus f) (λ xs g. refl)

-- # Quantified expressions: the later parts in the environments with the earlier variables

module _ {E F : Type 0} (addresses : List Text) (m : Forms.Meaning E) (p : Forms.Meaning F) where
  abbrev pub SameBindings : List (Forms.Binding E) → List (Forms.Binding F) → E → F → Type 0
  SameBindings [] [] e e' = Same addresses e e' m p
  SameBindings (b ∷ bs) (c ∷ cs) e e' =
      Same addresses e e' b.1 c.1 × ((xs : List Item) → SameBindings bs cs (b.0 e xs) (c.0 e' xs))
  SameBindings bs cs e e' = ⊥

  pub satisfied_same : (wanted : Bool) (bs : List (Forms.Binding E)) (cs : List (Forms.Binding
      F)) (e : E) (e' : F) →
      SameBindings bs cs e e' → (focus : Option Focus) (f : List Tree) → Forms.satisfied wanted
      bs m (frame_of e focus addresses) f ≡ Forms.satisfied wanted cs p (frame_of e' focus
      addresses) f
  satisfied_same wanted [] [] e e' h focus f = tested_same addresses e e' m p h focus f
  satisfied_same wanted [] (c ∷ cs) e e' h focus f = absurd h
  satisfied_same wanted (b ∷ bs) [] e e' h focus f = absurd h
  satisfied_same wanted (b ∷ bs) (c ∷ cs) e e' h focus f =
      then_same (b.1 (frame_of e focus addresses) f) (c.1 (frame_of e' focus addresses) f) _ _
      (h.0 focus f)
      (λ xs g. first_that_same wanted _ _ xs xs
      (each_value_same (λ x. Forms.satisfied wanted bs m (frame_of (b.0 e (x ∷ [])) focus
      addresses)) (λ x. Forms.satisfied wanted cs p (frame_of (c.0 e' (x ∷ [])) focus
      addresses))
      (λ x g'. satisfied_same wanted bs cs (b.0 e (x ∷ [])) (c.0 e' (x ∷ [])) (h.1 (x ∷ []))
      focus g') xs) g)

  pub quantified_same : (which : Quantifier) (bs : List (Forms.Binding E)) (cs : List
      (Forms.Binding F)) (e : E) (e' : F) →
      SameBindings bs cs e e' → Same addresses e e' (Forms.quantified which bs m)
      (Forms.quantified which cs p)
  quantified_same which bs cs e e' h focus f =
      ap (λ o. go_on o (λ answer. give (boolean answer))) (satisfied_same (Forms.deciding which)
      bs cs e e' h focus f)

-- # Clauses, over the tuples at which the parts are the same

module _ {E F : Type 0} (frame_at : Tuple Item → Forms.Frame E) (frame_at' : Tuple Item →
    Forms.Frame F) where
  abbrev pub SameAt : Forms.Meaning E → Forms.Meaning F → Tuple Item → Type 0
  SameAt m p t = (f : List Tree) → m (frame_at t) f ≡ p (frame_at' t) f

  values_same : (m : Forms.Meaning E) (p : Forms.Meaning F) (tuples : List (Tuple Item)) →
      AllByRecursion (SameAt m p) tuples → AreRelated (λ (t u : Tuple Item). (f : List Tree) → m
      (frame_at t) f ≡ p (frame_at' u) f) tuples tuples
  values_same m p [] h = tt
  values_same m p (t ∷ ts) h = (h.0, values_same m p ts h.1)

  pub for_tuples_same : (empties : AllowingEmpty) (at : Bool) (m : Forms.Meaning E) (p :
      Forms.Meaning F) (tuples : List (Tuple Item)) →
      AllByRecursion (SameAt m p) tuples → (f : List Tree) → Forms.for_tuples empties at m
      frame_at tuples f ≡ Forms.for_tuples empties at p frame_at' tuples f
  for_tuples_same empties at m p tuples h f =
      ap (λ o. go_on o (λ lists. give (expanded Atom (Forms.allows empties) at tuples lists)))
      (for_each_same (λ t. m (frame_at t)) (λ t. p (frame_at' t)) tuples tuples (values_same m p
      tuples h) f)

  pub let_tuples_same : (m : Forms.Meaning E) (p : Forms.Meaning F) (tuples : List (Tuple Item)) →
      AllByRecursion (SameAt m p) tuples → (f : List Tree) → Forms.let_tuples m frame_at tuples
      f ≡ Forms.let_tuples p frame_at' tuples f
  let_tuples_same m p tuples h f =
      ap (λ o. go_on o (λ lists. give (bound tuples lists)))
      (for_each_same (λ t. m (frame_at t)) (λ t. p (frame_at' t)) tuples tuples (values_same m p
      tuples h) f)

  conditions_same : (m : Forms.Meaning E) (p : Forms.Meaning F) (tuples : List (Tuple Item)) →
      AllByRecursion (SameAt m p) tuples → AreRelated (λ (t u : Tuple Item). (f : List Tree) →
      Forms.tested m (frame_at t) f ≡ Forms.tested p (frame_at' u) f) tuples tuples
  conditions_same m p [] h = tt
  conditions_same m p (t ∷ ts) h =
      ((λ f. ap (λ o. go_on o (λ xs. judged (effective xs))) (h.0 f)), conditions_same m p ts h.1)

  pub where_tuples_same : (m : Forms.Meaning E) (p : Forms.Meaning F) (tuples : List (Tuple Item)) →
      AllByRecursion (SameAt m p) tuples → (f : List Tree) → Forms.where_tuples m frame_at
      tuples f ≡ Forms.where_tuples p frame_at' tuples f
  where_tuples_same m p tuples h f =
      ap (λ o. go_on o (λ tests. give (satisfying tuples tests)))
      (for_each_same (λ t. Forms.tested m (frame_at t)) (λ t. Forms.tested p (frame_at' t))
      tuples tuples (conditions_same m p tuples h) f)

  pub return_same : (m : Forms.Meaning E) (p : Forms.Meaning F) (tuples : List (Tuple Item)) →
      AllByRecursion (SameAt m p) tuples → (f : List Tree) → Forms.return_of m frame_at tuples f
      ≡ Forms.return_of p frame_at' tuples f
  return_same m p tuples h f =
      collected_same (λ t. m (frame_at t)) (λ t. p (frame_at' t)) tuples tuples (values_same m p
      tuples h) f

  -- # Order: the keys at each tuple, and the modifiers

  abbrev pub SameKey : Tuple Item → Forms.Meaning E × OrderModifier →
      Forms.Meaning F × OrderModifier → Type 0
  SameKey t x y = SameAt x.0 y.0 t

  abbrev pub SameModifier : Forms.Meaning E × OrderModifier → Forms.Meaning F × OrderModifier →
      Type 0
  SameModifier x y = x.1 ≡ y.1

  rules_same : (xs : List (Forms.Meaning E × OrderModifier)) (ys : List (Forms.Meaning F ×
      OrderModifier)) →
      AreRelated SameModifier xs ys → Forms.rules_of xs ≡ Forms.rules_of ys
  rules_same [] [] h = refl
  rules_same [] (y ∷ ys) h = absurd h
  rules_same (x ∷ xs) [] h = absurd h
  rules_same (x ∷ xs) (y ∷ ys) h =
      ap (λ modifier. Forms.rule_of modifier ∷ Forms.rules_of xs) h.0 ∙ ap (λ rules.
      Forms.rule_of y.1 ∷ rules) (rules_same xs ys h.1)

  lengths_same : (xs : List (Forms.Meaning E × OrderModifier)) (ys : List (Forms.Meaning F ×
      OrderModifier)) →
      AreRelated SameModifier xs ys → length xs ≡ length ys
  lengths_same [] [] h = refl
  lengths_same [] (y ∷ ys) h = absurd h
  lengths_same (x ∷ xs) [] h = absurd h
  lengths_same (x ∷ xs) (y ∷ ys) h = ap suc (lengths_same xs ys h.1)

  keys_same : (xs : List (Forms.Meaning E × OrderModifier)) (ys : List (Forms.Meaning F ×
      OrderModifier)) (t : Tuple Item) →
      AreRelated (SameKey t) xs ys → (f : List Tree) → for_each (λ (x : Forms.Meaning E ×
      OrderModifier). Forms.atoms_of x.0 (frame_at t)) xs f ≡ for_each (λ (y : Forms.Meaning
      F × OrderModifier). Forms.atoms_of y.0 (frame_at' t)) ys f
  keys_same xs ys t h f =
      for_each_same (λ (x : Forms.Meaning E × OrderModifier). Forms.atoms_of x.0 (frame_at t))
      (λ (y : Forms.Meaning F × OrderModifier). Forms.atoms_of y.0 (frame_at' t)) xs ys
      (related_more (SameKey t) _ (λ x y same g. ap (λ o. go_on o (λ zs. on_trees (λ trees. Ok
      (atomized trees zs)))) (same g)) xs ys h) f

  all_keys_same : (xs : List (Forms.Meaning E × OrderModifier)) (ys : List (Forms.Meaning F ×
      OrderModifier)) (tuples : List (Tuple Item)) →
      AllByRecursion (λ t. AreRelated (SameKey t) xs ys) tuples
      → AreRelated (λ (t u : Tuple Item). (f : List Tree) → for_each (λ (x : Forms.Meaning E ×
      OrderModifier). Forms.atoms_of x.0 (frame_at t)) xs f ≡ for_each (λ (y : Forms.Meaning
      F × OrderModifier). Forms.atoms_of y.0 (frame_at' u)) ys f) tuples tuples
  all_keys_same xs ys [] h = tt
  all_keys_same xs ys (t ∷ ts) h = (keys_same xs ys t h.0, all_keys_same xs ys ts h.1)

  pub order_tuples_same : (xs : List (Forms.Meaning E × OrderModifier)) (ys : List
      (Forms.Meaning F × OrderModifier)) (tuples : List (Tuple Item)) →
      AreRelated SameModifier xs ys → AllByRecursion (λ t. AreRelated (SameKey t) xs ys) tuples
      → (f : List Tree) → Forms.order_tuples xs frame_at tuples f ≡ Forms.order_tuples ys
      frame_at' tuples f
  order_tuples_same xs ys tuples modifiers h f =
      then_same _ _ (λ keys. judged (ordered (Forms.rules_of xs) tuples (Forms.key_columns
      (length xs) keys))) (λ keys. judged (ordered (Forms.rules_of ys) tuples
      (Forms.key_columns (length ys) keys)))
      (for_each_same (λ t. for_each (λ (x : Forms.Meaning E × OrderModifier). Forms.atoms_of x.0
      (frame_at t)) xs) (λ t. for_each (λ (y : Forms.Meaning F × OrderModifier).
      Forms.atoms_of y.0 (frame_at' t)) ys) tuples tuples (all_keys_same xs ys tuples h) f)
      (λ keys g. ap (λ rules. judged (ordered rules tuples (Forms.key_columns (length xs) keys))
      g) (rules_same xs ys modifiers)
      ∙ ap (λ n. judged (ordered (Forms.rules_of ys) tuples (Forms.key_columns n keys)) g)
      (lengths_same xs ys modifiers))
