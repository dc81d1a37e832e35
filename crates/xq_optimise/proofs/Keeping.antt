-- What predicates keep of nodes, one after another.
use Rattle.std.proofs.Common.{◌≡◌, ℕ, suc, List, [], ◌∷◌, ◌++◌, map, length, Bool, true, false, Ok, refl, sym, ap, ◌∙◌, ◌⊎◌, inl, inr}
use Rattle.std.specs.Prelude.{Option, Some, ◌&&◌}
use Rattle.std.proofs.lemmas.Bool.{false≢true}
use Rattle.std.proofs.lemmas.List.{append_assoc, append-nil, map-append}
use Rattle.xq_atoms.specs.Text.{Text}
use Rattle.xq_trees.specs.Tree.{Tree}
use Rattle.xq_meaning.specs.declared.plans.Plan.{Plan}
use Rattle.xq_meaning.specs.declared.plans.Plan.TheVariants as plan
use Rattle.xq_meaning.specs.Arguments.{boolean, effective}
use Rattle.xq_meaning.specs.Doing.{Doing, go_on, give, judged, in_turn, more, first_that, unless_found}
use Rattle.xq_meaning.specs.Forms
use Rattle.xq_meaning.specs.Functions.{Focus}
use Rattle.xq_meaning.specs.Items.{Item, Node, Place}
use Rattle.xq_meaning.specs.Operators.{keeps}
use Rattle.xq_meaning.specs.PlanMeaning.{Slots, Frame, Meaning, plan_mean}
use Rattle.xq_meaning.specs.Same.{frame_of}
use Rattle.xq_meaning.specs.Steps.{focuses_from}
use Rattle.xq_meaning.proofs.PlanEquations as plan_eq
use Rattle.xq_meaning.proofs.SameForms.{go_on_same}
use Rattle.xq_meaning.proofs.Turns.{go_on_go_on}
use Rattle.xq_optimise.specs.Sure.{on_node, KeepsBy}
use Rattle.xq_optimise.specs.private.Conjuncts.{put, kept_from, AllHold, KeepTrue}

-- # Nodes that are kept

-- the same where the truth is
pub kept_alike : (t u : Place → ℕ → Bool) → ((p : Place) (i : ℕ) → t p i ≡ u p i) → (i : ℕ) (ps : List Place) →
    kept_from t i ps ≡ kept_from u i ps
kept_alike t u h i [] = refl
kept_alike t u h i (p ∷ ps) = λ j. put (h p i j) p (kept_alike t u h (suc i) ps j)

pub all_kept : (i : ℕ) (ps : List Place) → kept_from (λ p j. true) i ps ≡ ps
all_kept i [] = refl
all_kept i (p ∷ ps) = ap (λ l. p ∷ l) (all_kept (suc i) ps)

-- a test that asks no position may come after another
free_next : (a : Bool) (u : Place → Bool) (p : Place) (all rest : List Place) →
    ((j : ℕ) → all ≡ kept_from (λ q i. u q) j rest) → (j : ℕ) →
    put (a && u p) p all ≡ kept_from (λ q i. u q) j (put a p rest)
free_next true u p all rest h j = ap (put (u p) p) (h (suc j))
free_next false u p all rest h j = h j

pub free_after : (t : Place → ℕ → Bool) (u : Place → Bool) (i : ℕ) (ps : List Place) (j : ℕ) →
    kept_from (λ p k. t p k && u p) i ps ≡ kept_from (λ p k. u p) j (kept_from t i ps)
free_after t u i [] j = refl
free_after t u i (p ∷ ps) j =
    free_next (t p i) u p (kept_from (λ q k. t q k && u q) (suc i) ps) (kept_from t (suc i) ps) (free_after t u (suc i) ps) j

-- # Those that keep the first

pub either : (b : Bool) → (b ≡ true) ⊎ (b ≡ false)
either true = inl refl
either false = inr refl

module _ (e : ℕ → Bool) (closed : (i : ℕ) → e (suc i) ≡ true → e i ≡ true) where
  pub later : (i : ℕ) → e i ≡ false → e (suc i) ≡ false
  later i off = by_case (either (e (suc i)))
    where
      by_case : (e (suc i) ≡ true) ⊎ (e (suc i) ≡ false) → e (suc i) ≡ false
      by_case (inl on') = absurd (false≢true (sym off ∙ closed i on'))
      by_case (inr off') = off'

  none_kept : (u : Place → ℕ → Bool) (i : ℕ) (ps : List Place) → e i ≡ false → kept_from (λ p k. e k && u p k) i ps ≡ []
  none_kept u i [] off = refl
  none_kept u i (p ∷ ps) off =
      ap (λ b. put (b && u p i) p (kept_from (λ q k. e k && u q k) (suc i) ps)) off ∙ none_kept u (suc i) ps (later i off)

  none_early : (i : ℕ) (ps : List Place) → e i ≡ false → kept_from (λ p k. e k) i ps ≡ []
  none_early i [] off = refl
  none_early i (p ∷ ps) off =
      ap (λ b. put b p (kept_from (λ q k. e k) (suc i) ps)) off ∙ none_early (suc i) ps (later i off)

  pub first_before : (u : Place → ℕ → Bool) (i : ℕ) (ps : List Place) →
      kept_from (λ p k. e k && u p k) i ps ≡ kept_from u i (kept_from (λ p k. e k) i ps)
  first_before u i [] = refl
  first_before u i (p ∷ ps) = by_case (first_before u (suc i) ps) (either (e i))
    where
      by_case : kept_from (λ q k. e k && u q k) (suc i) ps ≡ kept_from u (suc i) (kept_from (λ q k. e k) (suc i) ps) →
          (e i ≡ true) ⊎ (e i ≡ false) →
          kept_from (λ q k. e k && u q k) i (p ∷ ps) ≡ kept_from u i (kept_from (λ q k. e k) i (p ∷ ps))
      by_case rest (inl on') =
          ap (λ b. put (b && u p i) p (kept_from (λ q k. e k && u q k) (suc i) ps)) on'
          ∙ ap (put (u p i) p) rest
          ∙ ap (λ b. kept_from u i (put b p (kept_from (λ q k. e k) (suc i) ps))) (sym on')
      by_case rest (inr off') =
          none_kept u i (p ∷ ps) off' ∙ ap (kept_from u i) (sym (none_early i (p ∷ ps) off'))

-- # A predicate

module _ (slots : Slots) (addresses : List Text) (f : List Tree) where
  module _ (focus : Option Focus) where
    abbrev frame : Frame
    frame = frame_of slots focus addresses

    -- one item of those that a predicate goes through
    passed_told : (m : Meaning) (t : Place → ℕ → Bool) → KeepsBy slots addresses f m t → (p : Place) (position last : ℕ) →
        Forms.passed m frame (on_node p position last) f ≡ (Ok (Forms.kept_if (Node p) (t p position)), f)
    passed_told m t h p position last =
        sym (go_on_go_on (m (frame_of slots (Some (on_node p position last)) addresses) f) (λ value. judged (keeps position value)) (λ keep. give (Forms.kept_if (Node p) keep)))
        ∙ ap (λ o. go_on o (λ keep. give (Forms.kept_if (Node p) keep))) (h p position last).1

    kept_next : (p : Place) (b : Bool) (rest : List Place) (done : List Item) →
        (done ++ Forms.kept_if (Node p) b) ++ map Node rest ≡ done ++ map Node (put b p rest)
    kept_next p true rest done = append_assoc done (Node p ∷ []) (map Node rest)
    kept_next p false rest done = ap (λ l. l ++ map Node rest) (append-nil done)

    filtered_from : (m : Meaning) (t : Place → ℕ → Bool) → KeepsBy slots addresses f m t → (ps : List Place) (done : List Item) (position last : ℕ) →
        in_turn (more (Forms.passed m frame)) done (focuses_from position last (map Node ps)) f
        ≡ (Ok (done ++ map Node (kept_from t position ps)), f)
    filtered_from m t h [] done position last = ap (λ l. (Ok l, f)) (sym (append-nil done))
    filtered_from m t h (p ∷ ps) done position last =
        ap (λ o. go_on (go_on o (λ ys. give (done ++ ys))) (λ n. in_turn (more (Forms.passed m frame)) n (focuses_from (suc position) last (map Node ps)))) (passed_told m t h p position last)
        ∙ filtered_from m t h ps (done ++ Forms.kept_if (Node p) (t p position)) (suc position) last
        ∙ ap (λ l. (Ok l, f)) (kept_next p (t p position) (kept_from t (suc position) ps) done)

    pub filtered_told : (m : Meaning) (t : Place → ℕ → Bool) → KeepsBy slots addresses f m t → (ps : List Place) →
        Forms.filtered frame (map Node ps) m f ≡ (Ok (map Node (kept_from t 1 ps)), f)
    filtered_told m t h ps = filtered_from m t h ps [] 1 (length (map Node ps))

  -- # Predicates one after another

  pub true_alike : (ps : List Plan) (t u : Place → ℕ → Bool) → ((p : Place) (i : ℕ) → t p i ≡ u p i) →
      KeepTrue slots addresses f ps t → KeepTrue slots addresses f ps u
  true_alike ps t u h k focus places =
      k focus places ∙ ap (λ l. (Ok (map Node l), f)) (kept_alike t u h 1 places)

  pub nothing_told : KeepTrue slots addresses f [] (λ p i. true)
  nothing_told focus places = ap (λ l. (Ok (map Node l), f)) (sym (all_kept 1 places))

  -- one, and then the others
  pub one_then : (p : Plan) (t : Place → ℕ → Bool) → KeepsBy slots addresses f (plan_mean p) t → (ps : List Plan) (u : Place → ℕ → Bool) →
      KeepTrue slots addresses f ps u → (focus : Option Focus) (places : List Place) →
      in_turn (Forms.filtered (frame_of slots focus addresses)) (map Node places) (map plan_mean (p ∷ ps)) f
      ≡ (Ok (map Node (kept_from u 1 (kept_from t 1 places))), f)
  one_then p t h ps u k focus places =
      ap (λ o. go_on o (λ xs. in_turn (Forms.filtered (frame_of slots focus addresses)) xs (map plan_mean ps))) (filtered_told focus (plan_mean p) t h places)
      ∙ k focus (kept_from t 1 places)

  pub one_told : (p : Plan) (t : Place → ℕ → Bool) → KeepsBy slots addresses f (plan_mean p) t → KeepTrue slots addresses f (p ∷ []) t
  one_told p t h focus places =
      ap (λ o. go_on o (λ xs. give xs)) (filtered_told focus (plan_mean p) t h places)

  pub free_behind : (p : Plan) (t : Place → ℕ → Bool) → KeepsBy slots addresses f (plan_mean p) t → (ps : List Plan) (u : Place → Bool) →
      KeepTrue slots addresses f ps (λ q i. u q) → KeepTrue slots addresses f (p ∷ ps) (λ q i. t q i && u q)
  free_behind p t h ps u k focus places =
      one_then p t h ps (λ q i. u q) k focus places ∙ ap (λ l. (Ok (map Node l), f)) (sym (free_after t u 1 places 1))

  pub first_ahead : (p : Plan) (e : ℕ → Bool) → ((i : ℕ) → e (suc i) ≡ true → e i ≡ true) → KeepsBy slots addresses f (plan_mean p) (λ q i. e i) →
      (ps : List Plan) (u : Place → ℕ → Bool) → KeepTrue slots addresses f ps u → KeepTrue slots addresses f (p ∷ ps) (λ q i. e i && u q i)
  first_ahead p e closed h ps u k focus places =
      one_then p (λ q i. e i) h ps u k focus places ∙ ap (λ l. (Ok (map Node l), f)) (sym (first_before e closed u 1 places))

  -- # Conjunctions

  pub none_hold : AllHold slots addresses f [] (λ p i. true)
  none_hold p position last = refl

  -- a conjunction is a boolean, which keeps where it holds
  pub and_keeps : (ps : List Plan) (t : Place → ℕ → Bool) → AllHold slots addresses f ps t → KeepsBy slots addresses f (plan_mean (plan.And ps)) t
  and_keeps ps t h p position last =
      let inner = frame_of slots (Some (on_node p position last)) addresses in
      let value : plan_mean (plan.And ps) inner f ≡ (Ok (boolean (t p position)), f) =
      ap (λ m. m inner f) (plan_eq.plan-And ps) ∙ ap (λ o. go_on o (λ answer. give (boolean answer))) (h p position last) in (
        ap (λ o. go_on o (λ xs. judged (effective xs))) value,
        ap (λ o. go_on o (λ xs. judged (keeps position xs))) value,
      )

  first_that-append : {A : Type 0} (act : A → Doing Bool) (xs ys : List A) (g : List Tree) →
      first_that false act (xs ++ ys) g ≡ go_on (first_that false act xs g) (λ a. unless_found false a (first_that false act ys))
  first_that-append act [] ys g = refl
  first_that-append act (x ∷ xs) ys g =
      go_on_same (act x g) (λ a. unless_found false a (first_that false act (xs ++ ys))) (λ a f'. go_on (unless_found false a (first_that false act xs) f') (λ b. unless_found false b (first_that false act ys)))
      (by_answer (λ f'. first_that-append act xs ys f'))
      ∙ sym (go_on_go_on (act x g) (λ a. unless_found false a (first_that false act xs)) (λ b. unless_found false b (first_that false act ys)))
    where
      by_answer : ((f' : List Tree) → first_that false act (xs ++ ys) f' ≡ go_on (first_that false act xs f') (λ b. unless_found false b (first_that false act ys))) →
          (a : Bool) (f' : List Tree) → unless_found false a (first_that false act (xs ++ ys)) f'
          ≡ go_on (unless_found false a (first_that false act xs) f') (λ b. unless_found false b (first_that false act ys))
      by_answer rest true f' = rest f'
      by_answer rest false f' = refl

  -- one conjunct more
  pub one_holds : (ps : List Plan) (p : Plan) (t u : Place → ℕ → Bool) → AllHold slots addresses f ps t → KeepsBy slots addresses f (plan_mean p) u →
      AllHold slots addresses f (ps ++ p ∷ []) (λ q i. t q i && u q i)
  one_holds ps p t u h k q position last =
      let act : Meaning → Doing Bool = λ part. Forms.tested part (frame_of slots (Some (on_node q position last)) addresses) in
      ap (λ ms. first_that false act ms f) (map-append plan_mean ps (p ∷ []))
      ∙ first_that-append act (map plan_mean ps) (plan_mean p ∷ []) f
      ∙ ap (λ o. go_on o (λ b. unless_found false b (first_that false act (plan_mean p ∷ [])))) (h q position last)
      ∙ by_truth act (t q position) (u q position) (k q position last).0
    where
      by_truth : (act : Meaning → Doing Bool) (b c : Bool) → act (plan_mean p) f ≡ (Ok c, f) →
          unless_found false b (first_that false act (plan_mean p ∷ [])) f ≡ (Ok (b && c), f)
      by_truth act true true e = ap (λ o. go_on o (λ a. unless_found false a (give true))) e
      by_truth act true false e = ap (λ o. go_on o (λ a. unless_found false a (give true))) e
      by_truth act false c e = refl
