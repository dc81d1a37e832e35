-- What clauses do at each tuple by itself, and what is returned then.
use Rattle.std.proofs.Common.{◌≡◌, ℕ, List, [], ◌∷◌, ◌++◌, map, Bool, true, false, Ok, Err, ◌⊎◌, inl, inr, refl, sym, ap, ◌∙◌, subst}
use Rattle.std.specs.List.{AllByRecursion, zip, enumerate_from}
use Rattle.std.proofs.lemmas.List.{append_assoc, append-nil, map-append}
use Rattle.std.proofs.lemmas.List.Concat.{flat_map-cons}
use Rattle.xq_atoms.specs.declared.refusals.Code.{Code}
use Rattle.xq_atoms.specs.Judged.{Judged}
use Rattle.xq_expressions.specs.declared.operators.AllowingEmpty.{AllowingEmpty}
use Rattle.xq_trees.specs.Tree.{Tree}
use Rattle.xq_trees.specs.Tuples.{Tuple, item_values, empty_values, with_items, expanded, bound, satisfying}
use Rattle.xq_meaning.specs.Doing.{Doing, Outcome, go_on, give, in_turn, one_more, more, for_each, collected}
use Rattle.xq_meaning.specs.Forms
use Rattle.xq_meaning.specs.Items.{Item, Atom}
use Rattle.xq_meaning.specs.PlanMeaning.{Slots, Frame, Meaning, ClauseMeaning, at_tuple, next_clause}
use Rattle.xq_meaning.proofs.SameForms.{go_on_same}
use Rattle.xq_meaning.proofs.Turns.{in_turn-append, last_turn}
use Rattle.xq_optimise.specs.private.Parts.{AreAll}
use Rattle.xq_optimise.proofs.Conjuncts.{Tells, each_told}
use Rattle.xq_optimise.proofs.Leaving.{Leaves, Quiet, always, collected_leaves}

-- # Lists of lists

abbrev pub joined : {A : Type 0} → List (List A) → List A
joined [] = []
joined (xs ∷ xss) = xs ++ joined xss

-- the slots of a tuple, and after them those of each of these
abbrev pub after : Tuple Item → List (Tuple Item) → List (Tuple Item)
after t us = map (λ u. t ++ u) us

-- each tuple with its own
abbrev pub spread : List (Tuple Item) → List (List (Tuple Item)) → List (Tuple Item)
spread [] uss = []
spread (t ∷ ts) [] = []
spread (t ∷ ts) (us ∷ uss) = after t us ++ spread ts uss

abbrev IsNil : {A : Type 0} → List A → Type 0
IsNil [] = Unit {0}
IsNil (x ∷ xs) = ⊥

-- # Items, after those before them

pub after_more : {A B : Type 0} (act : A → Doing (List B)) (first second : List B) (xs : List A) (f : List Tree) →
    in_turn (more act) (first ++ second) xs f ≡ go_on (in_turn (more act) second xs f) (λ ys. give (first ++ ys))
after_more act first second [] f = refl
after_more {A} {B} act first second (x ∷ xs) f =
    by (act x f) (λ ys g. ap (λ l. in_turn (more act) l xs g) (append_assoc first second ys) ∙ after_more act first (second ++ ys) xs g)
  where
    by : (o : Outcome (List B)) →
        ((ys : List B) (g : List Tree) → in_turn (more act) ((first ++ second) ++ ys) xs g ≡ go_on (in_turn (more act) (second ++ ys) xs g) (λ zs. give (first ++ zs))) →
        go_on (go_on o (λ y. give ((first ++ second) ++ y))) (λ n. in_turn (more act) n xs)
        ≡ go_on (go_on (go_on o (λ y. give (second ++ y))) (λ n. in_turn (more act) n xs)) (λ zs. give (first ++ zs))
    by (Ok ys, g) next = next ys g
    by (Err code, g) next = refl

-- # Clauses that go over tuples one by one

-- what a clause does at each tuple, and what it makes of a tuple and that value
pub record Pointwise (c : ClauseMeaning) : Type 1 where
  pub Value : Type 0
  pub value : Frame → Doing Value
  pub build : List (Tuple Item) → List Value → List (Tuple Item)
  pub one : Tuple Item → Value → List (Tuple Item)
  pub means : (frame : Frame) (ts : List (Tuple Item)) (f : List Tree) →
      c frame ts f ≡ go_on (for_each (λ t. value (at_tuple frame t)) ts f) (λ vs. give (build ts vs))
  pub of_none : build [] [] ≡ []
  pub of_more : (t : Tuple Item) (ts : List (Tuple Item)) (v : Value) (vs : List Value) → build (t ∷ ts) (v ∷ vs) ≡ one t v ++ build ts vs
  pub behind : (s t : Tuple Item) (v : Value) → one (s ++ t) v ≡ after s (one t v)

module _ (c : ClauseMeaning) (by : Pointwise c) where
  -- the value at each of the tuples
  abbrev Valued : Frame → List Tree → List (Tuple Item) → List by.Value → Type 0
  Valued frame f = AreAll (Tells (λ t. by.value (at_tuple frame t)) f)

  abbrev built : List (Tuple Item) → List by.Value → List (Tuple Item)
  built [] vs = []
  built (t ∷ ts) [] = []
  built (t ∷ ts) (v ∷ vs) = by.one t v ++ built ts vs

  build_is : (frame : Frame) (f : List Tree) (ts : List (Tuple Item)) (vs : List by.Value) → Valued frame f ts vs → by.build ts vs ≡ built ts vs
  build_is frame f [] [] h = by.of_none
  build_is frame f [] (v ∷ vs) h = absurd h
  build_is frame f (t ∷ ts) [] h = absurd h
  build_is frame f (t ∷ ts) (v ∷ vs) h = by.of_more t ts v vs ∙ ap (λ l. by.one t v ++ l) (build_is frame f ts vs h.1)

  pub gives_built : (frame : Frame) (f : List Tree) (ts : List (Tuple Item)) (vs : List by.Value) → Valued frame f ts vs →
      c frame ts f ≡ (Ok (built ts vs), f)
  gives_built frame f ts vs h =
      by.means frame ts f
      ∙ ap (λ o. go_on o (λ ws. give (by.build ts ws))) (each_told (λ t. by.value (at_tuple frame t)) f ts vs h)
      ∙ ap (λ l. (Ok l, f)) (build_is frame f ts vs h)

  built_after : (s : Tuple Item) (us : List (Tuple Item)) (vs : List by.Value) → built (after s us) vs ≡ after s (built us vs)
  built_after s [] vs = refl
  built_after s (u ∷ us) [] = refl
  built_after s (u ∷ us) (v ∷ vs) =
      ap (λ l. l ++ built (after s us) vs) (by.behind s u v)
      ∙ ap (λ l. after s (by.one u v) ++ l) (built_after s us vs)
      ∙ sym (map-append (λ w. s ++ w) (by.one u v) (built us vs))

  built_more : (frame : Frame) (f : List Tree) (us ws : List (Tuple Item)) (vs xs : List by.Value) → Valued frame f us vs →
      built (us ++ ws) (vs ++ xs) ≡ built us vs ++ built ws xs
  built_more frame f [] ws [] xs h = refl
  built_more frame f [] ws (v ∷ vs) xs h = absurd h
  built_more frame f (u ∷ us) ws [] xs h = absurd h
  built_more frame f (u ∷ us) ws (v ∷ vs) xs h =
      ap (λ l. by.one u v ++ l) (built_more frame f us ws vs xs h.1) ∙ sym (append_assoc (by.one u v) (built us vs) (built ws xs))

  -- the first one is refused
  pub refused_first : (frame : Frame) (f : List Tree) (t : Tuple Item) (ts : List (Tuple Item)) (code : Code) →
      by.value (at_tuple frame t) f ≡ (Err code, f) → c frame (t ∷ ts) f ≡ (Err code, f)
  refused_first frame f t ts code is =
      by.means frame (t ∷ ts) f
      ∙ ap (λ o. go_on (go_on (go_on o (λ y. give ([] ++ y ∷ []))) (λ n. in_turn (one_more (λ t. by.value (at_tuple frame t))) n ts)) (λ vs. give (by.build (t ∷ ts) vs))) is

  pub gives_none : (frame : Frame) (f : List Tree) → c frame [] f ≡ (Ok [], f)
  gives_none frame f = by.means frame [] f ∙ ap (λ l. (Ok l, f)) by.of_none

-- # The tuples of each

module _ (frame : Frame) (f : List Tree) where
  abbrev act : List (Tuple Item) → ClauseMeaning → Doing (List (Tuple Item))
  act = next_clause frame

  -- the frame of one tuple
  abbrev pub inner : Tuple Item → Frame
  inner t = at_tuple frame t

  -- the clauses at one tuple
  abbrev pub run : List ClauseMeaning → Tuple Item → Outcome (List (Tuple Item))
  run cs t = in_turn (next_clause (inner t)) ([] ∷ []) cs f

  abbrev pub Leads : List ClauseMeaning → Tuple Item → List (Tuple Item) → Type 0
  Leads cs t us = run cs t ≡ (Ok us, f)

  -- all lead to tuples of their own
  abbrev pub Good : List ClauseMeaning → List (Tuple Item) → List (List (Tuple Item)) → Type 0
  Good cs ts uss = AreAll (Leads cs) ts uss × (in_turn act ts cs f ≡ (Ok (spread ts uss), f))

  -- the first ones lead to none, and then one is refused
  pub record Bad (cs : List ClauseMeaning) (ts : List (Tuple Item)) : Type 0 where
    pub code : Code
    pub before : List (Tuple Item)
    pub at : Tuple Item
    pub rest : List (Tuple Item)
    pub cut : ts ≡ before ++ at ∷ rest
    pub none : AllByRecursion (λ t. Leads cs t []) before
    pub here : run cs at ≡ (Err code, f)
    pub whole : in_turn act ts cs f ≡ (Err code, f)

  inner_is : (t u : Tuple Item) → at_tuple (inner t) u ≡ at_tuple frame (t ++ u)
  inner_is t u = ap (λ (env : Slots). record frame { env = env }) (append_assoc frame.env t u)

  -- # None

  abbrev singles : List (Tuple Item) → List (List (Tuple Item))
  singles [] = []
  singles (t ∷ ts) = ([] ∷ []) ∷ singles ts

  singles_lead : (ts : List (Tuple Item)) → AreAll (Leads []) ts (singles ts)
  singles_lead [] = tt
  singles_lead (t ∷ ts) = (refl, singles_lead ts)

  singles_spread : (ts : List (Tuple Item)) → spread ts (singles ts) ≡ ts
  singles_spread [] = refl
  singles_spread (t ∷ ts) = ap (λ l. l ∷ spread ts (singles ts)) (append-nil t) ∙ ap (λ l. t ∷ l) (singles_spread ts)

  pub none_good : (ts : List (Tuple Item)) → (uss : List (List (Tuple Item))) × Good [] ts uss × (spread ts uss ≡ ts)
  none_good ts = (singles ts, (singles_lead ts, ap (λ l. (Ok l, f)) (sym (singles_spread ts))), singles_spread ts)

  -- # One more

  module _ (cs : List ClauseMeaning) (c : ClauseMeaning) (by : Pointwise c) where
    -- the value at each tuple that came of the clauses before
    abbrev pub AllValued : List (Tuple Item) → List by.Value → Type 0
    AllValued = AreAll (Tells (λ t. by.value (at_tuple frame t)) f)

    -- of the tuples of one, in its own frame
    own_valued : (t : Tuple Item) (us : List (Tuple Item)) (vs : List by.Value) → AllValued (after t us) vs →
        AreAll (Tells (λ u. by.value (at_tuple (inner t) u)) f) us vs
    own_valued t [] [] h = tt
    own_valued t [] (v ∷ vs) h = absurd h
    own_valued t (u ∷ us) [] h = absurd h
    own_valued t (u ∷ us) (v ∷ vs) h = (ap (λ frame. by.value frame f) (inner_is t u) ∙ h.0, own_valued t us vs h.1)

    -- those of the first, and of the others
    cut_valued : (us ws : List (Tuple Item)) (vs : List by.Value) → AllValued (us ++ ws) vs →
        (xs : List by.Value) × (ys : List by.Value) × (vs ≡ xs ++ ys) × AllValued us xs × AllValued ws ys
    cut_valued [] ws vs h = ([], vs, refl, tt, h)
    cut_valued (u ∷ us) ws [] h = absurd h
    cut_valued (u ∷ us) ws (v ∷ vs) h =
        let rest = cut_valued us ws vs h.1 in
        (v ∷ rest.0, rest.1, ap (λ l. v ∷ l) rest.2, (h.0, rest.3), rest.4)

    run_more : (t : Tuple Item) (us : List (Tuple Item)) → Leads cs t us → run (cs ++ c ∷ []) t ≡ c (inner t) us f
    run_more t us is = last_turn (next_clause (inner t)) ([] ∷ []) cs c f ∙ ap (λ o. go_on o (λ n. next_clause (inner t) n c)) is

    each_more : (ts : List (Tuple Item)) (uss : List (List (Tuple Item))) (vs : List by.Value) → AreAll (Leads cs) ts uss → AllValued (spread ts uss) vs →
        (wss : List (List (Tuple Item))) × AreAll (Leads (cs ++ c ∷ [])) ts wss × (built c by (spread ts uss) vs ≡ spread ts wss)
    each_more [] [] vs h k = ([], tt, refl)
    each_more [] (us ∷ uss) vs h k = absurd h
    each_more (t ∷ ts) [] vs h k = absurd h
    each_more (t ∷ ts) (us ∷ uss) vs h k =
        let cut = cut_valued (after t us) (spread ts uss) vs k in
        let rest = each_more ts uss cut.1 h.1 cut.4 in (
          built c by us cut.0 ∷ rest.0,
          (run_more t us h.0 ∙ gives_built c by (inner t) f us cut.0 (own_valued t us cut.0 cut.3), rest.1),
          ap (built c by (after t us ++ spread ts uss)) cut.2
              ∙ built_more c by frame f (after t us) (spread ts uss) cut.0 cut.1 cut.3
              ∙ ap (λ l. l ++ built c by (spread ts uss) cut.1) (built_after c by t us cut.0)
              ∙ ap (λ l. after t (built c by us cut.0) ++ l) rest.2,
        )

    pub whole_more : (ts us : List (Tuple Item)) → in_turn act ts cs f ≡ (Ok us, f) → in_turn act ts (cs ++ c ∷ []) f ≡ c frame us f
    whole_more ts us is = last_turn act ts cs c f ∙ ap (λ o. go_on o (λ n. act n c)) is

    -- all have a value
    pub good_more : (ts : List (Tuple Item)) (uss : List (List (Tuple Item))) (vs : List by.Value) → Good cs ts uss → AllValued (spread ts uss) vs →
        (wss : List (List (Tuple Item))) × Good (cs ++ c ∷ []) ts wss
    good_more ts uss vs (each, whole) k =
        let next = each_more ts uss vs each k in (
          next.0,
          (next.1, whole_more ts (spread ts uss) whole ∙ gives_built c by frame f (spread ts uss) vs k ∙ ap (λ l. (Ok l, f)) next.2),
        )

    -- none of them has
    module _ (code : Code) (refuses : (u : Tuple Item) → by.value (at_tuple frame u) f ≡ (Err code, f)) where
      first_bad : (ts : List (Tuple Item)) (uss : List (List (Tuple Item))) → AreAll (Leads cs) ts uss → (u : Tuple Item) (rest : List (Tuple Item)) → spread ts uss ≡ u ∷ rest →
          (before : List (Tuple Item)) × (at : Tuple Item) × (behind : List (Tuple Item)) × (ts ≡ before ++ at ∷ behind)
          × AllByRecursion (λ t. Leads (cs ++ c ∷ []) t []) before × (run (cs ++ c ∷ []) at ≡ (Err code, f))
      first_bad [] uss h u rest is = absurd (subst IsNil is tt)
      first_bad (t ∷ ts) [] h u rest is = absurd h
      first_bad (t ∷ ts) ([] ∷ uss) h u rest is =
          let later = first_bad ts uss h.1 u rest is in (
            t ∷ later.0,
            later.1,
            later.2,
            ap (λ l. t ∷ l) later.3,
            (run_more t [] h.0 ∙ gives_none c by (inner t) f, later.4),
            later.5,
          )
      first_bad (t ∷ ts) ((w ∷ ws) ∷ uss) h u rest is = (
        [],
        t,
        ts,
        refl,
        tt,
        run_more t (w ∷ ws) h.0 ∙ refused_first c by (inner t) f w ws code (ap (λ frame. by.value frame f) (inner_is t w) ∙ refuses (t ++ w)),
      )

      pub refused_more : (ts : List (Tuple Item)) (uss : List (List (Tuple Item))) → Good cs ts uss →
          ((wss : List (List (Tuple Item))) × Good (cs ++ c ∷ []) ts wss) ⊎ Bad (cs ++ c ∷ []) ts
      refused_more ts uss (each, whole) = by_spread (spread ts uss) refl
        where
          by_spread : (us : List (Tuple Item)) → spread ts uss ≡ us → ((wss : List (List (Tuple Item))) × Good (cs ++ c ∷ []) ts wss) ⊎ Bad (cs ++ c ∷ []) ts
          by_spread [] is = inl (good_more ts uss [] (each, whole) (subst (λ us. AllValued us []) (sym is) tt))
          by_spread (u ∷ us) is =
              let first = first_bad ts uss each u us is in
              inr (record {
                code = code;
                before = first.0;
                at = first.1;
                rest = first.2;
                cut = first.3;
                none = first.4;
                here = first.5;
                whole = whole_more ts (spread ts uss) whole ∙ ap (λ l. c frame l f) is ∙ refused_first c by frame f u us code (refuses u);
              })

    none_stay : (ts : List (Tuple Item)) → AllByRecursion (λ t. Leads cs t []) ts → AllByRecursion (λ t. Leads (cs ++ c ∷ []) t []) ts
    none_stay [] h = tt
    none_stay (t ∷ ts) h = (run_more t [] h.0 ∙ gives_none c by (inner t) f, none_stay ts h.1)

    pub bad_more : (ts : List (Tuple Item)) → Bad cs ts → Bad (cs ++ c ∷ []) ts
    bad_more ts b = record {
      code = b.code;
      before = b.before;
      at = b.at;
      rest = b.rest;
      cut = b.cut;
      none = none_stay b.before b.none;
      here = last_turn (next_clause (inner b.at)) ([] ∷ []) cs c f ∙ ap (λ o. go_on o (λ n. next_clause (inner b.at) n c)) b.here;
      whole = last_turn act ts cs c f ∙ ap (λ o. go_on o (λ n. act n c)) b.whole;
    }

  -- # What is returned

  module _ (cs : List ClauseMeaning) (part : Meaning) (quiet : Quiet part) where
    -- the FLWOR at one tuple
    abbrev pub nested : Tuple Item → Doing (List Item)
    nested t g = go_on (in_turn (next_clause (inner t)) ([] ∷ []) cs g) (λ us. collected (λ u. part (at_tuple (inner t) u)) us)

    abbrev pub flat : Tuple Item → Doing (List Item)
    flat u = part (at_tuple frame u)

    own_returned : (t : Tuple Item) (us : List (Tuple Item)) (done : List Item) (g : List Tree) →
        in_turn (more (λ u. part (at_tuple (inner t) u))) done us g ≡ in_turn (more flat) done (after t us) g
    own_returned t [] done g = refl
    own_returned t (u ∷ us) done g =
        ap (λ at. go_on (go_on (part at g) (λ ys. give (done ++ ys))) (λ n. in_turn (more (λ u. part (at_tuple (inner t) u))) n us)) (inner_is t u)
        ∙ go_on_same (go_on (part (at_tuple frame (t ++ u)) g) (λ ys. give (done ++ ys))) (λ n. in_turn (more (λ u. part (at_tuple (inner t) u))) n us) (λ n. in_turn (more flat) n (after t us))
        (λ n h. own_returned t us n h)

    -- at one tuple, after what came before
    nested_at : (t : Tuple Item) (us : List (Tuple Item)) (done : List Item) → Leads cs t us →
        go_on (nested t f) (λ ys. give (done ++ ys)) ≡ in_turn (more flat) done (after t us) f
    nested_at t us done is =
        ap (λ o. go_on (go_on o (λ us. collected (λ u. part (at_tuple (inner t) u)) us)) (λ ys. give (done ++ ys))) is
        ∙ sym (after_more (λ u. part (at_tuple (inner t) u)) done [] us f)
        ∙ ap (λ l. in_turn (more (λ u. part (at_tuple (inner t) u))) l us f) (append-nil done)
        ∙ own_returned t us done f

    each_returned : (ts : List (Tuple Item)) (uss : List (List (Tuple Item))) → AreAll (Leads cs) ts uss → (done : List Item) →
        in_turn (more nested) done ts f ≡ in_turn (more flat) done (spread ts uss) f
    each_returned [] [] h done = refl
    each_returned [] (us ∷ uss) h done = absurd h
    each_returned (t ∷ ts) [] h done = absurd h
    each_returned (t ∷ ts) (us ∷ uss) h done =
        ap (λ o. go_on o (λ n. in_turn (more nested) n ts)) (nested_at t us done h.0)
        ∙ rest (collected_leaves flat (after t us) (always (λ w. Leaves (flat w)) (λ w. quiet (at_tuple frame w)) (after t us)) done f) (each_returned ts uss h.1)
        ∙ sym (in_turn-append (more flat) done (after t us) (spread ts uss) f)
      where
        rest : ((given : Judged (List Item)) × (in_turn (more flat) done (after t us) f ≡ (given, f))) →
            ((ys : List Item) → in_turn (more nested) ys ts f ≡ in_turn (more flat) ys (spread ts uss) f) →
            go_on (in_turn (more flat) done (after t us) f) (λ n. in_turn (more nested) n ts) ≡ go_on (in_turn (more flat) done (after t us) f) (λ n. in_turn (more flat) n (spread ts uss))
        rest (Ok ys, is) next =
            ap (λ o. go_on o (λ n. in_turn (more nested) n ts)) is
            ∙ next ys
            ∙ sym (ap (λ o. go_on o (λ n. in_turn (more flat) n (spread ts uss))) is)
        rest (Err code, is) next =
            ap (λ o. go_on o (λ n. in_turn (more nested) n ts)) is
            ∙ sym (ap (λ o. go_on o (λ n. in_turn (more flat) n (spread ts uss))) is)

    pub good_returned : (ts : List (Tuple Item)) (uss : List (List (Tuple Item))) → Good cs ts uss →
        collected nested ts f ≡ go_on (in_turn act ts cs f) (λ us. collected flat us)
    good_returned ts uss (each, whole) =
        each_returned ts uss each [] ∙ sym (ap (λ o. go_on o (λ us. collected flat us)) whole)

    none_returned : (before : List (Tuple Item)) (at : Tuple Item) (rest : List (Tuple Item)) (code : Code) → AllByRecursion (λ t. Leads cs t []) before →
        run cs at ≡ (Err code, f) → (done : List Item) → in_turn (more nested) done (before ++ at ∷ rest) f ≡ (Err code, f)
    none_returned [] at rest code h is done =
        ap (λ o. go_on (go_on (go_on o (λ us. collected (λ u. part (at_tuple (inner at) u)) us)) (λ ys. give (done ++ ys))) (λ n. in_turn (more nested) n rest)) is
    none_returned (t ∷ before) at rest code h is done =
        ap (λ o. go_on o (λ n. in_turn (more nested) n (before ++ at ∷ rest))) (nested_at t [] done h.0)
        ∙ none_returned before at rest code h.1 is done

    pub bad_returned : (ts : List (Tuple Item)) → Bad cs ts →
        collected nested ts f ≡ go_on (in_turn act ts cs f) (λ us. collected flat us)
    bad_returned ts b =
        ap (λ l. collected nested l f) b.cut
        ∙ none_returned b.before b.at b.rest b.code b.none b.here []
        ∙ sym (ap (λ o. go_on o (λ us. collected flat us)) b.whole)

-- # The clauses of plans

each_after : (at : Bool) (s t : Tuple Item) (ps : List (ℕ × Item)) →
    map (λ p. (s ++ t) ++ item_values Atom at p.0 p.1) ps ≡ after s (map (λ p. t ++ item_values Atom at p.0 p.1) ps)
each_after at s t [] = refl
each_after at s t (p ∷ ps) =
    ap (λ u. u ∷ map (λ p. (s ++ t) ++ item_values Atom at p.0 p.1) ps) (append_assoc s t (item_values Atom at p.0 p.1))
    ∙ ap (λ l. (s ++ (t ++ item_values Atom at p.0 p.1)) ∷ l) (each_after at s t ps)

pub items_after : (allows at : Bool) (s t : Tuple Item) (xs : List Item) → with_items Atom allows at (s ++ t) xs ≡ after s (with_items Atom allows at t xs)
items_after false at s t xs = each_after at s t (enumerate_from 1 xs)
items_after true at s t (x ∷ xs) = each_after at s t (enumerate_from 1 (x ∷ xs))
items_after true at s t [] = ap (λ u. u ∷ []) (append_assoc s t (empty_values Atom at))

abbrev pub for_pointwise : (empties : AllowingEmpty) (at : Bool) (m : Meaning) → Pointwise (λ frame. Forms.for_tuples empties at m (at_tuple frame))
for_pointwise empties at m = record {
  Value = List Item;
  value = m;
  build = expanded Atom (Forms.allows empties) at;
  one = with_items Atom (Forms.allows empties) at;
  means = λ frame ts f. refl;
  of_none = refl;
  of_more = λ t ts v vs. flat_map-cons (λ (p : Tuple Item × List Item). with_items Atom (Forms.allows empties) at p.0 p.1) (t, v) (zip ts vs);
  behind = λ s t v. items_after (Forms.allows empties) at s t v;
}

abbrev pub let_pointwise : (m : Meaning) → Pointwise (λ frame. Forms.let_tuples m (at_tuple frame))
let_pointwise m = record {
  Value = List Item;
  value = m;
  build = bound;
  one = λ t v. (t ++ v ∷ []) ∷ [];
  means = λ frame ts f. refl;
  of_none = refl;
  of_more = λ t ts v vs. refl;
  behind = λ s t v. ap (λ u. u ∷ []) (append_assoc s t (v ∷ []));
}

abbrev kept_when : Tuple Item → Bool → List (Tuple Item)
kept_when t true = t ∷ []
kept_when t false = []

pub kept_first : (t : Tuple Item) (ts : List (Tuple Item)) (b : Bool) (bs : List Bool) → satisfying (t ∷ ts) (b ∷ bs) ≡ kept_when t b ++ satisfying ts bs
kept_first t ts true bs = refl
kept_first t ts false bs = refl

pub kept_after : (s t : Tuple Item) (b : Bool) → kept_when (s ++ t) b ≡ after s (kept_when t b)
kept_after s t true = refl
kept_after s t false = refl

abbrev pub where_pointwise : (m : Meaning) → Pointwise (λ frame. Forms.where_tuples m (at_tuple frame))
where_pointwise m = record {
  Value = Bool;
  value = Forms.tested m;
  build = satisfying;
  one = kept_when;
  means = λ frame ts f. refl;
  of_none = refl;
  of_more = λ t ts b bs. kept_first t ts b bs;
  behind = kept_after;
}
