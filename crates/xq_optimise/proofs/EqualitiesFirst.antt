-- Predicates that ask the node alone, in another order.
use Rattle.std.proofs.Common.{◌≡◌, List, [], ◌∷◌, ◌++◌, map, reverse, Bool, true, false, Ok, refl, sym, ap, ◌∙◌, subst}
use Rattle.std.specs.Prelude.{◌&&◌}
use Rattle.std.specs.List.{AllByRecursion}
use Rattle.std.proofs.lemmas.List.{append_assoc, append-nil, map-append, reverse-append, reverse-reverse}
use Rattle.xq_atoms.specs.Text.{Text}
use Rattle.xq_trees.specs.Tree.{Tree}
use Rattle.xq_meaning.specs.declared.plans.Plan.{Plan}
use Rattle.xq_meaning.specs.Items.{Place, Node}
use Rattle.xq_meaning.specs.PlanMeaning.{Slots, Meaning, plan_mean}
use Rattle.xq_optimise.specs.declared.held.Held.{Held}
use Rattle.xq_optimise.specs.Known.{Fits}
use Rattle.xq_optimise.specs.Sure.{SamePredicates, SurelyKeeps}
use Rattle.xq_optimise.specs.private.Filters.{KeepsAlike}
use Rattle.xq_optimise.proofs.NodesAtOnce.{AllTold, all_kept, filter_like}

-- # Truths

and_true : (b : Bool) → b ≡ (b && true)
and_true true = refl
and_true false = refl

and_assoc : (a b c : Bool) → ((a && b) && c) ≡ (a && (b && c))
and_assoc true b c = refl
and_assoc false b c = refl

and_third : (a b c : Bool) → ((a && b) && c) ≡ ((a && c) && b)
and_third true true true = refl
and_third true true false = refl
and_third true false true = refl
and_third true false false = refl
and_third false b c = refl

module _ (slots : Slots) (addresses : List Text) (f : List Tree) where
  told_like : (ms : List Meaning) (k l : Place → Bool) → AllTold slots addresses f ms k → ((p : Place) → l p ≡ k p) → AllTold slots addresses f ms l
  told_like [] k l told same = λ p. same p ∙ told p
  told_like (m ∷ ms) k l (first, rest, this, those, both) same = (first, rest, this, those, λ p. same p ∙ both p)

  told_both : (ms ns : List Meaning) (k l : Place → Bool) → AllTold slots addresses f ms k → AllTold slots addresses f ns l →
      AllTold slots addresses f (ms ++ ns) (λ p. k p && l p)
  told_both [] ns k l told more = told_like ns l (λ p. k p && l p) more (λ p. ap (λ b. b && l p) (told p))
  told_both (m ∷ ms) ns k l (first, rest, this, those, both) more =
      (first, (λ p. rest p && l p), this, told_both ms ns rest l those more, λ p. ap (λ b. b && l p) (both p) ∙ and_assoc (first p) (rest p) (l p))

  -- those that were taken hold where both kinds of them hold
  abbrev Parts : List Plan → List Plan → List Plan → Type 0
  Parts taken xs ys =
      (k : Place → Bool) × (first : Place → Bool) × (second : Place → Bool)
      × AllTold slots addresses f (map plan_mean taken) k × AllTold slots addresses f (map plan_mean xs) first × AllTold slots addresses f (map plan_mean ys) second
      × ((p : Place) → k p ≡ (first p && second p))

  with_one : (ps : List Plan) (q : Plan) (k l : Place → Bool) → AllTold slots addresses f (map plan_mean ps) k → AllTold slots addresses f (plan_mean q ∷ []) l →
      AllTold slots addresses f (map plan_mean (ps ++ q ∷ [])) (λ p. k p && l p)
  with_one ps q k l told more =
      subst (λ ms. AllTold slots addresses f ms (λ p. k p && l p)) (sym (map-append plan_mean ps (q ∷ []))) (told_both (map plan_mean ps) (plan_mean q ∷ []) k l told more)

  none_parts : Parts [] [] []
  none_parts = ((λ p. true), (λ p. true), (λ p. true), (λ p. refl), (λ p. refl), (λ p. refl), λ p. refl)

  one_first : (taken xs ys : List Plan) (q : Plan) (l : Place → Bool) → AllTold slots addresses f (plan_mean q ∷ []) l → Parts taken xs ys → Parts (taken ++ q ∷ []) (xs ++ q ∷ []) ys
  one_first taken xs ys q l told (k, first, second, a, b, c, both) = (
    (λ p. k p && l p),
    (λ p. first p && l p),
    second,
    with_one taken q k l a told,
    with_one xs q first l b told,
    c,
    λ p. ap (λ t. t && l p) (both p) ∙ and_third (first p) (second p) (l p),
  )

  one_second : (taken xs ys : List Plan) (q : Plan) (l : Place → Bool) → AllTold slots addresses f (plan_mean q ∷ []) l → Parts taken xs ys → Parts (taken ++ q ∷ []) xs (ys ++ q ∷ [])
  one_second taken xs ys q l told (k, first, second, a, b, c, both) = (
    (λ p. k p && l p),
    first,
    (λ p. second p && l p),
    with_one taken q k l a told,
    b,
    with_one ys q second l c told,
    λ p. ap (λ t. t && l p) (both p) ∙ and_assoc (first p) (second p) (l p),
  )

-- # Lists

all_both : (P : Plan → Type 0) (xs ys : List Plan) → AllByRecursion P xs → AllByRecursion P ys → AllByRecursion P (xs ++ ys)
all_both P [] ys a b = b
all_both P (x ∷ xs) ys a b = (a.0, all_both P xs ys a.1 b)

-- # The loop

pub record SplitBy (known : List Held) (all left xs ys : List Plan) : Type 0 where
  pub taken : List Plan
  pub whole : taken ++ reverse left ≡ all
  pub later : AllByRecursion (SurelyKeeps known) (reverse left)
  pub first : AllByRecursion (SurelyKeeps known) xs
  pub second : AllByRecursion (SurelyKeeps known) ys
  pub parts : (slots : Slots) (addresses : List Text) (f : List Tree) → Fits known slots → Parts slots addresses f taken xs ys

pub none_split : (all left xs ys : List Plan) → left ≡ reverse all → xs ≡ [] → ys ≡ [] → (known : List Held) → AllByRecursion (SurelyKeeps known) all → SplitBy known all left xs ys
none_split all left xs ys is none nothing known sure = record {
  taken = [];
  whole = ap reverse is ∙ reverse-reverse all;
  later = subst (AllByRecursion (SurelyKeeps known)) (sym (ap reverse is ∙ reverse-reverse all)) sure;
  first = subst (AllByRecursion (SurelyKeeps known)) (sym none) tt;
  second = subst (AllByRecursion (SurelyKeeps known)) (sym nothing) tt;
  parts = λ slots addresses f fits.
      subst (λ l. Parts slots addresses f [] l ys) (sym none) (subst (λ l. Parts slots addresses f [] [] l) (sym nothing) (none_parts slots addresses f));
}

next_sure : (known : List Held) (left rest : List Plan) (q : Plan) → AllByRecursion (SurelyKeeps known) (reverse left) → left ≡ rest ++ q ∷ [] →
    AllByRecursion (SurelyKeeps known) (q ∷ reverse rest)
next_sure known left rest q sure cut = subst (AllByRecursion (SurelyKeeps known)) (ap reverse cut ∙ reverse-append rest (q ∷ [])) sure

next_whole : (all taken left rest : List Plan) (q : Plan) → taken ++ reverse left ≡ all → left ≡ rest ++ q ∷ [] → (taken ++ q ∷ []) ++ reverse rest ≡ all
next_whole all taken left rest q whole cut =
    append_assoc taken (q ∷ []) (reverse rest) ∙ sym (ap (λ l. taken ++ l) (ap reverse cut ∙ reverse-append rest (q ∷ []))) ∙ whole

told_alone : (known : List Held) (q : Plan) → SurelyKeeps known q → (slots : Slots) (addresses : List Text) (f : List Tree) → Fits known slots →
    (l : Place → Bool) × AllTold slots addresses f (plan_mean q ∷ []) l
told_alone known q sure slots addresses f fits =
    let own = sure slots addresses f fits in (own.0, (own.0, (λ p. true), own.1, (λ p. refl), λ p. and_true (own.0 p)))

pub first_split : (all left rest xs ys xs' : List Plan) (q : Plan) → left ≡ rest ++ q ∷ [] → xs' ≡ xs ++ q ∷ [] → (known : List Held) → SplitBy known all left xs ys → SplitBy known all rest xs' ys
first_split all left rest xs ys xs' q cut more known h =
    let sure = next_sure known left rest q h.later cut in record {
      taken = h.taken ++ q ∷ [];
      whole = next_whole all h.taken left rest q h.whole cut;
      later = sure.1;
      first = subst (AllByRecursion (SurelyKeeps known)) (sym more) (all_both (SurelyKeeps known) xs (q ∷ []) h.first (sure.0, tt));
      second = h.second;
      parts = λ slots addresses f fits.
          let own = told_alone known q sure.0 slots addresses f fits in
          subst (λ l. Parts slots addresses f (h.taken ++ q ∷ []) l ys) (sym more) (one_first slots addresses f h.taken xs ys q own.0 own.1 (h.parts slots addresses f fits));
    }

pub second_split : (all left rest xs ys ys' : List Plan) (q : Plan) → left ≡ rest ++ q ∷ [] → ys' ≡ ys ++ q ∷ [] → (known : List Held) → SplitBy known all left xs ys → SplitBy known all rest xs ys'
second_split all left rest xs ys ys' q cut more known h =
    let sure = next_sure known left rest q h.later cut in record {
      taken = h.taken ++ q ∷ [];
      whole = next_whole all h.taken left rest q h.whole cut;
      later = sure.1;
      first = h.first;
      second = subst (AllByRecursion (SurelyKeeps known)) (sym more) (all_both (SurelyKeeps known) ys (q ∷ []) h.second (sure.0, tt));
      parts = λ slots addresses f fits.
          let own = told_alone known q sure.0 slots addresses f fits in
          subst (λ l. Parts slots addresses f (h.taken ++ q ∷ []) xs l) (sym more) (one_second slots addresses f h.taken xs ys q own.0 own.1 (h.parts slots addresses f fits));
    }

pub all_split : (all left xs ys after : List Plan) → left ≡ [] → after ≡ xs ++ ys → (known : List Held) → SplitBy known all left xs ys → KeepsAlike known all after
all_split all left xs ys after none is known h = (
  subst (AllByRecursion (SurelyKeeps known)) (sym is) (all_both (SurelyKeeps known) xs ys h.first h.second),
  subst (SamePredicates known all) (sym is) same,
)
  where
    taken_all : h.taken ≡ all
    taken_all = sym (append-nil h.taken) ∙ ap (λ l. h.taken ++ reverse l) (sym none) ∙ h.whole

    same : SamePredicates known all (xs ++ ys)
    same slots focus addresses fits places f =
        let parts = h.parts slots addresses f fits in
        let k = parts.0 in
        let first = parts.1 in
        let second = parts.2 in
        let both = told_both slots addresses f (map plan_mean xs) (map plan_mean ys) first second parts.4 parts.5 in
        let joined = subst (λ ms. AllTold slots addresses f ms (λ p. first p && second p)) (sym (map-append plan_mean xs ys)) both in
        let old = subst (λ l. AllTold slots addresses f (map plan_mean l) k) taken_all parts.3 in
        all_kept slots addresses f focus (map plan_mean (xs ++ ys)) (λ p. first p && second p) joined places
        ∙ ap (λ ps. (Ok (map Node ps), f)) (sym (filter_like k (λ p. first p && second p) parts.6 places))
        ∙ sym (all_kept slots addresses f focus (map plan_mean all) k old places)

pub same_then : (known : List Held) (ps qs rs : List Plan) → SamePredicates known ps qs → SamePredicates known qs rs → SamePredicates known ps rs
same_then known ps qs rs h k slots focus addresses fits places f = k slots focus addresses fits places f ∙ h slots focus addresses fits places f
