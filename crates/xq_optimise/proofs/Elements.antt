-- A fact of each element of a list, as loops learn it.
use Rattle.std.proofs.Common.{Result, Ok, Err, ◌≡◌, ℕ, ◌+◌, ◌<◌, ◌≤◌, List, ◌∷◌, [], ◌++◌, length, get_or, take, sym, ap, subst, ◌∙◌, add-one}
use Rattle.std.proofs.Math.Seq.{take-suc}
use Rattle.std.proofs.lemmas.List.{take_all}
use Rattle.std.specs.List.{AllByRecursion}
use Rattle.std.specs.Result.{OnOk}
use Rattle.xq_trees.proofs.Lists.{all_append}

pub next_taken : {A : Type 0} (all : List A) (i : ℕ) (x : A) → i < length all → x ≡ get_or all i x →
    take (i + 1) all ≡ take i all ++ x ∷ []
next_taken all i x lt is = rw add-one (take-suc all i x lt ∙ ap (λ z. take i all ++ z ∷ []) (sym is))

pub all_next : {A : Type 0} (P : A → Type 0) (all : List A) (i : ℕ) (x : A) → AllByRecursion P (take i all) →
    i < length all → x ≡ get_or all i x → P x → AllByRecursion P (take (i + 1) all)
all_next {A} P all i x h lt is px =
    let e : take (i + 1) all ≡ take i all ++ x ∷ [] = rw add-one (take-suc all i x lt ∙ ap (λ z. take i all ++ z ∷ []) (sym is)) in
    subst (AllByRecursion P) (sym e) (all_append P (take i all) (x ∷ []) h (px, tt))

pub all_done : {A : Type 0} (P : A → Type 0) (all : List A) (i : ℕ) → length all ≤ i → AllByRecursion P (take i all) →
    AllByRecursion P all
all_done P all i h k = subst (AllByRecursion P) (take_all i all h) k

-- what holds anyway
pub on_ok : {T E P : Type 0} (r : Result T E) → P → OnOk r P
on_ok (Ok x) h = h
on_ok (Err e) h = tt
