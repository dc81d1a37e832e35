-- Where a word stands in a text.
use Rattle.std.proofs.Common.{◌≡◌, ◌≢◌, ℕ, zero, suc, ◌+◌, ◌<◌, ◌≤◌, List, [], ◌∷◌, ◌++◌, length, take, drop, Bool, true, false, ◌||◌, ◌↔◌, cond, arith, refl, sym, ap, ◌∙◌, ⊎_elim}
use Rattle.std.specs.Str.Iter.{HasSubslice}
use Rattle.std.proofs.lemmas.Slice.Eq.{starts_is}
use Rattle.std.proofs.lemmas.Bool.{false≢true, false_from_ne_true, or_cases, or_right}
use Rattle.std.proofs.lemmas.Bool.Decides.{Decides-eqb}
use Rattle.xq_atoms.specs.Text.{Text}
use Rattle.xq_trees.specs.Names.{holds}
use Rattle.xq_meaning.specs.Texts.{begins, before_first, after_first, substring_after}

-- what the test for a beginning says
begins-is : (word t : Text) → (begins word t ≡ true → t ≡ word ++ drop (length word) t) × ((rest : Text) → t ≡ word ++ rest → begins word t ≡ true)
begins-is word t = starts_is Decides-eqb t word (begins word t) refl

begins-false : (word t : Text) → ((rest : Text) → t ≢ word ++ rest) → begins word t ≡ false
begins-false word t lacks = false_from_ne_true (begins word t) (λ e. lacks (drop (length word) t) ((begins-is word t).0 e))

-- the bytes of the word do not begin there
abbrev pub Lacks : Text → Text → ℕ → Type 0
Lacks word t i = (rest : Text) → drop i t ≢ word ++ rest

nothing : (word rest : Text) → [] ≡ word ++ rest → word ≡ []
nothing [] rest e = refl
nothing (w ∷ ws) rest e = absurd (cc)

-- the text from the first place of the word on
pub record Found (word t : Text) (i : ℕ) : Type 0 where
  pub holds : holds word t ≡ true
  pub before : before_first word t ≡ take i t
  pub after : after_first word t ≡ drop (i + length word) t

drop-nil : (k : ℕ) → drop k (let none : List ℕ = [] in none) ≡ []
drop-nil zero = refl
drop-nil (suc k) = refl

pub found_at : (word t : Text) (i : ℕ) → ((k : ℕ) → k < i → Lacks word t k) → (rest : Text) → drop i t ≡ word ++ rest → Found word t i
found_at word [] zero lacks rest e = record { holds = ap (λ w. holds w []) (nothing word rest e); before = refl; after = sym (drop-nil (0 + length word)) }
found_at word [] (suc i) lacks rest e = record { holds = ap (λ w. holds w []) (nothing word rest e); before = refl; after = sym (drop-nil (suc i + length word)) }
found_at word (c ∷ cs) zero lacks rest e =
    let yes = (begins-is word (c ∷ cs)).1 rest e in
    record { holds = ap (λ b. b || holds word cs) yes; before = ap (λ b. cond b [] (c ∷ before_first word cs)) yes; after = ap (λ b. cond b (drop (length word) (c ∷ cs)) (after_first word cs)) yes ∙ ap (λ n. drop n (c ∷ cs)) (let s : length word ≡ 0 + length word = omega arith in s) }
found_at word (c ∷ cs) (suc i) lacks rest e =
    let nowhere = begins-false word (c ∷ cs) (lacks 0 (omega arith)) in
    let more = found_at word cs i (λ k h. lacks (suc k) (omega arith)) rest e in
    record { holds = ap (λ b. b || holds word cs) nowhere ∙ more.holds; before = ap (λ b. cond b [] (c ∷ before_first word cs)) nowhere ∙ ap (λ l. c ∷ l) more.before; after = ap (λ b. cond b (drop (length word) (c ∷ cs)) (after_first word cs)) nowhere ∙ more.after ∙ ap (λ n. drop n (c ∷ cs)) (let s : suc (i + length word) ≡ suc i + length word = omega arith in s) }

pub record Missing (word t : Text) : Type 0 where
  pub holds : holds word t ≡ false
  pub after : after_first word t ≡ []

pub missing : (word t : Text) → ((k : ℕ) → k ≤ length t → Lacks word t k) → Missing word t
missing [] [] lacks = absurd (lacks 0 (omega arith) [] refl)
missing (w ∷ ws) [] lacks = record { holds = refl; after = refl }
missing word (c ∷ cs) lacks =
    let nowhere = begins-false word (c ∷ cs) (lacks 0 (omega arith)) in
    let more = missing word cs (λ k h. lacks (suc k) (omega arith)) in
    record { holds = ap (λ b. b || holds word cs) nowhere ∙ more.holds; after = ap (λ b. cond b (drop (length word) (c ∷ cs)) (after_first word cs)) nowhere ∙ more.after }

holds-from : (word t before after : Text) → t ≡ before ++ (word ++ after) → holds word t ≡ true
holds-from [] [] before after e = refl
holds-from (w ∷ ws) [] [] after e = absurd (cc)
holds-from (w ∷ ws) [] (b ∷ bs) after e = absurd (cc)
holds-from word (c ∷ cs) [] after e = ap (λ b. b || holds word cs) ((begins-is word (c ∷ cs)).1 after e)
holds-from word (c ∷ cs) (b ∷ bs) after e = or_right (begins word (c ∷ cs)) (holds word cs) (holds-from word cs bs after (cc))

subslice_from : (word t : Text) → holds word t ≡ true → HasSubslice t word
subslice_from [] [] e = ([], [], refl)
subslice_from (w ∷ ws) [] e = absurd (false≢true e)
subslice_from word (c ∷ cs) e =
    ⊎_elim
    (λ yes. ([], drop (length word) (c ∷ cs), (begins-is word (c ∷ cs)).0 yes))
    (λ later. let more = subslice_from word cs later in (c ∷ more.0, more.1, ap (λ l. c ∷ l) more.2))
    (or_cases (begins word (c ∷ cs)) (holds word cs) e)

pub holds_from_iff : (r : Bool) (word t : Text) → (r ≡ true) ↔ HasSubslice t word → r ≡ holds word t
holds_from_iff true word t same = let there = same.0 refl in sym (holds-from word t there.0 there.1 there.2)
holds_from_iff false word t same = sym (false_from_ne_true (holds word t) (λ e. false≢true (same.1 (subslice_from word t e))))

pub substring_after-found : (word t : Text) (i j : ℕ) → ((k : ℕ) → k < i → Lacks word t k) → (rest : Text) → drop i t ≡ word ++ rest → j ≡ i + length word → drop j t ≡ substring_after t word
substring_after-found [] t zero j lacks rest e is = ap (λ k. drop k t) (let z : j ≡ 0 = omega (arith, is) in z)
substring_after-found [] t (suc i) j lacks rest e is = absurd (lacks 0 (omega arith) t refl)
substring_after-found (w ∷ ws) t i j lacks rest e is = ap (λ k. drop k t) is ∙ sym (found_at (w ∷ ws) t i lacks rest e).after

pub substring_after-missing : (word t : Text) → ((k : ℕ) → k ≤ length t → Lacks word t k) → [] ≡ substring_after t word
substring_after-missing [] t lacks = absurd (lacks 0 (omega arith) t refl)
substring_after-missing (w ∷ ws) t lacks = sym (missing (w ∷ ws) t lacks).after
