-- The documents that an opening found, as they are kept.
use Rattle.std.proofs.Common.{◌≡◌, inl, inr, ℕ, List, [], ◌∷◌, ◌++◌, map, length, refl, sym, ap, subst, ◌∙◌, arith}
use Rattle.std.specs.List.{AllByRecursion, enumerate_from}
use Rattle.std.proofs.lemmas.List.{map-append}
use Rattle.xq_trees.specs.Rows.{Row, rows}
use Rattle.xq_trees.specs.Tree.{Tree}
use Rattle.xq_tables.specs.Found.{IsFoundAt, found_address}
use Rattle.xq_tables.specs.declared.findings.FoundDocument.{FoundDocument}
use Rattle.xq_store.specs.declared.shelves.CachedDocument.{CachedDocument}
use Rattle.xq_store.specs.private.Shelves.{AreFronts, IsFront, IsFrontOf}
use Rattle.xq_store.proofs.FrontLaws.{all-first, first_kept}

-- all rows of a tree are its first rows
whole_front : (t : Tree) (rs : List Row) → rs ≡ rows t → IsFront t (enumerate_from 0 rs)
whole_front t rs is = subst (λ l. IsFront t (enumerate_from 0 l)) (sym (is ∙ sym (all-first (length (rows t)) (rows t) (omega arith)))) (first_kept t (length (rows t)))

no_front : (t : Tree) (rs : List Row) → rs ≡ [] → IsFront t (enumerate_from 0 rs)
no_front t rs none = subst (λ l. IsFront t (enumerate_from 0 l)) (sym none) (first_kept t 0)

found_front : (t : Tree) (d : FoundDocument) → IsFoundAt t d → IsFront t (enumerate_from 0 d.rows.rows)
found_front t d (inl none) = no_front t d.rows.rows none
found_front t d (inr all) = whole_front t d.rows.rows all

parted : {X : Type 0} (P : X → Type 0) (xs : List X) (x : X) → AllByRecursion P (xs ++ x ∷ []) → AllByRecursion P xs × P x
parted P [] x all = (tt, all.0)
parted P (y ∷ xs) x all = let more = parted P xs x all.1 in ((all.0, more.0), more.1)

fronts_more : (trees : List Tree) (fronts : List CachedDocument) (t : Tree) (v : CachedDocument) → AreFronts trees fronts → IsFrontOf t v → AreFronts (trees ++ t ∷ []) (fronts ++ v ∷ [])
fronts_more [] [] t v are is = (is, tt)
fronts_more [] (f ∷ fronts) t v are is = elim are [ ]
fronts_more (u ∷ trees) [] t v are is = elim are [ ]
fronts_more (u ∷ trees) (f ∷ fronts) t v are is = (are.0, fronts_more trees fronts t v are.1 is)

-- what is kept of documents that were found, and of one more
pub fronts_pushed : (docs : List FoundDocument) (d : FoundDocument) (fronts : List CachedDocument) (v : CachedDocument)
    → ((f : List ℕ → Tree) → AllByRecursion (λ d. IsFoundAt (f (found_address d)) d) docs → AreFronts (map f (map found_address docs)) fronts)
    → ((t : Tree) → IsFront t (enumerate_from 0 d.rows.rows) → IsFrontOf t v)
    → (f : List ℕ → Tree) → AllByRecursion (λ d. IsFoundAt (f (found_address d)) d) (docs ++ d ∷ []) → AreFronts (map f (map found_address (docs ++ d ∷ []))) (fronts ++ v ∷ [])
fronts_pushed docs d fronts v were own f all =
    let both = parted (λ d. IsFoundAt (f (found_address d)) d) docs d all in
    let t = f (found_address d) in
    let more = fronts_more (map f (map found_address docs)) fronts t v (were f both.0) (own t (found_front t d both.1)) in
    subst (λ l. AreFronts l (fronts ++ v ∷ [])) (sym (ap (map f) (map-append found_address docs (d ∷ [])) ∙ map-append f (map found_address docs) (found_address d ∷ []))) more
