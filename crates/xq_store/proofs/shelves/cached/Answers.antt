use Rattle.std.proofs.Common.{◌≡◌, ℕ, List, [], ◌∷◌, ◌++◌, map, string_bytes, sym, ap, subst, ◌∙◌}
use Rattle.std.specs.List.{AllByRecursion}
use Rattle.std.proofs.lemmas.List.{map-append}
use Rattle.xq_trees.specs.Tree.{Tree}
use Rattle.xq_tables.specs.Found.{IsFoundAt, found_address}
use Rattle.xq_store.specs.declared.shelves.CachedDocument.{CachedDocument}
use Rattle.xq_store.specs.private.Shelves.{AreFronts}
use Rattle.xq_store.proofs.Found.{fronts_pushed}
use Rattle.xq_store.proofs.shelves.cached.Goals as goal

pub loop-document-preserved : goal.loop-document-preserved
loop-document-preserved c =
    let so_far = c.loop-document.invariant in
    let before = c.loop-document.yielded in
    let d = c.in-Some.document in
    record {
      listed = ap (map string_bytes) c.in_ok-push.ensures.items ∙ map-append string_bytes c.loop-document.addresses.items (d.address ∷ []) ∙ ap (λ l. l ++ found_address d ∷ []) so_far.listed ∙ sym (map-append found_address before (d ∷ []));
      fronts = subst (λ (l : List CachedDocument). (f : List ℕ → Tree) → AllByRecursion (λ d. IsFoundAt (f (found_address d)) d) (before ++ d ∷ []) → AreFronts (map f (map found_address (before ++ d ∷ []))) l) (sym c.in_ok-push-2.ensures.items)
          (fronts_pushed before d c.loop-document.fronts.items c.of_rows-front.result so_far.fronts c.of_rows-front.ensures);
    }
