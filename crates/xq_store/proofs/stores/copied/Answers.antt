use Rattle.std.proofs.Common.{◌≡◌, String, Global, List, [], ◌∷◌, map, string_bytes, refl, ap, ◌∙◌}
use Rattle.std.specs.List.{AllZip}
use Rattle.xq_store.proofs.stores.copied.Goals as goal

-- a copy of each text has its bytes
same_texts : (xs ys : List (String Global)) → AllZip (λ s t. string_bytes t ≡ string_bytes s) xs ys → map string_bytes ys ≡ map string_bytes xs
same_texts [] [] e = refl
same_texts [] (y ∷ ys) e = absurd e
same_texts (x ∷ xs) [] e = absurd e
same_texts (x ∷ xs) (y ∷ ys) e = ap (λ t. t ∷ map string_bytes ys) e.0 ∙ ap (λ ts. string_bytes x ∷ ts) (same_texts xs ys e.1)

pub returns : goal.returns
returns c = same_texts c.args.texts.now c.in_ok-to_vec.field-0.items c.in_ok-to_vec.ensures.ok
