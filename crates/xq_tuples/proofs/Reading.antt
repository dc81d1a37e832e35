-- What is read at a place of a list, as f sees it.
use Rattle.std.proofs.Common.{◌≡◌, ℕ, List, map, length, get_or, Option, Some, None, Bor, ltb, ap, sym, ◌∙◌, arith}
use borrow.Author.Tests.{ltb-true, ltb-false}
use Rattle.std.specs.Option.{option_map, is_some, IfSome}
use Rattle.std.specs.List.{slice_get}
use Rattle.std.proofs.lemmas.List.{get_or-map, get_or_past, length-map}
use Rattle.std.proofs.lemmas.Option.{slice_get-get_or, slice_get-map, slice_get_past}

module _ {A B : Type 0} (f : A → B) where
  pub read_at : (xs : List A) (i : ℕ) (read : Option (Bor A)) → is_some read ≡ ltb i (length xs) → IfSome read (λ x. x.now ≡ get_or xs i x.now) → option_map (λ (x : Bor A). f x.now) read ≡ slice_get (map f xs) i
  read_at xs i None e h = ap (option_map f) (sym (slice_get_past xs i (ltb-false i (length xs) (sym e)))) ∙ sym (slice_get-map f xs i)
  read_at xs i (Some x) e h = ap (λ y. Some (f y)) h ∙ ap (option_map f) (sym (slice_get-get_or xs i x.now (ltb-true i (length xs) (sym e)))) ∙ sym (slice_get-map f xs i)

  -- and a default where there is none
  abbrev pub read_or : B → Option (Bor A) → B
  read_or d None = d
  read_or d (Some x) = f x.now

  pub read_or-is : (d : B) (xs : List A) (i : ℕ) (read : Option (Bor A)) → is_some read ≡ ltb i (length xs) → IfSome read (λ x. x.now ≡ get_or xs i x.now) → read_or d read ≡ get_or (map f xs) i d
  read_or-is d xs i None e h = sym (get_or_past (map f xs) i d (omega (arith, length-map xs f, ltb-false i (length xs) (sym e))))
  read_or-is d xs i (Some x) e h = ap f h ∙ sym (get_or-map f xs i x.now d (ltb-true i (length xs) (sym e)))
