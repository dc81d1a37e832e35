-- Tuples at the numbers that were sorted, and those of groups.
use Rattle.std.proofs.Common.{◌≡◌, ℕ, zero, suc, ◌+◌, ◌<◌, List, [], ◌∷◌, map, length, get_or, ap, sym, subst, ◌∙◌, arith}
use Rattle.std.specs.Prelude.{Option}
use Rattle.std.specs.Global.{Vec}
use Rattle.std.specs.List.{AllByRecursion, flat_map, range_with_len, zip}
use Rattle.std.proofs.lemmas.List.{length-map}
use Rattle.std.proofs.lemmas.List.Folds.{flat_map-map}
use Rattle.xq_atoms.specs.Atom.{Atomic}
use Rattle.xq_atoms.specs.Compare.{Key}
use Rattle.xq_atoms.specs.declared.atoms.Atom.{Atom}
use Rattle.xq_atoms.specs.declared.atoms.GroupKey.{GroupKey}
use Rattle.xq_trees.specs.Items.{ItemView, Value}
use Rattle.xq_trees.specs.Tuples.{Tuple, grouped_tuple, groups, same_keys, sorted}
use Rattle.xq_tuples.specs.declared.rows.OrderSpec.{OrderSpec}
use Rattle.xq_tuples.specs.private.Groups.{group_of}
use Rattle.xq_tuples.specs.private.Ranks.{by_keys, by_keys_at, keys_at, with_keys}
use Rattle.xq_tuples.proofs.Lists.{map-map, by_number}
use Rattle.xq_tuples.proofs.Laid.{AreWide, Stands, stands, wide_get}
use Rattle.xq_tuples.proofs.GroupWidths.{wide_groups}
use Rattle.xq_tuples.proofs.Sorting.{each_sorted, sorted-map}

each_number : (P : ℕ → Type 0) (a n : ℕ) → ((i : ℕ) → i < n → P (a + i)) → AllByRecursion P (range_with_len a n)
each_number P a zero h = tt
each_number P a (suc n) h =
    let first : a + 0 ≡ a = omega arith in
    (subst P first (h 0 (omega arith)), each_number P (a + 1) n (λ i l. (let s : a + suc i ≡ a + 1 + i = omega arith in subst P s (h (suc i) (omega (arith, l))))))

each_mapped : {X Y : Type 0} (P : Y → Type 0) (f : X → Y) (xs : List X) → AllByRecursion (λ x. P (f x)) xs → AllByRecursion P (map f xs)
each_mapped P f [] h = tt
each_mapped P f (x ∷ xs) h = (h.0, each_mapped P f xs h.1)

module _ (specs : List OrderSpec) (held : List (Vec GroupKey)) (stream : List (Tuple ItemView)) where
  abbrev at : ℕ → Tuple ItemView
  at n = get_or stream n []

  abbrev numbers : List ℕ
  numbers = range_with_len 0 (length stream)

  -- the tuples at the sorted numbers are the sorted tuples
  in_order : map at (sorted (by_keys_at specs held) numbers) ≡ map (λ p. p.0) (sorted (by_keys specs) (with_keys held stream))
  in_order =
      let both : ℕ → Tuple ItemView × List Key = λ n. (at n, keys_at n held) in
      let all = by_number (λ n. keys_at n held) [] stream 0 stream (λ i l. (let z : 0 + i ≡ i = omega arith in ap at z)) in
      sym (map-map (λ (p : Tuple ItemView × List Key). p.0) both (sorted (by_keys_at specs held) numbers)) ∙ ap (map (λ (p : Tuple ItemView × List Key). p.0)) (sorted-map (by_keys specs) both numbers ∙ ap (sorted (by_keys specs)) all)

  wide_in_order : (w : ℕ) → AreWide w stream → AreWide w (map at (sorted (by_keys_at specs held) numbers))
  wide_in_order w h =
      let wide : ℕ → Type 0 = λ n. length (at n) ≡ w in
      each_mapped (λ (t : Tuple ItemView). length t ≡ w) at (sorted (by_keys_at specs held) numbers) (each_sorted wide (by_keys_at specs held) numbers (each_number wide 0 (length stream) (λ i l. (let z : i ≡ 0 + i = omega arith in subst wide z (wide_get w i stream h l)))))

  pub arranged_stand : (w count n : ℕ) (slots : List (List ItemView)) (order : List ℕ) → AreWide w stream → n ≡ length stream → order ≡ sorted (by_keys_at specs held) (range_with_len 0 n) → slots ≡ flat_map (λ n. get_or stream n []) order → count ≡ length order
      → Stands count w slots (map (λ p. p.0) (sorted (by_keys specs) (with_keys held stream)))
  arranged_stand w count n slots order h e is laid_as c =
      let all : order ≡ sorted (by_keys_at specs held) numbers = is ∙ ap (λ m. sorted (by_keys_at specs held) (range_with_len 0 m)) e in
      let ts : map at order ≡ map (λ p. p.0) (sorted (by_keys specs) (with_keys held stream)) = ap (map at) all ∙ in_order in
      subst (Stands count w slots) ts
      (stands w count slots (map at order) (subst (λ l. AreWide w (map at l)) (sym all) (wide_in_order w h)) (record { counted = c ∙ sym (length-map order at); are = laid_as ∙ sym (flat_map-map (λ (t : Tuple ItemView). t) at order) }))

module _ (slots : List ℕ) (columns : List (Vec (Option Atom))) (stream : List (Tuple ItemView)) where
  pub joined_stand : (w count : ℕ) (values : List (List ItemView)) (gathered : List (Vec ℕ)) (keys : List (List (Option Atomic))) → AreWide w stream → map (group_of columns stream) gathered ≡ groups same_keys (zip stream keys)
      → values ≡ flat_map (λ group. grouped_tuple Value slots (group_of columns stream group)) gathered → count ≡ length gathered → Stands count w values (map (grouped_tuple Value slots) (groups same_keys (zip stream keys)))
  joined_stand w count values gathered keys h are laid_as c =
      let tuple : Vec ℕ → Tuple ItemView = λ group. grouped_tuple Value slots (group_of columns stream group) in
      let ts : map tuple gathered ≡ map (grouped_tuple Value slots) (groups same_keys (zip stream keys)) = sym (map-map (grouped_tuple Value slots) (group_of columns stream) gathered) ∙ ap (map (grouped_tuple Value slots)) are in
      stands w count values (map (grouped_tuple Value slots) (groups same_keys (zip stream keys))) (wide_groups slots w stream keys h)
      (record { counted = c ∙ sym (length-map gathered tuple) ∙ ap length ts; are = laid_as ∙ sym (flat_map-map (λ (t : Tuple ItemView). t) tuple gathered) ∙ ap (flat_map (λ t. t)) ts })
