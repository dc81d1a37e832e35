-- Sets of texts: what they have, and whether they meet other texts.
use Rattle.std.proofs.Common.{◌≡◌, ℕ, List, [], ◌∷◌, ◌++◌, map, Bool, true, false, cond, ◌||◌, refl, sym, ◌∙◌, ap}
use Rattle.std.specs.Prelude.{String, string_bytes, string_eq}
use Rattle.std.specs.Global.{Global}
use Rattle.std.specs.HashSet.{HashSet, contains_text, contains_by, IsEmpty, Updates}
use Rattle.std.specs.List.{list_any}
use Rattle.std.specs.Str.{bytes_eq}
use Rattle.std.proofs.lemmas.List.Folds.{list_any-append}
use Rattle.std.proofs.lemmas.Map.Text.{hash_set_updates_text}
use Rattle.xq_atoms.specs.Text.{Text, text_eq}
use Rattle.xq_joins.specs.Keys.{meet}
use Rattle.xq_joins.specs.private.TextSets.{IsSetOf}
use Rattle.xq_joins.proofs.Meeting.{any_same, meet_swap, or_none, text_eq_swap}

pub none_in : {S : Type 0} (set : HashSet (String Global) S) → IsEmpty set → IsSetOf set []
none_in set empty q = ap (list_any (λ k. bytes_eq q (string_bytes k))) empty

or_last : (b c : Bool) → cond b true c ≡ (c || (b || false))
or_last true true = refl
or_last true false = refl
or_last false true = refl
or_last false false = refl

-- with one text more
pub one_more_in : {S : Type 0} (set more : HashSet (String Global) S) (key : String Global) (ts : List Text) (t : Text) → IsSetOf set ts → Updates string_eq set more key true → string_bytes key ≡ t
    → IsSetOf more (ts ++ t ∷ [])
one_more_in set more key ts t is updates same q =
    hash_set_updates_text (string_bytes key) set more true updates q
    ∙ (λ i. cond (text_eq (same i) q) true (is q i))
    ∙ or_last (text_eq t q) (list_any (text_eq q) ts)
    ∙ ap (λ b. list_any (text_eq q) ts || (b || false)) (text_eq_swap t q)
    ∙ sym (list_any-append (text_eq q) ts (t ∷ []))

-- some of these texts are in the set just where they meet its texts
pub set_meets : {S : Type 0} (set : HashSet (String Global) S) (texts led : List Text) → IsSetOf set texts → list_any (contains_text set) led ≡ meet texts led
set_meets set texts led is = any_same (contains_text set) (λ q. list_any (text_eq q) texts) led is ∙ sym (meet_swap texts led)
