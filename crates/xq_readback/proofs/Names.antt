-- A name has no white space, so it is taken as it is.
use Rattle.std.proofs.Common.{◌≡◌, ℕ, suc, ◌<◌, ◌≤◌, Bool, true, false, not, List, [], ◌∷◌, length, get_or, Ok, arith, refl, sym, ap, ◌∙◌, ⊎_elim, ◌⊎◌, inl, inr}
use Rattle.std.specs.Prelude.{encode_utf8, encode_utf8_all, IsUtf8, codes, bytes_eq}
use Rattle.std.specs.List.{list_all}
use Rattle.std.specs.Str.{chars}
use Rattle.std.proofs.lemmas.Bool.{and_parts, false≢true, cases_lt}
use Rattle.std.proofs.lemmas.Bool.Decides.{nat_tests}
use Rattle.std.proofs.lemmas.List.Folds.{list_all-append}
use Rattle.std.proofs.lemmas.Str.{encode_ascii, encodes-chars}
use Rattle.xq_atoms.proofs.PrintLemmas.{high-encode}
use Rattle.xq_atoms.specs.Text.{Text}
use Rattle.xq_atoms.specs.Atom.{String}
use Rattle.xq_atoms.specs.Characters.{is_space, is_name, is_name_start, is_name_char}
use Rattle.xq_atoms.specs.Spaces.{trimmed}
use Rattle.xq_readback.proofs.Visible.{visible, trimmed-visible}
use Rattle.xq_lexer.proofs.Forms.{name_chars}
use Rattle.xq_expressions.specs.declared.operators.NamedNode.TheVariants as named
use Rattle.xq_trees.specs.Names.{is_attribute_name, is_target, is_xml}
use Rattle.xq_meaning.specs.Content.{judged_name, name_of}

visible-high : (b : ℕ) → 128 ≤ b → visible b ≡ true
visible-high b h = grind (arith, nat_tests)

-- bytes from 128 on are no white space
all_high : (bs : List ℕ) → ((k : ℕ) → k < length bs → 128 ≤ get_or bs k 0) → list_all visible bs ≡ true
all_high [] h = refl
all_high (b ∷ bs) h = rw (visible-high b (h 0 (omega arith)), all_high bs (λ k l. h (suc k) (omega (arith, l)))) refl

space_is : (c : ℕ) → is_space c ≡ true → (c ≡ 32) ⊎ ((c ≡ 9) ⊎ ((c ≡ 13) ⊎ (c ≡ 10)))
space_is c h = grind (arith, nat_tests)

-- white space is no part of a name
space_no_name : (c : ℕ) → is_space c ≡ true → is_name_char c ≡ false
unfolding is_name_char is_name_start
space_no_name c h = elim (space_is c h) [
  | inl e ↦ rw e refl
  | inr (inl e) ↦ rw e refl
  | inr (inr (inl e)) ↦ rw e refl
  | inr (inr (inr e)) ↦ rw e refl
]

name_visible : (c : ℕ) → is_name_char c ≡ true → visible c ≡ true
name_visible c h = by_test (is_space c) refl
  where
    by_test : (b : Bool) → is_space c ≡ b → visible c ≡ true
    by_test true e = absurd (false≢true (sym (space_no_name c e) ∙ h))
    by_test false e = rw e refl

-- nor are the bytes of a character of a name
encoded_visible : (c : ℕ) → is_name_char c ≡ true → list_all visible (encode_utf8 c) ≡ true
encoded_visible c h =
    ⊎_elim
    (λ low. ap (list_all visible) (encode_ascii c low) ∙ rw (name_visible c h) refl)
    (λ high. all_high (encode_utf8 c) (λ k l. high-encode c k high l))
    (cases_lt c 128)

all_encoded : (cs : List ℕ) → list_all is_name_char cs ≡ true → list_all visible (encode_utf8_all cs) ≡ true
all_encoded [] h = refl
all_encoded (c ∷ cs) h =
    let p = and_parts (is_name_char c) (list_all is_name_char cs) h in
    list_all-append visible (encode_utf8 c) (encode_utf8_all cs) ∙ rw (encoded_visible c p.0, all_encoded cs p.1) refl

pub all_visible : (n : Text) → IsUtf8 n → is_name (chars n) ≡ true → list_all visible n ≡ true
all_visible n text h = ap (list_all visible) (sym (encodes-chars n text)) ∙ all_encoded (chars n) (name_chars (chars n) h)

-- a name has no white space at its ends
pub trimmed-name : (n : Text) → IsUtf8 n → is_name (chars n) ≡ true → trimmed n ≡ n
trimmed-name n text h = trimmed-visible n (all_visible n text h)

pub not-false : (b : Bool) → not b ≡ true → b ≡ false
not-false true h = absurd (false≢true h)
not-false false h = refl

-- the names of nodes are let through as they are
pub element-name : (n : Text) → IsUtf8 n → is_name (chars n) ≡ true → name_of named.Element (String n ∷ []) ≡ Ok n
element-name n text h = ap (judged_name named.Element) (trimmed-name n text h) ∙ rw h refl

pub attribute-name : (n : Text) → IsUtf8 n → is_attribute_name n ≡ true → name_of named.Attribute (String n ∷ []) ≡ Ok n
attribute-name n text h =
    let p = and_parts (is_name (chars n)) (not (bytes_eq n (codes "xmlns"))) h in
    ap (judged_name named.Attribute) (trimmed-name n text p.0) ∙ rw (not-false (bytes_eq n (codes "xmlns")) p.1, p.0) refl

pub target-name : (n : Text) → IsUtf8 n → is_target n ≡ true → name_of named.ProcessingInstruction (String n ∷ []) ≡ Ok n
target-name n text h =
    let p = and_parts (is_name (chars n)) (not (is_xml n)) h in
    ap (judged_name named.ProcessingInstruction) (trimmed-name n text p.0) ∙ rw (p.0, not-false (is_xml n) p.1) refl
