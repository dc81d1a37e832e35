-- References and the pieces of a string: what is written is read, and what is read was written.
use Rattle.std.proofs.Common.{◌≡◌, ℕ, ◌<◌, Bool, true, false, cond, [], ◌∷◌, ◌++◌, length, Option, Some, None, refl, sym, ap, subst, ◌∙◌, arith, append_assoc, codes}
use Rattle.std.specs.Prelude.{◌==◌}
use Rattle.std.specs.List.{list_all}
use Rattle.std.proofs.lemmas.Bool.{and_parts}
use Rattle.xq_atoms.specs.Characters.{is_char, is_digit}
use Rattle.xq_lexer.specs.Chars.{Text, is_hex, is_quote, begins}
use Rattle.xq_lexer.specs.Literals.{Reference, less, greater, ampersand, quotation, apostrophe, numbered, hexadecimal, reference_text, IsReference, Piece, plain, doubled, reference, is_plain, IsPiece, piece_text}
use Rattle.xq_lexer.specs.Reading.{span, strip, ended, read_numbered, or_else, then_numbered, read_reference, Inside, closed, one, after_quote, after_ampersand, inside}
use Rattle.xq_lexer.proofs.Spans.{parts, span_exact}
use Rattle.xq_lexer.proofs.Classes.{digit_no_x, eq_is, eq_same, quote_no_ampersand}

-- ---- what is written is read

ended_digits : (make : Text → Reference) (w rest : Text) → 0 < length w → ◌≡◌ {A = Option (Reference × Text)} (ended make (w, 59 ∷ rest)) (Some (make w, rest))
ended_digits make [] rest some = absurd (omega (arith, some))
ended_digits make (c ∷ w) rest some = refl

numbered_at : (w rest : Text) (p : Bool) → list_all is_digit w ≡ true → 0 < length w → ◌≡◌ {A = Option (Reference × Text)} (read_numbered (w ++ 59 ∷ rest)) (Some (numbered w, rest))
unfolding read_numbered
numbered_at [] rest p all some = absurd (omega (arith, some))
numbered_at (c ∷ w) rest p all some = rw (digit_no_x c (and_parts (is_digit c) (list_all is_digit w) all).0) (ap (ended numbered) (span_exact is_digit (c ∷ w) (59 ∷ rest) all refl))

hexadecimal_at : (w rest : Text) → list_all is_hex w ≡ true → 0 < length w → ◌≡◌ {A = Option (Reference × Text)} (read_numbered (120 ∷ (w ++ 59 ∷ rest))) (Some (hexadecimal w, rest))
unfolding read_numbered
hexadecimal_at w rest all some = ap (ended hexadecimal) (span_exact is_hex w (59 ∷ rest) all refl) ∙ ended_digits hexadecimal w rest some

pub reference_read : (r : Reference) (after : Text) → IsReference r → ◌≡◌ {A = Option (Reference × Text)} (read_reference (reference_text r ++ after)) (Some (r, after))
unfolding read_reference
reference_read less after is = refl
reference_read greater after is = refl
reference_read ampersand after is = refl
reference_read quotation after is = refl
reference_read apostrophe after is = refl
reference_read (numbered w) after is = ap read_numbered (append_assoc w (59 ∷ []) after) ∙ numbered_at w after true is.0 is.1
reference_read (hexadecimal w) after is = ap (λ (y : Text). read_numbered (120 ∷ y)) (append_assoc w (59 ∷ []) after) ∙ hexadecimal_at w after is.0 is.1

quote_at : (quote : ℕ) (t : Text) → ◌≡◌ {A = Inside} (inside quote (quote ∷ t)) (after_quote quote t)
unfolding inside
quote_at quote t = rw (eq_same quote) refl

ampersand_at : (quote : ℕ) (t : Text) → is_quote quote ≡ true → ◌≡◌ {A = Inside} (inside quote (38 ∷ t)) (after_ampersand (read_reference t))
unfolding inside
ampersand_at quote t is = rw (quote_no_ampersand quote is) refl

-- the tests of a character that stands for itself
plain_parts : (quote c : ℕ) → is_plain quote c ≡ true → ((c == quote) ≡ false) × ((c == 38) ≡ false) × (is_char c ≡ true)
plain_parts quote c h = go (c == quote) refl (c == 38) refl (is_char c) refl
  where
    go : (p : Bool) → (c == quote) ≡ p → (q : Bool) → (c == 38) ≡ q → (r : Bool) → is_char c ≡ r → ((c == quote) ≡ false) × ((c == 38) ≡ false) × (is_char c ≡ true)
    go false e false k true m = (e, k, m)
    go true e q k r m = absurd cc
    go false e true k r m = absurd cc
    go false e false k false m = absurd cc

pub piece_read : (quote : ℕ) (p : Piece) (rest : Text) → is_quote quote ≡ true → IsPiece quote p → ◌≡◌ {A = Inside} (inside quote (piece_text quote p ++ rest)) (one p rest)
unfolding inside
piece_read quote (plain c) rest is h = let t = plain_parts quote c h in rw (t.0, t.1, t.2) refl
piece_read quote doubled rest is h = quote_at quote (quote ∷ rest) ∙ rw (eq_same quote) refl
piece_read quote (reference r) rest is h = ampersand_at quote (reference_text r ++ rest) is ∙ ap after_ampersand (reference_read r rest h.0) ∙ rw h.1 refl

-- the end of a string
pub end_read : (quote : ℕ) (after : Text) → begins (λ c. c == quote) after ≡ false → ◌≡◌ {A = Inside} (inside quote (quote ∷ after)) (closed after)
end_read quote [] h = quote_at quote []
end_read quote (b ∷ t) h = quote_at quote (b ∷ t) ∙ rw h refl

-- ---- what is read was written

pub record Stripped (word t rest : Text) : Type 0 where
  pub whole : word ++ rest ≡ t

strip_at : (a c : ℕ) (word t rest : Text) (b : Bool) → (c == a) ≡ b → ((rest : Text) → strip word t ≡ Some rest → word ++ rest ≡ t) → ◌≡◌ {A = Option Text} (cond b (strip word t) None) (Some rest) → a ∷ word ++ rest ≡ c ∷ t
strip_at a c word t rest true e ih h = let i = ih rest h in let same = eq_is c a e in ap (λ (y : Text). a ∷ y) i ∙ ap (λ x. x ∷ t) (sym same)
strip_at a c word t rest false e ih h = absurd cc

pub stripped : (word t rest : Text) → strip word t ≡ Some rest → word ++ rest ≡ t
stripped [] t rest h = cc
stripped (a ∷ word) [] rest h = absurd cc
stripped (a ∷ word) (c ∷ t) rest h = strip_at a c word t rest (c == a) refl (stripped word t) h

pub record ReadReference (t : Text) (r : Reference) (rest : Text) : Type 0 where
  pub whole : reference_text r ++ rest ≡ t
  pub is : IsReference r

-- what `ended` gives
ended_is : (make : Text → Reference) (x : Text × Text) (r : Reference) (rest : Text) → ended make x ≡ Some (r, rest) → (make x.0 ≡ r) × (59 ∷ rest ≡ x.1) × (0 < length x.0)
ended_is make x r rest h = go x.0 x.1 h
  where
    last : (w : Text) (c d : ℕ) (u : Text) (b : Bool) → (d == 59) ≡ b → ◌≡◌ {A = Option (Reference × Text)} (cond b (Some (make (c ∷ w), u)) None) (Some (r, rest)) → (make (c ∷ w) ≡ r) × (59 ∷ rest ≡ d ∷ u) × (0 < length (c ∷ w))
    last w c d u true e h = let pair : ◌≡◌ {A = Reference × Text} (make (c ∷ w), u) (r, rest) = cc in let is = eq_is d 59 e in (ap (λ (x : Reference × Text). x.0) pair, ap (λ (y : Text). 59 ∷ y) (sym (ap (λ (x : Reference × Text). x.1) pair)) ∙ ap (λ x. x ∷ u) (sym is), omega arith)
    last w c d u false e h = absurd cc

    go : (w u : Text) → ended make (w, u) ≡ Some (r, rest) → (make w ≡ r) × (59 ∷ rest ≡ u) × (0 < length w)
    go [] u h = absurd cc
    go (c ∷ w) [] h = absurd cc
    go (c ∷ w) (d ∷ u) h = last w c d u (d == 59) refl h

numbered_whole : (t : Text) (r : Reference) (rest : Text) → ended numbered (span is_digit t) ≡ Some (r, rest) → ReadReference (35 ∷ t) r rest
numbered_whole t r rest h =
    let e = ended_is numbered (span is_digit t) r rest h in
    let p = parts is_digit t in
    let w = (span is_digit t).0 in
    subst (λ (r : Reference). ReadReference (35 ∷ t) r rest) e.0 (record {
      whole = ap (λ (y : Text). 35 ∷ y) (append_assoc w (59 ∷ []) rest ∙ ap (λ (y : Text). w ++ y) e.1 ∙ p.whole);
      is = (p.all, e.2);
    })

hexadecimal_whole : (t : Text) (r : Reference) (rest : Text) → ended hexadecimal (span is_hex t) ≡ Some (r, rest) → ReadReference (35 ∷ 120 ∷ t) r rest
hexadecimal_whole t r rest h =
    let e = ended_is hexadecimal (span is_hex t) r rest h in
    let p = parts is_hex t in
    let w = (span is_hex t).0 in
    subst (λ (r : Reference). ReadReference (35 ∷ 120 ∷ t) r rest) e.0 (record {
      whole = ap (λ (y : Text). 35 ∷ 120 ∷ y) (append_assoc w (59 ∷ []) rest ∙ ap (λ (y : Text). w ++ y) e.1 ∙ p.whole);
      is = (p.all, e.2);
    })

numbered_sound : (t : Text) (r : Reference) (rest : Text) → read_numbered t ≡ Some (r, rest) → ReadReference (35 ∷ t) r rest
unfolding read_numbered
numbered_sound [] r rest h = absurd cc
numbered_sound (a ∷ t) r rest h = go (a == 120) refl h
  where
    go : (b : Bool) → (a == 120) ≡ b → cond b (ended hexadecimal (span is_hex t)) (ended numbered (span is_digit (a ∷ t))) ≡ Some (r, rest) → ReadReference (35 ∷ a ∷ t) r rest
    go true e h = subst (λ x. ReadReference (35 ∷ x ∷ t) r rest) (sym (eq_is a 120 e)) (hexadecimal_whole t r rest h)
    go false e h = numbered_whole (a ∷ t) r rest h

or_else_sound : (t word : Text) (made : Reference) (o : Option Text) (other : Option (Reference × Text)) → strip word t ≡ o → (reference_text made ≡ word) → IsReference made
    → ((r : Reference) (rest : Text) → other ≡ Some (r, rest) → ReadReference t r rest) → (r : Reference) (rest : Text) → or_else made o other ≡ Some (r, rest) → ReadReference t r rest
or_else_sound t word made (Some u) other e is-word is more r rest h =
    let pair : (made, u) ≡ (r, rest) = cc in
    subst (λ (x : Reference × Text). ReadReference t x.0 x.1) pair (record { whole = ap (λ (y : Text). y ++ u) is-word ∙ stripped word t u e; is = is })
or_else_sound t word made None other e is-word is more r rest h = more r rest h

pub reference_sound : (t : Text) (r : Reference) (rest : Text) → read_reference t ≡ Some (r, rest) → ReadReference t r rest
unfolding read_reference
reference_sound t r rest h =
    or_else_sound t (codes "lt;") less _ _ refl refl tt
    (or_else_sound t (codes "gt;") greater _ _ refl refl tt
    (or_else_sound t (codes "amp;") ampersand _ _ refl refl tt
    (or_else_sound t (codes "quot;") quotation _ _ refl refl tt
    (or_else_sound t (codes "apos;") apostrophe _ _ refl refl tt
    (λ r rest h. last (strip (codes "#") t) refl r rest h))))) r rest h
  where
    last : (o : Option Text) → strip (codes "#") t ≡ o → (r : Reference) (rest : Text) → then_numbered o ≡ Some (r, rest) → ReadReference t r rest
    last None e r rest h = absurd cc
    last (Some u) e r rest h = subst (λ (t : Text). ReadReference t r rest) (stripped (codes "#") t u e) (numbered_sound u r rest h)
