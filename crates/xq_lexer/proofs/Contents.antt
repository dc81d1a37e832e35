-- The content of a string: what is written is read, what is read was written, and where a fault is found there is one.
use Rattle.std.proofs.Common.{◌≡◌, ℕ, zero, suc, ◌<◌, ◌≤◌, Bool, true, false, cond, List, [], ◌∷◌, ◌++◌, length, Option, Some, None, Result, Ok, Err, refl, sym, ap, subst, ◌∙◌, arith, append_assoc, inl, inr}
use Rattle.std.specs.Prelude.{◌==◌}
use Rattle.std.proofs.lemmas.List.{length-append}
use borrow.Author.Clash.{clash}
use Rattle.xq_atoms.specs.declared.refusals.Code.{Code}
use Rattle.xq_atoms.specs.declared.refusals.Code.TheVariants.{XPST0003, XQST0090}
use Rattle.xq_atoms.specs.Characters.{is_char}
use Rattle.xq_lexer.specs.Chars.{Text, is_quote, begins}
use Rattle.xq_lexer.specs.Literals.{Reference, reference_text, referred, Piece, plain, doubled, reference, IsPiece, ArePieces, piece_text, content_text}
use Rattle.xq_lexer.specs.TokenFaults.{ContentFault}
use Rattle.xq_lexer.specs.Reading.{read_reference, Inside, closed, one, wrong, after_quote, after_ampersand, inside, with_piece, content_step, content}
use Rattle.xq_lexer.proofs.Classes.{eq_is, quote_no_ampersand, quote_is_char, ampersand_is_char}
use Rattle.xq_lexer.proofs.References.{reference_read, piece_read, end_read, ReadReference, reference_sound}

-- ---- what is next was written

-- what the text at a place inside a string says, by what is read there
abbrev pub Means : ℕ → Text → Inside → Type 0
Means quote t (closed rest) = (t ≡ quote ∷ rest) × (begins (λ c. c == quote) rest ≡ false)
Means quote t (one p rest) = (piece_text quote p ++ rest ≡ t) × IsPiece quote p
Means quote t (wrong c) = ContentFault t c

quote_means : (quote : ℕ) (t : Text) → Means quote (quote ∷ t) (after_quote quote t)
quote_means quote [] = (refl, refl)
quote_means quote (b ∷ t) = go (b == quote) refl
  where
    go : (p : Bool) → (b == quote) ≡ p → Means quote (quote ∷ b ∷ t) (cond p (one doubled t) (closed (b ∷ t)))
    go true e = (ap (λ x. quote ∷ x ∷ t) (sym (eq_is b quote e)), tt)
    go false e = (refl, e)

ampersand_means : (quote : ℕ) (t : Text) (o : Option (Reference × Text)) → read_reference t ≡ o → Means quote (38 ∷ t) (after_ampersand o)
ampersand_means quote t None e = inr (inr (inr (
  record {
    ampersand = refl;
    no_reference = λ r after is whole.
        let tail : reference_text r ++ after ≡ t = cc in
        let some = sym (ap read_reference tail) ∙ reference_read r after is in
        let clash : None ≡ Some (r, after) = sym e ∙ some in
        absurd cc;
  },
  refl,
)))
ampersand_means quote t (Some x) e =
    let r = reference_sound t x.0 x.1 e in
    go r (is_char (referred x.0)) refl
  where
    go : ReadReference t x.0 x.1 → (b : Bool) → is_char (referred x.0) ≡ b → Means quote (38 ∷ t) (cond b (one (reference x.0) x.1) (wrong XQST0090))
    go r true k = (ap (λ (y : Text). 38 ∷ y) r.whole, (r.is, k))
    go r false k = inr (inr (inl (record { reference = x.0; after = x.1; whole = ap (λ (y : Text). 38 ∷ y) r.whole; is_reference = r.is; none = k }, refl)))

char_means : (quote c : ℕ) (t : Text) (p : Bool) → (c == quote) ≡ p → (q : Bool) → (c == 38) ≡ q → (r : Bool) → is_char c ≡ r
    → Means quote (c ∷ t) (cond p (after_quote quote t) (cond q (after_ampersand (read_reference t)) (cond r (one (plain c) t) (wrong XPST0003))))
char_means quote c t true e q k r m = subst (λ x. Means quote (x ∷ t) (after_quote quote t)) (sym (eq_is c quote e)) (quote_means quote t)
char_means quote c t false e true k r m = subst (λ x. Means quote (x ∷ t) (after_ampersand (read_reference t))) (sym (eq_is c 38 k)) (ampersand_means quote t (read_reference t) refl)
char_means quote c t false e false k true m = (refl, rw (e, k, m) refl)
char_means quote c t false e false k false m = inr (inl (c, t, refl, m, refl))

pub inside_means : (quote : ℕ) (t : Text) → Means quote t (inside quote t)
unfolding inside
inside_means quote [] = inl (refl, refl)
inside_means quote (c ∷ t) = char_means quote c t (c == quote) refl (c == 38) refl (is_char c) refl

-- ---- a fault that is there is read

pub fault_read : (quote : ℕ) (rest : Text) (code : Code) → is_quote quote ≡ true → ContentFault rest code → inside quote rest ≡ wrong code
unfolding inside
fault_read quote rest code is (inl h) = rw (h.0, h.1) refl
fault_read quote rest code is (inr (inl h)) =
    let c = h.0 in
    let no_quote : (c == quote) ≡ false = go (c == quote) refl in
    let no_and : (c == 38) ≡ false = also (c == 38) refl in
    rw (h.2, h.4, no_quote, no_and, h.3) refl
  where
    go : (b : Bool) → (h.0 == quote) ≡ b → (h.0 == quote) ≡ false
    go true e = clash (is_char quote) (quote_is_char quote is) (ap is_char (sym (eq_is h.0 quote e)) ∙ h.3)
    go false e = e

    also : (b : Bool) → (h.0 == 38) ≡ b → (h.0 == 38) ≡ false
    also true e = clash (is_char 38) ampersand_is_char (ap is_char (sym (eq_is h.0 38 e)) ∙ h.3)
    also false e = e
fault_read quote rest code is (inr (inr (inl h))) =
    let r = h.0 in
    rw (← r.whole, h.1, quote_no_ampersand quote is, reference_read r.reference r.after r.is_reference, r.none) refl
fault_read quote [] code is (inr (inr (inr h))) = let r = h.0.ampersand in absurd cc
fault_read quote (c ∷ t) code is (inr (inr (inr h))) =
    let c-is = eq_is c 38 h.0.ampersand in
    let none : read_reference t ≡ None = go (read_reference t) refl in
    rw (c-is, h.1, quote_no_ampersand quote is, none) refl
  where
    go : (o : Option (Reference × Text)) → read_reference t ≡ o → read_reference t ≡ None
    go None e = e
    go (Some x) e =
        let r = reference_sound t x.0 x.1 e in
        absurd (h.0.no_reference x.0 x.1 r.is (ap (λ (y : Text). 38 ∷ y) r.whole ∙ ap (λ x. x ∷ t) (sym (eq_is c 38 h.0.ampersand))))

-- ---- the whole content

some_text : (quote : ℕ) (p : Piece) → 0 < length (piece_text quote p)
some_text quote (plain c) = omega arith
some_text quote doubled = omega arith
some_text quote (reference r) = omega arith

pub piece_shorter : (quote : ℕ) (p : Piece) (rest t : Text) → piece_text quote p ++ rest ≡ t → length rest < length t
piece_shorter quote p rest t e =
    let s = some_text quote p in
    let l = ap length e in
    let a = length-append (piece_text quote p) rest in
    omega (arith, s, l, a)

abbrev pub front : List Piece → Result (List Piece × Text) Code → Result (List Piece × Text) Code
front [] r = r
front (p ∷ ps) r = with_piece p (front ps r)

front_closed : (ps : List Piece) (after : Text) → front ps (Ok ([], after)) ≡ Ok (ps, after)
front_closed [] after = refl
front_closed (p ∷ ps) after = ap (with_piece p) (front_closed ps after)

front_wrong : (ps : List Piece) (c : Code) → front ps (Err c) ≡ Err c
front_wrong [] c = refl
front_wrong (p ∷ ps) c = ap (with_piece p) (front_wrong ps c)

-- pieces are read one by one
content_front : (quote : ℕ) (ps : List Piece) (n : ℕ) (u : Text) → is_quote quote ≡ true → ArePieces quote ps → length (content_text quote ps ++ u) < n
    → (k : ℕ) × (content n quote (content_text quote ps ++ u) ≡ front ps (content k quote u)) × (length u < k)
unfolding content
content_front quote [] n u is all len = (n, refl, len)
content_front quote (p ∷ ps) zero u is all len = absurd (omega (arith, len))
content_front quote (p ∷ ps) (suc n) u is all len =
    let t = content_text quote ps ++ u in
    let e = append_assoc (piece_text quote p) (content_text quote ps) u in
    let short = piece_shorter quote p t ((piece_text quote p ++ content_text quote ps) ++ u) (sym e) in
    let more = content_front quote ps n u is all.1 (omega (arith, len, short)) in
    let read : inside quote ((piece_text quote p ++ content_text quote ps) ++ u) ≡ one p t = ap (inside quote) e ∙ piece_read quote p t is all.0 in
    (more.0, ap (content_step (content n quote)) read ∙ ap (with_piece p) more.1, more.2)

content_at : (quote : ℕ) (k : ℕ) (u : Text) → length u < k → (i : Inside) → inside quote u ≡ i → (j : ℕ) × (content k quote u ≡ content_step (content j quote) i)
unfolding content
content_at quote zero u len i e = absurd (omega (arith, len))
content_at quote (suc k) u len i e = (k, ap (content_step (content k quote)) e)

pub content_read : (quote : ℕ) (ps : List Piece) (after : Text) (n : ℕ) → is_quote quote ≡ true → ArePieces quote ps → begins (λ c. c == quote) after ≡ false → length (content_text quote ps ++ quote ∷ after) < n
    → content n quote (content_text quote ps ++ quote ∷ after) ≡ Ok (ps, after)
content_read quote ps after n is all stops len =
    let f = content_front quote ps n (quote ∷ after) is all len in
    let s = content_at quote f.0 (quote ∷ after) f.2 (closed after) (end_read quote after stops) in
    f.1 ∙ ap (front ps) s.1 ∙ front_closed ps after

pub content_fault_read : (quote : ℕ) (ps : List Piece) (rest : Text) (n : ℕ) (c : Code) → is_quote quote ≡ true → ArePieces quote ps → ContentFault rest c → length (content_text quote ps ++ rest) < n
    → content n quote (content_text quote ps ++ rest) ≡ Err c
content_fault_read quote ps rest n c is all fault len =
    let f = content_front quote ps n rest is all len in
    let s = content_at quote f.0 rest f.2 (wrong c) (fault_read quote rest c is fault) in
    f.1 ∙ ap (front ps) s.1 ∙ front_wrong ps c

-- what is read goes on from pieces that stand at the front
longer_content : (quote : ℕ) (ps : List Piece) (r : Result (List Piece × Text) Code) (x : List Piece × Text) → front ps r ≡ Ok x → length (content_text quote ps) ≤ length (content_text quote x.0)
longer_content quote [] r x h = omega arith
longer_content quote (p ∷ ps) r x h = go (front ps r) refl (λ y e. longer_content quote ps r y e) h
  where
    go : (o : Result (List Piece × Text) Code) → front ps r ≡ o → ((y : List Piece × Text) → front ps r ≡ Ok y → length (content_text quote ps) ≤ length (content_text quote y.0)) → with_piece p o ≡ Ok x
        → length (content_text quote (p ∷ ps)) ≤ length (content_text quote x.0)
    go (Ok y) e more h =
        let ih = more y e in
        let pair : (p ∷ y.0, y.1) ≡ x = cc in
        let first : p ∷ y.0 ≡ x.0 = ap (λ (x : List Piece × Text). x.0) pair in
        let a = length-append (piece_text quote p) (content_text quote ps) in
        let b = length-append (piece_text quote p) (content_text quote y.0) in
        let m = ap (λ (ps : List Piece). length (content_text quote ps)) first in
        omega (arith, ih, a, b, m)
    go (Err c) e more h = absurd cc

pub content_most : (quote : ℕ) (ps : List Piece) (rest : Text) (n : ℕ) (x : List Piece × Text) → is_quote quote ≡ true → ArePieces quote ps → length (content_text quote ps ++ rest) < n
    → content n quote (content_text quote ps ++ rest) ≡ Ok x → length (content_text quote ps) ≤ length (content_text quote x.0)
content_most quote ps rest n x is all len h =
    let f = content_front quote ps n rest is all len in
    longer_content quote ps (content f.0 quote rest) x (sym f.1 ∙ h)

pub record Content (quote : ℕ) (t : Text) (x : List Piece × Text) : Type 0 where
  pub whole : content_text quote x.0 ++ quote ∷ x.1 ≡ t
  pub pieces : ArePieces quote x.0
  pub stops : begins (λ c. c == quote) x.1 ≡ false

pub record Wrong (quote : ℕ) (t : Text) (c : Code) : Type 0 where
  pub pieces : List Piece
  pub rest : Text
  pub whole : content_text quote pieces ++ rest ≡ t
  pub are_pieces : ArePieces quote pieces
  pub fault : ContentFault rest c

module _ (quote : ℕ) where
  more_content : (p : Piece) (rest t : Text) (y x : List Piece × Text) → piece_text quote p ++ rest ≡ t → IsPiece quote p → Content quote rest y → (p ∷ y.0, y.1) ≡ x → Content quote t x
  more_content p rest t y x e is inner same = subst (λ (x : List Piece × Text). Content quote t x) same (record {
    whole = append_assoc (piece_text quote p) (content_text quote y.0) (quote ∷ y.1) ∙ ap (λ (u : Text). piece_text quote p ++ u) inner.whole ∙ e;
    pieces = (is, inner.pieces);
    stops = inner.stops;
  })

  more_wrong : (p : Piece) (rest t : Text) (c : Code) → piece_text quote p ++ rest ≡ t → IsPiece quote p → Wrong quote rest c → Wrong quote t c
  more_wrong p rest t c e is inner = record {
    pieces = p ∷ inner.pieces;
    rest = inner.rest;
    whole = append_assoc (piece_text quote p) (content_text quote inner.pieces) inner.rest ∙ ap (λ (u : Text). piece_text quote p ++ u) inner.whole ∙ e;
    are_pieces = (is, inner.are_pieces);
    fault = inner.fault;
  }

  pub content_sound : (n : ℕ) (t : Text) (x : List Piece × Text) → content n quote t ≡ Ok x → Content quote t x
  unfolding content
  content_sound zero t x h = absurd cc
  content_sound (suc n) t x h = go (inside quote t) refl (λ rest y k. content_sound n rest y k) h
    where
      piece : (p : Piece) (rest : Text) → piece_text quote p ++ rest ≡ t → IsPiece quote p → (o : Result (List Piece × Text) Code) → content n quote rest ≡ o → ((y : List Piece × Text) → content n quote rest ≡ Ok y → Content quote rest y) → with_piece p o ≡ Ok x → Content quote t x
      piece p rest e is (Ok y) k ih h = more_content p rest t y x e is (ih y k) cc
      piece p rest e is (Err c) k ih h = absurd cc

      go : (i : Inside) → inside quote t ≡ i → ((rest : Text) (y : List Piece × Text) → content n quote rest ≡ Ok y → Content quote rest y) → content_step (content n quote) i ≡ Ok x → Content quote t x
      go (closed rest) e ih h =
          let m : Means quote t (closed rest) = subst (Means quote t) e (inside_means quote t) in
          let pair : ([], rest) ≡ x = cc in
          subst (λ (x : List Piece × Text). Content quote t x) pair (record { whole = sym m.0; pieces = tt; stops = m.1 })
      go (one p rest) e ih h =
          let m : Means quote t (one p rest) = subst (Means quote t) e (inside_means quote t) in
          piece p rest m.0 m.1 (content n quote rest) refl (ih rest) h
      go (wrong c) e ih h = absurd cc

  pub content_wrong : (n : ℕ) (t : Text) (c : Code) → length t < n → content n quote t ≡ Err c → Wrong quote t c
  unfolding content
  content_wrong zero t c len h = absurd (omega (arith, len))
  content_wrong (suc n) t c len h = go (inside quote t) refl (λ rest k l. content_wrong n rest c l k) h
    where
      piece : (p : Piece) (rest : Text) → piece_text quote p ++ rest ≡ t → IsPiece quote p → (o : Result (List Piece × Text) Code) → content n quote rest ≡ o → (content n quote rest ≡ Err c → Wrong quote rest c) → with_piece p o ≡ Err c → Wrong quote t c
      piece p rest e is (Ok y) k ih h = absurd cc
      piece p rest e is (Err d) k ih h = let same : d ≡ c = cc in more_wrong p rest t c e is (ih (k ∙ ap (λ (c : Code). Err c) same))

      go : (i : Inside) → inside quote t ≡ i → ((rest : Text) → content n quote rest ≡ Err c → length rest < n → Wrong quote rest c) → content_step (content n quote) i ≡ Err c → Wrong quote t c
      go (closed rest) e ih h = absurd cc
      go (one p rest) e ih h =
          let m : Means quote t (one p rest) = subst (Means quote t) e (inside_means quote t) in
          let short = piece_shorter quote p rest t m.0 in
          piece p rest m.0 m.1 (content n quote rest) refl (λ k. ih rest k (omega (arith, len, short))) h
      go (wrong d) e ih h =
          let m : Means quote t (wrong d) = subst (Means quote t) e (inside_means quote t) in
          let same : d ≡ c = cc in
          record { pieces = []; rest = t; whole = refl; are_pieces = tt; fault = subst (ContentFault t) same m }
