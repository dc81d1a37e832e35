-- What is next inside a string.
use Rattle.std.proofs.Common.{◌≡◌, ℕ, suc, ◌<◌, ◌≤◌, min, Bool, true, false, cond, List, [], ◌∷◌, ◌++◌, length, get_or, drop, map, Option, Some, None, Result, Ok, Err, refl, sym, ap, subst, ◌∙◌, arith, append_assoc, encode_utf8_all, encode_utf8, ◌⊎◌, inl, inr}
use Rattle.std.specs.Prelude.{◌==◌}
use Rattle.std.specs.Char.{IsScalar}
use Rattle.std.proofs.lemmas.List.{append-nil, map-append, length-append}
use Rattle.std.specs.List.{list_all}
use Rattle.std.proofs.lemmas.Str.{encodes-append}
use Rattle.std.proofs.lemmas.Bool.{and_parts, cases_lt}
use Rattle.std.proofs.lemmas.Bool.Decides.{nat_tests}
use Rattle.xq_atoms.specs.declared.refusals.Code.{Code}
use Rattle.xq_atoms.specs.declared.refusals.Code.TheVariants.{XQST0090}
use Rattle.xq_atoms.specs.Characters.{is_char}
use Rattle.xq_lexer.specs.Chars.{Text, is_quote}
use Rattle.xq_lexer.specs.Lexeme.{str}
use Rattle.xq_lexer.specs.Literals.{Reference, referred, Piece, plain, reference, is_plain, IsPiece, ArePieces, piece_text, piece_char, content_text, content_chars}
use Rattle.xq_lexer.specs.Reading.{Inside, closed, one, wrong, after_ampersand, inside, read_reference, content, as_string, read_string, span}
use Rattle.xq_lexer.specs.private.Lexes.{next_inside, referred_char, refers, lexed}
use Rattle.xq_lexer.proofs.Spans.{Parts, parts}
use Rattle.xq_lexer.proofs.Contents.{Means, inside_means, content_read, content_fault_read, piece_shorter}

at : (quote : ℕ) (x : Reference × Text) (b : Bool) → next_inside quote (cond b (one (reference x.0) x.1) (wrong XQST0090)) ≡ cond {A = Result (Option ℕ × Text) Code} b (Ok (Some (referred x.0), x.1)) (Err XQST0090)
at quote x true = refl
at quote x false = refl

pub shown_reference : (quote : ℕ) (o : Option (Reference × Text)) → next_inside quote (after_ampersand o) ≡ referred_char o
shown_reference quote None = refl
shown_reference quote (Some x) = at quote x (is_char (referred x.0))

-- the pieces up to here, and the bytes of their characters
pub record PiecesRead (quote : ℕ) (chars rest bytes : Text) : Type 0 where
  pub pieces : List Piece
  pub whole : content_text quote pieces ++ rest ≡ chars
  pub are_pieces : ArePieces quote pieces
  pub encoded : bytes ≡ encode_utf8_all (content_chars quote pieces)

pub none_read : (quote : ℕ) (chars : Text) → PiecesRead quote chars chars []
none_read quote chars = record { pieces = []; whole = refl; are_pieces = tt; encoded = refl }

-- ---- what is next says what was read

abbrev Shown : Type 0
Shown = Result (Option ℕ × Text) Code

pub shown_one : (quote : ℕ) (i : Inside) (c : ℕ) (after : Text) → next_inside quote i ≡ Ok (Some c, after) → (p : Piece) × (i ≡ one p after) × (piece_char quote p ≡ c)
shown_one quote (closed rest) c after h =
    let pair : ◌≡◌ {A = Option ℕ × Text} (None, rest) (Some c, after) = cc in
    let first : ◌≡◌ {A = Option ℕ} None (Some c) = ap (λ (x : Option ℕ × Text). x.0) pair in
    absurd cc
shown_one quote (one p rest) c after h =
    let pair : ◌≡◌ {A = Option ℕ × Text} (Some (piece_char quote p), rest) (Some c, after) = cc in
    let first : ◌≡◌ {A = Option ℕ} (Some (piece_char quote p)) (Some c) = ap (λ (x : Option ℕ × Text). x.0) pair in
    (p, ap (λ (u : Text). one p u) (ap (λ (x : Option ℕ × Text). x.1) pair), cc)
shown_one quote (wrong d) c after h = absurd cc

pub shown_closed : (quote : ℕ) (i : Inside) (after : Text) → next_inside quote i ≡ Ok (None, after) → i ≡ closed after
shown_closed quote (closed rest) after h =
    let pair : ◌≡◌ {A = Option ℕ × Text} (None, rest) (None, after) = cc in
    ap (λ (u : Text). closed u) (ap (λ (x : Option ℕ × Text). x.1) pair)
shown_closed quote (one p rest) after h =
    let pair : ◌≡◌ {A = Option ℕ × Text} (Some (piece_char quote p), rest) (None, after) = cc in
    let first : ◌≡◌ {A = Option ℕ} (Some (piece_char quote p)) None = ap (λ (x : Option ℕ × Text). x.0) pair in
    absurd cc
shown_closed quote (wrong d) after h = absurd cc

pub shown_wrong : (quote : ℕ) (i : Inside) (c : Code) → next_inside quote i ≡ Err c → i ≡ wrong c
shown_wrong quote (closed rest) c h = absurd cc
shown_wrong quote (one p rest) c h = absurd cc
shown_wrong quote (wrong d) c h = cc

content_push : (quote : ℕ) (ps : List Piece) (p : Piece) → content_text quote (ps ++ p ∷ []) ≡ content_text quote ps ++ piece_text quote p
content_push quote [] p = append-nil (piece_text quote p)
content_push quote (q ∷ ps) p = ap (λ (u : Text). piece_text quote q ++ u) (content_push quote ps p) ∙ sym (append_assoc (piece_text quote q) (content_text quote ps) (piece_text quote p))

pieces_push : (quote : ℕ) (ps : List Piece) (p : Piece) → ArePieces quote ps → IsPiece quote p → ArePieces quote (ps ++ p ∷ [])
pieces_push quote [] p all is = (is, tt)
pieces_push quote (q ∷ ps) p all is = (all.0, pieces_push quote ps p all.1 is)

content_append : (quote : ℕ) (ps qs : List Piece) → content_text quote (ps ++ qs) ≡ content_text quote ps ++ content_text quote qs
content_append quote [] qs = refl
content_append quote (p ∷ ps) qs = ap (λ (u : Text). piece_text quote p ++ u) (content_append quote ps qs) ∙ sym (append_assoc (piece_text quote p) (content_text quote ps) (content_text quote qs))

pieces_append : (quote : ℕ) (ps qs : List Piece) → ArePieces quote ps → ArePieces quote qs → ArePieces quote (ps ++ qs)
pieces_append quote [] qs all more = more
pieces_append quote (p ∷ ps) qs all more = (all.0, pieces_append quote ps qs all.1 more)

-- ---- a run of characters that stand for themselves

plain_text : (quote : ℕ) (w : Text) → content_text quote (map plain w) ≡ w
plain_text quote [] = refl
plain_text quote (c ∷ w) = ap (λ (u : Text). c ∷ u) (plain_text quote w)

plain_chars : (quote : ℕ) (w : Text) → content_chars quote (map plain w) ≡ w
plain_chars quote [] = refl
plain_chars quote (c ∷ w) = ap (λ (u : Text). c ∷ u) (plain_chars quote w)

are_plain : (quote : ℕ) (w : Text) → list_all (is_plain quote) w ≡ true → ArePieces quote (map plain w)
are_plain quote [] all = tt
are_plain quote (c ∷ w) all =
    let h = and_parts (is_plain quote c) (list_all (is_plain quote) w) all in
    (h.0, are_plain quote w h.1)

plain_parts : (quote : ℕ) (rest run after : Text) → ◌≡◌ {A = Text × Text} (run, after) (span (is_plain quote) rest) → Parts (is_plain quote) rest (run, after)
plain_parts quote rest run after h = subst (Parts (is_plain quote) rest) (sym h) (parts (is_plain quote) rest)

pub plain_more : (quote : ℕ) (chars rest bytes run after : Text) → PiecesRead quote chars rest bytes → ◌≡◌ {A = Text × Text} (run, after) (span (is_plain quote) rest) → PiecesRead quote chars after (bytes ++ encode_utf8_all run)
plain_more quote chars rest bytes run after r h =
    let s = plain_parts quote rest run after h in
    let front = content_text quote r.pieces in
    record {
      pieces = r.pieces ++ map plain run;
      whole = ap (λ (u : Text). u ++ after) (content_append quote r.pieces (map plain run) ∙ ap (λ (u : Text). front ++ u) (plain_text quote run)) ∙ append_assoc front run after ∙ ap (λ (u : Text). front ++ u) s.whole ∙ r.whole;
      are_pieces = pieces_append quote r.pieces (map plain run) r.are_pieces (are_plain quote run s.all);
      encoded = ap (λ (u : Text). u ++ encode_utf8_all run) r.encoded
          ∙ sym (encodes-append (content_chars quote r.pieces) run)
          ∙ ap encode_utf8_all (ap (λ (u : Text). content_chars quote r.pieces ++ u) (sym (plain_chars quote run)) ∙ sym (map-append (piece_char quote) r.pieces (map plain run)));
    }

pub plain_shorter : (quote : ℕ) (rest run after : Text) → ◌≡◌ {A = Text × Text} (run, after) (span (is_plain quote) rest) → length after ≤ length rest
plain_shorter quote rest run after h =
    let s = plain_parts quote rest run after h in
    let long = length-append run after in
    let same = ap (λ (u : Text). length u) s.whole in
    omega (arith, long, same)

-- one character more
pub piece_more : (quote : ℕ) (chars rest bytes : Text) (c : ℕ) (after : Text) → PiecesRead quote chars rest bytes → next_inside quote (inside quote rest) ≡ Ok (Some c, after) → PiecesRead quote chars after (bytes ++ encode_utf8 c)
piece_more quote chars rest bytes c after r h =
    let o = shown_one quote (inside quote rest) c after h in
    let m : Means quote rest (one o.0 after) = subst (Means quote rest) o.1 (inside_means quote rest) in
    record {
      pieces = r.pieces ++ o.0 ∷ [];
      whole = ap (λ (u : Text). u ++ after) (content_push quote r.pieces o.0) ∙ append_assoc (content_text quote r.pieces) (piece_text quote o.0) after ∙ ap (λ (u : Text). content_text quote r.pieces ++ u) m.0 ∙ r.whole;
      are_pieces = pieces_push quote r.pieces o.0 r.are_pieces m.1;
      encoded = ap (λ (u : Text). u ++ encode_utf8 c) r.encoded
          ∙ ap (λ (u : Text). encode_utf8_all (content_chars quote r.pieces) ++ u) (ap encode_utf8 (sym o.2) ∙ sym (append-nil (encode_utf8 (piece_char quote o.0))))
          ∙ sym (encodes-append (content_chars quote r.pieces) (piece_char quote o.0 ∷ []))
          ∙ ap encode_utf8_all (sym (map-append (piece_char quote) r.pieces (o.0 ∷ [])));
    }

pub piece_shorter_than : (quote : ℕ) (rest : Text) (c : ℕ) (after : Text) → next_inside quote (inside quote rest) ≡ Ok (Some c, after) → length after < length rest
piece_shorter_than quote rest c after h =
    let o = shown_one quote (inside quote rest) c after h in
    let m : Means quote rest (one o.0 after) = subst (Means quote rest) o.1 (inside_means quote rest) in
    piece_shorter quote o.0 after rest m.0

-- the last quote
pub pieces_closed : (quote : ℕ) (chars rest bytes : Text) (after : Text) → is_quote quote ≡ true → PiecesRead quote chars rest bytes → next_inside quote (inside quote rest) ≡ Ok (None, after) → lexed (read_string quote chars) ≡ Ok (str bytes, after)
unfolding read_string
pieces_closed quote chars rest bytes after is r h =
    let o = shown_closed quote (inside quote rest) after h in
    let m : Means quote rest (closed after) = subst (Means quote rest) o (inside_means quote rest) in
    let t = content_text quote r.pieces ++ quote ∷ after in
    let whole : t ≡ chars = ap (λ (u : Text). content_text quote r.pieces ++ u) (sym m.0) ∙ r.whole in
    let read = content_read quote r.pieces after (suc (length t)) is r.are_pieces m.1 (omega arith) in
    ap (λ (u : Text). lexed (as_string quote (content (suc (length u)) quote u))) (sym whole) ∙ ap (λ (r : Result (List Piece × Text) Code). lexed (as_string quote r)) read ∙ ap (λ (b : Text). Ok (str b, after)) (sym r.encoded)

-- a fault
pub pieces_wrong : (quote : ℕ) (chars rest bytes : Text) (c : Code) → is_quote quote ≡ true → PiecesRead quote chars rest bytes → next_inside quote (inside quote rest) ≡ Err c → lexed (read_string quote chars) ≡ Err c
unfolding read_string
pieces_wrong quote chars rest bytes c is r h =
    let o = shown_wrong quote (inside quote rest) c h in
    let m : Means quote rest (wrong c) = subst (Means quote rest) o (inside_means quote rest) in
    let t = content_text quote r.pieces ++ rest in
    let read = content_fault_read quote r.pieces rest (suc (length t)) c is r.are_pieces m (omega arith) in
    ap (λ (u : Text). lexed (as_string quote (content (suc (length u)) quote u))) (sym r.whole) ∙ ap (λ (r : Result (List Piece × Text) Code). lexed (as_string quote r)) read

-- ---- references

past_chars : (n : ℕ) → 0x110000 ≤ n → is_char n ≡ false
unfolding is_char
past_chars n h = grind (arith, nat_tests)

abbrev Capped : ℕ → Text → Shown
Capped n rest = cond (is_char n) (Ok (Some n, rest)) (Err XQST0090)

capped_at : (n m : ℕ) (rest : Text) → m ≡ min 0x110000 n → ((n < 0x110000) ⊎ (0x110000 ≤ n)) → Capped n rest ≡ Capped m rest
capped_at n m rest e (inl lt) = let same : n ≡ m = omega arith in ap (λ n. Capped n rest) same
capped_at n m rest e (inr le) = let top : m ≡ 0x110000 = omega arith in rw (past_chars n le, top) (rw (past_chars 0x110000 (omega arith)) refl)

pub referred_is : (o : Option (Reference × Text)) (m : ℕ) (rest : Text) → ◌≡◌ {A = Option (ℕ × Text)} (Some (m, rest)) (refers o) → referred_char o ≡ Capped m rest
referred_is None m rest h = absurd cc
referred_is (Some x) m rest h =
    let pair : ◌≡◌ {A = ℕ × Text} (m, rest) (min 0x110000 (referred x.0), x.1) = cc in
    let number : m ≡ min 0x110000 (referred x.0) = ap (λ (x : ℕ × Text). x.0) pair in
    let left : rest ≡ x.1 = ap (λ (x : ℕ × Text). x.1) pair in
    ap (λ (u : Text). Capped (referred x.0) u) (sym left) ∙ capped_at (referred x.0) m rest number (cases_lt (referred x.0) 0x110000)

pub no_scalar : (n : ℕ) → (IsScalar n → ⊥) → is_char n ≡ false
unfolding is_char
no_scalar n h = grind (arith, nat_tests)

-- behind an `&`
pub inside_ampersand : (quote : ℕ) (chars : Text) → 1 ≤ length chars → get_or chars 0 0 ≡ 38 → (38 ≡ quote → ⊥) → next_inside quote (inside quote chars) ≡ referred_char (read_reference (drop 1 chars))
unfolding inside
inside_ampersand quote [] len e not_quote = absurd (omega (arith, len))
inside_ampersand quote (c ∷ t) len e not_quote =
    let no : (38 == quote) ≡ false = grind (arith, nat_tests) in
    rw (e, no) (shown_reference quote (read_reference t))
