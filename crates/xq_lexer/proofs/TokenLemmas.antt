-- The token at the front of a text: what is read is the longest that stands there, what stands there is read, and so for faults.
use Rattle.std.proofs.Common.{◌≡◌, ℕ, suc, ◌≤◌, Bool, true, false, cond, List, [], ◌∷◌, ◌++◌, length, Option, Some, None, Result, Ok, Err, refl, sym, ap, subst, ◌∙◌, arith, append_assoc, inl, inr}
use Rattle.std.specs.Prelude.{◌&&◌, ◌==◌}
use Rattle.std.specs.List.{list_all}
use Rattle.std.proofs.lemmas.List.{length-append}
use borrow.Author.Clash.{clash}
use Rattle.xq_atoms.specs.declared.refusals.Code.{Code}
use Rattle.xq_atoms.specs.declared.refusals.Code.TheVariants.{XPST0003}
use Rattle.xq_lexer.specs.declared.tokens.Symbol.{Symbol}
use Rattle.xq_atoms.specs.Characters.{is_digit, is_name_start, is_name_char}
use Rattle.xq_lexer.specs.Chars.{Text, is_quote, begins}
use Rattle.xq_lexer.specs.Literals.{Number, number_text, IsNumber, number_fault, Piece, ArePieces, content_text}
use Rattle.xq_lexer.specs.Spelling.{Form, name, prefixed, number, string, symbol, symbol_text, form_text, IsName, IsForm, IsLongest, MayStand}
use Rattle.xq_lexer.specs.TokenFaults.{NoToken, TokenFault}
use Rattle.xq_lexer.specs.Reading.{span, read_name, read_number, unless_fault, judged, content, as_string, read_string, read_symbol, single_symbol, double_symbol, or_single, after_name, begins_number, read_token}
use Rattle.xq_lexer.proofs.Spans.{parts}
use Rattle.xq_atoms.proofs.Classes.{digit_no_start}
use Rattle.xq_lexer.proofs.Classes.{point_no_start, quote_no_start, quote_no_digit, quote_no_point}
use Rattle.xq_lexer.proofs.Forms.{name_parts, name_chars, name_read, prefix_read, prefixed_read, number_read}
use Rattle.xq_lexer.proofs.Contents.{content_read, content_fault_read, content_most, content_sound, content_wrong}
use Rattle.xq_lexer.proofs.SymbolLemmas.{IsSign, Longer, symbol_here, SymbolThere, symbol_there, read_spelled}
use Rattle.xq_lexer.proofs.Fronts.{name_front, read_name_longer, number_front, read_number_longer, read_number_some, number_there, NotStart}

abbrev Read : Type 0
Read = Result (Form × Text) Code

-- ---- the reader before numbers are judged

abbrev as_number : Number × Text → Read
as_number x = Ok (number x.0, x.1)

unfoldable raw : Text → Read
raw [] = Err XPST0003
raw (c ∷ t) =
    cond (is_name_start c) (Ok (read_name (c ∷ t)))
    (cond (begins_number (c ∷ t)) (as_number (read_number (c ∷ t))) (cond (is_quote c) (read_string c t) (read_symbol (c ∷ t))))

start_no_start : (c : ℕ) → NotStart c → is_name_start c ≡ false
start_no_start c (inl d) = digit_no_start c d
start_no_start c (inr e) = ap is_name_start e ∙ point_no_start

module _ (c : ℕ) (t : Text) where
  raw_name : is_name_start c ≡ true → raw (c ∷ t) ≡ Ok (read_name (c ∷ t))
  unfolding raw
  raw_name s = rw s refl

  raw_number : is_name_start c ≡ false → begins_number (c ∷ t) ≡ true → raw (c ∷ t) ≡ as_number (read_number (c ∷ t))
  unfolding raw
  raw_number s n = rw (s, n) refl

  raw_string : is_quote c ≡ true → raw (c ∷ t) ≡ read_string c t
  unfolding raw
  raw_string q = rw (quote_no_start c q, quote_no_digit c q, quote_no_point c q, q) refl

  raw_symbol : IsSign c → begins_number (c ∷ t) ≡ false → raw (c ∷ t) ≡ read_symbol (c ∷ t)
  unfolding raw
  raw_symbol s n = rw (s.0, n, s.2) refl

-- ---- no token that stands at the front is longer than what is read

abbrev AtLeast : Text → ℕ → Read → Type 0
AtLeast z n (Ok x) = n ≤ length (form_text x.0)
AtLeast z n (Err c) = begins is_quote z ≡ true

longer_at_least : (z : Text) (n : ℕ) (r : Read) → Longer n r → AtLeast z n r
longer_at_least z n (Ok x) h = h
longer_at_least z n (Err c) h = absurd h

string_at_least : (quote : ℕ) (ps : List Piece) (u : Text) (r : Result (List Piece × Text) Code) → is_quote quote ≡ true
    → ((x : List Piece × Text) → r ≡ Ok x → length (content_text quote ps) ≤ length (content_text quote x.0))
    → AtLeast (quote ∷ u) (length (form_text (string quote ps))) (as_string quote r)
string_at_least quote ps u (Ok x) is h =
    let m = h x refl in
    let a = length-append (content_text quote ps) (quote ∷ []) in
    let b = length-append (content_text quote x.0) (quote ∷ []) in
    omega (arith, m, a, b)
string_at_least quote ps u (Err c) is h = is

string_bound : (quote : ℕ) (ps : List Piece) (u : Text) → is_quote quote ≡ true → ArePieces quote ps → AtLeast (quote ∷ content_text quote ps ++ u) (length (form_text (string quote ps))) (read_string quote (content_text quote ps ++ u))
unfolding read_string
string_bound quote ps u is all =
    string_at_least quote ps (content_text quote ps ++ u) (content (suc (length (content_text quote ps ++ u))) quote (content_text quote ps ++ u)) is
    (λ x e. content_most quote ps u (suc (length (content_text quote ps ++ u))) x is all (omega arith) e)

name_start_of : (w : Text) → IsName w → (c : ℕ) × (t : Text) × (w ≡ c ∷ t) × (is_name_start c ≡ true) × (list_all is_name_char w ≡ true)
name_start_of [] is = absurd cc
name_start_of (c ∷ t) is = (c, t, refl, (name_parts c t is).0, name_chars (c ∷ t) is)

name_raw : (w rest : Text) → IsName w → raw (w ++ rest) ≡ Ok (read_name (w ++ rest))
name_raw [] rest is = absurd cc
name_raw (c ∷ w) rest is = raw_name c (w ++ rest) (name_parts c w is).0

bounded_symbol : (x : Symbol) (rest : Text) → AtLeast (symbol_text x ++ rest) (length (symbol_text x)) (raw (symbol_text x ++ rest))
bounded_symbol x rest = let s = symbol_there x rest in rw s.whole (go s (begins_number (s.char ∷ s.more)) refl)
  where
    go : (s : SymbolThere x rest) → (b : Bool) → begins_number (s.char ∷ s.more) ≡ b → AtLeast (s.char ∷ s.more) (length (symbol_text x)) (raw (s.char ∷ s.more))
    go s true e = let one = s.short e in let n = read_number_some s.char s.more e in rw (raw_number s.char s.more s.sign.0 e) (omega (arith, one, n))
    go s false e = rw (raw_symbol s.char s.more s.sign e) (longer_at_least (s.char ∷ s.more) (length (symbol_text x)) (read_symbol (s.char ∷ s.more)) s.read)

bounded : (g : Form) (rest : Text) → IsForm g → AtLeast (form_text g ++ rest) (length (form_text g)) (raw (form_text g ++ rest))
bounded (name w) rest is = rw (name_raw w rest is) (read_name_longer w rest (name_start_of w is).4)
bounded (prefixed p w) rest is =
    let m = (parts is_name_char (w ++ rest)).most w rest refl (name_start_of w is.1).4 in
    let a = length-append p (58 ∷ w) in
    let b = length-append p (58 ∷ (span is_name_char (w ++ rest)).0) in
    let start : raw ((p ++ 58 ∷ w) ++ rest) ≡ Ok (read_name ((p ++ 58 ∷ w) ++ rest)) = rw (append_assoc p (58 ∷ w) rest) (name_raw p (58 ∷ w ++ rest) is.0) in
    rw (start, prefix_read p w rest is.0 is.1) (omega (arith, m, a, b))
bounded (number n) rest is =
    let s = number_there n rest is in
    let l = read_number_longer n rest is in
    let at : raw (number_text n ++ rest) ≡ as_number (read_number (number_text n ++ rest)) = rw s.0.whole (raw_number s.0.char s.0.more (start_no_start s.0.char s.1) s.0.begins_so) in
    rw at l
bounded (string quote ps) rest is = rw (append_assoc (content_text quote ps) (quote ∷ []) rest, raw_string quote (content_text quote ps ++ quote ∷ rest) is.0) (string_bound quote ps (quote ∷ rest) is.0 is.1)
bounded (symbol x) rest is = bounded_symbol x rest

longest_raw : (z : Text) (f : Form) (after : Text) → raw z ≡ Ok (f, after) → form_text f ++ after ≡ z → IsLongest f after
longest_raw z f after e whole = λ g rest is same.
    let b = bounded g rest is in
    let r : raw (form_text g ++ rest) ≡ Ok (f, after) = ap raw (same ∙ whole) ∙ e in
    subst (λ (r : Read). AtLeast (form_text g ++ rest) (length (form_text g)) r) r b

-- ---- what is read stands there

pub record Found (z : Text) (f : Form) (after : Text) : Type 0 where
  pub whole : form_text f ++ after ≡ z
  pub is : IsForm f
  pub longest : IsLongest f after
  pub stands : MayStand f after

abbrev pub Means : Text → Read → Type 0
Means z (Ok x) = Found z x.0 x.1
Means z (Err c) = TokenFault z c

name_stands : (w t after : Text) (f : Form) → ◌≡◌ {A = Form × Text} (after_name w t) (f, after) → MayStand f after
unfolding after_name
name_stands w [] after f e = let is : name w ≡ f = ap (λ (x : Form × Text). x.0) e in subst (λ (f : Form). MayStand f after) is tt
name_stands w (a ∷ []) after f e = let is : name w ≡ f = ap (λ (x : Form × Text). x.0) e in subst (λ (f : Form). MayStand f after) is tt
name_stands w (a ∷ b ∷ t) after f e = go (a == 58 && is_name_start b) e
  where
    go : (p : Bool) → ◌≡◌ {A = Form × Text} (cond {A = Form × Text} p (let x = span is_name_char (b ∷ t) in (prefixed w x.0, x.1)) (name w, a ∷ b ∷ t)) (f, after) → MayStand f after
    go true e = let is : prefixed w (span is_name_char (b ∷ t)).0 ≡ f = ap (λ (x : Form × Text). x.0) e in subst (λ (f : Form). MayStand f after) is tt
    go false e = let is : name w ≡ f = ap (λ (x : Form × Text). x.0) e in subst (λ (f : Form). MayStand f after) is tt

read_name_stands : (z after : Text) (f : Form) → ◌≡◌ {A = Form × Text} (read_name z) (f, after) → MayStand f after
unfolding read_name
read_name_stands z after f e = name_stands (span is_name_char z).0 (span is_name_char z).1 after f e

only_syntax : (z : Text) (code : Code) → read_symbol z ≡ Err code → code ≡ XPST0003
unfolding read_symbol
only_syntax [] code h = cc
only_syntax (a ∷ []) code h = none_single (single_symbol a) [] h
  where
    none_single : (p : Option Symbol) (u : Text) → or_single None p [] u ≡ Err code → code ≡ XPST0003
    none_single None u h = cc
    none_single (Some x) u h = absurd cc
only_syntax (a ∷ b ∷ t) code h = go (double_symbol a b) (single_symbol a) h
  where
    go : (o p : Option Symbol) → or_single o p t (b ∷ t) ≡ Err code → code ≡ XPST0003
    go None None h = cc
    go None (Some x) h = absurd cc
    go (Some x) p h = absurd cc

module _ (c : ℕ) (t : Text) where
  name_means : is_name_start c ≡ true → Means (c ∷ t) (Ok (read_name (c ∷ t)))
  name_means s =
      let f = name_front c t s in
      record {
        whole = f.whole;
        is = f.is;
        longest = longest_raw (c ∷ t) (read_name (c ∷ t)).0 (read_name (c ∷ t)).1 (raw_name c t s) f.whole;
        stands = read_name_stands (c ∷ t) (read_name (c ∷ t)).1 (read_name (c ∷ t)).0 refl;
      }

  number_means : is_name_start c ≡ false → begins_number (c ∷ t) ≡ true → Means (c ∷ t) (judged (read_number (c ∷ t)))
  unfolding judged
  number_means s n = go (number_fault x.0 x.1) refl
    where
      x : Number × Text
      x = read_number (c ∷ t)

      go : (o : Option Code) → number_fault (read_number (c ∷ t)).0 (read_number (c ∷ t)).1 ≡ o → Means (c ∷ t) (unless_fault o (number (read_number (c ∷ t)).0, (read_number (c ∷ t)).1))
      go None e =
          let f = number_front c t n in
          record { whole = f.whole; is = f.is; longest = longest_raw (c ∷ t) (number (read_number (c ∷ t)).0) (read_number (c ∷ t)).1 (raw_number c t s n) f.whole; stands = e }
      go (Some code) e =
          let f = number_front c t n in
          inl (record { written = (read_number (c ∷ t)).0; after = (read_number (c ∷ t)).1; whole = f.whole; is_number = f.is; longest = longest_raw (c ∷ t) (number (read_number (c ∷ t)).0) (read_number (c ∷ t)).1 (raw_number c t s n) f.whole; fault = e })

  string_means : is_quote c ≡ true → Means (c ∷ t) (read_string c t)
  unfolding read_string
  string_means q = go (content (suc (length t)) c t) refl
    where
      go : (r : Result (List Piece × Text) Code) → content (suc (length t)) c t ≡ r → Means (c ∷ t) (as_string c r)
      go (Ok x) e =
          let k = content_sound c (suc (length t)) t x e in
          let whole : (c ∷ (content_text c x.0 ++ c ∷ [])) ++ x.1 ≡ c ∷ t = ap (λ (u : Text). c ∷ u) (append_assoc (content_text c x.0) (c ∷ []) x.1 ∙ k.whole) in
          let at : raw (c ∷ t) ≡ Ok (string c x.0, x.1) = raw_string c t q ∙ ap (as_string c) e in
          record { whole = whole; is = (q, k.pieces); longest = longest_raw (c ∷ t) (string c x.0) x.1 at whole; stands = k.stops }
      go (Err code) e =
          let k = content_wrong c (suc (length t)) t code (omega arith) e in
          inr (inl (record { quote = c; pieces = k.pieces; rest = k.rest; whole = ap (λ (u : Text). c ∷ u) k.whole; is_quote = q; are_pieces = k.are_pieces; fault = k.fault }))

  no_form_here : IsSign c → begins_number (c ∷ t) ≡ false → (code : Code) → read_symbol (c ∷ t) ≡ Err code → (f : Form) (after : Text) → IsForm f → form_text f ++ after ≡ c ∷ t → ⊥
  no_form_here s n code e f after is whole =
      let b = bounded f after is in
      let r : raw (form_text f ++ after) ≡ Err code = ap raw whole ∙ raw_symbol c t s n ∙ e in
      let q : begins is_quote (form_text f ++ after) ≡ true = subst (λ (r : Read). AtLeast (form_text f ++ after) (length (form_text f)) r) r b in
      clash (is_quote c) (ap (begins is_quote) (sym whole) ∙ q) s.2

  symbol_means : IsSign c → begins_number (c ∷ t) ≡ false → Means (c ∷ t) (read_symbol (c ∷ t))
  symbol_means s n = go (read_symbol (c ∷ t)) refl
    where
      go : (r : Read) → read_symbol (c ∷ t) ≡ r → Means (c ∷ t) r
      go (Ok x) e =
          let k = read_spelled (c ∷ t) x.0 x.1 e in
          record {
            whole = k.0;
            is = k.1;
            longest = longest_raw (c ∷ t) x.0 x.1 (raw_symbol c t s n ∙ e) k.0;
            stands = subst (λ (f : Form). MayStand f x.1) (sym k.2.1) tt;
          }
      go (Err code) e =
          inr (inr (record { some = omega arith; no_string = s.2; no_form = no_form_here s n code e }, only_syntax (c ∷ t) code e))

  token_means_at : (p : Bool) → is_name_start c ≡ p → (q : Bool) → begins_number (c ∷ t) ≡ q → (r : Bool) → is_quote c ≡ r → (d : Bool) → is_digit c ≡ d
      → Means (c ∷ t) (cond p (Ok (read_name (c ∷ t))) (cond q (judged (read_number (c ∷ t))) (cond r (read_string c t) (read_symbol (c ∷ t)))))
  token_means_at true s q n r k d e = name_means s
  token_means_at false s true n r k d e = number_means s n
  token_means_at false s false n true k d e = string_means k
  token_means_at false s false n false k false e = symbol_means (s, e, k) n
  token_means_at false s false n false k true e = let yes : begins_number (c ∷ t) ≡ true = rw e refl in clash (begins_number (c ∷ t)) yes n

-- what the reader says of the token at the front is so
pub token_means : (c : ℕ) (t : Text) → Means (c ∷ t) (read_token (c ∷ t))
unfolding read_token
token_means c t = token_means_at c t (is_name_start c) refl (begins_number (c ∷ t)) refl (is_quote c) refl (is_digit c) refl

-- ---- what stands there is read

module _ (c : ℕ) (t : Text) where
  token_name : is_name_start c ≡ true → read_token (c ∷ t) ≡ Ok (read_name (c ∷ t))
  unfolding read_token
  token_name s = rw s refl

  token_number : is_name_start c ≡ false → begins_number (c ∷ t) ≡ true → read_token (c ∷ t) ≡ judged (read_number (c ∷ t))
  unfolding read_token
  token_number s n = rw (s, n) refl

  token_string : is_quote c ≡ true → read_token (c ∷ t) ≡ read_string c t
  unfolding read_token
  token_string q = rw (quote_no_start c q, quote_no_digit c q, quote_no_point c q, q) refl

  token_symbol : IsSign c → begins_number (c ∷ t) ≡ false → read_token (c ∷ t) ≡ read_symbol (c ∷ t)
  unfolding read_token
  token_symbol s n = rw (s.0, n, s.2) refl

pub name_token : (w rest : Text) → IsName w → read_token (w ++ rest) ≡ Ok (read_name (w ++ rest))
name_token [] rest is = absurd cc
name_token (c ∷ w) rest is = token_name c (w ++ rest) (name_parts c w is).0

judged_is : (n : Number) (after : Text) (o : Option Code) → number_fault n after ≡ o → judged (n, after) ≡ unless_fault o (number n, after)
unfolding judged
judged_is n after o e = rw e refl

number_token : (n : Number) (after : Text) → IsNumber n → IsLongest (number n) after → (o : Option Code) → number_fault n after ≡ o → read_token (number_text n ++ after) ≡ unless_fault o (number n, after)
number_token n after is best o e =
    let s = number_there n after is in
    let at : read_token (number_text n ++ after) ≡ judged (read_number (number_text n ++ after)) = rw s.0.whole (token_number s.0.char s.0.more (start_no_start s.0.char s.1) s.0.begins_so) in
    at ∙ ap judged (number_read n after is best) ∙ judged_is n after o e

pub string_token : (quote : ℕ) (t : Text) → is_quote quote ≡ true → read_token (quote ∷ t) ≡ as_string quote (content (suc (length t)) quote t)
unfolding read_string
string_token quote t q = token_string quote t q

pub token_read : (f : Form) (after : Text) → IsForm f → IsLongest f after → MayStand f after → read_token (form_text f ++ after) ≡ Ok (f, after)
token_read (name w) after is best stands = name_token w after is ∙ ap (λ (x : Form × Text). Ok x) (name_read w after is best)
token_read (prefixed p w) after is best stands =
    let start : read_token ((p ++ 58 ∷ w) ++ after) ≡ Ok (read_name ((p ++ 58 ∷ w) ++ after)) = rw (append_assoc p (58 ∷ w) after) (name_token p (58 ∷ w ++ after) is.0) in
    start ∙ ap (λ (x : Form × Text). Ok x) (prefixed_read p w after is.0 is.1 best)
token_read (number n) after is best stands = number_token n after is best None stands
token_read (string quote ps) after is best stands =
    let t = content_text quote ps ++ quote ∷ after in
    ap (λ (u : Text). read_token (quote ∷ u)) (append_assoc (content_text quote ps) (quote ∷ []) after) ∙ string_token quote t is.0
    ∙ ap (as_string quote) (content_read quote ps after (suc (length t)) is.0 is.1 stands (omega arith))
token_read (symbol x) after is best stands =
    let s = symbol_here x after best in
    rw s.whole (token_symbol s.char s.rest s.sign s.no_number ∙ s.read)

-- the refutation of a token is read as such
no_token : (z : Text) → NoToken z → (r : Read) → read_token z ≡ r → ◌≡◌ {A = Read} r (Err XPST0003)
no_token [] h r e = absurd (omega (arith, h.some))
no_token (c ∷ t) h (Ok x) e = let k : Means (c ∷ t) (Ok x) = subst (Means (c ∷ t)) e (token_means c t) in absurd (h.no_form x.0 x.1 k.is k.whole)
no_token (c ∷ t) h (Err code) e = go (subst (Means (c ∷ t)) e (token_means c t))
  where
    go : TokenFault (c ∷ t) code → ◌≡◌ {A = Read} (Err code) (Err XPST0003)
    go (inl k) = absurd (h.no_form (number k.written) k.after k.is_number k.whole)
    go (inr (inl k)) = let first : begins is_quote (c ∷ t) ≡ true = ap (begins is_quote) (sym k.whole) ∙ k.is_quote in clash (begins is_quote (c ∷ t)) first h.no_string
    go (inr (inr k)) = ap (λ (c : Code). Err c) k.1

pub fault_token : (z : Text) (code : Code) → TokenFault z code → read_token z ≡ Err code
fault_token z code (inl k) = ap read_token (sym k.whole) ∙ number_token k.written k.after k.is_number k.longest (Some code) k.fault
fault_token z code (inr (inl k)) =
    let t = content_text k.quote k.pieces ++ k.rest in
    ap read_token (sym k.whole) ∙ string_token k.quote t k.is_quote ∙ ap (as_string k.quote) (content_fault_read k.quote k.pieces k.rest (suc (length t)) code k.is_quote k.are_pieces k.fault (omega arith))
fault_token z code (inr (inr k)) = no_token z k.0 (read_token z) refl ∙ ap (λ (c : Code). Err c) (sym k.1)
