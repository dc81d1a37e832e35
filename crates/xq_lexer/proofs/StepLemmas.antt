-- From what is read of a token to the next token of the text, and the loop over them.
use Rattle.std.proofs.Common.{◌≡◌, ℕ, suc, ◌+◌, ◌-◌, ◌<◌, ◌≤◌, true, false, List, [], ◌∷◌, ◌++◌, length, take, Option, Some, Result, Ok, Err, refl, sym, ap, subst, ◌∙◌, arith, inl, inr}
use Rattle.std.proofs.lemmas.List.{length-append, take_at, map-append}
use Rattle.xq_atoms.specs.declared.refusals.Code.{Code}
use Rattle.xq_atoms.specs.declared.refusals.Fault.{Fault}
use Rattle.xq_atoms.specs.declared.refusals.Fault.TheVariants.{Code as OfCode, Want as OfWant}
use Rattle.std.specs.Prelude.{◌==◌, IfOk, IfErr}
use Rattle.std.specs.declared.alloc.Global.{Global}
use Rattle.std.specs.declared.vec.Vec.{Vec}
use Rattle.std.proofs.lemmas.Bool.Decides.{nat_tests}
use Rattle.xq_lexer.specs.declared.tokens.Token.{Token}
use Rattle.xq_lexer.specs.Chars.{Text}
use Rattle.xq_lexer.specs.Separators.{skip}
use Rattle.xq_lexer.specs.Lexeme.{Lex, lex_of, lexemes}
use Rattle.xq_lexer.specs.Spelling.{Form, name, prefixed, number, string, symbol, form_text, form_lex, IsForm, Next, Before, Spells, bytes}
use Rattle.xq_lexer.specs.TokenFaults.{TokenFault, FaultHere, HasFault, RefusesText}
use Rattle.xq_lexer.specs.Reading.{read_token}
use Rattle.xq_atoms.specs.Answers.{IsRefusal}
use Rattle.xq_lexer.specs.private.Lexes.{lexed, Nexts, Lexes}
use Rattle.xq_lexer.proofs.RunLemmas.{bytes_append}
use Rattle.xq_lexer.proofs.SymbolLemmas.{row_of}
use Rattle.xq_lexer.proofs.Fronts.{number_some}
use Rattle.xq_lexer.proofs.SeparatorLemmas.{skip_suffix}
use Rattle.xq_lexer.proofs.TokenLemmas.{Found, Means, token_means}
use Rattle.xq_lexer.proofs.Lists.{before_more, spells_one, spells_no_fault, one_fault}

form_some : (f : Form) → IsForm f → 0 < length (form_text f)
form_some (name []) is = absurd cc
form_some (name (c ∷ w)) is = omega arith
form_some (prefixed p w) is = let l = length-append p (58 ∷ w) in omega (arith, l)
form_some (number n) is = number_some n is
form_some (string quote ps) is = omega arith
form_some (symbol x) is = elim (row_of x) [ inl r ↦ (let l = ap length r.text in omega (arith, l)) | inr r ↦ (let l = ap length r.text in omega (arith, l)) ]

-- what was read
pub record WasRead (z : Text) (l : Lex) (rest : Text) : Type 0 where
  pub form : Form
  pub found : Found z form rest
  pub stands_for : l ≡ form_lex form

was_at : (z : Text) (r : Result (Form × Text) Code) → Means z r → (l : Lex) (rest : Text) → lexed r ≡ Ok (l, rest) → WasRead z l rest
was_at z (Ok x) m l rest h =
    let pair : ◌≡◌ {A = Lex × Text} (form_lex x.0, x.1) (l, rest) = cc in
    record {
      form = x.0;
      found = subst (λ (u : Text). Found z x.0 u) (ap (λ (x : Lex × Text). x.1) pair) m;
      stands_for = sym (ap (λ (x : Lex × Text). x.0) pair);
    }
was_at z (Err c) m l rest h = absurd cc

fault_at : (z : Text) (r : Result (Form × Text) Code) → Means z r → (c : Code) → lexed r ≡ Err c → TokenFault z c
fault_at z (Ok x) m c h = absurd cc
fault_at z (Err d) m c h = let same : d ≡ c = cc in subst (TokenFault z) same m

read_means : (z : Text) → 0 < length z → Means z (read_token z)
read_means [] some = absurd (omega (arith, some))
read_means (c ∷ t) some = token_means c t

pub was_read : (z : Text) (l : Lex) (rest : Text) → 0 < length z → lexed (read_token z) ≡ Ok (l, rest) → WasRead z l rest
was_read z l rest some h = was_at z (read_token z) (read_means z some) l rest h

pub fault_here : (text z : Text) (c : Code) → skip 0 text ≡ Some z → 0 < length z → lexed (read_token z) ≡ Err c → FaultHere text c
fault_here text z c s some h = inr (z, s, fault_at z (read_token z) (read_means z some) c h)

-- the token that was read is the next one
pub next_is : (text z : Text) (l : Lex) (rest : Text) → skip 0 text ≡ Some z → WasRead z l rest → Next text l rest × (length rest < length text)
next_is text z l rest s r =
    let f = r.found in
    let suffix = skip_suffix text z s in
    let l1 = ap length suffix.whole in
    let l2 = length-append suffix.front z in
    let l3 = ap length f.whole in
    let l4 = length-append (form_text r.form) rest in
    let some = form_some r.form f.is in (
      record {
        form = r.form;
        skipped = s ∙ ap (λ (u : Text). Some u) (sym f.whole);
        is_form = f.is;
        longest = f.longest;
        stands = f.stands;
        lex = r.stands_for;
      },
      omega (arith, l1, l2, l3, l4, some),
    )

-- ---- the loop

pub record Lexed (text : Text) (ts : List Token) (place : ℕ) (rest : Text) : Type 0 where
  pub before : Before text (lexemes ts) rest
  pub room : place + bytes rest ≡ bytes text

pub none_lexed : (text : Text) → Lexed text [] 0 text
none_lexed text = record { before = refl; room = omega arith }

pub lexed_more : (text : Text) (ts : List Token) (place : ℕ) (rest : Text) (t : Token) (after : Text) (end : ℕ) → Lexed text ts place rest → Next rest (lex_of t) after → end + bytes after ≡ place + bytes rest → Lexed text (ts ++ t ∷ []) end after
lexed_more text ts place rest t after end l n e = record {
  before = subst (λ (us : List Lex). Before text us after) (sym (map-append lex_of ts (t ∷ []))) (before_more text (lexemes ts) rest (lex_of t) after l.before n);
  room = e ∙ l.room;
}

pub lexed_all : (text : Text) (ts : List Token) (place : ℕ) (rest : Text) → Lexed text ts place rest → skip 0 rest ≡ Some [] → Spells text (lexemes ts)
lexed_all text ts place rest l e = (rest, l.before, e)

pub lexed_fault : (text : Text) (ts : List Token) (place : ℕ) (rest : Text) (c : Code) → Lexed text ts place rest → FaultHere rest c → HasFault text c
lexed_fault text ts place rest c l f = (lexemes ts, rest, l.before, f)

-- ---- the bytes of what stands before a suffix

pub passed_is : (cs rest front : Text) → front ++ rest ≡ cs → (length rest ≤ length cs) × (bytes (take (length cs - length rest) cs) + bytes rest ≡ bytes cs)
passed_is cs rest front e =
    let l = ap length e in
    let a = length-append front rest in
    let t : take (length cs - length rest) cs ≡ front = ap (take (length cs - length rest)) (sym e) ∙ take_at front rest (length cs - length rest) (omega (arith, l, a)) in
    let b1 = ap bytes t in
    let b2 = ap bytes e in
    let b3 = bytes_append front rest in
    (omega (arith, l, a), omega (arith, b1, b2, b3))

pub step_fault : (text z : Text) (e : Fault) → skip 0 text ≡ Some z → 0 < length z → IsRefusal (lexed (read_token z)) e → Nexts text (Err e)
step_fault text z (OfCode c) s some h = fault_here text z c s some h
step_fault text z (OfWant w) s some h = h

pub empty_left : (o : Option Text) (z : Text) → o ≡ Some z → true ≡ (length z == 0) → o ≡ Some []
empty_left o [] e h = e
empty_left o (c ∷ t) e h = let l : (suc (length t) == 0) ≡ false = grind (arith, nat_tests) in let clash : true ≡ false = h ∙ l in absurd cc

pub some_left : (z : Text) → false ≡ (length z == 0) → 0 < length z
some_left [] h = absurd cc
some_left (c ∷ t) h = omega arith

pub lexed_error : (text : Text) (ts : List Token) (place : ℕ) (rest : Text) (e : Fault) → Lexed text ts place rest → Nexts rest (Err e) → Lexes text (Err e)
lexed_error text ts place rest (OfCode c) l f = lexed_fault text ts place rest c l f
lexed_error text ts place rest (OfWant w) l f = f

abbrev Answer : Type 0
Answer = Result (Vec Token Global) Fault

pub lexes_spelled : (text : Text) (r : Answer) → Lexes text r → IfOk r (λ v. Spells text (lexemes v.items))
lexes_spelled text (Ok v) h = h
lexes_spelled text (Err e) h = tt

pub lexes_only : (text : Text) (r : Answer) → Lexes text r → IfOk r (λ v. (other : List Lex) → Spells text other → other ≡ lexemes v.items)
lexes_only text (Ok v) h = λ other k. spells_one text (lexemes v.items) other h k
lexes_only text (Err e) h = tt

pub lexes_sound : (text : Text) (r : Answer) → Lexes text r → IfOk r (λ v. (code : Code) → HasFault text code → ⊥)
lexes_sound text (Ok v) h = λ code k. spells_no_fault text (lexemes v.items) code h k
lexes_sound text (Err e) h = tt

pub lexes_refused : (text : Text) (r : Answer) → Lexes text r → IfErr r (λ e. RefusesText text e)
lexes_refused text (Ok v) h = tt
lexes_refused text (Err (OfCode c)) h = (h, λ ts k. spells_no_fault text ts c k h, λ other k. one_fault text c other h k)
lexes_refused text (Err (OfWant w)) h = h
