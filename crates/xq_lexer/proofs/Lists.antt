-- From the token at the front to the list of tokens: a text spells one list, or has one fault, and not both.
use Rattle.std.proofs.Common.{◌≡◌, List, [], ◌∷◌, ◌++◌, length, Option, Some, Result, Ok, Err, refl, sym, ap, subst, ◌∙◌, arith, ap₂, inl, inr}
use Rattle.xq_atoms.specs.declared.refusals.Code.{Code}
use Rattle.xq_atoms.specs.declared.refusals.Code.TheVariants.{XPST0003}
use Rattle.xq_lexer.specs.Chars.{Text}
use Rattle.xq_lexer.specs.Literals.{Number, integer, decimal, number_text, IsNumber}
use Rattle.xq_lexer.specs.Separators.{skip}
use Rattle.xq_lexer.specs.Lexeme.{Lex}
use Rattle.xq_lexer.specs.Spelling.{Form, form_text, form_lex, Next, Before, Spells}
use Rattle.xq_lexer.specs.TokenFaults.{TokenFault, FaultHere, HasFault}
use Rattle.xq_lexer.specs.Reading.{read_token}
use Rattle.xq_lexer.proofs.TokenLemmas.{token_read, fault_token}

abbrev Read : Type 0
Read = Result (Form × Text) Code

-- ---- one step

pub next_read : (text : Text) (t : Lex) (after : Text) (n : Next text t after) → read_token (form_text n.form ++ after) ≡ Ok (n.form, after)
next_read text t after n = token_read n.form after n.is_form n.longest n.stands

same_rest : (o : Option Text) (y z : Text) → o ≡ Some y → o ≡ Some z → y ≡ z
same_rest o y z h k = cc

-- the next token is one
pub next_one : (text : Text) (t u : Lex) (after rest : Text) → Next text t after → Next text u rest → (t ≡ u) × (after ≡ rest)
next_one text t u after rest n m =
    let z = same_rest (skip 0 text) (form_text n.form ++ after) (form_text m.form ++ rest) n.skipped m.skipped in
    let read : ◌≡◌ {A = Read} (Ok (n.form, after)) (Ok (m.form, rest)) = sym (next_read text t after n) ∙ ap read_token z ∙ next_read text u rest m in
    let pair : ◌≡◌ {A = Form × Text} (n.form, after) (m.form, rest) = cc in
    let forms : n.form ≡ m.form = ap (λ (x : Form × Text). x.0) pair in
    let rests : after ≡ rest = ap (λ (x : Form × Text). x.1) pair in
    (n.lex ∙ ap form_lex forms ∙ sym m.lex, rests)

-- where there is a fault there is no next token
pub next_no_fault : (text : Text) (t : Lex) (after : Text) (code : Code) → Next text t after → FaultHere text code → ⊥
next_no_fault text t after code n (inl h) = let e = n.skipped in let k = h.0 in absurd cc
next_no_fault text t after code n (inr h) =
    let z = same_rest (skip 0 text) (form_text n.form ++ after) h.0 n.skipped h.1 in
    let clash : ◌≡◌ {A = Read} (Ok (n.form, after)) (Err code) = sym (next_read text t after n) ∙ ap read_token z ∙ fault_token h.0 code h.2 in
    absurd cc

read_nothing : ◌≡◌ {A = Read} (read_token []) (Err XPST0003)
unfolding read_token
read_nothing = refl

-- where the text ends there is no next token
pub next_no_end : (text : Text) (t : Lex) (after : Text) → Next text t after → skip 0 text ≡ Some [] → ⊥
next_no_end text t after n h =
    let z = same_rest (skip 0 text) (form_text n.form ++ after) [] n.skipped h in
    let clash : ◌≡◌ {A = Read} (Ok (n.form, after)) (Err XPST0003) = sym (next_read text t after n) ∙ ap read_token z ∙ read_nothing in
    absurd cc

-- a fault here has one code
pub fault_one : (text : Text) (c d : Code) → FaultHere text c → FaultHere text d → c ≡ d
fault_one text c d (inl h) (inl k) = h.1 ∙ sym k.1
fault_one text c d (inl h) (inr k) = let a = h.0 in let b = k.1 in absurd cc
fault_one text c d (inr h) (inl k) = let a = h.1 in let b = k.0 in absurd cc
fault_one text c d (inr h) (inr k) =
    let z = same_rest (skip 0 text) h.0 k.0 h.1 k.1 in
    let same : ◌≡◌ {A = Read} (Err c) (Err d) = sym (fault_token h.0 c h.2) ∙ ap read_token z ∙ fault_token k.0 d k.2 in
    cc

number_not_empty : (n : Number) (after : Text) → IsNumber n → number_text n ++ after ≡ [] → ⊥
number_not_empty (integer []) after is e = absurd (omega (arith, is.1))
number_not_empty (integer (c ∷ w)) after is e = absurd cc
number_not_empty (decimal [] f) after is e = absurd cc
number_not_empty (decimal (c ∷ w) f) after is e = absurd cc

-- no fault stands at the end
pub fault_no_end : (text : Text) (c : Code) → FaultHere text c → skip 0 text ≡ Some [] → ⊥
fault_no_end text c (inl h) e = let a = h.0 in absurd cc
fault_no_end text c (inr h) e = fault_not_empty h.0 h.2 (same_rest (skip 0 text) h.0 [] h.1 e)
  where
    fault_not_empty : (z : Text) → TokenFault z c → z ≡ [] → ⊥
    fault_not_empty z (inl k) same = number_not_empty k.written k.after k.is_number (k.whole ∙ same)
    fault_not_empty z (inr (inl k)) same = let e = k.whole ∙ same in absurd cc
    fault_not_empty z (inr (inr k)) same = let l = ap length same in let some = k.0.some in omega (arith, l, some)

-- ---- the list

abbrev Stops : Text → Type 0
Stops rest = (t : Lex) (after : Text) → Next rest t after → ⊥

-- two lists up to places where no token is next are one
one_list : (text : Text) (ts us : List Lex) (rest end : Text) → Before text ts rest → Stops rest → Before text us end → Stops end → (ts ≡ us) × (rest ≡ end)
one_list text [] [] rest end b s c k = (refl, sym b ∙ c)
one_list text [] (u ∷ us) rest end b s c k = absurd (s u c.0 (subst (λ (text : Text). Next text u c.0) b c.1))
one_list text (t ∷ ts) [] rest end b s c k = absurd (k t b.0 (subst (λ (text : Text). Next text t b.0) c b.1))
one_list text (t ∷ ts) (u ∷ us) rest end b s c k =
    let one = next_one text t u b.0 c.0 b.1 c.1 in
    let more = one_list c.0 ts us rest end (subst (λ (after : Text). Before after ts rest) one.1 b.2) s c.2 k in
    (ap₂ (λ (t : Lex) (ts : List Lex). t ∷ ts) one.0 more.0, more.1)

-- one token more
pub before_more : (text : Text) (ts : List Lex) (mid : Text) (t : Lex) (after : Text) → Before text ts mid → Next mid t after → Before text (ts ++ t ∷ []) after
before_more text [] mid t after b n = (after, subst (λ (text : Text). Next text t after) (sym b) n, refl)
before_more text (u ∷ ts) mid t after b n = (b.0, b.1, before_more b.0 ts mid t after b.2 n)

stops_at_end : (rest : Text) → skip 0 rest ≡ Some [] → Stops rest
stops_at_end rest e = λ t after n. next_no_end rest t after n e

stops_at_fault : (rest : Text) (c : Code) → FaultHere rest c → Stops rest
stops_at_fault rest c f = λ t after n. next_no_fault rest t after c n f

-- a text spells one list
pub spells_one : (text : Text) (ts us : List Lex) → Spells text ts → Spells text us → us ≡ ts
spells_one text ts us h k = sym (one_list text ts us h.0 k.0 h.1 (stops_at_end h.0 h.2) k.1 (stops_at_end k.0 k.2)).0

-- a text that spells a list has no fault
pub spells_no_fault : (text : Text) (ts : List Lex) (c : Code) → Spells text ts → HasFault text c → ⊥
spells_no_fault text ts c h k =
    let one = one_list text ts k.0 h.0 k.1 h.1 (stops_at_end h.0 h.2) k.2 (stops_at_fault k.1 c k.3) in
    fault_no_end k.1 c k.3 (ap (skip 0) (sym one.1) ∙ h.2)

-- a text has one fault
pub one_fault : (text : Text) (c d : Code) → HasFault text c → HasFault text d → d ≡ c
one_fault text c d h k =
    let one = one_list text h.0 k.0 h.1 k.1 h.2 (stops_at_fault h.1 c h.3) k.2 (stops_at_fault k.1 d k.3) in
    fault_one k.1 d c k.3 (subst (λ (rest : Text). FaultHere rest c) one.1 h.3)
