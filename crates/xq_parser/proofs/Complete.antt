-- What is derived is read: for each way to put a line together.
use Rattle.std.proofs.Common.{◌≡◌, ℕ, zero, suc, ◌+◌, ◌<◌, ◌≤◌, Bool, true, false, List, [], ◌∷◌, length, Option, Some, None, refl, sym, ap, subst, arith, inl, inr}
use Rattle.std.proofs.lemmas.Slice.Eq.{bytes_eq-Decides}
use denote.Enum.Bare.{true_same}
use Rattle.xq_lexer.specs.contracts.tokens.Symbol.{the_type}
use Rattle.xq_lexer.specs.Lexeme.{Lex, name, prefixed, int, dec, str, symbol}
use Rattle.xq_lexer.specs.Nesting.{greatest}
use Rattle.xq_parser.specs.Look.{Tokens, Table, lookup, same, same_symbol}
use Rattle.xq_parser.specs.Rel.{Rel, empty, OneOf, ◌&◌, ◌▹◌, ◌◃◌, ◌⟨$⟩◌, ◌∣◌, Maybe, Many}
use Rattle.xq_parser.specs.private.Reading.{Outcome, Parser, one_of, begins, is, expect, pure, both, mapped, after, before, choose, maybe, many, many_from, begins_brace}
use Rattle.xq_parser.proofs.Tokens.{every}
use Rattle.xq_parser.proofs.Moves.{Under, Moves, AllMove, Opens, Deepens, then, one, token, plain, is_plain, greatest-at}
use Rattle.xq_parser.proofs.Rank.{rank, rank_of, has_rank, table_rank, rank-plain}

-- ---- room for what nests

-- the tokens open at most so many levels more
pub record Fits (d : ℕ) (ts : Tokens) : Type 0 where
  pub top : ℕ
  pub k : ℕ
  pub saved : List ℕ
  pub room : top ≤ k + d
  pub under : Under top k saved ts

-- the same, and one less
pub record Deeper (d : ℕ) (ts : Tokens) : Type 0 where
  pub top : ℕ
  pub k : ℕ
  pub saved : List ℕ
  pub room : top < k + d
  pub under : Under top k saved ts

pub greatest-least : (k : ℕ) (saved : List ℕ) (ts : Tokens) → k ≤ greatest k saved ts
greatest-least k saved [] = omega arith
greatest-least k saved (t ∷ ts) = omega arith

pub fits_after : (d : ℕ) (ts us : Tokens) → Moves ts us → Fits d ts → Fits d us
fits_after d ts us m f =
    let p = m.passes f.top f.k f.saved f.under in
    record { top = f.top; k = p.0; saved = f.saved; room = (let a = f.room in let b : f.k ≤ p.0 = p.1 in omega arith); under = p.2 }

pub deeper_after : (d : ℕ) (ts us : Tokens) → Moves ts us → Deeper d ts → Deeper d us
deeper_after d ts us m f =
    let p = m.passes f.top f.k f.saved f.under in
    record { top = f.top; k = p.0; saved = f.saved; room = (let a = f.room in let b : f.k ≤ p.0 = p.1 in omega arith); under = p.2 }

pub deeper_fits : (d : ℕ) (ts : Tokens) → Deeper d ts → Fits d ts
deeper_fits d ts f = record { top = f.top; k = f.k; saved = f.saved; room = (let a = f.room in omega arith); under = f.under }

pub enter : (d : ℕ) (t : Lex) (ts : Tokens) → Opens t → Fits d (t ∷ ts) → Deeper d ts
enter d t ts o f =
    let g = greatest-at f.k f.saved t ts (f.k + 1) (f.k ∷ f.saved) (o ts f.k f.saved) in
    let u = f.under in let r = f.room in
    let m = greatest-least (f.k + 1) (f.k ∷ f.saved) ts in
    record { top = f.top; k = f.k + 1; saved = f.k ∷ f.saved; room = omega (arith, g, u, r, m); under = omega (arith, g, u, r, m) }

pub enter_word : (d : ℕ) (t : Lex) (ts : Tokens) → Deepens t ts → Fits d (t ∷ ts) → Deeper d ts
enter_word d t ts o f =
    let g = greatest-at f.k f.saved t ts (f.k + 1) f.saved (o f.k f.saved) in
    let u = f.under in let r = f.room in
    let m = greatest-least (f.k + 1) f.saved ts in
    record { top = f.top; k = f.k + 1; saved = f.saved; room = omega (arith, g, u, r, m); under = omega (arith, g, u, r, m) }

-- ---- one token

-- a name or symbol, whose like is known again
abbrev pub is_fixed : Lex → Bool
is_fixed (name n) = true
is_fixed (symbol c) = true
is_fixed _ = false

same_refl : (t : Lex) → is_fixed t ≡ true → same t t ≡ true
unfolding same same_symbol
same_refl (name n) h = (bytes_eq-Decides n n).1 refl
same_refl (symbol c) h = true_same the_type c c refl
same_refl (prefixed p n) h = absurd cc
same_refl (int n) h = absurd cc
same_refl (dec n) h = absurd cc
same_refl (str n) h = absurd cc

pub only_at : {A : Type 0} (t : Lex) (a : A) (ts : Tokens) → is_fixed t ≡ true → one_of ((t, a) ∷ []) (t ∷ ts) ≡ Some (a, ts)
unfolding one_of lookup
only_at t a ts h = rw (same_refl t h) refl

pub is_at : (t : Lex) (ts : Tokens) → is_fixed t ≡ true → is t (t ∷ ts) ≡ true
unfolding begins lookup
is_at t ts h = rw (same_refl t h) refl

pub one_of_at : {A : Type 0} (table : Table A) (t : Lex) (a : A) (ts : Tokens) → lookup table t ≡ Some a → one_of table (t ∷ ts) ≡ Some (a, ts)
unfolding one_of
one_of_at table t a ts h = rw h refl

pub begins_at : {A : Type 0} (table : Table A) (t : Lex) (a : A) (ts : Tokens) → lookup table t ≡ Some a → begins table (t ∷ ts) ≡ true
unfolding begins
begins_at table t a ts h = rw h refl

-- ---- lines

-- the value, along an equation of values
pub value_is : {A : Type 0} {a b : A} (us : Tokens) → a ≡ b → ◌≡◌ {A = Outcome A} (Some (a, us)) (Some (b, us))
value_is us h = ap (λ x. Some (x, us)) h

-- What is derived before a rest that doesn't continue it is read, where the tokens are good; and its
-- tokens begin as they start.
pub record Reads {A : Type 0} (Good : Tokens → Type 0) (Start : Tokens → Type 0) (follow : ℕ) (P : Rel A) (p : Parser A) : Type 0 where
  pub reads : (ts : Tokens) (a : A) (us : Tokens) → P ts a us → rank us < follow → Good ts → p ts ≡ Some (a, us)
  pub starts : (ts : Tokens) (a : A) (us : Tokens) → P ts a us → rank us < follow → Start ts

pub reads-map : {A B : Type 0} (Good Start : Tokens → Type 0) (follow : ℕ) (f : A → B) (P : Rel A) (p : Parser A) → Reads Good Start follow P p → Reads Good Start follow (f ⟨$⟩ P) (mapped f p)
reads-map Good Start follow f P p r = record {
  reads = λ ts b us w low good. rw (r.reads ts w.0 us w.1 low good) (value_is us w.2);
  starts = λ ts b us w low. r.starts ts w.0 us w.1 low;
}

pub reads-& : {A B : Type 0} (Good Next Start Mid : Tokens → Type 0) (first last : ℕ) (P : Rel A) (Q : Rel B) (p : Parser A) (q : Parser B)
    → Reads Good Start first P p → Reads Next Mid last Q q
    → ((ts : Tokens) (a : A) (us : Tokens) → P ts a us → Good ts → Next us)
    → ((ts : Tokens) → Mid ts → rank ts < first)
    → Reads Good Start last (P & Q) (both p q)
reads-& Good Next Start Mid first last P Q p q rp rq pass low_mid = record {
  reads = λ ts a us w low good.
      let one = rp.reads ts a.0 w.0 w.1 (low_mid w.0 (rq.starts w.0 a.1 us w.2 low)) good in
      let two = rq.reads w.0 a.1 us w.2 low (pass ts a.0 w.0 w.1 good) in
      rw (one, two) refl;
  starts = λ ts a us w low. rp.starts ts a.0 w.0 w.1 (low_mid w.0 (rq.starts w.0 a.1 us w.2 low));
}

pub reads-▹ : {A : Type 0} (Good Next Start Mid : Tokens → Type 0) (follow : ℕ) (t : Lex) (P : Rel A) (p : Parser A)
    → is_fixed t ≡ true → Reads Next Mid follow P p
    → ((ts : Tokens) → Mid ts → Good (t ∷ ts) → Next ts)
    → ((ts : Tokens) → Mid ts → Start (t ∷ ts))
    → Reads Good Start follow (t ▹ P) (after t p)
reads-▹ Good Next Start Mid follow t P p known r pass start = record {
  reads = λ ts a us w low good.
      let good_here : Good (t ∷ w.0) = subst Good w.1 good in
      let inner = r.reads w.0 a us w.2 low (pass w.0 (r.starts w.0 a us w.2 low) good_here) in
      let first : expect t (t ∷ w.0) ≡ Some (tt, w.0) = only_at t tt w.0 known in
      rw (w.1, first) inner;
  starts = λ ts a us w low. subst Start (sym w.1) (start w.0 (r.starts w.0 a us w.2 low));
}

pub reads-∣ : {A : Type 0} (Good Start : Tokens → Type 0) (follow : ℕ) (test : Tokens → Bool) (P Q : Rel A) (p q : Parser A)
    → Reads Good Start follow P p → Reads Good Start follow Q q
    → ((ts : Tokens) (a : A) (us : Tokens) → P ts a us → rank us < follow → test ts ≡ true)
    → ((ts : Tokens) (a : A) (us : Tokens) → Q ts a us → rank us < follow → test ts ≡ false)
    → Reads Good Start follow (P ∣ Q) (choose test p q)
reads-∣ {A} Good Start follow test P Q p q rp rq held failed = record { reads = by_reads; starts = by_starts }
  where
    by_reads : (ts : Tokens) (a : A) (us : Tokens) → (P ∣ Q) ts a us → rank us < follow → Good ts → choose test p q ts ≡ Some (a, us)
    by_reads ts a us (inl w) low good = rw (held ts a us w low) (rp.reads ts a us w low good)
    by_reads ts a us (inr w) low good = rw (failed ts a us w low) (rq.reads ts a us w low good)

    by_starts : (ts : Tokens) (a : A) (us : Tokens) → (P ∣ Q) ts a us → rank us < follow → Start ts
    by_starts ts a us (inl w) low = rp.starts ts a us w low
    by_starts ts a us (inr w) low = rq.starts ts a us w low

-- ---- chains

-- what reading items one after another needs
pub record Item {A : Type 0} (Good : Tokens → Type 0) (follow : ℕ) (P : Rel A) (test : Tokens → Bool) (p : Parser A) : Type 0 where
  pub line : Reads Good (λ ts. rank ts < follow) follow P p
  pub tests : (ts : Tokens) (a : A) (us : Tokens) → P ts a us → test ts ≡ true
  pub moves : AllMove P
  pub shorter : (ts : Tokens) (a : A) (us : Tokens) → P ts a us → length us < length ts

-- items up to what the test refuses
module _ {A : Type 0} (Good : Tokens → Type 0) (keeps : (ts us : Tokens) → Moves ts us → Good ts → Good us) (follow : ℕ) (P : Rel A) (test : Tokens → Bool) (p : Parser A)
    (item : Item Good follow P test p) where
  pub follows : (xs : List A) (ts us : Tokens) → Many P ts xs us → rank us < follow → rank ts < follow
  follows [] ts us m low = rw m low
  follows (x ∷ xs) ts us m low = item.line.starts ts x m.0 m.1 (follows xs m.0 us m.2 low)

  reads_from : (xs : List A) (n : ℕ) (ts us : Tokens) → length ts ≤ n → Many P ts xs us → rank us < follow → test us ≡ false → Good ts → many_from test p n ts ≡ Some (xs, us)
  unfolding many_from
  reads_from [] zero ts us len m low stop good = ap (λ (x : Tokens). Some ([], x)) m
  reads_from [] (suc n) ts us len m low stop good = rw (m, stop) refl
  reads_from (x ∷ xs) zero ts us len m low stop good = let s = item.shorter ts x m.0 m.1 in absurd (omega (arith, s, len))
  reads_from (x ∷ xs) (suc n) ts us len m low stop good =
      let s = item.shorter ts x m.0 m.1 in
      let first = item.line.reads ts x m.0 m.1 (follows xs m.0 us m.2 low) good in
      let more = reads_from xs n m.0 us (omega (arith, s, len)) m.2 low stop (keeps ts m.0 (item.moves ts x m.0 m.1) good) in
      rw (item.tests ts x m.0 m.1, first, more) refl

  pub reads_to : (xs : List A) (ts us : Tokens) → Many P ts xs us → rank us < follow → test us ≡ false → Good ts → many test p ts ≡ Some (xs, us)
  unfolding many
  reads_to xs ts us m low stop good = reads_from xs (length ts) ts us (omega arith) m low stop good

module _ {A : Type 0} (Good : Tokens → Type 0) (keeps : (ts us : Tokens) → Moves ts us → Good ts → Good us) (follow last : ℕ) (P : Rel A) (test : Tokens → Bool) (p : Parser A)
    (item : Item Good follow P test p) (within : last ≤ follow) (stops : (us : Tokens) → rank us < last → test us ≡ false) where
  wide : (us : Tokens) → rank us < last → rank us < follow
  wide us low = omega (arith, low, within)

  pub reads-many : Reads Good (λ ts. rank ts < follow) last (Many P) (many test p)
  reads-many = record {
    reads = λ ts xs us m low good. reads_to Good keeps follow P test p item xs ts us m (wide us low) (stops us low) good;
    starts = λ ts xs us m low. follows Good keeps follow P test p item xs ts us m (wide us low);
  }

  maybe_follows : (x : Option A) (ts us : Tokens) → Maybe P ts x us → rank us < last → rank ts < follow
  maybe_follows None ts us m low = rw m (wide us low)
  maybe_follows (Some x) ts us m low = item.line.starts ts x us m (wide us low)

  maybe_reads : (x : Option A) (ts us : Tokens) → Maybe P ts x us → rank us < last → Good ts → maybe test p ts ≡ Some (x, us)
  maybe_reads None ts us m low good = rw (m, stops us low) refl
  maybe_reads (Some x) ts us m low good = rw (item.tests ts x us m, item.line.reads ts x us m (wide us low) good) refl

  pub reads-maybe : Reads Good (λ ts. rank ts < follow) last (Maybe P) (maybe test p)
  reads-maybe = record {
    reads = λ ts x us m low good. maybe_reads x ts us m low good;
    starts = λ ts x us m low. maybe_follows x ts us m low;
  }

-- an operator of a table before an operand
pub item-one_of : {A B : Type 0} (Good Start : Tokens → Type 0) (follow r : ℕ) (table : Table A) (test : Tokens → Bool) (P : Rel B) (p : Parser B)
    → ((ts us : Tokens) → Moves ts us → Good ts → Good us)
    → every (has_rank r) table ≡ true → r < follow → every is_plain table ≡ true → AllMove (OneOf table)
    → ((t : Lex) (a : A) (ts : Tokens) → lookup table t ≡ Some a → test (t ∷ ts) ≡ true)
    → ((ts : Tokens) → Start ts → begins_brace ts ≡ false)
    → AllMove P → Reads Good Start follow P p
    → Item Good follow (OneOf table & P) test (both (one_of table) p)
item-one_of {A} {B} Good Start follow r table test P p keeps ranks low all table_moves tested no_brace moves line = record {
  line = record {
    reads = λ ts a us w low_us good.
        let op = w.1 in
        let good_here : Good (op.0 ∷ w.0) = subst Good op.1 good in
        let inner = line.reads w.0 a.1 us w.2 low_us (keeps ts w.0 (table_moves ts a.0 w.0 op) good) in
        rw (op.1, one_of_at table op.0 a.0 w.0 op.2, inner) refl;
    starts = λ ts a us w low_us.
        let op = w.1 in
        let e : rank (op.0 ∷ w.0) ≡ r = table_rank table r ranks op.0 w.0 a.0 op.2 (no_brace w.0 (line.starts w.0 a.1 us w.2 low_us)) in
        rw (op.1, e) low;
  };
  tests = λ ts a us w. rw w.1.1 (tested w.1.0 a.0 w.0 w.1.2);
  moves = λ ts a us w. then ts w.0 us (table_moves ts a.0 w.0 w.1) (moves w.0 a.1 us w.2);
  shorter = λ ts a us w. let len = (moves w.0 a.1 us w.2).shorter in rw w.1.1 (omega (arith, len));
}

-- a token before an operand
pub item-▹ : {B : Type 0} (Good Start : Tokens → Type 0) (follow : ℕ) (t : Lex) (test : Tokens → Bool) (P : Rel B) (p : Parser B)
    → ((ts us : Tokens) → Moves ts us → Good ts → Good us)
    → is_fixed t ≡ true → rank_of t < follow → is_plain t ≡ true
    → ((ts : Tokens) → test (t ∷ ts) ≡ true)
    → ((ts : Tokens) → Start ts → begins_brace ts ≡ false)
    → AllMove P → Reads Good Start follow P p
    → Item Good follow (t ▹ P) test (after t p)
item-▹ Good Start follow t test P p keeps known low all tested no_brace moves line = record {
  line = reads-▹ Good Good (λ ts. rank ts < follow) Start follow t P p known line
      (λ ts st good. keeps (t ∷ ts) ts (token t ts (plain t all)) good)
      (λ ts st. rw (rank-plain t ts (no_brace ts st)) low);
  tests = λ ts a us w. rw w.1 (tested w.0);
  moves = λ ts a us w. then ts w.0 us (one t ts w.0 all w.1) (moves w.0 a us w.2);
  shorter = λ ts a us w. let len = (moves w.0 a us w.2).shorter in rw w.1 (omega (arith, len));
}

-- a first operand, and items after it
pub reads-chain : {A B C : Type 0} (Good Start : Tokens → Type 0) (follow last : ℕ) (value : A × List B → C) (P : Rel A) (p : Parser A) (I : Rel B) (test : Tokens → Bool) (i : Parser B)
    → ((ts us : Tokens) → Moves ts us → Good ts → Good us)
    → Reads Good Start follow P p → AllMove P → Item Good follow I test i → last ≤ follow
    → ((us : Tokens) → rank us < last → test us ≡ false)
    → Reads Good Start last (value ⟨$⟩ P & Many I) (mapped value (both p (many test i)))
reads-chain Good Start follow last value P p I test i keeps line moves item within stops =
    reads-map _ _ _ value _ _ (reads-& Good Good Start (λ ts. rank ts < follow) follow last P (Many I) p (many test i) line
    (reads-many Good keeps follow last I test i item within stops)
    (λ ts a us w good. keeps ts us (moves ts a us w) good)
    (λ ts low. low))

-- a first operand, and at most one item after it
pub reads-optional : {A B C : Type 0} (Good Start : Tokens → Type 0) (follow last : ℕ) (value : A × Option B → C) (P : Rel A) (p : Parser A) (I : Rel B) (test : Tokens → Bool) (i : Parser B)
    → ((ts us : Tokens) → Moves ts us → Good ts → Good us)
    → Reads Good Start follow P p → AllMove P → Item Good follow I test i → last ≤ follow
    → ((us : Tokens) → rank us < last → test us ≡ false)
    → Reads Good Start last (value ⟨$⟩ P & Maybe I) (mapped value (both p (maybe test i)))
reads-optional Good Start follow last value P p I test i keeps line moves item within stops =
    reads-map _ _ _ value _ _ (reads-& Good Good Start (λ ts. rank ts < follow) follow last P (Maybe I) p (maybe test i) line
    (reads-maybe Good keeps follow last I test i item within stops)
    (λ ts a us w good. keeps ts us (moves ts a us w) good)
    (λ ts low. low))

-- ---- between brackets

-- a token after a phrase
pub reads-◃ : {A : Type 0} (Good Start : Tokens → Type 0) (follow any : ℕ) (P : Rel A) (p : Parser A) (t : Lex)
    → is_fixed t ≡ true → ((us : Tokens) → rank (t ∷ us) < follow) → Reads Good Start follow P p → Reads Good Start any (P ◃ t) (before p t)
reads-◃ Good Start follow any P p t known low line = record {
  reads = λ ts a us w _ good.
      let end : expect t (t ∷ us) ≡ Some (tt, us) = only_at t tt us known in
      rw (line.reads ts a (t ∷ us) w (low us) good, end) refl;
  starts = λ ts a us w _. line.starts ts a (t ∷ us) w (low us);
}

-- the same, where the phrase may be missing
pub reads-inside : {A : Type 0} (Good Start : Tokens → Type 0) (follow any : ℕ) (x : A) (P : Rel A) (p : Parser A) (t : Lex)
    → is_fixed t ≡ true → ((us : Tokens) → rank (t ∷ us) < follow) → ((ts : Tokens) → Start ts → is t ts ≡ false) → Reads Good Start follow P p
    → Reads Good (λ _. Unit {0}) any ((empty x ∣ P) ◃ t) (before (choose (is t) (pure x) p) t)
reads-inside {A} Good Start follow any x P p t known low differs line = record { reads = by_reads; starts = λ ts a us w _. tt }
  where
    by_reads : (ts : Tokens) (a : A) (us : Tokens) → ((empty x ∣ P) ◃ t) ts a us → rank us < any → Good ts → before (choose (is t) (pure x) p) t ts ≡ Some (a, us)
    by_reads ts a us (inl w) _ good =
        let end : expect t (t ∷ us) ≡ Some (tt, us) = only_at t tt us known in
        rw (w.0, is_at t us known, end) (value_is us w.1)
    by_reads ts a us (inr w) _ good =
        let end : expect t (t ∷ us) ≡ Some (tt, us) = only_at t tt us known in
        rw (differs ts (line.starts ts a (t ∷ us) w (low us)), line.reads ts a (t ∷ us) w (low us) good, end) refl

-- an opening token before it
pub reads-open : {A : Type 0} (d : ℕ) (Start Mid : Tokens → Type 0) (any : ℕ) (t : Lex) (P : Rel A) (p : Parser A)
    → is_fixed t ≡ true → Opens t → ((ts : Tokens) → Mid ts → Start (t ∷ ts)) → Reads (Deeper d) Mid any P p → Reads (Fits d) Start any (t ▹ P) (after t p)
reads-open d Start Mid any t P p known opens begin line =
    reads-▹ (Fits d) (Deeper d) Start Mid any t P p known line (λ ts st f. enter d t ts opens f) begin
