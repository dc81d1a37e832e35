-- Rows beside the numbers of their labels, one after another.
use Rattle.std.proofs.Common.{◌≡◌, ◌++◌, ◌∙◌, ℕ, pos, List, [], ◌∷◌, map, length, String, Global, Result, Ok, Err, OnOk, refl, sym, ap, subst, subst₂, arith}
use Rattle.std.proofs.lemmas.List.{map-append}
use Rattle.sqlite_value.specs.Order.{Row}
use Rattle.sqlite_value.specs.Value.{owned}
use Rattle.sqlite_value.specs.declared.value.Value.TheVariants.{Int, Text}
use Rattle.sqlite_value.specs.declared.value.ValueRef.{ValueRef}
use Rattle.sqlite.specs.Effect.{Database}
use Rattle.sqlite.specs.State.{State}
use Rattle.sqlite.specs.Values.{bound, bound_value}
use Rattle.xq_trees.specs.Codes.{kind_number}
use Rattle.xq_trees.specs.Rows.{Row as Node}
use Rattle.xq_tables.specs.Labels.{label_rows, IsNumberOf}
use Rattle.xq_tables.specs.Nodes.{cells}
use Rattle.xq_tables.specs.private.Numbered.{columns_of, numbered_cells, AddsRows, AreNumbered, NumbersRows}
use Rattle.xq_tables.specs.private.Statements.{Adds, AddsNamed, HasAdded, KeepsLabels, NumbersInHand}
use Rattle.xq_tables.proofs.Adds.{adds_more, adds_none, kept_numbers, numbered_adds}

-- # Their columns

pub columns_more : (nodes : List (ℕ × Node)) (numbers : List ℕ) (n : ℕ × Node) (m : ℕ) → length nodes ≡ length numbers → columns_of (nodes ++ n ∷ []) (numbers ++ m ∷ []) ≡ columns_of nodes numbers ++ numbered_cells n m
columns_more [] [] n m same = refl
columns_more [] (y ∷ ys) n m same = absurd (omega (arith, same))
columns_more (x ∷ xs) [] n m same = absurd (omega (arith, same))
columns_more (x ∷ xs) (y ∷ ys) n m same = ap (λ l. numbered_cells x y ++ l) (columns_more xs ys n m (omega (arith, same)))

-- the address is pushed first
pub address_pushed : (old new : List ValueRef) (x : ValueRef) (address : List ℕ) → new ≡ old ++ x ∷ [] → old ≡ [] → owned x ≡ Text address → bound new ≡ Text address ∷ []
address_pushed old new x address is none own = (let first : bound (x ∷ []) ≡ Text address ∷ [] = rw own refl in ap bound (is ∙ ap (λ l. l ++ x ∷ []) none) ∙ first)

-- those of one node are pushed after others
pub columns_pushed : (old new : List ValueRef) (a b c d e f : ValueRef) (n : ℕ × Node) (m : ℕ) → new ≡ old ++ a ∷ b ∷ c ∷ d ∷ e ∷ f ∷ []
    → owned a ≡ Int (pos n.0) → owned b ≡ Int (pos n.1.size) → owned c ≡ Int (pos n.1.level) → owned d ≡ Int (pos (kind_number n.1.label.kind)) → owned e ≡ Int (pos m) → owned f ≡ Text n.1.label.value → bound new ≡ bound old ++ numbered_cells n m
columns_pushed old new a b c d e f n m is pa pb pc pd pe pf =
    let columns : bound (a ∷ b ∷ c ∷ d ∷ e ∷ f ∷ []) ≡ numbered_cells n m = rw (pa, pb, pc, pd, pe, pf) refl in
    ap bound is ∙ map-append (λ v. bound_value (owned v)) old (a ∷ b ∷ c ∷ d ∷ e ∷ f ∷ []) ∙ ap (λ l. bound old ++ l) columns

-- # Numbers of labels

-- labels that keep their numbers
numbered_on : (old new : Database) → KeepsLabels old new → (nodes : List (ℕ × Node)) (numbers : List ℕ) → AreNumbered (label_rows old) nodes numbers → AreNumbered (label_rows new) nodes numbers
numbered_on old new keeps [] [] all = tt
numbered_on old new keeps [] (m ∷ numbers) all = absurd all
numbered_on old new keeps (n ∷ nodes) [] all = absurd all
numbered_on old new keeps (n ∷ nodes) (m ∷ numbers) all = (keeps m n.1.label.name all.0, numbered_on old new keeps nodes numbers all.1)

numbered_then : (labels : List Row) (nodes : List (ℕ × Node)) (numbers : List ℕ) (n : ℕ × Node) (m : ℕ) → AreNumbered labels nodes numbers → IsNumberOf labels m n.1.label.name → AreNumbered labels (nodes ++ n ∷ []) (numbers ++ m ∷ [])
numbered_then labels [] [] n m all one = (one, tt)
numbered_then labels [] (y ∷ ys) n m all one = absurd all
numbered_then labels (x ∷ xs) [] n m all one = absurd all
numbered_then labels (x ∷ xs) (y ∷ ys) n m all one = (all.0, numbered_then labels xs ys n m all.1 one)

numbered_parts : (labels : List Row) (ns ms : List (ℕ × Node)) (ls ks : List ℕ) → length ns ≡ length ls → AreNumbered labels (ns ++ ms) (ls ++ ks) → AreNumbered labels ns ls × AreNumbered labels ms ks
numbered_parts labels [] ms [] ks same all = (tt, all)
numbered_parts labels [] ms (l ∷ ls) ks same all = absurd (omega (arith, same))
numbered_parts labels (n ∷ ns) ms [] ks same all = absurd (omega (arith, same))
numbered_parts labels (n ∷ ns) ms (l ∷ ls) ks same all = (let rest = numbered_parts labels ns ms ls ks (omega (arith, same)) all.1 in ((all.0, rest.0), rest.1))

-- no name has one yet
pub numbers_none : (names : List (String Global × ℕ)) (s : State) → NumbersRows [] [] names names s s
numbers_none names s = record { mode = λ inside. inside; did = λ sound all. record { rows = λ address. adds_none address s.now sound; numbered = tt; in_hand = all } }

-- and one more
pub numbers_more : (nodes : List (ℕ × Node)) (numbers : List ℕ) (n : ℕ × Node) (m : ℕ) (start before after : List (String Global × ℕ)) (first mid last : State) → NumbersRows nodes numbers start before first mid → NumbersInHand n.1.label.name m before after mid last
    → NumbersRows (nodes ++ n ∷ []) (numbers ++ m ∷ []) start after first last
numbers_more nodes numbers n m start before after first mid last p q = record {
  mode = λ inside. q.mode (p.mode inside);
  did = λ sound all. (
      let one = p.did sound all in
      let two = q.did (one.rows []).sound one.in_hand in
      record {
        rows = λ address. adds_more address [] [] first.now mid.now last.now (one.rows address) (numbered_adds address n.1.label.name m mid.now last.now two.0);
        numbered = numbered_then (label_rows last.now) nodes numbers n m (numbered_on mid.now last.now two.0.keeps nodes numbers one.numbered) two.0.number;
        in_hand = two.1;
      });
}

-- # Inserts, one after another

pub rows_none : (address : List ℕ) (s : State) → AddsRows address [] [] s s
rows_none address s = record { mode = λ inside. inside; did = λ sound known. adds_none address s.now sound }

pub rows_then : (address : List ℕ) (ns ms : List (ℕ × Node)) (ls ks : List ℕ) (first mid last : State) → length ns ≡ length ls → AddsRows address ns ls first mid → AddsRows address ms ks mid last → AddsRows address (ns ++ ms) (ls ++ ks) first last
rows_then address ns ms ls ks first mid last same p q = record {
  mode = λ inside. q.mode (p.mode inside);
  did = λ sound known. (
      let parts = numbered_parts (label_rows first.now) ns ms ls ks same known in
      let one = p.did sound parts.0 in
      let two = q.did one.sound (numbered_on first.now mid.now one.keeps ms ks parts.1) in
      subst (λ l. HasAdded address l first.now last.now) (sym (map-append cells ns ms)) (adds_more address (map cells ns) (map cells ms) first.now mid.now last.now one two));
}

pub one_row : (address : List ℕ) (n : ℕ × Node) (m : ℕ) (old new : State) → Adds address n m old new → AddsRows address (n ∷ []) (m ∷ []) old new
one_row address n m old new it = record { mode = it.mode; did = λ sound known. it.did sound known.0 }

-- # LabelIds are numbered, and then the rows are inserted

pub rows_named : {E : Type 0} (address : List ℕ) (nodes : List (ℕ × Node)) (numbers : List ℕ) (before after : List (String Global × ℕ)) (old mid new : State) (r : Result (Unit {0}) E) → NumbersRows nodes numbers before after old mid → OnOk r (AddsRows address nodes numbers mid new)
    → OnOk r (AddsNamed address (map cells nodes) before after old new)
rows_named address nodes numbers before after old mid new (Err e) p q = tt
rows_named address nodes numbers before after old mid new (Ok x) p q = record {
  mode = λ inside. q.mode (p.mode inside);
  did = λ sound all. (
      let one = p.did sound all in
      let two = q.did (one.rows address).sound one.numbered in
      (adds_more address [] (map cells nodes) old.now mid.now new.now (one.rows address) two, kept_numbers mid.now new.now after two.keeps one.in_hand));
}

-- the rest is inserted as well
pub rows_rest : {E : Type 0} (address : List ℕ) (ns ms : List (ℕ × Node)) (ls ks : List ℕ) (all : List (ℕ × Node)) (every : List ℕ) (first mid last : State) (r : Result (Unit {0}) E) → length ns ≡ length ls → ns ++ ms ≡ all → ls ++ ks ≡ every
    → AddsRows address ns ls first mid → OnOk r (AddsRows address ms ks mid last) → OnOk r (AddsRows address all every first last)
rows_rest address ns ms ls ks all every first mid last (Err e) same are is p q = tt
rows_rest address ns ms ls ks all every first mid last (Ok x) same are is p q = subst₂ (λ xs ys. AddsRows address xs ys first last) are is (rows_then address ns ms ls ks first mid last same p q)
