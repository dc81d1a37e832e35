-- Looking back from contexts to their parents and siblings.
use Rattle.std.proofs.Common.{◌≡◌, ◌≢◌, ℕ, zero, suc, ◌+◌, ◌-◌, ◌<◌, ◌≤◌, List, [], ◌∷◌, ◌++◌, length, get_or, min, Bool, true, false, ◌&&◌, ◌||◌, eqb, cond, not, nat_le, inl, inr, refl, sym, ◌∙◌, ap, subst, arith, append_assoc}
use Rattle.std.specs.Prelude.{filter, reverse, Option, Some, None, slice_get}
use Rattle.std.proofs.lemmas.List.{append-nil, reverse-append, nil_from_length}
use Rattle.std.proofs.lemmas.Bool.{cases_lt, eqb-true, eq-eqb, leb-true, le-leb, and_from, and_parts, and_left, or_cases, or_left, or_right}
use Rattle.std.proofs.Math.Bool.{and-false}
use Rattle.xq_trees.specs.Forest.{count}
use Rattle.xq_trees.specs.Tree.{Tree, nodes, is_attribute}
use Rattle.xq_sources.specs.Lent.{row_lent}
use Rattle.xq_sources.specs.declared.lent.LentRow.{LentRow}
use Rattle.xq_trees.specs.Rows.{Row, rows, row_at}
use Rattle.xq_trees.specs.Regions.{kind_of_row}
use Rattle.xq_trees.specs.RegionTests.{plain_row, in_region}
use Rattle.xq_trees.specs.declared.Axis.TheVariants as axis
use Rattle.xq_trees.proofs.RegionTable.{in_region_is}
use Rattle.xq_trees.proofs.AxisTable.{plain_kind_is}
use Rattle.xq_meaning.specs.declared.node_tests.Test.{Test}
use Rattle.xq_axes.specs.Scans.{region}
use Rattle.xq_axes.specs.Reads.{span, span_end}
use Rattle.xq_axes.specs.private.Hits.{is_among, is_hit, is_wanted, row_passes, below_where, IsRising, IsReached}
use Rattle.xq_axes.specs.private.Downward.{level_of}
use Rattle.xq_axes.specs.private.Waiting.{axis_back, waits, waits_at, is_awaited, is_deeper_awaited, latest, bound, seen_of, AreSeen, WaitsBack, AreBack, IsLooked}
use Rattle.xq_axes.specs.declared.backward.Backward.{Backward}
use Rattle.xq_axes.specs.declared.backward.Backward.TheVariants.{Parent, PrecedingSibling}
use Rattle.xq_axes.specs.declared.backward.Seen.{Seen}
use Rattle.xq_axes.proofs.Lists.{any_from, any_at, among_at, among_index, not_among, below_where-none, got_none}
use Rattle.xq_trees.proofs.Lists.{same_test}
use Rattle.xq_axes.proofs.Ranges.{last_is, empty_step}
use Rattle.xq_axes.proofs.Scans.{back_bound}
use Rattle.xq_axes.proofs.Siblings.{AreBeside, beside_shared, beside_after, shared_beside, parent_clear, clear_parent}

-- # Levels

pub among_kept : (f : ℕ → Bool) (xs : List ℕ) (m : ℕ) → is_among (filter f xs) m ≡ (is_among xs m && f m)
among_kept f [] m = refl
among_kept f (x ∷ xs) m = by (among_kept f xs m) (f x) refl (eqb x m) refl
  where
    by : is_among (filter f xs) m ≡ (is_among xs m && f m) → (b : Bool) → f x ≡ b → (e : Bool) → eqb x m ≡ e → is_among (filter f (x ∷ xs)) m ≡ ((eqb x m || is_among xs m) && f m)
    by rest true h true e = (let fm : f m ≡ true = ap f (sym (eqb-true x m e)) ∙ h in rw (h, e, fm))
    by rest true h false e = rw (h, e, rest)
    by rest false h true e = (
        let fm : f m ≡ false = ap f (sym (eqb-true x m e)) ∙ h in
        let r : is_among (filter f xs) m ≡ false = rest ∙ ap (λ b. is_among xs m && b) fm ∙ and-false (is_among xs m) in
        rw (h, e, fm, r))
    by rest false h false e = rw (h, e, rest)

-- # Rows that are kept, in order

pub seen_more : (test : Test) (t : Tree) (n : ℕ) (xs : List Seen) (x : Seen) → AreSeen test t n xs → x ≡ seen_of test (row_at (rows t) (n + length xs)) → AreSeen test t n (xs ++ x ∷ [])
seen_more test t n [] x h e = (let m : n + 0 ≡ n = omega arith in e ∙ ap (λ k. seen_of test (row_at (rows t) k)) m, tt)
seen_more test t n (y ∷ xs) x h e = (let m : n + suc (length xs) ≡ suc n + length xs = omega arith in (h.0, seen_more test t (suc n) xs x h.1 (e ∙ ap (λ k. seen_of test (row_at (rows t) k)) m)))

pub record LastSeen (test : Test) (t : Tree) (n : ℕ) (xs : List Seen) (x : Seen) : Type 0 where
  pub front : AreSeen test t n xs
  pub last : x ≡ seen_of test (row_at (rows t) (n + length xs))

pub seen_last : (test : Test) (t : Tree) (n : ℕ) (xs : List Seen) (x : Seen) → AreSeen test t n (xs ++ x ∷ []) → LastSeen test t n xs x
seen_last test t n [] x h = record { front = tt; last = (let m : n ≡ n + 0 = omega arith in h.0 ∙ ap (λ k. seen_of test (row_at (rows t) k)) m) }
seen_last test t n (y ∷ xs) x h =
    let r = seen_last test t (suc n) xs x h.1 in
    let m : suc n + length xs ≡ n + suc (length xs) = omega arith in
    record { front = (h.0, r.front); last = r.last ∙ ap (λ k. seen_of test (row_at (rows t) k)) m }

-- # Whether a row is awaited

AreThere : Tree → List ℕ → Type 0
AreThere t vs = (i : ℕ) → i < length vs → get_or vs i 0 < count (nodes t)

parent_hit : (t : Tree) (vs : List ℕ) (p level : ℕ) (levels : List ℕ) → AreThere t vs → AreBack Parent t vs (p + 1) levels → level ≡ level_of t p → is_among levels (level + 1) ≡ is_hit axis.Parent t vs p
unfolding AreThere
parent_hit t vs p level levels there old e = same_test (is_among levels (level + 1)) (is_hit axis.Parent t vs p)
    (λ h. (
    let w = old.sound (level + 1) h in
    let v = get_or vs w.index 0 in
    let f = w.from in
    let l = w.is_level in
    let q = clear_parent t p v w.is_there (omega (arith, f)) (omega (arith, l, e)) (λ q a b. (let c = w.clear q (omega (arith, a)) b in omega (arith, c, l))) in
    any_from (λ v. in_region axis.Parent (rows t) v p) vs w.index 0 w.within ((in_region_is axis.Parent (rows t) v p).1 (q.inside, q.level))))
    (λ h. (
    let w = any_at (λ v. in_region axis.Parent (rows t) v p) vs 0 h in
    let v = get_or vs w.index 0 in
    let r = (in_region_is axis.Parent (rows t) v p).0 w.holds in
    let i = r.0.0 in
    let l = r.1 in
    let hv = there w.index w.within in
    old.complete (level + 1) (record {
      index = w.index;
      within = w.within;
      from = omega (arith, i);
      is_there = hv;
      waits = le-leb 1 (level_of t v) (omega (arith, l));
      is_level = omega (arith, l, e);
      clear = λ q a b. (let c = parent_clear t p v hv (record { inside = r.0; level = l }) q (omega (arith, a)) b in omega (arith, c, l, e));
    })))

beside_hit : (t : Tree) (vs : List ℕ) (p level : ℕ) (levels : List ℕ) → AreThere t vs → AreBack PrecedingSibling t vs (p + 1) levels → level ≡ level_of t p → (is_among levels level && plain_row (rows t) p) ≡ is_hit axis.PrecedingSibling t vs p
unfolding AreThere
beside_hit t vs p level levels there old e = same_test (is_among levels level && plain_row (rows t) p) (is_hit axis.PrecedingSibling t vs p)
    (λ h. (
    let k = and_parts _ _ h in
    let w = old.sound level k.0 in
    let v = get_or vs w.index 0 in
    let f = w.from in
    let l = w.is_level in
    let x = and_parts _ _ w.waits in
    let some = leb-true 1 (level_of t v) x.0 in
    let b : AreBeside t p v = record {
      before = omega (arith, f);
      is_there = w.is_there;
      same = omega (arith, l, e);
      some = omega (arith, some, l, e);
      clear = λ q a b. (let c = w.clear q (omega (arith, a)) b in omega (arith, c, e));
    } in
    let s = beside_shared t p v b in
    let plain_v = (plain_kind_is (kind_of_row (rows t) v)).0 x.1 in
    let plain_p = (plain_kind_is (kind_of_row (rows t) p)).0 k.1 in
    any_from (λ v. in_region axis.PrecedingSibling (rows t) v p) vs w.index 0 w.within
    ((in_region_is axis.PrecedingSibling (rows t) v p).1 ((s.parent, s.of_second.inside, s.of_first.inside, s.of_second.level, sym b.same), beside_after t p v b, plain_v, plain_p))))
    (λ h. (
    let w = any_at (λ v. in_region axis.PrecedingSibling (rows t) v p) vs 0 h in
    let v = get_or vs w.index 0 in
    let r = (in_region_is axis.PrecedingSibling (rows t) v p).0 w.holds in
    let g = r.1 in
    let hv = there w.index w.within in
    let b = shared_beside t r.0.0 p v (omega (arith, g)) hv r.0.2 r.0.1 (r.0.4 ∙ r.0.3) (sym r.0.4) in
    let same = b.same in
    let some = b.some in
    and_from _ _ (old.complete level (record {
      index = w.index;
      within = w.within;
      from = (let z = b.before in omega (arith, z));
      is_there = hv;
      waits = and_from _ _ (le-leb 1 (level_of t v) (omega (arith, same, some))) ((plain_kind_is (kind_of_row (rows t) v)).1 r.2);
      is_level = omega (arith, same, e);
      clear = λ q x y. (let c = b.clear q (omega (arith, x)) y in omega (arith, c, e));
    })) ((plain_kind_is (kind_of_row (rows t) p)).1 r.3)))

pub back_hit : (d : Backward) (t : Tree) (vs : List ℕ) (p level : ℕ) (levels : List ℕ) → ((i : ℕ) → i < length vs → get_or vs i 0 < count (nodes t)) → AreBack d t vs (p + 1) levels → level ≡ level_of t p
    → is_awaited d (is_among levels (level + 1)) (is_among levels level) (plain_row (rows t) p) ≡ is_hit (axis_back d) t vs p
unfolding AreThere
back_hit Parent t vs p level levels there old e = parent_hit t vs p level levels there old e
back_hit PrecedingSibling t vs p level levels there old e = beside_hit t vs p level levels there old e

-- siblings are awaited on their own level alone
pub awaited_is : (d : Backward) (deeper beside plain : Bool) → is_awaited d (is_deeper_awaited d deeper) beside plain ≡ is_awaited d deeper beside plain
awaited_is Parent deeper beside plain = refl
awaited_is PrecedingSibling deeper beside plain = refl

-- # One row further back

module _ (d : Backward) (t : Tree) (vs : List ℕ) (p level : ℕ) (levels new : List ℕ) (context : Bool) (hp : p < count (nodes t)) (old : AreBack d t vs (p + 1) levels) (e : level ≡ level_of t p) (ec : context ≡ is_among vs p)
    (en : (m : ℕ) → is_among new m ≡ ((is_among levels m && nat_le m level) || ((context && waits d level (plain_row (rows t) p)) && eqb level m))) where
  kept : (m : ℕ) → m ≤ level → WaitsBack d t vs (p + 1) m → WaitsBack d t vs p m
  kept m le w = record {
    index = w.index;
    within = w.within;
    from = (let f = w.from in omega (arith, f));
    is_there = w.is_there;
    waits = w.waits;
    is_level = w.is_level;
    clear = λ q a b. elim (cases_lt p q) [
      | inl k ↦ w.clear q (omega (arith, k)) b
      | inr k ↦ (let same : p ≡ q = omega (arith, a, k) in subst (λ x. m ≤ level_of t x) same (omega (arith, le, e)))
    ];
  }

  own : is_among vs p ≡ true → waits d level (plain_row (rows t) p) ≡ true → WaitsBack d t vs p level
  own c w =
      let i = among_index vs p c in
      let at = i.2 in
      record {
        index = i.0;
        within = i.1;
        from = omega (arith, at);
        is_there = omega (arith, at, hp);
        waits = subst (λ x. waits_at d t x ≡ true) (sym at) (subst (λ l. waits d l (plain_row (rows t) p) ≡ true) e w);
        is_level = ap (level_of t) at ∙ sym e;
        clear = λ q a b. absurd (omega (arith, a, b, at));
      }

  pub back_more : AreBack d t vs p new
  back_more = record {
    sound = λ m h. elim (or_cases _ _ (sym (en m) ∙ h)) [
      | inl a ↦ (let w = and_parts _ _ a in kept m (leb-true m level w.1) (old.sound m w.0))
      | inr a ↦ (let w = and_parts _ _ a in let c = and_parts _ _ w.0 in subst (λ k. WaitsBack d t vs p k) (eqb-true level m w.1) (own (sym ec ∙ c.0) c.1))
    ];
    complete = λ m w. en m ∙ elim (cases_lt p (get_or vs w.index 0)) [
      | inl k ↦ or_left _ _ (and_from _ _
          (old.complete m (record { index = w.index; within = w.within; from = omega (arith, k); is_there = w.is_there; waits = w.waits; is_level = w.is_level; clear = λ q a b. w.clear q (omega (arith, a)) b }))
          (le-leb m level (let c = w.clear p (omega arith) k in omega (arith, c, e))))
      | inr k ↦ (
          let same : get_or vs w.index 0 ≡ p = (let f = w.from in omega (arith, k, f)) in
          let l : level ≡ m = e ∙ ap (level_of t) (sym same) ∙ w.is_level in
          let here : waits d level (plain_row (rows t) p) ≡ true = subst (λ x. waits d x (plain_row (rows t) p) ≡ true) (sym e) (subst (λ x. waits_at d t x ≡ true) same w.waits) in
          or_right _ _ (and_from _ _ (and_from _ _ (ec ∙ among_at vs w.index p w.within same) here) (eq-eqb level m l)))
    ];
  }

-- # Where nothing is awaited

-- there is no context from m to before n
pub back_none : (d : Backward) (t : Tree) (vs : List ℕ) (n m : ℕ) (levels : List ℕ) → AreBack d t vs n levels → length levels ≡ 0 → m ≤ n → ((i : ℕ) → i < length vs → m ≤ get_or vs i 0 → n ≤ get_or vs i 0) → AreBack d t vs m levels
back_none d t vs n m levels old z h apart = record {
  sound = λ k e. absurd (let none = nil_from_length levels z in let f : is_among levels k ≡ false = ap (λ ls. is_among ls k) none in let g : true ≡ false = sym e ∙ f in cc);
  complete = λ k w. old.complete k (record {
    index = w.index;
    within = w.within;
    from = apart w.index w.within w.from;
    is_there = w.is_there;
    waits = w.waits;
    is_level = w.is_level;
    clear = λ q a b. w.clear q (omega (arith, a, h)) b;
  });
}

not_awaited : (d : Backward) (plain : Bool) → is_awaited d false false plain ≡ false
not_awaited Parent plain = refl
not_awaited PrecedingSibling plain = refl

none_among : (levels : List ℕ) (k : ℕ) → length levels ≡ 0 → is_among levels k ≡ false
none_among [] k e = refl
none_among (l ∷ ls) k e = absurd (omega (arith, e))

pub back_unhit : (d : Backward) (t : Tree) (vs : List ℕ) (p : ℕ) (levels : List ℕ) → ((i : ℕ) → i < length vs → get_or vs i 0 < count (nodes t)) → AreBack d t vs (p + 1) levels → length levels ≡ 0 → is_hit (axis_back d) t vs p ≡ false
back_unhit d t vs p levels there old z =
    let l = level_of t p in
    sym (back_hit d t vs p l levels there old refl) ∙ ap (λ b. is_awaited d b (is_among levels l) (plain_row (rows t) p)) (none_among levels (l + 1) z)
    ∙ ap (λ b. is_awaited d false b (plain_row (rows t) p)) (none_among levels l z) ∙ not_awaited d (plain_row (rows t) p)

gap_back : (d : Backward) (test : Test) (t : Tree) (vs : List ℕ) (n m : ℕ) (levels : List ℕ) → ((i : ℕ) → i < length vs → get_or vs i 0 < count (nodes t)) → AreBack d t vs n levels → length levels ≡ 0 → m ≤ n → ((i : ℕ) → i < length vs → m ≤ get_or vs i 0 → n ≤ get_or vs i 0)
    → below_where (is_wanted (axis_back d) test t vs) n ≡ below_where (is_wanted (axis_back d) test t vs) m
gap_back d test t vs n m levels there old z h apart = below_where-none (is_wanted (axis_back d) test t vs) m n h (λ p a b.
    and_left (is_hit (axis_back d) t vs p) (row_passes test (row_at (rows t) p))
    (back_unhit d t vs p levels there (back_none d t vs n (p + 1) levels old z (omega (arith, b)) (λ i l k. apart i l (omega (arith, k, a)))) z))

-- # What was looked at

module _ (d : Backward) (test : Test) (t : Tree) (vs : List ℕ) where
  abbrev wanted : ℕ → Bool
  wanted = is_wanted (axis_back d) test t vs

  turned : (b : Bool) (p : ℕ) → reverse (cond b (p ∷ []) []) ≡ cond b (p ∷ []) []
  turned true p = refl
  turned false p = refl

  pub looked_one : (p left new_left level : ℕ) (levels new found new_found : List ℕ) (context hit : Bool) → p < count (nodes t) → IsLooked d test t vs (p + 1) left levels found
      → level ≡ level_of t p → (context ≡ is_among vs p) × IsReached vs new_left p
      → ((m : ℕ) → is_among new m ≡ ((is_among levels m && nat_le m level) || ((context && waits d level (plain_row (rows t) p)) && eqb level m)))
      → hit ≡ (is_awaited d (is_among levels (level + 1)) (is_among levels level) (plain_row (rows t) p) && row_passes test (row_at (rows t) p))
      → new_found ≡ found ++ cond hit (p ∷ []) []
      → IsLooked d test t vs p new_left new new_found
  looked_one p left new_left level levels new found new_found context hit hp old e ec en eh ef =
      let is : hit ≡ wanted p = eh ∙ ap (λ b. b && row_passes test (row_at (rows t) p)) (back_hit d t vs p level levels old.there old.levels_are e) in
      let c : cond hit (p ∷ []) [] ≡ cond (wanted p) (p ∷ []) [] = ap (λ b. cond b (p ∷ []) []) is in
      let n : suc p ≡ p + 1 = omega arith in
      let r : reverse new_found ≡ cond (wanted p) (p ∷ []) [] ++ reverse found =
      ap reverse ef ∙ reverse-append found (cond hit (p ∷ []) []) ∙ ap (λ xs. xs ++ reverse found) (turned hit p ∙ c) in
      record {
        within = omega (arith, hp);
        rising = old.rising;
        reached = ec.1;
        there = old.there;
        levels_are = back_more d t vs p level levels new context hp old.levels_are e ec.0 en;
        is_found =
            old.is_found ∙ ap (λ k. below_where wanted k ++ reverse found) (sym n)
            ∙ append_assoc (below_where wanted p) (cond (wanted p) (p ∷ []) []) (reverse found)
            ∙ ap (λ xs. below_where wanted p ++ xs) (sym r);
      }

  -- over rows that hold nothing
  pub looked_over : (n m left : ℕ) (levels found : List ℕ) → IsLooked d test t vs n left levels found → length levels ≡ 0 → m ≤ n → ((i : ℕ) → i < left → get_or vs i 0 < m) → IsLooked d test t vs m left levels found
  looked_over n m left levels found old z h before =
      let apart : (i : ℕ) → i < length vs → m ≤ get_or vs i 0 → n ≤ get_or vs i 0 = λ i l k. elim (cases_lt i left) [
        | inl x ↦ absurd (let y = before i x in omega (arith, y, k))
        | inr x ↦ old.reached.others i x l
      ] in
      record {
        within = (let w = old.within in omega (arith, w, h));
        rising = old.rising;
        reached = record { within = old.reached.within; before = before; others = λ i x l. (let y = old.reached.others i x l in omega (arith, y, h)) };
        there = old.there;
        levels_are = back_none d t vs n m levels old.levels_are z h apart;
        is_found = old.is_found ∙ ap (λ xs. xs ++ reverse found) (gap_back d test t vs n m levels old.there old.levels_are z h apart);
      }

  pub look_start : (high : Option ℕ) → IsRising vs → ((i : ℕ) → i < length vs → get_or vs i 0 < count (nodes t)) → slice_get vs (length vs - 1) ≡ high → IsLooked d test t vs (bound high) (length vs) [] []
  look_start None up there e =
      let none : length vs ≡ 0 = (let g = got_none vs (length vs - 1) e in omega (arith, g)) in
      record {
        within = omega arith;
        rising = up;
        reached = record { within = omega arith; before = λ i l. absurd (omega (arith, l, none)); others = λ i l k. absurd (omega (arith, l, k)) };
        there = there;
        levels_are = record { sound = λ m h. absurd (cc); complete = λ m w. absurd (let l = w.within in omega (arith, l, none)) };
        is_found = sym (empty_step (axis_back d) test t vs (count (nodes t)) none);
      }
  look_start (Some last) up there e =
      let l = last_is vs last up e in
      let hl : last < count (nodes t) = (let a = there l.index l.within in let b = l.is in omega (arith, a, b)) in
      let begin : AreBack d t vs (count (nodes t)) [] = record { sound = λ m h. absurd (cc); complete = λ m w. absurd (let a = w.from in let b = w.is_there in omega (arith, a, b)) } in
      let none : (i : ℕ) → i < length vs → suc last ≤ get_or vs i 0 → count (nodes t) ≤ get_or vs i 0 = λ i k x. absurd (let y = l.greatest i k in omega (arith, x, y)) in
      record {
        within = hl;
        rising = up;
        reached = record { within = omega arith; before = λ i k. (let y = l.greatest i k in omega (arith, y)); others = λ i x k. absurd (omega (arith, x, k)) };
        there = there;
        levels_are = back_none d t vs (count (nodes t)) (suc last) [] begin refl hl none;
        is_found = gap_back d test t vs (count (nodes t)) (suc last) [] there begin refl hl none ∙ sym (append-nil (below_where wanted (suc last)));
      }

-- # How many rows are read

pub read_back : (t : Tree) (low high n old before now new top : ℕ) → now + min n (count (nodes t)) ≤ old + min top (count (nodes t)) → n ≡ suc high → low ≤ high → new ≤ now + (span_end t (span low high) - low) → before ≤ low
    → new + min before (count (nodes t)) ≤ old + min top (count (nodes t))
read_back t low high n old before now new top h e l r b = omega (arith, h, e, l, r, b)

-- the rows of the list that are left to look at, and their last place
pub record RestLooked (d : Backward) (test : Test) (t : Tree) (vs : List ℕ) (low place : ℕ) (rest : List Seen) (left : ℕ) (levels found : List ℕ) : Type 0 where
  pub seen : AreSeen test t low rest
  pub place_is : 0 < length rest → place + 1 ≡ low + length rest
  pub looked : IsLooked d test t vs (low + length rest) left levels found

-- # The state under equal names, and the places that are left

pub moved : (d e : Backward) (test other : Test) (t u : Tree) (vs ws : List ℕ) (n left : ℕ) (levels found : List ℕ) → d ≡ e → test ≡ other → t ≡ u → vs ≡ ws → IsLooked d test t vs n left levels found → IsLooked e other u ws n left levels found
moved d e test other t u vs ws n left levels found a b c f s =
    subst (λ x. IsLooked x other u ws n left levels found) a
    (subst (λ x. IsLooked d x u ws n left levels found) b
    (subst (λ x. IsLooked d test x ws n left levels found) c
    (subst (λ x. IsLooked d test t x n left levels found) f s)))

pub seen_row : (test now : Test) (x : LentRow) (r : Row) (plain passes : Bool) → row_lent x ≡ r → plain ≡ not (is_attribute x.kind) → passes ≡ row_passes now (row_lent x) → now ≡ test
    → ◌≡◌ {A = Seen} (record { level = x.level; is_plain = plain; passes = passes }) (seen_of test r)
seen_row test now x r plain passes e p q n = first ∙ ap (λ k. seen_of k (row_lent x)) n ∙ ap (seen_of test) e
  where
    first : ◌≡◌ {A = Seen} (record { level = x.level; is_plain = plain; passes = passes }) (seen_of now (row_lent x))
    first = rw (p, q)

pub latest_none : (vs : List ℕ) (left : ℕ) → latest vs left ≡ None → left ≡ 0
latest_none vs zero e = refl
latest_none vs (suc i) e = absurd (cc)

pub latest_some : (vs : List ℕ) (left v : ℕ) → latest vs left ≡ Some v → (left ≡ suc (left - 1)) × (get_or vs (left - 1) 0 ≡ v)
latest_some vs zero v e = absurd (cc)
latest_some vs (suc i) v e = let h : get_or vs i 0 ≡ v = cc in (omega arith, (let z : suc i - 1 ≡ i = omega arith in ap (λ k. get_or vs k 0) z ∙ h))

-- none of them is the place
pub apart : (vs : List ℕ) (left n : ℕ) → IsReached vs left (n + 1) → ((i : ℕ) → i < left → get_or vs i 0 < n) → (false ≡ is_among vs n) × IsReached vs left n
apart vs left n r before = (
  sym (not_among vs n (λ i l e. elim (cases_lt i left) [
    | inl k ↦ (let a = before i k in omega (arith, a, e))
    | inr k ↦ (let a = r.others i k l in omega (arith, a, e))
  ])),
  record { within = r.within; before = before; others = λ i k l. (let a = r.others i k l in omega (arith, a)) },
)

pub before_latest : (vs : List ℕ) (left v i : ℕ) → IsRising vs → left ≤ length vs → latest vs left ≡ Some v → i < left → get_or vs i 0 ≤ v
before_latest vs left v i up w e l =
    let s = latest_some vs left v e in
    let p = s.0 in
    let q = s.1 in
    elim (cases_lt i (left - 1)) [
      | inl k ↦ (let a = up i (left - 1) k (omega (arith, w, p)) in omega (arith, a, q))
      | inr k ↦ (let same : left - 1 ≡ i = omega (arith, k, l, p) in subst (λ j. get_or vs j 0 ≤ v) same (omega (arith, q)))
    ]

pub earlier : (vs : List ℕ) (left n v i : ℕ) → IsRising vs → IsReached vs left (n + 1) → latest vs left ≡ Some v → v ≢ n → i < left → get_or vs i 0 < n
earlier vs left n v i up r e ne l =
    let s = latest_some vs left v e in
    let p = s.0 in
    let q = s.1 in
    let w = r.within in
    let last = r.before (left - 1) (omega (arith, p)) in
    elim (cases_lt i (left - 1)) [
      | inl k ↦ (let a = up i (left - 1) k (omega (arith, w, p)) in omega (arith, a, q, last))
      | inr k ↦ (let same : left - 1 ≡ i = omega (arith, k, l, p) in subst (λ j. get_or vs j 0 < n) same (omega (arith, q, last, ne)))
    ]

pub top_bound : (d : Backward) (t : Tree) (vs : List ℕ) (top : Option ℕ) → IsRising vs → slice_get vs (length vs - 1) ≡ top → min (bound top) (count (nodes t)) ≤ length (region (axis_back d) t vs)
top_bound d t vs None up e = omega arith
top_bound d t vs (Some last) up e = back_bound d t vs last (last_is vs last up e)
