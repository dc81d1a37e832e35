-- What a stack of variables still gives, turn by turn.
use Rattle.std.proofs.Common.{◌≡◌, ℕ, zero, suc, ◌+◌, ◌-◌, ◌*◌, ◌<◌, ◌≤◌, ◌++◌, List, [], ◌∷◌, map, take, drop, length, refl, sym, ◌∙◌, ap, subst, arith, Ok, Err, Bool, true, false, not}
use Rattle.std.proofs.lemmas.List.{append-nil, length-append, length-map, length-drop, map-append, drop-map}
use Rattle.xq_atoms.specs.declared.refusals.Code.{Code}
use Rattle.xq_trees.specs.Tree.{Tree}
use Rattle.xq_trees.specs.Items.{ItemView}
use Rattle.xq_trees.specs.Tuples.{Tuple}
use Rattle.xq_meaning.specs.Items.{Item}
use Rattle.xq_meaning.specs.Doing.{Doing, go_on, unless_found}
use Rattle.std.proofs.Math.Nat.{mul-lt-mul_of_pos_right}
use Rattle.xq_meaning.specs.Forms as Forms
use Rattle.xq_meaning.specs.PlanMeaning.{Frame, Meaning}
use Rattle.xq_eval.proofs.Loops.{found_is, stops}
use Rattle.xq_eval.specs.private.Bindings.{Falls, stays, falls}
use Rattle.xq_eval.specs.private.Quantifying.{opened_at, at_top, holds, tried, resumed, weigh, all_weigh, some_weigh}

missed : (wanted : Bool) (rest : Doing Bool) (f : List Tree) → unless_found wanted (not wanted) rest f ≡ rest f
missed true rest f = refl
missed false rest f = refl

-- the frame of the innermost variable
pub at_top-env : (frame : Frame) (es : List (List Item)) → at_top frame es ≡ Forms.in_env frame (frame.env ++ map (take 1) es)
at_top-env frame [] = ap (Forms.in_env frame) (sym (append-nil frame.env))
at_top-env frame (e ∷ es) =
    at_top-env (opened_at frame (take 1 e)) es ∙ ap (Forms.in_env frame) (append_one frame.env (take 1 e) (map (take 1) es))
  where
    append_one : {A : Type 0} (xs : List A) (x : A) (ys : List A) → (xs ++ x ∷ []) ++ ys ≡ xs ++ x ∷ ys
    append_one [] x ys = refl
    append_one (y ∷ xs) x ys = ap (λ zs. y ∷ zs) (append_one xs x ys)

module _ (wanted : Bool) (test : Meaning) where
  -- what the innermost variables give is all that counts
  pub same_top : (inner inner' : List Meaning → Frame → Doing Bool) (parts : List Meaning) (frame : Frame) (es : List (List Item)) (f f' : List Tree) → length es ≤ length parts
      → inner (drop (length es) parts) (at_top frame es) f ≡ inner' (drop (length es) parts) (at_top frame es) f'
      → resumed wanted test inner parts frame es f ≡ resumed wanted test inner' parts frame es f'
  same_top inner inner' parts frame [] f f' h e = e
  same_top inner inner' [] frame (x ∷ es) f f' h e = absurd (omega arith)
  same_top inner inner' (part ∷ parts) frame (x ∷ es) f f' h e =
      ap (λ o. go_on o (λ answer. unless_found wanted answer (tried wanted test (drop 1 x) (part ∷ parts) frame))) (same_top inner inner' parts (opened_at frame (take 1 x)) es f f' (omega arith) e)

  pub found_top : (inner : List Meaning → Frame → Doing Bool) (parts : List Meaning) (frame : Frame) (es : List (List Item)) (f f' : List Tree) → length es ≤ length parts
      → inner (drop (length es) parts) (at_top frame es) f ≡ (Ok wanted, f') → resumed wanted test inner parts frame es f ≡ (Ok wanted, f')
  found_top inner parts frame [] f f' h e = e
  found_top inner [] frame (x ∷ es) f f' h e = absurd (omega arith)
  found_top inner (part ∷ parts) frame (x ∷ es) f f' h e =
      ap (λ o. go_on o (λ answer. unless_found wanted answer (tried wanted test (drop 1 x) (part ∷ parts) frame))) (found_top inner parts (opened_at frame (take 1 x)) es f f' (omega arith) e)
      ∙ found_is wanted (tried wanted test (drop 1 x) (part ∷ parts) frame) f'

  pub code_top : (inner : List Meaning → Frame → Doing Bool) (parts : List Meaning) (frame : Frame) (es : List (List Item)) (f : List Tree) (code : Code) → length es ≤ length parts
      → (inner (drop (length es) parts) (at_top frame es) f).0 ≡ Err code → (resumed wanted test inner parts frame es f).0 ≡ Err code
  code_top inner parts frame [] f code h e = e
  code_top inner [] frame (x ∷ es) f code h e = absurd (omega arith)
  code_top inner (part ∷ parts) frame (x ∷ es) f code h e =
      stops (resumed wanted test inner parts (opened_at frame (take 1 x)) es f) (λ answer. unless_found wanted answer (tried wanted test (drop 1 x) (part ∷ parts) frame)) code
      (code_top inner parts (opened_at frame (take 1 x)) es f code (omega arith) e)

  -- the last entry of a stack
  last_entry : (inner : List Meaning → Frame → Doing Bool) (parts : List Meaning) (frame : Frame) (es : List (List Item)) (e : List Item) (f : List Tree)
      → resumed wanted test inner parts frame (es ++ e ∷ []) f ≡ resumed wanted test (λ ps fr. resumed wanted test inner ps fr (e ∷ [])) parts frame es f
  last_entry inner parts frame [] e f = refl
  last_entry inner [] frame (x ∷ es) e f = refl
  last_entry inner (part ∷ parts) frame (x ∷ es) e f =
      ap (λ o. go_on o (λ answer. unless_found wanted answer (tried wanted test (drop 1 x) (part ∷ parts) frame))) (last_entry inner parts (opened_at frame (take 1 x)) es e f)

  first_tried : (ps : List Meaning) (frame : Frame) (x : Item) (xs : List Item) (f : List Tree) → 0 < length ps
      → tried wanted test (x ∷ xs) ps frame f ≡ resumed wanted test (holds wanted test) ps frame ((x ∷ xs) ∷ []) f
  first_tried [] frame x xs f h = absurd (omega arith)
  first_tried (p ∷ ps) frame x xs f h = refl

  nothing_tried : (ps : List Meaning) (frame : Frame) (f : List Tree) → tried wanted test [] ps frame f ≡ (Ok (not wanted), f)
  nothing_tried [] frame f = refl
  nothing_tried (p ∷ ps) frame f = refl

  used_up : (ps : List Meaning) (frame : Frame) (e : List Item) (f : List Tree) → resumed wanted test (tried wanted test []) ps frame (e ∷ []) f ≡ tried wanted test (drop 1 e) ps frame f
  used_up [] frame e f = refl
  used_up (p ∷ ps) frame e f =
      ap (λ o. go_on o (λ answer. unless_found wanted answer (tried wanted test (drop 1 e) (p ∷ ps) frame))) (nothing_tried ps (opened_at frame (take 1 e)) f)
      ∙ missed wanted (tried wanted test (drop 1 e) (p ∷ ps) frame) f

  -- a stack whose last variable has used up its values goes on below
  pub falls_same : (stack : Tuple ItemView) (items : List ItemView) (read : ItemView → Item) (below : Tuple ItemView) (left : List ItemView) (parts : List Meaning) (frame : Frame) (f : List Tree) → Falls stack items below left → length stack ≤ length parts
      → (length below ≤ length stack) × (resumed wanted test (tried wanted test (map read items)) parts frame (map (map read) stack) f ≡ resumed wanted test (tried wanted test (map read left)) parts frame (map (map read) below) f)
  falls_same stack items read below left parts frame f stays h = (omega arith, refl)
  falls_same stack items read below left parts frame f (falls es e before) h =
      let k = falls_same stack items read (es ++ e ∷ []) [] parts frame f before h in
      let n : length (es ++ e ∷ []) ≡ length es + 1 = length-append es (e ∷ []) in
      let m = length-map es (map read) in
      let rest : map read (drop 1 e) ≡ drop 1 (map read e) = sym (drop-map read 1 e) in (
        omega arith,
        k.1 ∙ ap (λ s. resumed wanted test (tried wanted test []) parts frame s f) (map-append (map read) es (e ∷ []))
            ∙ last_entry (tried wanted test []) parts frame (map (map read) es) (map read e) f
            ∙ same_top (λ ps fr. resumed wanted test (tried wanted test []) ps fr (map read e ∷ [])) (tried wanted test (drop 1 (map read e))) parts frame (map (map read) es) f f (omega arith)
            (used_up (drop (length (map (map read) es)) parts) (at_top frame (map (map read) es)) (map read e) f)
            ∙ ap (λ xs. resumed wanted test (tried wanted test xs) parts frame (map (map read) es) f) (sym rest),
      )

  -- where there is a next value, the stack has it
  pub moved_same : (parts : List Meaning) (frame : Frame) (es : List (List Item)) (x : Item) (xs : List Item) (f : List Tree) → length es < length parts
      → resumed wanted test (tried wanted test (x ∷ xs)) parts frame es f ≡ resumed wanted test (holds wanted test) parts frame (es ++ (x ∷ xs) ∷ []) f
  moved_same parts frame es x xs f h =
      same_top (tried wanted test (x ∷ xs)) (λ ps fr. resumed wanted test (holds wanted test) ps fr ((x ∷ xs) ∷ [])) parts frame es f f (omega arith)
      (first_tried (drop (length es) parts) (at_top frame es) x xs f (omega (arith, length-drop (length es) parts)))
      ∙ sym (last_entry (holds wanted test) parts frame es (x ∷ xs) f)

  -- no variable has a value left
  pub none_left : (parts : List Meaning) (frame : Frame) (f : List Tree) → resumed wanted test (tried wanted test []) parts frame [] f ≡ (Ok (not wanted), f)
  none_left parts frame f = nothing_tried parts frame f

-- # The measure falls

weigh_same : {A : Type 0} (width : ℕ) (inner inner' : ℕ → ℕ) (n m : ℕ) (es : List (List A)) → n ≡ length es + m → inner m ≡ inner' m → weigh width inner n es ≡ weigh width inner' n es
weigh_same width inner inner' n m [] h e = let k : n ≡ m = omega arith in ap inner k ∙ e ∙ ap inner' (sym k)
weigh_same width inner inner' zero m (x ∷ es) h e = absurd (omega arith)
weigh_same width inner inner' (suc n) m (x ∷ es) h e = ap (λ k. length (drop 1 x) * all_weigh width n + k) (weigh_same width inner inner' n m es (omega arith) e)

weigh_less : {A : Type 0} (width : ℕ) (inner inner' : ℕ → ℕ) (n m : ℕ) (es : List (List A)) → n ≡ length es + m → inner m < inner' m → weigh width inner n es < weigh width inner' n es
weigh_less width inner inner' n m [] h e = let k : n ≡ m = omega arith in subst (λ j. inner j < inner' j) (sym k) e
weigh_less width inner inner' zero m (x ∷ es) h e = absurd (omega arith)
weigh_less width inner inner' (suc n) m (x ∷ es) h e = let k = weigh_less width inner inner' n m es (omega arith) e in omega arith

weigh_last : {A : Type 0} (width : ℕ) (inner : ℕ → ℕ) (n : ℕ) (es : List (List A)) (e : List A) → weigh width inner n (es ++ e ∷ []) ≡ weigh width (λ k. weigh width inner k (e ∷ [])) n es
weigh_last width inner n [] e = refl
weigh_last width inner zero (x ∷ es) e = refl
weigh_last width inner (suc n) (x ∷ es) e = ap (λ k. length (drop 1 x) * all_weigh width n + k) (weigh_last width inner n es e)

used_weigh : {A : Type 0} (width m : ℕ) (e : List A) → weigh width (some_weigh {A = A} width []) m (e ∷ []) ≡ some_weigh width (drop 1 e) m
used_weigh width zero e = refl
used_weigh width (suc zero) e = omega arith
used_weigh width (suc (suc m)) e = omega arith

pub falls_weigh : (width : ℕ) (stack : Tuple ItemView) (items : List ItemView) (below : Tuple ItemView) (left : List ItemView) (n : ℕ) → Falls stack items below left → length stack ≤ n
    → (length below ≤ length stack) × (weigh width (some_weigh width items) n stack ≡ weigh width (some_weigh width left) n below)
falls_weigh width stack items below left n stays h = (omega arith, refl)
falls_weigh width stack items below left n (falls es e before) h =
    let k = falls_weigh width stack items (es ++ e ∷ []) [] n before h in
    let many : length (es ++ e ∷ []) ≡ length es + 1 = length-append es (e ∷ []) in
    (omega arith, k.1 ∙ weigh_last width (some_weigh {A = ItemView} width []) n es e ∙ weigh_same width (λ m. weigh width (some_weigh {A = ItemView} width []) m (e ∷ [])) (some_weigh width (drop 1 e)) n (n - length es) es (omega arith) (used_weigh width (n - length es) e))

first_weigh : (width m : ℕ) (x : ItemView) (xs : List ItemView) → 0 < m → some_weigh width (x ∷ xs) m ≡ weigh width (all_weigh width) m ((x ∷ xs) ∷ [])
first_weigh width zero x xs h = absurd (omega arith)
first_weigh width (suc m) x xs h = omega arith

pub moved_weigh : (width n : ℕ) (es : Tuple ItemView) (x : ItemView) (xs : List ItemView) → length es < n → weigh width (some_weigh width (x ∷ xs)) n es ≡ weigh width (all_weigh width) n (es ++ (x ∷ xs) ∷ [])
moved_weigh width n es x xs h =
    weigh_same width (some_weigh width (x ∷ xs)) (λ m. weigh width (all_weigh width) m ((x ∷ xs) ∷ [])) n (n - length es) es (omega arith) (first_weigh width (n - length es) x xs (omega arith))
    ∙ sym (weigh_last width (all_weigh width) n es (x ∷ xs))

all_positive : (width n : ℕ) → 0 < width → 0 < all_weigh width n
all_positive width zero h = omega arith
all_positive width (suc n) h = let k = mul-lt-mul_of_pos_right {m = 0} {n = width} {k = all_weigh width n} h (all_positive width n h) in omega arith

turn_lighter : (width m : ℕ) (xs : List ItemView) → length xs < width → some_weigh width xs m < all_weigh width m
turn_lighter width zero xs h = omega arith
turn_lighter width (suc m) xs h = mul-lt-mul_of_pos_right {m = length xs} {n = width} {k = all_weigh width m} h (all_positive width m (omega arith))

pub turn_weigh : (width n : ℕ) (es : Tuple ItemView) (xs : List ItemView) → length es ≤ n → length xs < width → weigh width (some_weigh width xs) n es < weigh width (all_weigh width) n es
turn_weigh width n es xs h k = weigh_less width (some_weigh width xs) (all_weigh width) n (n - length es) es (omega arith) (turn_lighter width (n - length es) xs k)

-- where nothing is left to try, a variable is taken off before another moves
pub falls_shorter : (stack : Tuple ItemView) (items : List ItemView) (below : Tuple ItemView) (left : List ItemView) → Falls stack items below left → (length below ≤ length stack) × (items ≡ [] → 0 < length left → length below < length stack)
falls_shorter stack items below left stays = (omega arith, λ none some. absurd (let e = ap length none in omega arith))
falls_shorter stack items below left (falls es e before) =
    let k = falls_shorter stack items (es ++ e ∷ []) [] before in
    let many : length (es ++ e ∷ []) ≡ length es + 1 = length-append es (e ∷ []) in
    (omega arith, λ none some. omega arith)
