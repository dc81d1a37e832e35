-- Which byte of the blocks stands where, and what a change of one block does to them.
use Rattle.std.proofs.Common.{◌≡◌, ℕ, zero, suc, ◌+◌, ◌-◌, ◌*◌, ◌<◌, ◌≤◌, ◌⊎◌, inl, inr, ⊎_elim, List, [], ◌∷◌, ◌++◌, length, get_or, set, take, drop, refl, sym, ap, ◌∙◌, arith, length-append, append-nil}
use Rattle.std.specs.Prelude.{slice_index, Vec}
use Rattle.std.specs.declared.alloc.Global.{Global}
use Rattle.std.proofs.lemmas.Bool.{cases_lt}
use Rattle.std.proofs.lemmas.List.{get_or_append_left, get_or-append_right, get_or_past, get_or-take, get_or-drop, get_or-set_same, length-set, length-take-le, take-append-drop, ext_get_or}
use Rattle.std.proofs.lemmas.List.Concat.{flat_map-append}
use Rattle.std.proofs.lemmas.List.Elements.{All-set, All-take, All-push}
use Rattle.xq_memory_disk.specs.private.Blocks.{joined, AreFull, HasRoom}

-- what each index reads decides a list, together with its length
pub same_bytes : (xs ys : List ℕ) → length xs ≡ length ys → ((i : ℕ) → slice_index xs i ≡ slice_index ys i) → xs ≡ ys
same_bytes xs ys l e = ext_get_or 0 xs ys l (λ i _. e i)

tail_full : (block : Vec ℕ Global) (rest : List (Vec ℕ Global)) → AreFull (block ∷ rest) → AreFull rest
tail_full block rest full = record { each = λ k d l. full.each (suc k) d (omega arith) }

first_full : (block : Vec ℕ Global) (rest : List (Vec ℕ Global)) → AreFull (block ∷ rest) → length block.items ≡ 65536
first_full block rest full = full.each 0 block (omega arith)

pub joined_length : (blocks : List (Vec ℕ Global)) → AreFull blocks → length (joined blocks) ≡ 65536 * length blocks
unfolding joined
joined_length [] full = refl
joined_length (b ∷ rest) full =
    omega (arith, length-append b.items (joined rest), first_full b rest full, joined_length rest (tail_full b rest full))

pub joined_at : (blocks : List (Vec ℕ Global)) (q r i : ℕ) (e : Vec ℕ Global) → AreFull blocks → q < length blocks → r < 65536 → i ≡ 65536 * q + r → slice_index (joined blocks) i ≡ slice_index (get_or blocks q e).items r
unfolding joined
joined_at [] q r i e full l m h = absurd (omega arith)
joined_at (b ∷ rest) zero r i e full l m h =
    get_or_append_left b.items (joined rest) 0 i (omega (arith, first_full b rest full)) ∙ ap (slice_index b.items) (omega arith)
joined_at (b ∷ rest) (suc q) r i e full l m h =
    get_or-append_right b.items (joined rest) 65536 i 0 (first_full b rest full) (omega arith)
    ∙ joined_at rest q r (i - 65536) e (tail_full b rest full) (omega arith) m (omega arith)

pub set_full : (blocks : List (Vec ℕ Global)) (q : ℕ) (b : Vec ℕ Global) → AreFull blocks → length b.items ≡ 65536 → AreFull (set blocks q b)
set_full blocks q b full l = record { each = All-set (λ it. length it.items ≡ 65536) blocks q b l full.each }

pub joined_set : (blocks : List (Vec ℕ Global)) (q r i : ℕ) (b : Vec ℕ Global) → AreFull blocks → length b.items ≡ 65536 → q < length blocks → r < 65536 → i ≡ 65536 * q + r → slice_index (joined (set blocks q b)) i ≡ slice_index b.items r
joined_set blocks q r i b full l m n h =
    joined_at (set blocks q b) q r i b (set_full blocks q b full l) (omega (arith, length-set blocks q b)) n h
    ∙ ap (λ (it : Vec ℕ Global). slice_index it.items r) (get_or-set_same blocks q b b m)

outside_set : (blocks : List (Vec ℕ Global)) (q i : ℕ) (b : Vec ℕ Global) → AreFull blocks → length b.items ≡ 65536 → (i < 65536 * q) ⊎ (65536 * q + 65536 ≤ i) → slice_index (joined (set blocks q b)) i ≡ slice_index (joined blocks) i
unfolding joined
outside_set [] q i b full l o = refl
outside_set (a ∷ rest) zero i b full l (inl o) = absurd (omega arith)
outside_set (a ∷ rest) zero i b full l (inr o) =
    get_or-append_right b.items (joined rest) 65536 i 0 l (omega arith)
    ∙ sym (get_or-append_right a.items (joined rest) 65536 i 0 (first_full a rest full) (omega arith))
outside_set (a ∷ rest) (suc q) i b full l o =
    let before : i < 65536 → slice_index (a.items ++ joined (set rest q b)) i ≡ slice_index (a.items ++ joined rest) i =
    λ lt. get_or_append_left a.items (joined (set rest q b)) 0 i (omega (arith, first_full a rest full))
    ∙ sym (get_or_append_left a.items (joined rest) 0 i (omega (arith, first_full a rest full))) in
    let behind : 65536 ≤ i → slice_index (a.items ++ joined (set rest q b)) i ≡ slice_index (a.items ++ joined rest) i =
    λ ge. get_or-append_right a.items (joined (set rest q b)) 65536 i 0 (first_full a rest full) ge
    ∙ outside_set rest q (i - 65536) b (tail_full a rest full) l (⊎_elim (λ lt. inl (omega arith)) (λ le. inr (omega arith)) o)
    ∙ sym (get_or-append_right a.items (joined rest) 65536 i 0 (first_full a rest full) ge) in
    ⊎_elim before behind (cases_lt i 65536)

-- A byte is kept where the block is another, and where the new block has the old byte.
pub kept_by_set : (blocks : List (Vec ℕ Global)) (q i : ℕ) (e b : Vec ℕ Global) → AreFull blocks → length b.items ≡ 65536 → q < length blocks
    → (65536 * q ≤ i → i < 65536 * q + 65536 → slice_index b.items (i - 65536 * q) ≡ slice_index (get_or blocks q e).items (i - 65536 * q))
    → slice_index (joined (set blocks q b)) i ≡ slice_index (joined blocks) i
kept_by_set blocks q i e b full l m h =
    let inside : 65536 * q ≤ i → i < 65536 * q + 65536 → slice_index (joined (set blocks q b)) i ≡ slice_index (joined blocks) i =
    λ ge lt. joined_set blocks q (i - 65536 * q) i b full l m (omega arith) (omega arith)
    ∙ h ge lt
    ∙ sym (joined_at blocks q (i - 65536 * q) i e full m (omega arith) (omega arith)) in
    ⊎_elim
    (λ (lt : i < 65536 * q). outside_set blocks q i b full l (inl lt))
    (λ (ge : 65536 * q ≤ i). ⊎_elim
    (λ (lt : i < 65536 * q + 65536). inside ge lt)
    (λ (over : 65536 * q + 65536 ≤ i). outside_set blocks q i b full l (inr over))
    (cases_lt i (65536 * q + 65536)))
    (cases_lt i (65536 * q))

pub take_full : (n : ℕ) (blocks : List (Vec ℕ Global)) → AreFull blocks → AreFull (take n blocks)
take_full n blocks full = record { each = All-take (λ it. length it.items ≡ 65536) n blocks full.each }

pub joined_take : (n i : ℕ) (blocks : List (Vec ℕ Global)) → AreFull blocks → i < 65536 * length (take n blocks) → slice_index (joined (take n blocks)) i ≡ slice_index (joined blocks) i
unfolding joined
joined_take n i blocks full l =
    sym (get_or_append_left (joined (take n blocks)) (joined (drop n blocks)) 0 i (omega (arith, joined_length (take n blocks) (take_full n blocks full))))
    ∙ ap (λ it. slice_index it i) (sym (flat_map-append (λ (it : Vec ℕ Global). it.items) (take n blocks) (drop n blocks)))
    ∙ ap (λ it. slice_index (joined it) i) (take-append-drop n blocks)

pub joined_past : (blocks : List (Vec ℕ Global)) (i : ℕ) → AreFull blocks → 65536 * length blocks ≤ i → slice_index (joined blocks) i ≡ 0
joined_past blocks i full l = get_or_past (joined blocks) i 0 (omega (arith, joined_length blocks full))

pub push_full : (blocks : List (Vec ℕ Global)) (b : Vec ℕ Global) → AreFull blocks → length b.items ≡ 65536 → AreFull (blocks ++ b ∷ [])
push_full blocks b full l = record { each = All-push (λ it. length it.items ≡ 65536) blocks b full.each l }

-- a block of zeros changes no index, since those behind the end read as 0
pub joined_push : (blocks : List (Vec ℕ Global)) (b : Vec ℕ Global) → ((i : ℕ) → slice_index b.items i ≡ 0) → (i : ℕ) → slice_index (joined (blocks ++ b ∷ [])) i ≡ slice_index (joined blocks) i
unfolding joined
joined_push blocks b zeros i =
    let whole = ap (λ it. slice_index it i) (flat_map-append (λ (it : Vec ℕ Global). it.items) blocks (b ∷ [])) in
    ⊎_elim
    (λ (lt : i < length (joined blocks)). whole ∙ get_or_append_left (joined blocks) (b.items ++ []) 0 i lt)
    (λ (ge : length (joined blocks) ≤ i). whole
    ∙ get_or-append_right (joined blocks) (b.items ++ []) (length (joined blocks)) i 0 refl ge
    ∙ ap (λ it. slice_index it (i - length (joined blocks))) (append-nil b.items)
    ∙ zeros (i - length (joined blocks))
    ∙ sym (get_or_past (joined blocks) i 0 ge))
    (cases_lt i (length (joined blocks)))

pub no_room : HasRoom [] 0
unfolding joined
no_room = record { full = record { each = λ k d l. absurd (omega arith) }; room = omega arith; clear = λ i l. refl }

pub seen_length : (blocks : List (Vec ℕ Global)) (len : ℕ) → HasRoom blocks len → length (take len (joined blocks)) ≡ len
seen_length blocks len room = length-take-le len (joined blocks) (omega (arith, joined_length blocks room.full, room.room))

-- what is behind the end reads as 0 in the blocks too
pub seen_at : (blocks : List (Vec ℕ Global)) (len : ℕ) → HasRoom blocks len → (i : ℕ) → slice_index (take len (joined blocks)) i ≡ slice_index (joined blocks) i
seen_at blocks len room i =
    ⊎_elim
    (λ (lt : i < len). get_or-take len (joined blocks) i 0 lt)
    (λ (ge : len ≤ i). get_or_past (take len (joined blocks)) i 0 (omega (arith, seen_length blocks len room)) ∙ sym (room.clear i ge))
    (cases_lt i len)

-- blocks that read the same have room for as much and for more
pub more_room : (old new : List (Vec ℕ Global)) (n m : ℕ) → HasRoom old n → n ≤ m → AreFull new → m ≤ 65536 * length new
    → ((i : ℕ) → slice_index (joined new) i ≡ slice_index (joined old) i) → HasRoom new m
more_room old new n m room le full within same =
    record { full = full; room = within; clear = λ i ge. same i ∙ room.clear i (omega arith) }

pub same_seen : (old new : List (Vec ℕ Global)) (n m : ℕ) → HasRoom old n → HasRoom new m
    → ((i : ℕ) → slice_index (joined new) i ≡ slice_index (joined old) i) → (i : ℕ) → slice_index (take m (joined new)) i ≡ slice_index (take n (joined old)) i
same_seen old new n m before after same i = seen_at new m after i ∙ same i ∙ sym (seen_at old n before i)

-- blocks that were written below the end have as much room
pub written_room : (old new : List (Vec ℕ Global)) (n at k : ℕ) → HasRoom old n → at + k ≤ n → AreFull new → length new ≡ length old
    → ((i : ℕ) → (i < at) ⊎ (at + k ≤ i) → slice_index (joined new) i ≡ slice_index (joined old) i) → HasRoom new n
written_room old new n at k room le full same others =
    record { full = full; room = omega (arith, room.room); clear = λ i ge. others i (inr (omega arith)) ∙ room.clear i ge }

-- blocks that were cut show what was there, as far as it is kept
pub cut_seen : (old new : List (Vec ℕ Global)) (n m : ℕ) → HasRoom old n → m ≤ n → HasRoom new m
    → ((i : ℕ) → i < m → slice_index (joined new) i ≡ slice_index (joined old) i) → take m (joined new) ≡ take m (take n (joined old))
cut_seen old new n m before le after same =
    let size : length (take m (take n (joined old))) ≡ m = length-take-le m (take n (joined old)) (omega (arith, seen_length old n before)) in
    same_bytes _ _ (omega (arith, seen_length new m after)) (λ i. ⊎_elim
    (λ (lt : i < m). get_or-take m (joined new) i 0 lt ∙ same i lt ∙ sym (seen_at old n before i) ∙ sym (get_or-take m (take n (joined old)) i 0 lt))
    (λ (ge : m ≤ i). get_or_past (take m (joined new)) i 0 (omega (arith, seen_length new m after)) ∙ sym (get_or_past (take m (take n (joined old))) i 0 (omega arith)))
    (cases_lt i m))

-- one more piece of what is read, and of what is written
pub read_more : (content buf piece behind : List ℕ) (at done n : ℕ) → done ≤ length buf → n ≤ length piece
    → ((k : ℕ) → k < done → slice_index buf k ≡ slice_index content (at + k))
    → ((k : ℕ) → k < n → slice_index piece k ≡ slice_index content (at + done + k))
    → (k : ℕ) → k < done + n → slice_index (take done buf ++ (piece ++ behind)) k ≡ slice_index content (at + k)
read_more content buf piece behind at done n le some first more k l =
    let size : length (take done buf) ≡ done = length-take-le done buf le in
    ⊎_elim
    (λ (lt : k < done). get_or_append_left (take done buf) (piece ++ behind) 0 k (omega arith) ∙ get_or-take done buf k 0 lt ∙ first k lt)
    (λ (ge : done ≤ k). get_or-append_right (take done buf) (piece ++ behind) done k 0 size ge
    ∙ get_or_append_left piece behind 0 (k - done) (omega arith)
    ∙ more (k - done) (omega arith)
    ∙ ap (slice_index content) (omega arith))
    (cases_lt k done)

pub written_more : (old new bytes piece : List ℕ) (at done n : ℕ) → piece ≡ drop done bytes
    → ((k : ℕ) → k < done → slice_index old (at + k) ≡ slice_index bytes k)
    → ((k : ℕ) → k < n → slice_index new (at + done + k) ≡ slice_index piece k)
    → ((i : ℕ) → (i < at + done) ⊎ (at + done + n ≤ i) → slice_index new i ≡ slice_index old i)
    → (k : ℕ) → k < done + n → slice_index new (at + k) ≡ slice_index bytes k
written_more old new bytes piece at done n is first more others k l =
    ⊎_elim
    (λ (lt : k < done). others (at + k) (inl (omega arith)) ∙ first k lt)
    (λ (ge : done ≤ k). ap (slice_index new) (omega arith)
    ∙ more (k - done) (omega arith)
    ∙ ap (λ it. slice_index it (k - done)) is
    ∙ get_or-drop done bytes (k - done) 0
    ∙ ap (slice_index bytes) (omega arith))
    (cases_lt k done)
