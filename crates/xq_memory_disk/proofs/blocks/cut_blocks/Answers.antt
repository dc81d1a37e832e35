use Rattle.std.proofs.Common.{ℕ, ◌≡◌, ◌+◌, ◌-◌, ◌*◌, ◌/◌, ◌<◌, ◌≤◌, ◌∙◌, ⊎_elim, List, length, take, set, ap, arith, length-take, length-set}
use Rattle.std.specs.Prelude.{slice_index, Vec}
use Rattle.std.specs.declared.alloc.Global.{Global}
use Rattle.std.proofs.lemmas.Bool.{cases_lt}
use Rattle.xq_memory_disk.specs.private.Blocks.{joined, AreFull}
use Rattle.xq_memory_disk.proofs.Places.{joined_set, joined_take, joined_past, kept_by_set, set_full, take_full}
use Rattle.xq_memory_disk.proofs.blocks.cut_blocks.Goals as goal

pub returns-then-len-eq0-clause-below : goal.returns-then-len-eq0-clause-below
returns-then-len-eq0-clause-below c = λ i l.
    rw c.truncate.ensures.items
    (joined_take c.div_ceil.result i c.args.blocks.now.items c.requires.full (omega (arith, length-take c.div_ceil.result c.args.blocks.now.items)))

pub returns-then-len-eq0-clause-clear : goal.returns-then-len-eq0-clause-clear
returns-then-len-eq0-clause-clear c = λ i l.
    rw c.truncate.ensures.items
    (joined_past (take c.div_ceil.result c.args.blocks.now.items) i (take_full c.div_ceil.result c.args.blocks.now.items c.requires.full)
    (omega (arith, length-take c.div_ceil.result c.args.blocks.now.items)))

pub returns-clause-below : goal.returns-clause-below
returns-clause-below c = λ i l.
    let blocks : List (Vec ℕ Global) = c.truncate.new.self.items in
    let q : ℕ = c.args.len / 65536 in
    let is : blocks ≡ take c.div_ceil.result c.args.blocks.now.items = c.truncate.ensures.items in
    let full : AreFull blocks = rw is (take_full c.div_ceil.result c.args.blocks.now.items c.requires.full) in
    let there : q < length blocks = rw is (omega (arith, length-take c.div_ceil.result c.args.blocks.now.items)) in
    let size : length c.clear_end.new.block.items ≡ 65536 =
    c.clear_end.ensures.len ∙ ap (λ (it : Vec ℕ Global). length it.items) c.index_mut.ensures.value ∙ full.each q c.index_mut.result.now there in
    let kept : slice_index (joined blocks) i ≡ slice_index (joined c.args.blocks.now.items) i =
    rw is (joined_take c.div_ceil.result i c.args.blocks.now.items c.requires.full (omega (arith, length-take c.div_ceil.result c.args.blocks.now.items))) in
    kept_by_set blocks q i c.index_mut.result.now c.clear_end.new.block full size there
    (λ ge lt. c.clear_end.ensures.below (i - 65536 * q) (omega arith)
    ∙ ap (λ (it : Vec ℕ Global). slice_index it.items (i - 65536 * q)) c.index_mut.ensures.value)
    ∙ kept

pub returns-clause-clear : goal.returns-clause-clear
returns-clause-clear c = λ i l.
    let blocks : List (Vec ℕ Global) = c.truncate.new.self.items in
    let q : ℕ = c.args.len / 65536 in
    let is : blocks ≡ take c.div_ceil.result c.args.blocks.now.items = c.truncate.ensures.items in
    let full : AreFull blocks = rw is (take_full c.div_ceil.result c.args.blocks.now.items c.requires.full) in
    let there : q < length blocks = rw is (omega (arith, length-take c.div_ceil.result c.args.blocks.now.items)) in
    let last : length blocks ≤ q + 1 = rw is (omega (arith, length-take c.div_ceil.result c.args.blocks.now.items)) in
    let size : length c.clear_end.new.block.items ≡ 65536 =
    c.clear_end.ensures.len ∙ ap (λ (it : Vec ℕ Global). length it.items) c.index_mut.ensures.value ∙ full.each q c.index_mut.result.now there in
    ⊎_elim
    (λ (lt : i < 65536 * q + 65536).
    joined_set blocks q (i - 65536 * q) i c.clear_end.new.block full size there (omega arith) (omega arith)
    ∙ c.clear_end.ensures.clear (i - 65536 * q) (omega arith))
    (λ (ge : 65536 * q + 65536 ≤ i).
    joined_past (set blocks q c.clear_end.new.block) i (set_full blocks q c.clear_end.new.block full size)
    (omega (arith, length-set blocks q c.clear_end.new.block)))
    (cases_lt i (65536 * q + 65536))
