use Rattle.std.proofs.Common.{◌≡◌, ◌≤◌, ℕ, refl, length, string_bytes, sym, ap, ◌∙◌, subst, subst₂, arith}
use Rattle.std.specs.Prelude.{slice_range, IsCharBoundary}
use Rattle.std.proofs.lemmas.Slice.Eq.{bytes_eq-Decides}
use Rattle.std.proofs.lemmas.Str.{IsUtf8-string_bytes, IsCharBoundary-from_take}
use Rattle.xq_packed.specs.Packed.{Packed, AreSame}
use Rattle.xq_packed.specs.private.Alike.{AreAlike, AreWithin}
use Rattle.xq_packed.specs.private.Shapes.{value_start, text_between, rows_of_shapes}
use Rattle.xq_packed.proofs.Appending.{IsCut, run-of, start-cut, first-cut}
use Rattle.xq_packed.proofs.Comparing.{up-to, all-within, rows-alike}
use Rattle.xq_packed.proofs.PackedRows.is_run_same.Goals as goal
use Rattle.xq_packed.proofs.PackedRows.is_run_same.Goals.{After-deref-2, After-deref-4, After-start_at-3, After-start_at-4}

-- # Places

pub start_at-requires : goal.start_at-requires
start_at-requires c =
    let here = up-to (string_bytes c.self.inside.text) c.self.inside.names c.self.inside.shapes.items c.args.high c.args.self.now c.self.view_is c.requires.mine in
    omega (arith, here, c.requires.order, ap length c.deref.ensures.value)

there : (c : After-deref-2) → c.args.high ≤ length c.other.inside.shapes.items
there c =
    up-to (string_bytes c.other.inside.text) c.other.inside.names c.other.inside.shapes.items c.args.high c.args.other.now c.other.view_is c.requires.its

here : (c : After-deref-2) → c.args.high ≤ length c.self.inside.shapes.items
here c =
    up-to (string_bytes c.self.inside.text) c.self.inside.names c.self.inside.shapes.items c.args.high c.args.self.now c.self.view_is c.requires.mine

pub start_at-requires-2 : goal.start_at-requires-2
start_at-requires-2 c =
    omega (arith, there c, c.requires.order, ap length c.deref-2.ensures.value)

start : (c : After-deref-4) → c.start_at.result ≡ value_start 0 c.self.inside.shapes.items c.args.low
start c = c.start_at.ensures ∙ ap (λ ss. value_start 0 ss c.args.low) c.deref.ensures.value

other : (c : After-deref-4) → c.start_at-2.result ≡ value_start 0 c.other.inside.shapes.items c.args.low
other c = c.start_at-2.ensures ∙ ap (λ ss. value_start 0 ss c.args.low) c.deref-2.ensures.value

pub are_alike-requires-clause-mine : goal.are_alike-requires-clause-mine
are_alike-requires-clause-mine c =
    let at = (goal.at.are_alike-requires-clause-mine c).After-deref-2 in
    let names = c.self.inside.names in
    let shapes = c.self.inside.shapes.items in
    subst₂ (λ n ss. AreWithin names n ss c.args.low c.args.high) (sym (start c)) (sym c.deref-3.ensures.value)
    (all-within (string_bytes c.self.inside.text) names shapes c.args.low c.args.high c.self.invariant.shapes (here at))

pub are_alike-requires-clause-its : goal.are_alike-requires-clause-its
are_alike-requires-clause-its c =
    let at = (goal.at.are_alike-requires-clause-its c).After-deref-2 in
    let names = c.other.inside.names in
    let shapes = c.other.inside.shapes.items in
    subst₂ (λ n ss. AreWithin names n ss c.args.low c.args.high) (sym (other c)) (sym c.deref-4.ensures.value)
    (all-within (string_bytes c.other.inside.text) names shapes c.args.low c.args.high c.other.invariant.shapes (there at))

-- # The values

pub start_at-requires-3 : goal.start_at-requires-3
start_at-requires-3 c =
    let at = (goal.at.start_at-requires-3 c).After-deref-2 in
    omega (arith, here at, ap length c.deref-6.ensures.value)

end : (c : After-start_at-3) → c.start_at-3.result ≡ value_start 0 c.self.inside.shapes.items c.args.high
end c = c.start_at-3.ensures ∙ ap (λ ss. value_start 0 ss c.args.high) c.deref-6.ensures.value

cut_mine : (c : After-start_at-3) (place at : ℕ) → at ≡ value_start 0 c.self.inside.shapes.items place → IsCharBoundary c.deref-5.result.now at
cut_mine c place at e =
    let text = string_bytes c.self.inside.text in
    let cut : IsCut text at = subst (IsCut text) (sym e) (start-cut text c.self.inside.names 0 c.self.inside.shapes.items place (first-cut text) c.self.invariant.shapes) in
    subst (λ s. IsCharBoundary s at) (sym c.deref-5.ensures) (IsCharBoundary-from_take text at (IsUtf8-string_bytes c.self.inside.text) cut.within cut.cut)

pub range-mine-requires-clause-start_le_end : goal.range-mine-requires-clause-start_le_end
range-mine-requires-clause-start_le_end c =
    let at = (goal.at.range-mine-requires-clause-start_le_end c).After-deref-4 in
    omega (arith, (run-of (string_bytes c.self.inside.text) c.self.inside.names c.self.inside.shapes.items c.args.low c.args.high c.requires.order c.self.invariant.shapes).rises, start at, end c)

pub range-mine-requires-clause-start_boundary : goal.range-mine-requires-clause-start_boundary
range-mine-requires-clause-start_boundary c above =
    let at = (goal.at.range-mine-requires-clause-start_boundary c).After-deref-4 in
    cut_mine c c.args.low c.start_at.result (start at)

pub range-mine-requires-clause-end_boundary : goal.range-mine-requires-clause-end_boundary
range-mine-requires-clause-end_boundary c = cut_mine c c.args.high c.start_at-3.result (end c)

pub start_at-requires-4 : goal.start_at-requires-4
start_at-requires-4 c =
    let at = (goal.at.start_at-requires-4 c).After-deref-2 in
    omega (arith, there at, ap length c.deref-8.ensures.value)

last : (c : After-start_at-4) → c.start_at-4.result ≡ value_start 0 c.other.inside.shapes.items c.args.high
last c = c.start_at-4.ensures ∙ ap (λ ss. value_start 0 ss c.args.high) c.deref-8.ensures.value

cut_its : (c : After-start_at-4) (place at : ℕ) → at ≡ value_start 0 c.other.inside.shapes.items place → IsCharBoundary c.deref-7.result.now at
cut_its c place at e =
    let text = string_bytes c.other.inside.text in
    let cut : IsCut text at = subst (IsCut text) (sym e) (start-cut text c.other.inside.names 0 c.other.inside.shapes.items place (first-cut text) c.other.invariant.shapes) in
    subst (λ s. IsCharBoundary s at) (sym c.deref-7.ensures) (IsCharBoundary-from_take text at (IsUtf8-string_bytes c.other.inside.text) cut.within cut.cut)

pub range-its-requires-clause-start_le_end : goal.range-its-requires-clause-start_le_end
range-its-requires-clause-start_le_end c =
    let at = (goal.at.range-its-requires-clause-start_le_end c).After-deref-4 in
    omega (arith, (run-of (string_bytes c.other.inside.text) c.other.inside.names c.other.inside.shapes.items c.args.low c.args.high c.requires.order c.other.invariant.shapes).rises, other at, last c)

pub range-its-requires-clause-start_boundary : goal.range-its-requires-clause-start_boundary
range-its-requires-clause-start_boundary c above =
    let at = (goal.at.range-its-requires-clause-start_boundary c).After-deref-4 in
    cut_its c c.args.low c.start_at-2.result (other at)

pub range-its-requires-clause-end_boundary : goal.range-its-requires-clause-end_boundary
range-its-requires-clause-end_boundary c = cut_its c c.args.high c.start_at-4.result (last c)

-- # The rows

pub returns : goal.returns
returns c t =
    let begun = (goal.at.returns c).After-deref-4 in
    let places = (goal.at.returns c).After-deref-2 in
    let ended = (goal.at.returns c).After-start_at-3 in
    let done = (goal.at.returns c).After-start_at-4 in
    let text = string_bytes c.self.inside.text in
    let names = c.self.inside.names in
    let mine = c.self.inside.shapes.items in
    let o = string_bytes c.other.inside.text in
    let others = c.other.inside.names in
    let its = c.other.inside.shapes.items in
    let low = c.args.low in
    let high = c.args.high in
    let told : AreAlike names others c.start_at.result c.start_at-2.result c.deref-3.result.now c.deref-4.result.now low high = c.if-not-are_alike.ensures refl in
    let listed : AreAlike names others c.start_at.result c.start_at-2.result mine its low high = subst₂ (λ ss ts. AreAlike names others c.start_at.result c.start_at-2.result ss ts low high) c.deref-3.ensures.value c.deref-4.ensures.value told in
    let alike : AreAlike names others (value_start 0 mine low) (value_start 0 its low) mine its low high = subst₂ (λ i j. AreAlike names others i j mine its low high) (start begun) (other begun) listed in
    let left : c.range-mine.result.now ≡ text_between text (value_start 0 mine low) (value_start 0 mine high) =
    c.range-mine.ensures.value
    ∙ ap (λ s. slice_range s c.start_at.result c.start_at-3.result) c.deref-5.ensures
    ∙ ap (λ i. slice_range text i c.start_at-3.result) (start begun)
    ∙ ap (λ i. slice_range text (value_start 0 mine low) i) (end ended) in
    let right : c.range-its.result.now ≡ text_between o (value_start 0 its low) (value_start 0 its high) =
    c.range-its.ensures.value
    ∙ ap (λ s. slice_range s c.start_at-2.result c.start_at-4.result) c.deref-7.ensures
    ∙ ap (λ i. slice_range o i c.start_at-4.result) (other begun)
    ∙ ap (λ i. slice_range o (value_start 0 its low) i) (last done) in
    let both : c.range-mine.result.now ≡ c.range-its.result.now = (bytes_eq-Decides c.range-mine.result.now c.range-its.result.now).0 (sym c.eq.ensures ∙ t) in
    let same : AreSame (rows_of_shapes text names 0 mine) (rows_of_shapes o others 0 its) low high =
    rows-alike text o names others mine its low high c.self.invariant.shapes c.other.invariant.shapes (here places) (there places) alike (sym left ∙ both ∙ right) in
    subst₂ (λ (p q : Packed). AreSame p.rows q.rows low high) c.self.view_is c.other.view_is same
