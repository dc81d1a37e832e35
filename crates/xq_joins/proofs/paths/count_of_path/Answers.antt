use Rattle.std.proofs.Common.{◌≡◌, ◌≤◌, ◌*◌, ℕ, ◌∷◌, [], length, refl, sym, ◌∙◌, ap, subst, arith, mul-le-mul_left}
use Rattle.xq_functions.specs.Answers.{TellsAtom}
use Rattle.xq_meaning.specs.Functions.{of_one}
use Rattle.xq_operators.specs.Views.{frame_at, nodes_in}
use Rattle.xq_joins.proofs.DocumentPaths.{path_places}
use Rattle.xq_joins.proofs.Told.{call_tells}
use Rattle.xq_sources.specs.Meters.{Readings}
use Rattle.xq_operators.specs.Reads.{rows_of, HasGrown}
use Rattle.xq_joins.specs.Paths.{steps_of}
use Rattle.xq_joins.proofs.paths.count_of_path.Goals as goal

-- so many rows for each step
within : (before after : Readings) (k r most n : ℕ) → n ≡ k → r ≤ most → HasGrown before after (k * r) → HasGrown before after (n * most)
within before after k r most n same few grown =
    let all = mul-le-mul_left k few in
    let e = ap (λ m. m * most) same in
    record { rows = omega (arith, grown.rows, all, e); singles = omega (arith, grown.singles, all, e); sees = omega (arith, grown.sees, all, e) }

pub returns-clause-tells : goal.returns-clause-tells
returns-clause-tells g c = λ k inside.
    let f = g.L.TreeSource.forest c.args.source.now in
    let function = c.args.function in
    let addresses = c.args.frame.addresses.now in
    let part = c.args.part.now in
    let path = c.in-Some.path in
    let at = c.in-Some.ensures in
    let tree = path.document.tree in
    let after = c.in_ok-after.after in
    let places = after.places.items in
    let all : length path.steps.now ≤ after.taken = (let not_fewer = c.if-after-path.false in omega (arith, not_fewer)) in
    let given = c.in_ok-after.ensures.gives (c.call_on_places.ensures.was_clean k) (at.there f inside) in
    let gives = path_places c.args.frame part path f after.taken places at inside all given in
    let told = c.call_on_places.ensures.tells k addresses in
    let here = subst (λ h. TellsAtom (of_one function h addresses (nodes_in h tree c.as_slice.result.now)) c.call_on_places.result) c.in_ok-after.ensures.keeps told in
    call_tells function part (part ∷ []) (frame_at f c.args.frame) f (nodes_in f tree places) c.call_on_places.result refl gives
    (subst (λ ps. TellsAtom (of_one function f addresses (nodes_in f tree ps)) c.call_on_places.result) c.as_slice.ensures here)

pub returns-clause-reads : goal.returns-clause-reads
returns-clause-reads g c = λ k inside most few.
    let f = g.L.TreeSource.forest c.args.source.now in
    let path = c.in-Some.path in
    let at = c.in-Some.ensures in
    let was = c.call_on_places.ensures.was_clean k in
    let grown = c.in_ok-after.ensures.reads_most was (at.there f inside) in
    let counts = sym c.counts.ensures ∙ c.if-not-counts.false in
    let same = c.call_on_places.ensures.reads counts in
    within _ _ (length path.steps.now) (rows_of f path.document.tree) most (steps_of c.args.part.now) at.steps (few path.document.tree) (subst (λ m. HasGrown (g.L.TreeSource.meter c.args.source.now) m (length path.steps.now * rows_of f path.document.tree)) (sym same) grown)

pub returns-then-after-path-clause-reads : goal.returns-then-after-path-clause-reads
returns-then-after-path-clause-reads g c = λ k inside most few.
    let f = g.L.TreeSource.forest c.args.source.now in
    let path = c.in-Some.path in
    let at = c.in-Some.ensures in
    within _ _ (length path.steps.now) (rows_of f path.document.tree) most (steps_of c.args.part.now) at.steps (few path.document.tree) (c.in_ok-after.ensures.reads_most k (at.there f inside))

pub returns-in_err-after-clause-reads : goal.returns-in_err-after-clause-reads
returns-in_err-after-clause-reads g c = λ k inside most few.
    let f = g.L.TreeSource.forest c.args.source.now in
    let path = c.in-Some.path in
    let at = c.in-Some.ensures in
    within _ _ (length path.steps.now) (rows_of f path.document.tree) most (steps_of c.args.part.now) at.steps (few path.document.tree) (c.in_err-after.ensures.reads_most k (at.there f inside))
