use Rattle.std.proofs.Common.{◌≡◌, ◌<◌, ◌%◌, Some, None, length, sym, ap, ◌∙◌, subst, arith}
use Rattle.std.specs.Prelude.{All}
use Rattle.std.proofs.lemmas.List.Elements.{All-set}
use Rattle.xq_packed.specs.Packed.{with_name, IsNumbered}
use Rattle.xq_packed.specs.private.Shapes.{name_at}
use Rattle.xq_packed.specs.private.Copies.{IsKnown}
use Rattle.xq_packed.proofs.Numbering.{name-numbered}
use Rattle.xq_packed.proofs.Knowing.{with-known, all-known}
use Rattle.xq_packed.proofs.runs.number_again.Goals as goal
use Rattle.xq_packed.proofs.runs.number_again.Goals.{In_ok-found}

-- the name that was looked up
named : (c : In_ok-found) → c.get.result.now ≡ name_at c.args.others.now c.args.number
named c = sym (name-numbered c.args.others.now c.args.number c.get.result.now c.get.ensures).1

pub returns-then-other-number-clause-names : goal.returns-then-other-number-clause-names
returns-then-other-number-clause-names c =
    let others = c.args.others.now in
    let names = c.args.names.now in
    let at = c.args.number % length c.args.known.now in
    let inside : at < length c.args.known.now = omega (arith, c.requires.some) in
    let known : IsKnown others names (Some (c.in-Some.other, c.in-Some.found)) = subst (IsKnown others names) c.in-Some.is (c.requires.known at None inside) in
    let here : IsNumbered names c.in-Some.found (name_at others c.args.number) = subst (λ n. IsNumbered names c.in-Some.found (name_at others n)) c.if-other-number.true known in
    sym (with-known names c.in-Some.found (name_at others c.args.number) here)

pub returns-clause-number : goal.returns-clause-number
returns-clause-number c =
    subst (λ t. IsNumbered c.number_among.new.self c.in_ok-found.found t) (named c) c.in_ok-found.ensures.number

pub returns-clause-names : goal.returns-clause-names
returns-clause-names c =
    c.in_ok-found.ensures.names ∙ ap (with_name c.args.names.now) (named c)

pub returns-clause-known : goal.returns-clause-known
returns-clause-known c =
    let others = c.args.others.now in
    let names = c.args.names.now in
    let later = c.number_among.new.self in
    let added : later ≡ with_name names (name_at others c.args.number) = c.in_ok-found.ensures.names ∙ ap (with_name names) (named c) in
    let before : All (IsKnown others later) c.args.known.now = subst (λ ns. All (IsKnown others ns) c.args.known.now) (sym added) (all-known others names (name_at others c.args.number) c.args.known.now c.requires.known) in
    let here : IsNumbered later c.in_ok-found.found (name_at others c.args.number) = subst (λ t. IsNumbered later c.in_ok-found.found t) (named c) c.in_ok-found.ensures.number in
    All-set (IsKnown others later) c.args.known.now (c.args.number % length c.args.known.now) (Some (c.args.number, c.in_ok-found.found)) here before
