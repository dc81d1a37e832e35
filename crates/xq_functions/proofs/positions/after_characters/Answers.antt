use Rattle.std.specs.Str.Iter.{chars_rest}
use Rattle.std.proofs.Common.{◌≡◌, ◌≤◌, not, drop, sym, ap, ◌∙◌, arith}
use Rattle.std.specs.Prelude.{encode_utf8_all}
use Rattle.std.specs.Str.{chars}
use Rattle.std.proofs.lemmas.Str.{encodes-chars}
use Rattle.xq_functions.proofs.PositionLemmas.{next_character, no_character}
use Rattle.xq_functions.proofs.positions.after_characters.Goals as goal
use Rattle.xq_functions.proofs.positions.after_characters.Goals.{else-loop-test, then-loop-test+then-is_none}

pub loop-init : goal.loop-init
loop-init c = encodes-chars c.args.text.now c.utf8.text ∙ sym c.chars-characters.ensures.rest

pub loop-preserved : goal.loop-preserved
loop-preserved c = next_character _ c.loop.counter c.args.text.now c.loop.characters.rest.now c.next.new.self.rest.now c.next.result c.loop.invariant c.next.ensures.steps.0 (c.is_none.ensures ∙ ap not c.if-is_none.false)

pub returns : goal.returns
returns c =
    elim c.loop-test.branch [
      | else-loop-test w ↦ c.as_str.ensures ∙ ap chars_rest w.characters-is ∙ sym c.loop.invariant ∙ ap (λ k. encode_utf8_all (drop k (chars c.args.text.now))) (let all : c.loop.counter ≡ c.args.count = omega arith in all)
      | then-loop-test+then-is_none w ↦
          c.as_str.ensures ∙ ap chars_rest w.characters-is
          ∙ no_character _ chars_rest c.loop.counter c.args.count c.args.text.now c.loop.characters w.next.new.self w.next.result c.loop.invariant w.next.ensures.steps.0 (w.is_none.ensures ∙ ap not w.if-is_none.true) (let before : c.loop.counter ≤ c.args.count = omega arith in before)
    ]
