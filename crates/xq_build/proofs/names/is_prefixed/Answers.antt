use Rattle.std.proofs.Common.{◌∙◌, ◌&&◌, ap, sym}
use Rattle.std.specs.Str.{chars}
use Rattle.xq_atoms.specs.Characters.{is_name}
use Rattle.xq_build.proofs.Spelling.{no_colon, around_colon}
use Rattle.xq_build.proofs.names.is_prefixed.Goals as goal

pub returns-in-None : goal.returns-in-None
returns-in-None c = (let h = c.in-None.ensures.cases in sym (no_colon c.args.text.now c.utf8.text h))

pub returns-then-is_name : goal.returns-then-is_name
returns-then-is_name c =
    let h = c.in-Some.ensures.cases in
    let parts = around_colon c.args.text.now c.in-Some.prefix.now c.in-Some.local.now h.0 h.1 c.utf8.text h.2 h.3 h.4 h.6 in
    c.is_name-then-is_name.ensures ∙ sym (parts ∙ ap (λ b. b && is_name (chars c.in-Some.local.now)) (sym c.is_name.ensures ∙ c.if-is_name.true))

pub returns-else-is_name : goal.returns-else-is_name
returns-else-is_name c =
    let h = c.in-Some.ensures.cases in
    let parts = around_colon c.args.text.now c.in-Some.prefix.now c.in-Some.local.now h.0 h.1 c.utf8.text h.2 h.3 h.4 h.6 in
    c.if-is_name.false ∙ sym (parts ∙ ap (λ b. b && is_name (chars c.in-Some.local.now)) (sym c.is_name.ensures ∙ c.if-is_name.false))
