use Rattle.std.proofs.Common.{◌&&◌, sym, ◌∙◌, ap}
use Rattle.std.specs.List.{list_all}
use Rattle.std.specs.Str.{chars}
use Rattle.xq_atoms.specs.Characters.{is_name_char}
use Rattle.xq_atoms.proofs.Names.{is_name-first}
use Rattle.xq_atoms.proofs.characters.is_name.Goals as goal

pub returns-then-is_name_start : goal.returns-then-is_name_start
returns-then-is_name_start c =
    c.are_name_chars.ensures
    ∙ ap (λ b. b && list_all is_name_char (chars c.args.text.now)) (sym c.if-is_name_start.true ∙ c.is_name_start.ensures)
    ∙ sym (is_name-first (chars c.args.text.now) c.in-Some.c c.in-Some.ensures)

pub returns-else-is_name_start : goal.returns-else-is_name_start
returns-else-is_name_start c =
    c.if-is_name_start.false
    ∙ ap (λ b. b && list_all is_name_char (chars c.args.text.now)) (sym c.if-is_name_start.false ∙ c.is_name_start.ensures)
    ∙ sym (is_name-first (chars c.args.text.now) c.in-Some.c c.in-Some.ensures)
