use Rattle.std.proofs.Common.{◌++◌, string_bytes, sym, ap, ◌∙◌}
use Rattle.std.proofs.lemmas.List.{append-nil}
use Rattle.xq_trees.specs.Value.{text_of}
use Rattle.xq_axes.proofs.Texts.{no_text, texts_more}
use Rattle.xq_axes.proofs.values.TextsVisitor.visit.Goals as goal

pub returns-in_ok-push_str : goal.returns-in_ok-push_str
returns-in_ok-push_str c = λ _ t s n r h.
    texts_more t s n c.args.row.now (string_bytes c.args.self.now.joined) _ r h
    (c.in_ok-push_str.ensures.bytes ∙ ap (λ l. string_bytes c.args.self.now.joined ++ l) (c.value.ensures ∙ sym (ap (λ k. text_of k c.args.row.now.texts.value) c.in-Text.is)))

pub returns-in_default : goal.returns-in_default
returns-in_default c = λ _ t s n r h.
    texts_more t s n c.args.row.now (string_bytes c.args.self.now.joined) _ r h
    (sym (append-nil (string_bytes c.args.self.now.joined)) ∙ ap (λ l. string_bytes c.args.self.now.joined ++ l) (sym (no_text c.args.row.now.kind c.args.row.now.texts.value c.in_default.not-Text)))
