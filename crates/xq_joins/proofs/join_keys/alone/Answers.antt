use Rattle.std.proofs.Common.{List, ◌++◌, ◌∷◌, [], ◌∙◌, ap, map}
use Rattle.std.specs.Prelude.{String, string_bytes}
use Rattle.std.specs.Global.{Global}
use Rattle.xq_joins.proofs.join_keys.alone.Goals as goal

pub returns : goal.returns
returns c =
    ap (map string_bytes) (c.in_ok-push.ensures.items ∙ ap (λ (l : List (String Global)). l ++ c.args.text ∷ []) c.in_ok-texts.ensures.items)
