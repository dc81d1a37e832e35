use Rattle.std.proofs.Common.{Option, ◌∷◌, [], ◌∙◌, map, sym, ap, subst, refl}
use Rattle.std.specs.Prelude.{String, string_bytes, IfSome}
use Rattle.std.specs.Global.{Global}
use Rattle.xq_tuples.specs.Views.{values_of}
use Rattle.xq_joins.specs.declared.equalities.TextTest.{TextTest}
use Rattle.xq_joins.specs.declared.keyed.KeyedTest.{KeyedTest}
use Rattle.xq_joins.specs.private.Texts.{GivesText}
use Rattle.xq_joins.proofs.AtomKeys.{one_key}
use Rattle.xq_joins.proofs.keyed.attribute_key.Goals as goal

pub returns : goal.returns
returns c =
    let slots = values_of c.args.slots.now in
    let other = c.args.other.now in
    let near = c.in-Some in
    let given = subst (λ (o : Option (String Global)). IfSome o (λ t. GivesText slots (string_bytes t) other)) c.in-Some-2.is c.in_ok-text.ensures in
    let text : TextTest = record { axis = near.axis; test = near.test; text = c.as_str.result } in
    let found : KeyedTest = record { axis = near.axis; test = near.test; texts = c.in_ok-texts.texts } in
    let named = c.in-Some-wanted_attribute.ensures in
    record {
      test = text;
      is = record {
        name = c.in-Some-wanted_attribute._name.now;
        axis = named.0;
        test = named.1;
        step = near.ensures.step;
        text = subst (λ t. GivesText slots t other) (sym c.as_str.ensures.value) given;
      };
      same = one_key text found refl refl (c.in_ok-texts.ensures ∙ ap (λ t. t ∷ []) (sym c.as_str.ensures.value));
    }
