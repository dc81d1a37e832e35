use Rattle.std.proofs.Common.{Option, map, subst}
use Rattle.std.specs.Prelude.{String, string_bytes, IfSome}
use Rattle.std.specs.Global.{Global, Vec}
use Rattle.xq_tuples.specs.Views.{values_of}
use Rattle.xq_joins.specs.private.AtomKeys.{GivesTexts}
use Rattle.xq_joins.proofs.keyed.atoms_test.Goals as goal

pub returns : goal.returns
returns c = record {
  step = c.in-Some.ensures.step;
  forward = c.in-Some.ensures.forward;
  key = subst (λ (o : Option (Vec (String Global))). IfSome o (λ ts. GivesTexts (values_of c.args.slots.now) (map string_bytes ts.items) c.args.other.now)) c.in-Some-2.is c.in_ok-texts.ensures;
}
