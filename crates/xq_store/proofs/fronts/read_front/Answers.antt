use Rattle.std.proofs.Common.{sym, subst}
use Rattle.std.specs.List.{enumerate_from}
use Rattle.std.specs.Prelude.{OnOk}
use Rattle.xq_packed.specs.Packed.{Packed}
use Rattle.xq_store.specs.private.Shelves.{IsFront, Reaches}
use Rattle.xq_store.proofs.Parents.{more_kept}
use Rattle.xq_store.proofs.fronts.read_front.Goals as goal

pub returns-clause-front : goal.returns-clause-front
returns-clause-front g c = λ clean m stands t has is.
    let read = c.read_rows-read.ensures.front clean m stands t has is.rows in
    c.find_sought.ensures.kept t (record {
      rows = read;
      parents = more_kept t c.all_of.result c.args.front.now.guide c.read_on.new.self (subst (IsFront t) (sym c.all_of.ensures) read) c.read_on.ensures is.parents;
      names = is.names;
      values = is.values;
    })

pub returns-clause-reaches : goal.returns-clause-reaches
returns-clause-reaches g c = λ clean m stands t has is.
    subst (λ (rows : Packed). OnOk c.read_rows-read.result (Reaches t c.args.place (enumerate_from 0 rows.rows))) (sym c.find_sought.ensures.rows)
    (c.read_rows-read.ensures.reaches clean m stands t has is.rows)
