use Rattle.xq_queries.proofs.reading.understood.Goals as goal

pub returns : goal.returns
returns c =
    let found = c.in_ok-planned.ensures in
    (c.in_ok-query.query, c.in_ok-query.ensures, found.same, found.scans)
