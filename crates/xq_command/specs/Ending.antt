-- How the program ends.
use Rattle.std.specs.Prelude.{ℕ, List, [], codes}
use Rattle.xq_server.specs.declared.ends.End.{End}
use Rattle.xq_server.specs.declared.ends.End.TheVariants.{Finished, Cut, TooLong, Bound, ReadFault, WriteFault, NoRoom}

-- the exit status and the line on standard error
abbrev pub outcome : End → ℕ × List ℕ
outcome Finished = (0, [])
outcome Cut = (1, codes "xq_server: cut frame")
outcome TooLong = (1, codes "xq_server: frame too long")
outcome Bound = (1, codes "xq_server: frame limit")
outcome ReadFault = (1, codes "xq_server: read fault")
outcome WriteFault = (1, codes "xq_server: write fault")
outcome NoRoom = (1, codes "xq_server: memory")
