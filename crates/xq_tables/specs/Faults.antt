-- What a refusal of the database is to a caller of the store.
use Rattle.xq_atoms.specs.declared.refusals.Want.{Want}
use Rattle.xq_atoms.specs.declared.refusals.Want.TheVariants.{Memory, Store}
use Rattle.sqlite.specs.declared.error.Error.{Error}
use Rattle.sqlite.specs.declared.error.Error.TheVariants.{SqliteFailure}
use Rattle.sqlite.specs.declared.error.ErrorCode.TheVariants.{OutOfMemory}
use Rattle.xq_tables.specs.declared.faults.OpenFault.{OpenFault}
use Rattle.xq_tables.specs.declared.faults.OpenFault.TheVariants.{Want as Wanted}

-- its refusal for memory is want of memory, any other want of the store
abbrev pub want_of : Error → Want
want_of (SqliteFailure OutOfMemory) = Memory
want_of error = Store

-- a refusal of the database tells nothing of its tables, which were looked at before
abbrev pub fault_of : Error → OpenFault
fault_of error = Wanted (want_of error)
