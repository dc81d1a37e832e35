-- What a disk in memory holds: the bytes that were written, in order.
use Rattle.std.specs.Prelude.{ℕ, List}
use Rattle.xq_memory_disk.specs.declared.MemoryDisk.{MemoryDisk}

-- all bytes of the disk
abbrev pub disk_bytes : MemoryDisk → List ℕ
disk_bytes disk = disk.bytes
