-- A database over files whose disks never lie.
use Rattle.std.proofs.Common.{◌≡◌, true, refl}
use Rattle.sqlite_trees.proofs.Doubt.{no_doubt}
use Rattle.sqlite_pool.specs.Pool.{state}
use Rattle.sqlite_disk.specs.declared.Disk.{Ghosts}
use Rattle.sqlite.specs.State.{HasCleanDisk}
use Rattle.sqlite.specs.Held.{Held}
use Rattle.sqlite.specs.Files.{file_state}
use Rattle.sqlite_store.specs.declared.store.FileStore.{FileStore}

pub always_clean : {D : Type 0} (g : Ghosts D) → g.is_clean ≡ (λ _. true) → (conn : Held (FileStore D g)) → HasCleanDisk (file_state conn)
unfolding state
always_clean g same conn = no_doubt _ (rw same refl)
