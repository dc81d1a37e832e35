-- From a store that stands for what files held, through a service, to what its close leaves.
use Rattle.std.proofs.Common.{◌≡◌, ℕ, List, Option, Some, None, sym, subst}
use Rattle.std.specs.Prelude.{IfSome}
use Rattle.sqlite_disk.specs.declared.Disk.{Ghosts}
use Rattle.sqlite_disk.specs.declared.Files.{Files}
use Rattle.sqlite_wal.specs.Reads.{AreClean}
use Rattle.sqlite.specs.declared.FileStore.{FileStore}
use Rattle.sqlite.specs.Files.{over_files}
use Rattle.sqlite.specs.Held.{Held}
use Rattle.sqlite.specs.Recovery.{Image}
use Rattle.xq_databases.specs.Opened.{IsLeftIn, StandsForFiles}
use Rattle.xq_server.specs.Service.{Serves}
use Rattle.xq_server.specs.declared.ends.End.{End}
use Rattle.xq_tables.specs.Documents.{IsClean, StandsFor}
use Rattle.xq_serve.specs.Files.{ServesFiles}

pub serves_files : {D : Type 0} {g : Ghosts D} (first last : Held (FileStore D g)) (image : Image) (before left held holding : Option (List ℕ)) (bound interrupted later : ℕ) (end : End) (files : Files D)
    → (IsClean over_files first → StandsForFiles image first)
    → Serves (IsClean over_files) (StandsFor over_files) first last before left held holding bound interrupted later end
    → IsLeftIn last files → ServesFiles g image before left held holding bound end files
unfolding IsClean
serves_files first last image before left held holding bound interrupted later end files found served leaves =
    let (messages, replies, rest, sent, all) = served in
    let clean = leaves.copied.was_clean in
    let opened = found (all.0.ran.was_clean clean) in
    let ran = all.0.ran.run clean opened.map opened.stands in
    record {
      old = opened.map;
      found = opened.held;
      messages = messages;
      replies = replies;
      rest = rest;
      sent = sent;
      taken = all.0.taken;
      given = all.0.given;
      ends = all.1;
      new = ran.0;
      run = ran.1;
      leaves = leaves.map ran.0 ran.2;
    }

some_then : {A : Type 0} (P Q : A → Type 0) (o : Option A) → ((x : A) → P x → Q x) → IfSome o P → IfSome o Q
some_then P Q (Some x) then' h = then' x h
some_then P Q None then' h = tt

-- the same of the store that was opened, the one that is served, and the one that is closed
pub file_served : {D : Type 0} {g : Ghosts D} (opened first last closed : Held (FileStore D g)) (image : Image) (before left held holding : Option (List ℕ)) (bound interrupted later : ℕ) (end : End) (found : Option (Files D))
    → first ≡ opened → closed ≡ last
    → (IsClean over_files opened → StandsForFiles image opened)
    → Serves (IsClean over_files) (StandsFor over_files) first last before left held holding bound interrupted later end
    → IfSome found (λ files. AreClean g files.log files.db → IsLeftIn closed files)
    → IfSome found (λ files. AreClean g files.log files.db → ServesFiles g image before left held holding bound end files)
file_served {D} {g} opened first last closed image before left held holding bound interrupted later end found same kept opens served leaves =
    some_then (λ files. AreClean g files.log files.db → IsLeftIn closed files) (λ files. AreClean g files.log files.db → ServesFiles g image before left held holding bound end files) found
    (λ files h clean.
    serves_files first last image before left held holding bound interrupted later end files
    (subst (λ store. IsClean over_files store → StandsForFiles image store) (sym same) opens) served
    (subst (λ store. IsLeftIn store files) kept (h clean)))
    leaves
