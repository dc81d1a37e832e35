-- A service over the database in a file: what the files held, what was answered, and what they hold
-- at its end.
use Rattle.std.specs.Prelude.{◌≡◌, ℕ, ◌++◌, List, length, Option}
use Rattle.std.specs.List.{flat_map}
use Rattle.std.specs.Io.KnownBytes.{Appends, Consumes}
use Rattle.sqlite_disk.specs.declared.Disk.{Ghosts}
use Rattle.sqlite_disk.specs.declared.Files.{Files}
use Rattle.sqlite.specs.Recovery.{Image}
use Rattle.xq_databases.specs.Opened.{FilesHold, LeavesMap}
use Rattle.xq_frame.specs.Frame.{frame_bytes}
use Rattle.xq_server.specs.Run.{Reply, Run}
use Rattle.xq_server.specs.Service.{EndsService}
use Rattle.xq_server.specs.declared.ends.End.{End}
use Rattle.xq_tables.specs.Documents.{Map}

-- `image` is what the files held; `before` and `left` are what the reader will give, at the start and
-- at the end, `held` and `holding` what the writer holds, each where it is known.
pub record ServesFiles {D : Type 0} (g : Ghosts D) (image : Image)
    (before left held holding : Option (List ℕ)) (bound : ℕ) (end : End) (files : Files D) : Type 0 where
  -- the files held these documents
  pub old : Map
  pub found : FilesHold image old
  -- these frames and a rest were taken, and this was given
  pub messages : List (List ℕ)
  pub replies : List Reply
  pub rest : List ℕ
  pub sent : List ℕ
  pub taken : Consumes before left (flat_map frame_bytes messages ++ rest)
  pub given : Appends held holding sent
  pub ends : EndsService end bound (length messages) replies rest sent left
  -- the frames were answered by these replies over the documents, one after another
  pub new : Map
  pub run : Run old messages replies new
  -- and the files open to the documents that the last of them left
  pub leaves : LeavesMap g files new
