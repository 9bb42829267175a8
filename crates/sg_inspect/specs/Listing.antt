-- The listing of a log: a heading, and a line for each of its records.
use Rattle.std.specs.Prelude.{ℕ, List, ◌++◌, length, codes, decimal}
use Rattle.std.specs.List.{flat_map}
use Rattle.sg_gate.specs.declared.superblock.Super.{Super}
use Rattle.sg_record.specs.Changes.Change.{Page, SegWrite, SegOp}
use Rattle.sg_record.specs.Records.{Says, spelled}
use Rattle.sg_record.specs.Records.Says.{Begin, Changed, TopEnd, PhysComp, TopVoid, CompEnd, Save, Commit, End, Checkpoint}
use Rattle.sg_log.specs.Frames.{Numbered}

-- the name of a record's kind
abbrev pub name_of : Says → List ℕ
name_of Begin = codes "begin"
name_of (Changed (Page change)) = codes "page"
name_of (Changed (SegWrite change)) = codes "seg-write"
name_of (Changed (SegOp change)) = codes "seg-op"
name_of (TopEnd undo_next note) = codes "top-end"
name_of (PhysComp undo_next change) = codes "phys-comp"
name_of (TopVoid undo_next) = codes "top-void"
name_of (CompEnd undo_next) = codes "comp-end"
name_of (Save mark) = codes "save"
name_of Commit = codes "commit"
name_of End = codes "end"
name_of (Checkpoint estimate live) = codes "checkpoint"

-- a number behind a space
abbrev pub behind_space : ℕ → List ℕ
behind_space n = codes " " ++ decimal n

-- a record's number, kind, transaction, previous record and length, with an LF
abbrev pub line_of : Numbered → List ℕ
line_of n =
    decimal n.lsn ++ codes " " ++ name_of n.is.says ++ behind_space n.is.transaction ++ behind_space n.is.previous
    ++ behind_space (length (spelled n.is)) ++ codes "\n"

abbrev pub lines_of : List Numbered → List ℕ
lines_of ns = flat_map line_of ns

-- the log's area, the number of its first byte, and that of the closed gate behind its records, with an LF
abbrev pub heading : Super → ℕ → List ℕ
heading s gate = codes "log" ++ behind_space s.log ++ behind_space s.base ++ behind_space gate ++ codes "\n"

-- THE LISTING of the records of a log up to the closed gate that has this number
abbrev pub listing : Super → (gate : ℕ) → List Numbered → List ℕ
listing s gate ns = heading s gate ++ lines_of ns
