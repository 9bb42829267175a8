-- This crate's own
pub mod Arrays
pub mod Tables
pub mod Telling
-- What the clauses of what it hands on speak of
pub use Rattle.sg_base.specs.Bytes
pub use Rattle.sg_disk.specs.Disk
pub use Rattle.sg_find.specs.Synced
pub use Rattle.sg_model.specs.Objects
pub use Rattle.sg_model.specs.SaidOps
pub use Rattle.sg_model.specs.SaidReplies
pub use Rattle.sg_model.specs.Step
pub use Rattle.sg_model.specs.Verb
pub use Rattle.sg_model.specs.declared.op.Reply
pub use Rattle.sg_mount.specs.Making
pub use Rattle.sg_mount.specs.Opening
pub use Rattle.sg_ops.specs.Meaning
pub use Rattle.sg_ops.specs.Table
pub use Rattle.sg_store.specs.Rests
pub use Rattle.sg_store.specs.Seen
pub use Rattle.sg_store.specs.Stands
