-- What a session is seen as, and what is asked of one.
use Rattle.std.specs.Prelude.{◌≡◌, ◌≤◌, ◌+◌, ℕ, false, Option, None, IfSome, option_map, slice_get}
use Rattle.sg_checkpoints.specs.Cutting.{IsCut}
use Rattle.sg_ops.specs.Table.{Table as Operations}
use Rattle.sg_core.specs.Live.{has_dropped, number_of}
use Rattle.sg_run.specs.Run.{live_named}
use Rattle.sg_store.specs.declared.engine.Engine.{Ghosts}
use Rattle.sg_store.specs.Engine.{AskedBy}
use Rattle.sg_store.specs.Seen as stores
use Rattle.sg_session.specs.declared.session.Session as code_session
use Rattle.sg_words.specs.Answers.{Answer}
use Rattle.sg_session.specs.Names.{all_live}
use Rattle.sg_session.specs.Lines.{Line}
use Rattle.sg_session.specs.Goes.{IsAnswered}
use Rattle.sg_session.specs.KeptUp.{IsKeptUp, IfTruncates, committed_by}
use Rattle.sg_session.specs.Shows.{Core, ShowsSome}

abbrev pub session_core : {E : Type 0} {ghosts : Ghosts E} → code_session.Session E ghosts → Core
session_core s = record { store = stores.core_of s.store; names = all_live s.names.all.items }

-- the engine that it stands on
abbrev pub session_engine : {E : Type 0} {ghosts : Ghosts E} → code_session.Session E ghosts → E
session_engine s = s.store.engine

-- A SESSION SERVES by some operations: where its engine tells, its records are of these and the session shows a run
abbrev pub Serves : {E : Type 0} {ghosts : Ghosts E} → Operations → code_session.Session E ghosts → Type 0
Serves {ghosts = ghosts} t s = AskedBy t (ghosts.view s.store.engine) (ShowsSome (session_core s) t)

-- it serves by some operations or others
abbrev pub IsServed : {E : Type 0} {ghosts : Ghosts E} → code_session.Session E ghosts → Type 0
IsServed s = (t : Operations) × Serves t s

-- A LINE WAS ANSWERED by a session, of which a sink takes what Took says
abbrev pub HasAnswered : {E : Type 0} {ghosts : Ghosts E} → Operations → (old new : code_session.Session E ghosts) → Line → (Answer → Type 0) → Type 0
HasAnswered {ghosts = ghosts} t old new line Took = IsAnswered ghosts t (session_engine old) (session_core old) line Took (session_engine new) (session_core new)

-- A LINE THAT ASKS FOR A FLUSH OR A CHECKPOINT, and doesn't stop the session, has made it
abbrev pub HasKeptUp : {E : Type 0} {ghosts : Ghosts E} → Line → (old new : code_session.Session E ghosts) → Type 0
HasKeptUp {ghosts = ghosts} line old new = new.store.stop ≡ None → IsKeptUp ghosts line old.store.engine new.store.engine

-- A LINE THAT COMMITS a transaction which has dropped nothing hands the disk only what waits of the log, and 64 bytes at most
abbrev pub HandsAtCommit : {E : Type 0} {ghosts : Ghosts E} → Line → (old new : code_session.Session E ghosts) → Type 0
HandsAtCommit {ghosts = ghosts} line old new =
    IfSome (committed_by line) (λ name. IfSome (live_named (all_live old.names.all.items) name) (λ l. has_dropped old.store.txns l.transaction ≡ false
    → (ghosts.view new.store.engine).disk.handed ≤ (ghosts.view old.store.engine).disk.handed + ghosts.waiting old.store.engine + 64))

-- A LINE THAT ASKS FOR A TRUNCATION, and doesn't stop the session, has cut the log where that may be cut, as the engine says of its log
abbrev pub HasCut : {E : Type 0} {ghosts : Ghosts E} → (first_frame_end : E → ℕ) → (last_checkpoint : E → Option ℕ) → (is_spent : E → Type 0) → Line → (old new : code_session.Session E ghosts) → Type 0
HasCut {ghosts = ghosts} first_frame_end last_checkpoint is_spent line old new =
    new.store.stop ≡ None → IfTruncates line ((ghosts.view old.store.engine).Told
    → IsCut (ghosts.unwritten old.store.engine) (option_map number_of (slice_get old.store.txns 0)) (last_checkpoint old.store.engine) (is_spent old.store.engine)
    (ghosts.view old.store.engine).start (ghosts.view new.store.engine).start (first_frame_end new.store.engine))
