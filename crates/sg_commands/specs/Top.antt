-- How a run of the program goes and ends.
use Rattle.std.specs.Prelude.{◌≡◌, ◌≢◌, ◌⊎◌, ◌≤◌, ◌<◌, ◌+◌, ℕ, Bool, IsTrue, List, Option, Some, IfSome, length, false}
use Rattle.sg_base.specs.Ends.{HasRisen}
use Rattle.sg_base.specs.declared.area.Area.TheVariants.{Home}
use Rattle.sg_disk.specs.Disk as disk
use Rattle.sg_ops.specs.Table.{Table as Operations}
use Rattle.sg_model.specs.declared.stop.Stop.{Stop}
use Rattle.sg_model.specs.declared.stop.Stop.TheVariants as stops
use Rattle.sg_model.specs.Objects.{Objects}
use Rattle.sg_words.specs.Requests.Asked.{Of}
use Rattle.sg_words.specs.Requests.Request.{Commit}
use Rattle.sg_words.specs.Answers.{Answer}
use Rattle.sg_run.specs.Run.{Run, start, committed_objects}
use Rattle.sg_store.specs.Ground.{Ground}
use Rattle.sg_store.specs.Engine.{Sizes}
use Rattle.sg_session.specs.Lines.Line.{Other}
use Rattle.sg_script.specs.declared.script.RunEnd as code_end
use Rattle.sg_script.specs.declared.script.RunEnd.TheVariants as ends
use Rattle.sg_script.specs.Script.{Span, Lines, HasRead}
use Rattle.sg_script.specs.Ending.{MOST_BYTES, AreExecuted, IsHeard, HasCause}
use Rattle.sg_script.specs.Course.{IsSerialThroughout, acknowledged}
use Rattle.sg_commands.specs.declared.opens.OpenRefused as code_refused
use Rattle.sg_commands.specs.declared.status.Status as code_status
use Rattle.sg_commands.specs.declared.status.Status.TheVariants as statuses
use Rattle.sg_commands.specs.Syncs.{SplitsAt}
use Rattle.sg_commands.specs.Images.{Says, reads_of, StandsFor, StandsForFirst}
use Rattle.sg_commands.specs.Full.{MayBeFull}
use Rattle.sg_commands.specs.Opening.{IsLeftAlone, IsRefusedFor}
use Rattle.sg_commands.specs.Answers.{AreCaused}
use Rattle.sg_commands.specs.Statuses.{status_of, status_of_refusal}

-- what is seen of the disk, the source and the sink at a moment: the disk, what is left of the script, what the sink has
-- taken, and how often the source and the sink have failed
pub record Outside : Type 0 where
  pub disk : disk.View
  pub left : Option (List ℕ)
  pub taken : Option (List ℕ)
  pub source_faults : ℕ
  pub sink_faults : ℕ

abbrev pub outside : disk.View → Option (List ℕ) → ℕ → Option (List ℕ) → ℕ → Outside
outside v left source_faults taken sink_faults = record { disk = v; left = left; taken = taken; source_faults = source_faults; sink_faults = sink_faults }

-- the disk as the run saw it: its counts of calls and faults have the refused calls too
abbrev pub at_first : Outside → disk.View
at_first old = disk.refusing old.disk 0

abbrev pub at_end : Outside → ℕ → disk.View
at_end new refused = disk.refusing new.disk refused

-- the course of a run that began, on any disk
pub record Course : Type 0 where
  -- how the script ended, what was read of it, and which lines of it were executed
  pub end : code_end.RunEnd
  pub text : List ℕ
  pub lines : List (List ℕ)
  -- the answers to these lines, and those of them that the sink took whole
  pub answers : List Answer
  pub heard : List Answer
  -- why the store has stopped, if it has, in the script or behind it, where the live transactions abort, a checkpoint is made and all is written home
  pub stopped : Option Stop

-- what it came to, where what the disk holds is known
pub record Outcome : Type 0 where
  -- the objects that it began with
  pub objects : Objects
  -- the disk as opening's syncs had returned
  pub synced : disk.View
  -- the run behind the lines, and between which tails of the log and counts of faults it lies
  pub after : Run
  pub span : Span

-- Each run to which so many first lines lead with these answers is serial, unless the store has stopped there
abbrev pub IsSerial : Operations → Course → Outcome → Type 0
IsSerial t run to = IsSerialThroughout t to.span (start to.objects) run.lines run.answers

-- a fault was counted, in the disk or by the stop, or the disk doesn't tell what it holds, or what is presumed of it doesn't hold
abbrev pub FaultRose : (told : Bool) → (presumed : Type 0) → (old new : Outside) → (refused : ℕ) → Type 0
FaultRose told presumed old new refused = (HasRisen old.disk.faults new.disk.faults ⊎ (0 < refused)) ⊎ ((told ≡ false) ⊎ (presumed → ⊥))

-- nothing hinders a run: the disk tells, the image that reads give at entry stands for objects, as is presumed, the script isn't too long, no
-- count of faults can have risen, and no call was refused
pub record IsUnhindered (told : Bool) (presumed : Type 0) (old new : Outside) (refused : ℕ) : Type 0 where
  pub is_told : IsTrue told
  pub is_presumed : presumed
  pub text : List ℕ
  pub script : old.left ≡ Some text
  pub short : length text ≤ MOST_BYTES
  pub disk : HasRisen old.disk.faults new.disk.faults → ⊥
  pub passed : refused ≡ 0
  pub source : HasRisen old.source_faults new.source_faults → ⊥
  pub sink : HasRisen old.sink_faults new.sink_faults → ⊥

module _ (basis : Sizes → Ground) (says : Says) where
  -- What was executed and answered. As far as the script's end says, its lines are executed, each answer has its cause, and the sink takes these
  -- answers
  pub record Output (told : Bool) (presumed : Type 0) (old new : Outside) (refused : ℕ) (run : Course) : Type 0 where
    pub read : HasRead old.left run.text new.left
    pub executed : AreExecuted run.end old.left run.text run.lines
    pub ended : HasCause run.end old.source_faults new.source_faults old.sink_faults new.sink_faults
    pub took : IsHeard run.end old.taken new.taken run.answers run.heard
    pub caused : AreCaused says told presumed (at_first old) (at_end new refused) run.lines run.answers

  -- What a crash leaves at the return: it stands for the objects after some first commits, all of those among them whose
  -- answer is `ok`. At most one commit wasn't acknowledged, by an `ok` that the sink took whole, and it is the last
  pub record Exit (t : Operations) (new : Outside) (run : Course) (to : Outcome) : Type 0 where
    pub images : (c : disk.Image) → disk.Leaves new.disk.now c → StandsForFirst basis says t to.after.so_far.answered to.after c
    pub one_more : length to.after.so_far.commits ≤ acknowledged run.lines run.heard + 1

  -- With status Done all commits were answered, so that each image stands for the objects after all of them, and so does what reads give; and
  -- the last record of each image that a crash leaves at the return is a checkpoint
  pub record IsDone (t : Operations) (new : Outside) (to : Outcome) : Type 0 where
    pub answered : to.after.so_far.answered ≡ length to.after.so_far.commits
    pub reads : StandsFor basis says t (reads_of new.disk) (committed_objects t to.after)
    pub checkpointed : (c : disk.Image) → disk.Leaves new.disk.now c → says.checkpointed c

  -- WHAT A RUN DID where what the disk holds is known: it begins with the objects for which the image read at entry stands, and those alone, and
  -- each line is answered by what a line may be answered; what a crash leaves at the return, and what one leaves at each moment; what status
  -- Done tells; that it is serial; and what stopped it stays why
  pub record Did (t : Operations) (old new : Outside) (refused : ℕ) (status : code_status.Status) (run : Course) : Type 0 where
    pub to : Outcome
    pub stands : StandsFor basis says t (reads_of old.disk) to.objects
    pub only : (s : Objects) → StandsFor basis says t (reads_of old.disk) s → s ≡ to.objects
    pub goes : Lines t to.span (start to.objects) run.lines run.answers to.after
    pub exit : Exit t new run to
    pub moments : SplitsAt to.synced (at_first old) (at_end new refused) (StandsForFirst basis says t 0 to.after)
    pub done : status ≡ statuses.Done → IsDone t new to
    pub serial : IsSerial t run to
    pub stays : (why : Stop) → to.after.stopped ≡ Some why → run.stopped ≡ Some why

  -- where so much was handed to the disk, from the end of the log on, that records which end a transaction may end past its last byte
  abbrev pub IsLogSpent : Bool → (old new : Outside) → Type 0
  IsLogSpent told old new = IsTrue told → (name : List ℕ) → MayBeFull (says.log_end (reads_of old.disk)) old.disk new.disk (Other (Of name Commit))

  -- why the store has stopped
  pub record IsStopCaused (told : Bool) (presumed : Type 0) (old new : Outside) (refused : ℕ) (run : Course) : Type 0 where
    pub disk : run.stopped ≡ Some stops.Disk → FaultRose told presumed old new refused
    pub log_end : run.stopped ≡ Some stops.LogEnd → IsLogSpent told old new

  -- A run that began. All of this is said of one course: what was answered, and what it did where what the disk holds is known. With
  -- status Done the script ended so as well: it was read and executed to its end, and all replies were taken
  pub record Ran (t : Operations) (told : Bool) (presumed : Type 0) (old new : Outside) (refused : ℕ) (status : code_status.Status) : Type 0 where
    pub run : Course
    pub output : Output told presumed old new refused run
    pub did : IsTrue told → presumed → Did t old new refused status run
    pub done : status ≡ statuses.Done → run.end ≡ ends.Done
    pub status_is : status ≡ status_of run.end run.stopped
    pub caused : IsStopCaused told presumed old new refused run

  -- nothing was read or answered, the disk is left alone, and neither source nor sink failed
  pub record IsUntouched (t : Operations) (told : Bool) (presumed : Type 0) (old new : Outside) (refused : ℕ) : Type 0 where
    pub unread : new.left ≡ old.left
    pub unwritten : new.taken ≡ old.taken
    pub quiet : (new.source_faults ≡ old.source_faults) × (new.sink_faults ≡ old.sink_faults)
    pub alone : IsTrue told → IsLeftAlone basis says t presumed (at_first old) (at_end new refused)

  -- a run that didn't begin
  pub record NeverRan (t : Operations) (told : Bool) (presumed : Type 0) (old new : Outside) (refused : ℕ) (status : code_status.Status) : Type 0 where
    pub why : code_refused.OpenRefused
    pub reason : IsRefusedFor basis says t why told presumed (at_first old) (at_end new refused)
    pub untouched : IsUntouched t told presumed old new refused
    pub status_is : status ≡ status_of_refusal why

  -- how the words of a run went
  abbrev pub HasGone : Operations → Bool → Type 0 → Outside → Outside → ℕ → code_status.Status → Type 0
  HasGone t told presumed old new refused status = NeverRan t told presumed old new refused status ⊎ Ran t told presumed old new refused status

  -- WHAT EACH STATUS TELLS of a run. What is presumed of the disk, that the image which reads give at entry stands for objects, doesn't hold where
  -- there is no store, where it is damaged, and where an operation is needed that isn't registered
  abbrev pub Tells : code_status.Status → Operations → Bool → Type 0 → Outside → Outside → ℕ → Type 0
  Tells statuses.Done t told presumed old new refused = (new.source_faults ≡ old.source_faults) × (new.sink_faults ≡ old.sink_faults)
  Tells statuses.NotAStore t told presumed old new refused = IsTrue told → ((old.disk.now Home).seen 0 ≢ 1) × ((old.disk.now Home).seen 4096 ≢ 1) × (presumed → ⊥)
  Tells statuses.Usage t told presumed old new refused = ⊥
  Tells statuses.Memory t told presumed old new refused = (new.left ≡ old.left) × (new.taken ≡ old.taken)
  Tells statuses.Disk t told presumed old new refused = FaultRose told presumed old new refused
  Tells statuses.Read t told presumed old new refused = HasRisen old.source_faults new.source_faults
  Tells statuses.Write t told presumed old new refused = HasRisen old.sink_faults new.sink_faults
  Tells statuses.TooLong t told presumed old new refused = IfSome old.left (λ text. MOST_BYTES < length text)
  Tells (statuses.UnknownOperation code) t told presumed old new refused = IsTrue told → says.unknown t (reads_of old.disk) code × (presumed → ⊥)
  Tells (statuses.Damaged area at) t told presumed old new refused = IsTrue told → says.damaged t (reads_of old.disk) area at × (presumed → ⊥)
  Tells statuses.Exists t told presumed old new refused = ⊥
  Tells statuses.BadGeometry t told presumed old new refused = ⊥
  Tells statuses.LogEnd t told presumed old new refused = IsLogSpent told old new

  -- AND SO IT ENDS: done, or for want of memory before it began, or at the log's end
  abbrev pub Completes : Operations → Bool → Type 0 → Outside → Outside → ℕ → code_status.Status → Type 0
  Completes t told presumed old new refused status = (status ≡ statuses.Done)
      ⊎ (((status ≡ statuses.Memory) × IsUntouched t told presumed old new refused)
      ⊎ ((status ≡ statuses.LogEnd) × IsLogSpent told old new))

  -- THE ACCOUNT OF A RUN: how it went, what its status tells, and how it ends where nothing hinders it
  pub record Account (t : Operations) (told : Bool) (presumed : Type 0) (old new : Outside) (refused : ℕ) (status : code_status.Status) : Type 0 where
    pub gone : HasGone t told presumed old new refused status
    pub tells : Tells status t told presumed old new refused
    pub completes : IsUnhindered told presumed old new refused → Completes t told presumed old new refused status
