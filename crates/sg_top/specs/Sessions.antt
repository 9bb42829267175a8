-- What a session of the library is seen as, and how it ends.
use Rattle.std.specs.Prelude.{◌≡◌, ◌⊎◌, Bool, true, false, if◌then◌else◌, Option, Some, IsSome}
use Rattle.sg_disk.specs.Disk as disk
use Rattle.sg_ops.specs.Table.{Table as Operations}
use Rattle.sg_model.specs.declared.stop.Stop.{Stop}
use Rattle.sg_model.specs.declared.stop.Stop.TheVariants as stops
use Rattle.sg_run.specs.Numbers.{IsAtEnd}
use Rattle.sg_run.specs.Run.{Run}
use Rattle.sg_store.specs.declared.engine.Engine.{Ghosts}
use Rattle.sg_store.specs.Engine.{KeepsBy, AsMeantBy}
use Rattle.sg_store.specs.Ground.{IsLawful}
use Rattle.sg_store.specs.Heeds.{Heeds}
use Rattle.sg_session.specs.Ending.{IsEnded}
use Rattle.sg_session.specs.Shows.{Core, Shows}
use Rattle.sg_commands.specs.declared.status.Status as code_status
use Rattle.sg_commands.specs.declared.status.Status.TheVariants as statuses
use Rattle.sg_commands.specs.Statuses.{status_of_stop}

-- the status of a session's first fault: whether the sink failed before the store had stopped, and why it has
abbrev pub status_of_session : Bool → Option Stop → code_status.Status
status_of_session unheard stop = if unheard then statuses.Write else status_of_stop stop

-- HOW A SESSION ENDS, with a status and its disk as its engine left that: one that had stopped makes no call. Else the live transactions abort
-- in order of begin, and all is written home. It stops for the log's end only where a record might pass that
pub record HasFinished {E : Type 0} (ghosts : Ghosts E) (t : Operations) (e : E) (k : Core) (unheard : Bool) (status : code_status.Status) (w : disk.View) : Type 0 where
  pub stop : Option Stop
  pub engine : E
  pub disk : w ≡ (ghosts.view engine).disk
  pub status_is : status ≡ status_of_session unheard stop
  pub stopped : IsSome k.store.stopped → (engine ≡ e) × (stop ≡ k.store.stopped)
  pub full : stop ≡ Some stops.LogEnd → (k.store.stopped ≡ Some stops.LogEnd) ⊎ IsAtEnd (ghosts.view engine).tail
  pub heeds : Heeds k.store.stopped stop (ghosts.view e) (ghosts.view engine)
  pub means : KeepsBy t (ghosts.view e) (ghosts.view engine)
  pub ends : AsMeantBy t (ghosts.view e) (ghosts.view engine) (λ g v w. (x : Run) → IsLawful t g → Shows t g v k x → IsEnded t g v x stop w)
