-- What the engine holds behind a call.
use Rattle.std.proofs.Common.{◌≡◌, ⊎_elim, ℕ, false, List, [], ◌∷◌, ◌++◌, refl, sym, ap, ◌∙◌, subst}
use Rattle.std.specs.Prelude.{Result}
use Rattle.sg_disk.specs.Disk.{View, LeavesOnly}
use Rattle.sg_disk.proofs.Moments.{weaker}
use Rattle.sg_log.specs.Frames.{Numbered}
use Rattle.sg_log.specs.Held.{Tail, tail_of}
use Rattle.sg_log.proofs.Holding.{no_call_moments}
use Rattle.sg_ops.specs.Table.{Table}
use Rattle.sg_pool.specs.declared.pool.Pool.{Pool}
use Rattle.sg_record.specs.Records.{Record, Says}
use Rattle.sg_record.specs.Records.Says.{Begin, Changed, TopEnd, PhysComp, TopVoid, CompEnd, Save, Commit, End, Checkpoint}
use Rattle.sg_action.specs.States.{State}
use Rattle.sg_engine.specs.Effects.{IsBy}
use Rattle.sg_engine.specs.Engine.{Origin, entries, geometry}
use Rattle.sg_engine.specs.History.{AllThere}
use Rattle.sg_engine.specs.Running.{IsEngine, IsAllowed, HasGoneOn}
use Rattle.sg_engine.specs.declared.fault.EngineFault.{EngineFault}
use Rattle.sg_engine.proofs.Pools.{rest_moments}
use Rattle.sg_actions.specs.Images.{Grows}
use Rattle.sg_actions.specs.Steps.{Steps, step_of, with_step}
use Rattle.sg_recovery.specs.Formed.{IsLog}
use Rattle.sg_phys_laws.specs.Formed.{AreFormed}
use Rattle.sg_phys_laws.specs.Known.{IsRegistered, AllEnough}
use Rattle.sg_phys_laws.specs.Logged.{HasLogged, HasRun, HasRested, Stood, StillAllowed, at_number, is_no_step}
use Rattle.sg_phys_laws.specs.Poised.{AreSaid, IsPoised}
use Rattle.sg_phys_laws.specs.Points.{IsMarked, ArePoints, NoneLater, IsLatest}
use Rattle.sg_phys_laws.specs.Reading.{durable_in, waiting_in}
use Rattle.sg_phys_laws.specs.Recovers.{Recovers}
use Rattle.sg_phys_laws.specs.States.{AllAgree, steps_of}
use Rattle.sg_phys_laws.specs.Whole.{IsWholeImageOf}
use Rattle.sg_phys_laws.proofs.Agreeing.{all_agree_durable}
use Rattle.sg_phys_laws.proofs.Enough.{all_enough_more, all_enough_durable}
use Rattle.sg_phys_laws.proofs.Latest.{marks_later}
use Rattle.sg_phys_laws.proofs.Forming.{formed_all, formed_more, formed_durable}
use Rattle.sg_phys_laws.proofs.Going.{said_more}
use Rattle.sg_phys_laws.proofs.Fronting.{front_grows, one_more}
use Rattle.sg_phys_laws.proofs.Points.{mark_allow, points_allow, points_append, points_durable}
use Rattle.sg_phys_laws.proofs.Reading.{held_are}
use Rattle.sg_phys_laws.proofs.Recovered.{moments_are, whole_more}
use Rattle.sg_phys_laws.proofs.Stepping.{steps_more}
use Rattle.sg_phys_laws.proofs.Wrapped.{now_again, all_are, append_none}

-- all records, durable or not
abbrev pub all_in_log : View → Tail → List Numbered
all_in_log v log = durable_in v log ++ waiting_in log

there_front : (o : Origin) (xs ys : List Numbered) → AllThere (geometry o.super) (entries o (xs ++ ys)) → AllThere (geometry o.super) (entries o xs)
there_front o [] ys there = tt
there_front o (x ∷ xs) ys there = (there.0, there_front o xs ys there.1)

-- BEHIND A CALL that answers: the engine holds these records
pub record Behind (t : Table) (from : State) (o : Origin) (v w : View) (log log' : Tail) (pool' : Pool) (all : List Numbered) : Type 0 where
  pub poised : IsPoised t from o w log' pool'
  pub steps : steps_of (all_in_log w log') ≡ steps_of all
  pub durable : Grows (steps_of (durable_in v log)) (steps_of (durable_in w log'))
  pub whole : all_in_log w log' ≡ all

behind : (t : Table) (from : State) (o : Origin) (v w : View) (log log' : Tail) (pool' : Pool) (all : List Numbered) → IsBy t o → HasGoneOn o w log' (durable_in v log) all pool' → AllAgree t o (durable_in v log) all → AreSaid t from o (durable_in v log)
    → AreFormed o.super.base (durable_in v log) all → AllEnough t o.super.base (durable_in v log) all → ArePoints o (IsAllowed o w log' pool') (durable_in v log) all → Behind t from o v w log log' pool' all
behind t from o v w log log' pool' all by h agrees said formed enough points =
    let held = held_are w log' h.durable h.waiting h.engine.engine.held in
    let whole : all_in_log w log' ≡ all = all_are o w log' h.durable h.waiting pool' h.engine ∙ h.is_all in
    let durable : durable_in w log' ≡ durable_in v log ++ h.since = held.0 ∙ h.later in
    let parts : all ≡ (durable_in v log ++ h.since) ++ h.waiting = sym h.is_all ∙ ap (λ (l : List Numbered). l ++ h.waiting) h.later in
    let further : ArePoints o (IsAllowed o w log' pool') (durable_in v log ++ h.since) all =
    points_durable (IsAllowed o w log' pool') o (durable_in v log) h.since h.waiting all points parts in
    let there : AllThere (geometry o.super) (entries o (durable_in v log ++ h.since)) =
    there_front o (durable_in v log ++ h.since) h.waiting (subst (λ (l : List Numbered). AllThere (geometry o.super) (entries o l)) (h.is_all ∙ parts) h.engine.engine.history.there) in
    record {
      poised = record {
        now = now_again t o w log' h.durable h.waiting pool' h.engine
            (subst (λ (l : List Numbered). AllAgree t o l (h.durable ++ h.waiting)) (sym h.later)
            (subst (AllAgree t o (durable_in v log ++ h.since)) (sym h.is_all) (all_agree_durable t o (durable_in v log) h.since all agrees h.waiting parts)));
        points = subst (λ (l : List Numbered). ArePoints o (IsAllowed o w log' pool') (durable_in w log') l) (sym whole)
            (subst (λ (l : List Numbered). ArePoints o (IsAllowed o w log' pool') l all) (sym durable) further);
        said = subst (AreSaid t from o) (sym durable)
            (said_more t from o (durable_in v log) h.since by there (agrees h.since h.waiting (sym parts)) said);
        formed = subst (λ (l : List Numbered). AreFormed o.super.base (durable_in w log') l) (sym whole)
            (subst (λ (l : List Numbered). AreFormed o.super.base l all) (sym durable) (formed_durable o.super.base (durable_in v log) h.since all formed));
        enough = subst (λ (l : List Numbered). AllEnough t o.super.base (durable_in w log') l) (sym whole)
            (subst (λ (l : List Numbered). AllEnough t o.super.base l all) (sym durable) (all_enough_durable t o.super.base (durable_in v log) h.since all enough));
      };
      steps = ap steps_of whole;
      durable = subst (λ (l : List Numbered). Grows (steps_of (durable_in v log)) (steps_of l)) (sym durable) (front_grows (durable_in v log) h.since);
      whole = whole;
    }

-- a call that appends nothing
pub behind_rest : (t : Table) (from : State) (o : Origin) (v w : View) (log log' : Tail) (pool pool' : Pool) → IsBy t o → (p : IsPoised t from o v log pool) → HasRested o v w log log' pool pool' (durable_in v log) (all_in_log v log) → Behind t from o v w log log' pool' (all_in_log v log)
behind_rest t from o v w log log' pool pool' by p h =
    behind t from o v w log log' pool' (all_in_log v log) by h.gone p.now.agrees p.said p.formed p.enough (points_allow (IsAllowed o v log pool) (IsAllowed o w log' pool') o (durable_in v log) (all_in_log v log) h.allowed p.points)

-- all records are a formed log
pub all_formed : {t : Table} {from : State} {o : Origin} {v : View} {log : Tail} {pool : Pool} → IsPoised t from o v log pool → ∥ IsLog o.super.base (steps_of (all_in_log v log)) ∥₁
all_formed {t} {from} {o} {v} {log} {pool} p = formed_all o.super.base (durable_in v log) (waiting_in log) p.formed

-- no step estimates anything
pub marked_plain : (A : ℕ → Type 0) (lsn : ℕ) (x : Says) → is_no_step x ≡ false → IsMarked A lsn x
marked_plain A lsn (Checkpoint e l) plain = absurd cc
marked_plain A lsn Begin plain = tt
marked_plain A lsn (Changed c) plain = tt
marked_plain A lsn (TopEnd w n) plain = tt
marked_plain A lsn (PhysComp w c) plain = tt
marked_plain A lsn (TopVoid w) plain = tt
marked_plain A lsn (CompEnd w) plain = tt
marked_plain A lsn (Save m) plain = tt
marked_plain A lsn Commit plain = tt
marked_plain A lsn End plain = tt

-- with one record more enough is registered, where its operation is, and no checkpoint estimates less than the latest point that is allowed
enough_then : (t : Table) (from : State) (o : Origin) (v : View) (log : Tail) (pool : Pool) (r : Record) (lsn : ℕ) → (p : IsPoised t from o v log pool) → IsMarked (NoneLater (IsAllowed o v log pool) (tail_of log)) lsn r.says
    → ∥ IsLog o.super.base (with_step (steps_of (all_in_log v log)) lsn (step_of r)) ∥₁ → IsRegistered t r → AllEnough t o.super.base (durable_in v log) (all_in_log v log ++ at_number lsn r ∷ [])
enough_then t from o v log pool r lsn p mark formed registered = all_enough_more t o.super.base (durable_in v log) (waiting_in log) (at_number lsn r)
    (marks_later o v log (durable_in v log) (waiting_in log) pool lsn r.says p.now.engine p.points mark) formed registered p.enough

-- a mark at the latest point that is allowed
latest_mark : (o : Origin) (v : View) (log : Tail) (pool : Pool) (lsn : ℕ) (x : Says) → IsMarked (IsLatest (IsAllowed o v log pool) (tail_of log)) lsn x → IsMarked (NoneLater (IsAllowed o v log pool) (tail_of log)) lsn x
latest_mark o v log pool lsn x mark = mark_allow (IsLatest (IsAllowed o v log pool) (tail_of log)) (NoneLater (IsAllowed o v log pool) (tail_of log)) lsn x (λ k latest. latest.latest) mark

-- A RECORD, which may be a checkpoint: what it estimates is allowed behind the call, and no earlier than what was allowed before
pub behind_marked : (t : Table) (from : State) (o : Origin) (v w : View) (log log' : Tail) (pool pool' : Pool) (r : Record) (lsn : ℕ) → IsBy t o → (p : IsPoised t from o v log pool)
    → IsMarked (IsAllowed o w log' pool') lsn r.says → IsMarked (NoneLater (IsAllowed o v log pool) (tail_of log)) lsn r.says
    → ∥ IsLog o.super.base (with_step (steps_of (all_in_log v log)) lsn (step_of r)) ∥₁ → IsRegistered t r → HasLogged t o w log' (durable_in v log) (all_in_log v log) r lsn pool'
    → StillAllowed o v w log log' pool pool' → Behind t from o v w log log' pool' (all_in_log v log ++ at_number lsn r ∷ [])
behind_marked t from o v w log log' pool pool' r lsn by p allowed later formed registered h still =
    behind t from o v w log log' pool' (all_in_log v log ++ at_number lsn r ∷ []) by h.gone h.agrees p.said
    (formed_more o.super.base (durable_in v log) (all_in_log v log) (at_number lsn r) p.formed formed) (enough_then t from o v log pool r lsn p later formed registered)
    (points_append (IsAllowed o w log' pool') o (durable_in v log) (all_in_log v log) (at_number lsn r)
    (points_allow (IsAllowed o v log pool) (IsAllowed o w log' pool') o (durable_in v log) (all_in_log v log) still p.points) allowed)

-- one that estimates what was allowed before
pub behind_record : (t : Table) (from : State) (o : Origin) (v w : View) (log log' : Tail) (pool pool' : Pool) (r : Record) (lsn : ℕ) → IsBy t o → (p : IsPoised t from o v log pool)
    → IsMarked (IsLatest (IsAllowed o v log pool) (tail_of log)) lsn r.says → ∥ IsLog o.super.base (with_step (steps_of (all_in_log v log)) lsn (step_of r)) ∥₁ → IsRegistered t r
    → HasLogged t o w log' (durable_in v log) (all_in_log v log) r lsn pool' → StillAllowed o v w log log' pool pool' → Behind t from o v w log log' pool' (all_in_log v log ++ at_number lsn r ∷ [])
behind_record t from o v w log log' pool pool' r lsn by p mark formed registered h still =
    behind_marked t from o v w log log' pool pool' r lsn by p
    (mark_allow (IsLatest (IsAllowed o v log pool) (tail_of log)) (IsAllowed o w log' pool') lsn r.says (λ k latest. still k latest.is) mark)
    (latest_mark o v log pool lsn r.says mark) formed registered h still

-- THE IMAGES of a call that appends nothing
pub rest_images : (t : Table) (from : State) (o : Origin) (v w : View) (log : Tail) (pool : Pool) → IsBy t o → (p : IsPoised t from o v log pool) → Stood o v w log pool (durable_in v log) (all_in_log v log)
    → LeavesOnly v w (IsWholeImageOf (Recovers t o) t from (steps_of (durable_in v log)) (steps_of (all_in_log v log)))
rest_images t from o v w log pool by p stood = moments_are t from o v w log pool (durable_in v log) (all_in_log v log) by p.now.agrees p.said p.formed p.enough p.points stood

-- and of one for a record
pub record_images : (t : Table) (from : State) (o : Origin) (v w : View) (log log' : Tail) (pool pool' : Pool) (r : Record) (lsn : ℕ) (result : Result ℕ EngineFault) → IsBy t o → (p : IsPoised t from o v log pool) → IsMarked (IsLatest (IsAllowed o v log pool) (tail_of log)) lsn r.says
    → ∥ IsLog o.super.base (with_step (steps_of (all_in_log v log)) lsn (step_of r)) ∥₁ → HasRun t o v w log log' pool pool' (durable_in v log) (all_in_log v log) r lsn result
    → LeavesOnly v w (IsWholeImageOf (Recovers t o) t from (steps_of (durable_in v log)) (with_step (steps_of (all_in_log v log)) lsn (step_of r)))
record_images t from o v w log log' pool pool' r lsn result by p mark formed h =
    let all : List Numbered = all_in_log v log in
    ⊎_elim
    (λ early. weaker (rest_images t from o v w log pool by p early)
    (λ c m. whole_more (Recovers t o) t from (steps_of (durable_in v log)) (steps_of all) (with_step (steps_of all) lsn (step_of r)) c (one_more (steps_of all) lsn (step_of r)) m))
    (λ late. subst (λ (rs : Steps). LeavesOnly v w (IsWholeImageOf (Recovers t o) t from (steps_of (durable_in v log)) rs)) (steps_more all (at_number lsn r))
    (moments_are t from o v w log pool (durable_in v log) (all ++ at_number lsn r ∷ []) by late.0 p.said
    (formed_more o.super.base (durable_in v log) all (at_number lsn r) p.formed formed) (enough_then t from o v log pool r lsn p (latest_mark o v log pool lsn r.says mark) formed h.registered)
    (points_append (IsAllowed o v log pool) o (durable_in v log) all (at_number lsn r) p.points (mark_allow (IsLatest (IsAllowed o v log pool) (tail_of log)) (IsAllowed o v log pool) lsn r.says (λ k latest. latest.is) mark)) late.1))
    h.moments

-- no call of the disk
pub none_stood : (o : Origin) (v : View) (log : Tail) (ds ps : List Numbered) (pool : Pool) → IsEngine o v log ds ps pool → Stood o v v log pool ds (ds ++ ps)
none_stood o v log ds ps pool e k early = rest_moments o v v log ds ps pool e k early (no_call_moments e.engine.held)

-- a call that answers as this one held the same records
pub rested_same : (o : Origin) (v w : View) (log log' : Tail) (pool pool' : Pool) (ds ps : List Numbered) → IsEngine o w log' ds ps pool' → StillAllowed o v w log log' pool pool' → HasRested o v w log log' pool pool' ds (ds ++ ps)
rested_same o v w log log' pool pool' ds ps e still = record {
  gone = record { durable = ds; waiting = ps; is_all = refl; since = []; later = sym (append_none ds); engine = e };
  allowed = still;
}

-- or made all durable
pub rested_forced : (o : Origin) (v w : View) (log log' : Tail) (pool pool' : Pool) (ds ps : List Numbered) → IsEngine o w log' (ds ++ ps) [] pool' → StillAllowed o v w log log' pool pool' → HasRested o v w log log' pool pool' ds (ds ++ ps)
rested_forced o v w log log' pool pool' ds ps e still = record {
  gone = record { durable = ds ++ ps; waiting = []; is_all = append_none (ds ++ ps); since = ps; later = refl; engine = e };
  allowed = still;
}

-- all that is durable then
pub forced_all : (o : Origin) (w : View) (log' : Tail) (ns : List Numbered) (pool' : Pool) → IsEngine o w log' ns [] pool' → steps_of (durable_in w log') ≡ steps_of (all_in_log w log')
forced_all o w log' ns pool' e = ap steps_of ((held_are w log' ns [] e.engine.held).0 ∙ (sym (append_none ns) ∙ sym (all_are o w log' ns [] pool' e)))
