-- Lists of keys and of names, as the store asks.
use Rattle.std.proofs.Common.{◌≡◌, ℕ, ◌≤◌, Bool, true, false, List, Result, Ok, Err, refl, sym, ap, ◌∙◌, subst}
use Rattle.std.specs.Prelude.{OnOk, IfOk, IfErr, IsOk, Vec}
use Rattle.std.specs.FinMap.{get, keys}
use Rattle.sg_ops.specs.Table.{Table as Operations}
use Rattle.sg_actions.specs.declared.acts.Acts.{Acts}
use Rattle.sg_actions.specs.declared.engine.Engine.{Ghosts}
use Rattle.sg_model.specs.Step.{on, step}
use Rattle.sg_model.specs.Verb.{Op, Outcome}
use Rattle.sg_model.specs.Verb.Op.{On, Names}
use Rattle.sg_model.specs.Verb.Reply.{Several}
use Rattle.sg_model.specs.Verb.Verb.{Keys}
use Rattle.sg_model.specs.declared.reason.Reason.{Reason}
use Rattle.sg_reading.specs.Reading.{Reading, objects, plain}
use Rattle.sg_contents.specs.Standing.{IfContents}
use Rattle.sg_contents.specs.Meaning.{reading}
use Rattle.sg_objects.specs.Listed.{said_keys}
use Rattle.sg_space.specs.Listing.{CountsList, WritesNoneList}
use Rattle.sg_space.specs.View.{View, OnlyReads}
use Rattle.sg_space.specs.declared.space.ListFault.{ListFault}
use Rattle.sg_space.specs.declared.space.ListFault.TheVariants as lists
use Rattle.sg_space.specs.declared.space.SpaceFault.{SpaceFault}
use Rattle.sg_space.specs.declared.space.SpaceFault.TheVariants as faults
use Rattle.sg_store.specs.Engine as store
use Rattle.sg_store.specs.Engine.{AsMeant, Keeps, Counts, IsEngine, IsListDisk, IsListRead, IsDiskFault, Rests, Rested}
use Rattle.sg_store.specs.Ground.{Ground}
use Rattle.sg_store.specs.Verbs.{Reads, LacksMemory, HasKeys, HasNames}
use Rattle.sg_shown.specs.Shown.{basis, over, shown}
use Rattle.sg_verbs.specs.Looks.{HasGoneOn, IsHeld, IsGivenUp, is_list_failed}
use Rattle.sg_verbs.proofs.Asked.{step_is}
use Rattle.sg_verbs.proofs.Looked.{Look, Kept, kept, fails_disk, looked_there, counts_kept, counts_refused, counts_failed}
use Rattle.sg_verbs.proofs.Settled.{SomeFails, read_up}
use Rattle.sg_verbs.proofs.Moving.{view_in}

-- a fault of the space is no want of memory
not_memory : (f : SpaceFault) → lists.Space f ≡ lists.Memory → ⊥
not_memory f e = cc

-- WHAT A LIST LEFT of the space where whoever acts had paused
pub record Lists {T : Type 0} (v w : View) (r : Result T ListFault) : Type 0 where
  pub counts : CountsList v w r
  pub kept : OnOk r (OnlyReads v w)
  pub memory : IfErr r (λ e. e ≡ lists.Memory → OnlyReads v w)
  pub quiet : IfErr r (λ e. e ≡ lists.Memory → w.faults ≡ v.faults)
  pub writes : WritesNoneList v w r

read_fault : (f : SpaceFault) → (lists.Space f ≡ lists.Space faults.LogEnd → ⊥) → f ≡ faults.Disk
read_fault faults.Disk none = refl
read_fault faults.LogEnd none = absurd (none refl)

not_done : true ≡ false → ⊥
not_done e = cc

module _ {E : Type 0} {g : Ghosts E} {T : Type 0} (a p b d : Acts E g) where
  pub list_kept : (r : Result T ListFault) → Look a p b → Lists (view_in (over p)) (view_in (over b)) r → is_list_failed r ≡ false → HasGoneOn a.begun b d → IsHeld (over b).engine → Kept a d
  list_kept (Ok x) l q done h held = kept a p b d l q.kept h q.counts.quiet held
  list_kept (Err lists.Memory) l q done h held = kept a p b d l (q.memory refl) h (q.quiet refl) held
  list_kept (Err (lists.Space f)) l q done h held = absurd (not_done done)

  pub list_fails : (r : Result T ListFault) → Look a p b → Lists (view_in (over p)) (view_in (over b)) r → SomeFails false (is_list_failed r) (over a) (over b)
  list_fails (Ok x) l q is = absurd (let w : false ≡ true = is in cc)
  list_fails (Err lists.Memory) l q is = absurd (let w : false ≡ true = is in cc)
  list_fails (Err (lists.Space f)) l q is = let e = read_fault f q.writes.no_end in (f, fails_disk a p b d l f e (q.counts.disk (ap lists.Space e)))

  pub list_counts : (r : Result T ListFault) → is_list_failed r ≡ false → Kept a d → Counts IsListDisk (shown a) (shown d) r
  list_counts (Ok x) done k = counts_kept a p b d x k
  list_counts (Err lists.Memory) done k = counts_refused a p b d lists.Memory (λ h. h) k
  list_counts (Err (lists.Space f)) done k = absurd (not_done done)

  pub list_memory : (r : Result T ListFault) → Kept a d → IfErr r (λ e. e ≡ lists.Memory → (shown a).Told → (shown d).Told)
  list_memory (Ok x) k = tt
  list_memory (Err f) k = λ e. k.tells

  pub list_quiet : (r : Result T ListFault) → Kept a d → IfErr r (λ e. e ≡ lists.Memory → (shown d).faults ≡ (shown a).faults)
  list_quiet (Ok x) k = tt
  list_quiet (Err f) k = λ e. k.faults

  pub list_reads : (r : Result T ListFault) → is_list_failed r ≡ false → IfErr r IsListRead
  list_reads (Ok x) done = tt
  list_reads (Err lists.Memory) done = tt
  list_reads (Err (lists.Space f)) done = absurd (not_done done)

-- where it was given up
pub record ListGivenUp {E : Type 0} {g : Ghosts E} (T : Type 0) (a d : Acts E g) (f : SpaceFault) : Type 0 where
  pub counts : Counts IsListDisk (shown a) (shown d) (let r : Result T ListFault = Err (lists.Space f) in r)
  pub means : Keeps (shown a) (shown d)
  pub tail : (shown d).tail ≡ (shown a).tail
  pub rests : AsMeant (shown a) (shown d) (λ t g v w. Rests t g v w)
  pub memory : lists.Space f ≡ lists.Memory → (shown a).Told → (shown d).Told
  pub quiet : lists.Space f ≡ lists.Memory → (shown d).faults ≡ (shown a).faults
  pub reads : IsDiskFault f

pub list_given_up : {E : Type 0} {g : Ghosts E} {T : Type 0} {failed : Bool} (a p b d : Acts E g) (l : Look a p b) (f : SpaceFault) → (view_in (over p)).faults ≤ (view_in (over b)).faults → SomeFails false failed (over a) (over b)
    → IsGivenUp false failed (over b) (over d) f → ListGivenUp T a d f
list_given_up a p b d l f later fails up =
    let h = Rattle.sg_verbs.proofs.Looked.failed a p b d l f later up in
    record {
      counts = counts_failed a p b d f (lists.Space f) (λ is. is) (λ is. is) fails h;
      means = h.means;
      tail = h.tail;
      rests = h.rests;
      memory = λ e. absurd (not_memory f e);
      quiet = λ e. absurd (not_memory f e);
      reads = read_up (over b) (over d) f up;
    }

-- WHAT WAS LISTED is the reply to the operation that lists, or memory was refused where it has one
abbrev pub IsListed : {T : Type 0} (said : T → Outcome) (t : Operations) (g : Ground) → (v w : store.View g) → g.O → Op → Result T ListFault → Type 0
IsListed said t g v w o op (Ok x) = Rested t g v w × ((step t (g.objects o) op).0 ≡ said x)
IsListed said t g v w o op (Err lists.Memory) = LacksMemory t g v w o op
IsListed said t g v w o op (Err (lists.Space fault)) = Unit {0}

pub listed : {E : Type 0} {g : Ghosts E} {T : Type 0} (said : T → Outcome) (a p b d : Acts E g) (l : Look a p b) (op : Op) (r : Result T ListFault) → Kept a d
    → IfOk r (λ x. IfContents (view_in (over p)) (λ s. (t : Operations) → (step t (objects (reading s)) op).0 ≡ said x))
    → IfErr r (λ e. e ≡ lists.Memory → IfContents (view_in (over p)) (λ s. (t : Operations) → IsOk (step t (objects (reading s)) op).0))
    → AsMeant (shown a) (shown d) (λ t g v w. (o : g.O) → IsEngine t g v → Reads t g v o → Rests t g v w × IsListed said t g v w o op r)
listed said a p b d l op (Ok x) k read lacks t z from m told o engine can =
    let q = k.rests t z from m told in
    let s = looked_there a p b d l t z from m told o can.reading in
    (q.0, (q.1, ap (λ (x : Reading). (step t (objects x) op).0) (sym s.3) ∙ read s.1 s.0 s.2 t))
listed said a p b d l op (Err lists.Memory) k read lacks t z from m told o engine can =
    let q = k.rests t z from m told in
    let s = looked_there a p b d l t z from m told o can.reading in
    (q.0, record { rested = q.1; replies = subst (λ (x : Reading). IsOk (step t (objects x) op).0) s.3 (lacks refl s.1 s.0 s.2 t) })
listed said a p b d l op (Err (lists.Space f)) k read lacks t z from m told o engine can = ((k.rests t z from m told).0, tt)

-- OF A TABLE'S KEYS
keys_read : {A : Type 0} (v : View) (name : List ℕ) (r : Result (Result (Vec (List ℕ) A) Reason) ListFault)
    → IfOk r (λ x. IfContents v (λ s. (t : Operations) → (on t Keys (plain (get (reading s).things name))).0 ≡ said_keys x))
    → IfOk r (λ x. IfContents v (λ s. (t : Operations) → (step t (objects (reading s)) (On name Keys)).0 ≡ said_keys x))
keys_read v name (Ok x) h = λ shows s is t. step_is t (reading s) name Keys ∙ h shows s is t
keys_read v name (Err e) h = tt

keys_reply : {A : Type 0} (v : View) (name : List ℕ) (r : Result A ListFault)
    → IfErr r (λ e. e ≡ lists.Memory → IfContents v (λ s. (t : Operations) → IsOk (on t Keys (plain (get (reading s).things name))).0))
    → IfErr r (λ e. e ≡ lists.Memory → IfContents v (λ s. (t : Operations) → IsOk (step t (objects (reading s)) (On name Keys)).0))
keys_reply v name (Ok x) h = tt
keys_reply v name (Err e) h = λ is shows s m t. subst (λ (r : Outcome). IsOk r) (sym (step_is t (reading s) name Keys)) (h is shows s m t)

keys_are : {A : Type 0} (t : Operations) (g : Ground) (v w : store.View g) (o : g.O) (name : List ℕ) (r : Result (Result (Vec (List ℕ) A) Reason) ListFault)
    → IsListed said_keys t g v w o (On name Keys) r → HasKeys t g v w o name r
keys_are t g v w o name (Ok (Ok v')) h = record { rested = h.0; said = h.1 }
keys_are t g v w o name (Ok (Err reason)) h = (h.0, h.1)
keys_are t g v w o name (Err lists.Memory) h = h
keys_are t g v w o name (Err (lists.Space f)) h = tt

pub keys_listed : {E : Type 0} {g : Ghosts E} {A : Type 0} (a p b d : Acts E g) (l : Look a p b) (name : List ℕ) (r : Result (Result (Vec (List ℕ) A) Reason) ListFault) → Kept a d
    → IfOk r (λ x. IfContents (view_in (over p)) (λ s. (t : Operations) → (on t Keys (plain (get (reading s).things name))).0 ≡ said_keys x))
    → IfErr r (λ e. e ≡ lists.Memory → IfContents (view_in (over p)) (λ s. (t : Operations) → IsOk (on t Keys (plain (get (reading s).things name))).0))
    → AsMeant (shown a) (shown d) (λ t g v w. (o : g.O) → IsEngine t g v → Reads t g v o → Rests t g v w × HasKeys t g v w o name r)
keys_listed {g = g} a p b d l name r ends read lacks t z from m told o engine can =
    let q = listed said_keys a p b d l (On name Keys) r ends (keys_read (view_in (over p)) name r read) (keys_reply (view_in (over p)) name r lacks) t z from m told o engine can in
    (q.0, keys_are t (basis g.recovers z) _ _ o name r q.1)

-- AND OF ALL NAMES
abbrev said_names : {A : Type 0} → Vec (List ℕ) A → Outcome
said_names names = Ok (Several names.items)

names_are : {A : Type 0} (t : Operations) (g : Ground) (v w : store.View g) (o : g.O) (r : Result (Vec (List ℕ) A) ListFault)
    → IsListed said_names t g v w o Names r → HasNames t g v w o r
names_are t g v w o (Ok v') h = record { rested = h.0; said = h.1 }
names_are t g v w o (Err lists.Memory) h = h
names_are t g v w o (Err (lists.Space f)) h = tt

names_read : {A : Type 0} (v : View) (r : Result (Vec (List ℕ) A) ListFault) → IfOk r (λ x. IfContents v (λ s. x.items ≡ keys (objects (reading s))))
    → IfOk r (λ x. IfContents v (λ s. (t : Operations) → (step t (objects (reading s)) Names).0 ≡ said_names x))
unfolding step
names_read v (Ok x) h = λ shows s is t. ap (λ (names : List (List ℕ)). (let r : Outcome = Ok (Several names) in r)) (sym (h shows s is))
names_read v (Err e) h = tt

names_reply : {A : Type 0} (v : View) (r : Result A ListFault) → IfErr r (λ e. e ≡ lists.Memory → IfContents v (λ s. (t : Operations) → IsOk (step t (objects (reading s)) Names).0))
unfolding step
names_reply v (Ok x) = tt
names_reply v (Err e) = λ is shows s m t. refl

pub names_listed : {E : Type 0} {g : Ghosts E} {A : Type 0} (a p b d : Acts E g) (l : Look a p b) (r : Result (Vec (List ℕ) A) ListFault) → Kept a d
    → IfOk r (λ x. IfContents (view_in (over p)) (λ s. x.items ≡ keys (objects (reading s))))
    → AsMeant (shown a) (shown d) (λ t g v w. (o : g.O) → IsEngine t g v → Reads t g v o → Rests t g v w × HasNames t g v w o r)
names_listed {g = g} a p b d l r ends read t z from m told o engine can =
    let q = listed said_names a p b d l Names r ends (names_read (view_in (over p)) r read) (names_reply (view_in (over p)) r) t z from m told o engine can in
    (q.0, names_are t (basis g.recovers z) _ _ o r q.1)
