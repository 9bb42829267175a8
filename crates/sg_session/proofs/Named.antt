-- Who is in the way is known by name, and what calls do to the live transactions.
use Rattle.std.proofs.Common.{◌≡◌, ℕ, List, [], ◌∷◌, ◌++◌, Option, Some, None, refl, sym, ap, ◌∙◌, subst}
use Rattle.std.specs.Prelude.{IsSome, Result, Ok, Err, take}
use Rattle.std.specs.Option.{option_map}
use Rattle.sg_base.specs.declared.numbers.TxnId.{TxnId}
use Rattle.sg_ops.specs.Table.{Table as Operations}
use Rattle.sg_serial.specs.Locks.{first_holder}
use Rattle.sg_serial.specs.Runs.{Live, without}
use Rattle.sg_serial.proofs.Holder.{holder_is, found_again}
use Rattle.sg_model.specs.Verb.{Op}
use Rattle.sg_model.specs.declared.op.Reply as code_reply
use Rattle.sg_model.specs.Touches.{touches, conflict}
use Rattle.sg_run.specs.Run.{Run, live_objects, holder_of}
use Rattle.sg_run.specs.Serial.{IsSound}
use Rattle.sg_store.specs.declared.fault.Refused.{Refused}
use Rattle.sg_store.specs.declared.fault.Refused.TheVariants as refusals
use Rattle.sg_store.specs.declared.fault.MarkRefused.{MarkRefused}
use Rattle.sg_store.specs.declared.fault.MarkRefused.TheVariants as marks
use Rattle.sg_store.specs.Calls.{Begins, Commits, Aborts, Saves, RollsBack, Flushes, Checkpoints, Does}
use Rattle.sg_session.specs.Names.{all_unmarked, live_numbered, IsNamed, IsNamedAtMark}
use Rattle.sg_session.proofs.Unmarked.{one_more, one_less, remarked}

none_of_map : {A B : Type 0} (f : A → B) (o : Option A) → option_map f o ≡ None → o ≡ None
none_of_map f None e = refl
none_of_map f (Some a) e = absurd (cc)

some_of_map : {A B : Type 0} (f : A → B) (o : Option A) (b : B) → option_map f o ≡ Some b → (a : A) × (o ≡ Some a) × (f a ≡ b)
some_of_map f None b e = absurd (cc)
some_of_map f (Some a) b e = let p : f a ≡ b = cc in (a, refl, p)

is_some_by : {A : Type 0} (o : Option A) (a : A) → o ≡ Some a → IsSome o
is_some_by o a e = subst IsSome (sym e) refl

module _ (t : Operations) (x : Run) (sound : IsSound t x) where
  -- who is in the way is live
  pub known : (u h : ℕ) (op : Op) → first_holder conflict u (touches (live_objects t x) op) x.so_far.held ≡ Some h → IsSome (live_numbered x.so_far.live h)
  known u h op way =
      let p = some_of_map (λ (l : Live). l.transaction) (holder_of t x u op) h (sym (holder_is conflict x.so_far.live x.so_far.held u (touches (live_objects t x) op) sound.serial.rising sound.serial.holders) ∙ way) in
      let again : live_numbered x.so_far.live p.0.transaction ≡ Some p.0 = found_again _ x.so_far.live p.0 sound.serial.rising p.1 in
      is_some_by (live_numbered x.so_far.live h) p.0 (ap (λ (n : ℕ). live_numbered x.so_far.live n) (sym p.2) ∙ again)

  pub named_for : (begin tail before now u : ℕ) (op : Op) (into : List ℕ) (why : Refused) (y : Run) → Does t begin tail before now u op x into (Err why) y → IsNamed x.so_far.live why
  named_for begin tail before now u op into refusals.NoTxn y h = tt
  named_for begin tail before now u op into refusals.TooManyLive y h = tt
  named_for begin tail before now u op into (refusals.Busy holder) y h = known u holder.0 op h.2
  named_for begin tail before now u op into refusals.LocksFull y h = tt
  named_for begin tail before now u op into (refusals.Model reason) y h = tt
  named_for begin tail before now u op into (refusals.NoSpace free reserved need) y h = tt
  named_for begin tail before now u op into (refusals.NoBands free need) y h = tt
  named_for begin tail before now u op into refusals.LogEnd y h = tt
  named_for begin tail before now u op into refusals.Memory y h = tt
  named_for begin tail before now u op into refusals.DiskFault y h = tt
  named_for begin tail before now u op into refusals.Stopped y h = tt

-- no other call is answered so
pub begin_named : (tail before now : ℕ) (name : List ℕ) (live : List Live) (x : Run) (why : Refused) (y : Run) → Begins tail before now name x (Err why) y → IsNamed live why
begin_named tail before now name live x refusals.NoTxn y h = tt
begin_named tail before now name live x refusals.TooManyLive y h = tt
begin_named tail before now name live x (refusals.Busy holder) y h = absurd h
begin_named tail before now name live x refusals.LocksFull y h = tt
begin_named tail before now name live x (refusals.Model reason) y h = tt
begin_named tail before now name live x (refusals.NoSpace free reserved need) y h = tt
begin_named tail before now name live x (refusals.NoBands free need) y h = tt
begin_named tail before now name live x refusals.LogEnd y h = tt
begin_named tail before now name live x refusals.Memory y h = tt
begin_named tail before now name live x refusals.DiskFault y h = tt
begin_named tail before now name live x refusals.Stopped y h = tt

pub commit_named : (tail before now u : ℕ) (live : List Live) (x : Run) (why : Refused) (y : Run) → Commits tail before now u x (Err why) y → IsNamed live why
commit_named tail before now u live x refusals.NoTxn y h = tt
commit_named tail before now u live x refusals.TooManyLive y h = tt
commit_named tail before now u live x (refusals.Busy holder) y h = absurd h
commit_named tail before now u live x refusals.LocksFull y h = tt
commit_named tail before now u live x (refusals.Model reason) y h = tt
commit_named tail before now u live x (refusals.NoSpace free reserved need) y h = tt
commit_named tail before now u live x (refusals.NoBands free need) y h = tt
commit_named tail before now u live x refusals.LogEnd y h = tt
commit_named tail before now u live x refusals.Memory y h = tt
commit_named tail before now u live x refusals.DiskFault y h = tt
commit_named tail before now u live x refusals.Stopped y h = tt

pub abort_named : (tail before now u : ℕ) (live : List Live) (x : Run) (why : Refused) (y : Run) → Aborts tail before now u x (Err why) y → IsNamed live why
abort_named tail before now u live x refusals.NoTxn y h = tt
abort_named tail before now u live x refusals.TooManyLive y h = tt
abort_named tail before now u live x (refusals.Busy holder) y h = absurd h
abort_named tail before now u live x refusals.LocksFull y h = tt
abort_named tail before now u live x (refusals.Model reason) y h = tt
abort_named tail before now u live x (refusals.NoSpace free reserved need) y h = tt
abort_named tail before now u live x (refusals.NoBands free need) y h = tt
abort_named tail before now u live x refusals.LogEnd y h = tt
abort_named tail before now u live x refusals.Memory y h = tt
abort_named tail before now u live x refusals.DiskFault y h = tt
abort_named tail before now u live x refusals.Stopped y h = tt

pub flush_named : (before now : ℕ) (live : List Live) (x : Run) (why : Refused) (y : Run) → Flushes before now x (Err why) y → IsNamed live why
flush_named before now live x refusals.NoTxn y h = tt
flush_named before now live x refusals.TooManyLive y h = tt
flush_named before now live x (refusals.Busy holder) y h = absurd h
flush_named before now live x refusals.LocksFull y h = tt
flush_named before now live x (refusals.Model reason) y h = tt
flush_named before now live x (refusals.NoSpace free reserved need) y h = tt
flush_named before now live x (refusals.NoBands free need) y h = tt
flush_named before now live x refusals.LogEnd y h = tt
flush_named before now live x refusals.Memory y h = tt
flush_named before now live x refusals.DiskFault y h = tt
flush_named before now live x refusals.Stopped y h = tt

pub checkpoint_named : (tail before now : ℕ) (live : List Live) (x : Run) (why : Refused) (y : Run) → Checkpoints tail before now x (Err why) y → IsNamed live why
checkpoint_named tail before now live x refusals.NoTxn y h = tt
checkpoint_named tail before now live x refusals.TooManyLive y h = tt
checkpoint_named tail before now live x (refusals.Busy holder) y h = absurd h
checkpoint_named tail before now live x refusals.LocksFull y h = tt
checkpoint_named tail before now live x (refusals.Model reason) y h = tt
checkpoint_named tail before now live x (refusals.NoSpace free reserved need) y h = tt
checkpoint_named tail before now live x (refusals.NoBands free need) y h = tt
checkpoint_named tail before now live x refusals.LogEnd y h = tt
checkpoint_named tail before now live x refusals.Memory y h = tt
checkpoint_named tail before now live x refusals.DiskFault y h = tt
checkpoint_named tail before now live x refusals.Stopped y h = tt

-- nor is a call on marks
pub save_named : (tail before now u : ℕ) (live : List Live) (x : Run) (why : MarkRefused) (y : Run) → Saves tail before now u x (Err why) y → IsNamedAtMark live why
save_named tail before now u live x marks.NoMark y h = tt
save_named tail before now u live x marks.MarksFull y h = tt
save_named tail before now u live x (marks.Store refusals.NoTxn) y h = tt
save_named tail before now u live x (marks.Store refusals.TooManyLive) y h = tt
save_named tail before now u live x (marks.Store (refusals.Busy holder)) y h = absurd h
save_named tail before now u live x (marks.Store refusals.LocksFull) y h = tt
save_named tail before now u live x (marks.Store (refusals.Model reason)) y h = tt
save_named tail before now u live x (marks.Store (refusals.NoSpace free reserved need)) y h = tt
save_named tail before now u live x (marks.Store (refusals.NoBands free need)) y h = tt
save_named tail before now u live x (marks.Store refusals.LogEnd) y h = tt
save_named tail before now u live x (marks.Store refusals.Memory) y h = tt
save_named tail before now u live x (marks.Store refusals.DiskFault) y h = tt
save_named tail before now u live x (marks.Store refusals.Stopped) y h = tt

pub back_named : (tail before now u mark : ℕ) (live : List Live) (x : Run) (why : MarkRefused) (y : Run) → RollsBack tail before now u mark x (Err why) y → IsNamedAtMark live why
back_named tail before now u mark live x marks.NoMark y h = tt
back_named tail before now u mark live x marks.MarksFull y h = tt
back_named tail before now u mark live x (marks.Store refusals.NoTxn) y h = tt
back_named tail before now u mark live x (marks.Store refusals.TooManyLive) y h = tt
back_named tail before now u mark live x (marks.Store (refusals.Busy holder)) y h = absurd h
back_named tail before now u mark live x (marks.Store refusals.LocksFull) y h = tt
back_named tail before now u mark live x (marks.Store (refusals.Model reason)) y h = tt
back_named tail before now u mark live x (marks.Store (refusals.NoSpace free reserved need)) y h = tt
back_named tail before now u mark live x (marks.Store (refusals.NoBands free need)) y h = tt
back_named tail before now u mark live x (marks.Store refusals.LogEnd) y h = tt
back_named tail before now u mark live x (marks.Store refusals.Memory) y h = tt
back_named tail before now u mark live x (marks.Store refusals.DiskFault) y h = tt
back_named tail before now u mark live x (marks.Store refusals.Stopped) y h = tt

-- WHICH TRANSACTIONS ARE LIVE behind a call, without their marks

same_live : (x y z : Run) → all_unmarked z.so_far.live ≡ all_unmarked x.so_far.live → y ≡ z → all_unmarked y.so_far.live ≡ all_unmarked x.so_far.live
same_live x y z same e = ap (λ (r : Run). all_unmarked r.so_far.live) e ∙ same

pub began_live : (tail before now : ℕ) (name : List ℕ) (x y : Run) (u : TxnId) → Begins tail before now name x (Ok u) y → all_unmarked y.so_far.live ≡ all_unmarked x.so_far.live ++ record { name = name; transaction = u.0; marks = [] } ∷ []
began_live tail before now name x y u h = ap (λ (r : Run). all_unmarked r.so_far.live) h.4 ∙ one_more x.so_far.live (record { name = name; transaction = u.0; marks = [] })

pub begin_live : (tail before now : ℕ) (name : List ℕ) (x y : Run) (why : Refused) → Begins tail before now name x (Err why) y → all_unmarked y.so_far.live ≡ all_unmarked x.so_far.live
begin_live tail before now name x y refusals.NoTxn h = absurd h
begin_live tail before now name x y refusals.TooManyLive h = same_live x y x refl h.2
begin_live tail before now name x y (refusals.Busy holder) h = absurd h
begin_live tail before now name x y refusals.LocksFull h = absurd h
begin_live tail before now name x y (refusals.Model reason) h = absurd h
begin_live tail before now name x y (refusals.NoSpace free reserved need) h = absurd h
begin_live tail before now name x y (refusals.NoBands free need) h = absurd h
begin_live tail before now name x y refusals.LogEnd h = same_live x y x refl h.3
begin_live tail before now name x y refusals.Memory h = absurd h
begin_live tail before now name x y refusals.DiskFault h = same_live x y _ refl h.2.after
begin_live tail before now name x y refusals.Stopped h = same_live x y x refl h.1

pub committed_live : (tail before now u : ℕ) (x y : Run) → Commits tail before now u x (Ok tt) y → all_unmarked y.so_far.live ≡ without u (all_unmarked x.so_far.live)
committed_live tail before now u x y h = ap (λ (r : Run). all_unmarked r.so_far.live) h.2 ∙ one_less u x.so_far.live

pub commit_live : (tail before now u : ℕ) (x y : Run) (why : Refused) → Commits tail before now u x (Err why) y → all_unmarked y.so_far.live ≡ all_unmarked x.so_far.live
commit_live tail before now u x y refusals.NoTxn h = same_live x y x refl h.2
commit_live tail before now u x y refusals.TooManyLive h = absurd h
commit_live tail before now u x y (refusals.Busy holder) h = absurd h
commit_live tail before now u x y refusals.LocksFull h = absurd h
commit_live tail before now u x y (refusals.Model reason) h = absurd h
commit_live tail before now u x y (refusals.NoSpace free reserved need) h = absurd h
commit_live tail before now u x y (refusals.NoBands free need) h = absurd h
commit_live tail before now u x y refusals.LogEnd h = same_live x y _ refl h.2
commit_live tail before now u x y refusals.Memory h = absurd h
commit_live tail before now u x y refusals.DiskFault h = same_live x y _ refl h.2
commit_live tail before now u x y refusals.Stopped h = same_live x y x refl h.1

pub aborted_live : (tail before now u : ℕ) (x y : Run) → Aborts tail before now u x (Ok tt) y → all_unmarked y.so_far.live ≡ without u (all_unmarked x.so_far.live)
aborted_live tail before now u x y h = ap (λ (r : Run). all_unmarked r.so_far.live) h.2 ∙ one_less u x.so_far.live

pub abort_live : (tail before now u : ℕ) (x y : Run) (why : Refused) → Aborts tail before now u x (Err why) y → all_unmarked y.so_far.live ≡ all_unmarked x.so_far.live
abort_live tail before now u x y refusals.NoTxn h = same_live x y x refl h.2
abort_live tail before now u x y refusals.TooManyLive h = absurd h
abort_live tail before now u x y (refusals.Busy holder) h = absurd h
abort_live tail before now u x y refusals.LocksFull h = absurd h
abort_live tail before now u x y (refusals.Model reason) h = absurd h
abort_live tail before now u x y (refusals.NoSpace free reserved need) h = absurd h
abort_live tail before now u x y (refusals.NoBands free need) h = absurd h
abort_live tail before now u x y refusals.LogEnd h = same_live x y _ refl h.2
abort_live tail before now u x y refusals.Memory h = absurd h
abort_live tail before now u x y refusals.DiskFault h = same_live x y _ refl h.2.after
abort_live tail before now u x y refusals.Stopped h = same_live x y x refl h.1

pub save_live : (tail before now u : ℕ) (x y : Run) (r : Result ℕ MarkRefused) → Saves tail before now u x r y → all_unmarked y.so_far.live ≡ all_unmarked x.so_far.live
save_live tail before now u x y (Ok n) h = same_live x y _ (remarked u (λ ms. ms ++ record { number = h.5.0; time = x.so_far.clock } ∷ []) x.so_far.live) h.5.2
save_live tail before now u x y (Err marks.NoMark) h = absurd h
save_live tail before now u x y (Err marks.MarksFull) h = same_live x y x refl h.3
save_live tail before now u x y (Err (marks.Store refusals.NoTxn)) h = same_live x y x refl h.2
save_live tail before now u x y (Err (marks.Store refusals.TooManyLive)) h = absurd h
save_live tail before now u x y (Err (marks.Store (refusals.Busy holder))) h = absurd h
save_live tail before now u x y (Err (marks.Store refusals.LocksFull)) h = absurd h
save_live tail before now u x y (Err (marks.Store (refusals.Model reason))) h = absurd h
save_live tail before now u x y (Err (marks.Store (refusals.NoSpace free reserved need))) h = absurd h
save_live tail before now u x y (Err (marks.Store (refusals.NoBands free need))) h = absurd h
save_live tail before now u x y (Err (marks.Store refusals.LogEnd)) h = same_live x y x refl h.4
save_live tail before now u x y (Err (marks.Store refusals.Memory)) h = absurd h
save_live tail before now u x y (Err (marks.Store refusals.DiskFault)) h = same_live x y _ refl h.3.after
save_live tail before now u x y (Err (marks.Store refusals.Stopped)) h = same_live x y x refl h.1

pub back_live : (tail before now u mark : ℕ) (x y : Run) (r : Result (Unit {0}) MarkRefused) → RollsBack tail before now u mark x r y → all_unmarked y.so_far.live ≡ all_unmarked x.so_far.live
back_live tail before now u mark x y (Ok done) h = same_live x y _ (remarked u (λ ms. take mark ms) x.so_far.live) h.2.2
back_live tail before now u mark x y (Err marks.NoMark) h = same_live x y x refl h.3
back_live tail before now u mark x y (Err marks.MarksFull) h = absurd h
back_live tail before now u mark x y (Err (marks.Store refusals.NoTxn)) h = same_live x y x refl h.2
back_live tail before now u mark x y (Err (marks.Store refusals.TooManyLive)) h = absurd h
back_live tail before now u mark x y (Err (marks.Store (refusals.Busy holder))) h = absurd h
back_live tail before now u mark x y (Err (marks.Store refusals.LocksFull)) h = absurd h
back_live tail before now u mark x y (Err (marks.Store (refusals.Model reason))) h = absurd h
back_live tail before now u mark x y (Err (marks.Store (refusals.NoSpace free reserved need))) h = absurd h
back_live tail before now u mark x y (Err (marks.Store (refusals.NoBands free need))) h = absurd h
back_live tail before now u mark x y (Err (marks.Store refusals.LogEnd)) h = same_live x y _ refl h.3
back_live tail before now u mark x y (Err (marks.Store refusals.Memory)) h = absurd h
back_live tail before now u mark x y (Err (marks.Store refusals.DiskFault)) h = same_live x y _ refl h.3.after
back_live tail before now u mark x y (Err (marks.Store refusals.Stopped)) h = same_live x y x refl h.1

pub flush_live : (before now : ℕ) (x y : Run) (r : Result (Unit {0}) Refused) → Flushes before now x r y → all_unmarked y.so_far.live ≡ all_unmarked x.so_far.live
flush_live before now x y (Ok done) h = same_live x y x refl h.1
flush_live before now x y (Err refusals.NoTxn) h = absurd h
flush_live before now x y (Err refusals.TooManyLive) h = absurd h
flush_live before now x y (Err (refusals.Busy holder)) h = absurd h
flush_live before now x y (Err refusals.LocksFull) h = absurd h
flush_live before now x y (Err (refusals.Model reason)) h = absurd h
flush_live before now x y (Err (refusals.NoSpace free reserved need)) h = absurd h
flush_live before now x y (Err (refusals.NoBands free need)) h = absurd h
flush_live before now x y (Err refusals.LogEnd) h = absurd h
flush_live before now x y (Err refusals.Memory) h = absurd h
flush_live before now x y (Err refusals.DiskFault) h = same_live x y _ refl h.1.after
flush_live before now x y (Err refusals.Stopped) h = same_live x y x refl h.1

pub checkpoint_live : (tail before now : ℕ) (x y : Run) (r : Result (Unit {0}) Refused) → Checkpoints tail before now x r y → all_unmarked y.so_far.live ≡ all_unmarked x.so_far.live
checkpoint_live tail before now x y (Ok done) h = same_live x y x refl h.1
checkpoint_live tail before now x y (Err refusals.NoTxn) h = absurd h
checkpoint_live tail before now x y (Err refusals.TooManyLive) h = absurd h
checkpoint_live tail before now x y (Err (refusals.Busy holder)) h = absurd h
checkpoint_live tail before now x y (Err refusals.LocksFull) h = absurd h
checkpoint_live tail before now x y (Err (refusals.Model reason)) h = absurd h
checkpoint_live tail before now x y (Err (refusals.NoSpace free reserved need)) h = absurd h
checkpoint_live tail before now x y (Err (refusals.NoBands free need)) h = absurd h
checkpoint_live tail before now x y (Err refusals.LogEnd) h = same_live x y _ refl h.1
checkpoint_live tail before now x y (Err refusals.Memory) h = absurd h
checkpoint_live tail before now x y (Err refusals.DiskFault) h = same_live x y _ refl h.1.after
checkpoint_live tail before now x y (Err refusals.Stopped) h = same_live x y x refl h.1

pub does_live : (t : Operations) (begin tail before now u : ℕ) (op : Op) (x y : Run) (into : List ℕ) (r : Result code_reply.Reply Refused) → Does t begin tail before now u op x into r y → all_unmarked y.so_far.live ≡ all_unmarked x.so_far.live
does_live t begin tail before now u op x y into (Ok reply) h = same_live x y _ refl h.4
does_live t begin tail before now u op x y into (Err refusals.NoTxn) h = same_live x y x refl h.2
does_live t begin tail before now u op x y into (Err refusals.TooManyLive) h = absurd h
does_live t begin tail before now u op x y into (Err (refusals.Busy holder)) h = same_live x y x refl h.3
does_live t begin tail before now u op x y into (Err refusals.LocksFull) h = same_live x y x refl h.4
does_live t begin tail before now u op x y into (Err (refusals.Model reason)) h = same_live x y _ refl h.3
does_live t begin tail before now u op x y into (Err (refusals.NoSpace free reserved need)) h = same_live x y _ refl h.5
does_live t begin tail before now u op x y into (Err (refusals.NoBands free need)) h = same_live x y _ refl h.4
does_live t begin tail before now u op x y into (Err refusals.LogEnd) h = same_live x y _ refl h.5
does_live t begin tail before now u op x y into (Err refusals.Memory) h = same_live x y _ refl h.4
does_live t begin tail before now u op x y into (Err refusals.DiskFault) h = same_live x y _ refl h.2.after
does_live t begin tail before now u op x y into (Err refusals.Stopped) h = same_live x y x refl h.1
