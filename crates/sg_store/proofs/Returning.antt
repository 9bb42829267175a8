-- HOW A TRANSACTION GOES BACK to a mark.
use Rattle.std.proofs.Common.{◌≡◌, ℕ, zero, suc, ◌-◌, ◌≤◌, Bool, true, false, cond, List, [], ◌∷◌, map, take, Option, Some, None, refl, sym, ap, ◌∙◌, subst}
use Rattle.std.specs.Prelude.{◌==◌, Ok, Err, is_some, IsSome, slice_get}
use Rattle.std.specs.Option.{option_map}
use Rattle.sg_base.specs.Ends.{HasRisen}
use Rattle.sg_ops.specs.Table.{Table as Operations}
use Rattle.sg_serial.specs.Runs.{Mark, is_live, nth_mark}
use Rattle.sg_model.specs.declared.stop.Stop.TheVariants as stops
use Rattle.sg_core.specs.Live.{Txn, remarking}
use Rattle.sg_core.specs.Live as core
use Rattle.sg_recovery.specs.Chains.{next_lsn}
use Rattle.sg_run.specs.Run.{Run, marks_of, rolled_back}
use Rattle.sg_join.proofs.Points.{point_of}
use Rattle.sg_space.specs.declared.space.SpaceFault.{SpaceFault}
use Rattle.sg_space.specs.declared.space.SpaceFault.TheVariants as spaces
use Rattle.sg_store.specs.declared.fault.Refused.{Refused}
use Rattle.sg_store.specs.declared.fault.Refused.TheVariants as refusals
use Rattle.sg_store.specs.declared.fault.MarkRefused.TheVariants as marks
use Rattle.sg_store.specs.Ground.{Ground, IsLawful}
use Rattle.sg_store.specs.Engine.{View, IsDiskFault}
use Rattle.sg_store.specs.Stops.{refused_at, stop_at}
use Rattle.sg_store.specs.Store.{Core, Shows, Runs, IsKept, HaveMarks}
use Rattle.sg_store.specs.Calls.{Goes, Stays, RollsBack, IsBack}
use Rattle.sg_store.proofs.Calls.{goes_same, goes_on, goes_down, some_stop, no_stop}
use Rattle.sg_store.proofs.Ending.{IsNear}
use Rattle.sg_store.proofs.Live.{same_live}
use Rattle.sg_store.proofs.Rolling.{roll_kept}
use Rattle.sg_store.proofs.Saving.{marks_are}

get_map : {A B : Type 0} (f : A → B) (xs : List A) (k : ℕ) → slice_get (map f xs) k ≡ option_map f (slice_get xs k)
get_map f [] k = refl
get_map f (x ∷ xs) zero = refl
get_map f (x ∷ xs) (suc k) = get_map f xs k

nth_map : {A B : Type 0} (f : A → B) (xs : List A) (n : ℕ) → nth_mark n (map f xs) ≡ option_map f (nth_mark n xs)
nth_map {A} {B} f xs n = go (n == 0)
  where
    go : (b : Bool) → cond {A = Option B} b None (slice_get (map f xs) (n - 1)) ≡ option_map f (cond {A = Option A} b None (slice_get xs (n - 1)))
    go true = refl
    go false = get_map f xs (n - 1)

-- the mark of a run that a number of a record is of
pub record IsMarkAt (x : Run) (u n at : ℕ) : Type 0 where
  pub mark : Mark
  pub is : nth_mark n (marks_of x u) ≡ Some mark
  pub number : mark.number ≡ at

pub mark_at : (ks : List Txn) (x : Run) (u n at : ℕ) → HaveMarks ks x.so_far.live → nth_mark n (core.marks_of ks u) ≡ Some at → IsMarkAt x u n at
mark_at ks x u n at have e = go (nth_mark n (marks_of x u)) refl (sym (nth_map (λ (m : Mark). m.number) (marks_of x u) n) ∙ (ap (nth_mark n) (sym (marks_are ks x.so_far.live u have)) ∙ e))
  where
    go : (o : Option Mark) → nth_mark n (marks_of x u) ≡ o → option_map (λ (m : Mark). m.number) o ≡ Some at → IsMarkAt x u n at
    go None f h = absurd (cc)
    go (Some m) f h = record { mark = m; is = f; number = cc }

pub no_mark : (ks : List Txn) (x : Run) (u n : ℕ) → HaveMarks ks x.so_far.live → nth_mark n (core.marks_of ks u) ≡ None → nth_mark n (marks_of x u) ≡ None
no_mark ks x u n have e = go (nth_mark n (marks_of x u)) (sym (nth_map (λ (m : Mark). m.number) (marks_of x u) n) ∙ (ap (nth_mark n) (sym (marks_are ks x.so_far.live u have)) ∙ e))
  where
    go : (o : Option Mark) → option_map (λ (m : Mark). m.number) o ≡ None → o ≡ None
    go None h = refl
    go (Some m) h = absurd (cc)

module _ (t : Operations) (g : Ground) (lawful : IsLawful t g) (v : View g) (k : Core) (x : Run) (u n : ℕ) (s : Shows t g v k x) where
  pub roll_stopped : (now : ℕ) → is_some k.stopped ≡ true → Goes t g v x (RollsBack v.tail v.faults now u n x (Err (marks.Store refusals.Stopped))) v k
  roll_stopped now e = goes_same t g v k x (RollsBack v.tail v.faults now u n x (Err (marks.Store refusals.Stopped))) s (some_stop t g k x e s.stopped, refl)

  module _ (e : is_some k.stopped ≡ false) where
    none : x.stopped ≡ None
    none = sym s.stopped ∙ no_stop t g k.stopped e

    pub runs_now : Runs t g v k x
    runs_now = s.runs none

    lives : core.is_live k.live u ≡ is_live x.so_far.live u
    lives = same_live k.live x.so_far.live u runs_now.is_kept.live

    pub roll_none : (now : ℕ) → core.is_live k.live u ≡ false → Goes t g v x (RollsBack v.tail v.faults now u n x (Err (marks.Store refusals.NoTxn))) v k
    roll_none now gone = goes_same t g v k x (RollsBack v.tail v.faults now u n x (Err (marks.Store refusals.NoTxn))) s (none, sym lives ∙ gone, refl)

    module _ (is : core.is_live k.live u ≡ true) where
      pub live : is_live x.so_far.live u ≡ true
      live = sym lives ∙ is

      pub roll_unmarked : (now : ℕ) → nth_mark n (core.marks_of k.live u) ≡ None → Goes t g v x (RollsBack v.tail v.faults now u n x (Err marks.NoMark)) v k
      roll_unmarked now gone = goes_same t g v k x (RollsBack v.tail v.faults now u n x (Err marks.NoMark)) s (none, live, no_mark k.live x u n runs_now.is_kept.marks gone, refl)

      module _ (at : ℕ) (there : nth_mark n (core.marks_of k.live u) ≡ Some at) where
        pub here : IsMarkAt x u n at
        here = mark_at k.live x u n at runs_now.is_kept.marks there

        -- its record is behind the begin
        pub within : u ≤ at
        within = subst (λ i. u ≤ i) here.number (point_of (next_lsn v.log) x.so_far.clock runs_now.is_kept.logs.history x.so_far.history x.so_far.live u n here.mark runs_now.is_kept.logs.points here.is).begun

        some : IsSome (nth_mark n (marks_of x u))
        some = subst IsSome (sym here.is) refl

        -- the store stops in it
        pub roll_fails : (w : View g) (m : Core) (f : SpaceFault) → Stays t g v w x → m.stopped ≡ Some (stop_at f) → (IsDiskFault f → HasRisen v.faults w.faults) → IsNear w.tail f
            → Goes t g v x (RollsBack w.tail v.faults w.faults u n x (Err (marks.Store (refused_at f)))) w m
        roll_fails w m spaces.Disk stays stopped risen near = goes_down t g v w k m x (RollsBack w.tail v.faults w.faults u n x (Err (marks.Store refusals.DiskFault))) stops.Disk s stopped (none, live, some, record { after = refl; risen = risen tt }) stays
        roll_fails w m spaces.LogEnd stays stopped risen near = goes_down t g v w k m x (RollsBack w.tail v.faults w.faults u n x (Err (marks.Store refusals.LogEnd))) stops.LogEnd s stopped (none, live, some, refl, near) stays

        -- the same of the engine as it is handed on
        pub along : (w z : View g) (m : Core) → w ≡ z → (r : Refused) (f : SpaceFault) → r ≡ refused_at f → Stays t g v w x → m.stopped ≡ Some (stop_at f) → (IsDiskFault f → HasRisen v.faults w.faults) → IsNear w.tail f
            → Goes t g v x (RollsBack z.tail v.faults z.faults u n x (Err (marks.Store r))) z m
        along w z m same r f answer stays stops risen near = subst (λ y. Goes t g v x (RollsBack y.tail v.faults y.faults u n x (Err (marks.Store r))) y m) same
            (subst (λ q. Goes t g v x (RollsBack w.tail v.faults w.faults u n x (Err (marks.Store q))) w m) (sym answer) (roll_fails w m f stays stops risen near))

        -- it is done
        pub roll_done : (w : View g) (m : Core) (txns : List Txn) → IsBack t g w txns x u at → Stays t g v w x → m ≡ record k { live = remarking u (λ ms. take n ms) txns } → Goes t g v x (RollsBack w.tail v.faults w.faults u n x (Ok tt)) w m
        roll_done w m txns back stays same = go at here.number back
          where
            go : (i : ℕ) → here.mark.number ≡ i → IsBack t g w txns x u i → Goes t g v x (RollsBack w.tail v.faults w.faults u n x (Ok tt)) w m
            go i e2 b = goes_on t g v w k m x (rolled_back x u here.mark.time n) (RollsBack w.tail v.faults w.faults u n x (Ok tt)) s none (no_stop t g k.stopped e) (ap (λ (c : Core). c.stopped) same ∙ no_stop t g k.stopped e) none refl refl
                (subst (λ c. Runs t g w c (rolled_back x u here.mark.time n)) (sym same) (record { is_kept = kept; held = runs_now.held }))
                (none, live, (here.mark, here.is, refl)) stays
              where
                b2 : IsBack t g w txns x u here.mark.number
                b2 = subst (IsBack t g w txns x u) (sym e2) b

                kept : IsKept t g w (remarking u (λ ms. take n ms) txns) (rolled_back x u here.mark.time n)
                kept = roll_kept t g lawful w txns x u n b2.at here.mark b2.undoing b2.reserved live here.is b2.none
