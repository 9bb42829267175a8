-- The engine once its log's front is cut off: what is kept says what all said, and it is poised as before.
use Rattle.std.proofs.Common.{◌≡◌, ◌⊎◌, inl, inr, ⊎_elim, ◌<◌, ◌≤◌, ℕ, List, [], ◌∷◌, ◌++◌, refl, sym, ap, ◌∙◌, subst, arith}
use Rattle.std.proofs.lemmas.Bool.{cases_lt}
use mathlib.Core.Logic.{∥∥₁_elim, ∥∥₁_prop}
use Rattle.sg_disk.specs.Disk.{Image, View}
use Rattle.sg_gate.specs.Superblock.{superblock}
use Rattle.sg_log.specs.Frames.{Numbered, gate_after, numbered_in}
use Rattle.sg_log.specs.Held.{Tail}
use Rattle.sg_log.specs.Cut.{IsSplit, gate_of, gone_of, kept_of}
use Rattle.sg_log.proofs.Steps.{gate_later}
use Rattle.sg_ops.specs.Table.{Table}
use Rattle.sg_pool.specs.declared.pool.Pool.{Pool}
use Rattle.sg_record.specs.Records.{Record}
use Rattle.sg_recovery.specs.Formed.{IsLog}
use Rattle.sg_recovery.specs.Laws.{Each}
use Rattle.sg_recovery.specs.Log.{tally}
use Rattle.sg_kept.specs.Kept.{IsPoint}
use Rattle.sg_kept.proofs.Kept.{log_kept}
use Rattle.sg_kept.proofs.Saying.{kept_says}
use Rattle.sg_action.specs.States.{State}
use Rattle.sg_engine.specs.Effects.{IsBy}
use Rattle.sg_engine.specs.Engine.{Origin, entries, geometry, IsStanding}
use Rattle.sg_engine.specs.History.{Entry, Homes, made}
use Rattle.sg_engine.specs.Running.{IsEngine, IsAllowed}
use Rattle.sg_engine.specs.Cut.{Stand, cut_at as cut_origin}
use Rattle.sg_engine.proofs.Cut.{entries_cut, page_made, byte_made}
use Rattle.sg_actions.specs.Steps.{Steps, repeated}
use Rattle.sg_phys_laws.specs.Formed.{AreFormed}
use Rattle.sg_phys_laws.specs.Known.{IsEnough, AllEnough}
use Rattle.sg_phys_laws.specs.Points.{redo_point, AreMarked, ArePoints}
use Rattle.sg_phys_laws.specs.Poised.{AreSaid, IsPoised}
use Rattle.sg_phys_laws.specs.Reading.{durable_in, waiting_in}
use Rattle.sg_phys_laws.specs.Recovers.{cut_at, Recovers, StandsOwn}
use Rattle.sg_phys_laws.specs.States.{AllAgree, state_of, steps_of, homes_of}
use Rattle.sg_phys_laws.specs.Whole.{IsWholeImageOf}
use Rattle.sg_phys_laws.proofs.Agreeing.{all_agree_none, repeated_both}
use Rattle.sg_phys_laws.proofs.Enough.{all_enough_none, all_enough_whole, enough_kept}
use Rattle.sg_phys_laws.proofs.Fore.{steps_after, gone_low, gone_under, kept_high, none_gone, point_kept, point_up}
use Rattle.sg_phys_laws.proofs.Forming.{formed_none, formed_all}
use Rattle.sg_phys_laws.proofs.Points.{marks_front, marks_back, points_allow, stands_own}
use Rattle.sg_phys_laws.proofs.Reading.{held_are}
use Rattle.sg_phys_laws.proofs.Recovered.{image_is}
use Rattle.sg_phys_laws.proofs.Sets.{tally_set}
use Rattle.sg_phys_laws.proofs.Wrapped.{all_are, append_none, now_again}

-- what more records make of what the first ones made is what all make
pub homes_both : (o : Origin) (gone kept : List Numbered) (h : Homes) → made (entries o kept) (made (entries o gone) h) ≡ made (entries o (gone ++ kept)) h
homes_both o gone kept h = λ i. record { page = λ n. page_made o gone kept n h i; byte = λ b j. byte_made o gone kept b j h i }

-- WHAT IS KEPT of the records of an engine whose log is cut at a point which is allowed, and from which on all is that is still wanted
module _ (t : Table) (from : State) (o : Origin) (v : View) (log : Tail) (pool : Pool) (by : IsBy t o) (q : IsPoised t from o v log pool) (none : waiting_in log ≡ []) (point : ℕ) (allowed : IsAllowed o v log pool point)
    (wanted : IsPoint point (tally (steps_of (durable_in v log)))) (a : Stand) (s : IsSplit log.base point (durable_in v log)) (at : a.base ≡ gate_of s) where
  abbrev ds : List Numbered
  ds = durable_in v log

  abbrev o' : Origin
  o' = cut_origin o a (gone_of s)

  abbrev from' : State
  from' = repeated t from (steps_of (gone_of s))

  base : o.super.base ≡ log.base
  base = sym q.now.engine.engine.place.base

  later : o.super.base ≤ gate_of s
  later = let e = base in let up = gate_later log.base s.front in omega (arith, e, up)

  whole : steps_of (kept_of s) ++ steps_of (gone_of s) ≡ steps_of ds
  whole = sym (steps_after (gone_of s) (kept_of s)) ∙ ap steps_of (sym s.all)

  all : ds ++ waiting_in log ≡ ds
  all = ap (λ (l : List Numbered). ds ++ l) none ∙ append_none ds

  log_all : ∥ IsLog o.super.base (steps_of (kept_of s) ++ steps_of (gone_of s)) ∥₁
  log_all = subst (λ (rs : Steps). ∥ IsLog o.super.base rs ∥₁) (sym whole) (subst (λ (l : List Numbered). ∥ IsLog o.super.base (steps_of l) ∥₁) all (formed_all o.super.base ds (waiting_in log) q.formed))

  low_point : IsPoint (gate_of s) (tally (steps_of (kept_of s) ++ steps_of (gone_of s)))
  low_point =
      let low : gate_of s ≤ point = s.within in
      subst (λ (rs : Steps). IsPoint (gate_of s) (tally rs)) (sym whole) (record {
        live = each_up point (gate_of s) (λ (u : ℕ). u) (tally (steps_of ds)).live low wanted.live;
        opened = each_up point (gate_of s) (λ d. d.lsn) (tally (steps_of ds)).opened low wanted.opened;
      })
    where
      each_up : {A : Type 0} (b a : ℕ) (f : A → ℕ) (xs : List A) → a ≤ b → Each (λ x. b ≤ f x) xs → Each (λ x. a ≤ f x) xs
      each_up b a f [] le h = tt
      each_up b a f (x ∷ xs) le h = (let one = h.0 in omega (arith, le, one), each_up b a f xs le h.1)

  -- IT SAYS what all said,
  pub cut_says : tally (steps_of (kept_of s)) ≡ tally (steps_of ds)
  cut_says = ∥∥₁_elim log_all (tally_set (tally (steps_of (kept_of s))) (tally (steps_of ds))) (λ l.
      kept_says (gate_of s) (steps_of (kept_of s)) (steps_of (gone_of s)) (record { onward = kept_high s; below = gone_low o s }) l.owned l.chained low_point ∙ ap tally whole)

  -- and is a formed log
  cut_formed : ∥ IsLog a.base (steps_of (kept_of s)) ∥₁
  cut_formed = subst (λ (b : ℕ). ∥ IsLog b (steps_of (kept_of s)) ∥₁) (sym at) (⊎_elim
      (λ up. ∥∥₁_elim log_all ∥∥₁_prop (λ l. ∣ log_kept o.super.base (gate_of s) (steps_of (kept_of s)) (steps_of (gone_of s)) later (omega (arith, up)) (record { onward = kept_high s; below = gone_low o s }) low_point l ∣₁))
      (λ same.
      let le = later in
      let is : gate_of s ≡ o.super.base = omega (arith, same, le) in
      let first : s.front ≡ [] = none_gone log.base s.front (is ∙ base) in
      let nothing : steps_of (gone_of s) ≡ [] = ap (λ (f : List (List Record)). steps_of (numbered_in log.base f)) first in
      subst (λ (b : ℕ). ∥ IsLog b (steps_of (kept_of s)) ∥₁) (sym is) (subst (λ (rs : Steps). ∥ IsLog o.super.base rs ∥₁) (ap (λ (g : Steps). steps_of (kept_of s) ++ g) nothing ∙ steps_none (steps_of (kept_of s))) log_all))
      (cases_lt o.super.base (gate_of s)))
    where
      steps_none : (rs : Steps) → rs ++ [] ≡ rs
      steps_none [] = refl
      steps_none (r ∷ rs) = ap (λ (l : Steps). r ∷ l) (steps_none rs)

  marked : AreMarked (λ k. Unit {0}) (gone_of s ++ kept_of s)
  marked = subst (λ (l : List Numbered). AreMarked (λ k. Unit {0}) l) s.all q.points.low

  up : redo_point o.super.base (gone_of s ++ kept_of s) ≤ redo_point a.base (kept_of s)
  up = subst (λ (b : ℕ). redo_point o.super.base (gone_of s ++ kept_of s) ≤ redo_point b (kept_of s)) (sym at)
      (point_up o o.super.base (gate_of s) (gone_of s) (kept_of s) later (gone_under o s) (marks_front (λ k. Unit {0}) (gone_of s) (kept_of s) marked))

  enough_all : IsEnough t o.super.base (gone_of s ++ kept_of s)
  enough_all = subst (IsEnough t o.super.base) (all ∙ s.all) (all_enough_whole t o.super.base ds (waiting_in log) q.enough)

  cut_enough : AllEnough t a.base (kept_of s) (kept_of s)
  cut_enough = all_enough_none t a.base (kept_of s) (enough_kept t o.super.base a.base (gone_of s) (kept_of s) up (cut_says ∙ ap (λ (l : List Numbered). tally (steps_of l)) s.all) enough_all)

  -- WHAT IT MAKES of what the others made is what the steps make
  cut_said : AreSaid t from' o' (kept_of s)
  cut_said =
      let same : homes_of o' (kept_of s) ≡ homes_of o ds =
      ap (λ (l : List Entry). made l (made (entries o (gone_of s)) o.first)) (entries_cut o a (gone_of s) (kept_of s)) ∙ (homes_both o (gone_of s) (kept_of s) o.first ∙ ap (homes_of o) (sym s.all)) in
      ap (λ (h : Homes). cut_at o.super (state_of h)) same ∙ (q.said ∙ (ap (λ (l : List Numbered). repeated t from (steps_of l)) s.all ∙ repeated_both t from (gone_of s) (kept_of s)))

  -- its points are allowed
  cut_points : ArePoints o' (IsAllowed o v log pool) (kept_of s) (kept_of s)
  cut_points =
      let low : gate_of s ≤ point = s.within in
      let there : IsAllowed o v log pool a.base = record { pages = λ n lt. (let e = allowed.pages n lt in omega (arith, e, low, at)); bands = λ c lt. (let e = allowed.bands c lt in omega (arith, e, low, at)) } in
      record {
        more = [];
        is_all = sym (append_none (kept_of s));
        low = marks_back (λ k. Unit {0}) (gone_of s) (kept_of s) marked;
        start = there;
        now = point_kept (IsAllowed o v log pool) o.super.base a.base (gone_of s) (kept_of s) (let le = later in omega (arith, le, at)) there
            (subst (λ (l : List Numbered). IsAllowed o v log pool (redo_point o.super.base l)) s.all q.points.now);
        marked = tt;
      }

  -- AN IMAGE that stands with what is kept holds all of that
  pub cut_image : (c : Image) → ((k : ℕ) → IsAllowed o v log pool k → IsStanding o' (kept_of s) (kept_of s) k c) → IsWholeImageOf (Recovers t o') t from' (steps_of (kept_of s)) (steps_of (kept_of s)) c
  cut_image c stands = image_is t from' o' (kept_of s) (kept_of s) c (record { says = by.says }) (all_agree_none t o' (kept_of s)) cut_said (formed_none a.base (kept_of s) cut_formed) cut_enough
      (stands_own (IsAllowed o v log pool) o' (kept_of s) (kept_of s) c cut_points stands)

  -- AND THE ENGINE that runs on with it is poised
  pub cut_poised : (w : View) (log' : Tail) (pool' : Pool) → IsEngine o' w log' (kept_of s) [] pool' → ((k : ℕ) → IsAllowed o v log pool k → IsAllowed o' w log' pool' k) → IsPoised t from' o' w log' pool'
  cut_poised w log' pool' e still =
      let held = held_are w log' (kept_of s) [] e.engine.held in
      let all' : durable_in w log' ++ waiting_in log' ≡ kept_of s = all_are o' w log' (kept_of s) [] pool' e ∙ append_none (kept_of s) in
      record {
        now = now_again t o' w log' (kept_of s) [] pool' e (subst (AllAgree t o' (kept_of s)) (sym (append_none (kept_of s))) (all_agree_none t o' (kept_of s)));
        points = subst (λ (l : List Numbered). ArePoints o' (IsAllowed o' w log' pool') (durable_in w log') l) (sym all')
            (subst (λ (l : List Numbered). ArePoints o' (IsAllowed o' w log' pool') l (kept_of s)) (sym held.0) (points_allow (IsAllowed o v log pool) (IsAllowed o' w log' pool') o' (kept_of s) (kept_of s) still cut_points));
        said = subst (AreSaid t from' o') (sym held.0) cut_said;
        formed = subst (λ (l : List Numbered). AreFormed a.base (durable_in w log') l) (sym all')
            (subst (λ (l : List Numbered). AreFormed a.base l (kept_of s)) (sym held.0) (formed_none a.base (kept_of s) cut_formed));
        enough = subst (λ (l : List Numbered). AllEnough t a.base (durable_in w log') l) (sym all')
            (subst (λ (l : List Numbered). AllEnough t a.base l (kept_of s)) (sym held.0) cut_enough);
      }
