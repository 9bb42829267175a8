-- A cut of the log's front: what it stands on behind it, and its images.
use Rattle.std.proofs.Common.{◌≡◌, ◌⊎◌, inl, inr, ⊎_elim, ◌<◌, ◌≤◌, ◌+◌, ◌-◌, ◌==◌, ℕ, nat_lt, Bool, true, false, cond, List, [], ◌∷◌, ◌++◌, filter, length, take, drop, Option, Some, None, refl, sym, ap, ◌∙◌, subst, arith, length-append}
use Rattle.std.specs.Prelude.{option_map, IfSome}
use Rattle.std.proofs.lemmas.Bool.{cases_lt}
use Rattle.std.proofs.lemmas.List.{append_assoc}
use Rattle.std.proofs.Props.{props}
use mathlib.Core.Logic.{∥∥₁_elim, ∥∥₁_prop}
use Rattle.sg_disk.specs.Disk.{View, Image, LeavesOnly}
use Rattle.sg_disk.proofs.Moments.{weaker}
use Rattle.sg_gate.specs.declared.superblock.Super.{Super}
use Rattle.sg_gate.specs.Batch.{laid}
use Rattle.sg_base.specs.declared.area.Area.TheVariants.{Home}
use Rattle.sg_log.specs.Frames.{Numbered, gate_after, numbered_in, numbered_from, text_of}
use Rattle.sg_log.specs.Held.{Tail, tail_of}
use Rattle.sg_log.specs.Texts.{spelled_all}
use Rattle.sg_log.specs.Cut.{IsSplit, gate_of, gone_of, kept_of}
use Rattle.sg_log.proofs.Holding.{text-length}
use Rattle.sg_log.proofs.Steps.{gate_later}
use Rattle.sg_ops.specs.Table.{Table}
use Rattle.sg_pool.specs.declared.pool.Pool.{Pool}
use Rattle.sg_record.specs.Changes.{Change as Changing}
use Rattle.sg_record.specs.Changes.Change.{Page, SegWrite, SegOp}
use Rattle.sg_record.specs.Records.{Record, Says, spelled}
use Rattle.sg_recovery.specs.Formed.{IsLog}
use Rattle.sg_recovery.specs.Laws.{Each}
use Rattle.sg_recovery.specs.Log.{tally}
use Rattle.sg_recovery.specs.Log.Record.{Begin, Change, TopEnd, PhysComp, TopVoid, CompEnd, Save, Commit, End}
use Rattle.sg_recovery.proofs.Basic.{each_append, filter_append, lt_true, lt_false, other_number, same_number}
use Rattle.sg_kept.specs.Kept.{IsPoint}
use Rattle.sg_action.specs.States.{State}
use Rattle.sg_analysis.specs.Sights.{Checkpoint, Sight, sight_of, or_checkpoint, checkpoint_behind, last_checkpoint}
use Rattle.sg_analysis.specs.Sights.Sight.{Stepped, Estimated}
use Rattle.sg_engine.specs.Effects.{IsBy}
use Rattle.sg_engine.specs.Engine.{Origin, entries, geometry, IsStanding}
use Rattle.sg_engine.specs.History.{AllThere, Entry, Homes, entry_number, made}
use Rattle.sg_engine.specs.Kept.{home_in}
use Rattle.sg_engine.specs.Numbers.{AllUnder}
use Rattle.sg_engine.specs.Running.{IsEngine, IsAllowed}
use Rattle.sg_engine.specs.Cut.{Stand, super_at, next_stand, StandsAs, IsCutting, IsCutOff, cut_at as cut_origin}
use Rattle.sg_actions.specs.Images.{Grows, IsFront, IsImageOf}
use Rattle.sg_actions.specs.Steps.{Step, Steps, repeated}
use Rattle.sg_phys_laws.specs.Known.{IsEnough}
use Rattle.sg_phys_laws.specs.Points.{ArePoints}
use Rattle.sg_phys_laws.specs.Poised.{IsPoised}
use Rattle.sg_phys_laws.specs.Reading.{durable_in, waiting_in}
use Rattle.sg_phys_laws.specs.Recovers.{IsIn, StepIn, AllIn, super_in, origin_of, Recovers, RecoversBy, records_in, said_in}
use Rattle.sg_phys_laws.specs.States.{steps_of}
use Rattle.sg_phys_laws.specs.Whole.{IsWholeImageOf}
use Rattle.sg_phys_laws.proofs.Agreeing.{all_agree_none, repeated_both}
use Rattle.sg_phys_laws.proofs.Cut.{homes_both, cut_says, cut_image, cut_poised}
use Rattle.sg_phys_laws.proofs.Cutting.{all_in}
use Rattle.sg_phys_laws.proofs.Fore.{steps_after, gone_low, gone_under, none_gone, repeated_behind}
use Rattle.sg_phys_laws.proofs.Enough.{all_enough_none, all_enough_whole}
use Rattle.sg_phys_laws.proofs.Forming.{formed_none}
use Rattle.sg_phys_laws.proofs.Points.{stands_own}
use Rattle.sg_phys_laws.proofs.Recovered.{image_is}
use Rattle.sg_phys_laws.proofs.Poised.{all_formed, all_in_log, behind_rest, rested_same}
use Rattle.sg_phys_laws.proofs.Reading.{held_are}
use Rattle.sg_phys_laws.proofs.Sets.{code_set, steps_set, state_set, tally_set}
use Rattle.sg_phys_laws.proofs.Wrapped.{all_are, append_none}
use Rattle.sg_phys.specs.Phys.{Past, BeginsLater, IsBehind, gone_by, last_in, origin_at, records_before, run_end, first_end, seen_of}
use Rattle.sg_phys.proofs.Behind.{says_more}
use Rattle.sg_phys.proofs.Images.{by_past, entries_same, image_by}
use Rattle.sg_phys.proofs.Lasts.{behind_both}

-- RECORDS BELOW A NUMBER are those that are gone
before_all : (base : ℕ) (o : Origin) (ns : List Numbered) → AllUnder entry_number base (entries o ns) → records_before base ns ≡ ns
before_all base o [] low = refl
before_all base o (n ∷ ns) low = ap (λ (b : Bool). cond b (n ∷ records_before base ns) (records_before base ns)) (lt_true n.lsn base low.0) ∙ ap (λ (l : List Numbered). n ∷ l) (before_all base o ns low.1)

before_from : (base at : ℕ) (rs : List Record) → base ≤ at → records_before base (numbered_from at rs) ≡ []
before_from base at [] le = refl
before_from base at (r ∷ rs) le = ap (λ (b : Bool). cond b (record { lsn = at; is = r } ∷ records_before base (numbered_from (at + length (spelled r)) rs)) (records_before base (numbered_from (at + length (spelled r)) rs))) (lt_false at base le) ∙ before_from base (at + length (spelled r)) rs (omega (arith, le))

before_none : (base gate : ℕ) (frames : List (List Record)) → base ≤ gate → records_before base (numbered_in gate frames) ≡ []
before_none base gate [] le = refl
before_none base gate (rs ∷ frames) le =
    filter_append (λ n. nat_lt n.lsn base) (numbered_from (gate + 5) rs) (numbered_in (gate + 1 + length (text_of (spelled_all rs))) frames)
    ∙ (ap (λ (l : List Numbered). l ++ records_before base (numbered_in (gate + 1 + length (text_of (spelled_all rs))) frames)) (before_from base (gate + 5) rs (omega (arith, le))) ∙ before_none base (gate + 1 + length (text_of (spelled_all rs))) frames (omega (arith, le)))

pub before_gone : (o : Origin) {base point : ℕ} {ds : List Numbered} (s : IsSplit base point ds) → records_before (gate_of s) ds ≡ gone_of s
before_gone o s =
    ap (records_before (gate_of s)) s.all
    ∙ (filter_append (λ n. nat_lt n.lsn (gate_of s)) (gone_of s) (kept_of s)
    ∙ (ap (λ (l : List Numbered). l ++ records_before (gate_of s) (kept_of s)) (before_all (gate_of s) o (gone_of s) (gone_under o s))
    ∙ (ap (λ (l : List Numbered). gone_of s ++ l) (before_none (gate_of s) (gate_of s) (s.holding ∷ s.back) (omega arith)) ∙ append_none (gone_of s))))

-- THE FIRST FRAME ends where the one that holds the point ends
run_more : (at far : ℕ) (frames : List (List Record)) → at < far + 5 → run_end at (numbered_in far frames) ≡ at
run_more at far [] lt = refl
run_more at far ([] ∷ frames) lt = run_more at (far + 1 + length (text_of (spelled_all []))) frames (omega (arith, lt))
run_more at far ((r ∷ rs) ∷ frames) lt = ap (λ (b : Bool). cond b (run_end (at + length (spelled r)) (numbered_from (far + 5 + length (spelled r)) rs ++ numbered_in (far + 1 + length (text_of (spelled_all (r ∷ rs)))) frames)) at) (other_number (far + 5) at (λ e. absurd (omega (arith, e, lt))))

run_frame : (at far : ℕ) (rs : List Record) (frames : List (List Record)) → far ≡ at + length (spelled_all rs) → run_end at (numbered_from at rs ++ numbered_in far frames) ≡ far
run_frame at far [] frames e = run_more at far frames (omega (arith, e)) ∙ omega (arith, e)
run_frame at far (r ∷ rs) frames e =
    let long : length (spelled_all (r ∷ rs)) ≡ length (spelled r) + length (spelled_all rs) = length-append (spelled r) (spelled_all rs) in
    ap (λ (b : Bool). cond b (run_end (at + length (spelled r)) (numbered_from (at + length (spelled r)) rs ++ numbered_in far frames)) at) (same_number at)
    ∙ run_frame (at + length (spelled r)) far rs frames (omega (arith, e, long))

pub first_holding : {base point : ℕ} {ds : List Numbered} (s : IsSplit base point ds) → point < first_end (gate_of s) (kept_of s)
first_holding {base} s =
    let size : length (text_of (spelled_all s.holding)) ≡ 4 + length (spelled_all s.holding) = text-length (spelled_all s.holding) ∙ omega arith in
    let ends : first_end (gate_of s) (kept_of s) ≡ gate_of s + 1 + length (text_of (spelled_all s.holding)) =
    run_frame (gate_of s + 5) (gate_of s + 1 + length (text_of (spelled_all s.holding))) s.holding s.back (omega (arith, size)) in
    let behind = s.behind in
    omega (arith, behind, ends)

-- THE LAST CHECKPOINT of a log's records has a number below where they end,
checkpoint_under : (o : Origin) (d : ℕ) (last : Option Checkpoint) (ns : List Numbered) → IfSome last (λ k. k.0 < d) → AllUnder entry_number d (entries o ns) → IfSome (checkpoint_behind last ns) (λ k. k.0 < d)
checkpoint_under o d last [] was under = was
checkpoint_under o d last (n ∷ ns) was under = checkpoint_under o d (or_checkpoint last n.lsn (sight_of n.is)) ns (by (sight_of n.is)) under.1
  where
    by : (x : Sight) → IfSome (or_checkpoint last n.lsn x) (λ k. k.0 < d)
    by (Stepped x) = was
    by (Estimated e) = under.0

pub last_under : (o : Origin) (d : ℕ) (ns : List Numbered) → AllUnder entry_number d (entries o ns) → IfSome (last_checkpoint ns) (λ k. k.0 < d)
last_under o d ns under = checkpoint_under o d None ns tt under

-- and whether it is among the later ones or not, it is the last
either_last : (last : Option Checkpoint) (ns : List Numbered) → (checkpoint_behind last ns ≡ checkpoint_behind None ns) ⊎ (checkpoint_behind last ns ≡ last)
either_last last [] = inr refl
either_last last (n ∷ ns) = by (sight_of n.is) (either_last last ns)
  where
    by : (x : Sight) → (checkpoint_behind last ns ≡ checkpoint_behind None ns) ⊎ (checkpoint_behind last ns ≡ last)
        → (checkpoint_behind (or_checkpoint last n.lsn x) ns ≡ checkpoint_behind (or_checkpoint None n.lsn x) ns) ⊎ (checkpoint_behind (or_checkpoint last n.lsn x) ns ≡ last)
    by (Stepped x) h = h
    by (Estimated e) h = inl refl

none_last : {P : Type 0} (k : Option Checkpoint) (c d : ℕ) → Some c ≡ option_map (λ x. x.0) k → IfSome k (λ x. x.0 < d) → d ≤ c → P
none_last None c d e low le = absurd cc
none_last (Some x) c d e low le = absurd (let is : c ≡ x.0 = cc in omega (arith, is, low, le))

pub last_kept : (o : Origin) {base point : ℕ} {ds : List Numbered} (s : IsSplit base point ds) (c : ℕ) → point ≤ c → Some c ≡ option_map (λ x. x.0) (last_checkpoint ds) → Some c ≡ option_map (λ x. x.0) (last_checkpoint (kept_of s))
last_kept o s c le is =
    let low : gate_of s ≤ c = (let w = s.within in omega (arith, w, le)) in
    let both : last_checkpoint (gone_of s ++ kept_of s) ≡ checkpoint_behind (last_checkpoint (gone_of s)) (kept_of s) = behind_both None (gone_of s) (kept_of s) in
    let split : Some c ≡ option_map (λ x. x.0) (checkpoint_behind (last_checkpoint (gone_of s)) (kept_of s)) = is ∙ ap (λ (l : List Numbered). option_map (λ x. x.0) (last_checkpoint l)) s.all ∙ ap (option_map (λ x. x.0)) both in
    ⊎_elim (λ same. split ∙ ap (option_map (λ x. x.0)) same)
    (λ own. none_last (last_checkpoint (gone_of s)) c (gate_of s) (split ∙ ap (option_map (λ x. x.0)) own) (last_under o (gate_of s) (gone_of s) (gone_under o s)) low)
    (either_last (last_checkpoint (gone_of s)) (kept_of s))

-- STEPS of a store whose superblock has the same sizes
in_same : (s u : Super) → u.pages ≡ s.pages → u.bands ≡ s.bands → (c : Changing) → IsIn s c → IsIn u c
in_same s u pages bands (Page c) lt = omega (arith, lt, pages)
in_same s u pages bands (SegWrite c) lt = omega (arith, lt, bands)
in_same s u pages bands (SegOp c) lt = omega (arith, lt, bands)

step_same : (s u : Super) → u.pages ≡ s.pages → u.bands ≡ s.bands → (x : Step) → StepIn s x → StepIn u x
step_same s u pages bands (Begin t p) h = tt
step_same s u pages bands (Change t p c) h = in_same s u pages bands c h
step_same s u pages bands (TopEnd t p w n) h = tt
step_same s u pages bands (PhysComp t p w c) h = in_same s u pages bands c h
step_same s u pages bands (TopVoid t p w) h = tt
step_same s u pages bands (CompEnd t p w) h = tt
step_same s u pages bands (Save t p m) h = tt
step_same s u pages bands (Commit t p) h = tt
step_same s u pages bands (End t p) h = tt

all_same : (s u : Super) → u.pages ≡ s.pages → u.bands ≡ s.bands → (rs : Steps) → AllIn s rs → AllIn u rs
all_same s u pages bands [] h = tt
all_same s u pages bands (r ∷ rs) h = (step_same s u pages bands r.is h.0, all_same s u pages bands rs h.1)

in_back : (s : Super) (xs ys : Steps) → AllIn s (xs ++ ys) → AllIn s ys
in_back s [] ys h = h
in_back s (x ∷ xs) ys h = in_back s xs ys h.1

in_both : (s : Super) (xs ys : Steps) → AllIn s xs → AllIn s ys → AllIn s (xs ++ ys)
in_both s [] ys h k = k
in_both s (x ∷ xs) ys h k = (h.0, in_both s xs ys h.1 k)

each_less : (a b : ℕ) (rs : Steps) → a ≤ b → Each (λ r. r.lsn < a) rs → Each (λ r. r.lsn < b) rs
each_less a b [] le h = tt
each_less a b (r ∷ rs) le h = (let lt = h.0 in omega (arith, le, lt), each_less a b rs le h.1)

-- AN IMAGE OF A CUT holds what is left of the whole log, which says what all of it says, and comes to what all of it makes
pub record IsCutImage (t : Table) (from : State) (log : Steps) (c : Image) : Type 0 where
  pub left : Steps
  pub before : Steps
  pub all : log ≡ left ++ before
  pub says : tally left ≡ tally log
  pub holds : Recovers t (origin_of t c) c left (repeated t from log)

drop_front : (xs ys : Steps) → drop (length xs) (xs ++ ys) ≡ ys
drop_front [] ys = refl
drop_front (x ∷ xs) ys = drop_front xs ys

same_left : (log xs ys left : Steps) → xs ≡ left → log ≡ xs ++ ys → log ≡ left ++ drop (length left) log
same_left log xs ys left is all =
    let there : log ≡ left ++ ys = all ∙ ap (λ (l : Steps). l ++ ys) is in
    there ∙ ap (λ (l : Steps). left ++ l) (sym (ap (drop (length left)) there ∙ drop_front left ys))

-- that is a fact where it is truncated
pub cut_image_fix : (t : Table) (from : State) (log : Steps) (c : Image) → ∥ IsCutImage t from log c ∥₁ → IsCutImage t from log c
cut_image_fix t from log c h =
    let o : Origin = origin_of t c in
    let f : Steps = steps_of (records_in o c) in
    record {
      left = f;
      before = drop (length f) log;
      all = ∥∥₁_elim h (steps_set log (f ++ drop (length f) log)) (λ m. same_left log m.left m.before f m.holds.records m.all);
      says = ∥∥₁_elim h (tally_set (tally f) (tally log)) (λ m. ap tally (sym m.holds.records) ∙ m.says);
      holds = record {
        records = refl;
        state = ∥∥₁_elim h (state_set (repeated t from log) (said_in o c)) (λ m. m.holds.state);
        sound = ∥∥₁_elim h ∥∥₁_prop (λ m. m.holds.sound);
        formed = ∥∥₁_elim h ∥∥₁_prop (λ m. subst (λ (l : Steps). ∥ IsLog o.super.base l ∥₁) m.holds.records m.holds.formed);
        registered = ∥∥₁_elim h (code_set _ _) (λ m. m.holds.registered);
      };
    }

no_steps : (a b : Steps) → length b ≡ length a + length b → a ≡ []
no_steps [] b e = refl
no_steps (x ∷ a) b e = absurd (omega (arith, e))

-- a front of a log that has all of it is it
front_all : (log front : Steps) → IsFront log log front → front ≡ log
front_all log front f =
    let long : length front ≡ length f.whole.since + length log = ap length f.whole.all ∙ length-append f.whole.since log in
    let short : length log ≡ length f.within.since + length front = ap length f.within.all ∙ length-append f.within.since front in
    f.whole.all ∙ ap (λ (l : Steps). l ++ log) (no_steps f.whole.since log (omega (arith, long, short)))

pub whole_cut : (t : Table) (from : State) (log left before : Steps) (c : Image) → left ++ before ≡ log → tally left ≡ tally log → IsWholeImageOf (RecoversBy t) t (repeated t from before) left left c → IsCutImage t from log c
whole_cut t from log left before c all says m =
    let is : m.front ≡ left = front_all left m.front m.is_front in
    record {
      left = left;
      before = before;
      all = sym all;
      says = says;
      holds = subst (λ (x : State). Recovers t (origin_of t c) c left x) (repeated_behind t from left before ∙ ap (repeated t from) all)
          (subst (λ (l : Steps). Recovers t (origin_of t c) c l (repeated t (repeated t from before) l)) is m.recovers.holds);
    }

-- and it is one of the whole log, all of which is durable
pub cut_image_of : (t : Table) (from : State) (log : Steps) (c : Image) → IsCutImage t from log c → IsImageOf (RecoversBy t) t from log log c
cut_image_of t from log c m = record {
  front = log;
  is_front = record { within = record { since = []; all = refl }; whole = record { since = []; all = refl } };
  left = m.left;
  says = m.says;
  recovers = record { holds = m.holds; leads = (repeated t from m.before, ap (repeated t from) m.all ∙ sym (repeated_behind t from m.left m.before)) };
}

-- WHAT IS BEHIND A CUT
abbrev pub cut_past : Past → Super → List Numbered → Past
cut_past q super gone = record q { super = super; gone = q.gone ++ gone }

module _ (t : Table) (from : State) (q : Past) (v : View) (log : Tail) (pool : Pool) (b : IsBehind t from q v log pool) (none : waiting_in log ≡ []) (point : ℕ) (allowed : IsAllowed (origin_at t q) v log pool point)
    (wanted : IsPoint point (tally (steps_of (durable_in v log) ++ steps_of q.gone))) (c : ℕ) (marked : q.checkpoint ≡ Some c) (low : point ≤ c) where
  abbrev o : Origin
  o = origin_at t q

  abbrev ds : List Numbered
  ds = durable_in v log

  abbrev gone : Steps
  gone = steps_of q.gone

  abbrev from' : State
  from' = repeated t from gone

  wanted_here : IsPoint point (tally (steps_of ds))
  wanted_here = subst (λ k. IsPoint point k) (sym b.says) wanted

  last_here : Some c ≡ option_map (λ k. k.0) (last_checkpoint ds)
  last_here = sym marked ∙ (b.last ∙ ap (λ (l : List Numbered). option_map (λ k. k.0) (last_checkpoint (ds ++ l))) none ∙ ap (λ (l : List Numbered). option_map (λ k. k.0) (last_checkpoint l)) (append_none ds))

  whole_there : ds ++ waiting_in log ≡ ds
  whole_there = ap (λ (l : List Numbered). ds ++ l) none ∙ append_none ds

  there : AllThere (geometry o.super) (entries o ds)
  there = subst (λ (l : List Numbered). AllThere (geometry o.super) (entries o l)) whole_there b.poised.now.engine.engine.history.there

  module _ (s : IsSplit log.base point ds) where
    abbrev a : Stand
    a = next_stand o.super (gate_of s)

    abbrev q' : Past
    q' = cut_past q (super_at o.super a) (gone_of s)

    kept_all : steps_of ds ≡ steps_of (kept_of s) ++ steps_of (gone_of s)
    kept_all = ap steps_of s.all ∙ steps_after (gone_of s) (kept_of s)

    gone_all : steps_of (q.gone ++ gone_of s) ≡ steps_of (gone_of s) ++ gone
    gone_all = steps_after q.gone (gone_of s)

    -- the log with what is gone is as it was
    pub same_steps : steps_of (kept_of s) ++ steps_of (q.gone ++ gone_of s) ≡ steps_of ds ++ gone
    same_steps =
        ap (λ (l : Steps). steps_of (kept_of s) ++ l) gone_all
        ∙ (sym (append_assoc (steps_of (kept_of s)) (steps_of (gone_of s)) gone)
        ∙ ap (λ (l : Steps). l ++ gone) (sym kept_all))

    origin_same : cut_origin o a (gone_of s) ≡ origin_at t q'
    origin_same =
        let home : Homes = home_in (geometry q.super) (laid (seen_of q.found Home)) in
        let f : Origin = origin_of t (seen_of q.found) in
        let firsts : made (entries o (gone_of s)) (made (entries f q.gone) home) ≡ made (entries f (q.gone ++ gone_of s)) home =
        ap (λ (l : List Entry). made l (made (entries f q.gone) home)) (entries_same o f (λ lsn r. refl) (gone_of s)) ∙ homes_both f q.gone (gone_of s) home in
        λ i. record { effect = o.effect; super = super_at o.super a; first = firsts i }

    from_same : repeated t from' (steps_of (gone_of s)) ≡ repeated t from (steps_of (q.gone ++ gone_of s))
    from_same = sym (repeated_both t from q.gone (gone_of s))

    base_here : o.super.base ≤ gate_of s
    base_here = let e = b.poised.now.engine.engine.place.base in let up = gate_later log.base s.front in omega (arith, e, up)

    later_then : BeginsLater q'
    later_then = ⊎_elim
        (λ up. inr (⊎_elim (λ same. (let e = same.0 in omega (arith, e, up))) (λ lt. omega (arith, lt, up)) b.later))
        (λ not. ⊎_elim
        (λ same. inl (
          let e = same.0 in let le = base_here in omega (arith, e, not, le),
          ap (λ (l : List Numbered). l ++ gone_of s) same.1 ∙ ap (λ (f : List (List Record)). numbered_in log.base f)
              (none_gone log.base s.front (let le = base_here in let e = b.poised.now.engine.engine.place.base in omega (arith, not, le, e))),
        ))
        (λ lt. inr (let le = base_here in omega (arith, lt, le)))
        b.later)
        (cases_lt o.super.base (gate_of s))

    -- IT STANDS ON WHAT IS GONE THEN
    pub cut_behind : (w : View) (log' : Tail) (pool' : Pool) → IsEngine (cut_origin o a (gone_of s)) w log' (kept_of s) [] pool' → ((k : ℕ) → IsAllowed o v log pool k → IsAllowed (cut_origin o a (gone_of s)) w log' pool' k) → IsBehind t from q' w log' pool'
    cut_behind w log' pool' e still =
        let held = held_are w log' (kept_of s) [] e.engine.held in
        let all' : durable_in w log' ++ waiting_in log' ≡ kept_of s = all_are (cut_origin o a (gone_of s)) w log' (kept_of s) [] pool' e ∙ append_none (kept_of s) in
        let says = cut_says t from' o v log pool (by_past t q) b.poised none point allowed wanted_here a s refl in
        let p = cut_poised t from' o v log pool (by_past t q) b.poised none point allowed wanted_here a s refl w log' pool' e still in
        record {
          poised = subst (λ (x : Origin). IsPoised t (repeated t from (steps_of (q.gone ++ gone_of s))) x w log' pool') origin_same
              (subst (λ (x : State). IsPoised t x (cut_origin o a (gone_of s)) w log' pool') from_same p);
          says = subst (λ (l : List Numbered). tally (steps_of l) ≡ tally (steps_of l ++ steps_of (q.gone ++ gone_of s))) (sym held.0)
              (says ∙ (b.says ∙ ap tally (sym same_steps)));
          below = subst (λ (rs : Steps). Each (λ r. r.lsn < gate_of s) rs) (sym gone_all)
              (each_append (λ r. r.lsn < gate_of s) (steps_of (gone_of s)) gone (gone_low o s) (each_less o.super.base (gate_of s) gone base_here b.below));
          within = subst (AllIn (super_at o.super a)) (sym gone_all)
              (all_same o.super (super_at o.super a) refl refl (steps_of (gone_of s) ++ gone)
              (in_both o.super (steps_of (gone_of s)) gone
              (in_back o.super (steps_of (kept_of s)) (steps_of (gone_of s)) (subst (AllIn o.super) kept_all (all_in o t ds (by_past t q) there)))
              b.within));
          later = later_then;
          last = marked ∙ (last_kept o s c low last_here ∙ ap (λ (l : List Numbered). option_map (λ k. k.0) (last_checkpoint l)) (sym all'));
        }

  -- WHAT IS THERE BEHIND A CUT, whether records are gone or not
  pub record HasCut (w : View) (log' : Tail) (next : Super) : Type 0 where
    pub split : IsSplit log.base point ds
    pub base : next.base ≡ gate_of split
    pub kept : durable_in w log' ≡ kept_of split
    pub waits : waiting_in log' ≡ []
    pub gone_is : records_before next.base ds ≡ gone_of split

  base_same : o.super.base ≡ log.base
  base_same = sym b.poised.now.engine.engine.place.base

  nothing_gone : (s : IsSplit log.base point ds) → gate_of s ≡ log.base → gone_of s ≡ []
  nothing_gone s at = ap (λ (f : List (List Record)). numbered_in log.base f) (none_gone log.base s.front at)

  pub has_cut : (w : View) (log' : Tail) (pool' : Pool) (next : Super) → IsCutOff o w log' pool' log.base point ds next → HasCut w log' next
  has_cut w log' pool' next (s, inl (at, is, e)) =
      let held = held_are w log' ds [] e.engine.held in
      let base : next.base ≡ gate_of s = ap (λ (u : Super). u.base) is ∙ (base_same ∙ sym at) in
      record {
        split = s;
        base = base;
        kept = held.0 ∙ (s.all ∙ ap (λ (l : List Numbered). l ++ kept_of s) (nothing_gone s at));
        waits = held.1;
        gone_is = ap (λ (n : ℕ). records_before n ds) base ∙ before_gone o s;
      }
  has_cut w log' pool' next (s, inr (is, e)) =
      let held = held_are w log' (kept_of s) [] e.engine.held in
      let base : next.base ≡ gate_of s = ap (λ (u : Super). u.base) is in
      record { split = s; base = base; kept = held.0; waits = held.1; gone_is = ap (λ (n : ℕ). records_before n ds) base ∙ before_gone o s }

  -- the log with what is gone is as it was, all of it durable
  pub steps_cut : (w : View) (log' : Tail) (next : Super) → HasCut w log' next → steps_of (durable_in w log') ++ steps_of (q.gone ++ records_before next.base ds) ≡ steps_of ds ++ gone
  steps_cut w log' next h =
      ap (λ (l : List Numbered). steps_of l ++ steps_of (q.gone ++ records_before next.base ds)) h.kept
      ∙ (ap (λ (l : List Numbered). steps_of (kept_of h.split) ++ steps_of (q.gone ++ l)) h.gone_is ∙ same_steps h.split)

  pub all_cut : (w : View) (log' : Tail) (next : Super) → HasCut w log' next → all_in_log w log' ≡ durable_in w log'
  all_cut w log' next h = ap (λ (l : List Numbered). durable_in w log' ++ l) h.waits ∙ append_none (durable_in w log')

  -- it begins with the frame that holds the point
  pub begins_cut : (w : View) (log' : Tail) (next : Super) → HasCut w log' next → (next.base ≤ point) × (point < first_end next.base (durable_in w log'))
  begins_cut w log' next h =
      let s = h.split in
      let at = h.base in
      let within = s.within in
      let end : first_end next.base (durable_in w log') ≡ first_end (gate_of s) (kept_of s) = ap (λ (n : ℕ). first_end n (durable_in w log')) at ∙ ap (first_end (gate_of s)) h.kept in
      let holds = first_holding s in
      (omega (arith, at, within), omega (arith, end, holds))

  -- AND IT STANDS ON WHAT IS GONE
  rests_cut : (w : View) (log' : Tail) (pool' : Pool) → IsEngine o w log' ds [] pool' → ((k : ℕ) → IsAllowed o v log pool k → IsAllowed o w log' pool' k) → IsBehind t from q w log' pool'
  rests_cut w log' pool' e still =
      let e' : IsEngine o w log' ds (waiting_in log) pool' = subst (λ (l : List Numbered). IsEngine o w log' ds l pool') (sym none) e in
      let h = behind_rest t from' o v w log log' pool pool' (by_past t q) b.poised (rested_same o v w log log' pool pool' ds (waiting_in log) e' still) in
      record {
        poised = h.poised;
        says = says_more gone (steps_of ds) (steps_of (durable_in w log')) h.durable b.says;
        below = b.below;
        within = b.within;
        later = b.later;
        last = b.last ∙ ap (λ (l : List Numbered). option_map (λ k. k.0) (last_checkpoint l)) (sym h.whole);
      }

  past_same : (next : Super) (s : IsSplit log.base point ds) → gate_of s ≡ log.base → next ≡ o.super → q ≡ cut_past q next (records_before next.base ds)
  past_same next s at is =
      let base : next.base ≡ gate_of s = ap (λ (u : Super). u.base) is ∙ (base_same ∙ sym at) in
      let none' : records_before next.base ds ≡ [] = ap (λ (n : ℕ). records_before n ds) base ∙ (before_gone o s ∙ nothing_gone s at) in
      let all' : q.gone ≡ q.gone ++ records_before next.base ds = sym (ap (λ (l : List Numbered). q.gone ++ l) none' ∙ append_none q.gone) in
      λ i. record q { super = sym is i; gone = all' i }

  past_cut : (next : Super) (s : IsSplit log.base point ds) → next ≡ super_at o.super (next_stand o.super (gate_of s)) → cut_past q (super_at o.super (next_stand o.super (gate_of s))) (gone_of s) ≡ cut_past q next (records_before next.base ds)
  past_cut next s is =
      let base : next.base ≡ gate_of s = ap (λ (u : Super). u.base) is in
      let gone' : gone_of s ≡ records_before next.base ds = sym (ap (λ (n : ℕ). records_before n ds) base ∙ before_gone o s) in
      λ i. cut_past q (sym is i) (gone' i)

  pub behind_cut : (w : View) (log' : Tail) (pool' : Pool) (next : Super) → IsCutOff o w log' pool' log.base point ds next → ((k : ℕ) → IsAllowed o v log pool k → IsAllowed o w log' pool' k)
      → IsBehind t from (cut_past q next (records_before next.base ds)) w log' pool'
  behind_cut w log' pool' next (s, inl (at, is, e)) still = subst (λ (x : Past). IsBehind t from x w log' pool') (past_same next s at is) (rests_cut w log' pool' e still)
  behind_cut w log' pool' next (s, inr (is, e)) still = subst (λ (x : Past). IsBehind t from x w log' pool') (past_cut next s is) (cut_behind s w log' pool' e still)

  -- AN IMAGE OF THE CALL
  pub cutting_image : (x : Image) → IsCutting o v log pool point ds x → IsCutImage t from (steps_of ds ++ gone) x
  cutting_image x (inl stands) =
      let own = stands_own (IsAllowed o v log pool) o ds ds x (subst (λ (n : List Numbered). ArePoints o (IsAllowed o v log pool) ds n) whole_there b.poised.points) stands in
      let formed = formed_none o.super.base ds (subst (λ (n : List Numbered). ∥ IsLog o.super.base (steps_of n) ∥₁) whole_there (all_formed b.poised)) in
      let enough = all_enough_none t o.super.base ds (subst (IsEnough t o.super.base) whole_there (all_enough_whole t o.super.base ds (waiting_in log) b.poised.enough)) in
      let whole = image_by t o from' (steps_of ds) (steps_of ds) x (by_past t q) (image_is t from' o ds ds x (by_past t q) (all_agree_none t o ds) b.poised.said formed enough own) in
      whole_cut t from (steps_of ds ++ gone) (steps_of ds) gone x refl b.says whole
  cutting_image x (inr (s, a, at, stands)) =
      let says = cut_says t from' o v log pool (by_past t q) b.poised none point allowed wanted_here a s at in
      let m = cut_image t from' o v log pool (by_past t q) b.poised none point allowed wanted_here a s at x stands in
      let o'' : Origin = cut_origin o a (gone_of s) in
      let from'' : State = repeated t from' (steps_of (gone_of s)) in
      let whole = image_by t o'' from'' (steps_of (kept_of s)) (steps_of (kept_of s)) x (record { says = (by_past t q).says }) m in
      let before : Steps = steps_of (gone_of s) ++ gone in
      let all : steps_of (kept_of s) ++ before ≡ steps_of ds ++ gone = sym (append_assoc (steps_of (kept_of s)) (steps_of (gone_of s)) gone) ∙ ap (λ (l : Steps). l ++ gone) (sym (ap steps_of s.all ∙ steps_after (gone_of s) (kept_of s))) in
      whole_cut t from (steps_of ds ++ gone) (steps_of (kept_of s)) before x all (says ∙ b.says)
      (subst (λ (y : State). IsWholeImageOf (RecoversBy t) t y (steps_of (kept_of s)) (steps_of (kept_of s)) x) (repeated_behind t from (steps_of (gone_of s)) gone) whole)

-- ONE CUT MORE takes the records from the log that it found
pub gone_more : {E C : Type 0} (cs : List (E × C)) (e : E) (x : C) (disk : E → View) (log : C → Tail) (start : C → ℕ) → gone_by (cs ++ (e, x) ∷ []) disk log start ≡ gone_by cs disk log start ++ records_before (start x) (durable_in (disk e) (log x))
gone_more [] e x disk log start = append_none (records_before (start x) (durable_in (disk e) (log x)))
gone_more (c ∷ cs) e x disk log start =
    ap (λ (l : List Numbered). records_before (start c.1) (durable_in (disk c.0) (log c.1)) ++ l) (gone_more cs e x disk log start)
    ∙ sym (append_assoc (records_before (start c.1) (durable_in (disk c.0) (log c.1))) (gone_by cs disk log start) (records_before (start x) (durable_in (disk e) (log x))))
