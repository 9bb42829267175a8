-- How much an opening repeats, and that an image keeps the last checkpoint of its log.
use Rattle.std.proofs.Common.{◌≡◌, ◌+◌, ◌≤◌, ℕ, max, Bool, true, false, List, [], ◌∷◌, ◌++◌, length, Option, Some, None, refl, sym, ap, ◌∙◌, subst, arith, length-append, append_assoc}
use Rattle.std.specs.Prelude.{nat_lt, nat_le, filter}
use Rattle.std.proofs.Props.{props}
use Rattle.std.proofs.lemmas.Bool.Decides.{nat_tests}
use Rattle.std.proofs.lemmas.List.{append_cancel_left}
use mathlib.Core.Logic.{∥∥₁_elim}
use Rattle.sg_disk.specs.Disk.{Image, View, Leaves}
use Rattle.sg_gate.specs.declared.superblock.Super.{Super}
use Rattle.sg_log.specs.Frames.{Numbered, LOG_END}
use Rattle.sg_ops.specs.Table.{Table}
use Rattle.sg_record.specs.Changes.{Change}
use Rattle.sg_redo.specs.Places.{changed_by}
use Rattle.sg_analysis.specs.Analysis.{estimate_or}
use Rattle.sg_analysis.specs.Sights.{Sight, sight_of, Checkpoint, or_checkpoint, checkpoint_behind, last_checkpoint}
use Rattle.sg_analysis.specs.Sights.Sight.{Stepped, Estimated}
use Rattle.sg_engine.specs.Engine.{Origin, IsStanding, log_area}
use Rattle.sg_find.specs.Synced.{reads, redo_point}
use Rattle.sg_open.specs.Found.{Opens}
use Rattle.sg_places.specs.Placed.{place_with, place_in, places_in}
use Rattle.sg_action.specs.States.{State}
use Rattle.sg_actions.specs.Steps.{Steps}
use Rattle.sg_pages.specs.Marks.{ImageEnds}
use Rattle.sg_phys.specs.Phys.{Parts, StandsForSome, Tells, origin_at}
use Rattle.sg_phys.proofs.Causes.{by_poised}
use Rattle.sg_phys.proofs.Lasts.{behind_both, last_mark}
use Rattle.sg_phys_laws.specs.Reading.{frames_read, durable_in, waiting_in}
use Rattle.sg_phys_laws.specs.Recovers.{super_in, super_of, origin_of, records_in, RecoversBy}
use Rattle.sg_phys_laws.proofs.Poised.{none_stood}
use Rattle.sg_phys_laws.proofs.Recovered.{records_held}
use Rattle.sg_attach.specs.Repeats.{log_in, repeated_in, records_from, LastMarked, IsLastOf}
use Rattle.sg_attach.proofs.Attached.{DoesBy, nat_set}
use Rattle.sg_attach.proofs.Opens.{sound_opens}

-- THE STEPS OF AN OPENING: those that the records of the image's log give
pub opening_steps : (t : Table) (v : View) (old new : ℕ) → ((o : Origin) (tail : ℕ) (ds : List Numbered) → DoesBy t o → Opens o tail ds v → new ≡ old + length (places_in o.super.pages o.super.base (redo_point o.super.base ds) ds))
    → (log : Steps) (x : State) → RecoversBy t (reads v) log x → new ≡ old + repeated_in (reads v)
unfolding records_in
opening_steps t v old new steps log x r = ∥∥₁_elim r.holds.sound (nat_set new (old + repeated_in (reads v))) (λ s.
    steps (origin_of t (reads v)) s.tail (records_in (origin_of t (reads v)) (reads v)) (λ lsn y. refl) (sound_opens t v s))

-- a record has one place at most, and none before the point
place_few : (pages base lsn : ℕ) (x : Option Change) → length (place_with pages base lsn x) ≤ 1
place_few pages base lsn None = omega arith
place_few pages base lsn (Some c) = omega arith

-- NO MORE RECORDS have places than there are from that number on
places_few : (pages base k j : ℕ) (ns : List Numbered) → j ≤ k → length (places_in pages base k ns) ≤ length (filter (λ n. nat_le j n.lsn) ns)
places_few pages base k j [] le = omega arith
places_few pages base k j (n ∷ ns) le = by (nat_lt n.lsn k) refl (nat_le j n.lsn) refl (places_few pages base k j ns le)
  where
    by : (early : Bool) → nat_lt n.lsn k ≡ early → (there : Bool) → nat_le j n.lsn ≡ there
        → length (places_in pages base k ns) ≤ length (filter (λ n. nat_le j n.lsn) ns)
        → length (place_in pages base k n ++ places_in pages base k ns) ≤ length (filter (λ n. nat_le j n.lsn) (n ∷ ns))
    by true e true f few = rw (e, f) (omega (arith, few))
    by true e false f few = rw (e, f) few
    by false e true f few = rw (e, f) (
        let one = place_few pages base n.lsn (changed_by n.is.says) in
        let both = length-append (place_with pages base n.lsn (changed_by n.is.says)) (places_in pages base k ns) in
        omega (arith, one, both, few))
    by false e false f few = absurd (let never : ⊥ = grind (arith, nat_tests, e, f, le) in never)

-- AN OPENING REPEATS no more records than the log holds from its last checkpoint's estimate on
pub repeats_most : (c : Image) (lsn estimate : ℕ) → LastMarked c lsn estimate → repeated_in c ≤ records_from estimate c
repeats_most c lsn estimate last =
    let base : ℕ = (super_in c).base in
    let late : estimate ≤ redo_point base (log_in c) = subst (λ (k : Option Checkpoint). estimate ≤ max base (estimate_or base k)) (sym last) (omega arith) in
    places_few (super_in c).pages base (redo_point base (log_in c)) estimate (log_in c) late

-- a checkpoint that is the last record is the last checkpoint
mark_set : IsSet (Option Checkpoint)
mark_set = hlevel props

pub ends_marked : (c : Image) (lsn estimate : ℕ) → ImageEnds c lsn estimate → LastMarked c lsn estimate
ends_marked c lsn estimate ends = ∥∥₁_elim ends (mark_set (last_checkpoint (log_in c)) (Some (lsn, estimate))) (λ e. ap last_checkpoint e.all ∙ last_mark e.before lsn estimate e.live)

-- records without a checkpoint leave the last one,
none_behind : (last : Option Checkpoint) (ns : List Numbered) → checkpoint_behind last ns ≡ None → last ≡ None
none_behind last [] none = none
none_behind last (n ∷ ns) none = by (sight_of n.is) (none_behind (or_checkpoint last n.lsn (sight_of n.is)) ns none)
  where
    by : (x : Sight) → or_checkpoint last n.lsn x ≡ None → last ≡ None
    by (Stepped x) h = h
    by (Estimated e) h = absurd cc

same_behind : (last : Option Checkpoint) (ns : List Numbered) → last_checkpoint ns ≡ None → checkpoint_behind last ns ≡ last
same_behind last [] none = refl
same_behind last (n ∷ ns) none = by (sight_of n.is) none (λ l h. same_behind l ns h)
  where
    by : (x : Sight) → checkpoint_behind (or_checkpoint None n.lsn x) ns ≡ None → ((l : Option Checkpoint) → last_checkpoint ns ≡ None → checkpoint_behind l ns ≡ l)
        → checkpoint_behind (or_checkpoint last n.lsn x) ns ≡ last
    by (Stepped x) h rest = rest last h
    by (Estimated e) h rest = absurd (let never : Some (n.lsn, e) ≡ None = none_behind (Some (n.lsn, e)) ns h in cc)

-- and so does each front of them
none_front : (xs ys : List Numbered) → last_checkpoint (xs ++ ys) ≡ None → last_checkpoint xs ≡ None
none_front xs ys none = none_behind (last_checkpoint xs) ys (sym (behind_both None xs ys) ∙ none)

-- SO AN IMAGE THAT STANDS for these records keeps it
pub standing_marked : (o : Origin) (ds all : List Numbered) (k : ℕ) (c : Image) (lsn estimate : ℕ) → IsStanding o ds all k c → IsLastOf ds all lsn estimate → LastMarked c lsn estimate
unfolding records_in
standing_marked o ds all k c lsn estimate s is =
    let behind : ds ++ (s.since ++ s.more) ≡ ds ++ is.more = sym (append_assoc ds s.since s.more) ∙ (sym (ap (λ (l : List Numbered). l ++ s.more) s.later) ∙ (sym s.front ∙ is.is_all)) in
    let rest : s.since ++ s.more ≡ is.more = append_cancel_left ds (s.since ++ s.more) is.more behind in
    let none : last_checkpoint s.since ≡ None = none_front s.since s.more (ap last_checkpoint rest ∙ is.none_more) in
    let held : records_in o c ≡ ds ++ s.since = records_held o c s.tail s.records s.held ∙ s.later in
    let here : log_in c ≡ records_in o c = ap (λ (u : Super). frames_read LOG_END (c (log_area u)) u.base 0) (ap super_of s.super) in
    ap last_checkpoint (here ∙ held) ∙ (behind_both None ds s.since ∙ (same_behind (last_checkpoint ds) s.since none ∙ is.marked))

-- and so does each image that a crash leaves of pages under actions
pub images_marked : (Given : Type 0) (p : Parts) → StandsForSome Given p.failed p.past p.disk p.log p.pool → Tells Given p.failed → (c : Image) → Leaves p.disk.now c → (lsn estimate : ℕ)
    → IsLastOf (durable_in p.disk p.log) (durable_in p.disk p.log ++ waiting_in p.log) lsn estimate → LastMarked c lsn estimate
images_marked Given p some tell c leaves lsn estimate is = by_poised Given p some (mark_set (last_checkpoint (log_in c)) (Some (lsn, estimate)))
    (λ t from m q. let o = origin_at t p.past in
    standing_marked o (durable_in p.disk p.log) (durable_in p.disk p.log ++ waiting_in p.log) o.super.base c lsn estimate
    ((none_stood o p.disk p.log (durable_in p.disk p.log) (waiting_in p.log) p.pool q.poised.now.engine o.super.base q.poised.points.start).first c leaves) is) tell
