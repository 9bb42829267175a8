-- A stretch of the log is repeated.
use Rattle.std.proofs.Common.{◌≡◌, ◌⊎◌, inl, inr, ⊎_elim, ◌<◌, ◌≤◌, ◌+◌, ℕ, suc, Bool, true, false, nat_lt, IsTrue, Option, Some, None, List, [], ◌∷◌, ◌++◌, length, refl, sym, ◌∙◌, ap, subst, arith, add-zero, append-nil, length-append, cond}
use Rattle.std.specs.List.{All}
use Rattle.sg_base.specs.Ends.{HasRisen}
use Rattle.sg_base.specs.declared.area.Area.TheVariants.{Home}
use Rattle.sg_disk.specs.Disk.{Image, State, View, LeavesOnly}
use Rattle.sg_disk.proofs.Moments.{started, joined}
use Rattle.sg_gate.specs.Superblock.{superblock}
use Rattle.sg_gate.proofs.Slots.{superblock_agree}
use Rattle.sg_ops.specs.Table.{Table}
use Rattle.sg_record.specs.Records.{Record, spelled}
use Rattle.sg_log.specs.Texts.{spelled_all}
use Rattle.sg_log.specs.Frames.{Numbered, Frames, text_of, gate_after, numbered_from, numbered_in}
use Rattle.sg_log.specs.Held.{Tail, Holds, tail_of, forced}
use Rattle.sg_log.proofs.Holding.{gate_moved}
use Rattle.sg_log.proofs.Standing.{Frames-behind, gate_behind}
use Rattle.sg_log.proofs.Steps.{gate_later}
use Rattle.sg_record.specs.Changes.{Change}
use Rattle.sg_redo.specs.declared.place.Place.{Place}
use Rattle.sg_redo.specs.Places.{changed_by, window_records}
use Rattle.sg_redo.specs.Units.{AreKnown}
use Rattle.sg_redo.specs.History.{OnPage, repeated, redone}
use Rattle.sg_pool.specs.declared.pool.Pool.{Pool}
use Rattle.sg_pool.specs.declared.fault.PoolFault.{PoolFault}
use Rattle.sg_pool.specs.declared.fault.PoolFault.TheVariants as pools
use Rattle.sg_pool.specs.Units.{Geometry, IsBacked}
use Rattle.sg_pool.specs.Pooled.{sizes, contents, Backs, IsLogged}
use Rattle.sg_pool.specs.Shelves.{lasts}
use Rattle.sg_pool.specs.Moments.{IsSameOrForced}
use Rattle.sg_pool.specs.Repeated.{last_lsn}
use Rattle.sg_pool.specs.Redone.{PartRecords, AreInOrder, places_of, records_of, IsRedone, AreHomesKnown, AreHomesExact, IsRedoMoment}
use Rattle.sg_pool.specs.Redoing.{IsDurable, AreLastsRedone, RedoFails}
use Rattle.sg_pool.specs.Well.{IsWell}
use Rattle.sg_pool.proofs.RedoMoments.{forced_same}
use Rattle.sg_engine.specs.Numbers.{AllUnder, AllFrom}
use Rattle.sg_engine.specs.History.{Entry, entry_number, AllWell, of_page}
use Rattle.sg_engine.specs.Engine.{Origin, entries, geometry, IsStanding}
use Rattle.sg_engine.proofs.Logs.{home_apart, entries_append}
use Rattle.sg_engine.proofs.Units.{under_split}
use Rattle.sg_places.specs.Text.{AreFrames}
use Rattle.sg_places.specs.Asked.{first_outside, first_unknown}
use Rattle.sg_places.specs.Placed.{place_with, place_in, places_in}
use Rattle.sg_places.proofs.Rest.{first_unknown-append, places_in-append}
use Rattle.sg_find.specs.Stretch.{IsRead}
use Rattle.sg_find.proofs.Reading.{numbered_behind, frames_all}
use Rattle.sg_opening.specs.Opening.{AreThere, AreFrom, last_number}
use Rattle.sg_opening.specs.Parts.{IsRepeatedTo, AreRepeated}
use Rattle.sg_opening.proofs.Parts as parts
use Rattle.sg_opening.proofs.Placed.{AreInText, text_holds, are_from, last_of_places, none_of_places, some_of_places, some_or_none}
use Rattle.sg_opening.proofs.Asked.{places_within, places_in_order, places_known, places_below, frames_rise, frames_under, record_number, both_none}
use Rattle.sg_open.specs.Repeatable.{MayRepeat, IsRepeating, HasRepeated}
use Rattle.sg_open.specs.Refusals.{of_pool}
use Rattle.sg_open.proofs.Refusing.{there_first, none_out}
use Rattle.sg_open.proofs.Over.{held_same}
use Rattle.sg_find.specs.declared.fault.OpenFault.{OpenFault}
use Rattle.sg_find.specs.declared.fault.OpenFault.TheVariants.{Disk}

-- THE FRAMES OF A LOG are told by the numbers of its records
from_body : (k lsn : ℕ) (rs : List Record) (ns : List Numbered) → k ≤ lsn → AllFrom record_number k ns → AllFrom record_number k (numbered_from lsn rs ++ ns)
from_body k lsn [] ns le from = from
from_body k lsn (r ∷ rs) ns le from = (le, from_body k (lsn + length (spelled r)) rs ns (omega arith) from)

from_frames : (k gate : ℕ) (frames : List (List Record)) → k ≤ gate + 5 → AllFrom record_number k (numbered_in gate frames)
from_frames k gate [] le = tt
from_frames k gate (rs ∷ frames) le = from_body k (gate + 5) rs (numbered_in (gate + 1 + length (text_of (spelled_all rs))) frames) le (from_frames k (gate + 1 + length (text_of (spelled_all rs))) frames (omega arith))

same_head : (x y : Numbered) (xs ys : List Numbered) → x ∷ xs ≡ y ∷ ys → (x ≡ y) × (xs ≡ ys)
same_head x y xs ys e = (cc, cc)

not_head : (lsn : ℕ) (r : Record) (rest ns : List Numbered) → AllFrom record_number (suc lsn) ns → ns ≡ record { lsn = lsn; is = r } ∷ rest → ⊥
not_head lsn r rest [] from e = cc
not_head lsn r rest (n ∷ ns) from e =
    let same : n.lsn ≡ lsn = ap record_number (same_head n (record { lsn = lsn; is = r }) ns rest e).0 in
    let high = from.0 in
    omega (arith, same, high)

same_body : (lsn : ℕ) (rs ss : List Record) (ns ms : List Numbered) → AllFrom record_number (suc (lsn + length (spelled_all rs))) ns → AllFrom record_number (suc (lsn + length (spelled_all ss))) ms
    → numbered_from lsn rs ++ ns ≡ numbered_from lsn ss ++ ms → (rs ≡ ss) × (ns ≡ ms)
same_body lsn [] [] ns ms one two e = (refl, e)
same_body lsn [] (s ∷ ss) ns ms one two e = absurd (not_head lsn s (numbered_from (lsn + length (spelled s)) ss ++ ms) ns (subst (λ (k : ℕ). AllFrom record_number (suc k) ns) (add-zero lsn) one) e)
same_body lsn (r ∷ rs) [] ns ms one two e = absurd (not_head lsn r (numbered_from (lsn + length (spelled r)) rs ++ ns) ms (subst (λ (k : ℕ). AllFrom record_number (suc k) ms) (add-zero lsn) two) (sym e))
same_body lsn (r ∷ rs) (s ∷ ss) ns ms one two e =
    let heads = same_head (record { lsn = lsn; is = r }) (record { lsn = lsn; is = s }) (numbered_from (lsn + length (spelled r)) rs ++ ns) (numbered_from (lsn + length (spelled s)) ss ++ ms) e in
    let same : r ≡ s = ap (λ (n : Numbered). n.is) heads.0 in
    let next : lsn + length (spelled s) ≡ lsn + length (spelled r) = ap (λ (x : Record). lsn + length (spelled x)) (sym same) in
    let a : lsn + length (spelled_all (r ∷ rs)) ≡ lsn + length (spelled r) + length (spelled_all rs) = omega (arith, length-append (spelled r) (spelled_all rs)) in
    let b : lsn + length (spelled_all (s ∷ ss)) ≡ lsn + length (spelled r) + length (spelled_all ss) = omega (arith, length-append (spelled s) (spelled_all ss), next) in
    let rest = same_body (lsn + length (spelled r)) rs ss ns ms (subst (λ (k : ℕ). AllFrom record_number (suc k) ns) a one) (subst (λ (k : ℕ). AllFrom record_number (suc k) ms) b two)
    (heads.1 ∙ ap (λ (k : ℕ). numbered_from k ss ++ ms) next) in
    (ap (λ (x : Record). x ∷ rs) same ∙ ap (λ (l : List Record). s ∷ l) rest.0, rest.1)

body_some : (lsn : ℕ) (rs : List Record) (ns : List Numbered) → (rs ≡ [] → ⊥) → [] ≡ numbered_from lsn rs ++ ns → ⊥
body_some lsn [] ns some e = some refl
body_some lsn (r ∷ rs) ns some e = cc

pub frames_same : (gate : ℕ) (fs gs : List (List Record)) → AreFrames fs → AreFrames gs → numbered_in gate fs ≡ numbered_in gate gs → fs ≡ gs
frames_same gate [] [] are other e = refl
frames_same gate [] (ss ∷ gs) are other e = absurd (body_some (gate + 5) ss (numbered_in (gate + 1 + length (text_of (spelled_all ss))) gs) other.0.some e)
frames_same gate (rs ∷ fs) [] are other e = absurd (body_some (gate + 5) rs (numbered_in (gate + 1 + length (text_of (spelled_all rs))) fs) are.0.some (sym e))
frames_same gate (rs ∷ fs) (ss ∷ gs) are other e =
    let x = gate + 1 + length (text_of (spelled_all rs)) in
    let y = gate + 1 + length (text_of (spelled_all ss)) in
    let both = same_body (gate + 5) rs ss (numbered_in x fs) (numbered_in y gs) (from_frames (suc (gate + 5 + length (spelled_all rs))) x fs (omega arith)) (from_frames (suc (gate + 5 + length (spelled_all ss))) y gs (omega arith)) e in
    let next : y ≡ x = ap (λ (l : List Record). gate + 1 + length (text_of (spelled_all l))) (sym both.0) in
    ap (λ (l : List Record). l ∷ fs) both.0 ∙ ap (λ (l : List (List Record)). ss ∷ l) (frames_same x fs gs are.1 other.1 (both.1 ∙ ap (λ (k : ℕ). numbered_in k gs) next))

-- records and entries
under_entries : (o : Origin) (d : ℕ) (ns : List Numbered) → AllUnder record_number d ns → AllUnder entry_number d (entries o ns)
under_entries o d [] under = tt
under_entries o d (n ∷ ns) under = (under.0, under_entries o d ns under.1)

from_entries : (o : Origin) (d : ℕ) (ns : List Numbered) → AllFrom record_number d ns → AllFrom entry_number d (entries o ns)
from_entries o d [] from = tt
from_entries o d (n ∷ ns) from = (from.0, from_entries o d ns from.1)

-- a page is well behind each front of its records
well_behind : (us ws : List OnPage) (p : List ℕ) → AllWell (us ++ ws) p → IsWell (repeated us p)
well_behind [] [] p well = well
well_behind [] (w ∷ ws) p well = well.0
well_behind (u ∷ us) ws p well = well_behind us ws (redone u p) well.1

-- how many places there are isn't asked where a text begins
same_count : (pages base other r : ℕ) (ns : List Numbered) → length (places_in pages base r ns) ≡ length (places_in pages other r ns)
same_count pages base other r [] = refl
same_count pages base other r (n ∷ ns) =
    let one : length (place_in pages base r n) ≡ length (place_in pages other r n) = by_test (nat_lt n.lsn r) (changed_by n.is.says) in
    length-append (place_in pages base r n) (places_in pages base r ns) ∙ (omega (arith, one, same_count pages base other r ns) ∙ sym (length-append (place_in pages other r n) (places_in pages other r ns)))
  where
    by_test : (b : Bool) (c : Option Change) → length (cond b [] (place_with pages base n.lsn c)) ≡ length (cond b [] (place_with pages other n.lsn c))
    by_test true c = refl
    by_test false None = refl
    by_test false (Some c) = refl

rise : (a b c : ℕ) → a ≤ b → HasRisen b c → HasRisen a c
rise a b c le risen = λ few. omega (arith, le, risen few)

append_assoc : {X : Type 0} (xs ys zs : List X) → (xs ++ ys) ++ zs ≡ xs ++ (ys ++ zs)
append_assoc [] ys zs = refl
append_assoc (x ∷ xs) ys zs = ap (λ (l : List _). x ∷ l) (append_assoc xs ys zs)

-- what is read meanwhile changes nothing
pub read_again : (o : Origin) (r : ℕ) (ds : List Numbered) (front back : List (List Record)) (v w : View) (log : Tail) (pool : Pool) → w.now ≡ v.now → IsRepeating o r ds front back v log pool → IsRepeating o r ds front back w log pool
read_again o r ds front back v w log pool same h =
    let x = subst (λ (s : State). IsRepeating o r ds front back (record v { now = s }) log pool) (sym same) h in
    record {
      rests = x.rests;
      super = x.super;
      place = x.place;
      all = x.all;
      stand = x.stand;
      at_gate = x.at_gate;
      held = held_same v w log ds (ap (λ (s : State). s log.area) same) h.held;
      size = x.size;
      backed = x.backed;
      logged = record { pages = x.logged.pages; bands = x.logged.bands };
      units = x.units;
    }

module _ (t : Table) (o : Origin) (r : ℕ) (ds : List Numbered) (front back : List (List Record)) (v : View) (log : Tail) (pool : Pool) (may : MayRepeat t o r log.gate ds) (h : IsRepeating o r ds front back v log pool)
    (at : ℕ) (at_is : at ≡ gate_after 0 front) where
  abbrev g : Geometry
  g = geometry o.super

  abbrev base : ℕ
  base = o.super.base

  pub apart : log.area ≡ Home → ⊥
  apart is = home_apart o (sym is ∙ h.place.area)

  pub backed_here : IsBacked (geometry o.super) (v.now Home) (contents v pool)
  backed_here = subst (λ (x : Geometry). IsBacked x (v.now Home) (contents v pool)) h.size h.backed

  -- the frames that aren't done stand behind it
  pub back_stands : Frames (v.now log.area).seen at back
  back_stands = subst (λ (n : ℕ). Frames (v.now log.area).seen n back) (sym at_is) (Frames-behind (v.now log.area).seen 0 front back h.stand)

  pub back_reaches : (end : ℕ) → end ≡ gate_after 0 (front ++ back) → end ≡ gate_after at back
  back_reaches end is = is ∙ (gate_behind 0 front back ∙ ap (λ (n : ℕ). gate_after n back) (sym at_is))

  place_front : gate_after o.super.base front ≡ o.super.base + at
  place_front = ap (λ (n : ℕ). gate_after n front) (sym (add-zero o.super.base)) ∙ (gate_moved o.super.base 0 front ∙ ap (λ (n : ℕ). o.super.base + n) (sym at_is))

  module _ (text : List ℕ) (size : ℕ) (read : IsRead at back text size) where
    abbrev part : List (List Record)
    part = read.part

    abbrev rest : List (List Record)
    rest = read.rest

    abbrev ns : List Numbered
    ns = numbered_in (o.super.base + at) read.part

    frames_are : front ++ back ≡ (front ++ read.part) ++ read.rest
    frames_are = ap (λ (l : List (List Record)). front ++ l) read.is_all ∙ sym (append_assoc front read.part read.rest)

    front_more : numbered_in o.super.base (front ++ read.part) ≡ numbered_in o.super.base front ++ numbered_in (o.super.base + at) read.part
    front_more = numbered_behind o.super.base front read.part ∙ ap (λ (n : ℕ). numbered_in o.super.base front ++ numbered_in n read.part) place_front

    pub behind : at + size ≡ gate_after 0 (front ++ read.part)
    behind = read.behind ∙ (ap (λ (n : ℕ). gate_after n read.part) at_is ∙ sym (gate_behind 0 front read.part))

    abbrev rest_from : ℕ
    rest_from = gate_after o.super.base (front ++ read.part)

    ds_are : ds ≡ (numbered_in o.super.base front ++ numbered_in (o.super.base + at) read.part) ++ numbered_in (gate_after o.super.base (front ++ read.part)) read.rest
    ds_are = sym h.all ∙ (ap (numbered_in o.super.base) frames_are ∙ (numbered_behind o.super.base (front ++ read.part) read.rest
        ∙ ap (λ (l : List Numbered). l ++ numbered_in (gate_after o.super.base (front ++ read.part)) read.rest) front_more))

    there : AreThere o.super.pages o.super.bands (numbered_in (o.super.base + at) read.part)
    there =
        let all = subst (λ (l : List Numbered). AreThere o.super.pages o.super.bands l) ds_are may.openable.there in
        let first = there_first o.super.pages o.super.bands (numbered_in o.super.base front ++ numbered_in (o.super.base + at) read.part) (numbered_in (gate_after o.super.base (front ++ read.part)) read.rest) all in
        (there_first o.super.pages o.super.bands (numbered_in o.super.base front) (numbered_in (o.super.base + at) read.part) first.0).1

    -- the places can be found
    pub none_outside : first_outside o.super.pages o.super.bands 0 read.part ≡ None
    none_outside = none_out o.super.pages o.super.bands 0 (o.super.base + at) read.part there

    in_text : AreInText text (o.super.base + at) (numbered_in (o.super.base + at) read.part)
    in_text = text_holds text (o.super.base + at) read.part read.whole

    known : first_unknown t r may.undone (numbered_in (o.super.base + at) read.part) ≡ None
    known =
        let x = numbered_in o.super.base front in
        let y = numbered_in (o.super.base + at) read.part in
        let z = numbered_in (gate_after o.super.base (front ++ read.part)) read.rest in
        let all : first_unknown t r may.undone ((x ++ y) ++ z) ≡ None = ap (first_unknown t r may.undone) (sym ds_are) ∙ may.known in
        let first = both_none o.super.pages o.super.bands o.super.base r (first_unknown t r may.undone (x ++ y)) (first_unknown t r may.undone z) (sym (first_unknown-append t r may.undone (x ++ y) z) ∙ all) in
        (both_none o.super.pages o.super.bands o.super.base r (first_unknown t r may.undone x) (first_unknown t r may.undone y) (sym (first_unknown-append t r may.undone x y) ∙ first.0)).1

    -- and may be repeated
    pub within : All (λ p. p.unit < o.super.pages + o.super.bands) (places_in o.super.pages (o.super.base + at) r (numbered_in (o.super.base + at) read.part))
    within = places_within o.super.pages o.super.bands (o.super.base + at) r (numbered_in (o.super.base + at) read.part) there

    pub in_order : AreInOrder (places_in o.super.pages (o.super.base + at) r (numbered_in (o.super.base + at) read.part))
    in_order = places_in_order o.super.pages o.super.bands (o.super.base + at) r (suc (o.super.base + at)) (numbered_in (o.super.base + at) read.part) (frames_rise (o.super.base + at) read.part)

    pub are_known : AreKnown t text (places_in o.super.pages (o.super.base + at) r (numbered_in (o.super.base + at) read.part))
    are_known = places_known o.super.pages o.super.bands (o.super.base + at) r t may.undone text (numbered_in (o.super.base + at) read.part) in_text known

    under_all : AllUnder record_number log.gate ds
    under_all = subst (λ (l : List Numbered). AllUnder record_number log.gate l) h.all (frames_under o.super.base log.gate (front ++ back) (omega (arith, whole)))
      where
        whole : gate_after o.super.base (front ++ back) ≡ log.gate
        whole = ap (λ (n : ℕ). gate_after n (front ++ back)) (sym (add-zero o.super.base)) ∙ (gate_moved o.super.base 0 (front ++ back) ∙ sym h.at_gate)

    under_part : AllUnder record_number log.gate (numbered_in (o.super.base + at) read.part)
    under_part =
        let all = subst (λ (l : List Numbered). AllUnder record_number log.gate l) ds_are under_all in
        let first = under_split record_number log.gate (numbered_in o.super.base front ++ numbered_in (o.super.base + at) read.part) (numbered_in (gate_after o.super.base (front ++ read.part)) read.rest) all in
        (under_split record_number log.gate (numbered_in o.super.base front) (numbered_in (o.super.base + at) read.part) first.0).1

    pub durable : (places : List Place) → places ≡ places_in o.super.pages (o.super.base + at) r (numbered_in (o.super.base + at) read.part) → IsDurable v log ds pool places
    durable places are = record {
      holds = h.held;
      logged = h.logged;
      below = subst (λ (l : List Place). All (λ p. p.lsn < log.gate) l) (sym are) (places_below o.super.pages o.super.bands (o.super.base + at) r log.gate (numbered_in (o.super.base + at) read.part) under_part);
    }

    -- WHERE THE FRONT ENDS
    abbrev to : ℕ
    to = o.super.base + gate_after 0 front

    abbrev to' : ℕ
    to' = o.super.base + gate_after 0 (front ++ read.part)

    abbrev done : List Entry
    done = entries o (numbered_in o.super.base front)

    abbrev doing : List Entry
    doing = entries o (numbered_in (o.super.base + at) read.part)

    abbrev left : List Entry
    left = entries o (numbered_in (gate_after o.super.base (front ++ read.part)) read.rest)

    entries_more : entries o (numbered_in o.super.base (front ++ read.part)) ≡ done ++ doing
    entries_more = ap (entries o) front_more ∙ entries_append o (numbered_in o.super.base front) (numbered_in (o.super.base + at) read.part)

    entries_all : entries o ds ≡ (done ++ doing) ++ left
    entries_all = ap (entries o) ds_are ∙ (entries_append o (numbered_in o.super.base front ++ numbered_in (o.super.base + at) read.part) (numbered_in (gate_after o.super.base (front ++ read.part)) read.rest)
        ∙ ap (λ (l : List Entry). l ++ left) (entries_append o (numbered_in o.super.base front) (numbered_in (o.super.base + at) read.part)))

    reach : (frames : List (List Record)) → gate_after o.super.base frames ≡ o.super.base + gate_after 0 frames
    reach frames = ap (λ (n : ℕ). gate_after n frames) (sym (add-zero o.super.base)) ∙ gate_moved o.super.base 0 frames

    split : IsRepeatedTo (entries o ds) done (doing ++ left) to
    split = record {
      is_all = entries_all ∙ append_assoc done doing left;
      under = under_entries o to (numbered_in o.super.base front) (frames_under o.super.base to front (omega (arith, reach front)));
      behind =
          let rest_high : AllFrom record_number to (numbered_in (o.super.base + at) (read.part ++ read.rest)) = from_frames to (o.super.base + at) (read.part ++ read.rest) (omega (arith, at_is)) in
          let both : entries o (numbered_in (o.super.base + at) (read.part ++ read.rest)) ≡ doing ++ left = ap (entries o) (numbered_behind (o.super.base + at) read.part read.rest
          ∙ ap (λ (n : ℕ). numbered_in (o.super.base + at) read.part ++ numbered_in n read.rest) (ap (λ (n : ℕ). gate_after n read.part) (sym place_front) ∙ sym (gate_behind o.super.base front read.part)))
          ∙ entries_append o (numbered_in (o.super.base + at) read.part) (numbered_in (gate_after o.super.base (front ++ read.part)) read.rest) in
          subst (λ (l : List Entry). AllFrom entry_number to l) both (from_entries o to (numbered_in (o.super.base + at) (read.part ++ read.rest)) rest_high);
    }

    split' : IsRepeatedTo (entries o ds) (done ++ doing) left to'
    split' = record {
      is_all = entries_all;
      under = subst (λ (l : List Entry). AllUnder entry_number to' l) entries_more (under_entries o to' (numbered_in o.super.base (front ++ read.part)) (frames_under o.super.base to' (front ++ read.part) (omega (arith, reach (front ++ read.part)))));
      behind = from_entries o to' (numbered_in (gate_after o.super.base (front ++ read.part)) read.rest) (from_frames to' (gate_after o.super.base (front ++ read.part)) read.rest (omega (arith, reach (front ++ read.part))));
    }

    later : to ≤ to'
    later = let more = gate_later at read.part in omega (arith, more, behind, read.behind, at_is)

    module _ (places : List Place) (are : places ≡ places_in o.super.pages (o.super.base + at) r (numbered_in (o.super.base + at) read.part)) where
      abbrev rs : PartRecords
      rs = records_of (geometry o.super) t text places

      from : AreFrom (geometry o.super) r doing (records_of (geometry o.super) t text places)
      from = subst (λ (l : List Place). AreFrom (geometry o.super) r doing (records_of (geometry o.super) t text l)) (sym are) (are_from o t text (o.super.base + at) r (numbered_in (o.super.base + at) read.part) may.effect there in_text)

      -- each image while the stretch is repeated
      pub stretch_stands : (c : Image) → IsRedoMoment (sizes pool) v log ds (lasts pool.shelf) (records_of (sizes pool) t text places) (contents v pool) c → IsStanding o ds ds r c
      stretch_stands c moment = parts.part_stands o r log.gate ds may.read may.openable done doing left to to' split split' later (v.now Home) (lasts pool.shelf) (contents v pool) backed_here h.units
          (records_of (geometry o.super) t text places) from v log refl h.place refl h.super c
          (subst (λ (x : Geometry). IsRedoMoment x v log ds (lasts pool.shelf) (records_of x t text places) (contents v pool) c) h.size moment)

      -- a page of the stretch is one, so the disk alone refuses it
      page_well : (n : ℕ) → n < (geometry o.super).pages → IsWell ((contents v pool).page n)
      page_well n lt = subst (λ (p : List ℕ). IsWell p) (sym (h.units.page n lt ∙ sym (parts.front_made o r log.gate ds may.read may.openable done (doing ++ left) to split n lt)))
          (well_behind (of_page n done) (of_page n (doing ++ left)) (o.first.page n) (subst (λ (l : List OnPage). AllWell l (o.first.page n)) (parts.of_page_all o r log.gate ds may.read may.openable done (doing ++ left) to split n) (may.openable.well n lt)))

      pub stretch_refused : (told : Bool) (first w : View) (e : PoolFault) (x : OpenFault) → x ≡ of_pool e → IsTrue told → first.faults ≤ v.faults → RedoFails told log.area (sizes pool) v w pool places e → (x ≡ Disk) × HasRisen first.faults w.faults
      stretch_refused told first w pools.Disk x e sure later fails = (e, rise first.faults v.faults w.faults later fails)
      stretch_refused told first w pools.Memory x e sure later fails = absurd fails
      stretch_refused told first w (pools.Damaged page) x e sure later fails =
          absurd (fails.2 sure apart h.backed (page_well page.0 (subst (λ (x : Geometry). page.0 < x.pages) h.size fails.0)))

      -- BEHIND THE STRETCH
      module _ (w : View) (log' : Tail) (log_is : IsSameOrForced w log log' ds []) (new : Pool) (new_size : sizes new ≡ sizes pool) (backed : Backs (sizes pool) w new) (logged : IsLogged (tail_of log) w new)
          (redone : IsRedone (sizes pool) (records_of (sizes pool) t text places) (contents v pool) (contents w new))
          (homes : AreHomesKnown (sizes pool) (w.now Home) (records_of (sizes pool) t text places) (contents v pool) (contents w new))
          (exact : AreHomesExact (sizes pool) (v.now Home).seen (w.now Home).seen (records_of (sizes pool) t text places) (contents v pool) (contents w new))
          (last_ones : AreLastsRedone (sizes pool) places pool new) (run : LeavesOnly v w (IsStanding o ds ds r)) where
        log_same : (log' ≡ log) × Holds w log ds []
        log_same = ⊎_elim
            (λ same. same)
            (λ more. (more.0 ∙ forced_same v log ds h.held, subst (λ (x : Tail). Holds w x ds []) (forced_same v log ds h.held) (subst (λ (l : List Numbered). Holds w (forced log) l []) (append-nil ds) more.1)))
            log_is

        same_frames : log_same.1.frames ≡ front ++ back
        same_frames =
            let held = log_same.1 in
            frames_same o.super.base held.frames (front ++ back) (frames_all (w.now log.area).seen 0 held.frames held.stand) (frames_all (v.now log.area).seen 0 (front ++ back) h.stand)
            (ap (λ (n : ℕ). numbered_in n held.frames) (sym h.place.base) ∙ (held.all ∙ sym h.all))

        lasts_are : (b l : ℕ) → b < (geometry o.super).bands → (contents w new).band_since b ≡ Some l
            → (((records_of (geometry o.super) t text places).band b ≡ []) × ((contents v pool).band_since b ≡ Some l) × (lasts new.shelf b ≡ lasts pool.shelf b))
            ⊎ (((records_of (geometry o.super) t text places).band b ≡ [] → ⊥) × (lasts new.shelf b ≡ last_number ((records_of (geometry o.super) t text places).band b)))
        lasts_are b l lt some =
            let one : AreLastsRedone (geometry o.super) places pool new = subst (λ (x : Geometry). AreLastsRedone x places pool new) h.size last_ones in
            let k = o.super.pages + b in
            let ps = places_in o.super.pages (o.super.base + at) r (numbered_in (o.super.base + at) read.part) in
            ⊎_elim
            (λ none. let other = one.others b l none some in
            inl (subst (λ (x : List Place). window_records t text (places_of k x) ≡ []) (sym are) (none_of_places t text o.super.pages o.super.bands (o.super.base + at) r b (numbered_in (o.super.base + at) read.part) (ap (places_of k) (sym are) ∙ none)), other.0, other.1))
            (λ here. inr (
              subst (λ (x : List Place). window_records t text (places_of k x) ≡ [] → ⊥) (sym are) (some_of_places t text o.super.pages o.super.bands (o.super.base + at) r b (numbered_in (o.super.base + at) read.part) there in_text (λ none. here (ap (places_of k) are ∙ none))),
              one.its b l here some ∙ subst (λ (x : List Place). last_lsn (places_of k x) ≡ last_number (window_records t text (places_of k x))) (sym are) (last_of_places t text o.super.pages o.super.bands (o.super.base + at) r b (numbered_in (o.super.base + at) read.part) there in_text),
            ))
            (some_or_none (places_of k places))

        units_then : AreRepeated (geometry o.super) o.first (entries o ds) (done ++ doing) r to' log.gate (w.now Home).seen (lasts new.shelf) (contents w new)
        units_then = parts.part_repeated o r log.gate ds may.read may.openable done doing left to to' split split' later (v.now Home) (lasts pool.shelf) (contents v pool) backed_here h.units
            (records_of (geometry o.super) t text places) from (w.now Home) (lasts new.shelf) (contents w new)
            (subst (λ (x : Geometry). IsRedone x (records_of x t text places) (contents v pool) (contents w new)) h.size redone)
            (subst (λ (x : Geometry). AreHomesKnown x (w.now Home) (records_of x t text places) (contents v pool) (contents w new)) h.size homes)
            (subst (λ (x : Geometry). AreHomesExact x (v.now Home).seen (w.now Home).seen (records_of x t text places) (contents v pool) (contents w new)) h.size exact)
            lasts_are

        now_repeating : IsRepeating o r ds (front ++ read.part) read.rest w log new
        now_repeating = record {
          rests = λ c leaves. run.each c (inl leaves);
          super = superblock_agree (v.now Home).seen (w.now Home).seen exact.superblock ∙ h.super;
          place = h.place;
          all = ap (numbered_in o.super.base) (sym frames_are) ∙ h.all;
          stand = subst (λ (l : List (List Record)). Frames (w.now log.area).seen 0 l) (same_frames ∙ frames_are) log_same.1.stand;
          at_gate = h.at_gate ∙ ap (λ (l : List (List Record)). o.super.base + gate_after 0 l) frames_are;
          held = log_same.1;
          size = new_size ∙ h.size;
          backed = subst (λ (x : Geometry). Backs x w new) (sym new_size) backed;
          logged = logged;
          units = subst (λ (l : List Entry). AreRepeated (geometry o.super) o.first (entries o ds) l r to' log.gate (w.now Home).seen (lasts new.shelf) (contents w new)) (sym entries_more) units_then;
        }

        pub stretch_done : (steps : ℕ) → steps ≡ length places → HasRepeated o r ds front back at size steps w log log' new
        stretch_done steps is = record {
          part = read.part;
          rest = read.rest;
          is_back = read.is_all;
          behind = behind;
          same = log_same.0;
          now = subst (λ (x : Tail). IsRepeating o r ds (front ++ read.part) read.rest w x new) (sym log_same.0) now_repeating;
          counted = is ∙ (ap (λ (l : List Place). length l) are ∙ same_count o.super.pages (o.super.base + at) o.super.base r (numbered_in (o.super.base + at) read.part));
        }

-- SO FAR: the frames up to this offset are done, in so many steps, and each image meanwhile stands
pub record IsDone (o : Origin) (r : ℕ) (ds : List Numbered) (frames : List (List Record)) (v w : View) (log log' : Tail) (pool : Pool) (at steps : ℕ) : Type 0 where
  pub front : List (List Record)
  pub back : List (List Record)
  pub is_all : frames ≡ front ++ back
  pub here : at ≡ gate_after 0 front
  pub same : log' ≡ log
  pub now : IsRepeating o r ds front back w log' pool
  pub run : LeavesOnly v w (IsStanding o ds ds r)
  pub counted : steps ≡ length (places_in o.super.pages o.super.base r (numbered_in o.super.base front))

pub none_done : (o : Origin) (r : ℕ) (ds : List Numbered) (frames : List (List Record)) (v : View) (log : Tail) (pool : Pool) (steps : ℕ) → IsRepeating o r ds [] frames v log pool → steps ≡ 0 → IsDone o r ds frames v v log log pool 0 steps
none_done o r ds frames v log pool steps h none = record {
  front = [];
  back = frames;
  is_all = refl;
  here = refl;
  same = refl;
  now = h;
  run = started v (IsStanding o ds ds r) h.rests;
  counted = none;
}

module _ (t : Table) (o : Origin) (r : ℕ) (ds : List Numbered) (frames : List (List Record)) (v w : View) (log log' : Tail) (pool : Pool) (at steps : ℕ) (may : MayRepeat t o r log.gate ds) (d : IsDone o r ds frames v w log log' pool at steps) where
  pub may_still : MayRepeat t o r log'.gate ds
  may_still = subst (λ (x : Tail). MayRepeat t o r x.gate ds) (sym d.same) may

  pub end_still : (end : ℕ) → end ≡ gate_after 0 frames → end ≡ gate_after 0 (d.front ++ d.back)
  end_still end is = is ∙ ap (gate_after 0) d.is_all

  pub more_done : (z : View) (log'' : Tail) (new : Pool) (size more all : ℕ) → HasRepeated o r ds d.front d.back at size more z log' log'' new → LeavesOnly w z (IsStanding o ds ds r) → all ≡ steps + more → IsDone o r ds frames v z log log'' new (at + size) all
  more_done z log'' new size more all x run is =
      let place : gate_after o.super.base d.front ≡ o.super.base + at = ap (λ (n : ℕ). gate_after n d.front) (sym (add-zero o.super.base)) ∙ (gate_moved o.super.base 0 d.front ∙ ap (λ (n : ℕ). o.super.base + n) (sym d.here)) in
      let both : numbered_in o.super.base (d.front ++ x.part) ≡ numbered_in o.super.base d.front ++ numbered_in (o.super.base + at) x.part
      = numbered_behind o.super.base d.front x.part ∙ ap (λ (n : ℕ). numbered_in o.super.base d.front ++ numbered_in n x.part) place in
      let count : length (places_in o.super.pages o.super.base r (numbered_in o.super.base (d.front ++ x.part))) ≡ length (places_in o.super.pages o.super.base r (numbered_in o.super.base d.front)) + length (places_in o.super.pages o.super.base r (numbered_in (o.super.base + at) x.part))
      = ap (λ (l : List Numbered). length (places_in o.super.pages o.super.base r l)) both
      ∙ (ap (λ (l : List Place). length l) (places_in-append o.super.pages o.super.base r (numbered_in o.super.base d.front) (numbered_in (o.super.base + at) x.part))
      ∙ length-append (places_in o.super.pages o.super.base r (numbered_in o.super.base d.front)) (places_in o.super.pages o.super.base r (numbered_in (o.super.base + at) x.part))) in
      record {
        front = d.front ++ x.part;
        back = x.rest;
        is_all = d.is_all ∙ (ap (λ (l : List (List Record)). d.front ++ l) x.is_back ∙ sym (append_assoc d.front x.part x.rest));
        here = x.behind;
        same = x.same ∙ d.same;
        now = x.now;
        run = joined d.run run;
        counted = omega (arith, is, d.counted, x.counted, count);
      }

  none_left : (at end : ℕ) (frames : List (List Record)) → end ≡ gate_after at frames → end ≤ at → frames ≡ []
  none_left at end [] is le = refl
  none_left at end (rs ∷ frames) is le = let later = gate_later (at + 1 + length (text_of (spelled_all rs))) frames in absurd (omega arith)

  module _ (end : ℕ) (end_is : end ≡ gate_after 0 frames) (le : end ≤ at) where
    last : d.back ≡ []
    last = none_left at end d.back (end_still end end_is ∙ (gate_behind 0 d.front d.back ∙ ap (λ (n : ℕ). gate_after n d.back) (sym d.here))) le

    whole : d.front ≡ frames
    whole = sym (d.is_all ∙ (ap (λ (l : List (List Record)). d.front ++ l) last ∙ append_none d.front))
      where
        append_none : (xs : List (List Record)) → xs ++ [] ≡ xs
        append_none [] = refl
        append_none (x ∷ xs) = ap (λ l. x ∷ l) (append_none xs)

    pub all_done : (log' ≡ log) × IsRepeating o r ds frames [] w log' pool
    all_done = (d.same, subst (λ (l : List (List Record)). IsRepeating o r ds frames l w log' pool) last (subst (λ (l : List (List Record)). IsRepeating o r ds l d.back w log' pool) whole d.now))

    pub all_counted : steps ≡ length (places_in o.super.pages o.super.base r ds)
    all_counted =
        let all : numbered_in o.super.base d.front ≡ ds = ap (numbered_in o.super.base) whole ∙ (ap (numbered_in o.super.base) d.is_all ∙ d.now.all) in
        d.counted ∙ ap (λ (l : List Numbered). length (places_in o.super.pages o.super.base r l)) all
