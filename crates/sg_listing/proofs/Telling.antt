-- A listing told one part behind another.
use Rattle.std.proofs.Common.{◌≡◌, ◌≤◌, List, [], ◌++◌, Result, Ok, Err, refl, sym, subst, ◌∙◌, append_assoc, append-nil, arith}
use Rattle.std.specs.Result.{IsErrAnd}
use Rattle.sg_base.specs.Ends.{HasRisen}
use Rattle.sg_lines.specs.Heard.{Ears, HasHeard, WasCut}
use Rattle.sg_lines.specs.Parts.{Part}
use Rattle.sg_space.specs.Listing.{CountsList, WritesNoneList}
use Rattle.sg_space.specs.Pages.{WritesNone}
use Rattle.sg_space.specs.View.{View, Counts, OnlyReads}
use Rattle.sg_space.specs.declared.space.ListFault.{ListFault}
use Rattle.sg_space.specs.declared.space.ListFault.TheVariants as lists
use Rattle.sg_space.specs.declared.space.SpaceFault.{SpaceFault}
use Rattle.sg_space.specs.declared.space.SpaceFault.TheVariants.{Disk, LogEnd}
use Rattle.sg_space.proofs.Known.{keeps_same, reads_then}
use Rattle.sg_listing.specs.Telling.{list_fault, OnlyTold, CountsEars, IsTold}
use Rattle.sg_listing.specs.declared.fault.TellFault.{TellFault}
use Rattle.sg_listing.specs.declared.fault.TellFault.TheVariants.{Space, Memory, Listener}

-- a fault that is handed on
pub handed : {T : Type 0} (P : Result T TellFault → Type 0) (result : Result T TellFault) (fault : TellFault) → IsErrAnd result (λ e. e ≡ fault) → P (Err fault) → P result
handed P (Ok x) fault h p = absurd h
handed P (Err e) fault h p = subst (λ (f : TellFault). P (Err f)) (sym h) p

-- THE SPACE. What calls left of it that only read and didn't fail
pub record WasRead (v w : View) : Type 0 where
  pub kept : OnlyReads v w
  pub back : w.Told → v.Told
  pub quiet : w.faults ≡ v.faults
  pub records : w.records ≡ v.records

pub read_nothing : {v : View} → WasRead v v
read_nothing = record { kept = record { keeps = keeps_same; shows = λ h. h; same = λ h. refl; wrote = λ b h. h; still = λ h. h }; back = λ h. h; quiet = refl; records = refl }

pub read_on : {u v w : View} → WasRead u v → WasRead v w → WasRead u w
read_on f g = record { kept = reads_then f.kept g.kept; back = λ h. f.back (g.back h); quiet = g.quiet ∙ f.quiet; records = g.records ∙ f.records }

-- one call that read
pub one_read : {T : Type 0} {v w : View} (x : T) → Counts v w (Ok x) → OnlyReads v w → w.records ≡ v.records → WasRead v w
one_read x c k same = record { kept = k; back = c.told; quiet = c.quiet; records = same }

-- and what was told up to here
pub told_read : {T : Type 0} {v w : View} (x : T) → OnlyTold v w (Ok x) → WasRead v w
told_read x h = record { kept = h.kept; back = h.told; quiet = h.counted; records = h.records }

pub told_ok : {T : Type 0} {v w : View} (x : T) → WasRead v w → OnlyTold v w (Ok x)
told_ok x r = record { told = r.back; later = omega (arith, r.quiet); records = r.records; kept = r.kept; counted = r.quiet }

pub told_listener : {T : Type 0} {v w : View} → WasRead v w → OnlyTold {T = T} v w (Err Listener)
told_listener r = record { told = r.back; later = omega (arith, r.quiet); records = r.records; kept = r.kept; counted = r.quiet }

pub told_memory : {T : Type 0} {v w : View} → WasRead v w → OnlyTold {T = T} v w (Err Memory)
told_memory r = record { told = r.back; later = omega (arith, r.quiet); records = r.records; kept = r.kept; counted = r.quiet }

-- a call failed
pub told_space : {T U : Type 0} {v w : View} (fault : SpaceFault) → Counts {T = U} v w (Err fault) → WritesNone {T = U} v w (Err fault) → OnlyTold {T = T} v w (Err (Space fault))
told_space fault c n = record { told = c.told; later = c.later; records = n.records; kept = n.only_disk; counted = c.disk n.only_disk }

-- what was read can't be
pub told_broken : {T : Type 0} {v w : View} → (w.Told → v.Told) → v.faults ≤ w.faults → w.records ≡ v.records → HasRisen v.faults w.faults → OnlyTold {T = T} v w (Err (Space Disk))
told_broken told later same risen = record { told = told; later = later; records = same; kept = refl; counted = risen }

-- a list that is read, or isn't
pub list_read : {T : Type 0} {v w : View} (x : T) → CountsList v w (Ok x) → OnlyReads v w → w.records ≡ v.records → WasRead v w
list_read x c k same = record { kept = k; back = c.told; quiet = c.quiet; records = same }

pub told_list : {T U : Type 0} {v w : View} (fault : ListFault) → CountsList {T = U} v w (Err fault) → (fault ≡ lists.Memory → OnlyReads v w) → (fault ≡ lists.Memory → w.faults ≡ v.faults) → WritesNoneList {T = U} v w (Err fault) → OnlyTold {T = T} v w (Err (list_fault fault))
told_list (lists.Space Disk) c memory quiet n = record { told = c.told; later = c.later; records = n.records; kept = refl; counted = c.disk refl }
told_list (lists.Space LogEnd) c memory quiet n = absurd (n.no_end refl)
told_list lists.Memory c memory quiet n = record { told = c.told; later = c.later; records = n.records; kept = memory refl; counted = quiet refl }

-- behind what was read before
pub told_then : {T : Type 0} {u v w : View} (result : Result T TellFault) → WasRead u v → OnlyTold v w result → OnlyTold u w result
told_then (Ok x) r h = told_ok x (read_on r (told_read x h))
told_then {u = u} {w = w} (Err (Space f)) r h = record { told = λ t. r.back (h.told t); later = omega (arith, r.quiet, h.later); records = h.records ∙ r.records; kept = h.kept; counted = subst (λ n. HasRisen n w.faults) r.quiet h.counted }
told_then (Err Memory) r h = told_memory (read_on r (record { kept = h.kept; back = h.told; quiet = h.counted; records = h.records }))
told_then (Err Listener) r h = told_listener (read_on r (record { kept = h.kept; back = h.told; quiet = h.counted; records = h.records }))

-- THE LISTENER
module _ {S : Type 0} (ears : Ears S) where
  pub heard_nothing : (s : S) → HasHeard ears s [] s
  heard_nothing s from before h = subst (λ (xs : List Part). ears.heard from xs s) (sym (append-nil before)) h

  pub heard_on : {old mid new : S} (xs ys : List Part) → HasHeard ears old xs mid → HasHeard ears mid ys new → HasHeard ears old (xs ++ ys) new
  heard_on {new = new} xs ys first last from before h = subst (λ (zs : List Part). ears.heard from zs new) (append_assoc before xs ys) (last from (before ++ xs) (first from before h))

  -- it failed in a later part
  pub cut_on : {old mid new : S} (xs ys : List Part) → HasHeard ears old xs mid → WasCut ears mid ys new → WasCut ears old (xs ++ ys) new
  cut_on {new = new} xs ys first last from before behind h =
      subst (λ (zs : List Part). ears.cut from (zs ++ behind) new) (append_assoc before xs ys) (last from (before ++ xs) behind (first from before h))

  -- or in an earlier one than those that were to come
  pub cut_before : {old new : S} (xs ys : List Part) → WasCut ears old xs new → WasCut ears old (xs ++ ys) new
  cut_before {new = new} xs ys h from before behind was =
      subst (λ (zs : List Part). ears.cut from zs new) (sym (append_assoc (before ++ xs) ys behind) ∙ ap_front (append_assoc before xs ys)) (h from before (ys ++ behind) was)
    where
      ap_front : {zs ws : List Part} → zs ≡ ws → zs ++ behind ≡ ws ++ behind
      ap_front e i = e i ++ behind

  pub told_on : (T : Type 0) (old mid new : S) (xs ys : List Part) (result : Result T TellFault) → HasHeard ears old xs mid → IsTold ears mid ys new result → IsTold ears old (xs ++ ys) new result
  told_on T old mid new xs ys (Ok x) first last = heard_on xs ys first last
  told_on T old mid new xs ys (Err (Space f)) first last = tt
  told_on T old mid new xs ys (Err Memory) first last = tt
  told_on T old mid new xs ys (Err Listener) first last = cut_on xs ys first last

  -- what failed in some parts failed in these and others
  pub told_before : (T U : Type 0) (old new : S) (xs ys : List Part) (fault : TellFault) → IsTold {T = T} ears old xs new (Err fault) → IsTold {T = U} ears old (xs ++ ys) new (Err fault)
  told_before T U old new xs ys (Space f) h = tt
  told_before T U old new xs ys Memory h = tt
  told_before T U old new xs ys Listener h = cut_before xs ys h

  -- a fault says as much whatever was to be answered
  pub told_again : (T U : Type 0) (old new : S) (parts : List Part) (fault : TellFault) → IsTold {T = T} ears old parts new (Err fault) → IsTold {T = U} ears old parts new (Err fault)
  told_again T U old new parts (Space f) h = tt
  told_again T U old new parts Memory h = tt
  told_again T U old new parts Listener h = h

  -- its count of faults
  pub counts_on : {T : Type 0} {old mid new : S} (result : Result T TellFault) → ears.faults mid ≡ ears.faults old → ears.who mid ≡ ears.who old → CountsEars ears mid new result → CountsEars ears old new result
  counts_on (Ok x) e m h = record { later = omega (arith, e, h.later); counted = h.counted ∙ e; same = h.same ∙ m }
  counts_on (Err (Space f)) e m h = record { later = omega (arith, e, h.later); counted = h.counted ∙ e; same = h.same ∙ m }
  counts_on (Err Memory) e m h = record { later = omega (arith, e, h.later); counted = h.counted ∙ e; same = h.same ∙ m }
  counts_on {new = new} (Err Listener) e m h = record { later = omega (arith, e, h.later); counted = subst (λ n. HasRisen n (ears.faults new)) e h.counted; same = h.same ∙ m }

  -- it was told nothing, for want of a list
  pub list_untold : (T : Type 0) (old : S) (parts : List Part) (new : S) (fault : ListFault) → IsTold {T = T} ears old parts new (Err (list_fault fault))
  list_untold T old parts new (lists.Space f) = tt
  list_untold T old parts new lists.Memory = tt

  pub list_counts : {T : Type 0} (s : S) (fault : ListFault) → CountsEars {T = T} ears s s (Err (list_fault fault))
  list_counts s (lists.Space f) = record { later = omega arith; counted = refl; same = refl }
  list_counts s lists.Memory = record { later = omega arith; counted = refl; same = refl }
