-- Why a store isn't opened whose image can be opened.
use Rattle.std.proofs.Common.{◌≡◌, ◌≤◌, ◌+◌, ◌&&◌, max, ℕ, Bool, true, Option, Some, None, List, [], ◌∷◌, ◌++◌, length, refl, sym, ◌∙◌, ap, subst, arith, cond}
use Rattle.sg_base.specs.Ends.{HasRisen}
use Rattle.sg_disk.specs.Disk.{View}
use Rattle.sg_gate.specs.declared.superblock.Super.{Super}
use Rattle.sg_ops.specs.Table.{Table}
use Rattle.sg_redo.specs.Places.{changed_by}
use Rattle.sg_record.specs.Records.{Record, spelled}
use Rattle.sg_log.specs.Texts.{spelled_all}
use Rattle.sg_log.specs.Frames.{Numbered, text_of, numbered_from, numbered_in}
use Rattle.sg_analysis.specs.Analysis.{Analysis, analysis_of}
use Rattle.sg_places.specs.Asked.{undone_of, is_there, all_there, first_outside, first_unknown}
use Rattle.sg_engine.specs.Engine.{Origin, log_area}
use Rattle.sg_find.specs.Synced.{redo_point}
use Rattle.sg_find.specs.Refused.{TextRefused}
use Rattle.sg_find.specs.declared.fault.OpenFault.{OpenFault}
use Rattle.sg_find.specs.declared.fault.OpenFault.TheVariants.{Disk, Memory, NotAStore, Damaged, UnknownOperation}
use Rattle.sg_opening.specs.Opening.{AreThere}
use Rattle.sg_open.specs.Found.{Opens}
use Rattle.sg_open.specs.Refusals.{StoreRefused}

rise : (a b c : ℕ) → a ≤ b → HasRisen b c → HasRisen a c
rise a b c le risen = λ few. omega (arith, le, risen few)

-- where all records are of pages and bands that are there, no frame is refused
both_true : (a b : Bool) → a ≡ true → b ≡ true → (a && b) ≡ true
both_true a b x y = ap (λ c. c && b) x ∙ y

pub there_first : (pages bands : ℕ) (ns ms : List Numbered) → AreThere pages bands (ns ++ ms) → AreThere pages bands ns × AreThere pages bands ms
there_first pages bands [] ms all = (tt, all)
there_first pages bands (n ∷ ns) ms all = let more = there_first pages bands ns ms all.1 in ((all.0, more.0), more.1)

body_all : (pages bands lsn : ℕ) (rs : List Record) → AreThere pages bands (numbered_from lsn rs) → all_there pages bands rs ≡ true
body_all pages bands lsn [] all = refl
body_all pages bands lsn (r ∷ rs) all = both_true (is_there pages bands (changed_by r.says)) (all_there pages bands rs) all.0 (body_all pages bands (lsn + length (spelled r)) rs all.1)

pub none_out : (pages bands at gate : ℕ) (frames : List (List Record)) → AreThere pages bands (numbered_in gate frames) → first_outside pages bands at frames ≡ None
none_out pages bands at gate [] all = refl
none_out pages bands at gate (rs ∷ frames) all =
    let size = length (text_of (spelled_all rs)) in
    let parts = there_first pages bands (numbered_from (gate + 5) rs) (numbered_in (gate + 1 + size) frames) all in
    ap (λ (b : Bool). cond b (first_outside pages bands (at + 1 + size) frames) (Some at)) (body_all pages bands (gate + 5) rs parts.0) ∙ none_out pages bands (at + 1 + size) (gate + 1 + size) frames parts.1

some_none : (at : ℕ) (x : Option ℕ) → x ≡ None → x ≡ Some at → ⊥
some_none at x none some = cc

pub text_refused_then : (told : Bool) (t : Table) (o : Origin) (tail : ℕ) (ds : List Numbered) (v v2 w : View) (s : Super) (a : Analysis) (frames : List (List Record)) (e : OpenFault) → Opens o tail ds v → s ≡ o.super → v.faults ≤ v2.faults
    → numbered_in s.base frames ≡ ds → a ≡ analysis_of s.base ds → TextRefused t (log_area s) s.pages s.bands s.base (max s.base a.estimate) (a.losers, a.opened) frames v2 w e → StoreRefused told t o ds v w e
text_refused_then told t o tail ds v v2 w s a frames Disk opens same later all says h = rise v.faults v2.faults w.faults later h
text_refused_then told t o tail ds v v2 w s a frames Memory opens same later all says h = tt
text_refused_then told t o tail ds v v2 w s a frames NotAStore opens same later all says h = absurd h
text_refused_then told t o tail ds v v2 w s a frames (Damaged there at) opens same later all says h =
    let there : AreThere s.pages s.bands (numbered_in s.base frames) = subst (λ (l : List Numbered). AreThere s.pages s.bands l) (sym all) (subst (λ (x : Super). AreThere x.pages x.bands ds) (sym same) opens.there) in
    absurd (some_none at (first_outside s.pages s.bands 0 frames) (none_out s.pages s.bands 0 s.base frames there) h.1)
text_refused_then told t o tail ds v v2 w s a frames (UnknownOperation code) opens same later all says h =
    let here : first_unknown t (max s.base a.estimate) (a.losers, a.opened) ds ≡ Some code = ap (λ (l : List Numbered). first_unknown t (max s.base a.estimate) (a.losers, a.opened) l) (sym all) ∙ h.1 in
    let then : first_unknown t (max s.base ((analysis_of s.base ds).estimate)) (undone_of (analysis_of s.base ds)) ds ≡ Some code = subst (λ (x : Analysis). first_unknown t (max s.base x.estimate) (x.losers, x.opened) ds ≡ Some code) says here in
    subst (λ (x : Super). first_unknown t (redo_point x.base ds) (undone_of (analysis_of x.base ds)) ds ≡ Some code) same then
