-- The lives of a store.
use Rattle.std.proofs.Common.{◌≡◌, ℕ, List, [], ◌∷◌, ◌++◌, Ok, refl, sym, subst}
use Rattle.sg_base.specs.declared.area.Area.{Area}
use Rattle.sg_base.specs.declared.area.Area.TheVariants.{Home}
use Rattle.sg_disk.specs.Disk.{Bytes, Image, View}
use Rattle.sg_log.specs.Frames.{Numbered, HasRecords}
use Rattle.sg_gate.specs.Layout.{HEADER}
use Rattle.sg_gate.specs.Batch.{laid, IsBatch, numbers_of}
use Rattle.sg_gate.specs.Superblock.{superblock}
use Rattle.sg_ops.specs.Table.{Table}
use Rattle.sg_engine.specs.Effects.{IsBy}
use Rattle.sg_engine.specs.History.{Homes}
use Rattle.sg_engine.specs.Kept.{home_in}
use Rattle.sg_engine.specs.Engine.{Origin, geometry, log_area}
use Rattle.sg_find.specs.Synced.{reads, redo_point}
use Rattle.sg_opening.specs.Opening.{IsOpenable}
use Rattle.sg_open.specs.Found.{Opens}
use Rattle.sg_reopen.specs.Again.{image_home, origin_at, StandsAgain, MakesSame}
use Rattle.sg_reopen.specs.Lives.{Life, AreLives, records_then, home_then, AllStand}
use Rattle.sg_reopen.proofs.Again.{image_opens, stands_first, makes_again}

-- EACH LIFE'S IMAGE stands for the store as it was first, and the last life's first home area makes what that made
pub all_stand : (o : Origin) (rs : List Numbered) (f : Homes) (ls : List Life) (are : AreLives o rs f ls) → MakesSame o rs f → AllStand o rs f ls are
all_stand o rs f [] are same = tt
all_stand o rs f (l ∷ ls) are same = (
  stands_first o rs l.since (rs ++ l.since) l.all f are.0.point l.image same refl are.0.stands,
  all_stand o are.0.stands.records (image_home o l.image) ls are.1 (makes_again o rs l.since (rs ++ l.since) l.all f are.0.point l.image same refl are.0.stands),
)

pub last_makes : (o : Origin) (rs : List Numbered) (f : Homes) (ls : List Life) (are : AreLives o rs f ls) → MakesSame o rs f → MakesSame o (records_then o rs f ls are) (home_then o rs f ls are)
last_makes o rs f [] are same = same
last_makes o rs f (l ∷ ls) are same = last_makes o are.0.stands.records (image_home o l.image) ls are.1 (makes_again o rs l.since (rs ++ l.since) l.all f are.0.point l.image same refl are.0.stands)

-- an image that reads give opens as it is
pub opens_reads : (t : Table) (o : Origin) (ds all : List Numbered) (c : Image) (v : View) → IsBy t o → ((a : Area) → reads v a ≡ c a) → (again : StandsAgain o ds all c) → Opens (origin_at o c) again.stands.tail again.stands.records v
opens_reads t o ds all c v is same again =
    let open_it = image_opens t o ds all again.point c is again.stands in
    let at : IsOpenable (origin_at o c) (redo_point o.super.base again.stands.records) again.stands.tail again.stands.records c = subst (λ (r : ℕ). IsOpenable (origin_at o c) r again.stands.tail again.stands.records c) again.own open_it in
    record {
      super = subst (λ (f : Bytes). superblock f ≡ Ok o.super) (sym (same Home)) at.super;
      held = subst (λ (f : Bytes). HasRecords f o.super.base again.stands.tail again.stands.records) (sym (same (log_area o.super))) at.held;
      header = subst (λ (f : Bytes). f HEADER ≡ 1 → IsBatch o.super.pages (numbers_of f)) (sym (same Home)) at.header;
      there = at.there;
      first = subst (λ (f : Bytes). image_home o c ≡ home_in (geometry o.super) (laid f)) (sym (same Home)) refl;
      sound = at.sound;
      rises = at.rises;
      ends = at.ends;
      sets = at.sets;
      well = at.well;
      within = at.within;
    }
