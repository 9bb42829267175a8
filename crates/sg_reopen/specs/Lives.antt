-- THE LIVES OF A STORE: it runs, a crash leaves an image, and it is opened again, as often as may be.
use Rattle.std.specs.Prelude.{List, [], ◌∷◌, ◌++◌}
use Rattle.sg_disk.specs.Disk.{Image}
use Rattle.sg_log.specs.Frames.{Numbered}
use Rattle.sg_engine.specs.History.{Homes}
use Rattle.sg_engine.specs.Engine.{Origin, IsStanding}
use Rattle.sg_reopen.specs.Again.{at_home, image_home, StandsAgain}

-- a life: the records that were durable at its end beyond those that it began with, all that were appended by then, and the image that
-- its end left
pub record Life : Type 0 where
  pub since : List Numbered
  pub all : List Numbered
  pub image : Image

-- Lives that follow one another. The first begins with these durable records over this home area, and each other one with the records of
-- the image that the one before left, over that image's home area
abbrev pub AreLives : Origin → List Numbered → Homes → List Life → Type 0
AreLives o rs f [] = Unit {0}
AreLives o rs f (l ∷ ls) = (again : StandsAgain (at_home o f) (rs ++ l.since) l.all l.image) × AreLives o again.stands.records (image_home o l.image) ls

-- the records that the last of these begins with, and the home area
abbrev pub records_then : (o : Origin) (rs : List Numbered) (f : Homes) (ls : List Life) → AreLives o rs f ls → List Numbered
records_then o rs f [] are = rs
records_then o rs f (l ∷ ls) are = records_then o are.0.stands.records (image_home o l.image) ls are.1

abbrev pub home_then : (o : Origin) (rs : List Numbered) (f : Homes) (ls : List Life) → AreLives o rs f ls → Homes
home_then o rs f [] are = f
home_then o rs f (l ∷ ls) are = home_then o are.0.stands.records (image_home o l.image) ls are.1

-- EACH IMAGE STANDS for the store as it was first: with all records that were durable before this life and in it
abbrev pub AllStand : (o : Origin) (rs : List Numbered) (f : Homes) (ls : List Life) → AreLives o rs f ls → Type 0
AllStand o rs f [] are = Unit {0}
AllStand o rs f (l ∷ ls) are = IsStanding o (rs ++ l.since) l.all are.0.point l.image × AllStand o are.0.stands.records (image_home o l.image) ls are.1
