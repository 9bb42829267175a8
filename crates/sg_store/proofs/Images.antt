-- From fronts of a log to images.
use Rattle.std.proofs.Common.{◌⊎◌, ◌∷◌, sym, ap, ◌∙◌, subst}
use Rattle.std.proofs.Common.{inl, inr}
use Rattle.sg_disk.specs.Disk.{Image}
use Rattle.sg_ops.specs.Table.{Table as Operations}
use Rattle.sg_model.specs.Objects.{Objects}
use Rattle.sg_recovery.specs.Log.{Numbered, Tally}
use Rattle.sg_recovery.specs.Stands.{made, stands_at, HasPages, StandsFor as LogStands}
use Rattle.sg_recovery.specs.Claims.{Log}
use Rattle.sg_join.specs.Join.{FrontsStand}
use Rattle.sg_join.proofs.Fronts.{front_one}
use Rattle.sg_store.specs.Ground.{Ground, setting}
use Rattle.sg_store.specs.Engine.{View, IsImageOf}
use Rattle.sg_store.specs.Stands.{StandsFor}

module _ (t : Operations) (g : Ground) where
  -- an image with a front of a log, or with what is left of it, stands for what the front does
  pub front_stands : (v : View g) (m : Objects) (log : Log (setting t g)) (c : Image) (i : IsImageOf t g v log c) → LogStands (setting t g) v.first i.front m → StandsFor t g c m
  front_stands v m log c i h = record {
    log = i.left;
    pages = made (setting t g) v.first i.front;
    recovers = i.recovers;
    reading = h.0;
    stands = ap (λ (k : Tally g.C g.N). stands_at (setting t g) k (made (setting t g) v.first i.front)) i.says ∙ h.1;
    objects = h.2;
    free = subst (λ (k : Tally g.C g.N). HasPages (setting t g) k (made (setting t g) v.first i.front)) (sym i.says) h.3;
  }

  -- where each front stands for these objects each image does
  pub image_stands : (v : View g) (m : Objects) (log : Log (setting t g)) → FrontsStand (setting t g) v.first m v.durable log → (c : Image) → IsImageOf t g v log c → StandsFor t g c m
  image_stands v m log fronts c i = front_stands v m log c i (fronts i.front i.is_front)

  -- with one record more: for what it makes of them, or for what there was
  pub image_either : (v : View g) (m n : Objects) (log : Log (setting t g)) (r : Numbered g.C g.N) → FrontsStand (setting t g) v.first m v.durable log → LogStands (setting t g) v.first (r ∷ log) n
      → (c : Image) → IsImageOf t g v (r ∷ log) c → StandsFor t g c m ⊎ StandsFor t g c n
  image_either v m n log r fronts more c i =
      either (front_one (λ l. LogStands (setting t g) v.first l m ⊎ LogStands (setting t g) v.first l n) v.durable log i.front r (inr more) (λ l f. inl (fronts l f)) i.is_front)
    where
      either : LogStands (setting t g) v.first i.front m ⊎ LogStands (setting t g) v.first i.front n → StandsFor t g c m ⊎ StandsFor t g c n
      either (inl h) = inl (front_stands v m (r ∷ log) c i h)
      either (inr h) = inr (front_stands v n (r ∷ log) c i h)
