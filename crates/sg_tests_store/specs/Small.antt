-- What an engine shows that tells nothing: its counts alone.
use Rattle.std.specs.Prelude.{ℕ, [], false, None}
use Rattle.std.specs.FinMap.{empty}
use Rattle.sg_room.specs.Marks.Kind.{Stays}
use Rattle.sg_disk.specs.Memory.{image_of, memory_view}
use Rattle.sg_model.specs.Objects.{Objects}
use Rattle.sg_model.specs.Verb.Op.{Names}
use Rattle.sg_store.specs.Ground.{Ground}
use Rattle.sg_store.specs.Engine.{Shown}

-- pages, records and objects of which nothing is known
pub nothing : Ground
nothing = record {
  X = Unit {0};
  C = Unit {0};
  O = Objects;
  N = Unit {0};
  V = Unit {0};
  apply = λ t x c. tt;
  fits = λ t x c. false;
  inverse = λ c. tt;
  reading = λ x. None;
  unstep = λ t o n cs. None;
  free = λ o. 0;
  buried = λ o. 0;
  Buried = λ o d ts. ⊥;
  wants = λ n. false;
  objects = λ o. o;
  sizes = record { pages = 0; bands = 0; map = 0 };
  marks = λ o. record { live = empty; graves = empty; rows = 0 };
  named = λ n. [];
  kind = λ n. Stays;
  op = λ v. Names;
  touched = λ v. [];
  Below = λ o p. ⊥;
  After = λ t v o p. ⊥;
  Freed = λ ts o p. ⊥;
  can_undo = λ o n cs ts. false;
  needs = λ t o op. record { pages = 0; bands = 0; reserve = 0 };
  note = λ bytes. tt;
  PutsBack = λ t n cs os x y. ⊥;
  Alike = λ x y. ⊥;
  Recovers = λ t c log x. ⊥;
}

-- some of its pages
pub some_pages : nothing.X
unfolding nothing
some_pages = tt

-- the numbers of an engine, and nothing else: each byte of its log was handed to a disk that counts no fault
abbrev pub shown : (tail free_pages free_bands faults : ℕ) → Shown (λ z. nothing)
shown tail free_pages free_bands faults = record {
  Told = ⊥;
  disk = memory_view (image_of [] [] []) [] tail 0 0;
  base = 0;
  tail = tail;
  gate = tail;
  start = 0;
  free_pages = free_pages;
  free_bands = free_bands;
  faults = faults;
  records = λ z. record { log = []; durable = []; acting = None };
  means = λ t z from. Unit {0};
}
