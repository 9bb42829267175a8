-- A root that was taken or freed, what is beside a blob, and how many bands one has.
use Rattle.std.proofs.Common.{◌≡◌, ℕ, ◌+◌, ◌/◌, length, ap, ◌∙◌, arith, inr, Option, List}
use Rattle.sg_base.specs.Sheet.{Sheet}
use Rattle.sg_space.specs.Owned.{Becomes}
use Rattle.sg_space.specs.Units.{Units, IsTaken, IsFreed}
use Rattle.sg_space.specs.View.{Space}
use Rattle.sg_space.proofs.Known.{moved}
use Rattle.sg_blob.specs.Blob.{Blob, IsBlob, OwnsBand, OwnsPage}

pub taken_becomes : {A : Type 0} {old new : Units A} {n : ℕ} {P : A → Type 0} → IsTaken old new n P → Becomes old new (λ _. ⊥) (OwnsPage n) 0 1
taken_becomes {old = old} h = record {
  others = λ m none ne. h.others m ne;
  taken = λ m is. inr (ap old.at is ∙ h.was_free);
  given = λ m none. absurd none;
  exactly = let free = h.free in omega arith;
  all = h.count;
}

pub freed_becomes : {A : Type 0} {old new : Units A} {n : ℕ} → IsFreed old new n → Becomes old new (OwnsPage n) (λ _. ⊥) 1 0
freed_becomes {new = new} h = record {
  others = λ m ne none. h.others m ne;
  taken = λ m none. absurd none;
  given = λ m is none. ap new.at is ∙ h.gone;
  exactly = let free = h.free in omega arith;
  all = h.count;
}

-- the blob stands where its root says what it said and its bands hold what they held
pub blob_stays : (old new : Space) {root : ℕ} {b : Blob} → IsBlob old.pages.at old.bands.at root b → new.pages.at root ≡ old.pages.at root → ((n : ℕ) → OwnsBand b.bands n → new.bands.at n ≡ old.bands.at n) → IsBlob new.pages.at new.bands.at root b
blob_stays old new h page same =
    let raw = h.raw in
    record {
      raw = record {
        first = moved page raw.first;
        part = λ j n e. moved (same n (j, e)) (raw.part j n e);
        fit = raw.fit;
        apart = raw.apart;
        below_peak = raw.below_peak;
        few = raw.few;
        enough = raw.enough;
      };
      least = h.least;
      most = h.most;
    }

pub exact : {pages : ℕ → Option Sheet} {bands : ℕ → Option (List ℕ)} {root : ℕ} (b : Blob) → IsBlob pages bands root b → length b.bands ≡ (b.peak + 32767) / 32768
exact b h = let least = h.least in let most = h.most in omega arith
