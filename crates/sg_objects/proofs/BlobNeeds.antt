-- What verbs on blobs need, and that they are accepted.
use Rattle.std.proofs.Common.{◌≡◌, ℕ, ◌+◌, ◌-◌, ◌/◌, ◌≤◌, max, List, length, take, drop, Some, None, Ok, sym, ap, ◌∙◌, inl, inr, arith}
use Rattle.std.proofs.lemmas.Bool.{cases_lt}
use Rattle.std.proofs.lemmas.Bool.Decides.{nat_tests}
use Rattle.sg_ops.specs.Table.{Table as Operations}
use Rattle.sg_blob.proofs.Sides.{exact}
use Rattle.sg_catalog.specs.Catalog.{rows, there}
use Rattle.sg_model.specs.Objects.Object.{Blob as AsBlob}
use Rattle.sg_model.specs.Verb.{Verb, Reply}
use Rattle.sg_model.specs.Verb.Verb.{MakeBlob, Write, Read, Size, Paint}
use Rattle.sg_model.specs.Verb.Reply.{Done, Bytes}
use Rattle.sg_model.specs.Step.{on}
use Rattle.sg_space.specs.View.{Space}
use Rattle.sg_contents.specs.Standing.{Contents, IsContents}
use Rattle.sg_contents.specs.Standing.Body.{ABlob}
use Rattle.sg_contents.specs.Meaning.{thing_of}
use Rattle.sg_objects.specs.Blobs.{IsBlobAt, CanWriteTo, CanReadFrom, CanSizeTo, CanPaintOn}
use Rattle.sg_objects.specs.Needs.{needed, pages_alone, bands_alone, bands_for}
use Rattle.sg_objects.specs.Needing.{HasNeed, needed_of}
use Rattle.sg_objects.specs.declared.blob.BlobAt.{BlobAt}
use Rattle.sg_objects.specs.declared.need.Needs as code
use Rattle.sg_objects.proofs.Blobbed.{blob_at, blob_under, below_peak}
use Rattle.sg_objects.proofs.BlobMade.{blob_accepted}
use Rattle.sg_objects.proofs.BlobVerbs.{accepted_on, write_on, read_on, size_on, paint_on}
use Rattle.sg_objects.proofs.Doing.{ok_is}
use Rattle.sg_objects.proofs.Items.{max_same}

pub blob_need : {s : Contents} {name : List ℕ} {n : code.Needs} (t : Operations) → there name (rows s.catalog) ≡ None → needed_of n ≡ pages_alone 2 → HasNeed t name MakeBlob s n
blob_need {s} {name} t none e = record { accepted = ok_is _ _ (blob_accepted s name t none); needs = e }

-- a verb that a blob accepts
on_blob_there : {s : Contents} {name : List ℕ} {n : code.Needs} {x : BlobAt} (t : Operations) (verb : Verb) (reply : Reply) (xs : List ℕ) (f : IsBlobAt name s x) → on t verb (Some (AsBlob f.blob.bytes)) ≡ (Ok reply, Some (AsBlob xs)) → needed_of n ≡ needed verb (Some (thing_of x.root.0 (ABlob f.blob))) → HasNeed t name verb s n
on_blob_there {x = x} t verb reply xs f is e = record { accepted = ok_is _ _ (accepted_on t verb reply xs f is); needs = e ∙ ap (needed verb) (sym (blob_under f)) }

pub read_need : {s : Contents} {name : List ℕ} {at count : ℕ} {n : code.Needs} {x : BlobAt} (t : Operations) → CanReadFrom name at count s x → needed_of n ≡ pages_alone 0 → HasNeed t name (Read at count) s n
read_need {at = at} {count = count} t f e = on_blob_there t (Read at count) (Bytes (take count (drop at f.found.blob.bytes))) f.found.blob.bytes f.found (read_on t at count f) e

pub paint_need : {s : Contents} {name : List ℕ} {at count number : ℕ} {arg : List ℕ} {n : code.Needs} {x : BlobAt} (t : Operations) → CanPaintOn t name at count number arg s x → needed_of n ≡ pages_alone 0 → HasNeed t name (Paint at count number arg) s n
paint_need {at = at} {count = count} {number = number} {arg = arg} t f e = on_blob_there t (Paint at count number arg) Done _ f.found (paint_on t at count number arg f) e

-- bands by what is wanted and how many there are
pub same_bands : (size size' have have' : ℕ) → size ≡ size' → have ≡ have' → bands_alone (bands_for size - have) ≡ bands_alone (bands_for size' - have')
same_bands size size' have have' e h = λ i. bands_alone (bands_for (e i) - h i)

pub size_need : {s : Contents} {name : List ℕ} {size size' have : ℕ} {n : code.Needs} {x : BlobAt} (t : Operations) → (f : CanSizeTo name size s x) → size' ≡ size → have ≡ length f.found.blob.bands → needed_of n ≡ bands_alone (bands_for size' - have) → HasNeed t name (Size size) s n
size_need {size = size} {size' = size'} {have = have} t f e h is = on_blob_there t (Size size) Done _ f.found (size_on t size f) (is ∙ same_bands size' size have (length f.found.blob.bands) e h)

-- the bands for the length that a blob has are there
max_bands : (l p e have : ℕ) → l ≤ p → have ≡ (p + 32767) / 32768 → (e + 32767) / 32768 - have ≡ (max l e + 32767) / 32768 - have
max_bands l p e have low is = elim (cases_lt e l) [
  | inl less ↦ (let m = max_same l e (omega (arith, less)) in omega (arith, m, less, low, is))
  | inr past ↦ ap (λ (n : ℕ). (n + 32767) / 32768 - have) (max_other l e past)
]
  where
    max_other : (a b : ℕ) → a ≤ b → b ≡ max a b
    max_other a b le = grind (arith, nat_tests)

pub write_need : {space : Space} {s : Contents} {name bytes : List ℕ} {at end have : ℕ} {n : code.Needs} {x : BlobAt} (t : Operations) → IsContents space s → (f : CanWriteTo name at (length bytes) s x) → end ≡ at + length bytes → have ≡ length f.found.blob.bands → needed_of n ≡ bands_alone (bands_for end - have) → HasNeed t name (Write at bytes) s n
write_need {bytes = bytes} {at = at} {end = end} {have = have} t c f e h is =
    let b = f.found.blob in
    let there = blob_at c f.found in
    on_blob_there t (Write at bytes) Done _ f.found (write_on t at bytes f)
    (is ∙ (same_bands end (at + length bytes) have (length b.bands) e h
    ∙ ap bands_alone (max_bands (length b.bytes) b.peak (at + length bytes) (length b.bands) (below_peak there).0 (exact b there))))
