-- Changes of what a root and its bands say, one after another.
use Rattle.std.proofs.Common.{◌≡◌, ◌≢◌, ℕ, ◌+◌, List, length, Option, None, sym, ap, subst, refl, inl}
use Rattle.sg_base.specs.Sheet.{Sheet}
use Rattle.sg_space.specs.Owned.{Grows}
use Rattle.sg_space.specs.Units.{Units}
use Rattle.sg_space.specs.View.{View, WritesIn, Space, OnlyReads}
use Rattle.sg_space.proofs.Known.{keeps_same, keeps_then, before, writes_none, writes_then, writes_less}
use Rattle.sg_space.proofs.Owners.{grows_same, grows_then}
use Rattle.sg_blob.specs.Blob.{OwnsPage, OwnsBand}
use Rattle.sg_blob.specs.Raw.{Raw, IsRaw}
use Rattle.sg_blob.specs.Steps.{Did, RawTurns}

-- a band of the blob is there, and so is its root
pub band_not_none : {pages : ℕ → Option Sheet} {bands : ℕ → Option (List ℕ)} {root : ℕ} {r : Raw} → IsRaw pages bands root r → (n : ℕ) → OwnsBand r.bands n → bands n ≡ None → ⊥
band_not_none h n o none = let some = (h.part o.0 n o.1).is in (cc)

pub root_not_none : {pages : ℕ → Option Sheet} {bands : ℕ → Option (List ℕ)} {root : ℕ} {r : Raw} → IsRaw pages bands root r → (n : ℕ) → OwnsPage root n → pages n ≡ None → ⊥
root_not_none {pages} h n o none = let some = h.first.is in let at = ap pages o in (cc)

-- nothing has changed
pub turns_same : {s : Space} {root : ℕ} {r r' : Raw} → r' ≡ r → IsRaw s.pages.at s.bands.at root r → RawTurns s s root r r'
turns_same {s} {root} {r} {r'} e h = subst (λ (x : Raw). RawTurns s s root r x) (sym e) (record { raw = h; pages = grows_same refl; bands = grows_same refl })

-- two changes, one after the other
pub turns_then : {a b c : Space} {root : ℕ} {r s t : Raw} → RawTurns a b root r s → RawTurns b c root s t → RawTurns a c root r t
turns_then f g = record {
  raw = g.raw;
  pages = grows_then f.pages (root_not_none f.raw) g.pages;
  bands = grows_then f.bands (band_not_none f.raw) g.bands;
}

pub after_reads : {v w : View} {new : Space} {root : ℕ} {r r' : Raw} → OnlyReads v w → v.Shows → RawTurns w.space new root r r' → RawTurns v.space new root r r'
after_reads {new = new} {root = root} {r = r} {r' = r'} k shows h = before (λ s. RawTurns s new root r r') k shows h

-- one page has changed, and it is the root
pub root_changed : {old new : Units Sheet} {root : ℕ} → ((p : ℕ) → p ≢ root → new.at p ≡ old.at p) → new.free ≡ old.free → new.count ≡ old.count → Grows old new (OwnsPage root) (OwnsPage root) 1 1
root_changed others free count = record { others = others; more = λ p o. o; taken = λ p o. inl o; exactly = ap (λ (n : ℕ). n + 1) free; all = count }

-- some of a list's bands have changed
pub bands_changed : {old new : Units (List ℕ)} (bands : List ℕ) → ((b : ℕ) → ¬ OwnsBand bands b → new.at b ≡ old.at b) → new.free ≡ old.free → new.count ≡ old.count → Grows old new (OwnsBand bands) (OwnsBand bands) (length bands) (length bands)
bands_changed bands others free count = record { others = others; more = λ p o. o; taken = λ p o. inl o; exactly = ap (λ (n : ℕ). n + length bands) free; all = count }

pub did_none : {v : View} {root : ℕ} {Can : Raw → Type 0} {f : Raw → Raw} → ((r : Raw) → Can r → f r ≡ r) → Did v v root Can f
did_none same = record { keeps = λ t. keeps_same; turns = λ t r h can. turns_same (same r can) h; wrote = λ t r h can. writes_none (λ b was. was) }

pub did_then : {u v w : View} {root : ℕ} {Can Then : Raw → Type 0} {f g h : Raw → Raw} → Did u v root Can f → Did v w root Then g → ((r : Raw) → Can r → Then (f r)) → ((r : Raw) → Can r → h r ≡ g (f r)) → Did u w root Can h
did_then {u} {v} {w} {root} {Can} {Then} {f} {g} {h} a b so is = record {
  keeps = λ t. keeps_then (a.keeps t) (b.keeps ((a.keeps t).told t));
  turns = λ t r raw can.
      let one = a.turns t r raw can in
      subst (λ (x : Raw). RawTurns u.space w.space root r x) (sym (is r can)) (turns_then one (b.turns ((a.keeps t).told t) (f r) one.raw (so r can)));
  wrote = λ t r raw can.
      let one = a.turns t r raw can in
      let told = (a.keeps t).told t in
      let two = b.turns told (f r) one.raw (so r can) in
      subst (λ (x : Raw). WritesIn (OwnsBand x.bands) u w) (sym (is r can)) (writes_then (writes_less two.bands.more (a.wrote t r raw can)) (b.wrote told (f r) one.raw (so r can)));
}
