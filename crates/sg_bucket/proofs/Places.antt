-- Where an entry stands in a bucket.
use Rattle.std.proofs.Common.{◌≡◌, ℕ, List, take, Option, Some, None, sym, ap, subst, ◌∙◌, arith}
use Rattle.std.proofs.lemmas.Option.{slice_get_within}
use Rattle.sg_base.specs.Page.{cell_in}
use Rattle.sg_base.specs.Sheet.{Sheet}
use Rattle.sg_base.specs.Slots.{Slots}
use Rattle.sg_space.specs.Units.{HasAt}
use Rattle.sg_space.proofs.Known.{both, same_some}
use Rattle.sg_bucket.specs.Bucket.{Bucket, IsLinked, IsBucket, IsFound, IsPlace, LacksKey, entries_of, part_at}
use Rattle.sg_bucket.specs.Entry.{value_of, entry_in}
use Rattle.sg_bucket.specs.Part.{HasValueAt, IsCopied}
use Rattle.sg_bucket.specs.declared.walk.Place.{Place}
use Rattle.sg_bucket.proofs.Entries.{parts_lack, value_here}
use Rattle.sg_bucket.proofs.Values.{none_of}

pub found_place : (b : Bucket) (key : List ℕ) {place : Place} {found : Option Place} → found ≡ Some place → IsFound b key found → IsPlace b key place
found_place b key e h = subst (λ (o : Option Place). IsFound b key o) e h

pub found_lacks : (b : Bucket) (key : List ℕ) {found : Option Place} → found ≡ None → IsFound b key found → LacksKey b key
found_lacks b key e h = subst (λ (o : Option Place). IsFound b key o) e h

pub found_none : {at : ℕ → Option Sheet} {first : ℕ} (b : Bucket) (key : List ℕ) {found : Option Place} → found ≡ None → IsBucket at first b → IsFound b key found → value_of (entries_of b.parts) key ≡ None
found_none b key e h is =
    let lacks = found_lacks b key e is in
    let long = h.linked.long in
    none_of key (entries_of b.parts) (parts_lack key b.parts (λ i below. lacks i (omega arith)))

-- the part of the place
pub place_part : {at : ℕ → Option Sheet} {first : ℕ} {b : Bucket} {key : List ℕ} {place : Place} → IsLinked at first b → (is : IsPlace b key place) → HasAt at place.page.0 (λ sheet. sheet.slots ≡ part_at b.parts is.index)
place_part h is = let part = h.part is.index _ is.page in record { what = part.what; is = part.is; has = part.has.slots_are }

pub place_value : {at : ℕ → Option Sheet} {first : ℕ} {b : Bucket} {key : List ℕ} {place : Place} → IsLinked at first b → IsPlace b key place → HasAt at place.page.0 (HasValueAt place.slot)
place_value {place = place} h is =
    let part = h.part is.index _ is.page in
    record {
      what = part.what;
      is = part.is;
      has = record { page = part.has.page; cell = is.key_at.cell; is = ap (λ (s : Slots). cell_in s place.slot) part.has.slots_are ∙ is.key_at.is };
    }

pub value_copied : {at : ℕ → Option Sheet} {first n : ℕ} {b : Bucket} {key into : List ℕ} {place : Place} → IsBucket at first b → IsPlace b key place → HasAt at place.page.0 (IsCopied place.slot n into) → value_of (entries_of b.parts) key ≡ Some (take n into)
value_copied {b = b} {key = key} {into = into} {place = place} h is copied =
    let part = h.linked.part is.index _ is.page in
    let c = both part copied in
    let same : is.key_at.cell ≡ c.cell = same_some _ _ (sym is.key_at.is ∙ (sym (ap (λ (s : Slots). cell_in s place.slot) part.has.slots_are) ∙ c.is)) in
    let long = h.linked.long in
    let within = slice_get_within b.pages is.index place.page.0 is.page in
    let value = value_here b.parts is.index place.slot is.key_at.cell (omega arith) is.key_at.is h.once in
    ap (value_of (entries_of b.parts)) (sym is.key_at.key_is) ∙ (value ∙ ap Some (ap (λ (x : List ℕ). (entry_in x).value) same ∙ c.value))
