-- The keys of a bucket are listed, one page after another.
use Rattle.std.proofs.Common.{◌≡◌, ℕ, ◌+◌, ◌<◌, List, [], ◌∷◌, ◌++◌, length, take, Option, Some, None, slice_index, sym, ap, ◌∙◌, arith}
use Rattle.std.proofs.Math.Seq.{take-length}
use Rattle.std.proofs.lemmas.List.{append_assoc, append-nil, map-append}
use Rattle.std.proofs.lemmas.Option.{slice_get_within}
use Rattle.sg_base.specs.Page.{cell_in}
use Rattle.sg_base.specs.Sheet.{Sheet}
use Rattle.sg_base.specs.Slots.{Slots}
use Rattle.sg_space.specs.Units.{HasAt}
use Rattle.sg_space.specs.View.{View}
use Rattle.sg_space.proofs.Known.{both}
use Rattle.sg_bucket.specs.Bucket.{Bucket, IsLinked, IsPart, entries_of, part_at}
use Rattle.sg_bucket.specs.Division.{keys_of}
use Rattle.sg_bucket.specs.Entry.{Entry, entry_in}
use Rattle.sg_bucket.specs.Listing.{ListsPage}
use Rattle.sg_bucket.specs.Part.{entries_in}
use Rattle.sg_bucket.proofs.Filters.{parts_on, slots_on, slots_past}
use Rattle.sg_bucket.proofs.Walking.{Walks, index_past, part_there, still_linked}

keys_append : (xs ys : List Entry) → keys_of (xs ++ ys) ≡ keys_of xs ++ keys_of ys
keys_append xs ys = map-append (λ (e : Entry). e.key) xs ys

-- a slot more
pub key_more : (slots : Slots) (i : ℕ) (cell : List ℕ) (old : List (List ℕ)) {now new : List (List ℕ)} → i < length slots → cell_in slots i ≡ Some cell → now ≡ old ++ keys_of (entries_in (take i slots)) → new ≡ now ++ ((entry_in cell).key ∷ []) → new ≡ old ++ keys_of (entries_in (take (i + 1) slots))
key_more slots i cell old below e now more =
    more
    ∙ (ap (λ (ks : List (List ℕ)). ks ++ ((entry_in cell).key ∷ [])) now
    ∙ (append_assoc old (keys_of (entries_in (take i slots))) ((entry_in cell).key ∷ [])
    ∙ ap (λ (ks : List (List ℕ)). old ++ ks) (sym (keys_append (entries_in (take i slots)) (entry_in cell ∷ [])) ∙ ap (λ (es : List Entry). keys_of es) (sym (slots_on slots i cell below e)))))

pub key_past : (slots : Slots) (i : ℕ) (old : List (List ℕ)) {now : List (List ℕ)} → i < length slots → cell_in slots i ≡ None → now ≡ old ++ keys_of (entries_in (take i slots)) → now ≡ old ++ keys_of (entries_in (take (i + 1) slots))
key_past slots i old below e now = now ∙ ap (λ (es : List Entry). old ++ keys_of es) (sym (slots_past slots i below e))

pub key_all : (slots : Slots) (n : ℕ) (old : List (List ℕ)) {now : List (List ℕ)} → length slots ≡ n → now ≡ old ++ keys_of (entries_in (take n slots)) → now ≡ old ++ keys_of (entries_in slots)
key_all slots n old long now = now ∙ ap (λ (s : Slots). old ++ keys_of (entries_in s)) (ap (λ (k : ℕ). take k slots) (sym long) ∙ take-length slots)

-- the keys of so many pages
abbrev pub AreListed : View → ℕ → ℕ → List (List ℕ) → List (List ℕ) → Type 0
AreListed u first i old now = u.Shows → (b : Bucket) → IsLinked u.space.pages.at first b → now ≡ old ++ keys_of (entries_of (take i b.parts))

pub listed_none : (u : View) (first : ℕ) (old : List (List ℕ)) → AreListed u first 0 old old
listed_none u first old = λ shows b h. sym (append-nil old)

page_listed : {u v : View} {first i page before next : ℕ} {P : Slots → Type 0} (old : List (List ℕ)) {now new : List (List ℕ)} {b : Bucket} → Walks u v first i page before P → AreListed u first i old now → (v.Shows → HasAt v.space.pages.at page (ListsPage now new next)) → u.Shows → IsLinked u.space.pages.at first b → (new ≡ old ++ keys_of (entries_of (take (i + 1) b.parts))) × (slice_index b.pages (i + 1) ≡ next)
page_listed {v = v} {i = i} {page = page} old {now = now} {b = b} w listed read shows h =
    let part : HasAt v.space.pages.at page (IsPart (slice_index b.pages (i + 1)) (part_at b.parts i)) = part_there (still_linked w.kept shows h) (w.walked shows b h) in
    let seen = both part (read (w.kept.shows shows)) in
    let within = slice_get_within b.pages i page (w.walked shows b h).there in
    let long = h.long in (
      seen.listed
          ∙ (ap (λ (s : Slots). now ++ keys_of (entries_in s)) part.has.slots_are
          ∙ (ap (λ (ks : List (List ℕ)). ks ++ keys_of (entries_in (part_at b.parts i))) (listed shows b h)
          ∙ (append_assoc old (keys_of (entries_of (take i b.parts))) (keys_of (entries_in (part_at b.parts i)))
          ∙ ap (λ (ks : List (List ℕ)). old ++ ks) (sym (keys_append (entries_of (take i b.parts)) (entries_in (part_at b.parts i))) ∙ ap (λ (es : List Entry). keys_of es) (sym (parts_on b.parts i (omega arith))))))),
      sym part.has.next_is ∙ seen.next_is,
    )

pub listed_on : {u v : View} {first i page before next : ℕ} {P : Slots → Type 0} (old : List (List ℕ)) {now new : List (List ℕ)} → Walks u v first i page before P → AreListed u first i old now → (v.Shows → HasAt v.space.pages.at page (ListsPage now new next)) → AreListed u first (i + 1) old new
listed_on old w listed read = λ shows b h. (page_listed old w listed read shows h).0

pub listed_all : {u v : View} {first i page before next : ℕ} {P : Slots → Type 0} (old : List (List ℕ)) {now new : List (List ℕ)} → Walks u v first i page before P → AreListed u first i old now → (v.Shows → HasAt v.space.pages.at page (ListsPage now new next)) → next ≡ 0 → u.Shows → (b : Bucket) → IsLinked u.space.pages.at first b → new ≡ old ++ keys_of (entries_of b.parts)
listed_all {i = i} {page = page} old w listed read none shows b h =
    let one = page_listed old w listed read shows h in
    let past = index_past b.pages (i + 1) (one.1 ∙ none) (h.behind i) in
    let within = slice_get_within b.pages i page (w.walked shows b h).there in
    let long = h.long in
    one.0 ∙ ap (λ (parts : List Slots). old ++ keys_of (entries_of parts)) (ap (λ (n : ℕ). take n b.parts) (let e : i + 1 ≡ length b.parts = omega arith in e) ∙ take-length b.parts)

-- the next page, as it was read
pub next_listed : {at : ℕ → Option Sheet} {p n next : ℕ} {slots : Slots} {now new : List (List ℕ)} → HasAt at p (IsPart n slots) → HasAt at p (ListsPage now new next) → n ≡ next
next_listed h read = sym h.has.next_is ∙ (both h read).next_is
