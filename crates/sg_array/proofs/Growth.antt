-- An array that gets a page more.
use Rattle.std.proofs.Common.{◌≡◌, ◌≢◌, ℕ, ◌+◌, ◌-◌, ◌*◌, ◌/◌, ◌%◌, ◌<◌, ◌≤◌, ◌⊎◌, ◌^◌, ◌++◌, List, [], ◌∷◌, length, Option, Some, None, sym, ap, ◌∙◌, refl, arith, get_or, slice_get, inl, inr, subst}
use Rattle.std.proofs.lemmas.Bool.{cases_eq}
use Rattle.std.proofs.lemmas.List.{length_push}
use Rattle.std.proofs.lemmas.Option.{slice_get_within, slice_get-get_or, slice_get_past}
use Rattle.std.proofs.Math.Nat.{mul-le-mul_left}
use Rattle.byteorder.specs.Endian.{little_bytes}
use Rattle.sg_base.specs.Op.Op.{Put}
use Rattle.sg_base.specs.Page.{cell_in}
use Rattle.sg_base.specs.Sheet.{Sheet}
use Rattle.sg_base.specs.Slots.{with_cell}
use Rattle.sg_ops.specs.Steps.{step}
use Rattle.sg_ops.specs.Table.{Table}
use Rattle.sg_slotted.proofs.Room.{full_below}
use Rattle.sg_space.specs.Links.{link_cell}
use Rattle.sg_space.specs.Owned.{Grows}
use Rattle.sg_space.specs.Pages.{empty_sheet, IsPossible}
use Rattle.sg_space.specs.Units.{HasAt, IsChanged, IsTaken}
use Rattle.sg_space.specs.View.{Space, View, Keeps, MayFill}
use Rattle.sg_space.proofs.Changing.{put_possible}
use Rattle.sg_space.proofs.Known.{moved, same_some}
use Rattle.sg_space.proofs.Putting.{cell-with_same, cell-with_other, length-with, put_step, slice_get-push_same, slice_get-push_other}
use Rattle.sg_array.specs.Array.{Array, IsBuilt, IsRoot, IsIndex, IsLeaf, ArePages, Owns, page_count, per_page}
use Rattle.sg_array.specs.Calls.{IsRoomy}
use Rattle.sg_array.specs.Steps.{IsLinked, HasRoom, with_pages}
use Rattle.sg_array.proofs.Sheets.{with_put, root_bytes, index_bytes}
use Rattle.sg_array.proofs.Turned.{other_kind}

-- a page that is there isn't free
pub not_free : {pages : ℕ → Option Sheet} {p q : ℕ} {P : Sheet → Type 0} → pages q ≡ None → HasAt pages p P → p ≢ q
not_free {pages} {p} {q} none h e = let some : pages q ≡ Some h.what = ap pages (sym e) ∙ h.is in (cc)

-- a number of a page is put into the slot
pub link_step : (t : Table) {sheet : Sheet} (slot q : ℕ) (cell : List ℕ) → HasRoom slot sheet → cell ≡ little_bytes 4 q → step t (Put slot cell) sheet ≡ Some (with_put sheet slot (little_bytes 4 q))
link_step t {sheet} slot q cell h e = ap (λ (x : List ℕ). step t (Put slot x) sheet) e ∙ put_step t sheet slot (little_bytes 4 q) h.free (h.room q)

pub link_possible : (t : Table) (v : View) {p slot : ℕ} (q : ℕ) (cell : List ℕ) → HasAt v.space.pages.at p (HasRoom slot) → v.MayHave p (slot + 1) → cell ≡ little_bytes 4 q → HasAt v.space.pages.at p (IsPossible t v p (Put slot cell))
link_possible t v {p} {slot} q cell h may e = record { what = h.what; is = h.is; has = put_possible t v p slot cell may (link_step t slot q cell h.has e) }

pub link_steps : (t : Table) {old mid new : Space} {kind p q slot : ℕ} (cell : List ℕ) → IsTaken old.pages mid.pages q (λ sheet. sheet ≡ empty_sheet kind) → mid.bands ≡ old.bands → IsChanged mid.pages new.pages p (step t (Put slot cell)) → new.bands ≡ mid.bands → HasAt old.pages.at p (HasRoom slot) → cell ≡ little_bytes 4 q → IsLinked old new kind q p slot
link_steps t {old} {mid} {new} {kind} {p} {q} {slot} cell k mid_bands c bands h e =
    let apart : p ≢ q = not_free k.was_free h in
    let fresh : mid.pages.at q ≡ Some (empty_sheet kind) = k.fresh.is ∙ ap (λ (s : Sheet). Some s) k.fresh.has in
    record {
      was_free = k.was_free;
      fresh = c.others q (λ (i : q ≡ p). apart (sym i)) ∙ fresh;
      page = λ sheet is.
          let same : h.what ≡ sheet = same_some _ _ (sym h.is ∙ is) in
          let made : step t (Put slot cell) sheet ≡ Some (with_put sheet slot (little_bytes 4 q)) = subst (λ (s : Sheet). step t (Put slot cell) s ≡ Some (with_put s slot (little_bytes 4 q))) same (link_step t slot q cell h.has e) in
          c.here sheet (k.others p apart ∙ is) ∙ made;
      others = λ r nq np. c.others r np ∙ k.others r nq;
      free = ap (λ (n : ℕ). n + 1) c.free ∙ k.free;
      count = c.count ∙ k.count;
      bands = bands ∙ mid_bands;
    }

-- another page that was there
pub keep : {old new : Space} {kind q p r slot : ℕ} {P Q : Sheet → Type 0} → IsLinked old new kind q p slot → (h : HasAt old.pages.at p P) (k : HasAt old.pages.at r Q) (m n : ℕ) → (h.what).kind ≡ m → (k.what).kind ≡ n → m ≢ n → HasAt new.pages.at r Q
keep {r = r} l h k m n is js ne = moved (l.others r (not_free l.was_free k) (other_kind h k m n is js ne)) k

-- an element of a list with one more
pub pushed_at : (ps : List ℕ) (q i p : ℕ) → slice_get (ps ++ (q ∷ [])) i ≡ Some p → (slice_get ps i ≡ Some p) ⊎ ((i ≡ length ps) × (p ≡ q))
pushed_at ps q i p e = elim (cases_eq i (length ps)) [
  | inl is ↦ inr (is, same_some p q (sym e ∙ slice_get-push_same ps i q is))
  | inr ne ↦ inl (sym (slice_get-push_other ps i q ne) ∙ e)
]

pub in_front : (ps : List ℕ) (q i p : ℕ) → slice_get ps i ≡ Some p → slice_get (ps ++ (q ∷ [])) i ≡ Some p
in_front ps q i p e =
    let below : i < length ps = slice_get_within ps i p e in
    slice_get-push_other ps i q (λ is. omega arith) ∙ e

-- a new page behind others
pub more_pages : (pages : ℕ → Option Sheet) (ps : List ℕ) (q : ℕ) → ArePages ps → q < 2 ^ 32 → pages q ≡ None → ((i p : ℕ) → slice_get ps i ≡ Some p → pages p ≢ None) → ArePages (ps ++ (q ∷ []))
more_pages pages ps q h small none there = record {
  fit = λ i p e. elim (pushed_at ps q i p e) [
    | inl before ↦ h.fit i p before
    | inr last ↦ subst (λ (x : ℕ). x < 2 ^ 32) (sym last.1) small
  ];
  apart = λ i j p e f. elim (pushed_at ps q i p e) [
    | inl before ↦ elim (pushed_at ps q j p f) [
      | inl other ↦ h.apart i j p before other
      | inr last ↦ absurd (there i p before (ap pages last.1 ∙ none))
    ]
    | inr mine ↦ elim (pushed_at ps q j p f) [
      | inl other ↦ absurd (there j p other (ap pages mine.1 ∙ none))
      | inr last ↦ mine.0 ∙ sym last.0
    ]
  ];
}

-- the slot behind the links of a root is free
pub root_next : {size count peak : ℕ} {index : List ℕ} {sheet : Sheet} → IsRoot size count peak index sheet → length index + 1 ≤ length sheet.slots
root_next {index = index} {sheet = sheet} h = elim (cases_eq (length index) 0) [
  | inl e ↦ let first : 0 < length sheet.slots = full_below sheet.slots 0 _ (sym h.first) in omega arith
  | inr ne ↦
      let before : length index - 1 < length index = omega arith in
      let link : cell_in sheet.slots (length index - 1 + 1) ≡ Some (little_bytes 4 (get_or index (length index - 1) 0)) = h.links (length index - 1) ∙ ap link_cell (slice_get-get_or index (length index - 1) 0 before) in
      let below : length index - 1 + 1 < length sheet.slots = full_below sheet.slots (length index - 1 + 1) _ (sym link) in
      omega arith
]

pub root_with : {size count peak : ℕ} {index : List ℕ} {sheet : Sheet} (q : ℕ) → length index < 138 → IsRoot size count peak index sheet → IsRoot size count peak (index ++ (q ∷ [])) (with_put sheet (length index + 1) (little_bytes 4 q))
root_with {index = index} {sheet = sheet} q few h =
    let room : length index + 1 ≤ length sheet.slots = root_next h in
    record {
      kind = h.kind;
      first = cell-with_other sheet.slots (length index + 1) 0 (little_bytes 4 q) room (λ e. omega arith) ∙ h.first;
      links = λ j. elim (cases_eq j (length index)) [
        | inl e ↦ subst (λ (n : ℕ). cell_in (with_cell sheet.slots (length index + 1) (little_bytes 4 q)) (n + 1) ≡ link_cell (slice_get (index ++ (q ∷ [])) n)) (sym e)
            (cell-with_same sheet.slots (length index + 1) (little_bytes 4 q) room ∙ sym (ap link_cell (slice_get-push_same index (length index) q refl)))
        | inr ne ↦ cell-with_other sheet.slots (length index + 1) (j + 1) (little_bytes 4 q) room (λ (e : j + 1 ≡ length index + 1). ne (omega arith)) ∙ (h.links j ∙ sym (ap link_cell (slice_get-push_other index j q ne)))
      ];
      few = length-with sheet.slots (length index + 1) (little_bytes 4 q) 139 (omega arith) room h.few;
    }

pub root_room : {size count peak : ℕ} {index : List ℕ} {sheet : Sheet} → IsRoot size count peak index sheet → length index < 138 → HasRoom (length index + 1) sheet
root_room {index = index} h few = record {
  free = record { next = root_next h; empty = h.links (length index) ∙ ap link_cell (slice_get_past index (length index) (omega arith)) };
  room = λ q. root_bytes (root_with q few h);
}

-- one more index page, which names no page yet
pub add_index : {old new : Space} {root : ℕ} {a : Array} (q : ℕ) → IsBuilt old.pages.at root a → IsLinked old new 3 q root (length a.index + 1) → q < 2 ^ 32 → length a.index < 138 → IsBuilt new.pages.at root (with_pages a (a.index ++ (q ∷ [])) a.leaves)
add_index {old} {new} {root} {a} q h l small few =
    let names = h.names in
    let first = names.first in
    record {
      names = record {
        first = record { what = _; is = l.page first.what first.is; has = root_with q few first.has };
        index = λ j p e. elim (pushed_at a.index q j p e) [
          | inl before ↦ let k = names.index j p before in keep l first k 2 3 first.has.kind k.has.kind (omega arith)
          | inr last ↦ subst (λ (x : ℕ). HasAt new.pages.at x (IsIndex a.leaves j)) (sym last.1) (record {
            what = empty_sheet 3;
            is = l.fresh;
            has = record {
              kind = refl;
              cells = λ e below. let least = names.index_least in let at = last.0 in let past : length a.leaves ≤ 509 * j + e = omega arith in sym (ap link_cell (slice_get_past a.leaves (509 * j + e) past));
              few = omega arith;
            };
          })
        ];
        index_pages = more_pages old.pages.at a.index q names.index_pages small l.was_free (λ i p e none. not_free none (names.index i p e) refl);
        leaf_pages = names.leaf_pages;
        index_least = let least = names.index_least in let long = length_push a.index q in omega arith;
      };
      leaf = λ d p e. let k = h.leaf d p e in keep l first k 2 4 first.has.kind k.has.kind (omega arith);
      leaf_least = h.leaf_least;
      limits = record { some = h.limits.some; small = h.limits.small; each = h.limits.each; below_peak = h.limits.below_peak; few = h.limits.few };
    }

-- the slot behind the numbers of an index page is free
pub index_next : {leaves : List ℕ} {j : ℕ} {sheet : Sheet} → length leaves / 509 ≡ j → IsIndex leaves j sheet → length leaves % 509 ≤ length sheet.slots
index_next {leaves} {j} {sheet} at h = elim (cases_eq (length leaves % 509) 0) [
  | inl e ↦ omega arith
  | inr ne ↦
      let before : 509 * j + (length leaves % 509 - 1) < length leaves = omega arith in
      let link : cell_in sheet.slots (length leaves % 509 - 1) ≡ Some (little_bytes 4 (get_or leaves (509 * j + (length leaves % 509 - 1)) 0)) = h.cells (length leaves % 509 - 1) (omega arith) ∙ ap link_cell (slice_get-get_or leaves (509 * j + (length leaves % 509 - 1)) 0 before) in
      let below : length leaves % 509 - 1 < length sheet.slots = full_below sheet.slots (length leaves % 509 - 1) _ (sym link) in
      omega arith
]

pub index_with : {leaves : List ℕ} {j : ℕ} {sheet : Sheet} (p : ℕ) → length leaves / 509 ≡ j → IsIndex leaves j sheet → IsIndex (leaves ++ (p ∷ [])) j (with_put sheet (length leaves % 509) (little_bytes 4 p))
index_with {leaves} {j} {sheet} p at h =
    let room : length leaves % 509 ≤ length sheet.slots = index_next at h in
    let place : 509 * j + length leaves % 509 ≡ length leaves = omega arith in
    record {
      kind = h.kind;
      cells = λ e below. elim (cases_eq e (length leaves % 509)) [
        | inl is ↦
            let here : 509 * j + e ≡ length leaves = omega arith in
            ap (λ (n : ℕ). cell_in (with_cell sheet.slots (length leaves % 509) (little_bytes 4 p)) n) is
            ∙ (cell-with_same sheet.slots (length leaves % 509) (little_bytes 4 p) room ∙ sym (ap link_cell (slice_get-push_same leaves (509 * j + e) p here)))
        | inr ne ↦
            let other : 509 * j + e ≢ length leaves = λ (i : 509 * j + e ≡ length leaves). ne (omega arith) in
            cell-with_other sheet.slots (length leaves % 509) e (little_bytes 4 p) room ne ∙ (h.cells e below ∙ sym (ap link_cell (slice_get-push_other leaves (509 * j + e) p other)))
      ];
      few = length-with sheet.slots (length leaves % 509) (little_bytes 4 p) 509 (omega arith) room h.few;
    }

pub index_room : {leaves : List ℕ} {j : ℕ} {sheet : Sheet} → length leaves / 509 ≡ j → IsIndex leaves j sheet → HasRoom (length leaves % 509) sheet
index_room {leaves} {j} at h =
    let past : length leaves ≤ 509 * j + length leaves % 509 = omega arith in
    record {
      free = record { next = index_next at h; empty = h.cells (length leaves % 509) (omega arith) ∙ ap link_cell (slice_get_past leaves (509 * j + length leaves % 509) past) };
      room = λ q. index_bytes (index_with q at h);
    }

-- one more item page, which has no items yet
pub add_leaf : {old new : Space} {root : ℕ} {a : Array} (p q : ℕ) → IsBuilt old.pages.at root a → slice_get a.index (length a.leaves / 509) ≡ Some q → IsLinked old new 4 p q (length a.leaves % 509) → p < 2 ^ 32 → length a.items ≤ per_page a.size * length a.leaves → IsBuilt new.pages.at root (with_pages a a.index (a.leaves ++ (p ∷ [])))
add_leaf {old} {new} {root} {a} p q h at l small most =
    let names = h.names in
    let page = names.index (length a.leaves / 509) q at in
    let long : length (a.leaves ++ (p ∷ [])) ≡ length a.leaves + 1 = length_push a.leaves p in
    record {
      names = record {
        first = keep l page names.first 3 2 page.has.kind names.first.has.kind (omega arith);
        index = λ j r e. elim (cases_eq j (length a.leaves / 509)) [
          | inl is ↦
              let there : slice_get a.index j ≡ Some q = ap (λ (n : ℕ). slice_get a.index n) is ∙ at in
              let same : q ≡ r = same_some q r (sym there ∙ e) in
              subst (λ (x : ℕ). HasAt new.pages.at x (IsIndex (a.leaves ++ (p ∷ [])) j)) same
              (record { what = _; is = l.page page.what page.is; has = index_with p (sym is) (subst (λ (n : ℕ). IsIndex a.leaves n page.what) (sym is) page.has) })
          | inr ne ↦
              let k = names.index j r e in
              let other : r ≢ q = λ (i : r ≡ q). ne (names.index_pages.apart j (length a.leaves / 509) r e (at ∙ ap Some (sym i))) in
              record {
                what = k.what;
                is = l.others r (not_free l.was_free k) other ∙ k.is;
                has = record {
                  kind = k.has.kind;
                  cells = λ e below. k.has.cells e below ∙ sym (ap link_cell (slice_get-push_other a.leaves (509 * j + e) p (λ (i : 509 * j + e ≡ length a.leaves). ne (omega arith))));
                  few = k.has.few;
                };
              }
        ];
        index_pages = names.index_pages;
        leaf_pages = more_pages old.pages.at a.leaves p names.leaf_pages small l.was_free (λ i r e none. not_free none (h.leaf i r e) refl);
        index_least = let within : length a.leaves / 509 < length a.index = slice_get_within a.index (length a.leaves / 509) q at in omega arith;
      };
      leaf = λ d r e. elim (pushed_at a.leaves p d r e) [
        | inl before ↦ let k = h.leaf d r before in keep l page k 3 4 page.has.kind k.has.kind (omega arith)
        | inr last ↦ subst (λ (x : ℕ). HasAt new.pages.at x (IsLeaf a.size a.items d)) (sym last.1) (record {
          what = empty_sheet 4;
          is = l.fresh;
          has = record {
            kind = refl;
            cells = λ m below. let past : length a.items ≤ per_page a.size * d + m = subst (λ (n : ℕ). length a.items ≤ per_page a.size * n + m) (sym last.0) (omega arith) in sym (slice_get_past a.items (per_page a.size * d + m) past);
            few = omega arith;
          };
        })
      ];
      leaf_least = let least = h.leaf_least in rw long (let more : per_page a.size * length a.leaves ≤ per_page a.size * (length a.leaves + 1) = mul-le-mul_left (per_page a.size) (omega arith) in omega arith);
      limits = record { some = h.limits.some; small = h.limits.small; each = h.limits.each; below_peak = h.limits.below_peak; few = h.limits.few };
    }

-- the pages that an array owns are there
pub owns_there : {pages : ℕ → Option Sheet} {root : ℕ} {a : Array} → IsBuilt pages root a → (p : ℕ) → Owns root a p → pages p ≡ None → ⊥
owns_there h p (inl is) none = not_free none h.names.first (sym is)
owns_there h p (inr (inl (j, e))) none = not_free none (h.names.index j p e) refl
owns_there h p (inr (inr (d, e))) none = not_free none (h.leaf d p e) refl

pub index_grows : {old new : Space} {root q : ℕ} (a : Array) → IsLinked old new 3 q root (length a.index + 1) → Grows old.pages new.pages (Owns root a) (Owns root (with_pages a (a.index ++ (q ∷ [])) a.leaves)) (page_count a) (page_count (with_pages a (a.index ++ (q ∷ [])) a.leaves))
index_grows {old} {new} {root} {q} a l =
    let long : length (a.index ++ (q ∷ [])) ≡ length a.index + 1 = length_push a.index q in
    let free = l.free in
    record {
      others = λ p no. l.others p (λ (is : p ≡ q). no (inr (inl (length a.index, slice_get-push_same a.index (length a.index) q refl ∙ ap Some (sym is))))) (λ is. no (inl is));
      more = λ p o. elim o [
        | inl is ↦ inl is
        | inr r ↦ elim r [ inl x ↦ inr (inl (x.0, in_front a.index q x.0 p x.1)) | inr x ↦ inr (inr x) ]
      ];
      taken = λ p o. elim o [
        | inl is ↦ inl (inl is)
        | inr r ↦ elim r [
          | inl x ↦ elim (pushed_at a.index q x.0 p x.1) [ inl e ↦ inl (inr (inl (x.0, e))) | inr last ↦ inr (ap old.pages.at last.1 ∙ l.was_free) ]
          | inr x ↦ inl (inr (inr x))
        ]
      ];
      exactly = omega arith;
      all = l.count;
    }

pub leaf_grows : {old new : Space} {root p q : ℕ} (a : Array) → slice_get a.index (length a.leaves / 509) ≡ Some q → IsLinked old new 4 p q (length a.leaves % 509) → Grows old.pages new.pages (Owns root a) (Owns root (with_pages a a.index (a.leaves ++ (p ∷ [])))) (page_count a) (page_count (with_pages a a.index (a.leaves ++ (p ∷ []))))
leaf_grows {old} {new} {root} {p} {q} a at l =
    let long : length (a.leaves ++ (p ∷ [])) ≡ length a.leaves + 1 = length_push a.leaves p in
    let free = l.free in
    record {
      others = λ r no. l.others r (λ (is : r ≡ p). no (inr (inr (length a.leaves, slice_get-push_same a.leaves (length a.leaves) p refl ∙ ap Some (sym is))))) (λ (is : r ≡ q). no (inr (inl (length a.leaves / 509, at ∙ ap Some (sym is)))));
      more = λ r o. elim o [
        | inl is ↦ inl is
        | inr s ↦ elim s [ inl x ↦ inr (inl x) | inr x ↦ inr (inr (x.0, in_front a.leaves p x.0 r x.1)) ]
      ];
      taken = λ r o. elim o [
        | inl is ↦ inl (inl is)
        | inr s ↦ elim s [
          | inl x ↦ inl (inr (inl x))
          | inr x ↦ elim (pushed_at a.leaves p x.0 r x.1) [ inl e ↦ inl (inr (inr (x.0, e))) | inr last ↦ inr (ap old.pages.at last.1 ∙ l.was_free) ]
        ]
      ];
      exactly = omega arith;
      all = l.count;
    }

-- what may have all its slots may have them still, and so may a new page
pub roomy_index : {v w : View} {root q : ℕ} {a : Array} → IsRoomy v root a → Keeps v w → MayFill w q 1018 → IsRoomy w root (with_pages a (a.index ++ (q ∷ [])) a.leaves)
roomy_index {v} {w} {root} {q} {a} h k fill = record {
  first = λ n le. k.may_have root n (h.first n le);
  index = λ j p e. elim (pushed_at a.index q j p e) as (λ _. MayFill w p 509) [
    | inl before ↦ λ n le. k.may_have p n (h.index j p before n le)
    | inr last ↦ subst (λ (x : ℕ). MayFill w x 509) (sym last.1) (λ n le. fill n (omega arith))
  ];
  leaf = λ d p e n le. k.may_have p n (h.leaf d p e n le);
}

pub roomy_leaf : {v w : View} {root q : ℕ} {a : Array} → IsRoomy v root a → Keeps v w → per_page a.size ≤ 1018 → MayFill w q 1018 → IsRoomy w root (with_pages a a.index (a.leaves ++ (q ∷ [])))
roomy_leaf {v} {w} {root} {q} {a} h k most fill = record {
  first = λ n le. k.may_have root n (h.first n le);
  index = λ j p e n le. k.may_have p n (h.index j p e n le);
  leaf = λ d p e. elim (pushed_at a.leaves q d p e) as (λ _. MayFill w p (per_page a.size)) [
    | inl before ↦ λ n le. k.may_have p n (h.leaf d p before n le)
    | inr last ↦ subst (λ (x : ℕ). MayFill w x (per_page a.size)) (sym last.1) (λ n le. fill n (omega arith))
  ];
}

pub roomy_still : {v w : View} {root : ℕ} {a : Array} → IsRoomy v root a → Keeps v w → IsRoomy w root a
roomy_still {root = root} h k = record {
  first = λ n le. k.may_have root n (h.first n le);
  index = λ j p e n le. k.may_have p n (h.index j p e n le);
  leaf = λ d p e n le. k.may_have p n (h.leaf d p e n le);
}
