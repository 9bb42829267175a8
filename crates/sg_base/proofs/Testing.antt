-- The test of a page is right.
use Rattle.std.proofs.Common.{◌≡◌, ◌↔◌, ℕ, zero, suc, ◌+◌, ◌<◌, ◌≤◌, ◌==◌, ◌&&◌, ◌||◌, nat_le, Bool, true, false, IsTrue, List, length, get_or, refl, sym, subst, arith, inl, inr}
use Rattle.std.proofs.lemmas.Bool.{cases_lt}
use Rattle.std.proofs.lemmas.Bool.Decides.{nat_tests}
use Rattle.sg_base.specs.Page.{count_of, start_of, lost_of, directory_end, offset_at, length_at, slots_of, stored, IsInCell, IsWhole, AreCells, IsSlotted}
use Rattle.sg_base.specs.Slotted.{stands_whole, share_none, is_apart, are_cells, is_slotted}

-- both parts of a test
pub both : (a b : Bool) → a && b ≡ true → (a ≡ true) × (b ≡ true)
both true b e = (refl, e)
both false b e = absurd (cc)

and_true : (a b : Bool) → a ≡ true → b ≡ true → a && b ≡ true
and_true a b ea eb = rw (ea, eb) refl

-- the second holds where the first doesn't
or_else : (n : ℕ) (b : Bool) → (n == 0) || b ≡ true → 0 < n → b ≡ true
or_else n b e some = let t : (n == 0) ≡ false = grind (arith, nat_tests, some) in rw t at e

or_if : (n : ℕ) (b : Bool) → (0 < n → b ≡ true) → (n == 0) || b ≡ true
or_if n b h = elim (cases_lt 0 n) [
  | inl some ↦ rw (h some) (or_true (n == 0))
  | inr none ↦ let t : (n == 0) ≡ true = grind (arith, nat_tests, none) in rw t refl
]
  where
    or_true : (a : Bool) → a || true ≡ true
    or_true true = refl
    or_true false = refl

whole_test : (start offset size : ℕ) → stands_whole start offset size ≡ true → (24 ≤ offset) × (0 < size → start ≤ offset) × (offset + size ≤ 4096)
whole_test start offset size e =
    let a = both (nat_le 24 offset && (size == 0 || nat_le start offset)) (nat_le (offset + size) 4096) e in
    let b = both (nat_le 24 offset) (size == 0 || nat_le start offset) a.0 in
    (grind (arith, nat_tests, b.0), λ some. (let c = or_else size (nat_le start offset) b.1 some in grind (arith, nat_tests, c)), grind (arith, nat_tests, a.1))

whole_passes : (start offset size : ℕ) → 24 ≤ offset → (0 < size → start ≤ offset) → offset + size ≤ 4096 → stands_whole start offset size ≡ true
whole_passes start offset size low from to =
    and_true (nat_le 24 offset && (size == 0 || nat_le start offset)) (nat_le (offset + size) 4096)
    (and_true (nat_le 24 offset) (size == 0 || nat_le start offset) (grind (arith, nat_tests, low)) (or_if size (nat_le start offset) (λ some. let h = from some in grind (arith, nat_tests, h))))
    (grind (arith, nat_tests, to))

-- ranges that share none
apart_test : (at size other more place : ℕ) → share_none at size other more ≡ true → at ≤ place → place < at + size → other ≤ place → place < other + more → ⊥
apart_test at size other more place e a b c d = grind (arith, nat_tests)

apart_passes : (at size other more : ℕ) → ((place : ℕ) → at ≤ place → place < at + size → other ≤ place → place < other + more → ⊥) → share_none at size other more ≡ true
apart_passes at size other more h =
    elim (cases_lt 0 size) [
      | inr none ↦ let t : (size == 0) ≡ true = grind (arith, nat_tests, none) in rw t refl
      | inl some ↦ elim (cases_lt 0 more) [
        | inr none ↦ grind (arith, nat_tests, none)
        | inl rest ↦ elim (cases_lt other (at + size)) [
          | inl over ↦ elim (cases_lt at (other + more)) [
            | inl under ↦ elim (cases_lt at other) [
              | inl first ↦ absurd (h other (omega arith) over (omega arith) (omega arith))
              | inr later ↦ absurd (h at (omega arith) (omega arith) later under)
            ]
            | inr behind ↦ grind (arith, nat_tests, behind)
          ]
          | inr before ↦ grind (arith, nat_tests, before)
        ]
      ]
    ]

-- the first n slots, one by one
apart_of : (page : List ℕ) (slot n i place : ℕ) → is_apart page slot n ≡ true → i < n → 0 < offset_at page i → IsInCell page slot place → IsInCell page i place → ⊥
unfolding is_apart
apart_of page slot zero i place e below full in_slot in_i = absurd (omega arith)
apart_of page slot (suc n) i place e below full in_slot in_i =
    let parts = both (is_apart page slot n) (offset_at page n == 0 || share_none (offset_at page slot) (length_at page slot) (offset_at page n) (length_at page n)) e in
    elim (cases_lt i n) [
      | inl older ↦ apart_of page slot n i place parts.0 older full in_slot in_i
      | inr last ↦ let same : i ≡ n = omega arith in
          let here : IsInCell page n place = subst (λ (k : ℕ). IsInCell page k place) same in_i in
          let test = or_else (offset_at page n) (share_none (offset_at page slot) (length_at page slot) (offset_at page n) (length_at page n)) parts.1 (subst (λ (k : ℕ). 0 < offset_at page k) same full) in
          apart_test (offset_at page slot) (length_at page slot) (offset_at page n) (length_at page n) place test in_slot.from in_slot.to here.from here.to
    ]

apart_all : (page : List ℕ) (slot n : ℕ) → ((i place : ℕ) → i < n → 0 < offset_at page i → IsInCell page slot place → IsInCell page i place → ⊥) → is_apart page slot n ≡ true
unfolding is_apart
apart_all page slot zero h = refl
apart_all page slot (suc n) h =
    and_true (is_apart page slot n) (offset_at page n == 0 || share_none (offset_at page slot) (length_at page slot) (offset_at page n) (length_at page n))
    (apart_all page slot n (λ i place below. h i place (omega arith)))
    (or_if (offset_at page n) (share_none (offset_at page slot) (length_at page slot) (offset_at page n) (length_at page n))
    (λ full. apart_passes (offset_at page slot) (length_at page slot) (offset_at page n) (length_at page n)
    (λ place a b c d. h n place (omega arith) full (record { from = a; to = b }) (record { from = c; to = d }))))

record AreAll (page : List ℕ) (start n : ℕ) : Type 0 where
  pub whole : (i : ℕ) → i < n → 0 < offset_at page i → IsWhole page start i
  pub apart : (i j place : ℕ) → i < n → j < i → 0 < offset_at page i → 0 < offset_at page j → IsInCell page i place → IsInCell page j place → ⊥

cells_of : (page : List ℕ) (start n : ℕ) → are_cells page start n ≡ true → AreAll page start n
unfolding are_cells
cells_of page start zero e = record { whole = λ i below full. absurd (omega arith); apart = λ i j place below. absurd (omega arith) }
cells_of page start (suc n) e =
    let test : Bool = stands_whole start (offset_at page n) (length_at page n) && is_apart page n n in
    let parts = both (are_cells page start n) (offset_at page n == 0 || test) e in
    let before : AreAll page start n = cells_of page start n parts.0 in
    let here : 0 < offset_at page n → (stands_whole start (offset_at page n) (length_at page n) ≡ true) × (is_apart page n n ≡ true) =
    λ full. both (stands_whole start (offset_at page n) (length_at page n)) (is_apart page n n) (or_else (offset_at page n) test parts.1 full) in
    record {
      whole = λ i below full. elim (cases_lt i n) [
        | inl older ↦ before.whole i older full
        | inr last ↦ let same : i ≡ n = omega arith in
            let w = whole_test start (offset_at page n) (length_at page n) (here (subst (λ (k : ℕ). 0 < offset_at page k) same full)).0 in
            subst (λ (k : ℕ). IsWhole page start k) (sym same) (record { behind_fields = w.0; from = w.1; to = w.2 })
      ];
      apart = λ i j place below less full_i full_j in_i in_j. elim (cases_lt i n) [
        | inl older ↦ before.apart i j place older less full_i full_j in_i in_j
        | inr last ↦ let same : i ≡ n = omega arith in
            apart_of page n n j place (here (subst (λ (k : ℕ). 0 < offset_at page k) same full_i)).1 (omega arith) full_j (subst (λ (k : ℕ). IsInCell page k place) same in_i) in_j
      ];
    }

cells_all : (page : List ℕ) (start n : ℕ) → AreAll page start n → are_cells page start n ≡ true
unfolding are_cells
cells_all page start zero h = refl
cells_all page start (suc n) h =
    let test : Bool = stands_whole start (offset_at page n) (length_at page n) && is_apart page n n in
    and_true (are_cells page start n) (offset_at page n == 0 || test)
    (cells_all page start n (record { whole = λ i below. h.whole i (omega arith); apart = λ i j place below. h.apart i j place (omega arith) }))
    (or_if (offset_at page n) test (λ full. let w = h.whole n (omega arith) full in
    and_true (stands_whole start (offset_at page n) (length_at page n)) (is_apart page n n)
    (whole_passes start (offset_at page n) (length_at page n) w.behind_fields w.from w.to)
    (apart_all page n n (λ i place below more in_n in_i. h.apart n i place (omega arith) below full more in_n in_i))))

-- in the words of a page of slots
cells_are : (page : List ℕ) (start n : ℕ) → AreAll page start n → AreCells page start n
cells_are page start n h = record {
  whole = λ i has. h.whole i has.below has.full;
  apart = λ i j place hi hj ne in_i in_j. elim (cases_lt j i) [
    | inl less ↦ h.apart i j place hi.below less hi.full hj.full in_i in_j
    | inr more ↦ h.apart j i place hj.below (omega arith) hj.full hi.full in_j in_i
  ];
}

are_all : (page : List ℕ) (start n : ℕ) → AreCells page start n → AreAll page start n
are_all page start n h = record {
  whole = λ i below full. h.whole i (record { below = below; full = full });
  apart = λ i j place below less full_i full_j. h.apart i j place (record { below = below; full = full_i }) (record { below = omega arith; full = full_j }) (omega arith);
}

pub is_slotted_page : (page : List ℕ) → is_slotted page ≡ true → IsSlotted page
unfolding is_slotted
is_slotted_page page e =
    let size : Bool = length page == 4096 in
    let unused : Bool = get_or page 9 0 == 0 in
    let directory : Bool = nat_le (directory_end page) (start_of page) in
    let cells : Bool = are_cells page (start_of page) (count_of page) in
    let filled : Bool = start_of page + (stored (slots_of page) + lost_of page) == 4096 in
    let a = both (size && unused && directory && cells) filled e in
    let b = both (size && unused && directory) cells a.0 in
    let c = both (size && unused) directory b.0 in
    let d = both size unused c.0 in
    record {
      size = grind (arith, nat_tests, d.0);
      unused = grind (arith, nat_tests, d.1);
      directory = grind (arith, nat_tests, c.1);
      cells = cells_are page (start_of page) (count_of page) (cells_of page (start_of page) (count_of page) b.1);
      filled = grind (arith, nat_tests, a.1);
    }

pub slotted_passes : (page : List ℕ) → IsSlotted page → is_slotted page ≡ true
unfolding is_slotted
slotted_passes page g =
    let a = g.size in let b = g.unused in let c = g.directory in let d = g.filled in
    let size : (length page == 4096) ≡ true = grind (arith, nat_tests, a) in
    let unused : (get_or page 9 0 == 0) ≡ true = grind (arith, nat_tests, b) in
    let directory : nat_le (directory_end page) (start_of page) ≡ true = grind (arith, nat_tests, c) in
    let cells : are_cells page (start_of page) (count_of page) ≡ true = cells_all page (start_of page) (count_of page) (are_all page (start_of page) (count_of page) g.cells) in
    let filled : (start_of page + (stored (slots_of page) + lost_of page) == 4096) ≡ true = grind (arith, nat_tests, d) in
    rw (size, unused, directory, cells, filled) refl

-- an answer that is given exactly for a page of slots
same_answer : (a b : Bool) → (a ≡ true → b ≡ true) → (b ≡ true → a ≡ true) → a ≡ b
same_answer true b to from = sym (to refl)
same_answer false true to from = from refl
same_answer false false to from = refl

pub answer_is : (page : List ℕ) (answer : Bool) → (IsTrue answer ↔ IsSlotted page) → answer ≡ is_slotted page
answer_is page answer h = same_answer answer (is_slotted page) (λ e. slotted_passes page (h.0 e)) (λ e. h.1 (is_slotted_page page e))
