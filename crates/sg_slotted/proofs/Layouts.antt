-- The bytes that each step leaves, from those of the writes that it makes.
use Rattle.std.proofs.Common.{◌≡◌, ◌==◌, ◌≢◌, ℕ, ◌+◌, ◌-◌, ◌*◌, ◌<◌, ◌≤◌, List, Option, length, set, refl, sym, ap, ◌∙◌, arith, add-one, nat_lt, true, false}
use Rattle.std.proofs.lemmas.Bool.Decides.{nat_tests}
use Rattle.byteorder.specs.Endian.{little_bytes}
use Rattle.sg_base.specs.Overwritten.{overwritten}
use Rattle.sg_base.specs.Page.{count_of, start_of, lost_of, offset_at, length_at, cell_in, slots_of, directory_end}
use Rattle.sg_slotted.specs.Layout.{with_u16, grown, filled, cleared, emptied, filled_with, rebuilt, compacted, roomy, store_layout, push_layout, lsn_layout, links_layout, format_layout, put_layout, set_layout}

pub entry_written : (p0 p1 p2 : List ℕ) (slot offset size : ℕ) → p1 ≡ overwritten p0 (24 + 4 * slot) (little_bytes 2 offset) → p2 ≡ overwritten p1 (24 + 4 * slot + 2) (little_bytes 2 size) → p2 ≡ with_u16 (with_u16 p0 (24 + 4 * slot) offset) (26 + 4 * slot) size
entry_written p0 p1 p2 slot offset size e1 e2 =
    let place : 24 + 4 * slot + 2 ≡ 26 + 4 * slot = omega arith in
    e2 ∙ (ap (λ (n : ℕ). overwritten p1 n (little_bytes 2 size)) place ∙ ap (λ (p : List ℕ). overwritten p (26 + 4 * slot) (little_bytes 2 size)) e1)

pub grown_is : (p0 p1 p2 : List ℕ) (count : ℕ) → count ≡ count_of p0 → p1 ≡ overwritten p0 (24 + 4 * count) (little_bytes 2 0) → p2 ≡ overwritten p1 10 (little_bytes 2 (count + 1)) → p2 ≡ grown p0
unfolding grown
grown_is p0 p1 p2 count is e1 e2 =
    e2 ∙ (ap (λ (p : List ℕ). overwritten p 10 (little_bytes 2 (count + 1))) e1 ∙ ap (λ (n : ℕ). overwritten (overwritten p0 (24 + 4 * n) (little_bytes 2 0)) 10 (little_bytes 2 (n + 1))) is)

pub filled_is : (p0 p1 p2 p3 : List ℕ) (slot start : ℕ) (cell : List ℕ) → start ≡ start_of p0 → p1 ≡ overwritten p0 (start - length cell) cell → p2 ≡ overwritten p1 12 (little_bytes 2 (start - length cell)) → p3 ≡ with_u16 (with_u16 p2 (24 + 4 * slot) (start - length cell)) (26 + 4 * slot) (length cell) → p3 ≡ filled p0 slot cell
unfolding filled
filled_is p0 p1 p2 p3 slot start cell is e1 e2 e3 =
    let F : List ℕ → ℕ → List ℕ = λ p top. with_u16 (with_u16 p (24 + 4 * slot) top) (26 + 4 * slot) (length cell) in
    e3 ∙ (ap (λ (p : List ℕ). F p (start - length cell)) (e2 ∙ ap (λ (p : List ℕ). overwritten p 12 (little_bytes 2 (start - length cell))) e1) ∙ ap (λ (n : ℕ). F (overwritten (overwritten p0 (n - length cell) cell) 12 (little_bytes 2 (n - length cell))) (n - length cell)) is)

pub cleared_is : (p0 p1 p2 : List ℕ) (slot lost size : ℕ) → lost ≡ lost_of p0 → size ≡ length_at p0 slot → p1 ≡ overwritten p0 14 (little_bytes 2 (lost + size)) → p2 ≡ overwritten p1 (24 + 4 * slot) (little_bytes 2 0) → p2 ≡ cleared p0 slot
unfolding cleared
cleared_is p0 p1 p2 slot lost size is_lost is_size e1 e2 =
    e2 ∙ (ap (λ (p : List ℕ). overwritten p (24 + 4 * slot) (little_bytes 2 0)) e1 ∙ (ap (λ (n : ℕ). overwritten (overwritten p0 14 (little_bytes 2 (n + size))) (24 + 4 * slot) (little_bytes 2 0)) is_lost ∙ ap (λ (n : ℕ). overwritten (overwritten p0 14 (little_bytes 2 (lost_of p0 + n))) (24 + 4 * slot) (little_bytes 2 0)) is_size))

pub emptied_is : (p0 p1 p2 p3 p4 : List ℕ) → p1 ≡ set p0 9 0 → p2 ≡ overwritten p1 10 (little_bytes 2 0) → p3 ≡ overwritten p2 12 (little_bytes 2 4096) → p4 ≡ overwritten p3 14 (little_bytes 2 0) → p4 ≡ emptied p0
unfolding emptied
emptied_is p0 p1 p2 p3 p4 e1 e2 e3 e4 =
    e4 ∙ ap (λ (p : List ℕ). overwritten p 14 (little_bytes 2 0)) (e3 ∙ ap (λ (p : List ℕ). overwritten p 12 (little_bytes 2 4096)) (e2 ∙ ap (λ (p : List ℕ). overwritten p 10 (little_bytes 2 0)) e1))

pub begun : (base page : List ℕ) (slots : List (Option (List ℕ))) → page ≡ base → page ≡ rebuilt base slots 0
unfolding rebuilt
begun base page slots e = e

pub further : (base page more new : List ℕ) (slots : List (Option (List ℕ))) (n : ℕ) (cell : Option (List ℕ)) → page ≡ rebuilt base slots n → more ≡ grown page → new ≡ filled_with more n cell → cell ≡ cell_in slots n → new ≡ rebuilt base slots (n + 1)
unfolding rebuilt
further base page more new slots n cell e1 e2 e3 e4 =
    e3 ∙ (ap (λ (p : List ℕ). filled_with p n cell) (e2 ∙ ap grown e1) ∙ (ap (filled_with (grown (rebuilt base slots n)) n) e4 ∙ sym (ap (rebuilt base slots) (add-one n))))

pub compacted_is : (page copy new : List ℕ) → copy ≡ page → new ≡ rebuilt (emptied page) (slots_of copy) (length (slots_of copy)) → new ≡ compacted page
unfolding compacted
compacted_is page copy new same e = e ∙ ap (λ (p : List ℕ). rebuilt (emptied page) (slots_of p) (length (slots_of p))) same

pub roomy_small : (page new : List ℕ) (need : ℕ) → start_of page < directory_end page + need → new ≡ compacted page → new ≡ roomy page need
unfolding roomy
roomy_small page new need less e = let t : nat_lt (start_of page) (directory_end page + need) ≡ true = grind (arith, nat_tests, less) in rw t e

pub roomy_enough : (page : List ℕ) (need : ℕ) → directory_end page + need ≤ start_of page → page ≡ roomy page need
unfolding roomy
roomy_enough page need enough = let t : nat_lt (start_of page) (directory_end page + need) ≡ false = grind (arith, nat_tests, enough) in rw t refl

pub stored_is : (p0 p1 p2 : List ℕ) (slot : ℕ) (cell : List ℕ) → p1 ≡ roomy p0 (length cell) → p2 ≡ filled p1 slot cell → p2 ≡ store_layout p0 slot cell
unfolding store_layout
stored_is p0 p1 p2 slot cell e1 e2 = e2 ∙ ap (λ (p : List ℕ). filled p slot cell) e1

pub pushed_is : (p0 p1 p2 p3 : List ℕ) (slot : ℕ) (cell : List ℕ) → p1 ≡ roomy p0 (4 + length cell) → slot ≡ length (slots_of p1) → p2 ≡ grown p1 → p3 ≡ filled p2 slot cell → p3 ≡ push_layout p0 cell
unfolding push_layout
pushed_is p0 p1 p2 p3 slot cell e1 is e2 e3 =
    e3 ∙ (ap (λ (p : List ℕ). filled p slot cell) e2 ∙ (ap (λ (n : ℕ). filled (grown p1) n cell) is ∙ ap (λ (p : List ℕ). filled (grown p) (length (slots_of p)) cell) e1))

pub lsn_set : (old new : List ℕ) (lsn : ℕ) → new ≡ overwritten old 0 (little_bytes 8 lsn) → new ≡ lsn_layout old lsn
unfolding lsn_layout
lsn_set old new lsn e = e

pub links_set : (p0 p1 p2 : List ℕ) (a b : ℕ) → p1 ≡ overwritten p0 16 (little_bytes 4 a) → p2 ≡ overwritten p1 20 (little_bytes 4 b) → p2 ≡ links_layout p0 a b
unfolding links_layout
links_set p0 p1 p2 a b e1 e2 = e2 ∙ ap (λ (p : List ℕ). overwritten p 20 (little_bytes 4 b)) e1

pub formatted : (p0 p1 p2 p3 : List ℕ) (kind : ℕ) → p1 ≡ emptied p0 → p2 ≡ set p1 8 kind → p3 ≡ links_layout p2 0 0 → p3 ≡ format_layout p0 kind
unfolding format_layout
formatted p0 p1 p2 p3 kind e1 e2 e3 = e3 ∙ ap (λ (p : List ℕ). links_layout p 0 0) (e2 ∙ ap (λ (p : List ℕ). set p 8 kind) e1)

pub put_below : (page new : List ℕ) (slot : ℕ) (cell : List ℕ) → slot < length (slots_of page) → new ≡ store_layout page slot cell → new ≡ put_layout page slot cell
unfolding put_layout
put_below page new slot cell below e = let t : nat_lt slot (length (slots_of page)) ≡ true = grind (arith, nat_tests, below) in rw t e

pub put_behind : (page new : List ℕ) (slot : ℕ) (cell : List ℕ) → length (slots_of page) ≤ slot → new ≡ push_layout page cell → new ≡ put_layout page slot cell
unfolding put_layout
put_behind page new slot cell past e = let t : nat_lt slot (length (slots_of page)) ≡ false = grind (arith, nat_tests, past) in rw t e

pub set_in_place : (page new : List ℕ) (slot : ℕ) (cell : List ℕ) → length cell ≡ length_at page slot → new ≡ overwritten page (offset_at page slot) cell → new ≡ set_layout page slot cell
unfolding set_layout
set_in_place page new slot cell same e = let t : (length cell == length_at page slot) ≡ true = grind (arith, nat_tests, same) in rw t e

pub set_again : (p0 p1 p2 : List ℕ) (slot : ℕ) (cell : List ℕ) → length cell ≢ length_at p0 slot → p1 ≡ cleared p0 slot → p2 ≡ store_layout p1 slot cell → p2 ≡ set_layout p0 slot cell
unfolding set_layout
set_again p0 p1 p2 slot cell other e1 e2 =
    let t : (length cell == length_at p0 slot) ≡ false = grind (arith, nat_tests, other) in
    rw t (e2 ∙ ap (λ (p : List ℕ). store_layout p slot cell) e1)
