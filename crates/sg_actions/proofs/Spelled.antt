-- The change that a record holds says the operation, and what takes it off.
use Rattle.std.proofs.Common.{◌≡◌, ℕ, List, [], ◌∷◌, ◌++◌, length, drop, Option, Some, None, false, sym, ap, ◌∙◌, refl, arith}
use Rattle.std.specs.Prelude.{unwrap_or, option_map}
use Rattle.std.proofs.Math.Seq.{drop-append_seam}
use Rattle.byteorder.specs.Endian.{little_bytes, little_number}
use Rattle.byteorder.specs.Numbers.{little_number-reads_back, length-bytes_low_first}
use Rattle.sg_base.specs.Op.{Op, is_format}
use Rattle.sg_base.specs.Op.Op.{Format, Put, Remove, Set, Links, Item, ItemBack}
use Rattle.sg_base.specs.Sheet.{Sheet}
use Rattle.sg_ops.specs.Steps.{inverse}
use Rattle.sg_record.specs.Changes.{PageChange}
use Rattle.sg_actions.proofs.Said.{IsSaid}
use Rattle.sg_actions.specs.Changes.{op_said, back_said, taken_away, change_with, number_of, brought, BringsLinks, AreLinks}

four : (n : ℕ) → length (little_bytes 4 n) ≡ 4
four n = length-bytes_low_first 0 4 n

-- two numbers of 4 bytes are read back
read_links : (links : ℕ × ℕ) → AreLinks links → (little_number 4 (little_bytes 4 links.0 ++ little_bytes 4 links.1), little_number 4 (drop 4 (little_bytes 4 links.0 ++ little_bytes 4 links.1))) ≡ links
read_links links small =
    let a : little_number 4 (little_bytes 4 links.0 ++ little_bytes 4 links.1) ≡ links.0 = little_number-reads_back 4 links.0 (little_bytes 4 links.1) (omega (arith, small.0)) in
    let e : drop 4 (little_bytes 4 links.0 ++ little_bytes 4 links.1) ≡ little_bytes 4 links.1 = ap (λ (n : ℕ). drop n (little_bytes 4 links.0 ++ little_bytes 4 links.1)) (sym (four links.0)) ∙ drop-append_seam (little_bytes 4 links.0) (little_bytes 4 links.1) in
    let b : little_number 4 (little_bytes 4 links.1 ++ []) ≡ links.1 = little_number-reads_back 4 links.1 [] (omega (arith, small.1)) in
    let c : little_number 4 (drop 4 (little_bytes 4 links.0 ++ little_bytes 4 links.1)) ≡ links.1 = ap (little_number 4) (e ∙ sym (nothing_behind (little_bytes 4 links.1))) ∙ b in
    λ j. (a j, c j)
  where
    nothing_behind : (xs : List ℕ) → xs ++ [] ≡ xs
    nothing_behind [] = refl
    nothing_behind (x ∷ xs) = ap (λ ys. x ∷ ys) (nothing_behind xs)

pub said_is : (page : ℕ) (op : Op) (before after links : List ℕ) → is_format op ≡ false → BringsLinks op links → after ≡ unwrap_or (brought op) links
    → op_said (change_with page (number_of op).0 (number_of op).1 (number_of op).2 before after) ≡ op
said_is page (Format kind) before after links plain given e = absurd (cc)
said_is page (Put slot bytes) before after links plain given e = ap (Put slot) e
said_is page (Remove slot) before after links plain given e = refl
said_is page (Set slot bytes) before after links plain given e = ap (Set slot) e
said_is page (Links l) before after links plain given e = ap (λ (xs : List ℕ). Links (little_number 4 xs, little_number 4 (drop 4 xs))) (e ∙ given.0) ∙ ap Links (read_links l given.1)
said_is page (Item slot code arg) before after links plain given e = ap (Item slot code) e
said_is page (ItemBack slot code arg) before after links plain given e = ap (ItemBack slot code) e

pub back_is : (page : ℕ) (op : Op) (before after links : List ℕ) (sheet : Sheet) → is_format op ≡ false → AreLinks sheet.links → before ≡ taken_away op sheet → after ≡ unwrap_or (brought op) links
    → back_said (change_with page (number_of op).0 (number_of op).1 (number_of op).2 before after) ≡ inverse op sheet
back_is page (Format kind) before after links sheet plain small b e = absurd (cc)
back_is page (Put slot bytes) before after links sheet plain small b e = refl
back_is page (Remove slot) before after links sheet plain small b e = ap (Put slot) b
back_is page (Set slot bytes) before after links sheet plain small b e = ap (Set slot) b
back_is page (Links l) before after links sheet plain small b e = ap (λ (xs : List ℕ). Links (little_number 4 xs, little_number 4 (drop 4 xs))) b ∙ ap Links (read_links sheet.links small)
back_is page (Item slot code arg) before after links sheet plain small b e = ap (ItemBack slot code) e
back_is page (ItemBack slot code arg) before after links sheet plain small b e = ap (Item slot code) e

-- the same of a value that was read first
pub now_or : {B : Type 0} (f : B → List ℕ) (o : Option B) (b : B) → f (unwrap_or o b) ≡ unwrap_or (option_map f o) (f b)
now_or f None b = refl
now_or f (Some x) b = refl

pub is_said : (c : PageChange) (page : ℕ) (op : Op) (code : ℕ × ℕ × ℕ) (before after links : List ℕ) → c ≡ change_with page code.0 code.1 code.2 before after → code ≡ number_of op → is_format op ≡ false → BringsLinks op links
    → after ≡ unwrap_or (brought op) links → IsSaid c page op
is_said c page op code before after links e f plain given a = record {
  page_is = ap (λ (x : PageChange). x.page) e;
  said = ap op_said e ∙ (ap (λ (k : ℕ × ℕ × ℕ). op_said (change_with page k.0 k.1 k.2 before after)) f ∙ said_is page op before after links plain given a);
}

pub is_back : (c : PageChange) (page : ℕ) (op : Op) (code : ℕ × ℕ × ℕ) (before after links : List ℕ) (sheet : Sheet) → c ≡ change_with page code.0 code.1 code.2 before after → code ≡ number_of op → is_format op ≡ false → AreLinks sheet.links
    → before ≡ taken_away op sheet → after ≡ unwrap_or (brought op) links → back_said c ≡ inverse op sheet
is_back c page op code before after links sheet e f plain small b a =
    ap back_said e ∙ (ap (λ (k : ℕ × ℕ × ℕ). back_said (change_with page k.0 k.1 k.2 before after)) f ∙ back_is page op before after links sheet plain small b a)
