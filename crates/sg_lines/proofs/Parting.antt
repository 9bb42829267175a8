-- The lines of parts, one behind another.
use Rattle.std.proofs.Common.{◌≡◌, ℕ, zero, suc, ◌+◌, ◌*◌, ◌/◌, Bool, true, false, cond, List, [], ◌∷◌, ◌++◌, length, map, take, drop, codes, slice_index_or, Some, None, refl, sym, ap, ◌∙◌, append-nil}
use Rattle.std.specs.List.{flat_map, list_all}
use Rattle.std.specs.FinMap.{entries}
use Rattle.std.proofs.lemmas.List.Concat.{flat_map-append}
use Rattle.hex.specs.Hex.{encode_lower}
use Rattle.sg_model.specs.Objects.{Object}
use Rattle.sg_model.specs.Objects.Object.{Array, Table, Blob}
use Rattle.sg_lines.specs.Claims.{PartsMakeText}
use Rattle.sg_lines.specs.Parts.{Part, item_parts, entry_part, piece_part, piece_parts, parts_of_object, parts_of_all, line_of, lines_of}
use Rattle.sg_lines.specs.Parts.Part.{AnItem, APiece}
use Rattle.sg_lines.specs.Text.{behind_space, heading, item_line, item_lines, entry_line, is_zero, piece_line, piece_lines, text_of_object, texts_of}

-- the lines of some parts and of others
lines_both : (xs ys : List Part) (x y : List ℕ) → lines_of xs ≡ x → lines_of ys ≡ y → lines_of (xs ++ ys) ≡ x ++ y
lines_both xs ys x y first last = flat_map-append line_of xs ys ∙ (ap (λ (t : List ℕ). t ++ lines_of ys) first ∙ ap (λ (t : List ℕ). x ++ t) last)

item_parts_lines : (n : ℕ) (items : List (List ℕ)) → lines_of (item_parts n items) ≡ item_lines n items
unfolding item_parts item_lines
item_parts_lines zero items = refl
item_parts_lines (suc n) items =
    let item = slice_index_or items n [] in
    lines_both (item_parts n items) (AnItem n item ∷ []) (item_lines n items) (item_line n item) (item_parts_lines n items) (append-nil (item_line n item))

entry_parts_lines : (es : List (List ℕ × List ℕ)) → lines_of (map entry_part es) ≡ flat_map entry_line es
entry_parts_lines [] = refl
entry_parts_lines (e ∷ es) = ap (λ (t : List ℕ). entry_line e ++ t) (entry_parts_lines es)

piece_part_lines : (at : ℕ) (piece : List ℕ) (b : Bool) → list_all is_zero piece ≡ b → lines_of (cond b [] (APiece at piece ∷ [])) ≡ piece_line at piece
piece_part_lines at piece true is = sym (ap (λ (b : Bool). cond b [] (behind_space at ++ codes " x:" ++ encode_lower piece ++ codes "\n")) is)
piece_part_lines at piece false is = append-nil (piece_line at piece)

piece_parts_lines : (n : ℕ) (bytes : List ℕ) → lines_of (piece_parts n bytes) ≡ piece_lines n bytes
unfolding piece_parts piece_lines
piece_parts_lines zero bytes = refl
piece_parts_lines (suc n) bytes =
    let piece = take 32 (drop (32 * n) bytes) in
    lines_both (piece_parts n bytes) (piece_part (32 * n) piece) (piece_lines n bytes) (piece_line (32 * n) piece) (piece_parts_lines n bytes) (piece_part_lines (32 * n) piece (list_all is_zero piece) refl)

object_lines : (name : List ℕ) (object : Object) → lines_of (parts_of_object name object) ≡ text_of_object name object
object_lines name (Array row) = ap (λ (t : List ℕ). heading (codes "array ") name (Some row.size) (length row.items) ++ t) (item_parts_lines (length row.items) row.items)
object_lines name (Table m) = ap (λ (t : List ℕ). heading (codes "table ") name None (length (entries m)) ++ t) (entry_parts_lines (entries m))
object_lines name (Blob bytes) = ap (λ (t : List ℕ). heading (codes "blob ") name None (length bytes) ++ t) (piece_parts_lines ((length bytes + 31) / 32) bytes)

all_lines : (es : List (List ℕ × Object)) → lines_of (parts_of_all es) ≡ texts_of es
all_lines [] = refl
all_lines (e ∷ es) = lines_both (parts_of_object e.0 e.1) (parts_of_all es) (text_of_object e.0 e.1) (texts_of es) (object_lines e.0 e.1) (all_lines es)

pub parts_text : PartsMakeText
parts_text objects = ap (λ (t : List ℕ). t ++ heading (codes "objects") [] None (length (entries objects))) (sym (all_lines (entries objects)))
