-- What is rendered byte by byte, as a list.
use Rattle.std.proofs.Common.{◌≡◌, ℕ, ◌+◌, ◌<◌, List, Option, length, slice_index, sym, ◌∙◌, arith}
use Rattle.std.proofs.lemmas.Grind.{same_number_lists}
use Rattle.std.proofs.lemmas.List.FromFn.{length-map-range_with_len, get_or-map-range_with_len}
use Rattle.sg_ops.specs.Meaning.{RangeMeaning}
use Rattle.sg_ops.specs.Table.{byte_of, rendered}

pub length-rendered : (op : Option RangeMeaning) (arg : List ℕ) (position count : ℕ) → length (rendered op arg position count) ≡ count
unfolding rendered
length-rendered op arg position count = length-map-range_with_len _ 0 count

pub rendered_is : (op : Option RangeMeaning) (arg : List ℕ) (position count : ℕ) (bytes : List ℕ) → length bytes ≡ count → ((k : ℕ) → k < count → slice_index bytes k ≡ byte_of op arg (position + k)) → bytes ≡ rendered op arg position count
unfolding rendered
rendered_is op arg position count bytes long each =
    same_number_lists bytes (rendered op arg position count) (long ∙ sym (length-rendered op arg position count)) (λ k h.
    let below : k < count = omega (arith, long) in
    each k below ∙ sym (get_or-map-range_with_len _ 0 count k k 0 below (omega arith)))
