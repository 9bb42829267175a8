-- The bytes of a range operation in a part of a window.
use Rattle.std.proofs.Common.{◌≡◌, ℕ, ◌+◌, ◌-◌, ◌≤◌, List, length, take, drop, ap, ◌∙◌, arith, length-drop, Option}
use Rattle.std.proofs.lemmas.List.{length-take-le}
use borrow.Rule.Slice.PartMut.{put_mid}
use Rattle.sg_base.specs.Overwritten.{overwritten}
use Rattle.sg_base.proofs.Overwriting.{overwritten_by_part}
use Rattle.sg_ops.specs.Meaning.{RangeMeaning}
use Rattle.sg_ops.specs.Table.{rendered}
use Rattle.sg_ops.proofs.Rendering.{length-rendered}

part_long : (window : List ℕ) (at count : ℕ) → length window ≡ 32768 → at + count ≤ 32768 → length (take (at + count - at) (drop at window)) ≡ count
part_long window at count size fits = length-take-le (at + count - at) (drop at window) (omega (arith, length-drop at window)) ∙ omega arith

pub painted : (op : Option RangeMeaning) (arg window part : List ℕ) (position at count : ℕ) → length window ≡ 32768 → at + count ≤ 32768 → part ≡ rendered op arg position (length (take (at + count - at) (drop at window)))
    → put_mid at (at + count - at) window part ≡ overwritten window at (rendered op arg position count)
painted op arg window part position at count size fits is =
    overwritten_by_part window part (rendered op arg position count) at (at + count - at) (is ∙ ap (rendered op arg position) (part_long window at count size fits))
    (omega (arith, length-rendered op arg position count))
