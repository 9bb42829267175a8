-- That a record's texts are as long as its lengths can say.
use Rattle.std.specs.Prelude.{◌<◌, ◌^◌, Bool, length}
use Rattle.sg_record.specs.Changes.{Change, band_form, change_bytes, ChangeFits}
use Rattle.sg_record.specs.Ranges.{ArgsFit}

-- those of a change, which takes another one off or doesn't. The bytes are few.
pub record HasTexts (taking_off : Bool) (c : Change) : Type 0 where
  pub fits : ChangeFits (band_form taking_off) c
  pub args : ArgsFit c
  pub few : length (change_bytes (band_form taking_off) c) < 2 ^ 40
