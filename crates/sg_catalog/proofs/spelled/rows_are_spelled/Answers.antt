use Rattle.sg_catalog.proofs.Spellings.{row_only, row_bytes}
use Rattle.sg_catalog.proofs.spelled.rows_are_spelled.Goals as goal

pub returns : goal.returns
returns c = record {
  only = λ cell row bytes is. (row_only cell row bytes is).0;
  formed = λ cell row bytes is. (row_only cell row bytes is).1;
  bytes = λ row formed. row_bytes row formed;
}
