use Rattle.sg_reader.specs.Alike.{contents_in}
use Rattle.sg_reader.proofs.Decide.{decides, reader}
use Rattle.sg_reader.proofs.Once.{one_reading}
use Rattle.sg_reader.proofs.SameReading.{alike_contents, alike_reads}
use Rattle.sg_reader.proofs.Spaces.{kept_alike}
use Rattle.sg_reader.proofs.laws.readings_are_told.Goals as goal

pub returns-clause-one : goal.returns-clause-one
returns-clause-one c = one_reading

pub returns-clause-decided : goal.returns-clause-decided
returns-clause-decided c = decides

pub returns-clause-reader : goal.returns-clause-reader
returns-clause-reader c = reader

pub returns-clause-alike : goal.returns-clause-alike
returns-clause-alike c = λ pages bands x y s r k. (contents_in y.pages s, alike_contents pages bands x y s r k, alike_reads pages bands x y s r k)

pub returns-clause-taken_off : goal.returns-clause-taken_off
returns-clause-taken_off c = kept_alike
