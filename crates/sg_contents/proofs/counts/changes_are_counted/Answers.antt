use Rattle.sg_contents.proofs.Counted as counted
use Rattle.sg_contents.proofs.Framing as framing
use Rattle.sg_contents.proofs.counts.changes_are_counted.Goals as goal

pub returns-clause-turned : goal.returns-clause-turned
returns-clause-turned c = λ old new s row b h among k t. counted.counted_turned row b among h.once k t

pub returns-clause-place : goal.returns-clause-place
returns-clause-place c = λ old new s d was now k t place same. counted.counted_place k t place same

pub returns-clause-made : goal.returns-clause-made
returns-clause-made c = λ old mid new s row b d h k m t more. counted.counted_made (framing.new_root row b h m) k m t more

pub returns-clause-unmade : goal.returns-clause-unmade
returns-clause-unmade c = λ old mid new s row d k t more g. counted.counted_unmade k t more g
