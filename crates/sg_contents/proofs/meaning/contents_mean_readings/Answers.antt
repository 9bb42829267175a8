use Rattle.sg_contents.proofs.Reading as reading
use Rattle.sg_contents.proofs.meaning.contents_mean_readings.Goals as goal

pub returns-clause-things : goal.returns-clause-things
returns-clause-things c = reading.get_thing

pub returns-clause-tombs : goal.returns-clause-tombs
returns-clause-tombs c = reading.get_tomb

pub returns-clause-map : goal.returns-clause-map
returns-clause-map c = reading.get_map
