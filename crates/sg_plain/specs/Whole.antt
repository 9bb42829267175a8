-- The verbs that make or drop an object.
use Rattle.sg_model.specs.Verb.{Verb}
use Rattle.sg_model.specs.Verb.Verb.{MakeArray, MakeTable, MakeBlob, Discard}

abbrev pub MakesOrDrops : Verb → Type 0
MakesOrDrops (MakeArray size) = Unit {0}
MakesOrDrops MakeTable = Unit {0}
MakesOrDrops MakeBlob = Unit {0}
MakesOrDrops Discard = Unit {0}
MakesOrDrops other = ⊥
