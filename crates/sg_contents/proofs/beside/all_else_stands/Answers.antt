use Rattle.sg_contents.proofs.Catalogued as catalogued
use Rattle.sg_contents.proofs.Framing as framing
use Rattle.sg_contents.proofs.beside.all_else_stands.Goals as goal

pub returns-clause-turned : goal.returns-clause-turned
returns-clause-turned c = λ kept old new s xs row b among h t. framing.body_turned row among b h t

pub returns-clause-made : goal.returns-clause-made
returns-clause-made c = λ kept old new s xs row b h m. framing.body_made row b h m

pub returns-clause-gone : goal.returns-clause-gone
returns-clause-gone c = λ kept old new s xs row h g. framing.body_gone row h g

pub returns-clause-catalog : goal.returns-clause-catalog
returns-clause-catalog c = λ kept old new s xs d h t. framing.catalog_turned h t

pub returns-clause-fewer : goal.returns-clause-fewer
returns-clause-fewer c = λ kept space s xs ys h w. framing.holds_within h w

pub returns-clause-few : goal.returns-clause-few
returns-clause-few c = λ kept space s xs h exact. catalogued.few_rows h exact
