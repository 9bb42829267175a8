use Rattle.sg_reopen.proofs.starting.open_engine.Goals as goal

pub returns-in-Ok-clause-runs : goal.returns-in-Ok-clause-runs
returns-in-Ok-clause-runs g c o ds all told is over =
    let d = c.of_parts-engine.ensures.disk in
    let l = c.of_parts-engine.ensures.log in
    let p = c.of_parts-engine.ensures.pool in
    rw d (rw l (rw p (c.in-Ok.ensures.runs o ds all told is over)))

pub returns-in-Ok-clause-opened : goal.returns-in-Ok-clause-opened
returns-in-Ok-clause-opened g c o ds all told is each =
    let d = c.of_parts-engine.ensures.disk in
    rw d (c.reopen.ensures.moments o ds all told is each)

pub returns-in-Ok-clause-heeded : goal.returns-in-Ok-clause-heeded
returns-in-Ok-clause-heeded g c =
    let d = c.of_parts-engine.ensures.disk in
    rw d c.in-Ok.ensures.heeded
