use Rattle.sg_recovery.proofs.Rolling as rolling
use Rattle.sg_recovery.proofs.Meeting as meeting
use Rattle.sg_recovery.proofs.histories.histories_go_back.Goals as goal

pub returns-clause-last : goal.returns-clause-last
returns-clause-last g c = rolling.last_can g.G.Ground.setting

pub returns-clause-twice : goal.returns-clause-twice
returns-clause-twice g c = rolling.left_twice g.G.Ground.setting

pub returns-clause-nobody : goal.returns-clause-nobody
returns-clause-nobody g c = meeting.nobody_left g.G.Ground.setting

pub returns-clause-reading : goal.returns-clause-reading
returns-clause-reading g c = rolling.reading_shows g.G.Ground.setting

pub returns-clause-marks : goal.returns-clause-marks
returns-clause-marks g c = rolling.marks_show g.G.Ground.setting
