use Rattle.sg_reopen.proofs.Over.{over_life}
use Rattle.sg_reopen.proofs.Always.{made_over, rests_over, appends_over, image_gives, gives_all, between_all}
use Rattle.sg_reopen.proofs.laws.images_stand_over.Goals as goal

pub returns : goal.returns
returns c = record { made = made_over; life = over_life; rests = rests_over; appends = appends_over; gives = image_gives; runs = gives_all; between = between_all }
