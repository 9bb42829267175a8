-- What follows for a run that is done.
use Rattle.std.proofs.Common.{◌≡◌, ◌∙◌, ℕ, ap, subst, arith, length}
use Rattle.sg_disk.specs.Disk as disk
use Rattle.sg_ops.specs.Table.{Table as Operations}
use Rattle.sg_run.specs.Run.{Run, objects_after, committed_objects}
use Rattle.sg_session.proofs.Commits.{after_all}
use Rattle.sg_store.specs.Ground.{Ground}
use Rattle.sg_store.specs.Engine.{Sizes}
use Rattle.sg_script.specs.declared.script.RunEnd as code_end
use Rattle.sg_script.specs.Ending.{AreExecuted, IsHeard}
use Rattle.sg_commands.specs.Images.{Says, StandsFor, StandsForFirst}
use Rattle.sg_commands.specs.Done.{DoneTellsAll}

module _ (basis : Sizes → Ground) (says : Says) where
  -- where all commits were answered, an image stands for the objects after all of them
  all_stand : (t : Operations) (x : Run) (c : disk.Image) → x.so_far.answered ≡ length x.so_far.commits → StandsForFirst basis says t x.so_far.answered x c
      → StandsFor basis says t c (committed_objects t x)
  all_stand t x c all h =
      let whole : h.commits ≡ length x.so_far.commits = omega (arith, h.enough, h.most, all) in
      subst (StandsFor basis says t c) (ap (λ (n : ℕ). objects_after t n x) whole ∙ after_all t x) h.stands

  pub done_tells_all : DoneTellsAll basis says
  done_tells_all t told old new refused status ran is =
      let done = ran.done is in
      record {
        executed = subst (λ (end : code_end.RunEnd). AreExecuted end old.left ran.run.text ran.run.lines) done ran.output.executed;
        took = (subst (λ (end : code_end.RunEnd). IsHeard end old.taken new.taken ran.run.answers ran.run.heard) done ran.output.took).1;
        images = λ is_told held c leaves.
            (let did = ran.did is_told held in all_stand t did.to.after c (did.done is).answered (did.exit.images c leaves));
      }
