use Rattle.sg_command.proofs.Taken.{init-asked, sized_init-asked, run-asked, stopped_run-asked, dump-asked, check-asked, log-asked, gen-asked, run-named, stopped_run-named, sized_init-named}
use Rattle.sg_command.proofs.law.written_words_are_taken.Goals as goal

pub returns : goal.returns
returns c = record {
  init = init-asked;
  sized = sized_init-asked;
  run = run-asked;
  stopped = stopped_run-asked;
  dump = dump-asked;
  check = check-asked;
  log = log-asked;
  drawn = gen-asked;
  folder = run-named;
  folder_stopped = stopped_run-named;
  both = sized_init-named;
}
