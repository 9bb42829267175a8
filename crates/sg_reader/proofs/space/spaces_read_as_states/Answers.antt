use Rattle.sg_reader.proofs.Spaces.{reached_page, reached_band, state_reads, space_reads}
use Rattle.sg_reader.proofs.space.spaces_read_as_states.Goals as goal

pub returns-clause-pages : goal.returns-clause-pages
returns-clause-pages c = reached_page

pub returns-clause-bands : goal.returns-clause-bands
returns-clause-bands c = reached_band

pub returns-clause-state : goal.returns-clause-state
returns-clause-state c = state_reads

pub returns-clause-space : goal.returns-clause-space
returns-clause-space c = space_reads
