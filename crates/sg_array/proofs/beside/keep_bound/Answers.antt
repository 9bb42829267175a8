use Rattle.sg_array.proofs.Bounds.{array_exact, pushed_pages}
use Rattle.sg_array.proofs.beside.keep_bound.Goals as goal

pub returns : goal.returns
returns c = record {
  exactly = λ pages root a h. array_exact a h;
  next = λ size count peak small most. pushed_pages size count peak small most;
}
