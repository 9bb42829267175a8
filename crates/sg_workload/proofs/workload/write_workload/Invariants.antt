use Rattle.std.proofs.Common.{◌≡◌, ℕ, List, ◌++◌, length}
use Rattle.sg_base.specs.Ends.{Takes}
use Rattle.sg_workload.specs.Lines.{workload, text_of_lines}
use Rattle.sg_workload.specs.Calls.{lines_left}
use Rattle.sg_workload.proofs.workload.write_workload.Given as goal

abbrev pub invariant-lines : goal.invariant-lines
invariant-lines g l = record {
  written : (done : List ℕ)
      × (text_of_lines (workload l.seed l.count) ≡ done ++ text_of_lines (lines_left l.lines))
      × Takes (g.K.Sink.taken l.initial.out) done (g.K.Sink.taken l.out);
  quiet : g.K.Sink.faults l.out ≡ g.K.Sink.faults l.initial.out;
}

abbrev pub decreases-lines : goal.decreases-lines
decreases-lines g l = length (lines_left l.lines)
