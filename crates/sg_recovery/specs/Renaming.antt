-- Notes in another form: what a log holds of them, and what that says.
use Rattle.sg_recovery.specs.Setting.{Setting}

-- the setting whose notes are these, each of which says a note of the first
abbrev pub read_by : (s : Setting) (N : Type 0) → (N → s.N) → Setting
read_by s N read = record s {
  N = N;
  unstep = λ o n cs. s.unstep o (read n) cs;
  wants = λ n. s.wants (read n);
  can_undo = λ o n cs w. s.can_undo o (read n) cs w;
}
