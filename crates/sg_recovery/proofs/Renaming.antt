-- Notes by another form of theirs: a setting whose notes are read from something else keeps its laws.
use Rattle.sg_recovery.specs.Setting.{Setting}
use Rattle.sg_recovery.specs.Laws.{Note, Laws}
use Rattle.sg_recovery.specs.Log.{Top}
use Rattle.sg_recovery.specs.Keeps.{HasUndone}
use Rattle.sg_recovery.specs.Runs.{DoesVerb, DoesFree}
use Rattle.sg_recovery.specs.Renaming.{read_by}

module _ (s : Setting) (N : Type 0) (read : N → s.N) where
  abbrev pub top : Top s.C N → Top s.C s.N
  top n = record { lsn = n.lsn; transaction = n.transaction; undo_next = n.undo_next; note = read n.note; changes = n.changes }

  abbrev pub note : Note (read_by s N read) → Note s
  note n = record { lsn = n.lsn; transaction = n.transaction; undo_next = n.undo_next; note = read n.note; changes = n.changes; place = n.place }

  pub read_laws : Laws s → Laws (read_by s N read)
  read_laws l = record {
    below_same = l.below_same;
    below_trans = l.below_trans;
    below_objects = l.below_objects;
    below_undo = λ n. l.below_undo (top n);
    below_back = λ n. l.below_back (note n);
    after_objects = l.after_objects;
    freed_objects = l.freed_objects;
    clear_passes = λ v held m. l.clear_passes v held (note m);
    apart_passes = λ f held m. l.apart_passes f held (note m);
    clear_swaps = λ v held n m. l.clear_swaps v held (note n) (note m);
  }

  -- what a verb, an undo or a freeing owes to the log is the same in both forms
  pub read_does : (v : s.V) (n : Note (read_by s N read)) (x : s.X) (o : s.O) → DoesVerb s v (note n) x o → DoesVerb (read_by s N read) v n x o
  read_does v n x o d = record { now = d.now; back = d.back; reads = d.reads; after = d.after; undone = d.undone; above = d.above; writes = d.writes }

  pub read_undone : (n : Top s.C N) (x : s.X) (o : s.O) → HasUndone s (top n) x o → HasUndone (read_by s N read) n x o
  read_undone n x o d = record { now = d.now; reads = d.reads; above = d.above }

  pub read_frees : (f : s.W) (x : s.X) (o : s.O) → DoesFree s f x o → DoesFree (read_by s N read) f x o
  read_frees f x o d = record { now = d.now; reads = d.reads; freed = d.freed }
