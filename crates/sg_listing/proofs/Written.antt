-- A listing that is written.
use Rattle.std.proofs.Common.{ℕ, List, [], ◌++◌, Option, Result, Ok, Err, subst, append-nil}
use Rattle.sg_base.specs.Ends.{TakesFront}
use Rattle.sg_words.proofs.Steps.{Takes-nothing}
use Rattle.sg_words.proofs.Waits.{front_longer}
use Rattle.sg_lines.specs.Parts.{Part, lines_of}
use Rattle.sg_lines.proofs.Writing.{writing}
use Rattle.sg_listing.specs.Telling.{IsTold, IsWritten}
use Rattle.sg_listing.specs.declared.fault.TellFault.{TellFault}
use Rattle.sg_listing.specs.declared.fault.TellFault.TheVariants.{Space, Memory, Listener}

-- what a writer was told is written
pub told_written : {S : Type 0} (T : Type 0) (name : S → ℕ) (taken : S → Option (List ℕ)) (faults : S → ℕ) (old : S) (parts : List Part) (new : S) (result : Result T TellFault) → IsTold (writing name taken faults) old parts new result
    → IsWritten (taken old) (lines_of parts) (taken new) result
told_written T name taken faults old parts new (Ok x) h = h old [] (Takes-nothing (taken old))
told_written T name taken faults old parts new (Err (Space f)) h = tt
told_written T name taken faults old parts new (Err Memory) h = tt
told_written T name taken faults old parts new (Err Listener) h = subst (λ (ps : List Part). TakesFront (taken old) (lines_of ps) (taken new)) (append-nil parts) (h old [] [] (Takes-nothing (taken old)))

-- what failed in some bytes failed in these and others
pub written_before : (T U : Type 0) (had : Option (List ℕ)) (bytes rest : List ℕ) (has : Option (List ℕ)) (fault : TellFault) → IsWritten {T = T} had bytes has (Err fault) → IsWritten {T = U} had (bytes ++ rest) has (Err fault)
written_before T U had bytes rest has (Space f) h = tt
written_before T U had bytes rest has Memory h = tt
written_before T U had bytes rest has Listener h = front_longer had bytes rest has h
