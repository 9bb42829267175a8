-- Why a call failed.
use Rattle.sg_index.specs.declared.fault.IndexFault.{IndexFault}
use Rattle.sg_index.specs.declared.fault.IndexFault.TheVariants.{Records, NotAnIndex, TooMany}

-- what holds of each kind of fault
abbrev pub MatchFault : {F : Type 0} → IndexFault F → Type 0 → Type 0 → Type 0 → Type 0
MatchFault (Records fault) A B C = A
MatchFault NotAnIndex A B C = B
MatchFault TooMany A B C = C
