-- Live transactions have a code, so that a list of them can be a model's value.
use Rattle.std.specs.Prelude.{ℕ, Bool, List, refl}
use Rattle.std.specs.Coded.{Coded, code_by, coded×, coded_ℕ, coded_bool, coded_list}
use Rattle.sg_core.specs.Live.{Txn}

abbrev pub txn_code : Coded Txn
txn_code = code_by (ℕ × (ℕ × (Bool × List ℕ))) (coded× coded_ℕ (coded× coded_ℕ (coded× coded_bool (coded_list coded_ℕ)))) (λ x. (x.transaction, (x.reserved, (x.dropped, x.marks)))) (λ p. record { transaction = p.0; reserved = p.1.0; dropped = p.1.1.0; marks = p.1.1.1 }) (λ x. refl)
