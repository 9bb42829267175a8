use Rattle.std.proofs.Common.{⊎_elim, ◌≡◌, ◌≤◌, ◌<◌, ◌+◌, length, true, arith}
use Rattle.sg_record.specs.Records.{spelled}
use Rattle.sg_log.proofs.Texts.{spelled-long}
use Rattle.sg_log.proofs.Waiting.{ok_no_err}
use Rattle.sg_log.proofs.log.Log.size_at.Goals as goal

pub returns-else-is_before_gate-clause-size : goal.returns-else-is_before_gate-clause-size
returns-else-is_before_gate-clause-size g c r told there = ⊎_elim
    (λ d.
    let low : c.args.self.now.base ≤ c.args.at = d.front in
    let high : c.args.at + length (spelled r) ≤ c.args.self.now.gate = d.before in
    let within : c.args.at < c.args.self.now.gate = omega (arith, spelled-long r) in
    let is : c.is_before_gate.result ≡ true = c.is_before_gate.ensures.1 (low, within) in
    absurd (cc))
    (λ w. c.waiting_size.ensures.size r w)
    there

pub returns-else-is_before_gate-clause-failed : goal.returns-else-is_before_gate-clause-failed
returns-else-is_before_gate-clause-failed g c r told there = ⊎_elim
    (λ d.
    let low : c.args.self.now.base ≤ c.args.at = d.front in
    let high : c.args.at + length (spelled r) ≤ c.args.self.now.gate = d.before in
    let within : c.args.at < c.args.self.now.gate = omega (arith, spelled-long r) in
    let is : c.is_before_gate.result ≡ true = c.is_before_gate.ensures.1 (low, within) in
    absurd (cc))
    (λ w. ok_no_err _ c.waiting_size.result (c.waiting_size.ensures.found r w))
    there
