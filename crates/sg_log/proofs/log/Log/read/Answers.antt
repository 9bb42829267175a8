use Rattle.std.proofs.Common.{⊎_elim, ◌≡◌, ◌≤◌, ◌<◌, ◌+◌, length, true, arith}
use Rattle.sg_record.specs.Records.{spelled}
use Rattle.sg_log.proofs.Texts.{spelled-long}
use Rattle.sg_log.proofs.Standing.{there}
use Rattle.sg_log.proofs.Waiting.{ok_no_err, waiting_front}
use Rattle.sg_log.proofs.log.Log.read.Goals as goal

pub returns-then-is_before_gate-clause-record : goal.returns-then-is_before_gate-clause-record
returns-then-is_before_gate-clause-record g c ds ps r told h among = ⊎_elim
    (λ d. c.read_durable.ensures.text r told d)
    (λ w.
    let within : c.args.at < c.args.self.now.gate = (c.is_before_gate.ensures.0 c.if-is_before_gate.true).1 in
    absurd (omega (arith, waiting_front c.args.self.now c.args.at r w)))
    (there h c.args.at r among)

pub returns-else-is_before_gate-clause-record : goal.returns-else-is_before_gate-clause-record
returns-else-is_before_gate-clause-record g c ds ps r told h among = ⊎_elim
    (λ d.
    let low : c.args.self.now.base ≤ c.args.at = d.front in
    let high : c.args.at + length (spelled r) ≤ c.args.self.now.gate = d.before in
    let within : c.args.at < c.args.self.now.gate = omega (arith, spelled-long r) in
    let is : c.is_before_gate.result ≡ true = c.is_before_gate.ensures.1 (low, within) in
    absurd (cc))
    (λ w. c.copy_waiting.ensures.text r w)
    (there h c.args.at r among)

pub returns-then-is_before_gate-clause-size : goal.returns-then-is_before_gate-clause-size
returns-then-is_before_gate-clause-size g c ds ps r told h among = ⊎_elim
    (λ d. c.read_durable.ensures.size r told d)
    (λ w.
    let within : c.args.at < c.args.self.now.gate = (c.is_before_gate.ensures.0 c.if-is_before_gate.true).1 in
    absurd (omega (arith, waiting_front c.args.self.now c.args.at r w)))
    (there h c.args.at r among)

pub returns-else-is_before_gate-clause-size : goal.returns-else-is_before_gate-clause-size
returns-else-is_before_gate-clause-size g c ds ps r told h among = ⊎_elim
    (λ d.
    let low : c.args.self.now.base ≤ c.args.at = d.front in
    let high : c.args.at + length (spelled r) ≤ c.args.self.now.gate = d.before in
    let within : c.args.at < c.args.self.now.gate = omega (arith, spelled-long r) in
    let is : c.is_before_gate.result ≡ true = c.is_before_gate.ensures.1 (low, within) in
    absurd (cc))
    (λ w. c.copy_waiting.ensures.size r w)
    (there h c.args.at r among)

pub returns-then-is_before_gate-clause-failed : goal.returns-then-is_before_gate-clause-failed
returns-then-is_before_gate-clause-failed g c ds ps r told h among = ⊎_elim
    (λ d. c.read_durable.ensures.failed r told d)
    (λ w.
    let within : c.args.at < c.args.self.now.gate = (c.is_before_gate.ensures.0 c.if-is_before_gate.true).1 in
    absurd (omega (arith, waiting_front c.args.self.now c.args.at r w)))
    (there h c.args.at r among)

pub returns-else-is_before_gate-clause-failed : goal.returns-else-is_before_gate-clause-failed
returns-else-is_before_gate-clause-failed g c ds ps r told h among = ⊎_elim
    (λ d.
    let low : c.args.self.now.base ≤ c.args.at = d.front in
    let high : c.args.at + length (spelled r) ≤ c.args.self.now.gate = d.before in
    let within : c.args.at < c.args.self.now.gate = omega (arith, spelled-long r) in
    let is : c.is_before_gate.result ≡ true = c.is_before_gate.ensures.1 (low, within) in
    absurd (cc))
    (λ w. ok_no_err _ c.copy_waiting.result (c.copy_waiting.ensures.found r w))
    (there h c.args.at r among)
