use Rattle.std.proofs.Common.{◌≡◌, not, rules, ap, ◌∙◌}
use Rattle.std.specs.List.{filter}
use Rattle.std.specs.Prelude.{◌==◌}
use Rattle.std.proofs.lemmas.Fn.{filter_same}
use Rattle.sg_serial.specs.Runs.{Live}
use Rattle.sg_session.specs.declared.names.Named.{Named}
use Rattle.sg_session.specs.Names.{live_of, all_live}
use Rattle.sg_session.proofs.Finding.{map-filter}
use Rattle.sg_session.proofs.names.Names.remove.Goals as goal

-- only those with another number are left
left : (c : goal.After-self-1) → c.retain.new.self.items ≡ filter (λ (n : Named). not (n.txn.0 == c.args.txn.0)) c.args.self.now.all.items
left c = filter_same _ (λ (n : Named). not (n.txn.0 == c.args.txn.0)) _ (λ x b f r. search rules) _ _ c.retain.ensures.filtered

pub returns : goal.returns
returns c = ap all_live (left c) ∙ map-filter live_of (λ (l : Live). not (l.transaction == c.args.txn.0)) c.args.self.now.all.items
