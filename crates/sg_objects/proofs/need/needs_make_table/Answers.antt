use Rattle.sg_catalog.specs.Catalog.{rows, there}
use Rattle.sg_model.specs.declared.reason.Reason.TheVariants.{Exists}
use Rattle.sg_objects.proofs.Applying.{checked_ok}
use Rattle.sg_objects.proofs.Making.{is_found, not_there}
use Rattle.sg_objects.proofs.Tabled.{table_exists}
use Rattle.sg_objects.proofs.Needing.{checked_all, table_need}
use Rattle.sg_objects.proofs.need.needs_make_table.Goals as goal

pub returns-then-branch-clause-read : goal.returns-then-branch-clause-read
returns-then-branch-clause-read g c = λ shows s h. checked_all Exists (λ u. table_exists s c.args.name u (is_found (there c.args.name (rows s.catalog)) c.in_ok-is_there.field-0 (c.in_ok-is_there.ensures.read shows s h) c.if-branch.true))

pub returns-clause-read : goal.returns-clause-read
returns-clause-read g c = λ shows s h. checked_ok _ (table_need _ (not_there (there c.args.name (rows s.catalog)) c.in_ok-is_there.field-0 (c.in_ok-is_there.ensures.read shows s h) c.if-branch.false) c.of_pages.ensures)
