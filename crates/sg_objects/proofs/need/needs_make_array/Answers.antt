use Rattle.std.proofs.Common.{arith}
use Rattle.sg_catalog.specs.Catalog.{rows, there}
use Rattle.sg_model.specs.declared.reason.Reason.TheVariants.{Exists, OutOfRange}
use Rattle.sg_objects.proofs.Applying.{checked_ok}
use Rattle.sg_objects.proofs.Making.{is_found, not_there, exists_under, unfit_under}
use Rattle.sg_objects.proofs.Needing.{checked_all, array_need}
use Rattle.sg_objects.proofs.need.needs_make_array.Goals as goal

pub returns-then-branch-clause-read : goal.returns-then-branch-clause-read
returns-then-branch-clause-read g c = λ shows s h. checked_all Exists (λ u. exists_under s c.args.name u c.args.size (is_found (there c.args.name (rows s.catalog)) c.in_ok-is_there.field-0 (c.in_ok-is_there.ensures.read shows s h) c.if-branch.true))

pub returns-then-size-eq0-clause-read : goal.returns-then-size-eq0-clause-read
returns-then-size-eq0-clause-read g c = λ shows s h. checked_all OutOfRange (λ u. unfit_under s c.args.name u c.args.size (not_there (there c.args.name (rows s.catalog)) c.in_ok-is_there.field-0 (c.in_ok-is_there.ensures.read shows s h) c.if-branch.false) c.then-size-eq0.either)

pub returns-clause-read : goal.returns-clause-read
returns-clause-read g c = λ shows s h.
    let some = c.if-size-eq0.false in
    checked_ok _ (array_need _ c.args.size (not_there (there c.args.name (rows s.catalog)) c.in_ok-is_there.field-0 (c.in_ok-is_there.ensures.read shows s h) c.if-branch.false) (omega (arith, some)) c.if-size-gt256.false c.of_pages.ensures)
