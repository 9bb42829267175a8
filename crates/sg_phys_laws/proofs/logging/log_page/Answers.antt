use Rattle.sg_base.specs.Op.{op_of}
use Rattle.sg_record.specs.Shown.{shown, shown_page}
use Rattle.sg_phys_laws.proofs.Lies.{page_lies, page_says}
use Rattle.sg_phys_laws.proofs.logging.log_page.Goals as goal

pub page_op-op-requires : goal.page_op-op-requires
page_op-op-requires g c = page_lies (shown c.args.r.now) (shown_page c.args.change.now) c.requires.range c.requires.says

pub log_to_page-requires-clause-says : goal.log_to_page-requires-clause-says
log_to_page-requires-clause-says g c = page_says (shown c.args.r.now) (shown_page c.args.change.now) (op_of c.page_op-op.result) c.requires.says c.page_op-op.ensures
