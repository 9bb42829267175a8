use Rattle.std.proofs.Common.{codes}
use Rattle.std.proofs.lemmas.Result.{IfOk-weaker}
use Rattle.sg_command.specs.Words.{folder_app, init_app, run_app, gen_app, bare_app}
use Rattle.sg_command.proofs.Apps.{adds}
use Rattle.sg_command.proofs.line.stasis_command.Goals as goal

pub returns : goal.returns
returns c =
    let first = adds bare_app init_app _ _ _ c.bare_command.ensures c.in_ok-init_command.ensures c.in_ok-subcommand.ensures in
    let second = adds _ run_app _ _ _ first c.in_ok-run_command.ensures c.in_ok-subcommand-2.ensures in
    let third = adds _ (folder_app (codes "dump")) _ _ _ second c.in_ok-with_folder.ensures c.in_ok-subcommand-3.ensures in
    let fourth = adds _ (folder_app (codes "check")) _ _ _ third c.in_ok-with_folder-2.ensures c.in_ok-subcommand-4.ensures in
    let fifth = adds _ (folder_app (codes "log")) _ _ _ fourth c.in_ok-with_folder-3.ensures c.in_ok-subcommand-5.ensures in
    IfOk-weaker c.subcommand-6.result _ _ (λ r added. adds _ gen_app _ _ r fifth c.in_ok-gen_command.ensures added) c.subcommand-6.ensures
