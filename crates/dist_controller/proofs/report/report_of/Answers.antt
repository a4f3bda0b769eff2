use Rattle.dist_controller.specs.Report.{report_of}
use Rattle.dist_controller.proofs.Listed.{length_list}
use Rattle.dist_controller.proofs.report.report_of.Goals as goal

pub returns : goal.returns
unfolding report_of
returns c = simp (
  length_list,
  c.acceptance_of.ensures,
  c.if-not-is_configured.false,
  ← c.is_configured.ensures,
)
