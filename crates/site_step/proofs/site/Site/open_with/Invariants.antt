use Rattle.std.proofs.Common.{[]}
use Rattle.site_step.proofs.site.Site.open_with.Given as goal

abbrev pub ghost-open_over : goal.ghost-open_over
ghost-open_over g a = []
