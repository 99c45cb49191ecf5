use Rattle.site_step.proofs.site.Site.open_from.Given as goal

abbrev pub ghost-open_over : goal.ghost-open_over
ghost-open_over g a = g.past
