use Rattle.site_step.proofs.site.opening.read_base.Given as goal

abbrev pub ghost-find : goal.ghost-find
ghost-find g a = g.gone
