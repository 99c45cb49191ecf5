use Rattle.site_step.proofs.site.Site.open_over.Given as goal

abbrev pub ghost-read_base : goal.ghost-read_base
ghost-read_base g a = g.past

abbrev pub ghost-told : goal.ghost-told
ghost-told g a = g.past
