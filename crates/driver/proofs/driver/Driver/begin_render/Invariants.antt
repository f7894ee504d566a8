use Rattle.driver.proofs.driver.Driver.begin_render.Given as goal

abbrev pub ghost-begin_counted : goal.ghost-begin_counted
ghost-begin_counted g a = a.submission
