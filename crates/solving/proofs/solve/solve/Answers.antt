use Rattle.solving.proofs.solve.solve.Goals as goal

pub returns : goal.returns
returns g c = (c.in_ok-run.ensures.0, rw (← c.in_ok-run.ensures.1) c.finish-stop.ensures.ends, c.finish-stop.ensures.sound c.args.system.now c.args.start c.in_ok-run.ensures.2)
