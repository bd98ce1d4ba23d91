use Rattle.live_threads.proofs.threaded.run_device.Goals as goal

pub returns-in-Ok-new : goal.returns-in-Ok-new
returns-in-Ok-new g c = rw (c.in-Ok.ensures, c.in-Ok-new.ensures) at c.serve_with_workers.ensures
