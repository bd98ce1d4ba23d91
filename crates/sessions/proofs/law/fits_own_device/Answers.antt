use Rattle.sessions.proofs.Fitting.{taken_has_window}
use Rattle.sessions.proofs.law.fits_own_device.Goals as goal

pub returns : goal.returns
returns c = taken_has_window
