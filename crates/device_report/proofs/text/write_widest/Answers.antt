use Rattle.device_report.proofs.text.write_widest.Goals as goal

pub returns-in-None : goal.returns-in-None
returns-in-None g c = rw c.in-None.is c.write_parts-in-None.ensures
