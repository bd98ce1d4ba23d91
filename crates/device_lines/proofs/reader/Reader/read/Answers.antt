use Rattle.device_lines.proofs.Prelude.{ap, sym, ◌∙◌, device_in, end_of, unless_fault, lines_of, lines_read, nothing_seen, seen_of}
use Rattle.device_lines.proofs.ReadLemmas.{lines_refused}
use Rattle.device_lines.proofs.reader.Reader.read.Goals as goal

pub returns-in-Err-clause-exact : goal.returns-in-Err-clause-exact
unfolding device_in
returns-in-Err-clause-exact c = lines_refused (lines_read (lines_of c.args.text.now) (nothing_seen c.args.self.now.device.size) 0) c.in-Err.error c.in-Err.ensures

pub returns-in-Some-clause-exact : goal.returns-in-Some-clause-exact
unfolding device_in
returns-in-Some-clause-exact c = ap end_of c.in-Ok.ensures ∙ ap (unless_fault (seen_of c.lines.new.self)) (sym c.in-Some.ensures.exact)

pub returns-in-None-clause-exact : goal.returns-in-None-clause-exact
unfolding device_in
returns-in-None-clause-exact c = ap end_of c.in-Ok.ensures ∙ ap (unless_fault (seen_of c.lines.new.self)) (sym c.in-None.ensures.exact)
