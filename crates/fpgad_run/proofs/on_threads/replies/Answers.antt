use Rattle.fpgad_run.proofs.Prelude.{refl, subst, Device, parts_of, IsServedOnThreads}
use Rattle.fpgad_run.proofs.ThreadLemmas.{start_read}
use Rattle.fpgad_run.proofs.on_threads.replies.Goals as goal

pub returns : goal.returns
returns g c =
    let parts = parts_of c.in_ok-script.script in
    let P : Device → Type 0 = λ device. IsServedOnThreads device parts c.in_ok-answered.answered in
    record {
      arch = c.in_ok-arch.arch;
      parts = parts;
      begins = start_read _ _ _ c.in_ok-arch.arch parts (c.in-Some.ensures.on_threads c.args.options.now.tracks) c.in_ok-arch.ensures.gives c.in_ok-script.ensures.gives;
      answered = c.in_ok-answered.answered;
      served = subst P c.device.ensures c.in_ok-answered.ensures.ok;
      output_is = refl;
    }
