use Rattle.job_state.proofs.Prelude.{◌∙◌, refl, ap, packing_steps, Sources}
use Rattle.job_state.proofs.Beginnings.{packing_begins, packing_ends}
use Rattle.job_state.proofs.parked.Parked.pack.Goals as goal

pub begin-requires-clause-value : goal.begin-requires-clause-value
begin-requires-clause-value c =
    packing_begins c.args.sources c.args.circuit.now _ (ap (λ (other : Sources). other.kind) c.requires.kind) c.requires.circuit (c.new.ensures ∙ c.in_ok-packing.ensures)

pub begin-requires-clause-few : goal.begin-requires-clause-few
begin-requires-clause-few c =
    let sources = c.args.sources in
    let steps = packing_steps c.args.circuit.now sources.arch in
    (steps, c.packs_in_few_steps.ensures, packing_ends sources c.args.circuit.now steps (ap (λ (other : Sources). other.kind) c.requires.kind) c.requires.circuit refl)
