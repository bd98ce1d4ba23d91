use Rattle.desk_layouts.proofs.Prelude.{subst, IfErr-weaker, IfOk-weaker, IsReadFrom, IsOnlyShape, IsRefusalOf}
use Rattle.desk_layouts.proofs.Refusals.{refusal}
use Rattle.desk_layouts.proofs.laid_circuit.circuit_in.Goals as goal

pub returns-clause-laid : goal.returns-clause-laid
returns-clause-laid g c =
    IfOk-weaker c.laid_circuit-laid.result _ _ (λ laid h. record {
      shape = c.in-Some.shape;
      asked = c.in-Some.ensures.asked;
      read = subst (λ texts. IsReadFrom texts laid) c.texts-texts.ensures h.0;
      implemented = h.1;
    }) c.laid_circuit-laid.ensures.laid

pub returns-clause-refused : goal.returns-clause-refused
returns-clause-refused g c =
    let given = c.args.given.now in
    let only = subst (λ place. IsOnlyShape c.args.paths place c.in-Some.shape) c.as_slice.ensures.value c.in-Some.ensures.only in
    IfErr-weaker c.laid_circuit-laid.result _ _ (λ outcome h. refusal c.args.paths given c.in-Some.shape c.in-Some.ensures.asked only outcome (subst (λ texts. IsRefusalOf texts outcome) c.texts-texts.ensures h))
    c.laid_circuit-laid.ensures.refused
