use Rattle.operator.proofs.Prelude.{◌-◌, ap, ◌∙◌, slice_get}
use Rattle.operator.proofs.OperatorLemmas.{name_by, read_at}
use Rattle.operator.proofs.operator.Operator.name_of.Goals as goal

pub returns : goal.returns
returns c =
    let l = c.get.ensures.lookup in
    let e = read_at c.deref.result.now (c.args.id - 1) c.get.result l.0 l.1 in
    rw (← c.self.view_is) (name_by c.self.inside.admitted.items c.args.id c.copied.result c.if-id-eq0.false (c.copied.ensures ∙ (e ∙ ap (λ xs. slice_get xs (c.args.id - 1)) c.deref.ensures.value)))
