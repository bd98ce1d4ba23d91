use Rattle.tenant_slot.proofs.Prelude.{subst, Origin, IsOrigin}
use Rattle.tenant_slot.proofs.Taking.{written_next, written_of}
use Rattle.tenant_slot.proofs.slot.Slot.recorded_advance.Goals as goal

pub returns-in-Running : goal.returns-in-Running
returns-in-Running c =
    let next = subst (λ (o : Origin). IsOrigin c.args.self.now c.args.done.now o) c.in-Running.is c.requires in
    written_next c.args.self.now c.args.done.now c.generation.result c.number.result next c.generation.ensures c.number.ensures

pub returns-in-Unknown : goal.returns-in-Unknown
returns-in-Unknown c =
    written_of c.args.self.now.state c.args.done.now c.args.self.now.id c.generation-in-Unknown.result c.number-in-Unknown.result c.sources.result.now c.advance_of.result
    c.generation-in-Unknown.ensures c.number-in-Unknown.ensures c.sources.ensures c.advance_of.ensures
