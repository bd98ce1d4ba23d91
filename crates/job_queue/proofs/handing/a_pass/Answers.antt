use Rattle.job_queue.proofs.Prelude.{◌≡◌, ◌++◌, rules, option_to_list}
use Rattle.job_queue.proofs.OneOfList.{one_of, rest_of}
use Rattle.job_queue.proofs.handing.a_pass.Goals as goal

pub returns-clause-rest : goal.returns-clause-rest
returns-clause-rest g c =
    let was : c.args.passes.now.items ≡ c.pop.new.self.items ++ option_to_list c.pop.result = search rules in rest_of (λ h. h.of) c.args.ready.now c.args.passes.now.items c.pop.new.self.items c.pop.result was c.requires

pub returns-clause-of : goal.returns-clause-of
returns-clause-of g c =
    let was : c.args.passes.now.items ≡ c.pop.new.self.items ++ option_to_list c.pop.result = search rules in one_of (λ h. h.of) c.args.ready.now c.args.passes.now.items c.pop.new.self.items c.pop.result was c.requires
