use Rattle.layout_check.proofs.Prelude.{◌<◌, arith, sym, subst, ◌∙◌, All, path_nodes, IsSetOf, AreNodes}
use Rattle.layout_check.proofs.Entries.{used_by}
use Rattle.layout_check.proofs.Refute.{numbers_small}
use Rattle.layout_check.proofs.entry.check_paths.Goals as goal

pub count_uses-requires-clause-within : goal.count_uses-requires-clause-within
count_uses-requires-clause-within c =
    let are = rw c.in_default.is at c.in_ok-fault.ensures.nodes in
    subst (λ n. All (λ node. node < n) c.as_slice.result.now) (sym (c.clear.ensures.long ∙ c.check_routed.ensures.room.marks))
    (subst (λ ks. AreNodes c.args.graph.now ks) (sym c.as_slice.ensures.value)
    (numbers_small c.args.graph.now c.laws.ensures.lawful (path_nodes c.args.paths.now) c.check_routed.new.numbers.nodes.items are))

pub returns-clause-used : goal.returns-clause-used
returns-clause-used c =
    let are = rw c.in_default.is at c.in_ok-fault.ensures.nodes in
    used_by c.args.graph.now c.laws.ensures.lawful c.args.paths.now c.check_routed.new.numbers.nodes.items are c.count_uses.new.marks
    (subst (λ ks. IsSetOf ks c.count_uses.new.marks) c.as_slice.ensures.value c.count_uses.ensures.exact) c.args.uses.now.items c.count_uses.new.uses.items
    (λ k small. c.count_uses.ensures.counted k (let long = c.requires.uses in omega (arith, small, long)))
