use Rattle.cluster.proofs.Prelude.{ℕ, ◌≡◌, ◌∙◌, All, List, ap, subst, sym, NetsAmong, LogicElement, elements_at, IsElementWithin}
use Rattle.cluster.proofs.NetLists.{inputs_gathered}
use Rattle.cluster.proofs.cluster_sets.ClusterSets.gather.Goals as goal

-- the nets are below an equal count
among_as_many : (a b : ℕ) (elements : List LogicElement) → a ≡ b → All (IsElementWithin b) elements → All (IsElementWithin a) elements
among_as_many a b elements same within = subst (λ count. All (IsElementWithin count) elements) (sym same) within

pub add_outputs-requires : goal.add_outputs-requires
add_outputs-requires c = record {
  among = c.requires.among;
  within = among_as_many _ _ c.args.bles.now (ap (λ (set : NetsAmong). set.count) c.clear.ensures ∙ c.requires.outputs_count) c.requires.within;
}

pub add_inputs-requires-clause-members : goal.add_inputs-requires-clause-members
add_inputs-requires-clause-members c = record {
  among = c.requires.among;
  within = among_as_many _ _ c.args.bles.now (ap (λ (set : NetsAmong). set.count) c.clear-2.ensures) c.requires.within;
}

pub add_clocks-requires : goal.add_clocks-requires
add_clocks-requires c = record {
  among = c.requires.among;
  within = among_as_many _ _ c.args.bles.now (ap (λ (set : NetsAmong). set.count) c.clear-3.ensures ∙ c.requires.clocks_count) c.requires.within;
}

pub returns-clause-inputs : goal.returns-clause-inputs
returns-clause-inputs c =
    inputs_gathered (elements_at c.args.bles.now c.args.members.now) _ _ _ _ _ (ap (λ (set : NetsAmong). set.nets) c.clear.ensures) c.in_ok-add_outputs.ensures c.clear-2.ensures c.in_ok-add_inputs.ensures
