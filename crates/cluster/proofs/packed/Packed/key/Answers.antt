use Rattle.cluster.proofs.Prelude.{◌∙◌, ℕ, List, Option, Some, ap, sym, InputPad, OutputPad, Cluster, BlockKey}
use Rattle.cluster.specs.declared.block.BlockKind.TheVariants as kind
use Rattle.cluster.proofs.Keys.{block_there, key_at}
use Rattle.cluster.proofs.packed.Packed.key.Goals as goal

pub net_name-requires : goal.net_name-requires
net_name-requires c = block_there c.args.self.now c.laws.ensures c.args.number (InputPad c.in-InputPad.net) c.in-InputPad.ensures

pub net_name-requires-in-OutputPad : goal.net_name-requires-in-OutputPad
net_name-requires-in-OutputPad c = block_there c.args.self.now c.laws.ensures c.args.number (OutputPad c.in-OutputPad.net) c.in-OutputPad.ensures

pub seed_output-requires : goal.seed_output-requires
seed_output-requires c = block_there c.args.self.now c.laws.ensures c.args.number (Cluster c.in-Cluster.cluster) c.in-Cluster.ensures

pub returns-in-InputPad : goal.returns-in-InputPad
returns-in-InputPad c = key_at c.args.self.now c.args.number (InputPad c.in-InputPad.net) c.in-InputPad.ensures ∙ ap (λ (name : List ℕ). let key : BlockKey = record { kind = kind.InputPad; name = name } in let o : Option BlockKey = Some key in o) (sym c.net_name.ensures)

pub returns-in-OutputPad : goal.returns-in-OutputPad
returns-in-OutputPad c = key_at c.args.self.now c.args.number (OutputPad c.in-OutputPad.net) c.in-OutputPad.ensures ∙ ap (λ (name : List ℕ). let key : BlockKey = record { kind = kind.OutputPad; name = name } in let o : Option BlockKey = Some key in o) (sym c.net_name-in-OutputPad.ensures)

pub returns-in-Cluster : goal.returns-in-Cluster
returns-in-Cluster c = key_at c.args.self.now c.args.number (Cluster c.in-Cluster.cluster) c.in-Cluster.ensures ∙ ap (λ (name : List ℕ). let key : BlockKey = record { kind = kind.Cluster; name = name } in let o : Option BlockKey = Some key in o) (sym (c.net_name-in-Cluster.ensures ∙ c.seed_output.ensures.name))
