use Rattle.cluster.proofs.Prelude.{◌<◌, All, List, subst, sym, length, refl, [], LogicElement, IsElementWithin, input_nets}
use Rattle.cluster.proofs.FewBlocks.{elements_within, few_blocks}
use Rattle.cluster.proofs.TableLaws.{tables_made}
use Rattle.cluster.proofs.packed_tables.PackedTables.new.Goals as goal

pub new-requires-clause-clusters : goal.new-requires-clause-clusters
new-requires-clause-clusters c =
    let circuit = c.args.circuit.now in
    record {
      elements = subst (λ (elements : List LogicElement). All (IsElementWithin (length circuit.nets)) elements) (sym c.requires.bles) (elements_within circuit c.requires.packed.circuit);
      members = subst (λ (elements : List LogicElement). All (λ cluster. All (λ number. number < length elements) cluster) c.args.clusters.now) (sym c.requires.bles) c.requires.packed.members;
      few = few_blocks _ c.requires.packed;
    }

pub returns-in-Ok : goal.returns-in-Ok
returns-in-Ok c =
    let circuit = c.args.circuit.now in
    tables_made circuit c.args.arch.now c.args.bles.now c.args.clusters.now _ [] (input_nets circuit c.in-Ok.uses (length circuit.inputs)) c.requires.bles c.requires.packed c.in_ok-inputs.ensures.inputs c.in_ok-inputs.ensures.clocks c.in-Ok.ensures.globals c.in-Ok.ensures.readers refl refl c.in-Ok.ensures.nets c.in-Ok.ensures.ranks
