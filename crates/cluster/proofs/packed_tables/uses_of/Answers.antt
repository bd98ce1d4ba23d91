use Rattle.cluster.proofs.Prelude.{◌≡◌, ◌<◌, All, List, ap, arith, length, subst, sym, ◌∙◌, ℕ, NetsAmong, LogicElement, IsElementWithin}
use Rattle.cluster.proofs.FewBlocks.{elements_within, few_blocks}
use Rattle.cluster.proofs.TableLaws.{uses_count}
use Rattle.cluster.proofs.packed_tables.uses_of.Goals as goal

pub nets_of-requires : goal.nets_of-requires
nets_of-requires c =
    let circuit = c.args.circuit.now in
    let bles = c.args.bles.now in
    let lawful = c.requires.parts.packed in
    let count : length circuit.nets ≡ c.in_ok-uses.uses.globals.count = sym (ap (λ (set : NetsAmong). set.count) c.in_ok-uses.ensures.globals) in
    let same = uses_count circuit bles c.args.clusters.now c.in_ok-uses.uses c.in_ok-uses.ensures.globals (c.in_ok-uses.ensures.readers ∙ c.requires.readers) in
    let within = subst (λ (elements : List LogicElement). All (IsElementWithin (length circuit.nets)) elements) (sym c.requires.parts.bles) (elements_within circuit lawful.circuit) in
    let few = few_blocks _ lawful in
    record {
      of_inputs = record {
        within = subst (λ (number : ℕ). All (λ net. net < number) circuit.inputs) count lawful.circuit.inputs;
        same_count = same;
        few = omega (arith, few);
      };
      of_clusters = record {
        elements = subst (λ (number : ℕ). All (IsElementWithin number) bles) count within;
        same_count = same;
        among = subst (λ (elements : List LogicElement). All (λ cluster. All (λ number. number < length elements) cluster) c.args.clusters.now) (sym c.requires.parts.bles) lawful.members;
        few = few;
      };
    }
