use Rattle.implements.proofs.Prelude.{List, sym, subst, LogicElement, ArePlaced, IsNarrow, PackedCircuit, IsPacked, IsLawfulPacking, Strip, Place, IsLegal, Node, AreBlesOf, Implements, layout_of}
use Rattle.implements.proofs.Between.{none_shared}
use Rattle.implements.proofs.Blocks.{all_fed, all_few, all_same}
use Rattle.implements.proofs.Coming.{connects}
use Rattle.implements.proofs.Held.{packed_held}
use Rattle.implements.proofs.Laid.{all_laid}
use Rattle.implements.proofs.Narrow.{all_narrow}
use Rattle.implements.proofs.Ports.{ports}
use Rattle.implements.proofs.Wanted.{all_globals, all_once, all_wanted}
use Rattle.implements.proofs.laws.implements_results.Goals as goal

implemented : (packed : PackedCircuit) (strip : Strip) (places : List Place) (routes : List (List (List Node))) → IsPacked packed → IsNarrow packed.arch.lut_size packed.circuit → IsLawfulPacking packed →
    ArePlaced strip packed places → IsLegal packed.arch strip packed places routes → Implements packed.circuit packed.arch strip (layout_of packed places routes)
implemented packed strip places routes lawful narrow laws placed legal =
    let ports = ports packed places strip routes placed in
    record {
      fed = all_fed packed places lawful laws routes;
      held = subst (λ (elements : List LogicElement). AreBlesOf packed.circuit elements) (sym (all_same packed places lawful laws routes)) (packed_held packed lawful laws);
      few_bles = all_few packed places lawful laws routes;
      narrow = all_narrow packed places routes lawful laws narrow;
      laid = all_laid packed places lawful laws strip routes legal;
      all = all_wanted packed places routes lawful laws;
      once = all_once packed places routes lawful laws;
      globals = all_globals packed places routes lawful laws;
      inputs = ports.inputs;
      outputs = ports.outputs;
      placed = ports.placed;
      apart = ports.apart;
      carried = none_shared packed.arch strip packed places routes legal;
    }

pub returns-clause-implements : goal.returns-clause-implements
returns-clause-implements c = implemented

pub returns-clause-connects : goal.returns-clause-connects
returns-clause-connects c = λ packed strip places routes lawful narrow laws placed legal.
    connects packed.circuit packed.arch strip (layout_of packed places routes) (implemented packed strip places routes lawful narrow laws placed legal)
