use Rattle.print_law.proofs.Prelude.{Laws, LeastPathLaws}
use Rattle.print_law.proofs.Filed.{always_filed}
use Rattle.print_law.proofs.Names.{names_plain}
use Rattle.print_law.proofs.law.prints_are_filed.Goals as goal

pub returns : goal.returns
returns c = λ arch strip events known size routed.
    let laws : Laws = record {
      within = c.laws_of_places.ensures.within;
      apart = c.laws_of_places.ensures.apart;
      kinds_apart = c.laws_of_places.ensures.kinds_apart;
      packing = c.laws_of_packing.ensures;
      passes = c.laws_of_passes.ensures.few;
      graph = c.one_graph.ensures.exists;
      legal = c.done_is_legal.ensures;
      implements = c.implements_results.ensures.implements;
      connects = c.implements_results.ensures.connects;
      net_printed = c.printed_results.ensures.net;
      place_printed = c.printed_results.ensures.place;
      route_printed = c.printed_results.ensures.route;
    } in
    let paths : LeastPathLaws = record {
      least = λ g starts goal path lawful nodes found. (c.least_path_law.ensures.least g starts goal path lawful nodes).0 found;
      no_node_twice = c.least_path_law.ensures.no_node_twice;
      no_other_start = c.least_path_law.ensures.no_other_start;
    } in
    always_filed laws c.strip_wiring.ensures paths arch strip events known size routed names_plain
