use Rattle.layout_law.proofs.Files.{files_implement}
use Rattle.layout_law.proofs.Laws.{Laws}
use Rattle.layout_law.proofs.Routed.{routed_implements}
use Rattle.layout_law.proofs.Prelude.{run}
use Rattle.layout_law.proofs.law.routed_implements.Goals as goal

pub returns-clause-results : goal.returns-clause-results
returns-clause-results c = λ arch strip events known size is.
    let laws : Laws = record {
      within = c.laws_of_places.ensures.within;
      apart = c.laws_of_places.ensures.apart;
      kinds_apart = c.laws_of_places.ensures.kinds_apart;
      packing = c.laws_of_packing.ensures;
      passes = c.laws_of_passes.ensures.few;
      graph = c.one_graph.ensures.exists;
      legal = c.done_is_legal.ensures;
      implements = c.implements_results.ensures.implements;
      connects = c.implements_results.ensures.connects;
      net_printed = c.printed_results.ensures.net;
      place_printed = c.printed_results.ensures.place;
      route_printed = c.printed_results.ensures.route;
    } in
    routed_implements laws arch strip known size events is

pub returns-clause-files : goal.returns-clause-files
returns-clause-files c = λ arch strip events known size is.
    let laws : Laws = record {
      within = c.laws_of_places.ensures.within;
      apart = c.laws_of_places.ensures.apart;
      kinds_apart = c.laws_of_places.ensures.kinds_apart;
      packing = c.laws_of_packing.ensures;
      passes = c.laws_of_passes.ensures.few;
      graph = c.one_graph.ensures.exists;
      legal = c.done_is_legal.ensures;
      implements = c.implements_results.ensures.implements;
      connects = c.implements_results.ensures.connects;
      net_printed = c.printed_results.ensures.net;
      place_printed = c.printed_results.ensures.place;
      route_printed = c.printed_results.ensures.route;
    } in
    files_implement laws (run arch strip events).0 is (routed_implements laws arch strip known size events is)
