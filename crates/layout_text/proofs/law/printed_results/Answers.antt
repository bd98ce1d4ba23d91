use Rattle.layout_text.proofs.Printing.{net_printed, place_printed, route_printed}
use Rattle.layout_text.proofs.law.printed_results.Goals as goal

pub returns-clause-net : goal.returns-clause-net
returns-clause-net c = λ packed places routes lawful. net_printed packed places lawful (c.laws_of_packing.ensures packed lawful) routes

pub returns-clause-place : goal.returns-clause-place
returns-clause-place c = λ packed strip places routes lawful. place_printed packed places lawful (c.laws_of_packing.ensures packed lawful) strip routes

pub returns-clause-route : goal.returns-clause-route
returns-clause-route c = λ packed strip places routes lawful. route_printed packed places lawful (c.laws_of_packing.ensures packed lawful) strip routes
