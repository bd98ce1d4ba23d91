-- What doesn't change with where the steps are.
use Rattle.live_machine.proofs.Prelude.{◌≡◌, Option, arith, option_map, length-map, History, ServiceState, entries_in, IsLeftAlone, all_here}
use Rattle.live_machine.proofs.Here.{history_rested, rested}

same_entries : (o : Option History) → entries_in (option_map rested o) ≡ entries_in o
same_entries o = grind arith

pub left_alone : (service : ServiceState) → IsLeftAlone service (all_here service)
left_alone service = grind (arith, history_rested, length-map service.histories rested)
