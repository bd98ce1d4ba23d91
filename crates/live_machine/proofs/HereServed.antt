-- What the operator is told, whatever workers have.
use Rattle.live_machine.proofs.Prelude.{◌≡◌, ℕ, ◌-◌, List, [], ◌∷◌, ◌++◌, codes, decimal, false, Option, refl, sym, ap, ◌∙◌, arith, option_map, length-map, OperatorLine, Admit, Evict, Move, Owners, Step, Take, Put, MAX_ADMISSIONS, History, Call, ServiceState, last_id, list_text, listed_text, IsAdmission, IsServed, Stage, AreFigures, IsRow, Operates, is_by_hand, all_here}
use Rattle.script_text.specs.declared.operator_line.OperatorLine.TheVariants.{List as ListAll}
use Rattle.service_core.specs.Run.Call.{Evict as EvictCall, Move as MoveCall}
use Rattle.live_machine.proofs.Here.{live_rested, rested}
use Rattle.live_machine.proofs.HereCalls.{happens_here, owners_listed}

abbrev pub stage_here : Stage → Stage
stage_here stage = record stage { service = all_here stage.service }

admission_here : (o : Option History) (old : Stage) (name : List ℕ) (width : ℕ) (calls : List Call) (text : List ℕ) (new : Stage) → IsAdmission o old name width calls text new → IsAdmission (option_map rested o) (stage_here old) name width calls text (stage_here new)
admission_here o old name width calls text new h1 = grind (arith, happens_here)

listed_here : (o : Option History) (offset : Option ℕ) (id : ℕ) (name : List ℕ) → listed_text (option_map rested o) offset id name ≡ listed_text o offset id name
listed_here o offset id name = grind arith

list_here : (service : ServiceState) (names : List (List ℕ)) → list_text (all_here service) names ≡ list_text service names
list_here service [] = refl
list_here service (newest ∷ older) = search (live_rested, listed_here, list_here service older, arith)

-- a tenancy's figures
row_here : (o : Option History) (id : ℕ) (name row : List ℕ) → IsRow o id name row → IsRow (option_map rested o) id name row
row_here o id name row own = grind arith

pub figures_here : (service : ServiceState) (number : ℕ) (names : List (List ℕ)) (text : List ℕ) → AreFigures service number names text → AreFigures (all_here service) number names text
figures_here service number [] text is = is ∙ ap (λ n. codes "served " ++ decimal number ++ codes "\nadmissions_left " ++ decimal (MAX_ADMISSIONS - n) ++ 10 ∷ []) (sym (length-map service.histories rested))
figures_here service number (newest ∷ older) text (before, row, rest, own, is) = search (live_rested, row_here, figures_here service number older before rest, arith)

pub served_here : (old : Stage) (line : OperatorLine (List ℕ)) (calls : List Call) (text : List ℕ) (new : Stage) → is_by_hand (Operates line) ≡ false → IsServed old line calls text new → IsServed (stage_here old) line calls text (stage_here new)
served_here old (Admit name width) calls text new hand served = search (live_rested, admission_here, arith)
served_here old (Evict name) calls text new hand (answer, happens, names, jobs, asks, told, graph) = (answer, happens_here old.service (EvictCall (last_id old.names name) answer) new.service tt happens, names, jobs, asks, told, graph)
served_here old (Move name offset) calls text new hand (answer, happens, names, jobs, asks, told, graph) = (answer, happens_here old.service (MoveCall (last_id old.names name) offset answer) new.service tt happens, names, jobs, asks, told, graph)
served_here old ListAll calls text new hand (none, told, same) = (none, told ∙ sym (list_here old.service old.names), ap stage_here same)
served_here old Owners calls text new hand (owners, lists, asks, told, same) = (owners, owners_listed old.service owners lists, asks, told, ap stage_here same)
served_here old (Step name count) calls text new hand served = absurd (cc)
served_here old (Take name) calls text new hand served = absurd (cc)
served_here old (Put number) calls text new hand served = absurd (cc)
