-- Calls of the core that don't run out of memory.
use Rattle.replies_law.proofs.Prelude.{ℕ, List, [], ◌∷◌, Err, ⊤, Call, Admit, Tenant, GiveBack, Telling}
use Rattle.service_core.specs.declared.not_served.NotServed.TheVariants.{NoMemory}
use Rattle.service_core.specs.declared.op_refusal.OpRefusal.TheVariants.{NoMemory as OpNoMemory}
use Rattle.service_core.specs.Run.Call.{Put}

-- the call isn't refused because memory ran out, and gives no job back
abbrev pub FoundMemory : Call → Type 0
FoundMemory (Admit width (Err OpNoMemory)) = ⊥
FoundMemory (Tenant id command (Err NoMemory)) = ⊥
FoundMemory (Put done foreign (Err back)) = ⊥
FoundMemory (GiveBack job) = ⊥
FoundMemory call = ⊤

abbrev pub HadMemory : List Call → Type 0
HadMemory [] = ⊤
HadMemory (call ∷ calls) = FoundMemory call × HadMemory calls

abbrev pub AllHadMemory : List Telling → Type 0
AllHadMemory [] = ⊤
AllHadMemory (t ∷ ts) = HadMemory t.calls × AllHadMemory ts
