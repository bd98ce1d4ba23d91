-- What the program writes for a script is read back.
use Rattle.replies_law.proofs.Prelude.{◌≡◌, ℕ, Bool, List, [], Result, Ok, arith, Arch, ArchFault, Act, Acts, acts_from, Architecture, checked_start, start_of, HasName, IsOutputReadBack}
use Rattle.replies_law.proofs.EachLemmas.{Each}
use Rattle.replies_law.proofs.NetLemmas.{nets_are_words}
use Rattle.replies_law.proofs.ScriptNames.{script_has}
use Rattle.replies_law.proofs.SizeLemmas.{are_tellable}
use Rattle.replies_law.proofs.ToldLemmas.{told_is_read}

-- the acts are a script's
checked_has : (r : Result Arch ArchFault) (within : Bool) (lines : List (List ℕ)) (said : Acts) → acts_from 1 within lines ≡ said → (arch : Arch) (acts : List (Act (List ℕ))) → checked_start r said ≡ Ok (arch, acts) → Each HasName acts
checked_has r within lines said is arch acts e = grind (arith, script_has)

start_has : (tracks : ℕ) (architecture : Architecture) (input : List ℕ) (arch : Arch) (acts : List (Act (List ℕ))) → start_of tracks architecture input ≡ Ok (arch, acts) → Each HasName acts
start_has tracks architecture input arch acts is = grind (arith, checked_has)

pub output_is_read : IsOutputReadBack
output_is_read options tracks architecture input output r small = grind (arith, start_has, are_tellable, told_is_read, nets_are_words)
