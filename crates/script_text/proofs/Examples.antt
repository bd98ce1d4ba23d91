-- Examples computed by the checker.
use Rattle.script_text.proofs.Prelude.{◌≡◌, ◌∷◌, [], codes, Err, refl, Admit, Step, UnfinishedUpload, Refused, Operator, Session, form_in, script_of}
use Rattle.std.proofs.Common.{Ok}

admission : script_of 1 (codes "op admit T 1\n") ≡ Ok (Operator (Admit (codes "T") 1) ∷ [])
unfolding form_in
admission = refl

steps : script_of 1 (codes "op step T 300\n") ≡ Ok (Operator (Step (codes "T") 300) ∷ [])
unfolding form_in
steps = refl

steps_without_number : script_of 1 (codes "op step T x\n") ≡ Err 1
unfolding form_in
steps_without_number = refl

least_faulty_line : script_of 18 (codes "\nfly\nop x\n") ≡ Err 19
unfolding form_in
least_faulty_line = refl

text_without_end : script_of 1 (codes "@T upload\n.end\n") ≡ Ok (Session (codes "T") (Refused UnfinishedUpload) ∷ [])
unfolding form_in
text_without_end = refl
