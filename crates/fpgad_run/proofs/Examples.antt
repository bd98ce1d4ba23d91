-- Computed examples.
use Rattle.fpgad_run.proofs.Prelude.{◌≡◌, ◌∷◌, [], codes, refl, Blank, Session, replies_text}

sections_by_first_line : replies_text (record { act = Session (codes "U") Blank; calls = []; text = codes "a" } ∷ record { act = Session (codes "T") Blank; calls = []; text = codes "b" } ∷ record { act = Session (codes "U") Blank; calls = []; text = codes "c" } ∷ []) ≡ codes "== op\n== U\nac== T\nb"
sections_by_first_line = refl
