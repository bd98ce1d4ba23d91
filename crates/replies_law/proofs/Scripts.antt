-- Two scripts with equal lines of a name print equal sections for it.
use Rattle.replies_law.proofs.Prelude.{◌≡◌, ℕ, ◌<◌, ◌^◌, Bool, true, false, cond, List, [], ◌∷◌, ◌++◌, length, map, Some, None, Ok, refl, ap, ◌∙◌, subst, arith, Device, empty_service, IsService-empty, own_graph, last_id, Stage, told_to, Architecture, Options, IsReplies, device_of, start_of, Telling, Tells, answered_line, AreLeft, IsTheSame, Plays, answers_in, is_own, own_tellings, own_acts, own_answers, section_in}
use Rattle.replies_law.proofs.OutputLemmas.{output_is_read}
use Rattle.replies_law.proofs.Found.{AllHadMemory}
use Rattle.replies_law.proofs.Memory.{own_had}
use Rattle.replies_law.proofs.Seats.{Seat, SitThrough, hear_the_same, heard, own_answer_in, seat}
use Rattle.replies_law.proofs.Told.{grants_told}
use Rattle.replies_law.proofs.Stages.{Sound, own_sits, own_uses, seat_stays, sound_after}

-- a run, by a name's own acts
sits_through : (device : Device) (name : List ℕ) (old last : Stage) (ts : List Telling) → Tells old ts last → Sound device name old → AreLeft name ts → AllHadMemory (own_tellings name ts) →
    SitThrough device (seat old.service.histories (last_id old.names name)) (own_tellings name ts)
sits_through device name old last [] tells sound left had = tt
sits_through device name old last (t ∷ ts) tells sound left had =
    by_own (is_own name t.act) refl had (sits_through device name tells.0 last ts tells.2 (sound_after device name old tells.0 t.act t.calls t.text sound tells.1 left.0) left.1)
  where
    mid : Stage
    mid = tells.0

    by_own : (b : Bool) → is_own name t.act ≡ b → AllHadMemory (cond b (t ∷ own_tellings name ts) (own_tellings name ts)) → (AllHadMemory (own_tellings name ts) → SitThrough device (seat mid.service.histories (last_id mid.names name)) (own_tellings name ts)) →
        SitThrough device (seat old.service.histories (last_id old.names name)) (cond b (t ∷ own_tellings name ts) (own_tellings name ts))
    by_own true e had rest = (seat mid.service.histories (last_id mid.names name), own_sits device name old mid t.act t.calls t.text sound tells.1 had.0 e, own_uses name old mid t.act t.calls t.text tells.1 e, rest had.1)
    by_own false e had rest = let P : Seat → Type 0 = λ s. SitThrough device s (own_tellings name ts) in subst P (seat_stays device name old mid t.act t.calls t.text sound tells.1 left.0 e) (rest had)

-- the acts of a name's tellings are its acts
acts_of_own : (name : List ℕ) (ts : List Telling) → map (λ t. t.act) (own_tellings name ts) ≡ own_acts name (map (λ t. t.act) ts)
acts_of_own name [] = refl
acts_of_own name (t ∷ ts) = grind (arith, acts_of_own name ts)

-- the answers to a name are the answers to its own acts
abbrev joined : List (List ℕ) → List ℕ
joined [] = []
joined (x ∷ xs) = x ++ joined xs

heard_joined : (name : List ℕ) (ts : List Telling) → told_to (Some name) (map answered_line ts) ≡ joined (map heard (own_tellings name ts))
heard_joined name [] = refl
heard_joined name (t ∷ ts) = grind (arith, heard_joined name ts)

-- a section is the answers to the name
pub section_is : (options : Options) (tracks : ℕ) (architecture : Architecture) (input output name : List ℕ) → (r : IsReplies options (start_of tracks architecture input) output) → length output < 2 ^ 64 →
    section_in name r.acts output ≡ Ok (joined (map heard (own_tellings name r.tellings)))
section_is options tracks architecture input output name r small = search (output_is_read, heard_joined, arith)

-- a run leads the name's seat through its own acts
pub run_sits : (options : Options) (tracks : ℕ) (architecture : Architecture) (input output name : List ℕ) → (r : IsReplies options (start_of tracks architecture input) output) → Plays name r.tellings →
    SitThrough (device_of options r.arch) None (own_tellings name r.tellings)
run_sits options tracks architecture input output name r plays =
    let device = device_of options r.arch in
    let start : Stage = record { names = []; jobs = []; service = empty_service device; graph = own_graph device } in
    sits_through device name start r.last r.tellings r.told (record { kept = IsService-empty device; on = refl; even = refl; elsewhere = tt }) plays.left
    (own_had name start r.last r.tellings r.told refl plays.memory)

pub own_of : (options : Options) (tracks : ℕ) (architecture : Architecture) (input output name : List ℕ) → (r : IsReplies options (start_of tracks architecture input) output) → map (λ t. t.act) (own_tellings name r.tellings) ≡ own_acts name r.acts
own_of options tracks architecture input output name r = acts_of_own name r.tellings ∙ ap (own_acts name) r.all

-- so are its own answers
own_told : (name : List ℕ) (ts : List Telling) → own_answers name (map (λ t. t.act) ts) (map answered_line ts) ≡ map own_answer_in (own_tellings name ts)
own_told name [] = refl
own_told name (t ∷ ts) = grind (arith, own_told name ts)

answers_are : (options : Options) (tracks : ℕ) (architecture : Architecture) (input output name : List ℕ) → (r : IsReplies options (start_of tracks architecture input) output) → length output < 2 ^ 64 →
    answers_in name r.acts output ≡ Ok (map own_answer_in (own_tellings name r.tellings))
answers_are options tracks architecture input output name r small = grind (arith, output_is_read options tracks architecture input output r small, own_told name r.tellings)

pub is_the_same : IsTheSame
is_the_same options other tracks other_tracks architecture other_architecture input other_input output other_output name r s small other_small arch rows acts granted plays other_plays = grind (arith, grants_told, hear_the_same, run_sits options tracks architecture input output name r plays, run_sits other other_tracks other_architecture other_input other_output name s other_plays, own_of options tracks architecture input output name r, own_of other other_tracks other_architecture other_input other_output name s, section_is options tracks architecture input output name r small, section_is other other_tracks other_architecture other_input other_output name s other_small, answers_are options tracks architecture input output name r small, answers_are other other_tracks other_architecture other_input other_output name s other_small)
