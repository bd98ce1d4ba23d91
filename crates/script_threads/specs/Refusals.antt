-- Private: whether a command is served after one that is not.
use Rattle.std.specs.Prelude.{◌≡◌, List, [], ◌∷◌, map, Bool, true, false, ◌&&◌, ◌||◌}
use Rattle.script_threads.specs.Prelude.{Item, ItemAnswer, Receipt, Note, TranscriptState}

abbrev pub is_note : ItemAnswer → Bool
is_note (Note n) = true
is_note place = false

abbrev pub is_receipt : ItemAnswer → Bool
is_receipt (Receipt r) = true
is_receipt place = false

-- there is a receipt after a note; `refused` says whether a note came before these answers
abbrev pub served_late : Bool → List ItemAnswer → Bool
served_late refused [] = false
served_late refused (place ∷ places) = (is_receipt place && refused) || served_late (is_note place || refused) places

abbrev pub places_in : List Item → List ItemAnswer
places_in items = map (λ i. i.place) items

-- no receipt follows a note
abbrev pub NoneLate : TranscriptState → Type 0
NoneLate t = served_late false (places_in t.items) ≡ false
