-- What `report --moves` prints.
use Rattle.std.specs.Prelude.{ℕ, ◌==◌, List, [], ◌∷◌, ◌++◌, codes, decimal, find, flat_map, map, Bool, Option, Some, None}
use Rattle.std.specs.List.{concat}
use Rattle.desk_replies.specs.Prelude.{IsLaidOut, Plan, PlacedStrip, Report, TenancyUse, Room, TakesAll, gaps_of, IsJoining, Joining, StripMove}

-- columns side by side as a comment: the words, their number, and the offset
abbrev pub room_line : List ℕ → Room → List ℕ
room_line words room = concat (codes "# " ∷ words ∷ codes " " ∷ decimal room.width ∷ codes " offset " ∷ decimal room.offset ∷ codes "\n" ∷ [])

-- a widest strip as a comment
abbrev pub widest_line : List ℕ → Option Room → List ℕ
widest_line words (Some room) = room_line words room
widest_line words None = concat (codes "# " ∷ words ∷ codes " none\n" ∷ [])

-- the gaps, and the widest strip that would be admitted
abbrev pub gaps_text : List Room → Option Room → List ℕ
gaps_text gaps widest = flat_map (room_line (codes "gap")) gaps ++ widest_line (codes "widest") widest

-- a move of a tenancy to that offset as a line of a script
abbrev pub line_to : ℕ → TenancyUse → List ℕ
line_to offset uses = concat (codes "op move " ∷ uses.tenancy.name.now ∷ codes " " ∷ decimal offset ∷ codes "\n" ∷ [])

abbrev pub line_if : ℕ → Option TenancyUse → List ℕ
line_if offset (Some uses) = line_to offset uses
line_if offset None = []

-- the first of the tenancies with that id
abbrev pub tenancy_of : List TenancyUse → ℕ → Option TenancyUse
tenancy_of tenancies id = find (λ uses. uses.tenancy.id == id) tenancies

-- the line of a move has the name of the tenancy that is moved
abbrev pub move_line : List TenancyUse → StripMove → List ℕ
move_line tenancies move = line_if move.offset (tenancy_of tenancies move.id)

-- the moves, and the widest strip that would be admitted after them
abbrev pub joining_text : List TenancyUse → Joining → List ℕ
joining_text tenancies joining = flat_map (move_line tenancies) joining.moves.items ++ widest_line (codes "then widest") joining.widest

abbrev pub joining_if : List TenancyUse → Option Joining → List ℕ
joining_if tenancies (Some joining) = joining_text tenancies joining
joining_if tenancies None = []

-- the strips of a report's tenancies
abbrev pub strips_of : Report → List PlacedStrip
strips_of report = map (λ (uses : TenancyUse). record { id = uses.tenancy.id; offset = uses.tenancy.offset; width = uses.tenancy.width }) report.tenancies.items

abbrev pub plan_of : Report → Plan
plan_of report = record { columns = report.size.columns; strips = strips_of report }

-- moves that join the gaps of a plan; there are none if its strips are not separated
abbrev pub AreJoining : Plan → Option Joining → Type 0
AreJoining plan (Some joining) = IsJoining plan joining
AreJoining plan None = IsLaidOut plan → ⊥

-- the text for a report, with these moves
abbrev pub moves_text : Report → Option Joining → List ℕ
moves_text report found = gaps_text (gaps_of report.size.columns (strips_of report)) report.widest ++ joining_if report.tenancies.items found

module _ {S : Type 0} (contents : S → Option (List ℕ)) (has_failed : S → Bool) (old new : S) where
  -- private: the moves of these tenancies that join the gaps of a plan are written
  abbrev pub AreJoined : List TenancyUse → Plan → Type 0
  AreJoined tenancies plan = (found : Option Joining) × AreJoining plan found × TakesAll contents has_failed old new (joining_if tenancies found)

  -- the gaps of a report's device are written, and moves that join them
  abbrev pub AreMoves : Report → Type 0
  AreMoves report = (found : Option Joining) × AreJoining (plan_of report) found × TakesAll contents has_failed old new (moves_text report found)
