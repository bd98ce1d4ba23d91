-- The last id of each name.
use Rattle.std.specs.Prelude.{ℕ, Bool, ◌&&◌, eqb, List, [], ◌∷◌, ◌++◌, Option, Some, None, codes, drop, reverse, if◌then◌else◌}
use Rattle.std.specs.List.{filter_map, starts_with}
use Rattle.live_log.specs.Prelude.{has_name, with_name, has_id, id_of, is_good_id, owner_of, tag_of}

-- the tag that a line says: its own, or that of a comment of a shorter log
abbrev pub said_tag : List ℕ → List ℕ
said_tag line = if starts_with eqb line (codes "# last ") then tag_of (drop 7 line) else tag_of line

-- whether a tag begins with `@`
abbrev pub is_of_name : List ℕ → Bool
is_of_name tag = starts_with eqb tag (codes "@")

-- the tag that a line says, if it is one of a name, with an id
abbrev pub named_tag : List ℕ → Option (List ℕ)
named_tag line = if is_of_name (said_tag line) && (has_id (said_tag line) && is_good_id (id_of (said_tag line))) then Some (said_tag line) else None

-- Of tags, the last one first, those of other owners than these, the first tag of each.
abbrev pub newest : List (List ℕ) → List (List ℕ) → List (List ℕ)
newest owners [] = []
newest owners (tag ∷ tags) = if has_name owners (owner_of tag) then newest owners tags else tag ∷ newest (with_name owners (owner_of tag)) tags

-- the last tag of each name that has an id in these lines, in the order of the lines
abbrev pub last_tags : List (List ℕ) → List (List ℕ)
last_tags lines = reverse (newest [] (reverse (filter_map named_tag lines)))

-- Private: the tags, and one more.
abbrev pub with_tag : List (List ℕ) → Option (List ℕ) → List (List ℕ)
with_tag tags None = tags
with_tag tags (Some tag) = tags ++ tag ∷ []
