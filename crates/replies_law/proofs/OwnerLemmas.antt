-- The owners are printed in lines.
use Rattle.replies_law.proofs.Prelude.{ℕ, ◌<◌, ◌≤◌, ◌^◌, List, [], ◌∷◌, length, refl, arith, length-append, Owned, Node, NodeKind, Resource, ResourceKind, kind_word, node_text_of, owned_text, owners_text, resource_text, NoFeed}
use Rattle.std.specs.Prelude.{flat_map}
use Rattle.replies_law.proofs.FeedLemmas.{IsLine, decimal_no_feed, no_feed-append}
use Rattle.replies_law.proofs.FormLemmas.{AreLines}
use Rattle.replies_law.proofs.AnswerLemmas.{line_of_bytes}

kind_other : (kind : NodeKind) → NoFeed (kind_word kind)
kind_other kind = grind arith

node_other : (rows : ℕ) (node : Node) → NoFeed (node_text_of rows node)
unfolding node_text_of
node_other rows node = grind (arith, no_feed-append, decimal_no_feed)

resource_other : (rows : ℕ) (r : Resource) (kind : ResourceKind) → NoFeed (resource_text rows r kind)
resource_other rows r kind = grind (arith, node_other, no_feed-append, decimal_no_feed)

owned_line : (rows : ℕ) (owned : Owned) → IsLine (owned_text rows owned)
owned_line rows owned = grind (arith, line_of_bytes, no_feed-append, resource_other, decimal_no_feed)

pub owners_lines : (rows : ℕ) (owners : List Owned) → AreLines (length owners) (flat_map (owned_text rows) owners)
owners_lines rows [] = refl
owners_lines rows (owned ∷ owners) = (owned_text rows owned, flat_map (owned_text rows) owners, owned_line rows owned, owners_lines rows owners, refl)

-- there are no more owners than bytes
owners_few : (rows : ℕ) (owners : List Owned) → length owners ≤ length (flat_map (owned_text rows) owners)
owners_few rows [] = omega arith
owners_few rows (owned ∷ owners) = grind (arith, length-append, owners_few rows owners)

pub owners_small : (rows : ℕ) (owners : List Owned) → length (owners_text rows owners) < 2 ^ 64 → length owners < 2 ^ 64
owners_small rows owners small = grind (arith, owners_few, length-append)
