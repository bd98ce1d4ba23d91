-- The numbers that are written into channels.
use Rattle.std.specs.Prelude.{ℕ, ◌+◌, ◌*◌, ◌/◌, Bool, true, false, List, [], ◌∷◌, codes, decimal, if◌then◌else◌}
use Rattle.std.specs.List.{concat}
use Rattle.picture_lines.specs.declared.lattice.Direction.{Direction}
use Rattle.picture_lines.specs.declared.lattice.Direction.TheVariants.{Across, Up}
use Rattle.picture_lines.specs.declared.lattice.Lattice.{Lattice}
use Rattle.strip_picture.specs.declared.channels.ChannelTracks.{ChannelTracks}

-- the middle of a column or row, or of the channel after it
abbrev pub middle : Lattice → ℕ → Bool → ℕ
middle lattice number behind =
    if behind then number * (lattice.block + lattice.channel) + (lattice.block + lattice.channel / 2)
    else number * (lattice.block + lattice.channel) + lattice.block / 2

-- whether a channel is vertical, or horizontal
abbrev pub goes_up : Direction → Bool
goes_up Up = true
goes_up Across = false

abbrev pub goes_across : Direction → Bool
goes_across Up = false
goes_across Across = true

-- a number at a point of the picture
abbrev pub text_at : ℕ → ℕ → ℕ → List ℕ
text_at x y number =
    concat (codes "<text x=\"" ∷ decimal x ∷ codes "\" y=\"-" ∷ decimal y ∷ codes "\" dy=\".35em\">" ∷ decimal number ∷ codes "</text>\n" ∷ [])

-- the text in the middle of a channel: the number of its used tracks
abbrev pub number_text : Lattice → ChannelTracks → List ℕ
number_text lattice channel =
    text_at (middle lattice channel.x (goes_up channel.direction)) (middle lattice channel.y (goes_across channel.direction)) channel.tracks
