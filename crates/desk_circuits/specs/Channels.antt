-- A channel, as JSON.
use Rattle.std.specs.Prelude.{[], ◌∷◌, codes}
use Rattle.desk_circuits.specs.Prelude.{channel_word, ChannelUse, Json, string, number_of, object_of}

-- its kind, its place, and the number of its wires that are used
abbrev pub channel_json : ChannelUse → Json
channel_json channel = object_of (
    (codes "kind", string (channel_word channel.direction)) ∷ (codes "x", number_of channel.x) ∷ (codes "y", number_of channel.y)
    ∷ (codes "wires", number_of channel.wires) ∷ [])
