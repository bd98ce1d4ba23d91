use Rattle.strip_picture.proofs.Prelude.{ℕ, ap, ChannelTracks}
use Rattle.strip_picture.proofs.channels.use_of.Goals as goal

pub returns : goal.returns
returns c nodes h =
    let told : ℕ → ChannelTracks = λ tracks. record { direction = c.args.direction; x = c.args.x; y = c.args.y; tracks = tracks } in
    ap told (c.tracks_in-tracks.ensures nodes h)
