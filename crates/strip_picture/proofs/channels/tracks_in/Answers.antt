use Rattle.strip_picture.proofs.Tracks.{counted_at}
use Rattle.strip_picture.proofs.channels.tracks_in.Goals as goal

pub returns : goal.returns
returns c nodes h =
    counted_at nodes c.args.used.now c.args.direction c.args.x c.args.y c.channel_number.result c.bits_set.result c.requires.column c.requires.row c.channel_number.ensures c.bits_set.ensures h
