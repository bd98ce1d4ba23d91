use Rattle.strip_picture.proofs.Prelude.{take, HasTracks}
use Rattle.strip_picture.proofs.channels.used_tracks.Given as goal

abbrev pub invariant-loop-read : goal.invariant-loop-read
invariant-loop-read l = HasTracks (take l.read-index l.nodes) l.used.items
