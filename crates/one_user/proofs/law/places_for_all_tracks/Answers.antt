use Rattle.one_user.proofs.SameNets.{places_same, same_text}
use Rattle.one_user.proofs.law.places_for_all_tracks.Goals as goal

pub returns : goal.returns
returns c = λ plan request tracks others arch other circuit is so. places_same plan request arch other circuit (same_text tracks others arch other plan.text.now is so)
