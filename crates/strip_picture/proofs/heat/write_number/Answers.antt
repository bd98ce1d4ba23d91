use Rattle.strip_picture.proofs.Prelude.{◌≡◌, ◌∙◌, Bool, ap, writes_same, Lattice, ChannelTracks, goes_across, goes_up, middle, number_text, text_at}
use Rattle.strip_picture.proofs.heat.write_number.Goals as goal

pub returns : goal.returns
returns g c =
    let lattice : Lattice = c.args.lattice in
    let channel : ChannelTracks = c.args.channel in
    let x : c.middle-x.result ≡ middle lattice channel.x (goes_up channel.direction) = c.middle-x.ensures ∙ ap (λ (behind : Bool). middle lattice channel.x behind) c.goes_up.ensures in
    let y : c.middle-y.result ≡ middle lattice channel.y (goes_across channel.direction) = c.middle-y.ensures ∙ ap (λ (behind : Bool). middle lattice channel.y behind) c.goes_across.ensures in
    let same : text_at c.middle-x.result c.middle-y.result channel.tracks ≡ number_text lattice channel = λ i. text_at (x i) (y i) channel.tracks in
    writes_same _ _ _ _ _ _ _ same c.write_at.ensures
