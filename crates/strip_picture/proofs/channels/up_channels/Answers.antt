use Rattle.strip_picture.proofs.Prelude.{◌≡◌, ◌∙◌, ◌+◌, ◌*◌, ◌/◌, ◌%◌, ◌++◌, ◌∷◌, [], ℕ, List, map, ap, sym, arith, zero-add, range_with_len, map-range_with_len_more, Up, StripSize, ChannelTracks, use_of}
use Rattle.strip_picture.proofs.channels.up_channels.Goals as goal

pub loop-number-preserved : goal.loop-number-preserved
loop-number-preserved c nodes h =
    let size : StripSize = c.args.size in
    let n : ℕ = c.loop-number.number in
    let f : ℕ → ChannelTracks = λ number. use_of nodes Up (number / size.rows) (number % size.rows + 1) in
    c.in_ok-push.ensures.items
    ∙ (ap (λ (told : List ChannelTracks). told ++ c.use_of-channel.result ∷ []) (c.loop-number.invariant nodes h)
    ∙ (ap (λ one. map f (range_with_len 0 n) ++ one ∷ []) (c.use_of-channel.ensures nodes h) ∙ sym (map-range_with_len_more f 0 n n (zero-add n))))

pub returns : goal.returns
returns c nodes h =
    let size : StripSize = c.args.size in
    let f : ℕ → ChannelTracks = λ number. use_of nodes Up (number / size.rows) (number % size.rows + 1) in
    let all : c.loop-number.number ≡ (size.columns + 1) * size.rows = omega arith in
    c.loop-number.invariant nodes h ∙ ap (λ n. map f (range_with_len 0 n)) all
