use Rattle.strip_place.proofs.Prelude.{ℕ, ◌≡◌, ◌+◌, ◌<◌, ◌++◌, ◌∷◌, [], ◌∙◌, List, Option, length, take, get_or, map, arith, ap, sym, option_map, length-map, map_more, take_all, get_or_from_slice_get, slice_get_within, blocks_of, BlockKey, keys_of, kept_place, site_of}
use Rattle.cluster.specs.Keys as in_packed
use Rattle.kept_places.specs.Table.{key_of}
use Rattle.strip_place.proofs.start.kept_by_block.Goals as goal

pub loop-block-preserved : goal.loop-block-preserved
loop-block-preserved c =
    let keys = keys_of c.args.packed.now in
    let site_by : BlockKey → Option ℕ = λ key. option_map (site_of c.args.strip key.kind) (kept_place c.args.kept.now key) in
    let block = c.loop-block.block in
    let key : BlockKey = key_of c.key.result in
    let lt : block < length keys = slice_get_within keys block key c.key.ensures in
    let here : get_or keys block key ≡ key = get_or_from_slice_get keys block key key c.key.ensures in
    let more : map site_by (take (block + 1) keys) ≡ map site_by (take block keys) ++ c.kept_site.result ∷ [] =
    map_more site_by keys block key lt ∙ ap (λ (o : Option ℕ). map site_by (take block keys) ++ o ∷ []) (ap site_by here ∙ sym c.kept_site.ensures) in
    c.in_ok-push.ensures.items ∙ (ap (λ (front : List (Option ℕ)). front ++ c.kept_site.result ∷ []) c.loop-block.invariant ∙ sym more)

pub returns : goal.returns
returns c =
    let keys = keys_of c.args.packed.now in
    let site_by : BlockKey → Option ℕ = λ key. option_map (site_of c.args.strip key.kind) (kept_place c.args.kept.now key) in
    let count = c.block_count-block-end.ensures in
    let all = take_all c.loop-block.block keys (omega (arith, c.loop-block-test.false, count, length-map (blocks_of c.args.packed.now) (in_packed.key_of c.args.packed.now))) in
    c.loop-block.invariant ∙ ap (map site_by) all
