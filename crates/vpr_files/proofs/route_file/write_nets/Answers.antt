use Rattle.vpr_files.proofs.Prelude.{◌≡◌, ◌∙◌, ◌<◌, ◌≤◌, ℕ, List, [], length, slice_get, slice_index_or, Some, false, sym, ap, arith, zero-add, enumerate_from, get_or-enumerate_from, length-enumerate_from, slice_get-get_or, BlockNet, block_nets, PackedCircuit, Node, PlacingUnderWay, places_by_block, numbered_net, net_lines, line_of, text_of, all_loop, all_loop_end, all_same, part_loop, part_same, writes_part}
use Rattle.vpr_files.proofs.TextLemmas.{flat_map-flat_map}
use Rattle.vpr_files.proofs.route_file.write_nets.Goals as goal

-- the lines of a net with its number
abbrev lines : PlacingUnderWay → List (List (List Node)) → ℕ × BlockNet → List (List (List ℕ))
lines placing routes net = net_lines placing.strip placing.packed (places_by_block placing) net.0 net.1 (slice_index_or routes net.0 [])

-- the net with a number, in the list of numbered nets
net_at : (packed : PackedCircuit) (number : ℕ) → number < length (block_nets packed) → slice_get (enumerate_from 0 (block_nets packed)) number ≡ Some (number, numbered_net packed number)
net_at packed number within =
    slice_get-get_or (enumerate_from 0 (block_nets packed)) number (number, record { net = 0; driver = 0; readers = []; global = false }) (let long = length-enumerate_from 0 (block_nets packed) in omega arith)
    ∙ ap Some (get_or-enumerate_from 0 (block_nets packed) number (number, record { net = 0; driver = 0; readers = []; global = false }) within)
    ∙ ap (λ n. Some (n, numbered_net packed number)) (zero-add number)

pub write_net-requires : goal.write_net-requires
write_net-requires g c =
    let placing = c.args.placing.now in
    let count : c.net_count-number-end.result ≡ length (block_nets placing.packed) = c.net_count-number-end.ensures ∙ ap (λ (p : PackedCircuit). length (block_nets p)) c.packed.ensures in
    let within : c.loop-number.number < length (block_nets placing.packed) = (let t = c.loop-number-test.true in omega (arith, t, count)) in
    record { net = within; route = (let same = c.requires in omega (arith, within, same)) }

pub returns-in_err-write_net : goal.returns-in_err-write_net
returns-in_err-write_net g c =
    let placing = c.args.placing.now in
    let number = c.loop-number.number in
    let nets = enumerate_from 0 (block_nets placing.packed) in
    let count : c.net_count-number-end.result ≡ length (block_nets placing.packed) = c.net_count-number-end.ensures ∙ ap (λ (p : PackedCircuit). length (block_nets p)) c.packed.ensures in
    let within : number < length (block_nets placing.packed) = (let t = c.loop-number-test.true in omega (arith, t, count)) in
    writes_part c.from_residual.result c.from_residual.ensures.0
    (part_same
    (part_loop (λ one. text_of (lines placing c.args.routes.now one)) nets number (number, numbered_net placing.packed number) (net_at placing.packed number within) c.loop-number.invariant c.in_err-write_net.ensures)
    (sym (flat_map-flat_map line_of (lines placing c.args.routes.now) nets)))

pub loop-number-preserved : goal.loop-number-preserved
loop-number-preserved g c =
    let placing = c.args.placing.now in
    let number = c.loop-number.number in
    let nets = enumerate_from 0 (block_nets placing.packed) in
    let count : c.net_count-number-end.result ≡ length (block_nets placing.packed) = c.net_count-number-end.ensures ∙ ap (λ (p : PackedCircuit). length (block_nets p)) c.packed.ensures in
    let within : number < length (block_nets placing.packed) = (let t = c.loop-number-test.true in omega (arith, t, count)) in
    all_loop (λ one. text_of (lines placing c.args.routes.now one)) nets number (number, numbered_net placing.packed number) (net_at placing.packed number within) c.loop-number.invariant c.in_ok-write_net.ensures

pub returns : goal.returns
returns g c =
    let placing = c.args.placing.now in
    let nets = enumerate_from 0 (block_nets placing.packed) in
    let count : c.net_count-number-end.result ≡ length (block_nets placing.packed) = c.net_count-number-end.ensures ∙ ap (λ (p : PackedCircuit). length (block_nets p)) c.packed.ensures in
    let past : length nets ≤ c.loop-number.number = (let t = c.loop-number-test.false in let long = length-enumerate_from 0 (block_nets placing.packed) in omega (arith, t, count, long)) in
    all_same (all_loop_end (λ one. text_of (lines placing c.args.routes.now one)) nets c.loop-number.number past c.loop-number.invariant)
    (sym (flat_map-flat_map line_of (lines placing c.args.routes.now) nets))
