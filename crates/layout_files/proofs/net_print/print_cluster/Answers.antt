use Rattle.layout_files.proofs.Prelude.{◌∙◌, ◌++◌, ◌∷◌, [], List, ap, codes, map, slice_get, flat_map, option_map_or, LaidBle, ble_line, or_open, net_name, text_of, word_after_space, cluster_lines}
use Rattle.layout_files.proofs.Lines.{cluster_text}
use Rattle.layout_files.proofs.Printing.{finish, printed_then}
use Rattle.layout_files.proofs.net_print.print_cluster.Goals as goal

pub returns : goal.returns
returns c =
    let start = c.args.print.now in
    let circuit = c.args.circuit.now in
    let name = c.cluster_name.result.now in
    let heading = codes ".clb " ++ (name ++ codes "\npinlist:") in
    let pins = flat_map word_after_space (map (or_open (net_name circuit)) c.pins.result.now) in
    let bles = text_of (map (ble_line circuit c.args.arch.now) c.bles-2.result.now) in
    let named = c.print.new.self in
    let pinned = c.print_pins.new.print in
    let ended = c.print-2.new.self in
    let filled = c.print_bles.new.print in
    finish start filled c.print-3.new.self (((heading ++ pins) ++ (10 ∷ [])) ++ bles) (10 ∷ []) (text_of (cluster_lines circuit c.args.arch.now c.args.laid.now))
    (printed_then start ended filled ((heading ++ pins) ++ (10 ∷ [])) bles
    (printed_then start pinned ended (heading ++ pins) (10 ∷ []) (printed_then start named pinned heading pins c.print.ensures.left c.print_pins.ensures) c.print-2.ensures.left) c.print_bles.ensures)
    (cluster_text circuit c.args.arch.now c.args.laid.now name c.pins.result.now c.bles-2.result.now
    (c.cluster_name.ensures ∙ ap (λ (bles : List LaidBle). option_map_or (λ ble. net_name circuit ble.name) (slice_get bles 0) []) c.bles.ensures) c.pins.ensures c.bles-2.ensures) c.print-3.ensures.left
