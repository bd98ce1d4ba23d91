use Rattle.layout_files.proofs.Prelude.{◌++◌, ◌∷◌, ◌∙◌, ap, codes, map, flat_map, refl, sym, is_some, Cluster, laid_name, left_after, ble_line, net_name, or_open, text_of, word_after_space}
use Rattle.layout_files.proofs.Printing.{takes_false}
use Rattle.layout_files.proofs.Reading.{laid_plain}
use Rattle.layout_files.proofs.ReadingNets.{block_is_cluster, same_block}
use Rattle.layout_files.proofs.net_lines.read_block.Goals as goal

pub returns-clause-read : goal.returns-clause-read
returns-clause-read c = λ circuit arch laid after same size names fits bare at numbered e.
    let start = c.expect.new.self in
    let first = takes_false start c.takes.new.self (codes ".input ") c.takes.result c.if-takes.false c.takes.ensures.left in
    let second = takes_false c.takes.new.self c.takes-2.new.self (codes ".output out:") c.takes-2.result c.if-takes-2.false c.takes-2.ensures.left in
    let is = block_is_cluster circuit arch laid after c.args.number start c.takes.result c.takes-2.result numbered (c.expect.ensures ∙ e) c.takes.ensures.whether c.if-takes.false
    (c.takes-2.ensures.whether ∙ ap (λ v. is_some (left_after v (codes ".output out:"))) first) c.if-takes-2.false in
    let text = c.text.ensures.left ∙ ap (λ v. left_after v (codes ".clb ")) (second ∙ first ∙ is.1) in
    let lines = text_of (map (ble_line circuit arch) laid.bles) ++ (10 ∷ after) in
    let words = flat_map (λ pin. word_after_space (or_open (net_name circuit) pin)) laid.pins ++ (10 ∷ lines) in
    let named = c.word.ensures.read (laid_name circuit laid) (codes "\npinlist:" ++ words) (laid_plain circuit laid names) refl text in
    let pinned = c.in_ok-pins.ensures.read circuit laid.pins lines same names fits.pins (c.text-2.ensures.left ∙ ap (λ v. left_after v (codes "\npinlist:")) named.1) in
    let filled = c.in_ok-bles.ensures.read circuit arch laid.bles after same size names fits.bles (c.text-3.ensures.left ∙ ap (λ v. left_after v (codes "\n")) pinned.1) in
    (c.new-2.ensures ∙ same_block laid (Cluster c.args.number) _ _ c.args.place (sym is.0) pinned.0 filled.0 (sym at), c.text-4.ensures.left ∙ ap (λ v. left_after v (codes "\n")) filled.1)
