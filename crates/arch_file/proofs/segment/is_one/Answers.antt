use Rattle.arch_file.proofs.Prelude.{◌+◌, ◌*◌, [], arith, length-map, texts}
use Rattle.arch_file.proofs.SegmentLemmas.{values_under-pair, values_under-end, is_one-found, is_one-other}
use Rattle.arch_file.proofs.segment.is_one.Goals as goal

pub returns-then-is_found : goal.returns-then-is_found
returns-then-is_found c =
    let pair = values_under-pair c.args.key.now c.words-words.result.now (2 * c.loop-pair.pair) (2 * (c.loop-pair.pair + 1)) (record { ref_ptr = (0, 0); now = [] }) (omega arith) (omega arith) in
    let invariant = c.loop-pair.invariant in
    let same = c.words-words.ensures in
    let is = c.is_word.ensures in
    grind arith

pub returns-then-not-is_number_one : goal.returns-then-not-is_number_one
returns-then-not-is_number_one c =
    let pair = values_under-pair c.args.key.now c.words-words.result.now (2 * c.loop-pair.pair) (2 * (c.loop-pair.pair + 1)) (record { ref_ptr = (0, 0); now = [] }) (omega arith) (omega arith) in
    let invariant = c.loop-pair.invariant in
    let same = c.words-words.ensures in
    let is = c.is_word.ensures in
    let value = c.is_number_one.ensures in
    grind (arith, is_one-other)

pub loop-pair-preserved : goal.loop-pair-preserved
loop-pair-preserved c =
    let pair = values_under-pair c.args.key.now c.words-words.result.now (2 * c.loop-pair.pair) (2 * (c.loop-pair.pair + 1)) (record { ref_ptr = (0, 0); now = [] }) (omega arith) (omega arith) in
    let invariant = c.loop-pair.invariant in
    let is = c.is_word.ensures in
    grind (arith, is_one-found)

pub returns : goal.returns
returns c =
    let ended = values_under-end c.args.key.now (texts c.words-words.result.now) (2 * c.loop-pair.pair) (omega (arith, length-map c.words-words.result.now (λ w. w.now))) in
    let invariant = c.loop-pair.invariant in
    let same = c.words-words.ensures in
    grind arith
