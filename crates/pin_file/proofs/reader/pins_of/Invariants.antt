use Rattle.pin_file.proofs.Prelude.{◌≡◌, [], drop, pins_after, pins_read}
use Rattle.pin_file.proofs.reader.pins_of.Given as goal

-- the lines that are left go on from the pins so far
abbrev pub invariant-loop-number : goal.invariant-loop-number
invariant-loop-number l = pins_after [] l.lines ≡ pins_after (pins_read l.pins.items) (drop l.number l.lines)
