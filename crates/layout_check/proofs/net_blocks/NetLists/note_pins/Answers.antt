use Rattle.layout_check.proofs.Prelude.{◌<◌, ◌≤◌, List, length, Option, ℕ, subst, range_with_len, Pin, is_net, on_pin, IsNoted}
use Rattle.layout_check.proofs.ByNet.{noted_last, noted_next, noted_start}
use Rattle.layout_check.proofs.net_blocks.NetLists.note_pins.Goals as goal

pub loop-pin-init : goal.loop-pin-init
loop-pin-init c =
    noted_start c.args.number c.args.limit (λ net pin. is_net net (on_pin c.args.arch.now c.args.block.now c.args.class pin)) (range_with_len 0 (length c.args.arch.now.pins)) c.args.self.now.marks c.args.self.now.lists c.requires.marks c.requires.lists

pub note_pin-requires : goal.note_pin-requires
note_pin-requires c = record { marks = c.loop-pin.invariant.marked; lists = c.loop-pin.invariant.long }

pub loop-pin-preserved : goal.loop-pin-preserved
loop-pin-preserved c =
    noted_next c.args.number c.args.limit (λ net pin. is_net net (on_pin c.args.arch.now c.args.block.now c.args.class pin)) (length c.args.arch.now.pins) c.loop-pin.pin c.args.self.now.marks c.loop-pin.self.marks c.note_pin.new.self.marks c.args.self.now.lists
    c.loop-pin.self.lists c.note_pin.new.self.lists (subst (λ (pins : List Pin). c.loop-pin.pin < length pins) c.as_slice-count.ensures c.loop-pin-test.true) c.loop-pin.invariant
    (subst (λ (o : Option ℕ). IsNoted c.args.number c.args.limit (λ other. is_net other o) c.loop-pin.self.marks c.note_pin.new.self.marks c.loop-pin.self.lists c.note_pin.new.self.lists) c.on_pin-net.ensures c.in_ok-note_pin.ensures)

pub returns : goal.returns
returns c =
    noted_last c.args.number c.args.limit (λ net pin. is_net net (on_pin c.args.arch.now c.args.block.now c.args.class pin)) (length c.args.arch.now.pins) c.loop-pin.pin c.args.self.now.marks c.loop-pin.self.marks c.args.self.now.lists c.loop-pin.self.lists
    (subst (λ (pins : List Pin). length pins ≤ c.loop-pin.pin) c.as_slice-count.ensures c.loop-pin-test.false) c.loop-pin.invariant
