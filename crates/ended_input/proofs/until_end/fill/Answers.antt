use Rattle.std.proofs.Common.{◌≡◌, ◌<◌, ◌-◌, ◌++◌, drop, length, arith, length-append, length-take, length-drop}
use Rattle.ended_input.proofs.UntilEndLemmas.{fills}
use Rattle.ended_input.proofs.until_end.fill.Goals as goal

pub returns-clause-ok : goal.returns-clause-ok
returns-clause-ok g c =
    let short = c.args.held.short in
    let room = c.requires in
    let long : length c.copy_from_slice.new.self ≡ c.args.held.count = (let l = c.copy_from_slice.ensures.len in omega (arith, l, short, room, length-take c.args.held.count c.args.buffer.now)) in
    let rest = drop c.args.held.count c.args.buffer.now in
    let whole = c.copy_from_slice.new.self ++ rest in
    let some : 0 < length c.read.new.buffer = (let l = c.read.auto.buffer in omega (arith, l, long, short, room, length-drop c.args.held.count c.args.buffer.now, length-append c.copy_from_slice.new.self rest, length-drop c.args.held.count whole, length-take (length whole - c.args.held.count) (drop c.args.held.count whole))) in
    fills c.args.held.count c.copy_from_slice.new.self _ c.read.new.buffer _ _ _ c.read.result c.copy_from_slice.ensures.after long some c.read.ensures.bound c.read.ensures.bytes
