use Rattle.std.proofs.Common.{arith, below_more, ◌≡◌, ◌+◌, ◌<◌, ◌≤◌, false, true, refl}
use Rattle.strips.specs.declared.placed_strip.PlacedStrip.{PlacedStrip}
use Rattle.strips.specs.Plan.{Plan}
use Rattle.strips.proofs.Laid.{IsParted-with, IsParted-with-apart, IsParted-with-inside}
use Rattle.device_report.proofs.widest.first_fit.Goals as goal

pub loop-offset-preserved : goal.loop-offset-preserved
loop-offset-preserved c =
    let plan : Plan = record { columns = c.args.columns; strips = c.args.strips.now } in
    let strip : PlacedStrip = record { id = 0; offset = c.loop-offset.offset; width = c.args.width } in
    below_more _ _ c.loop-offset.invariant (λ fits.
    let apart = IsParted-with-apart plan strip fits.parted in
    let said : false ≡ true = c.if-is_apart_from_all.ensures.1 apart in cc)

pub returns-then-is_apart_from_all : goal.returns-then-is_apart_from_all
returns-then-is_apart_from_all c =
    let plan : Plan = record { columns = c.args.columns; strips = c.args.strips.now } in
    let strip : PlacedStrip = record { id = 0; offset = c.loop-offset.offset; width = c.args.width } in
    let apart = c.if-is_apart_from_all.ensures.0 refl in
    let wide : 0 < c.args.width = omega arith in
    let inside : c.loop-offset.offset + c.args.width ≤ c.args.columns = omega arith in
    (record { wide = wide; parted = IsParted-with plan strip c.requires.parted inside apart }, c.loop-offset.invariant)

pub returns : goal.returns
returns c offset fits =
    let plan : Plan = record { columns = c.args.columns; strips = c.args.strips.now } in
    let inside : offset + c.args.width ≤ c.args.columns = IsParted-with-inside plan (record { id = 0; offset = offset; width = c.args.width }) fits.parted in
    c.loop-offset.invariant offset (omega arith) fits
