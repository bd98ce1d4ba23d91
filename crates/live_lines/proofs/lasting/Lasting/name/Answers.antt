use Rattle.live_lines.proofs.Prelude.{◌<◌, ◌∙◌, sym, ap, arith, length, number_of}
use Rattle.std.proofs.Common.{slice_get}
use Rattle.live_lines.proofs.KeptNames.{kept_at}
use Rattle.live_lines.proofs.lasting.Lasting.name.Goals as goal

pub returns-then-number-len : goal.returns-then-number-len
returns-then-number-len c =
    let names = c.args.self.now.names in
    let number = c.number-number.ensures.number in
    let below : number_of names c.args.name.now < length names = omega (arith, c.if-number-len.true, c.len.ensures, number) in
    kept_at names c.args.name.now c.name.result.now below (ap (slice_get names) (sym number) ∙ c.name.ensures)
