use Rattle.one_user.proofs.Prelude.{◌*◌, ◌/◌, sym, ap, ◌∙◌, arith}
use Rattle.one_user.proofs.Coolings.{first_temperature, next_temperature}
use Rattle.one_user.proofs.passes.temperature_after.Goals as goal

pub loop-pass-init : goal.loop-pass-init
loop-pass-init c = record { is = sym (first_temperature c.args.strip); low = omega (arith, c.requires.width.1, c.requires.rows.1) }

pub loop-pass-preserved : goal.loop-pass-preserved
loop-pass-preserved c =
    let i = c.loop-pass.invariant in
    record {
      is = ap (λ n. 9 * n / 10) i.is ∙ sym (next_temperature c.args.strip c.loop-pass._pass);
      low = omega (arith, i.low);
    }
