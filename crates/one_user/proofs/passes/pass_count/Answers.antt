use Rattle.one_user.proofs.Prelude.{◌*◌, ◌/◌, ◌<◌, sym, subst, ap, ◌∙◌, arith}
use Rattle.one_user.proofs.Coolings.{first_temperature, next_temperature, passes_are, still_warm}
use Rattle.one_user.proofs.passes.pass_count.Goals as goal

pub loop-passes-init : goal.loop-passes-init
loop-passes-init c = record {
  is = sym (first_temperature c.args.strip);
  low = omega (arith, c.requires.width.1, c.requires.rows.1);
  warm = λ before l. absurd (omega (arith, l));
}

pub returns-then-temperature-eq0 : goal.returns-then-temperature-eq0
returns-then-temperature-eq0 c =
    let i = c.loop-passes.invariant in
    passes_are c.args.strip c.loop-passes.passes (omega (arith, i.low)) (sym i.is ∙ c.if-temperature-eq0.true) i.warm

pub loop-passes-preserved : goal.loop-passes-preserved
loop-passes-preserved c =
    let i = c.loop-passes.invariant in
    let t = c.loop-passes.temperature in
    let some : 0 < t = omega (arith, c.if-temperature-eq0.false) in
    record {
      is = ap (λ n. 9 * n / 10) i.is ∙ sym (next_temperature c.args.strip c.loop-passes.passes);
      low = omega (arith, i.low, some);
      warm = still_warm c.args.strip c.loop-passes.passes i.warm (subst (λ n. 0 < n) i.is some);
    }
