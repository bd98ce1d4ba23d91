use Rattle.line_text.proofs.Prelude.{◌^◌, sym, ◌∙◌, refl, arith}
use Rattle.line_text.proofs.DecimalLemmas.{number_from-below, number_from-none, number_from-end}
use Rattle.line_text.proofs.decimal.digits.Goals as goal

pub returns-in_err-number-clause-value : goal.returns-in_err-number-clause-value
returns-in_err-number-clause-value c =
    c.from_residual.ensures ∙ sym (c.loop-byte.invariant.0 ∙ number_from-none (2 ^ 64) c.loop-byte.number c.loop-byte.byte-index _ c.args.bytes.now (omega arith) refl (sym c.in_err-number.ensures))

pub returns-clause-value : goal.returns-clause-value
returns-clause-value c = sym (c.loop-byte.invariant.0 ∙ number_from-end (2 ^ 64) c.loop-byte.number c.loop-byte.byte-index c.args.bytes.now c.loop-byte.invariant.1 (omega arith))

pub returns-clause-bound : goal.returns-clause-bound
returns-clause-bound c =
    number_from-below (2 ^ 64) c.loop-byte.number c.args.bytes.now (sym (returns-clause-value c))
