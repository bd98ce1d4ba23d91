use Rattle.configuration_text.proofs.Prelude.{◌∙◌, sym, traced_ble}
use Rattle.configuration_text.proofs.Within.{with_latch}
use Rattle.configuration_text.proofs.cells.table_within.Goals as goal

pub returns-then-is_alone : goal.returns-then-is_alone
returns-then-is_alone c = λ arch laid ble named nets.
    sym (with_latch c.args.circuit.now arch laid ble c.args.name c.in-Some.latch _ named (sym c.latch_driving.ensures ∙ c.in-Some.is) (sym (c.is_alone.ensures (traced_ble arch laid ble) nets) ∙ c.if-is_alone.true))

pub returns-else-is_alone : goal.returns-else-is_alone
returns-else-is_alone c = λ arch laid ble named nets.
    c.table_driving-else-is_alone.ensures
    ∙ sym (with_latch c.args.circuit.now arch laid ble c.args.name c.in-Some.latch _ named (sym c.latch_driving.ensures ∙ c.in-Some.is) (sym (c.is_alone.ensures (traced_ble arch laid ble) nets) ∙ c.if-is_alone.false))
