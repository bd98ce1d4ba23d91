use Rattle.desk_circuits.proofs.Prelude.{refl, usage_text}
use Rattle.desk_circuits.proofs.usages.write_account.Goals as goal

pub returns : goal.returns
returns g c =
    let account = c.args.account.now in
    let circuit = c.present_circuit-circuit.result in
    (usage_text c.args.is_table account.name.now account.usage circuit, (circuit, c.present_circuit-circuit.ensures, refl), c.write_text-written.ensures)
