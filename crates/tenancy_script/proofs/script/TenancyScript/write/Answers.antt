use Rattle.tenancy_script.proofs.Prelude.{◌++◌, part_first, part_then, writes_part, writes_then, printed_commands, printed_upload}
use Rattle.tenancy_script.proofs.script.TenancyScript.write.Goals as goal

pub returns-in_err-write_upload-clause-written : goal.returns-in_err-write_upload-clause-written
returns-in_err-write_upload-clause-written g c =
    let script = c.args.self.now in
    writes_part c.from_residual-in_err-write_upload.result c.from_residual-in_err-write_upload.ensures.0
    (part_then c.in_ok-write_admission.ensures (part_first (printed_commands script.name.now script.seed script.effort) c.in_err-write_upload.ensures))

pub returns-clause-written : goal.returns-clause-written
returns-clause-written g c =
    let script = c.args.self.now in
    let commands = printed_commands script.name.now script.seed script.effort in
    writes_then c.in_ok-write_admission.ensures _ (printed_upload script.name.now script.text.now ++ commands) c.write_commands.result
    (writes_then c.in_ok-write_upload.ensures _ commands c.write_commands.result c.write_commands.ensures)
