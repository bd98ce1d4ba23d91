use Rattle.layout_check.proofs.Served.{wanted_told}
use Rattle.layout_check.proofs.wanted.check_wanted.Goals as goal

pub returns : goal.returns
returns c =
    wanted_told c.args.arch.now c.args.layout.now.blocks c.blocks-2.result.now c.args.layout.now.nets c.nets-2.result.now c.mark_entries.new.marks c.first_unserved.result c.blocks-2.ensures c.nets-2.ensures c.mark_entries.ensures.exact
    c.first_unserved.ensures
