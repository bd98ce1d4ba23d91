use Rattle.layout_check.proofs.Prelude.{◌≡◌, length, wants}
use Rattle.layout_check.proofs.ByNet.{AreListsUpTo}
use Rattle.layout_check.proofs.net_blocks.readers_by_net.Given as goal

abbrev pub invariant-loop-number : goal.invariant-loop-number
invariant-loop-number l = (length l.found.marks ≡ l.limit) × AreListsUpTo (wants l.arch) l.blocks l.limit l.number l.found.lists
