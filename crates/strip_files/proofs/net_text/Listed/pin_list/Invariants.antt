use Rattle.strip_files.proofs.Prelude.{◌≡◌}
use Rattle.strip_files.proofs.net_text.Listed.pin_list.Given as goal

-- blocks and BLEs stay as they were
abbrev pub invariant-loop : goal.invariant-loop
invariant-loop l = (l.self.elements.items ≡ l.fn.self.elements.items) × (l.self.blocks.items ≡ l.fn.self.blocks.items)
