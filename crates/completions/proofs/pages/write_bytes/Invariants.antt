use Rattle.std.proofs.Common.{take}
use Rattle.std.specs.List.{flat_map}
use Rattle.line_text.specs.Writing.{TakesAll}
use Rattle.completions.specs.Pages.{roff_byte}
use Rattle.completions.proofs.pages.write_bytes.Given as goal

-- the ones before this one are written
abbrev pub invariant-loop-byte : goal.invariant-loop-byte
invariant-loop-byte g l = TakesAll g.K.Sink.contents g.K.Sink.has_failed l.initial.sink l.sink (flat_map roff_byte (take l.byte-index l.bytes))
