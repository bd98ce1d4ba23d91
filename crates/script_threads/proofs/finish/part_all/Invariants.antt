use Rattle.script_threads.proofs.Prelude.{map, AreParts, section_of}
use Rattle.std.specs.Prelude.{◌≡◌, true}
use Rattle.script_threads.proofs.finish.part_all.Given as goal

-- the parts so far
abbrev pub invariant-loop-part : goal.invariant-loop-part
invariant-loop-part g l = AreParts (g.C.Begun.stay ≡ true) l.yielded (map section_of l.parted.sections.items) l.parted.transcripts.items
