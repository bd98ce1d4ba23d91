use Rattle.script_threads.proofs.Prelude.{map, section_of}
use Rattle.std.specs.Prelude.{◌≡◌, true}
use Rattle.script_threads.proofs.FinishLemmas.{parts_more}
use Rattle.script_threads.proofs.finish.part_all.Goals as goal

pub loop-part-preserved : goal.loop-part-preserved
loop-part-preserved g c =
    parts_more (g.C.Begun.stay ≡ true) c.loop-part.yielded c.in-Some.part (map section_of c.loop-part.parted.sections.items) c.loop-part.parted.transcripts.items
    (map section_of c.add.new.self.sections.items) c.add.new.self.transcripts.items c.loop-part.invariant c.in_ok-add.ensures
