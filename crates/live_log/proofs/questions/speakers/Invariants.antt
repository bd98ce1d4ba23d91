use Rattle.live_log.proofs.Prelude.{◌≡◌, [], length, physical_lines, with_speakers}
use Rattle.live_log.proofs.questions.speakers.Given as goal

-- with the speakers of the lines that are left they are all
abbrev pub invariant-loop-rest : goal.invariant-loop-rest
invariant-loop-rest l = with_speakers l.names (physical_lines l.rest) ≡ with_speakers [] (physical_lines l.log)

abbrev pub decreases-loop-rest : goal.decreases-loop-rest
decreases-loop-rest l = length l.rest
