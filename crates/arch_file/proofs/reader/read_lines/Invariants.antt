use Rattle.arch_file.proofs.Prelude.{◌≡◌, ◌≤◌, [], drop, length, take, faults_after, FollowsLines}
use Rattle.arch_file.proofs.reader.read_lines.Given as goal

abbrev pub invariant-loop-place : goal.invariant-loop-place
invariant-loop-place l = record {
  within : l.place ≤ length l.lines;
  follows : FollowsLines l.draft (take l.place l.lines);
  rest : faults_after (take l.place l.lines) (drop l.place l.lines) ≡ faults_after [] l.lines;
}
