use Rattle.strips.proofs.Prelude.{◌≡◌, ◌++◌, drop, map, take, moved_strip}
use Rattle.strips.proofs.layout.move_one.Given as goal

-- the strips visited so far are moved
abbrev pub invariant-loop-place : goal.invariant-loop-place
invariant-loop-place l = l.strips ≡ map (moved_strip l.id l.offset) (take l.place l.initial.strips) ++ drop l.place l.initial.strips
