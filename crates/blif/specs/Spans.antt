-- Private: parts of a flat list.
use Rattle.std.specs.Prelude.{ℕ, ◌-◌, ◌≤◌, List, take, drop}
use Rattle.std.specs.List.{AllByRecursion}
use Rattle.blif.specs.declared.span.IndexSpan.{IndexSpan}

-- the part of the list at a span
abbrev pub part_of : {A : Type 0} → List A → IndexSpan → List A
part_of items span = take (span.end - span.start) (drop span.start items)

-- each span is ordered and lies within this number of items
abbrev pub AreWithin : ℕ → List IndexSpan → Type 0
AreWithin count spans = AllByRecursion (λ span. (span.start ≤ span.end) × (span.end ≤ count)) spans
