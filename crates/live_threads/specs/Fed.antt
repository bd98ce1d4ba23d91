-- The lines of an input, as a reader hands them over.
use Rattle.std.specs.Prelude.{ℕ, ◌≡◌, List, ◌++◌, map, true, Option, Some, IfSome}
use Rattle.std.specs.List.{AllByRecursion, flat_map, list_all}
use Rattle.std.specs.Io.KnownBytes.{Consumes}
use Rattle.std.specs.declared.vec.Vec.{Vec}
use Rattle.live_threads.specs.Prelude.{SameProducer, sent, Producer, with_feed, IsKept, is_one_line, kept_of, kept_lines, IsLine}
use Rattle.live_threads.specs.declared.letters.InputEnd.{InputEnd}
use Rattle.live_threads.specs.declared.letters.InputEnd.TheVariants.{Done}
use Rattle.live_threads.specs.Taken.{lines_of}

-- private: of an input these bytes are ahead, and that is kept of the line that has begun; the
-- lines before it are `fed`, each cut
pub record Fed (input now : Option (List ℕ)) (ahead kept : List ℕ) (fed : List (List ℕ)) : Type 0 where
  pub bytes : List ℕ
  pub consumes : Consumes input now bytes
  pub lines : List (List ℕ)
  pub begun : List ℕ
  pub split : bytes ≡ flat_map with_feed lines ++ (begun ++ ahead)
  pub are_lines : list_all is_one_line lines ≡ true
  pub is_begun : is_one_line begun ≡ true
  pub line : IsKept kept begun
  pub fed_is : fed ≡ map kept_of lines

-- texts were put into a ring, and this holds of their lines
pub record PutsLines {A G P : Type 0} (old new : Producer (Vec ℕ A) G P) (holds : List (List ℕ) → Type 0) : Type 0 where
  pub ring : SameProducer old new
  pub batches : List (Vec ℕ A)
  pub put : sent new ≡ sent old ++ batches
  pub held : holds (lines_of batches)

-- these are the first ones of a list
abbrev pub AreFirst : {T : Type 0} → List T → List T → Type 0
AreFirst {T = T} all first = (more : List T) × (all ≡ first ++ more)

-- these are the first lines of the input; if it was read to its end, they are all its lines
abbrev pub AreReadLines : Option (List ℕ) → Option InputEnd → List (List ℕ) → Type 0
AreReadLines input (Some Done) lines = IfSome input (λ bytes. lines ≡ kept_lines bytes)
AreReadLines input end lines = IfSome input (λ bytes. AreFirst (kept_lines bytes) lines)

-- private: so it is of some input
abbrev pub IsFed : List ℕ → List ℕ → Type 0
IsFed ahead kept = (input : Option (List ℕ)) × (now : Option (List ℕ)) × (fed : List (List ℕ)) × Fed input now ahead kept fed

-- private: cut lines were taken from what is ahead, and put together
pub record TakesSome (batch ahead kept rest after : List ℕ) : Type 0 where
  pub lines : List (List ℕ)
  pub batch_is : batch ≡ flat_map with_feed lines
  pub all : AllByRecursion IsLine lines
  pub fed : (input now : Option (List ℕ)) (fed : List (List ℕ)) → Fed input now ahead kept fed → Fed input now rest after (fed ++ lines)
