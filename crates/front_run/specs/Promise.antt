-- What a front promises.
use Rattle.std.specs.Prelude.{ℕ, ◌≡◌, List, [], codes, take, Option}
use Rattle.std.specs.Io.KnownBytes.{Appends}
use Rattle.front_lines.specs.Commands.{begins_as}
use Rattle.front_lines.specs.declared.speaker.Speaker.{Speaker}
use Rattle.front_lines.specs.Serving.{HasServed, HasServedAll}
use Rattle.front_run.specs.declared.closing.Closing.{Closing}
use Rattle.front_run.specs.declared.closing.Closing.TheVariants.{Silent, NoLineEnd, NoTextEnd, NoService, NoMemory}
use Rattle.front_run.specs.declared.outcome.Outcome.{Outcome}
use Rattle.front_run.specs.declared.outcome.Outcome.TheVariants.{Done}

abbrev pub closing_text : Closing → List ℕ
closing_text Silent = []
closing_text NoLineEnd = codes "front: a line without its end is dropped\n"
closing_text NoTextEnd = codes "front: a netlist without its end is dropped\n"
closing_text NoService = codes "front: the service does not answer\n"
closing_text NoMemory = codes "front: out of memory\n"

-- private: after that one of those lines is written, or a beginning of it
pub record Closes (output_then output_new : Option (List ℕ)) : Type 0 where
  pub closing : Closing
  pub count : ℕ
  pub closes : Appends output_then output_new (take count (closing_text closing))

-- a client was served, and then one line more was written at most. If the front has done all, all
-- that the client's lines hand over was handed over, and all of its answer was written
pub record Served (who : Speaker) (client requests requests_new replies output output_new : Option (List ℕ)) (outcome : Outcome) : Type 0 where
  pub output_then : Option (List ℕ)
  pub served : HasServed who (begins_as who) client requests requests_new replies output output_then
  pub closes : Closes output_then output_new
  pub all : outcome ≡ Done → HasServedAll who (begins_as who) client requests requests_new replies output output_then
