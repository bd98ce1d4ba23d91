-- What a front has done, whenever it ends.
use Rattle.std.specs.Prelude.{ℕ, ◌≡◌, List, [], ◌++◌, take, map, true, Option, IfSome, Result, Ok, Err, ⊤}
use Rattle.std.specs.Io.KnownBytes.{Appends, Consumes, Keeps}
use Rattle.std.specs.List.{flat_map, list_all}
use Rattle.front_lines.specs.Prelude.{IsKept, is_one_line, kept_of, ended_lines, with_feed}
use Rattle.front_lines.specs.declared.service.FrontStop.{FrontStop}
use Rattle.front_lines.specs.declared.speaker.Speaker.{Speaker}
use Rattle.front_lines.specs.Commands.{ClientState, handed, item_of, handed_for}
use Rattle.front_lines.specs.Speakers.{own_text}
use Rattle.front_lines.specs.Exchanges.{AreTold, Asks, ends_reply, told_for}
use Rattle.front_lines.specs.LinesRead.{HasBytes}

-- private: these lines of the service's output were seen, and the next one begins
pub record HasSeen (old new : Option (List ℕ)) (kept : List ℕ) (seen : List (List ℕ)) : Type 0 where
  pub are_lines : list_all is_one_line seen ≡ true
  pub consumes : Consumes old new (flat_map with_feed seen)
  pub begins : IsKept kept []

-- private: a reply has come: lines of the service's output were seen up to its end
pub record HasReply (who : Speaker) (old new : Option (List ℕ)) (kept reply : List ℕ) : Type 0 where
  pub seen : List (List ℕ)
  pub saw : HasSeen old new kept seen
  pub ends : ends_reply who (map kept_of seen) ≡ true
  pub reply_is : reply ≡ own_text who (map kept_of seen)

-- private: lines were handed over, or a beginning of them
abbrev pub HandsPart : Option (List ℕ) → Option (List ℕ) → List ℕ → Type 0
HandsPart old new lines = (count : ℕ) × Appends old new (take count lines)

-- private: a line of the client has this answer
pub record Answers (who : Speaker) (state : ClientState) (line : List ℕ) (requests requests_then replies replies_then : Option (List ℕ)) (kept told : List ℕ) : Type 0 where
  pub handed : Appends requests requests_then (handed_for who (item_of state line))
  pub seen : List (List ℕ)
  pub saw : HasSeen replies replies_then kept seen
  pub asks : Asks who (item_of state line) (map kept_of seen)
  pub told_is : told ≡ told_for who (item_of state line) (map kept_of seen)

-- private: and it was written to the client
pub record TakesTurn (who : Speaker) (state : ClientState) (line : List ℕ) (requests requests_then replies replies_then : Option (List ℕ)) (kept : List ℕ) (client client_then output output_then : Option (List ℕ)) : Type 0 where
  pub told : List ℕ
  pub answers : Answers who state line requests requests_then replies replies_then kept told
  pub wrote : Appends output output_then told
  pub keeps : Keeps client client_then

-- private: or a beginning of it
pub record TellsPart (who : Speaker) (state : ClientState) (line : List ℕ) (requests requests_then replies replies_then : Option (List ℕ)) (kept : List ℕ) (output output_then : Option (List ℕ)) : Type 0 where
  pub told : List ℕ
  pub answers : Answers who state line requests requests_then replies replies_then kept told
  pub written : ℕ
  pub wrote : Appends output output_then (take written told)

-- private: or nothing
pub record TellsNothing (who : Speaker) (state : ClientState) (line : List ℕ) (requests requests_then output output_then : Option (List ℕ)) : Type 0 where
  pub handed : HandsPart requests requests_then (handed_for who (item_of state line))
  pub wrote : Appends output output_then []

-- these lines of the client were read. What was handed over is a beginning of what they hand over.
-- What was written to the client is a beginning of the answer to the first of them
pub record HasServed (who : Speaker) (state : ClientState) (client requests_old requests_new replies output_old output_new : Option (List ℕ)) : Type 0 where
  pub lines : List (List ℕ)
  pub read : HasBytes client lines
  pub handed : HandsPart requests_old requests_new (handed who state (map kept_of lines))
  pub seen : List (List ℕ)
  pub followed : HasBytes replies seen
  pub answered : List (List ℕ)
  pub others : List (List ℕ)
  pub are : lines ≡ answered ++ others
  pub text : List ℕ
  pub told : AreTold who state (map kept_of answered) (map kept_of seen) text
  pub written : ℕ
  pub output : Appends output_old output_new (take written text)

-- the client has said all: all that its lines hand over was handed over, and all of its answer was
-- written
pub record HasServedAll (who : Speaker) (state : ClientState) (client requests_old requests_new replies output_old output_new : Option (List ℕ)) : Type 0 where
  pub lines : List (List ℕ)
  pub all : IfSome client (λ bytes. lines ≡ ended_lines bytes)
  pub handed : Appends requests_old requests_new (handed who state (map kept_of lines))
  pub seen : List (List ℕ)
  pub followed : HasBytes replies seen
  pub text : List ℕ
  pub told : AreTold who state (map kept_of lines) (map kept_of seen) text
  pub output : Appends output_old output_new text

abbrev pub ServesAll : Speaker → ClientState → Option (List ℕ) → Option (List ℕ) → Option (List ℕ) → Option (List ℕ) → Option (List ℕ) → Option (List ℕ) → Result (Unit {0}) FrontStop → Type 0
ServesAll who state client requests_old requests_new replies output_old output_new (Ok u) = HasServedAll who state client requests_old requests_new replies output_old output_new
ServesAll who state client requests_old requests_new replies output_old output_new (Err stop) = ⊤
