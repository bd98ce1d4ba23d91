-- What a line is answered, and what lines are served.
use Rattle.std.specs.Prelude.{ℕ, ◌≡◌, List, [], Option, map}
use Rattle.std.specs.List.{flat_map}
use Rattle.line_feed.specs.Pieces.{kept_of}
use Rattle.line_service.specs.Conversation.{ended_lines}
use Rattle.rr_graph.specs.Graph.{Basis}
use Rattle.service_core.specs.declared.device.Device.{Device}
use Rattle.service_core.specs.Service.{ServiceState, empty_service}
use Rattle.sessions.specs.Fitting.{own_graph}
use Rattle.live_lines.specs.Acts.{Telling}
use Rattle.live_lines.specs.Ends.{EndsTexts}
use Rattle.live_lines.specs.Live.{IsSteady, LiveState, Takes, TakesAsked, asked_of, state_of}
use Rattle.live_lines.specs.Said.{no_texts}
use Rattle.tagged_lines.specs.Tags.{Tagged, with_feed, output_of, tag_of}
use Rattle.live_input.specs.declared.lines.LiveLines.{LiveLines}

-- the lines of an input, each cut to the bytes that are kept of it; a last line without its end is
-- none
abbrev pub kept_lines : List ℕ → List (List ℕ)
kept_lines input = map kept_of (ended_lines input)

-- the input with its lines cut so, each ended by LF
abbrev pub kept_input : List ℕ → List ℕ
kept_input input = flat_map with_feed (kept_lines input)

-- a line of that number is answered so: what it asks leads to these answered acts and tagged texts
pub record AnswersLine (old : LiveState) (number : ℕ) (line reply : List ℕ) (new : LiveState) : Type 0 where
  pub tellings : List Telling
  pub told : List Tagged
  pub takes : TakesAsked old number (tag_of line) (asked_of line) tellings told new
  pub reply_is : reply ≡ output_of told

-- lines, each cut, are taken one after another, and this text is all replies
pub record AreTaken (old : LiveState) (number : ℕ) (lines : List (List ℕ)) (text : List ℕ) (new : LiveState) : Type 0 where
  pub tellings : List Telling
  pub told : List Tagged
  pub takes : Takes old number (map kept_of lines) tellings told new
  pub text_is : text ≡ output_of told

-- each text that is open is refused, and this is the reply
pub record ClosesTexts (old : LiveState) (reply : List ℕ) : Type 0 where
  pub tellings : List Telling
  pub told : List Tagged
  pub ends : EndsTexts old tellings told
  pub reply_is : reply ≡ output_of told

-- the state before the first line
abbrev pub begins_on : ServiceState → Basis → LiveState
begins_on core graph = record { stage = record { names = []; jobs = []; service = core; graph = graph }; texts = no_texts }

-- on that device, which is empty
abbrev pub begins : Device → LiveState
begins device = begins_on (empty_service device) (own_graph device)

abbrev pub state_in : LiveLines → LiveState
state_in lines = state_of lines.live

abbrev pub is_ready : LiveLines → Type 0
is_ready lines = IsSteady lines.live
