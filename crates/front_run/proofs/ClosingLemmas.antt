-- The last line to a client.
use Rattle.std.proofs.Common.{◌≡◌, ◌≢◌, ℕ, List, [], ◌∷◌, ◌++◌, length, take, Option, Result, Ok, Err, refl, sym, ap, ◌∙◌, subst, append-nil}
use Rattle.std.specs.Prelude.{IsOk}
use Rattle.std.specs.Io.KnownBytes.{Appends}
use Rattle.std.proofs.KnownBytes.{Appends-nil}
use Rattle.dialogue.specs.declared.dialogue.FailedDevice.{FailedDevice}
use Rattle.dialogue.specs.History.{Fails, Happens, View, Writes}
use Rattle.dialogue.specs.History.Event.{Told}
use Rattle.line_feed.specs.Pieces.{IsKept}
use Rattle.front_lines.specs.Commands.{begins_as}
use Rattle.front_lines.specs.declared.service.FrontStop.{FrontStop}
use Rattle.front_lines.specs.declared.speaker.Speaker.{Speaker}
use Rattle.front_lines.specs.Serving.{HasServed, HasServedAll, ServesAll}
use Rattle.front_lines.proofs.ServedLemmas.{appends_whole, served_none}
use Rattle.front_run.specs.declared.closing.Closing.{Closing}
use Rattle.front_run.specs.declared.closing.Closing.TheVariants.{Silent}
use Rattle.front_run.specs.declared.outcome.Outcome.{Outcome}
use Rattle.front_run.specs.declared.outcome.Outcome.TheVariants.{Done}
use Rattle.front_run.specs.Promise.{Closes, Served, closing_text}

told_bytes : (old new : Option (List ℕ)) (bytes : List ℕ) → Appends old new (bytes ++ []) → Appends old new bytes
told_bytes old new bytes is = let A : List ℕ → Type 0 = λ b. Appends old new b in subst A (append-nil bytes) is

pub closes_all : (client client_then : View) (closing : Closing) (text : List ℕ) → text ≡ closing_text closing → Happens client client_then (Told text ∷ []) → Closes client.output client_then.output
closes_all client client_then closing text is h =
    let A : List ℕ → Type 0 = λ bytes. Appends client.output client_then.output bytes in
    record {
      closing = closing;
      count = length (closing_text closing);
      closes = appends_whole client.output client_then.output (closing_text closing) (subst A is (told_bytes client.output client_then.output text h.told));
    }

pub closes_part : (client client_then : View) (closing : Closing) (text : List ℕ) (fault : FailedDevice) → text ≡ closing_text closing → Fails client client_then fault Told text → Closes client.output client_then.output
closes_part client client_then closing text fault is f =
    let A : List ℕ → Type 0 = λ bytes. Appends client.output client_then.output (take f.count bytes) in
    record { closing = closing; count = f.count; closes = subst A is (told_bytes client.output client_then.output (take f.count text) f.happens.told) }

-- nothing is done
pub serves_nothing : (who : Speaker) (client requests replies output : Option (List ℕ)) (replies_ahead kept : List ℕ) (outcome : Outcome) → replies_ahead ≡ [] → IsKept kept [] → outcome ≢ Done → Served who client requests requests replies output output outcome
serves_nothing who client requests replies output replies_ahead kept outcome none begins fails = record {
  output_then = output;
  served = served_none who (begins_as who) client requests replies output replies_ahead kept none begins;
  closes = record { closing = Silent; count = 0; closes = Appends-nil output };
  all = λ done. absurd (fails done);
}

pub closes_by : (client client_then : View) (closing : Closing) (text : List ℕ) (result : Result (Unit {0}) FailedDevice) → text ≡ closing_text closing → Writes client client_then text result → Closes client.output client_then.output
closes_by client client_then closing text (Ok u) is written = closes_all client client_then closing text is written.0
closes_by client client_then closing text (Err fault) is written = closes_part client client_then closing text fault is written

pub all_served : (who : Speaker) (client requests requests_new replies output output_new : Option (List ℕ)) (end : Result (Unit {0}) FrontStop) → IsOk end → ServesAll who (begins_as who) client requests requests_new replies output output_new end → HasServedAll who (begins_as who) client requests requests_new replies output output_new
all_served who client requests requests_new replies output output_new (Ok u) is all = all
all_served who client requests requests_new replies output output_new (Err stop) is all = absurd (cc)
