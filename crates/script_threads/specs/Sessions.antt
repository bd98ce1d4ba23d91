-- The answers to each name's session.
use Rattle.std.specs.Prelude.{ℕ, ◌≡◌, List, Bool, Option, Some, None, IfSome, is_some}
use Rattle.std.specs.List.{filter_map, flat_map}
use Rattle.script_threads.specs.Prelude.{History, live_of, SessionLine, Refused, SessionRefusal, Evicted, items_of, session_refusal_text, AreTold, noted_all, told_texts, new_transcript, Ended, ItemAnswer, AreOfLive, TranscriptState, Said, last_id}

-- private: what a name's session says, the name's last tenancy, and whether that is live
pub record Asked : Type 0 where
  pub name : List ℕ
  pub input : List ℕ
  pub id : ℕ
  pub live : Bool

abbrev pub asked_of : List (List ℕ) → List History → Said → Asked
asked_of names histories said = record {
  name = said.name;
  input = said.input;
  id = last_id names said.name;
  live = is_some (live_of histories (last_id names said.name));
}

-- private: the answers to a name's session, and the transcript of a session that ran
pub record PartState : Type 0 where
  pub name : List ℕ
  pub input : List ℕ
  pub id : ℕ
  pub text : List ℕ
  pub transcript : Option TranscriptState

-- private: exactly the sessions of live tenancies ran
abbrev pub asked_in : PartState → Asked
asked_in part = record { name = part.name; input = part.input; id = part.id; live = is_some part.transcript }

-- the core isn't asked what the session of a name asks that isn't live
abbrev pub evicted_refusal : SessionLine → SessionRefusal
evicted_refusal (Refused refusal) = refusal
evicted_refusal line = Evicted

-- each item of such a session is answered its own refusal, or that the tenancy is evicted
abbrev pub evicted_text : List ℕ → List ℕ
evicted_text input = flat_map (λ item. session_refusal_text (evicted_refusal item)) (items_of input)

-- private: the answer to one
abbrev pub evicted_line : SessionLine → List ℕ
evicted_line item = session_refusal_text (evicted_refusal item)

-- private: the session ended with its input: each item of the input is answered, in order, what the
-- transcript has, or is counted there as one that ran out of memory; and nothing else is written
pub record IsWhole (id : ℕ) (input text : List ℕ) (t : TranscriptState) : Type 0 where
  pub told : List (Option ItemAnswer)
  pub noted : t ≡ record (noted_all (new_transcript id) told) { end = Some Ended }
  pub written : text ≡ told_texts told
  pub asked : AreTold id (items_of input) told

abbrev pub IsToldBy : Option TranscriptState → PartState → Type 0
IsToldBy None part = part.text ≡ evicted_text part.input
IsToldBy (Some t) part = IsWhole part.id part.input part.text t

abbrev pub IsTold : PartState → Type 0
IsTold part = IsToldBy part.transcript part

-- private: a part as a session leaves it
pub record IsPart (live : Type 0) (part : PartState) : Type 0 where
  pub told : IsTold part
  pub of_live : live → IfSome part.transcript (λ t. AreOfLive t.items)

-- private: the transcripts of the sessions that ran
abbrev pub transcripts_of : List PartState → List TranscriptState
transcripts_of parts = filter_map (λ p. p.transcript) parts
