-- The texts that a journal keeps, and the bytes that they take.
use Rattle.std.specs.Prelude.{ℕ, ◌≡◌, ◌+◌, ◌≤◌, ◌⊎◌, List, [], ◌∷◌, ◌++◌, length, Option, Some, All, Contains, slice_get}
use Rattle.std.specs.List.{sum_by}
use Rattle.std.specs.Option.{option_to_list}
use Rattle.service_core.specs.Prelude.{net_of, Command, Upload, Change, Event, Advance as Stepped, Ending, NoPath, Refusal, BadBlif, Reply, File, Refused, Status}
use Rattle.tenant_slot.specs.declared.event.Event.TheVariants.{Command as Asked}
use Rattle.service_core.specs.declared.entry.Entry.{Entry}

-- the text of a command, if it has one
abbrev pub command_texts : Command → List (List ℕ)
command_texts (Upload text) = text ∷ []
command_texts (Change text) = text ∷ []
command_texts command = []

abbrev pub ending_texts : Option Ending → List (List ℕ)
ending_texts (Some (NoPath net)) = net ∷ []
ending_texts ending = []

abbrev pub refusal_texts : Refusal → List (List ℕ)
refusal_texts (BadBlif fault) = option_to_list (net_of fault.kind)
refusal_texts refusal = []

-- the text of a reply, if it has one: a file, or the name of a net
abbrev pub reply_texts : Reply → List (List ℕ)
reply_texts (File kind text) = text ∷ []
reply_texts (Status status) = ending_texts status.ending
reply_texts (Refused refusal) = refusal_texts refusal
reply_texts reply = []

abbrev pub event_texts : Event → List (List ℕ)
event_texts (Asked command) = command_texts command
event_texts (Stepped made) = []

abbrev pub entry_texts : Entry → List (List ℕ)
entry_texts entry = event_texts entry.event ++ reply_texts entry.reply

-- the bytes of texts
abbrev pub bytes_of : List (List ℕ) → ℕ
bytes_of texts = sum_by length texts

-- The texts of a journal fit into this number of bytes, if a text that many entries have counts
-- once: each text of the journal is one of some texts that have no more bytes together.
pub record FitInto (bytes : ℕ) (entries : List Entry) : Type 0 where
  pub texts : List (List ℕ)
  pub total : bytes_of texts ≤ bytes
  pub each : All (λ entry. All (Contains texts) (entry_texts entry)) entries

-- the bytes of all texts of a journal, each as often as it is there
abbrev pub all_bytes : List Entry → ℕ
all_bytes entries = sum_by (λ entry. bytes_of (entry_texts entry)) entries

-- The texts of a journal count as this number of bytes: each text once at least, and no text more
-- often than it is there.
pub record CountAs (bytes : ℕ) (entries : List Entry) : Type 0 where
  pub fits : FitInto bytes entries
  pub most : bytes ≤ all_bytes entries

-- private: the reply is that of an entry
abbrev pub IsRepeated : List Entry → Reply → Type 0
IsRepeated entries reply = (k : ℕ) × (entry : Entry) × (slice_get entries k ≡ Some entry) × (entry.reply ≡ reply)

-- private: the bytes by which a reply's text adds to those of the journal
abbrev pub AddsBytes : List Entry → Reply → ℕ → Type 0
AddsBytes entries reply bytes = (bytes ≡ bytes_of (reply_texts reply)) ⊎ ((bytes ≡ 0) × IsRepeated entries reply)

-- private: with the command and its reply, the journal's texts count as these bytes more
abbrev pub Adds : List Entry → Command → Reply → ℕ → Type 0
Adds entries command reply bytes = (held : ℕ) → CountAs held entries → CountAs (held + bytes) (entries ++ record { event = Asked command; reply = reply } ∷ [])
