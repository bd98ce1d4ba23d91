-- What a run writes is read back.
use Rattle.std.specs.Prelude.{ℕ, ◌≡◌, ◌<◌, ◌^◌, Bool, true, not, List, [], ◌∷◌, length, map, IfSome, Ok, Err, ⊤}
use Rattle.std.specs.List.{list_all}
use Rattle.replies_law.specs.Prelude.{circuit_of, net_of, Circuit, BlifFault, net_name, Act, Operator, Admit, is_line_feed, AnsweredLine, with_reply, asked_of, replies_in, Architecture, Options, IsReplies, start_of, Telling}

-- no byte ends a line
abbrev pub is_other : ℕ → Bool
is_other b = not (is_line_feed b)

abbrev pub NoFeed : List ℕ → Type 0
NoFeed bytes = list_all is_other bytes ≡ true

-- private: no net that a netlist names, in a fault or in its circuit, contains a line feed
pub record NetsAreWords : Type 0 where
  pub faults : (text : List ℕ) (lut_size : ℕ) (fault : BlifFault) → circuit_of text lut_size ≡ Err fault → IfSome (net_of fault.kind) NoFeed
  pub nets : (text : List ℕ) (lut_size : ℕ) (circuit : Circuit) (net : ℕ) → circuit_of text lut_size ≡ Ok circuit → NoFeed (net_name circuit net)

-- an act with its reply
abbrev pub answered_line : Telling → AnsweredLine
answered_line t = with_reply (asked_of t.act) t.text

-- private: the name in an admission contains no line feed; names in a script never do
abbrev pub HasName : Act (List ℕ) → Type 0
HasName (Operator (Admit name width)) = NoFeed name
HasName act = ⊤

-- private: each act is of this kind, and its reply fits into memory
abbrev pub AreTellable : List Telling → Type 0
AreTellable [] = ⊤
AreTellable (t ∷ ts) = (HasName t.act × (length t.text < 2 ^ 64)) × AreTellable ts

-- the replies to the acts of a script are read back from what the program writes for it
abbrev pub IsOutputReadBack : Type 0
IsOutputReadBack = (options : Options) (tracks : ℕ) (architecture : Architecture) (input output : List ℕ) → (r : IsReplies options (start_of tracks architecture input) output) → length output < 2 ^ 64 →
    replies_in r.acts output ≡ Ok (map answered_line r.tellings)
