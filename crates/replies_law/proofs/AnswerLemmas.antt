-- The replies to sessions are read back unchanged.
use Rattle.replies_law.proofs.Prelude.{◌≡◌, ℕ, ◌<◌, ◌^◌, Bool, true, false, cond, eqb, List, [], ◌∷◌, ◌++◌, length, codes, Result, Ok, Option, Some, None, refl, arith, length-append, subst, ⊤, IfSome, nat_lt, option_and_then, Arch, circuit_of, net_of, Circuit, BlifFault, packed_of, Command, Upload, Change, Pack, Place, Route, Cancel, Withdraw, Status, Net, PlaceFile, RouteFile, RoutingFailure, FileKind, Misfit, WrongState, BadBlif, BadEffort, Reply, File, ending_told, State, after_reply, answer_to, circuit_in, is_lawful, pack_unless, place_unless, serve, step, with_circuit, ending_text, numbered_line, reply_text, session_length, NetsAreWords, NoFeed}
use Rattle.tenant_slot.specs.declared.event.Event.TheVariants.{Command as Asked}
use Rattle.tenant_slot.specs.declared.reply.FileKind.TheVariants.{Net as NetFile, Place as PlacesFile, Route as RoutesFile}
use Rattle.tenant_slot.specs.declared.reply.Reply.TheVariants.{Status as InState, Refused}
use Rattle.replies_law.proofs.FeedLemmas.{IsLine, decimal_no_feed, line_behind, no_feed-append}
use Rattle.replies_law.proofs.FormLemmas.{file_behind, plain_line}

-- the nets that a reply names contain no line feed
abbrev pub IsPlain : Reply → Type 0
IsPlain (Refused (BadBlif fault)) = IfSome (net_of fault.kind) NoFeed
IsPlain (InState status) = NoFeed (ending_text status.ending)
IsPlain reply = ⊤

abbrev pub IsRead : List ℕ → Type 0
IsRead text = (rest : List ℕ) → session_length (text ++ rest) ≡ Some (length text)

-- a line of the bytes before its line feed
pub line_of_bytes : (line : List ℕ) → NoFeed line → IsLine (line ++ 10 ∷ [])
line_of_bytes line all = line_behind line (10 ∷ []) all refl

pub numbered_no_feed : (word name more : List ℕ) (number : ℕ) → NoFeed word → NoFeed name → NoFeed more → IsLine (numbered_line word number name more)
numbered_no_feed word name more number first second third = grind (arith, line_of_bytes, no_feed-append, decimal_no_feed)

file_is_read : (kind : FileKind) (text : List ℕ) → length text < 2 ^ 64 → IsRead (reply_text (File kind text))
file_is_read NetFile text small rest = file_behind (codes "text net ") (codes "net") text rest refl refl small
file_is_read PlacesFile text small rest = file_behind (codes "text place ") (codes "place") text rest refl refl small
file_is_read RoutesFile text small rest = file_behind (codes "text route ") (codes "route") text rest refl refl small

file_is_small : (kind : FileKind) (text : List ℕ) → length (reply_text (File kind text)) < 2 ^ 64 → length text < 2 ^ 64
file_is_small kind text small = grind (arith, length-append)

-- a reply is read back unchanged
pub reply_is_read : (reply : Reply) → IsPlain reply → length (reply_text reply) < 2 ^ 64 → IsRead (reply_text reply)
reply_is_read reply plain small = grind (arith, plain_line, line_of_bytes, no_feed-append, decimal_no_feed, file_is_read, file_is_small)

-- a tenancy's replies are of this kind
of_circuit : NetsAreWords → (text : List ℕ) (lut_size : ℕ) (leads : Circuit → Option State × Reply) → ((circuit : Circuit) → circuit_of text lut_size ≡ Ok circuit → IsPlain (leads circuit).1) → IsPlain (with_circuit (circuit_of text lut_size) leads).1
of_circuit words text lut_size leads all = grind arith

pack_plain : (state : State) (unfit : Option ℕ) → IsPlain (pack_unless state unfit).1
pack_plain state unfit = grind arith

effort_plain : (state : State) (seed effort : ℕ) (b : Bool) (misfit : Option Misfit) → IsPlain (cond {A = Option State × Reply} b (None, Refused BadEffort) (place_unless state seed effort misfit)).1
effort_plain state seed effort b misfit = grind arith

told_plain : NetsAreWords → (text : List ℕ) (lut_size : ℕ) (arch : Arch) (r : Result Circuit BlifFault) → circuit_of text lut_size ≡ r → (failure : RoutingFailure) → NoFeed (ending_text (ending_told r arch failure))
unfolding packed_of
told_plain words text lut_size arch r e failure = grind arith

ending_plain : NetsAreWords → (state : State) (ending : Option RoutingFailure) → NoFeed (ending_text (option_and_then (ending_told (circuit_in state) state.arch) ending))
ending_plain words state None = refl
ending_plain words state (Some failure) = told_plain words state.text state.arch.lut_size state.arch (circuit_in state) refl failure

serve_plain : NetsAreWords → (state : State) (command : Command) → IsPlain (serve state command).1
serve_plain words state (Upload text) = of_circuit words text state.arch.lut_size _ (λ circuit e. tt)
serve_plain words state (Change text) = of_circuit words text state.arch.lut_size _ (λ circuit e. tt)
serve_plain words state Pack = of_circuit words state.text state.arch.lut_size _ (λ circuit e. pack_plain state _)
serve_plain words state (Place seed effort) = of_circuit words state.text state.arch.lut_size _ (λ circuit e. effort_plain state seed effort (nat_lt 100 effort) _)
serve_plain words state Route = tt
serve_plain words state Cancel = tt
serve_plain words state Withdraw = tt
serve_plain words state Status = ending_plain words state state.ending
serve_plain words state Net = of_circuit words state.text state.arch.lut_size _ (λ circuit e. tt)
serve_plain words state PlaceFile = tt
serve_plain words state RouteFile = tt

pub step_plain : NetsAreWords → (state : State) (command : Command) (reply : Reply) → (step state (Asked command)).1 ≡ Some reply → IsPlain reply
step_plain words state command reply is = by_full (eqb state.entries 65536) is
  where
    lawful : (b : Bool) → IsPlain (cond {A = Option State × Reply} b (serve state command) (None, Refused (WrongState state.name))).1
    lawful true = serve_plain words state command
    lawful false = tt

    by_full : (b : Bool) → (cond {A = State × Option Reply} b (state, None) (after_reply state (answer_to state (Asked command)).0, Some (answer_to state (Asked command)).1)).1 ≡ Some reply → IsPlain reply
    by_full true never = cc
    by_full false e = let same : (answer_to state (Asked command)).1 ≡ reply = cc in subst IsPlain same (lawful (is_lawful state.name command))
