-- Examples that are computed.
use Rattle.workers_law.proofs.Prelude.{◌≡◌, [], ◌∷◌, ◌++◌, true, false, None, refl, Arch, Strip, Pack, Route, Status, WrongState, Reply, Empty, Packed, Packing, start, Wait, Refused, UnknownCommand, reply_text, after_last_step, waited_text, waits_for_each}
use Rattle.tenant_slot.specs.declared.reply.Reply.TheVariants.{Refused as RefusedReply, Status as InState}
use Rattle.sessions.specs.declared.line.SessionLine.TheVariants.{Command}

-- a line that is refused by itself may come between
each_waits : waits_for_each false (Command Pack ∷ Refused UnknownCommand ∷ Wait ∷ Command Status ∷ Command Route ∷ Wait ∷ []) ≡ true
each_waits = refl

one_waits_late : waits_for_each false (Command Pack ∷ Command Status ∷ Wait ∷ []) ≡ false
one_waits_late = refl

last_is_free : waits_for_each false (Command Pack ∷ Wait ∷ Command Route ∷ []) ≡ true
last_is_free = refl

-- a packing ends
packed : (arch : Arch) (strip : Strip) → after_last_step (record (start arch strip) { name = Packing; generation = 1; steps = 3 }) ≡ record (start arch strip) { name = Packed; generation = 1 }
packed arch strip = refl

-- the texts of sessions that have no netlist
abbrev is_empty : Reply
is_empty = InState (record { state = Empty; steps = 0; ending = None })

waits_for_none : (arch : Arch) (strip : Strip) → waited_text (start arch strip) (Wait ∷ []) ≡ reply_text is_empty ++ []
waits_for_none arch strip = refl

routes_nothing : (arch : Arch) (strip : Strip) → waited_text (start arch strip) (Command Route ∷ []) ≡ reply_text (RefusedReply (WrongState Empty)) ++ []
routes_nothing arch strip = refl
