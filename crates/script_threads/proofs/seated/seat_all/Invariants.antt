use Rattle.script_threads.proofs.Prelude.{◌≡◌, ℕ, true, map, said_by, is_leased, HasSeat, asked_of}
use Rattle.script_threads.proofs.seated.seat_all.Given as goal

-- the sessions so far are seated, and no other lease was given
abbrev pub invariant-loop-said : goal.invariant-loop-said
invariant-loop-said g l = record {
  service : l.core.service ≡ l.fn.core.service;
  seats : l.seats.items ≡ map (asked_of l.operator l.fn.core.service.histories) (map said_by l.yielded);
  leased : (id : ℕ) → is_leased l.core.marks id ≡ true → HasSeat l.operator (map said_by l.yielded) id;
}
