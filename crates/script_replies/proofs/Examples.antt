-- Examples that are computed.
use Rattle.script_replies.proofs.Prelude.{◌≡◌, ℕ, true, false, List, [], ◌∷◌, ◌++◌, codes, Some, None, refl, Act, Operator, Session, Admit, Command, Net, Place, PlaceFile, Withdraw, AnsweredLine, with_reply, asked_of, FileState, FileStates, files_in, no_file}
use Rattle.tenant_slot.specs.declared.command.Command.{Command as TenantCommand}

abbrev told : Act (List ℕ) → List ℕ → Act (List ℕ) × AnsweredLine
told act reply = (act, with_reply (asked_of act) reply)

abbrev own : TenantCommand → List ℕ → Act (List ℕ) × AnsweredLine
own command reply = told (Session (codes "A") (Command command)) reply

-- two files are printed
abbrev two : List (Act (List ℕ) × AnsweredLine)
two = own Net (codes "text net 1\nn") ∷ own PlaceFile (codes "text place 1\np") ∷ []

abbrev present : List ℕ → FileState
present text = record { text = Some text; outdated = false }

abbrev outdated : FileState
outdated = record { text = None; outdated = true }

abbrev states : FileState → FileState → FileStates
states net place = record { netlist = None; net = net; place = place; route = no_file }

both_present : files_in (codes "A") two ≡ states (present (codes "n")) (present (codes "p"))
both_present = refl

-- another placement begins
placed_again : files_in (codes "A") (two ++ own (Place 1 10) (codes "ok Placing\n") ∷ []) ≡ states (present (codes "n")) outdated
placed_again = refl

-- what is refused changes nothing
refused : files_in (codes "A") (two ++ own Withdraw (codes "refused 3 WrongState Empty\n") ∷ []) ≡ states (present (codes "n")) (present (codes "p"))
refused = refl

-- the name is admitted again, or another one is
admitted_again : files_in (codes "A") (two ++ told (Operator (Admit (codes "A") 1)) (codes "ok 2 0\n") ∷ []) ≡ states outdated outdated
admitted_again = refl

another_admitted : files_in (codes "A") (two ++ told (Operator (Admit (codes "B") 1)) (codes "ok 2 2\n") ∷ []) ≡ states (present (codes "n")) (present (codes "p"))
another_admitted = refl
