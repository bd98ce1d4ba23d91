-- Examples of printed replies.
use Rattle.printed_replies.proofs.Prelude.{◌≡◌, List, [], ◌∷◌, codes, Ok, Err, Some, None, refl, Line, Session, line_length, lines_length, owners_length, session_length, AskedLine, with_reply, replies_in}

one_line : line_length (codes "ok\nrest") ≡ Some 3
one_line = refl

no_line : line_length (codes "ok") ≡ None
no_line = refl

two_lines : lines_length 2 (codes "a\nb\nc") ≡ Some 4
two_lines = refl

two_owners : owners_length (codes "owners 2\nPAD\nOPIN\n1 a\n") ≡ Some 18
two_owners = refl

-- a file may contain headings
heading_in_file : session_length (codes "text net 5\n== b\n== b\n") ≡ Some 16
heading_in_file = refl

file_cut_off : session_length (codes "text net 50\n== b\n") ≡ None
file_cut_off = refl

-- the operator's line, and one of a session
asked : List AskedLine
asked = record { speaker = Some (codes "a"); form = Session } ∷ record { speaker = None; form = Line } ∷ []

both_read : replies_in asked (codes "== op\nok 3\n== a\ntext net 5\n== b\n")
    ≡ Ok (with_reply (record { speaker = Some (codes "a"); form = Session }) (codes "text net 5\n== b\n") ∷ with_reply (record { speaker = None; form = Line }) (codes "ok 3\n") ∷ [])
unfolding asked replies_in
both_read = refl

-- six bytes are left at the point that should be the heading of `a`
other_section : replies_in asked (codes "== op\nok 3\n== b\n:") ≡ Err 6
unfolding asked replies_in
other_section = refl
