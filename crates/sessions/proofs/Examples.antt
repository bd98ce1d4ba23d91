-- Computed examples.
use Rattle.sessions.proofs.Prelude.{◌≡◌, ◌∷◌, ◌++◌, codes, decimal, refl, Status, Loaded, Accepted, File, Net, CannotPack, Blank, Command, Upload, Begins, line_form, reply_text}
use Rattle.tenant_slot.specs.declared.reply.Reply.TheVariants.{Refused as RefusedReply}
use Rattle.sessions.specs.declared.line.LineForm.TheVariants.{Asks}

status : line_form (codes "  status\t") ≡ Asks (Command Status)
status = refl

upload : line_form (codes "upload") ≡ Begins Upload
upload = refl

nothing : line_form (codes " \t") ≡ Asks Blank
nothing = refl

accepted : reply_text (Accepted Loaded) ≡ codes "ok Loaded\n"
accepted = refl

cannot_pack : reply_text (RefusedReply (CannotPack 0)) ≡ codes "refused " ++ decimal 5 ++ codes " CannotPack" ++ (32 ∷ decimal 0) ++ codes "\n"
cannot_pack = refl

file : reply_text (File Net (codes "a\n\n")) ≡ codes "text net " ++ decimal 3 ++ codes "\na\n\n"
file = refl
