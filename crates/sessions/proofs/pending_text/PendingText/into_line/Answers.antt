use Rattle.sessions.proofs.Prelude.{◌≡◌, ◌≤◌, length, sym, ap, ◌∙◌, rules, Command, text_command}
use Rattle.sessions.proofs.KeptLemmas.{kept-all}
use Rattle.sessions.proofs.pending_text.PendingText.into_line.Goals as goal

pub returns-in-Ok : goal.returns-in-Ok
returns-in-Ok c =
    let text : c.in-Ok.text ≡ c.args.self.bytes = search rules in
    let small : length c.args.self.bytes ≤ 1048577 = search rules in
    let command : c.command.result ≡ text_command c.args.self.kind c.in-Ok.text = search rules in
    ap Command (command ∙ ap (text_command c.args.self.kind) (text ∙ sym (kept-all c.args.self.bytes small)))
