use Rattle.sessions.proofs.Prelude.{◌≡◌, ◌++◌, ◌∷◌, [], ap, ◌∙◌, rules, kept_part}
use Rattle.sessions.proofs.KeptLemmas.{kept-kept}
use Rattle.sessions.proofs.pending_text.PendingText.with_line.Goals as goal

pub returns : goal.returns
returns c =
    let line : c.append_kept.new.text.items ≡ kept_part (c.args.self.bytes ++ c.args.line.now) = search rules in
    let ended : c.append_kept-2.new.text.items ≡ kept_part (c.append_kept.new.text.items ++ 10 ∷ []) = search rules in
    let all : c.append_kept-2.new.text.items ≡ kept_part (c.args.self.bytes ++ c.args.line.now ++ 10 ∷ []) =
    ended ∙ ap (λ t. kept_part (t ++ 10 ∷ [])) line ∙ kept-kept (c.args.self.bytes ++ c.args.line.now) (10 ∷ []) in
    let kind : c.self.inside.kind ≡ c.args.self.kind = search rules in
    ap (λ bytes. record { kind = c.self.inside.kind; bytes = bytes }) all ∙ ap (λ k. record { kind = k; bytes = kept_part (c.args.self.bytes ++ c.args.line.now ++ 10 ∷ []) }) kind
