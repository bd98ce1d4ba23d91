use Rattle.live_machine.proofs.Prelude.{◌≡◌, List, ℕ, false, sym, ap, subst, ◌∙◌, tag_of, asked_of, state_in, IsLine, IsStatusFor, is_by_hand, NeedNotWait, without_workers}
use Rattle.live_machine.proofs.MachineLemmas.{on_ok}
use Rattle.live_machine.proofs.MadeLemmas.{status_by_hand, status_for, status_line, status_need_not, status_text}
use Rattle.live_machine.proofs.server.LineServer.serve_status.Goals as goal

pub serve-requires-clause-is_line : goal.serve-requires-clause-is_line
serve-requires-clause-is_line c =
    let text : c.as_slice.result.now ≡ status_text (tag_of c.args.line.now) = c.as_slice.ensures.value ∙ (c.in_ok-status.ensures ∙ ap status_text c.split_tag.ensures.tag) in
    subst IsLine (sym text) (status_line c.args.name.now c.args.line.now c.requires.said)

pub serve-requires-clause-hand : goal.serve-requires-clause-hand
serve-requires-clause-hand c =
    let text : c.as_slice.result.now ≡ status_text (tag_of c.args.line.now) = c.as_slice.ensures.value ∙ (c.in_ok-status.ensures ∙ ap status_text c.split_tag.ensures.tag) in
    let P : List ℕ → Type 0 = λ t. is_by_hand (asked_of t) ≡ false in
    subst P (sym text) (status_by_hand c.args.name.now c.args.line.now c.requires.said)

pub serve-requires-clause-wait : goal.serve-requires-clause-wait
serve-requires-clause-wait c =
    let text : c.as_slice.result.now ≡ status_text (tag_of c.args.line.now) = c.as_slice.ensures.value ∙ (c.in_ok-status.ensures ∙ ap status_text c.split_tag.ensures.tag) in
    let live = without_workers (state_in c.args.self.now.lines) in
    let P : List ℕ → Type 0 = λ t. NeedNotWait live (asked_of t) t in
    subst P (sym text) (status_need_not live c.args.name.now c.args.line.now c.requires.said)

pub returns-clause-serves : goal.returns-clause-serves
returns-clause-serves c =
    let text : c.as_slice.result.now ≡ status_text (tag_of c.args.line.now) = c.as_slice.ensures.value ∙ (c.in_ok-status.ensures ∙ ap status_text c.split_tag.ensures.tag) in
    let P : List ℕ → Type 0 = λ t. IsStatusFor c.args.name.now c.args.line.now t in
    on_ok c.serve.result (λ serves held. (c.as_slice.result.now, subst P (sym text) (status_for c.args.name.now c.args.line.now c.requires.said), serves held)) c.serve.ensures.serves
