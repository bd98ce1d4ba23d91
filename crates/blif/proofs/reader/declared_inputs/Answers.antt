use Rattle.blif.proofs.Prelude.{◌∙◌, sym, ap, arith, JoinedLine, with_names, inputs_in, is_end, declared_in}
use Rattle.blif.proofs.Building.{declared_at, declared_at_end, declared_past}
use Rattle.blif.proofs.reader.declared_inputs.Goals as goal

pub loop-place-preserved : goal.loop-place-preserved
loop-place-preserved c =
    let line : JoinedLine = c.line-line.result in
    let kind = c.keyword_of-keyword.ensures in
    declared_at c.args.lines.now c.loop-place.place line (omega arith) c.line-line.ensures (sym (c.is_end.ensures ∙ ap is_end kind) ∙ c.if-is_end.false) c.loop-place.declared c.add_all.new.self _ (c.in_ok-add_all.ensures ∙ ap (with_names c.loop-place.declared) (c.inputs_in.ensures ∙ ap (λ k. inputs_in k line.words) kind)) c.loop-place.invariant

pub returns-then-is_end : goal.returns-then-is_end
unfolding declared_in
returns-then-is_end c =
    let line : JoinedLine = c.line-line.result in
    declared_at_end c.args.lines.now c.loop-place.place line (omega arith) c.line-line.ensures (sym (c.is_end.ensures ∙ ap is_end c.keyword_of-keyword.ensures) ∙ c.if-is_end.true) c.loop-place.declared _ c.loop-place.invariant

pub returns : goal.returns
unfolding declared_in
returns c = declared_past c.args.lines.now c.loop-place.place (omega arith) c.loop-place.declared _ c.loop-place.invariant
