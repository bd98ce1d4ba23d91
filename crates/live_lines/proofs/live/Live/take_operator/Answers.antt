use Rattle.live_lines.proofs.Prelude.{◌≡◌, ℕ, List, [], refl, ap, subst, ◌∙◌, rules, Appends, Operator, named_operator, sink_text, on_ok, output_of, is_open, operator_told, told_by}
use Rattle.live_lines.proofs.ItemLemmas.{held_as, line_served}
use Rattle.live_lines.proofs.live.Live.take_operator.Goals as goal

pub returns-clause-takes : goal.returns-clause-takes
returns-clause-takes g c =
    let self = c.args.self.now in
    let line = named_operator c.args.line in
    let same : named_operator c.in_ok-line.line ≡ line = search rules in
    let none : sink_text c.new-reply.result ≡ [] = search rules in
    let a = c.in_ok-serve.ensures.told in
    let served = line_served self.graph.now self.operator c.serve.new.self self.jobs c.serve.new.jobs self.core c.serve.new.core c.in_ok-line.line line (sink_text c.new-reply.result) (sink_text c.serve.new.reply) same none a in
    let bytes : c.as_bytes.result.now ≡ a.1 = held_as c.serve.new.reply c.as_bytes.result.now c.as_bytes.ensures ∙ served.1 in
    let told : output_of (told_by c.is_open-is_open.result c.as_bytes.result.now) ≡ output_of (operator_told line a.1) =
    ap (λ b. output_of (told_by b c.as_bytes.result.now)) c.is_open-is_open.ensures ∙ ap (λ t. output_of (told_by (is_open line) t)) bytes in
    let P : List ℕ → Type 0 = λ out. Appends (g.W.Sink.contents c.args.writer.now) (g.W.Sink.contents c.write_to_operator.new.writer) out in
    on_ok c.write_to_operator.result
    (λ w. record {
      telling = record { act = Operator line; calls = a.0; text = a.1 };
      act = refl;
      answered = served.0;
      writes = subst P told w;
    })
    c.write_to_operator.ensures
