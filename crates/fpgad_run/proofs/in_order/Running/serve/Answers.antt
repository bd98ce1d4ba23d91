use Rattle.fpgad_run.proofs.Prelude.{◌∙◌, sym, append-nil, answer_text, sink_text, on_ok}
use Rattle.fpgad_run.proofs.Telling.{session_answers, lengths-answered}
use Rattle.fpgad_run.proofs.in_order.Running.serve.Goals as goal

pub returns-in-Session : goal.returns-in-Session
returns-in-Session c =
    rw c.in-Session.is
    (on_ok c.answer.result
    (λ told. let answers = session_answers c.args.self.now.operator c.args.self.now.jobs c.args.self.now.graph.now c.args.self.now.core c.answer.new.core c.in-Session.name.now c.last_id-id.result c.in-Session.line told.0 c.last_id-id.ensures told.1 in record {
      calls = answers.0;
      text = answer_text told.0;
      answered = answers.1;
      operator_text = sym (append-nil (sink_text c.args.self.now.operator_text));
      sections = told.2;
      even = record { sections = told.3; ids = c.requires.ids ∙ lengths-answered c.args.self.now.graph.now c.args.self.now.core c.answer.new.core c.last_id-id.result c.in-Session.line told.0 told.1 };
    })
    c.answer.ensures)
