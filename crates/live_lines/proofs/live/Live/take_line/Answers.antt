use Rattle.live_lines.proofs.Prelude.{sym, ap, subst, ◌∙◌, on_ok, named_operator, tag_of, TakesItem, asks, stage_of, state_of, Echoes, Figures, NoForm, Nothing, Operates, Says, texts_of}
use Rattle.std.specs.Prelude.{ℕ, List}
use Rattle.live_lines.proofs.LineLemmas.{own_tag, takes_as, takes_echo, takes_figures, takes_item, takes_no_form, takes_none, takes_nothing, takes_operator}
use Rattle.live_lines.proofs.live.Live.take_line.Goals as goal

pub returns-in-Nothing-clause-takes : goal.returns-in-Nothing-clause-takes
returns-in-Nothing-clause-takes g c =
    takes_as _ _ _ _ Nothing _ _ _ (sym c.in_ok-asked_of.ensures.asks ∙ ap asks c.in-Nothing.is) (takes_nothing (state_of c.args.self.now) c.args.number _ (g.W.Sink.contents c.args.writer.now))

pub returns-in-NoForm-clause-takes : goal.returns-in-NoForm-clause-takes
returns-in-NoForm-clause-takes g c =
    on_ok c.take_no_form.result
    (λ w. takes_as _ _ _ _ NoForm _ _ _ (sym c.in_ok-asked_of.ensures.asks ∙ ap asks c.in-NoForm.is) (takes_no_form (state_of c.args.self.now) c.args.number _ _ (g.W.Sink.contents c.take_no_form.new.writer) w))
    c.take_no_form.ensures

pub returns-in-Echoes-clause-takes : goal.returns-in-Echoes-clause-takes
returns-in-Echoes-clause-takes g c =
    on_ok c.write_to_operator.result
    (λ w. takes_as _ _ _ _ (Echoes c.in-Echoes.words.now) _ _ _ (sym c.in_ok-asked_of.ensures.asks ∙ ap asks c.in-Echoes.is) (takes_echo (state_of c.args.self.now) c.args.number _ c.in-Echoes.words.now _ (g.W.Sink.contents c.write_to_operator.new.writer) w))
    c.write_to_operator.ensures

pub returns-in-Figures-clause-takes : goal.returns-in-Figures-clause-takes
returns-in-Figures-clause-takes g c =
    on_ok c.take_figures.result
    (λ w. takes_as _ _ _ _ Figures _ _ _ (sym c.in_ok-asked_of.ensures.asks ∙ ap asks c.in-Figures.is) (takes_figures (state_of c.args.self.now) c.args.number _ _ (g.W.Sink.contents c.take_figures.new.writer) w))
    c.take_figures.ensures

pub returns-in-Operates-clause-takes : goal.returns-in-Operates-clause-takes
returns-in-Operates-clause-takes g c =
    on_ok c.take_operator.result
    (λ t. takes_as _ _ _ _ (Operates (named_operator c.in-Operates.line)) _ _ _ (sym c.in_ok-asked_of.ensures.asks ∙ ap asks c.in-Operates.is)
    (takes_operator (stage_of c.args.self.now) (stage_of c.take_operator.new.self) (texts_of c.args.self.now.said) (texts_of c.take_operator.new.self.said) c.args.number _ (named_operator c.in-Operates.line) _ _ (ap texts_of c.take_operator.ensures.said) t))
    c.take_operator.ensures.takes

pub returns-in-Some-clause-takes : goal.returns-in-Some-clause-takes
returns-in-Some-clause-takes g c =
    on_ok c.take_item.result
    (λ t. takes_as _ _ _ _ (Says c.in-Says.name.now c.in-Says.rest.now) _ _ _ (sym c.in_ok-asked_of.ensures.asks ∙ ap asks c.in-Says.is)
    (takes_item (stage_of c.args.self.now) (stage_of c.take_item.new.self) (texts_of c.args.self.now.said) (texts_of c.hear.new.self) (texts_of c.take_item.new.self.said) c.args.number (tag_of c.args.line.now) c.in-Says.name.now c.in-Says.rest.now
    c.in_ok-item-in-Says.field-0 c.in-Some.item _ _ c.in-Some.is (ap texts_of c.take_item.ensures.said) c.in_ok-item-in-Says.ensures.hears (let P : List ℕ → Type 0 = λ tag. TakesItem (stage_of c.args.self.now) tag c.in-Says.name.now c.in-Some.item (g.W.Sink.contents c.args.writer.now) (g.W.Sink.contents c.take_item.new.writer) (stage_of c.take_item.new.self) in subst P (own_tag c.in-Says.is c.in_ok-asked_of.ensures.tag) t)))
    c.take_item.ensures.takes

pub returns-in-None-clause-takes : goal.returns-in-None-clause-takes
returns-in-None-clause-takes g c =
    takes_as _ _ _ _ (Says c.in-Says.name.now c.in-Says.rest.now) _ _ _ (sym c.in_ok-asked_of.ensures.asks ∙ ap asks c.in-Says.is)
    (takes_none (stage_of c.args.self.now) (texts_of c.args.self.now.said) (texts_of c.hear.new.self) c.args.number _ c.in-Says.name.now c.in-Says.rest.now c.in_ok-item-in-Says.field-0 (g.W.Sink.contents c.args.writer.now) c.in-None.is c.in_ok-item-in-Says.ensures.hears)
