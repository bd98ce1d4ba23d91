use Rattle.script_text.proofs.Prelude.{◌≡◌, ◌∷◌, ◌<◌, length, rules, arith, physical_lines, form_in, named_form, without_cr}
use Rattle.script_text.proofs.ReadingLemmas.{asks_step, begins_step}
use Rattle.script_text.proofs.Walked.{shorter}
use Rattle.script_text.proofs.script.Reader.read_line.Goals as goal

pub returns-in_ok-push-in-Asks : goal.returns-in_ok-push-in-Asks
returns-in_ok-push-in-Asks c =
    let rest = c.args.self.now.rest.now in
    let line = c.split_line.result.0.now in
    let after = c.split_line.result.1.now in
    let lines : physical_lines rest ≡ line ∷ physical_lines after = c.split_line.ensures.lines c.requires.some in
    let less : length after < length rest = rw c.split_line.ensures.later (shorter rest c.requires.some) in
    let named : named_form c.in_ok-form_of.field-0 ≡ form_in (without_cr line) = rw (← c.without_cr.ensures) c.in_ok-form_of.ensures in (
      asks_step c.args.self.now.acts.items c.push.new.acts.items c.in-Asks.act c.args.self.now.number line rest after c.in_ok-form_of.field-0 lines named c.in-Asks.is c.in_ok-push-in-Asks.ensures,
      less,
      omega (arith, less),
    )

pub returns-in_ok-push-in-Begins : goal.returns-in_ok-push-in-Begins
returns-in_ok-push-in-Begins c =
    let rest = c.args.self.now.rest.now in
    let line = c.split_line.result.0.now in
    let after = c.split_line.result.1.now in
    let lines : physical_lines rest ≡ line ∷ physical_lines after = c.split_line.ensures.lines c.requires.some in
    let less : length after < length rest = rw c.split_line.ensures.later (shorter rest c.requires.some) in
    let named : named_form c.in_ok-form_of.field-0 ≡ form_in (without_cr line) = rw (← c.without_cr.ensures) c.in_ok-form_of.ensures in
    let text = c.in_ok-line-in-Begins.ensures in
    let same : c.read_text.new.self.acts.items ≡ c.args.self.now.acts.items = search rules in
    let pushed = c.in_ok-push-in-Begins.ensures in (
      begins_step c.args.self.now.acts.items c.push-in-Begins.new.acts.items c.in-Begins.name c.in-Begins.kind c.in_ok-line-in-Begins.line c.args.self.now.number c.read_text.new.self.number
          line rest after c.read_text.new.self.rest.now c.in_ok-form_of.field-0 lines named c.in-Begins.is text.line_is text.goes_on (rw (← same) pushed),
      (let shorter = text.shorter in omega (arith, less, shorter)),
      (let counted = text.counted in omega (arith, less, counted)),
    )
