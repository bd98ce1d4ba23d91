use Rattle.strip_files.proofs.Prelude.{◌∙◌, ◌++◌, ap, sym, Decides-eqb, strip_suffix_is, before_first, is_no_digit}
use Rattle.strip_files.proofs.Nets.{net_line, some_at}
use Rattle.strip_files.proofs.route_text.net_in.Goals as goal

pub returns : goal.returns
returns c =
    let word = c.word-word.result.now in
    let ends = some_at _ _ c.strip_suffix.result c.in_ok-name.name c.in_ok-name.was (strip_suffix_is Decides-eqb word c.word_end.result.now c.strip_suffix.result c.strip_suffix.ensures.cases) in
    net_line c.args.line.now c.text.new.self c.number.new.self c.text-2.new.self c.word-word.new.self c.takes-is_global.new.self (before_first is_no_digit c.text.new.self) word c.in_ok-name.name.now c.in_ok-number.number c.takes-is_global.result
    (sym c.new-scanner.ensures ∙ c.in_ok-text.ensures.taken) c.number.ensures.taken c.in_ok-text-2.ensures.taken c.word-word.ensures.taken c.takes-is_global.ensures.taken c.takes-is_global.ensures.kept (c.is_done.ensures.0 c.if-not-is_done.false) (ends ∙ ap (λ e. c.in_ok-name.name.now ++ e) c.word_end.ensures) (sym c.number.ensures.number ∙ c.in_ok-number.was)
