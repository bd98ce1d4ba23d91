use Rattle.std.proofs.Common.{ℕ, List, [], Bor, None}
use Rattle.std.proofs.lemmas.Option.{slice_get-get_or}
use Rattle.line_text.proofs.WritingLemmas.{part_loop, writes_part}
use Rattle.option_words.specs.declared.declared.OptionWord.{OptionWord}
use Rattle.option_words.specs.declared.declared.Takes.TheVariants.{Text}
use Rattle.completions.specs.Shells.{fish_option}
use Rattle.completions.proofs.fish.write_options.Goals as goal

pub returns-in_err-write_option : goal.returns-in_err-write_option
returns-in_err-write_option g c =
    let none : Bor (List ℕ) = record { ref_ptr = (0, 0); now = [] } in
    let empty : OptionWord = record { name = none; value_name = none; help = none; takes = Text; default = None } in
    writes_part _ c.from_residual.ensures.0
    (part_loop (fish_option c.args.tool.now) _ c.loop-option.option-index _ (slice_get-get_or _ _ empty c.loop-option-test.true) c.loop-option.invariant c.in_err-write_option.ensures)
