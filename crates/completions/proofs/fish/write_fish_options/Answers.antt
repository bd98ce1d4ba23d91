use Rattle.std.proofs.Common.{ℕ, List, [], Bor, None}
use Rattle.std.proofs.lemmas.Option.{slice_get-get_or}
use Rattle.line_text.proofs.WritingLemmas.{part_loop, writes_part}
use Rattle.option_words.specs.declared.declared.OptionWord.{OptionWord}
use Rattle.option_words.specs.declared.declared.Program.{Program}
use Rattle.completions.specs.Shells.{fish_tool}
use Rattle.completions.proofs.fish.write_fish_options.Goals as goal

pub returns-in_err-write_options : goal.returns-in_err-write_options
returns-in_err-write_options g c =
    let none : Bor (List ℕ) = record { ref_ptr = (0, 0); now = [] } in
    let words : Bor (List OptionWord) = record { ref_ptr = (0, 0); now = [] } in
    let empty : Program = record { name = none; about = none; after_help = none; options = words } in
    writes_part _ c.from_residual.ensures.0
    (part_loop fish_tool _ c.loop-tool.tool-index _ (slice_get-get_or _ _ empty c.loop-tool-test.true) c.loop-tool.invariant c.in_err-write_options.ensures)
