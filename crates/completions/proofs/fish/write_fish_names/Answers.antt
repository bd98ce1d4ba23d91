use Rattle.std.proofs.Common.{ℕ, List, [], Bor, None}
use Rattle.std.proofs.lemmas.Option.{slice_get-get_or}
use Rattle.line_text.proofs.WritingLemmas.{all_loop, part_loop, writes_part}
use Rattle.option_words.specs.declared.declared.OptionWord.{OptionWord}
use Rattle.option_words.specs.declared.declared.Program.{Program}
use Rattle.completions.specs.Shells.{fish_name}
use Rattle.completions.proofs.fish.write_fish_names.Goals as goal

pub returns-in_err-write_name : goal.returns-in_err-write_name
returns-in_err-write_name g c =
    let none : Bor (List ℕ) = record { ref_ptr = (0, 0); now = [] } in
    let words : Bor (List OptionWord) = record { ref_ptr = (0, 0); now = [] } in
    let empty : Program = record { name = none; about = none; after_help = none; options = words } in
    writes_part _ c.from_residual.ensures.0
    (part_loop fish_name _ c.loop-tool.tool-index _ (slice_get-get_or _ _ empty c.loop-tool-test.true) c.loop-tool.invariant c.in_err-write_name.ensures)

pub loop-tool-preserved : goal.loop-tool-preserved
loop-tool-preserved g c =
    let none : Bor (List ℕ) = record { ref_ptr = (0, 0); now = [] } in
    let words : Bor (List OptionWord) = record { ref_ptr = (0, 0); now = [] } in
    let empty : Program = record { name = none; about = none; after_help = none; options = words } in
    all_loop fish_name c.args.tools.now c.loop-tool.tool-index _ (slice_get-get_or c.args.tools.now c.loop-tool.tool-index empty c.loop-tool-test.true) c.loop-tool.invariant c.in_ok-write_name.ensures
