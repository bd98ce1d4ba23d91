use Rattle.strip_files.proofs.Prelude.{◌≡◌, ◌<◌, ◌∙◌, ◌++◌, List, [], ℕ, length, ap, arith, sym, subst, filter, append-nil, nat_tests, physical_lines, texts, IsLineOfBlock, IsLineOfElement, block_lines, element_lines, listed_names, AreEachFrom, BlockKind, is_block_line, is_element_line, listed_elements, starts_of}
use Rattle.strip_files.proofs.Nets.{each_step}
use Rattle.strip_files.proofs.Begun.{begun_step}
use Rattle.strip_files.proofs.Told.{nothing}
use Rattle.strip_files.proofs.net_text.Listed.read.Goals as goal

pub loop-rest-preserved : goal.loop-rest-preserved
loop-rest-preserved c =
    let rest : List ℕ = c.loop-rest.rest.now in
    let later : List ℕ = c.split_line.result.1.now in
    let filled : 0 < length rest = grind (arith, nat_tests, c.loop-rest-test.ensures) in
    let starts = listed_elements c.loop-rest.listed.blocks.items in
    let count = length c.loop-rest.listed.elements.items in
    let begun = begun_step is_element_line is_block_line (physical_lines later) count (length c.line.new.self.elements.items) starts (listed_elements c.line.new.self.blocks.items) c.split_line.result.0.now c.in_default.ensures.starts in
    let lines_are = c.split_line.ensures.lines filled in
    let old = listed_names c.loop-rest.listed.blocks.items in
    let new = listed_names c.line.new.self.blocks.items in
    let named : (more : List (BlockKind × List ℕ)) → AreEachFrom IsLineOfBlock (length new) (block_lines later) more → AreEachFrom IsLineOfBlock 0 (block_lines c.args.text.now) (new ++ more) = λ more told.
    (let step = each_step IsLineOfBlock is_block_line c.split_line.result.0.now (physical_lines later) old new more c.in_default.ensures.names told in
    let here : AreEachFrom IsLineOfBlock (length old) (block_lines rest) step.0 = subst (λ (lines : List (List ℕ)). AreEachFrom IsLineOfBlock (length old) (filter is_block_line lines) step.0) (sym lines_are) step.1 in
    subst (λ (all : List (BlockKind × List ℕ)). AreEachFrom IsLineOfBlock 0 (block_lines c.args.text.now) all) (sym step.2) (c.loop-rest.invariant.1 step.0 here)) in
    let before : List (List ℕ) = texts c.loop-rest.listed.elements.items in
    let after : List (List ℕ) = texts c.line.new.self.elements.items in
    let elements : (more : List (List ℕ)) → AreEachFrom IsLineOfElement (length after) (element_lines later) more → AreEachFrom IsLineOfElement 0 (element_lines c.args.text.now) (after ++ more) = λ more told.
    (let step = each_step IsLineOfElement is_element_line c.split_line.result.0.now (physical_lines later) before after more c.in_default.ensures.elements told in
    let here : AreEachFrom IsLineOfElement (length before) (element_lines rest) step.0 = subst (λ (lines : List (List ℕ)). AreEachFrom IsLineOfElement (length before) (filter is_element_line lines) step.0) (sym lines_are) step.1 in
    subst (λ (all : List (List ℕ)). AreEachFrom IsLineOfElement 0 (element_lines c.args.text.now) all) (sym step.2) (c.loop-rest.invariant.2 step.0 here)) in
    (begun ∙ ap (λ (lines : List (List ℕ)). starts ++ starts_of is_element_line is_block_line count lines) (sym lines_are) ∙ c.loop-rest.invariant.0, named, elements)

pub returns-clause-starts : goal.returns-clause-starts
unfolding starts_of
returns-clause-starts c =
    let short : length c.loop-rest.rest.now ≡ 0 = grind (arith, nat_tests, c.loop-rest-test.ensures) in
    let none : c.loop-rest.rest.now ≡ [] = nothing c.loop-rest.rest.now short in
    let starts = listed_elements c.loop-rest.listed.blocks.items in
    let count = length c.loop-rest.listed.elements.items in
    sym (append-nil starts) ∙ ap (λ (rest : List ℕ). starts ++ starts_of is_element_line is_block_line count (physical_lines rest)) (sym none) ∙ c.loop-rest.invariant.0

pub returns-clause-names : goal.returns-clause-names
returns-clause-names c =
    let short : length c.loop-rest.rest.now ≡ 0 = grind (arith, nat_tests, c.loop-rest-test.ensures) in
    let none : c.loop-rest.rest.now ≡ [] = nothing c.loop-rest.rest.now short in
    let names = listed_names c.loop-rest.listed.blocks.items in
    subst (λ (all : List (BlockKind × List ℕ)). AreEachFrom IsLineOfBlock 0 (block_lines c.args.text.now) all) (append-nil names)
    (c.loop-rest.invariant.1 [] (subst (λ (rest : List ℕ). AreEachFrom IsLineOfBlock (length names) (block_lines rest) []) (sym none) tt))

pub returns-clause-elements : goal.returns-clause-elements
returns-clause-elements c =
    let short : length c.loop-rest.rest.now ≡ 0 = grind (arith, nat_tests, c.loop-rest-test.ensures) in
    let none : c.loop-rest.rest.now ≡ [] = nothing c.loop-rest.rest.now short in
    let names : List (List ℕ) = texts c.loop-rest.listed.elements.items in
    subst (λ (all : List (List ℕ)). AreEachFrom IsLineOfElement 0 (element_lines c.args.text.now) all) (append-nil names)
    (c.loop-rest.invariant.2 [] (subst (λ (rest : List ℕ). AreEachFrom IsLineOfElement (length names) (element_lines rest) []) (sym none) tt))
