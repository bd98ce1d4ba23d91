use Rattle.strip_files.proofs.Prelude.{◌∙◌, List, ℕ, ap, subst, sym, AreEachFrom, BlockKind, IsLineOfBlock, block_lines, listed_elements, listed_names}
use Rattle.strip_files.proofs.Begun.{elements_listed, names_listed}
use Rattle.strip_files.proofs.reader.read_strip.Goals as goal

pub returns-clause-blocks : goal.returns-clause-blocks
returns-clause-blocks c = sym (elements_listed _) ∙ ap listed_elements (c.in_ok-size.ensures.listed ∙ c.deref.ensures.value) ∙ c.in_ok-pins.ensures.starts

pub returns-clause-block_names : goal.returns-clause-block_names
returns-clause-block_names c =
    subst (λ (names : List (BlockKind × List ℕ)). AreEachFrom IsLineOfBlock 0 (block_lines c.args.texts.net.now) names)
    (sym (ap listed_names (c.in_ok-size.ensures.listed ∙ c.deref.ensures.value)) ∙ names_listed _) c.in_ok-pins.ensures.names
