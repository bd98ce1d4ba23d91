use Rattle.layout_check.proofs.Prelude.{◌≡◌, ◌∙◌, ◌<◌, List, Some, ℕ, ap, false, length, rules, slice_get, subst, sym, true, is_global, from_get, LaidBlock, IsRouted, Node, list_at, IsPathFault, drives, sinks_of}
use Rattle.layout_check.proofs.Entries.{entry_laid, first_of, listed_same, never_driven, only_driver, sinks_same, two_drivers}
use Rattle.layout_check.proofs.entry.check_entry.Goals as goal

pub returns-in_default-clause-exact : goal.returns-in_default-clause-exact
returns-in_default-clause-exact c =
    let drivers = c.list-drivers.ensures ∙ ap (list_at c.args.index.now.drivers) c.net-net.ensures ∙ c.requires.index.drivers.each c.args.laid.now.net c.requires.within in
    never_driven c.args.laid.now.net c.args.layout.now.blocks c.list-drivers.result.now drivers (sym c.first_driver.ensures ∙ c.in_default.is)

pub returns-in-Some-other_driver-clause-exact : goal.returns-in-Some-other_driver-clause-exact
returns-in-Some-other_driver-clause-exact c =
    let drivers = c.list-drivers.ensures ∙ ap (list_at c.args.index.now.drivers) c.net-net.ensures ∙ c.requires.index.drivers.each c.args.laid.now.net c.requires.within in
    let at = sym c.first_driver.ensures ∙ c.in-Some.is in
    two_drivers c.args.laid.now.net c.args.layout.now.blocks c.list-drivers.result.now c.in-Some.driver c.in-Some-other_driver.other drivers at c.in-Some-other_driver.ensures

pub returns-then-not-listed-clause-exact : goal.returns-then-not-listed-clause-exact
returns-then-not-listed-clause-exact c =
    let drivers = c.list-drivers.ensures ∙ ap (list_at c.args.index.now.drivers) c.net-net.ensures ∙ c.requires.index.drivers.each c.args.laid.now.net c.requires.within in
    let at = sym c.first_driver.ensures ∙ c.in-Some.is in
    let only = only_driver c.args.layout.now c.args.laid.now.net c.list-drivers.result.now c.in-Some.driver drivers at c.in_default-other_driver.ensures in
    let readers = c.list-readers.ensures ∙ ap (list_at c.args.index.now.readers) c.net-net.ensures ∙ c.requires.index.readers.each c.args.laid.now.net c.requires.within in
    let global = c.is_global-global.ensures ∙ ap (is_global c.args.circuit.now) c.net.ensures in
    let no : c.in_ok-listed.listed ≡ false = search rules in
    let refused = rw no at c.in_ok-listed.ensures in
    (only.0, only.1, λ is. refused (c.listed_blocks.ensures ∙ is ∙ sym (listed_same c.args.circuit.now c.args.graph.now.arch c.args.layout.now c.in-Some.driver c.args.laid.now.net c.is_global-global.result c.list-readers.result.now global readers)))

pub source_of-source-requires : goal.source_of-source-requires
source_of-source-requires c =
    let drivers = c.list-drivers.ensures ∙ ap (list_at c.args.index.now.drivers) c.net-net.ensures ∙ c.requires.index.drivers.each c.args.laid.now.net c.requires.within in
    let at = sym c.first_driver.ensures ∙ c.in-Some.is in
    let found = first_of (drives c.args.laid.now.net) c.args.layout.now.blocks c.list-drivers.result.now c.in-Some.driver drivers at in
    subst (λ (bs : List LaidBlock). c.in-Some.driver < length bs) (sym c.blocks-blocks.ensures) (from_get c.args.layout.now.blocks c.in-Some.driver found.0 found.1).0

pub returns-in-Some-2-clause-exact : goal.returns-in-Some-2-clause-exact
returns-in-Some-2-clause-exact c =
    let drivers = c.list-drivers.ensures ∙ ap (list_at c.args.index.now.drivers) c.net-net.ensures ∙ c.requires.index.drivers.each c.args.laid.now.net c.requires.within in
    let at = sym c.first_driver.ensures ∙ c.in-Some.is in
    let only = only_driver c.args.layout.now c.args.laid.now.net c.list-drivers.result.now c.in-Some.driver drivers at c.in_default-other_driver.ensures in
    let readers = c.list-readers.ensures ∙ ap (list_at c.args.index.now.readers) c.net-net.ensures ∙ c.requires.index.readers.each c.args.laid.now.net c.requires.within in
    let global = c.is_global-global.ensures ∙ ap (is_global c.args.circuit.now) c.net.ensures in
    let there = subst (λ (bs : List LaidBlock). slice_get bs c.in-Some.driver ≡ Some only.0) (sym c.blocks-blocks.ensures) only.1.there in
    let source = c.source_of-source.ensures only.0 there in
    let sinks = c.as_slice-ends.ensures.value ∙ c.in_ok-sinks.ensures
    ∙ sinks_same c.args.circuit.now c.args.graph.now.arch c.args.layout.now c.args.laid.now.net c.is_global-global.result c.list-readers.result.now c.blocks-blocks.result.now global readers c.blocks-blocks.ensures in
    let told = rw c.in-Some-2.is at c.in_ok-fault.ensures.exact in (
      only.0,
      only.1,
      subst (λ (n : Node). IsPathFault c.args.graph.now n (sinks_of c.args.circuit.now c.args.graph.now.arch c.args.layout.now c.args.laid.now.net) c.args.laid.now.paths c.in-Some-2.fault) source
          (subst (λ (ns : List Node). IsPathFault c.args.graph.now c.source_of-source.result ns c.args.laid.now.paths c.in-Some-2.fault) sinks
          (subst (λ (ps : List (List Node)). IsPathFault c.args.graph.now c.source_of-source.result c.as_slice-ends.result.now ps c.in-Some-2.fault) c.paths.ensures told)),
    )

pub returns-clause-exact : goal.returns-clause-exact
returns-clause-exact c =
    let drivers = c.list-drivers.ensures ∙ ap (list_at c.args.index.now.drivers) c.net-net.ensures ∙ c.requires.index.drivers.each c.args.laid.now.net c.requires.within in
    let at = sym c.first_driver.ensures ∙ c.in-Some.is in
    let only = only_driver c.args.layout.now c.args.laid.now.net c.list-drivers.result.now c.in-Some.driver drivers at c.in_default-other_driver.ensures in
    let readers = c.list-readers.ensures ∙ ap (list_at c.args.index.now.readers) c.net-net.ensures ∙ c.requires.index.readers.each c.args.laid.now.net c.requires.within in
    let global = c.is_global-global.ensures ∙ ap (is_global c.args.circuit.now) c.net.ensures in
    let there = subst (λ (bs : List LaidBlock). slice_get bs c.in-Some.driver ≡ Some only.0) (sym c.blocks-blocks.ensures) only.1.there in
    let yes : c.in_ok-listed.listed ≡ true = search rules in
    let listed = rw yes at c.in_ok-listed.ensures in
    let tree = rw c.in-None.is at c.in_ok-fault.ensures.exact in
    entry_laid c.args.circuit.now c.args.graph.now c.args.layout.now c.args.laid.now c.in-Some.driver only.0 only.1.there only.1.driven c.source_of-source.result (c.source_of-source.ensures only.0 there) c.as_slice-ends.result.now
    (c.as_slice-ends.ensures.value ∙ c.in_ok-sinks.ensures
    ∙ sinks_same c.args.circuit.now c.args.graph.now.arch c.args.layout.now c.args.laid.now.net c.is_global-global.result c.list-readers.result.now c.blocks-blocks.result.now global readers c.blocks-blocks.ensures)
    (subst (λ (ps : List (List Node)). IsRouted c.args.graph.now.arch c.args.graph.now.strip c.source_of-source.result c.as_slice-ends.result.now ps) c.paths.ensures tree)
    (sym c.listed_blocks.ensures ∙ listed ∙ listed_same c.args.circuit.now c.args.graph.now.arch c.args.layout.now c.in-Some.driver c.args.laid.now.net c.is_global-global.result c.list-readers.result.now global readers)
