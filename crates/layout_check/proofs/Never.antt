-- A layout with something wrong doesn't implement a lawful circuit.
use Rattle.layout_check.proofs.Prelude.{◌≡◌, true, arith, sym, count_by, All-contains, Circuit, IsCircuit, holds_latch, holds_table, Implements, Layout, traced_bles, from_get, Basis, NoDriver, TwoDrivers, Listed, Paths, Entry, Overused, Wrong, SamePlace, Inputs, Outputs, NotGlobal, LeftOut, SameNet, NoEntry, Unlawful, Ble, TableTwice, NoTable, LatchTwice, NoLatch, Net, IsWrong}
use Rattle.layout_check.specs.declared.fault.Wrong.TheVariants.{Block}
use Rattle.layout_check.proofs.BlePlaces.{in_traced, two_bles}
use Rattle.layout_check.proofs.Decided.{wrong_refuted}
use Rattle.layout_check.proofs.HeldParts.{holds_some}
use Rattle.layout_check.proofs.HoldRefuted.{holds_nothing}
use Rattle.layout_check.proofs.OneDriver.{one_driver}

pub never : (circuit : Circuit) (basis : Basis) (layout : Layout) (wrong : Wrong) → IsCircuit circuit → IsWrong circuit basis layout wrong → Implements circuit basis.arch basis.strip layout → ⊥
never circuit basis layout (Block number fault) lawful said is = wrong_refuted circuit basis layout (Block number fault) said (λ two. two) is
never circuit basis layout (SamePlace number other) lawful said is = wrong_refuted circuit basis layout (SamePlace number other) said (λ two. two) is
never circuit basis layout Inputs lawful said is = wrong_refuted circuit basis layout Inputs said (λ two. two) is
never circuit basis layout Outputs lawful said is = wrong_refuted circuit basis layout Outputs said (λ two. two) is
never circuit basis layout (NotGlobal net) lawful said is = wrong_refuted circuit basis layout (NotGlobal net) said (λ two. two) is
never circuit basis layout (LeftOut number) lawful said is = wrong_refuted circuit basis layout (LeftOut number) said (λ two. two) is
never circuit basis layout (SameNet number other) lawful said is = wrong_refuted circuit basis layout (SameNet number other) said (λ two. two) is
never circuit basis layout (NoEntry number) lawful said is = wrong_refuted circuit basis layout (NoEntry number) said (λ two. two) is
never circuit basis layout (Unlawful net) lawful said is = said lawful
never circuit basis layout (Ble number fault) lawful (element, at, said) is = grind (arith, holds_nothing, All-contains, holds_some, in_traced, holds_nothing circuit lawful element fault said (All-contains (λ element. holds_some circuit element ≡ true) (traced_bles basis.arch layout) element is.held.each (in_traced basis.arch layout.blocks number element at)), All-contains (λ element. holds_some circuit element ≡ true) (traced_bles basis.arch layout) element is.held.each (in_traced basis.arch layout.blocks number element at), holds_some circuit element, in_traced basis.arch layout.blocks number element)
never circuit basis layout (TableTwice k number other) lawful (table, at, differ, one, two) is =
    let twice = two_bles (λ element. holds_table circuit element table) basis.arch layout.blocks number other one.0 two.0 differ one.1 two.1 one.2 two.2 in
    let once = All-contains (λ table. count_by (λ element. holds_table circuit element table) (traced_bles basis.arch layout) ≡ 1) circuit.tables table is.held.tables (from_get circuit.tables k table at).1 in
    omega (arith, twice, once)
never circuit basis layout (NoTable k) lawful (table, at, none) is =
    let once = All-contains (λ table. count_by (λ element. holds_table circuit element table) (traced_bles basis.arch layout) ≡ 1) circuit.tables table is.held.tables (from_get circuit.tables k table at).1 in
    omega (arith, none, once)
never circuit basis layout (LatchTwice k number other) lawful (latch, at, differ, one, two) is =
    let twice = two_bles (λ element. holds_latch circuit element latch) basis.arch layout.blocks number other one.0 two.0 differ one.1 two.1 one.2 two.2 in
    let once = All-contains (λ latch. count_by (λ element. holds_latch circuit element latch) (traced_bles basis.arch layout) ≡ 1) circuit.latches latch is.held.latches (from_get circuit.latches k latch at).1 in
    omega (arith, twice, once)
never circuit basis layout (NoLatch k) lawful (latch, at, none) is =
    let once = All-contains (λ latch. count_by (λ element. holds_latch circuit element latch) (traced_bles basis.arch layout) ≡ 1) circuit.latches latch is.held.latches (from_get circuit.latches k latch at).1 in
    omega (arith, none, once)
never circuit basis layout (Net (Entry number NoDriver)) lawful said is = wrong_refuted circuit basis layout (Net (Entry number NoDriver)) said (λ two. two) is
never circuit basis layout (Net (Entry number (TwoDrivers driver other))) lawful (laid, there, (differ, one, two)) is =
    one_driver circuit lawful basis.arch basis.strip layout is laid.net driver other one.0 two.0 (λ e. differ (sym e)) one.1 two.1 one.2 two.2
never circuit basis layout (Net (Entry number (Listed driver))) lawful said is = wrong_refuted circuit basis layout (Net (Entry number (Listed driver))) said (λ two. two) is
never circuit basis layout (Net (Entry number (Paths driver fault))) lawful said is = wrong_refuted circuit basis layout (Net (Entry number (Paths driver fault))) said (λ two. two) is
never circuit basis layout (Net (Overused node)) lawful said is = wrong_refuted circuit basis layout (Net (Overused node)) said (λ two. two) is
