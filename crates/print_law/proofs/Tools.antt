-- The tools do not refuse the files of a routed tenancy.
use Rattle.print_law.proofs.Prelude.{◌≡◌, ℕ, ◌+◌, ◌-◌, ◌≤◌, ◌^◌, List, Option, Some, Ok, Err, Bool, true, false, cond, nat_lt, length, take, refl, sym, ap, subst, arith, ◌∙◌, result_flatten, result_map_both, nat_tests, take_all, arch_of, arch_of_lines, Arch, fault_of_lines, circuit_of, circuit_of_lines, Circuit, OverLimit as NetlistTooLong, Outcome, IsBeginning, texts_with, AreReadAndRefused, LayoutPaths, lines_of, MAX_TEXT, State, Net as NetFile, Route as RoutesFile, File, AreTextsOf, HasFiledLayout, NamesNoOpen, HasFilesAt}
use Rattle.arch_file.specs.declared.fault.ArchFaultKind.TheVariants.{OverLimit as ArchTooLong}
use Rattle.tenant_slot.specs.declared.reply.FileKind.TheVariants.{Place as PlacesFile}
use Rattle.print_law.proofs.Verdicts.{can_be_filed, laid, read}

-- a text that is not longer than a reader reads is read whole
whole : (known : Option (List ℕ)) (most : ℕ) (bytes text : List ℕ) → IsBeginning known most bytes → known ≡ Some text → length text ≤ most → bytes ≡ text
whole known most bytes text begins is few =
    let taken : bytes ≡ take most text = subst (λ (o : Option (List ℕ)). IsBeginning o most bytes) is begins in
    taken ∙ take_all most text few

-- the text of an architecture and of a netlist is not longer than a text may be
arch_short : (text : List ℕ) (tracks : ℕ) (arch : Arch) → arch_of text tracks ≡ Ok arch → length text ≤ MAX_TEXT
unfolding arch_of
arch_short text tracks arch says = by (nat_lt MAX_TEXT (length text)) refl says
  where
    by : (b : Bool) → nat_lt MAX_TEXT (length text) ≡ b → cond b (Err (record { line = 0; kind = ArchTooLong })) (arch_of_lines (lines_of text) tracks) ≡ Ok arch → length text ≤ MAX_TEXT
    by true is given = absurd cc
    by false is given = grind (arith, nat_tests, is)

netlist_short : (text : List ℕ) (lut_size : ℕ) (circuit : Circuit) → circuit_of text lut_size ≡ Ok circuit → length text ≤ MAX_TEXT
unfolding circuit_of
netlist_short text lut_size circuit says = by (nat_lt MAX_TEXT (length text)) refl says
  where
    by : (b : Bool) → nat_lt MAX_TEXT (length text) ≡ b → cond b (Err (record { line = 0; kind = NetlistTooLong })) (result_flatten (result_map_both (circuit_of_lines lut_size) fault_of_lines (lines_of text))) ≡ Ok circuit → length text ≤ MAX_TEXT
    by true is given = absurd cc
    by false is given = grind (arith, nat_tests, is)

pub not_refused : (state : State) → HasFiledLayout state → NamesNoOpen state → (text : List ℕ → Option (List ℕ)) (paths : LayoutPaths) (outcome : Outcome) → HasFilesAt state text paths → AreReadAndRefused text paths outcome → ⊥
not_refused state filed none_open text paths outcome at refused =
    let given = refused.given in
    let arch_long = arch_short at.texts.arch at.texts.shape.tracks state.arch at.own.arch in
    let netlist_says : circuit_of at.texts.netlist state.arch.lut_size ≡ Ok filed.circuit = at.own.netlist ∙ filed.says in
    let netlist_long = netlist_short at.texts.netlist state.arch.lut_size filed.circuit netlist_says in
    let net_long = at.net_size in
    let place_long = at.place_size in
    let route_long = at.route_size in
    let arch_is = whole (text paths.arch.now) (MAX_TEXT + 1) given.arch.items at.texts.arch refused.read.arch at.arch (omega (arith, arch_long)) in
    let netlist_is = whole (text paths.netlist.now) (MAX_TEXT + 1) given.netlist.items at.texts.netlist refused.read.netlist at.netlist (omega (arith, netlist_long)) in
    let net_is = whole (text paths.net.now) (2 ^ 64 - 1) given.net.items at.texts.net refused.read.net at.net (omega (arith, net_long)) in
    let place_is = whole (text paths.place.now) (2 ^ 64 - 1) given.place.items at.texts.place refused.read.place at.place (omega (arith, place_long)) in
    let route_is = whole (text paths.route.now) (2 ^ 64 - 1) given.route.items at.texts.route refused.read.route at.route (omega (arith, route_long)) in
    let texts = texts_with given at.texts.shape in
    let are : AreTextsOf state texts = record {
      arch = ap (λ (t : List ℕ). arch_of t at.texts.shape.tracks) arch_is ∙ at.own.arch;
      strip = at.own.strip;
      netlist = ap (λ (t : List ℕ). circuit_of t state.arch.lut_size) netlist_is ∙ at.own.netlist;
      net = at.own.net ∙ ap (File NetFile) (sym net_is);
      place = at.own.place ∙ ap (File PlacesFile) (sym place_is);
      route = at.own.route ∙ ap (File RoutesFile) (sym route_is);
    } in
    refused.refused.none (laid state filed none_open texts are)
    (record { shape = at.texts.shape; asked = at.asked; read = read state filed none_open texts are; implemented = filed.implemented })
    (can_be_filed state filed none_open texts are)
