-- A verdict on the files of a routed tenancy.
use Rattle.print_law.proofs.Prelude.{◌≡◌, ℕ, List, Ok, Err, refl, sym, subst, arith, ◌∙◌, Arch, IsLawfulFor, circuit_of, text_lawful, net_text, place_text, route_text, IsReadFrom, Texts, CanBeFiled, IsImplemented, IsVerdict, LaidCircuit, Verdict, Differs, ArchRefused, NetlistRefused, FilesRefused, NoMemory, State, Command, PlaceFile, RouteFile, FileKind, Net as NetFile, Route as RoutesFile, File, AreTextsOf, HasFiledLayout, IsAccepted, IsAnswered, NamesNoOpen}
use Rattle.layout_verdict.specs.declared.verdict.Verdict.TheVariants.{Implements}
use Rattle.tenant_slot.specs.declared.command.Command.TheVariants.{Net}
use Rattle.tenant_slot.specs.declared.reply.FileKind.TheVariants.{Place as PlacesFile}

-- a command has one answer
one_file : (state : State) (command : Command) (kind : FileKind) (text other : List ℕ) → IsAnswered state command kind text → IsAnswered state command kind other → text ≡ other
one_file state command kind text other is are = let same : File kind text ≡ File kind other = sym is ∙ are in cc

module _ (state : State) (filed : HasFiledLayout state) (none_open : NamesNoOpen state) (texts : Texts) (are : AreTextsOf state texts) where
  abbrev pub laid : LaidCircuit
  laid = record { arch = state.arch; circuit = filed.circuit; strip = state.strip; layout = filed.layout }

  lawful : IsLawfulFor state.arch.lut_size filed.circuit
  lawful = text_lawful state.text state.arch.lut_size filed.circuit filed.says

  pub read : IsReadFrom texts laid
  read = record {
    arch = are.arch;
    circuit = are.netlist ∙ filed.says;
    strip = are.strip;
    files = record {
      packing = one_file state Net NetFile texts.net (net_text filed.circuit state.arch filed.layout) are.net filed.net;
      places = one_file state PlaceFile PlacesFile texts.place (place_text filed.circuit state.strip filed.layout) are.place filed.place;
      routes = one_file state RouteFile RoutesFile texts.route (route_text filed.circuit state.strip filed.layout) are.route filed.route;
      form = filed.form;
      named = none_open filed.circuit filed.says;
    };
    arch_lawful = filed.arch;
    circuit_lawful = lawful;
  }

  pub can_be_filed : CanBeFiled laid
  can_be_filed = record {
    names = record {
      model = filed.names.model;
      plain = filed.names.nets;
      none_open = none_open filed.circuit filed.says;
      once = lawful.0.named_once;
      few = (let few = lawful.0.few in omega (arith, few));
    };
    fits = filed.fits;
  }

  pub accepted : (verdict : Verdict) → IsVerdict texts verdict → IsAccepted state verdict
  accepted (Implements other) (is, implemented, only) =
      let same = only laid read can_be_filed in (
        subst (λ (l : LaidCircuit). circuit_of state.text state.arch.lut_size ≡ Ok l.circuit) same filed.says,
        subst (λ (l : LaidCircuit). l.arch ≡ state.arch) same refl,
        subst (λ (l : LaidCircuit). l.strip ≡ state.strip) same refl,
        implemented,
      )
  accepted (Differs other wrong) (is, differs, only) = differs (subst IsImplemented (only laid read can_be_filed) filed.implemented)
  accepted (ArchRefused fault) refused = let arch = are.arch in absurd cc
  accepted (NetlistRefused fault) (arch, says, refused) =
      let arch_is : arch ≡ state.arch = (let both : Ok arch ≡ Ok state.arch = sym says ∙ are.arch in cc) in
      let circuit = read.circuit in
      let refused_here = subst (λ (a : Arch). circuit_of texts.netlist a.lut_size ≡ Err fault) arch_is refused in
      absurd cc
  accepted (FilesRefused fault) refused = refused laid read can_be_filed
  accepted NoMemory done = tt
