-- The answers of `pack` and `place`.
use Rattle.tenant_slot.proofs.Prelude.{◌≡◌, ℕ, ◌+◌, ◌<◌, Bool, true, false, List, Option, Some, None, Result, Ok, refl, sym, ap, ◌∙◌, arith, nat_lt, IfErr, if◌then◌else◌, circuit_of, Circuit, BlifFault, KeptPlaces, AreKeptOn, packed_of, unfit_of, fit_of, packing_sources, placing_sources, Command, Change, Pack, Place, Netlist, NotAnswered, NoMemory, Misfit, Refused, WrongState, BadEffort, StateName, Answers, Outcome, IsNetlist, job_begun, load_outcome, pack_outcome, place_outcome, is_lawful, with_kept_places, with_netlist, misfit_of, pack_unless, place_unless, serve, SlotState, Loaded as LoadedName}
use Rattle.std.specs.Prelude.{IfOk}
use Rattle.tenant_slot.proofs.Leading.{pack, placing}

-- a call that returns that answer, or runs out of memory
answers_so : (slot : SlotState) (command : Command) (result : Result Outcome NotAnswered) (outcome : Outcome) → slot.state.entries < 65536 → IfOk result (λ a. a ≡ outcome) → IfErr result (λ e. e ≡ NoMemory) →
    Answers slot command (Ok outcome) → Answers slot command result
answers_so slot command result outcome room ok err answers = grind arith

-- `pack` is lawful when a netlist is loaded
pack_loaded : (name : StateName) → is_lawful name Pack ≡ true → name ≡ LoadedName
pack_loaded name lawful = grind arith

module _ (slot : SlotState) (netlist : Netlist) (text : netlist.text ≡ slot.state.text) (lawful_text : IsNetlist slot.state.arch.lut_size netlist) (room : slot.state.entries < 65536) where
  its_circuit : circuit_of slot.state.text slot.state.arch.lut_size ≡ Ok netlist.circuit
  its_circuit = ap (λ t. circuit_of t slot.state.arch.lut_size) (sym text) ∙ lawful_text

  -- the answer of `pack`, by the least BLE that fits into no cluster
  pack_answers : slot.state.name ≡ LoadedName → (unfit : Option ℕ) → unfit_of netlist.circuit slot.state.arch ≡ unfit →
      Answers slot Pack (Ok (pack_outcome slot.state.arch.lut_size (job_begun slot.id (slot.state.generation + 1) (packing_sources slot.state.arch slot.state.strip netlist.text)) unfit))
  pack_answers with_netlist None is =
      let asked = ap (λ name. if is_lawful name Pack then serve slot.state Pack else (None, Refused (WrongState name))) with_netlist in (
        record {
          lut_size = refl;
          room = room;
          begins = (with_netlist, record { sources = ap (packing_sources slot.state.arch slot.state.strip) text; ready = refl });
        },
        asked ∙ ap (pack slot.state) its_circuit ∙ ap (pack_unless slot.state) is,
      )
  pack_answers with_netlist (Some ble) is =
      let asked = ap (λ name. if is_lawful name Pack then serve slot.state Pack else (None, Refused (WrongState name))) with_netlist in
      (record { lut_size = refl; room = room; begins = tt }, asked ∙ ap (pack slot.state) its_circuit ∙ ap (pack_unless slot.state) is)

  -- the answer of `place`, by whether the effort is too great and which places are too few
  place_answers : (seed effort : ℕ) → is_lawful slot.state.name (Place seed effort) ≡ true → (great : Bool) → nat_lt 100 effort ≡ great → (misfit : Option Misfit) →
      misfit_of (fit_of slot.state.strip (packed_of netlist.circuit slot.state.arch)) ≡ misfit →
      Answers slot (Place seed effort) (Ok (place_outcome slot.state.arch.lut_size (job_begun slot.id (slot.state.generation + 1) (placing_sources slot.state.arch slot.state.strip netlist.text slot.state.kept seed effort)) great misfit))
  place_answers seed effort lawful true is_great misfit is =
      let asked = ap (λ b. if b then placing slot.state seed effort (circuit_of slot.state.text slot.state.arch.lut_size) else (None, Refused (WrongState slot.state.name))) lawful in (
        record { lut_size = refl; room = room; begins = tt },
        asked ∙ ap (placing slot.state seed effort) its_circuit
            ∙ ap (λ b. if b then (None, Refused BadEffort) else place_unless slot.state seed effort (misfit_of (fit_of slot.state.strip (packed_of netlist.circuit slot.state.arch)))) is_great,
      )
  place_answers seed effort lawful false is_great None is =
      let asked = ap (λ b. if b then placing slot.state seed effort (circuit_of slot.state.text slot.state.arch.lut_size) else (None, Refused (WrongState slot.state.name))) lawful in (
        record {
          lut_size = refl;
          room = room;
          begins = (lawful, refl, record { sources = ap (λ t. placing_sources slot.state.arch slot.state.strip t slot.state.kept seed effort) text; ready = refl });
        },
        asked ∙ ap (placing slot.state seed effort) its_circuit
            ∙ ap (λ b. if b then (None, Refused BadEffort) else place_unless slot.state seed effort (misfit_of (fit_of slot.state.strip (packed_of netlist.circuit slot.state.arch)))) is_great
            ∙ ap (place_unless slot.state seed effort) is,
      )
  place_answers seed effort lawful false is_great (Some misfit) is =
      let asked = ap (λ b. if b then placing slot.state seed effort (circuit_of slot.state.text slot.state.arch.lut_size) else (None, Refused (WrongState slot.state.name))) lawful in (
        record { lut_size = refl; room = room; begins = tt },
        asked ∙ ap (placing slot.state seed effort) its_circuit
            ∙ ap (λ b. if b then (None, Refused BadEffort) else place_unless slot.state seed effort (misfit_of (fit_of slot.state.strip (packed_of netlist.circuit slot.state.arch)))) is_great
            ∙ ap (place_unless slot.state seed effort) is,
      )

  pub pack_result : (result : Result Outcome NotAnswered) → is_lawful slot.state.name Pack ≡ true →
      IfOk result (λ a. a ≡ pack_outcome slot.state.arch.lut_size (job_begun slot.id (slot.state.generation + 1) (packing_sources slot.state.arch slot.state.strip netlist.text)) (unfit_of netlist.circuit slot.state.arch)) →
      IfErr result (λ e. e ≡ NoMemory) → Answers slot Pack result
  pack_result result lawful ok err =
      answers_so slot Pack result
      (pack_outcome slot.state.arch.lut_size (job_begun slot.id (slot.state.generation + 1) (packing_sources slot.state.arch slot.state.strip netlist.text)) (unfit_of netlist.circuit slot.state.arch))
      room ok err (pack_answers (pack_loaded slot.state.name lawful) (unfit_of netlist.circuit slot.state.arch) refl)

  pub place_result : (seed effort : ℕ) (result : Result Outcome NotAnswered) → is_lawful slot.state.name (Place seed effort) ≡ true →
      IfOk result (λ a. a ≡ place_outcome slot.state.arch.lut_size (job_begun slot.id (slot.state.generation + 1) (placing_sources slot.state.arch slot.state.strip netlist.text slot.state.kept seed effort)) (nat_lt 100 effort)
      (misfit_of (fit_of slot.state.strip (packed_of netlist.circuit slot.state.arch)))) →
      IfErr result (λ e. e ≡ NoMemory) → Answers slot (Place seed effort) result
  place_result seed effort result lawful ok err =
      answers_so slot (Place seed effort) result
      (place_outcome slot.state.arch.lut_size (job_begun slot.id (slot.state.generation + 1) (placing_sources slot.state.arch slot.state.strip netlist.text slot.state.kept seed effort)) (nat_lt 100 effort)
      (misfit_of (fit_of slot.state.strip (packed_of netlist.circuit slot.state.arch))))
      room ok err (place_answers seed effort lawful (nat_lt 100 effort) refl (misfit_of (fit_of slot.state.strip (packed_of netlist.circuit slot.state.arch))) refl)

-- a change keeps the current places
change_by : (slot : SlotState) (text : List ℕ) (kept : KeptPlaces) → is_lawful slot.state.name (Change text) ≡ true → slot.state.entries < 65536 → kept ≡ (with_kept_places slot.state).kept → AreKeptOn slot.state.strip kept →
    (said : Result Circuit BlifFault) → circuit_of text slot.state.arch.lut_size ≡ said → Answers slot (Change text) (Ok (load_outcome slot.state.arch.lut_size text (Some kept) said))
change_by slot text kept lawful room same keeps said is = grind arith

pub change_result : (slot : SlotState) (text : List ℕ) (kept : KeptPlaces) (result : Result Outcome NotAnswered) → is_lawful slot.state.name (Change text) ≡ true → slot.state.entries < 65536 → kept ≡ (with_kept_places slot.state).kept → AreKeptOn slot.state.strip kept →
    IfOk result (λ a. a ≡ load_outcome slot.state.arch.lut_size text (Some kept) (circuit_of text slot.state.arch.lut_size)) → IfErr result (λ e. e ≡ NoMemory) → Answers slot (Change text) result
change_result slot text kept result lawful room same keeps ok err = grind arith
