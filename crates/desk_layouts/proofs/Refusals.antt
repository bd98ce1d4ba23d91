-- Files that are refused.
use Rattle.desk_layouts.proofs.Prelude.{◌≡◌, ◌∙◌, inl, inr, ℕ, Bool, List, Option, Result, Ok, Err, IfErr, IsErrAnd, refl, ap, sym, subst, arch_of, Arch, circuit_of, Strip, Outcome, ArchRefused, FileFailed, LayoutRefused, NetlistRefused, NoMemory, OtherCircuit, OutputFailed, FileRole, Architecture, Netlist, Net, Places, Routes, Verilog, IsReadFrom, CanBeFiled, IsImplemented, LaidCircuit, StripShape, ArePlacesOn, IsAskedShape, IsOnlyShape, AreRead, IsLaidIn, texts_with, IsUnwritten, IsUnwrittenOr, AreRefused, HasFailed, IsFailure, IsRefusal, IsRefusalOf, IsUnread, GivenFiles, LayoutPaths}

same_strip : (columns columns' rows rows' pads : ℕ) → columns ≡ columns' → rows ≡ rows' → ◌≡◌ {A = Strip} (record { width = columns; rows = rows; io_rat = pads }) (record { width = columns'; rows = rows'; io_rat = pads })
same_strip columns columns' rows rows' pads e f = rw (e, f) refl

-- a reading for a shape is one for each shape of this size
on_shape : (given : GivenFiles) (shape other : StripShape) (laid : LaidCircuit) → other.columns ≡ shape.columns → other.rows ≡ shape.rows → other.tracks ≡ shape.tracks → IsReadFrom (texts_with given other) laid → IsReadFrom (texts_with given shape) laid
on_shape given shape other laid e f g read = record {
  arch = subst (λ (tracks : ℕ). arch_of given.arch.items tracks ≡ Ok laid.arch) g read.arch;
  circuit = read.circuit;
  strip = read.strip ∙ same_strip other.columns shape.columns other.rows shape.rows laid.arch.io_rat e f;
  files = read.files;
  arch_lawful = read.arch_lawful;
  circuit_lawful = read.circuit_lawful;
}

-- the shape of a reading is the one that is asked for
places_on : (given : GivenFiles) (shape : StripShape) (laid : LaidCircuit) → IsReadFrom (texts_with given shape) laid → CanBeFiled laid → ArePlacesOn given.place.items shape.columns shape.rows
places_on given shape laid read filed = record {
  circuit = laid.circuit;
  strip = laid.strip;
  layout = laid.layout;
  model = filed.names.model;
  width_is = ap (λ (strip : Strip). strip.width) read.strip;
  rows_are = ap (λ (strip : Strip). strip.rows) read.strip;
  text = read.files.places;
}

module _ (paths : LayoutPaths) (given : GivenFiles) (shape : StripShape) (asked : IsAskedShape paths shape) (only : IsOnlyShape paths given.place.items shape) where
  moved : (laid : LaidCircuit) (laid_in : IsLaidIn paths given laid) → CanBeFiled laid → IsReadFrom (texts_with given shape) laid
  moved laid laid_in filed =
      let size = only laid_in.shape laid_in.asked (places_on given laid_in.shape laid laid_in.read filed) in
      on_shape given shape laid_in.shape laid size.0 size.1 (laid_in.asked.0 ∙ sym asked.0) laid_in.read

  refuse : (outcome : Outcome) → IsRefusalOf (texts_with given shape) outcome → ((laid : LaidCircuit) → IsReadFrom (texts_with given shape) laid → IsImplemented laid → CanBeFiled laid → ⊥) → AreRefused paths given outcome
  refuse outcome cause none = record { shape = shape; asked = asked; cause = cause; none = λ laid laid_in filed. none laid (moved laid laid_in filed) laid_in.implemented filed }

  -- texts that are refused are those of no layout that implements the circuit
  pub refusal : (outcome : Outcome) → IsRefusalOf (texts_with given shape) outcome → IsRefusal paths given outcome
  refusal NoMemory cause = tt
  refusal (ArchRefused fault) cause = refuse (ArchRefused fault) cause (λ laid read made filed. let a = read.arch in absurd cc)
  refusal NetlistRefused cause = refuse NetlistRefused cause (λ laid read made filed.
      let arch_is : laid.arch ≡ cause.arch = let a = read.arch in let b = cause.read in cc in
      let a : circuit_of given.netlist.items cause.arch.lut_size ≡ Ok laid.circuit = subst (λ (arch : Arch). circuit_of given.netlist.items arch.lut_size ≡ Ok laid.circuit) arch_is read.circuit in
      let b = cause.refused in
      absurd cc)
  refusal (LayoutRefused fault) cause = refuse (LayoutRefused fault) cause (λ laid read made filed. cause laid read filed)
  refusal OtherCircuit cause = refuse OtherCircuit cause (λ laid read made filed. cause.differs (subst IsImplemented (cause.only laid read filed) made))
  refusal other cause = absurd cause

-- ---- how the tool ends

module _ (fails : List ℕ → Type 0) (written : Type 0) (text : List ℕ → Option (List ℕ)) (failed : Bool) (paths : LayoutPaths) where
  role_failed : (role : FileRole) → HasFailed fails ⊥ paths role → HasFailed fails written paths role
  role_failed Architecture h = h
  role_failed Netlist h = h
  role_failed Net h = h
  role_failed Places h = h
  role_failed Routes h = h
  role_failed Verilog h = absurd h
  role_failed other h = absurd h

  -- files could not be read
  pub unread : (outcome : Outcome) → IsUnread fails paths outcome → IsFailure fails written text failed paths outcome
  unread NoMemory h = tt
  unread (FileFailed role) h = role_failed role h
  unread other h = absurd h

  -- files are refused
  pub refused : (given : GivenFiles) → AreRead text paths given → (outcome : Outcome) → IsRefusal paths given outcome → IsFailure fails written text failed paths outcome
  refused given read NoMemory h = tt
  refused given read (FileFailed role) h = absurd h.cause
  refused given read OutputFailed h = absurd h.cause
  refused given read other h = record { given = given; read = read; refused = h }

  -- what was made could not be written
  unwritten_as : (role : FileRole) → (role ≡ Verilog) × written → HasFailed fails written paths role
  unwritten_as role h = subst (HasFailed fails written paths) (sym h.0) h.1

  unwritten : (outcome : Outcome) → IsUnwritten written failed outcome → IsFailure fails written text failed paths outcome
  unwritten NoMemory h = tt
  unwritten OutputFailed h = h
  unwritten (FileFailed role) h = unwritten_as role h
  unwritten other h = absurd h

  pub unwritten_or : (given : GivenFiles) → AreRead text paths given → (outcome : Outcome) → IsUnwrittenOr written failed paths given outcome → IsFailure fails written text failed paths outcome
  unwritten_or given read outcome (inl h) = unwritten outcome h
  unwritten_or given read outcome (inr h) = refused given read outcome h

-- an error that a `?` passes on
pub err_as : {T E : Type 0} (r : Result T E) (e : E) (P : E → Type 0) → IsErrAnd r (λ other. other ≡ e) → P e → IfErr r P
err_as (Ok done) e P same h = tt
err_as (Err other) e P same h = subst P (sym same) h
