-- The meaning of an architecture text: the architecture, or the least fault.
use Rattle.std.specs.Prelude.{ℕ, ◌≡◌, ◌≤◌, List, [], true, All, Result, Ok, Err, length, nat_lt, if◌then◌else◌}
use Rattle.std.specs.Option.{option_map_or}
use Rattle.arch_file.specs.declared.arch.TheConstants.{MAX_CLUSTER_SIZE, MAX_INPUTS, MAX_IO_RAT, MAX_LUT_SIZE, MAX_TRACKS}
use Rattle.line_text.specs.LeastFault.{least_fault}
use Rattle.line_text.specs.Lines.{JoinedLine, lines_of}
use Rattle.line_text.specs.declared.fault.LineFault.{LineFault}
use Rattle.line_text.specs.declared.lines.TheConstants.{MAX_TEXT}
use Rattle.arch_file.specs.declared.arch.Arch.{Arch}
use Rattle.arch_file.specs.declared.fault.ArchFault.{ArchFault}
use Rattle.arch_file.specs.declared.fault.ArchFaultKind.TheVariants.{OverLimit}
use Rattle.arch_file.specs.declared.fault.ArchKeyword.TheVariants.{IoRat, SubblocksPerClb, SubblockLutSize, FcOutput, FcInput, FcPad}
use Rattle.arch_file.specs.ArchFaults.{decimal_at, faults_after, is_fractional, pins_of, whole_at}
use Rattle.arch_file.specs.Faults.{fault_of_lines}
use Rattle.arch_file.specs.Values.{reach}
pub use Rattle.arch_file.specs.Pins.{is_input_class, is_output_class, is_clock_class, input_count, output_count, clock_count, has_side}

-- the number is within a range
abbrev pub IsWithin : ℕ → ℕ → ℕ → Type 0
IsWithin low number high = (low ≤ number) × (number ≤ high)

-- the architecture is within its limits
pub record IsArch (arch : Arch) : Type 0 where
  pub io_rat : IsWithin 1 arch.io_rat MAX_IO_RAT
  pub cluster_size : IsWithin 1 arch.cluster_size MAX_CLUSTER_SIZE
  pub lut_size : IsWithin 1 arch.lut_size MAX_LUT_SIZE
  pub tracks : IsWithin 1 arch.tracks MAX_TRACKS
  pub fc_output : IsWithin 1 arch.fc_output arch.tracks
  pub fc_input : IsWithin 1 arch.fc_input arch.tracks
  pub fc_pad : IsWithin 1 arch.fc_pad arch.tracks
  pub inputs : IsWithin 1 (input_count arch.pins) MAX_INPUTS
  pub outputs : output_count arch.pins ≡ arch.cluster_size
  pub clocks : clock_count arch.pins ≡ 1
  pub sides : All (λ pin. has_side pin.sides ≡ true) arch.pins

-- the architecture that the lines describe if they have no fault
abbrev pub arch_from : List JoinedLine → ℕ → Arch
arch_from lines tracks = record {
  io_rat = whole_at IoRat lines;
  pins = pins_of lines;
  cluster_size = whole_at SubblocksPerClb lines;
  lut_size = whole_at SubblockLutSize lines;
  tracks = tracks;
  fc_output = reach (is_fractional lines) (decimal_at FcOutput lines) tracks;
  fc_input = reach (is_fractional lines) (decimal_at FcInput lines) tracks;
  fc_pad = reach (is_fractional lines) (decimal_at FcPad lines) tracks;
}

-- the architecture of the lines, or the least of all their faults
abbrev pub arch_of_lines : Result (List JoinedLine) LineFault → ℕ → Result Arch ArchFault
arch_of_lines (Err fault) tracks = Err (fault_of_lines fault)
arch_of_lines (Ok lines) tracks = option_map_or Err (least_fault (faults_after [] lines)) (Ok (arch_from lines tracks))

-- the architecture of a text for this many tracks, or its least fault
unfoldable pub arch_of : List ℕ → ℕ → Result Arch ArchFault
arch_of text tracks =
    if nat_lt MAX_TEXT (length text) then Err (record { line = 0; kind = OverLimit }) else arch_of_lines (lines_of text) tracks
