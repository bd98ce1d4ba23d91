-- Private: what the code stores of the lines that it has read.
use Rattle.std.specs.Prelude.{ℕ, ◌≡◌, ◌≤◌, ◌+◌, ◌||◌, Bool, true, false, List, [], ◌∷◌, ◌++◌, length, slice_index_or, Option, Some, None, is_some, nat_lt, All, Result, Ok, Err, if◌then◌else◌}
use Rattle.std.specs.Option.{option_or, option_to_list}
use Rattle.arch_file.specs.declared.arch.TheConstants.{MAX_CLUSTER_SIZE, MAX_INPUTS, MAX_LUT_SIZE}
use Rattle.line_text.specs.LeastFault.{least_fault}
use Rattle.line_text.specs.Lines.{JoinedLine}
use Rattle.line_text.specs.TextErrors.{Fails}
use Rattle.line_text.specs.declared.text_error.TextError.{TextError}
use Rattle.line_text.specs.declared.text_error.TextError.TheVariants.{NoMemory, Fault}
use Rattle.arch_file.specs.declared.arch.Arch.{Arch}
use Rattle.arch_file.specs.declared.arch.Pin.{Pin}
use Rattle.arch_file.specs.declared.draft.Draft.{Draft}
use Rattle.arch_file.specs.declared.fault.ArchKeyword.{ArchKeyword}
use Rattle.arch_file.specs.declared.fault.ArchKeyword.TheVariants.{IoRat, SubblocksPerClb, SubblockLutSize, FcType, FcOutput, FcInput, FcPad}
use Rattle.arch_file.specs.declared.fault.ArchFault.{ArchFault}
use Rattle.arch_file.specs.declared.fault.ArchFaultKind.{ArchFaultKind}
use Rattle.arch_file.specs.Arch.{IsArch, arch_from}
use Rattle.arch_file.specs.ArchFaults.{end_faults, faults_after, faults_of, found_at, keyword_faults, pin_after, pins_of, words_at}
use Rattle.arch_file.specs.Readings.{least_kind}
use Rattle.arch_file.specs.FcTypes.{is_fractional_type}
use Rattle.arch_file.specs.Pins.{clock_count, has_side, input_count, is_clock_class, is_input_class}
use Rattle.arch_file.specs.Values.{decimal_from, is_fractional_from, whole_from}
use Rattle.arch_file.specs.Ranks.{rank_of}
use Rattle.arch_file.specs.Words.{same_keyword}

-- if the number was given, it is from 1 to the limit
abbrev pub IsLimited : Bool → ℕ → ℕ → Type 0
IsLimited is_there number limit = is_there ≡ true → (1 ≤ number) × (number ≤ limit)

-- the draft holds the values of these words after keywords, and these pins
pub record Follows (draft : Draft) (found : ArchKeyword → Option (List (List ℕ))) (seen : List Pin) : Type 0 where
  pub ranks : length draft.stands ≡ 14
  pub stands : (keyword : ArchKeyword) → slice_index_or draft.stands (rank_of keyword) false ≡ is_some (found keyword)
  pub io_rat : draft.io_rat ≡ whole_from (found IoRat)
  pub cluster_size : draft.cluster_size ≡ whole_from (found SubblocksPerClb)
  pub lut_size : draft.lut_size ≡ whole_from (found SubblockLutSize)
  pub fc_type : is_fractional_type draft.fc_type ≡ is_fractional_from (found FcType)
  pub fc_output : draft.fc_output ≡ decimal_from (found FcOutput)
  pub fc_input : draft.fc_input ≡ decimal_from (found FcInput)
  pub fc_pad : draft.fc_pad ≡ decimal_from (found FcPad)
  pub pins : draft.pins.items ≡ seen
  pub inputs : draft.inputs ≡ input_count seen
  pub clock : draft.has_clock ≡ nat_lt 0 (clock_count seen)
  pub io_rat_limit : IsLimited (is_some (found IoRat)) draft.io_rat 8
  pub cluster_limit : IsLimited (is_some (found SubblocksPerClb)) draft.cluster_size MAX_CLUSTER_SIZE
  pub lut_limit : IsLimited (is_some (found SubblockLutSize)) draft.lut_size MAX_LUT_SIZE
  pub inputs_limit : input_count seen ≤ MAX_INPUTS
  pub clock_limit : clock_count seen ≤ 1
  pub sides : All (λ pin. has_side pin.sides ≡ true) seen

-- the draft holds the values of these lines
abbrev pub FollowsLines : Draft → List JoinedLine → Type 0
FollowsLines draft before = Follows draft (λ keyword. words_at keyword before) (pins_of before)

-- the new draft has the value of the words after the keyword; everything else is unchanged
pub record Sets (old : Draft) (keyword : ArchKeyword) (words : List (List ℕ)) (new : Draft) : Type 0 where
  pub stands : new.stands ≡ old.stands
  pub io_rat : new.io_rat ≡ (if same_keyword IoRat keyword then whole_from (Some words) else old.io_rat)
  pub cluster_size : new.cluster_size ≡ (if same_keyword SubblocksPerClb keyword then whole_from (Some words) else old.cluster_size)
  pub lut_size : new.lut_size ≡ (if same_keyword SubblockLutSize keyword then whole_from (Some words) else old.lut_size)
  pub fc_type : is_fractional_type new.fc_type ≡ (if same_keyword FcType keyword then is_fractional_from (Some words) else is_fractional_type old.fc_type)
  pub fc_output : new.fc_output ≡ (if same_keyword FcOutput keyword then decimal_from (Some words) else old.fc_output)
  pub fc_input : new.fc_input ≡ (if same_keyword FcInput keyword then decimal_from (Some words) else old.fc_input)
  pub fc_pad : new.fc_pad ≡ (if same_keyword FcPad keyword then decimal_from (Some words) else old.fc_pad)
  pub pins : new.pins.items ≡ old.pins.items
  pub inputs : new.inputs ≡ old.inputs
  pub clock : new.has_clock ≡ old.has_clock
  pub io_rat_limit : IsLimited (same_keyword IoRat keyword) new.io_rat 8
  pub cluster_limit : IsLimited (same_keyword SubblocksPerClb keyword) new.cluster_size MAX_CLUSTER_SIZE
  pub lut_limit : IsLimited (same_keyword SubblockLutSize keyword) new.lut_size MAX_LUT_SIZE

-- the new draft has one more pin; everything else is unchanged
pub record AddsPin (old : Draft) (pin : Pin) (new : Draft) : Type 0 where
  pub stands : new.stands ≡ old.stands
  pub io_rat : new.io_rat ≡ old.io_rat
  pub cluster_size : new.cluster_size ≡ old.cluster_size
  pub lut_size : new.lut_size ≡ old.lut_size
  pub fc_type : new.fc_type ≡ old.fc_type
  pub fc_output : new.fc_output ≡ old.fc_output
  pub fc_input : new.fc_input ≡ old.fc_input
  pub fc_pad : new.fc_pad ≡ old.fc_pad
  pub pins : new.pins.items ≡ old.pins.items ++ pin ∷ []
  pub inputs : new.inputs ≡ old.inputs + (if is_input_class pin.class then 1 else 0)
  pub clock : new.has_clock ≡ (old.has_clock || is_clock_class pin.class)

-- the words after each keyword, with one more line that begins with a keyword
abbrev pub found_with : (ArchKeyword → Option (List (List ℕ))) → ArchKeyword → List (List ℕ) → ArchKeyword → Option (List (List ℕ))
found_with found keyword words other = option_or (found other) (if same_keyword other keyword then Some words else None)

-- what reading the words after a keyword may return, after the lines before it
abbrev pub ReadsKeyword : List JoinedLine → ArchKeyword → List (List ℕ) → Result (Unit {0}) (TextError ArchFaultKind) → Draft → Type 0
ReadsKeyword before keyword words (Ok done) new =
    (keyword_faults before keyword words ≡ [])
    × Follows new (found_with (λ other. words_at other before) keyword words) (pins_of before ++ option_to_list (pin_after (Some keyword) words))
ReadsKeyword before keyword words (Err error) new = Fails (least_kind (keyword_faults before keyword words)) error

-- what reading a line may return, after the lines before it
abbrev pub Reads : List JoinedLine → JoinedLine → Result (Unit {0}) (TextError ArchFaultKind) → Draft → Type 0
Reads before line (Ok done) new = (faults_of before line.words ≡ []) × FollowsLines new (before ++ line ∷ [])
Reads before line (Err error) new = Fails (least_kind (faults_of before line.words)) error

-- what the end of these lines may return
abbrev pub Ends : List JoinedLine → ℕ → Result Arch ArchFaultKind → Type 0
Ends lines tracks (Ok arch) = (end_faults lines ≡ []) × (arch ≡ arch_from lines tracks) × IsArch arch
Ends lines tracks (Err kind) = least_kind (end_faults lines) ≡ Some kind

-- the error of a line, as an error of the text
abbrev pub error_at : ℕ → TextError ArchFaultKind → TextError ArchFault
error_at line NoMemory = NoMemory
error_at line (Fault kind) = Fault (record { line = line; kind = kind })

-- what reading these lines may return
abbrev pub ReadsAll : List JoinedLine → Result Draft (TextError ArchFault) → Type 0
ReadsAll lines (Ok draft) = FollowsLines draft lines × (faults_after [] lines ≡ found_at true 0 (end_faults lines))
ReadsAll lines (Err error) = Fails (least_fault (faults_after [] lines)) error
