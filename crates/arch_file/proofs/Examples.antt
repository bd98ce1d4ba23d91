-- The definitions, computed on small cases.
use Rattle.arch_file.proofs.Prelude.{◌≡◌, ℕ, List, [], ◌∷◌, Some, Ok, Err, refl, codes, take, true, false, lit<, decimal_digit, JoinedLine, arch_of_lines, faults_after, faults_of, least_fault, printed_fault, pin_in, pin_line_faults, segment_faults, reach, value_faults, is_unread, keyword_of, Input, Output, Clock, BadClass, BadNumber, BadSide, Missing, NotProfile, OverLimit, Repeated, Unknown}
use Rattle.arch_file.specs.declared.fault.ArchKeyword.TheVariants as keywords

abbrev line : ℕ → List (List ℕ) → JoinedLine
line number words = record { number = number; words = words }

-- the smallest architecture
small : List JoinedLine
small =
    line 1 (codes "io_rat" ∷ codes "2" ∷ [])
    ∷ line 2 (codes "chan_width_io" ∷ codes "1" ∷ [])
    ∷ line 3 (codes "chan_width_x" ∷ codes "uniform" ∷ codes "1" ∷ [])
    ∷ line 4 (codes "chan_width_y" ∷ codes "uniform" ∷ codes "1" ∷ [])
    ∷ line 5 (codes "inpin" ∷ codes "class:" ∷ codes "0" ∷ codes "bottom" ∷ [])
    ∷ line 6 (codes "inpin" ∷ codes "class:" ∷ codes "0" ∷ codes "left" ∷ [])
    ∷ line 7 (codes "outpin" ∷ codes "class:" ∷ codes "1" ∷ codes "top" ∷ [])
    ∷ line 8 (codes "inpin" ∷ codes "class:" ∷ codes "2" ∷ codes "global" ∷ codes "top" ∷ [])
    ∷ line 9 (codes "subblocks_per_clb" ∷ codes "1" ∷ [])
    ∷ line 10 (codes "subblock_lut_size" ∷ codes "2" ∷ [])
    ∷ line 11 (codes "Fc_type" ∷ codes "fractional" ∷ [])
    ∷ line 12 (codes "Fc_output" ∷ codes "1" ∷ [])
    ∷ line 13 (codes "Fc_input" ∷ codes "1" ∷ [])
    ∷ line 14 (codes "Fc_pad" ∷ codes "1" ∷ [])
    ∷ line 15 (codes "switch_block_type" ∷ codes "subset" ∷ [])
    ∷ line 16 (codes "segment" ∷ codes "frequency:" ∷ codes "1" ∷ codes "length:" ∷ codes "1" ∷ codes "wire_switch:" ∷ codes "0" ∷ codes "opin_switch:" ∷ codes "0" ∷ codes "Frac_cb:" ∷ codes "1." ∷ codes "Frac_sb:" ∷ codes "1." ∷ codes "Rmetal:" ∷ codes "4.16" ∷ codes "Cmetal:" ∷ codes "81e-15" ∷ [])
    ∷ line 17 (codes "switch" ∷ codes "0" ∷ codes "buffered:" ∷ codes "yes" ∷ codes "R:" ∷ codes "786.9" ∷ codes "Cin:" ∷ codes "7.512e-15" ∷ codes "Cout:" ∷ codes "10.762e-15" ∷ codes "Tdel:" ∷ codes "456e-12" ∷ []) ∷ []

missing_is_told : printed_fault (record { line = 0; kind = Missing keywords.IoRat }) ≡ codes "3 Missing 0"
missing_is_told = rw (decimal_digit 3 (lit< tt), decimal_digit 0 (lit< tt)) refl

-- each fault in its line
nothing_is_wrong : faults_of [] (codes "io_rat" ∷ codes "8" ∷ []) ≡ []
unfolding keyword_of value_faults
nothing_is_wrong = refl

above_the_limit : faults_of [] (codes "io_rat" ∷ codes "9" ∷ []) ≡ OverLimit ∷ []
unfolding keyword_of value_faults
above_the_limit = refl

not_a_number : faults_of [] (codes "io_rat" ∷ codes "0" ∷ []) ≡ BadNumber ∷ []
unfolding keyword_of value_faults
not_a_number = refl

twice_and_not_a_number : faults_of (line 1 (codes "io_rat" ∷ codes "2" ∷ []) ∷ []) (codes "io_rat" ∷ []) ≡ Repeated ∷ BadNumber ∷ []
unfolding keyword_of value_faults
twice_and_not_a_number = refl

another_width : faults_of [] (codes "chan_width_x" ∷ codes "gaussian" ∷ []) ≡ NotProfile keywords.ChanWidthX ∷ []
unfolding keyword_of value_faults
another_width = refl

no_class : faults_of [] (codes "inpin" ∷ codes "0" ∷ codes "top" ∷ []) ≡ Unknown ∷ []
unfolding keyword_of pin_line_faults
no_class = refl

class_and_side : faults_of [] (codes "inpin" ∷ codes "class:" ∷ codes "0" ∷ codes "global" ∷ codes "north" ∷ []) ≡ BadClass ∷ BadSide ∷ []
unfolding keyword_of pin_line_faults
class_and_side = refl

side_twice : faults_of [] (codes "inpin" ∷ codes "class:" ∷ codes "0" ∷ codes "top" ∷ codes "top" ∷ []) ≡ BadSide ∷ []
unfolding keyword_of pin_line_faults
side_twice = refl

not_read : faults_of [] (codes "R_minW_nmos" ∷ codes "4220" ∷ []) ≡ []
unfolding keyword_of is_unread
not_read = refl

-- the least of all faults of two lines and of the end
least_of_all : least_fault (faults_after [] (line 3 (codes "io_rat" ∷ codes "9" ∷ []) ∷ line 4 (codes "wire" ∷ []) ∷ [])) ≡ Some (record { line = 3; kind = OverLimit })
unfolding keyword_of value_faults is_unread
least_of_all = refl

no_lines : least_fault (faults_after [] []) ≡ Some (record { line = 0; kind = Missing keywords.IoRat })
no_lines = refl

-- the least fault of an incomplete text, and the value of a complete one
a_part : arch_of_lines (Ok (take 15 small)) 2 ≡ Err (record { line = 0; kind = Missing keywords.Segment })
unfolding small keyword_of value_faults pin_line_faults pin_in segment_faults is_unread
a_part = refl

the_whole : arch_of_lines (Ok small) 3 ≡ Ok (record {
  io_rat = 2;
  pins =
      record { class = Input; sides = record { top = false; bottom = true; left = false; right = false } }
      ∷ record { class = Input; sides = record { top = false; bottom = false; left = true; right = false } }
      ∷ record { class = Output; sides = record { top = true; bottom = false; left = false; right = false } }
      ∷ record { class = Clock; sides = record { top = true; bottom = false; left = false; right = false } } ∷ [];
  cluster_size = 1;
  lut_size = 2;
  tracks = 3;
  fc_output = 3;
  fc_input = 3;
  fc_pad = 3;
})
unfolding small keyword_of value_faults pin_line_faults pin_in segment_faults is_unread
the_whole = refl

-- half of five tracks are two; a fraction below one track is rounded up to one; at most all tracks
half_of_five : reach true 500000 5 ≡ 2
half_of_five = refl

at_least_one : reach false 0 5 ≡ 1
at_least_one = refl

at_most_all : reach false 7900000 5 ≡ 5
at_most_all = refl
