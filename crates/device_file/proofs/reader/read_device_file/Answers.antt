use Rattle.device_file.proofs.Prelude.{◌≡◌, ◌+◌, ◌≤◌, ◌<◌, ◌==◌, ℕ, List, [], ◌∷◌, None, Ok, map, length, length-drop, ap, sym, subst, ◌∙◌, rules, arith, option_map, position_or_len, nil_from_length, physical_lines, Read, all_values, lines_read, values_at_end, values_in, read_of, unfinished_of, nothing_read, given_of, OptionValue}
use Rattle.device_file.proofs.Steps.{at_end, line_refused, line_taken, no_lines, same_error, value_missing}
use Rattle.device_file.proofs.reader.read_device_file.Goals as goal

pub loop-rest-init : goal.loop-rest-init
loop-rest-init c = record {
  whole = sym (ap (λ (values : List OptionValue). lines_read (physical_lines c.args.text.now) (let read : Read = record { values = map given_of values; awaited = None } in read) 0) c.new.ensures.items);
  few = omega arith;
}

pub returns-in-Err : goal.returns-in-Err
unfolding values_in
returns-in-Err c =
    let read = read_of c.loop-rest.reader in
    let lines : physical_lines c.loop-rest.rest.now ≡ c.split_line.result.0.now ∷ physical_lines c.split_line.result.1.now = c.split_line.ensures.lines (search rules) in
    at_end _ c.in-Err.error (same_error _ _ c.in-Err.error (c.loop-rest.invariant.whole ∙ ap (λ ls. lines_read ls read c.loop-rest.number) lines) (line_refused read c.loop-rest.number _ _ c.in-Err.error c.in-Err.ensures))

pub loop-rest-preserved : goal.loop-rest-preserved
loop-rest-preserved c =
    let read = read_of c.loop-rest.reader in
    let lines : physical_lines c.loop-rest.rest.now ≡ c.split_line.result.0.now ∷ physical_lines c.split_line.result.1.now = c.split_line.ensures.lines (search rules) in
    record {
      whole = c.loop-rest.invariant.whole ∙ ap (λ ls. lines_read ls read c.loop-rest.number) lines ∙ line_taken read (read_of c.line.new.self) c.loop-rest.number _ _ c.in_default.ensures;
      few = (
          let some : 0 < length c.loop-rest.rest.now = search rules in
          let less : length c.split_line.result.1.now < length c.loop-rest.rest.now = subst (λ (later : List ℕ). length later < length c.loop-rest.rest.now) (sym c.split_line.ensures.later) (omega (arith, length-drop (position_or_len (λ byte. byte == 10) c.loop-rest.rest.now + 1) c.loop-rest.rest.now)) in
          omega (arith, c.loop-rest.invariant.few)
          );
    }

-- after the last line, its reading is at its end
all_read : (text rest : List ℕ) (read : Read) (number : ℕ) → lines_read (physical_lines text) nothing_read 0 ≡ lines_read (physical_lines rest) read number → rest ≡ [] → lines_read (physical_lines text) nothing_read 0 ≡ Ok read
all_read text rest read number whole none = whole ∙ ap (λ bytes. lines_read (physical_lines bytes) read number) none ∙ no_lines read number

pub returns-in-Some : goal.returns-in-Some
unfolding values_in
returns-in-Some c =
    let read = read_of c.loop-rest.reader in
    let all = all_read c.args.text.now c.loop-rest.rest.now read c.loop-rest.number c.loop-rest.invariant.whole (nil_from_length c.loop-rest.rest.now (search rules)) in
    same_error _ _ c.refusal.result (ap values_at_end all ∙ ap (λ awaited. all_values read.values (option_map unfinished_of awaited)) c.in-Some.is) (value_missing read.values (unfinished_of c.in-Some.awaited) c.refusal.result c.refusal.ensures)

pub returns : goal.returns
unfolding values_in
returns c =
    let read = read_of c.loop-rest.reader in
    let all = all_read c.args.text.now c.loop-rest.rest.now read c.loop-rest.number c.loop-rest.invariant.whole (nil_from_length c.loop-rest.rest.now (search rules)) in
    ap values_at_end all ∙ ap (λ awaited. all_values read.values (option_map unfinished_of awaited)) c.in-None.is
