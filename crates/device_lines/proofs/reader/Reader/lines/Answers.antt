use Rattle.device_lines.proofs.Prelude.{◌≡◌, List, ℕ, ap, ◌∙◌, option_map, later_lines, lines_of, lines_read, seen_of}
use Rattle.device_lines.proofs.ReadLemmas.{line_first, line_refused, none_left}
use Rattle.device_lines.proofs.reader.Reader.lines.Goals as goal

pub returns-in-Err : goal.returns-in-Err
returns-in-Err c =
    let seen = seen_of c.loop-rest.self in
    let number = c.loop-rest.lines in
    let first : lines_read (later_lines (option_map (λ rest. rest.now) c.loop-rest.rest)) seen number ≡ lines_read (lines_of c.in-Some.bytes.now) seen number =
    ap (λ o. lines_read (later_lines (option_map (λ rest. rest.now) o)) seen number) c.in-Some.is in
    let whole = c.loop-rest.invariant ∙ first ∙ ap (λ (ls : List (List ℕ)). lines_read ls seen number) c.next_line.ensures.lines in
    rw (whole, c.at_line.ensures) (line_refused seen (seen_of c.line.new.self) number c.saturating_add-lines.result c.next_line.result.0.now (later_lines (option_map (λ rest. rest.now) c.next_line.result.1)) c.in-Err.refusal c.saturating_add-lines.ensures c.in-Err.ensures)

pub loop-rest-preserved : goal.loop-rest-preserved
loop-rest-preserved c =
    let seen = seen_of c.loop-rest.self in
    let number = c.loop-rest.lines in
    let first : lines_read (later_lines (option_map (λ rest. rest.now) c.loop-rest.rest)) seen number ≡ lines_read (lines_of c.in-Some.bytes.now) seen number =
    ap (λ o. lines_read (later_lines (option_map (λ rest. rest.now) o)) seen number) c.in-Some.is in
    c.loop-rest.invariant ∙ first ∙ ap (λ (ls : List (List ℕ)). lines_read ls seen number) c.next_line.ensures.lines
    ∙ line_first seen (seen_of c.line.new.self) number c.saturating_add-lines.result c.next_line.result.0.now (later_lines (option_map (λ rest. rest.now) c.next_line.result.1)) c.saturating_add-lines.ensures c.in_default-line.ensures

pub returns : goal.returns
returns c =
    let seen = seen_of c.loop-rest.self in
    let number = c.loop-rest.lines in
    c.loop-rest.invariant ∙ ap (λ o. lines_read (later_lines (option_map (λ rest. rest.now) o)) seen number) c.in_default.is ∙ none_left seen number
